-- What each instruction of the table keeps.
use Rattle.std.proofs.Common.{ℕ, ◌<◌, arith, refl}
use Rattle.insn_decode.specs.declared.insn.Operand.{Operand}
use Rattle.insn_decode.specs.declared.insn.Insn.{Insn}
use Rattle.insn_decode.specs.Code.{HasParts, HasForm, IsDecoded}
use Rattle.insn_decode.specs.Means.{Source, register, symbolic, absolute, indexed, indirect, increment, immediate, Destination, to_register, to_symbolic, to_absolute, to_indexed, Means, format_one, format_two, jump, return, unit}
use Rattle.insn_decode.proofs.Table.{insn_means}

source_parts : {m r x : ℕ} {o : Operand} → r < 16 → Source m r x o → HasParts o
source_parts h (register r x ne) = h
source_parts h (symbolic x) = tt
source_parts h (absolute x) = tt
source_parts h (indexed r x p) = h
source_parts h (indirect r x p) = h
source_parts h (increment r x p) = h
source_parts h (immediate x) = tt
source_parts h _ = refl

destination_parts : {m r x : ℕ} {o : Operand} → r < 16 → Destination m r x o → HasParts o
destination_parts h (to_register r x) = h
destination_parts h (to_symbolic x) = tt
destination_parts h (to_absolute x) = tt
destination_parts h (to_indexed r x p) = h

pub means_form : {w0 w1 w2 : ℕ} {insn : Insn} {n : ℕ} → Means w0 w1 w2 insn n → HasForm insn
means_form {w0} (format_one op s d c src dst) = (source_parts (omega arith) src, destination_parts (omega arith) dst)
means_form {w0} (format_two op a h c src fits) = (source_parts (omega arith) src, fits)
means_form (jump condition h k) = tt
means_form (return h) = tt
means_form (unit name h) = tt

pub decoded_form : (insn : Insn) → IsDecoded insn → HasForm insn
decoded_form insn d = means_form (insn_means d.first d.second d.third insn d.means)

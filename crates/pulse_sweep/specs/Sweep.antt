-- A sweep: a row for each pulse, and in how many of them the traces are the same.
use Rattle.std.specs.Prelude.{ℕ, ◌+◌, ◌-◌, List, [], ◌∷◌, ◌++◌, codes, Bool, not}
use Rattle.std.specs.Fmt.{decimal}
use Rattle.std.specs.List.{count_by, flat_map, range_with_len}
use Rattle.std.specs.Str.{bytes_eq}
use Rattle.image_text.specs.Image.{Image}
use Rattle.schedule_file.specs.declared.Entry.{Entry}
use Rattle.schedule_file.specs.declared.What.TheVariants.{Up}
use Rattle.written_machine.specs.Trace.{trace}
use Rattle.written_machine.specs.View.{boot}
use Rattle.pulse_sweep.specs.Columns.{columns_after}
use Rattle.pulse_sweep.specs.Rows.{columns_text, ending}
use Rattle.pulse_sweep.specs.declared.columns.Columns.{Columns}
use Rattle.pulse_sweep.specs.declared.Pulses.{Pulses}

-- the schedule of a pulse in cycle c alone
abbrev pub lone_pulse : ℕ → ℕ → List Entry
lone_pulse line c = record { cycle = c; what = Up line } ∷ []

-- the trace of an image with that pulse
unfoldable pub trace_at : Pulses → Image → ℕ → List ℕ
trace_at p image c = trace image (lone_pulse p.line c) p.cycles

-- what its run says of that pulse
unfoldable pub columns_at : Pulses → Image → ℕ → Columns
columns_at p image c = columns_after c (boot image (lone_pulse p.line c)) p.cycles

-- the row of that pulse
unfoldable pub row_at : Pulses → Image → Image → ℕ → List ℕ
row_at p a b c = columns_text c (columns_at p a c) (columns_at p b c) ++ ending (trace_at p a c) (trace_at p b c)

-- whether it says `same`
abbrev pub is_same_at : Pulses → Image → Image → ℕ → Bool
is_same_at p a b c = bytes_eq (trace_at p a c) (trace_at p b c)

-- the cycles of the pulses
abbrev pub pulse_cycles : Pulses → List ℕ
pulse_cycles p = range_with_len p.from (p.to + 1 - p.from)

-- how many rows say that the traces differ
abbrev pub different : Pulses → Image → Image → ℕ
different p a b = count_by (λ c. not (is_same_at p a b c)) (pulse_cycles p)

-- `end S same D different`
unfoldable pub sweep_end_text : ℕ → ℕ → List ℕ
sweep_end_text same other = codes "end " ++ decimal same ++ codes " same " ++ decimal other ++ codes " different\n"

abbrev pub sweep_text : Pulses → Image → Image → List ℕ
sweep_text p a b = flat_map (row_at p a b) (pulse_cycles p) ++ sweep_end_text (count_by (is_same_at p a b) (pulse_cycles p)) (different p a b)

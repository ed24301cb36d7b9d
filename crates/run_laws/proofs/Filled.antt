-- The memory stays a list of 65,536 bytes.
use Rattle.std.proofs.Common.{◌≡◌, ◌≢◌, ℕ, zero, suc, ◌+◌, ◌/◌, ◌%◌, ◌<◌, List, [], ◌∷◌, length, get_or, set, length-set, get_or-set_same, get_or-set_other, refl, sym, ◌∙◌, subst, arith, Bool, true, false, nat_lt, ◌==◌, ⊎_elim}
use Rattle.attest.specs.Accesses.{reads_of, writes_of}
use Rattle.cpu_step.specs.Asked.{asks, effect}
use Rattle.image_text.specs.Image.{Image, IsImage}
use Rattle.insn_decode.specs.declared.insn.Insn.{Insn}
use Rattle.mod_layout.specs.Table.{size_of}
use Rattle.pc_access.specs.declared.Access.{Access}
use Rattle.schedule_file.specs.declared.Entry.{Entry as Scheduled}
use Rattle.sm_words.specs.Words.{cleared, reg}
use Rattle.sm_words.specs.declared.width.Width.{Width}
use Rattle.sm_words.specs.declared.width.Width.TheVariants.{Byte, Word}
use Rattle.std.proofs.lemmas.Bool.{cases_lt}
use Rattle.std.proofs.lemmas.Bool.Decides.{nat_tests}
use Rattle.std.proofs.lemmas.List.{set_past}
use Rattle.written_machine.specs.Cycle.{settle, ticked, arrive_inside, pushes, port_of, who_of, perform, enter}
use Rattle.written_machine.specs.Ports.{Port, write_in, write_byte, write_width, take_reads, put_writes}
use Rattle.written_machine.specs.State.{State}
use Rattle.written_machine.specs.View.{at}
use Rattle.run_laws.proofs.Bytes.{length_cleared}
use Rattle.run_laws.proofs.Ports.{take_reads_memory}
use Rattle.run_laws.proofs.Ways.{Lasting, always, enter_ways, settle_ways}

pub record Filled (mem : List ℕ) : Type 0 where
  pub full : length mem ≡ 65536
  pub bytes : (a : ℕ) → get_or mem a 0 < 256

abbrev pub Kept : State → State → Type 0
Kept s t = Filled s.memory → Filled t.memory

set_byte : (mem : List ℕ) (a v x : ℕ) (c : Bool) → (x == a) ≡ c → v < 256 → get_or mem x 0 < 256 → get_or (set mem a v) x 0 < 256
set_byte mem a v x false e lt h = let ne : a ≢ x = (λ k. let f : x ≢ a = grind (arith, nat_tests) in f (sym k)) in subst (λ y. y < 256) (sym (get_or-set_other mem a x v 0 (λ k. ne (sym k)))) h
set_byte mem a v x true e lt h =
    let k : x ≡ a = grind (arith, nat_tests) in
    ⊎_elim
    (λ i. subst (λ y. get_or (set mem a v) y 0 < 256) (sym k) (subst (λ y. y < 256) (sym (get_or-set_same mem a v 0 i)) lt))
    (λ o. subst (λ l. get_or l x 0 < 256) (sym (set_past mem a v o)) h)
    (cases_lt a (length mem))

written : (mem : List ℕ) (a v : ℕ) → v < 256 → Filled mem → Filled (set mem a v)
written mem a v lt h = record { full = length-set mem a v ∙ h.full; bytes = λ x. set_byte mem a v x (x == a) refl lt (h.bytes x) }

-- ---- clearing and ports
cleared_byte : (lo n : ℕ) (mem : List ℕ) → ((a : ℕ) → get_or mem a 0 < 256) → (a : ℕ) → get_or (cleared lo n mem) a 0 < 256
cleared_byte zero (suc n) (x ∷ xs) h zero = omega arith
cleared_byte zero (suc n) (x ∷ xs) h (suc a) = cleared_byte zero n xs (λ b. h (suc b)) a
cleared_byte (suc lo) (suc n) (x ∷ xs) h zero = h zero
cleared_byte (suc lo) (suc n) (x ∷ xs) h (suc a) = cleared_byte lo (suc n) xs (λ b. h (suc b)) a
cleared_byte lo _ _ h a = h a

write_in_filled : (b : Bool) (p : Port) (a v : ℕ) → v < 256 → Filled p.memory → Filled (write_in b p a v).memory
write_in_filled true p a v lt h = h
write_in_filled false p a v lt h = written p.memory a v lt h

write_filled : (w : Width) (p : Port) (a v : ℕ) → Filled p.memory → Filled (write_width w p a v).memory
write_filled Byte p a v h = write_in_filled (nat_lt a 512) p a (v % 256) (omega arith) h
write_filled Word p a v h =
    write_in_filled (nat_lt (a + 1) 512) (write_byte p a (v % 256)) (a + 1) (v / 256 % 256) (omega arith) (write_in_filled (nat_lt a 512) p a (v % 256) (omega arith) h)

puts_filled : (xs : List Access) (p : Port) (vs : List ℕ) → Filled p.memory → Filled (put_writes p xs vs).memory
puts_filled (x ∷ xs) p (v ∷ vs) h = puts_filled xs (write_width x.width p x.addr v) vs (write_filled x.width p x.addr v h)
puts_filled _ p _ h = h

-- ---- an instruction
perform_filled : (insn : Insn) (s : State) → Kept s (perform insn s).state
unfolding perform
perform_filled insn s h =
    let xs = asks (who_of s) insn s.core in
    let g = take_reads (port_of s) (reads_of xs) in
    let e = effect (who_of s) insn s.core g.value in
    puts_filled (writes_of xs) g.port e.stored (subst Filled (sym (take_reads_memory 0 0 (reads_of xs) (port_of s))) h)

pub enter_filled : (left : ℕ) (s : State) → Kept s (enter left s).state
enter_filled left s = enter_ways s (λ t. Kept s t.state) left (λ h. h) (λ id p a h. h)

-- ---- settling
pub settle_filled : (s : State) → Kept s (settle s).state
settle_filled s = settle_ways s (λ u. Kept s u.state) (λ h. h) (λ b fs e h. h) (λ id x a o h. record { full = length_cleared x.ram.start (size_of x.ram) s.memory ∙ h.full; bytes = cleared_byte x.ram.start (size_of x.ram) s.memory h.bytes }) (λ e h. h) (λ id a h. h)

pub ticked_filled : (s : State) → Kept s (ticked s)
unfolding ticked
ticked_filled s h = h

lasts : Lasting (λ s. Filled s.memory)
unfolding arrive_inside
lasts = record {
  rests = λ s d n p o h. h;
  performs = perform_filled;
  returns = λ s h. h;
  resumes = λ s e h. h;
  enters = λ left id s free p a h. h;
  pads = λ n s h. h;
  inside = λ v id s d a h. h;
  pushes = λ v s d h. puts_filled (pushes s) (port_of s) (reg s.core 0 ∷ reg s.core 2 ∷ []) h;
  settles = settle_filled;
}

pub filled_at : (a : Image) (schedule : List Scheduled) (k : ℕ) → IsImage a → Filled (at a schedule k).memory
filled_at a schedule k ok = always (λ s. Filled s.memory) lasts a schedule k (record { full = ok.full; bytes = ok.bytes })

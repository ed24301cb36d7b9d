-- Inside a module GIE stays.
use Rattle.attest.specs.Units.{Doer, next}
use Rattle.cpu_step.specs.Asked.{effect}
use Rattle.cpu_step.specs.Lone.{is_alone}
use Rattle.insn_decode.specs.declared.insn.Insn.{Insn}
use Rattle.insn_decode.specs.declared.insn.Insn.TheVariants.{Two, One, Jump, Reti, Unit as UnitOp}
use Rattle.sm_words.specs.Words.{reg, put, add16, bit, kept}
use Rattle.sm_words.specs.declared.width.Width.{Width}
use Rattle.std.specs.Prelude.{ℤ}
use Rattle.std.proofs.Common.{◌≡◌, ◌≢◌, ℕ, ◌/◌, ◌%◌, ◌<◌, List, length, ap, ◌∙◌, arith, Bool, true, false, ◌==◌, length-set, get_or-set_other, get_or-set_same, is_some}
use Rattle.insn_decode.specs.declared.insn.OneOp.TheVariants.{Push, Call}
use Rattle.insn_decode.specs.declared.insn.Operand.{Operand}
use Rattle.insn_decode.specs.declared.insn.Operand.TheVariants.{Reg, Increment}
use Rattle.attest.proofs.Moved.{unit_leaves}
use Rattle.cpu_step.specs.Effect.{into_register, written, does_freely, confined, confined_sr, does, set_flags, jumps, jumped}
use Rattle.cpu_step.specs.Plan.{past, stepped, lowered, writes_dst}
use Rattle.cpu_step.specs.declared.result.Computed.{Computed}

put_other : (core : List ℕ) (n v : ℕ) → 2 ≢ n → reg (put core n v) 2 ≡ reg core 2
put_other core n v ne = get_or-set_other core n 2 (kept n v) 0 ne

-- what every write of a register keeps, every instruction keeps
module _ (P : List ℕ → Type 0) (keeps : (core : List ℕ) (n v : ℕ) → P core → P (put core n v)) where
  stepped_keeps : (w : Width) (o : Operand) (core : List ℕ) → P core → P (stepped w o core)
  stepped_keeps w (Increment r) core h = keeps core r _ h
  stepped_keeps w _ core h = h

  into_keeps : (b : Bool) (r : ℕ) (res : Computed) (core : List ℕ) → P core → P (into_register b r res core)
  into_keeps true r res core h = keeps core 2 _ h
  into_keeps false r res core h = keeps (set_flags res core) r _ (keeps core 2 _ h)

  written_keeps : (b : Bool) (o : Operand) (res : Computed) (core : List ℕ) → P core → P (written b o res core).core
  written_keeps true (Reg r) res core h =
      into_keeps (r == 2) r res core h
  written_keeps _ _ res core h = keeps core 2 _ h

  pub past_keeps : (insn : Insn) (core : List ℕ) → P core → P (past insn core)
  past_keeps insn core h = keeps core 0 _ h

  jumped_keeps : (b : Bool) (o : ℤ) (core : List ℕ) → P core → P (jumped b o core)
  jumped_keeps true o core h = keeps core 0 _ h
  jumped_keeps false o core h = h

  freely_keeps : (insn : Insn) (core values : List ℕ) → P core → P (does_freely insn core values).core
  unfolding does_freely
  freely_keeps (Two op w s d) core values h =
      written_keeps (writes_dst op) d _ (stepped w s (past (Two op w s d) core)) (stepped_keeps w s (past (Two op w s d) core) (past_keeps (Two op w s d) core h))
  freely_keeps (One Push w a) core values h = keeps (stepped w a (past (One Push w a) core)) 1 _ (stepped_keeps w a (past (One Push w a) core) (past_keeps (One Push w a) core h))
  freely_keeps (One Call w a) core values h = keeps (lowered (stepped w a (past (One Call w a) core))) 0 _ (keeps (stepped w a (past (One Call w a) core)) 1 _ (stepped_keeps w a (past (One Call w a) core) (past_keeps (One Call w a) core h)))
  freely_keeps (Jump c o) core values h = jumped_keeps (jumps c (reg core 2)) o (past (Jump c o) core) (past_keeps (Jump c o) core h)
  freely_keeps Reti core values h = keeps _ 1 _ (keeps _ 0 _ (keeps core 2 _ h))
  freely_keeps (UnitOp n) core values h = past_keeps (UnitOp n) core h
  freely_keeps (One op w a) core values h = written_keeps true a _ (stepped w a (past (One op w a) core)) (stepped_keeps w a (past (One op w a) core) (past_keeps (One op w a) core h))

  confined_keeps : (b : Bool) (old new : List ℕ) → P new → P (confined b old new)
  unfolding confined
  confined_keeps true old new h = keeps new 2 _ h
  confined_keeps false old new h = h

  does_keeps : (insn : Insn) (core values : List ℕ) (b : Bool) → P core → P (does insn core values b).core
  unfolding does
  does_keeps insn core values b h = confined_keeps b core (does_freely insn core values).core (freely_keeps insn core values h)

  pub effect_keeps : (insn : Insn) (w : Doer) (core values : List ℕ) → P core → P (effect w insn core values).core
  unfolding effect
  effect_keeps (UnitOp n) w core values h = unit_leaves core P (λ v. keeps (next core) 15 v (keeps core 0 _ h)) (keeps core 0 _ h) w n values
  effect_keeps insn w core values h = does_keeps insn core values (is_some w.own) h

confined_gie : (old new : List ℕ) → length new ≡ 16 → bit 8 (reg (confined true old new) 2) ≡ bit 8 (reg old 2)
unfolding confined
confined_gie old new len =
    let in_it : 2 < length new = omega arith in
    let v = confined_sr (reg old 2) (reg new 2) in
    let e : reg (put new 2 v) 2 ≡ v % 65536 % 512 = get_or-set_same new 2 (kept 2 v) 0 in_it in
    let f : (v % 65536 % 512 / 8) % 2 ≡ (reg old 2 / 8) % 2 = omega arith in
    ap (bit 8) e ∙ f

does_gie : (insn : Insn) (core values : List ℕ) → length core ≡ 16 → bit 8 (reg (does insn core values true).core 2) ≡ bit 8 (reg core 2)
unfolding does
does_gie insn core values len =
    confined_gie core (does_freely insn core values).core (freely_keeps (λ c. length c ≡ 16) (λ c k v h. length-set c k (kept k v) ∙ h) insn core values len)

-- GIE after an instruction of a module
pub effect_gie : (insn : Insn) (w : Doer) (core values : List ℕ) → is_alone insn ≡ true → is_some w.own ≡ true → length core ≡ 16 → bit 8 (reg (effect w insn core values).core 2) ≡ bit 8 (reg core 2)
unfolding effect
effect_gie (UnitOp n) w core values e s len =
    let same = put_other core 0 (add16 (reg core 0) 2) (λ e. absurd (omega (arith, e))) in
    unit_leaves core (λ c. bit 8 (reg c 2) ≡ bit 8 (reg core 2)) (λ v. ap (bit 8) (put_other (next core) 15 v (λ e. absurd (omega (arith, e))) ∙ same))
    (ap (bit 8) same) w n values
effect_gie Reti w core values e s len = cc
effect_gie insn w core values e s len = rw s (does_gie insn core values len)

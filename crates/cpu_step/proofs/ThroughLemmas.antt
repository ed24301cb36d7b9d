-- An instruction through a port, operand by operand: what each read and write comes to.
use Rattle.std.proofs.Common.{◌≡◌, ℕ, ◌*◌, List, [], ◌∷◌, ◌++◌, drop, refl, sym, ap, ◌∙◌, subst, append-nil, append_assoc, if◌then◌else◌, Bool, true, false, not, ◌||◌, Option, Some, None, is_some}
use Rattle.std.specs.List.{list_all}
use Rattle.std.proofs.lemmas.Bool.{not-true}
use Rattle.std.proofs.lemmas.List.Elements.{All-head, All-tail}
use Rattle.std.proofs.lemmas.List.Sums.{AllPass-from_list_all}
use Rattle.std.specs.Prelude.{IsFalse, IfSome}
use Rattle.sm_words.specs.Sums.{low}
use Rattle.sm_words.specs.Words.{reg, bit, add16}
use Rattle.sm_words.specs.declared.registers.TheConstants.{PC, SP, SR}
use Rattle.sm_words.specs.declared.status.TheConstants.{CARRY}
use Rattle.sm_words.specs.declared.width.Width.{Width}
use Rattle.insn_decode.specs.Code.{words_of}
use Rattle.insn_decode.specs.declared.insn.Insn.{Insn}
use Rattle.insn_decode.specs.declared.insn.Insn.TheVariants.{Two, One}
use Rattle.insn_decode.specs.declared.insn.OneOp.{OneOp}
use Rattle.insn_decode.specs.declared.insn.OneOp.TheVariants.{Rrc, Push, Call}
use Rattle.insn_decode.specs.declared.insn.Operand.{Operand}
use Rattle.insn_decode.specs.declared.insn.Operand.TheVariants.{Reg, Const, Imm}
use Rattle.insn_decode.specs.declared.insn.TwoOp.{TwoOp}
use Rattle.insn_decode.specs.declared.insn.TwoOp.TheVariants.{Mov}
use Rattle.pc_access.specs.Accesses.{reads_of, writes_of}
use Rattle.pc_access.specs.Rights.{misaligned}
use Rattle.pc_access.specs.declared.Access.{Access}
use Rattle.pc_access.specs.declared.Kind.TheVariants.{Read, Write}
use Rattle.cpu_step.specs.Plan.{past, place, stepped, lowered, access_if, reads_dst, writes_dst, one_writes, plan}
use Rattle.cpu_step.specs.Effect.{given, in_memory, after_given, two_result, written, one_done, set_flags, value_of, Done, does_freely}
use Rattle.cpu_step.specs.declared.result.Computed.{Computed}
use Rattle.cpu_step.specs.Through.{AreAligned, Taken, taken, stored_in}
use Rattle.cpu_step.specs.internal.Through.{freely_through, old_value}
use Rattle.cpu_step.proofs.Forms.{plan_two_form, plan_one_form, two_form, one_form}

-- a test of each
pub aligned_from : (xs : List Access) → list_all (λ x. not (misaligned x.width x.addr)) xs ≡ true → AreAligned xs
aligned_from xs e k d l = not-true _ (AllPass-from_list_all (λ x. not (misaligned x.width x.addr)) xs e k d l)

-- ---- operands

pub in_place : (o : Operand) (core : List ℕ) (ext : ℕ) (a : Option ℕ) → a ≡ place o core ext → in_memory o ≡ is_some a
in_place (Reg r) core ext a e = ap is_some (sym e)
in_place _ core ext a e = ap is_some (sym e)

-- an operand in memory gives the first value read
pub given_read : (o : Operand) (w : Width) (core : List ℕ) (v : ℕ) (rest : List ℕ) → in_memory o ≡ true → given o w core (v ∷ rest) ≡ low w v
given_read (Reg r) w core v rest e = absurd cc
given_read (Const c) w core v rest e = absurd cc
given_read (Imm x) w core v rest e = absurd cc
given_read _ w core v rest e = refl

-- a result in memory sets the flags and is stored
pub written_there : (o : Operand) (res : Computed) (core : List ℕ) → in_memory o ≡ true → written true o res core ≡ record { core = set_flags res core; stored = value_of res ∷ [] }
written_there (Reg r) res core e = absurd cc
written_there _ res core e = refl

-- ---- alignment

abbrev pub IsAligned : Width → Option ℕ → Type 0
IsAligned w a = IfSome a (λ x. IsFalse (misaligned w x))

abbrev Fits : Access → Type 0
Fits x = IsFalse (misaligned x.width x.addr)

pub first_aligned : (a : Option ℕ) (w : Width) (rest : List Access) → AreAligned (access_if true Read w a ++ rest) → IsAligned w a
first_aligned (Some x) w rest h = All-head Fits (record { kind = Read; addr = x; width = w }) rest h
first_aligned None w rest h = tt

rest_aligned : (a : Option ℕ) (w : Width) (rest : List Access) → AreAligned (access_if true Read w a ++ rest) → AreAligned rest
rest_aligned (Some x) w rest h = All-tail Fits (record { kind = Read; addr = x; width = w }) rest h
rest_aligned None w rest h = h

second_aligned : (b : Option ℕ) (r t : Bool) (w : Width) → (r || t) ≡ true → AreAligned (access_if r Read w b ++ access_if t Write w b) → IsAligned w b
second_aligned None r t w e h = tt
second_aligned (Some y) true t w e h = All-head Fits (record { kind = Read; addr = y; width = w }) (access_if t Write w (Some y)) h
second_aligned (Some y) false true w e h = All-head Fits (record { kind = Write; addr = y; width = w }) [] h
second_aligned (Some y) false false w e h = absurd cc

-- a destination is read or written
touches_dst : (op : TwoOp) → (reads_dst op || writes_dst op) ≡ true
touches_dst Mov = refl
touches_dst _ = refl

regrouped : (a b : Option ℕ) (r t : Bool) (w : Width) → (access_if true Read w a ++ access_if r Read w b) ++ access_if t Write w b ≡ access_if true Read w a ++ (access_if r Read w b ++ access_if t Write w b)
regrouped None b r t w = refl
regrouped (Some x) b r t w = refl

-- ---- reads and writes among the accesses of an instruction

read_front : (r : Bool) (w : Width) (a : Option ℕ) (xs : List Access) → reads_of (access_if r Read w a ++ xs) ≡ access_if r Read w a ++ reads_of xs
read_front true w (Some x) xs = refl
read_front _ w _ xs = refl

write_behind : (r : Bool) (w : Width) (a : Option ℕ) (xs : List Access) → writes_of (access_if r Read w a ++ xs) ≡ writes_of xs
write_behind true w (Some x) xs = refl
write_behind _ w _ xs = refl

write_alone : (t : Bool) (w : Width) (b : Option ℕ) → (reads_of (access_if t Write w b) ≡ []) × (writes_of (access_if t Write w b) ≡ access_if t Write w b)
write_alone true w (Some x) = (refl, refl)
write_alone _ w _ = (refl, refl)

two_reads : (a b : Option ℕ) (r t : Bool) (w : Width) → reads_of ((access_if true Read w a ++ access_if r Read w b) ++ access_if t Write w b) ≡ access_if true Read w a ++ access_if r Read w b
two_reads a b r t w = rw (append_assoc, read_front true w a _, read_front r w b _, (write_alone t w b).0, append-nil) refl

two_writes : (a b : Option ℕ) (r t : Bool) (w : Width) → writes_of ((access_if true Read w a ++ access_if r Read w b) ++ access_if t Write w b) ≡ access_if t Write w b
two_writes a b r t w = rw (append_assoc, write_behind true w a _, write_behind r w b _, (write_alone t w b).1) refl

one_reads : (a : Option ℕ) (op : OneOp) (w : Width) (sp : ℕ) → reads_of (access_if true Read w a ++ one_writes op w a sp) ≡ access_if true Read w a
one_reads None Rrc w sp = refl
one_reads (Some x) Rrc w sp = refl
one_reads _ _ w sp = refl

one_writes_of : (a : Option ℕ) (op : OneOp) (w : Width) (sp : ℕ) → writes_of (access_if true Read w a ++ one_writes op w a sp) ≡ one_writes op w a sp
one_writes_of None Rrc w sp = refl
one_writes_of (Some x) Rrc w sp = refl
one_writes_of _ _ w sp = refl

-- an instruction writes once at most
abbrev pub AtMostOne : List Access → Type 0
AtMostOne [] = Unit {0}
AtMostOne (x ∷ xs) = xs ≡ []

one_access : (t : Bool) (w : Width) (b : Option ℕ) → AtMostOne (access_if t Write w b)
one_access true w (Some y) = refl
one_access true w None = tt
one_access false w (Some y) = tt
one_access false w None = tt

one_put : (op : OneOp) (w : Width) (a : Option ℕ) (sp : ℕ) → AtMostOne (one_writes op w a sp)
one_put Push w a sp = refl
one_put Call w a sp = refl
one_put _ w a sp = one_access true w a

pub few_writes : (insn : Insn) (core : List ℕ) → AtMostOne (writes_of (plan insn core))
unfolding plan
few_writes (Two op w s d) core =
    let ext : ℕ = add16 (reg core PC) 2 in
    let core1 : List ℕ = past (Two op w s d) core in
    let b : Option ℕ = place d (stepped w s core1) (add16 ext (2 * words_of s)) in
    subst AtMostOne (sym (two_writes (place s core1 ext) b (reads_dst op) (writes_dst op) w)) (one_access (writes_dst op) w b)
few_writes (One op w arg) core =
    let core1 : List ℕ = past (One op w arg) core in
    let a : Option ℕ = place arg core1 (add16 (reg core PC) 2) in
    let sp : ℕ = reg (lowered (stepped w arg core1)) SP in
    subst AtMostOne (sym (one_writes_of a op w sp)) (one_put op w a sp)
few_writes _ core = tt

-- ---- through the port

module _ {S : Type 0} (answer : S → Width → ℕ → ℕ) (after_read : S → Width → ℕ → S) (after_write : S → Width → ℕ → ℕ → S) where
  abbrev Reads : S → List Access → Taken S
  Reads s xs = taken answer after_read s xs

  taken_append : (s : S) (xs ys : List Access) →
      taken answer after_read s (xs ++ ys)
      ≡ record { values = (Reads s xs).values ++ (Reads (Reads s xs).state ys).values; state = (Reads (Reads s xs).state ys).state }
  taken_append s [] ys = refl
  taken_append s (x ∷ xs) ys =
      ap (λ (r : Taken S). let t : Taken S = record { values = answer s x.width x.addr ∷ r.values; state = r.state } in t)
      (taken_append (after_read s x.width x.addr) xs ys)

  -- what is left once the first operand took its value
  left_of : (o : Operand) (a : Option ℕ) (w : Width) (s : S) (rest : List ℕ) → in_memory o ≡ is_some a →
      after_given o ((Reads s (access_if true Read w a)).values ++ rest) ≡ rest
  left_of o (Some x) w s rest e = ap (λ (b : Bool). if b then drop 1 (answer s w x ∷ rest) else (answer s w x ∷ rest)) e
  left_of o None w s rest e = ap (λ (b : Bool). if b then drop 1 rest else rest) e

  -- the old value of a destination that is read
  pub old_read : (s : S) (op : TwoOp) (d : Operand) (w : Width) (core : List ℕ) (pb : Option ℕ) (t : Bool) (v : ℕ) → t ≡ reads_dst op → t ≡ true →
      ((rest : List ℕ) → v ≡ given d w core ((Reads s (access_if true Read w pb)).values ++ rest)) →
      v ≡ old_value (reads_dst op) (given d w core (Reads s (access_if (reads_dst op) Read w pb)).values)
  old_read s op d w core pb t v e h f =
      f []
      ∙ ap (given d w core) (append-nil (Reads s (access_if true Read w pb)).values)
      ∙ ap (λ (b : Bool). old_value b (given d w core (Reads s (access_if b Read w pb)).values)) (sym h ∙ e)

  pub two_through : (core : List ℕ) (s0 : S) (op : TwoOp) (w : Width) (s d : Operand) (core1 core2 core3 : List ℕ)
      (x1 x2 : ℕ) (pa pb : Option ℕ) (a b c : ℕ) (r : Computed) (s1 s2 s3 : S) →
      core1 ≡ past (Two op w s d) core → x1 ≡ add16 (reg core PC) 2 → pa ≡ place s core1 x1 → core2 ≡ stepped w s core1 →
      x2 ≡ add16 x1 (2 * words_of s) → pb ≡ place d core2 x2 →
      ((rest : List ℕ) → a ≡ given s w core1 ((Reads s0 (access_if true Read w pa)).values ++ rest)) →
      s1 ≡ (Reads s0 (access_if true Read w pa)).state →
      b ≡ old_value (reads_dst op) (given d w core2 (Reads s1 (access_if (reads_dst op) Read w pb)).values) →
      s2 ≡ (Reads s1 (access_if (reads_dst op) Read w pb)).state →
      c ≡ bit CARRY (reg core SR) → r ≡ two_result op w a b c →
      core3 ≡ (written (writes_dst op) d r core2).core →
      s3 ≡ stored_in after_write s2 (access_if (writes_dst op) Write w pb) (written (writes_dst op) d r core2).stored →
      (core3 ≡ (freely_through answer after_read after_write (Two op w s d) core s0).core) × (s3 ≡ (freely_through answer after_read after_write (Two op w s d) core s0).state)
  two_through core s0 op w s d core1 core2 core3 x1 x2 pa pb a b c r s1 s2 s3 e1 f1 epa e2 f2 epb ea es1 eb es2 ec er e3 es3 =
      let insn : Insn = Two op w s d in
      let rd : Bool = reads_dst op in
      let wr : Bool = writes_dst op in
      let xa : List Access = access_if true Read w pa in
      let xb : List Access = access_if rd Read w pb in
      let xw : List Access = access_if wr Write w pb in
      let vb : List ℕ = (Reads s1 xb).values in
      let ps : List Access = plan insn core in
      let planned : (xa ++ xb) ++ xw ≡ ps = plan_two_form insn core op w s d core1 core2 x1 x2 pa pb refl e1 f1 epa e2 f2 epb in
      let whole : Taken S = Reads s0 (reads_of ps) in
      let both : Taken S = record { values = (Reads s0 xa).values ++ vb; state = s2 } in
      let t1 : whole ≡ Reads s0 (xa ++ xb) = ap (Reads s0) (ap reads_of (sym planned) ∙ two_reads pa pb rd wr w) in
      let t2 : Reads s0 (xa ++ xb) ≡ record { values = (Reads s0 xa).values ++ (Reads (Reads s0 xa).state xb).values; state = (Reads (Reads s0 xa).state xb).state } = taken_append s0 xa xb in
      let t3 : record { values = (Reads s0 xa).values ++ (Reads (Reads s0 xa).state xb).values; state = (Reads (Reads s0 xa).state xb).state } ≡ both =
      ap (λ (z : S). let t : Taken S = record { values = (Reads s0 xa).values ++ (Reads z xb).values; state = (Reads z xb).state } in t) (sym es1)
      ∙ ap (λ (z : S). let t : Taken S = record { values = (Reads s0 xa).values ++ vb; state = z } in t) (sym es2) in
      let t : whole ≡ both = t1 ∙ t2 ∙ t3 in
      let v : whole.values ≡ (Reads s0 xa).values ++ vb = ap (λ (z : Taken S). z.values) t in
      let source : a ≡ given s w core1 whole.values = ea vb ∙ ap (given s w core1) (sym v) in
      let left : after_given s whole.values ≡ vb = ap (after_given s) v ∙ left_of s pa w s0 vb (in_place s core1 x1 pa epa) in
      let old : b ≡ old_value rd (given d w core2 (after_given s whole.values)) = eb ∙ ap (λ (z : List ℕ). old_value rd (given d w core2 z)) (sym left) in
      let done : written wr d r core2 ≡ does_freely insn core whole.values =
      two_form core whole.values op w s d core1 core2 a b c r e1 source e2 old ec er in
      let puts : xw ≡ writes_of ps = sym (two_writes pa pb rd wr w) ∙ ap writes_of planned in (
        e3 ∙ ap (λ (z : Done). z.core) done,
        es3 ∙ ap (λ (z : Done). stored_in after_write s2 xw z.stored) done
            ∙ ap (λ (z : S). stored_in after_write z xw (does_freely insn core whole.values).stored) (sym (ap (λ (z : Taken S). z.state) t))
            ∙ ap (λ (z : List Access). stored_in after_write whole.state z (does_freely insn core whole.values).stored) puts,
      )

  pub one_through : (core : List ℕ) (s0 : S) (op : OneOp) (w : Width) (arg : Operand) (core1 core2 core3 : List ℕ)
      (x1 : ℕ) (pa : Option ℕ) (a c : ℕ) (s1 s2 : S) →
      core1 ≡ past (One op w arg) core → x1 ≡ add16 (reg core PC) 2 → pa ≡ place arg core1 x1 → core2 ≡ stepped w arg core1 →
      ((rest : List ℕ) → a ≡ given arg w core1 ((Reads s0 (access_if true Read w pa)).values ++ rest)) →
      s1 ≡ (Reads s0 (access_if true Read w pa)).state →
      c ≡ bit CARRY (reg core SR) →
      core3 ≡ (one_done op w arg a c core2).core →
      s2 ≡ stored_in after_write s1 (one_writes op w pa (reg (lowered core2) SP)) (one_done op w arg a c core2).stored →
      (core3 ≡ (freely_through answer after_read after_write (One op w arg) core s0).core) × (s2 ≡ (freely_through answer after_read after_write (One op w arg) core s0).state)
  one_through core s0 op w arg core1 core2 core3 x1 pa a c s1 s2 e1 f1 epa e2 ea es1 ec e3 es2 =
      let insn : Insn = One op w arg in
      let sp : ℕ = reg (lowered core2) SP in
      let xa : List Access = access_if true Read w pa in
      let xw : List Access = one_writes op w pa sp in
      let ps : List Access = plan insn core in
      let planned : xa ++ xw ≡ ps = plan_one_form insn core op w arg core1 core2 (lowered core2) x1 pa sp refl e1 f1 epa e2 refl refl in
      let whole : Taken S = Reads s0 (reads_of ps) in
      let t : whole ≡ Reads s0 xa = ap (Reads s0) (ap reads_of (sym planned) ∙ one_reads pa op w sp) in
      let v : whole.values ≡ (Reads s0 xa).values ++ [] = ap (λ (z : Taken S). z.values) t ∙ sym (append-nil (Reads s0 xa).values) in
      let source : a ≡ given arg w core1 whole.values = ea [] ∙ ap (given arg w core1) (sym v) in
      let done : one_done op w arg a c core2 ≡ does_freely insn core whole.values =
      one_form core whole.values op w arg core1 core2 a c e1 source e2 ec in
      let puts : xw ≡ writes_of ps = sym (one_writes_of pa op w sp) ∙ ap writes_of planned in (
        e3 ∙ ap (λ (z : Done). z.core) done,
        es2 ∙ ap (λ (z : Done). stored_in after_write s1 xw z.stored) done
            ∙ ap (λ (z : S). stored_in after_write z xw (does_freely insn core whole.values).stored) (es1 ∙ sym (ap (λ (z : Taken S). z.state) t))
            ∙ ap (λ (z : List Access). stored_in after_write whole.state z (does_freely insn core whole.values).stored) puts,
      )

-- ---- alignment of what an instruction plans

pub two_aligned : (core : List ℕ) (op : TwoOp) (w : Width) (s d : Operand) (core1 core2 : List ℕ) (x1 x2 : ℕ) (pa pb : Option ℕ) →
    AreAligned (plan (Two op w s d) core) → core1 ≡ past (Two op w s d) core → x1 ≡ add16 (reg core PC) 2 → pa ≡ place s core1 x1 → core2 ≡ stepped w s core1 →
    x2 ≡ add16 x1 (2 * words_of s) → pb ≡ place d core2 x2 → IsAligned w pb
two_aligned core op w s d core1 core2 x1 x2 pa pb h e1 f1 epa e2 f2 epb =
    let xb : List Access = access_if (reads_dst op) Read w pb ++ access_if (writes_dst op) Write w pb in
    let planned : (access_if true Read w pa ++ access_if (reads_dst op) Read w pb) ++ access_if (writes_dst op) Write w pb ≡ plan (Two op w s d) core =
    plan_two_form (Two op w s d) core op w s d core1 core2 x1 x2 pa pb refl e1 f1 epa e2 f2 epb in
    second_aligned pb (reads_dst op) (writes_dst op) w (touches_dst op)
    (rest_aligned pa w xb (subst AreAligned (sym planned ∙ regrouped pa pb (reads_dst op) (writes_dst op) w) h))

pub source_aligned : (core : List ℕ) (op : TwoOp) (w : Width) (s d : Operand) (core1 : List ℕ) (x1 : ℕ) (pa : Option ℕ) →
    AreAligned (plan (Two op w s d) core) → core1 ≡ past (Two op w s d) core → x1 ≡ add16 (reg core PC) 2 → pa ≡ place s core1 x1 → IsAligned w pa
source_aligned core op w s d core1 x1 pa h e1 f1 epa =
    let core2 : List ℕ = stepped w s core1 in
    let x2 : ℕ = add16 x1 (2 * words_of s) in
    let pb : Option ℕ = place d core2 x2 in
    let planned : (access_if true Read w pa ++ access_if (reads_dst op) Read w pb) ++ access_if (writes_dst op) Write w pb ≡ plan (Two op w s d) core =
    plan_two_form (Two op w s d) core op w s d core1 core2 x1 x2 pa pb refl e1 f1 epa refl refl refl in
    first_aligned pa w (access_if (reads_dst op) Read w pb ++ access_if (writes_dst op) Write w pb)
    (subst AreAligned (sym planned ∙ regrouped pa pb (reads_dst op) (writes_dst op) w) h)

pub one_aligned : (core : List ℕ) (op : OneOp) (w : Width) (arg : Operand) (core1 : List ℕ) (x1 : ℕ) (pa : Option ℕ) →
    AreAligned (plan (One op w arg) core) → core1 ≡ past (One op w arg) core → x1 ≡ add16 (reg core PC) 2 → pa ≡ place arg core1 x1 → IsAligned w pa
one_aligned core op w arg core1 x1 pa h e1 f1 epa =
    let core2 : List ℕ = stepped w arg core1 in
    let sp : ℕ = reg (lowered core2) SP in
    first_aligned pa w (one_writes op w pa sp)
    (subst AreAligned (sym (plan_one_form (One op w arg) core op w arg core1 core2 (lowered core2) x1 pa sp refl e1 f1 epa refl refl refl)) h)

pub put_aligned : (core : List ℕ) (op : OneOp) (w : Width) (arg : Operand) (core1 core2 : List ℕ) (x1 : ℕ) (pa : Option ℕ) →
    AreAligned (plan (One op w arg) core) → core1 ≡ past (One op w arg) core → x1 ≡ add16 (reg core PC) 2 → pa ≡ place arg core1 x1 → core2 ≡ stepped w arg core1 →
    AreAligned (one_writes op w pa (reg (lowered core2) SP))
put_aligned core op w arg core1 core2 x1 pa h e1 f1 epa e2 =
    let sp : ℕ = reg (lowered core2) SP in
    rest_aligned pa w (one_writes op w pa sp)
    (subst AreAligned (sym (plan_one_form (One op w arg) core op w arg core1 core2 (lowered core2) x1 pa sp refl e1 f1 epa e2 refl refl)) h)

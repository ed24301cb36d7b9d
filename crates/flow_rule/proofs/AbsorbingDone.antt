-- What an instruction reaches and does under a state, and under one that this one absorbs.
use Rattle.std.proofs.Common.{◌≡◌, ℕ, ◌*◌, List, [], ◌∷◌, ◌++◌, drop, map, append_assoc, refl, sym, ap, ◌∙◌, subst, Bool, true, false, cond, ◌==◌, ◌&&◌, Option, Some, None}
use Rattle.std.proofs.lemmas.List.{set-set}
use Rattle.sm_words.specs.Words.{nth, add16, bit, word_at}
use Rattle.insn_decode.specs.Code.{words_of, distance}
use Rattle.cpu_step.specs.Effect.{value_of, two_result, one_result, in_memory}
use Rattle.cpu_step.specs.Plan.{increment_of, reads_dst, writes_dst}
use Rattle.cpu_step.specs.declared.result.Computed.{Computed}
use Rattle.sm_words.specs.declared.width.Width.{Width}
use Rattle.sm_words.specs.declared.width.Width.TheVariants.{Byte, Word}
use Rattle.insn_decode.specs.declared.insn.TwoOp.{TwoOp}
use Rattle.insn_decode.specs.declared.insn.TwoOp.TheVariants.{Mov, Bic}
use Rattle.insn_decode.specs.declared.insn.OneOp.{OneOp}
use Rattle.insn_decode.specs.declared.insn.OneOp.TheVariants.{Push, Call}
use Rattle.insn_decode.specs.declared.insn.Operand.{Operand}
use Rattle.insn_decode.specs.declared.insn.Operand.TheVariants.{Reg, Const, Imm, Indexed, Symbolic, Absolute, Indirect, Increment}
use Rattle.insn_decode.specs.declared.insn.Insn.{Insn}
use Rattle.insn_decode.specs.declared.insn.Insn.TheVariants.{Two, One, Jump}
use Rattle.pc_access.specs.declared.Kind.{Kind}
use Rattle.pc_access.specs.declared.Kind.TheVariants.{Read, Write}
use Rattle.mod_layout.specs.declared.Module.{Module}
use Rattle.mod_layout.specs.Table.{holds}
use Rattle.arm_balance.specs.Met.{text_byte}
use Rattle.flow_rule.specs.declared.Val.{Val}
use Rattle.flow_rule.specs.declared.Val.TheVariants.{Known, Away, Public, Secret}
use Rattle.flow_rule.specs.declared.Reach.{Reach}
use Rattle.flow_rule.specs.declared.Told.{Told}
use Rattle.flow_rule.specs.Values.{over_one, blurred, val, seen, put_val, blurred_flags}
use Rattle.flow_rule.specs.Does.{place_val, stepped_val, lowered_val, reach_if, one_reach, plan_val, word_no, half, read_at, read_val, write_at, writes_val, Done_val, reads_carry, sets_flags, one_reads_carry, one_sets_flags, read_if, told_of, two_val, one_val, set_flags_by, given_val, after_val, into_register_val, written_val, clears, clears_flags, cleared_if, carry_val, one_done_val, does_val}
use Rattle.flow_rule.specs.Violations.{reach_violations, reach_violations_by}
use Rattle.flow_rule.proofs.Plans.{none_left, none_right}
use Rattle.flow_rule.proofs.Absorbing.{AbsorbsVal, AbsorbsEach, AbsorbsOption, over_keeps, over_one_keeps, blurred_keeps, blurred_all_keeps, narrow_keeps, nth_keeps, set_keeps, drop_keeps, put_keeps, past_keeps, EvenPc, put_even, past_even}

-- ---- accesses
seen_keeps : (ts vs : List Val) (r : ℕ) → AbsorbsEach ts vs → AbsorbsVal (seen ts r) (seen vs r)
seen_keeps ts vs r p = by (r == 2)
  where
    by : (c : Bool) → AbsorbsVal (cond c (blurred (val ts 2 ∷ [])) (val ts r)) (cond c (blurred (val vs 2 ∷ [])) (val vs r))
    by true = blurred_keeps (val ts 2) (val vs 2) (nth_keeps ts vs 2 p)
    by false = nth_keeps ts vs r p

place_keeps : (o : Operand) (ts vs : List Val) (ext : ℕ) → AbsorbsEach ts vs →
    AbsorbsOption (place_val o ts ext) (place_val o vs ext)
place_keeps (Indexed r x) ts vs ext p = over_one_keeps (λ v. add16 v x) (seen ts r) (seen vs r) (seen_keeps ts vs r p)
place_keeps (Symbolic x) ts vs ext p = refl
place_keeps (Absolute x) ts vs ext p = refl
place_keeps (Indirect r) ts vs ext p = seen_keeps ts vs r p
place_keeps (Increment r) ts vs ext p = seen_keeps ts vs r p
place_keeps (Reg r) ts vs ext p = tt
place_keeps (Const c) ts vs ext p = tt
place_keeps (Imm x) ts vs ext p = tt

stepped_keeps : (w : Width) (o : Operand) (ts vs : List Val) → AbsorbsEach ts vs →
    AbsorbsEach (stepped_val w o ts) (stepped_val w o vs)
stepped_keeps w (Increment r) ts vs p =
    put_keeps ts vs r _ _ p (over_one_keeps (λ v. add16 v (increment_of w r)) (val ts r) (val vs r) (nth_keeps ts vs r p))
stepped_keeps w o ts vs p = p

lowered_keeps : (ts vs : List Val) → AbsorbsEach ts vs → AbsorbsEach (lowered_val ts) (lowered_val vs)
lowered_keeps ts vs p = put_keeps ts vs 1 _ _ p
    (over_one_keeps (λ v. add16 v 65534) (val ts 1) (val vs 1) (nth_keeps ts vs 1 p))

module _ (m : Module) (pc : ℕ) where
  -- an access without a violation has a known address
  if_same : (t : Bool) (k : Kind) (w : Width) (a b : Option Val) → AbsorbsOption a b →
      reach_violations m pc (reach_if t k w a) ≡ [] → reach_if t k w b ≡ reach_if t k w a
  if_same true k w (Some (Known x)) (Some (Known y)) p e = ap (λ i. reach_if true k w (Some (Known i))) p
  if_same true k w (Some (Known x)) (Some v) p e = absurd p
  if_same true k w (Some Away) (Some v) p e = absurd cc
  if_same true k w (Some Public) (Some v) p e = absurd cc
  if_same true k w (Some Secret) (Some v) p e = absurd cc
  if_same true k w None None p e = refl
  if_same true k w (Some u) None p e = absurd p
  if_same true k w None (Some v) p e = absurd p
  if_same false k w a b p e = refl

  violations_append : (xs ys : List Reach) →
      reach_violations m pc (xs ++ ys) ≡ reach_violations m pc xs ++ reach_violations m pc ys
  violations_append [] ys = refl
  violations_append (x ∷ xs) ys =
      ap (λ i. reach_violations_by x.addr m pc x ++ i) (violations_append xs ys)
      ∙ sym (append_assoc (reach_violations_by x.addr m pc x) (reach_violations m pc xs) (reach_violations m pc ys))

  both_same : (xs ys us vs : List Reach) → reach_violations m pc (xs ++ ys) ≡ [] →
      (reach_violations m pc xs ≡ [] → us ≡ xs) →
      (reach_violations m pc ys ≡ [] → vs ≡ ys) → us ++ vs ≡ xs ++ ys
  both_same xs ys us vs e f g =
      let k = sym (violations_append xs ys) ∙ e in
      ap (λ i. i ++ vs) (f (none_left _ _ k)) ∙ ap (λ i. xs ++ i) (g (none_right (reach_violations m pc xs) _ k))

  one_same : (op : OneOp) (w : Width) (a b : Option Val) (t v : Val) → AbsorbsOption a b → AbsorbsVal t v →
      reach_violations m pc (one_reach op w a t) ≡ [] → one_reach op w b v ≡ one_reach op w a t
  one_same Push w a b t v p q e = if_same true Write w (Some t) (Some v) q e
  one_same Call w a b t v p q e = if_same true Write Word (Some t) (Some v) q e
  one_same op w a b t v p q e = if_same true Write w a b p e

  -- the accesses, where they have no violation
  pub same_plan : (insn : Insn) (ts vs : List Val) → AbsorbsEach ts vs →
      reach_violations m pc (plan_val insn pc ts) ≡ [] →
      plan_val insn pc vs ≡ plan_val insn pc ts
  unfolding plan_val
  same_plan (Two op w s d) ts vs p e =
      let p1 = past_keeps (Two op w s d) pc ts vs p in
      let a = place_keeps s _ _ (add16 pc 2) p1 in
      let b = place_keeps d _ _ (add16 (add16 pc 2) (2 * words_of s)) (stepped_keeps w s _ _ p1) in
      both_same _ _ _ _ e (λ e. both_same _ _ _ _ e (λ e. if_same true Read w _ _ a e)
      (λ e. if_same (reads_dst op) Read w _ _ b e)) (λ e. if_same (writes_dst op) Write w _ _ b e)
  same_plan (One op w arg) ts vs p e =
      let p1 = past_keeps (One op w arg) pc ts vs p in
      let p3 = lowered_keeps _ _ (stepped_keeps w arg _ _ p1) in
      let a = place_keeps arg _ _ (add16 pc 2) p1 in
      both_same _ _ _ _ e (λ e. if_same true Read w _ _ a e) (λ e. one_same op w _ _ _ _ a (nth_keeps _ _ 1 p3) e)
  same_plan insn ts vs p e = refl

-- ---- the two sections
-- two lists of values, one by one
abbrev pub Paired : List Val → List Val → Type 0
Paired [] [] = Unit {0}
Paired (t ∷ ts) (v ∷ vs) = AbsorbsVal t v × Paired ts vs
Paired _ _ = ⊥

module _ (m : Module) (text : List ℕ) where
  read_keeps : (w : Width) (a : ℕ) (ts vs : List Val) → AbsorbsEach ts vs →
      AbsorbsVal (read_at m text ts w a) (read_at m text vs w a)
  read_keeps Word a ts vs p = by (holds m.text a)
    where
      by : (c : Bool) → AbsorbsVal (cond c (Known (word_at (text_byte m.text text) a)) (nth (word_no m a) ts Secret))
          (cond c (Known (word_at (text_byte m.text text) a)) (nth (word_no m a) vs Secret))
      by true = refl
      by false = nth_keeps ts vs (word_no m a) p
  read_keeps Byte a ts vs p = by (holds m.text a)
    where
      by : (c : Bool) → AbsorbsVal
          (cond c (Known (text_byte m.text text a)) (over_one (half a) (nth (word_no m a) ts Secret)))
          (cond c (Known (text_byte m.text text a)) (over_one (half a) (nth (word_no m a) vs Secret)))
      by true = refl
      by false = over_one_keeps (half a) _ _ (nth_keeps ts vs (word_no m a) p)

  pub reads_keep : (rs : List Reach) (ts vs : List Val) → AbsorbsEach ts vs →
      AbsorbsEach (map (read_val m text ts) rs) (map (read_val m text vs) rs)
  reads_keep [] ts vs p = tt
  reads_keep (r ∷ rs) ts vs p = (by r.addr, reads_keep rs ts vs p)
    where
      by : (v : Val) → AbsorbsVal (elim v [ Known a ↦ read_at m text ts r.width a | _ ↦ Secret ])
          (elim v [ Known a ↦ read_at m text vs r.width a | _ ↦ Secret ])
      by (Known a) = read_keeps r.width a ts vs p
      by _ = tt

module _ (m : Module) where
  write_keeps : (w : Width) (a : ℕ) (ts vs : List Val) (t v : Val) → AbsorbsEach ts vs → AbsorbsVal t v →
      AbsorbsEach (write_at m ts w a t) (write_at m vs w a v)
  write_keeps Word a ts vs t v p q = set_keeps ts vs (word_no m a) _ _ p (narrow_keeps Word t v q)
  write_keeps Byte a ts vs t v p q =
      set_keeps ts vs (word_no m a) _ _ p
      (blurred_all_keeps _ t Public _ v Public (nth_keeps ts vs (word_no m a) p) q tt)

  pub writes_keep : (rs : List Reach) (ts vs ss qs : List Val) → AbsorbsEach ts vs → Paired ss qs →
      AbsorbsEach (writes_val m ts rs ss) (writes_val m vs rs qs)
  writes_keep [] ts vs ss qs p q = p
  writes_keep (r ∷ rs) ts vs [] [] p q = p
  writes_keep (r ∷ rs) ts vs [] (x ∷ qs) p q = absurd q
  writes_keep (r ∷ rs) ts vs (s ∷ ss) [] p q = absurd q
  writes_keep (r ∷ rs) ts vs (s ∷ ss) (x ∷ qs) p q = writes_keep rs _ _ ss qs (by r.addr) q.1
    where
      by : (v : Val) → AbsorbsEach (elim v [ Known a ↦ write_at m ts r.width a s | _ ↦ ts ])
          (elim v [ Known a ↦ write_at m vs r.width a x | _ ↦ vs ])
      by (Known a) = write_keeps r.width a ts vs s x p q.0
      by _ = p

-- ---- what is done
pub record Kept (x y : Done_val) : Type 0 where
  pub core_kept : AbsorbsEach x.core y.core
  pub stored_kept : Paired x.stored y.stored
  pub even_pc : EvenPc x.core

record Tells (x y : Told) : Type 0 where
  value : AbsorbsVal x.value y.value
  flags : AbsorbsOption x.flags y.flags

if_keeps : (b : Bool) (t v : Val) → AbsorbsVal t v → AbsorbsVal (read_if b t) (read_if b v)
if_keeps true t v p = p
if_keeps false t v p = refl

flags_keep : (b : Bool) (t v : Val) → AbsorbsVal t v → AbsorbsOption (cond b (Some t) None) (cond b (Some v) None)
flags_keep true t v p = p
flags_keep false t v p = tt

told_keeps : (b : Bool) (f : ℕ → ℕ → ℕ → Computed) (s d c s' d' c' : Val) → AbsorbsVal s s' → AbsorbsVal d d' → AbsorbsVal c c' →
    Tells (told_of blurred_flags b f s d c) (told_of blurred_flags b f s' d' c')
told_keeps b f s d c s' d' c' p q r =
    record {
      value = over_keeps (λ x y z. value_of (f x y z)) s d c s' d' c' p q r;
      flags = flags_keep b (blurred (s ∷ d ∷ c ∷ [])) (blurred (s' ∷ d' ∷ c' ∷ [])) (blurred_all_keeps s d c s' d' c' p q r);
    }

two_keeps : (op : TwoOp) (w : Width) (s d c s' d' c' : Val) → AbsorbsVal s s' → AbsorbsVal d d' → AbsorbsVal c c' →
    Tells (two_val blurred_flags op w s d c) (two_val blurred_flags op w s' d' c')
two_keeps Mov Word s d c s' d' c' p q r = record { value = p; flags = tt }
two_keeps op w s d c s' d' c' p q r =
    told_keeps (sets_flags op) (two_result op w) s (read_if (reads_dst op) d) (read_if (reads_carry op) c) s' (read_if (reads_dst op) d') (read_if (reads_carry op) c')
    p (if_keeps (reads_dst op) d d' q) (if_keeps (reads_carry op) c c' r)

one_keeps : (op : OneOp) (w : Width) (a c a' c' : Val) → AbsorbsVal a a' → AbsorbsVal c c' →
    Tells (one_val blurred_flags op w a c) (one_val blurred_flags op w a' c')
one_keeps op w a c a' c' p q =
    told_keeps (one_sets_flags op) (λ x y z. one_result op w x y) a (read_if (one_reads_carry op) c) (Known 0) a' (read_if (one_reads_carry op) c') (Known 0)
    p (if_keeps (one_reads_carry op) c c' q) refl

set_flags_keep : (f g : Option Val) (ts vs : List Val) → AbsorbsOption f g → AbsorbsEach ts vs →
    AbsorbsEach (set_flags_by blurred_flags f ts) (set_flags_by blurred_flags g vs)
set_flags_keep None None ts vs q p = p
set_flags_keep (Some f) (Some g) ts vs q p = put_keeps ts vs 2 f g p q
set_flags_keep None (Some g) ts vs q p = absurd q
set_flags_keep (Some f) None ts vs q p = absurd q

flags_even : (f : Option Val) (ts : List Val) → EvenPc ts → EvenPc (set_flags_by blurred_flags f ts)
flags_even None ts h = h
flags_even (Some f) ts h = put_even ts 2 f h

given_keeps : (o : Operand) (w : Width) (ts vs xs ys : List Val) → AbsorbsEach ts vs → AbsorbsEach xs ys →
    AbsorbsVal (given_val o w ts xs) (given_val o w vs ys)
given_keeps (Reg r) w ts vs xs ys p q = narrow_keeps w _ _ (seen_keeps ts vs r p)
given_keeps (Const c) w ts vs xs ys p q = refl
given_keeps (Imm x) w ts vs xs ys p q = refl
given_keeps o w ts vs xs ys p q = narrow_keeps w _ _ (nth_keeps xs ys 0 q)

after_keeps : (o : Operand) (xs ys : List Val) → AbsorbsEach xs ys → AbsorbsEach (after_val o xs) (after_val o ys)
after_keeps o xs ys q = by (in_memory o)
  where
    by : (c : Bool) → AbsorbsEach (cond c (drop 1 xs) xs) (cond c (drop 1 ys) ys)
    by true = drop_keeps xs ys q
    by false = q

written_keeps : (b : Bool) (d : Operand) (x y : Told) (ts vs : List Val) → Tells x y → AbsorbsEach ts vs → EvenPc ts →
    Kept (written_val blurred_flags b d x ts) (written_val blurred_flags b d y vs)
written_keeps true (Reg r) x y ts vs t p h =
    record { core_kept = by (r == 2); stored_kept = tt; even_pc = even (r == 2) }
  where
    by : (c : Bool) → AbsorbsEach (into_register_val blurred_flags c r x ts) (into_register_val blurred_flags c r y vs)
    by true = put_keeps ts vs 2 x.value y.value p t.value
    by false = put_keeps _ _ r x.value y.value (set_flags_keep x.flags y.flags ts vs t.flags p) t.value

    even : (c : Bool) → EvenPc (into_register_val blurred_flags c r x ts)
    even true = put_even ts 2 x.value h
    even false = put_even _ r x.value (flags_even x.flags ts h)
written_keeps true d x y ts vs t p h =
    record {
      core_kept = set_flags_keep x.flags y.flags ts vs t.flags p;
      stored_kept = (t.value, tt);
      even_pc = flags_even x.flags ts h;
    }
written_keeps false d x y ts vs t p h =
    record {
      core_kept = set_flags_keep x.flags y.flags ts vs t.flags p;
      stored_kept = tt;
      even_pc = flags_even x.flags ts h;
    }

-- a BIC of all four flags by a number that is known makes them Public; by any other they become Public or Secret
clears_too : (a b : Val) → AbsorbsVal a b → clears a ≡ true → clears b ≡ true
clears_too (Known x) (Known y) p e = ap (λ i. clears (Known i)) p ∙ e
clears_too (Known x) _ p e = absurd p
clears_too _ b p e = absurd cc

blurred_public : (t : Val) → AbsorbsVal (blurred (t ∷ [])) Public
blurred_public (Known a) = tt
blurred_public _ = tt

abbrev cleared_core : Bool → List Val → List Val
cleared_core c core = cond c (put_val core 2 Public) core

cleared_even : (c : Bool) (ts : List Val) → EvenPc ts → EvenPc (cleared_core c ts)
cleared_even true ts h = put_even ts 2 Public h
cleared_even false ts h = h

cleared_keeps : (op : TwoOp) (w : Width) (d : Operand) (a b : Val) (x y : Told) (ts vs : List Val) → AbsorbsVal a b →
    Tells x y → AbsorbsEach ts vs → EvenPc ts →
    Kept (cleared_if blurred_flags (clears_flags op w d a) (written_val blurred_flags (writes_dst op) d x ts))
    (cleared_if blurred_flags (clears_flags op w d b) (written_val blurred_flags (writes_dst op) d y vs))
cleared_keeps Bic Word (Reg r) a b x y ts vs q t p h =
    let k = written_keeps true (Reg r) x y ts vs t p h in
    record {
      core_kept = by (r == 2) (clears a) (clears b) (clears_too a b q) k.core_kept;
      stored_kept = tt;
      even_pc = cleared_even ((r == 2) && clears a) (written_val blurred_flags true (Reg r) x ts).core k.even_pc;
    }
  where
    by : (two c e : Bool) → (c ≡ true → e ≡ true) →
        AbsorbsEach (into_register_val blurred_flags two r x ts) (into_register_val blurred_flags two r y vs) →
        AbsorbsEach (cleared_core (two && c) (into_register_val blurred_flags two r x ts))
        (cleared_core (two && e) (into_register_val blurred_flags two r y vs))
    by true true true f k = put_keeps _ _ 2 Public Public k tt
    by true true false f k = let g : false ≡ true = f refl in absurd cc
    by true false true f k = subst (λ i. AbsorbsEach (put_val ts 2 x.value) i)
        (sym (set-set vs 2 (blurred (y.value ∷ [])) Public))
        (set_keeps ts vs 2 (blurred (x.value ∷ [])) Public p (blurred_public x.value))
    by true false false f k = k
    by false c e f k = k
cleared_keeps op w d a b x y ts vs q t p h = written_keeps (writes_dst op) d x y ts vs t p h

carry_keeps : (ts vs : List Val) → AbsorbsEach ts vs → AbsorbsVal (carry_val ts) (carry_val vs)
carry_keeps ts vs p = over_one_keeps (bit 1) _ _ (nth_keeps ts vs 2 p)

stepped_even : (w : Width) (o : Operand) (ts : List Val) → EvenPc ts → EvenPc (stepped_val w o ts)
stepped_even w (Increment r) ts h = put_even ts r _ h
stepped_even w o ts h = h

one_done_keeps : (op : OneOp) (w : Width) (arg : Operand) (a c a' c' : Val) (ts vs : List Val) → AbsorbsVal a a' →
    AbsorbsVal c c' → AbsorbsEach ts vs → EvenPc ts →
    Kept (one_done_val blurred_flags op arg a (one_val blurred_flags op w a c) ts)
    (one_done_val blurred_flags op arg a' (one_val blurred_flags op w a' c') vs)
one_done_keeps Push w arg a c a' c' ts vs p q r h =
    record {
      core_kept = lowered_keeps ts vs r;
      stored_kept = (over_one_keeps (λ v. v) a a' p, tt);
      even_pc = put_even ts 1 _ h;
    }
one_done_keeps Call w arg a c a' c' ts vs p q r h =
    record {
      core_kept = put_keeps _ _ 0 a a' (lowered_keeps ts vs r) p;
      stored_kept = (nth_keeps ts vs 0 r, tt);
      even_pc = put_even _ 0 a (put_even ts 1 _ h);
    }
one_done_keeps op w arg a c a' c' ts vs p q r h = written_keeps true arg _ _ ts vs (one_keeps op w a c a' c' p q) r h

pub does_keeps : (insn : Insn) (pc : ℕ) (ts vs xs ys : List Val) → AbsorbsEach ts vs → AbsorbsEach xs ys →
    Kept (does_val blurred_flags insn pc ts xs) (does_val blurred_flags insn pc vs ys)
unfolding does_val
does_keeps (Two op w s d) pc ts vs xs ys p q =
    let p1 = past_keeps (Two op w s d) pc ts vs p in
    let p2 = stepped_keeps w s _ _ p1 in
    let a = given_keeps s w _ _ xs ys p1 q in
    let b = given_keeps d w _ _ _ _ p2 (after_keeps s xs ys q) in
    cleared_keeps op w d _ _ _ _ _ _ a (two_keeps op w _ _ _ _ _ _ a b (carry_keeps ts vs p)) p2
    (stepped_even w s _ (past_even (Two op w s d) pc ts))
does_keeps (One op w arg) pc ts vs xs ys p q =
    let p1 = past_keeps (One op w arg) pc ts vs p in
    one_done_keeps op w arg _ _ _ _ _ _ (given_keeps arg w _ _ xs ys p1 q) (carry_keeps ts vs p)
    (stepped_keeps w arg _ _ p1) (stepped_even w arg _ (past_even (One op w arg) pc ts))
does_keeps (Jump cn off) pc ts vs xs ys p q =
    let to = Known (add16 (add16 pc 2) (distance off)) in
    record {
      core_kept = put_keeps _ _ 0 to to (past_keeps (Jump cn off) pc ts vs p) refl;
      stored_kept = tt;
      even_pc = put_even _ 0 to (past_even (Jump cn off) pc ts);
    }
does_keeps insn pc ts vs xs ys p q =
    record { core_kept = past_keeps insn pc ts vs p; stored_kept = tt; even_pc = past_even insn pc ts }

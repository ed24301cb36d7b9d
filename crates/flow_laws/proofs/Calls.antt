-- A list of calls of an accepted text ends alike from any two data.
use Rattle.std.proofs.Common.{◌≡◌, ◌⊎◌, inl, inr, ⊎_elim, ℕ, suc, ◌+◌, ◌*◌, ◌/◌, ◌<◌, ◌≤◌, List, [], ◌∷◌, set, refl, sym, ap, ◌∙◌, subst, arith, Bool, true, false, cond, ◌==◌, Option, Some, ℤ}
use Rattle.std.proofs.lemmas.Bool.{cases_lt, eqb-true}
use Rattle.std.proofs.lemmas.Bool.Decides.{nat_tests}
use Rattle.sm_words.specs.Words.{reg, kept, add16}
use Rattle.insn_decode.specs.declared.insn.Condition.{Condition}
use Rattle.insn_decode.specs.declared.insn.Insn.{Insn}
use Rattle.insn_decode.specs.declared.insn.Insn.TheVariants.{Jump}
use Rattle.flow_rule.proofs.Plans.{none_left}
use Rattle.flow_rule.specs.Values.{FlagDomain, blurred_flags, known_flags}
use Rattle.flow_rule.proofs.FlagDomains.{SoundFlags, follows, forgets}
use Rattle.mod_layout.specs.declared.Module.{Module}
use Rattle.mod_layout.specs.Table.{holds, size_of}
use Rattle.mod_layout.specs.Tables.{IsSection}
use Rattle.cpu_step.specs.Lone.{Entrance, CallEnd, Exit, Closing, Running, starts, job_of, outcome, EvenBut, IsEntry}
use Rattle.std.specs.Prelude.{All}
use Rattle.flow_rule.specs.Terms.{Terms, no_terms}
use Rattle.flow_rule.specs.declared.Val.TheVariants.{Away}
use Rattle.flow_rule.specs.Iterations.{PointState}
use Rattle.flow_rule.specs.declared.Verdict.TheVariants.{Yes}
use Rattle.flow_rule.specs.Steps.{step_of}
use Rattle.flow_rule.specs.Stub.{is_open, shut_if, shut_violations, step_entries, call_entry, text_word, word_number, has_stub, step_stub}
use Rattle.flow_rule.specs.Verdict.{known_words, no_secret, start_point, start_knowing, start_under}
use Rattle.flow_laws.proofs.Words.{Shape, IsData}
use Rattle.flow_laws.proofs.Labelling.{Among, Closed, closed}
use Rattle.flow_laws.proofs.Ways.{OnWay, unrolled_closed}
use Rattle.flow_laws.specs.internal.Unrolling.{UnrolledUnder, IsUnrolled}
use Rattle.flow_laws.proofs.Runs.{Sound}
use Rattle.flow_laws.specs.Releases.{Release, SomeDiffer, released_at, releasing}
use Rattle.flow_laws.proofs.Told.{point_opens, always_or}
use Rattle.flow_laws.proofs.Instruction.{AgreeAt, even_at, weaken_at, step_crossing}
use Rattle.flow_laws.proofs.Decoding.{met_regular}
use Rattle.flow_rule.proofs.Stub.{StubFacts, place_of_word, stub_facts}
use Rattle.flow_laws.proofs.Open.{IsOpen, HasEntry, met_10, met_12, met_14, met_16, met_17, AtStub, weaken_stub, stub_crossing}
use Rattle.flow_laws.proofs.Begin.{Calm, from_0}
use Rattle.arm_balance.specs.declared.Arm.{Arm}
use Rattle.flow_rule.specs.Arms.{step_arms, flow_under, VerdictUnder, VerdictWith}
use Rattle.cpu_step.proofs.Alike.{ends_but, ends_then}
use Rattle.flow_laws.specs.Laws.{AgreeOn}
use Rattle.arm_balance.specs.Met.{met}
use Rattle.arm_balance.specs.Balance.{arm_next}
use Rattle.flow_laws.proofs.Arms.{arms_crossing}
use Rattle.flow_laws.proofs.Starts.{stub_begins, CallsAlike, CallsOr, shape_of, start_in, begins_at}

-- a closed set of states, where the start knows of so many words
abbrev pub ClosedUnder : FlagDomain → List Release → ℕ → Terms → Module → List ℕ → List Arm → (PointState → Type 0) → Type 0
ClosedUnder domain ps known terms m text arms P = Closed (releasing ps (flow_under domain terms m text arms)) (start_knowing known terms m text) P

calls_with : (domain : FlagDomain) (proper : SoundFlags domain) (ps : List Release) (known : ℕ) (terms : Terms) (key : List ℕ) (m : Module) (text : List ℕ) (arms : List Arm) (P : PointState → Type 0) → Shape m → has_stub m text ≡ false → ClosedUnder domain ps known terms m text arms P → CallsOr ps terms key m text
calls_with domain proper ps known terms key m text arms P shape free v steps R more e ok da db pa pb agree =
    let j = job_of key m text e.caller in
    let t = m.text.start in
    let step = step_arms (step_of domain terms m text) arms m text in
    let start = start_point known terms m t (no_secret t) in
    let l : Closed (releasing ps step) start P =
    subst (λ b. Closed (releasing ps (step_arms (cond b (step_stub domain terms m text) (step_of domain terms m text)) arms m text)) (cond b (start_point known terms m (t + 20) (set (no_secret (t + 20)) 7 Away)) start) P) free v in
    let sound : Sound terms m j (AgreeAt m) step =
    record {
      weaken = weaken_at m;
      cross = λ x ca da cb db at none. arms_crossing terms key m text e.caller shape domain proper (step_of domain terms m text) (λ x c d join next at on e. (e, refl)) (AgreeAt m) (λ x ca da cb db h. h) (λ x ca da cb db h cn off e y pa qa pb qb le at. at)
          (λ x ca da cb db h none. step_crossing terms key m text e.caller shape domain proper (met_regular m text) x ca da cb db h none) arms x ca da cb db at none;
    } in
    always_or ps terms m j refl (AgreeAt m) step sound start P l (λ x ca da cb db h. (h.pc_a, h.pc_b)) (λ x ca da cb db h. point_opens ps m x ca da cb db h) R more steps e.core da e.core db
    (begins_at known terms m e.core da db t ok.core_ok ok.at_start (start_in m shape.text_order) pa pb agree)

stub_opens : (ps : List Release) (m : Module) (n : ℕ) (x : PointState) (ca da cb db : List ℕ) → AtStub m n x ca da cb db → SomeDiffer ps x.point.addr ca cb ⊎ AtStub m n (released_at ps x) ca da cb db
stub_opens ps m n x ca da cb db h = ⊎_elim (λ d. inl d) (λ k. inr (record { agree = k; entry = h.entry })) (point_opens ps m x ca da cb db h.agree)

-- no release tells nothing apart
alike_alone : (terms : Terms) (key : List ℕ) (m : Module) (text : List ℕ) → CallsOr [] terms key m text → CallsAlike terms key m text
alike_alone terms key m text h n R more e ok da db pa pb agree = ⊎_elim (λ k. k) (λ t. absurd t.5) (h n R more e ok da db pa pb agree)

-- ---- with a stub
module _ (terms : Terms) (key : List ℕ) (m : Module) (text : List ℕ) (caller : ℕ) (shape : Shape m) (domain : FlagDomain) (proper : SoundFlags domain) (n p : ℕ) (facts : StubFacts m text n p) where
  call_stops : (join pc : ℕ) (o : Option Insn) (next : ℕ) → o ≡ Some (call_entry m) → arm_next join pc o ≡ Some next → ⊥
  call_stops join pc o next e on = let f : arm_next join pc (Some (call_entry m)) ≡ Some next = subst (λ o. arm_next join pc o ≡ Some next) e on in absurd cc

  stub_refines : (x : PointState) (c d : List ℕ) (join next : ℕ) → AgreeAt m x c d c d → arm_next join x.point.addr (met m.text text x.point.addr) ≡ Some next → (step_stub domain terms m text x).violations ≡ [] →
      ((step_of domain terms m text x).violations ≡ []) × ((step_stub domain terms m text x).gives ≡ (step_of domain terms m text x).gives)
  stub_refines x c d join next at on e = by (word_number m x.point.addr == 17) (is_open (word_number m x.point.addr)) refl e
    where
      by : (a b : Bool) → (word_number m x.point.addr == 17) ≡ a → (cond a (step_entries m text x) (shut_if b m x.point.addr (step_of domain terms m text x))).violations ≡ [] →
          ((step_of domain terms m text x).violations ≡ []) × ((cond a (step_entries m text x) (shut_if b m x.point.addr (step_of domain terms m text x))).gives ≡ (step_of domain terms m text x).gives)
      by true b f e =
          let place = place_of_word m x.point.addr 17 shape.text_start (eqb-true (word_number m x.point.addr) 17 f) (even_at m x c d c d at) at.in_text in
          absurd (call_stops join x.point.addr (met m.text text x.point.addr) next (ap (λ a. met m.text text a) place ∙ met_17 terms key m text caller shape domain proper n p facts) on)
      by false true f e = (e, refl)
      by false false f e = (none_left (step_of domain terms m text x).violations (shut_violations m x.point.addr (step_of domain terms m text x).gives) e, refl)

  -- a branch stands past the stub's closed words, and so does its join
  stub_up : (x : PointState) (ca da cb db : List ℕ) → AtStub m n x ca da cb db → (cn : Condition) (off : ℤ) → met m.text text x.point.addr ≡ Some (Jump cn off) → (y : PointState) (pa qa pb qb : List ℕ) →
      kept 0 (add16 x.point.addr 2) ≤ y.point.addr → AgreeAt m y pa qa pb qb → AtStub m n y pa qa pb qb
  stub_up x ca da cb db at cn off e y pa qa pb qb le good =
      record { agree = good; entry = λ low. absurd (let far = past in omega (arith, far, low)) }
    where
      place : (k : ℕ) → word_number m x.point.addr ≡ k → x.point.addr ≡ m.text.start + 2 * k
      place k f = place_of_word m x.point.addr k shape.text_start f (even_at m x ca da cb db at.agree) at.agree.in_text

      no_jump : (insn : Insn) (a : ℕ) → x.point.addr ≡ a → met m.text text a ≡ Some insn → Some insn ≡ Some (Jump cn off)
      no_jump insn a f g = sym (ap (λ a. met m.text text a) f ∙ g) ∙ e

      no_open : IsOpen (word_number m x.point.addr) → ⊥
      no_open (inl f) = let g = no_jump _ _ (place 10 f) (met_10 terms key m text caller shape domain proper n p facts) in absurd cc
      no_open (inr (inl f)) = let g = no_jump _ _ (place 12 f) (met_12 terms key m text caller shape domain proper n p facts) in absurd cc
      no_open (inr (inr (inl f))) = let g = no_jump _ _ (place 14 f) (met_14 terms key m text caller shape domain proper n p facts) in absurd cc
      no_open (inr (inr (inr f))) = let g = no_jump _ _ (place 16 f) (met_16 terms key m text caller shape domain proper n p facts) in absurd cc

      never : (b : Bool) → (word_number m x.point.addr == 17) ≡ b → HasEntry n b (word_number m x.point.addr) ca cb → ⊥
      never true f h = let g = no_jump _ _ (place 17 (eqb-true (word_number m x.point.addr) 17 f)) (met_17 terms key m text caller shape domain proper n p facts) in absurd cc
      never false f h = no_open h.0

      x_far : 18 < word_number m x.point.addr
      x_far = ⊎_elim (λ far. far) (λ low. absurd (never (word_number m x.point.addr == 17) refl (at.entry low))) (cases_lt 18 (word_number m x.point.addr))

      past : 20 ≤ word_number m y.point.addr
      past =
          let a = x_far in let s0 = shape.text_start in let hi = shape.text_high in let ev = even_at m x ca da cb db at.agree in
          let top : x.point.addr < m.text.end = below x.point.addr at.agree.in_text in
          let step : kept 0 (add16 x.point.addr 2) ≡ x.point.addr + 2 = omega arith in
          let le2 : x.point.addr + 2 ≤ y.point.addr = subst (λ i. i ≤ y.point.addr) step le in
          omega arith
        where
          below : (a : ℕ) → holds m.text a ≡ true → a < m.text.end
          below a h = grind (arith, nat_tests)

stub_with : (domain : FlagDomain) (proper : SoundFlags domain) (ps : List Release) (known : ℕ) (terms : Terms) (key : List ℕ) (m : Module) (text : List ℕ) (arms : List Arm) (P : PointState → Type 0) → Shape m → has_stub m text ≡ true → ClosedUnder domain ps known terms m text arms P → CallsOr ps terms key m text
stub_with domain proper ps known terms key m text arms P shape stub v steps R more e ok da db pa pb agree =
    let j = job_of key m text e.caller in
    let t = m.text.start in
    let n = text_word m text 8 in
    let p = text_word m text 15 in
    let facts = stub_facts m text stub in
    let step = step_arms (step_stub domain terms m text) arms m text in
    let start = start_point known terms m (t + 20) (set (no_secret (t + 20)) 7 Away) in
    let l : Closed (releasing ps step) start P = subst (λ b. Closed (releasing ps (step_arms (cond b (step_stub domain terms m text) (step_of domain terms m text)) arms m text)) (cond b start (start_point known terms m t (no_secret t))) P) stub v in
    let sound : Sound terms m j (AtStub m n) step =
    record {
      weaken = weaken_stub m n;
      cross = λ x ca da cb db at none.
          arms_crossing terms key m text e.caller shape domain proper (step_stub domain terms m text) (stub_refines terms key m text e.caller shape domain proper n p facts) (AtStub m n) (λ x ca da cb db h. h.agree) (stub_up terms key m text e.caller shape domain proper n p facts)
          (λ x ca da cb db h none. stub_crossing terms key m text e.caller shape domain proper n p facts x ca da cb db h none) arms x ca da cb db at none;
    } in
    let core = ok.core_ok in
    let calm : Calm e.core (t + 0) (reg e.core 6) (reg e.core 7) =
    record { long = core.sixteen; nine = core.nine_bits; three = core.zero_three; six_is = refl; seven_is = refl; here = ok.at_start ∙ zero_more t } in
    from_0 terms key m text e.caller shape domain proper n p facts ps R da db (reg e.core 6) (reg e.core 7) (core.words 6) (core.words 7) (more da db pa pb agree)
    (λ out c h few i. always_or ps terms m j refl (AtStub m n) step sound start P l (λ x ca da cb db h. (h.agree.pc_a, h.agree.pc_b)) (λ x ca da cb db h. stub_opens ps m n x ca da cb db h) R more i c da c db
    (stub_begins known terms m text n p shape facts c da db (reg e.core 6) (reg e.core 7) (core.words 7) out h few pa pb agree))
    e.core calm steps
  where
    zero_more : (x : ℕ) → x ≡ x + 0
    zero_more x = omega arith

any_with : (domain : FlagDomain) (proper : SoundFlags domain) (ps : List Release) (known : ℕ) (terms : Terms) (key : List ℕ) (m : Module) (text : List ℕ) (arms : List Arm) (P : PointState → Type 0) → Shape m → ClosedUnder domain ps known terms m text arms P → CallsOr ps terms key m text
any_with domain proper ps known terms key m text arms P shape v = by (has_stub m text) refl
  where
    by : (b : Bool) → has_stub m text ≡ b → CallsOr ps terms key m text
    by true e = stub_with domain proper ps known terms key m text arms P shape e v
    by false e = calls_with domain proper ps known terms key m text arms P shape e v

-- where the data left are looked at only if the cores are equal
weaker : (answers : List ℕ) (R : List ℕ → List ℕ → Type 0) (o p : CallEnd) → ends_but answers R o p → ends_then answers R o p
weaker answers R Running Running h = tt
weaker answers R (Closing c d k) (Closing c' d' k') h = h
weaker answers R (Exit c d k) (Exit c' d' k') h = (h.0, h.1, λ e. h.2)
weaker answers R _ _ h = absurd h

pub one_call : (terms : Terms) (key : List ℕ) (m : Module) (text : List ℕ) (arms : List Arm) → IsSection m.text → IsSection m.ram → VerdictUnder terms m text arms Yes → CallsAlike terms key m text
one_call terms key m text arms t r v =
    alike_alone terms key m text (any_with blurred_flags forgets [] known_words terms key m text arms (λ z. Among z v.0) (shape_of m t r) (closed (flow_under blurred_flags terms m text arms) (start_under terms m text) v.0 v.1 v.3))

pub unrolled_call : (terms : Terms) (key : List ℕ) (m : Module) (text : List ℕ) (arms : List Arm) → IsSection m.text → IsSection m.ram → UnrolledUnder terms m text arms → CallsAlike terms key m text
unrolled_call terms key m text arms t r v =
    alike_alone terms key m text (any_with known_flags follows [] (size_of m.ram / 2) terms key m text arms (OnWay (flow_under known_flags terms m text arms) (start_knowing (size_of m.ram / 2) terms m text) v.0 v.1 v.2) (shape_of m t r)
    (unrolled_closed (flow_under known_flags terms m text arms) (start_knowing (size_of m.ram / 2) terms m text) v.0 v.1 v.2))

pub released_call : (ps : List Release) (terms : Terms) (key : List ℕ) (m : Module) (text : List ℕ) (arms : List Arm) (kept : List PointState) (steps : ℕ) → IsSection m.text → IsSection m.ram →
    IsUnrolled (releasing ps (flow_under known_flags terms m text arms)) (start_knowing (size_of m.ram / 2) terms m text) kept steps → CallsOr ps terms key m text
released_call ps terms key m text arms kept steps t r u =
    any_with known_flags follows ps (size_of m.ram / 2) terms key m text arms (OnWay (releasing ps (flow_under known_flags terms m text arms)) (start_knowing (size_of m.ram / 2) terms m text) kept steps u) (shape_of m t r)
    (unrolled_closed (releasing ps (flow_under known_flags terms m text arms)) (start_knowing (size_of m.ram / 2) terms m text) kept steps u)

even_calls : (terms : Terms) (key : List ℕ) (m : Module) (text : List ℕ) (n : ℕ) (es : List Entrance) (da db : List ℕ) → CallsAlike terms key m text →
    IsData m da → IsData m db → AgreeOn m terms.public da db → All (IsEntry m) es → EvenBut terms.answers key m text n es da db
even_calls terms key m text n [] da db alike pa pb agree h = tt
even_calls terms key m text n (e ∷ es) da db alike pa pb agree h =
    let j = job_of key m text e.caller in
    weaker terms.answers (EvenBut terms.answers key m text n es) (outcome j n (starts e da)) (outcome j n (starts e db))
    (alike n (EvenBut terms.answers key m text n es)
    (λ x y p q a. even_calls terms key m text n es x y alike p q a (λ k d lt. h (suc k) d (omega arith))) e (h 0 e (omega arith)) da db pa pb agree)

pub even_under : (terms : Terms) (key : List ℕ) (m : Module) (text : List ℕ) (arms : List Arm) (n : ℕ) (es : List Entrance) (da db : List ℕ) → IsSection m.text → IsSection m.ram → VerdictUnder terms m text arms Yes →
    IsData m da → IsData m db → AgreeOn m terms.public da db → All (IsEntry m) es → EvenBut terms.answers key m text n es da db
even_under terms key m text arms n es da db t r v pa pb agree h = even_calls terms key m text n es da db (one_call terms key m text arms t r v) pa pb agree h

pub unrolled_under : (terms : Terms) (key : List ℕ) (m : Module) (text : List ℕ) (arms : List Arm) (n : ℕ) (es : List Entrance) (da db : List ℕ) → IsSection m.text → IsSection m.ram → UnrolledUnder terms m text arms →
    IsData m da → IsData m db → AgreeOn m terms.public da db → All (IsEntry m) es → EvenBut terms.answers key m text n es da db
unrolled_under terms key m text arms n es da db t r v pa pb agree h = even_calls terms key m text n es da db (unrolled_call terms key m text arms t r v) pa pb agree h

pub even_lists : (key : List ℕ) (m : Module) (text : List ℕ) (arms : List Arm) (n : ℕ) (es : List Entrance) (da db : List ℕ) → IsSection m.text → IsSection m.ram → VerdictWith m text arms Yes →
    IsData m da → IsData m db → All (IsEntry m) es → EvenBut [] key m text n es da db
even_lists key m text arms n es da db t r v pa pb h = even_under no_terms key m text arms n es da db t r v pa pb (λ i d lt. absurd (omega arith)) h

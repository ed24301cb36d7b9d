-- The files that a command needs: each holds one thing or has a fault, so that one thing comes of a command.
use Rattle.std.proofs.Common.{◌≡◌, ℕ, ◌<◌, List, [], ◌∷◌, length, Some, refl, sym, ◌∙◌, ap, ap₂, subst, arith, inl, inr}
use Rattle.std.specs.Prelude.{IsSomeAnd}
use Rattle.sm_io.specs.Files.{FileMap}
use Rattle.flow_rule.specs.Values.{blurred_flags}
use Rattle.flow_rule.specs.Verdict.{start_under}
use Rattle.flow_rule.specs.Arms.{flow_under}
use Rattle.link_symbols.specs.declared.fault.LinkFault.{LinkFault}
use Rattle.terms_file.specs.declared.Term.{Term}
use Rattle.terms_file.specs.Terms.{terms_text}
use Rattle.flow_rule.specs.declared.Verdict.{Verdict}
use Rattle.cli_files.specs.declared.answers.FileFault.{FileFault}
use Rattle.cli_files.specs.declared.answers.FileFault.TheVariants as fault
use Rattle.cli_files.specs.Files.{Held, IsHeld, most_bytes, HasFault, Need, Holds, HoldAll, IsFirstFault}
use Rattle.cli_calls.specs.Command.{Command, Outcome, gives, runs, refuses, judges, offers, nothing, Answer, IfAnswered, trace_answer, Comes, IsAnswer, IsJudged, IsOffer, verdict_answer, offer_answer, Answers}
use Rattle.cli_files.proofs.OneContent.{one_held, accepted}
use Rattle.flow_rule.proofs.Ends.{some_verdict}
use Rattle.flow_rule.proofs.OneVerdict.{one_verdict}
use Rattle.cli_calls.proofs.Offering.{one_offer, some_offer}

-- Outcomes

one_told : (outcome : Outcome) (a b : Answer) → Answers outcome a → Answers outcome b → a ≡ b
one_told (gives own) a b r s = sym r ∙ s
one_told (runs value entries cycles) a b r s = sym r ∙ s
one_told (judges terms owner text arms) a b r s =
    r.tells ∙ ap verdict_answer (one_verdict (flow_under blurred_flags terms owner text arms) (start_under terms owner text) owner.text.start r.verdict s.verdict r.is s.is) ∙ sym s.tells
one_told (offers granted owner text arms) a b r s =
    let same = one_offer owner text arms granted (length granted) [] r.terms s.terms r.verdict s.verdict r.is s.is in
    r.tells ∙ ap₂ (λ (ts : List Term) (v : Verdict). offer_answer (terms_text ts) v) same.0 same.1 ∙ sym s.tells
one_told (refuses fault name) a b r s = absurd r
one_told nothing a b r s = absurd r

-- Files

module _ (map : FileMap) where
  -- a file that serves has no fault
  serves : (wanted : Need) (held : Held) (f : FileFault) → Holds (Some map) wanted held → HasFault wanted.kind (map wanted.name) f → ⊥
  serves wanted held fault.Absent r h = let is = r.file in cc
  serves wanted held fault.TooLong r h =
      let long = subst (λ o. IsSomeAnd o (λ bytes. most_bytes < length bytes)) r.file h in
      omega (arith, r.short, long)
  serves wanted held (fault.Image refusal) r h = accepted wanted.kind r.bytes held (fault.Image refusal) r.is (subst (λ o. HasFault wanted.kind o (fault.Image refusal)) r.file h).1
  serves wanted held (fault.NoModule id) r h = accepted wanted.kind r.bytes held (fault.NoModule id) r.is (subst (λ o. HasFault wanted.kind o (fault.NoModule id)) r.file h).1
  serves wanted held (fault.Schedule refusal) r h = accepted wanted.kind r.bytes held (fault.Schedule refusal) r.is (subst (λ o. HasFault wanted.kind o (fault.Schedule refusal)) r.file h).1
  serves wanted held (fault.Challenges refusal) r h = accepted wanted.kind r.bytes held (fault.Challenges refusal) r.is (subst (λ o. HasFault wanted.kind o (fault.Challenges refusal)) r.file h).1
  serves wanted held (fault.Trace refusal) r h = accepted wanted.kind r.bytes held (fault.Trace refusal) r.is (subst (λ o. HasFault wanted.kind o (fault.Trace refusal)) r.file h).1
  serves wanted held (fault.Arms refusal) r h = accepted wanted.kind r.bytes held (fault.Arms refusal) r.is (subst (λ o. HasFault wanted.kind o (fault.Arms refusal)) r.file h).1
  serves wanted held (fault.Terms refusal) r h = accepted wanted.kind r.bytes held (fault.Terms refusal) r.is (subst (λ o. HasFault wanted.kind o (fault.Terms refusal)) r.file h).1
  serves wanted held (fault.Layout refusal) r h = accepted wanted.kind r.bytes held (fault.Layout refusal) r.is (subst (λ o. HasFault wanted.kind o (fault.Layout refusal)) r.file h).1
  serves wanted held (fault.Object refusal) r h = accepted wanted.kind r.bytes held (fault.Object refusal) r.is (subst (λ o. HasFault wanted.kind o (fault.Object refusal)) r.file h).1
  serves wanted held (fault.Script refusal) r h = accepted wanted.kind r.bytes held (fault.Script refusal) r.is (subst (λ o. HasFault wanted.kind o (fault.Script refusal)) r.file h).1
  serves wanted held (fault.Source refusal) r h = accepted wanted.kind r.bytes held (fault.Source refusal) r.is (subst (λ o. HasFault wanted.kind o (fault.Source refusal)) r.file h).1

  one_thing : (wanted : Need) (a b : Held) → Holds (Some map) wanted a → Holds (Some map) wanted b → a ≡ b
  one_thing wanted a b r s =
      let same : Some s.bytes ≡ Some r.bytes = sym s.file ∙ r.file in
      let bytes : s.bytes ≡ r.bytes = cc in
      one_held wanted.kind r.bytes a b r.is (subst (λ l. IsHeld wanted.kind l b) bytes s.is)

  one_list : (needs : List Need) (xs ys : List Held) → HoldAll (Some map) needs xs → HoldAll (Some map) needs ys → xs ≡ ys
  one_list [] [] [] r s = refl
  one_list [] [] (y ∷ ys) r s = absurd s
  one_list [] (x ∷ xs) ys r s = absurd r
  one_list (wanted ∷ needs) [] ys r s = absurd r
  one_list (wanted ∷ needs) (x ∷ xs) [] r s = absurd s
  one_list (wanted ∷ needs) (x ∷ xs) (y ∷ ys) r s = ap₂ (λ (h : Held) (l : List Held). h ∷ l) (one_thing wanted x y r.0 s.0) (one_list needs xs ys r.1 s.1)

  -- one thing comes of a command
  pub one_outcome : (command : Command) (a b : Outcome) → Comes (Some map) command a → Comes (Some map) command b → a ≡ b
  one_outcome command a b r s = sym r.is ∙ ap command.outcome (one_list command.needs r.helds s.helds r.hold s.hold) ∙ s.is

  pub one_answer : (command : Command) (a b : Answer) → IsAnswer (Some map) command a → IsAnswer (Some map) command b → a ≡ b
  one_answer command a b r s = one_told r.outcome a b r.is (subst (λ o. Answers o b) (one_outcome command s.outcome r.outcome s.comes r.comes) s.is)

  all_serve : (needs : List Need) (helds : List Held) → HoldAll (Some map) needs helds → (name : List ℕ) (f : FileFault) → IsFirstFault (Some map) needs name f → ⊥
  all_serve [] helds r name f h = h
  all_serve (wanted ∷ needs) [] r name f h = r
  all_serve (wanted ∷ needs) (held ∷ helds) r name f (inl h) = serves wanted held f r.0 (subst (λ n. HasFault wanted.kind (map n) f) (sym h.0) h.1)
  all_serve (wanted ∷ needs) (held ∷ helds) r name f (inr h) = all_serve needs helds r.1 name f h.1

  -- where something comes of a command, no file has a fault
  pub no_first_fault : (command : Command) (outcome : Outcome) → Comes (Some map) command outcome → (name : List ℕ) (f : FileFault) → IsFirstFault (Some map) command.needs name f → ⊥
  no_first_fault command outcome r name f h = all_serve command.needs r.helds r.hold name f h

  pub no_fault_of_answer : (command : Command) (answer : Answer) → IsAnswer (Some map) command answer → (name : List ℕ) (f : FileFault) → IsFirstFault (Some map) command.needs name f → ⊥
  no_fault_of_answer command answer a name f h = no_first_fault command a.outcome a.comes name f h

  -- nor do its files refuse to link where it has an answer
  pub no_refusal_of_answer : (command : Command) (answer : Answer) → IsAnswer (Some map) command answer → (fault : LinkFault) (name : List ℕ) → Comes (Some map) command (refuses fault name) → ⊥
  no_refusal_of_answer command answer a fault name r = subst (λ o. Answers o answer) (one_outcome command a.outcome (refuses fault name) a.comes r) a.is

-- what holds of each answer that comes of files holds of one that there is, since every text has a verdict
pub some_answer : (map : FileMap) (command : Command) (outcome : Outcome) (P : Answer → Type 0) → (outcome ≡ nothing → ⊥) → Comes (Some map) command outcome
    → ((answer : Answer) → IsAnswer (Some map) command answer → P answer) → IfAnswered outcome P
some_answer map command (gives own) P some c p = (own, refl, p own (record { outcome = gives own; comes = c; is = refl }))
some_answer map command (runs value entries cycles) P some c p =
    (trace_answer value entries cycles, refl, p (trace_answer value entries cycles) (record { outcome = runs value entries cycles; comes = c; is = refl }))
some_answer map command (judges terms owner text arms) P some c p =
    let v = some_verdict (flow_under blurred_flags terms owner text arms) (start_under terms owner text) owner.text.start in
    let told : IsJudged terms owner text arms (verdict_answer v.0) = record { verdict = v.0; is = v.1; tells = refl } in
    (verdict_answer v.0, told, p (verdict_answer v.0) (record { outcome = judges terms owner text arms; comes = c; is = told }))
some_answer map command (offers granted owner text arms) P some c p =
    let o = some_offer owner text arms granted (length granted) [] in
    let answer = offer_answer (terms_text o.0) o.1 in
    let told : IsOffer granted owner text arms answer = record { terms = o.0; verdict = o.1; is = o.2; tells = refl } in
    (answer, told, p answer (record { outcome = offers granted owner text arms; comes = c; is = told }))
some_answer map command (refuses fault name) P some c p = tt
some_answer map command nothing P some c p = absurd (some refl)

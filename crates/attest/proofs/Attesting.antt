-- The rows of attest.
use Rattle.std.proofs.Common.{refl, ◌≡◌, ℕ, ◌+◌, ◌-◌, ◌*◌, ◌≤◌, List, [], ◌++◌, length, take, drop, Bool, true, if◌then◌else◌, Option, Some, None, sym, ◌∙◌, ap, arith, slice_range, append_assoc, append-nil, drop-drop}
use Rattle.std.specs.Prelude.{bytes_eq}
use Rattle.std.proofs.lemmas.List.{take_at, drop_at}
use Rattle.std.specs.Option.{option_or}
use Rattle.sm_words.specs.Words.{reg}
use Rattle.mod_layout.specs.declared.Module.{Module}
use Rattle.mod_layout.specs.Table.{place_of, size_of}
use Rattle.mod_layout.specs.Tables.{IsSection, IsTable}
use Rattle.mod_keys.specs.Keys.{identity, tag_of}
use Rattle.pc_access.specs.declared.Kind.TheVariants.{Read}
use Rattle.pc_access.specs.declared.Access.{Access}
use Rattle.pc_access.specs.declared.Denied.{Denied}
use Rattle.mod_layout.specs.First.{first_in}
use Rattle.pc_access.specs.Rights.{right}
use Rattle.attest.specs.Units.{Attest, Doer, Effect, answer, attest_answer, attest_plan, attested, blocks, each_byte, genuine, in_range, text_reads, unit_effect, unit_plan}
use Rattle.attest.specs.Accesses.{bytes_read}
use Rattle.attest.specs.internal.Accesses.{text_in}
use Rattle.attest.specs.Done.{effect_in, own_of}
use Rattle.mod_layout.proofs.FirstLemmas.{first_in_append, or_else_none}
use Rattle.attest.proofs.Places.{own_text_allowed, other_text_allowed}
use Rattle.attest.proofs.Rows.{text_values, bytes_read-reads}
use Rattle.attest.proofs.Slices.{length-slice_range}

module _ (who : Doer) (core : List ℕ) where
  abbrev at : ℕ
  at = reg core 13

  -- no module runs
  pub plan_outside : who.own ≡ None → unit_plan who Attest core ≡ []
  unfolding unit_plan
  plan_outside e = ap (λ o. attest_plan o (attested who core) at) e

  pub effect_outside : (values : List ℕ) → who.own ≡ None → unit_effect who Attest core values ≡ answer core 0 6
  unfolding unit_effect
  effect_outside values e = ap (λ o. attest_answer who.key o (attested who core) core values) e

  module _ (own : Module) (own_is : who.own ≡ Some own) where
    -- R12 is in no text
    pub plan_nothing : attested who core ≡ None → unit_plan who Attest core ≡ []
    unfolding unit_plan
    plan_nothing e = ap (λ o. attest_plan o (attested who core) at) own_is ∙ ap (λ o. attest_plan (Some own) o at) e

    pub effect_nothing : (values : List ℕ) → attested who core ≡ None → unit_effect who Attest core values ≡ answer core 0 6
    unfolding unit_effect
    effect_nothing values e =
        ap (λ o. attest_answer who.key o (attested who core) core values) own_is ∙ ap (λ o. attest_answer who.key (Some own) o core values) e

    module _ (other : Module) (other_is : attested who core ≡ Some other) where
      abbrev accesses : List Access
      accesses = each_byte Read at 16 ++ text_reads other ++ text_reads own

      pub plan_by : (b : Bool) → in_range at (at + 16) ≡ b → unit_plan who Attest core ≡ (if b then accesses else [])
      unfolding unit_plan
      plan_by b e = rw (own_is, other_is, e) refl

      abbrev whole : List ℕ → Effect
      whole values = answer core (if genuine who.key own other values then other.id else 0) (6 + 64 * blocks (size_of other.text + 8))

      pub effect_by : (values : List ℕ) (b : Bool) → in_range at (at + 16) ≡ b →
          unit_effect who Attest core values ≡ (if b then whole values else answer core 0 6)
      unfolding unit_effect
      effect_by values b e = rw (own_is, other_is, e) refl

      -- the texts are refused to no one, so the 16 bytes decide
      pub denied_by : (active : Option ℕ) (held : List ℕ) (d : Option Denied) → IsTable who.table → own_of active who.table ≡ Some own →
          in_range at (at + 16) ≡ true → first_in (right who.table active held) (each_byte Read at 16) ≡ d →
          first_in (right who.table active held) (unit_plan who Attest core) ≡ d
      denied_by active held d ok found e bytes =
          let t = who.table in
          let mine : first_in (right t active held) (text_reads own) ≡ None = own_text_allowed t active active held own ok found in
          let others : first_in (right t active held) (text_reads other) ≡ None =
          other_text_allowed t active (place_of t (reg core 12)) held other ok other_is in
          let tag = each_byte Read at 16 in
          rw (plan_by true e, first_in_append (right t active held) (tag ++ text_reads other) (text_reads own), first_in_append (right t active held) tag (text_reads other), mine, others, bytes)
          (or_else_none (option_or d None) ∙ or_else_none d)

      module _ (mem : List ℕ) (size : length mem ≡ 65536) (own_ok : IsSection own.text) (other_ok : IsSection other.text) (e : in_range at (at + 16) ≡ true) (fits : at + 16 ≤ 65536) where
        values_are : bytes_read mem accesses ≡ slice_range mem at (at + 16) ++ (text_in mem other ++ text_in mem own)
        values_are =
            let inside : at + 16 ≤ length mem = omega arith in
            ap (bytes_read mem) (append_assoc (each_byte Read at 16) (text_reads other) (text_reads own))
            ∙ bytes_read-reads mem at 16 (text_reads other ++ text_reads own) inside
            ∙ ap (λ vs. slice_range mem at (at + 16) ++ vs) (text_values mem size other (text_reads own) other_ok
            ∙ ap (λ vs. text_in mem other ++ vs) (ap (bytes_read mem) (sym (append-nil (text_reads own))) ∙ text_values mem size own [] own_ok ∙ append-nil (text_in mem own)))

        abbrev expected : List ℕ
        expected = slice_range mem at (at + 16)

        genuine_is : genuine who.key own other (bytes_read mem accesses)
            ≡ bytes_eq expected (tag_of who.key own (text_in mem own) (identity other (text_in mem other)))
        genuine_is =
            let n = size_of other.text in
            let rest = text_in mem other ++ text_in mem own in
            let o = other_ok.order in let h = other_ok.high in
            let sixteen : length expected ≡ 16 = length-slice_range mem at (at + 16) (omega arith) (omega arith) ∙ (let z : at + 16 - at ≡ 16 = omega arith in z) in
            let long : length (text_in mem other) ≡ n = length-slice_range mem other.text.start other.text.end (omega arith) (omega arith) in
            let back : drop 16 (expected ++ rest) ≡ rest = drop_at expected rest 16 sixteen in
            ap (genuine who.key own other) values_are
            ∙ ap (λ vs. bytes_eq vs (tag_of who.key own (drop (16 + n) (expected ++ rest)) (identity other (take n (drop 16 (expected ++ rest)))))) (take_at expected rest 16 sixteen)
            ∙ ap (λ vs. bytes_eq expected (tag_of who.key own vs (identity other (take n (drop 16 (expected ++ rest))))))
            (sym (drop-drop n 16 (expected ++ rest)) ∙ ap (drop n) back ∙ drop_at (text_in mem other) (text_in mem own) n long)
            ∙ ap (λ vs. bytes_eq expected (tag_of who.key own (text_in mem own) (identity other (take n vs)))) back
            ∙ ap (λ vs. bytes_eq expected (tag_of who.key own (text_in mem own) (identity other vs))) (take_at (text_in mem other) (text_in mem own) n long)

        pub effect_whole : (id : ℕ) →
            id ≡ (if bytes_eq expected (tag_of who.key own (text_in mem own) (identity other (text_in mem other))) then other.id else 0) →
            effect_in who Attest core mem ≡ answer core id (6 + 64 * blocks (size_of other.text + 8))
        effect_whole id id_is =
            effect_by (bytes_read mem (unit_plan who Attest core)) true e
            ∙ ap (λ plan. whole (bytes_read mem plan)) (plan_by true e)
            ∙ ap (λ (b : Bool). answer core (if b then other.id else 0) (6 + 64 * blocks (size_of other.text + 8))) genuine_is
            ∙ ap (λ v. answer core v (6 + 64 * blocks (size_of other.text + 8))) (sym id_is)

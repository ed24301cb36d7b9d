-- The rows of tag.
use Rattle.std.proofs.Common.{refl, ◌≡◌, ℕ, ◌+◌, ◌-◌, ◌*◌, ◌≤◌, ◌<◌, List, [], ◌++◌, length, take, drop, Bool, true, false, if◌then◌else◌, ◌&&◌, Option, Some, None, sym, ◌∙◌, ap, slice_index, arith, slice_range, append_assoc, append-nil}
use Rattle.std.proofs.lemmas.List.{take_at, drop_at}
use Rattle.std.specs.Option.{option_or}
use Rattle.sm_words.specs.Words.{put, reg}
use Rattle.mod_layout.specs.declared.Module.{Module}
use Rattle.mod_layout.specs.Table.{Table, size_of}
use Rattle.mod_layout.specs.Tables.{IsSection, IsTable}
use Rattle.mod_keys.specs.Keys.{tag_of}
use Rattle.pc_access.specs.declared.Kind.TheVariants.{Read, Write}
use Rattle.pc_access.specs.declared.Access.{Access}
use Rattle.mod_layout.specs.First.{first_in}
use Rattle.pc_access.specs.Rights.{right}
use Rattle.attest.specs.declared.UnitDone.{UnitDone}
use Rattle.attest.specs.Units.{Tag, Doer, Effect, answer, blocks, each_byte, in_range, tag_answer, tag_plan, text_reads, unit_effect, unit_plan}
use Rattle.attest.specs.Accesses.{memory_after, bytes_read, writes_of}
use Rattle.attest.specs.internal.Accesses.{text_in}
use Rattle.attest.specs.Done.{IsDone, effect_in, own_of}
use Rattle.mod_layout.proofs.FirstLemmas.{first_in_append, or_else_none}
use Rattle.attest.proofs.Cores.{with_old_pc-answer}
use Rattle.attest.proofs.Finished.{done_by}
use Rattle.attest.proofs.Places.{own_text_allowed}
use Rattle.attest.proofs.Rows.{text_values, bytes_read-reads, bytes_read-writes, writes_of-reads, writes_of-writes}
use Rattle.attest.proofs.Slices.{length-slice_range}

module _ (who : Doer) (core : List ℕ) where
  abbrev from : ℕ
  from = reg core 12

  abbrev to : ℕ
  to = reg core 13

  abbrev out : ℕ
  out = reg core 14

  -- no module runs
  pub plan_outside : who.own ≡ None → unit_plan who Tag core ≡ []
  unfolding unit_plan
  plan_outside e = ap (λ o. tag_plan o from to out) e

  pub effect_outside : (values : List ℕ) → who.own ≡ None → unit_effect who Tag core values ≡ answer core 0 6
  unfolding unit_effect
  effect_outside values e = ap (λ o. tag_answer who.key o core values) e

  module _ (own : Module) (own_is : who.own ≡ Some own) where
    abbrev in_ranges : Bool
    in_ranges = in_range from to && in_range out (out + 16)

    abbrev accesses : List Access
    accesses = each_byte Read from (to - from) ++ each_byte Write out 16 ++ text_reads own

    pub plan_by : (b : Bool) → in_ranges ≡ b → unit_plan who Tag core ≡ (if b then accesses else [])
    unfolding unit_plan
    plan_by b e = ap (λ o. tag_plan o from to out) own_is ∙ ap (λ (x : Bool). if x then accesses else []) e

    abbrev whole : List ℕ → Effect
    whole values = record (answer core 1 (6 + 64 * blocks (to - from))) { stored = tag_of who.key own (drop (to - from) values) (take (to - from) values) }

    pub effect_by : (values : List ℕ) (b : Bool) → in_ranges ≡ b → unit_effect who Tag core values ≡ (if b then whole values else answer core 0 6)
    unfolding unit_effect
    effect_by values b e = rw (own_is, e) refl

    -- the text is refused to no one, so the message and then the output decide
    pub denied_by : (active : Option ℕ) (held : List ℕ) → IsTable who.table → own_of active who.table ≡ Some own → in_ranges ≡ true →
        first_in (right who.table active held) (unit_plan who Tag core)
        ≡ option_or (first_in (right who.table active held) (each_byte Read from (to - from))) (first_in (right who.table active held) (each_byte Write out 16))
    denied_by active held ok found e =
        let t = who.table in
        let bytes = each_byte Read from (to - from) in
        let tag = each_byte Write out 16 in
        ap (first_in (right t active held)) (plan_by true e)
        ∙ first_in_append (right t active held) (bytes ++ tag) (text_reads own)
        ∙ ap (option_or (first_in (right t active held) (bytes ++ tag))) (own_text_allowed t active active held own ok found)
        ∙ or_else_none (first_in (right t active held) (bytes ++ tag))
        ∙ first_in_append (right t active held) bytes tag

    module _ (mem : List ℕ) (size : length mem ≡ 65536) (own_ok : IsSection own.text) (e : in_ranges ≡ true) (order : from ≤ to) (fits : to ≤ 65536) where
      values_are : bytes_read mem accesses ≡ slice_range mem from to ++ text_in mem own
      values_are =
          let inside : from + (to - from) ≤ length mem = omega arith in
          let end : from + (to - from) ≡ to = omega arith in
          ap (bytes_read mem) (append_assoc (each_byte Read from (to - from)) (each_byte Write out 16) (text_reads own))
          ∙ bytes_read-reads mem from (to - from) (each_byte Write out 16 ++ text_reads own) inside
          ∙ ap (λ n. slice_range mem from n ++ bytes_read mem (each_byte Write out 16 ++ text_reads own)) end
          ∙ ap (λ vs. slice_range mem from to ++ vs) (bytes_read-writes mem out 16 (text_reads own)
          ∙ ap (bytes_read mem) (sym (append-nil (text_reads own))) ∙ text_values mem size own [] own_ok ∙ append-nil (text_in mem own))

      writes_are : writes_of (unit_plan who Tag core) ≡ each_byte Write out 16
      writes_are =
          ap writes_of (plan_by true e)
          ∙ ap writes_of (append_assoc (each_byte Read from (to - from)) (each_byte Write out 16) (text_reads own))
          ∙ writes_of-reads from (to - from) (each_byte Write out 16 ++ text_reads own)
          ∙ writes_of-writes out 16 (text_reads own)
          ∙ ap (λ xs. each_byte Write out 16 ++ xs) (ap writes_of (sym (append-nil (text_reads own))) ∙ writes_of-reads own.text.start (size_of own.text) [])
          ∙ append-nil (each_byte Write out 16)

      abbrev tag : List ℕ
      tag = tag_of who.key own (text_in mem own) (slice_range mem from to)

      effect_whole : effect_in who Tag core mem ≡ record (answer core 1 (6 + 64 * blocks (to - from))) { stored = tag }
      effect_whole =
          let n = to - from in
          let long : length (slice_range mem from to) ≡ n = length-slice_range mem from to order (omega arith) in
          let with_tag : List ℕ → Effect = λ stored. record (answer core 1 (6 + 64 * blocks n)) { stored = stored } in
          effect_by (bytes_read mem (unit_plan who Tag core)) true e
          ∙ ap (λ plan. whole (bytes_read mem plan)) (plan_by true e)
          ∙ ap whole values_are
          ∙ ap (λ vs. with_tag (tag_of who.key own vs (take n (slice_range mem from to ++ text_in mem own)))) (drop_at (slice_range mem from to) (text_in mem own) n long)
          ∙ ap (λ vs. with_tag (tag_of who.key own (text_in mem own) vs)) (take_at (slice_range mem from to) (text_in mem own) n long)

      pub tagged : (core' mem' : List ℕ) (table' : Table) (done : UnitDone) → core' ≡ put core 15 1 → mem' ≡ memory_after mem (each_byte Write out 16) tag →
          table' ≡ who.table → done ≡ record { cycles = 6 + 64 * blocks (to - from); closing = false; made = 0 } →
          ((k : ℕ) → slice_index tag k < 256) → IsDone who Tag core mem core' mem' table' done
      tagged core' mem' table' done core_is mem_is table_is done_is bytes =
          done_by who Tag core mem (record (answer core 1 (6 + 64 * blocks (to - from))) { stored = tag }) core' mem' table' done (sym effect_whole)
          (core_is ∙ with_old_pc-answer core 1)
          (mem_is ∙ ap (λ xs. memory_after mem xs tag) (sym writes_are)) table_is bytes done_is

use Rattle.std.proofs.Common.{◌≡◌, ◌∙◌, ◌+◌, ◌-◌, ◌*◌, ◌&&◌, Bool, true, false, Option, Some, None, List, ap, sym, refl, ℕ, slice_range, slice_index, subst, ◌<◌}
use Rattle.std.specs.Option.{option_or}
use Rattle.sm_words.specs.Words.{reg}
use Rattle.mod_layout.specs.Table.{Table}
use Rattle.mod_keys.specs.Keys.{tag_of}
use Rattle.mod_layout.specs.First.{first_in}
use Rattle.pc_access.specs.Rights.{right}
use Rattle.pc_access.specs.declared.Denied.{Denied}
use Rattle.pc_access.specs.declared.Kind.TheVariants.{Read, Write}
use Rattle.attest.specs.declared.UnitDone.{UnitDone}
use Rattle.attest.specs.Units.{blocks, each_byte, in_range}
use Rattle.attest.specs.Done.{doer}
use Rattle.attest.specs.Accesses.{memory_after}
use Rattle.attest.specs.internal.Accesses.{text_in}
use Rattle.attest.proofs.Tagging.{plan_outside, effect_outside, plan_by, effect_by, denied_by, tagged}
use Rattle.attest.proofs.Finished.{answered}
use Rattle.attest.proofs.Places.{and_true, range_of}
use Rattle.attest.proofs.instruction.tag.Goals as goal

-- the ranges of the message and of the output, by the code's numbers
ranges_are : (a b o x y z : ℕ) (r s : Bool) → r ≡ (in_range x y && in_range z (z + 16)) → x ≡ a → y ≡ b → z ≡ o → r ≡ s →
    (in_range a b && in_range o (o + 16)) ≡ s
ranges_are a b o x y z r s e f g h k =
    sym (e ∙ ap (λ n. in_range n y && in_range z (z + 16)) f ∙ ap (λ n. in_range a n && in_range z (z + 16)) g ∙ ap (λ n. in_range a b && in_range n (n + 16)) h) ∙ k

-- the reads of the message, by the code's numbers
message_read : (t : Table) (active : Option ℕ) (held : List ℕ) (a b x y : ℕ) (d : Option Denied) → x ≡ a → y ≡ b → first_in (right t active held) (each_byte Read x (y - x)) ≡ d →
    first_in (right t active held) (each_byte Read a (b - a)) ≡ d
message_read t active held a b x y d f g e = ap (λ n. first_in (right t active held) (each_byte Read n (b - n))) (sym f) ∙ ap (λ n. first_in (right t active held) (each_byte Read x (n - x))) (sym g) ∙ e

pub returns-in_default : goal.returns-in_default
returns-in_default c =
    let who = doer c.args.table.now c.args.who c.args.node_key.now in
    let none = sym c.own.ensures.own ∙ c.in_default.is in
    record {
      denied = tt;
      allowed = λ held. ap (first_in (right c.args.table.now c.args.who.active held)) (plan_outside who c.args.core.now none);
      done = answered _ _ _ _ 0 6 _ _ _ (effect_outside who c.args.core.now _ none) c.answer.ensures.core c.answer.ensures.done refl refl;
      core_kept = tt;
      memory_kept = tt;
      marks = record { marked = refl; room = refl };
    }

pub returns-then-not-has_ranges : goal.returns-then-not-has_ranges
returns-then-not-has_ranges c =
    let t = c.args.table.now in
    let core = c.args.core.now in
    let who = doer t c.args.who c.args.node_key.now in
    let own_is : who.own ≡ Some c.in-Some.own = sym c.own.ensures.own ∙ c.in-Some.is in
    let ranges = ranges_are _ _ _ _ _ _ _ _ c.has_ranges.ensures c.get-start.ensures.word c.get-end.ensures.word c.get-output.ensures.word c.if-not-has_ranges.true in
    record {
      denied = tt;
      allowed = λ held. ap (first_in (right t c.args.who.active held)) (plan_by who core c.in-Some.own own_is false ranges);
      done = answered _ _ _ _ 0 6 _ _ _ (effect_by who core c.in-Some.own own_is _ false ranges) c.answer-then-not-has_ranges.ensures.core c.answer-then-not-has_ranges.ensures.done refl refl;
      core_kept = tt;
      memory_kept = tt;
      marks = record { marked = refl; room = refl };
    }

pub returns-in-Err-clause-denied : goal.returns-in-Err-clause-denied
returns-in-Err-clause-denied c = λ held.
    let t = c.args.table.now in
    let core = c.args.core.now in
    let who = doer t c.args.who c.args.node_key.now in
    let own_is : who.own ≡ Some c.in-Some.own = sym c.own.ensures.own ∙ c.in-Some.is in
    let ranges = ranges_are _ _ _ _ _ _ _ _ c.has_ranges.ensures c.get-start.ensures.word c.get-end.ensures.word c.get-output.ensures.word c.if-not-has_ranges.false in
    let bytes = message_read t c.args.who.active held (reg core 12) (reg core 13) _ _ _ c.get-start.ensures.word c.get-end.ensures.word (c.in-Err.ensures.denied held) in
    denied_by who core c.in-Some.own own_is c.args.who.active held c.in-Some.ensures.table own_is ranges
    ∙ ap (λ d. option_or d (first_in (right t c.args.who.active held) (each_byte Write (reg core 14) 16))) bytes

pub returns-in-Err-check-clause-denied : goal.returns-in-Err-check-clause-denied
returns-in-Err-check-clause-denied c = λ held.
    let t = c.args.table.now in
    let core = c.args.core.now in
    let who = doer t c.args.who c.args.node_key.now in
    let own_is : who.own ≡ Some c.in-Some.own = sym c.own.ensures.own ∙ c.in-Some.is in
    let ranges = ranges_are _ _ _ _ _ _ _ _ c.has_ranges.ensures c.get-start.ensures.word c.get-end.ensures.word c.get-output.ensures.word c.if-not-has_ranges.false in
    let bytes = message_read t c.args.who.active held (reg core 12) (reg core 13) _ _ _ c.get-start.ensures.word c.get-end.ensures.word (c.in_default-check.ensures.allowed held) in
    let output : first_in (right t c.args.who.active held) (each_byte Write (reg core 14) 16) ≡ Some c.in-Err-check.denied =
    ap (λ a. first_in (right t c.args.who.active held) (each_byte Write a 16)) (sym c.get-output.ensures.word) ∙ c.in-Err-check.ensures.denied held in
    denied_by who core c.in-Some.own own_is c.args.who.active held c.in-Some.ensures.table own_is ranges
    ∙ ap (λ d. option_or d (first_in (right t c.args.who.active held) (each_byte Write (reg core 14) 16))) bytes ∙ output

pub returns-clause-allowed : goal.returns-clause-allowed
returns-clause-allowed c = λ held.
    let t = c.args.table.now in
    let core = c.args.core.now in
    let who = doer t c.args.who c.args.node_key.now in
    let own_is : who.own ≡ Some c.in-Some.own = sym c.own.ensures.own ∙ c.in-Some.is in
    let ranges = ranges_are _ _ _ _ _ _ _ _ c.has_ranges.ensures c.get-start.ensures.word c.get-end.ensures.word c.get-output.ensures.word c.if-not-has_ranges.false in
    let bytes = message_read t c.args.who.active held (reg core 12) (reg core 13) _ _ _ c.get-start.ensures.word c.get-end.ensures.word (c.in_default-check.ensures.allowed held) in
    let output : first_in (right t c.args.who.active held) (each_byte Write (reg core 14) 16) ≡ None =
    ap (λ a. first_in (right t c.args.who.active held) (each_byte Write a 16)) (sym c.get-output.ensures.word) ∙ c.in_default-check-2.ensures.allowed held in
    denied_by who core c.in-Some.own own_is c.args.who.active held c.in-Some.ensures.table own_is ranges
    ∙ ap (λ d. option_or d (first_in (right t c.args.who.active held) (each_byte Write (reg core 14) 16))) bytes ∙ output

pub returns-clause-done : goal.returns-clause-done
returns-clause-done c =
    let t = c.args.table.now in
    let core = c.args.core.now in
    let who = doer t c.args.who c.args.node_key.now in
    let own = c.in-Some.own in
    let own_is : who.own ≡ Some own = sym c.own.ensures.own ∙ c.in-Some.is in
    let ranges = ranges_are _ _ _ _ _ _ _ _ c.has_ranges.ensures c.get-start.ensures.word c.get-end.ensures.word c.get-output.ensures.word c.if-not-has_ranges.false in
    let mem = c.args.memory.now.bytes in
    let first = (and_true (in_range (reg core 12) (reg core 13)) (in_range (reg core 14) (reg core 14 + 16)) ranges).0 in
    let range = range_of (reg core 12) (reg core 13) first in
    let tag_is : c.message_tag-tag.result ≡ tag_of who.key own (text_in mem own) (slice_range mem (reg core 12) (reg core 13)) =
    c.message_tag-tag.ensures.tag
    ∙ ap (λ a. tag_of who.key own (text_in mem own) (slice_range mem a c.get-end.result)) c.get-start.ensures.word
    ∙ ap (λ b. tag_of who.key own (text_in mem own) (slice_range mem (reg core 12) b)) c.get-end.ensures.word in
    let stored : c.store.new.memory.bytes ≡ memory_after mem (each_byte Write (reg core 14) 16) (tag_of who.key own (text_in mem own) (slice_range mem (reg core 12) (reg core 13))) =
    c.store.ensures.stored
    ∙ ap (λ a. memory_after mem (each_byte Write a 16) c.message_tag-tag.result) c.get-output.ensures.word
    ∙ ap (memory_after mem (each_byte Write (reg core 14) 16)) tag_is in
    let cycles : 6 + 64 * c.hmac_blocks.result ≡ 6 + 64 * blocks (reg core 13 - reg core 12) =
    ap (λ n. 6 + 64 * n) (c.hmac_blocks.ensures ∙ ap blocks (c.from.ensures
    ∙ ap (λ b. b - c.get-start.result) c.get-end.ensures.word ∙ ap (λ a. reg core 13 - a) c.get-start.ensures.word)) in
    tagged who core own own_is mem c.message_tag-tag.ensures.size c.in-Some.ensures.kept.text_ok ranges range.order range.high _ _ _ _
    c.answer-2.ensures.core stored refl
    (c.answer-2.ensures.done ∙ ap (λ n. let d : UnitDone = record { cycles = n; closing = false; made = 0 } in d) cycles)
    (λ k. subst (λ vs. slice_index vs k < 256) tag_is (c.message_tag-tag.ensures.bytes k))

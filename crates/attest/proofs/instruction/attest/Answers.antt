use Rattle.std.proofs.Common.{◌≡◌, ◌∙◌, ◌+◌, ◌*◌, Bool, true, false, Some, None, ap, sym, refl, if◌then◌else◌, ℕ, slice_range}
use Rattle.std.specs.Prelude.{bytes_eq}
use Rattle.sm_words.specs.Words.{reg}
use Rattle.mod_layout.specs.Table.{place_of, size_of}
use Rattle.mod_layout.specs.First.{first_in}
use Rattle.pc_access.specs.Rights.{right}
use Rattle.pc_access.specs.declared.Kind.TheVariants.{Read}
use Rattle.attest.specs.Units.{answer, attested, blocks, each_byte, in_range, text_at}
use Rattle.attest.specs.Done.{doer}
use Rattle.attest.specs.internal.Accesses.{text_in}
use Rattle.mod_keys.specs.Keys.{identity, tag_of}
use Rattle.attest.proofs.Attesting.{plan_outside, effect_outside, plan_nothing, effect_nothing, plan_by, effect_by, denied_by, effect_whole}
use Rattle.attest.proofs.Finished.{answered}
use Rattle.attest.proofs.Places.{range_of}
use Rattle.attest.proofs.instruction.attest.Goals as goal

-- the range of the expected tag, by the code's numbers
range_is : (a x y : ℕ) (r s : Bool) → r ≡ in_range x (y + 16) → x ≡ a → y ≡ a → r ≡ s → in_range a (a + 16) ≡ s
range_is a x y r s e f g h = sym (e ∙ ap (λ n. in_range n (y + 16)) f ∙ ap (λ n. in_range a (n + 16)) g) ∙ h

pub returns-in_default : goal.returns-in_default
returns-in_default c =
    let who = doer c.args.table.now c.args.who c.args.node_key.now in
    let none = sym c.own.ensures.own ∙ c.in_default.is in
    record {
      denied = tt;
      allowed = λ held. ap (first_in (right c.args.table.now c.args.who.active held)) (plan_outside who c.args.core.now none);
      done = answered _ _ _ _ 0 6 _ _ _ (effect_outside who c.args.core.now _ none) c.answer.ensures.core c.answer.ensures.done refl refl;
      core_kept = tt;
    }

pub returns-in_default-text_module : goal.returns-in_default-text_module
returns-in_default-text_module c =
    let who = doer c.args.table.now c.args.who c.args.node_key.now in
    let own_is : who.own ≡ Some c.in-Some.own = sym c.own.ensures.own ∙ c.in-Some.is in
    let nothing : attested who c.args.core.now ≡ None = ap (λ a. text_at c.args.table.now (place_of c.args.table.now a)) (sym c.get.ensures.word) ∙ sym c.text_module.ensures.text ∙ c.in_default-text_module.is in
    record {
      denied = tt;
      allowed = λ held. ap (first_in (right c.args.table.now c.args.who.active held)) (plan_nothing who c.args.core.now c.in-Some.own own_is nothing);
      done = answered _ _ _ _ 0 6 _ _ _ (effect_nothing who c.args.core.now c.in-Some.own own_is _ nothing) c.answer-in_default-text_module.ensures.core c.answer-in_default-text_module.ensures.done refl refl;
      core_kept = tt;
    }

pub returns-then-not-in_range : goal.returns-then-not-in_range
returns-then-not-in_range c =
    let t = c.args.table.now in
    let core = c.args.core.now in
    let who = doer t c.args.who c.args.node_key.now in
    let own_is : who.own ≡ Some c.in-Some.own = sym c.own.ensures.own ∙ c.in-Some.is in
    let other_is : attested who core ≡ Some c.in-Some-text_module.other =
    ap (λ a. text_at t (place_of t a)) (sym c.get.ensures.word) ∙ sym c.text_module.ensures.text ∙ c.in-Some-text_module.is in
    let range = range_is (reg core 13) _ _ _ _ c.in_range.ensures (c.from.ensures ∙ c.get-expected.ensures.word) (c.from-2.ensures ∙ c.get-expected.ensures.word) c.if-not-in_range.true in
    record {
      denied = tt;
      allowed = λ held. ap (first_in (right t c.args.who.active held)) (plan_by who core c.in-Some.own own_is c.in-Some-text_module.other other_is false range);
      done = answered _ _ _ _ 0 6 _ _ _ (effect_by who core c.in-Some.own own_is c.in-Some-text_module.other other_is _ false range)
          c.answer-then-not-in_range.ensures.core c.answer-then-not-in_range.ensures.done refl refl;
      core_kept = tt;
    }

pub returns-in-Err-clause-denied : goal.returns-in-Err-clause-denied
returns-in-Err-clause-denied c = λ held.
    let t = c.args.table.now in
    let core = c.args.core.now in
    let who = doer t c.args.who c.args.node_key.now in
    let own_is : who.own ≡ Some c.in-Some.own = sym c.own.ensures.own ∙ c.in-Some.is in
    let other_is : attested who core ≡ Some c.in-Some-text_module.other =
    ap (λ a. text_at t (place_of t a)) (sym c.get.ensures.word) ∙ sym c.text_module.ensures.text ∙ c.in-Some-text_module.is in
    let range = range_is (reg core 13) _ _ _ _ c.in_range.ensures (c.from.ensures ∙ c.get-expected.ensures.word) (c.from-2.ensures ∙ c.get-expected.ensures.word) c.if-not-in_range.false in
    denied_by who core c.in-Some.own own_is c.in-Some-text_module.other other_is c.args.who.active held (Some c.in-Err.denied) c.text_module.ensures.table own_is range
    (ap (λ a. first_in (right t c.args.who.active held) (each_byte Read a 16)) (sym c.get-expected.ensures.word) ∙ c.in-Err.ensures.denied held)

pub returns : goal.returns
returns c =
    let t = c.args.table.now in
    let core = c.args.core.now in
    let who = doer t c.args.who c.args.node_key.now in
    let own = c.in-Some.own in
    let other = c.in-Some-text_module.other in
    let own_is : who.own ≡ Some own = sym c.own.ensures.own ∙ c.in-Some.is in
    let other_is : attested who core ≡ Some other =
    ap (λ a. text_at t (place_of t a)) (sym c.get.ensures.word) ∙ sym c.text_module.ensures.text ∙ c.in-Some-text_module.is in
    let range = range_is (reg core 13) _ _ _ _ c.in_range.ensures (c.from.ensures ∙ c.get-expected.ensures.word) (c.from-2.ensures ∙ c.get-expected.ensures.word) c.if-not-in_range.false in
    let mem = c.args.memory.now.bytes in
    let at = reg core 13 in
    let fits = (range_of at (at + 16) range).high in
    let id_is : c.id_if-id.result ≡ (if bytes_eq (slice_range mem at (at + 16)) (tag_of who.key own (text_in mem own) (identity other (text_in mem other))) then other.id else 0) =
    c.id_if-id.ensures ∙ ap (λ (b : Bool). if b then other.id else 0)
    (c.stands_at.ensures.same
    ∙ ap (λ a. bytes_eq (slice_range mem a (a + 16)) c.identity_tag-tag.result) c.get-expected.ensures.word
    ∙ ap (bytes_eq (slice_range mem at (at + 16))) c.identity_tag-tag.ensures) in
    let cycles : 6 + 64 * c.hmac_blocks.result ≡ 6 + 64 * blocks (size_of other.text + 8) =
    ap (λ n. 6 + 64 * n) (c.hmac_blocks.ensures ∙ ap (λ n. blocks (n + 8)) (c.from-length.ensures ∙ c.len.ensures.size)) in
    record {
      denied = tt;
      allowed = λ held. denied_by who core own own_is other other_is c.args.who.active held None c.text_module.ensures.table own_is range
          (ap (λ a. first_in (right t c.args.who.active held) (each_byte Read a 16)) (sym c.get-expected.ensures.word) ∙ c.in_default-check.ensures.allowed held);
      done = answered _ _ _ _ c.id_if-id.result (6 + 64 * c.hmac_blocks.result) _ _ _
          (effect_whole who core own own_is other other_is mem c.stands_at.ensures.size c.in-Some.ensures.kept.text_ok c.in-Some-text_module.ensures.kept.text_ok range fits c.id_if-id.result id_is
          ∙ ap (answer core c.id_if-id.result) (sym cycles))
          c.answer-2.ensures.core c.answer-2.ensures.done refl refl;
      core_kept = tt;
    }

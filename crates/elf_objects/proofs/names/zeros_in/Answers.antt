use Rattle.std.proofs.Common.{ℕ, suc, ◌<◌, List, ◌++◌, ◌∷◌, [], length, get_or, ap, sym, subst, ◌∙◌, append_assoc, arith}
use Rattle.memchr.specs.Find.{is_byte}
use Rattle.memchr.proofs.lemmas.CallerLemmas.{All-places}
use Rattle.elf_objects.proofs.names.zeros_in.Goals as goal

pub loop-place-init : goal.loop-place-init
loop-place-init c =
    let all = All-places (is_byte 0) c.args.bytes.now in
    let same = c.into_iter-place-iterator.ensures.into_iter_gives ∙ c.memchr_iter-place-items.ensures.value in (
      tt,
      tt,
      subst (λ (places : List ℕ). (k d : ℕ) → k < length places → get_or places k d < length c.args.bytes.now) (sym same) (λ k d l. (all k d l).0),
      ap (λ (zeros : List ℕ). zeros ++ c.into_iter-place-iterator.result) c.new-zeros.ensures.items ∙ same,
    )

pub loop-place-preserved : goal.loop-place-preserved
loop-place-preserved c =
    let next = c.in-Some.ensures.steps in
    let kept = c.loop-place.invariant in
    let all = subst (λ (places : List ℕ). (k d : ℕ) → k < length places → get_or places k d < length c.args.bytes.now) next kept.2 in (
      tt,
      tt,
      (λ k d l. all (suc k) d (omega arith)),
      ap (λ (zeros : List ℕ). zeros ++ c.next.new.self) c.in_ok-push.ensures.items
          ∙ (append_assoc c.loop-place.zeros.items (c.in-Some.place ∷ []) c.next.new.self
          ∙ (ap (λ (places : List ℕ). c.loop-place.zeros.items ++ places) (sym next) ∙ kept.3)),
    )

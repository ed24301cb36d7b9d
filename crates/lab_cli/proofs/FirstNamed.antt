-- The first of the addresses that terms name with which something holds, term by term.
use Rattle.std.proofs.Common.{◌≡◌, ℕ, ◌+◌, ◌<◌, Bool, List, length, get_or, drop, find, Option, Some, None, sym, ap, ◌∙◌}
use Rattle.std.specs.Option.{option_or}
use Rattle.std.proofs.lemmas.List.{drop_more}
use Rattle.std.proofs.lemmas.List.Folds.{find-append}
use Rattle.terms_file.specs.declared.Term.{Term}
use Rattle.terms_file.specs.Terms.{public_in, addresses_in}

module _ (test : ℕ → Bool) (terms : List Term) (i : ℕ) (d : Term) (whole : Option ℕ) (low : i < length terms)
    (so : find test (addresses_in (drop i terms)) ≡ whole) where
  -- the next term's, or those of the terms behind it
  by_next : option_or (find test (public_in (get_or terms i d))) (find test (addresses_in (drop (i + 1) terms))) ≡ whole
  by_next =
      let rest = addresses_in (drop (i + 1) terms) in
      sym (find-append test (public_in (get_or terms i d)) rest)
      ∙ (ap (λ ts. find test (addresses_in ts)) (sym (drop_more terms i d low)) ∙ so)

  pub next_has : (addr : ℕ) → Some addr ≡ find test (public_in (get_or terms i d)) → Some addr ≡ whole
  next_has addr is = ap (λ o. option_or o (find test (addresses_in (drop (i + 1) terms)))) is ∙ by_next

  pub next_lacks : None ≡ find test (public_in (get_or terms i d))
      → find test (addresses_in (drop (i + 1) terms)) ≡ whole
  next_lacks none = ap (λ o. option_or o (find test (addresses_in (drop (i + 1) terms)))) none ∙ by_next

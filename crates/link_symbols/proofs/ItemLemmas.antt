-- Names of sections.
use Rattle.std.proofs.Common.{◌≡◌, ◌≢◌, ℕ, List, ◌++◌, false, ap, sym, ◌∙◌, codes}
use Rattle.std.specs.Prelude.{bytes_eq}
use Rattle.std.proofs.lemmas.Slice.Eq.{bytes_eq-Decides}
use Rattle.std.proofs.lemmas.Bool.Decides.{same_from_decides}
use Rattle.std.proofs.lemmas.Bool.{false_from_ne_true}
use Rattle.link_symbols.specs.Parts.{is_named}
use Rattle.std.proofs.lemmas.List.{append_cancel_left}

pub named_none : (name p q : List ℕ) → ((rest : List ℕ) → name ≢ p ++ rest) → bytes_eq name (p ++ q) ≡ false
named_none name p q h = false_from_ne_true (bytes_eq name (p ++ q)) (λ e. h q ((bytes_eq-Decides name (p ++ q)).0 e))

pub named_some : (name p r q : List ℕ) → name ≡ p ++ r → bytes_eq name (p ++ q) ≡ bytes_eq r q
named_some name p r q e =
    same_from_decides (bytes_eq name (p ++ q)) (bytes_eq r q) (bytes_eq-Decides name (p ++ q))
    (λ t. e ∙ ap (λ (x : List ℕ). p ++ x) ((bytes_eq-Decides r q).0 t), λ t. (bytes_eq-Decides r q).1 (append_cancel_left p r q (sym e ∙ t)))

pub named_by : (name p own ending r s : List ℕ) → p ≡ codes ".sm." → name ≡ p ++ r → r ≡ own ++ s → is_named name own ending ≡ bytes_eq s ending
named_by name p own ending r s e f g =
    named_some name (codes ".sm.") r (own ++ ending) (f ∙ ap (λ (x : List ℕ). x ++ r) e) ∙ named_some r own s ending g

pub named_not : (name p own ending r : List ℕ) → p ≡ codes ".sm." → name ≡ p ++ r → ((rest : List ℕ) → r ≢ own ++ rest) → is_named name own ending ≡ false
named_not name p own ending r e f h =
    named_some name (codes ".sm.") r (own ++ ending) (f ∙ ap (λ (x : List ℕ). x ++ r) e) ∙ named_none r own ending h

-- What is kept of the flags holds of both runs.
use Rattle.std.proofs.Common.{◌≡◌, ℕ, ◌∷◌, [], refl, sym, ap, ◌∙◌, Some}
use Rattle.mod_layout.specs.declared.Section.{Section}
use Rattle.flow_rule.specs.declared.Val.{Val}
use Rattle.flow_rule.specs.declared.Val.TheVariants.{Known, Away, Public, Secret}
use Rattle.flow_rule.specs.Values.{FlagDomain, blurred_flags, known_flags, flags_in, blurred, known_number}
use Rattle.flow_rule.proofs.Meaning.{Agrees, over_agrees, over_one_agrees}

pub record SoundFlags (domain : FlagDomain) : Type 0 where
  pub told : (s : Section) (f : ℕ → ℕ → ℕ → ℕ) (u v w : Val) (a b c a' b' c' : ℕ) → Agrees s u a a' → Agrees s v b b' → Agrees s w c c' → Agrees s (domain.told f u v w) (f a b c) (f a' b' c')
  pub held : (s : Section) (w : Val) (a b : ℕ) → Agrees s w a b → Agrees s (domain.held w) (flags_in a) (flags_in b)
  pub cleared : (s : Section) → Agrees s domain.cleared 0 0
  pub known : (s : Section) (u : Val) (f a b : ℕ) → domain.known u ≡ Some f → Agrees s u a b → (a ≡ f) × (b ≡ f)

pub follows : SoundFlags known_flags
follows =
    record {
      told = λ s f u v w a b c a' b' c' p q r. over_agrees s f u v w a b c a' b' c' p q r;
      held = λ s w a b h. over_one_agrees s flags_in w a b h;
      cleared = λ s. (refl, refl);
      known = λ s u f a b e h. number u f a b s e h;
    }
  where
    number : (u : Val) (f a b : ℕ) (s : Section) → known_number u ≡ Some f → Agrees s u a b → (a ≡ f) × (b ≡ f)
    number (Known v) f a b s e h = let g : v ≡ f = cc in (h.0 ∙ g, h.1 ∙ g)
    number _ f a b s e h = absurd cc

pub forgets : SoundFlags blurred_flags
forgets =
    record {
      told = λ s f u v w a b c a' b' c' p q r. blurs s f u v w a b c a' b' c' p q r;
      held = λ s w a b h. one s w a b h;
      cleared = λ s. refl;
      known = λ s u f a b e h. absurd cc;
    }
  where
    one : (s : Section) (w : Val) (a b : ℕ) → Agrees s w a b → Agrees s (blurred (w ∷ [])) (flags_in a) (flags_in b)
    one s (Known v) a b h = ap flags_in (h.0 ∙ sym h.1)
    one s Away a b h = ap flags_in h.0
    one s Public a b h = ap flags_in h
    one s Secret a b h = tt

    blurs : (s : Section) (f : ℕ → ℕ → ℕ → ℕ) (u v w : Val) (a b c a' b' c' : ℕ) → Agrees s u a a' → Agrees s v b b' → Agrees s w c c' → Agrees s (blurred (u ∷ v ∷ w ∷ [])) (f a b c) (f a' b' c')
    blurs s f Secret v w a b c a' b' c' p q r = tt
    blurs s f u Secret w a b c a' b' c' p q r = tt
    blurs s f u v Secret a b c a' b' c' p q r = tt
    blurs s f u v w a b c a' b' c' p q r = cc

-- Secret where one list of places writes, and then another.
use Rattle.std.proofs.Common.{◌≡◌, ℕ, List, [], ◌∷◌, ◌++◌, set, refl}
use Rattle.flow_rule.specs.declared.Val.{Val}
use Rattle.flow_rule.specs.declared.Val.TheVariants.{Secret}
use Rattle.flow_rule.specs.Values.{set_each, put_val}
use Rattle.flow_rule.specs.Arms.{clobbered_core}

pub core_append : (xs ys : List ℕ) (core : List Val) →
    clobbered_core (xs ++ ys) core ≡ clobbered_core ys (clobbered_core xs core)
core_append [] ys core = refl
core_append (x ∷ xs) ys core = core_append xs ys (put_val core x Secret)

pub words_append : (xs ys : List ℕ) (words : List Val) → set_each (xs ++ ys) Secret words ≡ set_each ys Secret (set_each xs Secret words)
words_append [] ys words = refl
words_append (x ∷ xs) ys words = words_append xs ys (set words x Secret)

use Rattle.std.proofs.Common.{◌≡◌, ℕ, List, ◌++◌, map, drop, Bor}
use Rattle.std.specs.Prelude.{option_map}
use Rattle.sm_cli.specs.declared.pairs.Pair.{Pair}
use Rattle.sm_cli.specs.Pairs.{pairs_of}
use Rattle.sm_cli.proofs.pairs.pairs_of.Given as goal

abbrev pub invariant-loop-word : goal.invariant-loop-word
invariant-loop-word l = option_map (λ (more : List Pair). l.pairs.items ++ more) (pairs_of (map (λ (w : Bor (List ℕ)). w.now) (drop l.word-index l.words))) ≡ pairs_of (map (λ (w : Bor (List ℕ)). w.now) l.words)

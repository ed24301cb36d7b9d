use Rattle.std.proofs.Common.{◌≡◌, drop}
use Rattle.lab_cli.specs.PublicWords.{not_data}
use Rattle.lab_cli.proofs.public_words.not_data.Given as goal

-- the first of all terms is the first of those to come
abbrev pub invariant-loop-term : goal.invariant-loop-term
invariant-loop-term l = not_data l.«module» (drop l.term-index l.terms) ≡ not_data l.«module» l.terms

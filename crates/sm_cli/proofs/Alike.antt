-- The runs of a workload are told alike.
use Rattle.std.proofs.Common.{◌≡◌, ℕ, zero, suc, ◌+◌, ◌++◌, List, length, codes, refl, ap₂}
use Rattle.tracer.specs.declared.Event.{Event}
use Rattle.written_machine.specs.Peers.{Peers}
use Rattle.written_machine.specs.View.{boot}
use Rattle.isolation.specs.Laws.{SameEvents, SameEnds}
use Rattle.workload.specs.Program.{image}
use Rattle.workload.specs.Pulses.{pulses}
use Rattle.workload_peers.specs.Laws.{WorkloadsArePeers}
use Rattle.sm_cli.specs.Laws.{RunsAreAlike}
use Rattle.sm_cli.specs.MakeCommand.{events_after, run_text, run_start}
use Rattle.sm_cli.specs.Numbers.{number_line}

module _ (seed v w : ℕ) (peers : Peers (image v) (image w) 1) (events : SameEvents) where
  counts : (n : ℕ) → events_after (boot (image v) (pulses seed 1000)) n ≡ events_after (boot (image w) (pulses seed 1000)) n
  counts zero = refl
  counts (suc n) = ap₂ (λ k (es : List Event). k + length es) (counts n) (events (image v) (image w) 1 (pulses seed 1000) n peers)

pub alike : SameEvents → SameEnds → WorkloadsArePeers → RunsAreAlike
unfolding run_text run_start
alike events ends are_peers seed n v w a b =
    let peers = are_peers v w a b in
    ap₂ (λ k (line : List ℕ). number_line (codes "lines ") (k + 1) ++ line) (counts seed v w peers events n) (ends (image v) (image w) 1 (pulses seed 1000) n peers)

use Rattle.std.proofs.Common.{◌≡◌, ◌+◌, ◌≤◌, ◌^◌, is_some, true, IfSome, ◌∙◌, ap, subst, arith, rules}
use Rattle.sm_words.specs.Sums.{one_if}
use Rattle.written_machine.specs.State.{State}
use Rattle.board.specs.internal.Sound.{LeadsTo, RunsTo}
use Rattle.board.specs.internal.Standing.{state_of}
use Rattle.board.proofs.Leading.{arrived}
use Rattle.board.proofs.machine.Machine.last_since.Goals as goal

pub tick-requires-clause-number : goal.tick-requires-clause-number
tick-requires-clause-number c =
    let m = c.args.self.now in
    let runs : RunsTo m.cycle (state_of c.load.new.self) = (subst (λ o. IfSome o (λ s. LeadsTo s (state_of m))) c.load.ensures.state c.requires.leads).runs_to in
    let there : c.last_before-last.new.self.cycle ≡ m.cycle = ap (λ (s : State). s.cycle) c.last_before-last.ensures.state ∙ arrived m.cycle (state_of c.load.new.self) runs in
    let stopped : is_some m.stop ≡ true = search rules in
    let few : m.cycle + 1 ≤ 2 ^ 62 = subst (λ b. m.cycle + one_if b ≤ 2 ^ 62) stopped c.requires.number in
    omega (arith, there, few)

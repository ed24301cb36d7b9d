use Rattle.std.proofs.Common.{◌≡◌, arith}
use Rattle.reg_backup.specs.declared.backup.Phase.TheVariants.{Run}
use Rattle.written_machine.specs.Passing.{Pads, WaitsOutside, Waits, Sleeps}
use Rattle.board.specs.internal.Standing.{state_of}
use Rattle.board.proofs.Idle.{none_pass}
use Rattle.board.proofs.machine.Machine.idle_cycles.Goals as goal

pub returns-then-is_some-clause-pass : goal.returns-then-is_some-clause-pass
returns-then-is_some-clause-pass c = none_pass (state_of c.args.self.now)

pub returns-in-Pad-default-clause-pass : goal.returns-in-Pad-default-clause-pass
returns-in-Pad-default-clause-pass c = Pads c.in-Pad-default.left c.in-Pad-default.is-0 (omega (arith, c.from.ensures))

pub returns-in-Run-eq0-None-clause-pass : goal.returns-in-Run-eq0-None-clause-pass
returns-in-Run-eq0-None-clause-pass c =
    let ended : c.args.self.now.phase ≡ Run 0 = cc in
    Sleeps ended (c.sleeps.ensures.next c.if-sleeps.true) c.in-Run-eq0-None.is-1 (c.sleeps.ensures.off c.if-sleeps.true) c.calm_cycles.ensures

pub returns-in-Run-eq0-default-clause-pass : goal.returns-in-Run-eq0-default-clause-pass
returns-in-Run-eq0-default-clause-pass c = none_pass (state_of c.args.self.now)

pub returns-in-Run-eq0-default-2-clause-pass : goal.returns-in-Run-eq0-default-2-clause-pass
returns-in-Run-eq0-default-2-clause-pass c = none_pass (state_of c.args.self.now)

pub returns-in-Run-None-clause-pass : goal.returns-in-Run-None-clause-pass
returns-in-Run-None-clause-pass c = WaitsOutside c.in-Run-None.rest c.in-Run-None.is-0 (omega (arith, c.from-in-Run-None.ensures)) c.in-Run-None.is-1

pub returns-in-Run-Some-clause-pass : goal.returns-in-Run-Some-clause-pass
returns-in-Run-Some-clause-pass c =
    Waits c.in-Run-Some.rest c.in-Run-Some.is-0 (omega (arith, c.min.ensures, c.from-in-Run-Some.ensures)) (λ m some few. c.calm_cycles-in-Run-Some.ensures m some (omega (arith, few, c.min.ensures)))

use Rattle.std.proofs.Common.{◌≡◌, ◌+◌, ◌-◌, ◌<◌, true, false, is_some, refl, sym, ◌∙◌, ap, subst, arith}
use Rattle.sm_io.proofs.Putting.{took_same}
use Rattle.written_machine.specs.Cycle.{cycle, after_cycles}
use Rattle.written_machine.specs.Marks.{Marked, at_state}
use Rattle.written_machine.specs.Standing.{stands_at, cycles_until}
use Rattle.written_machine.specs.State.{State}
use Rattle.board.specs.declared.Ran.TheVariants.{SinkFailed}
use Rattle.board.specs.Ran.{RanWhole}
use Rattle.board.specs.internal.Ran.{StandsNotAt}
use Rattle.board.proofs.Runs.{cut_after, ended_runs, ran_on, state_more, stopped_early}
use Rattle.board.proofs.Reaching.{apart_then, apart_stopped, apart_within, until_there, until_never}
use Rattle.board.proofs.Seen.{peers_run}
use Rattle.board.proofs.board.Board.run_until.Goals as goal

-- it stands there
pub returns-then-stands_at-clause-ran : goal.returns-then-stands_at-clause-ran
returns-then-stands_at-clause-ran g c =
    let i = c.loop-left.invariant in
    let n = c.args.most - c.loop-left.left in
    let s = c.args.self.now.present in
    let there : stands_at c.args.addr (after_cycles s n) ≡ true = sym (ap (stands_at c.args.addr) {y = after_cycles s n} i.state) ∙ sym c.stands_at.ensures.stands ∙ c.if-stands_at.true in
    let all = until_there c.args.addr n c.args.most s (omega arith) i.apart there in
    let whole = subst (λ k. RanWhole g.S.Sink.taken g.S.Sink.faults g.S.Sink.sure k s c.loop-left.self.present c.args.sink.now c.loop-left.sink) (sym all) record { state = i.state; lines = i.lines } in
    ended_runs g.S.Sink.taken g.S.Sink.faults g.S.Sink.sure (cycles_until c.args.addr s c.args.most) s c.loop-left.self.present c.args.sink.now c.loop-left.sink _ whole c.ended.ensures.ended

-- it stopped elsewhere
pub returns-then-is_stopped-clause-ran : goal.returns-then-is_stopped-clause-ran
returns-then-is_stopped-clause-ran g c =
    let i = c.loop-left.invariant in
    let n = c.args.most - c.loop-left.left in
    let s = c.args.self.now.present in
    let stopped : is_some c.loop-left.self.present.stop ≡ true = sym c.is_stopped.ensures ∙ c.if-is_stopped.true in
    let elsewhere : stands_at c.args.addr c.loop-left.self.present ≡ false = sym c.stands_at.ensures.stands ∙ c.if-stands_at.false in
    let all = until_never c.args.addr c.args.most s (apart_stopped c.args.addr n c.args.most s c.loop-left.self.present i.state stopped i.apart elsewhere) in
    let early = stopped_early n c.args.most s c.loop-left.self.present (omega arith) i.state stopped in
    let whole : RanWhole g.S.Sink.taken g.S.Sink.faults g.S.Sink.sure c.args.most s c.loop-left.self.present c.args.sink.now c.loop-left.sink = record { state = early.0; lines = took_same g.S.Sink.taken g.S.Sink.faults g.S.Sink.sure _ _ _ _ early.1 i.lines } in
    let met = subst (λ k. RanWhole g.S.Sink.taken g.S.Sink.faults g.S.Sink.sure k s c.loop-left.self.present c.args.sink.now c.loop-left.sink) (sym all) whole in
    ended_runs g.S.Sink.taken g.S.Sink.faults g.S.Sink.sure (cycles_until c.args.addr s c.args.most) s c.loop-left.self.present c.args.sink.now c.loop-left.sink _ met c.ended-then-is_stopped.ensures.ended

-- a line was refused
pub returns-in-Err-clause-ran : goal.returns-in-Err-clause-ran
returns-in-Err-clause-ran g c =
    let i = c.loop-left.invariant in
    let n = c.args.most - c.loop-left.left in
    let s = c.args.self.now.present in
    let u = cycles_until c.args.addr s c.args.most in
    let elsewhere : stands_at c.args.addr (after_cycles s n) ≡ false = sym (ap (stands_at c.args.addr) {y = after_cycles s n} i.state) ∙ sym c.stands_at.ensures.stands ∙ c.if-stands_at.false in
    let before : StandsNotAt c.args.addr (n + 1 + 0) s = apart_then c.args.addr n 0 s (after_cycles s (n + 1)) i.apart elsewhere refl (λ m h. absurd (omega (arith, h))) in
    let next = apart_within c.args.addr (n + 1 + 0) c.args.most s (omega (arith, i.within, c.loop-left-test.true)) before in
    let within : n < u = omega (arith, next) in
    cut_after g.S.Sink.taken g.S.Sink.faults g.S.Sink.sure n u s c.loop-left.self.present c.step.new.self.present c.self.inside.machine.cycle c.as_slice.result.now c.args.sink.now c.loop-left.sink c.put_lines.new.sink
    within i.state (ap (λ (g : Marked). g.present.cycle) c.self.view_is) (c.as_slice.ensures.value ∙ c.step.ensures.events) c.step.ensures.state i.lines c.in-Err.ensures

-- all cycles passed
pub returns-clause-ran : goal.returns-clause-ran
returns-clause-ran g c =
    let i = c.loop-left.invariant in
    let s = c.args.self.now.present in
    let all : c.args.most - c.loop-left.left ≡ c.args.most = omega arith in
    let apart = subst (λ n. StandsNotAt c.args.addr n s) all i.apart in
    let met = until_never c.args.addr c.args.most s apart in
    let whole = subst (λ n. RanWhole g.S.Sink.taken g.S.Sink.faults g.S.Sink.sure n s c.loop-left.self.present c.args.sink.now c.loop-left.sink) (all ∙ sym met) record { state = i.state; lines = i.lines } in
    ended_runs g.S.Sink.taken g.S.Sink.faults g.S.Sink.sure (cycles_until c.args.addr s c.args.most) s c.loop-left.self.present c.args.sink.now c.loop-left.sink _ whole c.ended-2.ensures.ended

pub returns-clause-peers : goal.returns-clause-peers
returns-clause-peers g c =
    peers_run g.S.Sink.taken g.S.Sink.faults g.S.Sink.sure c.texts.ensures.lines (cycles_until c.args.addr c.args.self.now.present c.args.most) c.args.self.now.present c.loop-left.self.present c.args.sink.now c.loop-left.sink _ (returns-clause-ran g c)

pub returns-then-stands_at-clause-peers : goal.returns-then-stands_at-clause-peers
returns-then-stands_at-clause-peers g c =
    peers_run g.S.Sink.taken g.S.Sink.faults g.S.Sink.sure c.texts.ensures.lines (cycles_until c.args.addr c.args.self.now.present c.args.most) c.args.self.now.present c.loop-left.self.present c.args.sink.now c.loop-left.sink _ (returns-then-stands_at-clause-ran g c)

pub returns-then-is_stopped-clause-peers : goal.returns-then-is_stopped-clause-peers
returns-then-is_stopped-clause-peers g c =
    peers_run g.S.Sink.taken g.S.Sink.faults g.S.Sink.sure c.texts.ensures.lines (cycles_until c.args.addr c.args.self.now.present c.args.most) c.args.self.now.present c.loop-left.self.present c.args.sink.now c.loop-left.sink _ (returns-then-is_stopped-clause-ran g c)

pub returns-in-Err-clause-peers : goal.returns-in-Err-clause-peers
returns-in-Err-clause-peers g c =
    peers_run g.S.Sink.taken g.S.Sink.faults g.S.Sink.sure c.texts.ensures.lines (cycles_until c.args.addr c.args.self.now.present c.args.most) c.args.self.now.present c.step.new.self.present c.args.sink.now c.put_lines.new.sink SinkFailed (returns-in-Err-clause-ran g c)

-- a cycle passed, and others in which nothing begins
pub loop-left-preserved : goal.loop-left-preserved
loop-left-preserved g c =
    let i = c.loop-left.invariant in
    let n = c.args.most - c.loop-left.left in
    let k = c.pass_apart-left.result in
    let led = c.pass_apart-left.ensures.leads in
    let s = c.args.self.now.present in
    let elsewhere : stands_at c.args.addr (after_cycles s n) ≡ false = sym (ap (stands_at c.args.addr) {y = after_cycles s n} i.state) ∙ sym c.stands_at.ensures.stands ∙ c.if-stands_at.false in
    let next : c.step.new.self.present ≡ after_cycles s (n + 1) = c.step.ensures.state ∙ ap (λ (b : State). (cycle b).state) i.state ∙ sym (state_more n s) in
    let done : n + 1 + k ≡ c.args.most - (c.loop-left.left - 1 - k) = omega (arith, i.within, c.loop-left-test.true, c.pass_apart-left.ensures.most) in
    let ran = ran_on g.S.Sink.taken g.S.Sink.faults g.S.Sink.sure n k (c.args.most - (c.loop-left.left - 1 - k)) s c.loop-left.self.present c.step.new.self.present c.pass_apart-left.new.self.present c.self.inside.machine.cycle c.as_slice.result.now c.args.sink.now c.loop-left.sink c.put_lines.new.sink
    i.state (ap (λ (g : Marked). g.present.cycle) c.self.view_is) (c.as_slice.ensures.value ∙ c.step.ensures.events) c.step.ensures.state led done i.lines c.in-Ok.ensures in
    record {
      within = omega (arith, i.within);
      state = ran.state;
      lines = ran.lines;
      apart = subst (λ n. StandsNotAt c.args.addr n s) done (apart_then c.args.addr n k s c.step.new.self.present i.apart elsewhere next c.pass_apart-left.ensures.apart);
      number = omega (arith, i.number, i.within, c.loop-left-test.true, c.step.ensures.number, c.pass_apart-left.ensures.number, c.pass_apart-left.ensures.most);
      marks = c.pass_apart-left.ensures.marks ∙ ap (λ (g : Marked). at_state g c.pass_apart-left.new.self.present) (c.step.ensures.marks ∙ ap (λ (g : Marked). at_state g c.step.new.self.present) i.marks);
    }

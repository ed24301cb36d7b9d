use Rattle.std.proofs.Common.{◌≡◌, ℕ, List, ◌++◌, sym, ap, ◌∙◌, Some, None}
use Rattle.sm_words.specs.Words.{word_at}
use Rattle.insn_decode.specs.Code.{insn_of}
use Rattle.insn_decode.specs.declared.insn.Insn.{Insn}
use Rattle.pc_access.specs.declared.Rule.TheVariants.{Illegal}
use Rattle.tracer.specs.declared.Event.{Event}
use Rattle.written_machine.specs.State.{State}
use Rattle.written_machine.specs.Cycle.{Step, pc_of, byte_of, stopped}
use Rattle.board.specs.internal.Standing.{state_of}
use Rattle.board.proofs.Whole.{act_none, act_some}
use Rattle.board.proofs.machine.Machine.act_words.Goals as goal

pub returns-in-None-clause-state : goal.returns-in-None-clause-state
returns-in-None-clause-state c =
    let s : State = state_of c.args.self.now in
    let e : insn_of (word_at (byte_of s) (pc_of s)) c.args.second c.args.third ≡ None = cc in
    c.stop_by.ensures.state
    ∙ ap (λ (a : ℕ). (stopped Illegal a 0 s).state) c.pc-pc.ensures.pc
    ∙ ap (λ (t : Step). t.state) (sym (act_none s c.args.second c.args.third e))

pub returns-in-None-clause-events : goal.returns-in-None-clause-events
returns-in-None-clause-events c =
    let s : State = state_of c.args.self.now in
    let e : insn_of (word_at (byte_of s) (pc_of s)) c.args.second c.args.third ≡ None = cc in
    c.push.ensures.items
    ∙ ap (λ (l : List Event). c.args.events.now.items ++ l) (
    c.stop_by.ensures.event
    ∙ ap (λ (a : ℕ). (stopped Illegal a 0 s).events) c.pc-pc.ensures.pc
    ∙ ap (λ (t : Step). t.events) (sym (act_none s c.args.second c.args.third e)))

pub returns-in-Some-clause-state : goal.returns-in-Some-clause-state
returns-in-Some-clause-state c =
    let s : State = state_of c.args.self.now in
    let insn : Insn = c.in-Some.insn in
    let e : insn_of (word_at (byte_of s) (pc_of s)) c.args.second c.args.third ≡ Some insn = cc in
    c.act_home.ensures.state ∙ ap (λ (t : Step). t.state) (sym (act_some s c.args.second c.args.third insn e))

pub returns-in-Some-clause-events : goal.returns-in-Some-clause-events
returns-in-Some-clause-events c =
    let s : State = state_of c.args.self.now in
    let insn : Insn = c.in-Some.insn in
    let e : insn_of (word_at (byte_of s) (pc_of s)) c.args.second c.args.third ≡ Some insn = cc in
    c.act_home.ensures.events ∙ ap (λ (t : Step). c.args.events.now.items ++ t.events) (sym (act_some s c.args.second c.args.third insn e))

use Rattle.std.proofs.Common.{◌≡◌, ◌∙◌, ◌<◌, ◌≤◌, ◌+◌, ◌-◌, ap, sym, subst, refl, arith, Bool, false, List, ℕ}
use Rattle.sm_words.specs.Words.{reg}
use Rattle.mod_layout.specs.Table.{holds}
use Rattle.mod_layout.specs.declared.Section.{Section}
use Rattle.cpu_step.specs.Lone as lone
use Rattle.lone_run.specs.Ends.{call_answer, data_left}
use Rattle.lone_run.specs.Jobs.{lone_between}
use Rattle.lone_run.specs.internal.Jobs.{lone_call}
use Rattle.lone_run.proofs.Calls.{At, at_exit, at_limit, data_limit, at_broken, at_short, data_short, at_more, at_closed}
use Rattle.lone_run.proofs.calling.run.Goals as goal

-- the answer and the data of an outcome
told : (j : lone.Job) (start : lone.Lone) (limit : ℕ) (o : lone.CallEnd) (ram : List ℕ) → lone.outcome j limit start ≡ o → data_left o (lone.lone_after j start limit).data_bytes ≡ ram →
    (call_answer o ≡ call_answer (lone.outcome j limit start)) × (ram ≡ data_left (lone.outcome j limit start) (lone.lone_after j start limit).data_bytes)
told j start limit o ram e left = (sym (ap call_answer e), sym (ap (λ o. data_left o (lone.lone_after j start limit).data_bytes) e ∙ left))

pub returns-then-not-is_in_text : goal.returns-then-not-is_in_text
returns-then-not-is_in_text c =
    let home = sym c.is_in_text.ensures ∙ c.if-not-is_in_text.true in
    let ends = told (lone_call c.args.job.now) (lone_between c.args.entry c.args.ram.now) c.args.limit _ _ (at_exit c.loop-core.invariant home) refl in
    record { outcome = ends.0; ram = ends.1 }

pub returns-then-cycles-limit : goal.returns-then-cycles-limit
returns-then-cycles-limit c =
    let home = sym c.is_in_text.ensures ∙ c.if-not-is_in_text.false in
    let at = c.loop-core.invariant in
    let last = c.if-cycles-limit.true in
    let ends = told (lone_call c.args.job.now) (lone_between c.args.entry c.args.ram.now) c.args.limit _ _ (at_limit at home last) (data_limit at last) in
    record { outcome = ends.0; ram = ends.1 }

pub returns-in-None : goal.returns-in-None
returns-in-None c =
    let home = sym c.is_in_text.ensures ∙ c.if-not-is_in_text.false in
    let none = sym (c.next_insn.ensures.exact 0 false) ∙ c.in-None.is in
    let ends = told (lone_call c.args.job.now) (lone_between c.args.entry c.args.ram.now) c.args.limit _ _ (at_broken c.loop-core.invariant home none c.if-cycles-limit.false) refl in
    record { outcome = ends.0; ram = ends.1 }

pub returns-then-from-limit : goal.returns-then-from-limit
returns-then-from-limit c =
    let home = sym c.is_in_text.ensures ∙ c.if-not-is_in_text.false in
    let found = sym (c.next_insn.ensures.exact 0 false) ∙ c.in-Some.is in
    let done = c.do_insn-lasts.ensures in
    let more = c.if-cycles-limit.false in
    let cycles : c.from.result ≡ c.do_insn-lasts.result.cycles = omega arith in
    let short : c.args.limit - c.loop-core.cycles < c.do_insn-lasts.result.cycles = omega arith in
    let ends = told (lone_call c.args.job.now) (lone_between c.args.entry c.args.ram.now) c.args.limit _ _
    (at_short c.loop-core.invariant done.some home found done.done more short) (data_short c.loop-core.invariant done.some home found done.done more short) in
    record { outcome = ends.0; ram = ends.1 }

pub returns-then-lasts : goal.returns-then-lasts
returns-then-lasts c =
    let home = sym c.is_in_text.ensures ∙ c.if-not-is_in_text.false in
    let found = sym (c.next_insn.ensures.exact 0 false) ∙ c.in-Some.is in
    let done = c.do_insn-lasts.ensures in
    let cycles : c.from-cycles.result ≡ c.do_insn-lasts.result.cycles = omega arith in
    let same : c.from.result ≡ c.do_insn-lasts.result.cycles = omega arith in
    let fits : c.do_insn-lasts.result.cycles ≤ c.args.limit - c.loop-core.cycles = omega arith in
    let ends = told (lone_call c.args.job.now) (lone_between c.args.entry c.args.ram.now) c.args.limit _ _
    (at_closed c.loop-core.invariant done.some home found done.done fits c.if-lasts.true) refl in
    record { outcome = ap (λ n. call_answer (lone.Closing c.do_insn-lasts.new.core c.do_insn-lasts.new.ram (c.loop-core.cycles + n))) cycles ∙ ends.0; ram = c.clear.ensures ∙ ends.1 }

pub loop-core-preserved : goal.loop-core-preserved
loop-core-preserved c =
    let home = sym c.is_in_text.ensures ∙ c.if-not-is_in_text.false in
    let found = sym (c.next_insn.ensures.exact 0 false) ∙ c.in-Some.is in
    let done = c.do_insn-lasts.ensures in
    let cycles : c.from-cycles.result ≡ c.do_insn-lasts.result.cycles = omega arith in
    let same : c.from.result ≡ c.do_insn-lasts.result.cycles = omega arith in
    let fits : c.do_insn-lasts.result.cycles ≤ c.args.limit - c.loop-core.cycles = omega arith in
    subst (At (lone_call c.args.job.now) (lone_between c.args.entry c.args.ram.now) c.args.limit c.do_insn-lasts.new.core c.do_insn-lasts.new.ram)
    (let e : c.loop-core.cycles + c.do_insn-lasts.result.cycles ≡ c.loop-core.cycles + c.from-cycles.result = omega arith in e)
    (at_more c.loop-core.invariant done.some home found done.done fits c.if-lasts.false)

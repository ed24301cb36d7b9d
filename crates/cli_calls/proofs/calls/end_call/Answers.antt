use Rattle.std.proofs.Common.{◌≡◌, [], Ok, refl, sym, ◌∙◌, ap, subst}
use Rattle.std.specs.Prelude.{IfOk, option_map}
use Rattle.cli_files.specs.declared.answers.Refusal.TheVariants as refusal
use Rattle.cli_files.specs.NameText.{name_text}
use Rattle.cli_calls.specs.Calls.{called, was_run, was_told}
use Rattle.cli_calls.proofs.Ending.{cause_of}
use Rattle.cli_calls.proofs.calls.end_call.Goals as goal

-- no command

pub returns-in-Ok-None-clause-ended : goal.returns-in-Ok-None-clause-ended
returns-in-Ok-None-clause-ended g c = λ asked is.
    let read = c.in-Ok-None.is ∙ ap Ok c.in-Ok-None.field-0-is in
    let none = subst (λ r. IfOk r (λ o. option_map g.C.Answering.asked o ≡ asked)) read is in
    was_told (record { refused = refusal.Usage; name = []; cause = (sym none, refl); tells = c.tell.ensures.told }) refl

-- no memory for the words

pub returns-in-Err-clause-ended : goal.returns-in-Err-clause-ended
returns-in-Err-clause-ended g c = λ asked is. was_told (record { refused = refusal.NoMemory; name = []; cause = (tt, refl); tells = c.tell-in-Err.ensures.told }) refl

-- a command

pub returns-in-Ok-clause-ended : goal.returns-in-Ok-clause-ended
returns-in-Ok-clause-ended g c = λ asked is.
    let read = c.in-Ok-Some.is ∙ ap Ok c.in-Ok-Some.field-0-is in
    let some = subst (λ r. IfOk r (λ o. option_map g.C.Answering.asked o ≡ asked)) read is in
    was_run (record { command = g.C.Answering.asked c.in-Ok-Some.command; asked = sym some; run = c.in-Ok.ensures.ok; quiet = c.in-Ok.ensures.quiet }) refl

pub returns-clause-ended : goal.returns-clause-ended
returns-clause-ended g c = λ asked is.
    let read = c.in-Ok-Some.is ∙ ap Ok c.in-Ok-Some.field-0-is in
    let some = subst (λ r. IfOk r (λ o. option_map g.C.Answering.asked o ≡ asked)) read is in
    let call = called c.args.program.now asked (g.F.Files.content c.args.files.now) (g.F.Files.faults c.args.files.now) (g.F.Files.faults c.answer.new.files) in
    let r = c.in-Err-answer.refused in
    let cause = cause_of call (g.C.Answering.asked c.in-Ok-Some.command) r.refusal (name_text r.name) (sym some) c.in-Err-answer.ensures.refused in
    was_told (record { refused = r.refusal; name = name_text r.name; cause = cause; tells = c.tell-in-Err-answer.ensures.told }) c.in-Err-answer.ensures.nothing

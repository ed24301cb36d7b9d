use Rattle.std.proofs.Common.{rules}
use Rattle.owner_steps.proofs.Finding.{none_read, one_read}
use Rattle.owner_steps.proofs.watching.found_in.Goals as goal

pub returns-in-None : goal.returns-in-None
returns-in-None c =
    let words = c.words-first.result in
    none_read c.args.settled.now words.0 words.1 words.2 c.decode.result (search rules) c.words-first.ensures.first c.decode.ensures.exact c.in-None.is

pub returns-in-Some : goal.returns-in-Some
returns-in-Some c =
    let words = c.words-first.result in
    let all = c.words-first.ensures in
    let found = c.begin_with.ensures in
    one_read c.args.settled.now words.0 words.1 words.2 c.decode.result c.in-Some.insn c.begin_with.result (search rules) all.first all.second all.third c.decode.ensures.exact c.in-Some.is
    found.core found.past found.lines

use Rattle.std.proofs.Common.{sym, ◌∙◌}
use Rattle.texts.proofs.LineLemmas.{cut_at, no_line, rest_at}
use Rattle.texts.proofs.lines.split_line.Goals as goal

pub returns-in-None-clause-no_line : goal.returns-in-None-clause-no_line
returns-in-None-clause-no_line c = (no_line c.args.text.now (sym c.line_end.ensures ∙ c.in-None.is)).lines

pub returns-in-None-clause-whole : goal.returns-in-None-clause-whole
returns-in-None-clause-whole c = (no_line c.args.text.now (sym c.line_end.ensures ∙ c.in-None.is)).behind

pub returns-in-Some-clause-cut : goal.returns-in-Some-clause-cut
returns-in-Some-clause-cut c =
    rw (rest_at c.args.text.now c.in-Some.end) (cut_at c.args.text.now c.in-Some.end (sym c.line_end.ensures ∙ c.in-Some.is)).cut

pub returns-in-Some-clause-lines : goal.returns-in-Some-clause-lines
returns-in-Some-clause-lines c =
    rw (rest_at c.args.text.now c.in-Some.end) (cut_at c.args.text.now c.in-Some.end (sym c.line_end.ensures ∙ c.in-Some.is)).lines

pub returns-in-Some-clause-behind : goal.returns-in-Some-clause-behind
returns-in-Some-clause-behind c =
    rw (rest_at c.args.text.now c.in-Some.end) (cut_at c.args.text.now c.in-Some.end (sym c.line_end.ensures ∙ c.in-Some.is)).behind

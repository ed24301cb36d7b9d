use Rattle.std.proofs.Common.{◌≡◌, length, is_some, ap, sym, ◌∙◌, arith}
use Rattle.asm_text.proofs.OrderLemmas.{once_there, once_new, numbering_more}
use Rattle.asm_text.proofs.symbols.Order.note.Goals as goal

pub returns-then-is_some-clause-noted : goal.returns-then-is_some-clause-noted
returns-then-is_some-clause-noted c =
    let there = c.requires.numbering c.args.name c.index.result.now c.requires.known in
    once_there c.args.self.now.names.items c.args.name (ap is_some (sym (c.index.ensures ∙ there)) ∙ (sym c.is_some.ensures ∙ c.if-is_some.true))

pub returns-clause-noted : goal.returns-clause-noted
returns-clause-noted c =
    let there = c.requires.numbering c.args.name c.index.result.now c.requires.known in
    c.in_ok-push.ensures.items ∙ once_new c.args.self.now.names.items c.args.name (ap is_some (sym (c.index.ensures ∙ there)) ∙ (sym c.is_some.ensures ∙ c.if-is_some.false))

pub returns-clause-numbering : goal.returns-clause-numbering
returns-clause-numbering c =
    let there = c.requires.numbering c.args.name c.index.result.now c.requires.known in
    let size : c.len-number.result ≡ length c.args.self.now.names.items = omega (arith, c.len-number.ensures, c.args.self.now.names.ok.0) in
    rw c.in_ok-push.ensures.items
    (numbering_more c.args.self.now.numbers.items c.args.self.now.names.items c.args.name c.len-number.result c.requires.numbering c.requires.known (ap is_some (sym (c.index.ensures ∙ there)) ∙ (sym c.is_some.ensures ∙ c.if-is_some.false)) size)

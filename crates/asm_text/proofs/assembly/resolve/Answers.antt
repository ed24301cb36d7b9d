use Rattle.std.proofs.Common.{◌≡◌, length, sym, ap, ◌∙◌}
use Rattle.asm_text.specs.Assembly.{name_count}
use Rattle.asm_text.specs.internal.Placed.{placed_of}
use Rattle.asm_text.specs.internal.Read.{source_value}
use Rattle.asm_text.specs.Symbols.{symbol_numbers}
use Rattle.asm_text.proofs.OrderLemmas.{all_numbers}
use Rattle.asm_text.proofs.PlaceLemmas.{length_texts}
use Rattle.asm_text.proofs.ResolveLemmas.{order_same}
use Rattle.asm_text.proofs.assembly.resolve.Goals as goal

pub returns-clause-order : goal.returns-clause-order
returns-clause-order c =
    let size : length c.texts-count.result.now ≡ name_count (source_value c.args.source.now) = sym (length_texts c.texts-count.result.now) ∙ ap length c.texts-count.ensures.texts in
    order_same c.args.source.now.statements.items (placed_of c.args.layout.now) (name_count (source_value c.args.source.now)) c.in_ok-globals.globals.items c.in_ok-order.order.names.items c.requires.sound.known
    (rw (c.deref.ensures.value, size) at c.in_ok-globals.ensures.globals)
    (rw (c.deref-2.ensures.value, c.deref-3.ensures.value, size) at c.in_ok-order.ensures.order)

pub returns-clause-numbers : goal.returns-clause-numbers
returns-clause-numbers c =
    let size : length c.texts-count.result.now ≡ name_count (source_value c.args.source.now) = sym (length_texts c.texts-count.result.now) ∙ ap length c.texts-count.ensures.texts in
    all_numbers c.in_ok-order.order.numbers.items c.in_ok-order.order.names.items (name_count (source_value c.args.source.now)) (c.in_ok-order.ensures.length ∙ size) c.in_ok-order.ensures.numbering
    ∙ ap (λ o. symbol_numbers o (name_count (source_value c.args.source.now))) (returns-clause-order c)

use Rattle.std.proofs.Common.{◌≡◌, length, sym, ap, ◌∙◌}
use Rattle.asm_text.specs.Assembly.{name_count}
use Rattle.asm_text.specs.internal.Placed.{placed_of}
use Rattle.asm_text.specs.internal.Read.{source_value}
use Rattle.asm_text.proofs.OrderedLemmas.{order_kept}
use Rattle.asm_text.proofs.PlaceLemmas.{length_texts}
use Rattle.asm_text.proofs.assembly.symbols_of.Goals as goal

pub symbols_in-requires-clause-known : goal.symbols_in-requires-clause-known
symbols_in-requires-clause-known c =
    let size : length c.texts.result.now ≡ name_count (source_value c.args.source.now) = sym (length_texts c.texts.result.now) ∙ ap length c.texts.ensures.texts in
    rw (c.deref.ensures.value, c.requires.order, size) (order_kept c.args.source.now.statements.items (placed_of c.args.layout.now) (name_count (source_value c.args.source.now)) c.requires.sound.known).low

use Rattle.std.proofs.Common.{ℕ, ◌<◌, Bool, false, length, map, get_or, ap, sym, ◌∙◌, arith}
use Rattle.std.proofs.lemmas.List.{take_all}
use Rattle.asm_text.specs.internal.Maps.{texts_in}
use Rattle.asm_text.proofs.NameLemmas.{name_at}
use Rattle.asm_text.proofs.PlaceLemmas.{length_texts}
use Rattle.asm_text.proofs.SymbolLemmas.{symbol_at, symbols_at}
use Rattle.asm_text.proofs.symbols.symbols_in.Goals as goal

pub symbol_for-requires-clause-name : goal.symbol_for-requires-clause-name
symbol_for-requires-clause-name c =
    let here : c.loop-name.name-index < length c.args.order.now = omega arith in
    let low : get_or c.args.order.now c.loop-name.name-index 0 < length c.args.names.now = c.requires.known c.loop-name.name-index 0 here in
    name_at c.args.names.now (get_or c.args.order.now c.loop-name.name-index 0) _ c.requires.names low

pub returns : goal.returns
returns c =
    let global : ℕ → Bool = λ k. get_or c.args.globals.now k false in
    let size = length_texts c.args.names.now in
    let all = take_all c.loop-name.name-index c.args.order.now (omega (arith, c.loop-name-test.false)) in
    c.loop-name.invariant ∙ (ap (map (symbol_at global (texts_in c.args.names.now) c.args.spots.now)) all
    ∙ sym (symbols_at global (texts_in c.args.names.now) c.args.spots.now c.args.order.now (λ k d low. omega (arith, c.requires.known k d low))))

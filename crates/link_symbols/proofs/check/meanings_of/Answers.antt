use Rattle.std.proofs.Common.{None, get_or, sym, subst}
use Rattle.link_symbols.specs.Passes.{NumberedObject}
use Rattle.link_symbols.specs.Symbols.{NamedValue, named_symbol}
use Rattle.link_symbols.specs.internal.Maps.{name_entry, IsFirst}
use Rattle.link_symbols.proofs.FirstLemmas.{first_here, firsts_within}
use Rattle.link_symbols.proofs.check.meanings_of.Goals as goal

pub bounds-firsts-k : goal.bounds-firsts-k
bounds-firsts-k c =
    let x : NumberedObject = record { number = c.args.number; first = c.args.first; object = c.args.object.now } in
    firsts_within (name_entry c.args.names.now.weak) (named_symbol x) c.args.object.now.symbols c.symbols-symbol-items.result.now c.loop-k.k c.args.firsts.now c.symbols-symbol-items.ensures.value c.loop-k-test.true c.requires.firsts

pub symbol_meaning-requires-clause-first : goal.symbol_meaning-requires-clause-first
symbol_meaning-requires-clause-first c =
    let x : NumberedObject = record { number = c.args.number; first = c.args.first; object = c.args.object.now } in
    subst (λ (s : NamedValue). IsFirst (name_entry c.args.names.now.weak) s (get_or c.args.firsts.now c.loop-k.k None)) (sym c.symbol_at-named.ensures)
    (first_here (name_entry c.args.names.now.weak) (named_symbol x) c.args.object.now.symbols c.symbols-symbol-items.result.now c.loop-k.k _ c.args.firsts.now c.symbols-symbol-items.ensures.value c.loop-k-test.true c.requires.firsts)

use Rattle.std.proofs.Common.{◌+◌, ◌++◌, List, subst, drop}
use Rattle.link_symbols.specs.Passes.{NumberedObject, map_at}
use Rattle.link_symbols.specs.Symbols.{NamedValue, named_symbol}
use Rattle.link_symbols.specs.CommonNames.{borrowed}
use Rattle.link_symbols.specs.internal.Founds.{FoundSoFar}
use Rattle.link_symbols.specs.internal.Values.{named_value}
use Rattle.link_symbols.proofs.FoundCommons.{found_next}
use Rattle.link_symbols.proofs.Steps.{map_at_at, map_at_over}
use Rattle.link_symbols.proofs.commons.find_commons.Goals as goal

pub loop-k-preserved : goal.loop-k-preserved
loop-k-preserved c = λ all rest numbers h.
    let x : NumberedObject = record { number = c.args.number; first = c.args.first; object = c.args.object.now } in
    let more = map_at (named_symbol x) (c.loop-k.k + 1) (drop (c.loop-k.k + 1) c.args.object.now.symbols) in
    let r = subst (λ (l : List NamedValue). FoundSoFar c.args.names.now c.args.first_common all (borrowed c.loop-k.found.items) (l ++ rest))
    (map_at_at (named_symbol x) c.args.object.now.symbols c.symbols-symbol-items.result.now c.loop-k.k _ c.symbols-symbol-items.ensures.value c.loop-k-test.true)
    (c.loop-k.invariant all rest numbers h) in
    found_next c.args.names.now c.args.first_common all numbers (more ++ rest) (borrowed c.loop-k.found.items) (borrowed c.find_common.new.found.items) (named_value c.symbol_at-named.result) _ c.symbol_at-named.ensures c.in_ok-find_common.ensures r

pub returns : goal.returns
returns c = λ all rest numbers h.
    let x : NumberedObject = record { number = c.args.number; first = c.args.first; object = c.args.object.now } in
    subst (λ (l : List NamedValue). FoundSoFar c.args.names.now c.args.first_common all (borrowed c.loop-k.found.items) (l ++ rest))
    (map_at_over (named_symbol x) c.args.object.now.symbols c.symbols-symbol-items.result.now c.loop-k.k c.loop-k.k c.symbols-symbol-items.ensures.value c.loop-k-test.false)
    (c.loop-k.invariant all rest numbers h)

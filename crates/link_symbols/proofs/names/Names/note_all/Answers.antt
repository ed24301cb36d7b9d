use Rattle.std.proofs.Common.{◌+◌, List, ◌∙◌, drop, subst}
use Rattle.link_symbols.specs.Passes.{NumberedObject, map_at}
use Rattle.link_symbols.specs.Symbols.{NamedValue, named_symbol, named_symbols_in}
use Rattle.link_symbols.specs.internal.Values.{named_value}
use Rattle.link_symbols.proofs.Steps.{map_at_at, map_at_over}
use Rattle.link_symbols.proofs.NameLemmas.{Reached, reached_one, reached_one_hit, reached_end}
use Rattle.link_symbols.proofs.names.Names.note_all.Goals as goal

pub returns-in-Err-clause-refusal : goal.returns-in-Err-clause-refusal
returns-in-Err-clause-refusal c = λ before h.
    let x : NumberedObject = record { number = c.args.number; first = c.args.first; object = c.args.object.now } in
    let r = subst (λ (r : List NamedValue). Reached c.loop-k.self before (named_symbols_in x) r) (map_at_at (named_symbol x) c.args.object.now.symbols c.symbols-symbol-items.result.now c.loop-k.k _ c.symbols-symbol-items.ensures.value c.loop-k-test.true) (c.loop-k.invariant.reached before h) in
    reached_one_hit c.loop-k.self before (named_symbols_in x) (map_at (named_symbol x) (c.loop-k.k + 1) (drop (c.loop-k.k + 1) c.args.object.now.symbols)) (named_value c.symbol_at.result) _ c.in-Err.fault c.symbol_at.ensures r c.in-Err.ensures.refusal

pub loop-k-preserved : goal.loop-k-preserved
loop-k-preserved c = record {
  reached = λ before h.
      let x : NumberedObject = record { number = c.args.number; first = c.args.first; object = c.args.object.now } in
      let r = subst (λ (r : List NamedValue). Reached c.loop-k.self before (named_symbols_in x) r) (map_at_at (named_symbol x) c.args.object.now.symbols c.symbols-symbol-items.result.now c.loop-k.k _ c.symbols-symbol-items.ensures.value c.loop-k-test.true) (c.loop-k.invariant.reached before h) in
      reached_one c.loop-k.self c.note.new.self before (named_symbols_in x) (map_at (named_symbol x) (c.loop-k.k + 1) (drop (c.loop-k.k + 1) c.args.object.now.symbols)) (named_value c.symbol_at.result) _ c.symbol_at.ensures r c.in_default.ensures.noted c.in_default.ensures.sound;
  commons = c.in_default.ensures.commons ∙ c.loop-k.invariant.commons;
}

pub returns-clause-sound : goal.returns-clause-sound
returns-clause-sound c = λ before h.
    let x : NumberedObject = record { number = c.args.number; first = c.args.first; object = c.args.object.now } in
    (reached_end c.loop-k.self before (named_symbols_in x) (subst (λ (r : List NamedValue). Reached c.loop-k.self before (named_symbols_in x) r) (map_at_over (named_symbol x) c.args.object.now.symbols c.symbols-symbol-items.result.now c.loop-k.k c.loop-k.k c.symbols-symbol-items.ensures.value c.loop-k-test.false) (c.loop-k.invariant.reached before h))).1

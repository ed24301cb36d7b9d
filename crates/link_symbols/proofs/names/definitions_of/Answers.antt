use Rattle.std.proofs.Common.{◌≡◌, ◌+◌, ℕ, List, [], sym, ap, ◌∙◌, drop, length, subst, arith}
use Rattle.std.specs.List.{flat_map}
use Rattle.link_symbols.specs.Passes.{numbered_objects_from}
use Rattle.link_symbols.specs.Symbols.{NamedValue, named_symbols_in, named_symbols}
use Rattle.link_symbols.specs.internal.Maps.{name_entry}
use Rattle.link_symbols.proofs.Steps.{numbered_step, numbered_over}
use Rattle.link_symbols.proofs.NameLemmas.{Reached, reached_more, reached_hit, reached_end}
use Rattle.link_symbols.proofs.names.definitions_of.Goals as goal

pub returns-in-Err-clause-refusal : goal.returns-in-Err-clause-refusal
returns-in-Err-clause-refusal c =
    let os = c.args.objects.now in let i = c.loop-number.number in let f = c.loop-number.first in
    let step = ap (flat_map named_symbols_in) (numbered_step os i f c.index-objects-number.result c.loop-number-test.true c.index-objects-number.is) in
    let r = subst (λ (r : List NamedValue). Reached c.loop-number.names [] (named_symbols os) r) step c.loop-number.invariant.reached in
    reached_hit c.loop-number.names [] (named_symbols os) (named_symbols_in (record { number = i; first = f; object = c.index-objects-number.result })) _ c.in-Err.fault r c.in-Err.ensures.refusal

pub loop-number-preserved : goal.loop-number-preserved
loop-number-preserved c =
    let os = c.args.objects.now in let i = c.loop-number.number in let f = c.loop-number.first in
    let step = ap (flat_map named_symbols_in) (numbered_step os i f c.index-objects-number.result c.loop-number-test.true c.index-objects-number.is) in
    let r = subst (λ (r : List NamedValue). Reached c.loop-number.names [] (named_symbols os) r) step c.loop-number.invariant.reached in
    let same : length c.sections.result.now ≡ length c.index-objects-number.result.sections = ap length c.sections.ensures.value in
    record {
      reached = subst (λ (n : ℕ). Reached c.note_all.new.self [] (named_symbols os) (flat_map named_symbols_in (numbered_objects_from (i + 1) (f + n) (drop (i + 1) os)))) (sym same)
          (reached_more c.loop-number.names c.note_all.new.self [] (named_symbols os) (named_symbols_in (record { number = i; first = f; object = c.index-objects-number.result })) _ r c.in_default.ensures.noted c.in_default.ensures.sound);
      commons = λ q. ap (λ m. name_entry m q) c.in_default.ensures.commons ∙ c.loop-number.invariant.commons q;
      first = omega arith;
    }

pub returns-clause-sound : goal.returns-clause-sound
returns-clause-sound c =
    let os = c.args.objects.now in let i = c.loop-number.number in
    (reached_end c.loop-number.names [] (named_symbols os) (subst (λ (r : List NamedValue). Reached c.loop-number.names [] (named_symbols os) r) (ap (flat_map named_symbols_in) (numbered_over os i i c.loop-number.first c.loop-number-test.false)) c.loop-number.invariant.reached)).1

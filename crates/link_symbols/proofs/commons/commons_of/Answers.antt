use Rattle.std.proofs.Common.{◌≡◌, ◌+◌, ◌∙◌, ℕ, List, sym, ap, drop, length, subst, arith}
use Rattle.std.specs.List.{flat_map}
use Rattle.link_symbols.specs.Commons.{commons_of, common_at}
use Rattle.link_symbols.specs.Passes.{numbered_objects_from}
use Rattle.link_symbols.specs.Symbols.{NamedValue, named_symbols_in, named_symbols}
use Rattle.link_symbols.specs.CommonNames.{borrowed}
use Rattle.link_symbols.specs.internal.Founds.{FoundSoFar}
use Rattle.link_symbols.proofs.FoundCommons.{found_none, found_all}
use Rattle.link_symbols.proofs.Steps.{numbered_step, numbered_over}
use Rattle.link_symbols.proofs.commons.commons_of.Goals as goal

pub loop-number-init : goal.loop-number-init
loop-number-init c = record { found = subst (λ (l : List (List ℕ)). FoundSoFar c.args.names.now c.section_count-first_common.result (commons_of (named_symbols c.args.objects.now)) l (named_symbols c.args.objects.now)) (sym (ap borrowed c.new-found.ensures.items)) (found_none c.args.names.now c.section_count-first_common.result c.args.objects.now c.requires.numbered.strong); first = omega arith }

pub loop-number-preserved : goal.loop-number-preserved
loop-number-preserved c =
    let os = c.args.objects.now in let i = c.loop-number.number in let f = c.loop-number.first in
    let all = commons_of (named_symbols os) in
    let step = ap (flat_map named_symbols_in) (numbered_step os i f c.index-objects-number.result c.loop-number-test.true c.index-objects-number.is) in
    let r = subst (λ (l : List NamedValue). FoundSoFar c.args.names.now c.section_count-first_common.result all (borrowed c.loop-number.found.items) l) step c.loop-number.invariant.found in
    let same : length c.sections.result.now ≡ length c.index-objects-number.result.sections = ap length c.sections.ensures.value in
    let numbers = λ (q : List ℕ). c.requires.numbered.commons q ∙ ap (λ (n : ℕ). common_at n all q) (sym c.section_count-first_common.ensures.count) in
    let done = c.in_ok-find_commons.ensures all (flat_map named_symbols_in (numbered_objects_from (i + 1) (f + length c.index-objects-number.result.sections) (drop (i + 1) os))) numbers r in
    record {
      found = subst (λ (n : ℕ). FoundSoFar c.args.names.now c.section_count-first_common.result all (borrowed c.find_commons.new.found.items) (flat_map named_symbols_in (numbered_objects_from (i + 1) (f + n) (drop (i + 1) os)))) (sym same) done;
      first = omega (arith, c.loop-number.invariant.first, c.sections.ensures.few);
    }

pub returns : goal.returns
returns c =
    let os = c.args.objects.now in
    found_all c.args.names.now c.section_count-first_common.result (commons_of (named_symbols os)) (borrowed c.loop-number.found.items) _
    (ap (flat_map named_symbols_in) (numbered_over os c.loop-number.number c.loop-number.number c.loop-number.first c.loop-number-test.false)) c.loop-number.invariant.found

use Rattle.std.proofs.Common.{◌≡◌, ◌+◌, ℕ, List, Option, sym, ap, subst, ◌∙◌, length, take, drop, arith}
use Rattle.std.specs.List.{flat_map}
use Rattle.link_symbols.specs.declared.symbol.Meaning.{Meaning}
use Rattle.link_symbols.specs.internal.Maps.{meaning_of_name, name_entry, AreFirsts}
use Rattle.mod_layout.specs.First.{first_in}
use Rattle.link_symbols.specs.Passes.{NumberedObject, numbered_objects, numbered_objects_from}
use Rattle.link_symbols.specs.Refusals.{undefined_in}
use Rattle.link_symbols.specs.Symbols.{named_symbols_in}
use Rattle.link_symbols.proofs.Steps.{first_numbered_more}
use Rattle.link_symbols.proofs.FirstLemmas.{firsts_at}
use Rattle.link_symbols.proofs.MeaningLemmas.{found_more}
use Rattle.link_symbols.proofs.OwnLemmas.{own_one, own_next}
use Rattle.link_symbols.proofs.check.check_symbols.Goals as goal

pub check_object-requires-clause-own : goal.check_object-requires-clause-own
check_object-requires-clause-own c = own_one (meaning_of_name c.args.names.now) c.args.objects.now c.loop-number.number c.loop-number.first c.index-objects-number.result c.loop-number-test.true c.index-objects-number.is c.loop-number.invariant.own

pub split_at-requires : goal.split_at-requires
split_at-requires c =
    let r = firsts_at (name_entry c.args.names.now.weak) c.args.objects.now c.loop-number.number c.loop-number.first c.index-objects-number.result c.loop-number.firsts.now c.loop-number-test.true c.index-objects-number.is c.loop-number.invariant.known in
    omega (arith, r.1.1, ap length c.symbols.ensures.value)

pub check_object-requires-clause-firsts : goal.check_object-requires-clause-firsts
check_object-requires-clause-firsts c =
    let w = name_entry c.args.names.now.weak in
    let x : NumberedObject = record { number = c.loop-number.number; first = c.loop-number.first; object = c.index-objects-number.result } in
    let r = firsts_at w c.args.objects.now c.loop-number.number c.loop-number.first c.index-objects-number.result c.loop-number.firsts.now c.loop-number-test.true c.index-objects-number.is c.loop-number.invariant.known in
    subst (λ (l : List (Option Meaning)). AreFirsts w (named_symbols_in x) l)
    (sym (c.split_at.ensures.front ∙ ap (λ (k : ℕ). take k c.loop-number.firsts.now) (ap length c.symbols.ensures.value))) r.0

pub loop-number-preserved : goal.loop-number-preserved
loop-number-preserved c =
    let w = name_entry c.args.names.now.weak in
    let names = meaning_of_name c.args.names.now in
    let os = c.args.objects.now in let i = c.loop-number.number in let first = c.loop-number.first in let o = c.index-objects-number.result in
    let h = c.loop-number-test.true in let is = c.index-objects-number.is in
    let same : length c.sections.result.now ≡ length o.sections = ap length c.sections.ensures.value in
    let r = firsts_at w os i first o c.loop-number.firsts.now h is c.loop-number.invariant.known in
    let back : c.split_at.result.1.now ≡ drop (length o.symbols) c.loop-number.firsts.now = c.split_at.ensures.back ∙ ap (λ (k : ℕ). drop k c.loop-number.firsts.now) (ap length c.symbols.ensures.value) in
    record {
      faults = first_numbered_more (undefined_in names) os i first (length c.sections.result.now) o (first_in (undefined_in names) (numbered_objects os)) h is c.loop-number.invariant.faults c.in-Ok.ensures.sound same;
      known = subst (λ (n : ℕ). AreFirsts w (flat_map named_symbols_in (numbered_objects_from (i + 1) (first + n) (drop (i + 1) os))) c.split_at.result.1.now) (sym same)
          (subst (λ (l : List (Option Meaning)). AreFirsts w (flat_map named_symbols_in (numbered_objects_from (i + 1) (first + length o.sections) (drop (i + 1) os))) l) (sym back) r.1.0);
      own = own_next names os i first (length c.sections.result.now) o h is same c.loop-number.invariant.own;
      found = found_more names c.loop-number.meanings.items c.push.new.self.items c.in-Ok.found os _ i first (length c.sections.result.now) o h is same c.in_ok-push.ensures.items c.in-Ok.ensures.meanings c.loop-number.invariant.found;
      first = omega (arith, c.loop-number.invariant.first, c.sections.ensures.few);
    }

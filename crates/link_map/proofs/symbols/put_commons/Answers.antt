use Rattle.std.proofs.Common.{◌+◌, ℕ, List, Bor, length, arith, refl, sym, subst, ap, ◌∙◌}
use Rattle.std.specs.Prelude.{slice_index}
use Rattle.std.proofs.lemmas.Option.{slice_get-get_or, slice_get_read}
use Rattle.link_symbols.specs.CommonNames.{borrowed}
use Rattle.link_map.specs.Map.{common_line}
use Rattle.link_map.specs.internal.Values.{HasCommons}
use Rattle.link_map.proofs.Steps.{commons_count, commons_more, item_within, list_end}
use Rattle.link_map.proofs.symbols.put_commons.Goals as goal

pub index-requires : goal.index-requires
index-requires c =
    let within = item_within c.args.linkage.now.commons.items c.args.linkage.now.items.items c.args.first c.loop-k.k c.requires.commons.0 c.requires.commons.1 (omega (arith, ap length c.deref-name-items.ensures.value, c.loop-k-test.true)) in
    omega (arith, within, c.args.linkage.now.items.ok.0)

pub loop-k-preserved : goal.loop-k-preserved
loop-k-preserved c = λ commons h.
    let names = c.deref-name-items.result.now in
    let items = c.args.linkage.now.items.items in
    let item = c.args.first + c.loop-k.k in
    let here = subst (λ (ns : List (Bor (List ℕ))). HasCommons (borrowed ns) items c.args.first commons) (sym c.deref-name-items.ensures.value) h in
    commons_more (slice_index c.args.linkage.now.addresses.items) names items c.args.first c.loop-k.k c.address_of-at.result commons _ c.index.result.now c.loop-k.out.text.items c.put_common.new.out.text.items _ here
    (slice_get-get_or names c.loop-k.k _ c.loop-k-test.true) (slice_get_read items (length items) item c.index.result.now refl (item_within names items c.args.first c.loop-k.k commons here c.loop-k-test.true) c.index.ensures)
    (c.address_of-at.ensures ∙ ap (λ (l : List ℕ). slice_index l item) c.as_slice.ensures.value) (c.loop-k.invariant commons h) c.in_ok-put_common.ensures

pub returns : goal.returns
returns c = λ commons h.
    list_end (common_line (slice_index c.args.linkage.now.addresses.items) c.args.first) commons c.loop-k.k c.loop-k.k c.loop-k.out.text.items _
    (omega (arith, commons_count c.args.linkage.now.commons.items c.args.linkage.now.items.items c.args.first commons h, ap length c.deref-name-items.ensures.value, c.loop-k-test.false)) (c.loop-k.invariant commons h)

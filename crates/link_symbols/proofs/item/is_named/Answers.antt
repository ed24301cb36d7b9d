use Rattle.std.proofs.Common.{◌∙◌, sym, Some, None}
use Rattle.std.proofs.lemmas.Slice.Eq.{strip_prefix_is}
use Rattle.std.proofs.lemmas.Bool.Decides.{Decides-eqb}
use Rattle.link_symbols.proofs.ItemLemmas.{named_by, named_not}
use Rattle.link_symbols.proofs.item.is_named.Goals as goal

pub returns-in-None-strip_prefix : goal.returns-in-None-strip_prefix
returns-in-None-strip_prefix c =
    let first = strip_prefix_is Decides-eqb c.args.name.now c.as_slice.result.now (Some c.in-Some.rest) c.in-Some.ensures.cases in
    let second = strip_prefix_is Decides-eqb c.in-Some.rest.now c.args.own.now None c.in-None-strip_prefix.ensures.cases in
    sym (named_not c.args.name.now c.as_slice.result.now c.args.own.now c.args.ending.now c.in-Some.rest.now c.as_slice.ensures first second)

pub returns-in-Some-strip_prefix : goal.returns-in-Some-strip_prefix
returns-in-Some-strip_prefix c =
    let first = strip_prefix_is Decides-eqb c.args.name.now c.as_slice.result.now (Some c.in-Some.rest) c.in-Some.ensures.cases in
    let second = strip_prefix_is Decides-eqb c.in-Some.rest.now c.args.own.now (Some c.in-Some-strip_prefix.rest) c.in-Some-strip_prefix.ensures.cases in
    c.eq.ensures ∙ sym (named_by c.args.name.now c.as_slice.result.now c.args.own.now c.args.ending.now c.in-Some.rest.now c.in-Some-strip_prefix.rest.now c.as_slice.ensures first second)

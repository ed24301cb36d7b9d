use Rattle.std.proofs.Common.{◌≡◌, map, ap, ◌∙◌, arith}
use Rattle.link_symbols.specs.Resolved.{ResolvedValue, meanings_of}
use Rattle.link_symbols.specs.internal.Meanings.{listed_meanings}
use Rattle.link_symbols.proofs.MeaningLemmas.{meanings_count, meanings_at}
use Rattle.link_symbols.proofs.resolved.Resolved.meanings.Goals as goal

pub index-requires : goal.index-requires
index-requires c =
    let all : map listed_meanings c.self.inside.meanings.items ≡ meanings_of c.args.self.now.objects = c.self.invariant.1.0 ∙ ap (λ (v : ResolvedValue). meanings_of v.objects) c.self.view_is in
    let n = meanings_count c.self.inside.meanings.items c.args.self.now.objects all in
    omega (arith, n, c.requires)

pub returns : goal.returns
returns c =
    let all : map listed_meanings c.self.inside.meanings.items ≡ meanings_of c.args.self.now.objects = c.self.invariant.1.0 ∙ ap (λ (v : ResolvedValue). meanings_of v.objects) c.self.view_is in
    let n = meanings_count c.self.inside.meanings.items c.args.self.now.objects all in
    c.deref.ensures.value ∙ (ap listed_meanings c.index.ensures ∙ meanings_at c.self.inside.meanings.items c.args.self.now.objects c.args.object c.index.result.now (omega (arith, n, c.requires)) all)

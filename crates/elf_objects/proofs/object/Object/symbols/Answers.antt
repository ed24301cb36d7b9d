use Rattle.std.proofs.Common.{◌≡◌, length, ap, subst, ◌∙◌, arith}
use Rattle.std.proofs.lemmas.List.Elements.{All-same}
use Rattle.elf_objects.specs.Object.{ObjectValue, IsObject, IsSymbol}
use Rattle.elf_objects.proofs.LawLemmas.{all_symbols, symbols_few}
use Rattle.elf_objects.proofs.object.Object.symbols.Goals as goal

pub returns-clause-within : goal.returns-clause-within
returns-clause-within c =
    All-same (IsSymbol (length c.args.self.now.file) (length c.args.self.now.sections)) c.deref.result.now c.args.self.now.symbols
    (c.deref.ensures.value ∙ ap (λ (o : ObjectValue). o.symbols) c.self.view_is)
    (all_symbols c.args.self.now (subst IsObject c.self.view_is c.self.invariant.0))

pub returns-clause-few : goal.returns-clause-few
returns-clause-few c =
    let e : length c.deref.result.now ≡ length c.args.self.now.symbols = ap length (c.deref.ensures.value ∙ ap (λ (o : ObjectValue). o.symbols) c.self.view_is) in
    let f = symbols_few c.args.self.now (subst IsObject c.self.view_is c.self.invariant.0) in
    omega (arith, e, f)

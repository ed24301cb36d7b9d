use Rattle.std.proofs.Common.{◌≡◌, List, ℕ, ◌∙◌, map, subst, Option, Some, None}
use Rattle.layout_file.specs.Layout.{layout_of}
use Rattle.link_symbols.specs.declared.item.Item.{Item}
use Rattle.link_symbols.specs.declared.symbol.Meaning.{Meaning}
use Rattle.link_symbols.specs.Names.{stands_for}
use Rattle.link_symbols.specs.Passes.{numbered_objects}
use Rattle.link_symbols.specs.Resolved.{items_of, meanings_in}
use Rattle.link_symbols.specs.internal.Groups.{stand_fault}
use Rattle.link_symbols.specs.internal.Maps.{meaning_of_name}
use Rattle.link_symbols.specs.internal.Meanings.{listed_meanings}
use Rattle.link_symbols.proofs.InputLemmas.{short_names}
use Rattle.link_symbols.proofs.OrderLemmas.{skip, hit, ext, in_groups}
use Rattle.link_symbols.proofs.resolved.resolve.Goals as goal

pub read_input-requires-clause-names : goal.read_input-requires-clause-names
read_input-requires-clause-names c = short_names c.args.layout.now

pub returns-in-Err-clause-refusal : goal.returns-in-Err-clause-refusal
returns-in-Err-clause-refusal c = λ ne. in_groups _ _ ∙ hit _ _ c.in-Err.fault (c.in-Err.ensures.refusal ne)

pub invariant_of-result : goal.invariant_of-result
invariant_of-result c =
    let os = c.args.objects.now in
    let f = ext (meaning_of_name c.in-Ok.input.names) (stands_for os) c.in-Ok.ensures.names in
    (f, (subst (λ (g : List ℕ → Option Meaning). map listed_meanings c.in-Ok-check_names.meanings.items ≡ map (meanings_in g) (numbered_objects os)) f c.in-Ok-check_names.ensures.meanings, c.in-Ok.ensures.numbered))

pub returns-in-Ok-check_names-clause-sound : goal.returns-in-Ok-check_names-clause-sound
returns-in-Ok-check_names-clause-sound c =
    let l = layout_of c.args.layout.now in let os = c.args.objects.now in
    let f = ext (meaning_of_name c.in-Ok.input.names) (stands_for os) c.in-Ok.ensures.names in
    let i = c.as_slice.ensures.value ∙ c.in-Ok.ensures.items in
    in_groups l os ∙ skip _ _ None c.in-Ok.ensures.sound
    (subst (λ (g : List ℕ → Option Meaning). stand_fault g (items_of l os) l os ≡ None) f
    (subst (λ (is : List Item). stand_fault (meaning_of_name c.in-Ok.input.names) is l os ≡ None) i c.in-Ok-check_names.ensures.sound))

pub returns-clause-refusal : goal.returns-clause-refusal
returns-clause-refusal c = λ ne.
    let l = layout_of c.args.layout.now in let os = c.args.objects.now in
    let f = ext (meaning_of_name c.in-Ok.input.names) (stands_for os) c.in-Ok.ensures.names in
    let i = c.as_slice.ensures.value ∙ c.in-Ok.ensures.items in
    in_groups l os ∙ skip _ _ (Some c.in-Err-check_names.fault) c.in-Ok.ensures.sound
    (subst (λ (g : List ℕ → Option Meaning). stand_fault g (items_of l os) l os ≡ Some c.in-Err-check_names.fault) f
    (subst (λ (is : List Item). stand_fault (meaning_of_name c.in-Ok.input.names) is l os ≡ Some c.in-Err-check_names.fault) i (c.in-Err-check_names.ensures.refusal ne)))

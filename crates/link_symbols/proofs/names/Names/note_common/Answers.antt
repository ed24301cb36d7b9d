use Rattle.std.proofs.Common.{◌≡◌, ℕ, Option, sym, ◌∙◌, subst, refl, length, vec_len, arith}
use Rattle.link_symbols.specs.declared.names.Definition.{Definition}
use Rattle.link_symbols.specs.declared.names.Names.{Names}
use Rattle.link_symbols.specs.Commons.{Common, commons_with_if}
use Rattle.link_symbols.specs.internal.Maps.{HoldsCommons, Notes}
use Rattle.link_symbols.proofs.CommonLemmas.{known_within, holds_known, holds_new, none_of}
use Rattle.link_symbols.proofs.names.Names.note_common.Goals as goal

pub join-requires : goal.join-requires
join-requires c =
    let p : Common = record { name = c.args.s.name.now; size = c.args.size; align = c.args.align } in
    known_within c.args.self.now c.args.items.now.items c.requires.known.0 c.requires.known.1.0 p c.in-Some.number c.requires.known.1.1 (sym c.in-Some.ensures)

pub returns-in-Some-clause-noted : goal.returns-in-Some-clause-noted
returns-in-Some-clause-noted c = λ sections cs h.
    let p : Common = record { name = c.args.s.name.now; size = c.args.size; align = c.args.align } in
    subst (λ (o : Option Definition). HoldsCommons c.args.self.now c.join.new.items.items sections (commons_with_if o cs p)) (sym (sym c.find.ensures ∙ none_of _ c.if-is_some.ensures))
    (holds_known c.args.self.now c.args.self.now c.args.items.now.items c.join.new.items.items sections cs p c.in-Some.number h (sym c.in-Some.ensures) refl c.join.ensures)

pub returns-in_ok-note_number-in-None-clause-noted : goal.returns-in_ok-note_number-in-None-clause-noted
returns-in_ok-note_number-in-None-clause-noted c = λ sections cs h.
    let p : Common = record { name = c.args.s.name.now; size = c.args.size; align = c.args.align } in
    let new : Names = record { strong = c.args.self.now.strong; weak = c.args.self.now.weak; commons = c.note_number.new.commons; firsts = c.args.self.now.firsts } in
    let size : length c.args.items.now.items ≡ vec_len c.args.items.now = omega (arith, c.args.items.now.ok.0) in
    let noted = subst (λ (n : ℕ). Notes c.args.self.now.commons c.note_number.new.commons c.args.s.name.now n) (c.len-number.ensures ∙ sym size) c.in_ok-note_number-in-None.ensures in
    subst (λ (o : Option Definition). HoldsCommons new c.push.new.self.items sections (commons_with_if o cs p)) (sym (sym c.find.ensures ∙ none_of _ c.if-is_some.ensures))
    (holds_new c.args.self.now new c.args.items.now.items c.push.new.self.items sections cs p h (sym c.in-None.ensures) noted c.in_ok-push-in-None.ensures.items)

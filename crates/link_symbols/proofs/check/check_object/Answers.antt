use Rattle.std.proofs.Common.{ap, sym, ◌∙◌, length}
use Rattle.link_symbols.specs.Passes.{NumberedObject, first_at}
use Rattle.link_symbols.specs.internal.Maps.{meaning_of_name}
use Rattle.link_symbols.specs.Resolved.{meaning_at}
use Rattle.link_symbols.specs.internal.Meanings.{gap_at}
use Rattle.link_symbols.proofs.MeaningLemmas.{gaps_are, length_at}
use Rattle.link_symbols.proofs.check.check_object.Goals as goal

pub check_used-requires : goal.check_used-requires
check_used-requires c = record {
  count =
      let x : NumberedObject = record { number = c.args.number; first = c.args.first; object = c.args.object.now } in
      ap length (c.as_slice.ensures.value ∙ c.in-Ok.ensures) ∙ length_at (meaning_at (meaning_of_name c.args.names.now) x) 0 c.args.object.now.symbols;
}

pub returns-in-Err-check_used-clause-refusal : goal.returns-in-Err-check_used-clause-refusal
returns-in-Err-check_used-clause-refusal c = λ ne.
    let x : NumberedObject = record { number = c.args.number; first = c.args.first; object = c.args.object.now } in
    sym (gaps_are (meaning_of_name c.args.names.now) x 0 c.args.object.now.symbols)
    ∙ (ap (first_at (gap_at c.args.number c.args.object.now.relocations) 0) (sym (c.as_slice.ensures.value ∙ c.in-Ok.ensures)) ∙ c.in-Err-check_used.ensures.refusal ne)

pub returns-clause-sound : goal.returns-clause-sound
returns-clause-sound c =
    let x : NumberedObject = record { number = c.args.number; first = c.args.first; object = c.args.object.now } in
    sym (gaps_are (meaning_of_name c.args.names.now) x 0 c.args.object.now.symbols)
    ∙ (ap (first_at (gap_at c.args.number c.args.object.now.relocations) 0) (sym (c.as_slice.ensures.value ∙ c.in-Ok.ensures)) ∙ c.in_default.ensures.sound)

use Rattle.std.proofs.Common.{ℕ, Some, sym, ap, ◌∙◌}
use Rattle.std.proofs.lemmas.Result.{err_from_is_err_and}
use Rattle.mod_layout.specs.declared.Section.{Section}
use Rattle.mod_layout.specs.Table.{fault_of}
use Rattle.image_text.specs.declared.ImageFault.TheVariants.{Table as TableRefuses}
use Rattle.image_text.specs.Refusal.{module_form, section_at}
use Rattle.image_text.proofs.LineTexts.{module_line_of}
use Rattle.image_text.proofs.StageLemmas.{form_fails, due_line, module_refused}
use Rattle.image_text.proofs.reader.add_module.Goals as goal

pub returns-in_err-formed-clause-refused : goal.returns-in_err-formed-clause-refused
returns-in_err-formed-clause-refused c = let p = err_from_is_err_and c.from_residual-in_err-formed.result c.from_residual-in_err-formed.ensures.1 in rw (p.1, p.2) (λ left due.
    form_fails module_form c.in_ok-line.line.text.now c.args.lines.now.spot _ _ c.in_ok-line.line.number c.in_ok-line.line.at c.in_err-formed.field-0.0
    (due_line c.args.lines.now c.next.new.self c.args.table.now left c.in_ok-line.line.text.now c.in_ok-line.ensures.line due)
    c.in_ok-line.ensures.spot.0 c.in_ok-line.ensures.spot.1 c.in_err-formed.ensures.err)

pub digits_word-vendor-requires : goal.digits_word-vendor-requires
digits_word-vendor-requires c = let k = module_line_of c.in_ok-line.line.text.now c.in_ok-formed.ensures.ok in k.vendor

pub section_at-text-requires-clause-start : goal.section_at-text-requires-clause-start
section_at-text-requires-clause-start c = let k = module_line_of c.in_ok-line.line.text.now c.in_ok-formed.ensures.ok in k.text_start

pub section_at-text-requires-clause-end : goal.section_at-text-requires-clause-end
section_at-text-requires-clause-end c = let k = module_line_of c.in_ok-line.line.text.now c.in_ok-formed.ensures.ok in k.text_end

pub section_at-ram-requires-clause-start : goal.section_at-ram-requires-clause-start
section_at-ram-requires-clause-start c = let k = module_line_of c.in_ok-line.line.text.now c.in_ok-formed.ensures.ok in k.ram_start

pub section_at-ram-requires-clause-end : goal.section_at-ram-requires-clause-end
section_at-ram-requires-clause-end c = let k = module_line_of c.in_ok-line.line.text.now c.in_ok-formed.ensures.ok in k.ram_end

pub returns-in-Err-clause-refused : goal.returns-in-Err-clause-refused
returns-in-Err-clause-refused c = λ left due.
    let f = ap (λ (s : Section). fault_of c.args.table.now s (section_at 22 c.in_ok-line.line.text.now)) (sym c.section_at-text.ensures) ∙ ap (λ (s : Section). fault_of c.args.table.now c.section_at-text.result s) (sym c.section_at-ram.ensures) ∙ c.in-Err.ensures.refused in
    module_refused c.args.lines.now c.next.new.self c.args.table.now left c.in_ok-line.line.text.now c.in_ok-line.ensures.line due c.in-Err.fault c.in_ok-formed.ensures.ok f
    ∙ ap (λ (n : ℕ). Some (TableRefuses n c.in-Err.fault)) (sym c.requires)

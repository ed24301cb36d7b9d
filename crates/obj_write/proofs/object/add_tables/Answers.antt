use Rattle.std.proofs.Common.{◌≡◌, ◌+◌, ◌∙◌, ap, sym, length, map, refl, arith, ◌++◌, ◌∷◌, []}
use Rattle.asm_text.specs.Unit.{unit_of}
use Rattle.asm_text.specs.Views.{section_value}
use Rattle.obj_write.specs.Strings.{string_table, name_at}
use Rattle.obj_write.specs.Symbols.{symbol_names}
use Rattle.obj_write.specs.Object.{object_section_names, symtab_section, strtab_section, shstrtab_section}
use Rattle.obj_write.proofs.ObjectLemmas.{part_count, section_name_at, symtab_is, strings_is, table_added, three_added}
use Rattle.obj_write.proofs.object.add_tables.Goals as goal

pub returns : goal.returns
unfolding symtab_section strtab_section shstrtab_section
returns c = λ done is.
    let unit = unit_of c.args.unit.now in
    let count : c.len-count.result ≡ length (map section_value c.args.unit.now.sections.items) = c.len-count.ensures ∙ part_count c.args.unit.now in
    let at = section_name_at unit c.args.names.now (length unit.sections) c.len-count.result c.place.result c.requires.names c.place.ensures count (omega arith) in
    let at2 = section_name_at unit c.args.names.now (length unit.sections + 1) (c.len-count.result + 1) c.place-2.result c.requires.names c.place-2.ensures (ap (λ n. n + 1) count) (omega arith) in
    let at3 = section_name_at unit c.args.names.now (length unit.sections + 2) (c.len-count.result + 2) c.place-3.result c.requires.names c.place-3.ensures (ap (λ n. n + 2) count) (omega arith) in
    let head = symtab_is unit c.place.result (length c.args.symbols.now) c.args.symbols.now c.symbols_head-head.result at c.requires.symbols refl c.symbols_head-head.ensures in
    let a = table_added c.args.sections.now c.add.new.self done c.symbols_head-head.result c.args.symbols.now (symtab_section unit) head c.requires.symbols c.in_ok-add.ensures is in
    let strings = c.deref.ensures.value ∙ c.requires.strings.bytes in
    let head2 = strings_is c.place-2.result (name_at (object_section_names unit) (length unit.sections + 1)) c.len.result c.deref.result.now (string_table (symbol_names unit.symbols)) c.strings_head-head.result
    at2 strings (c.len.ensures ∙ (c.args.strings.now.bytes.ok.0 ∙ sym (ap length c.deref.ensures.value))) c.strings_head-head.ensures in
    let b = table_added c.add.new.self c.add-2.new.self (done ++ symtab_section unit ∷ []) c.strings_head-head.result c.deref.result.now (strtab_section unit)
    head2 strings c.in_ok-add-2.ensures a in
    let names = c.deref-2.ensures.value ∙ c.requires.names.bytes in
    let head3 = strings_is c.place-3.result (name_at (object_section_names unit) (length unit.sections + 2)) c.len-2.result c.deref-2.result.now (string_table (object_section_names unit)) c.strings_head-head-2.result
    at3 names (c.len-2.ensures ∙ (c.args.names.now.bytes.ok.0 ∙ sym (ap length c.deref-2.ensures.value))) c.strings_head-head-2.ensures in
    let d = table_added c.add-2.new.self c.add-3.new.self ((done ++ symtab_section unit ∷ []) ++ strtab_section unit ∷ []) c.strings_head-head-2.result c.deref-2.result.now (shstrtab_section unit)
    head3 names c.in_ok-add-3.ensures b in
    three_added done (symtab_section unit) (strtab_section unit) (shstrtab_section unit) c.add-3.new.self d

use Rattle.std.proofs.Common.{ℕ, List, ◌≡◌, ◌+◌, ◌≤◌, ◌<◌, length, map, set, ap, ◌∙◌, arith}
use Rattle.asm_text.specs.declared.unit.AsmSection.{AsmSection}
use Rattle.asm_text.specs.Emission.{grown}
use Rattle.asm_text.specs.internal.Emitted.{emitted_of, meanings_value}
use Rattle.asm_line.specs.Statements.{statement_size}
use Rattle.asm_text.specs.Views.{section_value}
use Rattle.asm_text.proofs.EmissionLemmas.{last_section, index_is, same_at, sections_set, in_last_ok, in_last_err}
use Rattle.asm_text.proofs.emission.Emission.add_in_last.Goals as goal

pub statement_bytes-requires-clause-here : goal.statement_bytes-requires-clause-here
statement_bytes-requires-clause-here c =
    let size : c.in-Some.last + 1 ≡ length c.args.self.now.sections.items = omega (arith, c.in-Some.ensures, c.len.ensures, c.args.self.now.sections.ok.0) in
    let last = last_section c.args.self.now.sections.items c.in-Some.last c.index.result.now size c.index.ensures in
    let room : c.index.result.now.size + statement_size c.args.statement ≤ 65534 = c.requires.room _ last in
    omega arith

pub add_relocations-requires-clause-here : goal.add_relocations-requires-clause-here
add_relocations-requires-clause-here c =
    let size : c.in-Some.last + 1 ≡ length c.args.self.now.sections.items = omega (arith, c.in-Some.ensures, c.len.ensures, c.args.self.now.sections.ok.0) in
    let last = last_section c.args.self.now.sections.items c.in-Some.last c.index.result.now size c.index.ensures in
    let room : c.index.result.now.size + statement_size c.args.statement ≤ 65534 = c.requires.room _ last in
    omega arith

pub returns-in-Err-clause-refused : goal.returns-in-Err-clause-refused
returns-in-Err-clause-refused c = λ ne.
    let size : c.in-Some.last + 1 ≡ length c.args.self.now.sections.items = omega (arith, c.in-Some.ensures, c.len.ensures, c.args.self.now.sections.ok.0) in
    let last = last_section c.args.self.now.sections.items c.in-Some.last c.index.result.now size c.index.ensures in
    in_last_err (meanings_value c.args.meanings.now) c.args.n (emitted_of c.args.self.now) c.in-Some.last (section_value c.index.result.now) c.args.statement c.in-Err.fault last
    (index_is c.args.self.now.sections.items c.in-Some.last size) c.in-Err.ensures

pub grow-requires : goal.grow-requires
grow-requires c =
    let size : c.in-Some.last + 1 ≡ length c.args.self.now.sections.items = omega (arith, c.in-Some.ensures, c.len.ensures, c.args.self.now.sections.ok.0) in
    let last = last_section c.args.self.now.sections.items c.in-Some.last c.index.result.now size c.index.ensures in
    let room : c.index.result.now.size + statement_size c.args.statement ≤ 65534 = c.requires.room _ last in
    let low : c.in-Some.last < length c.args.self.now.sections.items = omega arith in
    let same : c.index_mut.result.now ≡ c.index.result.now = same_at c.args.self.now.sections.items c.add_relocations.new.self.sections.items c.in-Some.last c.index.result.now c.index_mut.result.now (ap (λ v. v.items) c.in_ok-add_relocations.ensures.sections) low c.index.ensures c.index_mut.ensures.value in
    let sizes : c.index_mut.result.now.size ≡ c.index.result.now.size = ap (λ (x : AsmSection). x.size) same in
    omega (arith, c.statement_size.ensures.exact)

pub returns-clause-emitted : goal.returns-clause-emitted
returns-clause-emitted c =
    let size : c.in-Some.last + 1 ≡ length c.args.self.now.sections.items = omega (arith, c.in-Some.ensures, c.len.ensures, c.args.self.now.sections.ok.0) in
    let last = last_section c.args.self.now.sections.items c.in-Some.last c.index.result.now size c.index.ensures in
    let low : c.in-Some.last < length c.args.self.now.sections.items = omega arith in
    let kept : c.add_relocations.new.self.sections.items ≡ c.args.self.now.sections.items = ap (λ v. v.items) c.in_ok-add_relocations.ensures.sections in
    let same : c.index_mut.result.now ≡ c.index.result.now = same_at c.args.self.now.sections.items c.add_relocations.new.self.sections.items c.in-Some.last c.index.result.now c.index_mut.result.now kept low c.index.ensures c.index_mut.ensures.value in
    let more : section_value c.grow.new.section ≡ grown (section_value c.index.result.now) (statement_size c.args.statement) c.in-Ok.bytes.items =
    c.in_ok-grow.ensures
    ∙ (ap (λ (x : AsmSection). grown (section_value x) c.statement_size.result c.as_slice.result.now) same
    ∙ (ap (λ (z : ℕ). grown (section_value c.index.result.now) z c.as_slice.result.now) c.statement_size.ensures.exact
    ∙ ap (λ (bs : List ℕ). grown (section_value c.index.result.now) (statement_size c.args.statement) bs) c.as_slice.ensures.value)) in
    let sections = sections_set c.add_relocations.new.self.sections.items c.in-Some.last c.grow.new.section _ more
    ∙ ap (λ (xs : List AsmSection). set (map section_value xs) c.in-Some.last (grown (section_value c.index.result.now) (statement_size c.args.statement) c.in-Ok.bytes.items)) kept in
    in_last_ok (meanings_value c.args.meanings.now) c.args.n (emitted_of c.args.self.now) _ c.in-Some.last (section_value c.index.result.now) c.args.statement c.in-Ok.bytes.items last
    (index_is c.args.self.now.sections.items c.in-Some.last size) c.in-Ok.ensures sections c.in_ok-add_relocations.ensures.relocations

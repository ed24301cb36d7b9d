use Rattle.mem_map.specs.Contents.{Contents}
use Rattle.std.proofs.Common.{◌≡◌, ◌∙◌, ◌+◌, ◌*◌, Bool, true, false, ℕ, ap, sym, refl, subst, replicate}
use Rattle.std.specs.Option.{is_none}
use Rattle.sm_words.specs.Words.{cleared, put, reg}
use Rattle.mod_layout.specs.declared.Section.{Section}
use Rattle.mod_layout.specs.Table.{size_of, takes, with_module}
use Rattle.mod_layout.specs.Tables.{IsTable}
use Rattle.mod_layout.specs.First.{first_in}
use Rattle.pc_access.specs.Rights.{right}
use Rattle.pc_access.specs.declared.Kind.TheVariants.{Write}
use Rattle.attest.specs.declared.UnitDone.{UnitDone}
use Rattle.attest.specs.Units.{blocks, each_byte, new_ram, new_text}
use Rattle.attest.specs.Done.{doer}
use Rattle.attest.specs.Accesses.{memory_after}
use Rattle.attest.proofs.Protecting.{plan_by, effect_by, table_is_by, made_is_by, allowed_by, protected}
use Rattle.attest.proofs.Finished.{answered}
use Rattle.attest.proofs.Rows.{memory_after-zeros}
use Rattle.attest.proofs.instruction.protect.Goals as goal

abbrev finished : ℕ → Bool → ℕ → UnitDone
finished cycles closing made = record { cycles = cycles; closing = closing; made = made }

pub returns-in-Err-clause-allowed : goal.returns-in-Err-clause-allowed
returns-in-Err-clause-allowed c = λ key held.
    let t = c.args.table.now in let core = c.args.core.now in
    let refused : takes t (new_text core) (new_ram core) ≡ false =
    ap (λ x. takes t x (new_ram core)) (sym c.new_text-text.ensures) ∙ ap (takes t c.new_text-text.result) (sym c.new_ram-ram.ensures) ∙ ap is_none c.in-Err.ensures.refused in
    ap (first_in (right t c.args.who.active held)) (plan_by (doer t c.args.who key) core false refused)

pub returns-in-Err-clause-done : goal.returns-in-Err-clause-done
returns-in-Err-clause-done c = λ key.
    let t = c.args.table.now in let core = c.args.core.now in
    let refused : takes t (new_text core) (new_ram core) ≡ false =
    ap (λ x. takes t x (new_ram core)) (sym c.new_text-text.ensures) ∙ ap (takes t c.new_text-text.result) (sym c.new_ram-ram.ensures) ∙ ap is_none c.in-Err.ensures.refused in
    answered _ _ _ _ 0 6 _ _ _ (effect_by (doer t c.args.who key) core _ false refused) c.answer.ensures.core c.answer.ensures.done
    (c.in-Err.ensures.unchanged ∙ sym (table_is_by (doer t c.args.who key) core false refused)) (sym (made_is_by (doer t c.args.who key) core false refused))

pub returns-in-Ok-clause-allowed : goal.returns-in-Ok-clause-allowed
returns-in-Ok-clause-allowed c = λ key held.
    let t = c.args.table.now in let core = c.args.core.now in
    let taken : takes t (new_text core) (new_ram core) ≡ true =
    ap (λ x. takes t x (new_ram core)) (sym c.new_text-text.ensures) ∙ ap (takes t c.new_text-text.result) (sym c.new_ram-ram.ensures) ∙ ap is_none (c.in-Ok.ensures.accepted.0 refl) in
    let after : c.add.new.self ≡ with_module t (reg core 11) (new_text core) (new_ram core) =
    c.in-Ok.ensures.taken
    ∙ ap (λ v. with_module t v c.new_text-text.result c.new_ram-ram.result) c.get.ensures.word
    ∙ ap (λ x. with_module t (reg core 11) x c.new_ram-ram.result) c.new_text-text.ensures
    ∙ ap (with_module t (reg core 11) (new_text core)) c.new_ram-ram.ensures in
    allowed_by (doer t c.args.who key) core c.args.who.active held taken (subst IsTable after c.in-Ok.ensures.table)

pub returns-in-Ok-clause-done : goal.returns-in-Ok-clause-done
returns-in-Ok-clause-done c = λ key.
    let t = c.args.table.now in let core = c.args.core.now in
    let taken : takes t (new_text core) (new_ram core) ≡ true =
    ap (λ x. takes t x (new_ram core)) (sym c.new_text-text.ensures) ∙ ap (takes t c.new_text-text.result) (sym c.new_ram-ram.ensures) ∙ ap is_none (c.in-Ok.ensures.accepted.0 refl) in
    let after : c.add.new.self ≡ with_module t (reg core 11) (new_text core) (new_ram core) =
    c.in-Ok.ensures.taken
    ∙ ap (λ v. with_module t v c.new_text-text.result c.new_ram-ram.result) c.get.ensures.word
    ∙ ap (λ x. with_module t (reg core 11) x c.new_ram-ram.result) c.new_text-text.ensures
    ∙ ap (with_module t (reg core 11) (new_text core)) c.new_ram-ram.ensures in
    let clearing : c.clear.new.self.bytes ≡ memory_after c.args.memory.now.bytes (each_byte Write (reg core 14) (size_of (new_ram core))) (replicate (size_of (new_ram core)) 0) =
    ap (λ (m : Contents). m.bytes) c.clear.ensures.cleared ∙ ap (λ (r : Section). cleared r.start (size_of r) c.args.memory.now.bytes) c.new_ram-ram.ensures
    ∙ sym (memory_after-zeros (reg core 14) (size_of (new_ram core)) c.args.memory.now.bytes) in
    protected (doer t c.args.who key) core _ _ _ _ _ taken
    (c.answer-done.ensures.core ∙ ap (put core 15) c.in-Ok.ensures.id) clearing after
    (ap (λ (d : UnitDone). finished d.cycles d.closing c.in-Ok.id) c.answer-done.ensures.done
    ∙ ap (λ n. finished (6 + 64 * (n + c.hmac_blocks-in-Ok.result)) false c.in-Ok.id) c.hmac_blocks.ensures
    ∙ ap (λ n. finished (6 + 64 * (blocks 2 + n)) false c.in-Ok.id)
    (c.hmac_blocks-in-Ok.ensures ∙ ap (λ n. blocks (n + 8)) (c.from-length.ensures ∙ c.len.ensures.size ∙ ap size_of c.new_text-text.ensures))
    ∙ ap (finished (6 + 64 * (blocks 2 + blocks (size_of (new_text core) + 8))) false) c.in-Ok.ensures.id)

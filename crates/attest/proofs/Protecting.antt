-- The rows of protect.
use Rattle.std.proofs.Common.{◌≡◌, ℕ, suc, ◌+◌, ◌*◌, ◌<◌, List, [], Bool, true, false, if◌then◌else◌, Option, None, sym, ◌∙◌, ap, arith, append-nil, replicate, slice_index}
use Rattle.sm_words.specs.Words.{put, reg}
use Rattle.mod_layout.specs.Table.{Table, size_of, takes, with_module}
use Rattle.mod_layout.specs.Tables.{IsTable}
use Rattle.pc_access.specs.declared.Kind.TheVariants.{Write}
use Rattle.pc_access.specs.declared.Access.{Access}
use Rattle.mod_layout.specs.First.{first_in}
use Rattle.pc_access.specs.Rights.{right}
use Rattle.attest.specs.declared.UnitDone.{UnitDone}
use Rattle.attest.specs.Units.{Protect, Doer, Effect, answer, blocks, each_byte, new_ram, new_text, table_by, unit_effect, unit_plan}
use Rattle.attest.specs.Accesses.{memory_after, bytes_read, writes_of}
use Rattle.attest.specs.Done.{IsDone, effect_in, made_by}
use Rattle.attest.proofs.Cores.{with_old_pc-answer}
use Rattle.attest.proofs.Finished.{done_by}
use Rattle.attest.proofs.Places.{ram_allowed}
use Rattle.attest.proofs.Rows.{writes_of-writes}

zeros : (n k : ℕ) → slice_index (replicate n 0) k < 256
zeros (suc n) (suc k) = zeros n k
zeros _ _ = omega arith

module _ (who : Doer) (core : List ℕ) where
  abbrev clearing : List Access
  clearing = each_byte Write (reg core 14) (size_of (new_ram core))

  pub plan_by : (b : Bool) → takes who.table (new_text core) (new_ram core) ≡ b → unit_plan who Protect core ≡ (if b then clearing else [])
  unfolding unit_plan
  plan_by b e = ap (λ (x : Bool). if x then clearing else []) e

  abbrev whole : Effect
  whole = record (answer core (who.table.given + 1) (6 + 64 * (blocks 2 + blocks (size_of (new_text core) + 8)))) { stored = replicate (size_of (new_ram core)) 0 }

  pub effect_by : (values : List ℕ) (b : Bool) → takes who.table (new_text core) (new_ram core) ≡ b →
      unit_effect who Protect core values ≡ (if b then whole else answer core 0 6)
  unfolding unit_effect
  effect_by values b e = ap (λ (x : Bool). if x then whole else answer core 0 6) e

  pub table_is_by : (b : Bool) → takes who.table (new_text core) (new_ram core) ≡ b →
      table_by Protect who.table core ≡ (if b then with_module who.table (reg core 11) (new_text core) (new_ram core) else who.table)
  table_is_by b e = ap (λ (x : Bool). if x then with_module who.table (reg core 11) (new_text core) (new_ram core) else who.table) e

  pub made_is_by : (b : Bool) → takes who.table (new_text core) (new_ram core) ≡ b → made_by Protect who.table core ≡ (if b then who.table.given + 1 else 0)
  made_is_by b e = ap (λ (x : Bool). if x then who.table.given + 1 else 0) e

  pub allowed_by : (active : Option ℕ) (held : List ℕ) → takes who.table (new_text core) (new_ram core) ≡ true →
      IsTable (with_module who.table (reg core 11) (new_text core) (new_ram core)) → first_in (right who.table active held) (unit_plan who Protect core) ≡ None
  allowed_by active held e ok =
      ap (first_in (right who.table active held)) (plan_by true e) ∙ ram_allowed who.table active held (reg core 11) (new_text core) (new_ram core) ok

  pub protected : (mem core' mem' : List ℕ) (table' : Table) (done : UnitDone) → takes who.table (new_text core) (new_ram core) ≡ true →
      core' ≡ put core 15 (who.table.given + 1) →
      mem' ≡ memory_after mem clearing (replicate (size_of (new_ram core)) 0) →
      table' ≡ with_module who.table (reg core 11) (new_text core) (new_ram core) →
      done ≡ record { cycles = 6 + 64 * (blocks 2 + blocks (size_of (new_text core) + 8)); closing = false; made = who.table.given + 1 } →
      IsDone who Protect core mem core' mem' table' done
  protected mem core' mem' table' done e core_is mem_is table_is done_is =
      let f : whole ≡ effect_in who Protect core mem = sym (effect_by (bytes_read mem (unit_plan who Protect core)) true e) in
      let writes : clearing ≡ writes_of (unit_plan who Protect core) =
      sym (ap writes_of (plan_by true e ∙ sym (append-nil clearing)) ∙ writes_of-writes (reg core 14) (size_of (new_ram core)) [] ∙ append-nil clearing) in
      done_by who Protect core mem whole core' mem' table' done f (core_is ∙ with_old_pc-answer core (who.table.given + 1))
      (mem_is ∙ ap (λ xs. memory_after mem xs (replicate (size_of (new_ram core)) 0)) writes)
      (table_is ∙ sym (table_is_by true e)) (λ k. zeros (size_of (new_ram core)) k)
      (done_is ∙ ap (λ n. let d : UnitDone = record { cycles = whole.cycles; closing = false; made = n } in d) (sym (made_is_by true e)))

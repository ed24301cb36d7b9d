-- On instructions that answer in R15 and change nothing else.
use Rattle.std.proofs.Common.{◌≡◌, ℕ, ◌+◌, ◌/◌, ◌<◌, List, true, false, Some, sym, ◌∙◌, ap, subst, arith, slice_index}
use Rattle.sm_words.specs.Words.{put}
use Rattle.mod_layout.specs.declared.Module.{Module}
use Rattle.mod_layout.specs.Table.{Table, size_of}
use Rattle.attest.specs.declared.UnitDone.{UnitDone}
use Rattle.attest.specs.Units.{UnitName, Unprotect, Doer, Effect, answer, table_by, unit_effect, unit_plan, unprotected}
use Rattle.attest.specs.Accesses.{memory_after, writes_of}
use Rattle.attest.specs.Done.{IsDone, effect_in, made_by, with_old_pc}
use Rattle.attest.proofs.Cores.{with_old_pc-answer, with_old_pc-next}
use Rattle.attest.proofs.Rows.{memory_after-none}

-- an effect that is known gives what is done
pub done_by : (who : Doer) (x : UnitName) (core mem : List ℕ) (f : Effect) (core' mem' : List ℕ) (table' : Table) (done : UnitDone) →
    f ≡ effect_in who x core mem →
    core' ≡ with_old_pc core f.core → mem' ≡ memory_after mem (writes_of (unit_plan who x core)) f.stored →
    table' ≡ table_by x who.table core → ((k : ℕ) → slice_index f.stored k < 256) →
    done ≡ record { cycles = f.cycles; closing = f.closing; made = made_by x who.table core } → IsDone who x core mem core' mem' table' done
done_by who x core mem f core' mem' table' done e core_is memory_is table_is bytes done_is = record {
  core_is = core_is ∙ ap (λ (g : Effect). with_old_pc core g.core) e;
  memory_is = memory_is ∙ ap (λ (g : Effect). memory_after mem (writes_of (unit_plan who x core)) g.stored) e;
  table_is = table_is;
  bytes = λ k. subst (λ (g : Effect). slice_index g.stored k < 256) e (bytes k);
  cycles = ap (λ (d : UnitDone). d.cycles) done_is ∙ ap (λ (g : Effect). g.cycles) e;
  closing = ap (λ (d : UnitDone). d.closing) done_is ∙ ap (λ (g : Effect). g.closing) e;
  made = ap (λ (d : UnitDone). d.made) done_is;
}

pub answered : (who : Doer) (x : UnitName) (core mem : List ℕ) (v cycles : ℕ) (core' : List ℕ) (table' : Table) (done : UnitDone) →
    effect_in who x core mem ≡ answer core v cycles → core' ≡ put core 15 v → done ≡ record { cycles = cycles; closing = false; made = 0 } →
    table' ≡ table_by x who.table core → 0 ≡ made_by x who.table core → IsDone who x core mem core' mem table' done
answered who x core mem v cycles core' table' done e core_is done_is table_is made_is =
    done_by who x core mem (answer core v cycles) core' mem table' done (sym e) (core_is ∙ with_old_pc-answer core v)
    (sym (memory_after-none mem (writes_of (unit_plan who x core)))) table_is (λ k. omega arith)
    (done_is ∙ ap (λ n. let d : UnitDone = record { cycles = cycles; closing = false; made = n } in d) made_is)

-- the running module closes
pub closed : (who : Doer) (own : Module) (core mem core' : List ℕ) (table' : Table) (done : UnitDone) → who.own ≡ Some own →
    core' ≡ core → table' ≡ who.table → done ≡ record { cycles = 6 + size_of own.ram / 2; closing = true; made = 0 } →
    IsDone who Unprotect core mem core' mem table' done
unfolding unit_effect
closed who own core mem core' table' done own_is core_is table_is done_is =
    done_by who Unprotect core mem (unprotected (Some own) core) core' mem table' done (ap (λ o. unprotected o core) (sym own_is))
    (core_is ∙ with_old_pc-next core)
    (sym (memory_after-none mem (writes_of (unit_plan who Unprotect core)))) table_is (λ k. omega arith) done_is

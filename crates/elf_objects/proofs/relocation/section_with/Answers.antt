use Rattle.std.proofs.Common.{◌≡◌, ℕ, ◌≤◌, ◌<◌, List, true, false, arith, rules, of_calls, leb}
use Rattle.std.specs.List.Sorted.{IsPartitionPoint}
use Rattle.std.proofs.lemmas.Bool.Decides.{nat_tests}
use Rattle.std.proofs.lemmas.List.Sorted.{IsPartitionPoint-from_clause, IsPartitionedBy-leb}
use Rattle.elf_objects.proofs.relocation.section_with.Goals as goal

-- a test by `≤`
by_test : (ends : List ℕ) (place i : ℕ) → IsPartitionPoint (λ (e : ℕ). leb e place ≡ true) (λ (e : ℕ). leb e place ≡ false) ends i → IsPartitionPoint (λ e. e ≤ place) (λ e. place < e) ends i
by_test ends place i point = (
  (λ k d low lt. let t = point.0 k d low lt in grind (arith, nat_tests)),
  (λ k d low lt. let t = point.1 k d low lt in grind (arith, nat_tests)),
)

pub returns : goal.returns
returns c =
    by_test c.args.ends.now c.args.place c.partition_point.result
    (IsPartitionPoint-from_clause (λ (e : ℕ). leb e c.args.place) c.args.ends.now c.partition_point.result c.partition_point.ensures.partitioned
    (IsPartitionedBy-leb (λ (e : ℕ). e) c.args.ends.now c.args.place c.requires) (λ a r f' k. search (rules, of_calls)))

use Rattle.std.proofs.Common.{◌≡◌, ℕ, ◌≤◌, ◌<◌, List, true, false, arith, rules, of_calls, ltb}
use Rattle.std.specs.List.Sorted.{IsPartitionPoint}
use Rattle.std.proofs.lemmas.Bool.Decides.{nat_tests}
use Rattle.std.proofs.lemmas.List.Sorted.{IsPartitionPoint-from_clause, IsPartitionedBy-ltb}
use Rattle.elf_objects.proofs.names.count_below.Goals as goal

-- a test by `<`
by_test : (zeros : List ℕ) (offset i : ℕ) → IsPartitionPoint (λ (z : ℕ). ltb z offset ≡ true) (λ (z : ℕ). ltb z offset ≡ false) zeros i → IsPartitionPoint (λ z. z < offset) (λ z. offset ≤ z) zeros i
by_test zeros offset i point = (
  (λ k d low lt. let t = point.0 k d low lt in grind (arith, nat_tests)),
  (λ k d low lt. let t = point.1 k d low lt in grind (arith, nat_tests)),
)

pub returns : goal.returns
returns c =
    by_test c.args.zeros.now c.args.offset c.partition_point.result
    (IsPartitionPoint-from_clause (λ (z : ℕ). ltb z c.args.offset) c.args.zeros.now c.partition_point.result c.partition_point.ensures.partitioned
    (IsPartitionedBy-ltb (λ (z : ℕ). z) c.args.zeros.now c.args.offset c.requires) (λ a r f' k. search (rules, of_calls)))

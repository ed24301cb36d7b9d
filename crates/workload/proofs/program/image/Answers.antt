use Rattle.std.proofs.Common.{◌≡◌, ◌<◌, ℕ, List, ap, ap₂, ◌∙◌, refl, sym, subst, arith, length, replicate}
use Rattle.std.specs.Prelude.{slice_index}
use Rattle.mod_layout.specs.Table.{Table}
use Rattle.image_text.specs.Image.{Image, AreNumbered}
use Rattle.workload.specs.Program.{image}
use Rattle.workload.proofs.Memory.{low_memory}
use Rattle.workload.proofs.program.image.Goals as goal

pub invariant_of-result : goal.invariant_of-result
invariant_of-result c = record {
  full = c.in_ok-memory.ensures.length;
  bytes = λ a. subst (λ (m : List ℕ). slice_index m a < 256) c.deref.ensures.value (c.tell_bytes-memory_bytes.ensures a);
  low = λ a h. ap (λ (m : List ℕ). slice_index m a) c.in_ok-memory.ensures.memory ∙ (low_memory c.args.word).low a h;
  sixteen = refl;
  key_bytes = λ n. c.tell_bytes-key_bytes.ensures n;
  table_ok = c.table.ensures.table;
  numbered = subst (λ (t : Table). AreNumbered 1 t.modules) (sym c.table.ensures.module) (refl, omega arith, tt);
  all_held = subst (λ (t : Table). length t.modules ≡ t.given) (sym c.table.ensures.module) refl;
  given_small = subst (λ (t : Table). t.given < 65536) (sym c.table.ensures.module) (omega arith);
  even_sp = refl;
  small_sp = omega arith;
}

pub returns : goal.returns
unfolding image
returns c =
    let made : List ℕ → Table → Image = λ m t. record { memory = m; table = t; node_key = replicate 16 0; handler_sp = 1536 } in
    record { image = ap₂ made c.in_ok-memory.ensures.memory c.table.ensures.module }

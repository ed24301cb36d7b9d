use Rattle.std.proofs.Common.{◌≡◌, ◌∙◌, ◌+◌, ◌-◌, ◌<◌, suc, length, arith, ap, sym, drop, drop-cons, slice_index, slice_set}
use Rattle.pc_access.specs.declared.Kind.TheVariants.{Write}
use Rattle.attest.specs.Units.{each_byte}
use Rattle.attest.specs.Accesses.{memory_after}
use Rattle.attest.proofs.Rows.{memory_after-next}
use Rattle.attest.proofs.memory.store.Goals as goal

pub loop-i-preserved : goal.loop-i-preserved
loop-i-preserved c =
    let mem = c.loop-i.memory.bytes in
    let tag = c.args.tag.now in
    let i = c.loop-i.i in
    let at = c.args.addr + i in
    let inside : i < length tag = omega arith in
    let next : at + 1 ≡ c.args.addr + (i + 1) = omega arith in
    let later : suc i ≡ i + 1 = omega arith in
    let fewer : 16 - i ≡ suc (16 - (i + 1)) = omega arith in
    let stored : slice_set mem at (slice_index tag i) ≡ c.set_byte.new.self.bytes = ap (λ n. slice_set mem at (slice_index tag n)) (sym c.from.ensures) ∙ sym (ap (λ m. m.bytes) c.set_byte.ensures.written) in
    record {
      stored = c.loop-i.invariant.stored
          ∙ memory_after-next mem at (16 - i) (16 - (i + 1)) (slice_index tag i) (drop i tag) (drop (suc i) tag) fewer (drop-cons tag i 0 inside)
          ∙ ap (λ bytes. memory_after bytes (each_byte Write (at + 1) (16 - (i + 1))) (drop (suc i) tag)) stored
          ∙ ap (λ a. memory_after c.set_byte.new.self.bytes (each_byte Write a (16 - (i + 1))) (drop (suc i) tag)) next
          ∙ ap (λ n. memory_after c.set_byte.new.self.bytes (each_byte Write (c.args.addr + (i + 1)) (16 - (i + 1))) (drop n tag)) later;
      marks = record {
        marked = ap (λ m. m.marked) c.set_byte.ensures.written ∙ c.loop-i.invariant.marks.marked;
        room = ap (λ m. m.room) c.set_byte.ensures.written ∙ c.loop-i.invariant.marks.room;
      };
    }

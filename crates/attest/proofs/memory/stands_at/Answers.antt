use Rattle.std.proofs.Common.{◌≡◌, ◌≢◌, ◌∙◌, ◌+◌, ◌<◌, suc, length, arith, ap, sym, drop, drop-cons, slice_range, slice_index}
use Rattle.std.specs.Prelude.{bytes_eq}
use Rattle.attest.proofs.Slices.{slice_range-cons}
use Rattle.attest.proofs.Rows.{bytes_eq-next, bytes_eq-other}
use Rattle.attest.proofs.memory.stands_at.Goals as goal

pub returns-then-byte-tag-clause-same : goal.returns-then-byte-tag-clause-same
returns-then-byte-tag-clause-same c =
    let mem = c.args.memory.now.bytes in
    let tag = c.args.tag.now in
    let at = c.args.addr + c.loop-i.i in
    let before : at < c.args.addr + 16 = omega arith in
    let within : at < length mem = omega arith in
    let inside : c.loop-i.i < length tag = omega arith in
    let read : slice_index mem at ≡ c.byte.result = sym c.byte.ensures.byte in
    let at_index : slice_index tag c.from.result ≡ slice_index tag c.loop-i.i = ap (slice_index tag) c.from.ensures in
    let other : slice_index mem at ≢ slice_index tag c.loop-i.i = λ e. c.if-byte-tag.true (sym read ∙ e ∙ sym at_index) in
    sym (c.loop-i.invariant.rest ∙ bytes_eq-other _ _ _ _ _ _ (slice_range-cons mem at (c.args.addr + 16) before within) (drop-cons tag c.loop-i.i 0 inside) other)

pub loop-i-preserved : goal.loop-i-preserved
loop-i-preserved c =
    let mem = c.args.memory.now.bytes in
    let tag = c.args.tag.now in
    let i = c.loop-i.i in
    let at = c.args.addr + i in
    let before : at < c.args.addr + 16 = omega arith in
    let within : at < length mem = omega arith in
    let inside : i < length tag = omega arith in
    let same : slice_index mem at ≡ slice_index tag i = sym c.byte.ensures.byte ∙ c.if-byte-tag.false ∙ ap (slice_index tag) c.from.ensures in
    let next : at + 1 ≡ c.args.addr + (i + 1) = omega arith in
    let later : suc i ≡ i + 1 = omega arith in
    record {
      rest = c.loop-i.invariant.rest
          ∙ bytes_eq-next _ _ _ _ _ _ (slice_range-cons mem at (c.args.addr + 16) before within) (drop-cons tag i 0 inside) same
          ∙ ap (λ a. bytes_eq (slice_range mem a (c.args.addr + 16)) (drop (suc i) tag)) next
          ∙ ap (λ n. bytes_eq (slice_range mem (c.args.addr + (i + 1)) (c.args.addr + 16)) (drop n tag)) later;
      size = λ _. c.byte.ensures.size;
    }

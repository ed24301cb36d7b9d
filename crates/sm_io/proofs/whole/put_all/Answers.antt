use Rattle.std.proofs.Common.{◌∙◌, ◌<◌, ap, rules, arith, ◌++◌, length, take, length-append, length-take}
use Rattle.sm_io.proofs.Putting.{appends_then, appends_keeps, taken_more, front_of, not_sure}
use Rattle.sm_io.proofs.whole.put_all.Goals as goal

pub loop-rest-preserved : goal.loop-rest-preserved
loop-rest-preserved g c =
    let i = c.loop-rest.invariant in
    let rest = c.loop-rest.rest.now in
    let n = c.in-Ok.count in (
      i.0 ++ take n rest,
      taken_more i.0 rest _ c.split_at.result.1.now n i.1 c.split_at.ensures.back,
      appends_then _ _ _ i.0 (take n rest) i.2 c.in-Ok.ensures.bytes,
      c.in-Ok.ensures.cause ∙ i.3,
      omega (arith, i.4, c.in-Ok.ensures.still_sure, c.in-Ok.ensures.bound, length-append i.0 (take n rest), length-take n rest),
    )

pub returns-in-Err : goal.returns-in-Err
returns-in-Err g c =
    let i = c.loop-rest.invariant in
    let rest = c.loop-rest.rest.now in
    let some_left : 0 < length rest = search rules in
    let none_sure = not_sure _ c.in-Err.ensures.never_fails in
    record {
      put = record {
        front = front_of _ _ i.0 rest c.args.bytes.now i.1 (appends_keeps _ _ _ i.0 i.2 c.in-Err.ensures.bytes);
        shorter = omega (arith, simp length-append at (ap length i.1), some_left);
        rose = (omega (arith, c.in-Err.ensures.cause.0, i.3), omega (arith, c.in-Err.ensures.cause.1, i.3));
        not_sure = omega (arith, none_sure, i.4, simp length-append at (ap length i.1), some_left);
      };
    }

use Rattle.std.proofs.Common.{◌≡◌, ◌+◌, ◌-◌, ◌*◌, ◌<◌, ◌≤◌, [], ◌++◌, ap, ◌∙◌, arith}
use Rattle.std.proofs.lemmas.List.{append_assoc}
use Rattle.insn_decode.specs.Code.{length_or_one}
use Rattle.sm_io.proofs.Putting.{took_nothing, took_then, took_same, cut_same, cut_within}
use Rattle.sm_cli.specs.DisCommand.{dis_insn, line_at, lines_below, listing}
use Rattle.sm_cli.proofs.Listing.{after, lines_more, next_lines, all_lines}
use Rattle.sm_cli.proofs.commands.dis.put_listing.Goals as goal

pub loop-at-init : goal.loop-at-init
loop-at-init g c =
    let first : c.from-at.result ≡ c.args.start = omega arith in (
      [],
      c.args.end - c.args.start,
      omega arith,
      ap (λ a. lines_below (c.args.end - c.args.start) c.args.memory.now a c.args.end) first,
      took_nothing g.O.Sink.taken g.O.Sink.faults g.O.Sink.sure _,
    )

pub returns-in-Err : goal.returns-in-Err
returns-in-Err g c =
    let i = c.loop-at.invariant in
    let at = c.loop-at.at in
    let memory = c.args.memory.now in
    let end = c.args.end in
    let below : at < end = omega arith in
    let more = lines_more i.1 memory at end below i.2 in
    let bytes : c.as_bytes.result.now ≡ line_at memory at = c.as_bytes.ensures.value ∙ c.as_str.ensures.value ∙ c.line_at-line.ensures in
    cut_within g.O.Sink.taken g.O.Sink.faults g.O.Sink.sure _ _ _ i.0 (line_at memory at) (lines_below more.left_after memory (after memory at) end) (listing memory c.args.start end)
    (next_lines i.0 i.1 memory at end _ more i.3) i.4 (cut_same g.O.Sink.taken g.O.Sink.faults g.O.Sink.sure _ _ _ _ bytes c.in-Err.ensures.put)

pub loop-at-preserved : goal.loop-at-preserved
loop-at-preserved g c =
    let i = c.loop-at.invariant in
    let at = c.loop-at.at in
    let memory = c.args.memory.now in
    let end = c.args.end in
    let line = line_at memory at in
    let below : at < end = omega arith in
    let more = lines_more i.1 memory at end below i.2 in
    let bytes : c.as_bytes.result.now ≡ line_at memory at = c.as_bytes.ensures.value ∙ c.as_str.ensures.value ∙ c.line_at-line.ensures in
    let words : c.length_or_one.result ≡ length_or_one (dis_insn memory at) = c.length_or_one.ensures.exact ∙ ap length_or_one c.dis_insn-insn.ensures.exact in
    let step : at + 2 * c.from-in-loop-at.result ≡ after memory at = omega (arith, words) in (
      i.0 ++ line,
      more.left_after,
      omega (arith, more.enough, step),
      ap (λ a. (i.0 ++ line) ++ lines_below more.left_after memory a end) step
          ∙ append_assoc i.0 line (lines_below more.left_after memory (after memory at) end)
          ∙ next_lines i.0 i.1 memory at end _ more i.3,
      took_then g.O.Sink.taken g.O.Sink.faults g.O.Sink.sure _ _ _ i.0 line i.4 (took_same g.O.Sink.taken g.O.Sink.faults g.O.Sink.sure _ _ _ _ bytes c.in-Ok.ensures.put),
    )

pub returns : goal.returns
returns g c =
    let i = c.loop-at.invariant in
    let past : c.args.end ≤ c.loop-at.at = omega arith in
    took_same g.O.Sink.taken g.O.Sink.faults g.O.Sink.sure _ _ _ _ (all_lines i.0 i.1 c.args.memory.now c.loop-at.at c.args.end _ past i.3) i.4

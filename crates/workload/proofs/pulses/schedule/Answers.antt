use Rattle.std.proofs.Common.{◌≡◌, ℕ, ◌+◌, ◌*◌, ◌%◌, ◌++◌, ◌∷◌, [], List, ap, ap₂, ◌∙◌, sym, subst, arith}
use Rattle.schedule_file.specs.declared.Entry.{Entry}
use Rattle.schedule_file.specs.declared.What.TheVariants.{Up, Down}
use Rattle.schedule_file.specs.Entries.{CyclesNeverFall, HasLine}
use Rattle.std.specs.Prelude.{All}
use Rattle.workload.specs.Draws.{next_number, drawn}
use Rattle.workload.proofs.Rising.{drawn_first, drawn_more, pulses_none, pulses_more, kept_pulses}
use Rattle.workload.proofs.pulses.schedule.Goals as goal

pub loop-number-init : goal.loop-number-init
loop-number-init c = (c.new-entries.ensures.items ∙ sym (pulses_none c.args.seed), c.next-drawn.ensures.next ∙ (ap next_number c.from.ensures ∙ sym (drawn_first c.args.seed)), c.next-drawn.ensures.bound, omega arith)

pub loop-number-preserved : goal.loop-number-preserved
loop-number-preserved c =
    let seed = c.args.seed in
    let n = c.loop-number.number in
    let last = c.next-drawn-in-loop-number.ensures.next ∙ (ap next_number c.loop-number.invariant.1 ∙ sym (drawn_more seed (n + 1))) in
    let two : n + 1 + 1 ≡ n + 2 = omega arith in
    let at : c.next-drawn-in-loop-number.result ≡ drawn seed (n + 2) = last ∙ ap (λ k. drawn seed k) two in
    let pulse : ℕ → List Entry → List Entry = λ d l. (l ++ record { cycle = 20 + 190 * n + d % 100; what = Up 0 } ∷ []) ++ record { cycle = 20 + 190 * n + d % 100 + 1; what = Down 0 } ∷ [] in (
      c.in_ok-push-2.ensures.items ∙ (ap (λ (l : List Entry). l ++ record { cycle = 20 + 190 * n + c.next-drawn-in-loop-number.result % 100 + 1; what = Down 0 } ∷ []) c.in_ok-push.ensures.items
          ∙ (ap₂ pulse at c.loop-number.invariant.0 ∙ sym (pulses_more seed n))),
      last,
      c.next-drawn-in-loop-number.ensures.bound,
      omega (arith, c.loop-number-test.true),
    )

pub invariant_of-result : goal.invariant_of-result
invariant_of-result c =
    let k = kept_pulses c.args.seed c.loop-number.number in
    record {
      cycles_never_fall = subst (λ (l : List Entry). CyclesNeverFall l) (sym c.loop-number.invariant.0) k.falls;
      lines = subst (λ (l : List Entry). All HasLine l) (sym c.loop-number.invariant.0) k.lines;
    }

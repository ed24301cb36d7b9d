-- The text of a schedule, written entry by entry.
use Rattle.std.proofs.Common.{ℕ, ◌≡◌, ◌≤◌, List, ◌++◌, length, drop, ap, sym, ◌∙◌}
use Rattle.std.proofs.lemmas.List.{at_drop_all, append-nil}
use Rattle.vendor_tool.specs.declared.Challenge.{Challenge}
use Rattle.vendor_tool.specs.NonceSchedule.{schedule_entries, entries_text}

-- at the end nothing is left to be sent
pub nonces_done : (text all : List ℕ) (cs : List Challenge) (i : ℕ) → length cs ≤ i → text ++ entries_text (schedule_entries (drop i cs)) ≡ all → text ≡ all
nonces_done text all cs i past before =
    sym (append-nil text) ∙ ap (λ es. text ++ entries_text es) (sym (at_drop_all schedule_entries cs i past)) ∙ before

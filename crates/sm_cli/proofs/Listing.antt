-- The lines of instructions.
use Rattle.std.proofs.Common.{◌≡◌, ℕ, zero, suc, ◌+◌, ◌*◌, ◌<◌, ◌≤◌, true, false, List, [], ◌++◌, Option, Some, None, refl, sym, ap, ◌∙◌, arith}
use Rattle.std.proofs.lemmas.Bool.Decides.{nat_tests}
use Rattle.std.proofs.lemmas.List.{append-nil}
use Rattle.std.specs.Prelude.{nat_lt}
use Rattle.insn_decode.specs.declared.insn.Insn.{Insn}
use Rattle.insn_decode.specs.declared.insn.Insn.TheVariants.{Reti}
use Rattle.insn_decode.specs.Code.{length_or_one}
use Rattle.sm_cli.specs.DisCommand.{dis_insn, line_at, lines_below}

-- no lines are left at the end
pub lines_end : (left : ℕ) (memory : List ℕ) (at end : ℕ) → end ≤ at → lines_below left memory at end ≡ []
unfolding lines_below
lines_end zero memory at end h = refl
lines_end (suc more) memory at end h = let off : nat_lt at end ≡ false = grind (arith, nat_tests) in rw off refl

-- an instruction has a word at least
some_word : (o : Option Insn) → 1 ≤ length_or_one o
some_word None = omega arith
some_word (Some Reti) = omega arith
some_word _ = omega arith

-- the address after what stands at this one
abbrev pub after : List ℕ → ℕ → ℕ
after memory at = at + 2 * length_or_one (dis_insn memory at)

-- one line more
pub record More (left : ℕ) (memory : List ℕ) (at end : ℕ) : Type 0 where
  pub left_after : ℕ
  pub enough : end ≤ after memory at + left_after
  pub lines : lines_below left memory at end ≡ line_at memory at ++ lines_below left_after memory (after memory at) end

pub lines_more : (left : ℕ) (memory : List ℕ) (at end : ℕ) → at < end → end ≤ at + left → More left memory at end
unfolding lines_below
lines_more zero memory at end h low = absurd (omega (arith, h, low))
lines_more (suc more) memory at end h low = record { left_after = more; enough = omega (arith, low, some_word (dis_insn memory at)); lines = let on : nat_lt at end ≡ true = grind (arith, nat_tests) in rw on refl }

pub all_lines : (done : List ℕ) (left : ℕ) (memory : List ℕ) (at end : ℕ) (text : List ℕ) → end ≤ at → done ++ lines_below left memory at end ≡ text → done ≡ text
all_lines done left memory at end text h is = sym (append-nil done) ∙ ap (λ (l : List ℕ). done ++ l) (sym (lines_end left memory at end h)) ∙ is

pub next_lines : (done : List ℕ) (left : ℕ) (memory : List ℕ) (at end : ℕ) (text : List ℕ) (m : More left memory at end) → done ++ lines_below left memory at end ≡ text
    → done ++ (line_at memory at ++ lines_below m.left_after memory (after memory at) end) ≡ text
next_lines done left memory at end text m is = ap (λ (l : List ℕ). done ++ l) (sym m.lines) ∙ is

-- Where an arm goes on.
use Rattle.std.proofs.Common.{◌≡◌, ◌<◌, ℕ, nat_lt, cond, Bool, true, false, ◌&&◌, List, Some, None, refl, ◌∙◌, ap, arith}
use Rattle.std.proofs.lemmas.Bool.Decides.{nat_tests}
use Rattle.insn_decode.specs.declared.insn.Insn.{Insn}
use Rattle.mod_layout.specs.declared.Section.{Section}
use Rattle.mod_layout.specs.Table.{holds}
use Rattle.arm_balance.specs.Met.{met}
use Rattle.arm_balance.specs.Balance.{arm_next, arm_on}

pub on_at : (s : Section) (text : List ℕ) (pc join next : ℕ) (insn : Insn) → holds s pc ≡ true → pc < join → met s text pc ≡ Some insn → arm_next join pc (Some insn) ≡ Some next → arm_on s text join pc ≡ Some next
on_at s text pc join next insn h l m n =
    ap (λ b. arm_next join pc (cond (b && nat_lt pc join) (met s text pc) None)) h
    ∙ ap (λ b. arm_next join pc (cond (true && b) (met s text pc) None)) (let t : nat_lt pc join ≡ true = grind (arith, nat_tests) in t)
    ∙ ap (λ o. arm_next join pc o) m ∙ n

pub on_far : (s : Section) (text : List ℕ) (pc join : ℕ) → (holds s pc && nat_lt pc join) ≡ false → arm_on s text join pc ≡ None
on_far s text pc join e = ap (λ b. arm_next join pc (cond b (met s text pc) None)) e

pub on_unmet : (s : Section) (text : List ℕ) (pc join : ℕ) → met s text pc ≡ None → arm_on s text join pc ≡ None
on_unmet s text pc join m = by (holds s pc && nat_lt pc join)
  where
    by : (b : Bool) → arm_next join pc (cond b (met s text pc) None) ≡ None
    by true = ap (λ o. arm_next join pc o) m
    by false = refl

pub on_stop : (s : Section) (text : List ℕ) (pc join : ℕ) (insn : Insn) → met s text pc ≡ Some insn → arm_next join pc (Some insn) ≡ None → arm_on s text join pc ≡ None
on_stop s text pc join insn m n = by (holds s pc && nat_lt pc join)
  where
    by : (b : Bool) → arm_next join pc (cond b (met s text pc) None) ≡ None
    by true = ap (λ o. arm_next join pc o) m ∙ n
    by false = refl

pub ruleset goes = (on_at, on_far, on_stop, on_unmet)

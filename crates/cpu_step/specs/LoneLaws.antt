-- How a call of a module by itself ends, as conditions on where it stands after so many cycles.
use Rattle.std.specs.Prelude.{◌≡◌, ◌<◌, ◌≤◌, ◌↔◌, ℕ, true, false, None}
use Rattle.sm_words.specs.Words.{reg}
use Rattle.sm_words.specs.declared.registers.TheConstants.{PC}
use Rattle.mod_layout.specs.Table.{holds}
use Rattle.cpu_step.specs.Lone.{Job, Lone, CallEnd, Exit, Closing, Broken, Running, Doing, Waits, Does, doing, next_insn, lone_after, outcome}

-- the module waits out an instruction or does one
abbrev pub GoesOn : Doing → Type 0
GoesOn (Waits rest) = Unit {0}
GoesOn (Does insn) = Unit {0}
GoesOn _ = ⊥

-- after c cycles it stands at s, and it has ended in none of the cycles before
pub record Reaches (j : Job) (l : Lone) (c : ℕ) (s : Lone) : Type 0 where
  pub there : lone_after j l c ≡ s
  pub before : (k : ℕ) → k < c → GoesOn (doing j (lone_after j l k))

-- it has left its text
pub record HasLeft (j : Job) (s : Lone) : Type 0 where
  pub rested : s.rest ≡ 0
  pub not_closing : s.closing ≡ false
  pub outside : holds j.owner.text (reg s.core PC) ≡ false

-- its unprotect ran to its end
pub record HasClosed (s : Lone) : Type 0 where
  pub rested : s.rest ≡ 0
  pub closing : s.closing ≡ true

-- the next instruction is one that it may not do
pub record IsBroken (j : Job) (s : Lone) : Type 0 where
  pub rested : s.rest ≡ 0
  pub not_closing : s.closing ≡ false
  pub inside : holds j.owner.text (reg s.core PC) ≡ true
  pub none : next_insn j s ≡ None

-- the end of a call within n cycles: the first that it reaches, where one in the n-th still counts, and where an instruction that
-- it may not do counts while a cycle is left for it
pub data Ends (j : Job) (l : Lone) (n : ℕ) : CallEnd → Type 0 where
  leaves : (c : ℕ) (s : Lone) → c ≤ n → Reaches j l c s → HasLeft j s → Ends j l n (Exit s.core s.data_bytes c)
  closes : (c : ℕ) (s : Lone) → c ≤ n → Reaches j l c s → HasClosed s → Ends j l n (Closing s.core s.data_bytes c)
  breaks : (c : ℕ) (s : Lone) → c < n → Reaches j l c s → IsBroken j s → Ends j l n (Broken s.data_bytes c)
  runs : (s : Lone) → Reaches j l n s → ¬ HasLeft j s → ¬ HasClosed s → Ends j l n Running

-- a call has one end, and it is the outcome
abbrev pub OneEnd : Type 0
OneEnd = (j : Job) (l : Lone) (n : ℕ) (o : CallEnd) → Ends j l n o ↔ (outcome j n l ≡ o)

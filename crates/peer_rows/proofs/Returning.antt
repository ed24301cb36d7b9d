-- A module that goes back at once is even for every two data, though the rule of flow does not accept it.
use Rattle.std.proofs.Common.{◌≡◌, ◌⊎◌, inl, inr, ⊎_elim, ℕ, zero, suc, ◌+◌, Bool, true, false, List, [], ◌∷◌, refl, sym, ap, ◌∙◌, subst, arith}
use Rattle.std.proofs.lemmas.Bool.Decides.{nat_tests}
use Rattle.std.proofs.lemmas.List.Elements.{All-head, All-tail}
use Rattle.sm_words.specs.Status.{confined_sr}
use Rattle.sm_words.specs.Sums.{low}
use Rattle.sm_words.specs.Words.{reg, put, add16, IsCore}
use Rattle.sm_words.specs.declared.registers.TheConstants.{PC, SR}
use Rattle.sm_words.specs.declared.width.Width.TheVariants.{Word}
use Rattle.sm_words.proofs.Cores.{put_core}
use Rattle.insn_decode.specs.Code.{insn_of}
use Rattle.insn_decode.specs.declared.insn.Insn.{Insn}
use Rattle.insn_decode.specs.declared.insn.Insn.TheVariants.{Two}
use Rattle.insn_decode.specs.declared.insn.Operand.TheVariants.{Reg}
use Rattle.insn_decode.specs.declared.insn.TwoOp.TheVariants.{Mov}
use Rattle.cycle_table.specs.Cycles.{cycles_of}
use Rattle.mod_layout.specs.Table.{holds}
use Rattle.cpu_step.specs.Asked.{asks, effect}
use Rattle.cpu_step.specs.Effect.{does_freely, confined, does}
use Rattle.cpu_step.proofs.Alike.{ends_then}
use Rattle.cpu_step.specs.Lone.{Job, Lone, IsEntry, CallEnd, Exit, Closing, Running, later, Does, Leaves, doing_by, doing, next_insn, lone_does, at_once, in_time, outcome, job_of, EvenBut, AlwaysEven}
use Rattle.cpu_step.specs.Plan.{plan}
use Rattle.written_machine.specs.Peers.{section}
use Rattle.peer_rows.specs.Rows.{row_module, memory_of, row_image, returning, ReturningPeers}
use Rattle.peer_rows.proofs.Examples.{all_words, bytes_of, differ}

-- ---- its one instruction

-- MOV R7, PC
abbrev back : Insn
back = Two Mov Word (Reg 7) (Reg 0)

abbrev stands : List ℕ → List ℕ → ℕ → Lone
stands core d rest = record { core = core; data_bytes = d; rest = rest; closing = false }

unfoldable next_core : List ℕ → List ℕ
next_core core =
    let a = put core PC (add16 (reg core PC) 2) in
    let b = put a SR (reg a SR) in
    let c = put b PC (low Word (reg a 7)) in
    put c SR (confined_sr (reg core SR) (reg c SR))

next_sound : (core : List ℕ) → IsCore core → IsCore (next_core core)
unfolding next_core
next_sound core s =
    let a = put core PC (add16 (reg core PC) 2) in
    let b = put a SR (reg a SR) in
    let c = put b PC (low Word (reg a 7)) in
    put_core c SR (confined_sr (reg core SR) (reg c SR)) (put_core b PC (low Word (reg a 7)) (put_core a SR (reg a SR) (put_core core PC (add16 (reg core PC) 2) s)))

abbrev AtStart : List ℕ → Type 0
AtStart core = (others : List ℕ) × (core ≡ 0x0300 ∷ others)

starts_at : (core : List ℕ) → reg core PC ≡ 0x0300 → AtStart core
starts_at [] e = absurd (omega (arith, e))
starts_at (pc ∷ others) e = (others, ap (λ x. x ∷ others) e)

-- an even PC is at the start of the text, or outside
places : (core : List ℕ) → IsCore core → AtStart core ⊎ (holds (row_module 0x0302).text (reg core PC) ≡ false)
places core s = by (holds (row_module 0x0302).text (reg core PC)) refl
  where
    by : (b : Bool) → holds (row_module 0x0302).text (reg core PC) ≡ b → AtStart core ⊎ (holds (row_module 0x0302).text (reg core PC) ≡ false)
    by false e = inr e
    by true e = let even = s.even_pc in inl (starts_at core (grind (arith, nat_tests)))

-- ---- two calls

later_alike : (R : List ℕ → List ℕ → Type 0) (o p : CallEnd) → ends_then [] R o p → ends_then [] R (later o) (later p)
later_alike R Running Running h = tt
later_alike R (Closing c d k) (Closing c' d' k') h = (h.0, ap (λ i. i + 1) h.1)
later_alike R (Exit c d k) (Exit c' d' k') h = (h.0, ap (λ i. i + 1) h.1, h.2)
later_alike R _ _ h = absurd h

module _ (key : List ℕ) (caller : ℕ) where
  abbrev job : Job
  job = job_of key (row_module 0x0302) (bytes_of returning) caller

  does_back : (core d : List ℕ) → lone_does job back (stands core d 0) ≡ stands (next_core core) d 1
  unfolding lone_does asks plan effect does does_freely confined cycles_of next_core
  does_back core d = refl

  begins : (core d : List ℕ) → AtStart core → doing job (stands core d 0) ≡ Does back
  unfolding doing next_insn insn_of asks plan bytes_of
  begins core d start = subst (λ c. doing job (stands c d 0) ≡ Does back) (sym start.1) refl

  ends : (core d : List ℕ) → holds (row_module 0x0302).text (reg core PC) ≡ false → doing job (stands core d 0) ≡ Leaves
  unfolding doing
  ends core d e = ap (λ b. doing_by 0 false b (next_insn job (stands core d 0))) e

  turns : (n : ℕ) (core d : List ℕ) → AtStart core → outcome job (suc n) (stands core d 0) ≡ later (outcome job n (stands (next_core core) d 1))
  turns n core d start =
      ap (λ x. in_time x (outcome job n) job (stands core d 0)) (begins core d start) ∙ ap (λ l. later (outcome job n l)) (does_back core d)

  module _ (R : List ℕ → List ℕ → Type 0) (d e : List ℕ) (r : R d e) where
    both : (x y o p : CallEnd) → x ≡ o → y ≡ p → ends_then [] R o p → ends_then [] R x y
    both x y o p f g h = subst (λ z. ends_then [] R z y) (sym f) (subst (λ z. ends_then [] R o z) (sym g) h)

    leaves : (n : ℕ) (core : List ℕ) → holds (row_module 0x0302).text (reg core PC) ≡ false → ends_then [] R (outcome job n (stands core d 0)) (outcome job n (stands core e 0))
    leaves zero core out =
        both (outcome job 0 (stands core d 0)) (outcome job 0 (stands core e 0)) (Exit core d 0) (Exit core e 0)
        (ap (λ x. at_once x (stands core d 0)) (ends core d out)) (ap (λ x. at_once x (stands core e 0)) (ends core e out)) (refl, refl, λ same. r)
    leaves (suc n) core out =
        both (outcome job (suc n) (stands core d 0)) (outcome job (suc n) (stands core e 0)) (Exit core d 0) (Exit core e 0)
        (ap (λ x. in_time x (outcome job n) job (stands core d 0)) (ends core d out)) (ap (λ x. in_time x (outcome job n) job (stands core e 0)) (ends core e out)) (refl, refl, λ same. r)

    ends_alike : (n rest : ℕ) (core : List ℕ) → IsCore core → ends_then [] R (outcome job n (stands core d rest)) (outcome job n (stands core e rest))
    unfolding doing
    ends_alike zero (suc k) core s = tt
    ends_alike (suc n) (suc k) core s = later_alike R (outcome job n (stands core d k)) (outcome job n (stands core e k)) (ends_alike n k core s)
    ends_alike zero zero core s =
        ⊎_elim
        (λ start.
        both (outcome job 0 (stands core d 0)) (outcome job 0 (stands core e 0)) Running Running
        (ap (λ x. at_once x (stands core d 0)) (begins core d start)) (ap (λ x. at_once x (stands core e 0)) (begins core e start)) tt)
        (leaves zero core) (places core s)
    ends_alike (suc n) zero core s =
        let d_later = outcome job n (stands (next_core core) d 1) in
        let e_later = outcome job n (stands (next_core core) e 1) in
        let after = later_alike R d_later e_later (ends_alike n 1 (next_core core) (next_sound core s)) in
        ⊎_elim
        (λ start.
        both (outcome job (suc n) (stands core d 0)) (outcome job (suc n) (stands core e 0)) (later d_later) (later e_later)
        (turns n core d start) (turns n core e start) after)
        (leaves (suc n) core) (places core s)

even : (key d e : List ℕ) → AlwaysEven key (row_module 0x0302) (bytes_of returning) d e
even key d e [] n h = tt
even key d e (x ∷ xs) n h =
    ends_alike key x.caller (EvenBut [] key (row_module 0x0302) (bytes_of returning) n xs) d e (even key d e xs n (All-tail (IsEntry (row_module 0x0302)) x xs h))
    n 0 x.core (All-head (IsEntry (row_module 0x0302)) x xs h).core_ok

-- ---- the peers

returning_text : section (row_module 0x0302).text (row_image returning 0x0302 0x00ab).memory ≡ bytes_of returning
unfolding memory_of bytes_of
returning_text = refl

pub returning_peers : ReturningPeers
unfolding all_words
returning_peers =
    let a = row_image returning 0x0302 0x00ab in
    let b = row_image returning 0x0302 0x00cd in
    let m = row_module 0x0302 in
    let d = differ returning 0x0302 0x00ab 0x00cd refl (omega arith) refl (omega arith) (omega arith) (omega arith) in
    record {
      owner = m;
      differ = d;
      answers_ok = refl;
      even = subst (λ t. AlwaysEven a.node_key m t (section m.ram a.memory) (section m.ram b.memory)) (sym returning_text) (even a.node_key (section m.ram a.memory) (section m.ram b.memory));
    }

-- The definitions of one instruction, unfolded once, over the values that a step of the code has computed.
use Rattle.std.proofs.Common.{◌≡◌, ℕ, ◌*◌, List, ◌++◌, refl, sym, ap, ◌∙◌, Bool, true, Option}
use Rattle.std.specs.Prelude.{ℤ}
use Rattle.sm_words.specs.Words.{reg, bit, add16}
use Rattle.sm_words.specs.declared.registers.TheConstants.{PC, SP, SR}
use Rattle.sm_words.specs.declared.status.TheConstants.{CARRY}
use Rattle.sm_words.specs.declared.width.Width.{Width}
use Rattle.insn_decode.specs.Code.{words_of}
use Rattle.insn_decode.specs.declared.insn.Condition.{Condition}
use Rattle.insn_decode.specs.declared.insn.Insn.{Insn}
use Rattle.insn_decode.specs.declared.insn.Insn.TheVariants.{Two, One, Jump}
use Rattle.insn_decode.specs.declared.insn.OneOp.{OneOp}
use Rattle.insn_decode.specs.declared.insn.Operand.{Operand}
use Rattle.insn_decode.specs.declared.insn.TwoOp.{TwoOp}
use Rattle.insn_decode.specs.declared.insn.TwoOp.TheVariants.{Mov}
use Rattle.pc_access.specs.declared.Kind.TheVariants.{Read, Write}
use Rattle.cpu_step.specs.Plan.{past, place, stepped, lowered, access_if, reads_dst, writes_dst, one_writes, plan}
use Rattle.cpu_step.specs.Effect.{given, after_given, two_result, written, one_done, jumps, jumped, Done, does_freely}
use Rattle.cpu_step.specs.declared.result.Computed.{Computed}
use Rattle.cpu_step.specs.internal.Through.{old_value}

-- no result takes the old value of a destination that is not read
unread : (op : TwoOp) (w : Width) (a b c : ℕ) → two_result op w a (old_value (reads_dst op) b) c ≡ two_result op w a b c
unread Mov w a b c = refl
unread _ w a b c = refl

module _ (core values : List ℕ) where
  pub two_form : (op : TwoOp) (w : Width) (s d : Operand) (core1 core2 : List ℕ) (a b c : ℕ) (r : Computed) →
      core1 ≡ past (Two op w s d) core → a ≡ given s w core1 values → core2 ≡ stepped w s core1 →
      b ≡ old_value (reads_dst op) (given d w core2 (after_given s values)) → c ≡ bit CARRY (reg core SR) → r ≡ two_result op w a b c →
      written (writes_dst op) d r core2 ≡ does_freely (Two op w s d) core values
  unfolding does_freely
  two_form op w s d core1 core2 a b c r e1 ea e2 eb ec er =
      let out : Computed → List ℕ → Done = λ r y. written (writes_dst op) d r y in
      let old : List ℕ → ℕ = λ y. given d w y (after_given s values) in
      ap (λ r. out r core2) er
      ∙ ap (λ x. out (two_result op w a b x) core2) ec
      ∙ ap (λ x. out (two_result op w a x (bit CARRY (reg core SR))) core2) eb
      ∙ ap (λ x. out x core2) (unread op w a (old core2) (bit CARRY (reg core SR)))
      ∙ ap (λ x. out (two_result op w x (old core2) (bit CARRY (reg core SR))) core2) ea
      ∙ ap (λ y. out (two_result op w (given s w core1 values) (old y) (bit CARRY (reg core SR))) y) e2
      ∙ ap (λ x. out (two_result op w (given s w x values) (old (stepped w s x)) (bit CARRY (reg core SR))) (stepped w s x)) e1

  pub one_form : (op : OneOp) (w : Width) (arg : Operand) (core1 core2 : List ℕ) (a c : ℕ) →
      core1 ≡ past (One op w arg) core → a ≡ given arg w core1 values → core2 ≡ stepped w arg core1 → c ≡ bit CARRY (reg core SR) →
      one_done op w arg a c core2 ≡ does_freely (One op w arg) core values
  unfolding does_freely
  one_form op w arg core1 core2 a c e1 ea e2 ec =
      ap (λ x. one_done op w arg a x core2) ec
      ∙ ap (λ x. one_done op w arg x (bit CARRY (reg core SR)) core2) ea
      ∙ ap (λ y. one_done op w arg (given arg w core1 values) (bit CARRY (reg core SR)) y) e2
      ∙ ap (λ x. one_done op w arg (given arg w x values) (bit CARRY (reg core SR)) (stepped w arg x)) e1

  pub jump_form : (insn : Insn) (condition : Condition) (offset : ℤ) (core1 : List ℕ) (t : Bool) →
      insn ≡ Jump condition offset → core1 ≡ past insn core → t ≡ jumps condition (reg core SR) →
      jumped t offset core1 ≡ (does_freely insn core values).core
  unfolding does_freely
  jump_form insn condition offset core1 t e0 e1 et =
      ap (λ x. jumped x offset core1) et
      ∙ ap (jumped (jumps condition (reg core SR)) offset) (e1 ∙ ap (λ i. past i core) e0)
      ∙ sym (ap (λ i. (does_freely i core values).core) e0)

module _ (insn : Insn) (core : List ℕ) where
  pub plan_two_form : (op : TwoOp) (w : Width) (s d : Operand) (core1 core2 : List ℕ) (x1 x2 : ℕ) (a b : Option ℕ) →
      insn ≡ Two op w s d → core1 ≡ past insn core → x1 ≡ add16 (reg core PC) 2 → a ≡ place s core1 x1 → core2 ≡ stepped w s core1 →
      x2 ≡ add16 x1 (2 * words_of s) → b ≡ place d core2 x2 →
      access_if true Read w a ++ access_if (reads_dst op) Read w b ++ access_if (writes_dst op) Write w b ≡ plan insn core
  unfolding plan
  plan_two_form op w s d core1 core2 x1 x2 a b e0 e1 f1 ea e2 f2 eb =
      let ext : ℕ = add16 (reg core PC) 2 in
      let first : core1 ≡ past (Two op w s d) core = e1 ∙ ap (λ i. past i core) e0 in
      let to_a : a ≡ place s (past (Two op w s d) core) ext = ea ∙ ap (λ x. place s x x1) first ∙ ap (place s (past (Two op w s d) core)) f1 in
      let to_x : x2 ≡ add16 ext (2 * words_of s) = f2 ∙ ap (λ x. add16 x (2 * words_of s)) f1 in
      let to_b : b ≡ place d (stepped w s (past (Two op w s d) core)) (add16 ext (2 * words_of s)) =
      eb ∙ ap (λ y. place d y x2) (e2 ∙ ap (stepped w s) first) ∙ ap (place d (stepped w s (past (Two op w s d) core))) to_x in
      ap (λ z. access_if true Read w z ++ access_if (reads_dst op) Read w b ++ access_if (writes_dst op) Write w b) to_a
      ∙ ap (λ z. access_if true Read w (place s (past (Two op w s d) core) ext) ++ access_if (reads_dst op) Read w z ++ access_if (writes_dst op) Write w z) to_b
      ∙ sym (ap (λ i. plan i core) e0)

  pub plan_one_form : (op : OneOp) (w : Width) (arg : Operand) (core1 core2 core3 : List ℕ) (x1 : ℕ) (a : Option ℕ) (sp : ℕ) →
      insn ≡ One op w arg → core1 ≡ past insn core → x1 ≡ add16 (reg core PC) 2 → a ≡ place arg core1 x1 → core2 ≡ stepped w arg core1 →
      core3 ≡ lowered core2 → sp ≡ reg core3 SP →
      access_if true Read w a ++ one_writes op w a sp ≡ plan insn core
  unfolding plan
  plan_one_form op w arg core1 core2 core3 x1 a sp e0 e1 f1 ea e2 e3 es =
      let first : core1 ≡ past (One op w arg) core = e1 ∙ ap (λ i. past i core) e0 in
      let to_a : a ≡ place arg (past (One op w arg) core) (add16 (reg core PC) 2) = ea ∙ ap (λ x. place arg x x1) first ∙ ap (place arg (past (One op w arg) core)) f1 in
      let to_sp : sp ≡ reg (lowered (stepped w arg (past (One op w arg) core))) SP = es ∙ ap (λ x. reg x SP) e3 ∙ ap (λ x. reg (lowered x) SP) e2 ∙ ap (λ x. reg (lowered (stepped w arg x)) SP) first in
      ap (λ z. access_if true Read w z ++ one_writes op w z sp) to_a
      ∙ ap (λ z. access_if true Read w (place arg (past (One op w arg) core) (add16 (reg core PC) 2)) ++ one_writes op w (place arg (past (One op w arg) core) (add16 (reg core PC) 2)) z) to_sp
      ∙ sym (ap (λ i. plan i core) e0)

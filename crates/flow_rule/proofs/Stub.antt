-- The words of a stub, and its steps.
use Rattle.std.proofs.Common.{◌≡◌, ◌⊎◌, inl, inr, ℕ, zero, suc, ◌+◌, ◌*◌, ◌%◌, ◌<◌, ◌≤◌, List, [], ◌∷◌, length, refl, ap, ◌∙◌, subst, arith, Bool, true, nat_lt, nat_le, ◌==◌, ◌&&◌, cond, Some, None}
use Rattle.std.proofs.lemmas.Bool.{and_parts, cases_lt, eqb-true, leb-true}
use Rattle.std.proofs.lemmas.Bool.Decides.{nat_tests}
use Rattle.sm_words.specs.Words.{nth, word_at}
use Rattle.insn_decode.specs.Code.{insn_of, length_of}
use Rattle.insn_decode.specs.declared.insn.Insn.{Insn}
use Rattle.mod_layout.specs.declared.Module.{Module}
use Rattle.mod_layout.specs.Table.{holds, size_of}
use Rattle.cpu_step.specs.Fetched.{insn_at, word_in, insn_from}
use Rattle.flow_rule.specs.Stub.{text_word, word_number, words_are, table_fine, has_stub}
use Rattle.arm_balance.specs.Met.{text_byte, met}
use Rattle.entry_stubs.specs.Stub.{stub_front}

pub record StubFacts (m : Module) (text : List ℕ) (n p : ℕ) : Type 0 where
  pub room : 76 + 2 * n ≤ size_of m.text
  pub some : 1 ≤ n
  pub few : n ≤ 64
  pub words : (i : ℕ) → i < 38 → text_word m text i ≡ nth i (stub_front m.text.start m.text.end m.ram.start n p) 0
  pub table : (i : ℕ) → i < n → (text_word m text (38 + i) % 2 ≡ 0) × (m.text.start + 76 + 2 * n ≤ text_word m text (38 + i)) × (text_word m text (38 + i) < m.text.end)

-- a place by its word
pub place_of_word : (m : Module) (a k : ℕ) → m.text.start % 2 ≡ 0 → word_number m a ≡ k → a % 2 ≡ 0 → holds m.text a ≡ true → a ≡ m.text.start + 2 * k
place_of_word m a k start e even inn = let low : m.text.start ≤ a = grind (arith, nat_tests) in omega arith

words_at : (m : Module) (text : List ℕ) (k : ℕ) (ws : List ℕ) → words_are m text k ws ≡ true → (i : ℕ) → i < length ws → text_word m text (k + i) ≡ nth i ws 0
words_at m text k [] e i lt = absurd (omega arith)
words_at m text k (w ∷ ws) e zero lt =
    let h = and_parts (text_word m text k == w) (words_are m text (k + 1) ws) e in
    let f : k + zero ≡ k = omega arith in
    ap (λ i. text_word m text i) f ∙ eqb-true (text_word m text k) w h.0
words_at m text k (w ∷ ws) e (suc i) lt =
    let h = and_parts (text_word m text k == w) (words_are m text (k + 1) ws) e in
    let f : k + suc i ≡ k + 1 + i = omega arith in
    ap (λ i. text_word m text i) f ∙ words_at m text (k + 1) ws h.1 i (omega arith)

table_at : (m : Module) (text : List ℕ) (entries k : ℕ) → table_fine m text entries k ≡ true → (i : ℕ) → i < k →
    (text_word m text (38 + i) % 2 ≡ 0) × (m.text.start + 76 + 2 * entries ≤ text_word m text (38 + i)) × (text_word m text (38 + i) < m.text.end)
table_at m text entries zero e i lt = absurd (omega arith)
table_at m text entries (suc k) e i lt =
    let a = text_word m text (38 + k) in
    let h1 = and_parts ((a % 2 == 0) && nat_le (m.text.start + 76 + 2 * entries) a && nat_lt a m.text.end) (table_fine m text entries k) e in
    let h2 = and_parts ((a % 2 == 0) && nat_le (m.text.start + 76 + 2 * entries) a) (nat_lt a m.text.end) h1.0 in
    let h3 = and_parts (a % 2 == 0) (nat_le (m.text.start + 76 + 2 * entries) a) h2.0 in
    by (word_facts a h3.0 h3.1 h2.1) (cases_lt i k) (λ lt. table_at m text entries k h1.1 i lt)
  where
    word_facts : (a : ℕ) → (a % 2 == 0) ≡ true → nat_le (m.text.start + 76 + 2 * entries) a ≡ true → nat_lt a m.text.end ≡ true → (a % 2 ≡ 0) × (m.text.start + 76 + 2 * entries ≤ a) × (a < m.text.end)
    word_facts a p q r = (grind (arith, nat_tests), grind (arith, nat_tests), grind (arith, nat_tests))

    by : (text_word m text (38 + k) % 2 ≡ 0) × (m.text.start + 76 + 2 * entries ≤ text_word m text (38 + k)) × (text_word m text (38 + k) < m.text.end) → (i < k) ⊎ (k ≤ i) →
        (i < k → (text_word m text (38 + i) % 2 ≡ 0) × (m.text.start + 76 + 2 * entries ≤ text_word m text (38 + i)) × (text_word m text (38 + i) < m.text.end)) →
        (text_word m text (38 + i) % 2 ≡ 0) × (m.text.start + 76 + 2 * entries ≤ text_word m text (38 + i)) × (text_word m text (38 + i) < m.text.end)
    by w (inl l) go = go l
    by w (inr ge) go =
        let f : k ≡ i = omega arith in
        subst (λ i. (text_word m text (38 + i) % 2 ≡ 0) × (m.text.start + 76 + 2 * entries ≤ text_word m text (38 + i)) × (text_word m text (38 + i) < m.text.end)) f w

seven : (a b c d e f g h : Bool) → (a && b && c && d && e && f && g && h) ≡ true → (a ≡ true) × (b ≡ true) × (c ≡ true) × (d ≡ true) × (h ≡ true)
seven true true true true true true true true e = (refl, refl, refl, refl, refl)
seven a b c d e f g h p = absurd cc

pub stub_facts : (m : Module) (text : List ℕ) → has_stub m text ≡ true → StubFacts m text (text_word m text 8) (text_word m text 15)
unfolding has_stub
stub_facts m text e =
    let n = text_word m text 8 in
    let p = text_word m text 15 in
    let h = seven (nat_le (76 + 2 * n) (size_of m.text)) (words_are m text 0 (stub_front m.text.start m.text.end m.ram.start n p)) (nat_le 1 n) (nat_le n 64) (nat_le (m.ram.start + 4) p) (p % 2 == 0) (nat_le p m.ram.end) (table_fine m text n n) e in
    record {
      room = leb-true (76 + 2 * n) (size_of m.text) h.0;
      some = leb-true 1 n h.2;
      few = leb-true n 64 h.3;
      words = λ i lt. ap (λ i. text_word m text i) (let f : i ≡ 0 + i = omega arith in f) ∙ words_at m text 0 (stub_front m.text.start m.text.end m.ram.start n p) h.1 i lt;
      table = table_at m text n n h.4;
    }

-- ---- met at an address
module _ (m : Module) (text : List ℕ) where
  pub met_one : (pc w : ℕ) (insn : Insn) → word_at (text_byte m.text text) pc ≡ w → insn_of w 0 0 ≡ Some insn → length_of insn ≡ 1 → met m.text text pc ≡ Some insn
  unfolding met
  met_one pc w insn e f one =
      ap (λ w. insn_from (insn_of w 0 0) (text_byte m.text text) m.text pc) e ∙ ap (λ o. insn_from o (text_byte m.text text) m.text pc) f ∙ ap (λ n. cond (word_in m.text pc n 1 && word_in m.text pc n 2) (insn_at (text_byte m.text text) pc n) None) one
      ∙ ap (λ w. insn_of w 0 0) e ∙ f

  pub met_two : (pc w x : ℕ) (first insn : Insn) → word_at (text_byte m.text text) pc ≡ w → word_at (text_byte m.text text) (pc + 2) ≡ x → insn_of w 0 0 ≡ Some first → length_of first ≡ 2 → holds m.text (pc + 2) ≡ true → insn_of w x 0 ≡ Some insn → met m.text text pc ≡ Some insn
  unfolding met
  met_two pc w x first insn e g f two inn h =
      ap (λ w. insn_from (insn_of w 0 0) (text_byte m.text text) m.text pc) e ∙ ap (λ o. insn_from o (text_byte m.text text) m.text pc) f ∙ ap (λ n. cond (word_in m.text pc n 1 && word_in m.text pc n 2) (insn_at (text_byte m.text text) pc n) None) two
      ∙ ap (λ b. cond (b && true) (insn_of (word_at (text_byte m.text text) pc) (word_at (text_byte m.text text) (pc + 2)) 0) None) inn
      ∙ ap (λ w. insn_of w (word_at (text_byte m.text text) (pc + 2)) 0) e ∙ ap (λ x. insn_of w x 0) g ∙ h

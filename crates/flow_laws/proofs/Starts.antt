-- Where a call begins.
use Rattle.std.proofs.Common.{◌≡◌, inl, ℕ, zero, suc, ◌+◌, ◌%◌, ◌<◌, ◌≤◌, ◌==◌, List, length, set, replicate, refl, sym, ap, ◌∙◌, subst, arith, true, false}
use Rattle.std.proofs.lemmas.Bool.Decides.{nat_tests}
use Rattle.sm_words.specs.Words.{reg, nth, IsCore}
use Rattle.mod_layout.specs.declared.Module.{Module}
use Rattle.mod_layout.specs.declared.Section.{Section}
use Rattle.mod_layout.specs.Table.{holds}
use Rattle.mod_layout.specs.Tables.{IsSection}
use Rattle.cpu_step.specs.Lone.{Entrance, starts, job_of, outcome, IsEntry}
use Rattle.flow_rule.specs.Terms.{Terms}
use Rattle.flow_rule.specs.declared.Val.{Val}
use Rattle.flow_rule.specs.declared.Val.TheVariants.{Away, Public, Secret}
use Rattle.flow_rule.specs.Values.{flags_in, val}
use Rattle.flow_rule.specs.Stub.{word_number}
use Rattle.flow_rule.specs.Verdict.{no_secret, start_point}
use Rattle.cpu_step.proofs.Alike.{ends_but}
use Rattle.flow_laws.specs.Laws.{AgreeOn}
use Rattle.flow_rule.proofs.Meaning.{Agrees}
use Rattle.flow_laws.proofs.Words.{Shape, IsData}
use Rattle.flow_laws.proofs.Telling.{opened_at}
use Rattle.flow_laws.specs.Releases.{Release}
use Rattle.flow_laws.proofs.Told.{EndsOr}
use Rattle.flow_laws.proofs.Instruction.{AgreeAt}
use Rattle.flow_rule.proofs.Stub.{StubFacts}
use Rattle.flow_laws.proofs.Open.{HasEntry, AtStub}
use Rattle.flow_laws.proofs.Begin.{Calm}

pub shape_of : (m : Module) → IsSection m.text → IsSection m.ram → Shape m
shape_of m text ram =
    record { text_order = text.order; text_start = text.even_start; text_end = text.even_end; ram_start = ram.even_start; ram_end = ram.even_end; text_high = text.high }

-- ---- where a call begins
publics : (s : Section) (k n a : ℕ) → Agrees s (nth n (replicate k Public) Secret) a a
publics s zero n a = tt
publics s (suc k) zero a = refl
publics s (suc k) (suc n) a = publics s k n a

secrets : (s : Section) (k n a b : ℕ) → Agrees s (nth n (replicate k Secret) Secret) a b
secrets s zero n a b = tt
secrets s (suc k) zero a b = tt
secrets s (suc k) (suc n) a b = secrets s k n a b

starts_at : (s : Section) (c : List ℕ) (pc : ℕ) → reg c 0 ≡ pc → reg c 3 ≡ 0 → (n : ℕ) → Agrees s (val (no_secret pc) n) (reg c n) (reg c n)
starts_at s c pc e z zero = (e, e)
starts_at s c pc e z (suc zero) = refl
starts_at s c pc e z (suc (suc zero)) = refl
starts_at s c pc e z (suc (suc (suc zero))) = (z, z)
starts_at s c pc e z (suc (suc (suc (suc n)))) = publics s 12 n (reg c (suc (suc (suc (suc n)))))

-- one core, and any data that agree on the public words
one_core : (known : ℕ) (terms : Terms) (m : Module) (v : List Val) (c da db : List ℕ) (pc : ℕ) → val v 2 ≡ Public → length v ≤ 16 → length c ≡ 16 → ((n : ℕ) → Agrees m.text (val v n) (reg c n) (reg c n)) → reg c 2 < 512 → reg c 3 ≡ 0 → reg c 0 % 2 ≡ 0 → reg c 0 ≡ pc → holds m.text pc ≡ true →
    IsData m da → IsData m db → AgreeOn m terms.public da db → AgreeAt m (start_point known terms m pc v) c da c db
one_core known terms m v c da db pc calm short long at nine three even here inn pa pb agree =
    record {
      pc_a = here;
      pc_b = here;
      core = record { short = short; long_a = long; long_b = long; at = λ n ne. at n; flags = subst (λ u. Agrees m.text u (flags_in (reg c 2)) (flags_in (reg c 2))) (sym calm) refl; mode_same = refl; nine_a = nine; nine_b = nine; even_pc = even; zero_a = three; zero_b = three };
      words = record { is_a = pa; is_b = pb; at = opened_at m terms.public (replicate known Secret) da db agree (λ i. secrets m.text known i _ _) };
      in_text = inn;
    }

pub begins_at : (known : ℕ) (terms : Terms) (m : Module) (c da db : List ℕ) (pc : ℕ) → IsCore c → reg c 0 ≡ pc → holds m.text pc ≡ true → IsData m da → IsData m db → AgreeOn m terms.public da db → AgreeAt m (start_point known terms m pc (no_secret pc)) c da c db
begins_at known terms m c da db pc ok e t pa pb agree = one_core known terms m (no_secret pc) c da db pc refl (omega arith) ok.sixteen (starts_at m.text c pc e ok.zero_three) ok.nine_bits ok.zero_three ok.even_pc e t pa pb agree

pub start_in : (m : Module) → m.text.start < m.text.end → holds m.text m.text.start ≡ true
start_in m lt = grind (arith, nat_tests)

-- the same, or a release tells the runs apart
abbrev pub CallsOr : List Release → Terms → List ℕ → Module → List ℕ → Type 1
CallsOr ps terms key m text = (n : ℕ) (R : List ℕ → List ℕ → Type 0) → ((da db : List ℕ) → IsData m da → IsData m db → AgreeOn m terms.public da db → R da db) →
    (e : Entrance) → IsEntry m e → (da db : List ℕ) → IsData m da → IsData m db → AgreeOn m terms.public da db →
    EndsOr ps terms.answers R (job_of key m text e.caller) n (starts e da) (starts e db)

-- one call ends alike but for the answers; what it leaves may be any data that agree on the public words
abbrev pub CallsAlike : Terms → List ℕ → Module → List ℕ → Type 1
CallsAlike terms key m text = (n : ℕ) (R : List ℕ → List ℕ → Type 0) → ((da db : List ℕ) → IsData m da → IsData m db → AgreeOn m terms.public da db → R da db) →
    (e : Entrance) → IsEntry m e → (da db : List ℕ) → IsData m da → IsData m db → AgreeOn m terms.public da db →
    ends_but terms.answers R (outcome (job_of key m text e.caller) n (starts e da)) (outcome (job_of key m text e.caller) n (starts e db))

pub away_start : (s : Section) (c : List ℕ) (pc : ℕ) → reg c 0 ≡ pc → reg c 3 ≡ 0 → reg c 7 < 65536 → holds s (reg c 7) ≡ false → (n : ℕ) → Agrees s (val (set (no_secret pc) 7 Away) n) (reg c n) (reg c n)
away_start s c pc e z small out zero = (e, e)
away_start s c pc e z small out (suc zero) = refl
away_start s c pc e z small out (suc (suc zero)) = refl
away_start s c pc e z small out (suc (suc (suc zero))) = (z, z)
away_start s c pc e z small out (suc (suc (suc (suc zero)))) = refl
away_start s c pc e z small out (suc (suc (suc (suc (suc zero))))) = refl
away_start s c pc e z small out (suc (suc (suc (suc (suc (suc zero)))))) = refl
away_start s c pc e z small out (suc (suc (suc (suc (suc (suc (suc zero))))))) = (refl, small, out)
away_start s c pc e z small out (suc (suc (suc (suc (suc (suc (suc (suc n)))))))) = publics s 8 n (reg c (suc (suc (suc (suc (suc (suc (suc (suc n)))))))))

-- where the start's own way through a stub ends
pub stub_begins : (known : ℕ) (terms : Terms) (m : Module) (text : List ℕ) (n p : ℕ) → Shape m → StubFacts m text n p → (c da db : List ℕ) (six seven : ℕ) → seven < 65536 → holds m.text seven ≡ false → Calm c (m.text.start + 20) six seven → six < n → IsData m da → IsData m db → AgreeOn m terms.public da db →
    AtStub m n (start_point known terms m (m.text.start + 20) (set (no_secret (m.text.start + 20)) 7 Away)) c da c db
stub_begins known terms m text n p shape facts c da db six seven small out h few pa pb agree =
    let pc = m.text.start + 20 in
    let s0 = shape.text_start in
    record {
      agree = one_core known terms m (set (no_secret pc) 7 Away) c da db pc refl (omega arith) h.long (away_start m.text c pc h.here h.three (subst (λ i. i < 65536) (sym h.seven_is) small) (ap (λ i. holds m.text i) h.seven_is ∙ out))
          h.nine h.three (ap (λ i. i % 2) h.here ∙ even_20) h.here inside pa pb agree;
      entry = λ low. subst (λ k. HasEntry n (k == 17) k c c) (sym at_10) (inl refl, subst (λ i. i < n) (sym h.six_is) few, refl);
    }
  where
    even_20 : (m.text.start + 20) % 2 ≡ 0
    even_20 = let s0 = shape.text_start in omega arith

    at_10 : word_number m (m.text.start + 20) ≡ 10
    at_10 = omega arith

    inside : holds m.text (m.text.start + 20) ≡ true
    inside = let r = facts.room in let o = shape.text_order in let lt : m.text.start + 20 < m.text.end = omega arith in grind (arith, nat_tests)

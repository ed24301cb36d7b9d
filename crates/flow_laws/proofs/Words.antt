-- The data of two runs that agree under values of their words, and reads and writes.
use Rattle.std.proofs.Common.{◌≡◌, ◌≢◌, ◌⊎◌, inl, inr, ℕ, ◌+◌, ◌-◌, ◌*◌, ◌/◌, ◌%◌, ◌<◌, ◌≤◌, List, [], ◌∷◌, length, get_or, set, map, refl, sym, ap, ◌∙◌, subst, arith, Bool, true, false, cond, ◌==◌, ◌||◌, not, length-set, get_or-set_same, get_or-set_other}
use Rattle.std.proofs.lemmas.Bool.{and_parts}
use Rattle.std.proofs.lemmas.Bool.Decides.{nat_tests}
use Rattle.sm_words.specs.Words.{nth, word_at}
use Rattle.sm_words.specs.Sums.{low}
use Rattle.sm_words.specs.declared.width.Width.{Width}
use Rattle.sm_words.specs.declared.width.Width.TheVariants.{Byte, Word}
use Rattle.pc_access.specs.declared.Kind.{Kind}
use Rattle.pc_access.specs.declared.Kind.TheVariants.{Fetch, Read, Write}
use Rattle.pc_access.specs.declared.Access.{Access}
use Rattle.mod_layout.specs.declared.Module.{Module}
use Rattle.mod_layout.specs.Table.{holds, size_of}
use Rattle.pc_access.specs.Rights.{misaligned}
use Rattle.attest.specs.Accesses.{is_read, is_write, reads_of, writes_of}
use Rattle.cpu_step.specs.Lone.{value_at, Job, lone_byte, lone_read, lone_write, lone_writes, job_of}
use Rattle.flow_rule.specs.declared.Val.{Val}
use Rattle.flow_rule.specs.declared.Val.TheVariants.{Known, Public, Secret}
use Rattle.flow_rule.specs.Values.{over_one, blurred, narrow}
use Rattle.flow_rule.specs.declared.Reach.{Reach}
use Rattle.flow_rule.specs.Does.{may_reach, word_no, half, read_at, read_val, write_at, write_val, writes_val, read_reaches, write_reaches}
use Rattle.flow_rule.specs.Arms.{written_words}
use Rattle.arm_balance.specs.Met.{text_byte}
use Rattle.flow_rule.proofs.Meaning.{Agrees, set_holds, agrees_as, over_one_agrees, blurred_same}
use Rattle.flow_rule.proofs.Effects.{AgreeList, narrow_agrees}
use Rattle.flow_rule.proofs.Plans.{Fixed}

-- the i-th word
abbrev pub word : List ℕ → ℕ → ℕ
word d i = get_or d (2 * i) 0 + 256 * get_or d (2 * i + 1) 0

-- a number that is not on a list
abbrev pub NotIn : ℕ → List ℕ → Type 0
NotIn k [] = Unit {0}
NotIn k (n ∷ ns) = (k ≢ n) × NotIn k ns

pub record Shape (m : Module) : Type 0 where
  pub text_order : m.text.start < m.text.end
  pub text_start : m.text.start % 2 ≡ 0
  pub text_end : m.text.end % 2 ≡ 0
  pub ram_start : m.ram.start % 2 ≡ 0
  pub ram_end : m.ram.end % 2 ≡ 0
  pub text_high : m.text.end ≤ 65504

pub record IsData (m : Module) (d : List ℕ) : Type 0 where
  pub long : length d ≡ size_of m.ram
  pub bytes : (i : ℕ) → get_or d i 0 < 256

pub record AgreeData (m : Module) (v : List Val) (a b : List ℕ) : Type 0 where
  pub is_a : IsData m a
  pub is_b : IsData m b
  pub at : (i : ℕ) → Agrees m.text (nth i v Secret) (word a i) (word b i)

or_second : (a b : Bool) → (a || b) ≡ true → a ≡ false → b ≡ true
or_second false b e f = e
or_second true b e f = absurd cc

aligned : (a : ℕ) → not (misaligned Word a) ≡ true → a % 2 ≡ 0
aligned a e = by (a % 2 == 1) refl e
  where
    by : (c : Bool) → (a % 2 == 1) ≡ c → not c ≡ true → a % 2 ≡ 0
    by true f e = absurd cc
    by false f e = let k : a % 2 ≢ 1 = grind (arith, nat_tests) in omega arith

module _ (key : List ℕ) (m : Module) (text : List ℕ) (caller : ℕ) (shape : Shape m) where
  abbrev j : Job
  j = job_of key m text caller

  pub text_next : (a : ℕ) → a % 2 ≡ 0 → holds m.text (a + 1) ≡ holds m.text a
  text_next a e = let p = shape.text_start in let q = shape.text_end in by (holds m.text a) (holds m.text (a + 1)) refl refl
    where
      by : (c d : Bool) → holds m.text a ≡ c → holds m.text (a + 1) ≡ d → d ≡ c
      by true true f g = refl
      by false false f g = refl
      by true false f g = let p = shape.text_start in let q = shape.text_end in
          let low : m.text.start ≤ a = grind (arith, nat_tests) in
          let high : a < m.text.end = grind (arith, nat_tests) in
          let high' : a + 1 < m.text.end = omega arith in
          absurd (grind (arith, nat_tests))
      by false true f g = let p = shape.text_start in let q = shape.text_end in
          let low : m.text.start ≤ a + 1 = grind (arith, nat_tests) in
          let high : a + 1 < m.text.end = grind (arith, nat_tests) in
          let low' : m.text.start ≤ a = omega arith in
          absurd (grind (arith, nat_tests))

  pub byte_text : (d : List ℕ) (a : ℕ) → holds m.text a ≡ true → lone_byte j d a ≡ text_byte m.text text a
  byte_text d a e = ap (λ c. cond c (get_or text (a - m.text.start) 0) (get_or d (a - m.ram.start) 0)) e

  byte_ram : (d : List ℕ) (a : ℕ) → holds m.text a ≡ false → lone_byte j d a ≡ get_or d (a - m.ram.start) 0
  byte_ram d a e = ap (λ c. cond c (get_or text (a - m.text.start) 0) (get_or d (a - m.ram.start) 0)) e

  pub word_text : (d : List ℕ) (a : ℕ) → a % 2 ≡ 0 → holds m.text a ≡ true → word_at (lone_byte j d) a ≡ word_at (text_byte m.text text) a
  word_text d a e h = let p = byte_text d a h in let q = byte_text d (a + 1) (text_next a e ∙ h) in cc

  word_ram : (d : List ℕ) (a : ℕ) → a % 2 ≡ 0 → m.ram.start ≤ a → holds m.text a ≡ false → word_at (lone_byte j d) a ≡ word d (word_no m a)
  word_ram d a e low h =
      let p = shape.ram_start in
      let i : a - m.ram.start ≡ 2 * word_no m a = omega arith in
      let k : a + 1 - m.ram.start ≡ 2 * word_no m a + 1 = omega arith in
      let x = byte_ram d a h ∙ ap (λ n. get_or d n 0) i in
      let y = byte_ram d (a + 1) (text_next a e ∙ h) ∙ ap (λ n. get_or d n 0) k in
      cc

  half_word : (d : List ℕ) (a : ℕ) → IsData m d → m.ram.start ≤ a → holds m.text a ≡ false → lone_byte j d a ≡ half a (word d (word_no m a))
  half_word d a ok low h = byte_ram d a h ∙ by (a % 2 == 0) refl
    where
      by : (c : Bool) → (a % 2 == 0) ≡ c → get_or d (a - m.ram.start) 0 ≡ cond c (word d (word_no m a) % 256) (word d (word_no m a) / 256)
      by true f =
          let e : a % 2 ≡ 0 = grind (arith, nat_tests) in
          let p = shape.ram_start in
          let i : a - m.ram.start ≡ 2 * word_no m a = omega arith in
          let b0 = ok.bytes (2 * word_no m a) in
          let x = get_or d (2 * word_no m a) 0 in
          ap (λ n. get_or d n 0) i ∙ low_byte (get_or d (2 * word_no m a) 0) (get_or d (2 * word_no m a + 1) 0) b0
        where
          low_byte : (x y : ℕ) → x < 256 → x ≡ (x + 256 * y) % 256
          low_byte x y h = omega arith
      by false f =
          let ne : a % 2 ≢ 0 = grind (arith, nat_tests) in
          let p = shape.ram_start in
          let i : a - m.ram.start ≡ 2 * word_no m a + 1 = omega arith in
          let b0 = ok.bytes (2 * word_no m a) in
          ap (λ n. get_or d n 0) i ∙ high_byte (get_or d (2 * word_no m a) 0) (get_or d (2 * word_no m a + 1) 0) b0
        where
          high_byte : (x y : ℕ) → x < 256 → y ≡ (x + 256 * y) / 256
          high_byte x y h = omega arith

  in_ram : (a : ℕ) → holds m.ram a ≡ true → m.ram.start ≤ a
  in_ram a e = grind (arith, nat_tests)

  read_agrees : (v : List Val) (a b : List ℕ) (w : Width) (x : ℕ) → AgreeData m v a b → may_reach m Read w x ≡ true →
      Agrees m.text (read_at m text v w x) (lone_read j a (record { kind = Read; addr = x; width = w })) (lone_read j b (record { kind = Read; addr = x; width = w }))
  read_agrees v a b Word x h e =
      let t = and_parts (not (misaligned Word x)) (holds m.text x || holds m.ram x) e in
      by (holds m.text x) refl (aligned x t.0) t.1
    where
      by : (c : Bool) → holds m.text x ≡ c → x % 2 ≡ 0 → (holds m.text x || holds m.ram x) ≡ true → Agrees m.text (cond c (Known (word_at (text_byte m.text text) x)) (nth (word_no m x) v Secret)) (word_at (lone_byte j a) x) (word_at (lone_byte j b) x)
      by true f ev t = (word_text a x ev f, word_text b x ev f)
      by false f ev t =
          let low = in_ram x (or_second (holds m.text x) (holds m.ram x) t f) in
          agrees_as m.text _ _ _ _ _ _ refl (word_ram a x ev low f) (word_ram b x ev low f) (h.at (word_no m x))
  read_agrees v a b Byte x h e =
      by (holds m.text x) refl e
    where
      by : (c : Bool) → holds m.text x ≡ c → (holds m.text x || holds m.ram x) ≡ true → Agrees m.text (cond c (Known (text_byte m.text text x)) (over_one (half x) (nth (word_no m x) v Secret))) (lone_byte j a x) (lone_byte j b x)
      by true f t = (byte_text a x f, byte_text b x f)
      by false f t =
          let low = in_ram x (or_second (holds m.text x) (holds m.ram x) t f) in
          agrees_as m.text _ _ _ _ _ _ refl (half_word a x h.is_a low f) (half_word b x h.is_b low f) (over_one_agrees m.text (half x) (nth (word_no m x) v Secret) _ _ (h.at (word_no m x)))

  read_one : (v : List Val) (a b : List ℕ) (r : Reach) (x : Access) → AgreeData m v a b → r.addr ≡ Known x.addr → x.width ≡ r.width → may_reach m Read r.width x.addr ≡ true →
      Agrees m.text (read_val m text v r) (lone_read j a x) (lone_read j b x)
  read_one v a b r x h ea ew e =
      subst (λ p. Agrees m.text (elim p [ Known i ↦ read_at m text v r.width i | _ ↦ Secret ]) (lone_read j a x) (lone_read j b x)) (sym ea)
      (subst (λ w. Agrees m.text (read_at m text v r.width x.addr) (value_at w (lone_byte j a) x.addr) (value_at w (lone_byte j b) x.addr)) (sym ew)
      (read_agrees v a b r.width x.addr h e))

  reads_by : (v : List Val) (a b : List ℕ) (k l : Kind) (r : Reach) (x : Access) (rs : List Reach) (xs : List Access) → AgreeData m v a b → l ≡ k → r.addr ≡ Known x.addr → x.width ≡ r.width → may_reach m k r.width x.addr ≡ true →
      AgreeList m.text (map (read_val m text v) rs) (map (lone_read j a) xs) (map (lone_read j b) xs) →
      AgreeList m.text (map (read_val m text v) (cond (is_read k) (r ∷ rs) rs)) (map (lone_read j a) (cond (is_read l) (x ∷ xs) xs)) (map (lone_read j b) (cond (is_read l) (x ∷ xs) xs))
  reads_by v a b Read Read r x rs xs h kl ea ew e t = (read_one v a b r x h ea ew e, t)
  reads_by v a b Write Write r x rs xs h kl ea ew e t = t
  reads_by v a b Fetch Fetch r x rs xs h kl ea ew e t = t
  reads_by v a b _ _ r x rs xs h kl ea ew e t = absurd cc

  pub reads_agree : (v : List Val) (a b : List ℕ) (rs : List Reach) (xs : List Access) → AgreeData m v a b → Fixed m rs xs →
      AgreeList m.text (map (read_val m text v) (read_reaches rs)) (map (lone_read j a) (reads_of xs)) (map (lone_read j b) (reads_of xs))
  reads_agree v a b [] [] h f = tt
  reads_agree v a b [] (x ∷ xs) h f = absurd f
  reads_agree v a b (r ∷ rs) [] h f = absurd f
  reads_agree v a b (r ∷ rs) (x ∷ xs) h f = reads_by v a b r.kind x.kind r x (read_reaches rs) (reads_of xs) h f.1 f.0 f.2 f.3 (reads_agree v a b rs xs h f.4)

-- ---- writes
module _ (m : Module) (shape : Shape m) where
  -- one word becomes another in both
  set_word : (v : List Val) (a b c d : List ℕ) (k : ℕ) (w : Val) → AgreeData m v a b → IsData m c → IsData m d →
      Agrees m.text w (word c k) (word d k) → ((i : ℕ) → i ≢ k → (word c i ≡ word a i) × (word d i ≡ word b i)) → AgreeData m (set v k w) c d
  set_word v a b c d k w h ic id here there =
      record {
        is_a = ic;
        is_b = id;
        at = λ i. set_holds (λ u. Agrees m.text u (word c i) (word d i)) v Secret k i w tt (λ e. subst (λ i. Agrees m.text w (word c i) (word d i)) (sym e) here)
            (λ ne. let t = there i ne in agrees_as m.text _ _ _ _ _ _ refl t.0 t.1 (h.at i));
      }

  set_bytes : (d : List ℕ) (n x : ℕ) → x < 256 → IsData m d → IsData m (set d n x)
  set_bytes d n x small h = record { long = length-set d n x ∙ h.long; bytes = λ i. set_holds (λ y. y < 256) d 0 n i x (omega arith) (λ e. small) (λ ne. h.bytes i) }

  -- a word or a byte of one run
  put_word : List ℕ → ℕ → ℕ → List ℕ
  put_word d k v = set (set d (2 * k) (v % 256)) (2 * k + 1) (v / 256 % 256)

  put_word_data : (d : List ℕ) (k v : ℕ) → IsData m d → IsData m (put_word d k v)
  unfolding put_word
  put_word_data d k v h = set_bytes (set d (2 * k) (v % 256)) (2 * k + 1) (v / 256 % 256) (omega arith) (set_bytes d (2 * k) (v % 256) (omega arith) h)

  put_word_same : (d : List ℕ) (k v : ℕ) → 2 * k + 1 < length d → word (put_word d k v) k ≡ low Word v
  unfolding put_word
  put_word_same d k v lt =
      let c = set d (2 * k) (v % 256) in
      let lo : get_or (set c (2 * k + 1) (v / 256 % 256)) (2 * k) 0 ≡ v % 256 =
      get_or-set_other c (2 * k + 1) (2 * k) (v / 256 % 256) 0 (λ e. absurd (omega arith)) ∙ get_or-set_same d (2 * k) (v % 256) 0 (omega arith) in
      let hi : get_or (set c (2 * k + 1) (v / 256 % 256)) (2 * k + 1) 0 ≡ v / 256 % 256 =
      get_or-set_same c (2 * k + 1) (v / 256 % 256) 0 (subst (λ i. 2 * k + 1 < i) (sym (length-set d (2 * k) (v % 256))) lt) in
      sum _ _ lo hi
    where
      sum : (x y : ℕ) → x ≡ v % 256 → y ≡ v / 256 % 256 → x + 256 * y ≡ v % 65536
      sum x y p q = omega arith

  put_word_other : (d : List ℕ) (k v i : ℕ) → i ≢ k → word (put_word d k v) i ≡ word d i
  unfolding put_word
  put_word_other d k v i ne =
      let c = set d (2 * k) (v % 256) in
      let lo : get_or (set c (2 * k + 1) (v / 256 % 256)) (2 * i) 0 ≡ get_or d (2 * i) 0 =
      get_or-set_other c (2 * k + 1) (2 * i) (v / 256 % 256) 0 (λ e. ne (omega arith)) ∙ get_or-set_other d (2 * k) (2 * i) (v % 256) 0 (λ e. ne (omega arith)) in
      let hi : get_or (set c (2 * k + 1) (v / 256 % 256)) (2 * i + 1) 0 ≡ get_or d (2 * i + 1) 0 =
      get_or-set_other c (2 * k + 1) (2 * i + 1) (v / 256 % 256) 0 (λ e. ne (omega arith)) ∙ get_or-set_other d (2 * k) (2 * i + 1) (v % 256) 0 (λ e. ne (omega arith)) in
      cc

  -- the byte n of word n / 2
  put_byte_other : (d : List ℕ) (n x i : ℕ) → i ≢ n / 2 → word (set d n x) i ≡ word d i
  put_byte_other d n x i ne =
      let lo = get_or-set_other d n (2 * i) x 0 (λ e. ne (omega arith)) in
      let hi = get_or-set_other d n (2 * i + 1) x 0 (λ e. ne (omega arith)) in
      cc

  put_byte_same : (d : List ℕ) (n x : ℕ) → IsData m d → n < length d → word (set d n x) (n / 2) ≡ cond (n % 2 == 0) (x + 256 * (word d (n / 2) / 256)) (word d (n / 2) % 256 + 256 * x)
  put_byte_same d n x h lt = by (n % 2 == 0) refl
    where
      even_sum : (p q r s : ℕ) → p ≡ x → q ≡ s → r < 256 → p + 256 * q ≡ x + 256 * ((r + 256 * s) / 256)
      even_sum p q r s e f g = let k : (r + 256 * s) / 256 ≡ s = omega arith in omega arith

      odd_sum : (p q r s : ℕ) → p ≡ r → q ≡ x → r < 256 → p + 256 * q ≡ (r + 256 * s) % 256 + 256 * x
      odd_sum p q r s e f g = omega arith

      by : (c : Bool) → (n % 2 == 0) ≡ c → word (set d n x) (n / 2) ≡ cond c (x + 256 * (word d (n / 2) / 256)) (word d (n / 2) % 256 + 256 * x)
      by true e =
          let f : n % 2 ≡ 0 = grind (arith, nat_tests) in
          let i : 2 * (n / 2) ≡ n = omega arith in
          let lo : get_or (set d n x) (2 * (n / 2)) 0 ≡ x = ap (λ i. get_or (set d n x) i 0) i ∙ get_or-set_same d n x 0 lt in
          let hi : get_or (set d n x) (2 * (n / 2) + 1) 0 ≡ get_or d (2 * (n / 2) + 1) 0 = get_or-set_other d n (2 * (n / 2) + 1) x 0 (λ e. absurd (omega arith)) in
          even_sum _ _ _ _ lo hi (h.bytes (2 * (n / 2)))
      by false e =
          let f : n % 2 ≢ 0 = grind (arith, nat_tests) in
          let i : 2 * (n / 2) + 1 ≡ n = omega arith in
          let lo : get_or (set d n x) (2 * (n / 2)) 0 ≡ get_or d (2 * (n / 2)) 0 = get_or-set_other d n (2 * (n / 2)) x 0 (λ e. absurd (omega arith)) in
          let hi : get_or (set d n x) (2 * (n / 2) + 1) 0 ≡ x = ap (λ i. get_or (set d n x) i 0) i ∙ get_or-set_same d n x 0 lt in
          odd_sum _ _ _ _ lo hi (h.bytes (2 * (n / 2)))

  in_data : (a : ℕ) → holds m.ram a ≡ true → (m.ram.start ≤ a) × (a < m.ram.end)
  in_data a e = (grind (arith, nat_tests), grind (arith, nat_tests))

  is_put : (x : ℕ) (d : List ℕ) (p k : ℕ) → 2 * k ≡ x - m.ram.start → 2 * k + 1 ≡ x + 1 - m.ram.start → put_word d k p ≡ lone_write m Word d x p
  unfolding put_word
  is_put x d p k i i' = ap (λ n. set (set d n (p % 256)) (2 * k + 1) (p / 256 % 256)) i ∙ ap (λ n. set (set d (x - m.ram.start) (p % 256)) n (p / 256 % 256)) i'

  word_written : (v : List Val) (a b : List ℕ) (x : ℕ) (w : Val) (p q : ℕ) → AgreeData m v a b → holds m.ram x ≡ true → x % 2 ≡ 0 → Agrees m.text w p q →
      AgreeData m (write_at m v Word x w) (lone_write m Word a x p) (lone_write m Word b x q)
  word_written v a b x w p q h e ev g =
      let t = in_data x e in
      let t0 = t.0 in let t1 = t.1 in
      let s0 = shape.ram_start in let s1 = shape.ram_end in
      let k = word_no m x in
      let i : 2 * k ≡ x - m.ram.start = omega arith in
      let i' : 2 * k + 1 ≡ x + 1 - m.ram.start = omega arith in
      let fits : 2 * k + 1 < size_of m.ram = omega arith in
      let c : AgreeData m (set v k (narrow Word w)) (put_word a k p) (put_word b k q) =
      set_word v a b (put_word a k p) (put_word b k q) k (narrow Word w) h (put_word_data a k p h.is_a) (put_word_data b k q h.is_b)
      (agrees_as m.text _ _ _ _ _ _ refl (put_word_same a k p (subst (λ l. 2 * k + 1 < l) (sym h.is_a.long) fits))
      (put_word_same b k q (subst (λ l. 2 * k + 1 < l) (sym h.is_b.long) fits)) (narrow_agrees m.text Word w p q g))
      (λ i ne. (put_word_other a k p i ne, put_word_other b k q i ne)) in
      subst (λ y. AgreeData m (set v k (narrow Word w)) y (lone_write m Word b x q)) (is_put x a p k i i') (subst (λ y. AgreeData m (set v k (narrow Word w)) (put_word a k p) y) (is_put x b q k i i') c)

  byte_new : (n p q : ℕ) (u : Val) (x y wa wb : ℕ) → (u ≡ Secret) ⊎ ((u ≡ Public) × (wa ≡ wb) × (p ≡ q) × (◌≡◌ {A = ℕ} 0 0)) →
      x ≡ cond (n % 2 == 0) (p % 256 + 256 * (wa / 256)) (wa % 256 + 256 * (p % 256)) → y ≡ cond (n % 2 == 0) (q % 256 + 256 * (wb / 256)) (wb % 256 + 256 * (q % 256)) → Agrees m.text u x y
  byte_new n p q u x y wa wb (inl e) ex ey = subst (λ u. Agrees m.text u x y) (sym e) tt
  byte_new n p q u x y wa wb (inr e) ex ey = subst (λ u. Agrees m.text u x y) (sym e.0) (cc (e.1, e.2))

  byte_written : (v : List Val) (a b : List ℕ) (x : ℕ) (w : Val) (p q : ℕ) → AgreeData m v a b → holds m.ram x ≡ true → Agrees m.text w p q →
      AgreeData m (write_at m v Byte x w) (lone_write m Byte a x p) (lone_write m Byte b x q)
  byte_written v a b x w p q h e g =
      let t = in_data x e in
      let t0 = t.0 in let t1 = t.1 in
      let n = x - m.ram.start in
      let fits : n < size_of m.ram = omega arith in
      set_word v a b (set a n (p % 256)) (set b n (q % 256)) (n / 2) (blurred (nth (n / 2) v Secret ∷ w ∷ [])) h
      (set_bytes a n (p % 256) (omega arith) h.is_a) (set_bytes b n (q % 256) (omega arith) h.is_b)
      (byte_new n p q _ _ _ (word a (n / 2)) (word b (n / 2)) (blurred_same m.text (nth (n / 2) v Secret) w Public (word a (n / 2)) p 0 (word b (n / 2)) q 0 (h.at (n / 2)) g refl)
      (put_byte_same a n (p % 256) h.is_a (subst (λ l. n < l) (sym h.is_a.long) fits)) (put_byte_same b n (q % 256) h.is_b (subst (λ l. n < l) (sym h.is_b.long) fits)))
      (λ i ne. (put_byte_other a n (p % 256) i ne, put_byte_other b n (q % 256) i ne))

  write_agrees : (v : List Val) (a b : List ℕ) (w : Width) (x : ℕ) (u : Val) (p q : ℕ) → AgreeData m v a b → may_reach m Write w x ≡ true → Agrees m.text u p q →
      AgreeData m (write_at m v w x u) (lone_write m w a x p) (lone_write m w b x q)
  write_agrees v a b Word x u p q h e g = let t = and_parts (not (misaligned Word x)) (holds m.ram x) e in word_written v a b x u p q h t.1 (aligned x t.0) g
  write_agrees v a b Byte x u p q h e g = byte_written v a b x u p q h e g

  write_one : (v : List Val) (a b : List ℕ) (r : Reach) (x : Access) (u : Val) (p q : ℕ) → AgreeData m v a b → r.addr ≡ Known x.addr → x.width ≡ r.width → may_reach m Write r.width x.addr ≡ true → Agrees m.text u p q →
      AgreeData m (write_val m v r u) (lone_write m x.width a x.addr p) (lone_write m x.width b x.addr q)
  write_one v a b r x u p q h ea ew e g =
      subst (λ i. AgreeData m (elim i [ Known n ↦ write_at m v r.width n u | _ ↦ v ]) (lone_write m x.width a x.addr p) (lone_write m x.width b x.addr q)) (sym ea)
      (subst (λ w. AgreeData m (write_at m v r.width x.addr u) (lone_write m w a x.addr p) (lone_write m w b x.addr q)) (sym ew) (write_agrees v a b r.width x.addr u p q h e g))

  pub writes_agree : (v : List Val) (a b : List ℕ) (rs : List Reach) (xs : List Access) (us : List Val) (ps qs : List ℕ) → AgreeData m v a b → Fixed m rs xs → AgreeList m.text us ps qs →
      AgreeData m (writes_val m v (write_reaches rs) us) (lone_writes m a (writes_of xs) ps) (lone_writes m b (writes_of xs) qs)
  writes_agree v a b [] [] us ps qs h f g = h
  writes_agree v a b [] (x ∷ xs) us ps qs h f g = absurd f
  writes_agree v a b (r ∷ rs) [] us ps qs h f g = absurd f
  writes_agree v a b (r ∷ rs) (x ∷ xs) us ps qs h f g = by r.kind x.kind (λ v a b us ps qs h g. writes_agree v a b rs xs us ps qs h f.4 g) us ps qs f.1 f.3 g
    where
      by : (k l : Kind) (go : (v : List Val) (a b : List ℕ) (us : List Val) (ps qs : List ℕ) → AgreeData m v a b → AgreeList m.text us ps qs → AgreeData m (writes_val m v (write_reaches rs) us) (lone_writes m a (writes_of xs) ps) (lone_writes m b (writes_of xs) qs)) (us : List Val) (ps qs : List ℕ) → l ≡ k → may_reach m k r.width x.addr ≡ true → AgreeList m.text us ps qs →
          AgreeData m (writes_val m v (cond (is_write k) (r ∷ write_reaches rs) (write_reaches rs)) us) (lone_writes m a (cond (is_write l) (x ∷ writes_of xs) (writes_of xs)) ps) (lone_writes m b (cond (is_write l) (x ∷ writes_of xs) (writes_of xs)) qs)
      by Write Write go [] [] [] e k g = h
      by Write Write go (u ∷ us) (p ∷ ps) (q ∷ qs) e k g = go (write_val m v r u) (lone_write m x.width a x.addr p) (lone_write m x.width b x.addr q) us ps qs (write_one v a b r x u p q h f.0 f.2 k g.0) g.1
      by Write Write go _ _ _ e k g = absurd g
      by Read Read go us ps qs e k g = go v a b us ps qs h g
      by Fetch Fetch go us ps qs e k g = go v a b us ps qs h g
      by _ _ go us ps qs e k g = absurd cc

  -- ---- words that are not written
  one_kept : (w : Width) (a v : ℕ) (d : List ℕ) (i : ℕ) → may_reach m Write w a ≡ true → i ≢ word_no m a → word (lone_write m w d a v) i ≡ word d i
  one_kept Byte a v d i e ne = put_byte_other d (a - m.ram.start) (v % 256) i ne
  one_kept Word a v d i e ne =
      let t = and_parts (not (misaligned Word a)) (holds m.ram a) e in
      let h = in_data a t.1 in
      let h0 = h.0 in let h1 = h.1 in
      let ev = aligned a t.0 in
      let s0 = shape.ram_start in
      let k = word_no m a in
      let p : 2 * k ≡ a - m.ram.start = omega arith in
      let q : 2 * k + 1 ≡ a + 1 - m.ram.start = omega arith in
      ap (λ l. word l i) (sym (is_put a d v k p q)) ∙ put_word_other d k v i ne

  pub writes_keep : (d : List ℕ) (rs : List Reach) (xs : List Access) (vs : List ℕ) (i : ℕ) → Fixed m rs xs → NotIn i (written_words m (write_reaches rs)) → word (lone_writes m d (writes_of xs) vs) i ≡ word d i
  writes_keep d [] [] vs i f h = refl
  writes_keep d [] (x ∷ xs) vs i f h = absurd f
  writes_keep d (r ∷ rs) [] vs i f h = absurd f
  writes_keep d (r ∷ rs) (x ∷ xs) vs i f h = by r.kind x.kind vs f.1 f.3 h (λ d vs h. writes_keep d rs xs vs i f.4 h)
    where
      split : (v : Val) → v ≡ Known x.addr → NotIn i (elim v [ Known a ↦ word_no m a ∷ written_words m (write_reaches rs) | _ ↦ written_words m (write_reaches rs) ]) → (i ≢ word_no m x.addr) × NotIn i (written_words m (write_reaches rs))
      split (Known a) e h = let g : a ≡ x.addr = cc in (λ z. h.0 (z ∙ ap (word_no m) (sym g)), h.1)
      split _ e h = absurd cc

      by : (k l : Kind) (vs : List ℕ) → l ≡ k → may_reach m k r.width x.addr ≡ true → NotIn i (written_words m (cond (is_write k) (r ∷ write_reaches rs) (write_reaches rs))) →
          ((d : List ℕ) (vs : List ℕ) → NotIn i (written_words m (write_reaches rs)) → word (lone_writes m d (writes_of xs) vs) i ≡ word d i) →
          word (lone_writes m d (cond (is_write l) (x ∷ writes_of xs) (writes_of xs)) vs) i ≡ word d i
      by Write Write [] e k h go = refl
      by Write Write (v ∷ vs) e k h go =
          let s = split r.addr f.0 h in
          go (lone_write m x.width d x.addr v) vs s.1 ∙ one_kept x.width x.addr v d i (ap (λ w. may_reach m Write w x.addr) f.2 ∙ k) s.0
      by Read Read vs e k h go = go d vs h
      by Fetch Fetch vs e k h go = go d vs h
      by _ _ vs e k h go = absurd cc

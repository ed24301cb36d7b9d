-- Tags, and the unit instructions of a module by itself.
use Rattle.std.proofs.Common.{◌≡◌, ◌≢◌, ◌<◌, ℕ, zero, suc, ◌+◌, ◌-◌, ◌*◌, List, [], ◌∷◌, ◌++◌, map, length, take, drop, get_or, slice_index, append_assoc, append-nil, refl, sym, ap, ◌∙◌, arith, true, false, cond, ◌&&◌}
use Rattle.std.proofs.lemmas.Bool.Decides.{nat_tests}
use Rattle.std.proofs.Math.Seq.{drop-cons}
use Rattle.std.proofs.Math.ListN.{drop_of_length-le}
use Rattle.std.proofs.lemmas.List.{take_at, drop_at, map-append, length-map}
use Rattle.sm_words.specs.Words.{reg, put}
use Rattle.sm_words.specs.declared.width.Width.TheVariants.{Byte}
use Rattle.insn_decode.specs.declared.insn.Insn.TheVariants.{Unit as UnitOp}
use Rattle.mod_layout.specs.declared.Module.{Module}
use Rattle.mod_layout.specs.Table.{holds, size_of}
use Rattle.mod_keys.specs.Keys.{tag_of}
use Rattle.pc_access.specs.declared.Kind.{Kind}
use Rattle.pc_access.specs.declared.Kind.TheVariants.{Read, Write}
use Rattle.pc_access.specs.declared.Access.{Access}
use Rattle.attest.specs.Accesses.{reads_of, writes_of}
use Rattle.attest.specs.Units.{Effect, Tag, each_byte, in_range, text_reads, unit_plan, unit_effect, blocks, next}
use Rattle.attest.proofs.Tagging.{plan_by, effect_by}
use Rattle.attest.proofs.Rows.{writes_of-reads, writes_of-writes}
use Rattle.cpu_step.specs.Asked.{asks, effect}
use Rattle.cpu_step.specs.Lone.{Job, Lone, lone_byte, lone_who, lone_read, lone_write, lone_writes, lone_does}
use Rattle.lone_run.specs.Jobs.{lone_between}

-- ---- bytes one by one

each_last : (kind : Kind) (a n : ℕ) → each_byte kind a (n + 1) ≡ each_byte kind a n ++ record { kind = kind; addr = a + n; width = Byte } ∷ []
each_last kind a n = ap (each_byte kind a) (let e : n + 1 ≡ suc n = omega arith in e) ∙ by a n
  where
    by : (a n : ℕ) → each_byte kind a (suc n) ≡ each_byte kind a n ++ record { kind = kind; addr = a + n; width = Byte } ∷ []
    by a zero = ap (λ b. record { kind = kind; addr = b; width = Byte } ∷ []) (let e : a ≡ a + zero = omega arith in e)
    by a (suc n) =
        ap (λ xs. record { kind = kind; addr = a; width = Byte } ∷ xs) (by (a + 1) n)
        ∙ ap (λ b. record { kind = kind; addr = a; width = Byte } ∷ each_byte kind (a + 1) n ++ record { kind = kind; addr = b; width = Byte } ∷ []) (let e : a + 1 + n ≡ a + suc n = omega arith in e)

-- one byte more
pub fed_more : (j : Job) (ram : List ℕ) (message : List ℕ) (a k v : ℕ) → v ≡ lone_byte j ram (a + k) →
    (message ++ map (lone_read j ram) (each_byte Read a k)) ++ v ∷ [] ≡ message ++ map (lone_read j ram) (each_byte Read a (k + 1))
fed_more j ram message a k v e =
    append_assoc message (map (lone_read j ram) (each_byte Read a k)) (v ∷ [])
    ∙ ap (λ v. message ++ (map (lone_read j ram) (each_byte Read a k) ++ v ∷ [])) e
    ∙ ap (λ xs. message ++ xs) (sym (ap (map (lone_read j ram)) (each_last Read a k) ∙ map-append (lone_read j ram) (each_byte Read a k) (record { kind = Read; addr = a + k; width = Byte } ∷ [])))

pub fed_none : (message : List ℕ) → message ≡ message ++ []
fed_none message = sym (append-nil message)

pub stored_more : (m : Module) (ram : List ℕ) (a n k v : ℕ) (tag : List ℕ) → k < n → k < length tag → v ≡ get_or tag k 0 →
    lone_writes m ram (each_byte Write (a + k) (n - k)) (drop k tag) ≡ lone_writes m (lone_write m Byte ram (a + k) v) (each_byte Write (a + (k + 1)) (n - (k + 1))) (drop (k + 1) tag)
stored_more m ram a n k v tag lt lk e =
    ap (λ c. lone_writes m ram (each_byte Write (a + k) c) (drop k tag)) (let f : n - k ≡ suc (n - (k + 1)) = omega arith in f)
    ∙ ap (λ vs. lone_writes m ram (each_byte Write (a + k) (suc (n - (k + 1)))) vs) (drop-cons tag k 0 lk)
    ∙ ap (λ v. lone_writes m (lone_write m Byte ram (a + k) v) (each_byte Write (a + k + 1) (n - (k + 1))) (drop (suc k) tag)) (sym e)
    ∙ ap (λ b. lone_writes m (lone_write m Byte ram (a + k) v) (each_byte Write b (n - (k + 1))) (drop (suc k) tag)) (let f : a + k + 1 ≡ a + (k + 1) = omega arith in f)
    ∙ ap (λ i. lone_writes m (lone_write m Byte ram (a + k) v) (each_byte Write (a + (k + 1)) (n - (k + 1))) (drop i tag)) (let f : suc k ≡ k + 1 = omega arith in f)

pub stored_all : (m : Module) (ram : List ℕ) (a n : ℕ) (values : List ℕ) → lone_writes m ram (each_byte Write a (n - n)) values ≡ ram
stored_all m ram a n values = ap (λ c. lone_writes m ram (each_byte Write a c) values) (let f : n - n ≡ 0 = omega arith in f)

-- ---- what a tag does

reads_bytes : (a n : ℕ) (xs : List Access) → reads_of (each_byte Read a n ++ xs) ≡ each_byte Read a n ++ reads_of xs
reads_bytes a zero xs = refl
reads_bytes a (suc n) xs = ap (λ l. record { kind = Read; addr = a; width = Byte } ∷ l) (reads_bytes (a + 1) n xs)

reads_skip : (a n : ℕ) (xs : List Access) → reads_of (each_byte Write a n ++ xs) ≡ reads_of xs
reads_skip a zero xs = refl
reads_skip a (suc n) xs = reads_skip (a + 1) n xs

each_length : (kind : Kind) (a n : ℕ) → length (each_byte kind a n) ≡ n
each_length kind a zero = refl
each_length kind a (suc n) = ap suc (each_length kind (a + 1) n)

text_from : (j : Job) (ram : List ℕ) (k n : ℕ) → k + n ≡ length j.text → length j.text ≡ size_of j.owner.text → map (lone_read j ram) (each_byte Read (j.owner.text.start + k) n) ≡ drop k j.text
text_from j ram k zero e f = sym (drop_of_length-le j.text {i = k} (omega arith))
text_from j ram k (suc n) e f =
    let here : holds j.owner.text (j.owner.text.start + k) ≡ true = grind (arith, nat_tests) in
    let place : j.owner.text.start + k - j.owner.text.start ≡ k = omega arith in
    let lt : k < length j.text = omega arith in
    ap (λ b. cond b (slice_index j.text (j.owner.text.start + k - j.owner.text.start)) (slice_index ram (j.owner.text.start + k - j.owner.ram.start)) ∷ map (lone_read j ram) (each_byte Read (j.owner.text.start + k + 1) n)) here
    ∙ ap (λ i. slice_index j.text i ∷ map (lone_read j ram) (each_byte Read (j.owner.text.start + k + 1) n)) place
    ∙ ap (λ a. slice_index j.text k ∷ map (lone_read j ram) (each_byte Read a n)) (let g : j.owner.text.start + k + 1 ≡ j.owner.text.start + suc k = omega arith in g)
    ∙ ap (λ l. slice_index j.text k ∷ l) (text_from j ram (suc k) n (omega arith) f)
    ∙ sym (drop-cons j.text k 0 lt)

text_values : (j : Job) (ram : List ℕ) → length j.text ≡ size_of j.owner.text → map (lone_read j ram) (reads_of (text_reads j.owner)) ≡ j.text
text_values j ram f =
    ap (λ xs. map (lone_read j ram) (reads_of xs)) (sym (append-nil (text_reads j.owner)))
    ∙ ap (map (lone_read j ram)) (reads_bytes j.owner.text.start (size_of j.owner.text) [] ∙ append-nil (text_reads j.owner))
    ∙ ap (λ a. map (lone_read j ram) (each_byte Read a (size_of j.owner.text))) (let g : j.owner.text.start ≡ j.owner.text.start + 0 = omega arith in g)
    ∙ text_from j ram 0 (size_of j.owner.text) (let g : 0 + size_of j.owner.text ≡ length j.text = omega arith in g) f

-- what is left by accesses and an effect
abbrev left_by : Job → List ℕ → List Access → Effect → Lone
left_by j ram xs e = record { core = e.core; data_bytes = lone_writes j.owner ram (writes_of xs) e.stored; rest = e.cycles - 1; closing = e.closing }

-- no range, no tag
pub tag_short : (j : Job) (core ram : List ℕ) → (in_range (reg core 12) (reg core 13) && in_range (reg core 14) (reg core 14 + 16)) ≡ false →
    lone_does j (UnitOp Tag) (lone_between core ram) ≡ record { core = put (next core) 15 0; data_bytes = ram; rest = 6 - 1; closing = false }
unfolding lone_does asks effect
tag_short j core ram e =
    ap (λ xs. left_by j ram xs (unit_effect (lone_who j) Tag core (map (lone_read j ram) (reads_of xs)))) (plan_by (lone_who j) core j.owner refl false e)
    ∙ ap (left_by j ram []) (effect_by (lone_who j) core j.owner refl [] false e)

module _ (j : Job) (core ram : List ℕ) where
  abbrev size : ℕ
  size = reg core 13 - reg core 12

  abbrev accesses : List Access
  accesses = each_byte Read (reg core 12) size ++ each_byte Write (reg core 14) 16 ++ text_reads j.owner

  abbrev message : List ℕ
  message = map (lone_read j ram) (each_byte Read (reg core 12) size)

  abbrev tagged : List ℕ → ℕ → Effect
  tagged tag n = record { core = put (next core) 15 1; stored = tag; cycles = 6 + 64 * blocks n; closing = false }

  message_long : length message ≡ size
  message_long = length-map (each_byte Read (reg core 12) size) (lone_read j ram) ∙ each_length Read (reg core 12) size

  tag_values : length j.text ≡ size_of j.owner.text → map (lone_read j ram) (reads_of accesses) ≡ message ++ j.text
  tag_values f =
      ap (λ l. map (lone_read j ram) (reads_of l)) (append_assoc (each_byte Read (reg core 12) size) (each_byte Write (reg core 14) 16) (text_reads j.owner))
      ∙ ap (map (lone_read j ram)) (reads_bytes (reg core 12) size (each_byte Write (reg core 14) 16 ++ text_reads j.owner) ∙ ap (λ l. each_byte Read (reg core 12) size ++ l) (reads_skip (reg core 14) 16 (text_reads j.owner)))
      ∙ map-append (lone_read j ram) (each_byte Read (reg core 12) size) (reads_of (text_reads j.owner))
      ∙ ap (λ l. message ++ l) (text_values j ram f)

  tag_writes : writes_of accesses ≡ each_byte Write (reg core 14) 16
  tag_writes =
      ap writes_of (append_assoc (each_byte Read (reg core 12) size) (each_byte Write (reg core 14) 16) (text_reads j.owner))
      ∙ writes_of-reads (reg core 12) size (each_byte Write (reg core 14) 16 ++ text_reads j.owner)
      ∙ writes_of-writes (reg core 14) 16 (text_reads j.owner)
      ∙ ap (λ l. each_byte Write (reg core 14) 16 ++ l) (ap writes_of (sym (append-nil (text_reads j.owner))) ∙ writes_of-reads j.owner.text.start (size_of j.owner.text) [])
      ∙ append-nil (each_byte Write (reg core 14) 16)

  pub tag_done : (tag : List ℕ) (a n out : ℕ) → (in_range (reg core 12) (reg core 13) && in_range (reg core 14) (reg core 14 + 16)) ≡ true → length j.text ≡ size_of j.owner.text →
      a ≡ reg core 12 → n ≡ size → out ≡ reg core 14 → tag ≡ tag_of j.key j.owner j.text (map (lone_read j ram) (each_byte Read a n)) →
      lone_does j (UnitOp Tag) (lone_between core ram) ≡ record { core = put (next core) 15 1; data_bytes = lone_writes j.owner ram (each_byte Write out 16) tag; rest = 6 + 64 * blocks n - 1; closing = false }
  unfolding lone_does asks effect
  tag_done tag a n out e f ea en eo et =
      let same : tag_of j.key j.owner j.text message ≡ tag =
      ap (λ b. tag_of j.key j.owner j.text (map (lone_read j ram) (each_byte Read b size))) (sym ea) ∙ ap (λ k. tag_of j.key j.owner j.text (map (lone_read j ram) (each_byte Read a k))) (sym en) ∙ sym et in
      ap (λ xs. left_by j ram xs (unit_effect (lone_who j) Tag core (map (lone_read j ram) (reads_of xs)))) (plan_by (lone_who j) core j.owner refl true e)
      ∙ ap (left_by j ram accesses) (effect_by (lone_who j) core j.owner refl (map (lone_read j ram) (reads_of accesses)) true e)
      ∙ ap (λ vs. left_by j ram accesses (tagged (tag_of j.key j.owner (drop size vs) (take size vs)) size)) (tag_values f)
      ∙ ap (λ t. left_by j ram accesses (tagged (tag_of j.key j.owner t (take size (message ++ j.text))) size)) (drop_at message j.text size message_long)
      ∙ ap (λ t. left_by j ram accesses (tagged (tag_of j.key j.owner j.text t) size)) (take_at message j.text size message_long)
      ∙ ap (λ t. left_by j ram accesses (tagged t size)) same
      ∙ ap (λ ys. record { core = put (next core) 15 1; data_bytes = lone_writes j.owner ram ys tag; rest = 6 + 64 * blocks size - 1; closing = false }) tag_writes
      ∙ ap (λ k. record { core = put (next core) 15 1; data_bytes = lone_writes j.owner ram (each_byte Write (reg core 14) 16) tag; rest = 6 + 64 * blocks k - 1; closing = false }) (sym en)
      ∙ ap (λ o. record { core = put (next core) 15 1; data_bytes = lone_writes j.owner ram (each_byte Write o 16) tag; rest = 6 + 64 * blocks n - 1; closing = false }) (sym eo)

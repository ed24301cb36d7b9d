-- Bytes put into a memory, read one by one.
use Rattle.std.proofs.Common.{◌≡◌, ◌⊎◌, inl, inr, ℕ, ◌+◌, ◌-◌, ◌<◌, ◌≤◌, List, ◌++◌, take, drop, length, get_or, length-append, length-take, length-drop, true, false, refl, ap, sym, ◌∙◌, arith}
use Rattle.std.specs.Prelude.{slice_index}
use Rattle.std.proofs.lemmas.Bool.{cases_lt}
use Rattle.std.proofs.lemmas.List.{get_or_append_left, get_or-append_right, get_or-take, get_or-drop}
use Rattle.mod_layout.specs.declared.Section.{Section}
use Rattle.mod_layout.specs.Table.{holds}
use Rattle.mod_layout.proofs.Found.{within}
use Rattle.layout_file.specs.Overlaps.{ShareNoByte}
use Rattle.linker.specs.Bytes.{bytes_put, memory_part}
use Rattle.linker_laws.specs.Places.{span}

-- an address is outside so many bytes
abbrev pub Out : ℕ → ℕ → ℕ → Type 0
Out at size a = (a < at) ⊎ (at + size ≤ a)

pub out_less : (at size less a : ℕ) → less ≤ size → Out at size a → Out at less a
out_less at size less a h (inl l) = inl l
out_less at size less a h (inr l) = inr (omega arith)

-- or outside some of them
pub out_within : (at size start less a : ℕ) → at ≤ start → start + less ≤ at + size → Out at size a → Out start less a
out_within at size start less a h k (inl l) = inl (omega arith)
out_within at size start less a h k (inr l) = inr (omega arith)

-- or among them
pub out_or : (at size a : ℕ) → Out at size a ⊎ ((n : ℕ) × ((n < size) × (a ≡ at + n)))
out_or at size a = by (cases_lt a at) (cases_lt a (at + size))
  where
    by : (a < at) ⊎ (at ≤ a) → (a < at + size) ⊎ (at + size ≤ a) →
        Out at size a ⊎ ((n : ℕ) × ((n < size) × (a ≡ at + n)))
    by (inl h) c = inl (inl h)
    by (inr h) (inl g) = inr (a - at, (omega arith, omega arith))
    by (inr h) (inr g) = inl (inr g)

pub among : (at size n : ℕ) → n < size → holds (span at size) (at + n) ≡ true
among at size n h = within (span at size) (at + n) (omega arith) (omega arith)

pub outside : (at size a : ℕ) → holds (span at size) a ≡ false → Out at size a
outside at size a e = by (out_or at size a)
  where
    by : Out at size a ⊎ ((n : ℕ) × ((n < size) × (a ≡ at + n))) → Out at size a
    by (inl h) = h
    by (inr h) = absurd (let c : true ≡ false = sym (among at size h.0 h.1.0) ∙ (ap (holds (span at size)) (sym h.1.1) ∙ e) in cc)

-- what shares no byte with a section that has an address
pub apart_out : (s : Section) (at size a : ℕ) → ShareNoByte s (span at size) → holds s a ≡ true → Out at size a
apart_out s at size a nb e = by (out_or at size a)
  where
    by : Out at size a ⊎ ((n : ℕ) × ((n < size) × (a ≡ at + n))) → Out at size a
    by (inl h) = h
    by (inr h) = absurd (nb a e (ap (holds (span at size)) h.1.1 ∙ among at size h.0 h.1.0))

-- ---- one write

pub put_long : (m : List ℕ) (at : ℕ) (bytes : List ℕ) → at ≤ length m → length m ≤ length (bytes_put m at bytes)
put_long m at bytes h =
    let t : length (take at m) ≡ at = simp length-take (omega arith) in
    let d : length (drop (at + length bytes) m) ≡ length m - (at + length bytes) = simp length-drop refl in
    let a = length-append (take at m) (bytes ++ drop (at + length bytes) m) in
    let b = length-append bytes (drop (at + length bytes) m) in
    omega (arith, t, d, a, b)

pub put_out : (m : List ℕ) (at : ℕ) (bytes : List ℕ) (a : ℕ) → at ≤ length m → Out at (length bytes) a →
    slice_index (bytes_put m at bytes) a ≡ slice_index m a
put_out m at bytes a fit (inl h) =
    get_or_append_left (take at m) (bytes ++ drop (at + length bytes) m) 0 a (omega (arith, length-take {A = ℕ}))
    ∙ get_or-take at m a 0 h
put_out m at bytes a fit (inr h) =
    get_or-append_right (take at m) (bytes ++ drop (at + length bytes) m) at a 0 (omega (arith, length-take {A = ℕ})) (omega arith)
    ∙ (get_or-append_right bytes (drop (at + length bytes) m) (length bytes) (a - at) 0 refl (omega arith)
    ∙ (get_or-drop (at + length bytes) m (a - at - length bytes) 0
    ∙ ap (λ (i : ℕ). get_or m i 0) (omega arith)))

pub put_in : (m : List ℕ) (at : ℕ) (bytes : List ℕ) (n : ℕ) → at ≤ length m → n < length bytes →
    slice_index (bytes_put m at bytes) (at + n) ≡ slice_index bytes n
put_in m at bytes n fit h =
    get_or-append_right (take at m) (bytes ++ drop (at + length bytes) m) at (at + n) 0 (omega (arith, length-take {A = ℕ})) (omega arith)
    ∙ (ap (λ (i : ℕ). get_or (bytes ++ drop (at + length bytes) m) i 0) (omega arith)
    ∙ get_or_append_left bytes (drop (at + length bytes) m) 0 n h)

pub read_at : (m : List ℕ) (at size n : ℕ) → n < size → slice_index (memory_part m at size) n ≡ slice_index m (at + n)
read_at m at size n h = get_or-take size (drop at m) n 0 h ∙ get_or-drop at m n 0

pub size_at : (m : List ℕ) (at size : ℕ) → at + size ≤ length m → length (memory_part m at size) ≡ size
size_at m at size h = simp (length-take, length-drop) (omega arith)

-- Stubs and vectors put into a memory.
use Rattle.std.proofs.Common.{◌≡◌, ℕ, zero, suc, ◌+◌, ◌*◌, ◌<◌, ◌≤◌, List, [], ◌∷◌, length, get_or, refl, ap, ◌∙◌, subst, arith, fold}
use Rattle.std.specs.Prelude.{All, slice_index}
use Rattle.std.specs.List.{flat_map}
use Rattle.layout_file.specs.Values.{VectorValue, ModuleValue}
use Rattle.link_symbols.specs.Passes.{fold_at}
use Rattle.linker.specs.Placement.{module_stub_size}
use Rattle.linker.specs.Numbers.{Linking}
use Rattle.linker.specs.Bytes.{word_bytes}
use Rattle.linker.specs.Stubs.{word_named, stub_of, put_stub, put_vector}
use Rattle.linker.proofs.ClearLemmas.{stub_size_is, words_size}
use Rattle.linker_laws.proofs.Writes.{Out, out_less, put_long, put_out, put_in}
use Rattle.linker_laws.proofs.SectionBytes.{Long}

module _ (l : Linking) (end : ℕ → ℕ) where
  abbrev pub bytes_of : ℕ → ModuleValue → List ℕ
  bytes_of i x = flat_map word_bytes (stub_of l end i x)

  pub stub_length : (i : ℕ) (x : ModuleValue) → length (bytes_of i x) ≡ module_stub_size x
  stub_length i x = let n = words_size (stub_of l end i x) in let k = stub_size_is l end i x in omega (arith, n, k)

  stub_long : (m : List ℕ) (i : ℕ) (x : ModuleValue) → x.text.start ≤ 65536 → Long m → Long (put_stub l end m i x)
  unfolding put_stub
  stub_long m i x low h = let p = put_long m x.text.start (bytes_of i x) (omega arith) in omega (arith, p)

  stub_keep : (m : List ℕ) (i : ℕ) (x : ModuleValue) (a : ℕ) → x.text.start ≤ 65536 → Long m →
      Out x.text.start (module_stub_size x) a → slice_index (put_stub l end m i x) a ≡ slice_index m a
  unfolding put_stub
  stub_keep m i x a low h out = let n = stub_length i x in put_out m x.text.start (bytes_of i x) a (omega arith) (out_less x.text.start (module_stub_size x) (length (bytes_of i x)) a (omega (arith, n)) out)

  stub_set : (m : List ℕ) (i : ℕ) (x : ModuleValue) (n : ℕ) → x.text.start ≤ 65536 → Long m → n < module_stub_size x →
      slice_index (put_stub l end m i x) (x.text.start + n) ≡ slice_index (bytes_of i x) n
  unfolding put_stub
  stub_set m i x n low h b = let k = stub_length i x in put_in m x.text.start (bytes_of i x) n (omega arith) (omega (arith, k, b))

  abbrev Low : List ModuleValue → Type 0
  Low xs = All (λ x. x.text.start ≤ 65536) xs

  pub stubs_long : (m : List ℕ) (i : ℕ) (xs : List ModuleValue) → Low xs → Long m →
      Long (fold_at (put_stub l end) m i xs)
  stubs_long m i [] low h = h
  stubs_long m i (x ∷ xs) low h = stubs_long (put_stub l end m i x) (i + 1) xs (λ k d b. low (suc k) d (omega arith)) (stub_long m i x (low 0 x (omega arith)) h)

  pub stubs_keep : (m : List ℕ) (i : ℕ) (xs : List ModuleValue) (a : ℕ) → Low xs → Long m →
      All (λ x. Out x.text.start (module_stub_size x) a) xs →
      slice_index (fold_at (put_stub l end) m i xs) a ≡ slice_index m a
  stubs_keep m i [] a low h out = refl
  stubs_keep m i (x ∷ xs) a low h out =
      stubs_keep (put_stub l end m i x) (i + 1) xs a (λ k d b. low (suc k) d (omega arith)) (stub_long m i x (low 0 x (omega arith)) h) (λ k d b. out (suc k) d (omega arith))
      ∙ stub_keep m i x a (low 0 x (omega arith)) h (out 0 x (omega arith))

  pub stubs_set : (m : List ℕ) (i : ℕ) (xs : List ModuleValue) (k n : ℕ) (x : ModuleValue) → Low xs → Long m →
      k < length xs → ((d : ModuleValue) → get_or xs k d ≡ x) → n < module_stub_size x →
      ((j : ℕ) (d : ModuleValue) → k < j → j < length xs → Out (get_or xs j d).text.start (module_stub_size (get_or xs j d)) (x.text.start + n)) →
      slice_index (fold_at (put_stub l end) m i xs) (x.text.start + n) ≡ slice_index (bytes_of (i + k) x) n
  stubs_set m i [] k n x low h b is c out = absurd (omega arith)
  stubs_set m i (y ∷ ys) zero n x low h b is c out =
      let z : i ≡ i + 0 = omega arith in
      stubs_keep (put_stub l end m i y) (i + 1) ys (x.text.start + n) (λ k d b. low (suc k) d (omega arith)) (stub_long m i y (low 0 y (omega arith)) h) (λ k d b. out (suc k) d (omega arith) (omega arith))
      ∙ (ap (λ (v : ModuleValue). slice_index (put_stub l end m i v) (x.text.start + n)) (is x)
      ∙ (stub_set m i x n (subst (λ (v : ModuleValue). v.text.start ≤ 65536) (is x) (low 0 y (omega arith))) h c
      ∙ ap (λ (j : ℕ). slice_index (bytes_of j x) n) z))
  stubs_set m i (y ∷ ys) (suc k) n x low h b is c out =
      let z : (i + 1) + k ≡ i + suc k = omega arith in
      stubs_set (put_stub l end m i y) (i + 1) ys k n x (λ k d b. low (suc k) d (omega arith)) (stub_long m i y (low 0 y (omega arith)) h) (omega arith) is c (λ j d g q. out (suc j) d (omega arith) (omega arith))
      ∙ ap (λ (j : ℕ). slice_index (bytes_of j x) n) z

-- ---- vectors

module _ (l : Linking) where
  abbrev pub start : VectorValue → ℕ
  start v = 65504 + 2 * v.vector

  vector_long : (m : List ℕ) (v : VectorValue) → v.vector < 16 → Long m → Long (put_vector l m v)
  unfolding put_vector
  vector_long m v low h = let p = put_long m (start v) (word_bytes (word_named l v.name)) (omega arith) in omega (arith, p)

  vector_keep : (m : List ℕ) (v : VectorValue) (a : ℕ) → v.vector < 16 → Long m → Out (start v) 2 a →
      slice_index (put_vector l m v) a ≡ slice_index m a
  unfolding put_vector
  vector_keep m v a low h out = put_out m (start v) (word_bytes (word_named l v.name)) a (omega arith) out

  vector_set : (m : List ℕ) (v : VectorValue) (n : ℕ) → v.vector < 16 → Long m → n < 2 →
      slice_index (put_vector l m v) (start v + n) ≡ slice_index (word_bytes (word_named l v.name)) n
  unfolding put_vector
  vector_set m v n low h b = put_in m (start v) (word_bytes (word_named l v.name)) n (omega arith) b

  abbrev Below : List VectorValue → Type 0
  Below vs = All (λ v. v.vector < 16) vs

  pub vectors_long : (m : List ℕ) (vs : List VectorValue) → Below vs → Long m → Long (fold (put_vector l) m vs)
  vectors_long m [] low h = h
  vectors_long m (v ∷ vs) low h = vectors_long (put_vector l m v) vs (λ k d b. low (suc k) d (omega arith)) (vector_long m v (low 0 v (omega arith)) h)

  pub vectors_keep : (m : List ℕ) (vs : List VectorValue) (a : ℕ) → Below vs → Long m →
      All (λ v. Out (start v) 2 a) vs → slice_index (fold (put_vector l) m vs) a ≡ slice_index m a
  vectors_keep m [] a low h out = refl
  vectors_keep m (v ∷ vs) a low h out =
      vectors_keep (put_vector l m v) vs a (λ k d b. low (suc k) d (omega arith)) (vector_long m v (low 0 v (omega arith)) h) (λ k d b. out (suc k) d (omega arith))
      ∙ vector_keep m v a (low 0 v (omega arith)) h (out 0 v (omega arith))

  pub vectors_set : (m : List ℕ) (vs : List VectorValue) (k n : ℕ) (v : VectorValue) → Below vs → Long m →
      k < length vs → ((d : VectorValue) → get_or vs k d ≡ v) → n < 2 →
      ((j : ℕ) (d : VectorValue) → k < j → j < length vs → Out (start (get_or vs j d)) 2 (start v + n)) →
      slice_index (fold (put_vector l) m vs) (start v + n) ≡ slice_index (word_bytes (word_named l v.name)) n
  vectors_set m [] k n v low h b is c out = absurd (omega arith)
  vectors_set m (w ∷ ws) zero n v low h b is c out =
      vectors_keep (put_vector l m w) ws (start v + n) (λ k d b. low (suc k) d (omega arith)) (vector_long m w (low 0 w (omega arith)) h) (λ k d b. out (suc k) d (omega arith) (omega arith))
      ∙ (ap (λ (u : VectorValue). slice_index (put_vector l m u) (start v + n)) (is v)
      ∙ vector_set m v n (subst (λ (u : VectorValue). u.vector < 16) (is v) (low 0 w (omega arith))) h c)
  vectors_set m (w ∷ ws) (suc k) n v low h b is c out =
      vectors_set (put_vector l m w) ws k n v (λ k d b. low (suc k) d (omega arith)) (vector_long m w (low 0 w (omega arith)) h) (omega arith) is c (λ j d g q. out (suc j) d (omega arith) (omega arith))

-- ---- words

pub words_at : (ws : List ℕ) (k n : ℕ) → k < length ws → n < 2 →
    slice_index (flat_map word_bytes ws) (2 * k + n) ≡ slice_index (word_bytes (get_or ws k 0)) n
words_at [] k n h b = absurd (omega arith)
words_at (w ∷ ws) zero n h b = by n b
  where
    by : (n : ℕ) → n < 2 → slice_index (flat_map word_bytes (w ∷ ws)) (2 * 0 + n) ≡ slice_index (word_bytes w) n
    by zero b = refl
    by (suc zero) b = refl
    by (suc (suc n)) b = absurd (omega arith)
words_at (w ∷ ws) (suc k) n h b =
    let z : 2 * suc k + n ≡ suc (suc (2 * k + n)) = omega arith in
    ap (slice_index (flat_map word_bytes (w ∷ ws))) z ∙ words_at ws k n (omega arith) b

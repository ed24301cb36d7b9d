-- What the table says of a module stays as others come and go.
use Rattle.std.proofs.Common.{◌≡◌, ◌≢◌, ◌⊎◌, inl, inr, ⊎_elim, ℕ, ◌+◌, ◌%◌, ◌≤◌, List, [], ◌∷◌, ◌++◌, Bool, true, false, cond, ◌||◌, ◌==◌, Some, refl, sym, ap, ◌∙◌, subst, arith}
use Rattle.attest.specs.Units.{UnitName, Protect, new_text, new_ram, table_by}
use Rattle.cpu_step.specs.Asked.{table_after}
use Rattle.insn_decode.specs.declared.insn.Insn.{Insn}
use Rattle.insn_decode.specs.declared.insn.Insn.TheVariants.{Unit as UnitOp}
use Rattle.mod_layout.proofs.Found.{separate_found, module_found, outside, elsewhere, share_sym, no_entry, ends_of, SeparateFrom, place_by, find_module}
use Rattle.mod_layout.proofs.TableLemmas.{apart_of, table_dropped, table_more}
use Rattle.mod_layout.specs.Table.{Table, place_in, place_of, module_of, holds, share_byte, without, drop_module, takes, with_module}
use Rattle.mod_layout.specs.Tables.{IsSection, IsModule, Separate, AreModules, IsTable}
use Rattle.mod_layout.specs.declared.Module.{Module}
use Rattle.mod_layout.specs.declared.Place.{Place}
use Rattle.mod_layout.specs.declared.Place.TheVariants.{Entry, Text, Data}
use Rattle.mod_layout.specs.declared.Section.{Section}
use Rattle.sm_words.specs.Words.{reg}
use Rattle.std.proofs.lemmas.Bool.Decides.{nat_tests}
use Rattle.run_laws.proofs.Rights.{Sound}

apart_out : (s r : Section) (a : ℕ) → share_byte s r ≡ false → holds s a ≡ true → holds r a ≡ false
apart_out s r a h e = let p = ends_of s a e in outside r a (elsewhere r s a p.0 p.1 (share_sym s r h))

separate_sym : (x y : Module) → Separate x y → Separate y x
separate_sym x y s = record { texts = share_sym x.text y.text s.texts; text_ram = share_sym x.ram y.text s.ram_text; ram_text = share_sym x.text y.ram s.text_ram; rams = share_sym x.ram y.ram s.rams; ids = λ e. s.ids (sym e) }

abbrev is_entry : Section → ℕ → Bool
is_entry s a = (a == s.start) || (a == s.start + 1)

module _ (given : ℕ) (x : Module) (ok : IsModule given x) (rest : Place) (a : ℕ) where
  place_skip : holds x.text a ≡ false → holds x.ram a ≡ false → place_by (is_entry x.text a) (holds x.text a) (holds x.ram a) x.id rest ≡ rest
  place_skip t r = rw (no_entry x.text a ok.text_ok t, t, r) refl

  place_data : holds x.ram a ≡ true → place_by (is_entry x.text a) (holds x.text a) (holds x.ram a) x.id rest ≡ Data x.id
  place_data r =
      let t = apart_out x.ram x.text a (share_sym x.text x.ram ok.apart) r in
      rw (no_entry x.text a ok.text_ok t, t, r) refl

  place_text : holds x.text a ≡ true → (place_by (is_entry x.text a) (holds x.text a) (holds x.ram a) x.id rest ≡ Text x.id) ⊎ (place_by (is_entry x.text a) (holds x.text a) (holds x.ram a) x.id rest ≡ Entry x.id)
  place_text t = by (is_entry x.text a) refl
    where
      by : (c : Bool) → is_entry x.text a ≡ c → (place_by (is_entry x.text a) (holds x.text a) (holds x.ram a) x.id rest ≡ Text x.id) ⊎ (place_by (is_entry x.text a) (holds x.text a) (holds x.ram a) x.id rest ≡ Entry x.id)
      by true e = inr (rw e refl)
      by false e = inl (rw (e, t) refl)

-- what an entry of the module m says
abbrev Says : ℕ → Type 0 → Place → Type 0
Says m Q (Entry id) = id ≡ m → Q
Says m Q _ = Unit {0}

-- a place that is not the module's entry
abbrev IsNot : ℕ → Place → Type 0
IsNot m p = Says m ⊥ p

says_not : (m : ℕ) (Q : Type 0) (p : Place) → IsNot m p → Says m Q p
says_not m Q (Entry id) h = λ e. absurd (h e)
says_not m Q _ h = tt

says_by : (m id : ℕ) (Q : Type 0) (e t r : Bool) (rest : Place) → (e ≡ true → id ≡ m → Q) → Says m Q rest → Says m Q (place_by e t r id rest)
says_by m id Q true t r rest q h = q refl
says_by m id Q false false false rest q h = h
says_by m id Q false _ _ rest q h = tt

module _ (given : ℕ) (m : ℕ) where
  others_not : (x : Module) (ms : List Module) (a : ℕ) → x.id ≡ m → SeparateFrom x ms → IsNot m (place_in ms a)
  others_not x [] a e s = tt
  others_not x (y ∷ ms) a e s =
      says_by m y.id ⊥ (is_entry y.text a) (holds y.text a) (holds y.ram a) (place_in ms a) (λ g f. s.0.ids (e ∙ sym f)) (others_not x ms a e s.1)

  -- where the module is found in a list
  pub record Found (ms : List Module) (own : Module) : Type 0 where
    pub is_module : IsModule given own
    pub in_data : (a : ℕ) → holds own.ram a ≡ true → place_in ms a ≡ Data m
    pub in_text : (a : ℕ) → holds own.text a ≡ true → (place_in ms a ≡ Text m) ⊎ (place_in ms a ≡ Entry m)
    pub says : (a : ℕ) → Says m (is_entry own.text a ≡ true) (place_in ms a)

  found_here : (x : Module) (ms : List Module) → IsModule given x → SeparateFrom x ms → x.id ≡ m → Found (x ∷ ms) x
  found_here x ms ok s e =
      record {
        is_module = ok;
        in_data = λ a h. place_data given x ok (place_in ms a) a h ∙ ap Data e;
        in_text = λ a h. ⊎_elim (λ p. inl (p ∙ ap Text e)) (λ p. inr (p ∙ ap Entry e)) (place_text given x ok (place_in ms a) a h);
        says = λ a. says_by m x.id (is_entry x.text a ≡ true) (is_entry x.text a) (holds x.text a) (holds x.ram a) (place_in ms a) (λ g q. g) (says_not m _ (place_in ms a) (others_not x ms a e s));
      }

  found_later : (x : Module) (ms : List Module) (own : Module) → IsModule given x → Separate x own → x.id ≢ m → Found ms own → Found (x ∷ ms) own
  found_later x ms own ok s ne f =
      let o = f.is_module in
      record {
        is_module = f.is_module;
        in_data = λ a h. place_skip given x ok (place_in ms a) a (apart_out own.ram x.text a (share_sym x.text own.ram s.text_ram) h) (apart_out own.ram x.ram a (share_sym x.ram own.ram s.rams) h) ∙ f.in_data a h;
        in_text = λ a h.
            let e = place_skip given x ok (place_in ms a) a (apart_out own.text x.text a (share_sym x.text own.text s.texts) h) (apart_out own.text x.ram a (share_sym x.ram own.text s.ram_text) h) in
            ⊎_elim (λ p. inl (e ∙ p)) (λ p. inr (e ∙ p)) (f.in_text a h);
        says = λ a. says_by m x.id _ (is_entry x.text a) (holds x.text a) (holds x.ram a) (place_in ms a) (λ g q. absurd (ne q)) (f.says a);
      }

  found : (ms : List Module) (own : Module) → AreModules given ms → find_module m ms ≡ Some own → Found ms own
  found [] own h e = absurd cc
  found (x ∷ ms) own h e = by (x.id == m) refl e (λ f. found ms own h.2 f)
    where
      by : (c : Bool) → (x.id == m) ≡ c → cond c (Some x) (find_module m ms) ≡ Some own → (find_module m ms ≡ Some own → Found ms own) → Found (x ∷ ms) own
      by true g f r =
          let k : x ≡ own = cc in
          let id : x.id ≡ m = grind (arith, nat_tests) in
          subst (Found (x ∷ ms)) k (found_here x ms h.0 h.1 id)
      by false g f r =
          let ne : x.id ≢ m = grind (arith, nat_tests) in
          found_later x ms own h.0 (separate_found x own m ms h.1 f) ne (r f)

-- two that are found under different numbers
two_found : (given id m : ℕ) (ms : List Module) (x own : Module) → AreModules given ms → (id == m) ≡ false → find_module id ms ≡ Some x → find_module m ms ≡ Some own → Separate x own
two_found given id m [] x own h ne e f = absurd cc
two_found given id m (y ∷ ms) x own h ne e f = by (y.id == id) (y.id == m) refl refl e f (λ p q. two_found given id m ms x own h.2 ne p q)
  where
    by : (c d : Bool) → (y.id == id) ≡ c → (y.id == m) ≡ d → cond c (Some y) (find_module id ms) ≡ Some x → cond d (Some y) (find_module m ms) ≡ Some own → (find_module id ms ≡ Some x → find_module m ms ≡ Some own → Separate x own) → Separate x own
    by true true cc' dd p q r = absurd (let a : y.id ≡ id = grind (arith, nat_tests) in let b : y.id ≡ m = grind (arith, nat_tests) in let e : (id == m) ≡ true = grind (arith, nat_tests) in let z : true ≡ false = sym e ∙ ne in cc)
    by true false c' d' p q r = let k : y ≡ x = cc in subst (λ z. Separate z own) k (separate_found y own m ms h.1 q)
    by false true c' d' p q r = let k : y ≡ own = cc in subst (Separate x) k (separate_sym y x (separate_found y x id ms h.1 p))
    by false false c' d' p q r = r p q

pub sound_from : (m : ℕ) (own : Module) (t : Table) → IsTable t → module_of m t ≡ Some own → Sound m own t
unfolding place_of
sound_from m own t ok e =
    let f = found t.given m t.modules own ok.modules e in
    let o = f.is_module in
    record {
      is_table = ok;
      found = e;
      own_ok = o;
      in_data = f.in_data;
      in_text = f.in_text;
      entry_only = λ a h even. at_start own.text a o.text_ok (subst (Says m (is_entry own.text a ≡ true)) h (f.says a) refl) even;
      apart = λ a h. apart_out own.text own.ram a o.apart h;
      others = λ id x g ne.
          let s = two_found t.given id m t.modules x own ok.modules ne g e in
          let order = (module_found t.given id x t.modules ok.modules g).ram_ok.order in
          let texts = apart_of x.ram own.text order o.text_ok.order s.ram_text in
          (apart_of x.ram own.ram order o.ram_ok.order s.rams, texts);
    }
  where
    at_start : (s : Section) (a : ℕ) → IsSection s → is_entry s a ≡ true → a % 2 ≡ 0 → a ≡ s.start
    at_start s a ok h even =
        let low : s.start ≤ a = grind (arith, nat_tests) in
        let up : a ≤ s.start + 1 = grind (arith, nat_tests) in
        let e1 = ok.even_start in omega arith

-- ---- a module goes
find_dropped : (m id : ℕ) (ms : List Module) → (id == m) ≡ false → find_module m (drop_module id ms) ≡ find_module m ms
find_dropped m id [] ne = refl
find_dropped m id (y ∷ ms) ne = by (y.id == id) refl (find_dropped m id ms ne)
  where
    by : (c : Bool) → (y.id == id) ≡ c → find_module m (drop_module id ms) ≡ find_module m ms → find_module m (cond c ms (y ∷ drop_module id ms)) ≡ find_module m (y ∷ ms)
    by true e r =
        let same : y.id ≡ id = grind (arith, nat_tests) in
        let f : (y.id == m) ≡ false = ap (λ i. i == m) same ∙ ne in
        sym (ap (λ c. cond c (Some y) (find_module m ms)) f)
    by false e r = ap (cond (y.id == m) (Some y)) r

pub sound_without : (m : ℕ) (own : Module) (t : Table) (id : ℕ) → (id == m) ≡ false → Sound m own t → Sound m own (without id t)
sound_without m own t id ne s =
    sound_from m own (without id t) (table_dropped t id s.is_table) (find_dropped m id t.modules ne ∙ s.found)

-- ---- a module comes
find_more : (m : ℕ) (ms : List Module) (new own : Module) → find_module m ms ≡ Some own → find_module m (ms ++ new ∷ []) ≡ Some own
find_more m [] new own e = cc
find_more m (y ∷ ms) new own e = by (y.id == m) e (λ f. find_more m ms new own f)
  where
    by : (c : Bool) → cond c (Some y) (find_module m ms) ≡ Some own → (find_module m ms ≡ Some own → find_module m (ms ++ new ∷ []) ≡ Some own) → cond c (Some y) (find_module m (ms ++ new ∷ [])) ≡ Some own
    by true f r = f
    by false f r = r f

-- what a table keeps as it takes a module, it keeps over an instruction
module _ (P : Table → Type 0) (more : (t : Table) (vendor : ℕ) (text ram : Section) → takes t text ram ≡ true → P t → P (with_module t vendor text ram)) where
  taken_keeps : (t : Table) (vendor : ℕ) (text ram : Section) (c : Bool) → takes t text ram ≡ c → P t → P (cond c (with_module t vendor text ram) t)
  taken_keeps t vendor text ram true e h = more t vendor text ram e h
  taken_keeps t vendor text ram false e h = h

  unit_keeps : (x : UnitName) (t : Table) (core : List ℕ) → P t → P (table_by x t core)
  unit_keeps Protect t core h = taken_keeps t (reg core 11) (new_text core) (new_ram core) (takes t (new_text core) (new_ram core)) refl h
  unit_keeps _ t core h = h

  pub table_keeps : (insn : Insn) (t : Table) (core : List ℕ) → P t → P (table_after t insn core)
  unfolding table_after
  table_keeps (UnitOp n) t core h = unit_keeps n t core h
  table_keeps _ t core h = h

pub sound_after : (m : ℕ) (own : Module) (t : Table) (insn : Insn) (core : List ℕ) → Sound m own t → Sound m own (table_after t insn core)
sound_after m own t insn core s =
    table_keeps (Sound m own)
    (λ u vendor text ram e k. sound_from m own (with_module u vendor text ram) (table_more u vendor text ram k.is_table e) (find_more m u.modules _ own k.found)) insn t core s

-- The table of a linked image is a table.
use Rattle.std.proofs.Common.{◌≡◌, ◌⊎◌, inl, inr, ℕ, zero, suc, ◌+◌, ◌<◌, ◌≤◌, List, [], ◌∷◌, Some, Bool, true, false, refl, ap, sym, ◌∙◌, arith, subst, fold}
use Rattle.std.specs.Prelude.{is_none, slice_get, if◌then◌else◌, ◌==◌, ◌||◌}
use Rattle.std.specs.List.{range_with_len}
use Rattle.std.proofs.lemmas.Bool.Decides.{nat_tests}
use Rattle.mod_layout.specs.Table.{Table, empty_table, with_module}
use Rattle.mod_layout.specs.Tables.{IsTable}
use Rattle.mod_layout.proofs.TableLemmas.{table_more}
use Rattle.layout_file.specs.Sound.{IsLayout}
use Rattle.layout_file.specs.Values.{ModuleValue, LayoutValue}
use Rattle.link_symbols.specs.Passes.{fold_at}
use Rattle.linker.specs.Placement.{text_of, ram_of}
use Rattle.linker.specs.internal.Tables.{AllHeld}
use Rattle.linker.specs.Image.{with_boot, with_boots, booted_table}
use Rattle.linker.specs.internal.Tables.{Drawn, TableFits}
use Rattle.linker.proofs.ImageLemmas.{held_more, fold_range_more}
use Rattle.linker.proofs.LinkLemmas.{room_small}
use Rattle.linker.proofs.TableLemmas.{kept_at, taken, more_by, drawn_next, room_by}

module _ (end : ℕ → ℕ) (layout : LayoutValue) (s : IsLayout layout) (fits : TableFits end layout.modules) where
  abbrev ms : List ModuleValue
  ms = layout.modules

  -- a table of the layout's room that holds the modules up to this boot, and of the next boot those of lower numbers
  record Made (boot number : ℕ) (t : Table) : Type 0 where
    drawn : Drawn end ms boot number t
    held : AllHeld t
    is : IsTable t
    room : t.room ≡ layout.room

  room_or : (b c : Bool) → (layout.room == 8) ≡ b → (layout.room == 32) ≡ c → (b || c) ≡ true → (layout.room ≡ 8) ⊎ (layout.room ≡ 32)
  room_or true c e f h = inl (grind (arith, nat_tests))
  room_or false true e f h = inr (grind (arith, nat_tests))
  room_or false false e f h = cc

  known_room : (layout.room ≡ 8) ⊎ (layout.room ≡ 32)
  known_room = room_or _ _ refl refl s.known_room

  -- ---- one module

  step_by : (boot number : ℕ) (m : ModuleValue) (t : Table) (b : Bool) → (m.boot == boot + 1) ≡ b → slice_get ms number ≡ Some m → boot < layout.room → Made boot number t
      → AllHeld (if b then with_module t m.vendor (text_of end number m) (ram_of end number m) else t) × IsTable (if b then with_module t m.vendor (text_of end number m) (ram_of end number m) else t)
  step_by boot number m t false e g low h = (h.held, h.is)
  step_by boot number m t true e g low h =
      let vendor = (kept_at layout s number m g).vendor_word in
      let room = h.room in
      let most = room_small layout.room known_room in
      let none = taken end ms boot number m t fits h.drawn h.held g (grind (arith, nat_tests)) (omega (arith, room, low)) (omega (arith, room, most)) in (
        held_more t m.vendor (text_of end number m) (ram_of end number m) (omega (arith, vendor)) h.held,
        table_more t m.vendor (text_of end number m) (ram_of end number m) h.is (ap is_none none),
      )

  step : (boot number : ℕ) (m : ModuleValue) (t : Table) → slice_get ms number ≡ Some m → boot < layout.room → Made boot number t → Made boot (number + 1) (with_boot end (boot + 1) t number m)
  step boot number m t g low h =
      let both = step_by boot number m t (m.boot == boot + 1) refl g low h in
      record {
        drawn = more_by end ms boot number m t (m.boot == boot + 1) refl fits g h.drawn;
        held = both.0;
        is = both.1;
        room = room_by (m.boot == boot + 1) t m.vendor (text_of end number m) (ram_of end number m) ∙ h.room;
      }

  -- ---- the modules of a boot

  steps : (boot i : ℕ) (xs : List ModuleValue) (t : Table) → ((k : ℕ) (m : ModuleValue) → slice_get xs k ≡ Some m → slice_get ms (i + k) ≡ Some m) → boot < layout.room → Made boot i t
      → (n : ℕ) × Made boot n (fold_at (with_boot end (boot + 1)) t i xs)
  steps boot i [] t are low h = (i, h)
  steps boot i (x ∷ xs) t are low h =
      let z : i + 0 ≡ i = omega arith in
      let here = subst (λ (n : ℕ). slice_get ms n ≡ Some x) z (are 0 x refl) in
      steps boot (i + 1) xs (with_boot end (boot + 1) t i x) (λ k m g. let e : i + suc k ≡ (i + 1) + k = omega arith in subst (λ (n : ℕ). slice_get ms n ≡ Some m) e (are (suc k) m g)) low (step boot i x t here low h)

  next_boot : (boot : ℕ) (t : Table) → boot < layout.room → Made boot 0 t → Made (boot + 1) 0 (with_boots end ms t (boot + 1))
  next_boot boot t low h =
      let all = steps boot 0 ms t (λ k m g. let e : k ≡ 0 + k = omega arith in subst (λ (n : ℕ). slice_get ms n ≡ Some m) e g) low h in
      let m = all.1 in
      record { drawn = drawn_next end ms boot all.0 _ m.drawn; held = m.held; is = m.is; room = m.room }

  -- ---- all boots

  begun : Made 0 0 (empty_table layout.room)
  begun = record {
    drawn = record { from = λ k d l. absurd (omega arith); count = inl (omega arith) };
    held = record { numbered_from_1 = tt; all_held = refl };
    is = record { modules = tt; fits = omega arith; room_ok = known_room };
    room = refl;
  }

  boots : (n : ℕ) → n ≤ layout.room → Made n 0 (fold (with_boots end ms) (empty_table layout.room) (range_with_len 1 n))
  boots zero l = begun
  boots (suc n) l =
      let up : n + 1 ≡ suc n = omega arith in
      subst (λ (k : ℕ). Made k 0 (fold (with_boots end ms) (empty_table layout.room) (range_with_len 1 k))) up
      (subst (Made (n + 1) 0) (sym (fold_range_more (with_boots end ms) (empty_table layout.room) n)) (next_boot n _ (omega arith) (boots n (omega arith))))

  pub table_made : IsTable (booted_table end layout) × AllHeld (booted_table end layout)
  table_made = let m = boots layout.room (omega arith) in (m.is, m.held)

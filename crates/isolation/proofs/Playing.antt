-- Peers play a script alike, with its marks: what both do leads to the same cycles, and writes the same.
use Rattle.image_text.specs.Image.{Image}
use Rattle.schedule_file.specs.declared.Entry.{Entry as Scheduled}
use Rattle.std.proofs.lemmas.List.{map-append, length-map, take-map}
use Rattle.written_machine.specs.Cycle.{after_cycles}
use Rattle.written_machine.specs.Peers.{Peers}
use Rattle.written_machine.specs.Standing.{stands_at, one_more_unless, cycles_until, this_or, last_standing}
use Rattle.written_machine.specs.State.{State}
use Rattle.written_machine.specs.View.{at}
use Rattle.std.specs.List.{slice_get}
use Rattle.std.specs.Option.{option_and_then}
use Rattle.written_machine.specs.Marks.{Marked, at_state, cut_at, last_from}
use Rattle.written_machine.specs.Script.{Move, regs_text, mem_text, mark_text, back_text, no_mark_text, last_text, not_there_text, cycle_moves, mark_move, back_move, last_move, line_moves, led, moves, moves_text, play}
use Rattle.written_machine.specs.declared.ScriptLine.{ScriptLine}
use Rattle.written_machine.specs.declared.ScriptLine.TheVariants.{Go, Until, Regs, Mem, Mark, Back, Last}
use Rattle.std.proofs.Common.{◌≡◌, ℕ, zero, suc, ◌+◌, ◌-◌, List, [], ◌∷◌, ◌++◌, take, refl, sym, ap, ◌∙◌, Bool, true, false, nat_lt, cond, Option, Some, None, option_map}
use Rattle.std.proofs.lemmas.Option.{slice_get-map}
use Rattle.isolation.specs.Moments.{moment}
use Rattle.isolation.proofs.Moves.{text_append, led_append, led_cycles, text_cycles}
use Rattle.isolation.proofs.Telling.{cycles_while, lines_while, ends_while, stands_same, outside_equal}
use Rattle.isolation.proofs.Whole.{none_differs}
use Rattle.isolation.proofs.Follow.{after_more}

-- texts with a cycle number, by the number
mark_text_same : (j k : ℕ) (x y : Marked) → j ≡ k → x.present.cycle ≡ y.present.cycle → mark_text j x ≡ mark_text k y
unfolding mark_text
mark_text_same j k x y e c = rw (e, c) refl

back_text_same : (k : ℕ) (x y : Marked) → x.present.cycle ≡ y.present.cycle → back_text k x ≡ back_text k y
unfolding back_text
back_text_same k x y c = rw c refl

last_text_same : (addr : ℕ) (x y : Marked) → x.present.cycle ≡ y.present.cycle → last_text addr x ≡ last_text addr y
unfolding last_text
last_text_same addr x y c = rw c refl

module _ (a b : Image) (m : ℕ) (schedule : List Scheduled) (peers : Peers a b m) (most : ℕ) where
  abbrev at_a : ℕ → List ℕ → Marked
  at_a k ks = moment a schedule most k ks

  abbrev at_b : ℕ → List ℕ → Marked
  at_b k ks = moment b schedule most k ks

  cycles_same : (k : ℕ) → (at a schedule k).cycle ≡ (at b schedule k).cycle
  cycles_same k = cycles_while a b m [] schedule peers k (none_differs a b m schedule k)

  -- both machines stand after the same cycles, with marks after the same
  record Alike (x y : Marked) : Type 0 where
    number : ℕ
    numbers : List ℕ
    one : x ≡ at_a number numbers
    other : y ≡ at_b number numbers

  -- both do what writes the same, and leads to the same cycles
  record Same (x y : Marked) (ms ns : List Move) : Type 0 where
    text : moves_text ms ≡ moves_text ns
    leads : Alike (led x ms) (led y ns)

  -- one command
  one_move : (x y : Marked) (v w : Move) → v.text ≡ w.text → Alike v.after w.after → Same x y (v ∷ []) (w ∷ [])
  one_move x y v w e h = record { text = ap (λ t. t ++ []) e; leads = h }

  still : (k : ℕ) (ks : List ℕ) → Alike (at_a k ks) (at_b k ks)
  still k ks = record { number = k; numbers = ks; one = refl; other = refl }

  -- ---- cycles
  go_same : (k : ℕ) (ks : List ℕ) (n : ℕ) → Same (at_a k ks) (at_b k ks) (cycle_moves (at_a k ks) n) (cycle_moves (at_b k ks) n)
  go_same k ks n =
      let x = at_a k ks in
      let y = at_b k ks in
      record {
        text = text_cycles x n ∙ lines_while a b m [] schedule peers k n (none_differs a b m schedule (n + k)) ∙ sym (text_cycles y n);
        leads = record {
          number = n + k;
          numbers = ks;
          one = led_cycles x n ∙ ap (at_state x) (after_more a schedule k n);
          other = led_cycles y n ∙ ap (at_state y) (after_more b schedule k n);
        };
      }

  until_same : (addr k n : ℕ) → cycles_until addr (at a schedule k) n ≡ cycles_until addr (at b schedule k) n
  until_same addr k zero = refl
  until_same addr k (suc n) =
      ap (λ c. one_more_unless c (cycles_until addr (at a schedule (suc k)) n)) (stands_same a b m schedule peers addr k)
      ∙ ap (one_more_unless (stands_at addr (at b schedule k))) (until_same addr (suc k) n)

  -- ---- marks
  mark_by : (k : ℕ) (ks : List ℕ) (c d : Bool) → c ≡ d
      → (let x = at_a k ks in let y = at_b k ks in
      Same x y (mark_move x (cond c (Some (record x { marks = x.marks ++ x.present ∷ [] })) None) ∷ []) (mark_move y (cond d (Some (record y { marks = y.marks ++ y.present ∷ [] })) None) ∷ []))
  mark_by k ks true true e =
      let count = length-map ks (at a schedule) ∙ sym (length-map ks (at b schedule)) in
      one_move _ _ _ _ (mark_text_same _ _ _ _ count (cycles_same k)) (record {
        number = k;
        numbers = ks ++ k ∷ [];
        one = ap (λ l. let x = at_a k ks in record x { marks = l }) (sym (map-append (at a schedule) ks (k ∷ [])));
        other = ap (λ l. let y = at_b k ks in record y { marks = l }) (sym (map-append (at b schedule) ks (k ∷ [])));
      })
  mark_by k ks false false e = one_move _ _ _ _ refl (still k ks)
  mark_by k ks _ _ e = absurd cc

  mark_same : (k : ℕ) (ks : List ℕ) → Same (at_a k ks) (at_b k ks) (line_moves (at_a k ks) Mark) (line_moves (at_b k ks) Mark)
  mark_same k ks =
      let count = length-map ks (at a schedule) ∙ sym (length-map ks (at b schedule)) in
      mark_by k ks _ _ (ap (λ n. nat_lt n most) count)

  -- back to a state of either, under the marks up to the one of number j
  cut_alike : (j k : ℕ) (ks : List ℕ) (i : ℕ) → Alike (cut_at j (at_a k ks) (at a schedule i)) (cut_at j (at_b k ks) (at b schedule i))
  cut_alike j k ks i = record {
    number = i;
    numbers = take (j + 1) ks;
    one = ap (λ l. let x = at_a i ks in record x { marks = l }) (take-map (at a schedule) (j + 1) ks);
    other = ap (λ l. let y = at_b i ks in record y { marks = l }) (take-map (at b schedule) (j + 1) ks);
  }

  back_by : (j k : ℕ) (ks : List ℕ) (o : Option ℕ) (p q : Option State) → p ≡ option_map (at a schedule) o → q ≡ option_map (at b schedule) o
      → Same (at_a k ks) (at_b k ks) (back_move j (at_a k ks) (option_map (cut_at j (at_a k ks)) p) ∷ [])
      (back_move j (at_b k ks) (option_map (cut_at j (at_b k ks)) q) ∷ [])
  back_by j k ks (Some i) p q e f = rw (e, f) (one_move _ _ _ _ (back_text_same j _ _ (cycles_same i)) (cut_alike j k ks i))
  back_by j k ks None p q e f = rw (e, f) (one_move _ _ _ _ refl (still k ks))

  back_same : (j k : ℕ) (ks : List ℕ) → Same (at_a k ks) (at_b k ks) (line_moves (at_a k ks) (Back j)) (line_moves (at_b k ks) (Back j))
  back_same j k ks = back_by j k ks (slice_get ks j) _ _ (slice_get-map (at a schedule) ks j) (slice_get-map (at b schedule) ks j)

  -- the same state of both is the last that stands there
  record BothLast (addr i n : ℕ) : Type 0 where
    found : Option ℕ
    one : last_standing addr (at a schedule i) n ≡ option_map (at a schedule) found
    other : last_standing addr (at b schedule i) n ≡ option_map (at b schedule) found

  last_next : (addr i n : ℕ) (c : Bool) → stands_at addr (at a schedule (n + i)) ≡ c → BothLast addr i n → BothLast addr i (suc n)
  last_next addr i n c e before = by c (here a ∙ e) (here b ∙ sym (stands_same a b m schedule peers addr (n + i)) ∙ e)
    where
      here : (x : Image) → stands_at addr (after_cycles (at x schedule i) n) ≡ stands_at addr (at x schedule (n + i))
      here x = ap (stands_at addr) (after_more x schedule i n)

      by : (c : Bool) → stands_at addr (after_cycles (at a schedule i) n) ≡ c → stands_at addr (after_cycles (at b schedule i) n) ≡ c → BothLast addr i (suc n)
      by true e f = record { found = Some (n + i); one = ap (λ d. this_or d (after_cycles (at a schedule i) n) (last_standing addr (at a schedule i) n)) e ∙ ap Some (after_more a schedule i n); other = ap (λ d. this_or d (after_cycles (at b schedule i) n) (last_standing addr (at b schedule i) n)) f ∙ ap Some (after_more b schedule i n) }
      by false e f = record { found = before.found; one = ap (λ d. this_or d (after_cycles (at a schedule i) n) (last_standing addr (at a schedule i) n)) e ∙ before.one; other = ap (λ d. this_or d (after_cycles (at b schedule i) n) (last_standing addr (at b schedule i) n)) f ∙ before.other }

  last_both : (addr i n : ℕ) → BothLast addr i n
  last_both addr i zero = record { found = None; one = refl; other = refl }
  last_both addr i (suc n) = last_next addr i n (stands_at addr (at a schedule (n + i))) refl (last_both addr i n)

  last_found : (addr j k : ℕ) (ks : List ℕ) (o : Option ℕ) (p q : Option State) → p ≡ option_map (at a schedule) o → q ≡ option_map (at b schedule) o
      → Same (at_a k ks) (at_b k ks) (last_move addr j (at_a k ks) (option_map (cut_at j (at_a k ks)) p) ∷ [])
      (last_move addr j (at_b k ks) (option_map (cut_at j (at_b k ks)) q) ∷ [])
  last_found addr j k ks (Some i) p q e f = rw (e, f) (one_move _ _ _ _ (last_text_same addr _ _ (cycles_same i)) (cut_alike j k ks i))
  last_found addr j k ks None p q e f =
      let count = length-map ks (at a schedule) ∙ sym (length-map ks (at b schedule)) in
      rw (e, f) (one_move _ _ _ _ (ap (λ n. cond (nat_lt j n) (not_there_text addr) (no_mark_text j)) count) (still k ks))

  last_by : (addr j k : ℕ) (ks : List ℕ) (o : Option ℕ) (p q : Option State) → p ≡ option_map (at a schedule) o → q ≡ option_map (at b schedule) o
      → (let x = at_a k ks in let y = at_b k ks in
      Same x y (last_move addr j x (option_map (cut_at j x) (option_and_then (last_from addr x) p)) ∷ []) (last_move addr j y (option_map (cut_at j y) (option_and_then (last_from addr y) q)) ∷ []))
  last_by addr j k ks (Some i) p q e f =
      let x = at_a k ks in
      let y = at_b k ks in
      let n = (at a schedule k).cycle - (at a schedule i).cycle in
      let same_n : (at b schedule k).cycle - (at b schedule i).cycle ≡ n = ap (λ c. c - (at b schedule i).cycle) (sym (cycles_same k)) ∙ ap (λ c. (at a schedule k).cycle - c) (sym (cycles_same i)) in
      let l = last_both addr i n in
      last_found addr j k ks l.found _ _
      (ap (option_and_then (last_from addr x)) e ∙ l.one)
      (ap (option_and_then (last_from addr y)) f ∙ ap (last_standing addr (at b schedule i)) same_n ∙ l.other)
  last_by addr j k ks None p q e f =
      last_found addr j k ks None _ _ (ap (option_and_then (last_from addr (at_a k ks))) e) (ap (option_and_then (last_from addr (at_b k ks))) f)

  last_same : (addr j k : ℕ) (ks : List ℕ) → Same (at_a k ks) (at_b k ks) (line_moves (at_a k ks) (Last addr j)) (line_moves (at_b k ks) (Last addr j))
  last_same addr j k ks = last_by addr j k ks (slice_get ks j) _ _ (slice_get-map (at a schedule) ks j) (slice_get-map (at b schedule) ks j)

  -- ---- a line
  line_same : (l : ScriptLine) (k : ℕ) (ks : List ℕ) → Same (at_a k ks) (at_b k ks) (line_moves (at_a k ks) l) (line_moves (at_b k ks) l)
  line_same (Go n) k ks = go_same k ks n
  line_same (Until addr n) k ks = rw (until_same addr k n) (go_same k ks (cycles_until addr (at b schedule k) n))
  line_same Regs k ks = one_move _ _ _ _ (ap regs_text (outside_equal a b m schedule peers k)) (still k ks)
  line_same (Mem addr n) k ks = one_move _ _ _ _ (ap (λ v. mem_text v addr n) (outside_equal a b m schedule peers k)) (still k ks)
  line_same Mark k ks = mark_same k ks
  line_same (Back j) k ks = back_same j k ks
  line_same (Last addr j) k ks = last_same addr j k ks

  -- ---- a script
  pub plays_equal : (ls : List ScriptLine) (k : ℕ) (ks : List ℕ) → play (at_a k ks) ls ≡ play (at_b k ks) ls
  plays_equal [] k ks = ap (λ t. t ++ []) (ends_while a b m [] schedule peers k (none_differs a b m schedule k))
  plays_equal (l ∷ ls) k ks =
      let x = at_a k ks in
      let y = at_b k ks in
      let h = line_same l k ks in
      let first = text_append (line_moves x l) (moves (led x (line_moves x l)) ls) in
      let second = text_append (line_moves y l) (moves (led y (line_moves y l)) ls) in
      rw (first, second, h.text, h.leads.one, h.leads.other, plays_equal ls h.leads.number h.leads.numbers) refl

  -- and where it leads
  leads_alike : (ls : List ScriptLine) (k : ℕ) (ks : List ℕ) → Alike (led (at_a k ks) (moves (at_a k ks) ls)) (led (at_b k ks) (moves (at_b k ks) ls))
  leads_alike [] k ks = still k ks
  leads_alike (l ∷ ls) k ks =
      let x = at_a k ks in
      let y = at_b k ks in
      let h = (line_same l k ks).leads in
      let rest = leads_alike ls h.number h.numbers in
      record {
        number = rest.number;
        numbers = rest.numbers;
        one = led_append x (line_moves x l) (moves (led x (line_moves x l)) ls) ∙ ap (λ g. led g (moves g ls)) h.one ∙ rest.one;
        other = led_append y (line_moves y l) (moves (led y (line_moves y l)) ls) ∙ ap (λ g. led g (moves g ls)) h.other ∙ rest.other;
      }

  pub leads_equal : (ls : List ScriptLine) (k : ℕ) (ks : List ℕ)
      → (after : ℕ) × (marked : List ℕ) × (led (at_a k ks) (moves (at_a k ks) ls) ≡ at_a after marked) × (led (at_b k ks) (moves (at_b k ks) ls) ≡ at_b after marked)
  leads_equal ls k ks = let h = leads_alike ls k ks in (h.number, h.numbers, h.one, h.other)

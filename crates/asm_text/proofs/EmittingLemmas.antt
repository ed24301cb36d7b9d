-- Writing from line to line, beside placing.
use Rattle.std.proofs.Common.{ℕ, ◌≡◌, ◌+◌, ◌-◌, ◌<◌, ◌≤◌, List, [], ◌∷◌, length, map, get_or, drop, Some, Result, Ok, Err, refl, ap, sym, subst, ◌∙◌, arith}
use Rattle.std.specs.List.{All}
use Rattle.std.proofs.lemmas.List.{get_or-map, drop_more}
use Rattle.std.proofs.lemmas.Option.{slice_get_within, get_or_from_slice_get}
use Rattle.asm_line.specs.declared.TheConstants.{MAX_SIZE}
use Rattle.asm_text.specs.declared.placing.Head.{Head}
use Rattle.asm_text.specs.declared.unit.AsmFault.{AsmFault}
use Rattle.asm_line.specs.declared.statement.SectionKind.TheVariants.{Code as CodeKind}
use Rattle.asm_line.specs.declared.statement.Statement.{Statement}
use Rattle.asm_line.specs.declared.statement.Statement.TheVariants.{Word, Space, Jump, Code}
use Rattle.asm_text.specs.Emission.{Meanings, Emitted, nothing, emitted, emitted_from}
use Rattle.asm_text.specs.internal.Emitted.{HasRoom}
use Rattle.asm_text.specs.internal.Known.{AreKnown}
use Rattle.asm_text.specs.Parts.{SectionValue}
use Rattle.asm_text.specs.internal.Placed.{IsPlaced, AreSmall}
use Rattle.asm_text.specs.Placing.{Placed, placed, unrefused, placed_from}
use Rattle.asm_line.specs.Statements.{statement_size}
use Rattle.asm_text.proofs.LockLemmas.{Shape, shape_of, head_shape, Agree, same_number, last_there, IsTaken, taken, agree_more}
use Rattle.asm_text.proofs.PlacedLemmas.{placed_kept}

abbrev pub some_head : Head
some_head = record { name = 0; kind = CodeKind; size = 0 }

-- sections that agree with small heads are small
pub small_sections : (m : Meanings) (e : Emitted) (p : Placed) → Agree m e p → AreSmall p.heads → All (λ s. s.size ≤ MAX_SIZE) e.sections
small_sections m e p a small k d low =
    let n = same_number m e p a in
    let within : k < length p.heads = omega arith in
    let one : get_or (map shape_of e.sections) k (shape_of d) ≡ shape_of (get_or e.sections k d) = get_or-map shape_of e.sections k d (shape_of d) low in
    let two : get_or (map (head_shape m) p.heads) k (shape_of d) ≡ head_shape m (get_or p.heads k some_head) = get_or-map (head_shape m) p.heads k some_head (shape_of d) within in
    let same : shape_of (get_or e.sections k d) ≡ head_shape m (get_or p.heads k some_head) = sym one ∙ (ap (λ ss. get_or ss k (shape_of d)) a.shapes ∙ two) in
    let sizes : (get_or e.sections k d).size ≡ (get_or p.heads k some_head).size = ap (λ (x : Shape). x.size) same in
    let most : (get_or p.heads k some_head).size ≤ MAX_SIZE = small k some_head within in
    subst (λ n. n ≤ MAX_SIZE) (sym sizes) most

last_small : (m : Meanings) (e : Emitted) (p : Placed) → Agree m e p → AreSmall p.heads → HasRoom e.sections 0
last_small m e p a small last is =
    let within : length e.sections - 1 < length e.sections = slice_get_within e.sections (length e.sections - 1) last is in
    let there : get_or e.sections (length e.sections - 1) last ≡ last = get_or_from_slice_get e.sections (length e.sections - 1) last last is in
    let most : (get_or e.sections (length e.sections - 1) last).size ≤ MAX_SIZE = small_sections m e p a small (length e.sections - 1) last within in
    let size : (get_or e.sections (length e.sections - 1) last).size ≡ last.size = ap (λ (s : SectionValue). s.size) there in
    omega arith

taken_room : (m : Meanings) (e : Emitted) (p q : Placed) (s : Statement ℕ) → Agree m e p → IsTaken p q s → HasRoom e.sections (statement_size s)
taken_room m e p q s a t last is =
    let there = last_there m e p t.head a t.is in
    let same : there.last ≡ last = some_same there.last last (sym there.lasts.last_is ∙ is) in
    let size : there.last.size ≡ t.head.size = ap (λ (x : Shape). x.size) there.lasts.same in
    let sizes : there.last.size ≡ last.size = ap (λ (x : SectionValue). x.size) same in
    let room : t.head.size + statement_size s ≤ MAX_SIZE = t.grown_by.room in
    subst (λ n. n + statement_size s ≤ MAX_SIZE) (sym size ∙ sizes) room
  where
    some_same : (a b : SectionValue) → Some a ≡ Some b → a ≡ b
    some_same a b k = cc

has_room : (m : Meanings) (n : ℕ) (e : Emitted) (p q : Placed) (s : Statement ℕ) → Agree m e p → AreSmall p.heads → placed n p s ≡ Ok q → HasRoom e.sections (statement_size s)
has_room m n e p q (Word field) a small j = taken_room m e p q (Word field) a (taken n p q (Word field) (λ h. refl) j)
has_room m n e p q (Space size) a small j = taken_room m e p q (Space size) a (taken n p q (Space size) (λ h. refl) j)
has_room m n e p q (Jump c t) a small j = taken_room m e p q (Jump c t) a (taken n p q (Jump c t) (λ h. refl) j)
has_room m n e p q (Code insn x y) a small j = taken_room m e p q (Code insn x y) a (taken n p q (Code insn x y) (λ h. refl) j)
has_room m n e p q _ a small j = last_small m e p a small

-- ---- line by line

pub record IsNextPlace (n : ℕ) (p : Placed) (s : Statement ℕ) (rest : List (Statement ℕ)) (end : Placed) : Type 0 where
  pub after : Placed
  pub is : placed n p s ≡ Ok after
  pub goes : placed_from (n + 1) after rest ≡ Ok end

pub next_place : (n : ℕ) (p : Placed) (s : Statement ℕ) (rest : List (Statement ℕ)) (end : Placed) → placed_from n p (s ∷ rest) ≡ Ok end → IsNextPlace n p s rest end
next_place n p s rest end e = by (placed n p s) refl e
  where
    by : (r : Result Placed AsmFault) → placed n p s ≡ r → unrefused r (λ q. placed_from (n + 1) q rest) ≡ Ok end → IsNextPlace n p s rest end
    by (Ok q) is k = record { after = q; is = is; goes = k }
    by (Err fault) is k = absurd cc

pub record IsEmitting (m : Meanings) (names : ℕ) (statements : List (Statement ℕ)) (end : Placed) (i : ℕ) (e : Emitted) : Type 0 where
  pub total : emitted_from m 1 nothing statements ≡ emitted_from m (i + 1) e (drop i statements)
  pub place : Placed
  pub goes : placed_from (i + 1) place (drop i statements) ≡ Ok end
  pub kept : IsPlaced names place
  pub agree : Agree m e place

-- the place after a line
pub at_line : (m : Meanings) (names : ℕ) (statements : List (Statement ℕ)) (end : Placed) (i : ℕ) (e : Emitted) (d : Statement ℕ) (g : IsEmitting m names statements end i e) → i < length statements
    → IsNextPlace (i + 1) g.place (get_or statements i d) (drop (i + 1) statements) end
at_line m names statements end i e d g low =
    next_place (i + 1) g.place (get_or statements i d) (drop (i + 1) statements) end (ap (placed_from (i + 1) g.place) (sym (drop_more statements i d low)) ∙ g.goes)

pub emitting_room : (m : Meanings) (names : ℕ) (statements : List (Statement ℕ)) (end : Placed) (i : ℕ) (e : Emitted) (d : Statement ℕ) → IsEmitting m names statements end i e → i < length statements
    → HasRoom e.sections (statement_size (get_or statements i d))
emitting_room m names statements end i e d g low =
    let x = at_line m names statements end i e d g low in
    has_room m (i + 1) e g.place x.after (get_or statements i d) g.agree g.kept.small x.is

next_total : (m : Meanings) (names : ℕ) (statements : List (Statement ℕ)) (end : Placed) (i : ℕ) (e : Emitted) (d : Statement ℕ) → IsEmitting m names statements end i e → i < length statements
    → emitted_from m 1 nothing statements ≡ unrefused (emitted m (i + 1) e (get_or statements i d)) (λ f. emitted_from m (i + 1 + 1) f (drop (i + 1) statements))
next_total m names statements end i e d g low = g.total ∙ ap (emitted_from m (i + 1) e) (drop_more statements i d low)

pub emitting_more : (m : Meanings) (names : ℕ) (statements : List (Statement ℕ)) (end : Placed) (i : ℕ) (e f : Emitted) (d : Statement ℕ) → IsEmitting m names statements end i e → AreKnown names statements → i < length statements
    → emitted m (i + 1) e (get_or statements i d) ≡ Ok f → IsEmitting m names statements end (i + 1) f
emitting_more m names statements end i e f d g known low is =
    let x = at_line m names statements end i e d g low in
    record {
      total = next_total m names statements end i e d g low ∙ ap (λ r. unrefused r (λ y. emitted_from m (i + 1 + 1) y (drop (i + 1) statements))) is;
      place = x.after;
      goes = x.goes;
      kept = placed_kept names (i + 1) g.place x.after (get_or statements i d) g.kept (known i d low) x.is;
      agree = agree_more m (i + 1) e f g.place x.after (get_or statements i d) g.agree x.is is;
    }

-- what is written agrees with what was placed
pub all_agree : (m : Meanings) (n : ℕ) (e f : Emitted) (p q : Placed) (statements : List (Statement ℕ)) → Agree m e p → placed_from n p statements ≡ Ok q → emitted_from m n e statements ≡ Ok f → Agree m f q
all_agree m n e f p q [] a j k =
    let one : e ≡ f = cc in
    let two : p ≡ q = cc in
    subst (λ (x : Emitted). Agree m x q) one (subst (λ (y : Placed). Agree m e y) two a)
all_agree m n e f p q (s ∷ rest) a j k =
    let x = next_place n p s rest q j in
    by x.after x.is (λ z a' k'. all_agree m (n + 1) z f x.after q rest a' x.goes k') (emitted m n e s) refl k
  where
    by : (y : Placed) → placed n p s ≡ Ok y → ((z : Emitted) → Agree m z y → emitted_from m (n + 1) z rest ≡ Ok f → Agree m f q)
        → (r : Result Emitted AsmFault) → emitted m n e s ≡ r → unrefused r (λ z. emitted_from m (n + 1) z rest) ≡ Ok f → Agree m f q
    by y is again (Ok z) was k' = again z (agree_more m n e z p y s a is was) k'
    by y is again (Err fault) was k' = absurd cc

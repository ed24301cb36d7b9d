-- The files of objects, read one after another.
use Rattle.std.proofs.Common.{◌≡◌, ℕ, ◌+◌, ◌<◌, List, [], ◌∷◌, ◌++◌, get_or, map, length, drop, Option, sym, ◌∙◌, ap, subst, arith, inl, inr}
use Rattle.std.proofs.lemmas.List.{append_assoc, at_drop_more}
use Rattle.elf_objects.specs.Object.{ObjectValue}
use Rattle.linker.specs.Room.{IsSmall}
use Rattle.sm_io.specs.Files.{FileMap}
use Rattle.cli_files.specs.declared.answers.FileFault.{FileFault}
use Rattle.cli_files.specs.declared.answers.Refusal.{Refusal}
use Rattle.cli_files.specs.declared.answers.Refusal.TheVariants as refusal
use Rattle.cli_files.specs.Files.{Held, an_object, object_file, Need, need, object_needs, Holds, HoldAll, IsFirstFault, IsReached}
use Rattle.cli_files.specs.Causes.{IsNeedCause}

-- the next name of a list, and what stands behind it
pub at_name : {X : Type 0} (f : X → List ℕ) (items : List X) (i : ℕ) (d : X) (done text : List (List ℕ)) → i < length items → done ++ map f (drop i items) ≡ text
    → done ++ (f (get_or items i d) ∷ map f (drop (i + 1) items)) ≡ text
at_name f items i d done text h e = ap (λ (l : List (List ℕ)). done ++ l) (sym (at_drop_more (map f) items i d h)) ∙ e

pub past_name : {X : Type 0} (f : X → List ℕ) (items : List X) (i : ℕ) (d : X) (done text : List (List ℕ)) → i < length items → done ++ map f (drop i items) ≡ text
    → (done ++ f (get_or items i d) ∷ []) ++ map f (drop (i + 1) items) ≡ text
past_name f items i d done text h e = append_assoc done (f (get_or items i d) ∷ []) (map f (drop (i + 1) items)) ∙ at_name f items i d done text h e

-- what refuses at files and a count refuses at their equals
pub cause_moved : (a b : Option FileMap) (m n after : ℕ) (needs : List Need) (refused : Refusal) (told : List ℕ) → a ≡ b → m ≡ n → IsNeedCause a m after needs refused told
    → IsNeedCause b n after needs refused told
cause_moved a b m n after needs refused told same count h =
    subst (λ files. IsNeedCause files n after needs refused told) same (subst (λ before. IsNeedCause a before after needs refused told) count h)

module _ (files : Option FileMap) where
  -- an object's file is no larger than a file may be
  pub small_object : (name : List ℕ) (object : ObjectValue) → Holds files (need name object_file) (an_object object) → IsSmall object
  small_object name object h = omega (arith, h.short, ap length h.is.1)

  -- one file more that holds something
  pub hold_past : (names : List (List ℕ)) (helds : List Held) (name : List ℕ) (held : Held) → HoldAll files (object_needs names) helds → Holds files (need name object_file) held
      → HoldAll files (object_needs (names ++ name ∷ [])) (helds ++ held ∷ [])
  hold_past [] [] name held h k = (k, tt)
  hold_past [] (x ∷ xs) name held h k = absurd h
  hold_past (n ∷ names) [] name held h k = absurd h
  hold_past (n ∷ names) (x ∷ xs) name held h k = (h.0, hold_past names xs name held h.1 k)

  -- behind files that serve, the next file's fault is the first
  first_past : (names : List (List ℕ)) (helds : List Held) (name : List ℕ) (more : List (List ℕ)) (told : List ℕ) (f : FileFault) → HoldAll files (object_needs names) helds
      → IsFirstFault files (need name object_file ∷ []) told f → IsFirstFault files (object_needs (names ++ name ∷ more)) told f
  first_past [] helds name more told f h (inl k) = inl k
  first_past [] helds name more told f h (inr k) = absurd k.1
  first_past (n ∷ names) [] name more told f h k = absurd h
  first_past (n ∷ names) (x ∷ xs) name more told f h k = inr ((x, h.0), first_past names xs name more told f h.1 k)

  -- and it is reached
  reached_past : (names : List (List ℕ)) (helds : List Held) (name : List ℕ) (more : List (List ℕ)) (told : List ℕ) → HoldAll files (object_needs names) helds
      → IsReached files (need name object_file ∷ []) told → IsReached files (object_needs (names ++ name ∷ more)) told
  reached_past [] helds name more told h (inl k) = inl k
  reached_past [] helds name more told h (inr k) = absurd k.1
  reached_past (n ∷ names) [] name more told h k = absurd h
  reached_past (n ∷ names) (x ∷ xs) name more told h k = inr ((x, h.0), reached_past names xs name more told h.1 k)

  -- a refusal that the next file calls for, the files call for
  pub cause_past : (before after : ℕ) (names : List (List ℕ)) (helds : List Held) (name : List ℕ) (more : List (List ℕ)) (refused : Refusal) (told : List ℕ)
      → HoldAll files (object_needs names) helds → IsNeedCause files before after (need name object_file ∷ []) refused told
      → IsNeedCause files before after (object_needs (names ++ name ∷ more)) refused told
  cause_past before after names helds name more (refusal.BadFile f) told h k = (first_past names helds name more told f h k.0, k.1)
  cause_past before after names helds name more refusal.CannotRead told h k = (reached_past names helds name more told h k.0, k.1)
  cause_past before after names helds name more _ told h k = k

-- What every source keeps, from line to line.
use Rattle.std.proofs.Common.{ℕ, ◌≡◌, ◌≢◌, ◌+◌, ◌*◌, ◌<◌, ◌≤◌, Bool, true, false, cond, List, [], ◌∷◌, length, get_or, Option, Some, None, is_some, position, nat_lt, refl, ap, sym, length-append, arith}
use Rattle.std.specs.Prelude.{bytes_eq}
use Rattle.std.specs.List.{AllPairs, position_or_len}
use Rattle.std.proofs.lemmas.Bool.Decides.{nat_tests}
use Rattle.std.proofs.lemmas.List.Elements.{All-push}
use Rattle.std.proofs.lemmas.List.Quantifiers.{all_pairs_push}
use Rattle.std.proofs.lemmas.List.Sums.{fails_before_first}
use Rattle.std.proofs.lemmas.Slice.Eq.{bytes_eq-Decides}
use Rattle.texts.specs.Lines.{ended_lines, unended, lines_text}
use Rattle.texts.proofs.LawLemmas.{texts_are_lines}
use Rattle.asm_text.specs.declared.TheConstants.{MAX_SOURCE}
use Rattle.asm_line.specs.declared.statement.Field.TheVariants.{Number, Name}
use Rattle.asm_line.specs.declared.statement.Statement.{Statement}
use Rattle.asm_line.specs.declared.statement.Statement.TheVariants.{Section, Label, Global, Word, Space, Jump, Code}
use Rattle.asm_text.specs.internal.Emitted.{AreNames}
use Rattle.asm_text.specs.internal.Kept.{IsSource}
use Rattle.asm_text.specs.internal.Known.{IsBelow, IsKnown, AreKnown, IsNamed, AreNamed}
use Rattle.asm_line.specs.Lines.{statement_of}
use Rattle.asm_text.specs.Names.{name_number, noted_by, name_added, Tables, no_tables, noted_option, number_option, tables_after, numbered}
use Rattle.asm_line.specs.Identifiers.{is_name}
use Rattle.asm_text.specs.Source.{SourceRead, more, source_by, source_from, source_read}
use Rattle.asm_text.proofs.PlaceLemmas.{place_none}
use Rattle.asm_line.proofs.WrittenLemmas.{NamedOption, IsWritten, statement_some, two_bytes}

-- ---- a list of names

pub record IsTable (names : List (List ℕ)) : Type 0 where
  pub are : AreNames names
  pub differ : AllPairs (λ a b. a ≢ b) names

-- a table with a name more
pub record IsNoted (names more : List (List ℕ)) (place : ℕ) : Type 0 where
  pub table : IsTable more
  pub least : length names ≤ length more
  pub most : length more ≤ length names + 1
  pub low : place < length more

not_there : (names : List (List ℕ)) (name : List ℕ) → position (λ n. bytes_eq n name) names ≡ None → (k : ℕ) (d : List ℕ) → k < length names → get_or names k d ≢ name
not_there names name none k d low same =
    let past : position_or_len (λ n. bytes_eq n name) names ≡ length names = place_none (λ n. bytes_eq n name) names none in
    let miss : bytes_eq (get_or names k d) name ≡ false = fails_before_first (λ n. bytes_eq n name) names k d (omega arith) in
    let hit : bytes_eq (get_or names k d) name ≡ true = (bytes_eq-Decides (get_or names k d) name).1 same in
    absurd cc

pub is_noted : (names : List (List ℕ)) (name : List ℕ) → IsTable names → is_name name ≡ true → IsNoted names (name_added names name) (name_number names name)
is_noted names name t named = by (nat_lt (name_number names name) (length names)) refl
  where
    by_place : (o : Option ℕ) (c : Bool) → position (λ n. bytes_eq n name) names ≡ o → nat_lt (name_number names name) (length names) ≡ c → cond c (Some (name_number names name)) None ≡ o → IsNoted names (noted_by (is_some o) names name) (name_number names name)
    by_place (Some i) true is low e = record { table = t; least = omega arith; most = omega arith; low = grind (arith, nat_tests) }
    by_place (Some i) false is low e = absurd cc
    by_place None true is low e = absurd cc
    by_place None false is low e =
        let size = length-append names (name ∷ []) in
        let past : name_number names name ≡ length names = place_none (λ n. bytes_eq n name) names is in
        record {
          table = record { are = All-push (λ n. is_name n ≡ true) names name t.are named; differ = all_pairs_push (λ (a b : List ℕ). a ≢ b) names name t.differ (not_there names name is) };
          least = omega arith;
          most = omega arith;
          low = omega arith;
        }

    by : (c : Bool) → nat_lt (name_number names name) (length names) ≡ c → IsNoted names (name_added names name) (name_number names name)
    by c low = by_place (position (λ n. bytes_eq n name) names) c refl low (ap (λ b. cond b (Some (name_number names name)) None) (sym low))

-- ---- a statement

-- tables with the names of a statement, which has their numbers
pub record IsMore (t u : Tables) (s : Statement ℕ) : Type 0 where
  pub names : IsTable u.names
  pub sections : IsTable u.sections
  pub least : length t.names ≤ length u.names
  pub least_sections : length t.sections ≤ length u.sections
  pub most : length u.names ≤ length t.names + 2
  pub known : IsKnown (length u.names) s
  pub named : IsNamed (length u.sections) s

pub record IsOptionNoted (names more : List (List ℕ)) (place : Option ℕ) : Type 0 where
  pub table : IsTable more
  pub least : length names ≤ length more
  pub most : length more ≤ length names + 1
  pub low : IsBelow (length more) place

option_noted : (names : List (List ℕ)) (name : Option (List ℕ)) → IsTable names → NamedOption name → IsOptionNoted names (noted_option names name) (number_option names name)
option_noted names None t h = record { table = t; least = omega arith; most = omega arith; low = tt }
option_noted names (Some name) t h = let n = is_noted names name t h in record { table = n.table; least = n.least; most = n.most; low = n.low }

below_more : (a b : ℕ) (k : Option ℕ) → a ≤ b → IsBelow a k → IsBelow b k
below_more a b None most h = tt
below_more a b (Some k) most h = omega arith

statement_more : (t : Tables) (s : Statement (List ℕ)) → IsTable t.names → IsTable t.sections → IsWritten s → IsMore t (tables_after t s) (numbered t s)
statement_more t (Section name kind) names sections h =
    let n = is_noted t.sections name sections h in
    record { names = names; sections = n.table; least = omega arith; least_sections = n.least; most = omega arith; known = tt; named = n.low }
statement_more t (Label name) names sections h =
    let n = is_noted t.names name names h in
    record { names = n.table; sections = sections; least = n.least; least_sections = omega arith; most = let m = n.most in omega arith; known = n.low; named = tt }
statement_more t (Global name) names sections h =
    let n = is_noted t.names name names h in
    record { names = n.table; sections = sections; least = n.least; least_sections = omega arith; most = let m = n.most in omega arith; known = n.low; named = tt }
statement_more t (Word (Name name)) names sections h =
    let n = is_noted t.names name names h in
    record { names = n.table; sections = sections; least = n.least; least_sections = omega arith; most = let m = n.most in omega arith; known = n.low; named = tt }
statement_more t (Word (Number x)) names sections h = record { names = names; sections = sections; least = omega arith; least_sections = omega arith; most = omega arith; known = tt; named = tt }
statement_more t (Space size) names sections h = record { names = names; sections = sections; least = omega arith; least_sections = omega arith; most = omega arith; known = h.0; named = tt }
statement_more t (Jump c target) names sections h =
    let n = is_noted t.names target names h in
    record { names = n.table; sections = sections; least = n.least; least_sections = omega arith; most = let m = n.most in omega arith; known = n.low; named = tt }
statement_more t (Code insn a b) names sections h =
    let one = option_noted t.names a names h.0 in
    let two = option_noted (noted_option t.names a) b one.table h.1 in
    let l1 = one.least in
    let l2 = two.least in
    let m1 = one.most in
    let m2 = two.most in
    record {
      names = two.table;
      sections = sections;
      least = omega arith;
      least_sections = omega arith;
      most = omega arith;
      known = (below_more (length (noted_option t.names a)) (length (noted_option (noted_option t.names a) b)) (number_option t.names a) l2 one.low, two.low);
      named = tt;
    }

-- ---- statements that were read stay known

known_more : (a b : ℕ) (s : Statement ℕ) → a ≤ b → IsKnown a s → IsKnown b s
known_more a b (Section name kind) most h = tt
known_more a b (Word (Number n)) most h = tt
known_more a b (Space size) most h = h
known_more a b (Code insn x y) most h = (below_more a b x most h.0, below_more a b y most h.1)
known_more a b _ most h = omega arith

named_more : (a b : ℕ) (s : Statement ℕ) → a ≤ b → IsNamed a s → IsNamed b s
named_more a b (Section name kind) most h = omega arith
named_more a b _ most h = tt

-- ---- line by line

pub record IsKept (t : Tables) (statements : List (Statement ℕ)) : Type 0 where
  pub names : IsTable t.names
  pub sections : IsTable t.sections
  pub known : AreKnown (length t.names) statements
  pub named : AreNamed (length t.sections) statements
  pub counted : length t.names ≤ 2 * length statements

kept_more : (t : Tables) (statements : List (Statement ℕ)) (s : Statement (List ℕ)) → IsKept t statements → IsWritten s → IsKept (tables_after t s) (more t statements s)
kept_more t statements s k h =
    let m = statement_more t s k.names k.sections h in
    let a = m.most in
    let b = k.counted in
    record {
      names = m.names;
      sections = m.sections;
      known = All-push (IsKnown (length (tables_after t s).names)) statements (numbered t s) (λ j d low. known_more (length t.names) (length (tables_after t s).names) (get_or statements j d) m.least (k.known j d low)) m.known;
      named = All-push (IsNamed (length (tables_after t s).sections)) statements (numbered t s) (λ j d low. named_more (length t.sections) (length (tables_after t s).sections) (get_or statements j d) m.least_sections (k.named j d low)) m.named;
      counted = omega (arith, length-append statements (numbered t s ∷ []));
    }

-- what is kept of a source of so many bytes
pub record IsWhole (s : SourceRead) (size : ℕ) : Type 0 where
  pub kept : IsKept s.tables s.statements
  pub few : 3 * length s.statements ≤ size

abbrev size_of_lines : List (List ℕ) → ℕ
size_of_lines [] = 0
size_of_lines (line ∷ lines) = length line + 1 + size_of_lines lines

whole_from : (n size : ℕ) (t : Tables) (statements : List (Statement ℕ)) (lines : List (List ℕ)) (tail : List ℕ) → IsKept t statements → 3 * length statements + size_of_lines lines ≤ size → IsWhole (source_from n t statements lines tail) size
whole_from n size t statements [] [] k few = record { kept = k; few = omega arith }
whole_from n size t statements [] (b ∷ tail) k few = record { kept = k; few = omega arith }
whole_from n size t statements (line ∷ lines) tail k few =
    by (λ u ss k' few'. whole_from (n + 1) size u ss lines tail k' few') (statement_of line) refl
  where
    by : ((u : Tables) (ss : List (Statement ℕ)) → IsKept u ss → 3 * length ss + size_of_lines lines ≤ size → IsWhole (source_from (n + 1) u ss lines tail) size)
        → (o : Option (Statement (List ℕ))) → statement_of line ≡ o → IsWhole (source_by n t statements o (λ u ss. source_from (n + 1) u ss lines tail)) size
    by again None is = record { kept = k; few = omega arith }
    by again (Some s) is =
        let two = two_bytes line s is in
        again (tables_after t s) (more t statements s) (kept_more t statements s k (statement_some line s is)) (omega (arith, length-append statements (numbered t s ∷ [])))

lines_size : (lines : List (List ℕ)) (tail : List ℕ) → size_of_lines lines ≤ length (lines_text lines tail)
lines_size [] tail = omega arith
lines_size (line ∷ lines) tail = let rest = lines_size lines tail in omega (arith, length-append line (10 ∷ lines_text lines tail))

pub source_kept : (text : List ℕ) → length text ≤ MAX_SOURCE → IsSource (source_read text)
unfolding source_read
source_kept text most =
    let size : size_of_lines (ended_lines text) ≤ length text = let l = lines_size (ended_lines text) (unended text) in omega (arith, ap length (texts_are_lines text)) in
    let none : IsTable [] = record { are = λ k d h. absurd (omega (arith, h)); differ = λ i j d h k. absurd (omega (arith, k)) } in
    let start : IsKept no_tables [] = record { names = none; sections = none; known = λ k d h. absurd (omega (arith, h)); named = λ k d h. absurd (omega (arith, h)); counted = omega arith } in
    let w = whole_from 1 (length text) no_tables [] (ended_lines text) (unended text) start (omega arith) in
    let k = w.kept in
    let few = w.few in
    let counted = k.counted in
    record {
      few_names = omega arith;
      few_statements = omega arith;
      known = k.known;
      named = k.named;
      names = k.names.are;
      sections = k.sections.are;
      names_differ = k.names.differ;
      sections_differ = k.sections.differ;
    }

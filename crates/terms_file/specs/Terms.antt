-- The text of terms: lines `answer rN`, then lines `public AAAA`.
use Rattle.std.specs.Prelude.{ℕ, ◌+◌, ◌%◌, ◌==◌, if◌then◌else◌, List, [], ◌∷◌, ◌++◌, drop, codes, Option, Some, None, Result}
use Rattle.std.specs.Fmt.{decimal}
use Rattle.std.specs.List.{starts_with, flat_map}
use Rattle.texts.specs.Decimals.{read_decimal}
use Rattle.texts.specs.Hexadecimals.{hex_word, read_hex_word}
use Rattle.texts.specs.Rows.{Rows, rows_of}
use Rattle.cpu_step.specs.Lone.{is_answer}
use Rattle.terms_file.specs.declared.Term.{Term}
use Rattle.terms_file.specs.declared.Term.TheVariants.{Answer, Public}
use Rattle.terms_file.specs.declared.TermsFault.{TermsFault}
use Rattle.terms_file.specs.declared.TermsFault.TheVariants.{TooMany, Line, NotRising}

-- an answer in the register of this number, if it may be one
abbrev pub answer_of : Option ℕ → Option Term
answer_of (Some n) = if is_answer n then Some (Answer n) else None
answer_of None = None

-- a public word at this address, if it is even
abbrev pub public_of : Option ℕ → Option Term
public_of (Some a) = if a % 2 == 0 then Some (Public a) else None
public_of None = None

-- the term that a line writes, where it has one of the forms
unfoldable pub term_of : List ℕ → Option Term
term_of line =
    if starts_with (λ a b. a == b) line (codes "answer r") then answer_of (read_decimal 15 (drop 8 line))
    else (if starts_with (λ a b. a == b) line (codes "public ") then public_of (read_hex_word (drop 7 line)) else None)

-- registers come before addresses
abbrev pub term_place : Term → ℕ
term_place (Answer n) = n
term_place (Public a) = 16 + a

-- each term comes behind that of the line before; there are 14 registers, and words of a public kind are the first 256 of the data
abbrev pub term_rows : Rows Term TermsFault
term_rows = record {
  row_of = term_of;
  place = term_place;
  behind = λ term. term_place term + 1;
  most = 270;
  too_many = TooMany;
  no_row = λ n. Line n;
  not_rising = λ n. NotRising n;
}

-- what a text gives, line by line from 1
unfoldable pub terms_of : List ℕ → Result (List Term) TermsFault
terms_of text = rows_of term_rows text

-- the register of an answer, and the address of a public word
abbrev pub answer_in : Term → List ℕ
answer_in (Answer n) = n ∷ []
answer_in (Public a) = []

abbrev pub public_in : Term → List ℕ
public_in (Answer n) = []
public_in (Public a) = a ∷ []

-- the registers that may be answers, and the addresses of the public words
abbrev pub registers_in : List Term → List ℕ
registers_in terms = flat_map answer_in terms

abbrev pub addresses_in : List Term → List ℕ
addresses_in terms = flat_map public_in terms

-- a term as its line, and with the LF that ends it
abbrev pub term_text : Term → List ℕ
term_text (Answer n) = codes "answer r" ++ decimal n
term_text (Public a) = codes "public " ++ hex_word a

abbrev pub term_line : Term → List ℕ
term_line term = term_text term ++ codes "\n"

-- the text of terms, a line each
abbrev pub terms_text : List Term → List ℕ
terms_text terms = flat_map term_line terms

-- Lines that have a form are the lines of their values.
use Rattle.std.proofs.Common.{◌≡◌, ℕ, ◌<◌, List, [], ◌∷◌, ◌++◌, drop, codes, refl, sym, ap, ◌∙◌, arith}
use Rattle.std.proofs.lemmas.List.{append-nil}
use Rattle.hex.specs.Hex.{encode_with, encode_lower}
use Rattle.texts.specs.Hexadecimals.{hex_word}
use Rattle.image_text.specs.ImageText.{key_line, handler_line, module_line, row_line}
use Rattle.image_text.specs.Refusal.{key_form, handler_form, module_form, row_form, digits_bytes, digits_word, section_at}
use Rattle.image_text.specs.internal.Reading.{HasLineForm, CodedAt}
use Rattle.image_text.proofs.FormLemmas.{after_word, after_digits, after_four, word_here, coded_at, nothing_left, marks}

pub record IsKeyLine (line : List ℕ) : Type 0 where
  pub coded : CodedAt line 4 16
  pub text : line ≡ key_line (digits_bytes 4 16 line)

pub key_line_of : (line : List ℕ) → HasLineForm key_form line → IsKeyLine line
key_line_of line h =
    let w = after_word (codes "key ") (marks 16) line refl h in
    let d = after_digits 16 [] w.rest w.next in
    let none = nothing_left d.rest d.next in
    let c = coded_at line d.rest 4 16 d.bytes (omega arith) d.are d.count (ap (drop 4) w.is ∙ d.is) in
    record {
      coded = c.0;
      text = w.is ∙ ap (λ (l : List ℕ). codes "key " ++ l) (d.is ∙ ap (λ (l : List ℕ). encode_lower d.bytes ++ l) none ∙ append-nil (encode_lower d.bytes) ∙ ap encode_lower (sym c.1));
    }

pub record IsHandlerLine (line : List ℕ) : Type 0 where
  pub coded : CodedAt line 8 2
  pub small : digits_word 8 line < 65536
  pub text : line ≡ handler_line (digits_word 8 line)

pub handler_line_of : (line : List ℕ) → HasLineForm handler_form line → IsHandlerLine line
handler_line_of line h =
    let w = after_word (codes "handler ") (marks 2) line refl h in
    let d = after_four [] w.rest w.next in
    let none = nothing_left d.rest d.next in
    let c = word_here line d.rest 8 d.word d.small (ap (drop 8) w.is ∙ d.is) in
    record {
      coded = c.0;
      small = let l = d.small in omega (arith, c.1);
      text = w.is ∙ ap (λ (l : List ℕ). codes "handler " ++ l) (d.is ∙ ap (λ (l : List ℕ). hex_word d.word ++ l) none ∙ append-nil (hex_word d.word) ∙ ap hex_word (sym c.1));
    }

pub record IsRowLine (line : List ℕ) : Type 0 where
  pub at : CodedAt line 3 2
  pub row : CodedAt line 8 16
  pub small : digits_word 3 line < 65536
  pub text : line ≡ row_line (digits_word 3 line) (digits_bytes 8 16 line)

pub row_line_of : (line : List ℕ) → HasLineForm row_form line → IsRowLine line
unfolding encode_with
row_line_of line h =
    let w = after_word (codes "at ") (marks 2 ++ (32 ∷ marks 16)) line refl h in
    let a = after_four (32 ∷ marks 16) w.rest w.next in
    let s = after_word (32 ∷ []) (marks 16) a.rest refl a.next in
    let d = after_digits 16 [] s.rest s.next in
    let none = nothing_left d.rest d.next in
    let whole : line ≡ codes "at " ++ (hex_word a.word ++ (32 ∷ (encode_lower d.bytes ++ d.rest))) =
    w.is ∙ ap (λ (l : List ℕ). codes "at " ++ l) (a.is ∙ ap (λ (l : List ℕ). hex_word a.word ++ l) (s.is ∙ ap (λ (l : List ℕ). 32 ∷ l) d.is)) in
    let c = word_here line (32 ∷ (encode_lower d.bytes ++ d.rest)) 3 a.word a.small (ap (drop 3) whole) in
    let r = coded_at line d.rest 8 16 d.bytes (omega arith) d.are d.count (ap (drop 8) whole) in
    record {
      at = c.0;
      row = r.0;
      small = let l = a.small in omega (arith, c.1);
      text = whole ∙ ap (λ (l : List ℕ). codes "at " ++ (hex_word a.word ++ (32 ∷ l))) (ap (λ (l : List ℕ). encode_lower d.bytes ++ l) none ∙ append-nil (encode_lower d.bytes) ∙ ap encode_lower (sym r.1))
          ∙ ap (λ (n : ℕ). codes "at " ++ (hex_word n ++ (32 ∷ encode_lower (digits_bytes 8 16 line)))) (sym c.1);
    }

-- a module's line, by its five words
abbrev words_line : ℕ → ℕ → ℕ → ℕ → ℕ → List ℕ → List ℕ
words_line v a b c d rest = codes "module " ++ (hex_word v ++ (32 ∷ ((hex_word a ++ (32 ∷ hex_word b)) ++ (32 ∷ (hex_word c ++ (32 ∷ (hex_word d ++ rest)))))))

pub record IsModuleLine (line : List ℕ) : Type 0 where
  pub vendor : CodedAt line 7 2
  pub text_start : CodedAt line 12 2
  pub text_end : CodedAt line 17 2
  pub ram_start : CodedAt line 22 2
  pub ram_end : CodedAt line 27 2
  pub small : digits_word 7 line < 65536
  pub text : (id : ℕ) → line ≡ module_line record { id = id; vendor = digits_word 7 line; text = section_at 12 line; ram = section_at 22 line }

pub module_line_of : (line : List ℕ) → HasLineForm module_form line → IsModuleLine line
unfolding encode_with
module_line_of line h =
    let w = after_word (codes "module ") (marks 2 ++ (32 ∷ (marks 2 ++ (32 ∷ (marks 2 ++ (32 ∷ (marks 2 ++ (32 ∷ marks 2)))))))) line refl h in
    let v = after_four (32 ∷ (marks 2 ++ (32 ∷ (marks 2 ++ (32 ∷ (marks 2 ++ (32 ∷ marks 2))))))) w.rest w.next in
    let s1 = after_word (32 ∷ []) (marks 2 ++ (32 ∷ (marks 2 ++ (32 ∷ (marks 2 ++ (32 ∷ marks 2)))))) v.rest refl v.next in
    let a = after_four (32 ∷ (marks 2 ++ (32 ∷ (marks 2 ++ (32 ∷ marks 2))))) s1.rest s1.next in
    let s2 = after_word (32 ∷ []) (marks 2 ++ (32 ∷ (marks 2 ++ (32 ∷ marks 2)))) a.rest refl a.next in
    let b = after_four (32 ∷ (marks 2 ++ (32 ∷ marks 2))) s2.rest s2.next in
    let s3 = after_word (32 ∷ []) (marks 2 ++ (32 ∷ marks 2)) b.rest refl b.next in
    let c = after_four (32 ∷ marks 2) s3.rest s3.next in
    let s4 = after_word (32 ∷ []) (marks 2) c.rest refl c.next in
    let d = after_four [] s4.rest s4.next in
    let none = nothing_left d.rest d.next in
    let e5 : c.rest ≡ 32 ∷ (hex_word d.word ++ []) = s4.is ∙ ap (λ (l : List ℕ). 32 ∷ l) (d.is ∙ ap (λ (l : List ℕ). hex_word d.word ++ l) none) in
    let e4 : b.rest ≡ 32 ∷ (hex_word c.word ++ (32 ∷ (hex_word d.word ++ []))) = s3.is ∙ ap (λ (l : List ℕ). 32 ∷ l) (c.is ∙ ap (λ (l : List ℕ). hex_word c.word ++ l) e5) in
    let e3 : a.rest ≡ 32 ∷ (hex_word b.word ++ (32 ∷ (hex_word c.word ++ (32 ∷ (hex_word d.word ++ []))))) = s2.is ∙ ap (λ (l : List ℕ). 32 ∷ l) (b.is ∙ ap (λ (l : List ℕ). hex_word b.word ++ l) e4) in
    let e2 : v.rest ≡ 32 ∷ (hex_word a.word ++ (32 ∷ (hex_word b.word ++ (32 ∷ (hex_word c.word ++ (32 ∷ (hex_word d.word ++ []))))))) = s1.is ∙ ap (λ (l : List ℕ). 32 ∷ l) (a.is ∙ ap (λ (l : List ℕ). hex_word a.word ++ l) e3) in
    let whole : line ≡ words_line v.word a.word b.word c.word d.word [] = w.is ∙ ap (λ (l : List ℕ). codes "module " ++ l) (v.is ∙ ap (λ (l : List ℕ). hex_word v.word ++ l) e2) in
    let w7 = word_here line (drop 11 (words_line v.word a.word b.word c.word d.word [])) 7 v.word v.small (ap (drop 7) whole) in
    let w12 = word_here line (drop 16 (words_line v.word a.word b.word c.word d.word [])) 12 a.word a.small (ap (drop 12) whole) in
    let w17 = word_here line (drop 21 (words_line v.word a.word b.word c.word d.word [])) 17 b.word b.small (ap (drop 17) whole) in
    let w22 = word_here line (drop 26 (words_line v.word a.word b.word c.word d.word [])) 22 c.word c.small (ap (drop 22) whole) in
    let w27 = word_here line [] 27 d.word d.small (ap (drop 27) whole) in
    record {
      vendor = w7.0;
      text_start = w12.0;
      text_end = w17.0;
      ram_start = w22.0;
      ram_end = w27.0;
      small = let l = v.small in omega (arith, w7.1);
      text = λ id. whole
          ∙ ap (λ (n : ℕ). words_line n a.word b.word c.word d.word []) (sym w7.1)
          ∙ ap (λ (n : ℕ). words_line (digits_word 7 line) n b.word c.word d.word []) (sym w12.1)
          ∙ ap (λ (n : ℕ). words_line (digits_word 7 line) (digits_word 12 line) n c.word d.word []) (sym w17.1)
          ∙ ap (λ (n : ℕ). words_line (digits_word 7 line) (digits_word 12 line) (digits_word 17 line) n d.word []) (sym w22.1)
          ∙ ap (λ (n : ℕ). words_line (digits_word 7 line) (digits_word 12 line) (digits_word 17 line) (digits_word 22 line) n []) (sym w27.1);
    }

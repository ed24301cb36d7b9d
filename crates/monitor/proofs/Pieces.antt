-- What is shown, one piece more at the end.
use Rattle.std.proofs.Common.{◌≡◌, ℕ, zero, suc, ◌+◌, ◌-◌, ◌<◌, List, ◌++◌, cond, codes, Some, None, refl, sym, ◌∙◌, ap, arith, add-zero, add-one}
use Rattle.std.proofs.lemmas.List.{append_assoc, append-nil}
use Rattle.mod_layout.specs.Table.{Table, place_of}
use Rattle.mod_layout.specs.declared.Place.{Place}
use Rattle.mod_layout.specs.declared.Place.TheVariants.{Data}
use Rattle.tracer.specs.Lines.{registers_from}
use Rattle.written_machine.specs.Script.{registers_text, byte_text, bytes_text, refused_by, refused_or}
use Rattle.written_machine.specs.State.{State}
use Rattle.written_machine.specs.View.{View, view_of, is_hidden_by}
use Rattle.written_machine.specs.declared.Hidden.TheVariants.{All as AllHidden}

bytes_then : (v : View) (a n : ℕ) → bytes_text v a (suc n) ≡ bytes_text v a n ++ byte_text (v.byte (a + n))
bytes_then v a zero = append-nil (byte_text (v.byte a)) ∙ ap (λ i. byte_text (v.byte i)) (sym (add-zero a))
bytes_then v a (suc n) =
    let place : a + 1 + n ≡ a + suc n = omega arith in
    ap (λ t. byte_text (v.byte a) ++ t) (bytes_then v (a + 1) n ∙ ap (λ i. bytes_text v (a + 1) n ++ byte_text (v.byte i)) place)
    ∙ sym (append_assoc (byte_text (v.byte a)) (bytes_text v (a + 1) n) (byte_text (v.byte (a + suc n))))

-- a text with n bytes, and then one more
pub bytes_next : (v : View) (a n : ℕ) (start now next : List ℕ) → now ≡ start ++ bytes_text v a n → next ≡ now ++ byte_text (v.byte (a + n)) → next ≡ start ++ bytes_text v a (n + 1)
bytes_next v a n start now next has more =
    more ∙ ap (λ t. t ++ byte_text (v.byte (a + n))) has
    ∙ append_assoc start (bytes_text v a n) (byte_text (v.byte (a + n)))
    ∙ ap (λ t. start ++ t) (sym (ap (bytes_text v a) (add-one n) ∙ bytes_then v a n))

-- what a search for a refused byte comes to, from the i-th byte on
pub refused_at : (t : Table) (a n i : ℕ) (rest : List ℕ) → i < n → refused_or t (a + i) (n - i) rest ≡ refused_by (place_of t (a + i)) (a + i) (refused_or t (a + (i + 1)) (n - (i + 1)) rest)
refused_at t a n i rest h =
    let left : n - i ≡ suc (n - (i + 1)) = omega (arith, h) in
    let place : a + i + 1 ≡ a + (i + 1) = omega arith in
    ap (λ k. refused_or t (a + i) k rest) left ∙ ap (λ b. refused_by (place_of t (a + i)) (a + i) (refused_or t b (n - (i + 1)) rest)) place

-- where the i-th lies in data
pub refused_found : (t : Table) (a n i id : ℕ) (rest : List ℕ) → i < n → Data id ≡ place_of t (a + i) → refused_or t (a + i) (n - i) rest ≡ refused_by (Data id) (a + i) rest
refused_found t a n i id rest h is = refused_at t a n i rest h ∙ ap (λ p. refused_by p (a + i) (refused_or t (a + (i + 1)) (n - (i + 1)) rest)) (sym is)

passed : (p : Place) (a : ℕ) (rest : List ℕ) → ((id : ℕ) → p ≡ Data id → ⊥) → refused_by p a rest ≡ rest
passed (Data id) a rest h = absurd (h id refl)
passed _ a rest h = refl

-- where it does not
pub refused_next : (t : Table) (a n i : ℕ) (p : Place) (rest : List ℕ) → i < n → p ≡ place_of t (a + i) → ((id : ℕ) → p ≡ Data id → ⊥) → refused_or t (a + i) (n - i) rest ≡ refused_or t (a + (i + 1)) (n - (i + 1)) rest
refused_next t a n i p rest h is other =
    refused_at t a n i rest h ∙ ap (λ q. refused_by q (a + i) (refused_or t (a + (i + 1)) (n - (i + 1)) rest)) (sym is) ∙ passed p (a + i) (refused_or t (a + (i + 1)) (n - (i + 1)) rest) other

-- pieces one after another
pub two_pieces : (start a b now next : List ℕ) → now ≡ start ++ a → next ≡ now ++ b → next ≡ start ++ (a ++ b)
two_pieces start a b now next p q = q ∙ ap (λ t. t ++ b) p ∙ append_assoc start a b

pub four_pieces : (start a b c d one two three four : List ℕ) → one ≡ start ++ a → two ≡ one ++ b → three ≡ two ++ c → four ≡ three ++ d → four ≡ start ++ (a ++ (b ++ (c ++ d)))
four_pieces start a b c d one two three four p q r s = two_pieces start a (b ++ (c ++ d)) one four p (two_pieces one b (c ++ d) two four q (two_pieces two c d three four r s))

-- outside the registers are seen
pub outside_text : (s : State) → s.active ≡ None → registers_text (view_of s AllHidden).registers (view_of s AllHidden).active ≡ codes "outside" ++ registers_from s.core 0 16
unfolding view_of
outside_text s outside = ap (λ o. registers_text (cond (is_hidden_by AllHidden o) None (Some s.core)) o) outside

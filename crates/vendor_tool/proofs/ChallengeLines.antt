-- A line and the challenge that it writes.
use Rattle.std.proofs.Common.{ℕ, ◌≡◌, ◌+◌, ◌^◌, ◌<◌, ◌≤◌, ◌⊎◌, inl, inr, List, [], ◌∷◌, ◌++◌, length, get_or, Option, Some, codes, append_assoc, ap, sym, ◌∙◌, refl, arith, lit<}
use Rattle.std.specs.List.{before_first, after_first, position_or_len}
use Rattle.std.specs.Fmt.{decimal}
use Rattle.std.proofs.lemmas.Bool.{cases_lt}
use Rattle.std.proofs.lemmas.Bool.Decides.{nat_tests}
use Rattle.std.proofs.Math.ListN.{drop_of_length-le}
use Rattle.std.proofs.lemmas.List.Sums.{split_at_first, passes_at_first}
use Rattle.texts.specs.Decimals.{read_decimal}
use Rattle.texts.specs.Hexadecimals.{hex_key, read_hex_key}
use Rattle.texts.proofs.WordLemmas.{cut_off, decimal_has_no}
use Rattle.texts.proofs.LawLemmas.{decimals_are_read, keys_are_read}
use Rattle.vendor_tool.specs.declared.Challenge.{Challenge}
use Rattle.vendor_tool.specs.Challenges.{last_cycle, IsChallenge}
use Rattle.texts.specs.Words.{is_space}
use Rattle.vendor_tool.specs.ChallengeText.{challenge_at, challenge_of, challenge_text}
use Rattle.vendor_tool.specs.Laws.{ChallengesAreRead}
use Rattle.vendor_tool.proofs.LineLemmas.{nothing_is_no_key}

at_cycle-parts : (o : Option ℕ) (p : Option (List ℕ)) (c : Challenge) → challenge_at o p ≡ Some c → (o ≡ Some c.cycle) × (p ≡ Some c.nonce)
at_cycle-parts (Some cycle) (Some nonce) c h = (cc, cc)
at_cycle-parts _ _ c h = absurd cc

challenge_from : (line : List ℕ) (c : Challenge) → challenge_of line ≡ Some c → IsChallenge c × (line ≡ challenge_text c)
unfolding challenge_of
challenge_from line c h = by (cases_lt (position_or_len is_space line) (length line))
  where
    parts : (read_decimal last_cycle (before_first is_space line) ≡ Some c.cycle) × (read_hex_key (after_first is_space line) ≡ Some c.nonce)
    parts = at_cycle-parts _ _ c h

    by : (position_or_len is_space line < length line) ⊎ (length line ≤ position_or_len is_space line) → IsChallenge c × (line ≡ challenge_text c)
    by (inl found) =
        let r = (decimals_are_read last_cycle (lit< tt) (before_first is_space line) c.cycle).0 parts.0 in
        let k = (keys_are_read (after_first is_space line) c.nonce).0 parts.1 in
        let space : get_or line (position_or_len is_space line) 0 ≡ 32 = let p = passes_at_first is_space line 0 found in grind (arith, nat_tests) in
        let whole = split_at_first is_space line 0 found in (
          record { cycle = r.0; length = k.0.0; bytes = k.0.1 },
          whole ∙ ap (λ b. before_first is_space line ++ b ∷ after_first is_space line) space ∙ ap (λ d. d ++ 32 ∷ after_first is_space line) r.1
              ∙ ap (λ t. decimal c.cycle ++ 32 ∷ t) k.1 ∙ sym (append_assoc (decimal c.cycle) (codes " ") (hex_key c.nonce)),
        )
    by (inr none) =
        let nothing : after_first is_space line ≡ [] = drop_of_length-le line {i = position_or_len is_space line + 1} (omega arith) in
        let key : read_hex_key [] ≡ Some c.nonce = sym (ap read_hex_key nothing) ∙ parts.1 in
        let no_key = nothing_is_no_key in
        absurd cc

challenge_to : (c : Challenge) → IsChallenge c → challenge_of (challenge_text c) ≡ Some c
unfolding challenge_of
challenge_to c h =
    let low = h.cycle in
    let fits : c.cycle < 2 ^ 64 = omega arith in
    let cut = cut_off is_space 32 (hex_key c.nonce) refl (decimal c.cycle) (decimal_has_no 32 c.cycle (omega arith) fits) in
    let read = (decimals_are_read last_cycle (lit< tt) (decimal c.cycle) c.cycle).1 (low, refl) in
    let key = (keys_are_read (hex_key c.nonce) c.nonce).1 ((h.length, h.bytes), refl) in
    ap challenge_of (append_assoc (decimal c.cycle) (codes " ") (hex_key c.nonce))
    ∙ ap (λ b. challenge_at (read_decimal last_cycle b) (read_hex_key (after_first is_space (decimal c.cycle ++ 32 ∷ hex_key c.nonce)))) cut.before
    ∙ ap (λ a. challenge_at (read_decimal last_cycle (decimal c.cycle)) (read_hex_key a)) cut.after
    ∙ ap (λ o. challenge_at o (read_hex_key (hex_key c.nonce))) read
    ∙ ap (challenge_at (Some c.cycle)) key

pub challenges_are_read : ChallengesAreRead
challenges_are_read line c = (challenge_from line c, λ h. ap challenge_of h.1 ∙ challenge_to c h.0)

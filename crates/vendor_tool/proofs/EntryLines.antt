-- The text of a serial schedule is read as its entries.
use Rattle.std.proofs.Common.{ℕ, suc, ◌≡◌, ◌+◌, ◌*◌, ◌^◌, ◌<◌, ◌≤◌, false, List, [], ◌∷◌, ◌++◌, length, get_or, map, nat_eq, nat_lt, Some, Ok, codes, refl, ap, ◌∙◌, append_assoc, length-append, arith}
use Rattle.std.specs.List.{All}
use Rattle.std.specs.Fmt.{decimal}
use Rattle.std.proofs.lemmas.Bool.Decides.{nat_tests}
use Rattle.std.proofs.lemmas.List.Elements.{All-from_recursion, All-append, All-tail}
use Rattle.hex.specs.Hex.{IsBytes}
use Rattle.texts.specs.Hexadecimals.{hex_byte}
use Rattle.texts.specs.Laws.{HasNoFeed}
use Rattle.texts.specs.Lines.{is_line_feed, ended_lines, unended, last_line, lines_of}
use Rattle.texts.proofs.LineLemmas.{ended_lines-before, unended-before}
use Rattle.texts.proofs.WordLemmas.{decimal_has_no}
use Rattle.schedule_file.specs.declared.Entry.{Entry}
use Rattle.schedule_file.specs.declared.What.TheVariants.{Serial}
use Rattle.schedule_file.specs.Entries.{IsScheduleEntry}
use Rattle.schedule_file.specs.Laws.{EntriesAreRead}
use Rattle.schedule_file.specs.Line.{entry_of, entry_text}
use Rattle.texts.specs.Rows.{after_these, rows_from}
use Rattle.schedule_file.specs.Reading.{entry_rows, schedule_of}
use Rattle.vendor_tool.specs.declared.Challenge.{Challenge}
use Rattle.vendor_tool.specs.Challenges.{last_cycle, nonce_cycles, byte_step, IsChallenge, AreChallenges, AreApart}
use Rattle.vendor_tool.proofs.Plain.{byte_plain, each, no_feed}
use Rattle.vendor_tool.specs.NonceSchedule.{bytes_from, nonce_entries, schedule_entries, entries_text}

-- ---- no LF in a line

abbrev IsClean : ℕ → Type 0
IsClean b = is_line_feed b ≡ false

byte_clean : (byte : ℕ) → byte < 256 → All IsClean (hex_byte byte)
byte_clean byte small = each is_line_feed (hex_byte byte) no_feed (byte_plain byte small)

serial_clean : (cycle byte : ℕ) → cycle < 10 ^ 18 → byte < 256 → HasNoFeed (entry_text (record { cycle = cycle; what = Serial byte }))
serial_clean cycle byte low small =
    All-append IsClean (decimal cycle ++ codes " ") (codes "serial " ++ hex_byte byte)
    (All-append IsClean (decimal cycle) (codes " ") (decimal_has_no 10 cycle (omega arith) (omega arith)) (All-from_recursion IsClean (codes " ") (refl, tt)))
    (All-append IsClean (codes "serial ") (hex_byte byte) (All-from_recursion IsClean (codes "serial ") (refl, (refl, (refl, (refl, (refl, (refl, (refl, tt)))))))) (byte_clean byte small))

-- ---- entries that rise from a cycle on, each with a line of its own

pub record IsSent (low : ℕ) (e : Entry) : Type 0 where
  pub rises : low ≤ e.cycle
  pub entry : IsScheduleEntry e
  pub clean : HasNoFeed (entry_text e)

abbrev pub Rise : ℕ → List Entry → Type 0
Rise low [] = Unit {0}
Rise low (e ∷ es) = IsSent low e × Rise e.cycle es

nothing_ended : ended_lines [] ≡ []
unfolding ended_lines
nothing_ended = refl

nothing_behind : unended [] ≡ []
unfolding unended
nothing_behind = refl

lines_are : (low : ℕ) (es : List Entry) → Rise low es → lines_of (entries_text es) ≡ map entry_text es
lines_are low es r = ap (λ ls. ls ++ last_line (unended (entries_text es))) (ended low es r) ∙ ap (λ t. map entry_text es ++ last_line t) (behind low es r) ∙ append_nil (map entry_text es)
  where
    append_nil : (ls : List (List ℕ)) → ls ++ [] ≡ ls
    append_nil [] = refl
    append_nil (l ∷ ls) = ap (λ x. l ∷ x) (append_nil ls)

    ended : (low : ℕ) (es : List Entry) → Rise low es → ended_lines (entries_text es) ≡ map entry_text es
    ended low [] r = nothing_ended
    ended low (e ∷ es) r =
        ap ended_lines (append_assoc (entry_text e) (codes "\n") (entries_text es))
        ∙ ended_lines-before (entry_text e) (entries_text es) r.0.clean
        ∙ ap (λ ls. entry_text e ∷ ls) (ended e.cycle es r.1)

    behind : (low : ℕ) (es : List Entry) → Rise low es → unended (entries_text es) ≡ []
    behind low [] r = nothing_behind
    behind low (e ∷ es) r =
        ap unended (append_assoc (entry_text e) (codes "\n") (entries_text es))
        ∙ unended-before (entry_text e) (entries_text es) r.0.clean
        ∙ behind e.cycle es r.1

entries_are : EntriesAreRead → (n low : ℕ) (es : List Entry) → n + length es ≤ 65537 → Rise low es → rows_from entry_rows n low (map entry_text es) ≡ Ok es
entries_are law n low [] few r = refl
entries_are law n low (e ∷ es) few r =
    let rises = r.0.rises in
    let not_last : nat_eq n 65537 ≡ false = grind (arith, nat_tests) in
    let is : entry_of (entry_text e) ≡ Some e = (law (entry_text e) e).1 (r.0.entry, refl) in
    let not_below : nat_lt e.cycle low ≡ false = grind (arith, nat_tests) in
    rw (not_last, is, not_below) (ap (after_these (e ∷ [])) (entries_are law (n + 1) e.cycle es (omega arith) r.1))

pub schedule_is : EntriesAreRead → (es : List Entry) → length es ≤ 65536 → Rise 0 es → schedule_of (entries_text es) ≡ Ok es
unfolding schedule_of
schedule_is law es few r = ap (rows_from entry_rows 1 0) (lines_are 0 es r) ∙ entries_are law 1 0 es (omega arith) r

-- ---- the entries of challenges

bytes_rise : (cycle i low : ℕ) (bytes : List ℕ) (more : List Entry) → i + length bytes ≤ 16 → cycle ≤ last_cycle → low ≤ cycle + byte_step * i → IsBytes bytes
    → ((last : ℕ) → last ≤ cycle + nonce_cycles → Rise last more) → Rise low (bytes_from cycle i bytes ++ more)
bytes_rise cycle i low [] more fit most h bytes next = next low (omega arith)
bytes_rise cycle i low (b ∷ bs) more fit most h bytes next =
    let small : b < 256 = bytes 0 in
    let early : cycle + byte_step * i < 10 ^ 18 = omega arith in (
      record { rises = h; entry = (early, small); clean = serial_clean (cycle + byte_step * i) b early small },
      bytes_rise cycle (i + 1) (cycle + byte_step * i) bs more (omega arith) most (omega arith) (λ k. bytes (suc k)) next,
    )

entries_rise : (cs : List Challenge) (low : ℕ) → AreChallenges cs → AreApart cs → All (λ c. low ≤ c.cycle) cs → Rise low (schedule_entries cs)
entries_rise [] low are apart later = tt
entries_rise (c ∷ cs) low are apart later =
    let sound : IsChallenge c = are 0 c (omega arith) in
    let first : low ≤ c.cycle = later 0 c (omega arith) in
    let whole = sound.length in
    bytes_rise c.cycle 0 low c.nonce (schedule_entries cs) (omega arith) sound.cycle (omega arith) sound.bytes
    (λ last h. entries_rise cs last (All-tail IsChallenge c cs are) (λ i j d l k. apart (suc i) (suc j) d (omega arith) (omega arith))
    (λ k d l. let a : c.cycle + nonce_cycles ≤ (get_or cs k d).cycle = apart 0 (suc k) d (omega arith) (omega arith) in omega arith))

length_from : (cycle i : ℕ) (bytes : List ℕ) → length (bytes_from cycle i bytes) ≡ length bytes
length_from cycle i [] = refl
length_from cycle i (b ∷ bs) = ap suc (length_from cycle (i + 1) bs)

length_of : (cs : List Challenge) → AreChallenges cs → length (schedule_entries cs) ≡ 16 * length cs
length_of [] are = refl
length_of (c ∷ cs) are =
    let sound : IsChallenge c = are 0 c (omega arith) in
    let whole = sound.length in
    omega (arith, length-append (nonce_entries c) (schedule_entries cs), length_from c.cycle 0 c.nonce, length_of cs (All-tail IsChallenge c cs are))

-- the schedule of challenges is read as their entries
pub schedule_read : EntriesAreRead → (cs : List Challenge) (text : List ℕ) → length cs ≤ 4096 → AreChallenges cs → AreApart cs → text ≡ entries_text (schedule_entries cs) → schedule_of text ≡ Ok (schedule_entries cs)
schedule_read law cs text few are apart is =
    ap schedule_of is ∙ schedule_is law (schedule_entries cs) (omega (arith, length_of cs are)) (entries_rise cs 0 are apart (λ k d l. omega arith))

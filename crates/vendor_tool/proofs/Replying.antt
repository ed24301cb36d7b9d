-- What reading a trace keeps from line to line.
use Rattle.std.proofs.Common.{ℕ, ◌≡◌, ◌+◌, ◌<◌, ◌≤◌, Bool, true, false, List, [], ◌∷◌, ◌++◌, length, Option, Some, option_to_list, Result, Ok, Err, refl, ap, sym, ◌∙◌, append_assoc, length-append, arith}
use Rattle.std.proofs.lemmas.List.{append-nil}
use Rattle.texts.specs.Lines.{ended_lines, unended, lines_text}
use Rattle.texts.proofs.LawLemmas.{texts_are_lines}
use Rattle.vendor_tool.specs.declared.TraceFault.{TraceFault}
use Rattle.vendor_tool.specs.declared.TraceFault.TheVariants.{Line}
use Rattle.vendor_tool.specs.declared.trace_line.Kind.{Kind}
use Rattle.texts.specs.Rows.{after_these}
use Rattle.vendor_tool.specs.Replies.{ends, told_by, at_end, by_end, from_told, replies_from, replies_of}

pub record IsReplied (trace replies rest : List ℕ) (before : ℕ) : Type 0 where
  pub total : replies_of trace ≡ after_these replies (replies_from (before + 1) (ended_lines rest) (unended rest))
  pub counted : before + length rest ≤ length trace

-- before the first line
pub IsReplied-start : (trace : List ℕ) → IsReplied trace [] trace 0
unfolding replies_of
IsReplied-start trace = record { total = by (replies_from 1 (ended_lines trace) (unended trace)); counted = omega arith }
  where
    by : (r : Result (List ℕ) TraceFault) → r ≡ after_these [] r
    by (Ok bytes) = refl
    by (Err fault) = refl

-- a line of some kind, and what stands behind it
pub record IsNext (rest line after : List ℕ) : Type 0 where
  pub cut : rest ≡ line ++ 10 ∷ after
  pub lines : ended_lines rest ≡ line ∷ ended_lines after
  pub behind : unended rest ≡ unended after

-- what a line gives
pub by_kind : (trace replies rest line after : List ℕ) (before : ℕ) → IsReplied trace replies rest before → IsNext rest line after
    → replies_of trace ≡ after_these replies (from_told (before + 1) (told_by line) (at_end (before + 1 + 1) (ended_lines after) (unended after)) (replies_from (before + 1 + 1) (ended_lines after) (unended after)))
by_kind trace replies rest line after before r n =
    r.total
    ∙ ap (λ ls. after_these replies (replies_from (before + 1) ls (unended rest))) n.lines
    ∙ ap (λ t. after_these replies (replies_from (before + 1) (line ∷ ended_lines after) t)) n.behind

-- a line of a kind, by whether it ends the trace
with_kind : (trace replies rest line after : List ℕ) (before : ℕ) (kind : Kind) (sent : Option ℕ) (end : Bool) → IsReplied trace replies rest before → IsNext rest line after
    → told_by line ≡ Some (kind, sent) → ends kind ≡ end
    → replies_of trace ≡ after_these replies (by_end end sent (at_end (before + 1 + 1) (ended_lines after) (unended after)) (replies_from (before + 1 + 1) (ended_lines after) (unended after)))
with_kind trace replies rest line after before kind sent end r n some is =
    by_kind trace replies rest line after before r n
    ∙ ap (λ k. after_these replies (from_told (before + 1) k (at_end (before + 1 + 1) (ended_lines after) (unended after)) (replies_from (before + 1 + 1) (ended_lines after) (unended after)))) some
    ∙ ap (λ e. after_these replies (by_end e sent (at_end (before + 1 + 1) (ended_lines after) (unended after)) (replies_from (before + 1 + 1) (ended_lines after) (unended after)))) is

-- after one more line
pub IsReplied-more : (trace replies more rest line after : List ℕ) (before : ℕ) (kind : Kind) (sent : Option ℕ) → IsReplied trace replies rest before → IsNext rest line after
    → told_by line ≡ Some (kind, sent) → ends kind ≡ false → more ≡ replies ++ option_to_list sent → IsReplied trace more after (before + 1)
IsReplied-more trace replies more rest line after before kind sent r n some goes is = record {
  total = with_kind trace replies rest line after before kind sent false r n some goes ∙ by (replies_from (before + 1 + 1) (ended_lines after) (unended after)) ∙ ap (λ bs. after_these bs (replies_from (before + 1 + 1) (ended_lines after) (unended after))) (sym is);
  counted = let old = r.counted in omega (arith, ap length n.cut, length-append line (10 ∷ after));
}
  where
    by : (rs : Result (List ℕ) TraceFault) → after_these replies (after_these (option_to_list sent) rs) ≡ after_these (replies ++ option_to_list sent) rs
    by (Ok bytes) = ap Ok (sym (append_assoc replies (option_to_list sent) bytes))
    by (Err fault) = refl

-- what may follow the end line
nothing_follows : (n : ℕ) (after : List ℕ) → length after ≡ 0 → at_end n (ended_lines after) (unended after) ≡ Ok []
unfolding ended_lines unended
nothing_follows n [] none = refl
nothing_follows n (b ∷ after) none = absurd (omega arith)

something_follows : (n : ℕ) (after : List ℕ) → 0 < length after → at_end n (ended_lines after) (unended after) ≡ Err (Line n)
something_follows n after some = by (ended_lines after) (unended after) (texts_are_lines after)
  where
    by : (lines : List (List ℕ)) (tail : List ℕ) → after ≡ lines_text lines tail → at_end n lines tail ≡ Err (Line n)
    by [] [] is = absurd (omega (arith, ap length is))
    by [] (b ∷ tail) is = refl
    by (line ∷ lines) tail is = refl

-- an end line that nothing follows
pub IsReplied-ends : (trace replies rest line after : List ℕ) (before : ℕ) (kind : Kind) (sent : Option ℕ) → IsReplied trace replies rest before → IsNext rest line after
    → told_by line ≡ Some (kind, sent) → ends kind ≡ true → length after ≡ 0 → replies_of trace ≡ Ok replies
IsReplied-ends trace replies rest line after before kind sent r n some goes is =
    with_kind trace replies rest line after before kind sent true r n some goes
    ∙ ap (after_these replies) (nothing_follows (before + 1 + 1) after is)
    ∙ ap Ok (append-nil replies)

-- an end line that something follows
pub IsReplied-follows : (trace replies rest line after : List ℕ) (before : ℕ) (kind : Kind) (sent : Option ℕ) → IsReplied trace replies rest before → IsNext rest line after
    → told_by line ≡ Some (kind, sent) → ends kind ≡ true → 0 < length after → replies_of trace ≡ Err (Line (before + 2))
IsReplied-follows trace replies rest line after before kind sent r n some goes more =
    let next : before + 1 + 1 ≡ before + 2 = omega arith in
    with_kind trace replies rest line after before kind sent true r n some goes
    ∙ ap (after_these replies) (something_follows (before + 1 + 1) after more)
    ∙ ap (λ k. Err (Line k)) next

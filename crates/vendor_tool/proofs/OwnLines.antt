-- The lines of a trace are read as what they tell.
use Rattle.std.proofs.Common.{ℕ, zero, suc, ◌≡◌, ◌+◌, ◌-◌, ◌^◌, ◌<◌, Bool, true, false, ◌&&◌, List, [], ◌∷◌, ◌++◌, length, drop, replicate, Option, Some, None, option_and_then, Ok, codes, refl, ap, sym, subst, ◌∙◌, append_assoc, length-append, arith}
use Rattle.std.specs.Prelude.{find, is_some}
use Rattle.std.specs.List.{All}
use Rattle.std.specs.Option.{option_to_list}
use Rattle.std.specs.Fmt.{decimal}
use Rattle.std.proofs.lemmas.List.{append-nil}
use Rattle.std.proofs.lemmas.List.Elements.{All-append, All-cons, All-tail}
use Rattle.std.proofs.lemmas.List.Splits.{slice_split_none, slice_split_at}
use Rattle.texts.specs.Decimals.{is_decimal}
use Rattle.texts.specs.Hexadecimals.{hex_byte, hex_word, read_hex_byte, read_hex_word}
use Rattle.texts.specs.Laws.{HasNoFeed}
use Rattle.texts.specs.Lines.{is_line_feed, ended_lines, unended}
use Rattle.texts.proofs.DecimalLemmas.{is_decimal-decimal}
use Rattle.texts.proofs.LawLemmas.{bytes_are_read, words_are_read}
use Rattle.texts.proofs.LineLemmas.{ended_lines-before, unended-before}
use Rattle.pc_access.specs.declared.Rule.{Rule}
use Rattle.pc_access.specs.declared.Rule.TheVariants.{FetchNotEntry}
use Rattle.sm_words.specs.Words.{reg}
use Rattle.tracer.specs.declared.EndState.{EndState}
use Rattle.tracer.specs.declared.EndState.TheVariants.{Stopped as EndsStopped, Inside as EndsInside, Outside as EndsOutside}
use Rattle.tracer.specs.declared.Event.{Event}
use Rattle.tracer.specs.declared.Event.TheVariants.{Resume as EResume, Close as EClose, Handler as EHandler, Leave as ELeave, Hide as EHide, Irq as EIrq, Enter as EEnter, Reti as EReti, Protect as EProtect, Out as EOut, Stop as EStop}
use Rattle.tracer.specs.Laws.{IsEvent}
use Rattle.tracer.specs.Lines.{rule_name, event_text, event_line, registers_from, end_text, end_line_at}
use Rattle.vendor_tool.specs.declared.trace_line.Kind.{Kind}
use Rattle.vendor_tool.specs.declared.trace_line.Kind.TheVariants.{Resume, Close, Handler, Leave, Hide, Irq, Enter, Reti, Protect, Out, Stop, Stopped, Inside, Outside}
use Rattle.vendor_tool.specs.declared.trace_line.Word.TheVariants.{Address, RuleName}
use Rattle.texts.specs.Words.{is_space, words}
use Rattle.vendor_tool.specs.Laws.{TimedEvent, IsTold, IsEndState, events_text, sent_in, sent, TracesAreRead}
use Rattle.texts.specs.Rows.{after_these}
use Rattle.vendor_tool.specs.Replies.{last_byte, tells_byte, with_byte, told_by, ends, at_end, by_end, from_told, replies_from, replies_of}
use Rattle.vendor_tool.proofs.Plain.{IsPlain, decimal_plain, byte_plain, word_plain, each, no_space, no_feed}
use Rattle.vendor_tool.specs.TraceLines.{fits_word, all_fit, kind_form, line_kinds, kind_of}

-- ---- words that single spaces part

rule_plain : (rule : Rule) → IsPlain (rule_name rule)
rule_plain FetchNotEntry = refl
rule_plain _ = refl

abbrev joined : List ℕ → List (List ℕ) → List ℕ
joined word [] = word
joined word (next ∷ more) = word ++ 32 ∷ joined next more

abbrev ArePlain : List (List ℕ) → Type 0
ArePlain [] = Unit {0}
ArePlain (w ∷ ws) = IsPlain w × ArePlain ws

words-joined : (word : List ℕ) (more : List (List ℕ)) → IsPlain word → ArePlain more → words (joined word more) ≡ word ∷ more
unfolding words
words-joined word [] plain are = slice_split_none is_space word (each is_space word no_space plain)
words-joined word (next ∷ more) plain are =
    slice_split_at is_space word 32 (joined next more) (each is_space word no_space plain) refl ∙ ap (λ ws. word ∷ ws) (words-joined next more are.0 are.1)

no_feed-joined : (word : List ℕ) (more : List (List ℕ)) → IsPlain word → ArePlain more → HasNoFeed (joined word more)
no_feed-joined word [] plain are = each is_line_feed word no_feed plain
no_feed-joined word (next ∷ more) plain are =
    All-append (λ b. is_line_feed b ≡ false) word (32 ∷ joined next more) (each is_line_feed word no_feed plain)
    (All-cons (λ b. is_line_feed b ≡ false) 32 (joined next more) refl (no_feed-joined next more are.0 are.1))

-- ---- kinds

abbrev kind_by : List (List ℕ) → Option Kind
kind_by ws = find (λ kind. all_fit (kind_form kind) ws) line_kinds

kind_is : (line : List ℕ) (ws : List (List ℕ)) (kind : Kind) → words line ≡ ws → kind_by ws ≡ Some kind → kind_of line ≡ Some kind
unfolding kind_of
kind_is line ws kind are is = ap kind_by are ∙ is

address : (word : ℕ) → word < 65536 → is_some (read_hex_word (hex_word word)) ≡ true
address word small = ap is_some ((words_are_read (hex_word word) word).1 (small, refl))

byte_word : (byte : ℕ) → byte < 256 → is_some (read_hex_byte (hex_byte byte)) ≡ true
byte_word byte small = ap is_some ((bytes_are_read (hex_byte byte) byte).1 (small, refl))

a_rule : (rule : Rule) → fits_word RuleName (rule_name rule) ≡ true
a_rule FetchNotEntry = refl
a_rule _ = refl

module _ (c : List ℕ) (cycle : is_decimal c ≡ true) where
  one_number : (m : List ℕ) → is_decimal m ≡ true → (kind_by (c ∷ codes "resume" ∷ m ∷ []) ≡ Some Resume) × (kind_by (c ∷ codes "close" ∷ m ∷ []) ≡ Some Close)
      × (kind_by (c ∷ codes "irq" ∷ m ∷ []) ≡ Some Irq) × (kind_by (c ∷ codes "protect" ∷ m ∷ []) ≡ Some Protect)
  one_number m id = (rw (cycle, id) refl, rw (cycle, id) refl, rw (cycle, id) refl, rw (cycle, id) refl)

  handler : (h : List ℕ) → is_some (read_hex_word h) ≡ true → kind_by (c ∷ codes "handler" ∷ codes "pc" ∷ h ∷ []) ≡ Some Handler
  handler h word = rw (cycle, word) refl

  leave : (m h : List ℕ) → is_decimal m ≡ true → is_some (read_hex_word h) ≡ true → kind_by (c ∷ codes "leave" ∷ m ∷ codes "pc" ∷ h ∷ []) ≡ Some Leave
  leave m h id word = rw (cycle, id, word) refl

  hide : (m v : List ℕ) → is_decimal m ≡ true → is_decimal v ≡ true → kind_by (c ∷ codes "hide" ∷ m ∷ codes "vector" ∷ v ∷ []) ≡ Some Hide
  hide m v id vector = rw (cycle, id, vector) refl

  enter : (m v : List ℕ) → is_decimal m ≡ true → is_decimal v ≡ true → kind_by (c ∷ codes "enter" ∷ m ∷ codes "from" ∷ v ∷ []) ≡ Some Enter
  enter m v id from = rw (cycle, id, from) refl

  reti : kind_by (c ∷ codes "reti" ∷ []) ≡ Some Reti
  reti = rw cycle refl

  out : (b : List ℕ) → is_some (read_hex_byte b) ≡ true → kind_by (c ∷ codes "out" ∷ b ∷ []) ≡ Some Out
  out b byte = rw (cycle, byte) refl

  stop : (r p a m : List ℕ) → fits_word RuleName r ≡ true → is_some (read_hex_word p) ≡ true → is_some (read_hex_word a) ≡ true → is_decimal m ≡ true
      → kind_by (c ∷ codes "stop" ∷ r ∷ codes "pc" ∷ p ∷ codes "addr" ∷ a ∷ codes "module" ∷ m ∷ []) ≡ Some Stop
  stop r p a m rule pc addr id = rw (cycle, rule, pc, addr, id) refl

  stopped : kind_by (codes "end" ∷ c ∷ codes "stopped" ∷ []) ≡ Some Stopped
  stopped = rw cycle refl

  inside : (m : List ℕ) → is_decimal m ≡ true → kind_by (codes "end" ∷ c ∷ codes "inside" ∷ m ∷ []) ≡ Some Inside
  inside m id = rw (cycle, id) refl

  outside : (rs : List (List ℕ)) → all_fit (replicate 16 Address) rs ≡ true → kind_by (codes "end" ∷ c ∷ codes "outside" ∷ rs) ≡ Some Outside
  outside rs are = rw (cycle, are) refl

-- ---- lines

-- what a line is read as
record Reads (line : List ℕ) (end : Bool) (bytes : List ℕ) : Type 0 where
  kind : Kind
  byte : Option ℕ
  is : told_by line ≡ Some (kind, byte)
  ends_so : ends kind ≡ end
  sent_so : option_to_list byte ≡ bytes
  clean : HasNoFeed line

-- a line of these words
record IsJoined (line : List ℕ) (kind : Kind) : Type 0 where
  first : List ℕ
  more : List (List ℕ)
  joins : line ≡ joined first more
  first_plain : IsPlain first
  more_plain : ArePlain more
  is : kind_by (first ∷ more) ≡ Some kind

-- what a line of this kind tells
abbrev tells : Kind → List ℕ → Option (Kind × Option ℕ)
tells kind line = with_byte kind (tells_byte kind) (last_byte line)

told_is : (line : List ℕ) (kind : Kind) (byte : Option ℕ) → kind_of line ≡ Some kind → tells kind line ≡ Some (kind, byte) → told_by line ≡ Some (kind, byte)
unfolding told_by
told_is line kind byte is telling = ap (option_and_then (λ (k : Kind). tells k line)) is ∙ telling

reads : (line : List ℕ) (kind : Kind) (end : Bool) (byte : Option ℕ) → IsJoined line kind → ends kind ≡ end → tells kind line ≡ Some (kind, byte) → Reads line end (option_to_list byte)
reads line kind end byte j e telling = record {
  kind = kind;
  byte = byte;
  is = told_is line kind byte (kind_is line (j.first ∷ j.more) kind (ap words j.joins ∙ words-joined j.first j.more j.first_plain j.more_plain) j.is) telling;
  ends_so = e;
  sent_so = refl;
  clean = subst HasNoFeed (sym j.joins) (no_feed-joined j.first j.more j.first_plain j.more_plain);
}

-- the line of an event, without its LF
abbrev event_words : ℕ → Event → List ℕ
event_words c e = decimal c ++ codes " " ++ event_text e

drop_front : (xs ys : List ℕ) → length ys ≡ 2 → drop (length (xs ++ ys) - 2) (xs ++ ys) ≡ ys
drop_front xs ys two =
    let count : length (xs ++ ys) - 2 ≡ length xs = omega (arith, length-append xs ys) in
    ap (λ n. drop n (xs ++ ys)) count ∙ by xs
  where
    by : (xs : List ℕ) → drop (length xs) (xs ++ ys) ≡ ys
    by [] = refl
    by (x ∷ xs) = by xs

out_byte : (c byte : ℕ) → byte < 256 → tells Out (event_words c (EOut byte)) ≡ Some (Out, Some byte)
out_byte c byte small =
    ap (with_byte Out true)
    (ap last_byte (sym (append_assoc (decimal c ++ codes " ") (codes "out ") (hex_byte byte)))
    ∙ ap read_hex_byte (drop_front ((decimal c ++ codes " ") ++ codes "out ") (hex_byte byte) refl)
    ∙ (bytes_are_read (hex_byte byte) byte).1 (small, refl))

stop_joined : (c r p a m : List ℕ) → c ++ codes " " ++ (codes "stop " ++ r ++ codes " pc " ++ p ++ codes " addr " ++ a ++ codes " module " ++ m)
    ≡ joined c (codes "stop" ∷ r ∷ codes "pc" ∷ p ∷ codes "addr" ∷ a ∷ codes "module" ∷ m ∷ [])
stop_joined c r p a m = simp append_assoc

-- an event's line, by the words after its cycle
told : (c : ℕ) (e : Event) (kind : Kind) (byte : Option ℕ) (more : List (List ℕ)) → c < 2 ^ 64
    → event_words c e ≡ joined (decimal c) more → ArePlain more → kind_by (decimal c ∷ more) ≡ Some kind → ends kind ≡ false → tells kind (event_words c e) ≡ Some (kind, byte)
    → Reads (event_words c e) false (option_to_list byte)
told c e kind byte more low joins plain is goes_on telling =
    reads _ kind false byte (record { first = decimal c; more = more; joins = joins; first_plain = decimal_plain c low; more_plain = plain; is = is }) goes_on telling

event_reads : (c : ℕ) (e : Event) → c < 2 ^ 64 → IsEvent e → Reads (event_words c e) false (sent_in e)
event_reads c (EResume id) low h =
    told c (EResume id) Resume None (codes "resume" ∷ decimal id ∷ []) low (simp append_assoc) (refl, (decimal_plain id (omega arith), tt))
    (one_number (decimal c) (is_decimal-decimal c low) (decimal id) (is_decimal-decimal id (omega arith))).0 refl refl
event_reads c (EClose id) low h =
    told c (EClose id) Close None (codes "close" ∷ decimal id ∷ []) low (simp append_assoc) (refl, (decimal_plain id (omega arith), tt))
    (one_number (decimal c) (is_decimal-decimal c low) (decimal id) (is_decimal-decimal id (omega arith))).1 refl refl
event_reads c (EHandler pc) low h =
    told c (EHandler pc) Handler None (codes "handler" ∷ codes "pc" ∷ hex_word pc ∷ []) low (simp append_assoc) (refl, (refl, (word_plain pc h, tt)))
    (handler (decimal c) (is_decimal-decimal c low) (hex_word pc) (address pc h)) refl refl
event_reads c (ELeave id pc) low h =
    let small = h.0 in
    told c (ELeave id pc) Leave None (codes "leave" ∷ decimal id ∷ codes "pc" ∷ hex_word pc ∷ []) low (simp append_assoc) (refl, (decimal_plain id (omega arith), (refl, (word_plain pc h.1, tt))))
    (leave (decimal c) (is_decimal-decimal c low) (decimal id) (hex_word pc) (is_decimal-decimal id (omega arith)) (address pc h.1)) refl refl
event_reads c (EHide id vector) low h =
    let small = h.0 in
    let few = h.1 in
    told c (EHide id vector) Hide None (codes "hide" ∷ decimal id ∷ codes "vector" ∷ decimal vector ∷ []) low (simp append_assoc) (refl, (decimal_plain id (omega arith), (refl, (decimal_plain vector (omega arith), tt))))
    (hide (decimal c) (is_decimal-decimal c low) (decimal id) (decimal vector) (is_decimal-decimal id (omega arith)) (is_decimal-decimal vector (omega arith))) refl refl
event_reads c (EIrq vector) low h =
    told c (EIrq vector) Irq None (codes "irq" ∷ decimal vector ∷ []) low (simp append_assoc) (refl, (decimal_plain vector (omega arith), tt))
    (one_number (decimal c) (is_decimal-decimal c low) (decimal vector) (is_decimal-decimal vector (omega arith))).2 refl refl
event_reads c (EEnter id from) low h =
    let small = h.0 in
    let few = h.1 in
    told c (EEnter id from) Enter None (codes "enter" ∷ decimal id ∷ codes "from" ∷ decimal from ∷ []) low (simp append_assoc) (refl, (decimal_plain id (omega arith), (refl, (decimal_plain from (omega arith), tt))))
    (enter (decimal c) (is_decimal-decimal c low) (decimal id) (decimal from) (is_decimal-decimal id (omega arith)) (is_decimal-decimal from (omega arith))) refl refl
event_reads c EReti low h =
    told c EReti Reti None (codes "reti" ∷ []) low (simp append_assoc) (refl, tt)
    (reti (decimal c) (is_decimal-decimal c low)) refl refl
event_reads c (EProtect id) low h =
    told c (EProtect id) Protect None (codes "protect" ∷ decimal id ∷ []) low (simp append_assoc) (refl, (decimal_plain id (omega arith), tt))
    (one_number (decimal c) (is_decimal-decimal c low) (decimal id) (is_decimal-decimal id (omega arith))).3 refl refl
event_reads c (EOut byte) low h =
    told c (EOut byte) Out (Some byte) (codes "out" ∷ hex_byte byte ∷ []) low (simp append_assoc) (refl, (byte_plain byte h, tt))
    (out (decimal c) (is_decimal-decimal c low) (hex_byte byte) (byte_word byte h)) refl (out_byte c byte h)
event_reads c (EStop s) low h =
    let pc = h.pc in
    let addr = h.addr in
    let id = h.«module» in
    told c (EStop s) Stop None (codes "stop" ∷ rule_name s.rule ∷ codes "pc" ∷ hex_word s.pc ∷ codes "addr" ∷ hex_word s.addr ∷ codes "module" ∷ decimal s.«module» ∷ []) low (stop_joined (decimal c) (rule_name s.rule) (hex_word s.pc) (hex_word s.addr) (decimal s.«module»)) (refl, (rule_plain s.rule, (refl, (word_plain s.pc pc, (refl, (word_plain s.addr addr, (refl, (decimal_plain s.«module» (omega arith), tt))))))))
    (stop (decimal c) (is_decimal-decimal c low) (rule_name s.rule) (hex_word s.pc) (hex_word s.addr) (decimal s.«module») (a_rule s.rule) (address s.pc pc) (address s.addr addr) (is_decimal-decimal s.«module» (omega arith))) refl refl

-- ---- the end line

abbrev register_words : List ℕ → ℕ → ℕ → List (List ℕ)
register_words core k zero = []
register_words core k (suc n) = hex_word (reg core k) ∷ register_words core (k + 1) n

registers_joined : (core : List ℕ) (k n : ℕ) (word : List ℕ) → word ++ registers_from core k n ≡ joined word (register_words core k n)
registers_joined core k zero word = append-nil word
registers_joined core k (suc n) word =
    ap (λ t. word ++ t) (append_assoc (codes " ") (hex_word (reg core k)) (registers_from core (k + 1) n)) ∙ ap (λ t. word ++ 32 ∷ t) (registers_joined core (k + 1) n (hex_word (reg core k)))

registers_plain : (core : List ℕ) (k n : ℕ) → ((k : ℕ) → reg core k < 65536) → ArePlain (register_words core k n)
registers_plain core k zero h = tt
registers_plain core k (suc n) h = (word_plain (reg core k) (h k), registers_plain core (k + 1) n h)

registers_fit : (core : List ℕ) (k n : ℕ) → ((k : ℕ) → reg core k < 65536) → all_fit (replicate n Address) (register_words core k n) ≡ true
registers_fit core k zero h = refl
registers_fit core k (suc n) h = ap (λ b. b && all_fit (replicate n Address) (register_words core (k + 1) n)) (address (reg core k) (h k)) ∙ registers_fit core (k + 1) n h

-- the end line, without its LF
abbrev end_words : ℕ → EndState → List ℕ
end_words c e = codes "end " ++ decimal c ++ codes " " ++ end_text e

end_reads : (c : ℕ) (e : EndState) → c < 2 ^ 64 → IsEndState e → Reads (end_words c e) true []
end_reads c EndsStopped low h =
    reads _ Stopped true None (record {
      first = codes "end";
      more = decimal c ∷ codes "stopped" ∷ [];
      joins = simp append_assoc;
      first_plain = refl;
      more_plain = (decimal_plain c low, (refl, tt));
      is = stopped (decimal c) (is_decimal-decimal c low);
    }) refl refl
end_reads c (EndsInside id) low h =
    reads _ Inside true None (record {
      first = codes "end";
      more = decimal c ∷ codes "inside" ∷ decimal id ∷ [];
      joins = simp append_assoc;
      first_plain = refl;
      more_plain = (decimal_plain c low, (refl, (decimal_plain id (omega arith), tt)));
      is = inside (decimal c) (is_decimal-decimal c low) (decimal id) (is_decimal-decimal id (omega arith));
    }) refl refl
end_reads c (EndsOutside core) low h =
    reads _ Outside true None (record {
      first = codes "end";
      more = decimal c ∷ codes "outside" ∷ register_words core 0 16;
      joins = outside_joined c (registers_from core 0 16) (register_words core 0 16) (registers_joined core 0 16 (codes "outside"));
      first_plain = refl;
      more_plain = (decimal_plain c low, (refl, registers_plain core 0 16 h));
      is = outside (decimal c) (is_decimal-decimal c low) (register_words core 0 16) (registers_fit core 0 16 h);
    }) refl refl
  where
    outside_joined : (c : ℕ) (rest : List ℕ) (rs : List (List ℕ)) → codes "outside" ++ rest ≡ joined (codes "outside") rs
        → codes "end " ++ decimal c ++ codes " " ++ (codes "outside" ++ rest) ≡ joined (codes "end") (decimal c ∷ codes "outside" ∷ rs)
    outside_joined c rest rs e = ap (λ t. codes "end " ++ t) (append_assoc (decimal c) (codes " ") (codes "outside" ++ rest)) ∙ ap (λ t. codes "end " ++ (decimal c ++ 32 ∷ t)) e

-- ---- a trace

-- a line before more text
line_read : (n : ℕ) (line rest bytes more : List ℕ) → Reads line false bytes → replies_from (n + 1) (ended_lines rest) (unended rest) ≡ Ok more
    → replies_from n (ended_lines (line ++ 10 ∷ rest)) (unended (line ++ 10 ∷ rest)) ≡ Ok (bytes ++ more)
line_read n line rest bytes more r next =
    ap (λ ls. replies_from n ls (unended (line ++ 10 ∷ rest))) (ended_lines-before line rest r.clean)
    ∙ ap (λ t. replies_from n (line ∷ ended_lines rest) t) (unended-before line rest r.clean)
    ∙ ap (λ k. from_told n k (at_end (n + 1) (ended_lines rest) (unended rest)) (replies_from (n + 1) (ended_lines rest) (unended rest))) r.is
    ∙ ap (λ e. by_end e r.byte (at_end (n + 1) (ended_lines rest) (unended rest)) (replies_from (n + 1) (ended_lines rest) (unended rest))) r.ends_so
    ∙ ap (λ bs. after_these bs (replies_from (n + 1) (ended_lines rest) (unended rest))) r.sent_so
    ∙ ap (after_these bytes) next

nothing_after : (n : ℕ) → at_end n (ended_lines []) (unended []) ≡ Ok []
unfolding ended_lines unended
nothing_after n = refl

last_read : (n : ℕ) (line : List ℕ) → Reads line true [] → replies_from n (ended_lines (line ++ 10 ∷ [])) (unended (line ++ 10 ∷ [])) ≡ Ok []
last_read n line r =
    ap (λ ls. replies_from n ls (unended (line ++ 10 ∷ []))) (ended_lines-before line [] r.clean)
    ∙ ap (λ t. replies_from n (line ∷ ended_lines []) t) (unended-before line [] r.clean)
    ∙ ap (λ k. from_told n k (at_end (n + 1) (ended_lines []) (unended [])) (replies_from (n + 1) (ended_lines []) (unended []))) r.is
    ∙ ap (λ e. by_end e r.byte (at_end (n + 1) (ended_lines []) (unended [])) (replies_from (n + 1) (ended_lines []) (unended []))) r.ends_so
    ∙ nothing_after (n + 1)

event_line_is : (e : TimedEvent) (rest : List ℕ) → event_line e.cycle e.event ++ rest ≡ event_words e.cycle e.event ++ 10 ∷ rest
unfolding event_line
event_line_is e rest = append_assoc (event_words e.cycle e.event) (codes "\n") rest

end_line_is : (c : ℕ) (e : EndState) → end_line_at c e ≡ end_words c e ++ 10 ∷ []
unfolding end_line_at
end_line_is c e = refl

events_read : (n : ℕ) (es : List TimedEvent) (c : ℕ) (end : EndState) → All IsTold es → c < 2 ^ 64 → IsEndState end
    → replies_from n (ended_lines (events_text es ++ end_line_at c end)) (unended (events_text es ++ end_line_at c end)) ≡ Ok (sent es)
events_read n [] c end told low h =
    ap (λ t. replies_from n (ended_lines t) (unended t)) (end_line_is c end) ∙ last_read n (end_words c end) (end_reads c end low h)
events_read n (e ∷ es) c end told low h =
    let t : IsTold e = told 0 e (omega arith) in
    ap (λ t. replies_from n (ended_lines t) (unended t)) (append_assoc (event_line e.cycle e.event) (events_text es) (end_line_at c end) ∙ event_line_is e (events_text es ++ end_line_at c end))
    ∙ line_read n (event_words e.cycle e.event) (events_text es ++ end_line_at c end) (sent_in e.event) (sent es) (event_reads e.cycle e.event t.0 t.1)
    (events_read (n + 1) es c end (All-tail IsTold e es told) low h)

pub traces_are_read : TracesAreRead
unfolding replies_of
traces_are_read es c end told low h = events_read 1 es c end told low h

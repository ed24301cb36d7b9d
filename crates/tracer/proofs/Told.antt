-- Lines are told apart: the cycle and the event are read off a line.
use Rattle.std.proofs.Common.{◌≡◌, ℕ, ◌^◌, ◌<◌, ◌==◌, Bool, cond, List, ◌∷◌, ◌++◌, take, drop, get_or, unwrap_or, codes, refl, sym, ap, ◌∙◌, append_assoc, arith}
use Rattle.std.specs.List.{before_first, after_first}
use Rattle.std.specs.Str.{bytes_eq}
use Rattle.std.specs.Fmt.{decimal}
use Rattle.std.proofs.lemmas.List.{append_cancel_right}
use Rattle.texts.specs.Decimals.{number_in}
use Rattle.texts.specs.Hexadecimals.{hex_byte, hex_word, read_hex_byte, read_hex_word}
use Rattle.texts.proofs.DecimalLemmas.{number_in-decimal}
use Rattle.texts.proofs.LawLemmas.{bytes_are_read, words_are_read}
use Rattle.texts.proofs.WordLemmas.{IsCutOff, cut_off, decimal_has_no}
use Rattle.pc_access.specs.declared.Rule.{Rule}
use Rattle.pc_access.specs.declared.Rule.TheVariants.{FetchNotEntry, FetchData, ReadData, WriteData, WriteText, Reenter, RetiInside, Straddle, Misaligned, Illegal, FetchDevice}
use Rattle.pc_access.specs.declared.Stop.{Stop as StopValue}
use Rattle.tracer.specs.declared.Event.{Event}
use Rattle.tracer.specs.declared.Event.TheVariants.{Resume, Close, Handler, Leave, Hide, Irq, Enter, Reti, Protect, Out, Stop}
use Rattle.tracer.specs.Lines.{rule_name, event_text, event_line}
use Rattle.tracer.specs.Laws.{IsStop, IsEvent, LinesAreTold}

-- ---- words of a text

abbrev is_space : ℕ → Bool
is_space b = b == 32

abbrev word_in : List ℕ → ℕ
word_in text = unwrap_or (read_hex_word text) 0

abbrev byte_in : List ℕ → ℕ
byte_in text = unwrap_or (read_hex_byte text) 0

word_is : (word : ℕ) → word < 65536 → word_in (hex_word word) ≡ word
word_is word small = ap (λ o. unwrap_or o 0) ((words_are_read (hex_word word) word).1 (small, refl))

byte_is : (byte : ℕ) → byte < 256 → byte_in (hex_byte byte) ≡ byte
byte_is byte small = ap (λ o. unwrap_or o 0) ((bytes_are_read (hex_byte byte) byte).1 (small, refl))

-- a number, and what stands behind its space
number_cut : (n : ℕ) (rest : List ℕ) → n < 2 ^ 64 → IsCutOff is_space (decimal n ++ 32 ∷ rest) (decimal n) rest
number_cut n rest small = cut_off is_space 32 rest refl (decimal n) (decimal_has_no 32 n (omega arith) small)

-- ---- an event's text

-- the rule of a name
abbrev rule_in : List ℕ → Rule
rule_in name =
    cond (bytes_eq name (codes "FetchNotEntry")) FetchNotEntry
    (cond (bytes_eq name (codes "FetchData")) FetchData
    (cond (bytes_eq name (codes "ReadData")) ReadData
    (cond (bytes_eq name (codes "WriteData")) WriteData
    (cond (bytes_eq name (codes "WriteText")) WriteText
    (cond (bytes_eq name (codes "Reenter")) Reenter
    (cond (bytes_eq name (codes "RetiInside")) RetiInside
    (cond (bytes_eq name (codes "Straddle")) Straddle
    (cond (bytes_eq name (codes "Misaligned")) Misaligned
    (cond (bytes_eq name (codes "Illegal")) Illegal FetchDevice)))))))))

-- what stands behind a rule's name
abbrev stop_in : Rule → List ℕ → StopValue
stop_in rule text = record { rule = rule; pc = word_in (take 4 (drop 3 text)); addr = word_in (take 4 (drop 13 text)); «module» = number_in (drop 25 text) }

-- the first and the third letter tell the events apart
abbrev by_letters : ℕ → ℕ → List ℕ → Event
by_letters first third text =
    cond (first == 99) (Close (number_in (drop 6 text)))
    (cond (first == 108) (Leave (number_in (before_first is_space (drop 6 text))) (word_in (drop 3 (after_first is_space (drop 6 text)))))
    (cond (first == 105) (Irq (number_in (drop 4 text)))
    (cond (first == 101) (Enter (number_in (before_first is_space (drop 6 text))) (number_in (drop 5 (after_first is_space (drop 6 text)))))
    (cond (first == 112) (Protect (number_in (drop 8 text)))
    (cond (first == 111) (Out (byte_in (drop 4 text)))
    (cond (first == 115) (Stop (stop_in (rule_in (before_first is_space (drop 5 text))) (after_first is_space (drop 5 text))))
    (cond (third == 115) (Resume (number_in (drop 7 text)))
    (cond (third == 116) Reti
    (cond (third == 110) (Handler (word_in (drop 11 text)))
    (Hide (number_in (before_first is_space (drop 5 text))) (number_in (drop 7 (after_first is_space (drop 5 text))))))))))))))

abbrev event_in : List ℕ → Event
event_in text = by_letters (get_or text 0 0) (get_or text 2 0) text

-- an event of a number and of what stands behind it
two_fields : (build : ℕ → List ℕ → Event) (id : ℕ) (between last : List ℕ) → id < 2 ^ 64
    → build (number_in (before_first is_space ((decimal id ++ 32 ∷ between) ++ last))) (after_first is_space ((decimal id ++ 32 ∷ between) ++ last)) ≡ build id (between ++ last)
two_fields build id between last small =
    let cut = number_cut id (between ++ last) small in
    ap (λ t. build (number_in (before_first is_space t)) (after_first is_space t)) (append_assoc (decimal id) (32 ∷ between) last)
    ∙ ap (λ w. build (number_in w) (after_first is_space (decimal id ++ 32 ∷ (between ++ last)))) cut.before
    ∙ ap (λ r. build (number_in (decimal id)) r) cut.after
    ∙ ap (λ n. build n (between ++ last)) (number_in-decimal id small)

-- a rule, and what stands behind its name and a space
record IsRuleText (rule : Rule) (rest : List ℕ) : Type 0 where
  pub is : rule_in (before_first is_space (rule_name rule ++ 32 ∷ rest)) ≡ rule
  pub after : after_first is_space (rule_name rule ++ 32 ∷ rest) ≡ rest

rule_text : (rule : Rule) (rest : List ℕ) → IsRuleText rule rest
rule_text FetchNotEntry rest = record { is = refl; after = refl }
rule_text _ rest = record { is = refl; after = refl }

regroup : (a b c d e f g : List ℕ) → (((((a ++ b) ++ c) ++ d) ++ e) ++ f) ++ g ≡ a ++ (b ++ (c ++ (d ++ (e ++ (f ++ g)))))
regroup a b c d e f g = simp append_assoc

stop_is : (stop : StopValue) → IsStop stop → event_in (event_text (Stop stop)) ≡ Stop stop
stop_is stop h =
    let rest : List ℕ = codes "pc " ++ (hex_word stop.pc ++ (codes " addr " ++ (hex_word stop.addr ++ (codes " module " ++ decimal stop.«module»)))) in
    let r = rule_text stop.rule rest in
    let id = h.«module» in
    ap (λ t. Stop (stop_in (rule_in (before_first is_space t)) (after_first is_space t))) (regroup (rule_name stop.rule) (codes " pc ") (hex_word stop.pc) (codes " addr ") (hex_word stop.addr) (codes " module ") (decimal stop.«module»))
    ∙ ap (λ x. Stop (stop_in x (after_first is_space (rule_name stop.rule ++ 32 ∷ rest)))) r.is
    ∙ ap (λ t. Stop (stop_in stop.rule t)) r.after
    ∙ ap (λ n. Stop record { rule = stop.rule; pc = n; addr = word_in (hex_word stop.addr); «module» = number_in (decimal stop.«module») }) (word_is stop.pc h.pc)
    ∙ ap (λ n. Stop record { rule = stop.rule; pc = stop.pc; addr = n; «module» = number_in (decimal stop.«module») }) (word_is stop.addr h.addr)
    ∙ ap (λ n. Stop record { rule = stop.rule; pc = stop.pc; addr = stop.addr; «module» = n }) (number_in-decimal stop.«module» (omega arith))

event_is : (e : Event) → IsEvent e → event_in (event_text e) ≡ e
event_is (Resume id) h = ap Resume (number_in-decimal id (omega arith))
event_is (Close id) h = ap Close (number_in-decimal id (omega arith))
event_is (Handler pc) h = ap Handler (word_is pc h)
event_is (Leave id pc) h = let small = h.0 in two_fields (λ n rest. Leave n (word_in (drop 3 rest))) id (codes "pc ") (hex_word pc) (omega arith) ∙ ap (Leave id) (word_is pc h.1)
event_is (Hide id vector) h = let small = h.0 in let byte = h.1 in two_fields (λ n rest. Hide n (number_in (drop 7 rest))) id (codes "vector ") (decimal vector) (omega arith) ∙ ap (Hide id) (number_in-decimal vector (omega arith))
event_is (Irq vector) h = ap Irq (number_in-decimal vector (omega arith))
event_is (Enter id from) h = let small = h.0 in let word = h.1 in two_fields (λ n rest. Enter n (number_in (drop 5 rest))) id (codes "from ") (decimal from) (omega arith) ∙ ap (Enter id) (number_in-decimal from (omega arith))
event_is Reti h = refl
event_is (Protect id) h = ap Protect (number_in-decimal id (omega arith))
event_is (Out byte) h = ap Out (byte_is byte h)
event_is (Stop stop) h = stop_is stop h

-- ---- a line

line_cut : (c : ℕ) (e : Event) → c < 2 ^ 64 → IsCutOff is_space (event_line c e) (decimal c) (event_text e ++ codes "\n")
unfolding event_line
line_cut c e small =
    let regrouped : ((decimal c ++ codes " ") ++ event_text e) ++ codes "\n" ≡ decimal c ++ 32 ∷ (event_text e ++ codes "\n") = simp append_assoc in
    let cut = number_cut c (event_text e ++ codes "\n") small in
    record { before = ap (before_first is_space) regrouped ∙ cut.before; after = ap (after_first is_space) regrouped ∙ cut.after }

pub told : LinesAreTold
told c d e f hc hd he hf same =
    let p = line_cut c e hc in
    let q = line_cut d f hd in
    let cycles : c ≡ d = sym (number_in-decimal c hc) ∙ ap number_in (sym p.before ∙ ap (before_first is_space) same ∙ q.before) ∙ number_in-decimal d hd in
    let texts : event_text e ≡ event_text f = append_cancel_right (event_text e) (event_text f) (codes "\n") (sym p.after ∙ ap (after_first is_space) same ∙ q.after) in
    (cycles, sym (event_is e he) ∙ ap event_in texts ∙ event_is f hf)

-- How replies are judged, and the lines that say so.
use Rattle.std.specs.Prelude.{ℕ, ◌+◌, ◌*◌, nat_lt, Bool, true, false, ◌&&◌, if◌then◌else◌, List, [], ◌∷◌, ◌++◌, length, take, drop, codes}
use Rattle.std.specs.Fmt.{decimal}
use Rattle.std.specs.Str.{bytes_eq}
use Rattle.mod_keys.specs.Mac.{short_hmac}
use Rattle.mod_keys.specs.declared.mac.TheConstants.{TAG_LENGTH}
use Rattle.vendor_tool.specs.declared.Challenge.{Challenge}
use Rattle.vendor_tool.specs.declared.Judgement.{Judgement}
use Rattle.vendor_tool.specs.declared.Judgement.TheVariants.{Genuine, Wrong, Missing}

-- challenge i, counted from 0: its place is the sixteen bytes behind the places of the challenges before it
abbrev pub judgement : List ℕ → List ℕ → List ℕ → ℕ → Judgement
judgement key nonce replies i =
    if nat_lt (length replies) (TAG_LENGTH * i + TAG_LENGTH) then Missing
    else (if bytes_eq (take TAG_LENGTH (drop (TAG_LENGTH * i) replies)) (short_hmac key nonce) then Genuine else Wrong)

abbrev pub judgement_name : Judgement → List ℕ
judgement_name Genuine = codes "genuine"
judgement_name Wrong = codes "wrong"
judgement_name Missing = codes "missing"

-- the line of challenge i
abbrev pub judgement_line : ℕ → Judgement → List ℕ
judgement_line i judgement = decimal i ++ (codes " " ++ (judgement_name judgement ++ codes "\n"))

-- the lines of the challenges from challenge i on
abbrev pub report_from : List ℕ → List ℕ → ℕ → List Challenge → List ℕ
report_from key replies i [] = []
report_from key replies i (c ∷ cs) = judgement_line i (judgement key c.nonce replies i) ++ report_from key replies (i + 1) cs

abbrev pub is_genuine : Judgement → Bool
is_genuine Genuine = true
is_genuine Wrong = false
is_genuine Missing = false

-- whether the challenges from challenge i on are all genuine
abbrev pub all_genuine_from : List ℕ → List ℕ → ℕ → List Challenge → Bool
all_genuine_from key replies i [] = true
all_genuine_from key replies i (c ∷ cs) = is_genuine (judgement key c.nonce replies i) && all_genuine_from key replies (i + 1) cs

-- the report on challenges
abbrev pub report_text : List ℕ → List Challenge → List ℕ → List ℕ
report_text key cs replies = report_from key replies 0 cs

abbrev pub all_genuine : List ℕ → List Challenge → List ℕ → Bool
all_genuine key cs replies = all_genuine_from key replies 0 cs

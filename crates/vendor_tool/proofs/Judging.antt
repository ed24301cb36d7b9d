-- Judgements, one challenge after another.
use Rattle.std.proofs.Common.{ℕ, ◌≡◌, ◌+◌, ◌*◌, ◌<◌, Bool, true, false, ◌&&◌, cond, List, [], ◌++◌, length, take, drop, get_or, nat_lt, refl, ap, sym, ◌∙◌, append_assoc, arith}
use Rattle.std.specs.Str.{bytes_eq}
use Rattle.std.proofs.lemmas.Bool.Decides.{nat_tests}
use Rattle.std.proofs.lemmas.List.{at_drop_more}
use Rattle.std.proofs.lemmas.Slice.Eq.{bytes_eq-Decides}
use Rattle.mod_keys.specs.Keys.{module_key, tag_of}
use Rattle.mod_keys.specs.Mac.{short_hmac}
use Rattle.mod_keys.specs.declared.mac.TheConstants.{TAG_LENGTH}
use Rattle.vendor_tool.specs.declared.Challenge.{Challenge}
use Rattle.vendor_tool.specs.declared.Judgement.{Judgement}
use Rattle.vendor_tool.specs.declared.Judgement.TheVariants.{Genuine, Wrong, Missing}
use Rattle.vendor_tool.specs.Laws.{StandsInPlace, GenuineIsTagged, GenuineIsModules}
use Rattle.vendor_tool.specs.Report.{judgement, judgement_line, report_from, is_genuine, all_genuine_from}

-- ---- what a judgement says

pub genuine_is_tagged : GenuineIsTagged
genuine_is_tagged key nonce replies i = by (nat_lt (length replies) (TAG_LENGTH * i + TAG_LENGTH)) (bytes_eq (take TAG_LENGTH (drop (TAG_LENGTH * i) replies)) (short_hmac key nonce)) refl refl
  where
    same : (bytes_eq (take TAG_LENGTH (drop (TAG_LENGTH * i) replies)) (short_hmac key nonce) ≡ true → take TAG_LENGTH (drop (TAG_LENGTH * i) replies) ≡ short_hmac key nonce)
        × (take TAG_LENGTH (drop (TAG_LENGTH * i) replies) ≡ short_hmac key nonce → bytes_eq (take TAG_LENGTH (drop (TAG_LENGTH * i) replies)) (short_hmac key nonce) ≡ true)
    same = bytes_eq-Decides (take TAG_LENGTH (drop (TAG_LENGTH * i) replies)) (short_hmac key nonce)

    by : (short equal : Bool) → nat_lt (length replies) (TAG_LENGTH * i + TAG_LENGTH) ≡ short → bytes_eq (take TAG_LENGTH (drop (TAG_LENGTH * i) replies)) (short_hmac key nonce) ≡ equal
        → (cond short Missing (cond equal Genuine Wrong) ≡ Genuine → StandsInPlace replies i (short_hmac key nonce))
        × (StandsInPlace replies i (short_hmac key nonce) → cond short Missing (cond equal Genuine Wrong) ≡ Genuine)
    by true equal p q = (λ e. absurd cc, λ s. let reached = s.reached in absurd (grind (arith, nat_tests)))
    by false true p q = (λ e. record { reached = grind (arith, nat_tests); bytes_are = same.0 q }, λ s. refl)
    by false false p q = (λ e. absurd cc, λ s. let is = same.1 s.bytes_are in absurd cc)

pub genuine_is_modules : GenuineIsModules
unfolding tag_of
genuine_is_modules node_key text nonce replies m i = genuine_is_tagged (module_key node_key m text) nonce replies i

-- ---- challenge by challenge

module _ (key replies : List ℕ) where
  -- the judgement on the challenge at a place
  pub record IsJudged (j : Judgement) (cs : List Challenge) (place : ℕ) : Type 0 where
    pub within : place < length cs
    pub is : j ≡ judgement key (get_or cs place (record { cycle = 0; nonce = [] })).nonce replies place

  pub judged_at : (j : Judgement) (items cs : List Challenge) (place index : ℕ) → place ≡ index → items ≡ cs → index < length items
      → j ≡ judgement key (get_or items index (record { cycle = 0; nonce = [] })).nonce replies place → IsJudged j cs place
  judged_at j items cs place index at are within is = record {
    within = omega (arith, ap length are);
    is = is
        ∙ ap (λ k. judgement key (get_or items k (record { cycle = 0; nonce = [] })).nonce replies place) (sym at)
        ∙ ap (λ (xs : List Challenge). judgement key (get_or xs place (record { cycle = 0; nonce = [] })).nonce replies place) are;
  }

  -- its line, and the lines after it
  pub next_line : (done all : List ℕ) (j : Judgement) (cs : List Challenge) (i : ℕ) → IsJudged j cs i
      → done ++ report_from key replies i (drop i cs) ≡ all → done ++ (judgement_line i j ++ report_from key replies (i + 1) (drop (i + 1) cs)) ≡ all
  next_line done all j cs i judged before =
      ap (λ x. done ++ (judgement_line i x ++ report_from key replies (i + 1) (drop (i + 1) cs))) judged.is
      ∙ ap (λ t. done ++ t) (sym (at_drop_more (report_from key replies i) cs i (record { cycle = 0; nonce = [] }) judged.within)) ∙ before

  pub line_done : (done all : List ℕ) (j : Judgement) (cs : List Challenge) (i : ℕ) → IsJudged j cs i
      → done ++ report_from key replies i (drop i cs) ≡ all → (done ++ judgement_line i j) ++ report_from key replies (i + 1) (drop (i + 1) cs) ≡ all
  line_done done all j cs i judged before =
      append_assoc done (judgement_line i j) (report_from key replies (i + 1) (drop (i + 1) cs)) ∙ next_line done all j cs i judged before

  -- whether all are genuine, so far and from challenge i on
  pub genuine_more : (so_far now all : Bool) (j : Judgement) (cs : List Challenge) (i : ℕ) → IsJudged j cs i → now ≡ (so_far && is_genuine j)
      → (so_far && all_genuine_from key replies i (drop i cs)) ≡ all → (now && all_genuine_from key replies (i + 1) (drop (i + 1) cs)) ≡ all
  genuine_more so_far now all j cs i judged is before =
      ap (λ b. b && all_genuine_from key replies (i + 1) (drop (i + 1) cs)) is
      ∙ and_assoc so_far (is_genuine j) (all_genuine_from key replies (i + 1) (drop (i + 1) cs))
      ∙ ap (λ x. so_far && (is_genuine x && all_genuine_from key replies (i + 1) (drop (i + 1) cs))) judged.is
      ∙ ap (λ b. so_far && b) (sym (at_drop_more (all_genuine_from key replies i) cs i (record { cycle = 0; nonce = [] }) judged.within)) ∙ before
    where
      and_assoc : (a b c : Bool) → ((a && b) && c) ≡ (a && (b && c))
      and_assoc true b c = refl
      and_assoc false b c = refl

-- the two ways of `&&`
pub and_first : (now so_far last : Bool) → so_far ≡ true → now ≡ last → now ≡ (so_far && last)
and_first now so_far last first is = is ∙ ap (λ b. b && last) (sym first)

pub and_not : (now so_far last : Bool) → so_far ≡ false → now ≡ so_far → now ≡ (so_far && last)
and_not now so_far last first is = is ∙ first ∙ ap (λ b. b && last) (sym first)

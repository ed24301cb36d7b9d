-- Two pairs of peers.
use Rattle.std.proofs.Common.{◌≡◌, ◌≢◌, ◌<◌, ◌≤◌, inl, ℕ, ◌%◌, ◌/◌, ◌&&◌, nat_lt, List, [], ◌∷◌, length, set, replicate, slice_index, refl, sym, ap, ◌∙◌, subst, arith, Bool, true, false, lit≤}
use Rattle.std.proofs.lemmas.Bool.{le-ltb}
use Rattle.std.proofs.lemmas.Bool.Decides.{nat_tests}
use Rattle.insn_decode.specs.Code.{insn_of}
use Rattle.cycle_table.specs.Cycles.{cycles_of}
use Rattle.mod_layout.specs.Table.{holds}
use Rattle.mod_layout.specs.Tables.{IsModule}
use Rattle.image_text.specs.Image.{IsImage}
use Rattle.arm_balance.specs.declared.Arm.{Arm}
use Rattle.arm_balance.specs.Met.{met}
use Rattle.flow_rule.specs.Values.{blurred_flags}
use Rattle.flow_rule.specs.Terms.{no_terms}
use Rattle.flow_rule.specs.declared.Verdict.TheVariants.{Yes}
use Rattle.flow_rule.specs.Does.{plan_val, does_val}
use Rattle.flow_rule.specs.Iterations.{PointState, FlowStep, iterations, all_violations}
use Rattle.flow_rule.specs.Steps.{step_of}
use Rattle.flow_rule.specs.Stub.{step_stub, has_stub}
use Rattle.flow_rule.specs.Verdict.{start_under}
use Rattle.flow_rule.specs.Arms.{step_arms, flow_under, VerdictWith}
use Rattle.written_machine.specs.Peers.{section, DifferInData}
use Rattle.peer_rows.specs.Rows.{with_words, row_module, caller, memory_of, row_image, blind, balanced, BlindPeers, BalancedPeers}
use Rattle.peer_rows.proofs.Accepted.{accepted}
use Rattle.peer_rows.proofs.Sound.{Sound, Words, sound_words, sound_zeros, set_else, none_at}

-- ---- images

unfoldable pub all_words : List ℕ → Bool
all_words [] = true
all_words (w ∷ ws) = nat_lt w 65536 && all_words ws

words_fit : (ws : List ℕ) → all_words ws ≡ true → Words ws
unfolding all_words
words_fit [] e = tt
words_fit (w ∷ ws) e = by (nat_lt w 65536) refl e (λ f. words_fit ws f)
  where
    by : (b : Bool) → nat_lt w 65536 ≡ b → (b && all_words ws) ≡ true → (all_words ws ≡ true → Words ws) → (w < 65536) × Words ws
    by true f e go = ((let h : w < 65536 = grind (arith, nat_tests) in h), go e)
    by false f e go = absurd cc

sound_memory : (text : List ℕ) → all_words text ≡ true → Sound (memory_of text)
unfolding memory_of all_words
sound_memory text e =
    sound_words 0xfffe (0x0200 ∷ []) (with_words 0xffe2 (0x0500 ∷ []) (with_words 0x0500 (0x1300 ∷ []) (with_words 0x0300 text (with_words 0x0200 caller (replicate 65536 0))))) (lit≤ tt) (words_fit (0x0200 ∷ []) refl)
    (sound_words 0xffe2 (0x0500 ∷ []) (with_words 0x0500 (0x1300 ∷ []) (with_words 0x0300 text (with_words 0x0200 caller (replicate 65536 0)))) (lit≤ tt) (words_fit (0x0500 ∷ []) refl)
    (sound_words 0x0500 (0x1300 ∷ []) (with_words 0x0300 text (with_words 0x0200 caller (replicate 65536 0))) (lit≤ tt) (words_fit (0x1300 ∷ []) refl)
    (sound_words 0x0300 text (with_words 0x0200 caller (replicate 65536 0)) (lit≤ tt) (words_fit text e)
    (sound_words 0x0200 caller (replicate 65536 0) (lit≤ tt) (words_fit caller refl) (sound_zeros 65536 refl)))))

is_called : (text_end : ℕ) → 0x0300 < text_end → text_end % 2 ≡ 0 → text_end ≤ 0x0400 → IsModule 1 (row_module text_end)
is_called e low even high = record {
  text_ok = record { order = low; even_start = refl; even_end = even; low = omega arith; high = omega arith };
  ram_ok = record { order = omega arith; even_start = refl; even_end = refl; low = omega arith; high = omega arith };
  apart = le-ltb _ _ (omega arith);
  numbered = omega arith;
  known = omega arith;
}

is_image : (text : List ℕ) (text_end word : ℕ) → all_words text ≡ true → 0x0300 < text_end → text_end % 2 ≡ 0 → text_end ≤ 0x0400 → word < 65536 → IsImage (row_image text text_end word)
is_image text e word fit low even high small =
    let s : Sound (with_words 0x0400 (word ∷ []) (memory_of text)) = sound_words 0x0400 (word ∷ []) (memory_of text) (omega arith) (small, tt) (sound_memory text fit) in
    record {
      full = s.full;
      bytes = s.bytes;
      low = s.low;
      sixteen = refl;
      key_bytes = λ n. subst (λ v. v < 256) (sym (none_at 16 n)) (omega arith);
      table_ok = record { modules = (is_called e low even high, tt, tt); fits = omega arith; room_ok = inl refl };
      numbered = (refl, omega arith, tt);
      all_held = refl;
      given_small = omega arith;
      even_sp = refl;
      small_sp = omega arith;
    }

same_else : (memory : List ℕ) (v w x : ℕ) → holds (row_module 0).ram x ≡ false → slice_index (with_words 0x0400 (v ∷ []) memory) x ≡ slice_index (with_words 0x0400 (w ∷ []) memory) x
same_else memory v w x e =
    let a : x ≢ 0x0400 = λ f. absurd (clash (sym (ap (holds (row_module 0).ram) f) ∙ e)) in
    let b : x ≢ 0x0401 = λ f. absurd (clash (sym (ap (holds (row_module 0).ram) f) ∙ e)) in
    set_else (set memory 0x0400 (v % 256)) 0x0401 (v / 256) x b ∙ set_else memory 0x0400 (v % 256) x a
    ∙ sym (set_else (set memory 0x0400 (w % 256)) 0x0401 (w / 256) x b ∙ set_else memory 0x0400 (w % 256) x a)
  where
    clash : true ≡ false → ⊥
    clash e = cc

pub differ : (text : List ℕ) (text_end v w : ℕ) → all_words text ≡ true → 0x0300 < text_end → text_end % 2 ≡ 0 → text_end ≤ 0x0400 → v < 65536 → w < 65536 → DifferInData (row_image text text_end v) (row_image text text_end w) 1 (row_module text_end)
differ text e v w fit low even high a b = record {
  images = (is_image text e v fit low even high a, is_image text e w fit low even high b);
  table = refl;
  node_key = refl;
  handler_sp = refl;
  owned = refl;
  elsewhere = λ x h. same_else (memory_of text) v w x h;
}

-- ---- texts

unfoldable pub bytes_of : List ℕ → List ℕ
bytes_of [] = []
bytes_of (w ∷ ws) = w % 256 ∷ w / 256 ∷ bytes_of ws

blind_text : section (row_module 0x0306).text (row_image blind 0x0306 0).memory ≡ bytes_of blind
unfolding memory_of bytes_of
blind_text = refl

balanced_text : section (row_module 0x0322).text (row_image balanced 0x0322 0).memory ≡ bytes_of balanced
unfolding memory_of bytes_of
balanced_text = refl

blind_accepted : VerdictWith (row_module 0x0306) (bytes_of blind) [] Yes
unfolding bytes_of step_arms met has_stub plan_val does_val insn_of
blind_accepted =
    let step : PointState → FlowStep = flow_under blurred_flags no_terms (row_module 0x0306) (bytes_of blind) [] in
    let start : PointState = start_under no_terms (row_module 0x0306) (bytes_of blind) in
    (iterations step start 3, record { iterations_to = 3; is = refl; stays = refl }, lit≤ tt, refl)

unfoldable pub meet : List Arm
meet = record { branch = 0x0304; join = 0x0318; cycles = 6 } ∷ []

abbrev balanced_points : ℕ → List PointState
balanced_points n = iterations (flow_under blurred_flags no_terms (row_module 0x0322) (bytes_of balanced) meet) (start_under no_terms (row_module 0x0322) (bytes_of balanced)) n

balanced_stays : balanced_points 6 ≡ balanced_points 5
unfolding bytes_of meet step_arms met has_stub plan_val does_val insn_of cycles_of
balanced_stays = refl

balanced_violations : all_violations (flow_under blurred_flags no_terms (row_module 0x0322) (bytes_of balanced) meet) (balanced_points 5) ≡ []
unfolding bytes_of meet step_arms met has_stub plan_val does_val insn_of cycles_of
balanced_violations = refl

balanced_few : length (balanced_points 5) ≡ 5
unfolding bytes_of meet step_arms met has_stub plan_val does_val insn_of cycles_of
balanced_few = refl

pub balanced_accepted : VerdictWith (row_module 0x0322) (bytes_of balanced) meet Yes
balanced_accepted =
    (balanced_points 5, record { iterations_to = 5; is = refl; stays = balanced_stays }, subst (λ n. n ≤ 16384) (sym balanced_few) (omega arith), balanced_violations)

pub blind_peers : BlindPeers
unfolding all_words
blind_peers =
    accepted (row_image blind 0x0306 0) (row_image blind 0x0306 1) 1 (row_module 0x0306) [] (differ blind 0x0306 0 1 refl (omega arith) refl (omega arith) (omega arith) (omega arith))
    (subst (λ t. VerdictWith (row_module 0x0306) t [] Yes) (sym blind_text) blind_accepted)

pub balanced_peers : BalancedPeers
unfolding all_words
balanced_peers =
    accepted (row_image balanced 0x0322 0) (row_image balanced 0x0322 1) 1 (row_module 0x0322) meet (differ balanced 0x0322 0 1 refl (omega arith) refl (omega arith) (omega arith) (omega arith))
    (subst (λ t. VerdictWith (row_module 0x0322) t meet Yes) (sym balanced_text) balanced_accepted)

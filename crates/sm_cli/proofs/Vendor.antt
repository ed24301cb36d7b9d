-- The vendor's report on the trace of a machine.
use Rattle.std.proofs.Common.{◌≡◌, ℕ, zero, suc, ◌+◌, ◌≤◌, ◌&&◌, Bool, true, false, List, [], ◌∷◌, length, Some, refl, sym, ◌∙◌, ap, subst, arith}
use Rattle.std.specs.Prelude.{slice_get, ◌↔◌}
use Rattle.std.proofs.lemmas.Bool.{and_parts}
use Rattle.sm_io.specs.Files.{FileMap}
use Rattle.mod_keys.specs.Mac.{short_hmac}
use Rattle.vendor_tool.specs.declared.Challenge.{Challenge}
use Rattle.vendor_tool.specs.declared.Judgement.{Judgement}
use Rattle.vendor_tool.specs.declared.Judgement.TheVariants.{Genuine, Wrong, Missing}
use Rattle.vendor_tool.specs.Laws.{StandsInPlace, GenuineIsTagged}
use Rattle.vendor_tool.specs.Report.{judgement, is_genuine, all_genuine_from}
use Rattle.written_machine.specs.Trace.{trace}
use Rattle.written_machine.specs.View.{boot}
use Rattle.machine_replies.specs.Laws.{MachineTracesAreRead, sent_after}
use Rattle.cli_files.specs.declared.answers.Status.TheVariants.{Done}
use Rattle.cli_files.specs.Files.{Held, an_image, the_challenges, the_replies, Need, need, trace_file, HoldAll, most_bytes}
use Rattle.cli_calls.specs.Command.{Answer}
use Rattle.sm_cli.specs.Joins.{AreTagged, VendorTells}
use Rattle.sm_cli.specs.VendorCommand.{key_under, report_answer, report_status, vendor_command, vendor_outcome}
use Rattle.cli_calls.proofs.Outcomes.{one_answer}
use Rattle.cli_calls.proofs.Given.{gives_answer}
use Rattle.sm_cli.proofs.OfModule.{of_module}

-- ---- all are genuine exactly where all are tagged

module _ (law : GenuineIsTagged) (key sent : List ℕ) where
  -- the challenges from place i on
  abbrev TaggedFrom : ℕ → List Challenge → Type 0
  TaggedFrom i cs = (k : ℕ) (c : Challenge) → slice_get cs k ≡ Some c → StandsInPlace sent (i + k) (short_hmac key c.nonce)

  genuine : (j : Judgement) → is_genuine j ≡ true → j ≡ Genuine
  genuine Genuine e = refl
  genuine Wrong e = cc
  genuine Missing e = cc

  both : (a b : Bool) → a ≡ true → b ≡ true → (a && b) ≡ true
  both true true e f = refl
  both true false e f = f
  both false b e f = e

  tagged_from : (i : ℕ) (cs : List Challenge) → all_genuine_from key sent i cs ≡ true → TaggedFrom i cs
  tagged_from i [] e k c h = absurd cc
  tagged_from i (d ∷ cs) e zero c h =
      let same : d ≡ c = cc in
      let here : i ≡ i + 0 = omega arith in
      let stands = (law key d.nonce sent i).0 (genuine (judgement key d.nonce sent i) (and_parts _ _ e).0) in
      subst (λ n. StandsInPlace sent n (short_hmac key c.nonce)) here (subst (λ (x : Challenge). StandsInPlace sent i (short_hmac key x.nonce)) same stands)
  tagged_from i (d ∷ cs) e (suc k) c h =
      let there : i + 1 + k ≡ i + suc k = omega arith in
      subst (λ n. StandsInPlace sent n (short_hmac key c.nonce)) there (tagged_from (i + 1) cs (and_parts _ _ e).1 k c h)

  genuine_from : (i : ℕ) (cs : List Challenge) → TaggedFrom i cs → all_genuine_from key sent i cs ≡ true
  genuine_from i [] h = refl
  genuine_from i (d ∷ cs) h =
      let here : i + 0 ≡ i = omega arith in
      let stands = subst (λ n. StandsInPlace sent n (short_hmac key d.nonce)) here (h 0 d refl) in
      both _ _ (ap is_genuine ((law key d.nonce sent i).1 stands))
      (genuine_from (i + 1) cs (λ k c e. let there : i + suc k ≡ i + 1 + k = omega arith in subst (λ n. StandsInPlace sent n (short_hmac key c.nonce)) there (h (suc k) c e)))

  done_only : (b : Bool) → report_status b ≡ Done → b ≡ true
  done_only true e = refl
  done_only false e = cc

  done_if_tagged : (list : List Challenge) → ((report_answer key list sent).status ≡ Done) ↔ AreTagged key sent list
  done_if_tagged list = (
    λ e i c h.
        let here : 0 + i ≡ i = omega arith in
        subst (λ n. StandsInPlace sent n (short_hmac key c.nonce)) here (tagged_from 0 list (done_only (all_genuine_from key sent 0 list) e) i c h),
    λ h.
        ap report_status (genuine_from 0 list (λ k c e. let here : k ≡ 0 + k = omega arith in subst (λ n. StandsInPlace sent n (short_hmac key c.nonce)) here (h k c e))),
  )

-- ---- the trace that was read

third_short : (files : FileMap) (a b : Need) (name bytes : List ℕ) (helds : List Held) → HoldAll (Some files) (a ∷ b ∷ need name trace_file ∷ []) helds
    → files name ≡ Some bytes → length bytes ≤ most_bytes
third_short files a b name bytes [] h file = absurd h
third_short files a b name bytes (x ∷ []) h file = absurd h.1
third_short files a b name bytes (x ∷ y ∷ []) h file = absurd h.1.1
third_short files a b name bytes (x ∷ y ∷ z ∷ more) h file =
    let r = h.1.1.0 in
    let same : Some r.bytes ≡ Some bytes = sym r.file ∙ file in
    let are : r.bytes ≡ bytes = cc in
    subst (λ l. length l ≤ most_bytes) are r.short

pub vendor_tells : MachineTracesAreRead → GenuineIsTagged → VendorTells
vendor_tells read law files image challenges replies id provider value ran owner list schedule cycles told held owned sent machine small file a =
    let key = key_under provider value owner in
    let bytes = sent_after (boot ran schedule) cycles in
    let short = third_short files _ _ replies (trace ran schedule cycles) a.comes.helds a.comes.hold file in
    let answer = gives_answer (Some files) (vendor_command image challenges replies id provider) (report_answer key list bytes) (record {
      helds = an_image value ∷ the_challenges list ∷ the_replies bytes ∷ [];
      hold = (held, (sent, (record { bytes = trace ran schedule cycles; file = file; short = short; is = read ran schedule cycles machine small }, tt)));
      is = of_module (vendor_outcome provider) value id owner (the_challenges list ∷ the_replies bytes ∷ []) owned;
    }) in
    let same = one_answer files (vendor_command image challenges replies id provider) (report_answer key list bytes) told answer a in
    subst (λ (x : Answer). (x.status ≡ Done) ↔ AreTagged key bytes list) same (done_if_tagged law key bytes list)

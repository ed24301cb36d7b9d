-- From how a call ended to what it gives.
use Rattle.std.proofs.Common.{◌≡◌, ◌≢◌, ℕ, List, Option, Some, None, refl, sym, ◌∙◌, subst, inl, inr, ◌⊎◌}
use Rattle.sm_io.specs.Faults.{Rose}
use Rattle.sm_io.specs.Files.{FileMap}
use Rattle.sm_io.specs.Sink.{CutOff}
use Rattle.link_symbols.specs.declared.fault.LinkFault.{LinkFault}
use Rattle.cli_files.specs.declared.answers.FileFault.{FileFault}
use Rattle.cli_files.specs.declared.answers.Refusal.{Refusal}
use Rattle.cli_files.specs.declared.answers.Refusal.TheVariants as refusal
use Rattle.cli_files.specs.declared.answers.Status.{Status}
use Rattle.cli_files.specs.declared.answers.Status.TheVariants as status
use Rattle.cli_files.specs.Files.{IsFirstFault}
use Rattle.cli_files.specs.Refusal.{status_of, refusal_line}
use Rattle.cli_calls.specs.Calls.{Call, Serves, Refuses, IsCalledFor, IsCause, Completes, IsOrOutside, WasRun, WasTold, TellsAs, Ended, was_run, was_told}
use Rattle.cli_calls.specs.Command.{Command, Answer, Answers, Outcome, refuses, Comes, IsAnswer}
use Rattle.cli_calls.specs.Runs.{EndsAs, IsCommandCause, RunsImage}
use Rattle.cli_calls.proofs.Outcomes.{one_answer, one_outcome, no_first_fault, no_fault_of_answer, no_refusal_of_answer}

-- the words are one command
one_command : (asked : Option Command) (own other : Command) → Some own ≡ asked → asked ≡ Some other → own ≡ other
one_command asked own other c d = let same : Some own ≡ Some other = c ∙ d in cc

-- what a command's files call for, the call calls for
pub cause_of : (call : Call) (own : Command) (r : Refusal) (name : List ℕ) → call.asked ≡ Some own → IsCommandCause call.files call.before call.after own r name → IsCause call r name
cause_of call own refusal.Usage name c f = absurd f
cause_of call own refusal.NoMemory name c f = (tt, f)
cause_of call own _ name c f = ((own, c, f.0), f.1)

-- How a call ended

pub cut_rose : {S : Type 0} (taken : S → Option (List ℕ)) (faults sure : S → ℕ) (old new : S) (text : List ℕ) → CutOff taken faults sure old new text → Rose (faults old) (faults new)
cut_rose taken faults sure old new text h = h.rose.1

module _ (call : Call) (took cut told part : List ℕ → Type 0) (same_err same_out : Type 0) where
  -- what is said of each status
  abbrev pub Says : Status → Type 0
  Says status.Done = Serves call status.Done took × same_err
  Says status.Stopped = Serves call status.Stopped took × same_err
  Says status.CheckNo = Serves call status.CheckNo took × same_err
  Says status.WriteFault = ((s : Status) × Serves call s cut × same_err) ⊎ ((s : Status) × Refuses call s part × same_out)
  Says s = Refuses call s told × same_out

  serves : (ended s : Status) (P : List ℕ → Type 0) (r : WasRun call ended took cut) → r.run.answer.status ≡ s → P r.run.answer.text → Serves call s P
  serves ended s P r e t = record { command = r.command; answer = r.run.answer; asked = r.asked; served = r.run.served; quiet = r.quiet; status = e; text = t }

  run_says : (ended : Status) → WasRun call ended took cut → same_err → Says ended
  run_says status.Done r e = (serves status.Done status.Done took r r.run.ends.1 r.run.ends.0, e)
  run_says status.Stopped r e = (serves status.Stopped status.Stopped took r r.run.ends.1 r.run.ends.0, e)
  run_says status.CheckNo r e = (serves status.CheckNo status.CheckNo took r r.run.ends.1 r.run.ends.0, e)
  run_says status.WriteFault r e = inl (r.run.answer.status, serves status.WriteFault r.run.answer.status cut r refl r.run.ends, e)
  run_says _ r e = absurd r.run.ends

  tells : (q : Refusal) (name : List ℕ) (P : List ℕ → Type 0) → IsCause call q name → P (refusal_line call.program q name) → Refuses call (status_of q) P
  tells q name P c t = record { refused = q; name = name; status = refl; cause = c; line = t }

  told_says : (q : Refusal) (name : List ℕ) → IsCause call q name → told (refusal_line call.program q name) → same_out → Says (status_of q)
  told_says refusal.Usage name c t o = (tells refusal.Usage name told c t, o)
  told_says q name c t o = (tells q name told c t, o)

  says : (ended : Status) → Ended call ended took cut told part same_err same_out → Says ended
  says ended (was_run r e) = run_says ended r e
  says ended (was_told r o) = by r.tells
    where
      by : TellsAs call.program ended r.refused r.name told part → Says ended
      by (inl t) = subst Says (sym t.0) (told_says r.refused r.name r.cause t.1 o)
      by (inr t) = subst Says (sym t.0) (inr (status_of r.refused, tells r.refused r.name part r.cause t.1, o))

  pub at : (ended s : Status) → Ended call ended took cut told part same_err same_out → ended ≡ s → Says s
  at ended s h e = subst Says e (says ended h)

  -- a refusal that was told is this one, or of the outside or of want of memory
  or_outside : (wanted ended : Status) (r : WasTold call ended told part) → ((q : Refusal) → IsCalledFor call q r.name → IsOrOutside wanted (status_of q)) → IsOrOutside wanted ended
  or_outside wanted ended r of = by r.tells
    where
      by : TellsAs call.program ended r.refused r.name told part → IsOrOutside wanted ended
      by (inl t) = subst (IsOrOutside wanted) (sym t.0) (of r.refused r.cause.0)
      by (inr t) = subst (IsOrOutside wanted) (sym t.0) tt

  -- Words that are no command

  pub no_command : (ended : Status) → Ended call ended took cut told part same_err same_out → call.asked ≡ None → IsOrOutside status.Usage ended
  no_command ended (was_run r e) none = let clash : Some r.command ≡ None = sym r.asked ∙ none in absurd (cc)
  no_command ended (was_told r o) none = or_outside status.Usage ended r of
    where
      clash : (own : Command) → call.asked ≡ Some own → ⊥
      clash own c = let both : Some own ≡ None = sym c ∙ none in cc

      of : (q : Refusal) → IsCalledFor call q r.name → IsOrOutside status.Usage (status_of q)
      of refusal.Usage c = refl
      of (refusal.BadFile fault) c = absurd (clash c.0 c.1)
      of (refusal.Link fault) c = absurd (clash c.0 c.1)
      of _ c = tt

  -- Files that are told, of the command that the words are

  module _ (map : FileMap) (other : Command) (is : call.files ≡ Some map) (d : call.asked ≡ Some other) where
    here : (P : Option FileMap → Command → Type 0) (own : Command) → call.asked ≡ Some own → P call.files own → P (Some map) other
    here P own c h = subst (λ k. P (Some map) k) (one_command call.asked own other (sym c) d) (subst (λ o. P o own) is h)

    no_usage : call.asked ≡ None → ⊥
    no_usage none = let both : None ≡ Some other = sym none ∙ d in cc

    -- none of them has a fault, and they link, where something comes of the command
    no_fault : (outcome : Outcome) → Comes (Some map) other outcome → (name : List ℕ) (fault : FileFault) → IsCalledFor call (refusal.BadFile fault) name → ⊥
    no_fault outcome comes name fault c = no_first_fault map other outcome comes name fault (here (λ o k. IsFirstFault o k.needs name fault) c.0 c.1 c.2)

    no_link : (answer : Answer) → IsAnswer (Some map) other answer → (name : List ℕ) (fault : LinkFault) → IsCalledFor call (refusal.Link fault) name → ⊥
    no_link answer a name fault c = no_refusal_of_answer map other answer a fault name (here (λ o k. Comes o k (refuses fault name)) c.0 c.1 c.2)

    answer_here : (ended : Status) (r : WasRun call ended took cut) → IsAnswer (Some map) other r.run.answer
    answer_here ended r = here (λ o k. IsAnswer o k r.run.answer) r.command r.asked r.run.served

    ends_here : (ended : Status) (r : WasRun call ended took cut) (answer : Answer) → IsAnswer (Some map) other answer → EndsAs ended answer took cut
    ends_here ended r answer a = subst (λ x. EndsAs ended x took cut) (one_answer map other r.run.answer answer (answer_here ended r) a) r.run.ends

    pub bad_file : (ended : Status) → Ended call ended took cut told part same_err same_out → (name : List ℕ) (fault : FileFault) → IsFirstFault (Some map) other.needs name fault → IsOrOutside status.BadFile ended
    bad_file ended (was_run r e) name fault x = absurd (no_fault_of_answer map other r.run.answer (answer_here ended r) name fault x)
    bad_file ended (was_told r o) name fault x = or_outside status.BadFile ended r of
      where
        of : (q : Refusal) → IsCalledFor call q r.name → IsOrOutside status.BadFile (status_of q)
        of refusal.Usage c = absurd (no_usage c)
        of (refusal.BadFile own) c = refl
        of (refusal.Link own) c = absurd (no_first_fault map other (refuses own r.name) (here (λ o k. Comes o k (refuses own r.name)) c.0 c.1 c.2) name fault x)
        of _ c = tt

    pub link_refused : (ended : Status) → Ended call ended took cut told part same_err same_out → (name : List ℕ) (fault : LinkFault) → Comes (Some map) other (refuses fault name) → IsOrOutside status.LinkRefused ended
    link_refused ended (was_run r e) name fault x = absurd (no_refusal_of_answer map other r.run.answer (answer_here ended r) fault name x)
    link_refused ended (was_told r o) name fault x = or_outside status.LinkRefused ended r of
      where
        of : (q : Refusal) → IsCalledFor call q r.name → IsOrOutside status.LinkRefused (status_of q)
        of refusal.Usage c = absurd (no_usage c)
        of (refusal.BadFile own) c = absurd (no_fault (refuses fault name) x r.name own c)
        of (refusal.Link own) c = refl
        of _ c = tt

    abbrev pub Complete : Answer → Status → Type 0
    Complete answer ended = Completes ended answer took cut ((s : Status) × Refuses call s part)

    pub completes : (ended : Status) → Ended call ended took cut told part same_err same_out → (answer : Answer) → IsAnswer (Some map) other answer → Complete answer ended
    completes ended (was_run r e) answer a = by ended (ends_here ended r answer a)
      where
        by : (s : Status) → EndsAs s answer took cut → Complete answer s
        by status.WriteFault b = inl b
        by status.ReadFault b = tt
        by status.NoMemory b = tt
        by _ b = b
    completes ended (was_told r o) answer a = by r.tells
      where
        of : (q : Refusal) → IsCalledFor call q r.name → Complete answer (status_of q)
        of refusal.Usage c = absurd (no_usage c)
        of (refusal.BadFile fault) c = absurd (no_fault a.outcome a.comes r.name fault c)
        of (refusal.Link fault) c = absurd (no_link answer a r.name fault c)
        of _ c = tt

        by : TellsAs call.program ended r.refused r.name told part → Complete answer ended
        by (inl t) = subst (Complete answer) (sym t.0) (of r.refused r.cause.0)
        by (inr t) = subst (Complete answer) (sym t.0) (inr (status_of r.refused, tells r.refused r.name part r.cause t.1))

    -- the whole answer, and what is run is an image, where memory is there and neither the files nor a sink failed
    pub whole : (ended : Status) → Ended call ended took cut told part same_err same_out → (outcome : Outcome) (answer : Answer) → Comes (Some map) other outcome → Answers outcome answer
        → ended ≢ status.NoMemory → (Rose call.before call.after → ⊥) → (cut answer.text → ⊥) → ((text : List ℕ) → part text → ⊥)
        → (took answer.text × same_err × (ended ≡ answer.status)) × RunsImage outcome
    whole ended (was_run r e) outcome answer comes a some no_read no_cut no_part =
        (by ended (ends_here ended r answer (record { outcome = outcome; comes = comes; is = a })), sound)
      where
        by : (s : Status) → EndsAs s answer took cut → took answer.text × same_err × (s ≡ answer.status)
        by status.Done b = (b.0, e, sym b.1)
        by status.Stopped b = (b.0, e, sym b.1)
        by status.CheckNo b = (b.0, e, sym b.1)
        by status.WriteFault b = absurd (no_cut b)
        by _ b = absurd b

        sound : RunsImage outcome
        sound = subst RunsImage (one_outcome map other r.run.served.outcome outcome (here (λ o k. Comes o k r.run.served.outcome) r.command r.asked r.run.served.comes) comes) r.run.sound
    whole ended (was_told r o) outcome answer comes a some no_read no_cut no_part = absurd (by r.tells)
      where
        of : (q : Refusal) → IsCause call q r.name → ended ≡ status_of q → ⊥
        of refusal.Usage c e = no_usage c.0
        of (refusal.BadFile fault) c e = no_fault outcome comes r.name fault c.0
        of refusal.CannotRead c e = no_read c.1.1
        of (refusal.Link fault) c e = no_link answer (record { outcome = outcome; comes = comes; is = a }) r.name fault c.0
        of refusal.NoMemory c e = some e

        by : TellsAs call.program ended r.refused r.name told part → ⊥
        by (inl t) = of r.refused r.cause t.0
        by (inr t) = no_part (refusal_line call.program r.refused r.name) t.1

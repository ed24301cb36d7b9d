-- Of every command, on files that are told, something comes, or a file has a fault; and of every command line an answer.
use Rattle.std.proofs.Common.{◌≡◌, ℕ, ◌<◌, List, [], ◌∷◌, length, Option, Some, None, refl, sym, subst, inl, inr, ◌⊎◌, ⊎_elim}
use Rattle.std.specs.Prelude.{IsSomeAnd}
use Rattle.std.proofs.lemmas.Bool.{cases_lt}
use Rattle.sm_io.specs.Files.{FileMap}
use Rattle.link_symbols.specs.declared.fault.LinkFault.{LinkFault}
use Rattle.cli_files.specs.declared.answers.FileFault.{FileFault}
use Rattle.cli_files.specs.declared.answers.FileFault.TheVariants as fault
use Rattle.cli_files.specs.Files.{Held, most_bytes, HasFault, Need, Holds, HoldAll, IsFirstFault}
use Rattle.cli_calls.specs.CommandNames.{command_of}
use Rattle.sm_cli.specs.CommandLine.{sancus_commands}
use Rattle.cli_calls.specs.Words.{Text}
use Rattle.cli_calls.specs.Command.{Command, Outcome, refuses, nothing, Answer, IfAnswered, Comes, IsAnswer}
use Rattle.cli_calls.proofs.Outcomes.{some_answer}
use Rattle.sm_cli.specs.Laws.{IsDecided, IsAnswered}
use Rattle.cli_files.proofs.OneContent.{examined}
use Rattle.sm_cli.proofs.Something.{something}

module _ (map : FileMap) where
  -- a file serves, or has a fault
  found : (wanted : Need) → ((held : Held) × Holds (Some map) wanted held) ⊎ ((f : FileFault) × HasFault wanted.kind (map wanted.name) f)
  found wanted = by (map wanted.name) refl
    where
      by : (o : Option (List ℕ)) → map wanted.name ≡ o → ((held : Held) × Holds (Some map) wanted held) ⊎ ((f : FileFault) × HasFault wanted.kind (map wanted.name) f)
      by None e = inr (fault.Absent, e)
      by (Some bytes) e =
          ⊎_elim (λ long. inr (fault.TooLong, subst (λ o. IsSomeAnd o (λ l. most_bytes < length l)) (sym e) long))
          (λ short.
          ⊎_elim (λ h. inl (h.0, record { bytes = bytes; file = e; short = short; is = h.1 }))
          (λ f. inr (f.0, subst (λ o. HasFault wanted.kind o f.0) (sym e) (f.1 short)))
          (examined wanted.kind bytes))
          (cases_lt most_bytes (length bytes))

  abbrev AllFound : List Need → Type 0
  AllFound needs = ((helds : List Held) × HoldAll (Some map) needs helds) ⊎ ((name : List ℕ) × (f : FileFault) × IsFirstFault (Some map) needs name f)

  all_found : (needs : List Need) → AllFound needs
  all_found [] = inl ([], tt)
  all_found (wanted ∷ needs) = by (found wanted) (all_found needs)
    where
      by : ((held : Held) × Holds (Some map) wanted held) ⊎ ((f : FileFault) × HasFault wanted.kind (map wanted.name) f) → AllFound needs → AllFound (wanted ∷ needs)
      by (inr f) more = inr (wanted.name, f.0, inl (refl, f.1))
      by (inl h) (inl more) = inl (h.0 ∷ more.0, (h.1, more.1))
      by (inl h) (inr f) = inr (f.0, f.1, inr (h, f.2))

pub decided : IsDecided
decided map command = ⊎_elim (λ h. inl (command.outcome h.0, record { helds = h.0; hold = h.1; is = refl })) (λ f. inr f) (all_found map command.needs)

-- what holds of each answer that comes of files holds of one that there is
pub if_answered : (words : List Text) (map : FileMap) (command : Command) (outcome : Outcome) (P : Answer → Type 0) → command_of sancus_commands words ≡ Some command → Comes (Some map) command outcome
    → ((answer : Answer) → IsAnswer (Some map) command answer → P answer) → IfAnswered outcome P
if_answered words map command outcome P asked c p = some_answer map command outcome P (something words map command outcome asked c) c p

pub answered : IsAnswered
answered words map command outcome asked c = by outcome (if_answered words map command outcome (λ answer. IsAnswer (Some map) command answer) asked c (λ answer a. a))
  where
    by : (o : Outcome) → IfAnswered o (λ answer. IsAnswer (Some map) command answer) → ((answer : Answer) × IsAnswer (Some map) command answer) ⊎ ((fault : LinkFault) × (name : List ℕ) × (o ≡ refuses fault name))
    by (refuses fault name) a = inr (fault, name, refl)
    by nothing a = absurd a
    by _ a = inl (a.0, a.2)

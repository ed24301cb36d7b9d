-- What comes of the files of every command line.
use Rattle.std.proofs.Common.{◌≡◌, ◌≢◌, ℕ, List, [], ◌∷◌, map, Option, Some, refl, sym, ◌∙◌, ap, subst}
use Rattle.sm_io.specs.Files.{FileMap}
use Rattle.image_text.specs.Image.{Image}
use Rattle.link_map.specs.Map.{map_text}
use Rattle.pulse_sweep.specs.Sweep.{different, sweep_text}
use Rattle.pulse_sweep.specs.declared.Pulses.{Pulses}
use Rattle.cli_files.specs.declared.answers.Status.{Status}
use Rattle.cli_files.specs.declared.answers.Status.TheVariants as status
use Rattle.cli_files.specs.Files.{need, image_file, an_image, Holds}
use Rattle.cli_calls.specs.Calls.{Completes}
use Rattle.cli_calls.specs.Command.{Command, Outcome, gives, offers, nothing, Comes}
use Rattle.cli_calls.specs.Words.{Text}
use Rattle.cli_calls.proofs.Sound.{Sound, AllSound, of_image_run, of_objects, IfSound, IsSomething, if_none, if_map, something_comes}
use Rattle.cli_calls.specs.CommandNames.{command_of}
use Rattle.lab_cli.specs.CommandLine.{lab_commands}
use Rattle.lab_cli.specs.ReleasedCommand.{judged_under, read_released}
use Rattle.lab_cli.specs.StepsCommand.{steps_outcome}
use Rattle.lab_cli.specs.SweepCommand.{pulses_of, sweep_answer, sweep_command, read_sweep, sweep_status}
use Rattle.lab_cli.specs.TermsCommand.{read_offer}
use Rattle.lab_cli.proofs.UnderTerms.{of_judged}

sound_sweep : (first second : Text) (pulses : Pulses) → Sound (sweep_command first second pulses)
sound_sweep first second pulses map [] h e = h
sound_sweep first second pulses map (held ∷ []) h e = h.1
sound_sweep first second pulses map (an_image a ∷ an_image b ∷ []) h e = cc
sound_sweep first second pulses map (an_image a ∷ an_image b ∷ held ∷ more) h e = h.1.1
sound_sweep first second pulses map (an_image a ∷ held ∷ more) h e = h.1.0.is
sound_sweep first second pulses map (held ∷ second_held ∷ more) h e = h.0.is

-- what comes of two images
pub sweep_comes : (files : Option FileMap) (first_name second_name : Text) (pulses : Pulses) (first second : Image) → Holds files (need first_name image_file) (an_image first) → Holds files (need second_name image_file) (an_image second)
    → Comes files (sweep_command first_name second_name pulses) (gives (sweep_answer pulses first second))
sweep_comes files first_name second_name pulses first second a b = record { helds = an_image first ∷ an_image second ∷ []; hold = (a, (b, tt)); is = refl }

some_steps : IsSomething steps_outcome
some_steps value entries cycles e = cc

-- a sweep of which no row differs does not end as a no
pub no_row_differs : (ended : Status) (pulses : Pulses) (first second : Image) (took cut : List ℕ → Type 0) (told : Type 0) → different pulses first second ≡ 0
    → Completes ended (sweep_answer pulses first second) took cut told → ended ≢ status.CheckNo
no_row_differs ended pulses first second took cut told none h refused =
    let differs : took (sweep_text pulses first second) × (sweep_status (different pulses first second) ≡ status.CheckNo) = subst (λ s. Completes s (sweep_answer pulses first second) took cut told) refused h in
    let clash : status.Done ≡ status.CheckNo = ap sweep_status (sym none) ∙ differs.1 in
    cc

of_released : (vs : List Text) → IfSound (read_released vs)
of_released = of_judged judged_under (λ terms owner text arms e. cc)

of_offer : (vs : List Text) → IfSound (read_offer vs)
of_offer = of_judged offers (λ terms owner text arms e. cc)

of_sweep : (vs : List Text) → IfSound (read_sweep vs)
of_sweep (first ∷ second ∷ line ∷ from ∷ to ∷ cycles ∷ []) = if_map (sweep_command first second) (pulses_of line from to cycles) (sound_sweep first second)
of_sweep _ = if_none

all_sound : AllSound lab_commands
all_sound = (of_objects map_text, (of_released, (of_sweep, (of_image_run steps_outcome some_steps, (of_offer, tt)))))

-- what comes of the files of a command line is something
pub something : (words : List Text) (map : FileMap) (command : Command) (outcome : Outcome) → command_of lab_commands words ≡ Some command → Comes (Some map) command outcome → outcome ≡ nothing → ⊥
something = something_comes lab_commands all_sound

-- `vendor IMAGE ID PROVIDER CHALLENGES TRACE`: a vendor's report on the replies to its challenges.
use Rattle.std.specs.Prelude.{ℕ, Bool, true, false, List, [], ◌∷◌, Option, None, option_and_then}
use Rattle.std.specs.Option.{option_map}
use Rattle.texts.specs.Hexadecimals.{read_hex_key}
use Rattle.mod_layout.specs.declared.Module.{Module}
use Rattle.mod_keys.specs.Keys.{module_key_from}
use Rattle.image_text.specs.Image.{Image}
use Rattle.vendor_tool.specs.declared.Challenge.{Challenge}
use Rattle.vendor_tool.specs.Report.{report_text, all_genuine}
use Rattle.written_machine.specs.Peers.{section}
use Rattle.cli_files.specs.declared.answers.Status.{Status}
use Rattle.cli_files.specs.declared.answers.Status.TheVariants as status
use Rattle.cli_calls.specs.Words.{Text}
use Rattle.cli_calls.specs.Ids.{id_of}
use Rattle.cli_files.specs.Files.{Held, the_challenges, the_replies, image_with, challenges_file, trace_file, Need, need}
use Rattle.cli_calls.specs.Command.{Answer, Outcome, gives, nothing, Command}
use Rattle.sm_cli.specs.ModuleCommand.{with_chosen}

-- the status of a report where all are genuine, or not
abbrev pub report_status : Bool → Status
report_status true = status.Done
report_status false = status.CheckNo

-- the report under a key
abbrev pub report_answer : List ℕ → List Challenge → List ℕ → Answer
report_answer key challenges sent = record { text = report_text key challenges sent; status = report_status (all_genuine key challenges sent) }

-- the key of a module in an image, under the key of its vendor
abbrev pub key_under : List ℕ → Image → Module → List ℕ
key_under provider value m = module_key_from provider m (section m.text value.memory)

abbrev pub vendor_outcome : List ℕ → Image → Module → List Held → Outcome
vendor_outcome provider value m (the_challenges list ∷ the_replies sent ∷ []) = gives (report_answer (key_under provider value m) list sent)
vendor_outcome provider value m _ = nothing

-- the files of challenges and of a trace
abbrev pub exchange_needs : Text → Text → List Need
exchange_needs challenges trace = need challenges challenges_file ∷ need trace trace_file ∷ []

abbrev pub vendor_command : Text → Text → Text → ℕ → List ℕ → Command
vendor_command image challenges trace id provider = record { needs = need image (image_with id) ∷ exchange_needs challenges trace; outcome = with_chosen id (vendor_outcome provider) }

abbrev pub read_vendor : List Text → Option Command
read_vendor (image ∷ id ∷ provider ∷ challenges ∷ trace ∷ []) =
    option_and_then (λ n. option_map (λ key. vendor_command image challenges trace n key) (read_hex_key provider)) (id_of id)
read_vendor _ = None

-- Commands of an image, the id of a module, terms, and certificates of balanced branches.
use Rattle.std.specs.Prelude.{ℕ, List, [], ◌∷◌, Option, Some, None, option_map}
use Rattle.arm_balance.specs.declared.Arm.{Arm}
use Rattle.mod_layout.specs.declared.Module.{Module}
use Rattle.mod_layout.specs.Table.{module_of}
use Rattle.image_text.specs.Image.{Image}
use Rattle.written_machine.specs.Peers.{section}
use Rattle.terms_file.specs.declared.Term.{Term}
use Rattle.cli_files.specs.Files.{Held, an_image, the_terms, certificates, arms_file, image_with, terms_file, Need, need}
use Rattle.cli_calls.specs.Command.{Command, Outcome, nothing}
use Rattle.cli_calls.specs.Ids.{id_of}
use Rattle.cli_calls.specs.Values.{file_named}
use Rattle.cli_calls.specs.Words.{Text}
use Rattle.lab_cli.specs.PublicWords.{not_data, on_data}

-- the file of certificates; none where no name is given
abbrev pub arms_needs : Option Text → List Need
arms_needs None = []
arms_needs (Some name) = need name arms_file ∷ []

-- the files of terms and of certificates
abbrev pub told_needs : Text → Option Text → List Need
told_needs terms arms = need terms terms_file ∷ arms_needs arms

-- an outcome by the certificates of their file; with no file there are none
abbrev pub with_arms : (List Arm → Outcome) → List Held → Outcome
with_arms outcome [] = outcome []
with_arms outcome (certificates arms ∷ []) = outcome arms
with_arms outcome _ = nothing

-- what comes of terms, a module, its text and certificates
abbrev pub Judging : Type 0
Judging = List Term → Module → List ℕ → List Arm → Outcome

-- by the module with the id, or a no where a public word is none of its data
abbrev pub judged_by : Judging → Image → List Term → List Arm → Option Module → Outcome
judged_by judging value terms arms (Some owner) =
    on_data (not_data owner terms) (judging terms owner (section owner.text value.memory) arms)
judged_by judging value terms arms None = nothing

abbrev pub judged_outcome : Judging → ℕ → List Held → Outcome
judged_outcome judging id (an_image value ∷ the_terms terms ∷ more) =
    with_arms (λ arms. judged_by judging value terms arms (module_of id value.table)) more
judged_outcome judging id _ = nothing

abbrev pub judged_command : Judging → Text → ℕ → Text → Option Text → Command
judged_command judging name id terms arms =
    record { needs = need name (image_with id) ∷ told_needs terms arms; outcome = judged_outcome judging id }

-- the order of the words: the image, the id, the terms, the certificates
abbrev pub judged_in : Judging → Text → Text → Option Text → ℕ → Command
judged_in judging name terms arms id = judged_command judging name id terms arms

abbrev pub read_judged : Judging → List Text → Option Command
read_judged judging (name ∷ id ∷ terms ∷ arms ∷ []) =
    option_map (judged_in judging name terms (file_named arms)) (id_of id)
read_judged judging _ = None

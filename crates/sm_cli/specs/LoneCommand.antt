-- `lone IMAGE ID LIMIT PAIR..`: how a call of a module by itself ends.
use Rattle.std.specs.Prelude.{ℕ, List, [], ◌∷◌, ◌++◌, Option, Some, None, codes}
use Rattle.std.specs.Fmt.{decimal}
use Rattle.sm_words.specs.Words.{put}
use Rattle.sm_words.specs.declared.registers.TheConstants.{PC}
use Rattle.mod_layout.specs.declared.Module.{Module}
use Rattle.image_text.specs.Image.{Image}
use Rattle.tracer.specs.Lines.{registers_from}
use Rattle.written_machine.specs.Peers.{section}
use Rattle.cpu_step.specs.Lone as lone
use Rattle.lone_run.specs.Ends.{call_answer}
use Rattle.lone_run.specs.declared.Outcome.{Outcome as End}
use Rattle.lone_run.specs.declared.Outcome.TheVariants.{Exit, Closed, Broken, Running}
use Rattle.cli_files.specs.declared.answers.Status.TheVariants as status
use Rattle.sm_cli.specs.declared.pairs.Pair.{Pair}
use Rattle.cli_calls.specs.Words.{Text}
use Rattle.cli_calls.specs.Ids.{id_of}
use Rattle.cli_calls.specs.Values.{read_cycles}
use Rattle.sm_cli.specs.Numbers.{number_line}
use Rattle.sm_cli.specs.Pairs.{pairs_in, core_with}
use Rattle.cli_files.specs.Files.{Held, image_with, need}
use Rattle.cli_calls.specs.Command.{Answer, Outcome, gives, nothing, Command}
use Rattle.sm_cli.specs.ModuleCommand.{with_chosen}

-- the caller's id where no module calls
abbrev pub no_caller : ℕ
no_caller = 0

-- the module's entry: PC is where its text starts, the other registers are these, and no module calls
abbrev pub entrance_of : Module → List ℕ → lone.Entrance
entrance_of owner registers = record { core = put registers PC owner.text.start; caller = no_caller }

-- how the call of an image's module ends within so many cycles
abbrev pub lone_end : Image → Module → List ℕ → ℕ → lone.CallEnd
lone_end value owner registers limit =
    lone.outcome (lone.job_of value.node_key owner (section owner.text value.memory) no_caller) limit (lone.starts (entrance_of owner registers) (section owner.ram value.memory))

-- a word, a number of cycles and the sixteen registers
abbrev pub core_line : List ℕ → ℕ → List ℕ → List ℕ
core_line name cycles core = name ++ (decimal cycles ++ (registers_from core 0 16 ++ codes "\n"))

-- the line of how a call ends
abbrev pub lone_end_line : ℕ → End → List ℕ
lone_end_line limit (Exit core cycles) = core_line (codes "exit ") cycles core
lone_end_line limit (Closed core cycles) = core_line (codes "closed ") cycles core
lone_end_line limit (Broken cycles) = number_line (codes "broken ") cycles
lone_end_line limit Running = number_line (codes "running ") limit

abbrev pub end_answer : ℕ → End → Answer
end_answer limit end = record { text = lone_end_line limit end; status = status.Done }

abbrev pub lone_outcome : ℕ → List ℕ → Image → Module → List Held → Outcome
lone_outcome limit registers value m [] = gives (end_answer limit (call_answer (lone_end value m registers limit)))
lone_outcome limit registers value m _ = nothing

abbrev pub lone_command : Text → ℕ → ℕ → List ℕ → Command
lone_command name id limit registers = record { needs = need name (image_with id) ∷ []; outcome = with_chosen id (lone_outcome limit registers) }

abbrev pub lone_with : Text → Option ℕ → Option ℕ → Option (List Pair) → Option Command
lone_with name (Some id) (Some limit) (Some pairs) = Some (lone_command name id limit (core_with pairs))
lone_with name _ _ _ = None

abbrev pub read_lone : List Text → Option Command
read_lone (name ∷ id ∷ limit ∷ pairs) = lone_with name (id_of id) (read_cycles limit) (pairs_in pairs)
read_lone _ = None

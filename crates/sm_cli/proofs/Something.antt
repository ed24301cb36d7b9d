-- Something comes of the files of every command line.
use Rattle.std.proofs.Common.{◌≡◌, ℕ, ◌%◌, ◌==◌, ◌&&◌, nat_le, true, is_some, List, [], ◌∷◌, ◌++◌, drop, Option, Some, None, option_map, sym, ◌∙◌, ap}
use Rattle.std.specs.Prelude.{option_and_then}
use Rattle.std.specs.Option.{option_map_or}
use Rattle.sm_io.specs.Files.{FileMap}
use Rattle.texts.specs.Hexadecimals.{read_hex_word, read_hex_key}
use Rattle.mod_layout.specs.declared.Module.{Module}
use Rattle.mod_layout.specs.Table.{module_of}
use Rattle.schedule_file.specs.declared.Entry.{Entry}
use Rattle.elf_objects.specs.Object.{ObjectValue}
use Rattle.linker.specs.Refusals.{link_fault_of}
use Rattle.cli_files.specs.Files.{Held, HoldAll, an_image, a_schedule, the_challenges, the_replies, certificates, a_layout, a_script, a_unit, schedule_needs, object_needs}
use Rattle.cli_calls.specs.Words.{Text}
use Rattle.cli_calls.specs.Ids.{id_of}
use Rattle.cli_calls.specs.Values.{read_cycles, file_named}
use Rattle.cli_calls.specs.Command.{Command, Outcome, runs, nothing, Comes}
use Rattle.cli_calls.specs.CommandNames.{command_of}
use Rattle.cli_calls.specs.ImageRuns.{with_schedule}
use Rattle.sm_cli.specs.CommandLine.{sancus_commands}
use Rattle.sm_cli.specs.AsmCommand.{asm_command, read_asm}
use Rattle.sm_cli.specs.BalanceCommand.{balance_outcome, balance_command, read_balance}
use Rattle.sm_cli.specs.ChallengeCommand.{challenge_command, read_challenge}
use Rattle.sm_cli.specs.CheckCommand.{check_outcome, check_command, read_check}
use Rattle.sm_cli.specs.DisCommand.{dis_command, range_command, read_dis}
use Rattle.sm_cli.specs.KeyCommand.{key_outcome, key_command, read_key}
use Rattle.cli_calls.specs.Linking.{linked, with_objects}
use Rattle.cli_calls.proofs.Given.{objects_of, some_objects, with_these}
use Rattle.cli_calls.proofs.Sound.{Sound, AllSound, some_linked, of_image_run, of_objects, IfSound, IsSomething, if_none, if_some, if_map, if_then, if_else, something_comes}
use Rattle.sm_cli.specs.LinkCommand.{linked_image_text}
use Rattle.sm_cli.specs.LoneCommand.{lone_outcome, lone_command, lone_with, read_lone}
use Rattle.sm_cli.specs.MakeCommand.{make_command, read_make, seed_of}
use Rattle.sm_cli.specs.MonitorCommand.{monitor_command, read_monitor}
use Rattle.sm_cli.specs.declared.pairs.Pair.{Pair}
use Rattle.sm_cli.specs.Pairs.{core_with, pairs_in}
use Rattle.sm_cli.specs.RunCommand.{run_command, read_run}
use Rattle.sm_cli.specs.VendorCommand.{vendor_outcome, vendor_command, read_vendor}
use Rattle.sm_cli.proofs.Running.{objects_unscheduled}

-- ---- the commands

some_run : IsSomething runs
some_run value entries cycles e = cc

some_module : (outcome : Module → Outcome) (o : Option Module) → is_some o ≡ true → ((m : Module) → outcome m ≡ nothing → ⊥) → option_map_or outcome o nothing ≡ nothing → ⊥
some_module outcome None s some e = cc
some_module outcome (Some m) s some e = some m e

sound_key : (name : Text) (id : ℕ) → Sound (key_command name id)
sound_key name id map [] h e = h
sound_key name id map (an_image value ∷ []) h e = some_module (λ m. key_outcome value m []) (module_of id value.table) h.0.is.1 (λ m e. cc) e
sound_key name id map (an_image value ∷ held ∷ more) h e = h.1
sound_key name id map (held ∷ more) h e = h.0.is

sound_dis : (name : Text) (start end : ℕ) → Sound (dis_command name start end)
sound_dis name start end map [] h e = h
sound_dis name start end map (an_image value ∷ []) h e = cc
sound_dis name start end map (an_image value ∷ held ∷ more) h e = h.1
sound_dis name start end map (held ∷ more) h e = h.0.is

sound_challenge : (name : Text) → Sound (challenge_command name)
sound_challenge name map [] h e = h
sound_challenge name map (the_challenges list ∷ []) h e = cc
sound_challenge name map (the_challenges list ∷ held ∷ more) h e = h.1
sound_challenge name map (held ∷ more) h e = h.0.is

sound_vendor : (image challenges trace : Text) (id : ℕ) (provider : List ℕ) → Sound (vendor_command image challenges trace id provider)
sound_vendor image challenges trace id provider map [] h e = h
sound_vendor image challenges trace id provider map (held ∷ []) h e = h.1
sound_vendor image challenges trace id provider map (held ∷ second ∷ []) h e = h.1.1
sound_vendor image challenges trace id provider map (an_image value ∷ the_challenges list ∷ the_replies sent ∷ []) h e = some_module (λ m. vendor_outcome provider value m (the_challenges list ∷ the_replies sent ∷ [])) (module_of id value.table) h.0.is.1 (λ m e. cc) e
sound_vendor image challenges trace id provider map (an_image value ∷ the_challenges list ∷ the_replies sent ∷ held ∷ more) h e = h.1.1.1
sound_vendor image challenges trace id provider map (an_image value ∷ the_challenges list ∷ third ∷ more) h e = h.1.1.0.is
sound_vendor image challenges trace id provider map (an_image value ∷ second ∷ third ∷ more) h e = h.1.0.is
sound_vendor image challenges trace id provider map (held ∷ second ∷ third ∷ more) h e = h.0.is

sound_check : (name : Text) (id : ℕ) → Sound (check_command name id)
sound_check name id map [] h e = h
sound_check name id map (an_image value ∷ []) h e = some_module (λ m. check_outcome value m []) (module_of id value.table) h.0.is.1 (λ m e. cc) e
sound_check name id map (an_image value ∷ held ∷ more) h e = h.1
sound_check name id map (held ∷ more) h e = h.0.is

sound_balance : (name : Text) (id : ℕ) (arms : Text) → Sound (balance_command name id arms)
sound_balance name id arms map [] h e = h
sound_balance name id arms map (held ∷ []) h e = h.1
sound_balance name id arms map (an_image value ∷ certificates own ∷ []) h e = some_module (λ m. balance_outcome value m (certificates own ∷ [])) (module_of id value.table) h.0.is.1 (λ m e. cc) e
sound_balance name id arms map (an_image value ∷ certificates own ∷ held ∷ more) h e = h.1.1
sound_balance name id arms map (an_image value ∷ second ∷ more) h e = h.1.0.is
sound_balance name id arms map (held ∷ second ∷ more) h e = h.0.is

-- what comes of objects, with a schedule and with none
some_ran : (map : FileMap) (ran : List Entry → List ObjectValue → Outcome) (schedule : Option Text) (names : List Text)
    (helds : List Held) → HoldAll (Some map) (schedule_needs schedule ++ object_needs names) helds
    → ((entries : List Entry) (objects : List ObjectValue) → ran entries objects ≡ nothing → ⊥)
    → with_schedule (λ entries. with_objects (ran entries)) helds ≡ nothing → ⊥
some_ran map ran None names helds h some e =
    let objects = objects_of (Some map) names helds h in
    let ran_on : List Entry → List Held → Outcome = λ entries. with_objects (ran entries) in
    let is = ap (with_schedule ran_on) objects.1 ∙ objects_unscheduled ran_on objects.0 ∙ with_these (ran []) objects.0
    in
    some [] objects.0 (sym is ∙ e)
some_ran map ran (Some own) names [] h some e = h
some_ran map ran (Some own) names (a_schedule entries ∷ more) h some e =
    some_objects (Some map) (ran entries) names more h.1 (some entries) e
some_ran map ran (Some own) names (held ∷ more) h some e = h.0.is

sound_run : (layout : Text) (schedule : Option Text) (cycles : ℕ) (objects : List Text) → Sound (run_command layout schedule cycles objects)
sound_run name schedule cycles objects map [] h e = h
sound_run name schedule cycles objects map (a_layout layout ∷ more) h e =
    some_ran map (λ entries own. linked layout own (λ image. runs image entries cycles)) schedule objects more h.1
    (λ entries own. some_linked layout own (λ image. runs image entries cycles) (link_fault_of layout own)
    (λ image e. cc)) e
sound_run name schedule cycles objects map (held ∷ more) h e = h.0.is

sound_lone : (name : Text) (id limit : ℕ) (registers : List ℕ) → Sound (lone_command name id limit registers)
sound_lone name id limit registers map [] h e = h
sound_lone name id limit registers map (an_image value ∷ []) h e = some_module (λ m. lone_outcome limit registers value m []) (module_of id value.table) h.0.is.1 (λ m e. cc) e
sound_lone name id limit registers map (an_image value ∷ held ∷ more) h e = h.1
sound_lone name id limit registers map (held ∷ more) h e = h.0.is

sound_monitor : (name : Text) (schedule : Option Text) (script : Text) → Sound (monitor_command name schedule script)
sound_monitor name schedule script map [] h e = h
sound_monitor name None script map (held ∷ []) h e = h.1
sound_monitor name None script map (an_image value ∷ a_script lines ∷ []) h e = cc
sound_monitor name None script map (an_image value ∷ a_script lines ∷ third ∷ more) h e = h.1.1
sound_monitor name None script map (an_image value ∷ second ∷ more) h e = h.1.0.is
sound_monitor name (Some own) script map (held ∷ []) h e = h.1
sound_monitor name (Some own) script map (held ∷ second ∷ []) h e = h.1.1
sound_monitor name (Some own) script map (an_image value ∷ a_schedule entries ∷ a_script lines ∷ []) h e = cc
sound_monitor name (Some own) script map (an_image value ∷ a_schedule entries ∷ a_script lines ∷ fourth ∷ more) h e = h.1.1.1
sound_monitor name (Some own) script map (an_image value ∷ a_schedule entries ∷ third ∷ more) h e = h.1.1.0.is
sound_monitor name (Some own) script map (an_image value ∷ second ∷ third ∷ more) h e = h.1.0.is
sound_monitor name schedule script map (held ∷ more) h e = h.0.is

sound_asm : (name : Text) → Sound (asm_command name)
sound_asm name map [] h e = h
sound_asm name map (a_unit unit ∷ []) h e = cc
sound_asm name map (a_unit unit ∷ held ∷ more) h e = h.1
sound_asm name map (held ∷ more) h e = h.0.is

sound_make : (seed : ℕ) → Sound (make_command seed)
sound_make seed map helds h e = cc

-- ---- the command of words

of_key : (vs : List Text) → IfSound (read_key vs)
of_key (name ∷ id ∷ []) = if_map (key_command name) (id_of id) (sound_key name)
of_key _ = if_none

of_dis : (vs : List Text) → IfSound (read_dis vs)
of_dis (name ∷ start ∷ end ∷ []) =
    if_then (λ s. option_and_then (λ e. range_command name s e) (read_hex_word end)) (read_hex_word start)
    (λ s. if_then (λ e. range_command name s e) (read_hex_word end) (λ e. if_else ((s % 2 == 0) && nat_le s e) (Some (dis_command name s e)) None (if_some (dis_command name s e) (sound_dis name s e)) if_none))
of_dis _ = if_none

of_challenge : (vs : List Text) → IfSound (read_challenge vs)
of_challenge (name ∷ []) = if_some (challenge_command name) (sound_challenge name)
of_challenge _ = if_none

of_vendor : (vs : List Text) → IfSound (read_vendor vs)
of_vendor (image ∷ id ∷ provider ∷ challenges ∷ trace ∷ []) =
    if_then (λ n. option_map (λ key. vendor_command image challenges trace n key) (read_hex_key provider)) (id_of id)
    (λ n. if_map (λ key. vendor_command image challenges trace n key) (read_hex_key provider) (sound_vendor image challenges trace n))
of_vendor _ = if_none

of_check : (vs : List Text) → IfSound (read_check vs)
of_check (name ∷ id ∷ []) = if_map (check_command name) (id_of id) (sound_check name)
of_check _ = if_none

of_balance : (vs : List Text) → IfSound (read_balance vs)
of_balance (name ∷ id ∷ arms ∷ []) = if_map (λ n. balance_command name n arms) (id_of id) (λ n. sound_balance name n arms)
of_balance _ = if_none

of_run : (vs : List Text) → IfSound (read_run vs)
of_run (layout ∷ schedule ∷ cycles ∷ objects) =
    if_map (λ n. run_command layout (file_named schedule) n objects) (read_cycles cycles) (λ n. sound_run layout (file_named schedule) n objects)
of_run _ = if_none

with_lone : (name : Text) (id limit : Option ℕ) (pairs : Option (List Pair)) → IfSound (lone_with name id limit pairs)
with_lone name (Some id) (Some limit) (Some pairs) = if_some (lone_command name id limit (core_with pairs)) (sound_lone name id limit (core_with pairs))
with_lone name _ _ _ = if_none

of_lone : (vs : List Text) → IfSound (read_lone vs)
of_lone (name ∷ id ∷ limit ∷ pairs) = with_lone name (id_of id) (read_cycles limit) (pairs_in pairs)
of_lone _ = if_none

of_monitor : (vs : List Text) → IfSound (read_monitor vs)
of_monitor (name ∷ schedule ∷ script ∷ []) = if_some (monitor_command name (file_named schedule) script) (sound_monitor name (file_named schedule) script)
of_monitor _ = if_none

of_asm : (vs : List Text) → IfSound (read_asm vs)
of_asm (name ∷ []) = if_some (asm_command name) (sound_asm name)
of_asm _ = if_none

of_make : (vs : List Text) → IfSound (read_make vs)
of_make (seed ∷ []) = if_map make_command (seed_of seed) sound_make
of_make _ = if_none

all_sound : AllSound sancus_commands
all_sound =
    let last : AllSound (drop 8 sancus_commands) = (of_run, (of_lone, (of_monitor, (of_asm, (of_make, tt))))) in
    let later : AllSound (drop 4 sancus_commands) =
    (of_vendor, (of_check, (of_balance, (of_objects linked_image_text, last)))) in
    (of_image_run runs some_run, (of_key, (of_dis, (of_challenge, later))))

-- what comes of the files of a command line is something
pub something : (words : List Text) (map : FileMap) (command : Command) (outcome : Outcome) → command_of sancus_commands words ≡ Some command → Comes (Some map) command outcome → outcome ≡ nothing → ⊥
something = something_comes sancus_commands all_sound

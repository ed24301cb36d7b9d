-- What the outside sees of a state, and the runs from an image.
use Rattle.std.specs.Prelude.{ℕ, List, [], map, slice_index, ◌==◌, nat_lt, if◌then◌else◌, Bool, true, false, Option, Some, None, replicate}
use Rattle.std.specs.Option.{option_map_or}
use Rattle.sm_words.specs.Words.{put, word_at}
use Rattle.sm_words.specs.declared.registers.TheConstants.{PC}
use Rattle.schedule_file.specs.declared.Entry.{Entry}
use Rattle.mod_layout.specs.Table.{Table, place_of}
use Rattle.mod_layout.specs.declared.TheConstants.{DEVICES_END, RESET_VECTOR}
use Rattle.mod_layout.specs.declared.Place.{Place}
use Rattle.mod_layout.specs.declared.Place.TheVariants.{Data}
use Rattle.pc_access.specs.declared.Stop.{Stop}
use Rattle.devices.specs.Devices.{Devices, silent}
use Rattle.image_text.specs.Image.{Image}
use Rattle.reg_backup.specs.declared.backup.After.TheVariants.{Next}
use Rattle.reg_backup.specs.declared.backup.Backup.{Backup}
use Rattle.reg_backup.specs.declared.backup.Phase.TheVariants.{Run}
use Rattle.reg_backup.specs.declared.frames.Frame.{Frame}
use Rattle.reg_backup.specs.declared.frames.Frame.TheVariants.{Plain, Module as Held}
use Rattle.written_machine.specs.Cycle.{after_cycles}
use Rattle.written_machine.specs.State.{State}
use Rattle.written_machine.specs.declared.Hidden.{Hidden}
use Rattle.written_machine.specs.declared.Hidden.TheVariants.{All as AllHidden, Only}

-- whether this module is hidden
abbrev pub is_hidden : Hidden → ℕ → Bool
is_hidden AllHidden id = true
is_hidden (Only m) id = id == m

-- a frame as it is seen: whose it is, and all of it where that module is not hidden
pub data Seen : Type 0 where
  SeenPlain : Seen
  SeenHidden : (id : ℕ) → Seen
  SeenWhole : (backup : Backup) → Seen

-- one frame: of a hidden module its id alone
abbrev pub seen_frame : Hidden → Frame → Seen
seen_frame h Plain = SeenPlain
seen_frame h (Held b) = if is_hidden h b.module then SeenHidden b.module else SeenWhole b

-- a byte, unless it is in the data of a hidden module
abbrev pub seen_byte : Hidden → Place → ℕ → Option ℕ
seen_byte h (Data id) b = if is_hidden h id then None else Some b
seen_byte h _ b = Some b

-- whether the active module is hidden
abbrev pub is_hidden_by : Hidden → Option ℕ → Bool
is_hidden_by h active = option_map_or (is_hidden h) active false

-- what is seen: bytes past the devices, registers where no hidden module is active, and the rest as it is; frames, the newest first
pub record View : Type 0 where
  pub byte : ℕ → Option ℕ
  pub registers : Option (List ℕ)
  pub active : Option ℕ
  pub frames : List Seen
  pub cycle : ℕ
  pub table : Table
  pub devices : Devices
  pub stop : Option Stop

-- the view of a state
unfoldable pub view_of : State → Hidden → View
view_of s h = record {
  byte = λ a. if nat_lt a DEVICES_END then None else seen_byte h (place_of s.table a) (slice_index s.memory a);
  registers = if is_hidden_by h s.active then None else Some s.core;
  active = s.active;
  frames = map (seen_frame h) s.frames;
  cycle = s.cycle;
  table = s.table;
  devices = s.devices;
  stop = s.stop;
}

-- the state of cycle 0: PC is the reset vector's word, all other registers and the devices are 0
abbrev pub boot : Image → List Entry → State
boot i schedule = record {
  core = put (replicate 16 0) PC (word_at (λ a. slice_index i.memory a) RESET_VECTOR);
  memory = i.memory;
  table = i.table;
  devices = silent schedule;
  cycle = 0;
  active = None;
  caller = 0;
  frames = [];
  stop = None;
  phase = Run 0;
  after = Next;
  key = i.node_key;
  handler_sp = i.handler_sp;
}

-- the state after k cycles
abbrev pub at : Image → List Entry → ℕ → State
at i schedule k = after_cycles (boot i schedule) k

-- Reading and writing through devices and memory.
use Rattle.std.specs.Prelude.{ℕ, ◌+◌, List, [], ◌∷◌, nat_lt, Bool, true, false, slice_index, slice_set}
use Rattle.sm_words.specs.Words.{word_of, low_byte, high_byte}
use Rattle.sm_words.specs.declared.width.Width.{Width}
use Rattle.sm_words.specs.declared.width.Width.TheVariants.{Byte, Word}
use Rattle.mod_layout.specs.declared.TheConstants.{DEVICES_END}
use Rattle.pc_access.specs.Accesses.{after_writes}
use Rattle.pc_access.specs.declared.Access.{Access}
use Rattle.devices.specs.Devices.{Devices, read_of, after_read, write_of}

-- devices and memory, as an instruction meets them
pub record Port : Type 0 where
  pub devices : Devices
  pub memory : List ℕ

-- what a read gave, or the list of what several gave, with the port after it
pub record Got (A : Type 0) : Type 0 where
  pub port : Port
  pub value : A

-- a byte from the devices, or from memory
abbrev pub read_in : Bool → Port → ℕ → Got ℕ
read_in true p a = record { port = record p { devices = after_read p.devices a }; value = read_of p.devices a }
read_in false p a = record { port = p; value = slice_index p.memory a }

-- below are the devices
abbrev pub read_byte : Port → ℕ → Got ℕ
read_byte p a = read_in (nat_lt a DEVICES_END) p a

-- a byte to the devices, or to memory
abbrev pub write_in : Bool → Port → ℕ → ℕ → Port
write_in true p a v = record p { devices = write_of p.devices a v }
write_in false p a v = record p { memory = slice_set p.memory a v }

-- below are the devices
abbrev pub write_byte : Port → ℕ → ℕ → Port
write_byte p a v = write_in (nat_lt a DEVICES_END) p a v

-- a word is two bytes, the lower address first
abbrev pub read_width : Width → Port → ℕ → Got ℕ
read_width Byte p a = read_byte p a
read_width Word p a =
    let lo = read_byte p a in
    let hi = read_byte lo.port (a + 1) in
    record { port = hi.port; value = word_of lo.value hi.value }

-- a word is two bytes, the lower address first
abbrev pub write_width : Width → Port → ℕ → ℕ → Port
write_width Byte p a v = write_byte p a (low_byte v)
write_width Word p a v = write_byte (write_byte p a (low_byte v)) (a + 1) (high_byte v)

-- the reads in their order
abbrev pub take_reads : Port → List Access → Got (List ℕ)
take_reads p [] = record { port = p; value = [] }
take_reads p (x ∷ xs) =
    let g = read_width x.width p x.addr in
    let r = take_reads g.port xs in
    record { port = r.port; value = g.value ∷ r.value }

-- the writes in their order, each with its value
abbrev pub put_writes : Port → List Access → List ℕ → Port
put_writes p xs values = after_writes (λ q x v. write_width x.width q x.addr v) p xs values

-- Three called modules, each with two images of different data.
use Rattle.std.specs.Prelude.{◌≡◌, ℕ, ◌+◌, ◌%◌, ◌/◌, List, [], ◌∷◌, codes, replicate, slice_set}
use Rattle.schedule_file.specs.declared.Entry.{Entry}
use Rattle.schedule_file.specs.declared.What.TheVariants.{Up, Down}
use Rattle.mod_layout.specs.declared.Module.{Module}
use Rattle.image_text.specs.Image.{Image}
use Rattle.written_machine.specs.Peers.{Peers}
use Rattle.written_machine.specs.Trace.{lines_after}
use Rattle.written_machine.specs.View.{boot}

-- these words from an address on
abbrev pub with_words : ℕ → List ℕ → List ℕ → List ℕ
with_words a [] memory = memory
with_words a (w ∷ ws) memory = with_words (a + 2) ws (slice_set (slice_set memory a (w % 256)) (a + 1) (w / 256))

-- module 1, with its text from 0x0300 on and a word of data at 0x0400
abbrev pub row_module : ℕ → Module
row_module text_end = record { id = 1; vendor = 7; text = record { start = 0x0300; end = text_end }; ram = record { start = 0x0400; end = 0x0402 } }

-- sets SP, the lines' register, R7 and GIE, and calls module 1; at 0x0214 it loops
abbrev pub caller : List ℕ
caller = 0x4031 ∷ 0x0600 ∷ 0x43d2 ∷ 0x0040 ∷ 0x4037 ∷ 0x0214 ∷ 0xd232 ∷ 0x4030 ∷ 0x0300 ∷ 0x4303 ∷ 0x3fff ∷ []

-- the caller, the module's text, RETI as the handler of line 0, its vector, and the reset vector
unfoldable pub memory_of : List ℕ → List ℕ
memory_of text = with_words 0xfffe (0x0200 ∷ []) (with_words 0xffe2 (0x0500 ∷ []) (with_words 0x0500 (0x1300 ∷ []) (with_words 0x0300 text (with_words 0x0200 caller (replicate 65536 0)))))

-- the image with this word of data
abbrev pub row_image : List ℕ → ℕ → ℕ → Image
row_image text text_end word = record {
  memory = with_words 0x0400 (word ∷ []) (memory_of text);
  table = record { modules = row_module text_end ∷ []; given = 1; room = 8 };
  node_key = replicate 16 0;
  handler_sp = 0x0600;
}

-- it never looks at its data: R5 is cleared, and it leaves
abbrev pub blind : List ℕ
blind = 0x4305 ∷ 0x4030 ∷ 0x0214 ∷ []

-- its data decide a branch at 0x0304 whose arms meet at 0x0318, each after six cycles
abbrev pub balanced : List ℕ
balanced = 0x9382 ∷ 0x0400 ∷ 0x2404 ∷ 0x4215 ∷ 0x0400 ∷ 0x4303 ∷ 0x3c05 ∷ 0x4303 ∷ 0x4303 ∷ 0x4303 ∷ 0x4303 ∷ 0x3c00 ∷ 0x4305 ∷ 0xc032 ∷ 0x0107 ∷ 0x4030 ∷ 0x0214 ∷ []

-- it never looks at its data: it goes back by R7, whose value the rule of flow does not know
abbrev pub returning : List ℕ
returning = 0x4700 ∷ []

-- the data 0 and 1
abbrev pub BlindPeers : Type 0
BlindPeers = Peers (row_image blind 0x0306 0) (row_image blind 0x0306 1) 1

abbrev pub BalancedPeers : Type 0
BalancedPeers = Peers (row_image balanced 0x0322 0) (row_image balanced 0x0322 1) 1

-- the data ab 00 and cd 00
abbrev pub ReturningPeers : Type 0
ReturningPeers = Peers (row_image returning 0x0302 0x00ab) (row_image returning 0x0302 0x00cd) 1

-- line 0 is up in cycle 13
abbrev pub row_pulse : List Entry
row_pulse = record { cycle = 13; what = Up 0 } ∷ record { cycle = 14; what = Down 0 } ∷ []

-- module 1 is entered and, in its second cycle, interrupted
abbrev pub IsInterrupted : Image → Type 0
IsInterrupted image = lines_after (boot image row_pulse) 26 ≡ codes "12 enter 1 from 0\n13 hide 1 vector 1\n25 handler pc 0500\n"

-- so is each of these
abbrev pub PeersAreInterrupted : Type 0
PeersAreInterrupted =
    IsInterrupted (row_image returning 0x0302 0x00ab) × IsInterrupted (row_image returning 0x0302 0x00cd)
    × IsInterrupted (row_image balanced 0x0322 0) × IsInterrupted (row_image balanced 0x0322 1)

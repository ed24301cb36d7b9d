-- The images and schedules of the examples.
use Rattle.std.proofs.Common.{ℕ, ◌+◌, ◌%◌, ◌/◌, List, [], ◌∷◌, ◌++◌, set, replicate}
use Rattle.std.specs.Prelude.{codes}
use Rattle.schedule_file.specs.declared.Entry.{Entry}
use Rattle.schedule_file.specs.declared.What.TheVariants.{Up, Down}
use Rattle.mod_layout.specs.Table.{Table}
use Rattle.mod_layout.specs.declared.Module.{Module}
use Rattle.image_text.specs.Image.{Image}

-- these words from an address on
abbrev pub with_words : ℕ → List ℕ → List ℕ → List ℕ
with_words a [] mem = mem
with_words a (w ∷ ws) mem = with_words (a + 2) ws (set (set mem a (w % 256)) (a + 1) (w / 256))

abbrev pub zeros : List ℕ
zeros = replicate 65536 0

-- module 1, of vendor 7, from 0x0300 and 0x0400 on
abbrev pub first_module : ℕ → ℕ → Module
first_module text_end ram_end = record { id = 1; vendor = 7; text = record { start = 0x0300; end = text_end }; ram = record { start = 0x0400; end = ram_end } }

-- module 2, of vendor 7
abbrev pub second_module : ℕ → Module
second_module text_end = record { id = 2; vendor = 7; text = record { start = 0x0700; end = text_end }; ram = record { start = 0x0780; end = 0x0782 } }

-- a table of both
abbrev pub second_table : ℕ → Table
second_table text_end = record { modules = first_module 0x0306 0x0402 ∷ second_module text_end ∷ []; given = 2; room = 8 }

-- a key of zeros
abbrev pub image : List ℕ → List Module → ℕ → ℕ → Image
image memory modules given sp = record { memory = memory; table = record { modules = modules; given = given; room = 8 }; node_key = replicate 16 0; handler_sp = sp }

-- an image without modules that starts with these words at 0x0200
abbrev pub bare : List ℕ → Image
bare words = image (with_words 0xfffe (0x0200 ∷ []) (with_words 0x0200 words zeros)) [] 0 0

-- a call of a module by a jump to this address, with these data and this text
abbrev pub caller : ℕ → ℕ → List ℕ → ℕ → Image
caller target ram text text_end =
    image (with_words 0xfffe (0x0200 ∷ []) (with_words 0x0400 (ram ∷ []) (with_words 0x0300 text (with_words 0x0200 (0x4037 ∷ 0x0208 ∷ 0x4030 ∷ target ∷ 0x3fff ∷ []) zeros))))
    (first_module text_end 0x0402 ∷ []) 1 0

-- sets SP, enables line 0, sets R7 and GIE, and calls module 1; at 0x0214 it loops
abbrev pub calling : ℕ → List ℕ
calling sp = 0x4031 ∷ sp ∷ 0x43d2 ∷ 0x0040 ∷ 0x4037 ∷ 0x0214 ∷ 0xd232 ∷ 0x4030 ∷ 0x0300 ∷ 0x4303 ∷ 0x3fff ∷ []

-- the same with the vector of line 0, the words at 0x0500, the module's text and its first data word
abbrev pub calling_words : ℕ → ℕ → List ℕ → List ℕ → ℕ → List ℕ
calling_words sp vector handler text ram =
    with_words 0xfffe (0x0200 ∷ []) (with_words 0xffe2 (vector ∷ []) (with_words 0x0500 handler (with_words 0x0400 (ram ∷ []) (with_words 0x0300 text (with_words 0x0200 (calling sp) zeros)))))

-- module 1 takes two cycles of one word each and goes back by R7
abbrev pub two_steps : List ℕ
two_steps = 0x4303 ∷ 0x4303 ∷ 0x4700 ∷ []

-- with this SP, this vector, this handler and this SP of handlers
abbrev pub interrupted : ℕ → ℕ → List ℕ → ℕ → Image
interrupted sp vector handler handler_sp = image (calling_words sp vector handler two_steps 0) (first_module 0x0306 0x0402 ∷ []) 1 handler_sp

-- module 1 with another text and data
abbrev pub with_text : List ℕ → List ℕ → ℕ → ℕ → ℕ → Image
with_text handler text text_end ram_end ram = image (calling_words 0x0600 0x0500 handler text ram) (first_module text_end ram_end ∷ []) 1 0x0600

-- module 2 beside it, called by the handler
abbrev pub with_second : List ℕ → List ℕ → List ℕ → ℕ → Image
with_second handler text second second_end =
    image (with_words 0x0700 second (calling_words 0x0600 0x0500 handler text 0)) (first_module 0x0306 0x0402 ∷ second_module second_end ∷ []) 2 0x0600

-- line 0 is up from one cycle until another
abbrev pub up_until : ℕ → ℕ → List Entry
up_until c d = record { cycle = c; what = Up 0 } ∷ record { cycle = d; what = Down 0 } ∷ []

-- line 0 is up for one cycle
abbrev pub pulse : ℕ → List Entry
pulse c = up_until c (c + 1)

-- the registers at the loop, after all came back
abbrev pub at_loop : List ℕ → List ℕ
at_loop cycle = codes "end " ++ cycle ++ codes " outside 0214 0600 0008 0000 0000 0000 0000 0214 0000 0000 0000 0000 0000 0000 0000 0000\n"

-- The image of a workload.
use Rattle.std.specs.Prelude.{ℕ, ◌-◌, List, [], ◌∷◌, ◌++◌, length, replicate}
use Rattle.std.specs.List.{flat_map}
use Rattle.sm_words.specs.Bytes.{word_bytes}
use Rattle.mod_layout.specs.Table.{Table, empty_table, with_module}
use Rattle.mod_layout.specs.declared.TheConstants.{RESET_VECTOR}
use Rattle.image_text.specs.Image.{Image}
use Rattle.workload.specs.declared.program.TheConstants.{START, PROGRAM, TEXT, MODULE, DATA, VENDOR, HANDLER, LINE_VECTOR, HANDLER_STACK, RETI}

-- words at an address, with zeros before them
unfoldable pub placed_words : ℕ → List ℕ → List ℕ → List ℕ
placed_words addr words before = (before ++ replicate (addr - length before) 0) ++ flat_map word_bytes words

-- the bytes of memory, where the module's data is this word
unfoldable pub memory : ℕ → List ℕ
memory word =
    placed_words RESET_VECTOR (START ∷ [])
    (placed_words LINE_VECTOR (HANDLER ∷ [])
    (placed_words HANDLER (RETI ∷ [])
    (placed_words DATA.start (word ∷ [])
    (placed_words TEXT.start MODULE
    (placed_words START PROGRAM [])))))

-- the table of the one module
abbrev pub table : Table
table = with_module (empty_table 8) VENDOR TEXT DATA

-- the node's key is zeros
unfoldable pub image : ℕ → Image
image word = record { memory = memory word; table = table; node_key = replicate 16 0; handler_sp = HANDLER_STACK }

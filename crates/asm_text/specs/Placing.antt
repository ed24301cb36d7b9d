-- Where each section and each label stands, or the first refusal line by line.
use Rattle.std.specs.Prelude.{ℕ, ◌+◌, ◌-◌, ◌==◌, nat_lt, Bool, if◌then◌else◌, List, [], ◌∷◌, ◌++◌, length, replicate, slice_get, slice_set, slice_index_or, Option, Some, None, is_some, Result, Ok, Err}
use Rattle.std.specs.List.{list_any}
use Rattle.asm_text.specs.declared.TheConstants.{MAX_SECTIONS, MAX_LABELS}
use Rattle.asm_line.specs.declared.TheConstants.{MAX_SIZE}
use Rattle.asm_text.specs.declared.unit.AsmFault.{AsmFault}
use Rattle.asm_text.specs.declared.unit.AsmFault.TheVariants.{Place, Twice, TooMany, Large}
use Rattle.asm_line.specs.declared.statement.SectionKind.{SectionKind}
use Rattle.asm_text.specs.declared.placing.Head.{Head}
use Rattle.asm_text.specs.declared.placing.Spot.{Spot}
use Rattle.asm_line.specs.declared.statement.Statement.{Statement}
use Rattle.asm_line.specs.declared.statement.Statement.TheVariants.{Section, Label, Global}
use Rattle.asm_line.specs.Statements.{statement_size, kind_takes}

-- the sections so far, the numbers of the labels in their order, and where the label of each name stands
pub record Placed : Type 0 where
  pub heads : List Head
  pub labels : List ℕ
  pub spots : List (Option Spot)

-- nothing is placed yet, of a source of so many names
abbrev pub nowhere : ℕ → Placed
nowhere names = record { heads = []; labels = []; spots = replicate names None }

-- ---- a line by itself

abbrev pub has_section : List Head → ℕ → Bool
has_section heads name = list_any (λ h. h.name == name) heads

abbrev pub placed_section : ℕ → Placed → ℕ → SectionKind → Result Placed AsmFault
placed_section n p name kind =
    if has_section p.heads name then Err (Twice n)
    else (if length p.heads == MAX_SECTIONS then Err (TooMany n)
    else Ok (record { heads = p.heads ++ (record { name = name; kind = kind; size = 0 }) ∷ []; labels = p.labels; spots = p.spots }))

-- where the label of a name stands, if it has one
abbrev pub spot_of : List (Option Spot) → ℕ → Option Spot
spot_of spots name = slice_index_or spots name None

-- a label at the end of this section, the last
abbrev pub with_label : ℕ → Placed → Head → ℕ → Result Placed AsmFault
with_label n p h name =
    if is_some (spot_of p.spots name) then Err (Twice n)
    else (if length p.labels == MAX_LABELS then Err (TooMany n)
    else Ok (record { heads = p.heads; labels = p.labels ++ name ∷ []; spots = slice_set p.spots name (Some (record { section = length p.heads - 1; offset = h.size })) }))

-- so many bytes more in this section, the last
abbrev pub with_bytes : ℕ → Placed → Head → ℕ → Result Placed AsmFault
with_bytes n p h size =
    if nat_lt MAX_SIZE (h.size + size) then Err (Large n)
    else Ok (record { heads = slice_set p.heads (length p.heads - 1) (record { name = h.name; kind = h.kind; size = h.size + size }); labels = p.labels; spots = p.spots })

-- a statement that the kind of its section takes
abbrev pub within : ℕ → Placed → Head → Statement ℕ → Result Placed AsmFault
within n p h (Label name) = with_label n p h name
within n p h s = with_bytes n p h (statement_size s)

abbrev pub in_section : ℕ → Placed → Option Head → Statement ℕ → Result Placed AsmFault
in_section n p None s = Err (Place n)
in_section n p (Some h) s = if kind_takes h.kind s then within n p h s else Err (Place n)

abbrev pub last_head : List Head → Option Head
last_head heads = slice_get heads (length heads - 1)

-- line n
abbrev pub placed : ℕ → Placed → Statement ℕ → Result Placed AsmFault
placed n p (Section name kind) = placed_section n p name kind
placed n p (Global name) = Ok p
placed n p s = in_section n p (last_head p.heads) s

-- ---- all lines

-- what follows, where nothing was refused
abbrev pub unrefused : {A B : Type 0} → Result A AsmFault → (A → Result B AsmFault) → Result B AsmFault
unrefused (Ok a) rest = rest a
unrefused (Err fault) rest = Err fault

abbrev pub placed_from : ℕ → Placed → List (Statement ℕ) → Result Placed AsmFault
placed_from n p [] = Ok p
placed_from n p (s ∷ ss) = unrefused (placed n p s) (λ q. placed_from (n + 1) q ss)

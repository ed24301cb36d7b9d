-- What one cycle adds to what a run says.
use Rattle.std.specs.Prelude.{ℕ, List, nat_le, if◌then◌else◌, None}
use Rattle.std.specs.List.{common_prefix_len}
use Rattle.std.specs.Option.{option_or}
use Rattle.std.specs.Str.{bytes_eq}
use Rattle.texts.specs.Lines.{lines_of}
use Rattle.tracer.specs.declared.Event.{Event}
use Rattle.mod_layout.specs.First.{first_in}
use Rattle.pulse_sweep.specs.Columns.{begins, leaves, sends}
use Rattle.pulse_sweep.specs.declared.columns.Columns.{Columns}

-- these numbers, and where one is not there the other's
abbrev pub joined_columns : Columns → Columns → Columns
joined_columns a b = record { begins = option_or a.begins b.begins; leaves = option_or a.leaves b.leaves; sends = option_or a.sends b.sends }

-- the numbers of an event of cycle k
abbrev pub event_columns : ℕ → ℕ → Event → Columns
event_columns c k e = record { begins = begins c k e; leaves = leaves k e; sends = sends k e }

-- of some events of cycle k
abbrev pub first_columns : ℕ → ℕ → List Event → Columns
first_columns c k es = record { begins = first_in (begins c k) es; leaves = first_in (leaves k) es; sends = first_in (sends k) es }

-- of those of cycle k, where it is c or a later one
abbrev pub columns_of : ℕ → ℕ → List Event → Columns
columns_of c k es = record {
  begins = if nat_le c k then first_in (begins c k) es else None;
  leaves = if nat_le c k then first_in (leaves k) es else None;
  sends = if nat_le c k then first_in (sends k) es else None;
}

-- how many lines two texts have in common at their beginning
abbrev pub common_lines : List ℕ → List ℕ → ℕ
common_lines a b = common_prefix_len bytes_eq (lines_of a) (lines_of b)

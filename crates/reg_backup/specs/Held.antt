-- Frames, as a list with the newest first.
use Rattle.std.specs.Prelude.{◌≢◌, ℕ, List, [], ◌∷◌, map, reverse, Option, Some, None}
use Rattle.reg_backup.specs.declared.frames.Frame.{Frame}
use Rattle.reg_backup.specs.declared.frames.Frame.TheVariants.{Plain, Module}
use Rattle.reg_backup.specs.declared.frames.FrameKind.{FrameKind}
use Rattle.reg_backup.specs.declared.frames.FrameKind.TheVariants.{Plain as PlainKind, Module as ModuleKind}

-- the ids of the modules in frames, the newest first
abbrev pub held_ids : List Frame → List ℕ
held_ids [] = []
held_ids (Plain ∷ fs) = held_ids fs
held_ids (Module b ∷ fs) = b.module ∷ held_ids fs

-- what a frame is
abbrev pub frame_kind : Frame → FrameKind
frame_kind Plain = PlainKind
frame_kind (Module b) = ModuleKind b.module

-- the frames' kinds, the oldest first
abbrev pub kinds : List Frame → List FrameKind
kinds fs = map frame_kind (reverse fs)

-- what the newest frame is, if one stands
abbrev pub newest_kind : List Frame → Option FrameKind
newest_kind [] = None
newest_kind (f ∷ fs) = Some (frame_kind f)

-- the number is none of these
abbrev pub IsAbsent : ℕ → List ℕ → Type 0
IsAbsent id [] = Unit {0}
IsAbsent id (x ∷ xs) = (x ≢ id) × IsAbsent id xs

-- no two of these are equal
abbrev pub Differ : List ℕ → Type 0
Differ [] = Unit {0}
Differ (x ∷ xs) = IsAbsent x xs × Differ xs

-- a frame's module is in none of these frames
abbrev pub IsNew : Frame → List Frame → Type 0
IsNew Plain fs = Unit {0}
IsNew (Module b) fs = IsAbsent b.module (held_ids fs)

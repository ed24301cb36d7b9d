-- Moments of an image's machine, with its marks.
use Rattle.std.specs.Prelude.{ℕ, List, map}
use Rattle.schedule_file.specs.declared.Entry.{Entry}
use Rattle.image_text.specs.Image.{Image}
use Rattle.written_machine.specs.Marks.{Marked}
use Rattle.written_machine.specs.View.{at}

-- the machine of an image after k cycles, with room for so many marks, and a mark after each of these numbers of cycles
abbrev pub moment : Image → List Entry → ℕ → ℕ → List ℕ → Marked
moment i schedule most k ks = record { present = at i schedule k; most = most; marks = map (at i schedule) ks }

-- The law of steps. It is what a function of this crate ensures.
use Rattle.std.specs.Prelude.{◌≡◌, ℕ, List, []}
use Rattle.image_text.specs.Image.{Image}
use Rattle.schedule_file.specs.declared.Entry.{Entry}
use Rattle.written_machine.specs.Trace.{trace}
use Rattle.written_machine.specs.View.{boot}
use Rattle.owner_steps.specs.Steps.{text_with}

-- Without what the owner is shown the text is the trace: its lines stand among the others in their order.
abbrev pub TraceIsThere : Type 0
TraceIsThere = (image : Image) (schedule : List Entry) (n : ℕ) → text_with (λ s. []) (boot image schedule) n ≡ trace image schedule n

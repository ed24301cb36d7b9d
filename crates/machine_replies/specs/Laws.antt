-- The laws of a machine's trace under the vendor's tool. Each is what the function of this crate ensures.
use Rattle.std.specs.Prelude.{◌≡◌, ◌↔◌, ℕ, zero, suc, ◌^◌, ◌<◌, List, [], ◌++◌, Ok}
use Rattle.std.specs.List.{All, flat_map}
use Rattle.schedule_file.specs.declared.Entry.{Entry}
use Rattle.mod_layout.specs.declared.Module.{Module}
use Rattle.mod_keys.specs.Keys.{module_key, tag_of}
use Rattle.image_text.specs.Image.{Image, IsImage}
use Rattle.tracer.specs.Laws.{IsEvent}
use Rattle.written_machine.specs.Cycle.{cycle, after_cycles}
use Rattle.written_machine.specs.State.{State}
use Rattle.written_machine.specs.Trace.{trace}
use Rattle.written_machine.specs.View.{at, boot}
use Rattle.vendor_tool.specs.declared.Judgement.TheVariants.{Genuine}
use Rattle.vendor_tool.specs.Laws.{StandsInPlace, sent_in}
use Rattle.vendor_tool.specs.Replies.{replies_of}
use Rattle.vendor_tool.specs.Report.{judgement}

-- the bytes that a machine sends in the next n cycles
abbrev pub sent_after : State → ℕ → List ℕ
sent_after s zero = []
sent_after s (suc n) = sent_after s n ++ flat_map sent_in (cycle (after_cycles s n)).events

-- What a cycle of a run tells has words and bytes where the trace's lines have them.
abbrev pub CyclesAreTold : Type 0
CyclesAreTold = (a : Image) (schedule : List Entry) (k : ℕ) → IsImage a → All IsEvent (cycle (at a schedule k)).events

-- The trace of an image, on any schedule and for any number of cycles, is read as the bytes that the machine sent.
abbrev pub MachineTracesAreRead : Type 0
MachineTracesAreRead = (a : Image) (schedule : List Entry) (n : ℕ) → IsImage a → n < 2 ^ 64
    → replies_of (trace a schedule n) ≡ Ok (sent_after (boot a schedule) n)

-- Under the key of a module on a node, the challenge i is called genuine exactly where the bytes that the machine sent in its place are
-- the module's tag of the nonce.
abbrev pub GenuineWasSent : Type 0
GenuineWasSent = (a : Image) (schedule : List Entry) (n : ℕ) (replies node_key text nonce : List ℕ) (m : Module) (i : ℕ)
    → IsImage a → n < 2 ^ 64 → replies_of (trace a schedule n) ≡ Ok replies
    → (judgement (module_key node_key m text) nonce replies i ≡ Genuine) ↔ StandsInPlace (sent_after (boot a schedule) n) i (tag_of node_key m text nonce)

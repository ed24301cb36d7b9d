-- What playing a script on a sink does.
use Rattle.std.specs.Prelude.{◌≡◌, ℕ, ◌<◌, List, ◌∷◌, ◌++◌, length, take, Option}
use Rattle.std.specs.Io.KnownBytes.{Appends}
use Rattle.schedule_file.specs.declared.Entry.{Entry}
use Rattle.image_text.specs.Image.{Image}
use Rattle.sm_io.specs.Sink.{Took, CutOff}
use Rattle.written_machine.specs.Marks.{Marked}
use Rattle.written_machine.specs.Peers.{Peers}
use Rattle.written_machine.specs.Script.{Move, led, moves, moves_text, play}
use Rattle.written_machine.specs.declared.ScriptLine.{ScriptLine}
use Rattle.isolation.specs.Moments.{moment}
use Rattle.board.specs.declared.Ran.{Ran}
use Rattle.board.specs.Ran.{WholeOrCut}
use Rattle.board.specs.Alike.{TookLines}

module _ {S : Type 0} (taken : S → Option (List ℕ)) (faults sure : S → ℕ) where
  -- all these moves were done, and the sink took their text
  pub record Whole (old new : Marked) (before after : S) (ms : List Move) : Type 0 where
    pub state : new ≡ led old ms
    pub text : Took taken faults sure before after (moves_text ms)

  -- the sink failed within the text of one of these moves: it took the text of those before it, and a front of its own that is
  -- shorter; and the machine stands where that move leads
  pub record CutShort (new : Marked) (before after : S) (ms : List Move) : Type 0 where
    pub earlier : List Move
    pub move : Move
    pub later : List Move
    pub parts : ms ≡ earlier ++ move ∷ later
    pub state : new ≡ move.after
    pub front : ℕ
    pub shorter : front < length move.text
    pub bytes : Appends (taken before) (taken after) (moves_text earlier ++ take front move.text)
    pub cut : CutOff taken faults sure before after (moves_text ms)

  -- a script that is played to its end, or cut short by the sink
  abbrev pub Plays : List ScriptLine → Marked → Marked → S → S → Ran → Type 0
  Plays script old new before after ended =
      WholeOrCut new.present.stop (Whole old new before after (moves old script)) (CutShort new before after (moves old script)) ended

  -- where the board stands after k cycles of an image, with marks after so many cycles each, the sink took what the script
  -- writes there for each peer, or failed within it
  abbrev pub PeersPlay : List ScriptLine → Marked → S → S → Ran → Type 0
  PeersPlay script old before after ended = (a b : Image) (m : ℕ) (schedule : List Entry) (most k : ℕ) (ks : List ℕ) → Peers a b m
      → old ≡ moment a schedule most k ks → TookLines taken faults sure ended before after (play (moment b schedule most k ks) script)

-- A sink in memory.
use Rattle.std.specs.Prelude.{ℕ, ◌+◌, ◌-◌, min, Bool, false, ◌==◌, ◌||◌, List, [], ◌∷◌, ◌++◌, length, take, if◌then◌else◌}
use Rattle.sm_io.specs.Faults.{counted}
use Rattle.sm_io.specs.Calls.{is_listed}

-- what contracts see: the bytes taken, the room for them; the calls that are to fail, and how many calls and faults there were
pub record MemorySink : Type 0 where
  pub taken : List ℕ
  pub room : ℕ
  pub failing : List ℕ
  pub calls : ℕ
  pub faults : ℕ

-- how many bytes it is sure to take, by its list
abbrev pub sure_room : MemorySink → List ℕ → ℕ
sure_room sink [] = sink.room - length sink.taken
sure_room sink (n ∷ ns) = 0

-- how many bytes of a piece there is room for
abbrev pub fitting : MemorySink → List ℕ → ℕ
fitting sink piece = min (length piece) (sink.room - length sink.taken)

-- whether a put of this piece fails: an empty piece never does; another does in a listed call, and where there is no room
abbrev pub put_fails : MemorySink → List ℕ → Bool
put_fails sink [] = false
put_fails sink (b ∷ bs) = is_listed sink.failing sink.calls || (sink.room - length sink.taken == 0)

-- one call more, and either one fault more or the bytes that there is room for
abbrev pub sink_after : MemorySink → List ℕ → MemorySink
sink_after sink piece =
    if put_fails sink piece
    then record sink { calls = counted (sink.calls + 1); faults = counted (sink.faults + 1) }
    else record sink { calls = counted (sink.calls + 1); taken = sink.taken ++ take (fitting sink piece) piece }

-- The statuses: their numbers, with which the program ends, and that of an output that is put.
use Rattle.std.specs.Prelude.{ℕ, Result, Ok, Err}
use Rattle.cli_files.specs.declared.answers.Status.{Status}
use Rattle.cli_files.specs.declared.answers.Status.TheVariants as status
use Rattle.sm_io.specs.declared.sink.Failed.{Failed}

abbrev pub status_number : Status → ℕ
status_number status.Done = 0
status_number status.Usage = 2
status_number status.Stopped = 3
status_number status.BadFile = 4
status_number status.LinkRefused = 5
status_number status.ReadFault = 6
status_number status.WriteFault = 7
status_number status.NoMemory = 8
status_number status.CheckNo = 9

-- by what putting the whole of an output did
abbrev pub status_after : Result (Unit {0}) Failed → Status
status_after (Ok put) = status.Done
status_after (Err failed) = status.WriteFault

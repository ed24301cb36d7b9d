-- How a call ends, and the data that it leaves.
use Rattle.std.specs.Prelude.{ℕ, List, length, replicate}
use Rattle.cpu_step.specs.Lone as lone
use Rattle.lone_run.specs.declared.Outcome.{Outcome}
use Rattle.lone_run.specs.declared.Outcome.TheVariants.{Exit, Closed, Broken, Running}

-- the answer to a call that ends like this
abbrev pub call_answer : lone.CallEnd → Outcome
call_answer (lone.Exit core left c) = Exit core c
call_answer (lone.Closing core left c) = Closed core c
call_answer (lone.Broken left c) = Broken c
call_answer lone.Running = Running

-- the data then: 0 once the module has closed, and as they stand where it runs on
abbrev pub data_left : lone.CallEnd → List ℕ → List ℕ
data_left (lone.Exit core left c) now = left
data_left (lone.Closing core left c) now = replicate (length left) 0
data_left (lone.Broken left c) now = left
data_left lone.Running now = now

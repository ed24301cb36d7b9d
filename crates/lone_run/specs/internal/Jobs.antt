-- What the code's own invariants say of: Jobs.
use Rattle.std.specs.Prelude.{ℕ, ◌-◌, List}
use Rattle.cpu_step.specs.Lone as lone
use Rattle.lone_run.specs.declared.job.Job.{Job}
use Rattle.lone_run.specs.declared.job.Lasts.{Lasts}

-- the call of the module by itself
abbrev pub lone_call : Job → lone.Job
lone_call j = lone.job_of j.node_key.now j.owner.now j.text.now j.caller

-- where it stands in the first cycle of an instruction that lasts like this
abbrev pub lasting : List ℕ → List ℕ → Lasts → lone.Lone
lasting core ram lasts = record { core = core; data_bytes = ram; rest = lasts.cycles - 1; closing = lasts.closing }

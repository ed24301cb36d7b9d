-- The two sections as an instruction reads and writes them: what it writes is kept until it is done.
use Rattle.std.specs.Prelude.{ℕ, List, Option, Some, None}
use Rattle.sm_words.specs.declared.width.Width.{Width}
use Rattle.mod_layout.specs.declared.Module.{Module}
use Rattle.pc_access.specs.declared.Kind.TheVariants.{Write}
use Rattle.cpu_step.specs.Lone as lone
use Rattle.lone_run.specs.internal.Jobs.{lone_call}
use Rattle.lone_run.specs.declared.sections.Put.{Put}
use Rattle.lone_run.specs.declared.sections.Sections.{Sections}

-- whose call it is, the data before the instruction, and its write
pub record HeldSections : Type 0 where
  pub job : lone.Job
  pub ram : List ℕ
  pub put : Option Put

abbrev pub held : Sections → HeldSections
held s = record { job = lone_call s.job; ram = s.ram.now; put = s.put }

-- what a read gives
abbrev pub section_answer : HeldSections → Width → ℕ → ℕ
section_answer s w a = lone.value_at w (lone.lone_byte s.job s.ram) a

-- the write is kept
abbrev pub after_held : HeldSections → Width → ℕ → ℕ → HeldSections
after_held s w a v =
    record s { put = Some (record { access = record { kind = Write; addr = a; width = w }; value = v }) }

-- the data after the write, if there is one
abbrev pub after_put : Module → List ℕ → Option Put → List ℕ
after_put m ram None = ram
after_put m ram (Some p) = lone.lone_write m p.access.width ram p.access.addr p.value

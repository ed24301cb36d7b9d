-- The terms under which a program is checked.
use Rattle.flow_rule.specs.Terms.{Terms}
use Rattle.flow_check.specs.declared.program.Program.{Program}

abbrev pub terms_in : Program → Terms
terms_in p = record { answers = p.answers.now; public = p.public.now }

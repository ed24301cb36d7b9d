use Rattle.terms_file.proofs.Registers.{answers_may_be}
use Rattle.terms_file.proofs.laws.terms_name_answers.Goals as goal

pub returns : goal.returns
returns c = record { registers = answers_may_be }

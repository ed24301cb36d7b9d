use Rattle.texts.proofs.LawLemmas.{decimals_are_read, digits_are_counted}
use Rattle.texts.proofs.laws.one_decimal.Goals as goal

pub returns-clause-read : goal.returns-clause-read
returns-clause-read c = decimals_are_read

pub returns-clause-digits : goal.returns-clause-digits
returns-clause-digits c = digits_are_counted

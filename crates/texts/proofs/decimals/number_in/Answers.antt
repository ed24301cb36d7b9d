use Rattle.std.proofs.lemmas.Fmt.{IsAscii-from_digits}
use Rattle.std.proofs.lemmas.Str.{IsUtf8-from_ascii}
use Rattle.texts.proofs.DecimalLemmas.{digits_model, decimal_parts}
use Rattle.texts.proofs.decimals.number_in.Goals as goal

pub unreachable-requires : goal.unreachable-requires
unreachable-requires c =
    let digits = (decimal_parts c.args.digits.now c.requires.decimal).digits in
    c.in-Err.ensures.cases.0 (IsUtf8-from_ascii c.args.digits.now (IsAscii-from_digits c.args.digits.now (digits_model.to c.args.digits.now digits)))

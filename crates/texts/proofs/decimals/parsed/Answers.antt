use Rattle.texts.proofs.DecimalLemmas.{digits_model, decimal_parts, some_if_parsed}
use Rattle.std.proofs.lemmas.Str.Parse.{parse_digits}
use Rattle.texts.proofs.decimals.parsed.Goals as goal

pub returns : goal.returns
returns c =
    let d = decimal_parts c.args.digits.now c.requires.decimal in
    some_if_parsed c.parse.result c.ok.result _ _ _ d.some (parse_digits digits_model 64 c.args.digits.now c.parse.result c.parse.ensures.value.0 d.digits) c.ok.ensures.value

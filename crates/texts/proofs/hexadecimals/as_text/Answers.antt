use Rattle.std.proofs.lemmas.Str.{IsUtf8-from_ascii}
use Rattle.texts.proofs.hexadecimals.as_text.Goals as goal

pub unreachable-requires : goal.unreachable-requires
unreachable-requires g c = let ok = c.in-Err.ensures.variant.1 (IsUtf8-from_ascii c.args.digits.now c.requires) in absurd cc

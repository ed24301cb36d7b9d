use Rattle.std.proofs.Common.{ℕ, List, ◌++◌, codes, ◌∙◌, subst}
use Rattle.sm_io.specs.Sink.{Puts}
use Rattle.lab_cli.proofs.public_words.put_line.Goals as goal

pub returns : goal.returns
returns g c =
    subst (λ (name : List ℕ). Puts g.O.Sink.taken g.O.Sink.faults g.O.Sink.sure c.args.out.now c.put_named.new.sink
    (codes "no " ++ (name ++ codes " NotData\n")) c.put_named.result)
    (c.as_bytes.ensures.value ∙ c.as_str.ensures.value ∙ c.hex_word.ensures.text) c.put_named.ensures

use Rattle.cli_calls.specs.Command.{offer_answer}
use Rattle.lab_cli.proofs.terms.OfferedTermsJudgedText.put.Goals as goal

pub returns-clause-told : goal.returns-clause-told
returns-clause-told g c =
    let offered = c.in_ok-offered.offered in
    record {
      answer = offer_answer offered.text.items offered.verdict;
      is = c.in_ok-offered.ensures;
      sound = tt;
      ends = c.put_offer.ensures;
    }

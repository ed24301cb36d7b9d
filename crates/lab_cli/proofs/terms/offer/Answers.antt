use Rattle.std.proofs.Common.{ℕ, List, [], length, ap, ◌∙◌, subst}
use Rattle.terms_file.specs.declared.Term.{Term}
use Rattle.terms_file.specs.Terms.{terms_text}
use Rattle.written_machine.specs.Peers.{section}
use Rattle.cli_calls.specs.Command.{offer_answer}
use Rattle.cli_calls.specs.Offers.{IsOffered}
use Rattle.lab_cli.proofs.terms.offer.Goals as goal

pub returns : goal.returns
returns c =
    let owner = c.args.chosen.now.«module» in
    let text = section owner.text c.args.chosen.now.image.memory in
    let terms = c.in_ok-last.last.terms.list.items in
    let verdict = c.in_ok-last.last.verdict in
    record {
      terms = terms;
      verdict = verdict;
      is = subst (λ (granted : List Term). IsOffered owner text c.args.told.now.arms.list.items granted
          (length granted) [] terms verdict) c.as_slice.ensures.value c.in_ok-last.ensures;
      tells = ap (λ (l : List ℕ). offer_answer l verdict)
          (c.in_ok-text.ensures ∙ ap terms_text c.as_slice-2.ensures.value);
    }

use Rattle.std.proofs.Common.{Some, None, refl, sym, ap, ◌∙◌, subst}
use Rattle.std.specs.Option.{option_copied}
use Rattle.written_machine.specs.Peers.{section}
use Rattle.cli_calls.specs.Command.{gives}
use Rattle.cli_files.specs.Files.{the_terms, terms_file, need, Holds}
use Rattle.lab_cli.specs.PublicWords.{not_data, not_data_answer}
use Rattle.lab_cli.specs.internal.UnderTerms.{AreArmsOf}
use Rattle.lab_cli.proofs.UnderTerms.{judged_comes}
use Rattle.lab_cli.proofs.under_terms.UnderTermsAnswering.answer.Goals as goal

pub returns-in-Ok-put-clause-ok : goal.returns-in-Ok-put-clause-ok
returns-in-Ok-put-clause-ok g c =
    let own = c.args.self.now in
    let files = g.F.Files.content c.args.files.now in
    let chosen = c.in-Ok.chosen in
    let terms = c.in-Ok-load_told.told.terms.list.items in
    let arms = c.in-Ok-load_told.told.arms.list.items in
    let judging = g.T.JudgedText.judging in
    let terms_held = subst (λ o. Holds o (need own.terms.now terms_file) (the_terms terms))
    c.in-Ok.ensures.same_files c.in-Ok-load_told.ensures.terms in
    let arms_held = subst (λ o. AreArmsOf o (option_copied own.arms) arms) c.in-Ok.ensures.same_files
    c.in-Ok-load_told.ensures.arms in
    record {
      answer = c.in-Ok-put.ensures.told.answer;
      served = record {
        outcome = judging terms chosen.«module» (section chosen.«module».text chosen.image.memory) arms;
        comes = judged_comes judging files own.image.now own.id own.terms.now (option_copied own.arms)
            chosen.image chosen.«module» terms arms None c.in-Ok.ensures.holds terms_held arms_held
            c.in-Ok.ensures.chosen
            (sym c.in_default.is ∙ c.not_data.ensures ∙ ap (not_data chosen.«module») c.as_slice.ensures.value);
        is = c.in-Ok-put.ensures.told.is;
      };
      sound = c.in-Ok-put.ensures.told.sound;
      ends = c.in-Ok-put.ensures.told.ends;
    }

pub returns-in-Some-clause-ok : goal.returns-in-Some-clause-ok
returns-in-Some-clause-ok g c =
    let own = c.args.self.now in
    let files = g.F.Files.content c.args.files.now in
    let chosen = c.in-Ok.chosen in
    let terms = c.in-Ok-load_told.told.terms.list.items in
    let arms = c.in-Ok-load_told.told.arms.list.items in
    let addr = c.in-Some.addr in
    let terms_held = subst (λ o. Holds o (need own.terms.now terms_file) (the_terms terms))
    c.in-Ok.ensures.same_files c.in-Ok-load_told.ensures.terms in
    let arms_held = subst (λ o. AreArmsOf o (option_copied own.arms) arms) c.in-Ok.ensures.same_files
    c.in-Ok-load_told.ensures.arms in
    record {
      answer = not_data_answer addr;
      served = record {
        outcome = gives (not_data_answer addr);
        comes = judged_comes g.T.JudgedText.judging files own.image.now own.id own.terms.now (option_copied own.arms)
            chosen.image chosen.«module» terms arms (Some addr) c.in-Ok.ensures.holds terms_held arms_held
            c.in-Ok.ensures.chosen
            (sym c.in-Some.is ∙ c.not_data.ensures ∙ ap (not_data chosen.«module») c.as_slice.ensures.value);
        is = refl;
      };
      sound = tt;
      ends = c.put_not_data.ensures;
    }

use Rattle.mod_layout.proofs.TableLemmas.{table_more}
use Rattle.attest.proofs.Places.{text_allowed, ram_allowed}
use Rattle.run_laws.proofs.unrefused.Goals as goal

pub returns : goal.returns
returns c = record {
  texts = λ t m own active held ok e. text_allowed t active held m own ok e;
  zeros = λ t text ram active held ok e. ram_allowed t active held 0 text ram (table_more t 0 text ram ok e);
}

use Rattle.image_text.proofs.OneText.{text_has_no_refusal, images_of_one_text}
use Rattle.image_text.proofs.ReadBack.{read_back}
use Rattle.image_text.proofs.laws.one_text.Goals as goal

pub returns-clause-accepted : goal.returns-clause-accepted
returns-clause-accepted c = λ i h. text_has_no_refusal i h

pub returns-clause-alone : goal.returns-clause-alone
returns-clause-alone c = λ i j p q e. images_of_one_text i j p q e

pub returns-clause-reads_back : goal.returns-clause-reads_back
returns-clause-reads_back c = λ i result h r. read_back i result h r

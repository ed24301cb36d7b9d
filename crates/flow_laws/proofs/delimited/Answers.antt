use Rattle.flow_rule.specs.Arms.{flow_under}
use Rattle.flow_rule.specs.Values.{known_flags}
use Rattle.flow_laws.specs.Exploring.{forks, most_states, first_state}
use Rattle.flow_laws.specs.Laws.{IsData, AgreeOn}
use Rattle.flow_laws.specs.Releases.{releasing}
use Rattle.flow_laws.proofs.Explorations.{unrolls}
use Rattle.flow_laws.proofs.Calls.{released_call}
use Rattle.flow_laws.proofs.delimited.Goals as goal

pub returns : goal.returns
returns c = record {
  told = λ ps terms m text arms steps left kept t r e0 key d1 d2 a b agree e ok n.
      released_call ps terms key m text arms kept steps t r (unrolls (releasing ps (flow_under known_flags terms m text arms)) (forks m text) most_states left kept (first_state terms m text) steps e0) n
      (λ x y. IsData m x × IsData m y × AgreeOn m terms.public x y)
      (λ x y p q agree. (record { long = p.long; bytes = p.bytes }, record { long = q.long; bytes = q.bytes }, agree)) e ok d1 d2
      (record { long = a.long; bytes = a.bytes }) (record { long = b.long; bytes = b.bytes }) agree;
}

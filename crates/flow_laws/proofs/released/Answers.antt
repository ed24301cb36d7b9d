use Rattle.flow_laws.specs.Laws.{IsData, AgreeOn}
use Rattle.flow_laws.proofs.Calls.{one_call, even_under}
use Rattle.flow_laws.proofs.released.Goals as goal

pub returns : goal.returns
returns c = record {
  even = λ terms m text arms t r v key d1 d2 a b agree es n h.
      even_under terms key m text arms n es d1 d2 t r v (record { long = a.long; bytes = a.bytes }) (record { long = b.long; bytes = b.bytes }) agree h;
  kept = λ terms m text arms t r v key d1 d2 a b agree e ok n.
      one_call terms key m text arms t r v n (λ x y. IsData m x × IsData m y × AgreeOn m terms.public x y)
      (λ x y p q agree. (record { long = p.long; bytes = p.bytes }, record { long = q.long; bytes = q.bytes }, agree)) e ok d1 d2
      (record { long = a.long; bytes = a.bytes }) (record { long = b.long; bytes = b.bytes }) agree;
}

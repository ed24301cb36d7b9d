use Rattle.flow_laws.proofs.Calls.{even_lists}
use Rattle.flow_laws.proofs.evenness.Goals as goal

pub returns : goal.returns
returns c = record { even = λ m text arms t r v key d1 d2 a b es n h. even_lists key m text arms n es d1 d2 t r v (record { long = a.long; bytes = a.bytes }) (record { long = b.long; bytes = b.bytes }) h }

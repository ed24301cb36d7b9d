-- The module's text is that of the balanced peers, so it is accepted with the certificate of its branch.
use Rattle.std.proofs.Common.{◌≡◌, ℕ, refl, sym, subst}
use Rattle.flow_rule.specs.declared.Verdict.TheVariants.{Yes}
use Rattle.flow_rule.specs.Arms.{VerdictWith}
use Rattle.written_machine.specs.Peers.{section}
use Rattle.peer_rows.specs.Rows.{row_module, balanced}
use Rattle.workload.specs.Program.{placed_words, memory, image}
use Rattle.peer_rows.proofs.Examples.{bytes_of, meet, balanced_accepted}

text_is : (v : ℕ) → section (row_module 0x0322).text (image v).memory ≡ bytes_of balanced
unfolding image memory placed_words bytes_of
text_is v = refl

pub accepted : (v : ℕ) → VerdictWith (row_module 0x0322) (section (row_module 0x0322).text (image v).memory) meet Yes
accepted v = subst (λ t. VerdictWith (row_module 0x0322) t meet Yes) (sym (text_is v)) balanced_accepted

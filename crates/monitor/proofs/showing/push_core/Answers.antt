use Rattle.std.proofs.Common.{◌≡◌, ◌++◌, ◌∙◌, ap, sym, codes, None}
use Rattle.tracer.specs.Lines.{registers_from}
use Rattle.written_machine.specs.Script.{registers_text}
use Rattle.written_machine.specs.View.{view_of}
use Rattle.monitor.proofs.Pieces.{two_pieces, outside_text}
use Rattle.monitor.proofs.showing.push_core.Goals as goal

pub returns-in-None-clause-text : goal.returns-in-None-clause-text
unfolding view_of
returns-in-None-clause-text c =
    let s = c.args.view.now.state in
    let outside : s.active ≡ None = sym c.in-None.ensures.shown in
    two_pieces c.args.out.now.bytes (codes "outside") (registers_from s.core 0 16) c.push_str-in-None.new.self.bytes c.push_registers.new.out.bytes c.push_str-in-None.ensures.bytes c.push_registers.ensures.text
    ∙ ap (λ t. c.args.out.now.bytes ++ t) (sym (outside_text s outside))
    ∙ ap (λ h. c.args.out.now.bytes ++ registers_text (view_of s h).registers (view_of s h).active) (sym c.requires.hidden)

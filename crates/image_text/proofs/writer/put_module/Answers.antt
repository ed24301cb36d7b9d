use Rattle.image_text.proofs.WriteLemmas.{module_put}
use Rattle.image_text.proofs.writer.put_module.Goals as goal

pub returns : goal.returns
returns c =
    module_put c.args.module c.args.text.now.items c.extend_from_slice.new.self.items c.put_word.new.text.items c.extend_from_slice-2.new.self.items c.put_section.new.text.items c.extend_from_slice-3.new.self.items c.put_section-2.new.text.items c.extend_from_slice-4.new.self.items
    c.in_ok-extend_from_slice.ensures.items c.in_ok-put_word.ensures c.in_ok-extend_from_slice-2.ensures.items c.in_ok-put_section.ensures c.in_ok-extend_from_slice-3.ensures.items c.in_ok-put_section-2.ensures c.in_ok-extend_from_slice-4.ensures.items

use Rattle.std.proofs.Common.{List, ℕ, ◌++◌, ap, ◌∙◌}
use Rattle.std.specs.List.{flat_map}
use Rattle.obj_write.specs.Sections.{head_bytes}
use Rattle.obj_write.proofs.TableLemmas.{put_is}
use Rattle.obj_write.proofs.sections.Sections.put.Goals as goal

pub returns : goal.returns
returns c =
    put_is c.args.self.now c.args.out.now.items c.extend_from_slice.new.self.items c.extend_from_slice-2.new.self.items c.put_heads.new.out.items
    (c.in_ok-extend_from_slice.ensures.items ∙ ap (λ (l : List ℕ). c.args.out.now.items ++ l) c.deref.ensures.value)
    c.in_ok-extend_from_slice-2.ensures.items
    (c.in_ok-put_heads.ensures ∙ ap (λ l. c.extend_from_slice-2.new.self.items ++ flat_map head_bytes l) c.deref-2.ensures.value)

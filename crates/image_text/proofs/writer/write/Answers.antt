use Rattle.std.proofs.Common.{ℕ, ◌++◌, [], List, length, drop, refl, ap, ◌∙◌}
use Rattle.std.proofs.lemmas.Slice.{pushed}
use Rattle.image_text.specs.Image.{Image}
use Rattle.image_text.specs.ImageText.{line_before, first_line, end_line, count_text, rows_text}
use Rattle.image_text.proofs.WriteLemmas.{all_written}
use Rattle.image_text.proofs.writer.write.Goals as goal

pub returns : goal.returns
returns c =
    let image : Image = record { memory = c.image.inside.memory.items; table = c.image.inside.table; node_key = c.image.inside.node_key; handler_sp = c.image.inside.handler_sp } in
    let room = c.room-room.ensures.room in
    record {
      text = rw (← c.image.view_is) (all_written image c.put_first.new.text.items c.put_key.new.text.items c.put_handler.new.text.items c.put_count.new.text.items c.put_modules.new.text.items c.put_rows.new.text.items c.extend_from_slice.new.self.items
          c.image.invariant.all_held
          (c.in_ok-put_first.ensures ∙ ap (λ (l : List ℕ). l ++ line_before (first_line c.room-room.result) []) c.new-text.ensures.items ∙ ap (λ (n : ℕ). [] ++ line_before (first_line n) []) room)
          c.in_ok-put_key.ensures
          c.in_ok-put_handler.ensures
          (c.in_ok-put_count.ensures ∙ ap (λ (n : ℕ). c.put_handler.new.text.items ++ count_text n (length image.table.modules) []) room)
          c.in_ok-put_modules.ensures
          (λ rest. c.in_ok-put_rows.ensures rest ∙ ap (λ (m : List ℕ). c.put_modules.new.text.items ++ rows_text 4064 512 (drop 512 m) rest) c.deref.ensures.value)
          (pushed (line_before end_line []) refl c.in_ok-extend_from_slice.was c.extend_from_slice.ensures.items));
    }

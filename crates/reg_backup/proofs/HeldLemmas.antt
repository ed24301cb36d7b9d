-- On the kinds of frames.
use Rattle.std.proofs.Common.{◌≡◌, ℕ, ◌<◌, List, length, refl, sym, ◌∙◌, ap, get_or, reverse, map, Some, slice_get}
use Rattle.std.proofs.lemmas.List.{reverse-reverse}
use Rattle.std.proofs.lemmas.Option.{slice_get-map, slice_get_read}
use Rattle.std.specs.Option.{option_map}
use Rattle.reg_backup.specs.declared.frames.Frame.{Frame}
use Rattle.reg_backup.specs.Held.{frame_kind, kinds}

-- the kind at a place, by the frame at that place of the list with the oldest first
pub slice_get-kinds : (frames items : List Frame) (n : ℕ) (f : Frame) → reverse items ≡ frames → n < length items →
    f ≡ get_or items n f → Some (frame_kind f) ≡ slice_get (kinds frames) n
slice_get-kinds frames items n f view below read =
    sym (ap (λ fs. slice_get (map frame_kind (reverse fs)) n) (sym view)
    ∙ ap (λ fs. slice_get (map frame_kind fs) n) (reverse-reverse items)
    ∙ slice_get-map frame_kind items n
    ∙ ap (option_map frame_kind) (slice_get_read items (length items) n f refl below read))

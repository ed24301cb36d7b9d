use Rattle.std.proofs.Common.{List, ℕ, [], ◌∷◌, ◌++◌, ap, ◌∙◌}
use Rattle.obj_write.proofs.TableLemmas.{no_names}
use Rattle.obj_write.proofs.strings.Strings.new.Goals as goal

pub returns : goal.returns
returns c = no_names _ (c.in_ok-push.ensures.items ∙ ap (λ (l : List ℕ). l ++ 0 ∷ []) c.new-bytes.ensures.items) c.new.ensures.items

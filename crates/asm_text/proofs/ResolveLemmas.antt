-- What the code found of the names is what the definitions say of them.
use Rattle.std.proofs.Common.{ℕ, ◌≡◌, Bool, not, List, [], get_or, ap, ◌∙◌}
use Rattle.std.specs.Prelude.{fold, filter}
use Rattle.asm_line.specs.declared.statement.Statement.{Statement}
use Rattle.asm_text.specs.internal.Numbering.{AreGlobals, AreBelow}
use Rattle.asm_text.specs.Placing.{Placed}
use Rattle.asm_text.specs.Symbols.{is_global_name, once, below, order_of}
use Rattle.asm_text.specs.internal.Symbols.{is_local_name}
use Rattle.asm_text.proofs.OrderLemmas.{same_filter}

pub order_same : (statements : List (Statement ℕ)) (p : Placed) (names : ℕ) (globals : List Bool) (order : List ℕ) → AreBelow names p.labels → AreGlobals globals statements names
    → order ≡ fold once (fold once [] (filter (is_local_name globals) p.labels)) (below names) → order ≡ order_of statements p names
unfolding order_of
order_same statements p names globals order known are is =
    is ∙ ap (λ ks. fold once (fold once [] ks) (below names)) (same_filter (is_local_name globals) (λ k. not (is_global_name statements k)) p.labels (λ k d low. ap not (are (get_or p.labels k d) (known k d low))))

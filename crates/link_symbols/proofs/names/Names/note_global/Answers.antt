use Rattle.std.proofs.Common.{None, Some, sym, ap, ◌∙◌}
use Rattle.std.specs.Prelude.{bytes_eq}
use Rattle.link_symbols.specs.Definitions.{definition, strong_of}
use Rattle.link_symbols.specs.internal.Maps.{name_entry}
use Rattle.link_symbols.specs.internal.Values.{named_value}
use Rattle.link_symbols.specs.Refusals.{duplicate_by}
use Rattle.link_symbols.proofs.NameLemmas.{holds_more, strong_some, weak_strong, stays, none_first}
use Rattle.link_symbols.proofs.names.Names.note_global.Goals as goal

pub returns-in-Err-clause-refusal : goal.returns-in-Err-clause-refusal
returns-in-Err-clause-refusal c = λ before h ne.
    let s = named_value c.args.s in
    let d = definition s c.args.meaning in
    ap (λ o. duplicate_by s o (strong_of before s.name)) (strong_some s c.args.meaning c.requires.defined c.requires.global)
    ∙ (ap (duplicate_by s (Some d)) (sym (h.strong s.name)) ∙ c.in-Err.ensures.refusal ne)

pub returns-clause-noted : goal.returns-clause-noted
returns-clause-noted c = λ before h.
    let s = named_value c.args.s in
    holds_more c.args.self.now _ before s (Some (definition s c.args.meaning)) None (strong_some s c.args.meaning c.requires.defined c.requires.global) (weak_strong s c.requires.global)
    c.in_default.ensures.noted (λ q. stays (name_entry c.args.self.now.weak q) (bytes_eq s.name q))
    None (none_first (name_entry c.args.self.now.weak) s) c.in_ok-push.ensures.items h

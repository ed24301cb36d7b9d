use Rattle.std.proofs.Common.{◌≡◌, None, Some, sym, ap}
use Rattle.std.specs.Prelude.{bytes_eq}
use Rattle.link_symbols.specs.Definitions.{definition_of, strong_of}
use Rattle.link_symbols.specs.internal.Maps.{name_entry}
use Rattle.link_symbols.specs.internal.Values.{named_value}
use Rattle.link_symbols.specs.Refusals.{duplicate_by}
use Rattle.link_symbols.proofs.NameLemmas.{holds_more, strong_none, weak_none, strong_weak, weak_some, stays, none_first, some_first}
use Rattle.link_symbols.proofs.names.Names.note.Goals as goal

pub returns-in_ok-push-in-None-clause-noted : goal.returns-in_ok-push-in-None-clause-noted
returns-in_ok-push-in-None-clause-noted c = λ before h.
    let s = named_value c.args.s in
    let e : definition_of s ≡ None = sym c.in-None.ensures in
    holds_more c.args.self.now _ before s None None (strong_none s e) (weak_none s e)
    (λ q. stays (name_entry c.args.self.now.strong q) (bytes_eq s.name q)) (λ q. stays (name_entry c.args.self.now.weak q) (bytes_eq s.name q))
    None (none_first (name_entry c.args.self.now.weak) s) c.in_ok-push-in-None.ensures.items h

pub returns-in_ok-push-in-None-clause-sound : goal.returns-in_ok-push-in-None-clause-sound
returns-in_ok-push-in-None-clause-sound c = λ before h.
    let s = named_value c.args.s in
    let e : definition_of s ≡ None = sym c.in-None.ensures in
    ap (λ d. duplicate_by s d (strong_of before s.name)) (strong_none s e)

pub returns-in_ok-push-in-Some-clause-noted : goal.returns-in_ok-push-in-Some-clause-noted
returns-in_ok-push-in-Some-clause-noted c = λ before h.
    let s = named_value c.args.s in
    let e : definition_of s ≡ Some c.in-Some.meaning = sym c.in-Some.ensures in
    let g = sym c.if-is_global.ensures in
    holds_more c.args.self.now _ before s None (Some c.in-Some.meaning) (strong_weak s g) (weak_some s c.in-Some.meaning e g)
    (λ q. stays (name_entry c.args.self.now.strong q) (bytes_eq s.name q)) c.in_ok-first-in-Some.ensures.noted
    (Some c.in_ok-first-in-Some.first) (some_first (name_entry c.note_weak.new.weak) s c.in_ok-first-in-Some.first c.in_ok-first-in-Some.ensures.first) c.in_ok-push-in-Some.ensures.items h

pub returns-in_ok-push-in-Some-clause-sound : goal.returns-in_ok-push-in-Some-clause-sound
returns-in_ok-push-in-Some-clause-sound c = λ before h.
    let s = named_value c.args.s in
    let g = sym c.if-is_global.ensures in
    ap (λ d. duplicate_by s d (strong_of before s.name)) (strong_weak s g)

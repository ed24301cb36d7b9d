use Rattle.std.proofs.Common.{◌≡◌, ◌∙◌, ap, lit<, sym, refl, ℕ, List, length, arith}
use Rattle.std.proofs.lemmas.Bool.{false≢true}
use Rattle.page_pool.specs.Tables.{table_of}
use Rattle.std.proofs.Math.ListN.{set}
use Rattle.mem_map.specs.internal.Marks.{contents_of}
use Rattle.mem_map.proofs.MarkLemmas.{Tables, room_left, marked_length, full_shown, mark_marked, mark_shown}
use Rattle.mem_map.proofs.Memory.mark.Goals as goal

pub push-requires : goal.push-requires
push-requires c =
    let m = c.self.inside in
    let left = room_left m.pool m.present m.marks.items m.room c.in-Ok.copy c.self.invariant c.in-Ok.ensures.unused in
    let most = c.self.invariant.most in
    (lit< tt, omega arith)

pub invariant_of-self-in-Ok : goal.invariant_of-self-in-Ok
invariant_of-self-in-Ok c =
    let m = c.self.inside in
    rw (c.in-Ok.ensures.copied, c.push.ensures.items) (mark_marked m.pool m.present m.marks.items m.room c.in-Ok.copy c.self.invariant c.in-Ok.ensures.unused)

pub returns-in-Err-clause-full : goal.returns-in-Err-clause-full
returns-in-Err-clause-full c =
    let m = c.self.inside in
    let sizes = marked_length m.pool m.present m.marks.items m.room c.args.self.now c.self.view_is in
    let full : length m.marks.items ≡ m.room = full_shown m.pool m.present m.marks.items m.room c.self.invariant (c.in-Err.ensures.full.0 refl) in
    (λ e. sym sizes.0 ∙ full ∙ sizes.1, λ e. refl)

pub returns-in-Ok-clause-full : goal.returns-in-Ok-clause-full
returns-in-Ok-clause-full c =
    let m = c.self.inside in
    let sizes = marked_length m.pool m.present m.marks.items m.room c.args.self.now c.self.view_is in
    let left = room_left m.pool m.present m.marks.items m.room c.in-Ok.copy c.self.invariant c.in-Ok.ensures.unused in
    (λ e. absurd (false≢true e), λ e. absurd (omega arith))

pub returns-in-Ok-clause-marked : goal.returns-in-Ok-clause-marked
returns-in-Ok-clause-marked c =
    let m = c.self.inside in
    ap (λ (tables : Tables). contents_of tables m.present c.push.new.self.items m.room) c.in-Ok.ensures.copied
    ∙ ap (λ (marks : List ℕ). contents_of (set m.pool c.in-Ok.copy (table_of m.pool m.present)) m.present marks m.room) c.push.ensures.items
    ∙ mark_shown m.pool m.present m.marks.items m.room c.in-Ok.copy c.args.self.now c.self.invariant c.in-Ok.ensures.unused c.self.view_is

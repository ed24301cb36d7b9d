use Rattle.std.proofs.Common.{◌≡◌, ℕ, inl, inr, List, sym, ap, ◌∙◌, ⊎_elim, arith}
use Rattle.std.proofs.lemmas.Result.{err_from_is_err_and}
use Rattle.image_text.specs.Image.{Image}
use Rattle.image_text.specs.Refusal.{first_refusal, refusal_of}
use Rattle.image_text.specs.internal.Reading.{Unread, on}
use Rattle.image_text.proofs.WholeText.{whole_text, whole_image}
use Rattle.image_text.proofs.reader.read.Goals as goal

start : (bytes : List ℕ) (u : Unread) → u ≡ record { rest = bytes; spot = record { number = 1; at = 0 } } → refusal_of bytes ≡ on u first_refusal
unfolding refusal_of
start bytes u e = ap (λ (x : Unread). on x first_refusal) (sym e)

pub returns-in_err-room : goal.returns-in_err-room
returns-in_err-room c =
    let p = err_from_is_err_and c.from_residual.result c.from_residual.ensures.1 in
    let e = inr (start c.args.bytes.now c.new-lines.result c.new-lines.ensures ∙ c.in_err-room.ensures.refused) in
    rw (p.1, p.2) record { image = tt; text = tt; refused = e; reads = e }

pub returns-in_err-node_key : goal.returns-in_err-node_key
returns-in_err-node_key c =
    let p = err_from_is_err_and c.from_residual-in_err-node_key.result c.from_residual-in_err-node_key.ensures.1 in
    let r = c.in_ok-room.ensures.passed in
    let e = inr (start c.args.bytes.now c.new-lines.result c.new-lines.ensures ∙ r.refusal ∙ c.in_err-node_key.ensures.refused c.in_ok-room.room) in
    rw (p.1, p.2) record { image = tt; text = tt; refused = e; reads = e }

pub returns-in_err-handler_sp : goal.returns-in_err-handler_sp
returns-in_err-handler_sp c =
    let p = err_from_is_err_and c.from_residual-in_err-handler_sp.result c.from_residual-in_err-handler_sp.ensures.1 in
    let r = c.in_ok-room.ensures.passed in
    let k = c.in_ok-node_key.ensures.passed c.in_ok-room.room in
    let e = inr (start c.args.bytes.now c.new-lines.result c.new-lines.ensures ∙ r.refusal ∙ k.refusal ∙ c.in_err-handler_sp.ensures.refused c.in_ok-room.room) in
    rw (p.1, p.2) record { image = tt; text = tt; refused = e; reads = e }

pub returns-in_err-due : goal.returns-in_err-due
returns-in_err-due c =
    let p = err_from_is_err_and c.from_residual-in_err-due.result c.from_residual-in_err-due.ensures.1 in
    let r = c.in_ok-room.ensures.passed in
    let k = c.in_ok-node_key.ensures.passed c.in_ok-room.room in
    let h = c.in_ok-handler_sp.ensures.passed c.in_ok-room.room in
    let e = inr (start c.args.bytes.now c.new-lines.result c.new-lines.ensures ∙ r.refusal ∙ k.refusal ∙ h.refusal ∙ c.in_err-due.ensures.refused) in
    rw (p.1, p.2) record { image = tt; text = tt; refused = e; reads = e }

pub returns-in_err-table : goal.returns-in_err-table
returns-in_err-table c =
    let p = err_from_is_err_and c.from_residual-in_err-table.result c.from_residual-in_err-table.ensures.1 in
    let r = c.in_ok-room.ensures.passed in
    let k = c.in_ok-node_key.ensures.passed c.in_ok-room.room in
    let h = c.in_ok-handler_sp.ensures.passed c.in_ok-room.room in
    let n = c.in_ok-due.ensures.passed in
    let e = inr (start c.args.bytes.now c.new-lines.result c.new-lines.ensures ∙ r.refusal ∙ k.refusal ∙ h.refusal ∙ n.refusal ∙ c.in_err-table.ensures.refused) in
    rw (p.1, p.2) record { image = tt; text = tt; refused = e; reads = e }

pub returns-in_err-memory : goal.returns-in_err-memory
returns-in_err-memory c =
    let p = err_from_is_err_and c.from_residual-in_err-memory.result c.from_residual-in_err-memory.ensures.1 in
    let r = c.in_ok-room.ensures.passed in
    let k = c.in_ok-node_key.ensures.passed c.in_ok-room.room in
    let h = c.in_ok-handler_sp.ensures.passed c.in_ok-room.room in
    let n = c.in_ok-due.ensures.passed in
    let m = c.in_ok-table.ensures.passed in
    let before = start c.args.bytes.now c.new-lines.result c.new-lines.ensures ∙ r.refusal ∙ k.refusal ∙ h.refusal ∙ n.refusal ∙ m.refusal in
    let e = ⊎_elim inl (λ e. inr (before ∙ e)) c.in_err-memory.ensures.refused in
    rw (p.1, p.2) record { image = tt; text = tt; refused = e; reads = e }

pub invariant_of-result : goal.invariant_of-result
invariant_of-result c =
    whole_image c.in_ok-memory.memory.items c.in_ok-node_key.node_key c.in_ok-table.table c.in_ok-handler_sp.handler_sp c.in_ok-room.room c.in_ok-due.due
    c.read_count.new.lines c.read_modules.new.lines c.read_modules.new.lines c.in_ok-table.ensures.passed c.in_ok-memory.ensures.passed
    c.in_ok-node_key.ensures.sixteen c.in_ok-node_key.ensures.bytes c.in_ok-handler_sp.ensures.even (omega arith)

pub returns : goal.returns
returns c =
    let r = c.in_ok-room.ensures.passed in
    let k = c.in_ok-node_key.ensures.passed c.in_ok-room.room in
    let h = c.in_ok-handler_sp.ensures.passed c.in_ok-room.room in
    let n = c.in_ok-due.ensures.passed in
    let m = c.in_ok-table.ensures.passed in
    let w = c.in_ok-memory.ensures.passed in
    let first : c.args.bytes.now ≡ c.new-lines.result.rest = sym (ap (λ (u : Unread). u.rest) c.new-lines.ensures) in
    let image : Image = record { memory = c.in_ok-memory.memory.items; table = c.in_ok-table.table; node_key = c.in_ok-node_key.node_key; handler_sp = c.in_ok-handler_sp.handler_sp } in
    let text = first ∙ whole_text image c.in_ok-room.room c.in_ok-due.due c.new-lines.result.rest c.read_version.new.lines.rest c.read_key.new.lines.rest
    c.read_handler.new.lines.rest c.read_count.new.lines.rest c.read_modules.new.lines.rest m.room_is n.kind m.count r.text k.text h.text n.text m.text w.text in
    record { image = invariant_of-result c; text = text; refused = tt; reads = (invariant_of-result c, text) }

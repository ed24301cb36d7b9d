-- An instruction reads and writes three times at most, so all of it is kept.
use Rattle.std.proofs.Common.{◌≡◌, ℕ, suc, ◌+◌, ◌<◌, ◌≤◌, nat_lt, List, [], ◌∷◌, ◌++◌, length, Bool, true, false, cond, if◌then◌else◌, refl, ap, ◌∙◌, arith, length-append}
use Rattle.std.proofs.lemmas.Bool.Decides.{nat_tests}
use Rattle.insn_decode.specs.declared.insn.Insn.{Insn}
use Rattle.pc_access.specs.Accesses.{is_read, is_write, reads_of, writes_of}
use Rattle.pc_access.specs.declared.Access.{Access}
use Rattle.pc_access.specs.declared.Kind.{Kind}
use Rattle.pc_access.specs.declared.Kind.TheVariants.{Fetch, Read, Write}
use Rattle.cpu_step.specs.Effect.{does}
use Rattle.cpu_step.specs.Plan.{plan}
use Rattle.cpu_step.specs.Through.{Taken, stored_in, taken, through}
use Rattle.written_machine.specs.Ports.{read_width}
use Rattle.owner_steps.specs.Touched.{Traced, traced_read, traced_write, traced_answer, touch}
use Rattle.owner_steps.specs.internal.Touching.{kept_touches, read_kept, write_kept}
use Rattle.owner_steps.specs.declared.touching.Touch.{Touch}

kept_all : (xs : List Touch) (x : Touch) → length xs < 3 → kept_touches xs x ≡ xs ++ (x ∷ [])
kept_all xs x h =
    let test : nat_lt (length xs) 3 ≡ true = grind (arith, nat_tests) in
    ap (λ (b : Bool). if b then xs ++ (x ∷ []) else xs) test

one_more : (xs : List Touch) (x : Touch) → length (xs ++ (x ∷ [])) ≡ length xs + 1
one_more xs x = omega (arith, length-append xs (x ∷ []))

read_same : (t : Traced) (x : Access) → length t.touched < 3 → read_kept t x.width x.addr ≡ traced_read t x.width x.addr
read_same t x h =
    ap (λ (l : List Touch). let u : Traced = record { port = (read_width x.width t.port x.addr).port; touched = l } in u)
    (kept_all t.touched (touch false x.width x.addr (traced_answer t x.width x.addr)) h)

write_same : (t : Traced) (x : Access) (v : ℕ) → length t.touched < 3 → write_kept t x.width x.addr v ≡ traced_write t x.width x.addr v
write_same t x v h = ap (λ (l : List Touch). let u : Traced = record t { touched = l } in u) (kept_all t.touched (touch true x.width x.addr v) h)

abbrev value_first : ℕ → Taken Traced → Taken Traced
value_first v r = record { values = v ∷ r.values; state = r.state }

reads_same : (xs : List Access) (t : Traced) → length t.touched + length xs ≤ 3 → taken traced_answer read_kept t xs ≡ taken traced_answer traced_read t xs
reads_same [] t h = refl
reads_same (x ∷ xs) t h =
    let next : Traced = traced_read t x.width x.addr in
    let long : length next.touched ≡ length t.touched + 1 = one_more t.touched (touch false x.width x.addr (traced_answer t x.width x.addr)) in
    ap (λ (u : Traced). value_first (traced_answer t x.width x.addr) (taken traced_answer read_kept u xs)) (read_same t x (omega arith))
    ∙ ap (value_first (traced_answer t x.width x.addr)) (reads_same xs next (omega (arith, long)))

reads_long : (xs : List Access) (t : Traced) → length (taken traced_answer traced_read t xs).state.touched ≡ length t.touched + length xs
reads_long [] t = omega arith
reads_long (x ∷ xs) t =
    let next : Traced = traced_read t x.width x.addr in
    let long : length next.touched ≡ length t.touched + 1 = one_more t.touched (touch false x.width x.addr (traced_answer t x.width x.addr)) in
    omega (arith, long, reads_long xs next)

writes_same : (xs : List Access) (values : List ℕ) (t : Traced) → length t.touched + length xs ≤ 3 → stored_in write_kept t xs values ≡ stored_in traced_write t xs values
writes_same [] values t h = refl
writes_same (x ∷ xs) [] t h = refl
writes_same (x ∷ xs) (v ∷ values) t h =
    let next : Traced = traced_write t x.width x.addr v in
    let long : length next.touched ≡ length t.touched + 1 = one_more t.touched (touch true x.width x.addr v) in
    ap (λ (u : Traced). stored_in write_kept u xs values) (write_same t x v (omega arith))
    ∙ writes_same xs values next (omega (arith, long))

apart : (kind : Kind) (x : Access) (rs ws : List Access) (n : ℕ) → length rs + length ws ≤ n → length (cond (is_read kind) (x ∷ rs) rs) + length (cond (is_write kind) (x ∷ ws) ws) ≤ suc n
apart Fetch x rs ws n h = omega (arith, h)
apart Read x rs ws n h = omega (arith, h)
apart Write x rs ws n h = omega (arith, h)

parts : (xs : List Access) → length (reads_of xs) + length (writes_of xs) ≤ length xs
parts [] = omega arith
parts (x ∷ xs) = apart x.kind x (reads_of xs) (writes_of xs) (length xs) (parts xs)

-- what three accesses leave is kept
pub all_kept : (insn : Insn) (core : List ℕ) (t : Traced) → t.touched ≡ [] → length (plan insn core) ≤ 3
    → (through traced_answer read_kept write_kept insn core false t).state ≡ (through traced_answer traced_read traced_write insn core false t).state
all_kept insn core t none few =
    let xs : List Access = plan insn core in
    let r : Taken Traced = taken traced_answer traced_read t (reads_of xs) in
    let empty : length t.touched ≡ 0 = ap length none in
    ap (λ (r : Taken Traced). stored_in write_kept r.state (writes_of xs) (does insn core r.values false).stored)
    (reads_same (reads_of xs) t (omega (arith, empty, few, parts xs)))
    ∙ writes_same (writes_of xs) (does insn core r.values false).stored r.state (omega (arith, empty, few, parts xs, reads_long (reads_of xs) t))

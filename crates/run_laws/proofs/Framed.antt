-- A module is active or in one frame at most, and there are at most eight frames.
use Rattle.std.proofs.Common.{◌≡◌, ℕ, zero, suc, ◌+◌, ◌<◌, ◌≤◌, List, [], ◌∷◌, length, refl, sym, ap, ◌∙◌, subst, arith, Bool, true, false, nat_lt, ◌&&◌, ◌==◌, Option, Some, None, drop, cond}
use Rattle.image_text.specs.Image.{Image}
use Rattle.insn_decode.specs.declared.insn.Insn.{Insn}
use Rattle.run_laws.specs.Frames.{times}
use Rattle.mod_layout.specs.Table.{place_of}
use Rattle.mod_layout.specs.declared.Place.TheVariants.{Entry}
use Rattle.pc_access.specs.Rights.{is_id, is_held, right, refuse_if}
use Rattle.pc_access.specs.declared.Rule.{Rule}
use Rattle.reg_backup.specs.Held.{held_ids}
use Rattle.reg_backup.specs.Saved.{closing_after}
use Rattle.reg_backup.specs.declared.backup.After.{After}
use Rattle.reg_backup.specs.declared.backup.After.TheVariants.{Next}
use Rattle.reg_backup.specs.declared.frames.Frame.{Frame}
use Rattle.reg_backup.specs.declared.frames.Frame.TheVariants.{Plain, Module as Held}
use Rattle.schedule_file.specs.declared.Entry.{Entry as Scheduled}
use Rattle.sm_words.specs.Status.{is_gie}
use Rattle.sm_words.specs.Sums.{one_if}
use Rattle.std.proofs.lemmas.Bool.{and_parts}
use Rattle.std.proofs.lemmas.Bool.Decides.{nat_tests}
use Rattle.written_machine.specs.Cycle.{pc_of, settle, due, arrive_inside, plain_if, perform, fetch, padded}
use Rattle.written_machine.specs.Standing.{is_resume}
use Rattle.written_machine.specs.State.{State}
use Rattle.written_machine.specs.View.{at}
use Rattle.run_laws.proofs.Frames.{times_plain}
use Rattle.run_laws.proofs.Frames.{times_none, entry_free}
pub use Rattle.run_laws.proofs.Frames.{right_fetch}
use Rattle.run_laws.proofs.Ways.{Lasting, always, settle_ways}

pub record FramedBy (active : Option ℕ) (frames : List Frame) (after : After) : Type 0 where
  pub once : (m : ℕ) → one_if (is_id m active) + times m frames ≤ 1
  pub few : length frames ≤ 8
  pub idle : is_resume after ≡ true → active ≡ None

abbrev Framed : State → Type 0
Framed s = FramedBy s.active s.frames s.after

closing_next : (c : Bool) → is_resume (closing_after c) ≡ false
closing_next true = refl
closing_next false = refl

perform_framed : (insn : Insn) (s : State) → Framed s → Framed (perform insn s).state
unfolding perform
perform_framed insn s h = record { once = h.once; few = h.few; idle = λ e. absurd (let c : true ≡ false = sym e ∙ closing_next _ in cc) }

fewer_times : (m : ℕ) (fs : List Frame) → times m (drop 1 fs) ≤ times m fs
fewer_times m [] = omega arith
fewer_times m (Plain ∷ fs) = omega arith
fewer_times m (Held b ∷ fs) = omega arith

pub fewer_frames : (fs : List Frame) → length (drop 1 fs) ≤ length fs
fewer_frames [] = omega arith
fewer_frames (f ∷ fs) = omega arith

-- ---- entering
pub free_of : (id : ℕ) (held : List ℕ) (a : ℕ) (b : Bool) → is_held id held ≡ b → refuse_if b Rule.Reenter a id ≡ None → is_held id held ≡ false
free_of id held a true e f = absurd cc
free_of id held a false e f = e

entered_once : (m id : ℕ) (fs : List Frame) (c : Bool) → (id == m) ≡ c → times id fs ≡ 0 → times m fs ≤ 1 → one_if (id == m) + times m fs ≤ 1
entered_once m id fs true e n h =
    let k : id ≡ m = grind (arith, nat_tests) in
    let z : times m fs ≡ 0 = ap (λ i. times i fs) (sym k) ∙ n in
    let o : one_if (id == m) ≡ 1 = ap one_if e in omega arith
entered_once m id fs false e n h = let o : one_if (id == m) ≡ 0 = ap one_if e in omega arith

enter_framed : (id left : ℕ) (s : State) → right s.table s.active (held_ids s.frames) (fetch s) ≡ None → place_of s.table (pc_of s) ≡ Entry id →
    Framed s → FramedBy (Some id) s.frames Next
enter_framed id left s e p h =
    let zero_times = times_none id s.frames (entry_free id s e p) in
    record {
      once = λ m. let x = h.once m in entered_once m id s.frames (id == m) refl zero_times (omega arith);
      few = h.few;
      idle = λ x. absurd (let c : true ≡ false = sym x in cc);
    }

-- ---- arrivals
room_if : (b : Bool) (l : Option ℕ) (v : ℕ) → cond b l None ≡ Some v → b ≡ true
room_if true l v e = refl
room_if false l v e = absurd cc

pub due_room : (v : ℕ) (s : State) → due s ≡ Some v → length s.frames < 8
unfolding due
due_room v s e =
    let k = room_if (is_gie s.core && nat_lt (length s.frames) 8) _ v e in
    let b = (and_parts (is_gie s.core) (nat_lt (length s.frames) 8) k).1 in grind (arith, nat_tests)

pub plain_few : (fs : List Frame) → length fs < 8 → length (plain_if fs) ≤ 8
plain_few [] h = omega arith
plain_few (f ∷ fs) h = omega arith

padded_framed : (n : ℕ) (s : State) → Framed s → Framed (padded n s)
padded_framed zero s h = record { once = h.once; few = h.few; idle = λ x. absurd (let c : true ≡ false = sym x in cc) }
padded_framed (suc n) s h = record { once = h.once; few = h.few; idle = λ x. absurd (let c : true ≡ false = sym x in cc) }

-- ---- settling
settle_framed : (s : State) → Framed s → Framed (settle s).state
settle_framed s h =
    settle_ways s (λ u. Framed u.state) h
    (λ b fs e. record {
      once = λ m. let x = subst (λ y. one_if (is_id m s.active) + times m y ≤ 1) e (h.once m) in omega arith;
      few = let x = subst (λ y. length y ≤ 8) e h.few in omega arith;
      idle = λ x. absurd (let c : true ≡ false = sym x ∙ closing_next b.closing in cc);
    })
    (λ id x a o. record { once = λ m. let y = h.once m in omega arith; few = h.few; idle = λ x. refl })
    (λ e. record { once = h.once; few = h.few; idle = λ x. absurd (let c : true ≡ false = sym x in cc) })
    (λ id a. record { once = λ m. let y = h.once m in omega arith; few = h.few; idle = λ x. refl })

lasts : Lasting Framed
unfolding arrive_inside
lasts = record {
  rests = λ s d n p o h. h;
  performs = perform_framed;
  returns = λ s h. record {
    once = λ m. let a = h.once m in let b = fewer_times m s.frames in omega arith;
    few = let a = h.few in let b = fewer_frames s.frames in omega arith;
    idle = h.idle;
  };
  resumes = λ s e h. record { once = h.once; few = h.few; idle = λ x. e };
  enters = λ left id s free p a h. enter_framed id left s free p h;
  pads = padded_framed;
  inside = λ v id s d a h. record {
    once = λ m. let x = subst (λ y. one_if (is_id m y) + times m s.frames ≤ 1) a (h.once m) in omega arith;
    few = let r = due_room v s d in omega arith;
    idle = λ x. refl;
  };
  pushes = λ v s d h. record { once = λ m. let x = h.once m in let e = times_plain m s.frames in omega arith; few = plain_few s.frames (due_room v s d); idle = h.idle };
  settles = settle_framed;
}

pub framed_at : (a : Image) (schedule : List Scheduled) (k : ℕ) → Framed (at a schedule k)
framed_at a schedule k = always Framed lasts a schedule k (record { once = λ m. omega arith; few = omega arith; idle = λ x. refl })

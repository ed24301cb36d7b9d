-- Peers tell one trace, and give the same numbers.
use Rattle.std.proofs.Common.{◌≡◌, ℕ, zero, suc, List, ◌++◌, true, cond, nat_le, Option, None, codes, refl, sym, ap}
use Rattle.std.specs.Str.{bytes_eq}
use Rattle.std.proofs.lemmas.Slice.Eq.{bytes_eq-Decides}
use Rattle.image_text.specs.Image.{Image}
use Rattle.isolation.specs.Laws.{SameEvents, SameTraces, SameViews}
use Rattle.schedule_file.specs.declared.Entry.{Entry}
use Rattle.tracer.specs.declared.Event.{Event}
use Rattle.written_machine.specs.Cycle.{cycle}
use Rattle.written_machine.specs.Peers.{Peers}
use Rattle.written_machine.specs.View.{View, at, boot, view_of}
use Rattle.mod_layout.specs.First.{first_in}
use Rattle.pulse_sweep.specs.Columns.{begins, leaves, sends, first_after}
use Rattle.pulse_sweep.specs.Rows.{columns_text}
use Rattle.pulse_sweep.specs.Sweep.{columns_at, different, is_same_at, lone_pulse, pulse_cycles, row_at, trace_at}
use Rattle.pulse_sweep.proofs.Counts.{none_counted}
use Rattle.pulse_sweep.specs.declared.Pulses.{Pulses}

same_cycle : SameViews → (a b : Image) (m : ℕ) (schedule : List Entry) (k : ℕ) → Peers a b m → (at a schedule k).cycle ≡ (at b schedule k).cycle
unfolding view_of
same_cycle views a b m schedule k peers = ap (λ (v : View). v.cycle) (views a b m schedule k peers)

-- the same number of a cycle by its number and its events
now_same : (f : ℕ → Event → Option ℕ) (c i j : ℕ) (es fs : List Event) → i ≡ j → es ≡ fs → cond (nat_le c i) (first_in (f i) es) None ≡ cond (nat_le c j) (first_in (f j) fs) None
now_same f c i j es fs e h = rw (e, h) refl

first_same : SameViews → SameEvents → (a b : Image) (m : ℕ) (schedule : List Entry) (f : ℕ → Event → Option ℕ) (c n : ℕ) → Peers a b m
    → first_after f c (boot a schedule) n ≡ first_after f c (boot b schedule) n
first_same views events a b m schedule f c zero peers = refl
first_same views events a b m schedule f c (suc n) peers =
    rw (
      first_same views events a b m schedule f c n peers,
      now_same f c (at a schedule n).cycle (at b schedule n).cycle (cycle (at a schedule n)).events (cycle (at b schedule n)).events
          (same_cycle views a b m schedule n peers) (events a b m schedule n peers),
    ) refl

columns_same : SameViews → SameEvents → (p : Pulses) (a b : Image) (m c : ℕ) → Peers a b m → columns_at p a c ≡ columns_at p b c
unfolding columns_at
columns_same views events p a b m c peers =
    let s = lone_pulse p.line c in
    rw (first_same views events a b m s (begins c) c p.cycles peers, first_same views events a b m s leaves c p.cycles peers, first_same views events a b m s sends c p.cycles peers) refl

bytes_same : (xs ys : List ℕ) → xs ≡ ys → bytes_eq xs ys ≡ true
bytes_same xs ys e = (bytes_eq-Decides xs ys).1 e

is_same : SameTraces → (p : Pulses) (a b : Image) (m c : ℕ) → Peers a b m → is_same_at p a b c ≡ true
unfolding trace_at
is_same traces p a b m c peers = bytes_same (trace_at p a c) (trace_at p b c) (traces a b m (lone_pulse p.line c) p.cycles peers)

pub row_same : SameViews → SameEvents → SameTraces → (p : Pulses) (a b : Image) (m c : ℕ) → Peers a b m
    → row_at p a b c ≡ columns_text c (columns_at p a c) (columns_at p a c) ++ codes " same\n"
unfolding row_at
row_same views events traces p a b m c peers = rw (is_same traces p a b m c peers, sym (columns_same views events p a b m c peers)) refl

pub none_different : SameTraces → (p : Pulses) (a b : Image) (m : ℕ) → Peers a b m → different p a b ≡ 0
none_different traces p a b m peers = none_counted (is_same_at p a b) (λ c. is_same traces p a b m c peers) (pulse_cycles p)

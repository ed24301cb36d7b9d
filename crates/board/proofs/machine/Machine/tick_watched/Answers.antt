use Rattle.std.proofs.Common.{◌≡◌, ℕ, ◌+◌, refl, sym, ap, ◌∙◌, false, is_some}
use Rattle.board.specs.internal.Standing.{Clock, state_of, clock_of}
use Rattle.board.proofs.Cycles.{Steps, counted_sound, events_are, three_added, runs, sound_moved, sound_settled, state_is}
use Rattle.board.proofs.machine.Machine.tick_watched.Goals as goal

pub settle-settled-requires : goal.settle-settled-requires
settle-settled-requires g c = (sound_moved _ _ c.move_devices.ensures.state c.requires.stands.sound).few

pub turn-requires-clause-sound : goal.turn-requires-clause-sound
turn-requires-clause-sound g c = sound_settled _ _ _ c.move_devices.ensures.state c.settle-settled.ensures.state c.requires.stands.sound

pub returns-clause-state : goal.returns-clause-state
returns-clause-state g c =
    let m = c.args.self.now in
    let turned = c.turn.new.self in
    let stop_is : is_some m.stop ≡ false = cc in
    let steps : Steps (state_of m) _ _ (state_of turned) _ _ _ _ _ = record {
      running = runs m.stop stop_is;
      moved_is = c.move_devices.ensures.state;
      settled_is = c.settle-settled.ensures.state;
      first_is = c.settle-settled.ensures.event;
      left_is = c.settle-settled.ensures.left;
      turned_is = c.turn.ensures.state;
      next_is = refl;
      counted_is = c.pass-sent.ensures.state;
      last_is = c.pass-sent.ensures.event;
    } in
    state_is steps

pub returns-clause-events : goal.returns-clause-events
returns-clause-events g c =
    let m = c.args.self.now in
    let turned = c.turn.new.self in
    let stop_is : is_some m.stop ≡ false = cc in
    let steps : Steps (state_of m) _ _ (state_of turned) _ _ _ _ _ = record {
      running = runs m.stop stop_is;
      moved_is = c.move_devices.ensures.state;
      settled_is = c.settle-settled.ensures.state;
      first_is = c.settle-settled.ensures.event;
      left_is = c.settle-settled.ensures.left;
      turned_is = c.turn.ensures.state;
      next_is = refl;
      counted_is = c.pass-sent.ensures.state;
      last_is = c.pass-sent.ensures.event;
    } in
    three_added _ _ _ _ _ _ _ c.clear.ensures c.add_event.ensures.items c.turn.ensures.events c.add_event-2.ensures.items ∙ events_are steps

pub returns-clause-stands : goal.returns-clause-stands
returns-clause-stands g c =
    let m = c.args.self.now in
    let turned = c.turn.new.self in
    let stop_is : is_some m.stop ≡ false = cc in
    let steps : Steps (state_of m) _ _ (state_of turned) _ _ _ _ _ = record {
      running = runs m.stop stop_is;
      moved_is = c.move_devices.ensures.state;
      settled_is = c.settle-settled.ensures.state;
      first_is = c.settle-settled.ensures.event;
      left_is = c.settle-settled.ensures.left;
      turned_is = c.turn.ensures.state;
      next_is = refl;
      counted_is = c.pass-sent.ensures.state;
      last_is = c.pass-sent.ensures.event;
    } in
    let clock_is = c.turn.ensures.clock ∙ c.settle-settled.ensures.clock ∙ c.move_devices.ensures.clock in
    let ticks_are : (clock_of turned).ticks ≡ m.cycle + 1 = ap (λ (k : Clock). k.ticks) clock_is in
    let cycle_is : turned.cycle ≡ m.cycle = ap (λ (k : Clock). k.cycle) clock_is in
    let one_more = λ (n : ℕ). n + 1 in
    record {
      sound = counted_sound steps c.requires.stands.sound;
      in_step = λ none. c.pass-sent.ensures.ticks ∙ ticks_are ∙ sym (c.pass-sent.ensures.number none ∙ ap one_more cycle_is);
    }

use Rattle.drift_world.proofs.{Nearings.told_timed, Signals.{all_put, have_octets, sound_same}}
use Rattle.drift_world.proofs.{Timings.{rekeyed, set_act, waits_as}}
use Rattle.drift_world.proofs.{state.State.hear_turn.Goals.{After-give_first, After-put_in}}
use Rattle.drift_world.{specs.declared.state.State.State}
use Rattle.drift_world.proofs.{Turned.{all_put_in, changes_both, first_given, next_first, no_shelf, turns_of, waits_at}}
use Rattle.drift_world.proofs.{Turning.{kept_timers, rekeyed_step, runs_on, source_at, step_kept}}
use Rattle.drift_world.specs.{declared.source.Source.TheVariants.Arrival}
use Rattle.drift_world.proofs.Words.{◌∙◌, ◌∷◌, ◌≡◌, DeviceId, IsSound, None}
use Rattle.drift_world.proofs.Words.{Settled, Some, [], ap, arith, changed_device, length, rank}
use Rattle.drift_world.proofs.Words.{StandsOn, StandsWith, refl, subst, sym, world_of}
use Rattle.world_law.specs.world.World.{is_at_source}
use Rattle.drift_world.proofs.state.State.hear_turn.Given as given
use Rattle.drift_world.proofs.state.State.hear_turn.Goals as goal

-- ---- its record is given

pub give_first-requires-clause-number : goal.give_first-requires-clause-number
give_first-requires-clause-number g c =
    let numbers = c.requires.may.room.numbers in
    let given = ap State.given c.hear_wire-came.ensures.same in
    omega (arith, given)

pub give_first-requires-clause-room : goal.give_first-requires-clause-room
give_first-requires-clause-room g c =
    let launches = c.requires.may.room.launches in
    let kept = c.hear_wire-came.ensures.room in
    omega arith

pub give_first-requires-clause-octets : goal.give_first-requires-clause-octets
give_first-requires-clause-octets g c = subst have_octets (sym c.record-taken.ensures) c.hear_wire-came.ensures.octets

pub give_first-requires-clause-capacity : goal.give_first-requires-clause-capacity
give_first-requires-clause-capacity g c =
    let hear = c.hear_wire-came.ensures in
    waits_at c.record-taken.result.body c.hear_wire-came.new.self.waiting
    (rw c.record-taken.ensures hear.device)
    (λ two. rw (sym (ap State.waiting hear.same)) at c.requires.room)

pub give_first-requires-clause-place : goal.give_first-requires-clause-place
give_first-requires-clause-place g c =
    let two : rank c.record-taken.result.body ≡ 2 = rw c.record-taken.ensures
    (c.is_taken.ensures.yes c.if-is_taken.true) in
    no_shelf c.record-taken.result.body c.hear_wire-came.new.self.stored (λ taken. omega arith)

pub give_first-requires-clause-next : goal.give_first-requires-clause-next
give_first-requires-clause-next g c =
    let K = g.C.Clock in
    let S = g.M.Machine.stands in
    let network = c.args.network.now in
    let run = c.requires.may.well.running in
    let mid = c.hear_wire-came.new.self in
    let one = c.record-taken.result in
    let two : rank one.body ≡ 2 = rw c.record-taken.ensures
    (c.is_taken.ensures.yes c.if-is_taken.true) in
    let turn = turns_of mid (Some one) None c.requires.may tt
    (rw c.record-taken.ensures c.hear_wire-came.ensures.turns) run.is in
    record {
      s = run.s;
      notes = run.notes;
      next = next_first mid.settled.items refl turn
          mid.settled.items refl (source_at (Arrival c.args.place) one.body two);
      own = turn.first_is;
    }

arriving : (g : given.Over) (c : After-give_first g) → rank c.record-taken.result.body ≡ 2
arriving g c = rw c.record-taken.ensures (c.is_taken.ensures.yes c.if-is_taken.true)

given_so : (g : given.Over) (c : After-give_first g)
    → StandsWith g.C.Clock.reading g.M.Machine.stands c.args.network.now c.args.self.now c.give_first.new.self
    (c.give_first.new.note ∷ [])
given_so g c s notes is =
    let K = g.C.Clock in
    let S = g.M.Machine.stands in
    let network = c.args.network.now in
    let mid = c.hear_wire-came.new.self in
    let one = c.record-taken.result in
    let give = c.give_first.ensures in
    (first_given mid.settled.items refl
    (turns_of mid (Some one) None c.requires.may tt
    (rw c.record-taken.ensures c.hear_wire-came.ensures.turns) is)
    mid.settled.items refl (source_at (Arrival c.args.place) one.body (arriving g c))
    (world_of network c.give_first.new.self) give.note (rw give.same) (give.launched s notes)).0

pub rekey_from-requires : goal.rekey_from-requires
rekey_from-requires g c =
    let may = c.requires.may in
    let run = may.well.running in
    let hear = c.hear_wire-came.ensures in
    let give = c.give_first.ensures in
    let timers = ap State.timers give.same ∙ ap State.timers hear.same in
    let device : DeviceId = record { 0 = c.args.place.device } in
    let gave = given_so g (goal.at.rekey_from-requires g c).After-give_first run.s run.notes run.is in
    let has = gave.devices device (rw gave.same at may.foremost.there.device) in
    record {
      may = record {
        sized = give.sound.sized;
        there = may.foremost.there.device;
        few = may.range.few_devices;
        slots = ap length timers ∙ may.well.timed.sized;
        running = record { s = run.s; notes = _; is = gave };
      };
      before = told_timed g.C.Clock.reading g.M.Machine.stands c.args.network.now g.C.Clock.last_step c.args.self.now c.give_first.new.self
          device c.hear_wire-came.result.before may.well
          may.foremost.there.device
          (λ was is at now. hear.before was is at (sym (rw give.same) ∙ now))
          has.0 has.1
          (ap State.clocks give.same ∙ ap State.clocks hear.same)
          (ap State.time give.same ∙ ap State.time hear.same)
          timers;
    }

pub returns-then-is_taken-clause-kept : goal.returns-then-is_taken-clause-kept
returns-then-is_taken-clause-kept g c =
    let mid = c.hear_wire-came.new.self in
    let gave = c.give_first.new.self in
    let device : DeviceId = record { 0 = c.args.place.device } in
    let may = c.requires.may in
    let hear = c.hear_wire-came.ensures in
    let give = c.give_first.ensures in
    let changes = changes_both hear.others
    (rw (ap (λ (z : Settled). changed_device z.body) c.record-taken.ensures
    ∙ hear.device (c.is_taken.ensures.yes c.if-is_taken.true)) at give.others) in
    let time = changes.time in
    kept_timers _ may.well
    give.sound
    (record { clocks = changes.clocks; ended = changes.ended; later = omega arith })
    (given_so g (goal.at.returns-then-is_taken-clause-kept g c).After-give_first) c.rekey_from.ensures.sets.same
    (rekeyed may.well.timed may.foremost.there.device
    changes
    (ap State.timers give.same ∙ ap State.timers hear.same) c.rekey_from.ensures)

-- ---- it is put in among others

sound_after : (g : given.Over) (c : After-put_in g)
    → IsSound g.C.Clock.last_step c.args.network.now
    (record c.hear_wire-came.new.self { settled = c.put_in.new.settled })
sound_after g c =
    let hear = c.hear_wire-came.ensures in
    sound_same _ hear.sound refl refl refl refl refl refl refl refl refl refl
    (all_put have_octets c.put_in.ensures.is.1
    (subst have_octets (sym c.record-other.ensures) hear.octets) hear.sound.fit.octets)

still : (g : given.Over) (c : After-put_in g)
    → StandsOn g.C.Clock.reading g.M.Machine.stands c.args.network.now c.args.self.now
    (record c.hear_wire-came.new.self { settled = c.put_in.new.settled })
still g c s notes is =
    let K = g.C.Clock in
    let S = g.M.Machine.stands in
    let network = c.args.network.now in
    let mid = c.hear_wire-came.new.self in
    let late = ap (λ z. is_at_source z.body) c.record-other.ensures
    ∙ c.hear_wire-came.ensures.late (c.is_taken.ensures.no c.if-is_taken.false) in
    (all_put_in mid.settled.items refl
    c.put_in.new.settled.items c.put_in.new.settled.items
    (turns_of mid (Some c.record-other.result) None c.requires.may tt
    (rw c.record-other.ensures c.hear_wire-came.ensures.turns) is) c.put_in.ensures.is refl late).0

pub rekey_act_from-requires : goal.rekey_act_from-requires
rekey_act_from-requires g c =
    let may = c.requires.may in
    let hear = c.hear_wire-came.ensures in
    let after : State _ _ = record c.hear_wire-came.new.self { settled = c.put_in.new.settled } in
    let timers = ap State.timers hear.same in
    let device : DeviceId = record { 0 = c.args.place.device } in
    let runs = runs_on after may.well
    (still g (goal.at.rekey_act_from-requires g c).After-put_in) in
    let has = runs.is.devices device (rw runs.is.same at may.foremost.there.device) in
    record {
      may = record {
        sized = (sound_after g (goal.at.rekey_act_from-requires g c).After-put_in).sized;
        there = may.foremost.there.device;
        few = may.range.few_devices;
        slots = ap length timers ∙ may.well.timed.sized;
        running = runs;
      };
      before = told_timed g.C.Clock.reading g.M.Machine.stands c.args.network.now g.C.Clock.last_step c.args.self.now after device
          c.hear_wire-came.result.before may.well may.foremost.there.device
          hear.before has.0 has.1 (ap State.clocks hear.same) (ap State.time hear.same) timers;
    }

pub returns-clause-kept : goal.returns-clause-kept
returns-clause-kept g c =
    let device : DeviceId = record { 0 = c.args.place.device } in
    let may = c.requires.may in
    let there = may.foremost.there.device in
    let hear = c.hear_wire-came.ensures in
    let o = hear.others in
    let after : State _ _ = record c.hear_wire-came.new.self { settled = c.put_in.new.settled } in
    let new = c.rekey_act_from.new.self in
    let keyed = c.rekey_act_from.ensures in
    let timers = ap State.timers hear.same in
    step_kept (rekeyed_step may.well
    (sound_after g (goal.at.returns-clause-kept g c).After-put_in) there
    (record { clocks = o.clocks; time = o.time; ended = o.ended; machines = o.machines; waiting = o.waiting }) timers
    (ap State.given hear.same) (still g (goal.at.returns-clause-kept g c).After-put_in)
    (set_act there (may.well.timed.each device there) o.clocks o.time
    (λ w at. waits_as c.args.self.now after (ap State.waiting hear.same) w) timers
    keyed.timed keyed.sets))

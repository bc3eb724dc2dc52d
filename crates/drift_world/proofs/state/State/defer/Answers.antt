use Rattle.drift_world.proofs.Words.{◌+◌, ◌<◌, ◌∙◌, ◌≡◌, ◌≤◌, DeviceId, Some, ap, arith, keeps, length, length-set, pos, refl, slice_set, subst, sym}
use Rattle.std.{proofs.lemmas.List.Elements.All-set, specs.List.slice_get}
use Rattle.drift_world.{proofs.{Locals.shows_of, Timings.none_sooner}, specs.Parts.{IsFirstPart, part_rank}}
use Rattle.tte_units.proofs.general_lemmas.Lists.{set_aside, set_same}
use Rattle.{drift_world.proofs.state.State.defer.Given.Over, world_state.specs.{declared.timers.Timer.Timer, timers.Times.AreFrom}}
use Rattle.drift_world.proofs.state.State.defer.Goals.{After-set}
use Rattle.drift_world.proofs.state.State.defer.Goals as goal

-- the timer, as it is set
abbrev timer : (g : Over) (c : After-set g) → Timer
timer g c = record { time = c.args.self.now.time; rank = part_rank c.args.part }

timers_are : (g : Over) (c : After-set g)
    → c.set.new.self ≡ slice_set c.args.self.now.timers (length c.args.network.now.device + c.args.device) (timer g c)
timers_are g c =
    let w = c.args.self.now in
    c.set.ensures
    ∙ ap (λ r. slice_set w.timers (length c.as_slice-devices.result.now + c.args.device) (let t : Timer =
    record { time = w.time; rank = r } in t))
    (c.number.ensures ∙ c.rank.ensures)
    ∙ ap (λ n. slice_set w.timers (n + c.args.device) (timer g c)) (ap length c.as_slice-devices.ensures)

set_at : (g : Over) (c : After-set g) → slice_get c.set.new.self (length c.args.network.now.device + c.args.device) ≡ Some (timer g c)
set_at g c =
    let there = c.requires.may.there in
    let slots = c.requires.may.slots in
    rw (timers_are g c)
    (set_same c.args.self.now.timers (length c.args.network.now.device + c.args.device) (timer g c) (omega arith))

pub returns-clause-timed : goal.returns-clause-timed
returns-clause-timed g c =
    let w = c.args.self.now in
    let K = g.C.Clock in
    let S = g.M.Machine.stands in
    let network = c.args.network.now in
    let there = c.requires.may.there in
    let device : DeviceId = record { 0 = c.args.device } in
    let s = c.requires.may.running.s in
    let old = c.requires.may.running.is in
    let of_it : c.args.device < length s.network.device = rw old.same at there in
    let own = old.clocks device of_it in
    let has = old.devices device of_it in
    let first : (node : _) → keeps S has.0 network device node → IsFirstPart network device node (pos (K.reading own.0 w.time)) c.args.part = λ node kept.
    rw (sym (own.2 w.time (omega arith))) (rw (sym old.same) at (c.requires.first s has.0 node (shows_of w old) has.1
    (rw old.same at kept))) in
    record {
      clock = own.0;
      of_clock = own.1;
      machine = has.0;
      of_machine = has.1;
      act = w.time;
      part = c.args.part;
      of_act = set_at g (goal.at.returns-clause-timed g c).After-set;
      acts = record {
        none = λ node task kept pending u from most reached. from;
        one = λ lt node kept. let is = (first node kept).is in (is.task, is.pending, is.due);
        late = λ lt node kept. none_sooner (first node kept);
      };
    }

pub returns-clause-sets : goal.returns-clause-sets
returns-clause-sets g c =
    let w = c.args.self.now in
    let here = (goal.at.returns-clause-sets g c).After-set in
    let slot = length c.args.network.now.device + c.args.device in
    let same = timers_are g here in
    record {
      same = refl;
      sized = ap length same ∙ length-set w.timers slot (timer g here);
      others = λ other apart. rw same (set_aside w.timers slot other (timer g here) apart);
      later = λ all. subst (AreFrom w.time) (sym same) (All-set (λ t. w.time ≤ t.time) w.timers slot (timer g here)
          (omega arith) all);
    }

pub returns-clause-put : goal.returns-clause-put
returns-clause-put g c = set_at g (goal.at.returns-clause-put g c).After-set

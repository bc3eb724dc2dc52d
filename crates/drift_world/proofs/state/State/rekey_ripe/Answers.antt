use Rattle.drift_world.proofs.Timings.{IsLow, not_past, ripe_timed}
use Rattle.tte_units.proofs.general_lemmas.Lists.{set_aside, set_same}
use Rattle.drift_world.proofs.Words.{◌<◌, ◌∙◌, ◌≡◌, ◌≤◌, DeviceId, ap, arith, length, length-set, refl, slice_get_read, subst, sym}
use Rattle.std.proofs.Common.{slice_set}
use Rattle.{std.proofs.lemmas.List.Elements.All-set, world_law.proofs.giving.GivenParts.some_same}
use Rattle.{drift_world.proofs.state.State.rekey_ripe.Given.Over, world_state.specs.{declared.timers.Timer.Timer, timers.Times.AreFrom}}
use Rattle.drift_world.proofs.state.State.rekey_ripe.Goals.{After-set}
use Rattle.drift_world.proofs.state.State.rekey_ripe.Goals as goal

-- the timer, as it is set
abbrev timer : (g : Over) (c : After-set g) → Timer
timer g c = record { time = c.time_for-ripe.result; rank = 3 }

timers_are : (g : Over) (c : After-set g) → c.set.new.self ≡ slice_set c.args.self.now.timers c.args.device (timer g c)
timers_are g c =
    c.set.ensures
    ∙ ap (λ r. slice_set c.args.self.now.timers c.args.device (let t : Timer =
    record { time = c.time_for-ripe.result; rank = r } in t)) c.number.ensures

pub returns-clause-timed : goal.returns-clause-timed
returns-clause-timed g c =
    let w = c.args.self.now in
    let K = g.C.Clock in
    let there = c.requires.may.there in
    let slots = c.requires.may.slots in
    let clocks = c.requires.may.sized.clocks in
    let held = w.clocks.ok.0 in
    let device : DeviceId = record { 0 = c.args.device } in
    let s = c.requires.may.running.s in
    let old = c.requires.may.running.is in
    let of_it : c.args.device < length s.network.device = rw old.same at there in
    let own = old.clocks device of_it in
    let clock = own.0 in
    let same = some_same _ _ _ own.1
    (slice_get_read w.clocks.items w.clocks.len c.args.device c.index.result.now w.clocks.ok.0 (omega arith)
    c.index.ensures) in
    let low : IsLow K.reading clock w.time = λ u from most.
    let least = (old.steady device).low u most in let reads = own.2 u from in omega arith in
    let point = c.least_point-point.ensures in
    record {
      clock = clock;
      of_clock = own.1;
      ripe = c.time_for-ripe.result;
      of_ripe = rw (timers_are g (goal.at.returns-clause-timed g c).After-set)
          (set_same w.timers c.args.device (timer g (goal.at.returns-clause-timed g c).After-set) (omega arith));
      ripens = ripe_timed K.reading clock w.waiting.items c.args.device w.time c.least_point-point.result c.time_for-ripe.result low point
          (rw same c.time_for-ripe.ensures);
    }

pub returns-clause-sets : goal.returns-clause-sets
returns-clause-sets g c =
    let w = c.args.self.now in
    let here = (goal.at.returns-clause-sets g c).After-set in
    let ripe = c.time_for-ripe.result in
    let same = timers_are g here in
    record {
      same = refl;
      sized = ap length same ∙ length-set w.timers c.args.device (timer g here);
      others = λ other apart. rw same (set_aside w.timers c.args.device other (timer g here) apart);
      later = λ all. subst (AreFrom w.time) (sym same)
          (All-set (λ t. w.time ≤ t.time) w.timers c.args.device (timer g here)
          (not_past g.C.Clock.reading c.index.result.now w.time c.least_point-point.result ripe c.requires.may.sized.limit c.time_for-ripe.ensures) all);
    }

use Rattle.drift_world.proofs.{Timings.{IsLow, acts_timed, not_past}, Words.sym}
use Rattle.tte_units.proofs.general_lemmas.Lists.{set_aside, set_same}
use Rattle.drift_world.proofs.Words.{◌+◌, ◌<◌, ◌∙◌, ◌≡◌, ◌≤◌, DeviceId, ap, arith, length, length-set, refl, slice_get_read, slice_set, subst}
use Rattle.{drift_world.proofs.state.State.rekey_act_at.Given.Over, std.proofs.lemmas.List.Elements.All-set, world_law.proofs.giving.GivenParts.some_same}
use Rattle.{drift_world.specs.Parts.part_rank}
use Rattle.world_state.specs.{declared.timers.Timer.Timer, timers.Times.AreFrom}
use Rattle.drift_world.proofs.state.State.rekey_act_at.Goals as goal

-- the timer, as it is set
abbrev timer : (g : Over) (c : goal.After-set g) → Timer
timer g c = record { time = c.time_for-act.result; rank = part_rank c.part_at-part.result }

timers_are : (g : Over) (c : goal.After-set g)
    → c.set.new.self ≡ slice_set c.args.self.now.timers (length c.args.network.now.device + c.args.device) (timer g c)
timers_are g c =
    let w = c.args.self.now in
    c.set.ensures
    ∙ ap (λ r. slice_set w.timers (length c.as_slice-devices.result.now + c.args.device)
    (let t : Timer = record { time = c.time_for-act.result; rank = r } in t)) (c.number.ensures ∙ c.rank.ensures)
    ∙ ap (λ n. slice_set w.timers (n + c.args.device) (timer g c)) (ap length c.as_slice-devices.ensures)

pub returns-clause-timed : goal.returns-clause-timed
returns-clause-timed g c =
    let w = c.args.self.now in
    let K = g.C.Clock in
    let network = c.args.network.now in
    let there = c.requires.may.there in
    let slots = c.requires.may.slots in
    let clocks = c.requires.may.sized.clocks in
    let held = w.clocks.ok.0 in
    let device : DeviceId = record { 0 = c.args.device } in
    let s = c.requires.may.running.s in
    let old = c.requires.may.running.is in
    let of_it : c.args.device < length s.network.device = rw old.same at there in
    let own = old.clocks device of_it in
    let has = old.devices device of_it in
    let clock = own.0 in
    let same = some_same _ _ _ own.1
    (slice_get_read w.clocks.items w.clocks.len c.args.device c.index.result.now w.clocks.ok.0 (omega arith)
    c.index.ensures) in
    let low : IsLow K.reading clock w.time = λ u from most.
    let least = (old.steady device).low u most in let reads = own.2 u from in omega arith in
    record {
      clock = clock;
      of_clock = own.1;
      machine = has.0;
      of_machine = has.1;
      act = c.time_for-act.result;
      part = c.part_at-part.result;
      of_act = rw (timers_are g c)
          (set_same w.timers (length network.device + c.args.device) (timer g c) (omega arith));
      acts = acts_timed K.reading g.M.Machine.stands network clock has.0 device w.time c.args.due c.time_for-act.result c.part_at-part.result low
          (λ node is. c.requires.due has.0 network device node has.1 is)
          (rw same c.time_for-act.ensures)
          (λ node kept. c.part_at-part.ensures clock has.0 network device node own.1 has.1 kept);
    }

pub returns-clause-sets : goal.returns-clause-sets
returns-clause-sets g c =
    let w = c.args.self.now in
    let slot = length c.args.network.now.device + c.args.device in
    let act = c.time_for-act.result in
    let same = timers_are g c in
    record {
      same = refl;
      sized = ap length same ∙ length-set w.timers slot (timer g c);
      others = λ other apart. rw same (set_aside w.timers slot other (timer g c) apart);
      later = λ all. subst (AreFrom w.time) (sym same)
          (All-set (λ t. w.time ≤ t.time) w.timers slot (timer g c)
          (not_past g.C.Clock.reading c.index.result.now w.time c.args.due act c.requires.may.sized.limit c.time_for-act.ensures) all);
    }

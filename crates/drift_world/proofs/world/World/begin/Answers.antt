use Rattle.drift_world.proofs.{Onwards.{first_sound, first_stands}, Signals.sound_timers, Words.world_of}
use Rattle.drift_world.{specs.Beginning.IsFirstState}
use Rattle.drift_world.proofs.Words.{◌∙◌, IsInRange, IsLawful, KeepsRules, StandsUnder, [], ap, length, reading_of, scenario, subst, sym}
use Rattle.std.proofs.lemmas.List.{length-replicate}
use Rattle.drift_world.proofs.world.World.begin.Given as given
use Rattle.drift_world.proofs.world.World.begin.Goals as goal

-- the laws of the clocks
lawful : (g : given.Over) → IsLawful g.C.Clock.fresh g.C.Clock.after_step g.C.Clock.reading g.C.Clock.grain_of g.C.Clock.count
lawful g = record {
  has_grain = g.met.C.Clock.has_grain;
  keeps_grain = g.met.C.Clock.keeps_grain;
  reads_count = g.met.C.Clock.reads_count;
  counts_time = g.met.C.Clock.counts_time;
  keeps_count = g.met.C.Clock.keeps_count;
  drifts = g.met.C.Clock.drifts;
}

pub rekey_all-requires-clause-may : goal.rekey_all-requires-clause-may
rekey_all-requires-clause-may g c =
    let K = g.C.Clock in
    let network = c.network-network.result.now in
    let range = subst IsInRange (sym c.network-network.ensures.value) c.network-network.ensures.range in
    let are = rw (sym c.network-network.ensures.value) at c.requires in
    let under = first_stands c.in_ok-state.ensures
    (lawful g) are range
    (subst KeepsRules (sym c.network-network.ensures.value) c.network-network.ensures.rules) in
    record {
      sized = (first_sound c.in_ok-state.ensures range are.each).sized;
      slots = ap length c.in_ok-state.ensures.timers ∙ length-replicate _ _;
      running = record { s = scenario network (reading_of K.fresh K.after_step K.reading network []) []; notes = []; is = under.is };
    }

-- the state is the first of the network, but for its timers
first : (g : given.Over) (c : goal.After-rekey_all g)
    → IsFirstState g.C.Clock.fresh g.C.Clock.last_step c.args.accepted.now c.args.machines.items c.in_ok-state.state
first g c =
    rw c.network-network.ensures.value at c.in_ok-state.ensures

stands : (g : given.Over) (c : goal.After-rekey_all g)
    → StandsUnder g.C.Clock.fresh g.C.Clock.after_step g.C.Clock.reading g.M.Machine.stands c.args.accepted.now
    (world_of c.args.accepted.now c.rekey_all.new.self) [] []
stands g c =
    let K = g.C.Clock in
    rw (ap (world_of c.args.accepted.now) (sym c.rekey_all.ensures.same)) at (first_stands (first g c)
    (lawful g) c.requires c.network-network.ensures.range c.network-network.ensures.rules)

pub invariant_of-result : goal.invariant_of-result
invariant_of-result g c =
    let K = g.C.Clock in
    let network = c.args.accepted.now in
    record {
      sound = sound_timers c.rekey_all.ensures.same
          (first_sound (first g c) c.network-network.ensures.range c.requires.each);
      running = record { s = scenario network (reading_of K.fresh K.after_step K.reading network []) []; notes = []; is = (stands g c).is };
      timed = rw c.network-network.ensures.value at c.rekey_all.ensures.timed;
    }

pub returns-clause-stands : goal.returns-clause-stands
returns-clause-stands g c = stands g c

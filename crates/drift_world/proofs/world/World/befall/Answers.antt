use Rattle.drift_world.proofs.{Onwards.{befalls, sets_short}, Signals.sound_timers, Timings.{timed_by_event, unmoved}}
use Rattle.drift_world.{specs.declared.state.State.State}
use Rattle.net_plan.specs.declared.event.Event.{Event}
use Rattle.precision_law.proofs.traffic_lemmas.safety_lemmas.Lawful.{slow_rate}
use Rattle.drift_world.proofs.Words.{◌*◌, ◌++◌, ◌∙◌, ◌∷◌, ◌≡◌, IsLawful, IsWithinHypothesis, List, Network, Note}
use Rattle.drift_world.proofs.Words.{StandsUnder, World, [], ap, arith, length, reading_of, refl, scenario, sym, world_of}
use Rattle.drift_world.proofs.world.World.befall.Given as given
use Rattle.drift_world.proofs.world.World.befall.Goals as goal

pub apply-requires-clause-slow : goal.apply-requires-clause-slow
apply-requires-clause-slow g c = λ device rate same.
    let may = c.requires.may in
    let most = may.is.is.range.rho in
    let slow = slow_rate c.args.self.now.network may.events c.args.event.now device rate may.within same in
    omega arith

pub apply-requires-clause-short : goal.apply-requires-clause-short
apply-requires-clause-short g c =
    let may = c.requires.may in
    sets_short may.events c.args.event.now may.is.is.range may.within c.args.event.now.what refl may.of_network
    c.requires.may.hold

-- the laws of the clocks
lawful : (g : given.Over) → IsLawful g.C.Clock.fresh g.C.Clock.after_step g.C.Clock.reading g.C.Clock.grain_of g.C.Clock.count
lawful g = record {
  has_grain = g.met.C.Clock.has_grain;
  keeps_grain = g.met.C.Clock.keeps_grain;
  reads_count = g.met.C.Clock.reads_count;
  counts_time = g.met.C.Clock.counts_time;
  keeps_count = g.met.C.Clock.keeps_count;
  drifts = g.met.C.Clock.drifts;
}

-- ---- where there was no memory

pub invariant_of-self : goal.invariant_of-self
invariant_of-self g c =
    let K = g.C.Clock in
    let state = c.self.inside.state in
    let new = c.apply.new.self in
    let well = c.self.invariant in
    let kept = c.in-Err.ensures.kept in
    let view = rw c.network-network.ensures.value at c.in-Err.ensures.err in
    let then_ = rw (sym view) at well.running.is in
    record {
      sound = rw c.network-network.ensures.value at c.apply.ensures.sound;
      running = record {
        s = well.running.s;
        notes = well.running.notes;
        is = then_;
      };
      timed = unmoved state new well.timed (ap State.clocks kept)
          (rw kept) (rw kept) (ap State.time kept)
          (ap State.timers kept);
    }

-- ---- where it befell

pub rekey_by-requires-clause-may : goal.rekey_by-requires-clause-may
rekey_by-requires-clause-may g c =
    let K = g.C.Clock in
    let may = c.requires.may in
    let network = c.args.self.now.network in
    let events = may.events ++ c.args.event.now ∷ [] in
    record {
      sized = c.apply.ensures.sound.sized;
      slots = ap length c.apply.ensures.timers ∙ c.self.invariant.timed.sized
          ∙ ap (λ n. 2 * length n.device) (sym c.network-network.ensures.value);
      running = record {
        s = scenario network (reading_of K.fresh K.after_step K.reading network events) events;
        notes = may.notes ++ c.in-Ok.note ∷ [];
        is = (befalls (lawful g) c.self.inside.state c.apply.new.self
            (rw c.network-network.ensures.value c.self.view_is) c.in-Ok.note
            (c.self.invariant.sound.sized.clocks ∙ ap (λ n. length n.device) (sym c.network-network.ensures.value))
            may.now
            may.hold may.of_network c.in-Ok.ensures.clocks c.in-Ok.ensures.stands may.is
            may.within).is;
      };
    }

befallen : (g : given.Over) (c : goal.After-rekey_by g) {network : Network} {events : List Event} {notes : List Note}
    → StandsUnder g.C.Clock.fresh g.C.Clock.after_step g.C.Clock.reading g.M.Machine.stands network c.args.self.now events notes
    → IsWithinHypothesis network events c.args.event.now → StandsUnder g.C.Clock.fresh g.C.Clock.after_step g.C.Clock.reading g.M.Machine.stands network
    (world_of c.self.inside.accepted.now c.rekey_by.new.self) (events ++ c.args.event.now ∷ []) (notes ++ c.in-Ok.note ∷ [])
befallen g c {network} {events} {notes} under within =
    let K = g.C.Clock in
    let may = c.requires.may in
    let own = c.network-network.result.now in
    let it = befalls (lawful g) c.self.inside.state c.apply.new.self
    (rw c.network-network.ensures.value c.self.view_is) c.in-Ok.note
    (c.self.invariant.sound.sized.clocks ∙ ap (λ n. length n.device) (sym c.network-network.ensures.value)) may.now
    may.hold may.of_network c.in-Ok.ensures.clocks c.in-Ok.ensures.stands under within in
    let same : world_of own c.apply.new.self ≡ world_of c.self.inside.accepted.now c.rekey_by.new.self =
    rw c.network-network.ensures.value
    (ap (λ s. world_of c.self.inside.accepted.now s) (sym c.rekey_by.ensures.sets.same)) in
    rw same at it

pub invariant_of-self-2 : goal.invariant_of-self-2
invariant_of-self-2 g c =
    let K = g.C.Clock in
    let may = c.requires.may in
    let network = c.args.self.now.network in
    let events = may.events ++ c.args.event.now ∷ [] in
    let state = c.self.inside.state in
    let mid = c.apply.new.self in
    let new = c.rekey_by.new.self in
    let sets = c.rekey_by.ensures.sets in
    let was = rw (sym c.network-network.ensures.value) at c.self.invariant.timed in
    let of_network = rw (sym (c.network-network.ensures.value ∙ ap World.network c.self.view_is)) at may.of_network in
    record {
      sound = sound_timers sets.same
          (rw c.network-network.ensures.value at c.apply.ensures.sound);
      running = record {
        s = scenario network (reading_of K.fresh K.after_step K.reading network events) events;
        notes = may.notes ++ c.in-Ok.note ∷ [];
        is = (befallen g c may.is may.within).is;
      };
      timed = rw c.network-network.ensures.value at (timed_by_event c.args.event.now.what was c.in-Ok.ensures.others
          c.apply.ensures.timers
          c.apply.ensures.still.0 of_network sets c.rekey_by.ensures.timed);
    }

pub returns-clause-stands : goal.returns-clause-stands
returns-clause-stands g c = λ network events notes under within. befallen g c under within

use Rattle.drift_world.proofs.{MayGive.{low_with, may_give, may_in}, Signals.sized_so, Words.world_of}
use Rattle.drift_world.proofs.Givings.{from_ports, from_wire, launched_on, waits_apart, waits_below, waits_elsewhere}
use Rattle.drift_world.proofs.Givings.{waits_more, wire_is, wire_sound}
use Rattle.{drift_world.proofs.state.State.give_first.Goals.After-launch_octets, world_law.specs.steps.Turns.IsLaunched}
use Rattle.drift_world.proofs.Words.{◌+◌, ◌∙◌, ◌≡◌, ChangesOnly, IsPutOn, IsSound, IsStoredBy}
use Rattle.drift_world.proofs.Words.{ap, arith, changed_device, inl, inr, length}
use Rattle.drift_world.proofs.Words.{refl, subst, sym, units_of, wire_entry}
use Rattle.{drift_world.specs.declared.state.State.State}
use Rattle.drift_world.proofs.state.State.give_first.Given as given
use Rattle.drift_world.proofs.state.State.give_first.Goals as goal

-- what is launched, and what has changed then
gave_all : (g : given.Over) (c : After-launch_octets g)
    → (let q : State _ _ = record c.launch_octets.new.self { given = c.args.self.now.given + 1 } in q) ≡ (let r : State _ _ = record c.args.self.now {
      under_way = c.launch_octets.new.self.under_way;
      waiting = c.launch_frame.new.self.waiting;
      stored = c.launch_octets.new.self.stored;
      given = c.args.self.now.given + 1;
    } in r)
gave_all g c =
    let three = c.launch_octets.new.self in
    let number = c.args.self.now.given + 1 in
    rw c.launch_octets.ensures.same
    (ap (λ q. let r : State _ _ = record q { under_way = three.under_way; stored = three.stored; given = number } in r)
    c.launch_frame.ensures.same)

pub returns-clause-sound : goal.returns-clause-sound
returns-clause-sound g c =
    let w = c.args.self.now in
    let network = c.args.network.now in
    let first = c.args.first in
    let fit = c.requires.sound.fit in
    let number = w.given + 1 in
    let two = c.launch_frame.new.self in
    let three = c.launch_octets.new.self in
    let giving = c.launch_frame.ensures.given.0 in
    let out = c.launch_frame.ensures.given.1 in
    let wire = wire_entry network w.ups.items w.downs.items first.body first.frame first.octets w.time number in
    let sent : IsPutOn wire two.under_way.entries three.under_way.entries =
    rw c.launch_frame.ensures.same at c.launch_octets.ensures.sent in
    let on = wire_is w.ups.items w.downs.items c.requires.range number first.body first.frame first.octets w.time in
    let ports = from_ports giving out in
    let wires = from_wire network number two.under_way.entries three.under_way.entries wire on sent in
    let mid = c.launch_frame.ensures.sound fit.below c.requires.sound.under_way in
    let more = waits_more giving out in
    let last = gave_all g (goal.at.returns-clause-sound g c).After-launch_octets in
    let whole : IsSound g.C.Clock.last_step network (record w {
      under_way = three.under_way;
      waiting = two.waiting;
      stored = three.stored;
      given = number;
    }) = record {
      sized = sized_so _ c.requires.sound.sized refl refl refl refl refl refl refl;
      under_way = wire_sound network number two.under_way.entries three.under_way.entries wire on sent (λ d there. elim (ports d there) [
        | inl old ↦ inl (fit.below d old)
        | inr port ↦ inr port.1
      ]) mid;
      fit = record {
        ups = fit.ups;
        downs = fit.downs;
        octets = fit.octets;
        below = λ e there. elim (wires e there) [
          | inl before ↦
              elim (ports e before) [
                | inl old ↦ let low = fit.below e old in omega arith
                | inr port ↦ let cause = port.0 in omega arith
              ]
          | inr cause ↦ omega arith
        ];
        waits_below = waits_below first.body number w.waiting.items two.waiting.items more fit.waits_below;
        apart = waits_apart first.body number w.waiting.items two.waiting.items more fit.waits_below fit.apart;
      };
    } in
    subst (IsSound g.C.Clock.last_step network) (sym last) whole

pub returns-clause-launched : goal.returns-clause-launched
returns-clause-launched g c = λ s notes next own.
    let w = c.args.self.now in
    let K = g.C.Clock in
    let network = c.args.network.now in
    let first = c.args.first in
    let two = c.launch_frame.new.self in
    let three = c.launch_octets.new.self in
    let number : w.given + 1 ≡ length notes + 1 = rw next.given in
    let given = c.launch_frame.ensures.given in
    let out = rw number at given.1 in
    let sent = rw number at (rw c.launch_frame.ensures.same at c.launch_octets.ensures.sent) in
    let held : IsStoredBy first.body first.octets (length notes + 1) w.stored.items three.stored.items =
    rw number at (rw c.launch_frame.ensures.same at c.launch_octets.ensures.stored) in
    let step = launched_on _ K.reading s (sym next.same) w two notes first given.0 three.under_way.entries
    three.stored.items next own (may_in w first next own c.requires.octets) out sent held in
    let so : IsLaunched s notes first.body (world_of network w) (world_of network (record w {
      under_way = three.under_way;
      waiting = two.waiting;
      stored = three.stored;
      given = w.given + 1;
    })) = record { wires = step.wires; ports = step.ports; waiting = step.waiting; stored = step.stored } in
    subst (λ q. IsLaunched s notes first.body (world_of network w) (world_of network q))
    (sym (gave_all g (goal.at.returns-clause-launched g c).After-launch_octets)) so

pub returns-clause-others : goal.returns-clause-others
returns-clause-others g c =
    let w = c.args.self.now in
    let first = c.args.first in
    let number = w.given + 1 in
    let two = c.launch_frame.new.self in
    let three = c.launch_octets.new.self in
    let more = waits_more c.launch_frame.ensures.given.0 c.launch_frame.ensures.given.1 in
    let last = gave_all g (goal.at.returns-clause-others g c).After-launch_octets in
    let whole : ChangesOnly (changed_device first.body) w (record w {
      under_way = three.under_way;
      waiting = two.waiting;
      stored = three.stored;
      given = number;
    }) = record {
      clocks = refl;
      time = refl;
      ended = refl;
      machines = λ i apart. refl;
      waiting = waits_elsewhere first.body number w.waiting.items two.waiting.items more;
    } in
    subst (ChangesOnly (changed_device first.body) w) (sym last) whole

pub launch_frame-requires : goal.launch_frame-requires
launch_frame-requires g c =
    let w = c.args.self.now in
    let may = may_give w c.args.first c.requires.next c.requires.octets in
    let fit = c.requires.sound.fit in
    let room = c.requires.room in
    record {
      sized = c.requires.sound.sized;
      range = c.requires.range;
      by = may.by;
      young = may.young;
      room = omega arith;
      capacity = c.requires.capacity;
      ups = fit.ups;
      downs = fit.downs;
      low = low_with w c.args.first c.requires.next c.requires.sound.sized.clocks;
    }

pub launch_octets-requires : goal.launch_octets-requires
launch_octets-requires g c =
    let fit = c.requires.sound.fit in
    let same = c.launch_frame.ensures.same in
    let room = c.requires.room in
    let left = c.launch_frame.ensures.room in
    record {
      sized = sized_so c.launch_frame.new.self c.requires.sound.sized (ap State.clocks same)
          (rw same) (ap State.broken same) (ap State.ups same)
          (ap State.downs same) (ap State.time same) (ap State.shown same);
      range = c.requires.range;
      room = omega arith;
      place = rw same c.requires.place;
      ups = rw same fit.ups;
      downs = rw same fit.downs;
    }

pub returns-clause-note : goal.returns-clause-note
returns-clause-note g c =
    let now = ap State.time c.launch_octets.ensures.same ∙ ap State.time c.launch_frame.ensures.same in
    rw (c.from_amount-note-inside.ensures.value ∙ ap units_of now)

pub returns-clause-same : goal.returns-clause-same
returns-clause-same g c =
    let w = c.args.self.now in
    let three = c.launch_octets.new.self in
    let rebuilt : State _ _ → State _ _ = λ q. record w {
      under_way = three.under_way;
      waiting = q.waiting;
      stored = three.stored;
      given = w.given + 1;
    } in
    gave_all g (goal.at.returns-clause-same g c).After-launch_octets ∙ sym (ap rebuilt (c.launch_octets.ensures.same
    ∙ ap (λ q. let r : State _ _ = record q { under_way = three.under_way; stored = three.stored } in r)
    c.launch_frame.ensures.same))

pub returns-clause-arrived : goal.returns-clause-arrived
returns-clause-arrived g c =
    (may_give c.args.self.now c.args.first c.requires.next c.requires.octets).arrived

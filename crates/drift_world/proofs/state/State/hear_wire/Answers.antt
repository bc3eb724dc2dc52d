use Rattle.drift_world.proofs.{Rising.settled_in_order, Turned.{arrived_device, arrived_late, one_turn}, Turning.is_at}
use Rattle.drift_world.proofs.{Words.{false, subst, sym, world_of}}
use Rattle.drift_world.proofs.{state.State.hear_wire.Goals.{After-index_mut-machine, After-read}}
use Rattle.drift_world.proofs.Signals.{as_sent, below_without, have_octets, heard_octets, heard_turns, may_come}
use Rattle.drift_world.proofs.Signals.{moment_is, sized_so}
use Rattle.world_state.proofs.Queues.{sound_without}
use Rattle.tte_units.proofs.general_lemmas.Lists.{set_aside, set_same}
use Rattle.drift_world.proofs.Words.{◌+◌, ◌∙◌, ◌≡◌, DeviceId, Moment, Note, Scenario, Some, Stands, ap, arith, changed_device}
use Rattle.drift_world.proofs.Words.{List, keeps, length-set, length_permutation, moment_of, rank, refl, settled_at, slice_get_read}
use Rattle.{std.proofs.Common.{set, slice_get}, world_law.proofs.giving.GivenParts.some_same}
use Rattle.world_law.specs.world.World.{is_at_source}
use Rattle.drift_world.proofs.state.State.hear_wire.Given as given
use Rattle.drift_world.proofs.state.State.hear_wire.Goals as goal

-- the machine of its device, and the moment at which it hears
held : (g : given.Over) (c : After-index_mut-machine g) → slice_get c.args.self.now.machines.items c.args.place.device ≡ Some c.index_mut-machine.result.now
held g c =
    let within = c.requires.may.foremost.there.device in
    let machines = c.requires.may.well.sound.sized.machines in
    let kept = c.args.self.now.machines.ok.0 in
    slice_get_read c.args.self.now.machines.items c.args.self.now.machines.len c.args.place.device c.index_mut-machine.result.now c.args.self.now.machines.ok.0
    (omega arith) c.index_mut-machine.ensures.value

now_is : (g : given.Over) (c : After-read g) {s : Scenario} {notes : List Note}
    → Stands g.C.Clock.reading (keeps g.M.Machine.stands) s (world_of c.args.network.now c.args.self.now) notes
    → (let m : Moment = record { time = c.from_amount-time.result; reading = c.read.result } in m)
    ≡ moment_of s (record { 0 = c.args.place.device }) c.args.self.now.time
now_is g c {s} old =
    let device : DeviceId = record { 0 = c.args.place.device } in
    let within = c.requires.may.foremost.there.device in
    let clocks = c.requires.may.well.sound.sized.clocks in
    let held = c.args.self.now.clocks.ok.0 in
    let own = old.clocks device (rw old.same at within) in
    moment_is g.C.Clock.reading s c.args.self.now.time device c.read.result
    (some_same _ _ _ own.1
    (slice_get_read c.args.self.now.clocks.items c.args.self.now.clocks.len device.0 c.index.result.now c.args.self.now.clocks.ok.0
    (omega (arith, held)) c.index.ensures))
    own.2 c.from_amount-time.ensures.value c.read.ensures

pub hear_signal-hearing-requires-clause-may : goal.hear_signal-hearing-requires-clause-may
hear_signal-hearing-requires-clause-may g c =
    let at = is_at c.requires.may tt in
    may_come g.C.Clock.reading (keeps g.M.Machine.stands) at.s c.args.network.now c.args.self.now at.notes at.is c.args.place c.take_wire-signal.result
    c.take_wire-signal.new.under_way.entries c.take_wire-signal.ensures.taken c.requires.may.foremost.there.rank_is c.requires.may.foremost.there.now
    (held g (goal.at.hear_signal-hearing-requires-clause-may g c).After-index_mut-machine)
    (now_is g (goal.at.hear_signal-hearing-requires-clause-may g c).After-read at.is)

pub hear_signal-hearing-requires-clause-as_sent : goal.hear_signal-hearing-requires-clause-as_sent
hear_signal-hearing-requires-clause-as_sent g c =
    let at = is_at c.requires.may tt in
    as_sent g.C.Clock.reading (keeps g.M.Machine.stands) at.s c.args.network.now c.args.self.now at.notes at.is c.args.place c.take_wire-signal.result
    c.take_wire-signal.new.under_way.entries c.take_wire-signal.ensures.taken c.requires.may.foremost.there.rank_is c.requires.may.foremost.there.now

pub returns-clause-sound : goal.returns-clause-sound
returns-clause-sound g c =
    let w = c.args.self.now in
    let fit = c.requires.may.well.sound.fit in
    let took = c.take_wire-signal in
    record {
      sized = sized_so _ c.requires.may.well.sound.sized refl
          (length-set w.machines.items c.args.place.device c.hear_signal-hearing.new.kept) refl refl refl refl refl;
      under_way = sound_without c.args.network.now w.under_way.entries took.new.under_way.entries _ c.requires.may.well.sound.under_way took.ensures.taken;
      fit = record {
        ups = fit.ups;
        downs = fit.downs;
        octets = fit.octets;
        below = below_without (w.given + 1) w.under_way.entries took.new.under_way.entries _ took.ensures.taken fit.below;
        waits_below = fit.waits_below;
        apart = fit.apart;
      };
    }

pub returns-clause-octets : goal.returns-clause-octets
returns-clause-octets g c =
    let took = c.take_wire-signal in
    let at = is_at c.requires.may tt in
    let heard = c.hear_signal-hearing in
    subst have_octets (sym c.arrived-heard.ensures)
    (heard_octets g.C.Clock.reading (keeps g.M.Machine.stands) at.s c.args.network.now c.args.self.now at.notes at.is c.args.place took.result
    took.new.under_way.entries took.ensures.taken c.requires.may.foremost.there.rank_is c.requires.may.foremost.there.now (held g (goal.at.returns-clause-octets g c).After-index_mut-machine)
    (now_is g (goal.at.returns-clause-octets g c).After-read at.is) heard.new.kept heard.result.arrival heard.ensures.hears.1
    heard.ensures.hears.2)

pub returns-clause-device : goal.returns-clause-device
returns-clause-device g c = λ two.
    subst (λ r. rank r.body ≡ 2 → changed_device r.body ≡ c.args.place.device) (sym c.arrived-heard.ensures)
    (arrived_device c.args.place c.hear_signal-hearing.result.arrival c.take_wire-signal.result) two

pub returns-clause-late : goal.returns-clause-late
returns-clause-late g c = λ not.
    subst (λ r. (rank r.body ≡ 2 → ⊥) → is_at_source r.body ≡ false) (sym c.arrived-heard.ensures)
    (arrived_late c.args.place c.hear_signal-hearing.result.arrival c.take_wire-signal.result) not

pub returns-clause-turns : goal.returns-clause-turns
returns-clause-turns g c = λ s notes old first.
    let w = c.args.self.now in
    let network = c.args.network.now in
    let device : DeviceId = record { 0 = c.args.place.device } in
    let within = c.requires.may.foremost.there.device in
    let machines = c.requires.may.well.sound.sized.machines in
    let kept = w.machines.ok.0 in
    let took = c.take_wire-signal in
    let heard = c.hear_signal-hearing in
    let it = heard_turns g.C.Clock.reading (keeps g.M.Machine.stands) s network w notes old c.args.place took.result
    took.new.under_way.entries
    took.ensures.taken c.requires.may.foremost.there.rank_is c.requires.may.foremost.there.now
    (held g (goal.at.returns-clause-turns g c).After-index_mut-machine)
    (now_is g (goal.at.returns-clause-turns g c).After-read old)
    heard.new.kept heard.result.arrival (set w.machines.items device.0 heard.new.kept)
    c.requires.may.well.sound.under_way first heard.ensures.hears.1 heard.ensures.hears.2
    (record {
      there = set_same w.machines.items device.0 heard.new.kept (omega arith);
      same = λ i apart. set_aside w.machines.items device.0 i heard.new.kept apart;
    }) in
    one_turn g.M.Machine.stands network c.arrived-heard.result (settled_in_order old)
    (ap (settled_at network w.time) c.arrived-heard.ensures ∙ it.0) it.1

pub returns-clause-others : goal.returns-clause-others
returns-clause-others g c = record {
  clocks = refl;
  time = refl;
  ended = refl;
  machines = λ i apart. set_aside c.args.self.now.machines.items c.args.place.device i c.hear_signal-hearing.new.kept apart;
  waiting = λ w apart. (λ there. there, λ there. there);
}

pub returns-clause-shorter : goal.returns-clause-shorter
returns-clause-shorter g c = let same = length_permutation _ _ c.take_wire-signal.ensures.taken in omega arith

pub returns-clause-before : goal.returns-clause-before
returns-clause-before g c = λ was is at now.
    let w = c.args.self.now in
    let within = c.requires.may.foremost.there.device in
    let machines = c.requires.may.well.sound.sized.machines in
    let kept = w.machines.ok.0 in
    let heard = c.hear_signal-hearing in
    rw (some_same _ _ _ (set_same w.machines.items c.args.place.device heard.new.kept
    (omega (arith, machines, within, kept))) now) at (rw
    (some_same _ _ _ (held g (goal.at.returns-clause-before g c).After-index_mut-machine)
    at) at heard.ensures.before)

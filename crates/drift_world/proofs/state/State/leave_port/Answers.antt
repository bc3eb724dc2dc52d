use Rattle.drift_world.proofs.{ActSteps.{departed_is, frame_of_port}, Alike.turns_alike, Rising.settled_in_order}
use Rattle.drift_world.proofs.{Locals.shows_of, Signals.{below_without, sized_so}, Turned.some_turn}
use Rattle.world_state.proofs.Queues.{ports_without, sound_without, wires_stay}
use Rattle.world_law.proofs.steps_lemmas.turns.Turns.{left_turn}
use Rattle.world_state.{specs.{Leaving.port_entry, declared.queue.Entry.Entry}}
use Rattle.world_law.specs.steps.{Steps.{departure_now}}
use Rattle.drift_world.proofs.Words.{length_permutation, numbers_of, on_wire, refl, subst, sym, world_of}
use Rattle.drift_world.proofs.Words.{◌+◌, ◌∷◌, ◌≡◌, ComesFirst, Content, IsPermutation-sym, Port, World, []}
use Rattle.drift_world.proofs.Words.{arith, at_port, departure_body, false, happenings, in_permuted, inl, is_broken, is_given, keeps}
use Rattle.std.specs.List.{filter_map}
use Rattle.drift_world.proofs.state.State.leave_port.Goals as goal

pub returns-clause-sound : goal.returns-clause-sound
returns-clause-sound g c =
    let w = c.args.self.now in
    let fit = c.requires.may.well.sound.fit in
    record {
      sized = sized_so _ c.requires.may.well.sound.sized refl refl refl refl refl refl refl;
      under_way = sound_without c.args.network.now w.under_way.entries c.take_port-frame.new.under_way.entries _ c.requires.may.well.sound.under_way
          c.take_port-frame.ensures.taken;
      fit = record {
        ups = fit.ups;
        downs = fit.downs;
        octets = fit.octets;
        below = below_without (w.given + 1) w.under_way.entries c.take_port-frame.new.under_way.entries _ c.take_port-frame.ensures.taken fit.below;
        waits_below = fit.waits_below;
        apart = fit.apart;
      };
    }

pub returns-clause-turns : goal.returns-clause-turns
returns-clause-turns g c = λ s notes old first.
    let w = c.args.self.now in
    let K = g.C.Clock in
    let stands = keeps g.M.Machine.stands in
    let network = c.args.network.now in
    let world = world_of network w in
    let place = c.args.place in
    let took = c.take_port-frame in
    let e = port_entry place took.result.0 took.result.1 in
    let taken : Entry Content = record { place = place; content = Port took.result.0 took.result.1 } in
    let hs = happenings s.network notes in
    let numbers : numbers_of place ≡ place.at ∷ 8 ∷ place.device ∷ place.link ∷ place.cause ∷ [] =
    rw c.requires.may.foremost.there.rank_is in
    let there = is_given at_port w.under_way.entries taken e (in_permuted _ _ taken (IsPermutation-sym _ _ took.ensures.taken) (inl refl)) refl in
    let given = frame_of_port (old.ports.real e there).0 in
    let of = shows_of w old in
    let under_way = c.requires.may.well.sound.under_way in
    let mid : World _ _ = record world { ports = filter_map at_port took.new.under_way.entries; early = false } in
    let after : World _ _ = record mid { wires = filter_map (on_wire network) took.new.under_way.entries } in
    let turn = left_turn K.reading stands s world notes e (filter_map at_port took.new.under_way.entries)
    old there c.requires.may.foremost.there.now (subst (ComesFirst K.reading stands s world notes old) numbers first)
    (ports_without network w.under_way.entries took.new.under_way.entries taken under_way took.ensures.taken e refl) in
    let placed = rw (sym numbers) at turn in
    rw (c.departure.ensures.is s (record { same = of.same; clocks = of.clocks; broken = of.broken; ways = of.ways }))
    (some_turn g.M.Machine.stands network (is_broken s e.device w.time) _
    (departure_body e (departure_now s e w.time))
    (settled_in_order old) (departed_is s.network network w.time hs e (departure_now s e w.time) given)
    (turns_alike K.reading stands s notes mid (filter_map (on_wire network) took.new.under_way.entries) mid.ports
    (wires_stay network w.under_way.entries took.new.under_way.entries taken under_way took.ensures.taken refl)
    (λ d. (λ i. i, λ i. i)) placed))

pub returns-clause-shorter : goal.returns-clause-shorter
returns-clause-shorter g c = let same = length_permutation _ _ c.take_port-frame.ensures.taken in omega arith

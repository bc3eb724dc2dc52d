use Rattle.drift_world.proofs.{BefallenLaws.{all_fresh, befallen_behind, numbers_given, octets_settled}, state.State.settle_befallen.Goals.After-settle_all}
use Rattle.std.proofs.Common.{All}
use Rattle.drift_world.proofs.{Nearings.settled_length, Signals.{have_octets, sized_so, sound_same}}
use Rattle.drift_world.proofs.{Words.{◌+◌, ◌≡◌, ap, arith, length, refl, subst, sym}}
use Rattle.world_state.{proofs.WorldSteps.{settled_with, sound_settled}, specs.Befalling.AreSettledBy}
use Rattle.drift_world.proofs.state.State.settle_befallen.Given as given
use Rattle.drift_world.proofs.state.State.settle_befallen.Goals as goal

pub returns-in_err-make_room-clause-sound : goal.returns-in_err-make_room-clause-sound
returns-in_err-make_room-clause-sound g c =
    let made = c.make_room.ensures in
    let sound = c.requires.may.well.sound in
    sound_same _ sound refl refl refl refl refl refl refl refl made.entries refl
    (subst (All have_octets) (sym made.items) sound.fit.octets)

-- the outcomes are those of what befell
settled_so : (g : given.Over) (c : After-settle_all g)
    → AreSettledBy c.args.network.now c.args.self.now.broken.items c.args.self.now.ups.items c.args.self.now.time c.args.self.now.befell.items
    c.args.self.now.settled.items c.settle_all.new.settled.items
    c.args.self.now.under_way.entries c.settle_all.new.under_way.entries
settled_so g c =
    let w = c.args.self.now in
    let network = c.args.network.now in
    let after = c.settle_all.new in
    settled_with network c.as_slice.result.now w.broken.items c.as_slice-2.result.now w.ups.items w.time w.befell.items
    c.make_room.new.settled.items w.settled.items after.settled.items c.make_room.new.under_way.entries w.under_way.entries after.under_way.entries
    c.as_slice.ensures.value c.as_slice-2.ensures.value c.make_room.ensures.items c.make_room.ensures.entries c.settle_all.ensures.are

pub returns-clause-sound : goal.returns-clause-sound
returns-clause-sound g c =
    let w = c.args.self.now in
    let fit = c.requires.may.well.sound.fit in
    let network = c.args.network.now in
    let at = c.requires.may.well.running in
    let after = c.settle_all.new in
    let so = settled_so g (goal.at.returns-clause-sound g c).After-settle_all in
    let under = sound_settled network c.requires.may.range w.broken.items w.ups.items w.time (w.given + 1) w.befell.items w.settled.items after.settled.items
    w.under_way.entries after.under_way.entries so c.requires.may.well.sound.under_way fit.below at.is.untold.in_order
    (numbers_given w at.is c.requires.may.foremost.there)
    (all_fresh w at.is c.requires.may.foremost.there c.requires.may.well.sound.under_way) in
    record {
      sized = sized_so _ c.requires.may.well.sound.sized refl refl refl refl refl refl refl;
      under_way = under.0;
      fit = record {
        ups = fit.ups;
        downs = fit.downs;
        octets = octets_settled network w.broken.items w.ups.items w.time w.befell.items w.settled.items after.settled.items w.under_way.entries
            after.under_way.entries so fit.octets;
        below = under.1;
        waits_below = fit.waits_below;
        apart = fit.apart;
      };
    }

pub returns-clause-stands : goal.returns-clause-stands
returns-clause-stands g c = λ s notes old.
    let w = c.args.self.now in
    let after = c.settle_all.new in
    let so = settled_so g (goal.at.returns-clause-stands g c).After-settle_all in
    let few = c.if-more-self.false in
    let len = c.len-more.ensures in
    let own = w.befell.ok.0 in
    let given = old.given in
    befallen_behind w old c.requires.may.foremost.there after.settled.items
    after.under_way.entries c.settle_all.ensures.none (omega (arith, given)) so

pub returns-clause-no_more : goal.returns-clause-no_more
returns-clause-no_more g c =
    let w = c.args.self.now in
    let network = c.args.network.now in
    let after = c.settle_all.new in
    let so = settled_so g (goal.at.returns-clause-no_more g c).After-settle_all in
    let none : length after.befell.items ≡ 0 = ap length c.settle_all.ensures.none in
    let most = settled_length network w.broken.items w.ups.items w.time w.befell.items w.settled.items after.settled.items w.under_way.entries
    after.under_way.entries so in
    omega arith

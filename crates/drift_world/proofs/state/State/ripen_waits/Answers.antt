use Rattle.drift_world.proofs.Signals.{sized_so}
use Rattle.world_state.proofs.Queues.{was_there}
use Rattle.drift_world.proofs.{state.State.ripen_waits.Goals.{After-index_mut, After-take_first-waits}}
use Rattle.drift_world.proofs.Turned
use Turned.{asked, below_taken, device_in, low, moment_by, moment_is, others_wait, ripened, still_apart}
use Rattle.drift_world.proofs.Words.{◌+◌, ◌<◌, ◌≡◌, IsIn, List, Note, Scenario, Some, Stands, arith, is_set, keeps, length, length-set}
use Rattle.{drift_world.proofs.Words.{length_permutation, moment_of, refl, slice_get_read, subst, world_of}, world_law.specs.steps.Ripening.HasRipened}
use Rattle.std.proofs.Common.{slice_get}
use Rattle.drift_world.proofs.state.State.ripen_waits.Given as given
use Rattle.drift_world.proofs.state.State.ripen_waits.Goals as goal

-- it waits at a device of the network, whose clock reads its point or more
inside : (g : given.Over) (c : After-take_first-waits g) → IsIn c.take_first-waits.result c.args.self.now.waiting.items
inside g c = was_there c.take_first-waits.result c.args.self.now.waiting.items c.take_first-waits.new.self.items c.take_first-waits.ensures.items

within : (g : given.Over) (c : After-take_first-waits g) → c.take_first-waits.result.device.0 < length c.args.network.now.device
within g c =
    let at = c.requires.comes c.take_first-waits.result c.take_first-waits.ensures.is in
    device_in g.C.Clock.reading g.M.Machine.stands c.args.network.now c.args.self.now c.take_first-waits.result (inside g c) (λ clock own.
    c.requires.reached c.take_first-waits.result clock c.take_first-waits.ensures.is own) at.is

-- its device's machine, and the moment
held : (g : given.Over) (c : After-index_mut g) → slice_get c.args.self.now.machines.items c.take_first-waits.result.device.0 ≡ Some c.index_mut.result.now
held g c =
    let at = c.requires.comes c.take_first-waits.result c.take_first-waits.ensures.is in
    let lt = device_in g.C.Clock.reading g.M.Machine.stands c.args.network.now c.args.self.now c.take_first-waits.result
    (was_there c.take_first-waits.result c.args.self.now.waiting.items c.take_first-waits.new.self.items c.take_first-waits.ensures.items)
    (λ clock own. c.requires.reached c.take_first-waits.result clock c.take_first-waits.ensures.is own) at.is in
    let many = c.requires.sound.sized.machines in
    slice_get_read c.args.self.now.machines.items (length c.args.self.now.machines.items) c.take_first-waits.result.device.0 c.index_mut.result.now refl
    (omega arith)
    c.index_mut.ensures.value

now_is : (g : given.Over) (c : After-index_mut g) {s : Scenario} {notes : List Note}
    → Stands g.C.Clock.reading (keeps g.M.Machine.stands) s (world_of c.args.network.now c.args.self.now) notes
    → moment_by c.from_amount.result c.from_amount-2.result ≡ moment_of s c.take_first-waits.result.device c.args.self.now.time
now_is g c {s} {notes} old =
    let own = c.reading_of-reading.ensures in
    moment_is g.C.Clock.reading g.M.Machine.stands c.args.network.now c.args.self.now c.take_first-waits.result
    (was_there c.take_first-waits.result c.args.self.now.waiting.items c.take_first-waits.new.self.items c.take_first-waits.ensures.items) (λ clock own.
    c.requires.reached c.take_first-waits.result clock c.take_first-waits.ensures.is own) s old own.1 own.2 c.from_amount.ensures.value c.from_amount-2.ensures.value

pub reading_of-reading-requires-clause-there : goal.reading_of-reading-requires-clause-there
reading_of-reading-requires-clause-there g c = within g (goal.at.reading_of-reading-requires-clause-there g c).After-take_first-waits

pub from_amount-requires-2 : goal.from_amount-requires-2
from_amount-requires-2 g c =
    let at = c.requires.comes c.take_first-waits.result c.take_first-waits.ensures.is in
    let own = c.reading_of-reading.ensures in
    let most = low g.C.Clock.reading g.M.Machine.stands c.args.network.now c.args.self.now c.take_first-waits.result
    (inside g (goal.at.from_amount-requires-2 g c).After-take_first-waits) (λ clock own.
    c.requires.reached c.take_first-waits.result clock c.take_first-waits.ensures.is own) at.is own.1 in
    let same = own.2 in
    omega arith

pub index_mut-requires : goal.index_mut-requires
index_mut-requires g c =
    let lt = within g (goal.at.index_mut-requires g c).After-take_first-waits in
    let many = c.requires.sound.sized.machines in
    let len = c.args.self.now.machines.ok.0 in
    omega arith

pub ripen-ripe-requires : goal.ripen-ripe-requires
ripen-ripe-requires g c =
    let at = c.requires.comes c.take_first-waits.result c.take_first-waits.ensures.is in
    asked g.C.Clock.reading g.M.Machine.stands c.args.network.now c.args.self.now c.take_first-waits.result
    (inside g (goal.at.ripen-ripe-requires g c).After-take_first-waits) (λ clock own.
    c.requires.reached c.take_first-waits.result clock c.take_first-waits.ensures.is own) at (held g (goal.at.ripen-ripe-requires g c).After-index_mut)
    (now_is g (goal.at.ripen-ripe-requires g c).After-index_mut at.is)

pub returns-clause-sound : goal.returns-clause-sound
returns-clause-sound g c =
    let w = c.args.self.now in
    let one = c.take_first-waits.result in
    let z = c.requires.sound.sized in
    let fit = c.requires.sound.fit in
    let t = c.take_first-waits.ensures.items in
    record {
      sized = sized_so _ z refl (length-set w.machines.items one.device.0 c.ripen-ripe.new.self) refl
          refl refl refl refl;
      under_way = c.requires.sound.under_way;
      fit = record {
        ups = fit.ups;
        downs = fit.downs;
        octets = fit.octets;
        below = fit.below;
        waits_below = below_taken (w.given + 1) one w.waiting.items c.take_first-waits.new.self.items t fit.waits_below;
        apart = still_apart one w.waiting.items c.take_first-waits.new.self.items t fit.apart;
      };
    }

pub returns-clause-turns : goal.returns-clause-turns
returns-clause-turns g c = λ s notes old first.
    let one = c.take_first-waits.result in
    let lt = within g (goal.at.returns-clause-turns g c).After-take_first-waits in
    let many = c.requires.sound.sized.machines in
    ripened g.M.Machine.stands c.args.self.now c.take_first-waits.new.self.items
    c.ripen-ripe.new.self c.ripen-ripe.result c.take_first-waits.ensures.items c.requires.sound.fit.apart
    (λ clock own. c.requires.reached one clock c.take_first-waits.ensures.is own) (omega arith)
    (held g (goal.at.returns-clause-turns g c).After-index_mut) first
    (subst (λ m. HasRipened (keeps g.M.Machine.stands) s.network one.device m one.link one.frame one.point c.ripen-ripe.result c.index_mut.result.now
    c.ripen-ripe.new.self) (now_is g (goal.at.returns-clause-turns g c).After-index_mut old)
    (λ node. c.ripen-ripe.ensures s.network one.device node))

pub returns-clause-others : goal.returns-clause-others
returns-clause-others g c =
    let one = c.take_first-waits.result in
    let lt = within g (goal.at.returns-clause-others g c).After-take_first-waits in
    let many = c.requires.sound.sized.machines in
    record {
      clocks = refl;
      time = refl;
      ended = refl;
      machines = (is_set c.args.self.now.machines.items one.device.0 c.ripen-ripe.new.self (omega arith)).same;
      waiting = others_wait one c.args.self.now.waiting.items c.take_first-waits.new.self.items c.take_first-waits.ensures.items;
    }

pub returns-clause-shorter : goal.returns-clause-shorter
returns-clause-shorter g c =
    let len = length_permutation _ _ c.take_first-waits.ensures.items in
    omega arith

use Rattle.drift_world.proofs.{Locals.local_is_before, Words.{reading_of, scenario, sym}}
use Rattle.drift_world.proofs.Words.{◌∙◌, ◌≤◌, World, amount, ap, arith, in_all, ints}
use Rattle.drift_world.proofs.world.World.local_before.Goals as goal

pub local_of-requires-clause-may : goal.local_of-requires-clause-may
local_of-requires-clause-may g c =
    let K = g.C.Clock in
    let state = c.self.inside.state in
    let is = c.from_amount-now.ensures.whole in
    let limit = c.self.invariant.sound.sized.limit in
    record {
      there = rw (c.network.ensures.value ∙ ap World.network c.self.view_is) c.requires.there;
      stepped = λ clock found.
          let least = in_all (λ k. K.last_step k ≤ state.time) state.clocks.items c.args.device.0 clock c.self.invariant.sound.sized.stepped found in
          omega (arith, ints);
      limit = omega (arith, ints);
    }

pub returns-clause-local : goal.returns-clause-local
returns-clause-local g c = λ network events notes under early.
    let K = g.C.Clock in
    let S = g.M.Machine.stands in
    let s = scenario network (reading_of K.fresh K.after_step K.reading network events) events in
    rw (ap World.now c.self.view_is) at (local_is_before
    (rw (sym c.self.view_is) at under.is)
    (ap World.early c.self.view_is ∙ early)
    (rw (sym c.self.view_is) at c.requires.there)
    (ap amount c.from_amount-now.ensures.value)
    c.local_of.ensures.shows)

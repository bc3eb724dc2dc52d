use Rattle.drift_world.proofs.{Locals.{clock_stepped, local_is}, Words.{◌∙◌, ◌≤◌, World, amount, ap, arith, ints, sym}}
use Rattle.world_law.proofs.giving.GivenParts.{some_same}
use Rattle.drift_world.proofs.world.World.local.Goals as goal

pub local_of-requires-clause-may : goal.local_of-requires-clause-may
local_of-requires-clause-may g c =
    let K = g.C.Clock in
    let network = c.args.self.now.network in
    let may = c.requires.complete in
    let device = c.args.device in
    let was = may.is.is.clocks device c.requires.there in
    let viewed = ap (λ w. Rattle.std.specs.List.slice_get w.clocks device.0) c.self.view_is in
    let least = clock_stepped K.fresh K.after_step K.last_step g.met.C.Clock.begins_unstepped g.met.C.Clock.steps_by network may.events device (amount c.args.t)
    may.is.past in
    let begun = c.requires.time.begun in
    record {
      there = rw (c.network.ensures.value ∙ ap World.network c.self.view_is) c.requires.there;
      stepped = λ clock found.
          let le : K.last_step clock ≤ amount c.args.t =
          rw (some_same _ _ _ found (viewed ∙ was)) least in
          omega (arith, ints);
      limit = c.requires.time.limit;
    }

pub returns-clause-local : goal.returns-clause-local
returns-clause-local g c = λ network events notes complete.
    let K = g.C.Clock in
    local_is
    (rw (sym c.self.view_is) at c.requires.there)
    (rw (sym c.self.view_is) at complete)
    c.local_of.ensures.shows

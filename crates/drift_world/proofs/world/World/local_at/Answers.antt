use Rattle.drift_world.proofs.{Words.{in_all, inl, inr, ints, length, reading_of, scenario, sym}}
use Rattle.drift_world.proofs.Locals.{clock_stepped, complete_reads, local_is, local_is_before, local_value, now_reads}
use Rattle.world_law.proofs.giving.GivenParts.{some_same}
use Rattle.drift_world.proofs.Words.{◌<◌, ◌^◌, ◌∙◌, ◌≤◌, World, amount, ap, arith}
use Rattle.drift_world.proofs.world.World.local_at.Given as given
use Rattle.drift_world.proofs.world.World.local_at.Goals as goal

pub local_of-requires-clause-may : goal.local_of-requires-clause-may
local_of-requires-clause-may g c =
    let K = g.C.Clock in
    let network = c.args.self.now.network in
    let device = c.args.device in
    let state = c.self.inside.state in
    let begun = c.requires.may.time.begun in
    record {
      there = rw (c.network.ensures.value ∙ ap World.network c.self.view_is) c.requires.may.there;
      stepped = λ clock found. elim c.requires.may.may [
        | inl may ↦
            let was = may.is.is.clocks device c.requires.may.there in
            let viewed = ap (λ w. Rattle.std.specs.List.slice_get w.clocks device.0) c.self.view_is in
            let same = some_same _ _ _ found (viewed ∙ was) in
            let least = clock_stepped K.fresh K.after_step K.last_step g.met.C.Clock.begins_unstepped g.met.C.Clock.steps_by network may.events device
            (amount c.args.t) may.is.past in
            let le : K.last_step clock ≤ amount c.args.t = rw same least in
            omega (arith, ints)
        | inr now ↦
            let least = in_all (λ k. K.last_step k ≤ state.time) state.clocks.items device.0 clock c.self.invariant.sound.sized.stepped found in
            let at = now.0 ∙ sym (ap World.now c.self.view_is) in
            omega (arith, ints)
      ];
      limit = c.requires.may.time.limit;
    }

-- the device is one of the network
there : (g : given.Over) (c : goal.After-local_of g) → c.args.device.0 < length c.self.inside.accepted.now.device
there g c = rw (sym c.self.view_is) at c.requires.may.there

pub returns-clause-local : goal.returns-clause-local
returns-clause-local g c = λ network events notes complete.
    let K = g.C.Clock in
    local_is (there g c)
    (rw (sym c.self.view_is) at complete)
    c.local_of.ensures.shows

pub returns-clause-before : goal.returns-clause-before
returns-clause-before g c = λ network events notes under now.
    let K = g.C.Clock in
    let S = g.M.Machine.stands in
    let s = scenario network (reading_of K.fresh K.after_step K.reading network events) events in
    let viewed = ap World.now c.self.view_is in
    rw (viewed ∙ sym now.0) at (local_is_before
    (rw (sym c.self.view_is) at under.is)
    (ap World.early c.self.view_is ∙ now.1) (there g c) (now.0 ∙ sym viewed)
    c.local_of.ensures.shows)

pub returns-clause-small : goal.returns-clause-small
returns-clause-small g c = λ small.
    let K = g.C.Clock in
    let S = g.M.Machine.stands in
    let own = c.self.inside.accepted.now in
    let shows = c.local_of.ensures.shows in
    let begun = c.requires.may.time.begun in
    let most = c.requires.may.time.limit in
    let limit : amount c.args.t ≤ 2 ^ 60 = omega (arith, ints) in
    elim c.requires.may.may [
      | inl may ↦
          let complete = rw (sym c.self.view_is) at may.is in
          local_value small complete.is.is (there g c) limit shows
          (complete_reads (there g c) complete
          shows)
      | inr now ↦
          let may = now.1 in
          let under = rw (sym c.self.view_is) at may.is
          in
          local_value small under.is (there g c) limit shows
          (now_reads under.is (there g c)
          (now.0 ∙ sym (ap World.now c.self.view_is)) shows)
    ]

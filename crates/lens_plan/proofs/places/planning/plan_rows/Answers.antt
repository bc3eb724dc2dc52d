use Rattle.lens_plan.{proofs.Plans.place_of, specs.places.Planning.{IsNoPlan, IsPlaceOf}}
use Rattle.std.proofs.lemmas.Result.{IfErr-weaker}
use Rattle.lens_plan.proofs.places.planning.plan_rows.Goals as goal

pub returns-in-None-clause-place : goal.returns-in-None-clause-place
returns-in-None-clause-place c =
    IfErr-weaker c.plan_within.result (IsNoPlan c.args.network.now c.args.messages.now) (IsPlaceOf c.args.messages.now)
    (place_of c.args.network.now c.args.messages.now) c.plan_within.ensures.none

use Rattle.{drift_world.specs.Locals.{IsLocalClock, IsLocalClockBefore}, std.proofs.Common.{◌∙◌, FitsSigned, Some, arith, rules, subst, sym, ℤ}}
use Rattle.{drift_world.specs.Running.reading_of, std.{proofs.lemmas.Int.{ints, to_z-of_z}, specs.Int.w128}, tte_units.specs.Amount.amount}
use Rattle.{run_law.specs.records.Happenings.happenings, world_drive.proofs.devices_lemmas.Small.are_small, world_law.specs.source.Agreeing.scenario}
use Rattle.world_drive.proofs.devices.world.World.local.Goals as goal

pub whole_units-requires-clause-low : goal.whole_units-requires-clause-low
whole_units-requires-clause-low g c =
    let fits : FitsSigned w128 c.in-Some.local = search rules in
    let least = (c.in-Some.ensures.small are_small).low in
    let same = to_z-of_z w128 c.in-Some.local fits in
    omega (arith, ints, least, same)

pub whole_units-requires-clause-high : goal.whole_units-requires-clause-high
whole_units-requires-clause-high g c =
    let fits : FitsSigned w128 c.in-Some.local = search rules in
    let most = (c.in-Some.ensures.small are_small).high in
    let same = to_z-of_z w128 c.in-Some.local fits in
    omega (arith, ints, most, same)

pub returns-in-Some-clause-local : goal.returns-in-Some-clause-local
returns-in-Some-clause-local g c = λ network events notes complete.
    let K = g.C.Clock in
    let s = scenario network (reading_of K.fresh K.after_step K.reading network events) events in
    subst (λ (l : ℤ). IsLocalClock s (happenings network notes) c.args.device (amount c.args.t) (Some l))
    (sym (c.whole_units.ensures ∙ to_z-of_z w128 c.in-Some.local (search rules)))
    (c.in-Some.ensures.local network events notes complete)

pub returns-in-Some-clause-before : goal.returns-in-Some-clause-before
returns-in-Some-clause-before g c = λ network events notes under now.
    let K = g.C.Clock in
    let s = scenario network (reading_of K.fresh K.after_step K.reading network events) events in
    subst (λ (l : ℤ). IsLocalClockBefore s (happenings network notes) c.args.device (amount c.args.t) (Some l))
    (sym (c.whole_units.ensures ∙ to_z-of_z w128 c.in-Some.local (search rules)))
    (c.in-Some.ensures.before network events notes under now)

use Rattle.audit_sweep.proofs.{StandingPoints.{same_standpoint, stood}, Words.{◌&&◌, ◌∙◌, Bool, Standpoint, ap, arith, scenario_under, state_before}}
use Rattle.{run_law.specs.device.States.is_off, std.proofs.{Common.{not, rules}, lemmas.Int.to_z-of_z}}
use Rattle.std.specs.Int.{w128}
use Rattle.audit_sweep.proofs.standing.standpoint.Goals as goal

pub returns-clause-reading : goal.returns-clause-reading
returns-clause-reading c =
    let k = c.requires.known.2 in
    let on = c.reading_law.ensures c.args.network.now c.requires.known.0 c.args.device k.events.range k.events.within k.events.begun in
    let bound = on.bound c.args.time c.requires.limit in
    let read = c.reading-reading.ensures c.args.network.now c.requires.known.0 k.events c.requires.there in
    let made = ap (λ (p : Standpoint). p.reading) c.new.ensures in
    omega (arith, bound, read, made)

pub returns-clause-is : goal.returns-clause-is
unfolding stood
returns-clause-is c befallen hs k =
    let s = scenario_under c.args.network.now befallen in
    let shows = c.before_time-shown.ensures s hs k.standings in
    let state = c.state_before-state.ensures s hs c.args.device c.args.time
    (c.is_turned_on_at.ensures c.args.network.now befallen k.events c.requires.there) shows in
    c.new.ensures
    ∙ same_standpoint _ _ _ _ _ _ _ _
    (c.takes_part-takes_part.ensures
    ∙ ap (λ x. not (is_off x) && not c.is_broken.result) state
    ∙ ap (λ (b : Bool). not (is_off (state_before s hs c.args.device c.args.time)) && not b)
    (c.is_broken.ensures c.args.network.now befallen k.events c.requires.there))
    state (c.reading-reading.ensures c.args.network.now befallen k.events c.requires.there) (to_z-of_z w128 c.adjustment.result (search rules)
    ∙ c.adjustment.ensures.value ∙ shows.adjustment)

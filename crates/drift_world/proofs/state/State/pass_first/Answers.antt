use Rattle.drift_world.proofs.Foremost.{none_before}
use Rattle.drift_world.proofs.{Turning.{firsts_passed, passed_then, step_same}, Words.{arith, both_ways, refl}}
use Rattle.drift_world.proofs.state.State.pass_first.Goals as goal

pub pass_on-requires-clause-nothing : goal.pass_on-requires-clause-nothing
pass_on-requires-clause-nothing g c =
    let r = c.requires in
    let events = c.pass_events.ensures in
    let within = c.least_of-time.ensures.within in
    let limit = r.may.limit in
    let calm = c.if-not-is_calm.ensures refl in
    let same = step_same c.args.self.now c.pass_events.new.self events.same events.step.time in
    none_before events.step.well (firsts_passed same r.firsts) c.least_of-time.result (omega (arith, within, limit))
    calm.pending (λ ended more. both_ways c.pass_events.new.self.ended calm.ended ended)
    c.least_of-time.ensures.place c.least_of-time.ensures.due

pub returns-clause-passed : goal.returns-clause-passed
returns-clause-passed g c =
    let events = c.pass_events.ensures in
    passed_then c.pass_on.result events.step events.same c.pass_on.ensures.passed

use Rattle.std.proofs.{Common.{◌+◌, ◌∙◌, arith, sym}, lemmas.Bool.false≢true}
use Rattle.lens_flows.proofs.judge_lemmas.Judging
use Judging.{IsEndOf, end_there, made_owed, no_end, ready_stays, ready_to_end, receiver_there, stays_ready}
use Rattle.lens_flows.specs.judge.{Courses.scenario_of, Times.{IsFirstTime, NoneWithin}}
use Rattle.lens_flows.proofs.judge.course.Course.fate.Goals as goal

pub first_reached-requires-clause-device : goal.first_reached-requires-clause-device
first_reached-requires-clause-device c = receiver_there c.requires.flow

pub first_reached-requires-clause-limit : goal.first_reached-requires-clause-limit
first_reached-requires-clause-limit c = c.requires.fit.timely

pub stays_in_step-requires-clause-device : goal.stays_in_step-requires-clause-device
stays_in_step-requires-clause-device c = receiver_there c.requires.flow

pub stays_in_step-requires-clause-in_order : goal.stays_in_step-requires-clause-in_order
stays_in_step-requires-clause-in_order c =
    let known = c.requires.known in
    let later = (c.in-Some.ensures known.0 known.1 known.2).later in
    omega (arith, later)

pub stays_in_step-requires-clause-limit : goal.stays_in_step-requires-clause-limit
stays_in_step-requires-clause-limit c =
    let known = c.requires.known in
    let timely = (c.in-Some.ensures known.0 known.1 known.2).timely in
    let limit = c.requires.fit.timely in
    omega (arith, timely, limit)

pub stays_in_step-requires-in-None-clause-device : goal.stays_in_step-requires-in-None-clause-device
stays_in_step-requires-in-None-clause-device c = receiver_there c.requires.flow

pub returns-then-not-stays_in_step : goal.returns-then-not-stays_in_step
returns-then-not-stays_in_step c befallen hs known begun ready =
    let s = scenario_of c.args.self.now befallen in
    let flow = c.args.flow.now in
    let until = c.args.self.now.until in
    let first : IsFirstTime (IsEndOf s hs flow c.args.cycle) c.args.from until c.in-Some.to = c.in-Some.ensures befallen hs known in
    false≢true (sym c.if-not-stays_in_step.true
    ∙ (c.stays_in_step.ensures befallen hs known).1 (ready_stays s hs until flow c.args.cycle c.args.from first ready))

pub is_sent-requires-clause-some : goal.is_sent-requires-clause-some
is_sent-requires-clause-some c =
    let known = c.requires.known in
    let later = (c.in-Some.ensures known.0 known.1 known.2).later in
    omega (arith, later)

pub is_sent-requires-clause-limit : goal.is_sent-requires-clause-limit
is_sent-requires-clause-limit c =
    let known = c.requires.known in
    let timely = (c.in-Some.ensures known.0 known.1 known.2).timely in
    let limit = c.requires.fit.timely in
    omega (arith, timely, limit)

pub returns-then-is_sent : goal.returns-then-is_sent
returns-then-is_sent c befallen hs known begun =
    let s = scenario_of c.args.self.now befallen in
    let flow = c.args.flow.now in
    let until = c.args.self.now.until in
    let first : IsFirstTime (IsEndOf s hs flow c.args.cycle) c.args.from until c.in-Some.to = c.in-Some.ensures befallen hs known in
    made_owed s hs until flow c.args.cycle c.args.from c.requires.flow begun (end_there s hs until flow c.args.cycle c.args.from (omega arith) first)
    ((c.stays_in_step.ensures befallen hs known).0 c.if-not-stays_in_step.false) ((c.is_sent.ensures befallen hs known).0 c.if-is_sent.true)

pub returns-then-is_owed : goal.returns-then-is_owed
returns-then-is_owed c befallen hs known begun = (c.is_owed.ensures befallen hs known begun).0 c.if-is_owed.true

pub returns-else-is_owed : goal.returns-else-is_owed
returns-else-is_owed c befallen hs known begun =
    let s = scenario_of c.args.self.now befallen in
    let flow = c.args.flow.now in
    let until = c.args.self.now.until in
    let first : IsFirstTime (IsEndOf s hs flow c.args.cycle) c.args.from until c.in-Some.to = c.in-Some.ensures befallen hs known in
    let ends = end_there s hs until flow c.args.cycle c.args.from (omega arith) first in (
      stays_ready s hs until flow c.args.cycle c.args.from ends
          ((c.stays_in_step.ensures befallen hs known).0 c.if-not-stays_in_step.false),
      (c.in-Some.to, ends),
      λ owed. false≢true (sym c.if-is_owed.false ∙ (c.is_owed.ensures befallen hs known begun).1 owed),
    )

pub returns-then-stays_in_step : goal.returns-then-stays_in_step
returns-then-stays_in_step c befallen hs known begun =
    let s = scenario_of c.args.self.now befallen in
    let flow = c.args.flow.now in
    let until = c.args.self.now.until in
    let none : NoneWithin (IsEndOf s hs flow c.args.cycle) c.args.from (until + 1) = c.in-None.ensures befallen hs known in (
      λ t ge le no. (c.stays_in_step-in-None.ensures befallen hs known).0 c.if-stays_in_step.true t ge le,
      no_end s hs until flow c.args.cycle c.args.from none,
    )

pub returns-else-stays_in_step : goal.returns-else-stays_in_step
returns-else-stays_in_step c befallen hs known begun ready =
    let s = scenario_of c.args.self.now befallen in
    let flow = c.args.flow.now in
    let until = c.args.self.now.until in
    let none : NoneWithin (IsEndOf s hs flow c.args.cycle) c.args.from (until + 1) = c.in-None.ensures befallen hs known in
    false≢true (sym c.if-stays_in_step.false
    ∙ (c.stays_in_step-in-None.ensures befallen hs known).1 (ready_to_end s hs until flow c.args.cycle c.args.from none ready))

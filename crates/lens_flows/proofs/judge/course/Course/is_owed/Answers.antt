use Rattle.std.proofs.{Common.{◌+◌, ◌∙◌, arith, refl, sym}, lemmas.Bool.false≢true}
use Rattle.lens_flows.proofs.judge_lemmas.Judging
use Judging.{IsEndOf, end_there, made_owed, no_end_left, none_on, none_yet, not_in_step, receiver_there}
use Rattle.lens_flows.specs.judge.{Courses.scenario_of, Times.{IsFirstTime, NoneWithin}}
use Rattle.lens_flows.proofs.judge.course.Course.is_owed.Goals as goal

pub first_reached-requires-clause-device : goal.first_reached-requires-clause-device
first_reached-requires-clause-device c = receiver_there c.requires.flow

pub first_reached-requires-clause-limit : goal.first_reached-requires-clause-limit
first_reached-requires-clause-limit c = c.requires.fit.timely

pub stays_in_step-requires-clause-device : goal.stays_in_step-requires-clause-device
stays_in_step-requires-clause-device c = receiver_there c.requires.flow

pub stays_in_step-requires-clause-in_order : goal.stays_in_step-requires-clause-in_order
stays_in_step-requires-clause-in_order c =
    let known = c.requires.known in
    let later = (c.in-Some.ensures known.0 known.1 known.2).later in
    let le = c.ends.invariant.0 in
    omega (arith, later, le)

pub stays_in_step-requires-clause-limit : goal.stays_in_step-requires-clause-limit
stays_in_step-requires-clause-limit c =
    let known = c.requires.known in
    let timely = (c.in-Some.ensures known.0 known.1 known.2).timely in
    let limit = c.requires.fit.timely in
    omega (arith, timely, limit)

pub is_sent-requires-clause-some : goal.is_sent-requires-clause-some
is_sent-requires-clause-some c =
    let known = c.requires.known in
    let later = (c.in-Some.ensures known.0 known.1 known.2).later in
    omega (arith, later)

pub is_sent-requires-clause-limit : goal.is_sent-requires-clause-limit
is_sent-requires-clause-limit c =
    let known = c.requires.known in
    let timely = (c.in-Some.ensures known.0 known.1 known.2).timely in
    let limit = c.requires.fit.timely in
    omega (arith, timely, limit)

pub returns-then-not-stays_in_step : goal.returns-then-not-stays_in_step
returns-then-not-stays_in_step c befallen hs known begun =
    let s = scenario_of c.args.self.now befallen in
    let flow = c.args.flow.now in
    let first : IsFirstTime (IsEndOf s hs flow c.args.cycle) c.ends.after c.args.self.now.until c.in-Some.to = c.in-Some.ensures befallen hs known in (
      λ e. absurd (false≢true e),
      λ owed. absurd (not_in_step s hs c.args.self.now.until flow c.args.cycle c.args.from c.requires.flow
          (c.ends.invariant.1 befallen hs known) first
          (λ stays. false≢true (sym c.if-not-stays_in_step.true ∙ (c.stays_in_step.ensures befallen hs known).1 stays)) owed),
    )

pub returns-then-is_sent : goal.returns-then-is_sent
returns-then-is_sent c befallen hs known begun =
    let s = scenario_of c.args.self.now befallen in
    let flow = c.args.flow.now in
    let first : IsFirstTime (IsEndOf s hs flow c.args.cycle) c.ends.after c.args.self.now.until c.in-Some.to = c.in-Some.ensures befallen hs known in (
      λ e. made_owed s hs c.args.self.now.until flow c.args.cycle c.args.from c.requires.flow begun
          (end_there s hs c.args.self.now.until flow c.args.cycle c.args.from c.ends.invariant.0 first)
          ((c.stays_in_step.ensures befallen hs known).0 c.if-not-stays_in_step.false) ((c.is_sent.ensures befallen hs known).0 c.if-is_sent.true),
      λ owed. refl,
    )

pub ends-init : goal.ends-init
ends-init c =
    (omega arith, λ befallen hs known. none_yet (scenario_of c.args.self.now befallen) hs c.args.self.now.until c.args.flow.now c.args.cycle c.args.from)

pub ends-smaller : goal.ends-smaller
ends-smaller c =
    let known = c.requires.known in
    let first = c.in-Some.ensures known.0 known.1 known.2 in
    let later = first.later in
    let timely = first.timely in
    omega (arith, later, timely)

pub ends-preserved : goal.ends-preserved
ends-preserved c =
    let some = c.requires.known in
    let later = (c.in-Some.ensures some.0 some.1 some.2).later in
    let le = c.ends.invariant.0 in (
      omega (arith, later, le),
      λ befallen hs known.
          let s = scenario_of c.args.self.now befallen in
          let flow = c.args.flow.now in
          let first : IsFirstTime (IsEndOf s hs flow c.args.cycle) c.ends.after c.args.self.now.until c.in-Some.to = c.in-Some.ensures befallen hs known in
          none_on s hs c.args.self.now.until flow c.args.cycle c.args.from (c.ends.invariant.1 befallen hs known) first
          (λ sent. false≢true (sym c.if-is_sent.false ∙ (c.is_sent.ensures befallen hs known).1 sent)),
    )

pub returns : goal.returns
returns c befallen hs known begun =
    let s = scenario_of c.args.self.now befallen in
    let flow = c.args.flow.now in
    let none : NoneWithin (IsEndOf s hs flow c.args.cycle) c.ends.after (c.args.self.now.until + 1) = c.in_default.ensures befallen hs known in (
      λ e. absurd (false≢true e),
      λ owed. absurd (no_end_left s hs c.args.self.now.until flow c.args.cycle c.args.from c.ends.after c.requires.flow
          (c.ends.invariant.1 befallen hs known) none owed),
    )

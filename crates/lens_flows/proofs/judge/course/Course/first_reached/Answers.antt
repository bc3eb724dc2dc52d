use Rattle.audit_sweep.proofs.unpaid_lemmas.points_lemmas.FirstUnpaid.{none_is}
use Rattle.lens_flows.proofs.judge_lemmas.Firsts.{none_both, none_tells, tells_behind}
use Rattle.{lens_flows.specs.judge.Courses.scenario_of, run_law.specs.law.Safety.ReachesPlace, std.proofs.Common.{◌+◌, ◌∙◌, arith, sym}}
use Rattle.lens_flows.proofs.judge.course.Course.first_reached.Goals as goal

pub after_time-end-requires-clause-device : goal.after_time-end-requires-clause-device
after_time-end-requires-clause-device c =
    let there = c.requires.device in
    let all = c.requires.fit.standing in
    omega (arith, there, all)

pub first_within-reached-requires-clause-limit : goal.first_within-reached-requires-clause-limit
first_within-reached-requires-clause-limit c =
    let near = c.after_time-end.ensures.near in
    let limit = c.requires.limit in
    omega (arith, near, limit)

pub returns-then-is_some : goal.returns-then-is_some
returns-then-is_some c befallen hs known =
    let s = scenario_of c.args.self.now befallen in
    tells_behind (ReachesPlace s hs c.args.device c.args.cycle c.args.place) c.args.after c.stretches.from c.after_time-end.result.1 c.args.until
    c.first_within-reached.result c.stretches.invariant.0 c.after_time-end.ensures.near (sym c.is_some.ensures ∙ c.if-is_some.true)
    (c.stretches.invariant.1 befallen hs known)
    (c.first_within-reached.ensures befallen hs known (c.after_time-end.ensures.shows s hs known.stands))

pub stretches-init : goal.stretches-init
stretches-init c = (omega arith, λ befallen hs known t lt early is. absurd (omega (arith, lt, early)))

pub stretches-smaller : goal.stretches-smaller
stretches-smaller c =
    let known = c.requires.known in
    let lt = c.stretches-test.true in
    let later = c.after_time-end.ensures.later (scenario_of c.args.self.now known.0) known.1 known.2.stands in
    omega (arith, lt, later)

pub stretches-preserved : goal.stretches-preserved
stretches-preserved c =
    let from = c.stretches.from in
    let end = c.after_time-end.result.1 in
    let some = c.requires.known in
    let le = c.stretches.invariant.0 in
    let later = c.after_time-end.ensures.later (scenario_of c.args.self.now some.0) some.1 some.2.stands in (
      omega (arith, later, le),
      λ befallen hs known.
          let s = scenario_of c.args.self.now befallen in
          let Reaches = ReachesPlace s hs c.args.device c.args.cycle c.args.place in
          none_both Reaches c.args.after from (end + 1) (c.stretches.invariant.1 befallen hs known)
          (none_tells Reaches from end c.first_within-reached.result
          (none_is c.first_within-reached.result (sym c.is_some.ensures ∙ c.if-is_some.false))
          (c.first_within-reached.ensures befallen hs known (c.after_time-end.ensures.shows s hs known.stands))),
    )

pub returns : goal.returns
returns c befallen hs known t lt early is =
    let most = c.stretches-test.false in
    c.stretches.invariant.1 befallen hs known t lt (omega (arith, early, most)) is

use Rattle.{lens_flows.proofs.judge_lemmas.Comings.{none_in_step, passed_in_step}, std.proofs.Common.{◌+◌, ◌-◌, ◌∙◌, arith, sym}}
use Rattle.{lens_flows.{proofs.judge_lemmas.Firsts.none_both, specs.judge.{Courses.scenario_of, Fates.ReachesInStep}}, std.proofs.lemmas.Bool.false≢true}
use Rattle.lens_flows.proofs.judge.course.Course.comes_in_step.Goals as goal

pub is_synchronised_at-requires-clause-limit : goal.is_synchronised_at-requires-clause-limit
is_synchronised_at-requires-clause-limit c =
    let known = c.requires.known in
    let timely = (c.in-Some.ensures known.0 known.1 known.2).timely in
    let limit = c.requires.limit in
    omega (arith, timely, limit)

pub returns-then-is_synchronised_at : goal.returns-then-is_synchronised_at
returns-then-is_synchronised_at c befallen hs known =
    let first = c.in-Some.ensures befallen hs known in
    let timely = first.timely in
    let some = c.requires.some in
    let is = (c.is_synchronised_at.ensures befallen hs known).0 c.if-is_synchronised_at.true in
    (c.in-Some.time, omega (arith, timely, some), record { reaches = first.is; synchronised = is })

pub times-init : goal.times-init
times-init c = (omega arith, λ befallen hs known t lt early is. absurd (omega (arith, lt, early)))

pub times-smaller : goal.times-smaller
times-smaller c =
    let known = c.requires.known in
    let first = c.in-Some.ensures known.0 known.1 known.2 in
    let later = first.later in
    let timely = first.timely in
    let some = c.requires.some in
    omega (arith, later, timely, some)

pub times-preserved : goal.times-preserved
times-preserved c =
    let some = c.requires.known in
    let later = (c.in-Some.ensures some.0 some.1 some.2).later in
    let le = c.times.invariant.0 in (
      omega (arith, later, le),
      λ befallen hs known.
          let s = scenario_of c.args.self.now befallen in
          let first = c.in-Some.ensures befallen hs known in
          none_both (ReachesInStep s hs c.args.device c.args.cycle c.args.place) c.args.after c.times.from (c.in-Some.time + 1)
          (c.times.invariant.1 befallen hs known)
          (passed_in_step s hs c.args.device c.args.cycle c.args.place first
          (λ is. false≢true (sym c.if-is_synchronised_at.false ∙ (c.is_synchronised_at.ensures befallen hs known).1 is))),
    )

pub returns : goal.returns
returns c befallen hs known =
    let s = scenario_of c.args.self.now befallen in
    let some = c.requires.some in
    none_both (ReachesInStep s hs c.args.device c.args.cycle c.args.place) c.args.after c.times.from c.args.before (c.times.invariant.1 befallen hs known)
    (none_in_step s hs c.args.device c.args.cycle c.args.place c.times.from (c.args.before - 1 + 1) c.args.before (omega (arith, some))
    (c.in_default.ensures befallen hs known))

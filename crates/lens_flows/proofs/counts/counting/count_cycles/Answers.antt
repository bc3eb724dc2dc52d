use Rattle.std.proofs.Common.{arith}
use Rattle.lens_flows.{specs.judge.Courses.scenario_of}
use Rattle.lens_flows.proofs.{judge_lemmas.Judging.receiver_there}
use Rattle.lens_flows.proofs.counts_lemmas.Counts.{all_counted, certain_all, certain_few, certain_next, certain_none}
use Rattle.lens_flows.proofs.counts_lemmas.Counts.{few_next, next_counted, no_counts, none_above, none_counted}
use Rattle.lens_flows.proofs.counts_lemmas.Counts.{zero_counts}
use Rattle.lens_flows.proofs.counts.counting.count_cycles.Goals as goal

pub next_begun-requires-clause-device : goal.next_begun-requires-clause-device
next_begun-requires-clause-device c = receiver_there c.requires.flow

pub count_cycle-counts-requires-clause-few : goal.count_cycle-counts-requires-clause-few
count_cycle-counts-requires-clause-few c =
    let few = c.begun.invariant.2 in
    let limit = c.begun.invariant.0 in
    (none_above c.begun.after c.begun.counts.fates c.begun.invariant.0 c.begun.invariant.1, omega (arith, few, limit))

pub count_cycle-counts-requires-clause-in_run : goal.count_cycle-counts-requires-clause-in_run
count_cycle-counts-requires-clause-in_run c =
    let known = c.requires.known in
    (c.in-Some.ensures known.0 known.1 known.2).first.timely

pub begun-init : goal.begun-init
begun-init c = (
  omega arith,
  λ fate. let none = zero_counts fate in omega (arith, none),
  omega arith,
  λ befallen hs known. (
    none_counted (scenario_of c.args.course.now befallen) hs c.args.course.now.until c.args.flow.now no_counts zero_counts,
    certain_none (scenario_of c.args.course.now befallen) hs c.args.course.now.until c.args.flow.now,
  ),
)

pub begun-smaller : goal.begun-smaller
begun-smaller c =
    let known = c.requires.known in
    let first = (c.in-Some.ensures known.0 known.1 known.2).first in
    let later = first.later in
    let timely = first.timely in
    omega (arith, later, timely)

pub begun-preserved : goal.begun-preserved
begun-preserved c =
    let known = c.requires.known in
    let first = (c.in-Some.ensures known.0 known.1 known.2).first in
    let timely = first.timely in
    let limit = c.requires.fit.timely in (
      omega (arith, timely, limit),
      few_next c.args.course.now c.args.flow.now c.in-Some.begun c.begun.after c.begun.counts.fates c.count_cycle-counts.result.fates
          c.begun.invariant.1 first.later c.count_cycle-counts.ensures.fates,
      certain_few c.args.course.now c.args.flow.now c.in-Some.begun c.begun.after c.begun.counts.certain c.count_cycle-counts.result.certain
          c.begun.invariant.2 first.later c.count_cycle-counts.ensures.certain,
      λ befallen hs known.
          (let reads = c.reading_law.ensures c.args.course.now.network.now befallen c.args.flow.now.device known.remembers.range
          known.remembers.within known.remembers.begun in
          let before = c.begun.invariant.3 befallen hs known in
          let next = c.in-Some.ensures befallen hs known in (
            next_counted c.begun.counts.fates c.count_cycle-counts.result.fates known c.requires.fit.range
                c.requires.flow reads before.0 next c.count_cycle-counts.ensures.fates,
            certain_next c.args.flow.now c.begun.counts.certain c.count_cycle-counts.result.certain known
                c.requires.fit.range reads before.1 next c.count_cycle-counts.ensures.certain,
          )),
    )

pub returns-clause-fates : goal.returns-clause-fates
returns-clause-fates c befallen hs known =
    all_counted (scenario_of c.args.course.now befallen) hs c.args.course.now.until c.args.flow.now c.begun.after c.begun.counts.fates
    (c.begun.invariant.3 befallen hs known).0 (c.in_default.ensures befallen hs known)

pub returns-clause-certain : goal.returns-clause-certain
returns-clause-certain c befallen hs known =
    certain_all (scenario_of c.args.course.now befallen) hs c.args.course.now.until c.args.flow.now c.begun.after c.begun.counts.certain
    (c.begun.invariant.3 befallen hs known).1 (c.in_default.ensures befallen hs known)

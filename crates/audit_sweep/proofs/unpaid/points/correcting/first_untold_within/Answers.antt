use Rattle.audit_sweep.proofs.unpaid_lemmas.points_lemmas.Words.{◌+◌, IsFirstUnpaid, IsTold, OwesAt, arith, scenario_under}
use Rattle.audit_sweep.proofs.unpaid_lemmas.points_lemmas.FirstUnpaid.{first_behind, paid_both, told_on, told_without}
use Rattle.audit_sweep.proofs.unpaid.points.correcting.first_untold_within.Goals as goal

pub is_untold-requires-clause-limit : goal.is_untold-requires-clause-limit
is_untold-requires-clause-limit c =
    let kept = c.requires.kept in
    let timely = (c.in-Some.ensures.is c.args.network.now kept.0 kept.2.remembers c.requires.device).timely in
    let limit = c.requires.limit in
    omega (arith, timely, limit)

pub returns-then-is_untold : goal.returns-then-is_untold
returns-then-is_untold c befallen hs kept founded shows =
    let s = scenario_under c.args.network.now befallen in
    let device = c.args.device in
    let from = c.points.from in
    let until = c.args.until in
    let crossed = c.in-Some.crossed in
    let next = c.in-Some.ensures.is c.args.network.now befallen kept.remembers c.requires.device in
    let later = next.later in
    let timely = next.timely in
    let le = c.points.invariant.0 in
    let shown = shows crossed.time (omega (arith, later, le)) timely in
    let untold = c.is_untold.ensures.untold befallen hs kept founded shown c.if-is_untold.true in
    let first : IsFirstUnpaid (OwesAt s hs device) (IsTold s hs device) from until crossed.time = record {
      later = later;
      timely = timely;
      what = untold.0;
      owes = untold.1;
      unpaid = untold.2;
      paid_before = told_without s hs device c.args.shown.now c.correction_points-series.result from until crossed.time (IsTold s hs device)
          c.correction_points-series.ensures.values founded (λ t lt up. shows t (omega (arith, lt, le)) up) (omega (arith, timely)) next.none_before;
    } in
    first_behind (OwesAt s hs device) (IsTold s hs device) c.args.after until le (omega arith)
    (c.points.invariant.1 befallen hs kept founded shows) first

pub points-smaller : goal.points-smaller
points-smaller c =
    let kept = c.requires.kept in
    let next = c.in-Some.ensures.is c.args.network.now kept.0 kept.2.remembers c.requires.device in
    let later = next.later in
    let timely = next.timely in
    omega (arith, later, timely)

pub points-preserved : goal.points-preserved
points-preserved c =
    let device = c.args.device in
    let from = c.points.from in
    let until = c.args.until in
    let crossed = c.in-Some.crossed in
    let le = c.points.invariant.0 in
    let some = c.requires.kept in
    let found = c.in-Some.ensures.is c.args.network.now some.0 some.2.remembers c.requires.device in
    let after = found.later in (
      omega (arith, le, after),
      λ befallen hs kept founded shows.
          let s = scenario_under c.args.network.now befallen in
          let next = c.in-Some.ensures.is c.args.network.now befallen kept.remembers c.requires.device in
          let later = next.later in
          let shown = shows crossed.time (omega (arith, later, le)) next.timely in
          paid_both (OwesAt s hs device) (IsTold s hs device) c.args.after from (crossed.time + 1) (c.points.invariant.1 befallen hs kept founded shows)
          (told_on s hs device c.args.shown.now c.correction_points-series.result (IsTold s hs device)
          c.correction_points-series.ensures.values founded (λ t lt up. shows t (omega (arith, lt, le)) up) next
          (c.is_untold.ensures.told befallen hs kept founded shown c.if-is_untold.false)),
    )

pub returns : goal.returns
returns c befallen hs kept founded shows =
    let s = scenario_under c.args.network.now befallen in
    let device = c.args.device in
    let from = c.points.from in
    let until = c.args.until in
    let le = c.points.invariant.0 in
    paid_both (OwesAt s hs device) (IsTold s hs device) c.args.after from (until + 1) (c.points.invariant.1 befallen hs kept founded shows)
    (told_without s hs device c.args.shown.now c.correction_points-series.result from until (until + 1) (IsTold s hs device)
    c.correction_points-series.ensures.values founded (λ t lt up. shows t (omega (arith, lt, le)) up) (omega arith)
    (c.in_default.ensures.is c.args.network.now befallen kept.remembers c.requires.device))

use Rattle.std.{proofs.Common.rules, specs.Prelude.◌≤ℤ◌}
use Rattle.audit_sweep.proofs.unpaid_lemmas.points_lemmas.FirstUnpaid
use FirstUnpaid.{few_crossed, first_at, first_behind, paid_both, paid_on, paid_silent, paid_without}
use Rattle.audit_sweep.proofs.unpaid_lemmas.points_lemmas.Words.{◌+◌, ◌≤◌, IsSent, Sends, arith, ints, pos, scenario_under, subst, sym, true, value_in, ℤ}
use Rattle.audit_sweep.proofs.unpaid.points.sending.first_unsent_within.Goals as goal

pub is_unsent-requires-clause-limit : goal.is_unsent-requires-clause-limit
is_unsent-requires-clause-limit c =
    let events = c.requires.events in
    let timely = (c.in-Some.ensures.is c.args.network.now events.0 events.1 c.requires.device).timely in
    let limit = c.requires.limit in
    omega (arith, timely, limit)

pub is_unsent-requires-clause-few : goal.is_unsent-requires-clause-few
is_unsent-requires-clause-few c =
    let events = c.requires.events in
    let s = scenario_under c.args.network.now events.0 in
    let next = c.in-Some.ensures.is c.args.network.now events.0 events.1 c.requires.device in
    let begins : pos 0 ≤ℤ value_in c.beginnings-series.result 0 =
    subst (λ v. pos 0 ≤ℤ v) (sym (c.beginnings-series.ensures.values 0)) (omega (arith, ints)) in
    few_crossed s c.args.device c.beginnings-series.ensures.step begins next

pub returns-then-ne : goal.returns-then-ne
returns-then-ne c befallen hs remembers are master shows =
    let s = scenario_under c.args.network.now befallen in
    paid_silent s hs c.args.device c.args.shown.now c.args.after c.args.until (IsSent s hs c.args.device) shows
    (λ same. search rules)

pub returns-then-is_unsent : goal.returns-then-is_unsent
returns-then-is_unsent c befallen hs remembers are master shows =
    let s = scenario_under c.args.network.now befallen in
    let device = c.args.device in
    let from = c.begun.from in
    let until = c.args.until in
    let crossed = c.in-Some.crossed in
    let on = c.reading_law.ensures c.args.network.now befallen device remembers.range remembers.within remembers.begun in
    let next = c.in-Some.ensures.is c.args.network.now befallen remembers c.requires.device in
    let later = next.later in
    let le = c.begun.invariant.0 in
    let shown = shows crossed.time (omega (arith, later, le)) next.timely in
    let unsent = c.is_unsent.ensures.unsent befallen hs remembers c.requires.device are shown c.if-is_unsent.true in
    first_behind (Sends s hs device) (IsSent s hs device) c.args.after until le (omega arith)
    (c.begun.invariant.1 befallen hs remembers are shows)
    (first_at s hs device c.args.shown.now (IsSent s hs device) master on c.beginnings-series.ensures.values
    (λ t lt up. shows t (omega (arith, lt, le)) up) next unsent.0 unsent.1)

pub begun-smaller : goal.begun-smaller
begun-smaller c =
    let events = c.requires.events in
    let next = c.in-Some.ensures.is c.args.network.now events.0 events.1 c.requires.device in
    let later = next.later in
    let timely = next.timely in
    omega (arith, later, timely)

pub begun-preserved : goal.begun-preserved
begun-preserved c =
    let device = c.args.device in
    let from = c.begun.from in
    let until = c.args.until in
    let crossed = c.in-Some.crossed in
    let le = c.begun.invariant.0 in
    let events = c.requires.events in
    let found = c.in-Some.ensures.is c.args.network.now events.0 events.1 c.requires.device in
    let after = found.later in (
      omega (arith, le, after),
      λ befallen hs remembers are shows.
          let s = scenario_under c.args.network.now befallen in
          let on = c.reading_law.ensures c.args.network.now befallen device remembers.range remembers.within remembers.begun in
          let next = c.in-Some.ensures.is c.args.network.now befallen remembers c.requires.device in
          let later = next.later in
          let shown = shows crossed.time (omega (arith, later, le)) next.timely in
          paid_both (Sends s hs device) (IsSent s hs device) c.args.after from (crossed.time + 1) (c.begun.invariant.1 befallen hs remembers are shows)
          (paid_on s hs device c.args.shown.now (IsSent s hs device) on c.beginnings-series.ensures.step
          c.beginnings-series.ensures.values (λ t lt up. shows t (omega (arith, lt, le)) up) next
          (c.is_unsent.ensures.sent befallen hs remembers c.requires.device are shown c.if-is_unsent.false)),
    )

pub returns : goal.returns
returns c befallen hs remembers are master shows =
    let s = scenario_under c.args.network.now befallen in
    let device = c.args.device in
    let from = c.begun.from in
    let until = c.args.until in
    let le = c.begun.invariant.0 in
    paid_both (Sends s hs device) (IsSent s hs device) c.args.after from (until + 1) (c.begun.invariant.1 befallen hs remembers are shows)
    (paid_without s hs device c.args.shown.now c.beginnings-series.result from until (until + 1) (IsSent s hs device) c.beginnings-series.ensures.values
    (λ t lt up. shows t (omega (arith, lt, le)) up) (omega arith)
    (c.in_default.ensures.is c.args.network.now befallen remembers c.requires.device))

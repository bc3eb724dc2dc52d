use Rattle.audit_sweep.{specs.unpaid.dispatches.Frames.{IsTold, OwesFrame}}
use Rattle.audit_sweep.proofs.unpaid_lemmas.{points_lemmas.FirstUnpaid.{first_behind, paid_both}}
use Rattle.audit_sweep.proofs.unpaid_lemmas.dispatches_lemmas.RowDebts
use RowDebts.{device_there, few_left, first_at, row_fit, told_on, told_silent, told_without, wide_step}
use Rattle.{audit_sweep.specs.unpaid.dispatches.Debtors.scenario_of, std.proofs.Common.{◌+◌, arith, rules}}
use Rattle.audit_sweep.proofs.unpaid.dispatches.debtor.RowDebtor.first_within.Goals as goal

pub is_undispatched-requires-clause-limit : goal.is_undispatched-requires-clause-limit
is_undispatched-requires-clause-limit c =
    let network = c.args.self.now.network.now in
    let known = c.requires.known in
    let there = device_there c.requires.fit.range c.requires.row in
    let timely = (c.in-Some.ensures.is network known.0 known.2.remembers there).timely in
    let limit = c.requires.limit in
    omega (arith, timely, limit)

pub is_undispatched-requires-clause-few : goal.is_undispatched-requires-clause-few
is_undispatched-requires-clause-few c =
    let network = c.args.self.now.network.now in
    let range = c.requires.fit.range in
    let row = c.args.row.now in
    let known = c.requires.known in
    let s = scenario_of c.args.self.now known.0 in
    let there = device_there range c.requires.row in
    few_left range
    (row_fit range c.requires.row) c.requires.leavings (c.in-Some.ensures.is network known.0 known.2.remembers there)

pub returns-then-ne : goal.returns-then-ne
returns-then-ne c befallen hs known shows =
    told_silent (scenario_of c.args.self.now befallen) hs c.args.link c.args.shown.now c.args.row.now c.args.after c.args.until shows
    (λ same. search rules)

pub left-init : goal.left-init
left-init c = (omega arith, λ befallen hs known shows t frame lt early owes. absurd (omega (arith, lt, early)))

pub returns-then-is_undispatched : goal.returns-then-is_undispatched
returns-then-is_undispatched c befallen hs known shows =
    let network = c.args.self.now.network.now in
    let s = scenario_of c.args.self.now befallen in
    let row = c.args.row.now in
    let from = c.left.from in
    let until = c.args.until in
    let crossed = c.in-Some.crossed in
    let there = device_there c.requires.fit.range c.requires.row in
    let remembers = known.remembers in
    let on = c.reading_law.ensures network befallen row.device remembers.range remembers.within remembers.begun in
    let next = c.in-Some.ensures.is network befallen remembers there in
    let later = next.later in
    let le = c.left.invariant.0 in
    let shown = shows crossed.time (omega (arith, later, le)) next.timely in
    let untold = c.is_undispatched.ensures.untold befallen hs known shown c.if-is_undispatched.true in
    first_behind (OwesFrame s hs row) (IsTold s hs c.args.link row) c.args.after until le (omega arith)
    (c.left.invariant.1 befallen hs known shows)
    (first_at s hs c.args.link c.args.shown.now row on c.requires.leavings
    (λ t lt up. shows t (omega (arith, lt, le)) up) next untold.0 untold.1)

pub left-smaller : goal.left-smaller
left-smaller c =
    let network = c.args.self.now.network.now in
    let known = c.requires.known in
    let there = device_there c.requires.fit.range c.requires.row in
    let next = c.in-Some.ensures.is network known.0 known.2.remembers there in
    let later = next.later in
    let timely = next.timely in
    omega (arith, later, timely)

pub left-preserved : goal.left-preserved
left-preserved c =
    let network = c.args.self.now.network.now in
    let range = c.requires.fit.range in
    let row = c.args.row.now in
    let from = c.left.from in
    let until = c.args.until in
    let crossed = c.in-Some.crossed in
    let le = c.left.invariant.0 in
    let there = device_there range c.requires.row in
    let some = c.requires.known in
    let found = c.in-Some.ensures.is network some.0 some.2.remembers there in
    let after = found.later in (
      omega (arith, le, after),
      λ befallen hs known shows.
          let s = scenario_of c.args.self.now befallen in
          let remembers = known.remembers in
          let on = c.reading_law.ensures network befallen row.device remembers.range remembers.within remembers.begun in
          let next = c.in-Some.ensures.is network befallen remembers there in
          let later = next.later in
          let shown = shows crossed.time (omega (arith, later, le)) next.timely in
          paid_both (OwesFrame s hs row) (IsTold s hs c.args.link row) c.args.after from (crossed.time + 1) (c.left.invariant.1 befallen hs known shows)
          (told_on s hs c.args.link c.args.shown.now row c.args.series from until crossed on
          (wide_step range (row_fit range c.requires.row) c.requires.leavings) c.requires.leavings
          (λ t lt up. shows t (omega (arith, lt, le)) up) next
          (c.is_undispatched.ensures.told befallen hs known shown c.if-is_undispatched.false)),
    )

pub returns : goal.returns
returns c befallen hs known shows =
    let network = c.args.self.now.network.now in
    let s = scenario_of c.args.self.now befallen in
    let row = c.args.row.now in
    let from = c.left.from in
    let until = c.args.until in
    let le = c.left.invariant.0 in
    let there = device_there c.requires.fit.range c.requires.row in
    paid_both (OwesFrame s hs row) (IsTold s hs c.args.link row) c.args.after from (until + 1) (c.left.invariant.1 befallen hs known shows)
    (told_without s hs c.args.link c.args.shown.now row from until (until + 1) c.requires.leavings
    (λ t lt up. shows t (omega (arith, lt, le)) up) (omega arith)
    (c.in_default.ensures.is network befallen known.remembers there))

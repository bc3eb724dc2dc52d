use Rattle.audit_sweep.{specs.unpaid.dispatches.{Debtors.scenario_of, Frames.{IsTold, OwesFrame}}}
use Rattle.audit_sweep.proofs.unpaid_lemmas.{dispatches_lemmas.RowDebts.device_there}
use Rattle.audit_sweep.proofs.unpaid_lemmas.{points_lemmas.FirstUnpaid.{none_is, none_tells, paid_both, tells_behind}}
use Rattle.std.proofs.Common.{◌+◌, ◌∙◌, arith, sym}
use Rattle.audit_sweep.proofs.unpaid.dispatches.debtor.RowDebtor.first_in.Goals as goal

pub after_time-end-requires-clause-device : goal.after_time-end-requires-clause-device
after_time-end-requires-clause-device c =
    let there = device_there c.requires.fit.range c.requires.row in
    let all = c.requires.fit.standing in
    omega (arith, there, all)

pub first_within-lacking-requires-clause-limit : goal.first_within-lacking-requires-clause-limit
first_within-lacking-requires-clause-limit c =
    let near = c.after_time-end.ensures.near in
    let timely = c.requires.fit.timely in
    omega (arith, near, timely)

pub returns-then-is_some : goal.returns-then-is_some
returns-then-is_some c befallen hs known =
    let s = scenario_of c.args.self.now befallen in
    let row = c.args.row.now in
    tells_behind (OwesFrame s hs row) (IsTold s hs c.args.link row) 0 c.stretches.after c.after_time-end.result.1 c.args.self.now.until
    c.first_within-lacking.result (omega arith) c.after_time-end.ensures.near (sym c.is_some.ensures ∙ c.if-is_some.true)
    (c.stretches.invariant.1 befallen hs known)
    (c.first_within-lacking.ensures befallen hs known (c.after_time-end.ensures.shows s hs known.stands))

pub stretches-init : goal.stretches-init
stretches-init c = (omega arith, λ befallen hs known t frame lt early owes. absurd (omega (arith, lt, early)))

pub stretches-smaller : goal.stretches-smaller
stretches-smaller c =
    let known = c.requires.known in
    let lt = c.stretches-test.true in
    let later = c.after_time-end.ensures.later (scenario_of c.args.self.now known.0) known.1 known.2.stands in
    omega (arith, lt, later)

pub stretches-preserved : goal.stretches-preserved
stretches-preserved c =
    let row = c.args.row.now in
    let after = c.stretches.after in
    let end = c.after_time-end.result.1 in (
      c.after_time-end.ensures.near,
      λ befallen hs known.
          let s = scenario_of c.args.self.now befallen in
          paid_both (OwesFrame s hs row) (IsTold s hs c.args.link row) 0 after (end + 1) (c.stretches.invariant.1 befallen hs known)
          (none_tells (OwesFrame s hs row) (IsTold s hs c.args.link row) after end c.first_within-lacking.result
          (none_is c.first_within-lacking.result (sym c.is_some.ensures ∙ c.if-is_some.false))
          (c.first_within-lacking.ensures befallen hs known (c.after_time-end.ensures.shows s hs known.stands))),
    )

pub returns : goal.returns
returns c befallen hs known t frame lt early owes =
    let most = c.stretches-test.false in
    c.stretches.invariant.1 befallen hs known t frame lt (omega (arith, early, most)) owes

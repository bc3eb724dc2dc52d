use Rattle.audit_sweep.proofs.unpaid_lemmas.points_lemmas.Words.{◌+◌, ◌∙◌, IsTold, OwesAt, arith, scenario_under, sym}
use Rattle.audit_sweep.proofs.unpaid_lemmas.points_lemmas.FirstUnpaid
use FirstUnpaid.{none_is, none_tells, paid_both, paid_less, tells_behind}
use Rattle.audit_sweep.proofs.unpaid.points.correcting.first_untold_by.Goals as goal

pub returns-then-is_some : goal.returns-then-is_some
returns-then-is_some c befallen hs kept founded =
    let s = scenario_under c.args.network.now befallen in
    let device = c.args.device in
    tells_behind (OwesAt s hs device) (IsTold s hs device) 0 c.stretches.after c.after_time-end.result.1 c.args.until c.first_untold_within-untold.result
    (omega arith) c.after_time-end.ensures.near (sym c.is_some.ensures ∙ c.if-is_some.true) (c.stretches.invariant.1 befallen hs kept founded)
    (c.first_untold_within-untold.ensures befallen hs kept founded (c.after_time-end.ensures.shows s hs kept.stands))

pub stretches-preserved : goal.stretches-preserved
stretches-preserved c =
    let device = c.args.device in
    let after = c.stretches.after in
    let end = c.after_time-end.result.1 in (
      c.after_time-end.ensures.near,
      λ befallen hs kept founded.
          let s = scenario_under c.args.network.now befallen in
          paid_both (OwesAt s hs device) (IsTold s hs device) 0 after (end + 1) (c.stretches.invariant.1 befallen hs kept founded)
          (none_tells (OwesAt s hs device) (IsTold s hs device) after end c.first_untold_within-untold.result
          (none_is c.first_untold_within-untold.result (sym c.is_some.ensures ∙ c.if-is_some.false))
          (c.first_untold_within-untold.ensures befallen hs kept founded (c.after_time-end.ensures.shows s hs kept.stands))),
    )

pub returns : goal.returns
returns c befallen hs kept founded =
    let s = scenario_under c.args.network.now befallen in
    let done = c.stretches-test.false in
    paid_less (OwesAt s hs c.args.device) (IsTold s hs c.args.device) 0 (c.args.until + 1) (c.stretches.after + 1) (omega (arith, done))
    (c.stretches.invariant.1 befallen hs kept founded)

use Rattle.audit_sweep.proofs.unpaid_lemmas.points_lemmas.Words.{◌+◌, ◌∙◌, IsSent, Sends, arith, scenario_under, sym}
use Rattle.audit_sweep.proofs.unpaid_lemmas.points_lemmas.FirstUnpaid.{none_is, none_tells, paid_both, tells_behind}
use Rattle.audit_sweep.proofs.unpaid.points.sending.first_unsent_by.Goals as goal

pub returns-then-is_some : goal.returns-then-is_some
returns-then-is_some c befallen hs kept =
    let s = scenario_under c.args.network.now befallen in
    let device = c.args.device in
    tells_behind (Sends s hs device) (IsSent s hs device) 0 c.stretches.after c.after_time-end.result.1 c.args.until c.first_unsent_within-unsent.result
    (omega arith) c.after_time-end.ensures.near (sym c.is_some.ensures ∙ c.if-is_some.true) (c.stretches.invariant.1 befallen hs kept)
    (c.first_unsent_within-unsent.ensures befallen hs kept.remembers kept.places_are (sym c.is_master.ensures ∙ c.if-not-is_master.false)
    (c.after_time-end.ensures.shows s hs kept.stands))

pub stretches-preserved : goal.stretches-preserved
stretches-preserved c =
    let device = c.args.device in
    let after = c.stretches.after in
    let end = c.after_time-end.result.1 in (
      c.after_time-end.ensures.near,
      λ befallen hs kept.
          let s = scenario_under c.args.network.now befallen in
          paid_both (Sends s hs device) (IsSent s hs device) 0 after (end + 1) (c.stretches.invariant.1 befallen hs kept)
          (none_tells (Sends s hs device) (IsSent s hs device) after end c.first_unsent_within-unsent.result
          (none_is c.first_unsent_within-unsent.result (sym c.is_some.ensures ∙ c.if-is_some.false))
          (c.first_unsent_within-unsent.ensures befallen hs kept.remembers kept.places_are (sym c.is_master.ensures ∙ c.if-not-is_master.false)
          (c.after_time-end.ensures.shows s hs kept.stands))),
    )

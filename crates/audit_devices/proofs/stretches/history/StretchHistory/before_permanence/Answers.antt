use Rattle.{audit_devices.specs.Keeping.records_before, std.proofs.Common.subst}
use Rattle.{audit_devices.specs.stretches.Points.HasPoints, run_law.specs.{control.Collections.points_of, declared.judgement.Judgement.TheVariants.Ignored}}
use Rattle.audit_devices.proofs.stretches.history.StretchHistory.before_permanence.Goals as goal

pub returns : goal.returns
returns c network hs stands cm =
    subst (λ p.
    HasPoints network (points_of (records_before p hs) c.args.device) c.before-2.result.collections.now c.before-2.result.gathering)
    (c.of_permanence.ensures Ignored) (c.before-2.ensures network hs stands cm)

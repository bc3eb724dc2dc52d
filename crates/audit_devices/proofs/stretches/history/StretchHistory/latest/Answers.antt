use Rattle.{audit_devices.specs.stretches.{Keeping.Stretches, Points.HasPoints}, std.proofs.Common.{subst, sym}, tte_units.proofs.general_lemmas.Lists.got_at}
use Rattle.run_law.specs.control.Collections.{points_of}
use Rattle.audit_devices.proofs.stretches.history.StretchHistory.latest.Goals as goal

pub returns : goal.returns
returns c network hs stands cm =
    let device = c.args.device in
    let kept : Stretches = c.index-kept.result.now in
    let keeps = stands device kept (got_at c.args.self.now.kept.items device.0 kept c.requires c.index-kept.ensures) cm in
    subst (λ (k : Stretches). HasPoints network (points_of hs device) k.collections k.latest) (sym c.kept.view_is)
    (record { ow = keeps.ow; calc = keeps.calc; gathers = keeps.latest })

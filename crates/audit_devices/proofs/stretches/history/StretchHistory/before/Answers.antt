use Rattle.{audit_devices.specs.{Keeping.records_before, stretches.{Keeping.Stretches, Points.HasPoints}}, tte_units.proofs.general_lemmas.Lists.got_at}
use Rattle.{run_law.specs.control.Collections.points_of, std.proofs.Common.{subst, sym}}
use Rattle.audit_devices.proofs.stretches.history.StretchHistory.before.Goals as goal

pub returns : goal.returns
returns c network hs stands cm =
    let device = c.args.device in
    let kept : Stretches = c.index-kept.result.now in
    let keeps = stands device kept (got_at c.args.self.now.kept.items device.0 kept c.requires c.index-kept.ensures) cm in
    subst (λ (k : Stretches). HasPoints network (points_of (records_before c.args.place.now hs) device) k.collections c.before-2.result) (sym c.kept.view_is)
    (c.before-2.ensures network hs device keeps)

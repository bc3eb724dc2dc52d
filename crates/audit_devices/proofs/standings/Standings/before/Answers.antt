use Rattle.audit_devices.proofs.standings.Standings.before.Goals as goal
use Rattle.audit_devices.proofs.Words.{Shows, got_at, records_before, subst, sym}

pub returns : goal.returns
returns c s hs stands =
    let device = c.args.device in
    let keeps = stands device c.index.result.now (got_at c.args.self.now.histories.items device.0 c.index.result.now c.requires c.index.ensures) in
    subst (Shows s (records_before c.args.place.now hs) device) (sym (c.before-2.ensures keeps.order)) (keeps.before c.args.place.now)

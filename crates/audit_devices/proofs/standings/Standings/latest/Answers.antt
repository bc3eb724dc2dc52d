use Rattle.audit_devices.proofs.standings.Standings.latest.Goals as goal
use Rattle.audit_devices.proofs.Words.{Shows, got_at, subst, sym}

pub returns : goal.returns
returns c s hs stands =
    let device = c.args.device in
    let keeps = stands device c.index.result.now (got_at c.args.self.now.histories.items device.0 c.index.result.now c.requires c.index.ensures) in
    subst (Shows s hs device) (sym c.latest.ensures) keeps.latest

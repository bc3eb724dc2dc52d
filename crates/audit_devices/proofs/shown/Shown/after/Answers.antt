use Rattle.audit_devices.proofs.Follows.{follows}
use Rattle.sync_state.proofs.membership_lemmas.SummaryLemmas.{silence_summarizes}
use Rattle.audit_devices.proofs.shown.Shown.after.Goals as goal

pub returns : goal.returns
returns c =
    follows c.args.network.now c.args.device c.args.time c.args.body.now c.args.carried c.args.readings c.args.self.now c.follow.new.self
    c.effect_of-effect.result c.requires silence_summarizes c.effect_of-effect.ensures c.follow.ensures

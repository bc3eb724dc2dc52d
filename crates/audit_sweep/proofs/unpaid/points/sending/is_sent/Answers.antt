use Rattle.audit_sweep.proofs.unpaid_lemmas.points_lemmas.Telling.{sent_there, there_sent}
use Rattle.audit_sweep.proofs.unpaid.points.sending.is_sent.Goals as goal

pub returns : goal.returns
returns c s hs are =
    let place = c.of_sending.ensures 0 in
    let has = c.has.ensures hs are in (
      λ told. sent_there s hs c.args.device c.args.time c.args.cycle c.of_sending.result place (has.0 told),
      λ sent. has.1 (there_sent s hs c.args.device c.args.time c.args.cycle c.of_sending.result place sent),
    )

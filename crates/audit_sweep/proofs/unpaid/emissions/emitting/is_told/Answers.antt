use Rattle.audit_sweep.{proofs.unpaid_lemmas.emissions_lemmas.Owing.{there_told, told_there}}
use Rattle.audit_sweep.{specs.records.places.Placing.HasRecordAt}
use Rattle.{audit_sweep.specs.unpaid.emissions.Emissions.sent_of, std.proofs.Common.{subst, sym}}
use Rattle.audit_sweep.proofs.unpaid.emissions.emitting.is_told.Goals as goal

pub returns : goal.returns
returns c s hs are founded reach =
    let sent = sent_of c.args.emitted.now in
    let time = c.args.time in
    let device = c.args.device in
    let place = c.place_of.ensures in
    let has = c.has.ensures hs are in (
      λ told. told_there s hs device time sent (subst (HasRecordAt hs) place (has.0 told)),
      λ told. has.1 (subst (HasRecordAt hs) (sym place) (there_told s hs device time sent founded reach told)),
    )

use Rattle.audit_sweep.proofs.unpaid_lemmas.{Debts.below_next, Words.{DeviceId, HasClockAt, refl}}
use Rattle.audit_sweep.proofs.unpaid.debtor.Debtor.clock_untold.Goals as goal

pub devices-preserved : goal.devices-preserved
devices-preserved c hs are =
    let own = (c.has_clock.ensures hs are).0 c.if-not-has_clock.false in
    let last : DeviceId = record { 0 = c.devices.place } in
    below_next (λ d. HasClockAt hs d c.args.time) c.devices.place last refl (c.devices.invariant hs are) own

use Rattle.audit_sweep.{proofs.unpaid_lemmas.Words.{◌<◌, DeviceId, Happening, HasClockAt, List}, specs.records.places.Placing.ArePlacesOf}
use Rattle.audit_sweep.proofs.unpaid.debtor.Debtor.clock_untold.Given as goal

-- the clocks of the devices so far are told
abbrev pub invariant-devices : goal.invariant-devices
invariant-devices l = (hs : List Happening) → ArePlacesOf hs l.self.places.now → (device : DeviceId) → device.0 < l.place → HasClockAt hs device l.time

-- Where records of leavings stand.
use Rattle.std.specs.Prelude.{◌∷◌, Bool, List, [], false, true, ℕ}
use Rattle.audit_law.specs.law.Departures.{leaving_record}
use Rattle.audit_sweep.specs.declared.records.kept.Kept.{Kept}
use Rattle.net_plan.specs.declared.{ids.{DeviceId.DeviceId, LinkId.LinkId}, network.Network.Network}
use Rattle.run_law.specs.{control.Leaving.Departure, records.Ranks.rank, scenario.Devices.is_relay}
use Rattle.audit_sweep.specs.declared.records.kept.Kept.TheVariants as kepts

-- the place of what becomes at its leaving of the frame of the record of this number
abbrev pub leaving_place : ℕ → DeviceId → LinkId → ℕ → Departure → List ℕ
leaving_place t device link cause d = t ∷ rank (leaving_record device link cause d) ∷ device.0 ∷ link.0 ∷ cause ∷ []

-- may a record of which this is kept give its frame to a link? Of those that arrive, a relay passes on
abbrev pub may_give : Network → Kept → Bool
may_give network (kepts.Sent device) = true
may_give network (kepts.Compressed device tells) = true
may_give network (kepts.Arrived device link clock) = is_relay network device
may_give network rest = false

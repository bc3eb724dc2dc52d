-- The octets of a frame that is delivered as it was sent.
use Rattle.std.specs.Prelude.{◌≡◌, List, Some, ℕ}
use Rattle.{device_rules.specs.frames.traced.RecordOctets.record_octets, run_law.specs.records.Happenings.Happening}
use Rattle.net_plan.specs.declared.{ids.{DeviceId.DeviceId, VlId.VlId}, tables.VirtualLink.VirtualLink}
use Rattle.run_law.specs.{law.Safety.IsDelivered, records.Frames.tt_frame_by, scenario.Scenarios.Scenario}

-- the record of a delivery that is owed shows the octets that the sender made for the cycle
abbrev pub DeliveriesShowFrames : Type 0
DeliveriesShowFrames =
    (s : Scenario) (hs : List Happening) (vl : VlId) (of_vl : VirtualLink) (cycle : ℕ) (device : DeviceId)
    → (d : IsDelivered s hs vl of_vl cycle device)
    → record_octets d.delivery ≡ Some (tt_frame_by s.network of_vl cycle)

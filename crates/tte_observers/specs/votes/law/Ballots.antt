-- The ballots of a run: what the devices took of three virtual links, cycle by cycle.
use Rattle.std.specs.Prelude.{◌&&◌, ◌==◌, Bool, List, Option, drop, false, find, option_and_then, option_map, ℕ}
use Rattle.device_rules.specs.frames.traced.RecordOctets.{record_octets}
use Rattle.net_plan.specs.declared.ids.{DeviceId.DeviceId, VlId.VlId}
use Rattle.run_law.specs.{declared.note.NoteBody.NoteBody, records.Happenings.Happening}
use Rattle.tte_observers.specs.{declared.votes.law.voters.Voters.Voters, votes.tmr.Vote.Votes}
use Rattle.run_law.specs.declared.note.NoteBody.TheVariants as notes

-- does the device take a frame of the virtual link by this record, in this cycle of its own?
abbrev pub is_delivery : VlId → ℕ → DeviceId → NoteBody → Bool
is_delivery vl cycle device (notes.Delivered other link cause of_vl of_cycle) =
    device.0 == other.0 && (vl.0 == of_vl.0 && cycle == of_cycle)
is_delivery vl cycle device other = false

-- the first record by which it does
abbrev pub delivery_of : List Happening → VlId → ℕ → DeviceId → Option Happening
delivery_of hs vl cycle device = find (λ h. is_delivery vl cycle device h.note.body) hs

-- the payload of a frame: its octets behind the head of 14
abbrev pub payload_in : List ℕ → List ℕ
payload_in octets = drop 14 octets

-- the payload that the device took of the virtual link in the cycle, if it took one
abbrev pub payload_taken : List Happening → VlId → ℕ → DeviceId → Option (List ℕ)
payload_taken hs vl cycle device =
    option_map payload_in (option_and_then record_octets (delivery_of hs vl cycle device))

-- the ballot of the cycle at the device: a seat for each of the three virtual links
abbrev pub ballot_of : Voters → List Happening → ℕ → DeviceId → Votes
ballot_of voters hs cycle device = record {
  first = payload_taken hs voters.first cycle device;
  second = payload_taken hs voters.second cycle device;
  third = payload_taken hs voters.third cycle device;
}

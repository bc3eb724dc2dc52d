-- What compression masters owe, and the records that say that it was sent.
use Rattle.std.specs.Prelude.{◌<ℤ◌, ◌<◌, ◌^◌, ◌≡◌, ◌≤ℤ◌, ◌≤◌, List, Some, neg_ℤ, pos, slice_get, ℕ, ℤ}
use Rattle.{audit_devices.specs.Keeping.time_at, audit_law.specs.collections.Kept.{History, as_emitted, emissions_in}}
use Rattle.{audit_devices.specs.declared.stretches.kept.Entry.Entry, run_law.specs.scenario.Scenarios.Scenario}
use Rattle.audit_law.specs.{declared.collections.emitted.Emitted.Emitted, law.Emitted.{before_place, emission_place}}
use Rattle.audit_law.specs.law.{Debts.IsPaid, Owed.Pays}
use Rattle.{compression.specs.declared.compressed.Compressed.Compressed, net_plan.specs.declared.ids.DeviceId.DeviceId}
use Rattle.run_law.specs.{control.Emissions.Emits, declared.judgement.Judgement.Judgement, records.Happenings.Happening}
use Rattle.audit_law.specs.law.Owed as debts

-- a number of 64 bits
pub record IsShort (x : ℤ) : Type 0 where
  pub low : neg_ℤ (pos (2 ^ 63)) ≤ℤ x
  pub high : x <ℤ pos (2 ^ 63)

-- what has the numbers of an emission
abbrev pub sent_of : Emitted → Compressed
sent_of e = record {
  opened = record { 0 = e.opened };
  at = record { 0 = e.at };
  cycle = e.cycle;
  members = record { 0 = e.members };
}

-- the compression master sends this at the time, judged by the records before its place
pub record Owes (s : Scenario) (hs : List Happening) (device : DeviceId) (sent : Compressed) (time : ℕ) : Type 0 where
  pub verdict : Judgement
  pub emits : Emits s (before_place hs (emission_place time device sent)) device time sent verdict

-- it does so by then
pub record OwesAt (s : Scenario) (hs : List Happening) (until : ℕ) (device : DeviceId) (sent : Compressed) (time : ℕ)
    : Type 0 where
  pub owes : Owes s hs device sent time
  pub timely : time ≤ until

-- and this is of a cluster of the entry's stretch, at this place of the order of their openings or behind it, and is
-- not sent before the entry's record
pub record OwesBehind (s : Scenario) (hs : List Happening) (until : ℕ) (device : DeviceId) (collections : History)
    (e : Entry) (from : ℕ) (sent : Compressed) (time : ℕ) : Type 0 where
  pub owed : OwesAt s hs until device sent time
  pub place : ℕ
  pub behind : from ≤ place
  pub there : slice_get (emissions_in collections e.gathering) place ≡ Some (as_emitted sent)
  pub begun : time_at e.place ≤ time

-- and this is of one of the first entries, so many of them
pub record OwesWithin (s : Scenario) (hs : List Happening) (until : ℕ) (device : DeviceId) (collections : History)
    (entries : List Entry) (count : ℕ) (sent : Compressed) (time : ℕ) : Type 0 where
  pub index : ℕ
  pub e : Entry
  pub below : index < count
  pub there : slice_get entries index ≡ Some e
  pub owed : OwesBehind s hs until device collections e 0 sent time

-- a record says that the device sent this
abbrev pub IsTold : Scenario → List Happening → DeviceId → Compressed → Type 0
IsTold s hs device sent = IsPaid hs (Pays s) (debts.emission device sent)

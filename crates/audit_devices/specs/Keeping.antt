-- What is kept of the records of a device, for any place.
use Rattle.std.specs.{List.{last_or, Sorted.IsPartitionedBy}, Option.option_map_or}
use Rattle.std.specs.Prelude.{◌≡◌, List, None, Some, [], filter, get_or, length, slice_get, ℕ}
use Rattle.net_plan.specs.declared.{ids.DeviceId.DeviceId, network.Network.Network}
use Rattle.run_law.specs.{declared.note.NoteBody.NoteBody, records.Happenings.Happening}
use Rattle.run_law.specs.{records.{Order.{IsIn, is_before}, Ranks.place_of}, scenario.Scenarios.Scenario}
use Rattle.audit_devices.specs.{Effects.subject_of, Showing.{IsSteady, Shown, Shows}, declared.shown.Readings.Readings}
use Rattle.audit_devices.specs.{Following.IsMet, declared.history.Entry.Entry}
use Rattle.audit_devices.specs.declared.{effect.Carried.Carried, history.History.History, standings.Standings.Standings}

-- what the last of these entries shows, or what is shown at first
abbrev pub last_shown : Shown → List Entry → Shown
last_shown first entries = option_map_or (λ e. e.shown) (last_or None entries) first

-- what was shown last, or at first
abbrev pub latest_of : History → Shown
latest_of history = last_shown history.first history.entries.items

-- the time of a place
abbrev pub time_at : List ℕ → ℕ
time_at place = get_or place 0 0

-- what was shown last before a place, or at first
abbrev pub shown_before : List ℕ → History → Shown
shown_before place history = last_shown history.first (filter (λ e. is_before e.place place) history.entries.items)

-- the entry is at the place of one of the records
pub record IsOfRecord (hs : List Happening) (e : Entry) : Type 0 where
  pub h : Happening
  pub there : IsIn h hs
  pub place : e.place ≡ place_of h

-- those of the entries that are before a place are the first
abbrev pub IsInOrder : History → Type 0
IsInOrder history = (place : List ℕ) → IsPartitionedBy (λ e. is_before e.place place) history.entries.items

-- the records before a place
abbrev pub records_before : List ℕ → List Happening → List Happening
records_before place hs = filter (λ h. is_before (place_of h) place) hs

-- what the records before any place show of the device is what was shown last before it
pub record Keeps (s : Scenario) (hs : List Happening) (device : DeviceId) (history : History) : Type 0 where
  pub latest : Shows s hs device (latest_of history)
  pub before : (place : List ℕ) → Shows s (records_before place hs) device (shown_before place history)
  pub places : (e : Entry) → IsIn e history.entries.items → IsOfRecord hs e
  pub order : IsInOrder history

-- what these records show of each device is kept
abbrev pub KeepsAll : Scenario → List Happening → List History → Type 0
KeepsAll s hs histories =
    (device : DeviceId) (history : History) → slice_get histories device.0 ≡ Some history → Keeps s hs device history

-- the record has this body, and where it shows something of a device, this time and frame, and the device's clock
-- reads this then
pub record IsSeen (s : Scenario) (h : Happening) (t : ℕ) (body : NoteBody) (carried : Carried)
    (readings : Readings) : Type 0 where
  pub body_is : h.note.body ≡ body
  pub met : (device : DeviceId) → subject_of body ≡ Some device → IsMet s device h t body carried readings

-- the same, of the standings
abbrev pub Stands : Scenario → List Happening → Standings → Type 0
Stands s hs standings = KeepsAll s hs standings.histories.items

-- how many devices they are of
abbrev pub device_count : Standings → ℕ
device_count standings = length standings.histories.items

-- nothing is kept of the device but what is shown at first
pub record IsFresh (network : Network) (device : DeviceId) (history : History) : Type 0 where
  pub none : history.entries.items ≡ []
  pub shows : (s : Scenario) → s.network ≡ network → IsSteady s device → Shows s [] device history.first

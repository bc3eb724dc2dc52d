-- What is kept of the stretches of compression masters.
use Rattle.std.specs.List.{last_or, Sorted.IsPartitionedBy}
use Rattle.std.specs.Prelude.{◌≡◌, List, None, Option, Some, [], filter, pos, slice_get, true, ℕ}
use Rattle.{audit_devices.specs.Effects.carried_by, audit_law.specs.collections.Kept.History}
use Rattle.audit_devices.specs.{Keeping.records_before, declared.{effect.Carried.Carried, stretches.kept.Entry.Entry}}
use Rattle.audit_law.specs.{collections.Gathered.Gathers, declared.collections.gathering.Gathering.Gathering}
use Rattle.{compression.specs.Clusters.Point, run_law.specs.scenario.Devices.is_cm, tte_units.specs.Amount.amount}
use Rattle.net_plan.specs.declared.{ids.DeviceId.DeviceId, network.Network.Network}
use Rattle.run_law.specs.{control.Collections.{observation_window, points_of}, records.Happenings.{Happening, time_of}}
use Rattle.run_law.specs.{declared.note.NoteBody.NoteBody, records.{Order.{IsIn, is_before}, Ranks.place_of}}

-- what is kept of one device: its collections, the gathering of its present stretch, and those that its records began
pub record Stretches : Type 0 where
  pub collections : History
  pub latest : Gathering
  pub entries : List Entry

-- the last of the entries before a place
abbrev pub entry_before : List ℕ → List Entry → Option Entry
entry_before place entries = last_or None (filter (λ e. is_before e.place place) entries)

-- the entry's gathering stands for these points, and no entry for none
abbrev pub StandsFor : History → Option Entry → List Point → Type 0
StandsFor collections None points = points ≡ []
StandsFor collections (Some e) points = Gathers collections e.gathering points

-- the entry's gathering stands for some points
abbrev pub StandsForSome : History → Entry → Type 0
StandsForSome collections e = (points : List Point) × Gathers collections e.gathering points

-- the entry is at the place of one of the records
pub record IsOfRecord (hs : List Happening) (e : Entry) : Type 0 where
  pub h : Happening
  pub there : IsIn h hs
  pub place : e.place ≡ place_of h

-- those of the entries that are before a place are the first
abbrev pub IsInOrder : List Entry → Type 0
IsInOrder entries = (place : List ℕ) → IsPartitionedBy (λ e. is_before e.place place) entries

-- the device's stretch before any place is kept
pub record Keeps (network : Network) (hs : List Happening) (device : DeviceId) (kept : Stretches) : Type 0 where
  pub ow : kept.collections.ow ≡ observation_window network
  pub calc : kept.collections.calc ≡ pos (amount network.calc)
  pub latest : Gathers kept.collections kept.latest (points_of hs device)
  pub before : (place : List ℕ)
      → StandsFor kept.collections (entry_before place kept.entries) (points_of (records_before place hs) device)
  pub places : (e : Entry) → IsIn e kept.entries → IsOfRecord hs e
  pub order : IsInOrder kept.entries
  pub each : (e : Entry) → IsIn e kept.entries → StandsForSome kept.collections e

-- the stretches of each compression master are kept
abbrev pub KeepsAll : Network → List Happening → List Stretches → Type 0
KeepsAll network hs all =
    (device : DeviceId) (kept : Stretches) → slice_get all device.0 ≡ Some kept → is_cm network device ≡ true
    → Keeps network hs device kept

-- the record has this time, body and frame
pub record IsRecord (h : Happening) (t : ℕ) (body : NoteBody) (carried : Carried) : Type 0 where
  pub time : t ≡ time_of h
  pub body_is : h.note.body ≡ body
  pub frame : carried ≡ carried_by h

-- What a device that joins comes to by its first correction.
use Rattle.std.specs.Prelude.{◌++◌, ◌+◌, ◌-ℤ◌, ◌∷◌, ◌≡◌, ◌≤◌, List, ℕ}
use Rattle.{net_plan.specs.declared.ids.DeviceId.DeviceId, sync_state.specs.membership.Summary.{Summarizes, Summary}}
use Rattle.{precision_law.specs.Dispatches.IsDispatchOf, schedule_tables.specs.Margins.dispatch_spread}
use Rattle.{precision_law.specs.Precision.IsRunUpTo, run_law.specs.{declared.note.Note.Note, device.States.state_after}}
use Rattle.run_law.specs.{control.Corrections.{heard_since, standing_before}, device.LocalClocks.{local, local_before}}
use Rattle.{run_law.specs.law.Safety.{AreClose, IsInStep, IsInStepBefore}, tte_units.specs.declared.units.Units.Units}
use Rattle.run_law.specs.{records.Happenings.{Happening, earlier, happenings, time_of}, scenario.Scenarios.Scenario}
use Rattle.sync_state.specs.Verdicts.{HasVerdict}
use Rattle.sync_state.specs.declared.{answers.Verdict.TheVariants.Corrected, state.State.TheVariants.Joining}
use Rattle.run_law.specs.declared.note.NoteBody.TheVariants as notes

-- by the record a device that is joining corrects its clock
pub record IsFirstCorrection (s : Scenario) (hs : List Happening) (device : DeviceId) (h : Happening) : Type 0 where
  pub front : List Happening
  pub rest : List Happening
  pub whole : hs ≡ front ++ h ∷ rest
  pub cycle : ℕ
  pub by : Units
  pub adjustment : Units
  pub is : h.note.body ≡ notes.Corrected device cycle by adjustment
  pub joining : state_after s (earlier (time_of h) hs) device ≡ Joining

-- the adjustment that a correction leaves is fixed by the points of the frames that were heard: from each other
-- adjustment the same frames would have led to it
pub record IsFixedByPoints (s : Scenario) (front : List Happening) (t : ℕ) (device : DeviceId) (adjustment : Units)
    : Type 0 where
  pub heard : Summary
  pub sums : Summarizes heard (heard_since s front device t)
  pub from_any : (other : Units)
      → HasVerdict (record (standing_before s front device t) { adjustment = other }) heard
      (Corrected (record { 0 = adjustment.0 -ℤ other.0 }))

-- the first correction of a joiner is by what it heard alone; what it dispatches lies near what the other masters do;
-- and from then on its clock is close to theirs while both are synchronised
pub record JoinerComesIn (s : Scenario) (hs : List Happening) (until : ℕ) (device : DeviceId) (h : Happening)
    (f : IsFirstCorrection s hs device h) : Type 0 where
  pub fixed : IsFixedByPoints s f.front (time_of h) device f.adjustment
  pub near : (cycle : ℕ) (g other : Happening) → (own : IsDispatchOf hs until cycle g) → own.master ≡ device
      → IsDispatchOf hs until cycle other
      → (time_of g ≤ time_of other + dispatch_spread s.network)
      × (time_of other ≤ time_of g + dispatch_spread s.network)
  pub after : (t : ℕ) (e : DeviceId) → time_of h ≤ t → t ≤ until → IsInStep s hs device t → IsInStep s hs e t
      → AreClose s.network (local s hs device t) (local s hs e t)
  pub before : (t : ℕ) (e : DeviceId) → time_of h ≤ t → t ≤ until
      → IsInStepBefore s hs device t → IsInStepBefore s hs e t
      → AreClose s.network (local_before s hs device t) (local_before s hs e t)

-- each device that joins comes in so
abbrev pub JoinersComeIn : Type 0
JoinersComeIn =
    (s : Scenario) (mark : List ℕ) (ns : List Note) (until : ℕ) → IsRunUpTo s mark ns until
    → (device : DeviceId) (h : Happening) → time_of h ≤ until
    → (f : IsFirstCorrection s (happenings s.network ns) device h)
    → JoinerComesIn s (happenings s.network ns) until device h f

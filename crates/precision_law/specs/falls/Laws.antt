-- How far a clock may fall back, and how great a correction may be.
use Rattle.std.specs.Prelude.{◌+ℤ◌, ◌≡◌, ◌≤ℤ◌, ◌≤◌, ◌⊎◌, List, pos, ℕ, ℤ}
use Rattle.{net_plan.specs.declared.ids.DeviceId.DeviceId, tte_units.specs.declared.units.Units.Units}
use Rattle.{net_plan.specs.declared.network.Network.Network, run_law.specs.law.Safety.{IsInStep, IsInStepBefore}}
use Rattle.{precision_law.specs.Precision.IsRunUpTo, run_law.specs.scenario.Scenarios.Scenario}
use Rattle.run_law.specs.{declared.note.Note.Note, records.Order.IsIn}
use Rattle.run_law.specs.{device.LocalClocks.{local, local_before}, records.Happenings.{Happening, happenings, time_of}}
use Rattle.run_law.specs.declared.note.NoteBody.TheVariants as notes

-- the device is correct and synchronised at the time and its clock shows this, after the records of the time or before
abbrev pub ShowsInStep : Scenario → List Happening → DeviceId → ℕ → ℤ → Type 0
ShowsInStep s hs device t shown =
    (IsInStep s hs device t × (shown ≡ local s hs device t))
    ⊎ (IsInStepBefore s hs device t × (shown ≡ local_before s hs device t))

-- what such a clock shows is at most the precision above what any such clock shows at the same time or later
abbrev pub ClocksDoNotFallBack : Type 0
ClocksDoNotFallBack =
    (s : Scenario) (mark : List ℕ) (ns : List Note) (until : ℕ) → IsRunUpTo s mark ns until
    → (x y : ℕ) (d e : DeviceId) (shown later : ℤ) → x ≤ y → y ≤ until
    → ShowsInStep s (happenings s.network ns) d x shown → ShowsInStep s (happenings s.network ns) e y later
    → shown ≤ℤ (later +ℤ s.network.precision.0)

-- the amount is at most the precision, either way
pub record IsSmall (network : Network) (by : Units) : Type 0 where
  pub least : pos 0 ≤ℤ (by.0 +ℤ network.precision.0)
  pub most : by.0 ≤ℤ network.precision.0

-- each correction is by a small amount; a broken device has none
abbrev pub CorrectionsAreSmall : Type 0
CorrectionsAreSmall =
    (s : Scenario) (mark : List ℕ) (ns : List Note) (until : ℕ) → IsRunUpTo s mark ns until
    → (h : Happening) (device : DeviceId) (cycle : ℕ) (by adjustment : Units) → IsIn h (happenings s.network ns)
    → time_of h ≤ until → h.note.body ≡ notes.Corrected device cycle by adjustment → IsSmall s.network by

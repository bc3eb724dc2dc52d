-- The stamps that `stamp` puts are those of a run that goes well. They agree, and tell the order of lines.
use Rattle.std.specs.Prelude.{◌++◌, ◌+ℤ◌, ◌+◌, ◌<◌, ◌∷◌, ◌≡◌, ◌≤ℤ◌, ◌⊎◌, List, Option, Some, [], length, pos, ℕ, ℤ}
use Rattle.net_plan.specs.declared.{event.Event.Event, ids.DeviceId.DeviceId, network.Network.Network}
use Rattle.run_law.specs.declared.note.Note.{Note}
use Rattle.tte_observers.specs.stamps.{Answer.granule_line, StampLines.{line_at, stamp_lines}, granules.Stamps.stamp_at}
use Rattle.tte_forms.specs.{Putting.Shown, declared.status.Status.Status, networks.NetworkLine.IsRefusalText}
use Rattle.tte_traces.specs.{FaultLine.fault_lines, Safely.{OfRunToFault, OfWholeRun, RunsSafely}}
use Rattle.tte_units.specs.{Amount.amount, declared.units.Units.Units}

-- any two stamps of one line differ by at most one; and where a stamp of a line is at least two more than one of a
-- line, be it before or behind it, its time is later
pub record StampsTell (granule : ℕ) (network : Network) (events : List Event) (notes : List Note) : Type 0 where
  pub agree : (before behind : List Event) (event : Event) (d e : DeviceId) (stamp other : ℤ)
      → events ≡ before ++ event ∷ behind
      → stamp_at granule network (line_at network before event notes) d ≡ Some stamp
      → stamp_at granule network (line_at network before event notes) e ≡ Some other
      → (stamp ≤ℤ (other +ℤ pos 1)) × (other ≤ℤ (stamp +ℤ pos 1))
  pub order : (before behind front back : List Event) (event later : Event) (d e : DeviceId) (stamp more : ℤ)
      → events ≡ before ++ event ∷ behind → events ≡ front ++ later ∷ back
      → stamp_at granule network (line_at network before event notes) d ≡ Some stamp
      → stamp_at granule network (line_at network front later notes) e ≡ Some more
      → (stamp +ℤ pos 2) ≤ℤ more → amount event.time < amount later.time

-- the lines are the stamps of a run that goes well, and they tell
abbrev pub IsStampedRun : ℕ → List ℕ → List ℕ → List (List ℕ) → Type 0
IsStampedRun granule octets trace lines =
    OfWholeRun octets trace (λ network events notes run.
    StampsTell granule network events notes × (lines ≡ stamp_lines granule network events notes))

-- they are the stamps up to a fault of the trace, and then the fault
abbrev pub IsStampedToFault : ℕ → List ℕ → List ℕ → List (List ℕ) → Type 0
IsStampedToFault granule octets trace lines =
    OfRunToFault octets trace (λ network events fault notes run. StampsTell granule network events notes
    × (lines ≡ stamp_lines granule network events notes ++ fault_lines (length events + 1) fault))

-- the line is that of a network that is refused, or of a granule
abbrev pub IsStampRefusal : List (List ℕ) → Type 0
IsStampRefusal lines = IsRefusalText lines ⊎ ((least : ℕ) × (lines ≡ granule_line least ∷ []))

abbrev pub StampsSafely : Units → Option (List ℕ) → Option (List ℕ) → Status → Shown → Shown → Type 0
StampsSafely granule first second status old new =
    RunsSafely (IsStampedRun (amount granule)) (IsStampedToFault (amount granule)) IsStampRefusal first second status
    old new

-- What the stamps of a trace are, and what they tell.
use Rattle.std.specs.Prelude.{◌+ℤ◌, ◌<◌, ◌≡◌, ◌≤ℤ◌, ◌≤◌, List, Option, Some, option_map, pos, ℕ, ℤ}
use Rattle.net_plan.specs.declared.{ids.DeviceId.DeviceId, network.Network.Network}
use Rattle.run_law.specs.{declared.note.Note.Note, law.FirstLaws.IsLawful, records.Happenings.happenings}
use Rattle.run_law.specs.{runs.DueRecords.IsScenarioRun, scenario.Scenarios.Scenario}
use Rattle.tte_observers.specs.stamps.granules.{Granules.{least_granule, stamp_of}, Lines.{IsLineOf, Line}}
use Rattle.tte_observers.specs.stamps.granules.Stamps.{IsShownAt, stamp_at}

-- a device's stamp is that of its local clock, if it is correct and synchronised
abbrev pub StampsAreOfLocals : Type 0
StampsAreOfLocals =
    (granule : ℕ) (network : Network) (line : Line) (device : DeviceId) (shown : Option ℤ)
    → IsShownAt network line device shown → option_map (stamp_of granule) shown ≡ stamp_at granule network line device

-- a run of an accepted network within the fault hypothesis, and a granule that is not below the network's least
pub record IsRunInGranules (granule : ℕ) (s : Scenario) (mark : List ℕ) (ns : List Note) : Type 0 where
  pub lawful : IsLawful s
  pub run : IsScenarioRun s mark ns
  pub fine : least_granule s.network ≤ granule

-- any two stamps of one line differ by at most one
abbrev pub StampsAgree : Type 0
StampsAgree =
    (granule : ℕ) (s : Scenario) (mark : List ℕ) (ns : List Note) (line : Line) (d e : DeviceId) (stamp other : ℤ)
    → IsRunInGranules granule s mark ns → IsLineOf s mark (happenings s.network ns) line
    → stamp_at granule s.network line d ≡ Some stamp → stamp_at granule s.network line e ≡ Some other
    → (stamp ≤ℤ (other +ℤ pos 1)) × (other ≤ℤ (stamp +ℤ pos 1))

-- where a stamp of a line is at least two more than a stamp of another line, its time is later
abbrev pub StampsTellOrder : Type 0
StampsTellOrder =
    (granule : ℕ) (s : Scenario) (mark : List ℕ) (ns : List Note) (line later : Line) (d e : DeviceId)
    (stamp more : ℤ)
    → IsRunInGranules granule s mark ns
    → IsLineOf s mark (happenings s.network ns) line → IsLineOf s mark (happenings s.network ns) later
    → stamp_at granule s.network line d ≡ Some stamp → stamp_at granule s.network later e ≡ Some more
    → (stamp +ℤ pos 2) ≤ℤ more → line.time < later.time

-- An end system that is on comes in: it is synchronised three cycles later, and stays so while it is not broken.
use Rattle.std.specs.Prelude.{◌*◌, ◌+◌, ◌≡◌, ◌≤◌, List, false, pos, true, ℕ}
use Rattle.net_plan.specs.{Bounds.IsBeta, declared.{ids.DeviceId.DeviceId, network.Network.Network}}
use Rattle.precision_law.specs.Precision.{IsRunUpTo}
use Rattle.run_law.specs.{declared.note.Note.Note, device.States.{is_off, state_after}, law.Safety.IsInStep}
use Rattle.run_law.specs.records.Happenings.{Happening, happenings, up_to}
use Rattle.run_law.specs.scenario.{Devices.is_end, Scenarios.{Scenario, is_broken}}
use Rattle.{schedule_tables.specs.Margins.{dispatch_spread, reach_error}, tte_units.specs.Amount.amount}

-- up to the time each end system that is on at t is synchronised from so long behind t on, while it is not broken
abbrev pub ComesIn : ℕ → Scenario → List Happening → ℕ → Type 0
ComesIn wait s hs until =
    (device : DeviceId) (t u : ℕ) → is_end s.network device ≡ true → is_off (state_after s (up_to t hs) device) ≡ false
    → t + wait ≤ u → u ≤ until → is_broken s device u ≡ false → IsInStep s hs device u

-- how long an end system that is on may take: two cycles to a correction point, the spread of the dispatches of a
-- cycle, and three errors
abbrev pub coming_time : Network → ℕ → ℕ
coming_time network beta =
    2 * amount network.cycle + amount network.correction + dispatch_spread network + 3 * reach_error network beta

-- each end system comes in within that time
abbrev pub EndSystemsComeInSoon : Type 0
EndSystemsComeInSoon =
    (s : Scenario) (mark : List ℕ) (ns : List Note) (until beta : ℕ) → IsRunUpTo s mark ns until
    → IsBeta s.network (pos beta) → ComesIn (coming_time s.network beta) s (happenings s.network ns) until

-- each end system comes in within three cycles
abbrev pub EndSystemsComeIn : Type 0
EndSystemsComeIn =
    (s : Scenario) (mark : List ℕ) (ns : List Note) (until : ℕ) → IsRunUpTo s mark ns until
    → ComesIn (3 * amount s.network.cycle) s (happenings s.network ns) until

-- The stamps of a line, by the devices' local clocks before the records of its time.
use Rattle.std.specs.Prelude.{if◌then◌else◌, ◌&&◌, ◌≡◌, Bool, MatchOption, None, Option, Some, not, ℕ, ℤ}
use Rattle.net_plan.specs.declared.{ids.DeviceId.DeviceId, network.Network.Network}
use Rattle.run_law.specs.device.{LocalClocks.local_before, States.{is_synchronised, state_before}}
use Rattle.run_law.specs.{law.Safety.IsInStepBefore, scenario.Scenarios.is_broken}
use Rattle.tte_observers.specs.stamps.granules.{Granules.stamp_of, Lines.{Line, scenario_at}}

-- does the device stamp the line? The events up to it do not break it, and it is synchronised by the earlier records
abbrev pub stamps : Network → Line → DeviceId → Bool
stamps network line device =
    not (is_broken (scenario_at network line) device line.time)
    && is_synchronised (state_before (scenario_at network line) line.records device line.time)

-- what its local clock shows: its reading, and its adjustment by the records of earlier times
abbrev pub shown_at : Network → Line → DeviceId → ℤ
shown_at network line device = local_before (scenario_at network line) line.records device line.time

-- its stamp of the line, if it stamps it
abbrev pub stamp_at : ℕ → Network → Line → DeviceId → Option ℤ
stamp_at granule network line device =
    if stamps network line device then Some (stamp_of granule (shown_at network line device)) else None

-- the local clock of a device that is correct and synchronised when the line's event comes, or None
abbrev pub IsShownAt : Network → Line → DeviceId → Option ℤ → Type 0
IsShownAt network line device shown =
    MatchOption shown (IsInStepBefore (scenario_at network line) line.records device line.time → ⊥)
    (λ l. IsInStepBefore (scenario_at network line) line.records device line.time × (l ≡ shown_at network line device))

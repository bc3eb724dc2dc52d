-- How what arrives at a device enters it.
use Rattle.std.specs.Prelude.{◌≡◌, List, Option, ℕ, ⊤}
use Rattle.device_rules.specs.{Answers.arrival_as, Entering.{HasPeriod, entering_by}}
use Rattle.net_plan.specs.declared.ids.{DeviceId.DeviceId, LinkId.LinkId}
use Rattle.run_law.specs.{control.Wires.Signal, declared.steps.Arrival.Arrival, device.Standpoints.standpoint}
use Rattle.run_law.specs.{records.Happenings.Happening, scenario.Scenarios.Scenario}
use Rattle.run_law.specs.timed.{Arrivals.{row_fault, taken_or_fault}, Receptions.{arrival_of, last_taken}}
use Rattle.schedule_tables.specs.declared.entry.Entry.{Entry}
use Rattle.audit_sweep.specs.declared.records.wires.entering.{Entered.Entered, Judged.Judged}
use Rattle.run_law.specs.declared.steps.Arrival.TheVariants as arrivals
use Rattle.audit_sweep.specs.declared.records.wires.entering.Entered.TheVariants as entered
use Rattle.audit_sweep.specs.declared.records.wires.entering.Judged.TheVariants as judged

-- what arrives enters the device so: this becomes of it at once, or it is judged by the row and the cycle in which the
-- device took the last frame of the row's virtual link
abbrev pub IsEnteredAs : Scenario → List Happening → DeviceId → ℕ → LinkId → ℕ → Signal → Entered → Type 0
IsEnteredAs s hs device t link cause signal (entered.Control is) = is ≡ arrival_of s hs device t link cause signal
IsEnteredAs s hs device t link cause signal (entered.Refused reason) =
    arrivals.Dropped reason ≡ arrival_of s hs device t link cause signal
IsEnteredAs s hs device t link cause signal (entered.ByRow row length) =
    (entry : Entry) × (row ≡ entering_by s.network entry)
    × (taken_or_fault s.network device (standpoint s hs device t) entry
    (row_fault s.network (standpoint s hs device t) entry length (last_taken hs device t link cause row.vl))
    ≡ arrival_of s hs device t link cause signal)

-- the row by which it enters has a period
abbrev pub IsJudgeable : Entered → Type 0
IsJudgeable (entered.ByRow row length) = HasPeriod row
IsJudgeable rest = ⊤

-- this is the cycle in which the device took the last frame of the virtual link of the row by which it enters
abbrev pub IsLastTaken : List Happening → DeviceId → ℕ → LinkId → ℕ → Entered → Option ℕ → Type 0
IsLastTaken hs device t link cause (entered.ByRow row length) last = last ≡ last_taken hs device t link cause row.vl
IsLastTaken hs device t link cause rest last = ⊤

-- what becomes of it
abbrev pub judged_as : Judged → Arrival
judged_as (judged.Control is) = is
judged_as (judged.Timed is) = arrival_as is

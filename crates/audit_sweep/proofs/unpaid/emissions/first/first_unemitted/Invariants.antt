use Rattle.audit_law.proofs.law_lemmas.Owed.{IsOfFirst}
use Rattle.audit_law.{specs.{events.Readings.scenario_under, law.{DueRecords.IsDue, FirstDebts.TellsFirst}}}
use Rattle.{audit_sweep.specs.unpaid.{Sorts.IsEmissionDebtOf, emissions.Kept.IsKept}, net_plan.specs.declared.event.Event.Event}
use Rattle.{run_law.specs.{records.{Happenings.Happening, Ranks.place_of}, runs.Runs.IsFounded}, std.proofs.Common.{List, ℕ}}
use Rattle.audit_sweep.proofs.unpaid.emissions.first.first_unemitted.Given as goal

-- it is the first of what the devices so far owe
abbrev pub invariant-devices : goal.invariant-devices
invariant-devices l =
    (befallen : List Event) (hs : List Happening) → IsKept l.network befallen hs l.events l.stretches l.places
    → IsFounded place_of (IsDue (scenario_under l.network befallen)) hs
    → TellsFirst (scenario_under l.network befallen) hs l.until
    (IsOfFirst (λ (n : ℕ). IsEmissionDebtOf (record { 0 = n })) l.place) l.first

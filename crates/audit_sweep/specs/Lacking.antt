-- What the records of a report lack.
use Rattle.std.specs.Prelude.{◌+◌, ◌∷◌, List, MatchOption, Option, [], ℕ}
use Rattle.audit_law.specs.law.{DebtLaws.IsFirstDebt, Debts.IsPaid, Findings.LacksNothing, TracedEvents.OwesEvent}
use Rattle.audit_law.specs.law.{DueRecords.IsDue, Owed.Pays}
use Rattle.run_law.specs.{records.{Happenings.Happening, Ranks.place_of}, scenario.Scenarios.Scenario}
use Rattle.audit_law.specs.law.Owed as debts

-- each event up to the time has its record
abbrev pub AreEventsTold : Scenario → List Happening → ℕ → Type 0
AreEventsTold s hs until = (line : ℕ) → OwesEvent s until line → IsPaid hs (Pays s) (debts.event line)

-- this is the first time up to this one at which a record is lacking; none where nothing is
abbrev pub TellsFirstLack : Scenario → List Happening → ℕ → Option ℕ → Type 0
TellsFirstLack s hs until result =
    MatchOption result (LacksNothing place_of (IsDue s) ((until + 1) ∷ []) hs) (IsFirstDebt s hs until)

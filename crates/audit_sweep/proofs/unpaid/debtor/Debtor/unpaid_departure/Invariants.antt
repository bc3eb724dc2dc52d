use Rattle.audit_law.proofs.law_lemmas.Owed.{IsOfFirst}
use Rattle.audit_sweep.proofs.unpaid_lemmas.Debts.{IsLeavingAt}
use Rattle.audit_sweep.proofs.unpaid_lemmas.Words.{◌≡◌, AreKnown, Event, Happening, List, Some, TellsFirst, numbered, scenario_of}
use Rattle.audit_sweep.specs.records.Keeping.{record_of}
use Rattle.audit_sweep.proofs.unpaid.debtor.Debtor.unpaid_departure.Given as goal

-- it is the first of those by the links so far
abbrev pub invariant-links : goal.invariant-links
invariant-links l =
    (befallen : List Event) (hs : List Happening) (h : Happening) → AreKnown befallen hs l.self
    → numbered hs l.number ≡ Some h → l.kept ≡ record_of h
    → TellsFirst (scenario_of l.self befallen) hs l.self.until (IsOfFirst (IsLeavingAt l.number) l.place) l.first

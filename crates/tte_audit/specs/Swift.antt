-- The audit of a report of which the events are sought first.
use Rattle.std.specs.{Prelude.{◌++◌, ◌+◌, ◌<◌, ◌∷◌, ◌≡◌, ◌≤◌, ◌⊎◌, List, [], length, ℕ}}
use Rattle.{audit_sweep.specs.declared.sweep.Sweep.Sweep, net_plan.specs.declared.network.Network.Network}
use Rattle.{run_law.specs.declared.note.Note.Note, tte_audit.specs.declared.swift.{Left.Left, EventSearch.EventSearch}}
use Rattle.tte_audit.specs.{Following.Follows, LineSwept.IsTaken}
use Rattle.tte_audit.specs.Report.{AreEventsRight, BeginsWithRecord, HasNoEvent, IsNextLine, events_of}

-- the octets end with these, which are fewer
pub record IsBehind (octets behind : List ℕ) : Type 0 where
  pub front : List ℕ
  pub parts : octets ≡ front ++ behind
  pub fewer : length behind < length octets

-- the line of the record begins where so many octets of the report are left
pub record IsAt (network : Network) (report : List ℕ) (place : ℕ) (note : Note) : Type 0 where
  pub front : List ℕ
  pub rest : List ℕ
  pub left : List ℕ
  pub parts : report ≡ front ++ rest
  pub long : length rest ≡ place
  pub begins : BeginsWithRecord network note rest left

-- the lines of these records begin at these places
abbrev pub AreAt : Network → List ℕ → List ℕ → List Note → Type 0
AreAt network report [] [] = Unit {0}
AreAt network report [] (note ∷ notes) = ⊥
AreAt network report (place ∷ places) [] = ⊥
AreAt network report (place ∷ places) (note ∷ notes) =
    IsAt network report place note × AreAt network report places notes

-- the events of these records are right and were followed, and their lines begin at the places
pub record IsSought (network : Network) (report : List ℕ) (notes : List Note) (sought : EventSearch) : Type 0 where
  pub right : AreEventsRight network notes
  pub follows : Follows network sought.befallen.watch sought.befallen.history sought.befallen.count
      sought.befallen.end (events_of notes)
  pub placed : AreAt network report sought.places.items notes

-- the same, of these records and at most one more
pub record IsSoughtOn (network : Network) (report : List ℕ) (notes : List Note) (sought : EventSearch) : Type 0 where
  pub more : List Note
  pub is : IsSought network report more sought
  pub few : length more ≤ length notes + 1

-- the record of the next line was taken; it has no event, or its place was the first of those of events
abbrev pub IsGoneOn : Network → ℕ → Sweep → Sweep → Left → Left → Type 0
IsGoneOn network number old new left next =
    (note : Note) × IsNextLine network number left.octets.now next.octets.now note × IsTaken network old new note
    × ((HasNoEvent note.body × (next.places.now ≡ left.places.now))
    ⊎ (left.places.now ≡ length left.octets.now ∷ next.places.now))

-- What holds of the chains that `why` tells.
use Rattle.std.specs.Prelude.{◌++◌, ◌<◌, ◌∷◌, ◌≡◌, ◌≤ℤ◌, ◌⊎◌, List, None, Option, Some, [], ℕ, ℤ}
use Rattle.{audit_law.specs.law.CorrectionPoints.IsPointOf, net_plan.specs.declared.network.Network.Network}
use Rattle.{lens_why.specs.{Answer.IsWhyAnswer, Chain.IsWholeChain}, tte_audit.specs.Report.scenario_of}
use Rattle.{lens_why.specs.Grounds.ground_of, net_plan.specs.{Places.row_of, declared.ids.{LinkId.LinkId, VlId.VlId}}}
use Rattle.{lens_why.specs.declared.ground.{Best.Best, Ground.Ground}, net_plan.specs.declared.ids.DeviceId.DeviceId}
use Rattle.lens_why.specs.declared.ground.Ground.TheVariants.{Clique, Corrected, CutBy, Middle, Taken, Unsynchronised}
use Rattle.{lens_why.specs.declared.ground.Ground.TheVariants.Window, schedule_tables.specs.declared.entry.Entry.Entry}
use Rattle.{lens_why.specs.declared.ground.BestHeard.BestHeard, run_law.specs.{declared.note.Note.Note, records.Causes.last_from}}
use Rattle.{precision_law.specs.traffic.Taken.SaysTaken, tte_units.specs.declared.units.Units.Units}
use Rattle.run_law.specs.{law.FirstLaws.IsBeginning, records.{Happenings.{Happening, happenings, numbered}, Order.IsIn}}
use Rattle.{schedule_tables.specs.{Entries.IsEntry, Rules.KeepsRules}, tte_reports.specs.Reports.IsReportOf}
use Rattle.tte_forms.specs.Answering.{Answer}
use Rattle.run_law.specs.declared.note.NoteBody.TheVariants as notes

-- each record of a chain stands earlier in the report than the one that comes from it
abbrev pub IsDescending : List Happening → Type 0
IsDescending chain =
    (front rest : List Happening) (h g : Happening) → chain ≡ front ++ h ∷ (g ∷ rest) → g.note.number < h.note.number

-- of the records of a report, `why` has one answer for each number; a record has one whole chain, which goes back and
-- never on; and that of a frame that was delivered begins with its dispatch by its sender, or with the event by which a
-- broken master put it on its link
pub record HasWhy (network : Network) (ns : List Note) (end : Units) : Type 0 where
  pub answer : (number : ℕ) → (a : Answer) × IsWhyAnswer number network ns end a
  pub one : (number : ℕ) (a b : Answer) → IsWhyAnswer number network ns end a → IsWhyAnswer number network ns end b
      → a ≡ b
  pub goes_back : (number : ℕ) (first : Happening) (causes : List Happening)
      → IsWholeChain (happenings network ns) number first causes → IsDescending (first ∷ causes)
  pub delivered : (number : ℕ) (first : Happening) (causes : List Happening) (device : DeviceId) (link : LinkId)
      (cause : ℕ) (vl : VlId) (cycle : ℕ)
      → IsWholeChain (happenings network ns) number first causes
      → first.note.body ≡ notes.Delivered device link cause vl cycle
      → IsBeginning (last_from first causes).note.body

-- so it is of each report
abbrev pub WhyLaw : Type 0
WhyLaw =
    (network : Network) (octets : List ℕ) (ns : List Note) (end : Units) → IsReportOf network octets ns end
    → HasWhy network ns end

-- in a network that keeps the rules, the row by which a virtual link goes by a link is the one of each entry with both:
-- of the entry that is dispatched on the link, and of that by which a frame that comes by it is judged
abbrev pub RowIsOne : Type 0
RowIsOne =
    (network : Network) (place : ℕ) (entry : Entry) → KeepsRules network → IsEntry network place entry
    → row_of network entry.row.vl entry.row.link ≡ Some place

-- what is told is a position and a window, and the position lies in the window, whose two ends belong to it
pub record IsInWindow (said : Ground) : Type 0 where
  pub position : ℤ
  pub from : Units
  pub to : Units
  pub is : said ≡ Window position from to
  pub not_before : from.0 ≤ℤ position
  pub not_behind : position ≤ℤ to.0

-- so it is with each record of a report, in a network that keeps the rules, by which a frame is taken
abbrev pub TakenInWindows : Type 0
TakenInWindows =
    (network : Network) (octets : List ℕ) (ns : List Note) (end : Units) (number : ℕ) (h : Happening)
    (device : DeviceId) (link : LinkId) (cause : ℕ) (vl : VlId) (cycle : ℕ) → KeepsRules network
    → IsReportOf network octets ns end → numbered (happenings network ns) number ≡ Some h
    → SaysTaken h.note.body device link cause vl cycle
    → IsInWindow (ground_of (scenario_of network ns) (happenings network ns) h)

-- the record that told what a channel says, if it says something
abbrev pub best_number : Option Best → List ℕ
best_number None = []
best_number (Some best) = best.number ∷ []

-- the record that told the best frame of a channel, if there is one
abbrev pub told_number : Option BestHeard → List ℕ
told_number None = []
told_number (Some told) = told.number ∷ []

-- the records that a ground names, by their numbers
abbrev pub named_in : Ground → List ℕ
named_in (Corrected a b) = best_number a ++ best_number b
named_in (Clique a b outside threshold) = told_number a ++ told_number b
named_in (CutBy number) = number ∷ []
named_in (Middle number middle) = number ∷ []
named_in (Taken cycle number) = number ∷ []
named_in (Unsynchronised state number) = number ∷ []
named_in other = []

-- the number is 0, which is that of no record, or that of one that stands earlier than this
abbrev pub IsEarlier : List Happening → Happening → ℕ → Type 0
IsEarlier hs h n = (n ≡ 0) ⊎ ((g : Happening) × (numbered hs n ≡ Some g) × (n < h.note.number))

-- the records that a ground says told the best frames of channels, by their numbers
abbrev pub told_in : Ground → List ℕ
told_in (Corrected a b) = best_number a ++ best_number b
told_in (Clique a b outside threshold) = told_number a ++ told_number b
told_in other = []

-- each of these is there, and stands earlier in the report, where the record is of a device's correction or clique
abbrev pub BestAreThere : Type 0
BestAreThere =
    (network : Network) (octets : List ℕ) (ns : List Note) (end : Units) (number : ℕ) (h : Happening)
    (device : DeviceId) (n : ℕ) → IsReportOf network octets ns end → numbered (happenings network ns) number ≡ Some h
    → IsPointOf device h.note.body
    → IsIn n (told_in (ground_of (scenario_of network ns) (happenings network ns) h))
    → (g : Happening) × (numbered (happenings network ns) n ≡ Some g) × (n < h.note.number)

-- each record that the ground of a record of a report names stands earlier in the report
abbrev pub NamesEarlier : Type 0
NamesEarlier =
    (network : Network) (octets : List ℕ) (ns : List Note) (end : Units) (number : ℕ) (h : Happening) (n : ℕ)
    → IsReportOf network octets ns end → numbered (happenings network ns) number ≡ Some h
    → IsIn n (named_in (ground_of (scenario_of network ns) (happenings network ns) h))
    → IsEarlier (happenings network ns) h n

-- The records of a report, taken one after another.
use Rattle.std.specs.Prelude.{◌++◌, ◌∷◌, ◌≡◌, List, ℕ}
use Rattle.{net_plan.specs.declared.network.Network.Network, run_law.specs.declared.note.Note.Note}
use Rattle.tte_reports.specs.{Reports.{AreLeft, IsReportOf}, declared.records.Records.Records}
use Rattle.tte_units.specs.declared.units.Units.{Units}

-- what holds where of all these records of a report of a network these first ones were taken: of what takes them, as it
-- was before the first and as it is now
abbrev pub Holds : Type 0 → Type 1
Holds T = Network → List Note → List Note → T → T → Type 0

-- of all these records, which the octets tell, this one comes behind these
pub record IsNextOf (network : Network) (octets : List ℕ) (notes before : List Note) (note : Note) : Type 0 where
  pub end : Units
  pub report : IsReportOf network octets notes end
  pub rest : List Note
  pub parts : notes ≡ before ++ note ∷ rest

-- the record comes behind those that were taken
abbrev pub ComesNext : {T : Type 0} → Holds T → Network → Note → T → Type 0
ComesNext {T} holds network note taker =
    (octets : List ℕ) × (notes : List Note) × (before : List Note) × (begun : T)
    × IsNextOf network octets notes before note × holds network notes before begun taker

-- these records were taken, and the others are left
pub record IsTakenSoFar {T : Type 0} (holds : Holds T) (network : Network) (notes : List Note) (begun taker : T)
    (records : Records) : Type 0 where
  pub before : List Note
  pub rest : List Note
  pub parts : notes ≡ before ++ rest
  pub taken : holds network notes before begun taker
  pub left : AreLeft network records rest

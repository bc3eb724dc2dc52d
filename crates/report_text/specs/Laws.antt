-- What holds of reports.
use Rattle.std.specs.{List.concat, Prelude.{◌≡◌, All, List, ℕ}}
use Rattle.net_plan.specs.{Ranges.IsInRange, Rules.{DeviceIsNew, LinkIsNew}, declared.network.Network.Network}
use Rattle.run_law.specs.declared.note.Note.{Note}
use Rattle.schedule_tables.specs.Schedule.{VlNameIsNew}
use Rattle.report_text.specs.{NoteLine.report_of, Ranges.{IsNoteInRange, IsNoteOf}}

-- records of the network with their numbers in range
pub record AreOfNetwork (network : Network) (notes : List Note) : Type 0 where
  pub of_network : All (IsNoteOf network) notes
  pub in_range : All IsNoteInRange notes

-- where no two devices, no two links and no two virtual links have one name, two lists of records whose
-- reports have the same octets are one
abbrev pub OneReport : Type 0
OneReport =
    (network : Network) (notes others : List Note)
    → IsInRange network → ((i : ℕ) → DeviceIsNew network i) → ((i : ℕ) → LinkIsNew network i)
    → ((i : ℕ) → VlNameIsNew network i)
    → AreOfNetwork network notes → AreOfNetwork network others
    → concat (report_of network notes) ≡ concat (report_of network others) → notes ≡ others

-- What holds of pages.
use Rattle.std.specs.{List.concat, Prelude.{◌≡◌, List, ℕ}}
use Rattle.{lens_page.specs.{Answer.IsPageAnswer, Lines.network_lines}, run_law.specs.declared.note.Note.Note}
use Rattle.net_plan.specs.declared.network.Network.{Network}
use Rattle.{tte_forms.specs.Answering.Answer, tte_reports.specs.Reports.IsReportOf}
use Rattle.tte_units.specs.declared.units.Units.{Units}

-- this is the page of the report of the network
pub record IsPageOf (network : Network) (report : List ℕ) (page : Answer) : Type 0 where
  pub notes : List Note
  pub end : Units
  pub is_report : IsReportOf network report notes end
  pub is : IsPageAnswer network notes end page

-- a page tells its report, and its lines of the network: where two pages have the same text, so are these
abbrev pub PagesTell : Type 0
PagesTell =
    (network other : Network) (report second : List ℕ) (page same : Answer) → IsPageOf network report page
    → IsPageOf other second same → concat page.lines ≡ concat same.lines
    → (report ≡ second) × (network_lines network ≡ network_lines other)

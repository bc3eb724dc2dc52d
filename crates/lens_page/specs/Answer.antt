-- What `page` answers for the records of a report.
use Rattle.std.specs.{List.concat, Prelude.{◌≡◌}}
use Rattle.{lens_page.specs.{Lines.network_text, Pages.page_with}, report_text.specs.NoteLine.report_of}
use Rattle.tte_reports.specs.Reports.{AnswersFor}

-- the answer for the records of a report: the page of the network and of their lines
abbrev pub IsPageAnswer : AnswersFor
IsPageAnswer network notes end a = a ≡ page_with (network_text network) (concat (report_of network notes))

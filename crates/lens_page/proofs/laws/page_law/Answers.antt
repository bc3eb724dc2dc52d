use Rattle.lens_page.{proofs.Told.same_pages, specs.{Closing.page_closing, Opening.page_opening}}
use Rattle.{report_text.specs.NoteLine.report_of, std.specs.List.concat, tte_forms.specs.Answering.Answer}
use Rattle.std.proofs.{Common.{◌∙◌, ap, sym}, lemmas.List.append-nil}
use Rattle.lens_page.proofs.laws.page_law.Goals as goal

pub returns : goal.returns
returns c network other report second page same p q text =
    let one = p.is_report.events.text in
    let two = q.is_report.events.text in
    let lines = λ (a : Answer). concat a.lines in
    let told = same_pages page_opening page_closing p.is_report.range q.is_report.range one.records two.records
    (sym (ap lines p.is) ∙ text ∙ ap lines q.is) in
    let first = one.text ∙ append-nil (concat (report_of network p.notes)) in
    let last = two.text ∙ append-nil (concat (report_of other q.notes)) in
    (first ∙ told.backs ∙ sym last, told.fronts)

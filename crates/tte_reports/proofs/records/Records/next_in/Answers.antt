use Rattle.std.{proofs.{Common.{◌+◌, ◌∙◌, ◌≡◌, None, Some, subst, sym}, lemmas.List.take_rest}, specs.Prelude.position}
use Rattle.tte_audit.{proofs.ReportText.record_at, specs.Report.is_line_end}
use Rattle.tte_reports.proofs.Reports.{first_then, no_text_left, none_left}
use Rattle.tte_reports.specs.Reports.{AreLines}
use Rattle.tte_reports.proofs.records.Records.next_in.Goals as goal

pub returns-in-Some-read_note : goal.returns-in-Some-read_note
returns-in-Some-read_note c notes h =
    let network = c.args.network.now in
    let octets = c.args.self.now.rest.now in
    let place = c.in-Some.place in
    let at : position is_line_end octets ≡ Some place = sym c.first_lf.ensures.place ∙ c.in-Some.is in
    let here = record_at {network = network} octets
    place {note = c.read_note.new.note} at c.in-Some-read_note.ensures in
    let next = first_then c.requires.named here h in
    let left = take_rest octets (place + 1) in
    (next.rest, next.is, subst (λ xs. AreLines network xs next.rest) (sym left) next.lines)

pub returns-in-None-read_note : goal.returns-in-None-read_note
returns-in-None-read_note c notes h =
    let octets = c.args.self.now.rest.now in
    let at : position is_line_end octets ≡ Some c.in-Some.place = sym c.first_lf.ensures.place ∙ c.in-Some.is in
    no_text_left {octets = octets} notes c.in-Some.place c.requires.named at c.in-None-read_note.ensures h

pub returns-in-None : goal.returns-in-None
returns-in-None c notes h =
    let octets = c.args.self.now.rest.now in
    let none : position is_line_end octets ≡ None = sym c.first_lf.ensures.place ∙ c.in-None.is in
    none_left notes c.requires.named none h

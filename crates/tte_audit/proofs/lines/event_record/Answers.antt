use Rattle.tte_audit.proofs.{ReportText.{no_lf, record_at, text_at}, Telling.no_event_read}
use Rattle.tte_audit.proofs.{Words.{◌+◌, ◌≡◌, BeginsWithRecord, List, None, Note, Some}}
use Rattle.tte_audit.{proofs.Words.{is_line_end, position, refl, rules, subst, sym, ℕ}, specs.Report.HasNoEvent}
use Rattle.std.proofs.lemmas.List.{take_rest}
use Rattle.tte_audit.proofs.lines.event_record.Goals as goal

pub returns-in_err-place : goal.returns-in_err-place
returns-in_err-place c =
    let octets = c.args.octets.now in
    let none : position is_line_end octets ≡ None = search rules in
    let quiet : (note : Note) (left : List ℕ) → BeginsWithRecord c.args.network.now note octets left → HasNoEvent note.body =
    λ note left h. absurd (no_lf c.args.network.now note.number octets c.requires none
    (record { note = note; of_network = h.of_network; in_range = h.in_range; number = refl; rest = left; text = h.text })) in
    rw c.from_residual.ensures quiet

pub returns-in_err-event_line : goal.returns-in_err-event_line
returns-in_err-event_line c =
    let network = c.args.network.now in
    let octets = c.args.octets.now in
    let at : position is_line_end octets ≡ Some c.in_ok-place.place = search rules in
    let quiet : (note : Note) (left : List ℕ) → BeginsWithRecord network note octets left → HasNoEvent note.body =
    λ note left h.
    let text = text_at network note.number octets left c.in_ok-place.place c.requires at
    (record { note = note; of_network = h.of_network; in_range = h.in_range; number = refl; text = h.text }) in
    no_event_read network _ (λ number time line w g. c.event_line.ensures.is number time line w g
    (search rules)) {note = note}
    (record { of_network = h.of_network; in_range = h.in_range; same = text }) in
    rw c.from_residual-in_err-event_line.ensures quiet

pub returns : goal.returns
returns c =
    let octets = c.args.octets.now in
    let place = c.in_ok-place.place in
    let at : position is_line_end octets ≡ Some place = search rules in
    let here = record_at {network = c.args.network.now} octets place at c.in_ok-event_line.ensures.text in
    subst (BeginsWithRecord c.args.network.now _ octets) (sym (take_rest octets (place + 1))) here

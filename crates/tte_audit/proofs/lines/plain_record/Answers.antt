use Rattle.tte_audit.proofs.{ReportText.{no_lf, record_at, text_at}, Sweeping.one_record, Telling.no_plain_read}
use Rattle.tte_audit.proofs.{Words.{◌+◌, ◌∙◌, ◌≡◌, BeginsWithRecord, None, Note, Some, ap}}
use Rattle.tte_audit.{proofs.Words.{List, is_line_end, position, rules, subst, sym, ℕ}, specs.Report.{HasNoEvent, IsNextLine}}
use Rattle.std.proofs.lemmas.List.{take_rest}
use Rattle.tte_audit.proofs.lines.plain_record.Goals as goal

pub returns-then-read-number-clause-next : goal.returns-then-read-number-clause-next
returns-then-read-number-clause-next c =
    let octets = c.args.octets.now in
    let place = c.in_ok-place.place in
    let note = c.in_ok-read.read in
    let found : c.first_lf.result ≡ Some place = search rules in
    let at : position is_line_end octets ≡ Some place = sym c.first_lf.ensures.place ∙ found in
    let here = record_at {network = c.args.network.now} octets place {note = note} at c.in_ok-read.ensures.text in
    record {
      begins = subst (BeginsWithRecord c.args.network.now note octets) (sym (take_rest octets (place + 1))) here;
      numbered = ap (λ (n : Note). n.number) (sym c.read.view_is) ∙ c.if-read-number.true;
    }

pub returns-in_err-place-clause-none : goal.returns-in_err-place-clause-none
returns-in_err-place-clause-none c =
    let network = c.args.network.now in
    let octets = c.args.octets.now in
    let none : position is_line_end octets ≡ None = search rules in
    let no_line : (note : Note) (left : List ℕ) → IsNextLine network c.args.number octets left note → HasNoEvent note.body → ⊥ =
    λ note left h quiet.
    let g = h.begins in
    no_lf network c.args.number octets c.requires none
    (record { note = note; of_network = g.of_network; in_range = g.in_range; number = h.numbered; rest = left; text = g.text }) in
    rw c.from_residual.ensures no_line

pub returns-in_err-read-clause-none : goal.returns-in_err-read-clause-none
returns-in_err-read-clause-none c =
    let network = c.args.network.now in
    let octets = c.args.octets.now in
    let at : position is_line_end octets ≡ Some c.in_ok-place.place = search rules in
    let no_line : (note : Note) (left : List ℕ) → IsNextLine network c.args.number octets left note → HasNoEvent note.body → ⊥ =
    λ note left h quiet.
    let g = h.begins in
    let text = text_at network c.args.number octets left c.in_ok-place.place c.requires at
    (record { note = note; of_network = g.of_network; in_range = g.in_range; number = h.numbered; text = g.text }) in
    no_plain_read network _ (λ number time p t. c.plain_line.ensures.is number time p t (search rules)) {note = note}
    (record { of_network = g.of_network; in_range = g.in_range; same = text }) quiet in
    rw c.from_residual-in_err-read.ensures no_line

pub returns-else-read-number-clause-none : goal.returns-else-read-number-clause-none
returns-else-read-number-clause-none c note left h quiet =
    let network = c.args.network.now in
    let octets = c.args.octets.now in
    let place = c.in_ok-place.place in
    let read = c.in_ok-read.read in
    let at : position is_line_end octets ≡ Some place = search rules in
    let here = record_at {network = network} octets place {note = read} at c.in_ok-read.ensures.text in
    let same = one_record c.requires here h.begins in
    c.if-read-number.false (search rules)

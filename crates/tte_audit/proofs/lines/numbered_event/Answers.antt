use Rattle.tte_audit.proofs.{Sweeping.one_record, Words.{◌∙◌, List, Note, ap, sym, ℕ}}
use Rattle.tte_audit.specs.Report.{HasNoEvent, IsNextLine}
use Rattle.tte_audit.proofs.lines.numbered_event.Goals as goal

pub returns-in_err-left : goal.returns-in_err-left
returns-in_err-left c =
    let quiet : (note : Note) (left : List ℕ) → IsNextLine c.args.network.now c.args.number c.args.octets.now left note → HasNoEvent note.body =
    λ note left h. c.in_err-left.ensures note left h.begins in
    rw c.from_residual.ensures quiet

pub returns-then-read-number : goal.returns-then-read-number
returns-then-read-number c note left h =
    let same = one_record c.requires c.in_ok-left.ensures h.begins in
    absurd (c.if-read-number.true (ap (λ (n : Note). n.number) (c.read.view_is ∙ same) ∙ h.numbered))

pub returns : goal.returns
returns c = record { begins = c.in_ok-left.ensures; numbered = ap (λ (n : Note). n.number) (sym c.read.view_is) ∙ c.if-read-number.false }

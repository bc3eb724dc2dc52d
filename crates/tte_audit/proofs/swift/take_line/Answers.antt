use Rattle.tte_audit.{proofs.{Sweeping.{line_gone, one_record, some_so}, Words.{Note, ap, inl, subst, sym}}}
use Rattle.tte_audit.{specs.Report.{HasNoEvent, IsNextLine}}
use Rattle.tte_audit.proofs.swift.take_line.Goals as goal

pub returns-in-Some : goal.returns-in-Some
returns-in-Some c =
    let network = c.args.network.now in
    let octets = c.args.left.octets.now in
    let taken = c.in-Some.taken in
    let next = subst (λ n. IsNextLine network c.args.number octets taken.left.now n) (sym c.note_in.ensures) c.in-Some.ensures.next in
    let quiet = subst (λ (n : Note). HasNoEvent n.body) (sym c.note_in.ensures) c.in-Some.ensures.quiet in
    let line = c.judge.ensures network c.args.number octets next in
    some_so c.with_places.result _ _ c.with_places.ensures
    (λ left is.
    let swept = line_gone network c.args.number _ _ octets _ left.octets is.0 line in
    let same = one_record c.requires.named swept.1.begins next.begins in
    (swept.0, swept.1, swept.2, inl (subst (λ (n : Note). HasNoEvent n.body) (sym same) quiet, ap (λ b. b.now) is.1)))

use Rattle.{run_law.specs.declared.note.Note.Note, std.proofs.Common.{◌-◌, ◌∙◌, ◌≤◌, List, ap, length, subst, sym, ℕ}, std.specs.Prelude.drop}
use Rattle.tte_reports.{proofs.Reports.{none_read, note_read, place_read}}
use Rattle.tte_reports.{specs.{Places.ArePlaces, Reports.{AreLeft, AreLines}}}
use Rattle.tte_reports.proofs.reading.AuditedReport.record.Goals as goal

pub split_at-requires : goal.split_at-requires
split_at-requires c =
    let some = c.requires.read.some in
    let there = c.in-Some.ensures.lookup in
    let are = subst (λ ps. ArePlaces c.args.network.now c.args.self.now.octets some.0 ps) (sym c.deref.ensures.value)
    (c.requires.read.placed some.0 some.1 some.2) in
    let begins = place_read c.args.network.now c.args.self.now.octets some.0 c.deref.result.now are c.args.number c.if-number-eq0.false c.in-Some.place.now
    there.3.0 there.1 in
    subst (λ xs. c.in-Some.place.now ≤ length xs) (sym c.as_slice.ensures) begins.within

pub next-requires-clause-left : goal.next-requires-clause-left
next-requires-clause-left c =
    let network = c.args.network.now in
    let some = c.requires.read.some in
    let there = c.in-Some.ensures.lookup in
    let are = subst (λ ps. ArePlaces network c.args.self.now.octets some.0 ps) (sym c.deref.ensures.value)
    (c.requires.read.placed some.0 some.1 some.2) in
    let begins = place_read network c.args.self.now.octets some.0 c.deref.result.now are c.args.number c.if-number-eq0.false c.in-Some.place.now
    there.3.0 there.1 in
    let rest = c.split_at.ensures.back ∙ ap (λ (xs : List ℕ). drop c.in-Some.place.now xs) c.as_slice.ensures in
    let left = drop (c.args.number - 1) some.0 in
    (left, subst (λ xs. AreLines network xs left) (sym rest) begins.lines)

pub returns-in-Some : goal.returns-in-Some
returns-in-Some c notes end of =
    let network = c.args.network.now in
    let there = c.in-Some.ensures.lookup in
    let are = subst (λ ps. ArePlaces network c.args.self.now.octets notes ps) (sym c.deref.ensures.value)
    (c.requires.read.placed notes end of) in
    let begins = place_read network c.args.self.now.octets notes c.deref.result.now are c.args.number c.if-number-eq0.false c.in-Some.place.now
    there.3.0 there.1 in
    let rest = c.split_at.ensures.back ∙ ap (λ (xs : List ℕ). drop c.in-Some.place.now xs) c.as_slice.ensures in
    let left = drop (c.args.number - 1) notes in
    note_read network c.args.self.now.octets notes c.deref.result.now are c.args.number c.if-number-eq0.false
    (λ (note : Note) (ns : List Note). AreLeft network c.next.new.self ns) there.3.0 c.next.result
    (c.next.ensures left (subst (λ xs. AreLines network xs left) (sym rest) begins.lines))

pub returns-in-None : goal.returns-in-None
returns-in-None c notes end of =
    let are = subst (λ ps. ArePlaces c.args.network.now c.args.self.now.octets notes ps) (sym c.deref.ensures.value)
    (c.requires.read.placed notes end of) in
    none_read c.args.network.now c.args.self.now.octets notes c.deref.result.now are c.args.number c.if-number-eq0.false c.in-None.ensures.lookup.3

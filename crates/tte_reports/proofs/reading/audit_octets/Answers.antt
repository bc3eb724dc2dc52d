use Rattle.std.proofs.Common.{length, refl, subst}
use Rattle.tte_audit.{proofs.OneAnswer.answer_law, specs.{Answers.IsAudited, Passing.IsIndexOf}}
use Rattle.tte_reports.{proofs.Reports.{audited_of, begun_lines}, specs.{Places.ArePlaces, Reports.AreLines}}
use Rattle.tte_reports.proofs.reading.audit_octets.Goals as goal

pub returns-in-Ok-places_of-clause-judged : goal.returns-in-Ok-places_of-clause-judged
returns-in-Ok-places_of-clause-judged c limit fits =
    let a = subst (λ xs. IsAudited c.args.accepted.now xs c.in-Ok.passed.count) c.as_slice.ensures c.in-Ok.ensures.judged.audited in
    (fits, refl, (a.notes, a.time, record { range = c.audit.ensures.named.in_range; events = a.events; run = a.run }))

pub returns-in-Ok-places_of-clause-read : goal.returns-in-Ok-places_of-clause-read
returns-in-Ok-places_of-clause-read c =
    let network = c.args.accepted.now in
    let octets = c.args.octets in
    let named = c.audit.ensures.named in
    let a = subst (λ xs. IsAudited network xs c.in-Ok.passed.count) c.as_slice.ensures c.in-Ok.ensures.judged.audited in
    let index = subst (λ xs. IsIndexOf network xs c.in-Ok.passed.index) c.as_slice.ensures c.in-Ok.ensures.judged.index in
    record {
      some = (a.notes, a.time, record { range = c.audit.ensures.named.in_range; events = a.events; run = a.run });
      placed = λ notes end r. subst (λ xs. AreLines network xs notes → ArePlaces network xs notes c.in-Ok-places_of.places.items)
          c.as_slice-in-Ok.ensures (c.in-Ok-places_of.ensures network notes named) (begun_lines r.events.text);
      counted = λ notes end r. (answer_law network octets named).one_count c.in-Ok.passed.count (length notes) a
          (audited_of r);
      index = λ notes end r. index notes end r.events;
    }

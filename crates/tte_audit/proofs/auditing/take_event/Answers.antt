use Rattle.tte_audit.{proofs.Words.{IsBodyOf, Note, refl, subst, sym}, specs.Report.IsNextLine}
use Rattle.tte_audit.proofs.auditing.take_event.Goals as goal

pub judge-requires-clause-named : goal.judge-requires-clause-named
judge-requires-clause-named c =
    let own = subst (λ (n : Note). IsBodyOf c.args.network.now n.body) (sym c.into_note.ensures) c.in-Some.ensures.begins.of_network in
    subst (λ n. IsBodyOf n c.into_note.result.body) (sym c.requires.same) own

pub returns-in-Some : goal.returns-in-Some
returns-in-Some c =
    let next = subst (λ n. IsNextLine c.args.network.now c.args.number c.args.octets.now c.in-Some.left.now n) (sym c.into_note.ensures)
    c.in-Some.ensures in
    c.judge.ensures c.args.network.now c.args.number c.args.octets.now next

pub returns-in-None : goal.returns-in-None
returns-in-None c = (
  refl,
  λ h.
      let next : IsNextLine c.args.network.now c.args.number c.args.octets.now h.rest h.note =
      record { begins = record { of_network = h.of_network; in_range = h.in_range; text = h.text }; numbered = h.number } in
      c.requires.event h.note h.rest next (c.in-None.ensures h.note h.rest next),
)

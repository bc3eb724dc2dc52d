use Rattle.tte_audit.{proofs.Words.{IsBodyOf, Note, subst, sym}, specs.Report.IsNextLine}
use Rattle.tte_audit.proofs.auditing.take_line.Goals as goal

pub judge-requires-clause-named : goal.judge-requires-clause-named
judge-requires-clause-named c =
    let own = subst (λ (n : Note). IsBodyOf c.args.network.now n.body) (sym c.note_in.ensures) c.in-Some.ensures.next.begins.of_network in
    subst (λ n. IsBodyOf n c.note_in.new.note.body) (sym c.requires.same) own

pub returns-in-Some : goal.returns-in-Some
returns-in-Some c =
    let next = subst (λ n. IsNextLine c.args.network.now c.args.number c.args.octets.now c.in-Some.taken.left.now n) (sym c.note_in.ensures)
    c.in-Some.ensures.next in
    c.judge.ensures c.args.network.now c.args.number c.args.octets.now next

use Rattle.audit_sweep.{proofs.records_lemmas.wires_lemmas.Wires.row_becomes}
use Rattle.audit_sweep.{specs.records.wires.Entrances.{IsEnteredAs, IsLastTaken}}
use Rattle.{audit_sweep.specs.declared.records.wires.entering.Entered.Entered, device_rules.specs.Answers.arrival_as, std.proofs.Common.subst}
use Rattle.audit_sweep.proofs.records.wires.entering.Entered.becomes.Goals as goal

pub returns-in-ByRow : goal.returns-in-ByRow
returns-in-ByRow c s hs t cause link signal n a x l =
    row_becomes s hs c.args.device t link cause signal c.args.network.now c.args.at.now c.in-ByRow.row c.in-ByRow.length c.args.last
    (arrival_as c.arrival.result) n a (subst (λ e. IsLastTaken hs c.args.device t link cause e c.args.last) c.in-ByRow.is l)
    (subst (λ e. IsEnteredAs s hs c.args.device t link cause signal e) c.in-ByRow.is x) c.arrival.ensures

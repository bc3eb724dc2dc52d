use Rattle.std.proofs.Common.{◌∙◌, sym}
use Rattle.audit_sweep.proofs.records_lemmas.wires_lemmas.Wires.{by_none, by_row}
use Rattle.audit_sweep.proofs.records.wires.entering.entered_as.Goals as goal

pub returns-in-Ok-clause-is : goal.returns-in-Ok-clause-is
returns-in-Ok-clause-is c s hs t cause signal n a w =
    by_row s hs c.args.device t c.args.link cause signal c.args.network.now c.args.at.now c.in-Timed.heading c.in-Ok.row n a (sym c.in-Timed.is ∙ w)
    c.in-Ok.ensures.is

pub returns-in-Err-clause-is : goal.returns-in-Err-clause-is
returns-in-Err-clause-is c s hs t cause signal n a w =
    by_none s hs c.args.device t c.args.link cause signal c.args.network.now c.args.at.now c.in-Timed.heading c.in-Err.reason n a (sym c.in-Timed.is ∙ w)
    c.in-Err.ensures.is

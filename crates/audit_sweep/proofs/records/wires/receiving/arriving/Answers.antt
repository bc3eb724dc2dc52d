use Rattle.audit_sweep.proofs.records_lemmas.wires_lemmas.Wires.{arrives_elsewhere, arrives_here}
use Rattle.std.proofs.Common.{◌∙◌, ◌≡◌, false, sym, true}
use Rattle.audit_sweep.proofs.records.wires.receiving.arriving.Goals as goal

pub returns-then-is_at : goal.returns-then-is_at
returns-then-is_at c befallen h rem shown k =
    arrives_here c.args.device c.args.link c.args.time
    (c.in-Some.ensures befallen h rem shown k).0 (c.is_at.ensures.0 c.if-is_at.true)

pub returns-else-is_at : goal.returns-else-is_at
returns-else-is_at c befallen h rem shown k =
    arrives_elsewhere c.args.device c.args.link c.args.time
    (c.in-Some.ensures befallen h rem shown k).0 (λ at. (let clash : false ≡ true = sym c.if-is_at.false ∙ c.is_at.ensures.1 at in cc))

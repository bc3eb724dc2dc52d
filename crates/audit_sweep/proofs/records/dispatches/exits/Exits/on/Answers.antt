use Rattle.std.proofs.Common.{◌≤◌, length, subst}
use Rattle.audit_sweep.proofs.records_lemmas.dispatches_lemmas.Dispatches.{past_all}
use Rattle.audit_sweep.proofs.records.dispatches.exits.Exits.on.Goals as goal

pub returns-in-None : goal.returns-in-None
returns-in-None c network are =
    past_all network c.args.self.now c.args.link
    (subst (λ xs. length xs ≤ c.args.link.0) c.as_slice.ensures.value c.in-None.ensures.lookup.3) are

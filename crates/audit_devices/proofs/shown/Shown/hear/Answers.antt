use Rattle.audit_devices.proofs.Words.{Summarizes, subst, sym}
use Rattle.audit_devices.proofs.shown.Shown.hear.Goals as goal

pub returns-clause-heard : goal.returns-clause-heard
returns-clause-heard c before kept = c.hear.ensures.heard before (subst (λ kept. Summarizes kept before) (sym c.heard_by-heard.ensures) kept)

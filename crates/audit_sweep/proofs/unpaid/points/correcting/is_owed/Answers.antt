use Rattle.audit_sweep.proofs.unpaid_lemmas.points_lemmas.Telling.{not_alone, not_corrected, not_outnumbered, owed_so}
use Rattle.audit_sweep.proofs.unpaid_lemmas.points_lemmas.{Words.{ap, inl, inr, refl}}
use Rattle.device_rules.specs.Answers.{verdict_as}
use Rattle.audit_sweep.proofs.unpaid.points.correcting.is_owed.Goals as goal

pub returns-in-SyncClique : goal.returns-in-SyncClique
returns-in-SyncClique c = (
  λ told. owed_so c.args.point c.in-Some.point c.in-Some.is (λ e. elim c.in-SyncClique.is [
    | inl is ↦ not_alone _ (ap verdict_as is) e
    | inr (inl is) ↦ not_outnumbered _ (ap verdict_as is) e
    | inr (inr is) ↦ not_corrected _ _ (ap verdict_as is.1) e
  ]),
  λ there. refl,
)

use Rattle.std.proofs.Common.{◌∙◌, Some, ap, sym}
use Rattle.audit_law.proofs.collections_lemmas.Clusters.{emission-at}
use Rattle.audit_law.specs.collections.Kept.{kept_in}
use Rattle.audit_law.proofs.collections.history.CollectionHistory.emission.Goals as goal

pub returns : goal.returns
returns c =
    let h = c.args.self.now in
    ap Some c.emitted.ensures ∙ sym (rw c.in-Some.is
    (emission-at h (kept_in h (Some c.in-Some.row)) c.args.place c.kept_at.result.now c.kept_at.ensures.there))

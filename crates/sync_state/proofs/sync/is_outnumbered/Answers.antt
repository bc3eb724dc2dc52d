use Rattle.std.proofs.Common.{◌∙◌}
use Rattle.sync_state.proofs.VerdictLemmas.{outnumbered}
use Rattle.sync_state.proofs.sync.is_outnumbered.Goals as goal

pub returns : goal.returns
returns c =
    let outside = c.count.ensures ∙ (rw c.outside.ensures.value) in
    outnumbered c.args.heard.now _ _ _ _ c.members_of_best.ensures c.members_of_best-2.ensures c.max-most.ensures outside

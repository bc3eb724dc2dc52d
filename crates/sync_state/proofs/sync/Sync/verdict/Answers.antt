use Rattle.sync_state.proofs.VerdictLemmas.{corrected_small}
use Rattle.sync_state.proofs.sync.Sync.verdict.Goals as goal

pub returns-in-Some-2-clause-small : goal.returns-in-Some-2-clause-small
returns-in-Some-2-clause-small c =
    corrected_small c.args.self.now c.args.heard.now c.in-Some.field-0 c.requires.near_a c.requires.near_b cc

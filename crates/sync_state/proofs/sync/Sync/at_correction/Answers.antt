use Rattle.std.proofs.Common.{ap}
use Rattle.sync_state.{proofs.{CallLemmas.one_more, VerdictLemmas.{small_after, some_there}}, specs.Calls.reached_point}
use Rattle.sync_state.proofs.sync.Sync.at_correction.Goals as goal

pub returns-clause-value : goal.returns-clause-value
returns-clause-value c = c.follow.ensures c.args.heard.now

pub returns-clause-small : goal.returns-clause-small
returns-clause-small c =
    let adjusted = ap (λ s. s.adjustment) (c.follow.ensures c.args.heard.now) in
    small_after c.args.self.now.adjustment _ c.verdict-verdict.result adjusted c.verdict-verdict.ensures.small

pub returns-clause-calls : goal.returns-clause-calls
returns-clause-calls c = λ plan start calls.
    let heard = c.args.heard.now in
    let point = reached_point heard c.verdict-verdict.result in
    let has_point = some_there _ _ c.requires.number in
    one_more plan start calls c.args.self.now _ point (has_point, c.verdict-verdict.ensures.verdict) (c.follow.ensures heard)

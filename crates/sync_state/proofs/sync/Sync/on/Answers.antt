use Rattle.{std.proofs.Common.ap, sync_state.{proofs.CallLemmas.one_more, specs.{Calls.{after, turned_on}}}}
use Rattle.sync_state.proofs.sync.Sync.on.Goals as goal

pub returns-clause-calls : goal.returns-clause-calls
returns-clause-calls c = λ plan start calls.
    let value = ap (λ s. after s turned_on) c.self.view_is in
    one_more plan start calls c.args.self.now _ turned_on c.requires value

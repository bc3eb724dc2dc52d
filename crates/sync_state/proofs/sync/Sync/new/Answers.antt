use Rattle.std.proofs.{Common.{None, [], arith, subst, sym}, lemmas.Grind.common_steps}
use Rattle.sync_state.{proofs.CallLemmas.stands_at_start, specs.{Calls.StandsAfter, Standing.{Standing}}}
use Rattle.sync_state.proofs.sync.Sync.new.Goals as goal

pub returns-clause-calls : goal.returns-clause-calls
returns-clause-calls c =
    let plan = c.args.plan in
    let start = c.args.start in
    let made : Standing = record { plan = plan; state = c.if-is_some.result; adjustment = c.unwrap_or.result; number = 1; integrated = None } in
    subst (StandsAfter plan start []) (sym (grind (arith, common_steps))) (stands_at_start plan start)

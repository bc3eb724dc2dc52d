use Rattle.audit_sweep.proofs.Words.{if◌then◌else◌, ◌∙◌, Bool, ap, scenario_under, state_before, sym}
use Rattle.run_law.specs.{device.States.state_after, scenario.Scenarios.is_turned_on_at}
use Rattle.sync_state.specs.declared.state.State.TheVariants.{Integrating, Joining}
use Rattle.audit_sweep.proofs.hearing.state_at_hearing.Goals as goal

pub returns : goal.returns
returns c befallen hs judged k late same sh =
    let s = scenario_under c.args.network.now befallen in
    let t = c.args.time in
    let d = c.args.device in
    c.state_before.ensures s hs d t (c.is_turned_on_at.ensures c.args.network.now befallen k.events c.requires.there) (c.before_time.ensures s hs k.standings)
    ∙ ap (λ gs. if is_turned_on_at s d t then Integrating else state_after s gs d) (sym same)
    ∙ sym (ap (λ (b : Bool). if b then Joining else state_before s judged d t)
    (sym (c.has_joined_at.ensures s judged d late sh) ∙ c.if-has_joined_at.false))

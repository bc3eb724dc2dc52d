use Rattle.audit_sweep.proofs.unpaid_lemmas.Words.{◌∙◌, scenario_of, sym}
use Rattle.audit_sweep.proofs.unpaid.debtor.Debtor.is_joining.Goals as goal

pub returns : goal.returns
returns c befallen hs known has =
    let s = scenario_of c.args.self.now befallen in
    let on = c.is_turned_on_at-turned_on.ensures c.args.self.now.network.now befallen known.remembers has in
    let state = c.state_before.ensures s hs c.args.device c.args.time on (c.before_time.ensures s hs known.stands) in
    (λ is. sym state ∙ c.is_joining.ensures.0 is, λ is. c.is_joining.ensures.1 (state ∙ is))

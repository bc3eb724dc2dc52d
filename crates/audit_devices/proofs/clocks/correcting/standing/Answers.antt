use Rattle.std.proofs.Common.{◌∙◌, ap, rules, sym}
use Rattle.audit_devices.proofs.clocks_lemmas.Reached.{same_standing}
use Rattle.{run_law.{proofs.runs.Determined.same_units, specs.scenario.Devices.plan_of}, std.{proofs.lemmas.Int.to_z-of_z, specs.Int.w128}}
use Rattle.audit_devices.proofs.clocks.correcting.standing.Goals as goal

pub returns-clause-is : goal.returns-clause-is
returns-clause-is c s hs network device t stands number =
    same_standing _ _ (ap (λ n. plan_of n device) (sym stands.of_network))
    (c.state_before.ensures s hs device t stands.befalls.turned_on stands.shows)
    (same_units _ _ (to_z-of_z w128 c.adjustment.result (search rules) ∙ c.adjustment.ensures.value ∙ stands.shows.adjustment)) number
    (c.integrated.ensures ∙ stands.shows.integrated)

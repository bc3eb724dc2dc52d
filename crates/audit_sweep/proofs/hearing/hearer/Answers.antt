use Rattle.std.{proofs.{Common.rules, lemmas.Int.to_z-of_z}, specs.Int.w128}
use Rattle.audit_devices.proofs.Kept.{hearing_adjustment}
use Rattle.audit_sweep.proofs.{Lacks.{none_later, only_joined}, Words.{◌∙◌, refl, scenario_under, subst, sym}}
use Rattle.device_rules.specs.Widths.{IsWide}
use Rattle.audit_sweep.proofs.hearing.hearer.Goals as goal

pub returns-clause-wide : goal.returns-clause-wide
returns-clause-wide c =
    subst IsWide (sym (to_z-of_z w128 c.adjustment.result (search rules)))
    (record { least = c.adjustment.ensures.least; most = c.adjustment.ensures.most })

pub returns-clause-is : goal.returns-clause-is
returns-clause-is c befallen hs judged k b same sh =
    let s = scenario_under c.args.network.now befallen in
    let late = none_later b in
    record {
      network = refl;
      state = c.state_at_hearing.ensures befallen hs judged k late same sh;
      adjustment = to_z-of_z w128 c.adjustment.result (search rules) ∙ c.adjustment.ensures.value
          ∙ hearing_adjustment s judged c.args.device c.args.shown.now c.args.time late (only_joined c.args.device b)
          sh;
    }

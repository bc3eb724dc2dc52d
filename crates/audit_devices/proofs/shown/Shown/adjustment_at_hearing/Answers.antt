use Rattle.std.{proofs.Common.{FitsSigned, to_z-of_z}, specs.Int.w128}
use Rattle.audit_devices.proofs.{Kept.hearing_adjustment, Words.{◌∙◌, rules}}
use Rattle.audit_devices.proofs.shown.Shown.adjustment_at_hearing.Goals as goal

pub returns : goal.returns
returns c s hs device t late only sh =
    let fits : FitsSigned w128 c.adjustment.result = search rules in
    to_z-of_z fits ∙ c.adjustment.ensures.value ∙ hearing_adjustment s hs device c.args.self.now t late only sh

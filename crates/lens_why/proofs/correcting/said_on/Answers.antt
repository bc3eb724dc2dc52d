use Rattle.{lens_why.specs.Corrections.said_by, run_law.specs.records.Happenings.happenings, sync_state.specs.declared.membership.frame.HeardFrame.HeardFrame}
use Rattle.{std.{proofs.Common.{◌∙◌, Option, ap, sym}, specs.Prelude.option_and_then}, tte_audit.specs.Report.scenario_of}
use Rattle.lens_why.proofs.correcting.said_on.Goals as goal

pub returns-in-Some : goal.returns-in-Some
returns-in-Some c ns end h of there =
    let network = c.args.network.now in
    let k = c.args.correction in
    c.said_by.ensures ns end h of there
    ∙ sym (ap (λ (o : Option HeardFrame). option_and_then
    (said_by (scenario_of network ns) (happenings network ns) h k.device k.cycle k.adjustment c.args.channel) o) c.in-Some.is)

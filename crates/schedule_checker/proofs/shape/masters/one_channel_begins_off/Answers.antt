use Rattle.net_plan.specs.Rules.{HasOffSwitch}
use Rattle.schedule_checker.proofs.ShapeRules.{one_channel}
use Rattle.schedule_checker.proofs.shape.masters.one_channel_begins_off.Goals as goal

pub returns-else-not-has_off_switch : goal.returns-else-not-has_off_switch
returns-else-not-has_off_switch c =
    let n = c.args.network.now in
    let first = c.has_off_switch.ensures.0 c.if-not-has_off_switch.false in
    one_channel (HasOffSwitch n) c.has_off_switch-else-not-has_off_switch.result first c.has_off_switch-else-not-has_off_switch.ensures

use Rattle.lens_plan.proofs.Plans.{given_more}
use Rattle.lens_plan.proofs.text.ids.push_given_ids.Goals as goal

pub messages-preserved : goal.messages-preserved
messages-preserved c = record {
  ids =
      given_more c.args.ids.now.items c.messages.ids.items c.args.messages.now c.messages.message-index c.message-item.result c.messages-test.true
      c.messages.invariant.ids c.message-item.is c.in-Ok.ensures.ids;
  small = c.in-Ok.ensures.small;
}

use Rattle.lens_plan.proofs.Plans.{ids_next}
use Rattle.lens_plan.proofs.text.ids.ids_of.Goals as goal

pub messages-preserved : goal.messages-preserved
messages-preserved c =
    ids_next c.push-in-messages.new.numbers.items c.push.new.numbers.items c.index-messages-place.result
    c.id_of-id.result c.messages.invariant c.messages-test.true
    c.index-messages-place.is c.as_slice.ensures.value c.id_of-id.ensures.is c.id_of-id.ensures.bound c.in-Ok.ensures c.in-Ok-push.ensures

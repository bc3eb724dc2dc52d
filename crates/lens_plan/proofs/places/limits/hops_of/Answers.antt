use Rattle.lens_plan.{proofs.Attempts.hops_next, specs.{messages.Message.Message, places.Limits.{AreWays, once}}}
use Rattle.std.proofs.Common.{◌++◌, ◌∙◌, ap, subst}
use Rattle.lens_plan.proofs.places.limits.hops_of.Goals as goal

pub messages-preserved : goal.messages-preserved
messages-preserved c =
    let network = c.args.network.now in
    let ways = c.in-Ok.ways.items in
    hops_next network c.args.messages.now c.messages.message-index c.message-item.result c.messages.hops.items c.push_once.new.hops.items ways
    c.messages-test.true c.messages.invariant
    (subst (λ (m : Message). AreWays network m.sender m.receivers ways) c.message-item.is c.in-Ok.ensures)
    (c.in-Ok-push_once.ensures ∙ ap (λ ws. c.messages.hops.items ++ once network ws) c.as_slice.ensures.value)

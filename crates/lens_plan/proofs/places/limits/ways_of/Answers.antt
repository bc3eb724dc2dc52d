use Rattle.lens_plan.{proofs.Attempts.ways_next, specs.{messages.Message.Message, places.Ways.IsWay}}
use Rattle.std.proofs.Common.{ap, get_or, subst}
use Rattle.tte_units.specs.declared.frames.channel.Channel.TheVariants.{A, B}
use Rattle.lens_plan.proofs.places.limits.ways_of.Goals as goal

pub receivers-preserved : goal.receivers-preserved
receivers-preserved c =
    let network = c.args.network.now in
    let receiver = get_or c.receivers-receiver-items.result.now c.receivers.receiver-index (record { 0 = 0 }) in
    let first = c.in-Ok.ensures.way in
    let second = c.in-Ok-push_way.ensures.way in
    let sender = ap (λ (m : Message). m.sender) c.message.view_is in
    ways_next c.receivers-receiver-items.result.now c.receivers.receiver-index (record { 0 = 0 }) c.receivers.hops.items
    c.push_way.new.hops.items c.push_way-in-receivers.new.hops.items c.receivers-test.true c.receivers.invariant
    (subst (λ s. IsWay network s receiver A first.0) sender first.1) first.2
    (subst (λ s. IsWay network s receiver B second.0) sender second.1) second.2

use Rattle.compression.{proofs.Collectors.{IsSound-opened, length-push, room_to_open}, specs.Clusters.Point}
use Rattle.{std.proofs.Common.{◌∙◌, arith}}
use Rattle.compression.proofs.collector.Collector.open.Goals as goal

pub push-requires : goal.push-requires
push-requires c =
    search (arith, room_to_open)

pub invariant_of-self : goal.invariant_of-self
invariant_of-self c =
    let p : Point = record { reading = c.args.reading.0; master = c.args.master; cycle = c.args.cycle } in
    let order = rw (← c.self.view_is) at c.requires.order in
    let none = rw (← c.self.view_is) at c.requires.none in
    let room = room_to_open c.args.reading.0 c.self.invariant order (rw (← c.self.view_is) at c.requires.due) none in
    let waiting = c.push.ensures ∙ (rw c.open-collection.ensures)
    in
    rw waiting (IsSound-opened p c.self.invariant order c.requires.high none room)

pub returns-clause-few : goal.returns-clause-few
returns-clause-few c =
    search (arith, room_to_open, length-push)

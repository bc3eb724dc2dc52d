use Rattle.device_rules.proofs.Takings.{no_link, none_below, other_below, read_at}
use Rattle.device_rules.proofs.arriving.is_of_other_member.Goals as goal

pub returns-then-found-device : goal.returns-then-found-device
returns-then-found-device c =
    let found = c.in-Some.ensures.lookup in
    other_below c.args.network.now c.args.device c.args.link c.args.members c.in-Some.found.now c.is_of_other_end.result
    (read_at c.as_slice.result.now c.args.network.now.link c.args.link.0 c.in-Some.found.now c.as_slice.ensures found.3.0 found.1)
    c.if-found-device.true c.is_of_other_end.ensures

pub returns-else-found-device : goal.returns-else-found-device
returns-else-found-device c =
    let found = c.in-Some.ensures.lookup in
    none_below c.args.network.now c.args.device c.args.link c.args.members c.in-Some.found.now
    (read_at c.as_slice.result.now c.args.network.now.link c.args.link.0 c.in-Some.found.now c.as_slice.ensures found.3.0 found.1)
    c.if-found-device.false

pub returns-in-None : goal.returns-in-None
returns-in-None c = no_link c.args.network.now c.args.device c.args.link c.args.members c.as_slice.result.now c.as_slice.ensures c.in-None.ensures.lookup.3

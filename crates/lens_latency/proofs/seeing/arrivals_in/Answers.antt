use Rattle.std.proofs.Common.{[]}
use Rattle.lens_latency.proofs.Departures.{followed_none}
use Rattle.lens_latency.proofs.seeing.arrivals_in.Goals as goal

pub take_records-requires-clause-none : goal.take_records-requires-clause-none
take_records-requires-clause-none c notes end r =
    followed_none c.args.network.now notes [] c.new.result.items c.new-2.result.items c.new.ensures.items c.new-2.ensures.items

pub returns : goal.returns
returns c notes end r = (c.in_ok-take_records.ensures notes end r).told

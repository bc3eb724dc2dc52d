use Rattle.{std.proofs.Common.ap, world_state.specs.Leaving.{departed_so, port_entry}}
use Rattle.world_state.proofs.leaving.departed.Goals as goal

pub returns : goal.returns
returns c = ap (departed_so (port_entry c.args.place c.args.frame c.args.given)) (c.fate_of-fate.ensures c.args.place)

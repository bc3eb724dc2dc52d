-- What befell a network, where something may come of it.
use Rattle.net_plan.specs.declared.event.What.TheVariants as events
use Rattle.{net_plan.specs.declared.event.What.What, world_state.specs.declared.packets.Happening.Happening}
use Rattle.world_state.specs.declared.packets.Happening.TheVariants as kept

-- what befell the network
abbrev pub what_of : Happening → What
what_of (kept.On device) = events.On device
what_of (kept.Send link octets) = events.Send link octets
what_of kept.End = events.End

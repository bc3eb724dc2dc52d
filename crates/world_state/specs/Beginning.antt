-- How the ways of links are at first.
use Rattle.std.specs.Prelude.{false}
use Rattle.{net_plan.specs.declared.tables.Link.Link, world_state.specs.declared.contents.WayState.WayState}
use Rattle.tte_units.specs.Amount.{amount}

-- a way as it is at first
abbrev pub first_way : Link → WayState
first_way link = record { delay = amount link.wire; hold = 0; cut = false }

use Rattle.std.proofs.Common.{sym}
use Rattle.fault_hypothesis.proofs.Keeping.{link_in_range}
use Rattle.fault_hypothesis.proofs.conditions.sets_other_wire.Goals as goal

pub is_other_wire-requires : goal.is_other_wire-requires
is_other_wire-requires c = link_in_range c.in-Wire.link c.in-Some.found.now c.requires (sym c.in-Some.ensures)

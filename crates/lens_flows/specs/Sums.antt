-- The numbers of a flow that are summed.
use Rattle.std.specs.Prelude.{ℕ}
use Rattle.lens_flows.specs.declared.{counts.told.FlowTold.FlowTold, sums.Summed.Summed}
use Rattle.lens_flows.specs.declared.sums.Summed.TheVariants.{ByA, ByB, Certain, Delivered, Owed}

-- what a flow has of it
abbrev pub number_of : Summed → FlowTold → ℕ
number_of Owed told = told.fates.owed
number_of Delivered told = told.deliveries.total
number_of ByA told = told.deliveries.by_a
number_of ByB told = told.deliveries.by_b
number_of Certain told = told.certain

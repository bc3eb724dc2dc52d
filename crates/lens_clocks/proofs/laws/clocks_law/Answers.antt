use Rattle.lens_clocks.proofs.{Apart.spreads_are_within, Extremes.ends_are_of_clocks, InStep.clocks_are_in_step, Passing.cycles_have_passed}
use Rattle.lens_clocks.proofs.laws.clocks_law.Goals as goal

pub returns-clause-cycles : goal.returns-clause-cycles
returns-clause-cycles c = cycles_have_passed

pub returns-clause-clocks : goal.returns-clause-clocks
returns-clause-clocks c = clocks_are_in_step

pub returns-clause-ends : goal.returns-clause-ends
returns-clause-ends c = ends_are_of_clocks

pub returns-clause-spreads : goal.returns-clause-spreads
returns-clause-spreads c = spreads_are_within

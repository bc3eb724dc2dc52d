use Rattle.precision_law.proofs.law.Whole.{ends_come_in, ends_come_in_soon}
use Rattle.precision_law.proofs.laws.end_systems_come_in.Goals as goal

pub returns : goal.returns
returns c = record { soon = ends_come_in_soon; in_three_cycles = ends_come_in }

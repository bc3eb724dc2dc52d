use Rattle.compression.proofs.Middles.{middle_among_others, middle_from_first_to_last}
use Rattle.compression.proofs.laws.middle_law.Goals as goal

pub returns-clause-among : goal.returns-clause-among
returns-clause-among c = middle_among_others

pub returns-clause-within : goal.returns-clause-within
returns-clause-within c = middle_from_first_to_last

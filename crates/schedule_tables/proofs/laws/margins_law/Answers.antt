use Rattle.schedule_tables.proofs.Margins.{margins}
use Rattle.schedule_tables.proofs.laws.margins_law.Goals as goal

pub returns : goal.returns
returns c = margins c.rules_give_trees.ensures

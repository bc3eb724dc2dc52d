use Rattle.world_law.proofs.steps.laws.acts_add_up.Goals as goal
use Rattle.world_law.proofs.steps_lemmas.growing.Repeating.{acts_add_up, no_act_yet}

pub returns-clause-first : goal.returns-clause-first
returns-clause-first g c = no_act_yet g.M.Machine.stands

pub returns-clause-more : goal.returns-clause-more
returns-clause-more g c = acts_add_up g.M.Machine.stands

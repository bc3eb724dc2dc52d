use Rattle.lens_slack.proofs.least_lemmas.Leasts.{has_room, none_less, rules_kept, times_in_range}
use Rattle.lens_slack.proofs.least.laws.least_law.Goals as goal

pub returns-clause-keep : goal.returns-clause-keep
returns-clause-keep c = record { rules = rules_kept; range = times_in_range }

pub returns-clause-least : goal.returns-clause-least
returns-clause-least c = none_less

pub returns-clause-room : goal.returns-clause-room
returns-clause-room c = has_room

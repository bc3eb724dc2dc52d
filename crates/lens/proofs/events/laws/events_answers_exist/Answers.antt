use Rattle.lens.proofs.events_lemmas.StormEvents.{events_answers_exist}
use Rattle.lens.proofs.events.laws.events_answers_exist.Goals as goal

pub returns : goal.returns
returns c = events_answers_exist

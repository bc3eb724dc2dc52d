use Rattle.tte_traces.proofs.storms_lemmas.Drawn.{storm_answers_exist}
use Rattle.tte_traces.proofs.storms.laws.storm_answers_exist.Goals as goal

pub returns : goal.returns
returns c = storm_answers_exist

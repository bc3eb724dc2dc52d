use Rattle.tte_observers.proofs.Existing.{observers_answer}
use Rattle.tte_observers.proofs.laws.observers_answer.Goals as goal

pub returns : goal.returns
returns c = observers_answer

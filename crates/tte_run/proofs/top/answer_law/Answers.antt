use Rattle.tte_run.proofs.Answers.{one_answer}
use Rattle.tte_run.proofs.top.answer_law.Goals as goal

pub returns : goal.returns
returns c = one_answer c.beta_is_unique.ensures c.refusal_is_one.ensures

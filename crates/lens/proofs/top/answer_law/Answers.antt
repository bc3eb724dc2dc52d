use Rattle.lens.proofs.FormLemmas.{one_answer}
use Rattle.lens.proofs.top.answer_law.Goals as goal

pub returns : goal.returns
returns c = one_answer c.refusal_is_one.ensures

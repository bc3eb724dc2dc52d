use Rattle.tte_audit.proofs.{Telling.{reason_back, reason_found}, Words.{◌∙◌, sym}}
use Rattle.tte_audit.proofs.reasons.one_word_reason.Goals as goal

pub returns-clause-is : goal.returns-clause-is
returns-clause-is c r e none = let h = sym none ∙ c.of_one_word.ensures ∙ reason_back r c.args.word.now e in absurd (cc h)

pub returns-clause-text : goal.returns-clause-text
returns-clause-text c = reason_found c.args.word.now c.of_one_word.result c.of_one_word.ensures

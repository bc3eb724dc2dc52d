use Rattle.tte_audit.{proofs.{Telling.{kind_back, kind_found}, Words.{◌∙◌, ap}}, specs.Spellings.kind_spelled}
use Rattle.tte_audit.proofs.kind.kind_of_word.Goals as goal

pub returns-clause-back : goal.returns-clause-back
returns-clause-back c x e = c.spelled.ensures ∙ ap kind_spelled e ∙ kind_back x

pub returns-clause-exact : goal.returns-clause-exact
returns-clause-exact c = kind_found c.args.word.now c.spelled.result c.spelled.ensures

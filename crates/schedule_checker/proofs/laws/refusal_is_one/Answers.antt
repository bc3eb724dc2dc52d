use Rattle.schedule_checker.proofs.ShapeRules.{refusal_is_one}
use Rattle.schedule_checker.proofs.laws.refusal_is_one.Goals as goal

pub returns : goal.returns
returns c = refusal_is_one

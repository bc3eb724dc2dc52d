use Rattle.{lens_plan.specs.places.Scoring.score_of, std.proofs.Common.{◌≡◌, take}}
use Rattle.lens_plan.proofs.places.scoring.score_of.Given as goal

abbrev pub invariant-rows : goal.invariant-rows
invariant-rows l = l.score ≡ score_of l.trial (take l.row-index l.placed)

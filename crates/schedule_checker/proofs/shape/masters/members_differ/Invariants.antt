use Rattle.std.proofs.Common.{◌≢◌}
use Rattle.net_plan.specs.Places.{is_master}
use Rattle.schedule_checker.proofs.Elements.{PairsBelow}
use Rattle.schedule_checker.proofs.shape.masters.members_differ.Given as goal

-- the masters so far have different members
abbrev pub invariant-loop-place : goal.invariant-loop-place
invariant-loop-place l = PairsBelow (λ d. is_master d.role) (λ d e. d.member ≢ e.member) l.devices l.place

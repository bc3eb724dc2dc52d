use Rattle.schedule_checker.proofs.Elements.{HasPlaces}
use Rattle.schedule_checker.proofs.groups.groups_of.Given as goal

abbrev pub invariant-loop-place : goal.invariant-loop-place
invariant-loop-place l =
    HasPlaces (λ e. e.row.vl.0) l.entries l.place l.by_vl
    × HasPlaces (λ e. e.row.link.0) l.entries l.place l.by_link

use Rattle.std.proofs.Common.{length}
use Rattle.tte_reports.proofs.Reports.{IsFoundSoFar}
use Rattle.tte_reports.proofs.places.places_of.Given as goal

-- the lines so far were found
abbrev pub invariant-lines : goal.invariant-lines
invariant-lines l = IsFoundSoFar l.octets l.rest l.places.items

abbrev pub decreases-lines : goal.decreases-lines
decreases-lines l = length l.rest

use Rattle.std.specs.Prelude.{◌+ℤ◌, ◌-ℤ◌, ◌≡◌}
use Rattle.{sync_state.specs.{Standing.Standing, Verdicts.HasVerdict}, tte_units.specs.declared.units.Units.Units}
use Rattle.sync_state.specs.{declared.answers.Verdict.{TheVariants.Corrected, Verdict}, membership.Summary.Summary}

-- a correction point comes to one thing
abbrev pub VerdictIsOne : Type 0
VerdictIsOne = (s : Standing) (heard : Summary) (v w : Verdict) → HasVerdict s heard v → HasVerdict s heard w → v ≡ w

-- from any other adjustment the same frames would correct to the same adjustment
abbrev pub CorrectedByPoints : Type 0
CorrectedByPoints =
    (s : Standing) (heard : Summary) (by other : Units) → HasVerdict s heard (Corrected by)
    → HasVerdict (record s { adjustment = other }) heard
    (Corrected (record { 0 = (s.adjustment.0 +ℤ by.0) -ℤ other.0 }))

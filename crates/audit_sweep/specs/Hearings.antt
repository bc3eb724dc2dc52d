-- How devices hear frames.
use Rattle.std.specs.Prelude.{◌<◌, ◌∷◌, List, MatchOption, Option, ℕ}
use Rattle.run_law.specs.{control.Permanence.BecomesPermanent, declared.steps.Ripe.Ripe, records.Happenings.Happening}
use Rattle.run_law.specs.{records.{Order.AllBefore, Ranks.place_of}, scenario.Scenarios.Scenario}
use Rattle.tte_units.specs.declared.units.Units.{Units}
use Rattle.audit_sweep.specs.declared.{hearing.PermanentAs.PermanentAs, passage.Passage.Passage}

-- the records are before a place of the time that is before corrections
pub record IsHeardBefore (t : ℕ) (judged : List Happening) : Type 0 where
  pub rank : ℕ
  pub rest : List ℕ
  pub low : rank < 6
  pub before : AllBefore place_of judged (t ∷ rank ∷ rest)

-- this becomes of the frame of the other record that is permanent so, or none is
abbrev pub IsRipenedOrNone : Scenario → List Happening → Passage → Option PermanentAs → Type 0
IsRipenedOrNone s hs passage result =
    MatchOption result
    ((point : Units) (is : Ripe)
    → BecomesPermanent s hs passage.device passage.time passage.link passage.cause point is → ⊥)
    (λ r. BecomesPermanent s hs passage.device passage.time passage.link passage.cause r.point r.is)

-- The best phase of a message.
use Rattle.std.specs.Prelude.{◌<◌, ◌≡◌, ◌≤◌, ◌⊎◌, None, Option, Some, ℕ}
use Rattle.lens_plan.specs.declared.places.{best.Attempt.Attempt, placing.Trial.Trial}
use Rattle.lens_plan.specs.places.{Placing.IsOrdered, Scoring.score_of, Trying.AreTried}
use Rattle.std.specs.List.{All}

-- the same trial in a phase
abbrev pub in_phase : Trial → ℕ → Trial
in_phase trial phase = record {
  network = trial.network;
  message = trial.message;
  phase = phase;
  gamma = trial.gamma;
  tolerance = trial.tolerance;
  rows = trial.rows;
}

-- the attempt is that of the phase: its rows, and how well they fit
pub record IsAttempt (trial : Trial) (phase : ℕ) (a : Attempt) : Type 0 where
  pub phase_is : a.phase ≡ phase
  pub rows : AreTried (in_phase trial phase) trial.message.now.receivers a.placed.items
  pub ordered : All IsOrdered a.placed.items
  pub score : a.score ≡ score_of (in_phase trial phase) a.placed.items

-- less is short, or as much and the last window of a receiver ends earlier
abbrev pub IsBetter : Attempt → Attempt → Type 0
IsBetter a b =
    (a.score.short < b.score.short) ⊎ ((a.score.short ≡ b.score.short) × (a.score.latest < b.score.latest))

-- the one is better, or the other is not and its phase is no earlier
abbrev pub ComesFirst : Attempt → Attempt → Type 0
ComesFirst a b = IsBetter a b ⊎ (¬ IsBetter b a × (a.phase ≤ b.phase))

-- the best of the phases below this one, and the first of equals
pub record IsBestBelow (trial : Trial) (phases : ℕ) (a : Attempt) : Type 0 where
  pub within : a.phase < phases
  pub own : IsAttempt trial a.phase a
  pub best : (phase : ℕ) → phase < phases → (b : Attempt) × IsAttempt trial phase b × ComesFirst a b

-- in the phase that is given, or in the best of all
abbrev pub IsBestBy : Trial → Option ℕ → Attempt → Type 0
IsBestBy trial None a = IsBestBelow trial trial.message.now.period a
IsBestBy trial (Some phase) a = IsAttempt trial phase a

-- in the phase that the message gives, or in the best of all
abbrev pub IsBest : Trial → Attempt → Type 0
IsBest trial a = IsBestBy trial trial.message.now.phase a

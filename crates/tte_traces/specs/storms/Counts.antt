-- What was counted and seen of the records of a run.
use Rattle.std.specs.Prelude.{◌++◌, ◌<◌, ◌∷◌, ◌≡◌, Bool, List, None, Option, Some, [], false, true, ℕ}
use Rattle.{net_plan.specs.declared.event.Event.Event, run_law.specs.{declared.note.Note.Note, records.Order.IsIn}}
use Rattle.{net_plan.specs.declared.network.Network.Network, tte_traces.specs.storms.summary.Counting.counts_of}
use Rattle.run_law.specs.{declared.note.NoteBody.NoteBody, records.Happenings.{Happening, happenings, time_of}}
use Rattle.tte_traces.specs.{declared.storms.counting.Seen.Seen, storms.{Answer.IsWidest, summary.Spread.IsCorrection}}
use Rattle.{tte_units.specs.Amount.amount, world_drive.specs.Observing.Told}
use Rattle.{tte_units.specs.declared.units.Units.Units, world_drive.specs.exact.Worlds.{ExactWorld, StandsExact}}
use Rattle.run_law.specs.declared.note.NoteBody.TheVariants as kinds

-- does the record say that a clock is corrected?
abbrev pub corrects : NoteBody → Bool
corrects (kinds.Corrected device cycle by adjustment) = true
corrects other = false

-- no further record of the run is of the time of a correction
abbrev pub ArePastCorrections : Network → List Event → List Note → Type 0
ArePastCorrections network events notes =
    (world : ExactWorld) (note : Note) → StandsExact network world events (notes ++ note ∷ [])
    → (h : Happening) → IsIn h (happenings network notes) → IsCorrection h → time_of h < amount note.time

-- the last of the records are of the time, a correction is one of them, and the spread is that of those before
pub record IsOpenAt (network : Network) (events : List Event) (notes : List Note) (t : ℕ) (spread : Units) : Type
    0 where
  pub front : List Note
  pub tail : List Happening
  pub is : happenings network notes ≡ happenings network front ++ tail
  pub of_now : (h : Happening) → IsIn h tail → time_of h ≡ t
  pub one : Happening
  pub there : IsIn one tail
  pub correction : IsCorrection one
  pub widest : IsWidest network events front spread
  pub past : (h : Happening) → IsIn h (happenings network front) → IsCorrection h → time_of h < t

-- the spread is that of the corrections so far, but for those of the instant that is underway
abbrev pub IsSpreadSoFar : Network → List Event → List Note → Option ℕ → Units → Type 0
IsSpreadSoFar network events notes None spread = IsWidest network events notes spread
    × ArePastCorrections network events notes
IsSpreadSoFar network events notes (Some t) spread = IsOpenAt network events notes t spread

-- the records are counted, the spread is that of their corrections, and nothing was put
pub record IsSeen (network : Network) (events : List Event) (notes : List Note) (instant : Option ℕ) (old put : Told)
    (seen : Seen) : Type 0 where
  pub tallied : seen.tally ≡ counts_of notes
  pub spread_is : IsSpreadSoFar network events notes instant (record { 0 = seen.spread })
  pub unput : put ≡ old

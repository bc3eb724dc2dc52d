-- Rows of a message that keep the rules behind others, wherever they are; and that the best ones are not later.
use Rattle.std.specs.Prelude.{◌++◌, ◌+◌, ◌<◌, ◌∷◌, ◌≡◌, ◌≤◌, ◌⊎◌, List, None, Option, Some, [], ℕ}
use Rattle.lens_plan.specs.declared.places.{best.Attempt.Attempt, placing.{Placed.Placed, Trial.Trial}, ways.Hop.Hop}
use Rattle.lens_plan.specs.places.{Best.{IsBest, in_phase}, Offsets.StandsClear, Placing.{end_of, slot_of}}
use Rattle.lens_plan.specs.places.Scoring.{score_of}
use Rattle.lens_plan.specs.{places.{Trying.start_of, Ways.IsWay}}
use Rattle.net_plan.specs.{Bounds.gamma_of, Paths.IsTree, declared.ids.DeviceId.DeviceId}
use Rattle.tte_units.specs.declared.frames.channel.Channel.{Channel, TheVariants.{A, B}}

-- the row has no lesser offset than this one, and hits none of the rows
pub record IsSpacedAt (trial : Trial) (from : ℕ) (hop : Hop) (p : Placed) : Type 0 where
  pub is : p.hop ≡ hop
  pub not_before : from ≤ p.offset
  pub clear : StandsClear (gamma_of trial.network.now) (slot_of trial hop) p.offset trial.rows.now
  pub end : p.end ≡ end_of trial hop p.offset

-- each of these rows comes behind the window of the one before, the first no earlier than this
abbrev pub IsSpacedWay : Trial → ℕ → List Hop → List Placed → Type 0
IsSpacedWay trial from [] ps = ps ≡ []
IsSpacedWay trial from (hop ∷ hops) ps =
    (p : Placed) × (others : List Placed) × IsSpacedAt trial from hop p × IsSpacedWay trial (p.end + 1) hops others
    × (ps ≡ p ∷ others)

-- so do the rows of the way to the receiver by the channel
pub record IsSpacedTo (trial : Trial) (channel : Channel) (receiver : DeviceId) (ps : List Placed) : Type 0 where
  pub hops : List Hop
  pub way : IsWay trial.network.now trial.message.now.sender receiver channel hops
  pub rows : IsSpacedWay trial (start_of trial) hops ps

-- and those of the ways to these receivers, by channel a and channel b each
abbrev pub AreSpaced : Trial → List DeviceId → List Placed → Type 0
AreSpaced trial [] ps = ps ≡ []
AreSpaced trial (receiver ∷ receivers) ps =
    (a b others : List Placed) × IsSpacedTo trial A receiver a × IsSpacedTo trial B receiver b
    × AreSpaced trial receivers others × (ps ≡ a ++ (b ++ others))

-- the phase is the one that is given, or any below the period
abbrev pub IsPhaseBy : ℕ → Option ℕ → ℕ → Type 0
IsPhaseBy period None phase = phase < period
IsPhaseBy period (Some given) phase = phase ≡ given

-- the attempt is short by no more than these rows in the phase, and if by as much, its last window of a receiver ends
-- no later
abbrev pub IsNoLater : Trial → ℕ → List Placed → Attempt → Type 0
IsNoLater trial phase ps a =
    let score = score_of (in_phase trial phase) ps in
    (a.score.short < score.short) ⊎ ((a.score.short ≡ score.short) × (a.score.latest ≤ score.latest))

-- no rows that keep the rules, in no phase, are better than the best attempt: where any end by their limits, so do its
-- rows, and its last window of a receiver ends no later
abbrev pub BestIsEarliest : Type 0
BestIsEarliest =
    (trial : Trial) (a : Attempt) (phase : ℕ) (ps : List Placed) → IsTree trial.network.now → IsBest trial a
    → IsPhaseBy trial.message.now.period trial.message.now.phase phase
    → AreSpaced (in_phase trial phase) trial.message.now.receivers ps → IsNoLater trial phase ps a

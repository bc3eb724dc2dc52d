-- How well the rows of a message fit the cycle and what is asked for.
use Rattle.std.specs.{List.fold, Option.{option_map_or, unwrap_or}}
use Rattle.std.specs.Prelude.{◌&&◌, ◌*◌, ◌-◌, Bool, List, false, if◌then◌else◌}
use Rattle.std.specs.Prelude.{max, min, true, ℕ}
use Rattle.lens_plan.specs.declared.places.{placing.{Placed.Placed, Trial.Trial}, scoring.Score.Score, ways.Hop.Hop}
use Rattle.{lens_plan.specs.messages.Values.is_end, net_plan.specs.{Places.link_at, declared.network.Network.Network}}
use Rattle.{net_plan.specs.declared.tables.Way.{Way, TheVariants.{Down, Up}}, tte_units.specs.Amount.amount}

-- is the way that from the parent to the child?
abbrev pub is_down : Way → Bool
is_down Up = false
is_down Down = true

-- does the row enter an end system?
abbrev pub is_last : Network → Hop → Bool
is_last network hop = is_down hop.way && option_map_or (λ l. is_end network l.child) (link_at network hop.link) false

-- where windows of the schedule may end, with room for the precision
abbrev pub schedule_end : Network → ℕ
schedule_end network = amount network.cycle - 4 * amount network.precision

-- where the window of the row is to end at the latest
abbrev pub limit_of : Trial → Hop → ℕ
limit_of trial hop =
    let end = schedule_end trial.network.now in
    if is_last trial.network.now hop then min (unwrap_or trial.message.now.by end) end else end

-- the score with one more row
abbrev pub with_row : Trial → Score → Placed → Score
with_row trial score p = record {
  short = max score.short (p.end - limit_of trial p.hop);
  latest = if is_last trial.network.now p.hop then max score.latest p.end else score.latest;
  room = min score.room (limit_of trial p.hop - p.end);
}

-- the score of no rows
abbrev pub no_score : Trial → Score
no_score trial = record { short = 0; latest = 0; room = schedule_end trial.network.now }

-- by how much a row ends behind its limit at most, when the last window of a receiver ends, and the least room that a
-- row has
abbrev pub score_of : Trial → List Placed → Score
score_of trial ps = fold (with_row trial) (no_score trial) ps

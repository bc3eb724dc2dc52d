-- How the rows of a port, and those of a switch, follow one another.
use Rattle.std.specs.Prelude.{◌<◌, ◌≡◌, ◌⊎◌}
use Rattle.{net_plan.specs.declared.network.Network.Network, schedule_tables.specs.declared.entry.Entry.Entry}
use Rattle.schedule_tables.specs.{Entries.{source_of, target_of}, Schedule.{Coincide, IsClearBefore}}
use Rattle.{schedule_tables.specs.Windows.window_end, tte_units.specs.Amount.amount}

-- if both entries are of one link and way and occur in one cycle, one of them is clear before the other
abbrev pub AreApart : Network → Entry → Entry → Type 0
AreApart network earlier entry =
    entry.row.link ≡ earlier.row.link → entry.row.way ≡ earlier.row.way → Coincide entry.vl earlier.vl
    → IsClearBefore network earlier entry ⊎ IsClearBefore network entry earlier

-- if the first entry enters the source of the other, of one virtual link, the other comes behind its window
pub record ComesBehind (network : Network) (entering entry : Entry) : Type 0 where
  pub behind : entry.row.vl ≡ entering.row.vl → target_of entering ≡ source_of entry
      → window_end network entering < amount entry.row.offset

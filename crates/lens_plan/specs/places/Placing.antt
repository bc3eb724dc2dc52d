-- The places of a message's rows along a way, in a phase.
use Rattle.std.specs.{List.All, Option.option_map_or, Prelude.{◌*◌, ◌+◌, ◌^◌, ◌∷◌, ◌≡◌, ◌≤◌, List, [], ℕ}}
use Rattle.lens_plan.specs.declared.places.{offsets.MessageRow.MessageRow, placing.{Placed.Placed, Trial.Trial}, ways.Hop.Hop}
use Rattle.lens_plan.specs.places.Offsets.{AreSmall, IsLeastOffset}
use Rattle.net_plan.specs.{Bounds.gamma_of, Places.link_at, Ranges.IsInRange}
use Rattle.net_plan.specs.declared.{ids.LinkId.LinkId, network.Network.Network}
use Rattle.{schedule_tables.specs.Windows.tolerance, tte_units.specs.{Amount.amount, OctetTime.octet_time}}

-- how long a frame of so many octets occupies the port of the link (IEEE 802.3)
abbrev pub port_on : Network → ℕ → LinkId → ℕ
port_on network length link = option_map_or (λ l. (length + 24) * octet_time l.speed) (link_at network link) 0

-- the greatest wire delay of the link
abbrev pub delay_on : Network → LinkId → ℕ
delay_on network link = option_map_or (λ l. amount l.wire + amount l.jitter) (link_at network link) 0

-- the row of the hop
abbrev pub slot_of : Trial → Hop → MessageRow
slot_of trial hop = record {
  link = hop.link;
  way = hop.way;
  period = trial.message.now.period;
  phase = trial.phase;
  port = port_on trial.network.now trial.message.now.length hop.link;
}

-- the end of its window, where it has this offset
abbrev pub end_of : Trial → Hop → ℕ → ℕ
end_of trial hop offset =
    offset + port_on trial.network.now trial.message.now.length hop.link + delay_on trial.network.now hop.link
    + tolerance trial.network.now

-- the numbers of the trial are those of its network, and the rows have places in its cycle
pub record IsTrial (trial : Trial) : Type 0 where
  pub range : IsInRange trial.network.now
  pub gamma : trial.gamma ≡ gamma_of trial.network.now
  pub tolerance : trial.tolerance ≡ tolerance trial.network.now
  pub period : 1 ≤ trial.message.now.period
  pub length : trial.message.now.length ≤ 1514
  pub rows : All AreSmall trial.rows.now

-- the row's window ends no earlier than its offset, and not past 2^60
abbrev pub IsOrdered : Placed → Type 0
IsOrdered p = (p.offset ≤ p.end) × (p.end ≤ 2 ^ 60)

-- the row has the least offset from this one on
pub record IsPlacedAt (trial : Trial) (from : ℕ) (hop : Hop) (p : Placed) : Type 0 where
  pub is : p.hop ≡ hop
  pub offset : IsLeastOffset (gamma_of trial.network.now) (slot_of trial hop) from trial.rows.now p.offset
  pub end : p.end ≡ end_of trial hop p.offset

-- each of these rows has the least offset behind the window of the one before, the first from this one on
abbrev pub IsPlacedWay : Trial → ℕ → List Hop → List Placed → Type 0
IsPlacedWay trial from [] ps = ps ≡ []
IsPlacedWay trial from (hop ∷ hops) ps =
    (p : Placed) × (others : List Placed) × IsPlacedAt trial from hop p × IsPlacedWay trial (p.end + 1) hops others
    × (ps ≡ p ∷ others)

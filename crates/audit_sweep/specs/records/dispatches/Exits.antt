-- The rows by which frames are put on each link of a network.
use Rattle.std.specs.{Option.option_map_or, Prelude.{◌≡◌, List, [], length, slice_get}}
use Rattle.net_plan.specs.declared.{ids.LinkId.LinkId, network.Network.Network}
use Rattle.audit_sweep.specs.records.{dispatches.Leaving.AreRowsOn}
use Rattle.audit_sweep.specs.declared.records.dispatches.{exits.Exits.Exits, leaving.LeavingRow.LeavingRow}

-- what is kept of the link
abbrev pub rows_on : Exits → LinkId → List LeavingRow
rows_on exits link = option_map_or (λ rows. rows.items) (slice_get exits.links.items link.0) []

-- for each link of the network there are no rows
pub record AreNoRows (network : Network) (exits : Exits) : Type 0 where
  pub count : length exits.links.items ≡ length network.link
  pub none : (link : LinkId) → rows_on exits link ≡ []

-- these are the rows of the network, by the links on which they put frames
abbrev pub AreExits : Network → Exits → Type 0
AreExits network exits = (link : LinkId) → AreRowsOn network link (rows_on exits link)

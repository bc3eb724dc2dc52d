-- The window of a row, by its entry.
use Rattle.{lens_svg.specs.Windows.window_at, run_law.proofs.timed.Rows.entry_is, schedule_tables.specs.{Entries.IsEntry, Windows.window_of}}
use Rattle.{net_plan.specs.declared.network.Network.Network, schedule_tables.specs.declared.entry.Entry.Entry, std.proofs.Common.{◌≡◌, Option, Some, ap, ℕ}}
use Rattle.std.specs.Prelude.{option_map}

-- the window of an entry is that of the row
pub window_is : (network : Network) (place : ℕ) (entry : Entry) → IsEntry network place entry → window_at network place ≡ Some (window_of network entry)
window_is network place entry is = ap (λ (o : Option Entry). option_map (window_of network) o) (entry_is is)

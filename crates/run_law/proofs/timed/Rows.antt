-- Rows of the schedule.
use Rattle.net_plan.specs.Ranges.{IsRowInRange}
use Rattle.{run_law.specs.timed.Arrivals.entry_of, schedule_tables.specs.Entries.IsEntry, std.proofs.Common.{◌∙◌, ap, arith, filter}}
use Rattle.{net_plan.specs.declared.tables.Row.Row, schedule_tables.specs.declared.entry.Entry.Entry, tte_units.proofs.general_lemmas.Lists.some_at}
use Rattle.run_law.{proofs.Words.{◌≡◌, DeviceId, Happening, List, Network, Some, earlier, inl, inr, last_or, refl, ℕ}, specs.timed.Dispatching.HasAtHand}
use Rattle.std.specs.Prelude.{IsSome, option_and_then, slice_get}

module _ {network : Network} {place : ℕ} {entry : Entry} (is : IsEntry network place entry) where
  pub entry_at : entry_of network entry.row ≡ Some entry
  entry_at = rw is.vl (rw is.link refl)

  -- the entry of the row at a place
  pub entry_is : option_and_then (entry_of network) (slice_get network.row place) ≡ Some entry
  entry_is = ap (option_and_then (entry_of network)) is.row ∙ entry_at

pub has_entry : {network : Network} {row : Row} → IsRowInRange network row → IsSome (entry_of network row)
has_entry {network} {row} r =
    let vl = some_at network.vl row.vl.0 r.vl in
    let link = some_at network.link row.link.0 r.link in
    rw vl.1 (rw link.1 refl)

pub at_hand_by : (network : Network) {js : List Happening} (hs : List Happening) {device : DeviceId} (entry : Entry)
    {t cause cycle : ℕ} → earlier t js ≡ earlier t hs → HasAtHand network js device entry t cause cycle
    → HasAtHand network hs device entry t cause cycle
at_hand_by network hs entry same (inl sender) = inl sender
at_hand_by network hs entry same (inr took) = grind (arith, last_or, filter)

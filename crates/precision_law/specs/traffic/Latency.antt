-- How long a frame of the schedule takes, in world time, and how far apart two frames of one row come.
use Rattle.std.specs.Prelude.{◌*◌, ◌+◌, ◌<◌, ◌≡◌, ◌≤◌, List, Some, false, pos, slice_get, ℕ}
use Rattle.net_plan.specs.Bounds.{IsBeta}
use Rattle.net_plan.specs.declared.{ids.{DeviceId.DeviceId, LinkId.LinkId, VlId.VlId}, network.Network.Network}
use Rattle.net_plan.specs.declared.tables.VirtualLink.{VirtualLink}
use Rattle.precision_law.specs.Precision.{IsRunUpTo}
use Rattle.run_law.specs.{declared.note.Note.Note, records.Order.IsIn, scenario.Scenarios.{Scenario, is_broken}}
use Rattle.run_law.specs.records.Happenings.{Happening, happenings, time_of}
use Rattle.schedule_tables.specs.{Entries.IsEntry, Margins.{dispatch_spread, reach_error}, Windows.arrival_of}
use Rattle.{schedule_tables.specs.declared.entry.Entry.Entry, tte_units.specs.Amount.amount}
use Rattle.run_law.specs.declared.note.NoteBody.TheVariants as notes

-- ---- a frame's records

-- the row is the virtual link's on the link
pub record IsRowOn (network : Network) (vl : VlId) (link : LinkId) (entry : Entry) : Type 0 where
  pub place : ℕ
  pub is : IsEntry network place entry
  pub of_vl : entry.row.vl ≡ vl
  pub by : entry.row.link ≡ link

-- by the record the device dispatches the virtual link's frame of the cycle on the row
pub record IsDispatchOn (network : Network) (vl : VlId) (cycle : ℕ) (h : Happening) (device : DeviceId) (entry : Entry)
    : Type 0 where
  pub link : LinkId
  pub cause : ℕ
  pub is : h.note.body ≡ notes.TtSent device link cause vl cycle
  pub row : IsRowOn network vl link entry

-- by the record the device delivers the virtual link's frame of the cycle, which came by the row
pub record IsDeliveryBy (network : Network) (vl : VlId) (cycle : ℕ) (h : Happening) (device : DeviceId) (entry : Entry)
    : Type 0 where
  pub link : LinkId
  pub cause : ℕ
  pub is : h.note.body ≡ notes.Delivered device link cause vl cycle
  pub row : IsRowOn network vl link entry

-- the virtual link's sender is correct at the time
pub record HasCorrectSender (s : Scenario) (vl : VlId) (t : ℕ) : Type 0 where
  pub of_vl : VirtualLink
  pub there : slice_get s.network.vl vl.0 ≡ Some of_vl
  pub correct : is_broken s of_vl.sender t ≡ false

-- ---- latency

-- how far two dispatches of one cycle may be off what the schedule has between them
abbrev pub dispatch_error : Network → ℕ → ℕ
dispatch_error network beta = dispatch_spread network + 2 * reach_error network beta

-- what left by the first row comes by the last one so long after it as the schedule says, but for that error and the
-- jitter of the last wire; the error is less than the precision
pub record TakesItsTime (network : Network) (beta : ℕ) (first last : Entry) (sent came : ℕ) : Type 0 where
  pub least : sent + arrival_of last ≤ came + amount first.row.offset + dispatch_error network beta
  pub most : came + amount first.row.offset
      ≤ sent + arrival_of last + amount last.link.jitter + dispatch_error network beta
  pub small : dispatch_error network beta < amount network.precision

-- each frame that is delivered takes its time from each of its dispatches by a device that is still correct, where its
-- sender is
abbrev pub DeliveriesTakeTheirTime : Type 0
DeliveriesTakeTheirTime =
    (s : Scenario) (mark : List ℕ) (ns : List Note) (until beta : ℕ) → IsRunUpTo s mark ns until
    → IsBeta s.network (pos beta)
    → (vl : VlId) (cycle : ℕ) (f z : Happening) (device receiver : DeviceId) (first last : Entry)
    → IsIn f (happenings s.network ns) → IsIn z (happenings s.network ns) → time_of f ≤ time_of z → time_of z ≤ until
    → IsDispatchOn s.network vl cycle f device first → IsDeliveryBy s.network vl cycle z receiver last
    → is_broken s device (time_of z) ≡ false → HasCorrectSender s vl (time_of z)
    → TakesItsTime s.network beta first last (time_of f) (time_of z)

-- ---- from cycle to cycle

-- how far two deliveries by a row, so many cycles apart, may be off these cycles
abbrev pub pace_error : Network → ℕ → ℕ → Entry → ℕ
pace_error network beta cycles entry =
    amount entry.link.jitter + dispatch_spread network + (cycles + 2) * reach_error network beta

-- what came by the row comes again so many cycles later, but for that error
pub record KeepsPace (network : Network) (beta cycles : ℕ) (entry : Entry) (came later : ℕ) : Type 0 where
  pub least : came + cycles * amount network.cycle ≤ later + pace_error network beta cycles entry
  pub most : later ≤ came + cycles * amount network.cycle + pace_error network beta cycles entry

-- any two deliveries of a virtual link by one row keep its pace, where its sender is correct
abbrev pub DeliveriesKeepPace : Type 0
DeliveriesKeepPace =
    (s : Scenario) (mark : List ℕ) (ns : List Note) (until beta : ℕ) → IsRunUpTo s mark ns until
    → IsBeta s.network (pos beta)
    → (vl : VlId) (cycle cycles : ℕ) (z y : Happening) (receiver : DeviceId) (entry : Entry)
    → IsIn z (happenings s.network ns) → IsIn y (happenings s.network ns) → time_of z ≤ time_of y → time_of y ≤ until
    → IsDeliveryBy s.network vl cycle z receiver entry → IsDeliveryBy s.network vl (cycle + cycles) y receiver entry
    → HasCorrectSender s vl (time_of y)
    → KeepsPace s.network beta cycles entry (time_of z) (time_of y)

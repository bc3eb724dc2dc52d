-- The records of a report that were taken.
use Rattle.std.specs.Prelude.{◌+◌, ◌^◌, ◌∷◌, ◌≡◌, ◌≤◌, List, Some, [], ℕ}
use Rattle.audit_law.specs.{events.Readings.scenario_under, law.{DueRecords.IsDue, Findings.{AreSound, IsSound}}}
use Rattle.audit_sweep.specs.{Knowing.IsKnown, declared.sweep.Sweep.Sweep}
use Rattle.audit_sweep.specs.{records.places.Placing.ArePlacesOf, unpaid.{Debtors.device_named, Payments.ArePayments}}
use Rattle.net_plan.specs.{Belonging.HasDevice, Ranges.IsInRange, declared.{event.Event.Event, ids.DeviceId.DeviceId}}
use Rattle.net_plan.specs.declared.network.Network.{Network}
use Rattle.run_law.specs.{declared.note.Note.Note, records.{Happenings.{Happening, happening}, Order.IsIn}}
use Rattle.run_law.specs.records.Ranks.{place_of}
use Rattle.tte_units.specs.{Amount.amount, declared.units.Units.Units}

-- under these events, each record is sound up to the end, given those before it
abbrev pub AreSoundUpTo : Network → List Event → Units → List Happening → Type 0
AreSoundUpTo network befallen end hs =
    AreSound place_of (IsDue (scenario_under network befallen)) ((amount end + 1) ∷ []) hs

-- and a further record is so, given these
abbrev pub IsSoundUpTo : Network → List Event → Units → List Happening → Note → Type 0
IsSoundUpTo network befallen end hs note =
    IsSound place_of (IsDue (scenario_under network befallen)) ((amount end + 1) ∷ []) hs (happening network hs note)

-- it is, and this is its place
pub record IsPlacedSoundly (network : Network) (befallen : List Event) (end : Units) (hs : List Happening) (note : Note)
    (place : List ℕ) : Type 0 where
  pub sound : IsSoundUpTo network befallen end hs note
  pub is : place ≡ place_of (happening network hs note)

-- these records, each sound up to the end, were taken
pub record IsSwept (network : Network) (befallen : List Event) (end : Units) (hs : List Happening) (sweep : Sweep)
    : Type 0 where
  pub of_network : sweep.network.now ≡ network
  pub ends : sweep.known.end ≡ end
  pub range : IsInRange network
  pub timely : amount end ≤ 2 ^ 60
  pub known : IsKnown network befallen hs sweep.known
  pub sound : AreSoundUpTo network befallen end hs
  pub places : ArePlacesOf hs sweep.places
  pub paid : ArePayments hs sweep.payments
  pub devices : (h : Happening) (device : DeviceId) → IsIn h hs → device_named h.note.body ≡ Some device
      → HasDevice network device

-- some records, under some events of a network, were taken
abbrev pub SweepsSome : Sweep → Type 0
SweepsSome sweep =
    (network : Network) × (befallen : List Event) × (end : Units) × (hs : List Happening)
    × IsSwept network befallen end hs sweep

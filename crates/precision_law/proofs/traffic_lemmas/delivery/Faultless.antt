-- What a device has found of a frame of the schedule that it takes.
use Rattle.{net_plan.proofs.SameIds.one_link, run_law.proofs.{device.States.is_in, scenario.Ways.one_way}, std.proofs.Common.{◌%◌, arith}}
use Rattle.precision_law.proofs.traffic_lemmas.Words.{◌==◌, ◌≡◌, ◌≤ℤ◌, ◌⊎◌, Arrival, Bool, DeviceId, Entry, IsEntry, LinkId, List, Network, None, OccursIn}
use Rattle.precision_law.proofs.traffic_lemmas.Words.{Option, Reason, Some, Standpoint, Synchronised, VirtualLink, VlId, and_parts, clock_of, cycle_at}
use Rattle.precision_law.proofs.traffic_lemmas.Words.{entry_arrival, entry_entering, eqb-true, false, field, if◌then◌else◌, inl, inr, int_lt, is_end}
use Rattle.precision_law.proofs.traffic_lemmas.Words.{is_synchronised, is_taken_in, length, link_at, nat_le, none_first, not, not_less, octets_fault}
use Rattle.precision_law.proofs.traffic_lemmas.Words.{octets_or_fault, offset_in_cycle, option_and_then, option_map_or, refl, row_fault, slice_get}
use Rattle.{precision_law.proofs.traffic_lemmas.Words.{taken_or_fault, timed_arrival, true, way_to, window_of, ℕ}, run_law.specs.timed.Arrivals.occurs_in}
use Rattle.std.proofs.lemmas.Bool.{leb-true, not-false, or_parts}
use Rattle.schedule_tables.proofs.Margins.{entry_by}
use Rattle.tte_units.proofs.general_lemmas.Lists.{find_at}
use Rattle.run_law.specs.declared.steps.Arrival.TheVariants as arrivals

-- ---- the row

-- the row has no fault
pub record IsFaultless (network : Network) (at : Standpoint) (entry : Entry) (size : ℕ) (last : Option ℕ) : Type 0 where
  pub whole : size ≡ entry.vl.length
  pub occurs : OccursIn entry.vl (cycle_at network (clock_of at))
  pub not_before : (window_of network entry).from.0 ≤ℤ offset_in_cycle network (clock_of at)
  pub not_behind : offset_in_cycle network (clock_of at) ≤ℤ (window_of network entry).to.0
  pub anew : is_taken_in (cycle_at network (clock_of at)) last ≡ false

-- the test that a virtual link occurs
occurs_so : (vl : VirtualLink) (cycle : ℕ) → occurs_in vl cycle ≡ true → OccursIn vl cycle
occurs_so vl cycle e =
    let parts = and_parts (nat_le 1 cycle) (cycle % vl.period == vl.phase) e in
    record { begun = leb-true 1 cycle parts.0; in_phase = eqb-true (cycle % vl.period) vl.phase parts.1 }

-- where no fault is found there is none
pub faultless : (network : Network) (at : Standpoint) (entry : Entry) (size : ℕ) (last : Option ℕ) → row_fault network at entry size last ≡ None
    → IsFaultless network at entry size last
faultless network at entry size last e =
    grind (arith, none_first, not, cycle_at, clock_of, int_lt, offset_in_cycle, window_of, is_taken_in, or_parts, eqb-true, not-false, occurs_so, not_less)

-- ---- the octets

-- the octets have no fault
pub record AreFaultless (network : Network) (at : Standpoint) (octets : List ℕ) : Type 0 where
  pub takes_part : at.takes_part ≡ true
  pub synchronised : at.state ≡ Synchronised
  pub marker : field 0 4 octets ≡ network.marker

-- where no fault is found in the octets there is none
pub octets_faultless : (network : Network) (at : Standpoint) (octets : List ℕ) → octets_fault network at octets ≡ None → AreFaultless network at octets
octets_faultless network at octets e = grind (arith, none_first, not, is_synchronised, field, not-false, is_in, eqb-true)

-- ---- the row by which a frame enters

-- the row with its virtual link and its link
pub record IsEntering (network : Network) (device : DeviceId) (link : LinkId) (id : ℕ) (entry : Entry) : Type 0 where
  pub place : ℕ
  pub row : IsEntry network place entry
  pub by : entry.row.link ≡ link
  pub on_way : entry.row.way ≡ way_to network device link
  pub id_is : entry.vl.id ≡ id

-- the entry by which a frame enters is found so
pub entering : (network : Network) (device : DeviceId) (link : LinkId) (id : ℕ) (entry : Entry) → entry_entering network device link id ≡ Some entry
    → IsEntering network device link id entry
entering network device link id entry e =
    grind (arith, option_map_or, eqb-true, option_and_then, find_at, way_to, entry_by, slice_get, link_at, and_parts, one_link, one_way)

-- ---- taking

-- the arrival is the taking of a frame of the virtual link in the cycle
abbrev pub TakesIn : Arrival → VlId → ℕ → Type 0
TakesIn a vl cycle = (a ≡ arrivals.Accepted vl cycle) ⊎ (a ≡ arrivals.Delivered vl cycle)

-- what the device has found where it takes these octets so
pub record FindsNone (network : Network) (device : DeviceId) (link : LinkId) (at : Standpoint) (octets : List ℕ) (last : VlId → Option ℕ) (vl : VlId)
    (cycle : ℕ) : Type 0 where
  pub sound : AreFaultless network at octets
  pub entry : Entry
  pub enters : IsEntering network device link (field 4 2 octets) entry
  pub fits : IsFaultless network at entry (length octets) (last entry.row.vl)
  pub of_vl : entry.row.vl ≡ vl
  pub in_cycle : cycle_at network (clock_of at) ≡ cycle

-- an arrival that takes is no drop
no_drop : (reason : Reason) (vl : VlId) (cycle : ℕ) → TakesIn (arrivals.Dropped reason) vl cycle → ⊥
no_drop reason vl cycle (inl e) = absurd cc
no_drop reason vl cycle (inr e) = absurd cc

-- what is taken is of this virtual link and cycle
taken_so : (end : Bool) (own vl : VlId) (number cycle : ℕ) → TakesIn (if end then arrivals.Delivered own number else arrivals.Accepted own number) vl cycle
    → (own ≡ vl) × (number ≡ cycle)
taken_so true own vl number cycle (inl e) = absurd cc
taken_so true own vl number cycle (inr e) = (cc, cc)
taken_so false own vl number cycle (inl e) = (cc, cc)
taken_so false own vl number cycle (inr e) = absurd cc

-- a device that takes the octets has found so
pub finds_none : (network : Network) (device : DeviceId) (link : LinkId) (at : Standpoint) (octets : List ℕ) (last : VlId → Option ℕ) (vl : VlId) (cycle : ℕ)
    → TakesIn (timed_arrival network device link at octets last) vl cycle → FindsNone network device link at octets last vl cycle
finds_none network device link at octets last vl cycle takes = by (octets_fault network at octets) refl takes
  where
    by_row : (entry : Entry) → entry_entering network device link (field 4 2 octets) ≡ Some entry → octets_fault network at octets ≡ None → (o : Option Reason)
        → row_fault network at entry (length octets) (last entry.row.vl) ≡ o → TakesIn (taken_or_fault network device at entry o) vl cycle
        → FindsNone network device link at octets last vl cycle
    by_row entry found sound (Some reason) e t = absurd (no_drop reason vl cycle t)
    by_row entry found sound None e t =
        let so = taken_so (is_end network device) entry.row.vl vl (cycle_at network (clock_of at)) cycle t in
        record {
          sound = octets_faultless network at octets sound;
          entry = entry;
          enters = entering network device link (field 4 2 octets) entry found;
          fits = faultless network at entry (length octets) (last entry.row.vl) e;
          of_vl = so.0;
          in_cycle = so.1;
        }

    by_entry : octets_fault network at octets ≡ None → (o : Option Entry) → entry_entering network device link (field 4 2 octets) ≡ o
        → TakesIn (entry_arrival network device at (length octets) last o) vl cycle → FindsNone network device link at octets last vl cycle
    by_entry sound None found t = absurd (no_drop _ vl cycle t)
    by_entry sound (Some entry) found t = by_row entry found sound (row_fault network at entry (length octets) (last entry.row.vl)) refl t

    by : (o : Option Reason) → octets_fault network at octets ≡ o → TakesIn (octets_or_fault network device link at octets last o) vl cycle
        → FindsNone network device link at octets last vl cycle
    by (Some reason) sound t = absurd (no_drop reason vl cycle t)
    by None sound t = by_entry sound (entry_entering network device link (field 4 2 octets)) refl t

-- The time-triggered frames that a device takes.
use Rattle.std.specs.{BTreeMap.get, Int.int_div_euclid, Prelude.{length, option_map, slice_get, unwrap_or, ℕ, ℤ}}
use Rattle.std.specs.List.{last_or}
use Rattle.std.specs.Prelude.{◌++◌, ◌<◌, ◌==◌, ◌∷◌, ◌≡◌, Err, IfSome, List, None, Ok, Option, Result, Some, [], filter}
use Rattle.net_plan.specs.declared.{ids.{DeviceId.DeviceId, LinkId.LinkId, VlId.VlId}, network.Network.Network}
use Rattle.run_law.specs.declared.{judgement.Reason.Reason, steps.Arrival.Arrival}
use Rattle.run_law.specs.device.Standpoints.{Standpoint, natural}
use Rattle.run_law.specs.{machines.Nodes.TakenFrame, timed.Arrivals.{entry_arrival, entry_entering, taken_by}}
use Rattle.device_rules.specs.{Entering.{AreRows, HasPeriod, entrance_cmp}, declared.entrances.Which.TheVariants.Into}
use Rattle.device_rules.specs.declared.{heading.Heading.Heading, intake.Intake.Intake}
use Rattle.run_law.specs.declared.steps.Arrival.TheVariants as arrivals

-- the cycle in which the last of these frames of the virtual link was taken
abbrev pub last_by : List TakenFrame → VlId → Option ℕ
last_by taken vl = option_map (λ taking. taking.cycle) (last_or None (filter (λ taking. taking.vl.0 == vl.0) taken))

-- the cycle kept for the virtual link
abbrev pub last_in : List (Option ℕ) → VlId → Option ℕ
last_in taken vl = unwrap_or (slice_get taken vl.0) None

-- the rows by which frames enter the device, of which it has taken these
pub record HasTaken (network : Network) (device : DeviceId) (intake : Intake) (taken : List TakenFrame) : Type 0 where
  pub rows : AreRows network (Into device) network.row intake.rows
  pub count : length intake.taken.items ≡ length network.vl
  pub last : (vl : VlId) → last_in intake.taken.items vl ≡ last_by taken vl

-- each row is of a virtual link for which a cycle may be kept, and can be judged
abbrev pub IsWhole : Intake → Type 0
IsWhole intake =
    (link : LinkId) (id : ℕ) → IfSome (get entrance_cmp intake.rows (record { link = link; id = id }))
    (λ row. HasPeriod row × (row.vl.0 < length intake.taken.items))

-- the cycle of a frame that was taken is kept
pub record Takes (old : Intake) (vl : VlId) (cycle : ℕ) (new : Intake) : Type 0 where
  pub rows : new.rows ≡ old.rows
  pub count : length new.taken.items ≡ length old.taken.items
  pub taken : last_in new.taken.items vl ≡ Some cycle
  pub others : (other : VlId) → (other.0 ≡ vl.0 → ⊥)
      → last_in new.taken.items other ≡ last_in old.taken.items other

-- the cycle of a local value, which is 0 before the first cycle
abbrev pub cycle_of : ℤ → ℤ → ℕ
cycle_of value length = natural (int_div_euclid value length)

-- what becomes of a frame of this heading that enters the device by the link
abbrev pub row_arrival : Network → DeviceId → LinkId → Heading → Standpoint → List TakenFrame → Arrival
row_arrival network device link heading at taken =
    entry_arrival network device at heading.length (last_by taken) (entry_entering network device link heading.id)

-- it is taken as one of the virtual link in the cycle, which is kept, or is dropped for the reason
abbrev pub IsTakenSo : Network → DeviceId → LinkId → Heading → Standpoint → List TakenFrame → Intake
    → Result (VlId × ℕ) Reason → Type 0
IsTakenSo network device link heading at taken new (Ok t) =
    (row_arrival network device link heading at taken ≡ taken_by network device t.0 t.1)
    × ((taking : TakenFrame) → taking.vl ≡ t.0 → taking.cycle ≡ t.1
    → HasTaken network device new (taken ++ taking ∷ []))
IsTakenSo network device link heading at taken new (Err reason) =
    (row_arrival network device link heading at taken ≡ arrivals.Dropped reason) × HasTaken network device new taken

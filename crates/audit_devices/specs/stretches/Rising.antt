-- The points of a compression master come in order.
use Rattle.std.specs.Prelude.{◌≡◌, ◌≤ℤ◌, ◌≤◌, List, pos, ℕ}
use Rattle.{audit_devices.specs.stretches.Points.MayStand, net_plan.specs.declared.ids.DeviceId.DeviceId}
use Rattle.{audit_law.specs.law.DueRecords.IsDue, net_plan.specs.Ranges.IsInRange, run_law.specs.records.Ranks.place_of}
use Rattle.{net_plan.specs.declared.ids.LinkId.LinkId, run_law.specs.{runs.Runs.IsFounded, scenario.Scenarios.Scenario}}
use Rattle.run_law.specs.declared.{judgement.Judgement.Judgement, note.NoteBody.TheVariants.Permanent}
use Rattle.{run_law.specs.records.{Happenings.Happening, Order.AllBefore}, tte_units.specs.declared.units.Units.Units}

-- no clock ever falls
abbrev pub NeverFall : Scenario → Type 0
NeverFall s = (device : DeviceId) (t u : ℕ) → t ≤ u → s.reading device t ≤ s.reading device u

-- the point that the record gives is none below 0, and none of the stretch that it comes to is later
pub record ComesInOrder (s : Scenario) (hs : List Happening) (h : Happening) : Type 0 where
  pub natural : (device : DeviceId) (link : LinkId) (cause : ℕ) (point : Units) (verdict : Judgement)
      → h.note.body ≡ Permanent device link cause point verdict → pos 0 ≤ℤ point.0
  pub stands : MayStand s.network hs h

-- where no clock falls, each record that is due behind records that are due gives its point in order
abbrev pub RisingLaw : Type 0
RisingLaw =
    (s : Scenario) (hs : List Happening) (h : Happening) → IsInRange s.network → NeverFall s
    → IsFounded place_of (IsDue s) hs → AllBefore place_of hs (place_of h) → IsDue s hs h → ComesInOrder s hs h

-- How the way of a frame ends: on a cut link, or dropped for a reason.
use Rattle.std.specs.Prelude.{◌≡◌, ◌⊎◌, List, Some, false, slice_get, true, ℕ}
use Rattle.net_plan.specs.declared.{event.{What.TheVariants.Send}, ids.{DeviceId.DeviceId, LinkId.LinkId}}
use Rattle.net_plan.specs.declared.{ids.VlId.VlId, tables.{Link.Link, Way.TheVariants.Up}}
use Rattle.tte_units.specs.declared.units.Units.{Units}
use Rattle.run_law.specs.control.{Leaving.{Departs, on_cut_way, too_old}, Permanence.BecomesPermanent}
use Rattle.run_law.specs.{declared.judgement.Reason.{Reason, TheVariants.Old}, records.Causes.IsOfThisTime}
use Rattle.run_law.specs.{records.Happenings.Happening, scenario.{Scenarios.Scenario, Ways.{is_cut, way_from}}}
use Rattle.run_law.specs.timed.{Dispatching.Dispatches, Receptions.ArrivesAs}
use Rattle.run_law.specs.declared.note.NoteBody.TheVariants as notes
use Rattle.run_law.specs.declared.steps.Arrival.TheVariants as arrivals
use Rattle.run_law.specs.declared.steps.Ripe.TheVariants as ripe

-- the record with the number `cause` is a `send` event of this time on the link, whose way up from the device, the
-- broken master, is cut
pub record IsSendLost (s : Scenario) (hs : List Happening) (device : DeviceId) (t : ℕ) (link : LinkId)
    (cause : ℕ) : Type 0 where
  pub event : Happening
  pub is : IsOfThisTime hs t cause event
  pub line : ℕ
  pub octets : List ℕ
  pub sends : event.note.body ≡ notes.Event line (Send link octets)
  pub way : Link
  pub there : slice_get s.network.link link.0 ≡ Some way
  pub by : device ≡ way.child
  pub cut : is_cut s link Up t ≡ true

-- a row's frame is dispatched on a way that is cut, or not
pub record IsDispatchedOn (s : Scenario) (hs : List Happening) (device : DeviceId) (t : ℕ) (link : LinkId) (cause : ℕ)
    (vl : VlId) (cycle : ℕ) : Type 0 where
  pub dispatches : Dispatches s hs device t link cause vl cycle
  pub whole : is_cut s link (way_from s.network device link) t ≡ false

-- a frame meets a cut way: a control frame at its leaving, a time-triggered one at its dispatch, or the octets of a
-- `send` event
abbrev pub IsLost : Scenario → List Happening → DeviceId → ℕ → LinkId → ℕ → Type 0
IsLost s hs device t link cause =
    Departs s hs device t link cause on_cut_way
    ⊎ (((vl : VlId) × (cycle : ℕ) × Dispatches s hs device t link cause vl cycle
    × (is_cut s link (way_from s.network device link) t ≡ true))
    ⊎ IsSendLost s hs device t link cause)

-- a frame is dropped, at its arrival, when it is permanent, or at its leaving
abbrev pub IsDropped : Scenario → List Happening → DeviceId → ℕ → LinkId → ℕ → Reason → Type 0
IsDropped s hs device t link cause reason =
    ArrivesAs s hs device t link cause (arrivals.Dropped reason)
    ⊎ (((point : Units) × BecomesPermanent s hs device t link cause point (ripe.Dropped reason))
    ⊎ (Departs s hs device t link cause too_old × (reason ≡ Old)))

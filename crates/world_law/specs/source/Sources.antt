-- Where a record of a run comes from: each that is due has a source, which stands in the order too, and no later.
use Rattle.std.specs.Prelude.{◌+◌, ◌∷◌, ◌≡◌, ◌⊎◌, List, Some, [], false, true, ℕ}
use Rattle.{compression.specs.declared.compressed.Compressed.Compressed, net_plan.specs.declared.ids.DeviceId.DeviceId}
use Rattle.{net_plan.specs.Places.device_at, tte_units.specs.Amount.amount}
use Rattle.net_plan.specs.declared.network.Network.{Network}
use Rattle.run_law.specs.machines.{Nodes.{correcting, dispatching, sending}, Tasks.{Task, doing, emitting}}
use Rattle.{net_plan.specs.declared.{event.What.What, ids.VlId.VlId}, run_law.specs.control.Losses.IsSendLost}
use Rattle.{net_plan.specs.declared.ids.LinkId.LinkId, tte_units.specs.declared.{frames.pcf.Pcf.Pcf, units.Units.Units}}
use Rattle.{net_plan.specs.declared.tables.Device.Device, run_law.specs.control.Wires.{Arrives, Signal}}
use Rattle.run_law.specs.{control.Corrections.{correction_value, standing_before}, records.Ranks.{members_in, place_of, sign}}
use Rattle.{run_law.specs.{control.Emissions.Emits, records.Order.IsBefore}, sync_state.specs.Standing.next_point}
use Rattle.run_law.specs.{control.Leaving.{Departs, Gives, on_cut_way, too_old}, timed.Dispatching.{Dispatches, Sends}}
use Rattle.run_law.specs.{control.Permanence.{BecomesPermanent, IsPermanent}, scenario.Ways.{hold_at, is_cut, way_from}}
use Rattle.run_law.specs.declared.judgement.{Judgement.Judgement, Why.TheVariants.{AsyncClique, SyncClique}}
use Rattle.run_law.specs.{declared.note.NoteBody.NoteBody, runs.DueRecords.{EndsAt, IsDue, IsEventRecord}}
use Rattle.run_law.specs.{device.LocalClocks.Reaches, records.Causes.IsOfThisTime, timed.Receptions.ArrivesAs}
use Rattle.run_law.specs.{records.Happenings.{Happening, numbered, time_of}, scenario.Scenarios.{Scenario, is_broken}}
use Rattle.schedule_tables.specs.Dispatches.{dispatch_order}
use Rattle.run_law.specs.declared.note.NoteBody.TheVariants as notes
use Rattle.run_law.specs.declared.steps.Arrival.TheVariants as arrivals
use Rattle.run_law.specs.declared.steps.Ripe.TheVariants as ripe

-- what the record of this number put on the link arrives at the device at the time
pub record IsArriving (s : Scenario) (hs : List Happening) (t : ℕ) (device : DeviceId) (link : LinkId)
    (cause : ℕ) : Type 0 where
  pub putting : Happening
  pub there : numbered hs cause ≡ Some putting
  pub signal : Signal
  pub arrives : Arrives s putting device link t signal

-- the frame of the record of this number, which the device gave to the link, leaves at the time, after its hold
pub record IsDeparting (s : Scenario) (hs : List Happening) (t : ℕ) (device : DeviceId) (link : LinkId)
    (cause : ℕ) : Type 0 where
  pub giving : Happening
  pub there : numbered hs cause ≡ Some giving
  pub gives : Gives s.network giving.note.body device link
  pub held : t ≡ time_of giving + hold_at s link (way_from s.network device link) (time_of giving)

-- the frame of the `arrived` record of this number is permanent at the device at the time
pub record IsRipening (s : Scenario) (hs : List Happening) (t : ℕ) (device : DeviceId) (link : LinkId) (cause : ℕ)
    (point : Units) : Type 0 where
  pub frame : Pcf
  pub permanent : IsPermanent s hs device t link cause frame point

-- a correction point of the device comes at the time, whatever it comes to
pub record IsAtCorrection (s : Scenario) (hs : List Happening) (t : ℕ) (device : DeviceId) (cycle : ℕ) : Type 0 where
  pub next : next_point (standing_before s hs device t) ≡ Some cycle
  pub reached : Reaches s hs device (correction_value s.network cycle) t
  pub correct : is_broken s device t ≡ false

-- where a task of the device stands among what is of its time: an emission, a sending and a correction where their
-- records do, and a dispatch behind what else the device does, by its row
abbrev pub task_numbers : Network → DeviceId → Task → List ℕ
task_numbers network device (emitting sent) =
    4 ∷ device.0 ∷ amount sent.opened ∷ amount sent.at ∷ sent.cycle ∷ sent.members.0 ∷ sign sent.opened.0
    ∷ sign sent.at.0 ∷ []
task_numbers network device (doing (sending cycle)) = 5 ∷ device.0 ∷ cycle ∷ []
task_numbers network device (doing (correcting cycle)) = 6 ∷ device.0 ∷ []
task_numbers network device (doing (dispatching row cycle)) = 6 ∷ device.0 ∷ dispatch_order network row

-- where it stands, if it is done at this time
abbrev pub task_place : Network → ℕ → DeviceId → Task → List ℕ
task_place network t device task = t ∷ task_numbers network device task

-- the device does the task by itself at the time; a correction point comes then, whatever it comes to
pub data IsActing (s : Scenario) (hs : List Happening) (t : ℕ) (device : DeviceId) : Task → Type 0 where
  emits : (sent : Compressed) (verdict : Judgement) → Emits s hs device t sent verdict
      → IsActing s hs t device (emitting sent)
  sends : (cycle : ℕ) → Sends s hs device t cycle → IsActing s hs t device (doing (sending cycle))
  corrects : (cycle : ℕ) → IsAtCorrection s hs t device cycle → IsActing s hs t device (doing (correcting cycle))
  dispatches : (link : LinkId) (cause : ℕ) (vl : VlId) (cycle : ℕ) → (d : Dispatches s hs device t link cause vl cycle)
      → IsActing s hs t device (doing (dispatching (record { 0 = d.place }) cycle))

-- a source with its place: what arrives, what ripens, what acts and what leaves; a record of this very time, what
-- follows it standing behind all events of the time and before all else; an event; or, at the end, the clock of a
-- device, whose record shows what all other records of that time leave it with
pub data IsSource (s : Scenario) (hs : List Happening) : List ℕ → Type 0 where
  arriving : (t : ℕ) (device : DeviceId) (link : LinkId) (cause : ℕ) → IsArriving s hs t device link cause
      → IsSource s hs (t ∷ 2 ∷ device.0 ∷ link.0 ∷ cause ∷ [])
  ripening : (t : ℕ) (device : DeviceId) (link : LinkId) (cause : ℕ) (point : Units)
      → (r : IsRipening s hs t device link cause point)
      → IsSource s hs (t ∷ 3 ∷ device.0 ∷ amount point ∷ r.frame.members.0 ∷ link.0 ∷ cause ∷ [])
  acting : (t : ℕ) (device : DeviceId) (task : Task) → IsActing s hs t device task
      → IsSource s hs (task_place s.network t device task)
  departing : (t : ℕ) (device : DeviceId) (link : LinkId) (cause : ℕ) → IsDeparting s hs t device link cause
      → IsSource s hs (t ∷ 8 ∷ device.0 ∷ link.0 ∷ cause ∷ [])
  following : (t cause : ℕ) (h : Happening) → IsOfThisTime hs t cause h → IsSource s hs (t ∷ 2 ∷ [])
  befalling : (time : Units) (line : ℕ) (what : What) → IsEventRecord s.events time line what
      → IsSource s hs (amount time ∷ 1 ∷ [])
  ending : (time : Units) (device : DeviceId) (is : Device) → device_at s.network device ≡ Some is
      → EndsAt s.events time → IsSource s hs (amount time ∷ 14 ∷ device.0 ∷ [])

-- the place of the very source that a record of this body, with a frame of these members, comes from
abbrev pub IsOwnSource : Scenario → List Happening → ℕ → ℕ → NoteBody → List ℕ → Type 0
IsOwnSource s hs t members (notes.Event line what) w = w ≡ t ∷ 1 ∷ []
IsOwnSource s hs t members (notes.Arrived device link cause clock) w = w ≡ t ∷ 2 ∷ device.0 ∷ link.0 ∷ cause ∷ []
IsOwnSource s hs t members (notes.Permanent device link cause point verdict) w =
    w ≡ t ∷ 3 ∷ device.0 ∷ amount point ∷ members ∷ link.0 ∷ cause ∷ []
IsOwnSource s hs t members (notes.Compressed device opened at cycle of_masters verdict) w =
    w ≡ task_place s.network t device
    (emitting (record { opened = opened; at = at; cycle = cycle; members = of_masters }))
IsOwnSource s hs t members (notes.Sent device cycle) w = w ≡ task_place s.network t device (doing (sending cycle))
IsOwnSource s hs t members (notes.Corrected device cycle by adjustment) w =
    w ≡ task_place s.network t device (doing (correcting cycle))
IsOwnSource s hs t members (notes.State device state cause SyncClique) w =
    (cycle : ℕ) × (w ≡ task_place s.network t device (doing (correcting cycle)))
IsOwnSource s hs t members (notes.State device state cause AsyncClique) w =
    (cycle : ℕ) × (w ≡ task_place s.network t device (doing (correcting cycle)))
IsOwnSource s hs t members (notes.State device state cause why) w = w ≡ t ∷ 2 ∷ []
IsOwnSource s hs t members (notes.Left device link cause clock) w = w ≡ t ∷ 8 ∷ device.0 ∷ link.0 ∷ cause ∷ []
IsOwnSource s hs t members (notes.Lost device link cause) w =
    ((w ≡ t ∷ 8 ∷ device.0 ∷ link.0 ∷ cause ∷ []) × Departs s hs device t link cause on_cut_way)
    ⊎ (((vl : VlId) × (cycle : ℕ) × (d : Dispatches s hs device t link cause vl cycle)
    × (is_cut s link (way_from s.network device link) t ≡ true)
    × (w ≡ task_place s.network t device (doing (dispatching (record { 0 = d.place }) cycle))))
    ⊎ ((w ≡ t ∷ 2 ∷ []) × IsSendLost s hs device t link cause))
IsOwnSource s hs t members (notes.TtSent device link cause vl cycle) w =
    (d : Dispatches s hs device t link cause vl cycle)
    × (w ≡ task_place s.network t device (doing (dispatching (record { 0 = d.place }) cycle)))
IsOwnSource s hs t members (notes.Accepted device link cause vl cycle) w = w ≡ t ∷ 2 ∷ device.0 ∷ link.0 ∷ cause ∷ []
IsOwnSource s hs t members (notes.Delivered device link cause vl cycle) w = w ≡ t ∷ 2 ∷ device.0 ∷ link.0 ∷ cause ∷ []
IsOwnSource s hs t members (notes.Dropped device link cause reason) w =
    ((w ≡ t ∷ 2 ∷ device.0 ∷ link.0 ∷ cause ∷ []) × ArrivesAs s hs device t link cause (arrivals.Dropped reason))
    ⊎ (((point : Units) × (r : BecomesPermanent s hs device t link cause point (ripe.Dropped reason))
    × (w ≡ t ∷ 3 ∷ device.0 ∷ amount point ∷ r.frame.members.0 ∷ link.0 ∷ cause ∷ []))
    ⊎ ((w ≡ t ∷ 8 ∷ device.0 ∷ link.0 ∷ cause ∷ []) × Departs s hs device t link cause too_old))
IsOwnSource s hs t members (notes.Clock device reading adjustment state) w = w ≡ t ∷ 14 ∷ device.0 ∷ []

-- the record has a source at its place or before
pub record IsSourced (s : Scenario) (hs : List Happening) (y : Happening) : Type 0 where
  pub place : List ℕ
  pub own : IsOwnSource s hs (time_of y) (members_in y) y.note.body place
  pub source : IsSource s hs place
  pub no_later : (place ≡ place_of y) ⊎ IsBefore place (place_of y)

-- each record that is due has a source
abbrev pub DueIsSourced : Type 0
DueIsSourced = (s : Scenario) (hs : List Happening) (y : Happening) → IsDue s hs y → IsSourced s hs y

-- What becomes of a frame that arrives, given the records before it.
use Rattle.std.specs.{List.last_or, Prelude.{option_and_then, ℕ}}
use Rattle.std.specs.Prelude.{◌&&◌, ◌==◌, ◌||◌, ◌≡◌, Bool, List, None, Option, Some, false, filter, nat_lt}
use Rattle.net_plan.specs.declared.ids.{DeviceId.DeviceId, LinkId.LinkId, VlId.VlId}
use Rattle.run_law.specs.control.{Arrivals.control_arrival, Wires.{Arrives, Signal, control, timed}}
use Rattle.run_law.specs.{declared.{note.NoteBody.NoteBody, steps.Arrival.Arrival}, device.Standpoints.standpoint}
use Rattle.run_law.specs.{records.Happenings.{Happening, numbered, time_of}, scenario.Scenarios.Scenario}
use Rattle.run_law.specs.timed.Arrivals.{timed_arrival}
use Rattle.run_law.specs.declared.note.NoteBody.TheVariants as notes

-- is the arrival of this link and cause, at one time, before that of the other?
abbrev pub comes_before : LinkId → ℕ → LinkId → ℕ → Bool
comes_before link cause other of_other = nat_lt link.0 other.0 || (link.0 == other.0 && nat_lt cause of_other)

-- did the device take a frame of the virtual link by this record, before one with this link and cause at the time?
abbrev pub is_taken_before : DeviceId → VlId → ℕ → LinkId → ℕ → ℕ → NoteBody → Bool
is_taken_before device vl t link cause at (notes.Accepted other by from of_vl cycle) =
    device.0 == other.0 && vl.0 == of_vl.0 && (nat_lt at t || (at == t && comes_before by from link cause))
is_taken_before device vl t link cause at (notes.Delivered other by from of_vl cycle) =
    device.0 == other.0 && vl.0 == of_vl.0 && (nat_lt at t || (at == t && comes_before by from link cause))
is_taken_before device vl t link cause at other = false

-- the cycle in which a frame was taken
abbrev pub taken_cycle : NoteBody → Option ℕ
taken_cycle (notes.Accepted device link cause vl cycle) = Some cycle
taken_cycle (notes.Delivered device link cause vl cycle) = Some cycle
taken_cycle other = None

-- the cycle in which the device took the last frame of the virtual link, before one with this link and cause
abbrev pub last_taken : List Happening → DeviceId → ℕ → LinkId → ℕ → VlId → Option ℕ
last_taken hs device t link cause vl =
    option_and_then (λ h. taken_cycle h.note.body)
    (last_or None (filter (λ h. is_taken_before device vl t link cause (time_of h) h.note.body) hs))

-- what becomes of what arrives
abbrev pub arrival_of : Scenario → List Happening → DeviceId → ℕ → LinkId → ℕ → Signal → Arrival
arrival_of s hs device t link cause (control frame) =
    control_arrival s.network device link (standpoint s hs device t) frame
arrival_of s hs device t link cause (timed octets) =
    timed_arrival s.network device link (standpoint s hs device t) octets (last_taken hs device t link cause)

-- what the record with the number `cause` put on the link arrives at the device at the time, and this becomes of it
pub record ArrivesAs (s : Scenario) (hs : List Happening) (device : DeviceId) (t : ℕ) (link : LinkId) (cause : ℕ)
    (is : Arrival) : Type 0 where
  pub putting : Happening
  pub there : numbered hs cause ≡ Some putting
  pub signal : Signal
  pub arrives : Arrives s putting device link t signal
  pub becomes : is ≡ arrival_of s hs device t link cause signal

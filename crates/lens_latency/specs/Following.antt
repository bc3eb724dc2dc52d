-- What is kept of the records of a report so far.
use Rattle.std.specs.Prelude.{◌-◌, ◌==◌, ◌≡◌, Bool, List, None, Option, Some, false, if◌then◌else◌, length}
use Rattle.std.specs.Prelude.{option_and_then, slice_get, suc, zero, ℕ}
use Rattle.lens_latency.specs.{Arrivals.{AreGiven, IsArrivalBy, IsDepartureOf}, declared.arrivals.FrameArrival.FrameArrival}
use Rattle.net_plan.specs.declared.network.Network.{Network}
use Rattle.run_law.specs.declared.{note.Note.Note, note.NoteBody.NoteBody}
use Rattle.run_law.specs.records.{Causes.cause_of, Happenings.{Happening, happenings, numbered}}
use Rattle.run_law.specs.declared.note.NoteBody.TheVariants as notes

-- does a frame leave its sender by the record?
abbrev pub is_departure : NoteBody → Bool
is_departure (notes.TtSent device link cause vl cycle) = cause == 0
is_departure other = false

-- what is kept for the record of this number, or none for 0 and where nothing is kept
abbrev pub departure_at : List (Option ℕ) → ℕ → Option ℕ
departure_at kept zero = None
departure_at kept (suc before) = option_and_then (λ one. one) (slice_get kept before)

-- what is kept for a record at the time, by what is kept for those before it
abbrev pub departure_by : List (Option ℕ) → ℕ → NoteBody → Option ℕ
departure_by kept time body = if is_departure body then Some time else departure_at kept (cause_of body)

-- the arrival that a record at the time tells, by the time of its departure
abbrev pub arrival_by : Option ℕ → ℕ → NoteBody → Option FrameArrival
arrival_by (Some left) time (notes.Delivered device link cause vl cycle) =
    Some (record { vl = vl; device = device; time = time - left })
arrival_by departure time body = None

-- of all these records these first ones were taken: the departure of each is kept, and their arrivals
pub record IsFollowed (network : Network) (ns before : List Note) (kept : List (Option ℕ)) (arrivals : List FrameArrival)
    : Type 0 where
  pub count : length kept ≡ length before
  pub departures : (n : ℕ) (h : Happening) → numbered (happenings network before) n ≡ Some h
      → IsDepartureOf (happenings network ns) h (departure_at kept n)
  pub told : AreGiven (IsArrivalBy (happenings network ns)) (happenings network before) arrivals

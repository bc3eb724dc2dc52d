-- When the frames that the records of a report deliver left their senders.
use Rattle.std.specs.{List.cons_option, Prelude.{◌-◌, ◌∷◌, ◌≡◌, List, None, Option, Some, [], ℕ}}
use Rattle.{lens_latency.specs.declared.arrivals.FrameArrival.FrameArrival, net_plan.specs.declared.ids.LinkId.LinkId}
use Rattle.run_law.specs.{declared.note.NoteBody.NoteBody, records.{Causes.GoesBackTo, Happenings.{Happening, time_of}}}
use Rattle.run_law.specs.declared.note.NoteBody.TheVariants as notes

-- a frame leaves its sender by the record: it is dispatched, and no record gave it
abbrev pub IsDeparture : NoteBody → Type 0
IsDeparture (notes.TtSent device link cause vl cycle) = cause ≡ 0
IsDeparture other = ⊥

-- the record's causes go back to a departure at this time
pub record HasDeparted (hs : List Happening) (h : Happening) (t : ℕ) : Type 0 where
  pub first : Happening
  pub back : GoesBackTo hs h first
  pub departs : IsDeparture first.note.body
  pub at : time_of first ≡ t

-- the time of the departure that the record's causes go back to, or none where they go back to no departure
abbrev pub IsDepartureOf : List Happening → Happening → Option ℕ → Type 0
IsDepartureOf hs h None = (t : ℕ) → HasDeparted hs h t → ⊥
IsDepartureOf hs h (Some t) = HasDeparted hs h t

-- the record says that the frame is delivered, so long after its departure
pub record IsArrival (hs : List Happening) (h : Happening) (arrival : FrameArrival) : Type 0 where
  pub link : LinkId
  pub cause : ℕ
  pub cycle : ℕ
  pub is : h.note.body ≡ notes.Delivered arrival.device link cause arrival.vl cycle
  pub left : ℕ
  pub departed : HasDeparted hs h left
  pub time : arrival.time ≡ time_of h - left

-- the arrival that the record tells, or none where it tells none
abbrev pub IsArrivalBy : List Happening → Happening → Option FrameArrival → Type 0
IsArrivalBy hs h None = (arrival : FrameArrival) → IsArrival hs h arrival → ⊥
IsArrivalBy hs h (Some arrival) = IsArrival hs h arrival

-- what each of these gives, in their order
abbrev pub AreGiven : {X Y : Type 0} → (X → Option Y → Type 0) → List X → List Y → Type 0
AreGiven Gives [] ys = ys ≡ []
AreGiven {X} {Y} Gives (x ∷ xs) ys =
    (given : Option Y) × (others : List Y) × Gives x given × AreGiven Gives xs others × (ys ≡ cons_option given others)

-- all arrivals that the records tell
abbrev pub AreArrivals : List Happening → List FrameArrival → Type 0
AreArrivals hs arrivals = AreGiven (IsArrivalBy hs) hs arrivals

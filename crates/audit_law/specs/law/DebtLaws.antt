-- What holds of the debts of records.
use Rattle.std.specs.Prelude.{◌++◌, ◌+◌, ◌<◌, ◌↔◌, ◌∷◌, ◌≡◌, ◌≤◌, List, [], ℕ}
use Rattle.audit_law.specs.law.{Arrivals.{IsDueByArrival, OwesArrival, TellsArrival}, Debts.{AreDebts, IsPaid}}
use Rattle.audit_law.specs.law.{Changes.{IsDueByChange, OwesChange, TellsChange}, Owed.{Debt, IsOwed, Pays, falls_due}}
use Rattle.audit_law.specs.law.{CorrectionPoints.{IsDueByPoint, OwesPoint, TellsPoint}, Findings.{AreSound, IsLacking}}
use Rattle.audit_law.specs.law.{Departures.{IsDueByLeaving, OwesDeparture, TellsDeparture, leaves_at}, DueRecords.IsDue}
use Rattle.audit_law.specs.law.Dispatched.{IsDueByDispatch, IsDueBySending, OwesDispatch, OwesSending, TellsDispatch}
use Rattle.audit_law.specs.law.{Dispatched.TellsSending, Emitted.{IsDueByEmission, OwesEmission, TellsEmission}}
use Rattle.audit_law.specs.law.EndClocks.{IsDueByEnd, OwesClock, TellsClock}
use Rattle.{audit_law.specs.law.LostSends.{IsDueBySend, OwesLoss, TellsLoss}, net_plan.specs.declared.ids.LinkId.LinkId}
use Rattle.audit_law.specs.law.Permanences.{IsDueByPermanence, OwesPermanence, TellsPermanence}
use Rattle.{audit_law.specs.law.TracedEvents.{IsDueByEvent, OwesEvent, TellsEvent}, tte_units.specs.Amount.amount}
use Rattle.{compression.specs.declared.compressed.Compressed.Compressed, net_plan.specs.declared.ids.DeviceId.DeviceId}
use Rattle.run_law.specs.records.{Happenings.{Happening, time_of}, Order.{IsBefore, IsIn}, Ranks.place_of}
use Rattle.run_law.specs.{runs.Runs.{IsFounded, IsRun}, scenario.Scenarios.Scenario}

-- what a list of records owes up to a time: these are its debts that are paid by what is due so, and when they fall due
abbrev pub AreOwed : {O : Type 0} → Scenario → List Happening → ℕ → (List Happening → Happening → Type 0)
    → (IsOwed : O → Type 0) → ((o : O) → IsOwed o → ℕ) → (Happening → O → Type 0) → Type 0
AreOwed {O} s hs until IsDueSo IsOwed falls Pays =
    AreDebts place_of (IsDue s) IsDueSo ((until + 1) ∷ []) hs IsOwed falls Pays

-- every list of records that are due owes for each event its record
abbrev pub EventLaw : Type 0
EventLaw =
    (s : Scenario) (hs : List Happening) (until : ℕ) → IsFounded place_of (IsDue s) hs
    → AreOwed s hs until (IsDueByEvent s) (OwesEvent s until) (λ line o. amount o.event.time)
    (λ x line. TellsEvent line x.note.body)

-- for each frame that is given to a link its leaving, its loss or its drop
abbrev pub DepartureLaw : Type 0
DepartureLaw =
    (s : Scenario) (hs : List Happening) (until : ℕ) → IsFounded place_of (IsDue s) hs
    → AreOwed s hs until (IsDueByLeaving s) (λ (given : ℕ × LinkId). OwesDeparture s hs until given.0 given.1)
    (λ given o. leaves_at s o.device given.1 o.giving)
    (λ x given. TellsDeparture given.0 given.1 x.note.body)

-- for each frame that is put on a wire its arrival
abbrev pub ArrivalLaw : Type 0
ArrivalLaw =
    (s : Scenario) (hs : List Happening) (until : ℕ) → IsFounded place_of (IsDue s) hs
    → AreOwed s hs until (IsDueByArrival s) (OwesArrival s hs until) (λ cause o. o.time)
    (λ x cause. TellsArrival cause x.note.body)

-- for each record that changes a device's state, by an event, a frame or a correction, the record of that state
abbrev pub ChangeLaw : Type 0
ChangeLaw =
    (s : Scenario) (hs : List Happening) (until : ℕ) → IsFounded place_of (IsDue s) hs
    → AreOwed s hs until (IsDueByChange s) (OwesChange s hs until) (λ cause o. o.time)
    (λ x cause. TellsChange cause x.note.body)

-- for each `send` event on a way that is cut its loss
abbrev pub LossLaw : Type 0
LossLaw =
    (s : Scenario) (hs : List Happening) (until : ℕ) → IsFounded place_of (IsDue s) hs
    → AreOwed s hs until (IsDueBySend s) (OwesLoss s hs until) (λ cause o. o.time)
    (λ x cause. TellsLoss cause x.note.body)

-- for each device, where the events end, its clock
abbrev pub ClockLaw : Type 0
ClockLaw =
    (s : Scenario) (hs : List Happening) (until : ℕ) → IsFounded place_of (IsDue s) hs
    → AreOwed s hs until (IsDueByEnd s) (λ (at : DeviceId × ℕ). OwesClock s until at.0 at.1)
    (λ at o. at.1)
    (λ x at. TellsClock at.0 at.1 x)

-- for each frame that has arrived and waits, what becomes of it at its point
abbrev pub PermanenceLaw : Type 0
PermanenceLaw =
    (s : Scenario) (hs : List Happening) (until : ℕ) → IsFounded place_of (IsDue s) hs
    → AreOwed s hs until (IsDueByPermanence s) (OwesPermanence s hs until) (λ cause o. o.time)
    (λ x cause. TellsPermanence cause x.note.body)

-- for each cluster of a compression master, the frame that it sends
abbrev pub EmissionLaw : Type 0
EmissionLaw =
    (s : Scenario) (hs : List Happening) (until : ℕ) → IsFounded place_of (IsDue s) hs
    → AreOwed s hs until (IsDueByEmission s) (λ (o : DeviceId × Compressed). OwesEmission s hs until o.0 o.1)
    (λ given o. o.time)
    (λ x o. TellsEmission o.0 o.1 x.note.body)

-- for each cycle that a synchronised master begins, the frame that it sends
abbrev pub SendingLaw : Type 0
SendingLaw =
    (s : Scenario) (hs : List Happening) (until : ℕ) → IsFounded place_of (IsDue s) hs
    → AreOwed s hs until (IsDueBySending s) (OwesSending s hs until) (λ given o. given.time)
    (λ x o. TellsSending o x)

-- for each row's frame that a synchronised device has at hand at its offset, its dispatch, or its loss
abbrev pub DispatchLaw : Type 0
DispatchLaw =
    (s : Scenario) (hs : List Happening) (until : ℕ) → IsFounded place_of (IsDue s) hs
    → AreOwed s hs until (IsDueByDispatch s) (OwesDispatch s hs until) (λ given o. given.time)
    (λ x o. TellsDispatch s o x)

-- and for each correction point at which a device does not only clear, its correction, or its state by a clique
abbrev pub PointLaw : Type 0
PointLaw =
    (s : Scenario) (hs : List Happening) (until : ℕ) → IsFounded place_of (IsDue s) hs
    → AreOwed s hs until (IsDueByPoint s) (λ (at : DeviceId × ℕ). OwesPoint s hs until at.0 at.1)
    (λ at o. at.1)
    (λ x at. TellsPoint at.0 at.1 x)

-- in a list whose records are sound up to a time each pays a debt, at its time; the list lacks what its unpaid debts
-- want, each at its time; and it is the run where each is paid
pub record ShowsInDebts (s : Scenario) (hs : List Happening) (until : ℕ) : Type 0 where
  pub pays : (x : Happening) → IsIn x hs → (o : Debt) × IsOwed s hs until o × Pays s x o
  pub paid : (x : Happening) → IsIn x hs → (o : Debt) (owed : IsOwed s hs until o) → Pays s x o
      → time_of x ≡ falls_due s hs until o owed
  pub lacking : (x : Happening) → IsLacking place_of (IsDue s) hs x → IsBefore (place_of x) ((until + 1) ∷ [])
      → (o : Debt) × (owed : IsOwed s hs until o) × Pays s x o × (time_of x ≡ falls_due s hs until o owed)
      × (IsPaid hs (Pays s) o → ⊥)
  pub unpaid : (o : Debt) (owed : IsOwed s hs until o) → (IsPaid hs (Pays s) o → ⊥)
      → (x : Happening) × IsLacking place_of (IsDue s) hs x × IsBefore (place_of x) ((until + 1) ∷ []) × Pays s x o
      × (time_of x ≡ falls_due s hs until o owed)
  pub run : IsRun place_of (IsDue s) ((until + 1) ∷ []) hs ↔ ((o : Debt) → IsOwed s hs until o → IsPaid hs (Pays s) o)

-- so it is of every list whose records are all sound
abbrev pub DebtLaw : Type 0
DebtLaw =
    (s : Scenario) (hs : List Happening) (until : ℕ) → AreSound place_of (IsDue s) ((until + 1) ∷ []) hs
    → ShowsInDebts s hs until

-- at this time, the first such, a record is due up to the end that is not there
pub record IsFirstLack (s : Scenario) (hs : List Happening) (until time : ℕ) : Type 0 where
  pub missing : Happening
  pub lacking : IsLacking place_of (IsDue s) hs missing
  pub within : IsBefore (place_of missing) ((until + 1) ∷ [])
  pub at : time ≡ time_of missing
  pub first : (other : Happening) → IsLacking place_of (IsDue s) hs other → time ≤ time_of other

-- at this time, the first such, a debt falls due that no record of the list pays
pub record IsFirstDebt (s : Scenario) (hs : List Happening) (until time : ℕ) : Type 0 where
  pub debt : Debt
  pub owed : IsOwed s hs until debt
  pub unpaid : IsPaid hs (Pays s) debt → ⊥
  pub at : time ≡ falls_due s hs until debt owed
  pub first : (other : Debt) (is : IsOwed s hs until other) → (IsPaid hs (Pays s) other → ⊥)
      → time ≤ falls_due s hs until other is

-- where the records are all sound, one is first lacking at the time at which a debt is first unpaid
abbrev pub LackLaw : Type 0
LackLaw =
    (s : Scenario) (hs : List Happening) (until time : ℕ) → AreSound place_of (IsDue s) ((until + 1) ∷ []) hs
    → IsFirstLack s hs until time ↔ IsFirstDebt s hs until time

-- what a list owes up to a time, its front does behind which all is later
abbrev pub SettledLaw : Type 0
SettledLaw =
    (s : Scenario) (before behind : List Happening) (until : ℕ) → IsFounded place_of (IsDue s) (before ++ behind)
    → ((h : Happening) → IsIn h behind → until < time_of h) → (o : Debt)
    → IsOwed s before until o ↔ IsOwed s (before ++ behind) until o

-- All that a list of records owes.
use Rattle.std.specs.Prelude.{List, ℕ}
use Rattle.audit_law.specs.law.{Arrivals.{OwesArrival, TellsArrival}, Permanences.{OwesPermanence, TellsPermanence}}
use Rattle.audit_law.specs.law.{Changes.{OwesChange, TellsChange}, TracedEvents.{OwesEvent, TellsEvent}}
use Rattle.audit_law.specs.law.{CorrectionPoints.{OwesPoint, TellsPoint}, Emitted.{OwesEmission, TellsEmission}}
use Rattle.audit_law.specs.law.{Departures.{OwesDeparture, TellsDeparture, leaves_at}, Dispatched.TellsSending}
use Rattle.audit_law.specs.law.Dispatched.{Dispatch, OwesDispatch, OwesSending, Sending, TellsDispatch}
use Rattle.audit_law.specs.law.{EndClocks.{OwesClock, TellsClock}, LostSends.{OwesLoss, TellsLoss}}
use Rattle.{compression.specs.declared.compressed.Compressed.Compressed, net_plan.specs.declared.ids.DeviceId.DeviceId}
use Rattle.{net_plan.specs.declared.ids.LinkId.LinkId, run_law.specs.records.Happenings.Happening}
use Rattle.{run_law.specs.scenario.Scenarios.Scenario, tte_units.specs.Amount.amount}

-- what a record is owed for: an event by its line; what a record brings, by its number; or what a clock comes to, by
-- the device and the time or the frame
pub data Debt : Type 0 where
  event : ℕ → Debt
  arrival : ℕ → Debt
  permanence : ℕ → Debt
  emission : DeviceId → Compressed → Debt
  sending : Sending → Debt
  point : DeviceId → ℕ → Debt
  change : ℕ → Debt
  departure : ℕ → LinkId → Debt
  dispatch : Dispatch → Debt
  loss : ℕ → Debt
  clock : DeviceId → ℕ → Debt

-- the list owes it up to the time
abbrev pub IsOwed : Scenario → List Happening → ℕ → Debt → Type 0
IsOwed s hs until (event line) = OwesEvent s until line
IsOwed s hs until (arrival cause) = OwesArrival s hs until cause
IsOwed s hs until (permanence cause) = OwesPermanence s hs until cause
IsOwed s hs until (emission device sent) = OwesEmission s hs until device sent
IsOwed s hs until (sending o) = OwesSending s hs until o
IsOwed s hs until (point device time) = OwesPoint s hs until device time
IsOwed s hs until (change cause) = OwesChange s hs until cause
IsOwed s hs until (departure cause link) = OwesDeparture s hs until cause link
IsOwed s hs until (dispatch o) = OwesDispatch s hs until o
IsOwed s hs until (loss cause) = OwesLoss s hs until cause
IsOwed s hs until (clock device time) = OwesClock s until device time

-- a record of this kind pays it
abbrev pub Pays : Scenario → Happening → Debt → Type 0
Pays s x (event line) = TellsEvent line x.note.body
Pays s x (arrival cause) = TellsArrival cause x.note.body
Pays s x (permanence cause) = TellsPermanence cause x.note.body
Pays s x (emission device sent) = TellsEmission device sent x.note.body
Pays s x (sending o) = TellsSending o x
Pays s x (point device time) = TellsPoint device time x
Pays s x (change cause) = TellsChange cause x.note.body
Pays s x (departure cause link) = TellsDeparture cause link x.note.body
Pays s x (dispatch o) = TellsDispatch s o x
Pays s x (loss cause) = TellsLoss cause x.note.body
Pays s x (clock device time) = TellsClock device time x

-- when it falls due
abbrev pub falls_due : (s : Scenario) (hs : List Happening) (until : ℕ) (o : Debt) → IsOwed s hs until o → ℕ
falls_due s hs until (event line) o = amount o.event.time
falls_due s hs until (arrival cause) o = o.time
falls_due s hs until (permanence cause) o = o.time
falls_due s hs until (emission device sent) o = o.time
falls_due s hs until (sending given) o = given.time
falls_due s hs until (point device time) o = time
falls_due s hs until (change cause) o = o.time
falls_due s hs until (departure cause link) o = leaves_at s o.device link o.giving
falls_due s hs until (dispatch given) o = given.time
falls_due s hs until (loss cause) o = o.time
falls_due s hs until (clock device time) o = time

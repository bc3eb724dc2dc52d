-- When the masters of a run dispatch the frames of a cycle.
use Rattle.std.specs.Prelude.{◌*◌, ◌+ℤ◌, ◌+◌, ◌-ℤ◌, ◌≡◌, ◌≤ℤ◌, ◌≤◌, List, false, pos, suc, zero, ℕ, ℤ}
use Rattle.{net_plan.specs.declared.ids.DeviceId.DeviceId, schedule_tables.specs.Margins.dispatch_spread}
use Rattle.{precision_law.specs.Precision.IsRunUpTo, run_law.specs.{declared.note.Note.Note, records.Order.IsIn}}
use Rattle.run_law.specs.{records.Happenings.{Happening, happenings, time_of}, scenario.Scenarios.{Scenario, is_broken}}
use Rattle.tte_units.specs.Amount.{amount}
use Rattle.run_law.specs.declared.note.NoteBody.TheVariants as notes

-- by the record, up to the time t, a master that is correct then dispatched the frame of the cycle
pub record IsDispatchedBy (s : Scenario) (hs : List Happening) (t cycle : ℕ) (h : Happening) : Type 0 where
  pub there : IsIn h hs
  pub master : DeviceId
  pub is : h.note.body ≡ notes.Sent master cycle
  pub correct : is_broken s master t ≡ false
  pub by_then : time_of h ≤ t

-- the dispatches of the cycle lie from the first to the last, both of which there are
pub record LieFromTo (s : Scenario) (hs : List Happening) (t cycle : ℕ) (first last : ℤ) : Type 0 where
  pub earliest : Happening
  pub is_earliest : IsDispatchedBy s hs t cycle earliest
  pub first_is : pos (time_of earliest) ≡ first
  pub latest : Happening
  pub is_latest : IsDispatchedBy s hs t cycle latest
  pub last_is : pos (time_of latest) ≡ last
  pub each : (h : Happening) → IsDispatchedBy s hs t cycle h
      → (first ≤ℤ pos (time_of h)) × (pos (time_of h) ≤ℤ last)

-- so do those of any cycle; for cycle 0, in which nothing is dispatched, the starts of the clocks stand for them
abbrev pub AreFromTo : Scenario → List Happening → ℕ → ℕ → ℤ → ℤ → Type 0
AreFromTo s hs t zero first last = (first ≡ (pos 0 -ℤ pos (amount s.network.settled))) × (last ≡ pos 0)
AreFromTo s hs t (suc cycle) first last = LieFromTo s hs t (suc cycle) first last

-- ---- all dispatches, those of masters that break later among them

-- by the record, up to the time t, a master dispatched the frame of the cycle
pub record IsDispatchOf (hs : List Happening) (t cycle : ℕ) (h : Happening) : Type 0 where
  pub there : IsIn h hs
  pub master : DeviceId
  pub is : h.note.body ≡ notes.Sent master cycle
  pub by_then : time_of h ≤ t

-- the dispatches of a cycle lie at most this far apart
abbrev pub DispatchesStayNear : Type 0
DispatchesStayNear =
    (s : Scenario) (mark : List ℕ) (ns : List Note) (until : ℕ) → IsRunUpTo s mark ns until
    → (cycle : ℕ) (g h : Happening) → IsDispatchOf (happenings s.network ns) until cycle g
    → IsDispatchOf (happenings s.network ns) until cycle h
    → time_of g ≤ time_of h + dispatch_spread s.network

-- from each cycle to the next the distance of the dispatches halves, but for half of how far apart clocks may start:
-- where those of a cycle lie from `first` to `last`, any two of the next one lie at most half of this apart, and half
-- of how far the clocks may lie apart at their starts
abbrev pub DispatchesHalve : Type 0
DispatchesHalve =
    (s : Scenario) (mark : List ℕ) (ns : List Note) (until : ℕ) → IsRunUpTo s mark ns until
    → (cycle : ℕ) (first last : ℤ) → 1 ≤ cycle
    → ((e : Happening) → IsDispatchOf (happenings s.network ns) until cycle e
    → (first ≤ℤ pos (time_of e)) × (pos (time_of e) ≤ℤ last))
    → (g h : Happening) → IsDispatchOf (happenings s.network ns) until (suc cycle) g
    → IsDispatchOf (happenings s.network ns) until (suc cycle) h
    → pos (2 * time_of g) ≤ℤ (pos (2 * time_of h) +ℤ ((last -ℤ first) +ℤ pos (amount s.network.settled)))

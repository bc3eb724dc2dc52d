-- The frame of a record is given out.
use Rattle.std.specs.Prelude.{◌+◌, ◌<◌, ◌^◌, ◌≡◌, ◌≤◌, IfNone, IfSome, List, None, Option, Some, length}
use Rattle.std.specs.Prelude.{slice_get, ℕ}
use Rattle.drift_world.specs.{Stepping.IsOwn, Views.world_of}
use Rattle.run_law.specs.{records.Happenings.happenings, scenario.Scenarios.Scenario}
use Rattle.{drift_world.specs.declared.state.State.State, tte_units.specs.declared.frames.pcf.Pcf.Pcf}
use Rattle.{net_plan.specs.declared.ids.DeviceId.DeviceId, run_law.specs.declared.note.{Note.Note, NoteBody.NoteBody}}
use Rattle.{net_plan.specs.declared.network.Network.Network, world_state.specs.declared.giving.Giving.Giving}
use Rattle.{world_law.specs.steps.Turns.IsNext, world_state.specs.Frames.IsOneMore}
use Rattle.world_state.specs.{Giving.{ArePutTo, awaited_by, giver_of}, declared.contents.Settled.Settled}

-- the frame of a record is given, or waited for, by this device, whose clock reads so
pub record IsGiver {C M : Type 0} (reading : C → ℕ
    → ℕ) (network : Network) (state : State C M) (body : NoteBody) (frame : Option Pcf) (number : ℕ)
    (giving : Giving) : Type 0 where
  pub by : giver_of body ≡ Some giving.device
  pub there : giving.device.0 < length network.device
  pub time : giving.time ≡ state.time
  pub numbered : giving.number ≡ number
  pub of_frame : frame ≡ Some giving.frame
  pub clock : C
  pub own : slice_get state.clocks.items giving.device.0 ≡ Some clock
  pub reads : giving.reading ≡ reading clock state.time
  pub broken : slice_get state.broken.items giving.device.0 ≡ Some giving.broken

-- the frame of a record is given to ports, or waits, where a device gives it
pub record IsGivenOut {C M : Type 0} (reading : C → ℕ
    → ℕ) (network : Network) (old new : State C M) (body : NoteBody) (frame : Option Pcf)
    (number : ℕ) (giving : Option Giving) : Type 0 where
  pub giver : IfSome giving (IsGiver reading network old body frame number)
  pub no_giver : IfNone giving ((device : DeviceId) → giver_of body ≡ Some device → device.0 < length network.device
      → frame ≡ None)
  pub put : IfSome giving (λ g. ArePutTo (length network.link) network old.ups.items old.downs.items body g
      old.under_way.entries
      new.under_way.entries)
  pub waits : IfSome giving (λ g. IsOneMore (awaited_by network g.broken body (Some g.frame) g.reading g.number)
      old.waiting.items new.waiting.items)
  pub none : IfNone giving (new.under_way.entries ≡ old.under_way.entries)
  pub no_wait : IfNone giving (new.waiting.items ≡ old.waiting.items)

-- no clock is far ahead of the present time
abbrev pub AreLow : {C M : Type 0} → (C → ℕ → ℕ) → State C M → Type 0
AreLow {C} reading state =
    (k : ℕ) (clock : C) → slice_get state.clocks.items k ≡ Some clock → reading clock state.time ≤ 2 ^ 60 + 2 ^ 51

-- some scenario and records are shown by the state, and the record is the next
pub record IsToGive {C M : Type 0} (reading : C → ℕ → ℕ) (network : Network) (state : State C M) (first : Settled)
    : Type 0 where
  pub s : Scenario
  pub notes : List Note
  pub next : IsNext reading s notes (world_of network state) first.body
  pub own : IsOwn s.network network state.time (happenings s.network notes) (Some first)

-- How what is shown of a device goes on by one record.
use Rattle.std.specs.Prelude.{◌++◌, ◌+ℤ◌, ◌+◌, ◌-ℤ◌, ◌∷◌, ◌≡◌, List, Some, [], pos, ℕ, ℤ}
use Rattle.audit_devices.specs.{Effects.carried_by, Showing.{IsReading, IsSteady, Shown, heard_by_then, points_by}}
use Rattle.audit_devices.specs.declared.{effect.Carried.Carried, shown.Readings.Readings}
use Rattle.audit_devices.specs.declared.effect.Effect.{Effect, TheVariants.{Corrects, Hears, Joins, Nothing, Turns}}
use Rattle.{net_plan.specs.declared.ids.DeviceId.DeviceId, run_law.specs.records.Happenings.{Happening, time_of}}
use Rattle.{net_plan.specs.declared.network.Network.Network, sync_state.specs.declared.state.State.TheVariants.Joining}
use Rattle.{run_law.specs.declared.note.NoteBody.NoteBody, tte_units.specs.declared.units.Units.Units}
use Rattle.run_law.specs.scenario.{Devices.plan_of, Scenarios.Scenario}
use Rattle.sync_state.specs.{Plan.expected_at, membership.{Hearing.Hearing, Summary.{Summarizes, Summary, silence}}}

-- the adjustment has just changed to this, and this cycle is next
abbrev pub changed_to : Shown → ℤ → ℕ → ℕ → ℕ → Shown
changed_to shown adjustment cycle t reading = record shown {
  adjustment = adjustment;
  cycle = cycle;
  changed = t;
  at_change = pos reading +ℤ adjustment;
  heard = silence;
  come = 0;
}

-- a frame of the cycle has just told the device the time
abbrev pub joined_to : Shown → ℤ → ℕ → ℕ → ℕ → Shown
joined_to shown adjustment cycle t reading = record (changed_to shown adjustment cycle t reading) {
  state = Joining;
  integrated = Some cycle;
  joined = Some t;
}

-- the adjustment by which the clock shows at the point what is expected of the cycle's frame
abbrev pub adjustment_at : Network → DeviceId → ℕ → Units → ℤ
adjustment_at network device cycle point = expected_at (plan_of network device) cycle -ℤ point.0

-- what is kept of what was heard has this frame more
abbrev pub HearsOne : Summary → Hearing → Summary → Type 0
HearsOne old hearing new = (before : List Hearing) → Summarizes old before → Summarizes new (before ++ hearing ∷ [])

-- the device has heard one more frame, where so many correction points had come
pub record HasHeard (old : Shown) (points : ℕ) (hearing : Hearing) (new : Shown) : Type 0 where
  pub heard : Summary
  pub hears : HearsOne (heard_by_then old points) hearing heard
  pub is : new ≡ record old { heard = heard; come = points }

-- what is shown goes on by a record of this effect at the time, at which the clock reads this
abbrev pub Follows : Network → DeviceId → ℕ → Readings → Effect → Shown → Shown → Type 0
Follows network device t readings Nothing old new = new ≡ old
Follows network device t readings (Turns state) old new = new ≡ record old { state = state }
Follows network device t readings (Corrects cycle adjustment) old new =
    new ≡ changed_to old adjustment.0 (cycle + 1) t readings.now
Follows network device t readings (Joins cycle own point) old new =
    new ≡ joined_to old (adjustment_at network device own point) cycle t readings.now
Follows network device t readings (Hears channel frame within) old new =
    HasHeard old (points_by network old readings.before)
    (record { channel = channel; frame = frame; within = within }) new

-- the record has this time, body and frame, and the clock reads this then
pub record IsMet (s : Scenario) (device : DeviceId) (h : Happening) (t : ℕ) (body : NoteBody) (carried : Carried)
    (readings : Readings) : Type 0 where
  pub time : t ≡ time_of h
  pub body_is : h.note.body ≡ body
  pub frame : carried ≡ carried_by h
  pub reading : IsReading s device (time_of h) readings
  pub steady : IsSteady s device

-- What a record tells of a device is told by its effect.
use Rattle.audit_devices.proofs.Words.{◌+◌, ◌==◌, ◌≡◌, Bool, Corrects, DeviceId, Effect, Happening, Hearing, Hears, Joins, None, NoteBody, Nothing, Option}
use Rattle.audit_devices.proofs.Words.{Scenario, Some, Turns, Units, carried_by, changes_adjustment, effect_by, false, hearing_by, if◌then◌else◌, is_joined_by}
use Rattle.{audit_devices.{proofs.Words.{option_map, true, ℕ}, specs.Effects.heard_on}, sync_state.specs.declared.state.State.State}
use Rattle.{run_law.specs.control.Corrections.{cycle_after, heard_by}, std.proofs.Common.arith, tte_units.specs.declared.frames.channel.Channel.Channel}
use Rattle.{run_law.specs.declared.judgement.Judgement.TheVariants.{Integrates, Outside, Within}, sync_state.specs.declared.state.State.TheVariants.Joining}
use Rattle.run_law.specs.{device.States.{adjustment_with, cycle_in, joined_adjustment, state_with}, scenario.Devices.{channel_of, channel_of_link}}
use Rattle.run_law.specs.declared.note.NoteBody.TheVariants as notes

abbrev pub state_by : State → Effect → State
state_by old (Joins cycle own point) = Joining
state_by old (Turns state) = state
state_by old other = old

abbrev pub adjustment_by : Scenario → DeviceId → Units → Effect → Units
adjustment_by s device old (Joins cycle own point) = joined_adjustment s device own point
adjustment_by s device old (Corrects cycle adjustment) = adjustment
adjustment_by s device old other = old

abbrev pub cycle_by : ℕ → Effect → ℕ
cycle_by next (Joins cycle own point) = cycle
cycle_by next (Corrects cycle adjustment) = cycle + 1
cycle_by next other = next

abbrev pub joins_by : Effect → Bool
joins_by (Joins cycle own point) = true
joins_by other = false

abbrev pub changes_by : Effect → Bool
changes_by (Joins cycle own point) = true
changes_by (Corrects cycle adjustment) = true
changes_by other = false

abbrev pub hearing_of : Effect → Option Hearing
hearing_of (Hears channel frame within) = Some (record { channel = channel; frame = frame; within = within })
hearing_of other = None

-- the cycle of the frame that told the time, or else this
abbrev pub frame_by : ℕ → Effect → ℕ
frame_by frame (Joins cycle own point) = cycle
frame_by frame other = frame

-- what a record tells is told by the effect
pub record Tells (s : Scenario) (device : DeviceId) (frame : ℕ) (state : State → State) (adjustment : Units → Units) (cycle : ℕ → ℕ) (joins changes : Bool)
    (hears : Option Hearing) (e : Effect) : Type 0 where
  pub state_is : (old : State) → state old ≡ state_by old e
  pub adjustment_is : (old : Units) → adjustment old ≡ adjustment_by s device old e
  pub cycle_is : (next : ℕ) → cycle next ≡ cycle_by next e
  pub joins_is : joins ≡ joins_by e
  pub changes_is : changes ≡ changes_by e
  pub hears_is : hears ≡ hearing_of e
  pub frame_is : frame_by frame e ≡ frame

module _ (s : Scenario) (device : DeviceId) where
  quiet : (frame : ℕ) → Tells s device frame (λ old. old) (λ old. old) (λ next. next) false false None Nothing
  quiet frame = grind arith

  quiet_if : (frame : ℕ) (b : Bool) → Tells s device frame (λ old. old) (λ old. old) (λ next. next) false false None
      (if b then Nothing else Nothing)
  quiet_if frame true = quiet frame
  quiet_if frame false = quiet frame

  integrates : (b : Bool) (cycle own : ℕ) (point : Units) → Tells s device cycle (λ old. if b then Joining else old)
      (λ old. if b then joined_adjustment s device own point else old) (λ next. if b then cycle else next) b b None
      (if b then Joins cycle own point else Nothing)
  integrates true cycle own point = grind arith
  integrates false cycle own point = quiet cycle

  hears : (b : Bool) (h : Happening) (channel : Option Channel) (point : Units) (within : Bool)
      → Tells s device (cycle_in h) (λ old. old) (λ old. old) (λ next. next) false false
      (if b then option_map (λ on. heard_by on h point within) channel else None)
      (if b then heard_on channel (carried_by h) point within else Nothing)
  hears true h (Some channel) point within = grind arith
  hears true h None point within = quiet (cycle_in h)
  hears false h channel point within = quiet (cycle_in h)

  corrects : (frame : ℕ) (b : Bool) (cycle : ℕ) (adjustment : Units)
      → Tells s device frame (λ old. old) (λ old. if b then adjustment else old)
      (λ next. if b then cycle + 1 else next) false b None (if b then Corrects cycle adjustment else Nothing)
  corrects frame true cycle adjustment = grind arith
  corrects frame false cycle adjustment = quiet frame

  turns : (frame : ℕ) (b : Bool) (state : State) → Tells s device frame (λ old. if b then state else old)
      (λ old. old) (λ next. next) false false None (if b then Turns state else Nothing)
  turns frame true state = grind arith
  turns frame false state = quiet frame

-- what a record of this body tells of the device
abbrev pub TellsBody : Scenario → DeviceId → Happening → NoteBody → Type 0
TellsBody s device h body =
    Tells s device (cycle_in h) (λ old. state_with device old body) (λ old. adjustment_with s device (cycle_in h) old body)
    (λ next. cycle_after device next h body) (is_joined_by device body) (changes_adjustment device body)
    (hearing_by s.network device h body) (effect_by s.network device (carried_by h) body)

pub tells : (s : Scenario) (device : DeviceId) (h : Happening) (body : NoteBody) → TellsBody s device h body
tells s device h (notes.Permanent other link cause point Integrates) = integrates s device (device.0 == other.0) (cycle_in h) (cycle_in h) point
tells s device h (notes.Permanent other link cause point Within) = hears s device (device.0 == other.0) h (channel_of_link s.network link) point true
tells s device h (notes.Permanent other link cause point Outside) = hears s device (device.0 == other.0) h (channel_of_link s.network link) point false
tells s device h (notes.Permanent other link cause point verdict) = quiet_if s device (cycle_in h) (device.0 == other.0)
tells s device h (notes.Compressed other opened at cycle members Integrates) = integrates s device (device.0 == other.0) (cycle_in h) cycle at
tells s device h (notes.Compressed other opened at cycle members Within) = hears s device (device.0 == other.0) h (channel_of s.network device) at true
tells s device h (notes.Compressed other opened at cycle members Outside) = hears s device (device.0 == other.0) h (channel_of s.network device) at false
tells s device h (notes.Compressed other opened at cycle members verdict) = quiet_if s device (cycle_in h) (device.0 == other.0)
tells s device h (notes.Corrected other cycle by adjustment) = corrects s device (cycle_in h) (device.0 == other.0) cycle adjustment
tells s device h (notes.State other state cause why) = turns s device (cycle_in h) (device.0 == other.0) state
tells s device h body = quiet s device (cycle_in h)

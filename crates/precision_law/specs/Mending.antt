-- Where no device is broken, the switches of a channel that is whole come in.
use Rattle.std.specs.Prelude.{◌+◌, ◌≡◌, ◌≤◌, List, false, pos, ℕ}
use Rattle.net_plan.specs.{Bounds.IsBeta, Places.{IsCmOf, IsSwitchOf}, declared.{ids.DeviceId.DeviceId, tables.Way.Way}}
use Rattle.net_plan.specs.declared.ids.LinkId.{LinkId}
use Rattle.precision_law.specs.{Blocks.IsClique, Precision.IsRunUpTo, Progress.coming_time}
use Rattle.run_law.specs.{declared.{judgement.Why.Why, note.Note.Note}, device.States.{is_off, state_after}, law.Safety.IsInStep}
use Rattle.run_law.specs.records.{Happenings.{Happening, happenings, time_of, up_to}, Order.IsIn}
use Rattle.run_law.specs.scenario.{Faults.{BeginsOn, IsLinkOf}, Scenarios.{Scenario, is_broken}, Ways.is_cut}
use Rattle.{sync_state.specs.declared.state.State.State, tte_units.specs.declared.frames.channel.Channel.Channel}
use Rattle.run_law.specs.declared.note.NoteBody.TheVariants as notes

-- the channel's switches are on at t, and from t to u no way of its links is cut
pub record IsMended (s : Scenario) (hs : List Happening) (channel : Channel) (t u : ℕ) : Type 0 where
  pub on : (switch : DeviceId) → IsSwitchOf s.network channel switch
      → is_off (state_after s (up_to t hs) switch) ≡ false
  pub ways : (link : LinkId) (way : Way) (w : ℕ) → IsLinkOf s.network channel link → t ≤ w → w ≤ u
      → is_cut s link way w ≡ false

-- up to u the compression master keeps the common time: it began on, and no correction point takes the time from it
pub record KeepsTime (s : Scenario) (hs : List Happening) (cm : DeviceId) (u : ℕ) : Type 0 where
  pub on : BeginsOn s.network cm
  pub kept : (h : Happening) (state : State) (cause : ℕ) (why : Why) → IsIn h hs → time_of h ≤ u
      → h.note.body ≡ notes.State cm state cause why → IsClique why → ⊥

-- where no device is broken, the switches of a channel that is mended are synchronised from so long behind it on as an
-- end system takes to come in
abbrev pub MendedChannelsComeIn : Type 0
MendedChannelsComeIn =
    (s : Scenario) (mark : List ℕ) (ns : List Note) (until beta : ℕ) → IsRunUpTo s mark ns until
    → IsBeta s.network (pos beta)
    → (channel : Channel) (switch : DeviceId) (t u : ℕ) → IsSwitchOf s.network channel switch
    → IsMended s (happenings s.network ns) channel t u → ((device : DeviceId) → is_broken s device u ≡ false)
    → t + coming_time s.network beta ≤ u → u ≤ until → IsInStep s (happenings s.network ns) switch u

-- and so they are where the channel's compression master keeps the common time, whichever device is broken
abbrev pub MendedRelaysComeIn : Type 0
MendedRelaysComeIn =
    (s : Scenario) (mark : List ℕ) (ns : List Note) (until beta : ℕ) → IsRunUpTo s mark ns until
    → IsBeta s.network (pos beta)
    → (channel : Channel) (cm switch : DeviceId) (t u : ℕ) → IsCmOf s.network channel cm
    → IsSwitchOf s.network channel switch
    → IsMended s (happenings s.network ns) channel t u → KeepsTime s (happenings s.network ns) cm u
    → t + coming_time s.network beta ≤ u → u ≤ until → IsInStep s (happenings s.network ns) switch u

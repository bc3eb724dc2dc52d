use Rattle.std.specs.Prelude.{◌++◌, ◌<ℤ◌, ◌<◌, ◌∷◌, ◌≡◌, ◌≤◌, ◌⊎◌, All, IsSomeAnd, List, None, Option, Some, ℕ}
use Rattle.sync_state.specs.declared.membership.frame.HeardFrame.{HeardFrame}
use Rattle.sync_state.specs.membership.{Hearing.{Hearing, IsWithinOn, within_on}, Members.count_of}
use Rattle.tte_units.specs.declared.frames.channel.Channel.{Channel}

-- the frame has fewer members than the other, or as many and an earlier point
abbrev pub IsBehind : HeardFrame → HeardFrame → Type 0
IsBehind frame other =
    (count_of frame.members < count_of other.members)
    ⊎ ((count_of frame.members ≡ count_of other.members) × (frame.point.0 <ℤ other.point.0))

-- the frame has as many members as the other, and the same point
abbrev pub IsLevel : HeardFrame → HeardFrame → Type 0
IsLevel frame other = (count_of frame.members ≡ count_of other.members) × (frame.point.0 ≡ other.point.0)

-- the frame was heard within on the channel; each other that was is behind it, or is level with it and was heard
-- earlier
pub record IsBest (heard : List Hearing) (channel : Channel) (frame : HeardFrame) : Type 0 where
  pub before : List Hearing
  pub after : List Hearing
  pub is_heard : heard ≡ before ++ within_on channel frame ∷ after
  pub earlier : All (λ h. IsWithinOn channel h → IsBehind h.frame frame ⊎ IsLevel h.frame frame) before
  pub later : All (λ h. IsWithinOn channel h → IsBehind h.frame frame) after

-- no frame was heard within on the channel
abbrev pub NoneWithin : List Hearing → Channel → Type 0
NoneWithin heard channel = All (λ h. ¬ IsWithinOn channel h) heard

-- the best frame of the channel, if one was heard within on it
abbrev pub IsBestOf : List Hearing → Channel → Option HeardFrame → Type 0
IsBestOf heard channel None = NoneWithin heard channel
IsBestOf heard channel (Some frame) = IsBest heard channel frame

-- there is a best frame, and it has at least as many members as the threshold
abbrev pub Qualifies : ℕ → Option HeardFrame → Type 0
Qualifies threshold best = IsSomeAnd best (λ frame. threshold ≤ count_of frame.members)

-- the better of the best frame so far, if there is one, and a later one
abbrev pub IsBetterOf : Option HeardFrame → HeardFrame → HeardFrame → Type 0
IsBetterOf None later frame = frame ≡ later
IsBetterOf (Some best) later frame = (IsBehind later best × (frame ≡ best)) ⊎ (¬ IsBehind later best × (frame ≡ later))

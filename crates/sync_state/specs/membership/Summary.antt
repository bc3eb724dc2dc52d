use Rattle.std.specs.Prelude.{◌↔◌, ◌≡◌, Any, List, MatchBool, None, Option, Some, ℕ}
use Rattle.tte_units.specs.declared.frames.{channel.Channel.{Channel, TheVariants.{A, B}}, members.Members.Members}
use Rattle.sync_state.specs.{declared.membership.frame.HeardFrame.HeardFrame, membership.Hearing.{Hearing, IsOutside}}
use Rattle.sync_state.specs.membership.{BestFrame.{IsBestOf, IsBetterOf}, Members.{IsMember, none, union}}

-- what is kept of the frames heard: the best of each channel, and the members of those outside
pub record Summary : Type 0 where
  pub best_a : Option HeardFrame
  pub best_b : Option HeardFrame
  pub outside : Members

-- what is kept where nothing was heard
abbrev pub silence : Summary
silence = record { best_a = None; best_b = None; outside = none }

-- the best frame of a channel
abbrev pub best_on : Channel → Summary → Option HeardFrame
best_on A s = s.best_a
best_on B s = s.best_b

-- one more frame came within on the channel: the better of it and the best so far is the best
abbrev pub HearsWithin : Summary → Channel → HeardFrame → Summary → Type 0
HearsWithin old A frame new =
    (best : HeardFrame) × IsBetterOf old.best_a frame best × (new ≡ record old { best_a = Some best })
HearsWithin old B frame new =
    (best : HeardFrame) × IsBetterOf old.best_b frame best × (new ≡ record old { best_b = Some best })

-- one more frame came: within on its channel, or outside, where its members are added to the set
abbrev pub Hears : Summary → Hearing → Summary → Type 0
Hears old h new =
    MatchBool h.within (HearsWithin old h.channel h.frame new)
    (new ≡ record old { outside = union old.outside h.frame.members })

-- a master is in the set exactly where it is a member of a frame that was heard outside
abbrev pub AreOutside : List Hearing → Members → Type 0
AreOutside heard members = (i : ℕ) → IsMember i members ↔ Any (λ h. IsOutside h × IsMember i h.frame.members) heard

-- it is what is kept of these frames
pub record Summarizes (s : Summary) (heard : List Hearing) : Type 0 where
  pub best : (channel : Channel) → IsBestOf heard channel (best_on channel s)
  pub outside : AreOutside heard s.outside

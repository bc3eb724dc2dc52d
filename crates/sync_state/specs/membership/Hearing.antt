use Rattle.std.specs.Prelude.{◌≡◌, Bool, false, true}
use Rattle.sync_state.specs.declared.membership.frame.HeardFrame.{HeardFrame}
use Rattle.tte_units.specs.declared.frames.channel.Channel.{Channel}

-- a frame that was heard, the channel that brought it, and whether it came within its time
pub record Hearing : Type 0 where
  pub channel : Channel
  pub frame : HeardFrame
  pub within : Bool

-- the frame, come by the channel within its time
abbrev pub within_on : Channel → HeardFrame → Hearing
within_on channel frame = record { channel = channel; frame = frame; within = true }

-- it came by this channel, within its time
pub record IsWithinOn (channel : Channel) (h : Hearing) : Type 0 where
  pub channel_is : h.channel ≡ channel
  pub within_is : h.within ≡ true

-- it came outside its time
abbrev pub IsOutside : Hearing → Type 0
IsOutside h = h.within ≡ false

use Rattle.std.specs.Prelude.{if◌then◌else◌, ◌-ℤ◌, ◌≡◌, ◌≤◌, ◌⊎◌, IfSome, None, Option, Some, nat_le, option_and_then}
use Rattle.std.specs.Prelude.{option_map, unwrap_or, ℕ, ⊤}
use Rattle.sync_state.specs.{Plan.expected_at, Standing.{IsAtIntegration, Standing}, declared.answers.Verdict.Verdict}
use Rattle.sync_state.specs.correction.{Correction.correction_of, Deviation.{IsSmall, deviation_of}}
use Rattle.sync_state.specs.declared.answers.Verdict.TheVariants.{AsyncClique, Cleared, Corrected, SyncClique}
use Rattle.sync_state.specs.{declared.membership.frame.HeardFrame.HeardFrame, membership.Summary.{Summary, best_on}}
use Rattle.sync_state.specs.membership.{BestFrame.Qualifies, Members.count_of}
use Rattle.tte_units.specs.declared.{frames.channel.Channel.{Channel, TheVariants.{A, B}}, units.Units.Units}

-- the deviation that a frame shows at the next correction point
abbrev pub deviation_by : Standing → HeardFrame → Units
deviation_by s frame = record { 0 = deviation_of (expected_at s.plan s.number) frame.point.0 s.adjustment.0 }

-- the deviation that the channel shows: that of its best frame, where the channel qualifies
abbrev pub deviation_on : Standing → Summary → Channel → Option Units
deviation_on s heard channel =
    option_and_then (λ frame. if nat_le s.plan.threshold (count_of frame.members) then Some (deviation_by s frame)
    else None) (best_on channel heard)

-- the frame is near enough for whole numbers of 64 bits
pub record IsNear (s : Standing) (frame : HeardFrame) : Type 0 where
  pub difference : IsSmall (expected_at s.plan s.number -ℤ frame.point.0)
  pub deviation : IsSmall (deviation_of (expected_at s.plan s.number) frame.point.0 s.adjustment.0)

-- one of the two channels qualifies
abbrev pub SomeQualifies : Standing → Summary → Type 0
SomeQualifies s heard = Qualifies s.plan.threshold heard.best_a ⊎ Qualifies s.plan.threshold heard.best_b

-- the masters heard outside are at least as many as the members of each channel's best frame
abbrev pub IsOutnumbered : Summary → Type 0
IsOutnumbered heard =
    (channel : Channel) → IfSome (best_on channel heard) (λ frame. count_of frame.members ≤ count_of heard.outside)

-- how many members the channel's best frame has, or 0 where there is none
abbrev pub members_of_best : Summary → Channel → ℕ
members_of_best heard channel = unwrap_or (option_map (λ frame. count_of frame.members) (best_on channel heard)) 0

-- what the next correction point comes to
abbrev pub HasVerdict : Standing → Summary → Verdict → Type 0
HasVerdict s heard Cleared = IsAtIntegration s
HasVerdict s heard SyncClique = ¬ IsAtIntegration s × ¬ SomeQualifies s heard
HasVerdict s heard AsyncClique = ¬ IsAtIntegration s × SomeQualifies s heard × IsOutnumbered heard
HasVerdict s heard (Corrected by) =
    ¬ IsAtIntegration s
    × SomeQualifies s heard
    × ¬ IsOutnumbered heard
    × (correction_of (deviation_on s heard A) (deviation_on s heard B) ≡ Some by)

-- the correction has this property, where the verdict is one
abbrev pub IfCorrected : Verdict → (Units → Type 0) → Type 0
IfCorrected (Corrected by) P = P by
IfCorrected SyncClique P = ⊤
IfCorrected AsyncClique P = ⊤
IfCorrected Cleared P = ⊤

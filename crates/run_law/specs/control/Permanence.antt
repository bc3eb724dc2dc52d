-- How a protocol control frame becomes permanent.
use Rattle.std.specs.Prelude.{◌||◌, ◌≡◌, Bool, List, MatchBool, None, Option, Some, false, filter, not, pos, true, ℕ, ℤ}
use Rattle.{compression.specs.Clusters.{Point, point_at}, tte_units.specs.declared.units.Units.Units}
use Rattle.{compression.specs.declared.taken.Taken.Taken, net_plan.specs.declared.ids.DeviceId.DeviceId}
use Rattle.{drift_clock.specs.Reach.IsReach, run_law.specs.{declared.steps.Ripe.Ripe, records.Order.is_before}}
use Rattle.{drift_clock.specs.transparent.Points.point_of, run_law.specs.records.Ranks.{place_at, place_of}}
use Rattle.{net_plan.specs.declared.ids.LinkId.LinkId, run_law.specs.control.Hearing.heard_as}
use Rattle.{net_plan.specs.declared.network.Network.Network, run_law.specs.declared.judgement.Reason.Reason}
use Rattle.run_law.specs.control.Collections.{IsCollectedAs, master_of, observation_window, point_fault, points_of}
use Rattle.run_law.specs.{control.Collections.ripe_by_role, device.States.{adjustment_at_hearing, state_at_hearing}}
use Rattle.run_law.specs.{declared.judgement.Judgement.Judgement, records.Happenings.{Happening, numbered, time_of}}
use Rattle.run_law.specs.scenario.{Devices.{is_cm, is_parent_of, is_relay, plan_of}, Scenarios.{Scenario, is_broken}}
use Rattle.{sync_state.specs.declared.state.State.State, tte_units.specs.declared.frames.pcf.Pcf.Pcf}
use Rattle.run_law.specs.declared.judgement.Judgement.TheVariants as judgements
use Rattle.run_law.specs.declared.note.NoteBody.TheVariants as notes
use Rattle.run_law.specs.declared.steps.Ripe.TheVariants as ripe

-- does the device wait for the permanence of what comes by the link? A relay does not for what it passes up
abbrev pub waits_for : Network → DeviceId → LinkId → Bool
waits_for network device link = not (is_relay network device) || not (is_parent_of network device link)

-- a judgement, as what becomes of the frame
abbrev pub ripe_as : Judgement → Ripe
ripe_as judgements.Opened = ripe.Opened
ripe_as judgements.Joined = ripe.Joined
ripe_as judgements.Repeat = ripe.Repeat
ripe_as judgements.Within = ripe.Within
ripe_as judgements.Outside = ripe.Outside
ripe_as judgements.Integrates = ripe.Integrates
ripe_as judgements.Ignored = ripe.Ignored

-- the frame of a point behind these is collected so
pub record IsCollectionOutcome (network : Network) (points : List Point) (point : Point) (is : Ripe) : Type 0 where
  pub taken : Taken
  pub collected : IsCollectedAs network points point taken
  pub becomes : is ≡ ripe_by_role taken

-- this becomes of a point at a compression master that has this fault, or none
abbrev pub IsCollectedOrDropped : Network → List Point → Point → Option Reason → Ripe → Type 0
IsCollectedOrDropped network points point (Some reason) is = is ≡ ripe.Dropped reason
IsCollectedOrDropped network points point None is = IsCollectionOutcome network points point is

-- this becomes of a frame that is permanent at a device in this state and with this adjustment: a compression
-- master collects it, behind these points; any other device hears it
abbrev pub IsPermanenceOutcome : Network → DeviceId → State → ℤ → List Point → Pcf → ℤ → Ripe → Type 0
IsPermanenceOutcome network device state adjustment points frame point is =
    MatchBool (is_cm network device)
    (IsCollectedOrDropped network points (point_at point (master_of frame.members.0) frame.cycle)
    (point_fault network state adjustment point frame.cycle) is)
    (is ≡ ripe_as (heard_as (plan_of network device) (observation_window network) state adjustment point frame.cycle
    frame.members))

-- the frame of the `arrived` record with the number `cause` is permanent at the time: the device waits for it, and
-- its reading is first at least the frame's point. A broken device makes no record of it
pub record IsPermanent (s : Scenario) (hs : List Happening) (device : DeviceId) (t : ℕ) (link : LinkId) (cause : ℕ)
    (frame : Pcf) (point : Units) : Type 0 where
  pub arrival : Happening
  pub there : numbered hs cause ≡ Some arrival
  pub from : ℕ
  pub clock : ℕ
  pub arrived : arrival.note.body ≡ notes.Arrived device link from clock
  pub of_frame : arrival.frame ≡ Some frame
  pub waits : waits_for s.network device link ≡ true
  pub at_point : point.0 ≡ point_of (pos (s.reading device (time_of arrival))) clock s.network.dmax.0
  pub reached : IsReach (s.reading device) (pos (time_of arrival)) point.0 (pos t)
  pub correct : is_broken s device t ≡ false

-- the records before the place of the frame's permanence, which is the same for each judgement. What comes behind it at
-- that time, as another frame or a change of the device's state, does not bear on it, though the record of a drop comes
-- later still
abbrev pub before_permanence : List Happening → DeviceId → ℕ → LinkId → ℕ → Pcf → Units → List Happening
before_permanence hs device t link cause frame point =
    let place = place_at t frame.members.0 (notes.Permanent device link cause point judgements.Ignored) in
    filter (λ h. is_before (place_of h) place) hs

-- this becomes of the frame, judged by these records
abbrev pub IsJudgedBy : Scenario → List Happening → DeviceId → ℕ → Pcf → Units → Ripe → Type 0
IsJudgedBy s judged device t frame point is =
    IsPermanenceOutcome s.network device (state_at_hearing s judged device t)
    (adjustment_at_hearing s judged device t).0 (points_of judged device) frame point.0 is

-- the frame is permanent, and this becomes of it
pub record BecomesPermanent (s : Scenario) (hs : List Happening) (device : DeviceId) (t : ℕ) (link : LinkId) (cause : ℕ)
    (point : Units) (is : Ripe) : Type 0 where
  pub frame : Pcf
  pub permanent : IsPermanent s hs device t link cause frame point
  pub becomes : IsJudgedBy s (before_permanence hs device t link cause frame point) device t frame point is

-- What a compression master sends.
use Rattle.std.specs.{List.Contains, Prelude.{◌≡◌, List, false, pos, true, ℕ}}
use Rattle.compression.specs.{Clusters.{AreClusters, Cluster}, declared.compressed.Compressed.Compressed}
use Rattle.{compression.specs.Emission.compressed, drift_clock.specs.Reach.IsReach, tte_units.specs.Amount.amount}
use Rattle.{net_plan.specs.declared.ids.DeviceId.DeviceId, run_law.specs.scenario.Scenarios.{Scenario, is_broken}}
use Rattle.run_law.specs.{control.Collections.{observation_window, points_of}, declared.judgement.Judgement.Judgement}
use Rattle.run_law.specs.{control.Hearing.heard_as, records.Happenings.Happening}
use Rattle.run_law.specs.{device.States.{adjustment_at_hearing, state_at_hearing}, scenario.Devices.{is_cm, plan_of}}

-- the compression master sends the frame of a cluster of its present stretch: its reading first reaches the
-- cluster's emission reading at the time, and it hears the frame so, at that reading
pub record Emits (s : Scenario) (hs : List Happening) (device : DeviceId) (t : ℕ) (sent : Compressed)
    (verdict : Judgement) : Type 0 where
  pub cm : is_cm s.network device ≡ true
  pub correct : is_broken s device t ≡ false
  pub clusters : List Cluster
  pub are : AreClusters (observation_window s.network) (points_of hs device) clusters
  pub cluster : Cluster
  pub there : Contains clusters cluster
  pub is : sent ≡ compressed (observation_window s.network) (pos (amount s.network.calc)) cluster
  pub reached : IsReach (s.reading device) (pos 0) sent.at.0 (pos t)
  pub heard : verdict ≡ heard_as (plan_of s.network device) (observation_window s.network)
      (state_at_hearing s hs device t) (adjustment_at_hearing s hs device t).0 sent.at.0 sent.cycle sent.members

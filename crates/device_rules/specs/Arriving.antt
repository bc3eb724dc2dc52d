-- How a frame that arrives is judged.
use Rattle.std.specs.Prelude.{if◌then◌else◌, ◌≡◌, Err, None, Ok, Option, Result, Some, nat_lt, ℕ}
use Rattle.net_plan.specs.declared.{ids.{DeviceId.DeviceId, LinkId.LinkId}, network.Network.Network}
use Rattle.run_law.specs.{control.Arrivals.{clock_on_arrival, frame_fault}, declared.judgement.Reason.Reason}
use Rattle.{run_law.specs.device.Standpoints.Standpoint, tte_units.specs.{Amount.amount, declared.frames.pcf.Pcf.Pcf}}

-- this is the frame's clock as the wire has grown it, or why the frame is dropped
abbrev pub IsGrownSo : Network → DeviceId → LinkId → Standpoint → Pcf → Result ℕ Reason → Type 0
IsGrownSo network device link at frame (Ok clock) =
    (frame_fault network device link at frame ≡ None) × (clock ≡ clock_on_arrival network link frame)
IsGrownSo network device link at frame (Err reason) = frame_fault network device link at frame ≡ Some reason

-- the clock, unless it exceeds the greatest delay
abbrev pub young_clock : Network → ℕ → Option ℕ
young_clock network clock = if nat_lt (amount network.dmax) clock then None else Some clock

-- Numbers of units that are not negative.
use Rattle.{device_rules.specs.Widths.IsFar, net_plan.specs.Ranges.IsInRange, std.{proofs.lemmas.Int.ints, specs.Int.w128}, tte_units.specs.Amount.amount}
use Rattle.{net_plan.{proofs.InRange.its_amount, specs.declared.{ids.DeviceId.DeviceId, network.Network.Network}}, sync_state.specs.Plan.expected_at}
use Rattle.{run_law.specs.scenario.Devices.{expected_by, plan_of}, std.proofs.Common.{◌*ℤ◌, ◌*◌, ◌+ℤ◌, ◌+◌, ◌≡◌, FitsSigned, arith, pos, refl, ℕ, ℤ}}

by_parts : (n r e : ℕ) (z : ℤ) → z ≡ pos r → ((pos n *ℤ z) +ℤ pos e) ≡ pos (n * r + e)
by_parts n r e z h = rw h refl

-- when the frame of a cycle is expected, as a natural number
pub expected_is : {network : Network} (device : DeviceId) (n : ℕ) → IsInRange network
    → expected_at (plan_of network device) n ≡ pos (n * amount network.cycle + expected_by network device)
expected_is {network} device n range = by_parts n (amount network.cycle) (expected_by network device) network.cycle.0
    (its_amount range.cycle)

pub fits_far : {z : ℤ} → IsFar z → FitsSigned w128 z
fits_far far = let least = far.least in let most = far.most in grind (arith, ints)

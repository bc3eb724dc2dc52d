-- Why frames are dropped at their arrival.
use Rattle.switch_ports.proofs.Words.{◌*◌, ◌+ℤ◌, ◌+◌, ◌≡◌, DeviceId, Network, amount, clock_of, int_lt, pos, refl, true, ℤ}
use Rattle.run_law.specs.{control.Arrivals.is_gate_shut, device.{Standpoints.{Standpoint, offset_in_cycle}, States.is_synchronised}, scenario.Devices.is_relay}

pub shut_is : (network : Network) (device : DeviceId) (at : Standpoint) (limit shown : ℤ) → is_relay network device ≡ true → is_synchronised at.state ≡ true
    → limit ≡ pos (amount network.correction + 2 * amount network.precision)
    → shown ≡ offset_in_cycle network (clock_of at +ℤ pos (2 * amount network.precision)) → int_lt limit shown ≡ is_gate_shut network device at
shut_is network device at limit shown a b c d = rw a (rw b (rw c (rw d refl)))

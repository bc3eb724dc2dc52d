use Rattle.{audit_law.specs.events.Beginnings.IsUntouchedDevice, std.{proofs.Common.{◌≡◌, length}, specs.List.All}, tte_units.specs.Amount.amount}
use Rattle.audit_law.proofs.events.history.untouched_devices.Given as goal

abbrev pub invariant-loop-device : goal.invariant-loop-device
invariant-loop-device l = (length l.devices.items ≡ l._device) × All (IsUntouchedDevice (amount l.network.grain)) l.devices.items

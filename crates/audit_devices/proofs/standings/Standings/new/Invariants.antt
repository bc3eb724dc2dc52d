use Rattle.audit_devices.proofs.Words.{◌≡◌, DeviceId, History, IsFresh, Some, length, slice_get}
use Rattle.audit_devices.proofs.standings.Standings.new.Given as goal

abbrev pub invariant-loop-place : goal.invariant-loop-place
invariant-loop-place l =
    (length l.histories.items ≡ l.place)
    × ((device : DeviceId) (history : History) → slice_get l.histories.items device.0 ≡ Some history → IsFresh l.network device history)

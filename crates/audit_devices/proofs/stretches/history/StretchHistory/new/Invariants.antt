use Rattle.{audit_devices.specs.stretches.Keeping.{Keeps, Stretches}, net_plan.specs.declared.ids.DeviceId.DeviceId}
use Rattle.std.{proofs.Common.{◌≡◌, Some, [], slice_get, ℕ}, specs.Prelude.length}
use Rattle.audit_devices.proofs.stretches.history.StretchHistory.new.Given as goal

abbrev pub invariant-loop : goal.invariant-loop
invariant-loop l =
    (length l.kept.items ≡ l.index)
    × ((i : ℕ) (kept : Stretches) (device : DeviceId) → slice_get l.kept.items i ≡ Some kept → Keeps l.network [] device kept)

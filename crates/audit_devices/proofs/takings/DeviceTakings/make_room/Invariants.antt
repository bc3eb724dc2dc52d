use Rattle.audit_devices.proofs.Words.{◌≡◌, ◌≤◌, VlId, length, taken_of}
use Rattle.audit_devices.proofs.takings.DeviceTakings.make_room.Given as goal

abbrev pub invariant-loop : goal.invariant-loop
invariant-loop l = ((other : VlId) → taken_of l.self other ≡ taken_of l.fn.self other) × (l.counter ≤ length l.self.vls.items)

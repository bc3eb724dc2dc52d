use Rattle.audit_devices.proofs.{KeptAll.items_by, Words.{◌≡◌, VlId, [], length, ℕ}}
use Rattle.audit_devices.proofs.takings.Takings.new.Given as goal

abbrev pub invariant-loop : goal.invariant-loop
invariant-loop l = ((i : ℕ) (vl : VlId) → items_by l.devices.items i vl ≡ []) × (length l.devices.items ≡ l.counter)

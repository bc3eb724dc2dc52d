use Rattle.{schedule_tables.specs.{Entries.IsEntry, declared.entry.Entry.Entry}, std.{proofs.Common.{◌≡◌, Some, length, ℕ}, specs.Prelude.slice_get}}
use Rattle.schedule_tables.proofs.entry.entries_of.Given as goal

abbrev pub invariant-loop-place : goal.invariant-loop-place
invariant-loop-place l = record {
  count : length l.entries.items ≡ l.place;
  each : (place : ℕ) (entry : Entry) → slice_get l.entries.items place ≡ Some entry → IsEntry l.network place entry;
}

use Rattle.lens_schedule.specs.Lanes.{busy_time}
use Rattle.std.proofs.Common.{◌*◌, ◌^◌, ◌≡◌, ◌≤◌, take}
use Rattle.lens_schedule.proofs.lanes.busy_time.Given as goal

abbrev pub invariant-entries : goal.invariant-entries
invariant-entries l = record {
  value : l.busy ≡ busy_time l.port (take l.entry-index l.entries);
  bound : l.busy ≤ l.entry-index * 2 ^ 39;
}

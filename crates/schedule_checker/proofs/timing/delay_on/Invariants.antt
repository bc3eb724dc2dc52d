use Rattle.{schedule_tables.specs.Delays.delay_on, std.proofs.Common.{◌*◌, ◌^◌, ◌≡◌, ◌≤◌, length, take}}
use Rattle.schedule_checker.proofs.timing.delay_on.Given as goal

abbrev pub invariant-loop-link : goal.invariant-loop-link
invariant-loop-link l = record {
  so_far : l.delay ≡ delay_on l.network (take l.link-index l.link-items);
  bound : l.delay ≤ l.link-index * (3 * 2 ^ 40);
  short : length l.link-items ≤ 8;
}

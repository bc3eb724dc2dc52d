use Rattle.std.proofs.Common.{◌*◌, ◌^◌, ◌≤◌}
use Rattle.net_plan.{proofs.Trees.IsOfPathBelow, specs.Bounds.IsGreatest}
use Rattle.schedule_tables.specs.Delays.{delay_on}
use Rattle.lens_slack.proofs.least.parts.longest_on.Given as goal

abbrev pub invariant-devices : goal.invariant-devices
invariant-devices l = record {
  longest : IsGreatest (IsOfPathBelow l.network l.channel l.place (delay_on l.network)) l.longest;
  bound : l.longest ≤ 24 * 2 ^ 40;
}

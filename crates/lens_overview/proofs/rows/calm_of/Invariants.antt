use Rattle.{lens_overview.specs.Rows.calm_below, std.proofs.Common.{◌+◌, ◌≡◌, ◌≤◌}}
use Rattle.lens_overview.proofs.rows.calm_of.Given as goal

abbrev pub invariant-devices : goal.invariant-devices
invariant-devices l = record {
  value : l.calm ≡ calm_below l.network l.all l.place;
  few : l.calm.synchronised + l.calm.off ≤ l.place;
}

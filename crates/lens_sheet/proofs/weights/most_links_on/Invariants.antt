use Rattle.net_plan.{proofs.Trees.IsOfPathBelow, specs.{Bounds.IsGreatest, declared.ids.LinkId.LinkId}}
use Rattle.std.proofs.Common.{◌≤◌, length}
use Rattle.lens_sheet.proofs.weights.most_links_on.Given as goal

abbrev pub invariant-devices : goal.invariant-devices
invariant-devices l = record {
  greatest : IsGreatest (IsOfPathBelow l.network l.channel l.place (length {A = LinkId})) l.most;
  bound : l.most ≤ 8;
}

use Rattle.std.{proofs.Common.{◌++◌, ◌<◌, ◌≡◌, map, take}, specs.List.All}
use Rattle.lens_plan.proofs.text.ids.push_vl_ids.Given as goal

abbrev pub invariant-vls : goal.invariant-vls
invariant-vls l = record {
  ids : l.ids.items ≡ l.fn.ids.items ++ map (λ vl. vl.id) (take l.vl-index l.network.vl);
  small : All (λ id. id < 65536) l.ids.items;
}

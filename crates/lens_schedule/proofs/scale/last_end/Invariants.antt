use Rattle.lens_schedule.specs.Scale.{last_end}
use Rattle.std.proofs.Common.{◌^◌, ◌≡◌, ◌≤◌, take}
use Rattle.lens_schedule.proofs.scale.last_end.Given as goal

abbrev pub invariant-entries : goal.invariant-entries
invariant-entries l = record {
  value : l.last ≡ last_end l.network (take l.entry-index l.entries);
  bound : l.last ≤ 2 ^ 50;
}

use Rattle.{std.proofs.Common.{◌≡◌, length}, world_drive.proofs.machines_lemmas.Begun.HaveBegun}
use Rattle.world_drive.proofs.machines.beginning.machines_of.Given as goal

abbrev pub invariant-loop-place : goal.invariant-loop-place
invariant-loop-place l = record {
  count : length l.machines.items ≡ l.place;
  begun : HaveBegun l.accepted l.machines.items;
}

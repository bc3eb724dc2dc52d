use Rattle.{lens_plan.specs.places.Offsets.StandsClear, std.proofs.Common.{◌-◌, ◌^◌, ◌≤◌, max, ℕ}}
use Rattle.lens_plan.proofs.places.offsets.least_offset.Given as goal

abbrev pub invariant-hits : goal.invariant-hits
invariant-hits l = record {
  not_before : l.from ≤ l.offset;
  least : (other : ℕ) → l.from ≤ other → StandsClear l.gamma l.slot other l.rows → l.offset ≤ other;
  bound : l.offset ≤ max l.from (2 ^ 44);
}

abbrev pub decreases-hits : goal.decreases-hits
decreases-hits l = 2 ^ 44 - l.offset

use Rattle.{std.proofs.Common.{◌*◌, ◌^◌, ◌≡◌, ◌≤◌, sum_by, take}, lens_flows.specs.Sums.number_of}
use Rattle.lens_flows.proofs.sums.Summed.over.Given as goal

abbrev pub invariant-flows : goal.invariant-flows
invariant-flows l = record {
  counted : l.sum ≡ sum_by (number_of l.fn.self) (take l.one-index l.fn.told);
  few : l.sum ≤ l.one-index * 2 ^ 64;
}

use Rattle.{lens_slack.proofs.least_lemmas.Greatests.IsAmongFirst, net_plan.specs.declared.tables.Device.Device, std.proofs.Common.{◌^◌, ◌≡◌, ◌≤◌, ℕ}}
use Rattle.{net_plan.specs.Bounds.IsGreatest, std.specs.Prelude.Some, tte_units.specs.Amount.units_of}
use Rattle.lens_slack.proofs.least.parts.greatest_start.Given as goal

abbrev pub invariant-devices : goal.invariant-devices
invariant-devices l = record {
  greatest : IsGreatest (IsAmongFirst (λ (d : Device) (n : ℕ). d.start ≡ Some (units_of n)) l.network.device l.device-index) l.greatest;
  bound : l.greatest ≤ 2 ^ 40;
}

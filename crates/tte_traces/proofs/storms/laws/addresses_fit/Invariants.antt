use Rattle.{net_plan.specs.declared.tables.Device.Device, std.{proofs.Common.{◌<◌, ◌^◌, take}, specs.Prelude.All}}
use Rattle.tte_traces.proofs.storms.laws.addresses_fit.Given as goal

abbrev pub invariant-devices : goal.invariant-devices
invariant-devices l = All (λ (d : Device). d.mac < 2 ^ 48) (take l.device-index l.devices)

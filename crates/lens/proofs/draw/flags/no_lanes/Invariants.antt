use Rattle.std.{proofs.Common.{◌≡◌, false, take}, specs.Prelude.map}
use Rattle.lens.proofs.draw.flags.no_lanes.Given as goal

abbrev pub invariant-devices : goal.invariant-devices
invariant-devices l = l.lanes.items ≡ map (λ d. false) (take l._device-index l.devices)

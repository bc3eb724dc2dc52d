use Rattle.std.specs.Prelude.{[]}
use Rattle.lens_latency.{proofs.Latencies.ArePushed, specs.Comings.IsPartOf}
use Rattle.lens_latency.proofs.comings.comings_of.Given as goal

abbrev pub invariant-vls : goal.invariant-vls
invariant-vls l = ArePushed (IsPartOf l.network) l.place [] l.comings.items

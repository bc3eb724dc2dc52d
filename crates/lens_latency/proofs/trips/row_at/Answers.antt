use Rattle.lens_latency.{proofs.Latencies.{none_first, none_next, none_of_all}, specs.Trips.IsHop}
use Rattle.std.proofs.{Common.{ap, arith, length}, lemmas.Bool.false≢true}
use Rattle.lens_latency.proofs.trips.row_at.Goals as goal

pub rows-init : goal.rows-init
rows-init c = none_first c.args.network.now (IsHop c.args.network.now c.args.vl c.args.channel c.args.hop)

pub rows-preserved : goal.rows-preserved
rows-preserved c =
    none_next (IsHop c.args.network.now c.args.vl c.args.channel c.args.hop) c.rows.invariant
    c.entry_of-entry.ensures.is (λ has. false≢true (c.if-is_hop.ensures.1 has))

pub returns-clause-first : goal.returns-clause-first
returns-clause-first c =
    none_of_all c.args.network.now (IsHop c.args.network.now c.args.vl c.args.channel c.args.hop) c.rows.number c.rows.invariant
    (omega (arith, c.rows-test.false, ap length c.as_slice.ensures))

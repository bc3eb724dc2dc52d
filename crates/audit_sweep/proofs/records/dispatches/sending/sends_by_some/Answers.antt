use Rattle.std.proofs.Common.{arith, refl}
use Rattle.audit_devices.proofs.Kept.{in_index}
use Rattle.audit_law.specs.events.Readings.{scenario_under}
use Rattle.audit_sweep.{proofs.records_lemmas.dispatches_lemmas.Dispatches.{no_row, none_in_all, none_more}}
use Rattle.audit_sweep.{specs.records.dispatches.Sent.SendsBy}
use Rattle.audit_sweep.proofs.records.dispatches.sending.sends_by_some.Goals as goal

pub loop-row-init : goal.loop-row-init
loop-row-init c befallen hs remembers has shows i lt = absurd (omega (arith, lt))

pub sends_by-requires-clause-row : goal.sends_by-requires-clause-row
sends_by-requires-clause-row c = c.requires.rows _ (in_index c.args.rows.now c.loop-row.row-index no_row c.loop-row-test.true)

pub returns-then-sends_by : goal.returns-then-sends_by
returns-then-sends_by c befallen hs remembers has shows = (
  λ told. record {
    row = _;
    there = in_index c.args.rows.now c.loop-row.row-index no_row c.loop-row-test.true;
    by = (c.sends_by.ensures befallen hs remembers has shows).0 c.if-sends_by.true;
  },
  λ some. refl,
)

pub loop-row-preserved : goal.loop-row-preserved
loop-row-preserved c befallen hs remembers has shows =
    none_more (SendsBy (scenario_under c.args.network.now befallen) c.args.network.now hs c.args.device c.args.time) c.args.rows.now no_row
    c.loop-row.row-index c.sends_by.result (c.loop-row.invariant befallen hs remembers has shows)
    (c.sends_by.ensures befallen hs remembers has shows) c.if-sends_by.false

pub returns : goal.returns
returns c befallen hs remembers has shows = (
  λ told. absurd cc,
  λ some. absurd (none_in_all (SendsBy (scenario_under c.args.network.now befallen) c.args.network.now hs c.args.device c.args.time) c.args.rows.now no_row
      c.loop-row.row-index c.loop-row-test.false (c.loop-row.invariant befallen hs remembers has shows) some.row some.there some.by),
)

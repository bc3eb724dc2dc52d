use Rattle.std.proofs.Common.{arith, refl}
use Rattle.audit_devices.proofs.Kept.{in_index}
use Rattle.audit_sweep.{proofs.records_lemmas.dispatches_lemmas.Dispatches.{no_row, none_in_all, none_more}}
use Rattle.audit_sweep.{specs.records.dispatches.Dispatched.IsRowDispatched}
use Rattle.audit_sweep.proofs.records.dispatches.dispatching.is_some_dispatched.Goals as goal

pub loop-row-init : goal.loop-row-init
loop-row-init c s hs t stands last i lt = absurd (omega (arith, lt))

pub is_dispatched-requires-clause-period : goal.is_dispatched-requires-clause-period
is_dispatched-requires-clause-period c = c.requires.periods _ (in_index c.args.rows.now c.loop-row.row-index no_row c.loop-row-test.true)

pub returns-then-is_dispatched : goal.returns-then-is_dispatched
returns-then-is_dispatched c s hs t stands last = (
  λ told. record {
    row = _;
    there = in_index c.args.rows.now c.loop-row.row-index no_row c.loop-row-test.true;
    dispatched = (c.is_dispatched.ensures s hs t stands last).0 c.if-is_dispatched.true;
  },
  λ some. refl,
)

pub loop-row-preserved : goal.loop-row-preserved
loop-row-preserved c s hs t stands last =
    none_more (IsRowDispatched s c.args.network.now hs c.args.device t c.args.dispatch.now) c.args.rows.now no_row c.loop-row.row-index
    c.is_dispatched.result (c.loop-row.invariant s hs t stands last) (c.is_dispatched.ensures s hs t stands last) c.if-is_dispatched.false

pub returns : goal.returns
returns c s hs t stands last = (
  λ told. absurd cc,
  λ some. absurd (none_in_all (IsRowDispatched s c.args.network.now hs c.args.device t c.args.dispatch.now) c.args.rows.now no_row c.loop-row.row-index
      c.loop-row-test.false (c.loop-row.invariant s hs t stands last) some.row some.there some.dispatched),
)

use Rattle.std.proofs.{Common.{◌+◌, ap, arith, inr, length, subst, sym}, lemmas.Option.slice_get_within}
use Rattle.lens_slack.proofs.Spots.{Below, coming_enters, entering_at, next_tightest, none_below, tightest_as}
use Rattle.lens_slack.proofs.Spots.{tightest_of_all}
use Rattle.lens_slack.specs.{Bounds.{IsComingBound, IsEnteringBound}, Tightest.IsFirstTightest}
use Rattle.lens_slack.proofs.bounds.entering_bounds.Goals as goal

pub rows-init : goal.rows-init
rows-init c = record { so_far = none_below (IsEnteringBound c.args.network.now c.args.row); small = tt }

pub rows-preserved : goal.rows-preserved
rows-preserved c =
    let network = c.args.network.now in
    let row = c.args.row in
    let n = c.rows.number in
    let at = entering_at network row n c.entry_of.result c.args.entry.now c.entry_of.ensures.is c.requires.entry c.entering_with.result c.requires.no_sender
    c.entering_with.ensures.is in
    record {
      so_far = subst (λ o. IsFirstTightest (Below (IsEnteringBound network row) (n + 1)) o) (sym c.tighter_of-best.ensures.value)
          (next_tightest (IsEnteringBound network row) n c.rows.best c.entering_with.result c.rows.invariant.so_far at);
      small = c.tighter_of-best.ensures.small;
    }

pub returns-clause-tightest : goal.returns-clause-tightest
returns-clause-tightest c =
    let network = c.args.network.now in
    let row = c.args.row in
    let entering = tightest_of_all (IsEnteringBound network row) c.rows.number c.rows.best
    (λ n f bound.
    let within = slice_get_within network.row n bound.entering.row bound.is_entering.row in
    omega (arith, within, c.rows-test.false, ap length c.as_slice.ensures)) c.rows.invariant.so_far in
    tightest_as (IsEnteringBound network row) (IsComingBound network row) (λ n f bound. inr bound)
    (coming_enters network row c.args.entry.now c.requires.entry c.requires.no_sender) c.rows.best entering

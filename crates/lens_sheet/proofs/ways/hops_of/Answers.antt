use Rattle.lens_sheet.proofs.Loaded.{ComesBelow, hops_all, hops_more, hops_none}
use Rattle.net_plan.specs.Bounds.{IsGreatest}
use Rattle.std.proofs.Common.{◌+◌, ap, arith, length, subst, sym}
use Rattle.lens_sheet.proofs.ways.hops_of.Goals as goal

pub rows-init : goal.rows-init
rows-init c = hops_none c.args.network.now c.args.vl

pub rows-preserved : goal.rows-preserved
rows-preserved c =
    let n = c.args.network.now in
    subst (λ m. IsGreatest (ComesBelow n c.args.vl (c.rows.number + 1)) m) (sym c.greater-hops.ensures)
    (hops_more n c.args.vl c.rows.number c.rows.invariant c.rows_by.ensures)

pub returns : goal.returns
returns c =
    hops_all c.args.network.now c.args.vl c.rows.number
    (omega (arith, c.rows-test.false, ap length c.as_slice.ensures)) c.rows.invariant

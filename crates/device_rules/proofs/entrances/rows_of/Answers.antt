use Rattle.device_rules.{proofs.Takings.have_entries, specs.Entering.AreRows}
use Rattle.{std.proofs.Common.{ap, arith, length, subst, sym, take}, tte_units.proofs.general_lemmas.Lists.{take_all, take_more}}
use Rattle.device_rules.proofs.entrances.rows_of.Goals as goal

pub loop-place-preserved : goal.loop-place-preserved
loop-place-preserved c =
    let network = c.args.network.now in
    let is = c.entry_of-entry.ensures.is in
    subst (λ rows. AreRows network c.args.which rows c.add_row.new.rows)
    (sym (take_more network.row c.loop-place.place _ c.entry_of-entry.result.row (omega arith) is.row))
    (c.in_ok-add_row.ensures (take c.loop-place.place network.row) c.loop-place.place is
    (have_entries c.loop-place.place c.requires)
    c.loop-place.invariant)

pub returns : goal.returns
returns c =
    let network = c.args.network.now in
    rw (take_all network.row c.loop-place.place
    (let h = c.loop-place-test.false in let e = ap (λ rows. length rows) c.as_slice-place-end.ensures in
    omega (arith, h, e))) at c.loop-place.invariant

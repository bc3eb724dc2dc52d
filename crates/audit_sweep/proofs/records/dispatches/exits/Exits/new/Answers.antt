use Rattle.std.proofs.Common.{ap, arith, length}
use Rattle.audit_sweep.proofs.records_lemmas.dispatches_lemmas.Dispatches.{all_exits, first_none, more_exits}
use Rattle.audit_sweep.proofs.records.dispatches.exits.Exits.new.Goals as goal

pub loop-place-init : goal.loop-place-init
loop-place-init c = first_none c.in_ok-exits.ensures

pub push-requires-clause-there : goal.push-requires-clause-there
push-requires-clause-there c =
    let links = c.loop-place.invariant.links in
    let within = c.entry_of-entry.ensures.range.row.link in
    omega (arith, links, within)

pub loop-place-preserved : goal.loop-place-preserved
loop-place-preserved c =
    more_exits c.push.new.self c.loop-place.invariant
    c.entry_of-entry.ensures.is c.in_ok-push.ensures.rows c.in_ok-push.ensures.links

pub returns : goal.returns
returns c =
    all_exits {n = c.loop-place.place}
    (let h = c.loop-place-test.false in let e = ap (λ rows. length rows) c.as_slice-place-end.ensures in omega (arith, h, e))
    c.loop-place.invariant

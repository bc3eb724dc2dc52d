use Rattle.std.proofs.lemmas.Option.{slice_get-get_or}
use Rattle.schedule_checker.proofs.Elements.{grouped, one_more}
use Rattle.std.proofs.Common.{arith, get_or}
use Rattle.schedule_checker.proofs.groups.groups_of.Goals as goal

pub loop-place-preserved : goal.loop-place-preserved
loop-place-preserved c =
    let es = c.args.entries.now in
    let place = c.loop-place.place in
    let e = get_or es place c.index-entries-place.result in
    let at = slice_get-get_or es place c.index-entries-place.result (omega (arith, c.loop-place-test.true)) in (
      one_more (λ x. x.row.vl.0) es place e c.loop-place.by_vl c.push.new.self at c.in_ok-push.ensures
          c.loop-place.invariant.0,
      one_more (λ x. x.row.link.0) es place e c.loop-place.by_link
          c.push-in-loop-place.new.self at c.in_ok-push-2.ensures c.loop-place.invariant.1,
    )

pub returns : goal.returns
returns c = grouped c.args.entries.now c.loop-place.place _ (omega (arith, c.loop-place-test.false)) c.loop-place.invariant.0 c.loop-place.invariant.1

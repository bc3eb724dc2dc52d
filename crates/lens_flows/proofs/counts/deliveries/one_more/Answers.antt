use Rattle.std.proofs.Common.{rules, subst}
use Rattle.lens_flows.{proofs.judge_lemmas.Judging.receiver_there, specs.counts.Nearest.{IsInsideSome, TellsLeast}}
use Rattle.lens_flows.proofs.counts.deliveries.one_more.Goals as goal

pub place_at-place-requires-clause-device : goal.place_at-place-requires-clause-device
place_at-place-requires-clause-device c = receiver_there c.requires.flow

pub nearest_by-found-requires-clause-rows : goal.nearest_by-found-requires-clause-rows
nearest_by-found-requires-clause-rows c = c.requires.flow.rows

pub returns : goal.returns
returns c =
    let network = c.args.course.now.network.now in
    let d = c.args.delivery.now in
    let flow = c.args.flow.now in
    let found = c.nearest_by-found.result in (
      found,
      λ befallen hs known.
          subst (λ z. TellsLeast (IsInsideSome network flow d.link z) found) (c.place_at-place.ensures.place befallen hs known)
          c.nearest_by-found.ensures,
      search rules,
    )

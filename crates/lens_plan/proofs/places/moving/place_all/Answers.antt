use Rattle.lens_plan.proofs.PlanOne.{order_next, place_at_turn, reached_more, turn_within, unfit_by}
use Rattle.lens_plan.specs.places.Moving.{IsReached}
use Rattle.std.proofs.Common.{◌∙◌, ◌≡◌, ap, arith, length, refl, subst}
use Rattle.lens_plan.proofs.places.moving.place_all.Goals as goal

pub index-requires : goal.index-requires
index-requires c =
    let unfit = unfit_by c.args.network.now c.args.messages.now c.args.there.now _ c.moves.order.items _ c.in-Ok.found c.in-Some.misfit
    c.as_slice.ensures.value c.in-Some.is c.in-Ok.ensures.is in
    let within = turn_within c.args.network.now c.args.messages.now c.args.there.now unfit in
    let long = c.as_slice.ensures.len in
    let same = ap (λ os. length os) c.as_slice.ensures.value in
    omega (arith, within, long, same)

pub returns-then-moves-eq-MOST_MOVES-clause-unplaced : goal.returns-then-moves-eq-MOST_MOVES-clause-unplaced
returns-then-moves-eq-MOST_MOVES-clause-unplaced c =
    let network = c.args.network.now in
    let ms = c.args.messages.now in
    let there = c.args.there.now in
    let order = c.moves.order.items in
    let misfit = c.in-Some.misfit in
    let unfit = unfit_by network ms there _ order _ c.in-Ok.found misfit c.as_slice.ensures.value c.in-Some.is c.in-Ok.ensures.is in
    let last : c.moves.moves ≡ 512 = c.if-moves-eq-MOST_MOVES.true in
    record {
      order = order;
      reached = subst (λ n. IsReached network ms there n order) last c.moves.invariant.reached;
      misfit = misfit;
      unfit = unfit;
      place_is = c.index.ensures ∙ place_at_turn network ms there unfit c.index.result.now;
      attempt_is = refl;
    }

pub move_to_front-requires : goal.move_to_front-requires
move_to_front-requires c =
    let unfit = unfit_by c.args.network.now c.args.messages.now c.args.there.now _ c.moves.order.items _ c.in-Ok.found c.in-Some.misfit
    c.as_slice.ensures.value c.in-Some.is c.in-Ok.ensures.is in
    turn_within c.args.network.now c.args.messages.now c.args.there.now unfit

pub moves-preserved : goal.moves-preserved
moves-preserved c =
    let network = c.args.network.now in
    let ms = c.args.messages.now in
    let there = c.args.there.now in
    let order = c.moves.order.items in
    let misfit = c.in-Some.misfit in
    let unfit = unfit_by network ms there _ order _ c.in-Ok.found misfit c.as_slice.ensures.value c.in-Some.is c.in-Ok.ensures.is in
    let few = c.moves.invariant.few in
    let not_last = c.if-moves-eq-MOST_MOVES.false in
    record {
      order = order_next network ms there c.move_to_front.new.order.items c.moves.invariant.order unfit
          c.in-Ok-move_to_front.ensures;
      reached = reached_more network ms there c.move_to_front.new.order.items c.moves.invariant.reached unfit
          c.in-Ok-move_to_front.ensures;
      counted = c.in-Ok.ensures.counted;
      few = omega (arith, few, not_last);
    }

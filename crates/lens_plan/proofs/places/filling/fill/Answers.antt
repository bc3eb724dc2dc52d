use Rattle.lens_plan.proofs.{Attempts.early_rows, Orders.turn_below, PlanOne.{asked_at, placed_next}}
use Rattle.lens_plan.specs.{places.Fitting.IsBestBehind}
use Rattle.std.proofs.Common.{◌∙◌, arith, get_or, length, refl, subst}
use Rattle.std.proofs.lemmas.{List.{get_or_default, length-set}, Option.slice_get-get_or}
use Rattle.lens_plan.proofs.places.filling.fill.Goals as goal

pub best_behind-requires-clause-asked : goal.best_behind-requires-clause-asked
best_behind-requires-clause-asked c =
    asked_at c.args.network.now c.args.messages.now _ c.message_at-message.result.now c.requires.asked c.message_at-message.ensures

pub returns-then-attempt-gt0-clause-is : goal.returns-then-attempt-gt0-clause-is
returns-then-attempt-gt0-clause-is c = record {
  attempts = c.turns.attempts.items;
  taken = c.turns.rows.items;
  before = c.turns.invariant.placed;
  place = get_or c.args.order.now c.turns.turn 0;
  here = slice_get-get_or c.args.order.now c.turns.turn 0 c.turns-test.true;
  message = c.message_at-message.result.now;
  there = c.message_at-message.ensures;
  best = subst (λ ts. IsBestBehind c.args.network.now ts c.message_at-message.result.now c.in-Ok-best_behind.attempt) c.as_slice.ensures.value c.in-Ok-best_behind.ensures;
  short = c.if-attempt-gt0.true;
}

pub push_taken-requires-clause-asked : goal.push_taken-requires-clause-asked
push_taken-requires-clause-asked c =
    asked_at c.args.network.now c.args.messages.now _ c.message_at-message.result.now c.requires.asked c.message_at-message.ensures

pub push_taken-requires-clause-early : goal.push_taken-requires-clause-early
push_taken-requires-clause-early c =
    early_rows c.requires.range
    (subst (λ ts. IsBestBehind c.args.network.now ts c.message_at-message.result.now c.in-Ok-best_behind.attempt) c.as_slice.ensures.value c.in-Ok-best_behind.ensures)
    (omega (arith, c.if-attempt-gt0.false))

pub index_mut-requires : goal.index_mut-requires
index_mut-requires c =
    let below = turn_below (length c.args.messages.now) c.args.order.now c.turns.turn c.requires.order c.turns-test.true in
    let counted = c.turns.invariant.counted in
    omega (arith, below, counted)

pub turns-preserved : goal.turns-preserved
turns-preserved c =
    let turn = c.turns.turn in
    let order = c.args.order.now in
    let place = get_or order turn 0 in
    let old = c.turns.attempts.items in
    let attempt = c.in-Ok-best_behind.attempt in
    let below = turn_below (length c.args.messages.now) order turn c.requires.order c.turns-test.true in
    let counted = c.turns.invariant.counted in
    record {
      placed = placed_next {network = c.args.network.now} c.args.messages.now old _
          c.args.there.now {now = c.turns.rows.items} c.push_taken.new.rows.items order turn place
          {m = c.message_at-message.result.now} {a = attempt} c.requires.order c.turns-test.true
          (get_or_default order turn 0 place c.turns-test.true)
          (omega (arith, below, counted)) c.turns.invariant.placed c.message_at-message.ensures
          (record { best = subst (λ ts. IsBestBehind c.args.network.now ts c.message_at-message.result.now c.in-Ok-best_behind.attempt) c.as_slice.ensures.value c.in-Ok-best_behind.ensures; fits = omega (arith, c.if-attempt-gt0.false) }) refl c.in-Ok-push_taken.ensures.added;
      small = c.in-Ok-push_taken.ensures.small;
      counted = length-set old place attempt ∙ counted;
    }

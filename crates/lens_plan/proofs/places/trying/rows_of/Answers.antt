use Rattle.lens_plan.proofs.Attempts.{tried_next}
use Rattle.lens_plan.proofs.places.trying.rows_of.Goals as goal

pub receivers-preserved : goal.receivers-preserved
receivers-preserved c =
    let first = c.in-Ok.ensures.rows in
    let second = c.in-Ok-place_to.ensures.rows in
    record {
      tried = tried_next c.receivers-receiver-items.result.now c.receivers.receiver-index _ c.receivers.placed.items
          c.place_to.new.placed.items c.place_to-in-receivers.new.placed.items c.receivers-test.true
          c.receivers.invariant.tried first.1
          first.2 second.1 second.2;
      ordered = c.in-Ok-place_to.ensures.ordered;
    }

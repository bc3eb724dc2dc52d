use Rattle.fault_hypothesis.proofs.storm_lemmas.{OneStorm.some_device, Storms.knows_broken}
use Rattle.std.proofs.Common.{inl, inr, refl}
use Rattle.fault_hypothesis.proofs.storm.chosen.choose_event.Goals.{else-draw_in, then-draw_in+in-Err}
use Rattle.fault_hypothesis.proofs.storm.chosen.choose_event.Goals as goal

pub returns-in-Ok-clause-value : goal.returns-in-Ok-clause-value
returns-in-Ok-clause-value c = λ before w.
    let knows = knows_broken c.broken.result w (c.broken.ensures c.args.network.now before w) in
    let drawn = c.draw_in.ensures.value before knows in
    record {
      drawn = c.draw_in.new.what;
      is_drawn = drawn.1;
      becomes = inl (c.in-Ok.ensures c.args.network.now before w (c.draw_in.ensures.of_network drawn.0), refl);
    }

pub returns-clause-value : goal.returns-clause-value
returns-clause-value c = λ before w.
    let knows = knows_broken c.broken.result w (c.broken.ensures c.args.network.now before w) in
    let drawn = c.draw_in.ensures.value before knows in
    record {
      drawn = c.draw_in.new.what;
      is_drawn = drawn.1;
      becomes = inr (
        elim c.if-draw_in.branch [
          | then-draw_in+in-Err b ↦ λ within.
              let outside = b.in-Err.ensures c.args.network.now before w (c.draw_in.ensures.of_network drawn.0) in
              within b.in-Err.field-0 outside.violates
          | else-draw_in b ↦ absurd cc
        ],
        refl,
      );
    }

pub returns-clause-of_network : goal.returns-clause-of_network
returns-clause-of_network c = some_device c.args.network.now c.requires.rules

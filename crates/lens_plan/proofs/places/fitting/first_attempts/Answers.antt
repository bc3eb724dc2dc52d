use Rattle.lens_plan.{proofs.Courses.places_more, specs.messages.Message.Message}
use Rattle.std.{proofs.{Common.{◌∙◌, ◌≡◌, Some, ap, arith, sym}, lemmas.Option.slice_get-get_or}, specs.Prelude.slice_get}
use Rattle.lens_plan.proofs.places.fitting.first_attempts.Goals as goal

pub messages-preserved : goal.messages-preserved
messages-preserved c =
    let messages = c.args.messages.now in
    let n = c.messages.turn in
    let m = c.index-messages-turn.result in
    let there : slice_get messages n ≡ Some m =
    slice_get-get_or messages n m c.messages-test.true ∙ ap (λ (x : Message). Some x) (sym c.index-messages-turn.is) in
    places_more c.push.new.self.items {m = m} {a = c.in-Ok.attempt} c.messages.invariant there
    (record { best = c.in-Ok.ensures; fits = omega (arith, c.if-attempt-gt0.false) }) c.in-Ok-push.ensures.items

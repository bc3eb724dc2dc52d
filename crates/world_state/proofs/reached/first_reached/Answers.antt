use Rattle.std.{proofs.{Common.{◌∙◌, ap, sym}, lemmas.Bool.both_ways}, specs.{Option.option_copied}}
use Rattle.world_state.proofs.Queues.{none_reached}
use Rattle.world_state.proofs.reached.first_reached.Goals as goal

pub returns-else-is_reached : goal.returns-else-is_reached
returns-else-is_reached c =
    none_reached c.args.device c.args.reading
    (rw (sym c.in-Some.ensures.is) at c.in-Some.ensures.first)
    (λ at. both_ways _ c.if-is_reached.false (c.is_reached.ensures.1 at))

pub returns-in_default : goal.returns-in_default
returns-in_default c =
    let is = sym c.first.ensures.is ∙ ap option_copied c.in_default.is in
    λ v there at. (rw is at c.first.ensures.first) v there at.at

use Rattle.{std.proofs.Common.◌∙◌, world_state.proofs.Placings.one_more_shelf}
use Rattle.world_state.proofs.shelves.Shelves.grow.Goals as goal

pub invariant_of-self-then-is_err : goal.invariant_of-self-then-is_err
invariant_of-self-then-is_err c =
    (one_more_shelf c.shelves.self-inside.shelves.items _ c.push.ensures.items c.new.ensures c.shelves.invariant.0).0

pub shelves-preserved : goal.shelves-preserved
shelves-preserved c =
    let g = one_more_shelf c.shelves.self-inside.shelves.items _ c.push.ensures.items c.new.ensures c.shelves.invariant.0 in
    (g.0, g.1 ∙ c.shelves.invariant.1)

use Rattle.std.proofs.Common.{◌++◌, ◌∙◌, ◌∷◌, ◌≡◌, [], false, rules}
use Rattle.world_state.{proofs.Mapped.{mapped_all, mapped_push}, specs.{Beginning.first_way, declared.contents.WayState.WayState}}
use Rattle.world_state.proofs.fresh.first_ways.Goals as goal

pub loop-link-preserved : goal.loop-link-preserved
loop-link-preserved c =
    let way : WayState = record { delay = c.amount.result; hold = 0; cut = false } in
    let grown : c.push.new.self.items ≡ c.loop-link.ways.items ++ way ∷ [] = search rules in
    grown ∙ mapped_push first_way c.loop-link.link-index
    c.as_slice-link-items.ensures c.loop-link-test.true c.link-item.is c.loop-link.invariant
    (rw c.amount.ensures.value)

pub returns : goal.returns
returns c =
    mapped_all first_way c.loop-link.link-index c.as_slice-link-items.ensures
    c.loop-link-test.false c.loop-link.invariant

use Rattle.std.proofs.{Common.{◌∙◌, arith}, lemmas.List.{get_or-set_other, length-set}}
use Rattle.world_state.proofs.WorldSteps.{loop_step}
use Rattle.world_state.proofs.befalling.settle_all.Goals as goal

pub loop-index-preserved : goal.loop-index-preserved
loop-index-preserved c =
    let i = c.loop-index.index in
    let inv = c.loop-index.invariant in
    let ys = c.loop-index.befell.items in (
      length-set ys i _ ∙ inv.0,
      λ k d le. get_or-set_other ys i k _ d (λ e. omega arith) ∙ inv.1 k d (omega arith),
      loop_step c.args.network.now c.args.broken.now c.args.ups.now c.args.time c.args.befell.now.items ys i
          c.args.settled.now.items c.loop-index.settled.items c.put_some.new.settled.items c.args.under_way.now.entries c.loop-index.under_way.entries
          c.put_on.new.under_way.entries inv.0 (omega arith) inv.1 c.index.ensures
          c.index_mut.ensures.value c.replace-what.ensures.value inv.2 c.record_of.ensures c.put_some.ensures.is c.entry_of.ensures c.put_on.ensures.put,
      omega arith,
      omega arith,
    )

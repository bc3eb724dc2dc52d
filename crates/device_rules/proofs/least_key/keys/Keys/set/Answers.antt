use Rattle.device_rules.proofs.least_key_lemmas.LeastLemmas.{IsTreeBut, raised}
use Rattle.device_rules.specs.least_key.Trees.{IsLesser, node_at}
use Rattle.std.proofs.Common.{◌*◌, ◌+◌, ◌-◌, ◌/◌, ◌<◌, ◌∙◌, ap, arith, drop, length, set, subst, sym}
use Rattle.std.proofs.lemmas.List.{drop-set-lt, get_or-set_same, length-set}
use Rattle.device_rules.proofs.least_key.keys.Keys.set.Goals as goal

pub up-preserved : goal.up-preserved
up-preserved c =
    let nodes = c.up.nodes in
    let node = c.up.node in
    let key = c.lesser-least.result in
    let t = c.up.invariant.0 in
    let whole = t.whole in
    let inside = t.inside in
    let same = length-set nodes (node / 2) key in
    let low : c.up.node / 2 < length c.up.nodes / 2 = omega (arith, c.up-test.true) in
    let of = subst (λ n. IsLesser n (node_at nodes (4 * (node / 2) + 1 - node)) key) c.up.invariant.2
    c.lesser-least.ensures in (
      subst (λ n. IsTreeBut (set nodes (node / 2) key) (n / 2) (node / 2)) (sym same)
          (raised nodes node key _ t c.up-test.true of),
      ap (λ n. drop (n / 2) (set nodes (node / 2) key)) same ∙ drop-set-lt _ nodes (node / 2) key low ∙ c.up.invariant.1,
      sym (get_or-set_same nodes (node / 2) key 0 (omega arith)),
    )

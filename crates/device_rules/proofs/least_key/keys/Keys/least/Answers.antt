use Rattle.{device_rules.proofs.least_key_lemmas.LeastLemmas.{root_is_key, root_is_least}, std.proofs.Common.{◌≡◌, ◌≤◌, All, List, arith, inr, subst, sym, ℕ}}
use Rattle.{device_rules.specs.least_key.Trees.node_at, std.{proofs.lemmas.List.get_or_read, specs.List.Contains}}
use Rattle.device_rules.proofs.least_key.keys.Keys.least.Goals as goal

pub returns-else-self-eq0-clause-least : goal.returns-else-self-eq0-clause-least
returns-else-self-eq0-clause-least c =
    let b = c.self.inside in
    let whole = c.self.invariant.whole in
    let some = c.if-self-eq0.false in
    let root : c.index.result.now ≡ node_at b.nodes.items 1 = get_or_read b.nodes.items 1 c.index.result.now (omega (arith, whole, some)) c.index.ensures _ in
    subst (λ (keys : List ℕ). All (λ key. c.index.result.now ≤ key) keys) c.self.view_is
    (λ k d lt. let least = root_is_least b.nodes.items b.places k d c.self.invariant lt in omega (arith, least, root))

pub returns-else-self-eq0-clause-is : goal.returns-else-self-eq0-clause-is
returns-else-self-eq0-clause-is c =
    let b = c.self.inside in
    let whole = c.self.invariant.whole in
    let some = c.if-self-eq0.false in
    let root = get_or_read b.nodes.items 1 c.index.result.now (omega arith) c.index.ensures _ in
    inr (rw c.self.view_is at (subst (Contains _) (sym root)
    (root_is_key b.nodes.items b.places c.self.invariant (omega arith))))

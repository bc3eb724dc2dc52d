use Rattle.{std.proofs.lemmas.List.replicate_more, tte_units.specs.Amount.amount}
use Rattle.std.proofs.{Common.{◌++◌, ◌∙◌, ◌∷◌, ◌≡◌, ◌≤◌, [], ap, arith, length, replicate, rules}, lemmas.List.Elements.{All-replicate, All-same}}
use Rattle.world_state.proofs.fresh.fresh_clocks.Goals as goal

pub loop-preserved : goal.loop-preserved
loop-preserved g c =
    let fresh = g.C.Clock.fresh (amount c.args.network.now.grain) in
    let grown : c.push.new.self.items ≡ c.loop.clocks.items ++ c.fresh.result ∷ [] = search rules in
    grown ∙ (rw c.loop.invariant ((rw c.fresh.ensures
    (replicate_more c.loop.index fresh))))

pub returns-clause-each : goal.returns-clause-each
returns-clause-each g c =
    let same : length c.as_slice-items.result.now ≡ length c.args.network.now.device = rw c.as_slice-items.ensures in
    let all : c.loop.index ≡ length c.args.network.now.device =
    omega (arith, c.loop.auto.index-end, c.loop-test.false) in
    c.loop.invariant ∙ ap (λ n. replicate n (g.C.Clock.fresh (amount c.args.network.now.grain))) all

pub returns-clause-unstepped : goal.returns-clause-unstepped
returns-clause-unstepped g c =
    let fresh = g.C.Clock.fresh (amount c.args.network.now.grain) in
    All-same (λ x. g.C.Clock.last_step x ≤ 0) c.loop.clocks.items (replicate c.loop.index fresh) c.loop.invariant
    (All-replicate (λ x. g.C.Clock.last_step x ≤ 0) c.loop.index fresh (omega (arith, g.met.C.Clock.begins_unstepped (amount c.args.network.now.grain))))

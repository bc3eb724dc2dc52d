use Rattle.lens_plan.proofs.Attempts.{placed_first, placed_next}
use Rattle.{lens_plan.specs.places.Placing.IsOrdered, std.{proofs.lemmas.List.Elements.{All-append, All-cons, All-nil}, specs.List.All}}
use Rattle.std.proofs.Common.{◌∷◌, [], arith, subst, sym}
use Rattle.lens_plan.proofs.places.placing.place_way.Goals as goal

pub hops-init : goal.hops-init
hops-init c = record { placed = placed_first c.args.trial.now c.args.start c.args.placed.now.items; ordered = c.requires.ordered; bound = omega (arith, c.requires.start) }

pub hops-preserved : goal.hops-preserved
hops-preserved c =
    let bound = c.hops.invariant.bound in
    let end = c.placed_at-place.ensures.bound in
    record {
      placed = placed_next c.args.hops.now c.hops.hop-index
          c.push.new.self.items _ c.hops-test.true c.hops.invariant.placed c.placed_at-place.ensures.is
          c.in-Ok.ensures.items;
      ordered = subst (All IsOrdered) (sym c.in-Ok.ensures.items)
          (All-append IsOrdered c.hops.placed.items (c.placed_at-place.result ∷ []) c.hops.invariant.ordered
          (All-cons IsOrdered c.placed_at-place.result [] c.placed_at-place.ensures.ordered (All-nil IsOrdered)));
      bound = omega (arith, bound, end);
    }

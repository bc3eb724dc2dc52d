use Rattle.std.proofs.Common.{◌++◌, ◌∙◌, ◌∷◌, ◌≡◌, [], ap, arith, length, length-append}
use Rattle.audit_sweep.proofs.records_lemmas.dispatches_lemmas.Dispatches.{items_at, none_at, one_list}
use Rattle.audit_sweep.proofs.records.dispatches.exits.Exits.empty.Goals as goal

pub loop-init : goal.loop-init
loop-init c = (λ i. ap (λ xs. items_at xs i) c.new-links.ensures.items ∙ none_at i, ap length c.new-links.ensures.items)

pub loop-preserved : goal.loop-preserved
loop-preserved c =
    let xs = c.loop.links.items in
    let items : c.push.new.self.items ≡ xs ++ c.new.result ∷ [] = c.in_ok-push.ensures.items in (
      λ i. ap (λ ys. items_at ys i) items ∙ one_list xs c.new.result i c.new.ensures.items ∙ c.loop.invariant.0 i,
      omega (arith, c.loop.invariant.1, ap length items, length-append xs (c.new.result ∷ [])),
    )

pub returns : goal.returns
returns c = record {
  count = omega (arith, c.loop.invariant.1, c.loop-test.false, c.loop.auto.counter-end, ap length c.as_slice-end.ensures);
  none = λ link. c.loop.invariant.0 link.0;
}

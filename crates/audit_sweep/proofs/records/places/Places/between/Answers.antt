use Rattle.audit_sweep.proofs.records_lemmas.AscendingPlaces.{in_take}
use Rattle.run_law.{proofs.records.Order.in_drop, specs.records.Order.IsIn}
use Rattle.std.proofs.Common.{◌∙◌, List, subst, ℕ}
use Rattle.audit_sweep.proofs.records.places.Places.between.Goals as goal

pub returns : goal.returns
returns c p i =
    let among = λ (xs : List (List ℕ)). IsIn p xs in
    let before = in_drop c.min-2.result c.split_at.result.0.now p (subst among c.split_at-2.ensures.back i) in
    let whole = in_take c.min.result c.deref.result.now p (subst among c.split_at.ensures.front before) in
    subst among (c.deref.ensures.value ∙ c.self.view_is) whole

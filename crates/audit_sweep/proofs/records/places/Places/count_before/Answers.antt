use Rattle.{audit_sweep.proofs.records_lemmas.AscendingPlaces.parted, std.proofs.Common.{◌∙◌, ◌≡◌, List, false, of_calls, rules, subst, sym, true, ℕ}}
use Rattle.{run_law.specs.records.Order.is_before, std.{proofs.lemmas.Fn.always_returns_same, specs.List.Sorted.{IsPartitionPoint, IsPartitionedBy}}}
use Rattle.audit_sweep.proofs.records.places.Places.count_before.Goals as goal

pub returns-clause-part : goal.returns-clause-part
returns-clause-part c order =
    let p = c.args.place.now in
    let same = c.deref.ensures.value ∙ c.self.view_is in
    let test = λ (q : List ℕ). is_before q p in
    subst (λ (xs : List (List ℕ)). IsPartitionPoint (λ q. test q ≡ true) (λ q. test q ≡ false) xs c.partition_point.result) same
    (c.partition_point.ensures.partitioned test (always_returns_same _ _ _ (λ a r f k. search (rules, of_calls)))
    (subst (λ (xs : List (List ℕ)). IsPartitionedBy test xs) (sym same) (parted c.args.self.now p order)))

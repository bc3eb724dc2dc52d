use Rattle.std.proofs.lemmas.Fn.{always_returns_same}
use Rattle.audit_devices.proofs.Kept.{kept_front}
use Rattle.audit_devices.specs.{declared.stretches.kept.Entry.Entry}
use Rattle.audit_devices.specs.{stretches.Keeping.{StandsFor, Stretches, entry_before}}
use Rattle.compression.proofs.Middles.{slice_get-last}
use Rattle.run_law.specs.control.Collections.{points_of}
use Rattle.{audit_devices.specs.Keeping.records_before, audit_law.specs.collections.Gathered.Gathers, std.specs.List.Sorted.{IsPartitionPoint, IsPartitionedBy}}
use Rattle.{run_law.specs.records.Order.is_before, std.specs.List.last_or}
use Rattle.std.proofs.Common.{◌∙◌, ◌≡◌, ◌≤◌, Bool, List, None, Some, [], ap, false, length, of_calls, rules, subst, sym, take, true}
use Rattle.audit_devices.proofs.stretches.kept.Kept.before.Goals as goal

pub returns-in-Some : goal.returns-in-Some
returns-in-Some c network hs device keeps =
    let now = c.args.self.now in
    let items = now.entries in
    let place = c.args.place.now in
    let count = c.partition_point-count.result in
    let test : Entry → Bool = λ e. is_before e.place place in
    let same : c.deref.result.now ≡ items = c.deref.ensures.value ∙ ap (λ (k : Stretches). k.entries) c.self.view_is in
    let bound : count ≤ length items = subst (λ xs. count ≤ length xs) same c.partition_point-count.ensures.bound in
    let parts : IsPartitionPoint (λ e. test e ≡ true) (λ e. test e ≡ false) items count =
    subst (λ (xs : List Entry). IsPartitionPoint (λ e. test e ≡ true) (λ e. test e ≡ false) xs count) same
    (c.partition_point-count.ensures.partitioned test (always_returns_same _ _ _ (λ a r f k. search (rules, of_calls)))
    (subst (λ (xs : List Entry). IsPartitionedBy test xs) (sym same) (keeps.order place))) in
    let again = c.deref-2.ensures.value ∙ ap (λ (k : Stretches). k.entries) c.self.view_is in
    let front = c.split_at.ensures.front ∙ ap (λ (xs : List Entry). take count xs) again ∙ sym (kept_front test items count bound parts) in
    let found : Some c.in-Some.entry.now ≡ entry_before place items =
    c.in-Some.ensures.value ∙ slice_get-last c.split_at.result.0.now ∙ ap (λ (xs : List Entry). last_or None xs) front in
    record {
      ow = keeps.ow;
      calc = keeps.calc;
      gathers = subst (λ o. StandsFor now.collections o (points_of (records_before place hs) device)) (sym found) (keeps.before place);
    }

pub returns-in-None : goal.returns-in-None
returns-in-None c network hs device keeps =
    let now = c.args.self.now in
    let items = now.entries in
    let place = c.args.place.now in
    let count = c.partition_point-count.result in
    let test : Entry → Bool = λ e. is_before e.place place in
    let same : c.deref.result.now ≡ items = c.deref.ensures.value ∙ ap (λ (k : Stretches). k.entries) c.self.view_is in
    let bound : count ≤ length items = subst (λ xs. count ≤ length xs) same c.partition_point-count.ensures.bound in
    let parts : IsPartitionPoint (λ e. test e ≡ true) (λ e. test e ≡ false) items count =
    subst (λ (xs : List Entry). IsPartitionPoint (λ e. test e ≡ true) (λ e. test e ≡ false) xs count) same
    (c.partition_point-count.ensures.partitioned test (always_returns_same _ _ _ (λ a r f k. search (rules, of_calls)))
    (subst (λ (xs : List Entry). IsPartitionedBy test xs) (sym same) (keeps.order place))) in
    let again = c.deref-2.ensures.value ∙ ap (λ (k : Stretches). k.entries) c.self.view_is in
    let front = c.split_at.ensures.front ∙ ap (λ (xs : List Entry). take count xs) again ∙ sym (kept_front test items count bound parts) in
    let found : None ≡ entry_before place items =
    c.in-None.ensures.value ∙ slice_get-last c.split_at.result.0.now ∙ ap (λ (xs : List Entry). last_or None xs) front in
    let none : points_of (records_before place hs) device ≡ [] =
    subst (λ o. StandsFor now.collections o (points_of (records_before place hs) device)) (sym found) (keeps.before place) in
    record { ow = keeps.ow; calc = keeps.calc; gathers = subst (Gathers now.collections c.none.result) (sym none) (c.none.ensures.gathers now.collections) }

use Rattle.audit_devices.proofs.{Kept.kept_front, Words.{subst, sym, true}}
use Rattle.audit_devices.proofs.Words.{◌∙◌, ◌≡◌, ◌≤◌, Bool, Entry, IsPartitionPoint, IsPartitionedBy, List, always_returns_same, ap}
use Rattle.audit_devices.proofs.Words.{false, is_before, length, of_calls, rules}
use Rattle.audit_devices.specs.Keeping.{last_shown}
use Rattle.audit_devices.proofs.history.History.sought_before.Goals as goal

pub returns : goal.returns
returns c order =
    let items = c.args.self.now.entries.items in
    let point = c.partition_point-point.result in
    let test : Entry → Bool = λ e. is_before e.place c.args.place.now in
    let bound : point ≤ length items = subst (λ xs. point ≤ length xs) c.deref.ensures.value c.partition_point-point.ensures.bound in
    let parts : IsPartitionPoint (λ e. test e ≡ true) (λ e. test e ≡ false) items point =
    subst (λ (xs : List Entry). IsPartitionPoint (λ e. test e ≡ true) (λ e. test e ≡ false) xs point) c.deref.ensures.value
    (c.partition_point-point.ensures.partitioned test (always_returns_same _ _ _ (λ a r f k. search (rules, of_calls)))
    (subst (λ (xs : List Entry). IsPartitionedBy test xs) (sym c.deref.ensures.value) (order c.args.place.now))) in
    c.shown_by.ensures ∙ ap (last_shown c.args.self.now.first) (sym (kept_front test items point bound parts))

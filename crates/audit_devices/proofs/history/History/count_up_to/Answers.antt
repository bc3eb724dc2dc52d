use Rattle.std.specs.Prelude.{nat_le}
use Rattle.audit_devices.proofs.Kept.{ordered_by}
use Rattle.audit_devices.proofs.Words.{◌≡◌, Bool, Entry, IsPartitionPoint, IsPartitionedBy, List, always_returns_same, false, of_calls, rules, subst}
use Rattle.audit_devices.proofs.Words.{sym, time_at, true}
use Rattle.audit_devices.proofs.history.History.count_up_to.Goals as goal

pub returns-clause-part : goal.returns-clause-part
returns-clause-part c order =
    let items = c.args.self.now.entries.items in
    let time = c.args.time in
    let test : Entry → Bool = λ e. nat_le (time_at e.place) time in
    subst (λ (xs : List Entry). IsPartitionPoint (λ e. test e ≡ true) (λ e. test e ≡ false) xs c.partition_point.result) c.deref.ensures.value
    (c.partition_point.ensures.partitioned test (always_returns_same _ _ _ (λ a r f k. search (rules, of_calls)))
    (subst (λ (xs : List Entry). IsPartitionedBy test xs) (sym c.deref.ensures.value) (ordered_by items time order)))

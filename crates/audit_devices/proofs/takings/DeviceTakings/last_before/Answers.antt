use Rattle.audit_devices.proofs.Kept.{kept_front, last_kept}
use Rattle.audit_devices.proofs.{Words.{slice_get, slice_get-last, subst, sym, take, taken_of, true}}
use Rattle.audit_devices.proofs.Words.{◌-◌, ◌∙◌, ◌≡◌, ◌≤◌, Bool, Global, IsPartitionPoint, IsPartitionedBy, List, None, Option, Taking, Vec, []}
use Rattle.audit_devices.proofs.Words.{always_returns_same, ap, false, filter, got_at, is_taking_before, last_or, length, of_calls, option_map_or, rules, Some}
use Rattle.audit_devices.proofs.takings.DeviceTakings.last_before.Goals as goal

pub returns-then-is_before : goal.returns-then-is_before
returns-then-is_before c ascend =
    let items = c.in_ok-takings.takings.now.items in
    let here : taken_of c.args.self.now c.args.vl ≡ items =
    ap (λ (xs : List (Vec Taking Global)). option_map_or (λ (v : Vec Taking Global). v.items) (slice_get xs c.args.vl.0) []) (sym c.as_slice.ensures.value)
    ∙ ap (λ (o : Option (Vec Taking Global)). option_map_or (λ (v : Vec Taking Global). v.items) o [])
    (got_at c.as_slice.result.now c.args.vl.0 c.in_ok-takings.takings.now c.in_ok-takings.ensures.lookup.3.0 c.in_ok-takings.ensures.lookup.1) in
    let test : Taking → Bool = is_taking_before c.args.time c.args.link c.args.cause in
    let last : Taking = c.in-Some.last.now in
    let found : Some last ≡ last_or None items =
    c.in-Some.ensures.value ∙ slice_get-last c.deref.result.now ∙ ap (λ (xs : List Taking). last_or None xs) c.deref.ensures.value in
    let passes : test last ≡ true = sym c.is_before.ensures ∙ c.if-is_before.true in
    sym (last_kept test items None None last (λ same. same) passes (sym found)) ∙ ap (λ xs. last_or None (filter test xs)) (sym here)

pub returns : goal.returns
returns c ascend =
    let items = c.in_ok-takings.takings.now.items in
    let here : taken_of c.args.self.now c.args.vl ≡ items =
    ap (λ (xs : List (Vec Taking Global)). option_map_or (λ (v : Vec Taking Global). v.items) (slice_get xs c.args.vl.0) []) (sym c.as_slice.ensures.value)
    ∙ ap (λ (o : Option (Vec Taking Global)). option_map_or (λ (v : Vec Taking Global). v.items) o [])
    (got_at c.as_slice.result.now c.args.vl.0 c.in_ok-takings.takings.now c.in_ok-takings.ensures.lookup.3.0 c.in_ok-takings.ensures.lookup.1) in
    let point = c.partition_point-point.result in
    let test : Taking → Bool = is_taking_before c.args.time c.args.link c.args.cause in
    let bound : point ≤ length items = subst (λ xs. point ≤ length xs) c.deref-2.ensures.value c.partition_point-point.ensures.bound in
    let order : IsPartitionedBy test items = subst (λ (xs : List Taking). IsPartitionedBy test xs) here (ascend c.args.time c.args.link c.args.cause) in
    let parts : IsPartitionPoint (λ e. test e ≡ true) (λ e. test e ≡ false) items point =
    subst (λ (xs : List Taking). IsPartitionPoint (λ e. test e ≡ true) (λ e. test e ≡ false) xs point) c.deref-2.ensures.value
    (c.partition_point-point.ensures.partitioned test (always_returns_same _ _ _ (λ a r f k. search (rules, of_calls)))
    (subst (λ (xs : List Taking). IsPartitionedBy test xs) (sym c.deref-2.ensures.value) order)) in
    let front : c.split_at.result.0.now ≡ filter test items =
    c.split_at.ensures.front ∙ ap (λ (xs : List Taking). take point xs) c.deref-3.ensures.value ∙ sym (kept_front test items point bound parts) in
    let last : c.copied.result ≡ slice_get c.split_at.result.0.now (length c.split_at.result.0.now - 1) = search rules in
    last
    ∙ slice_get-last c.split_at.result.0.now
    ∙ ap (λ (xs : List Taking). last_or None xs) front
    ∙ ap (λ xs. last_or None (filter test xs)) (sym here)

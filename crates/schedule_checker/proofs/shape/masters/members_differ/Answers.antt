use Rattle.net_plan.specs.Places.{is_master}
use Rattle.schedule_checker.proofs.Elements.{before_from_pairs, filter_pairs, pairs_from_filter, pairs_more}
use Rattle.{net_plan.specs.{Rules.MembersDiffer, declared.tables.Device.Device}, std.proofs.Common.{◌∙◌, ◌≢◌, Bool, length, refl, sym}}
use Rattle.schedule_checker.proofs.shape.masters.members_differ.Goals.{else-is_master-via-else-is_master}
use Rattle.schedule_checker.proofs.shape.masters.members_differ.Goals.{else-is_master-via-then-is_master+else-not-member_is_new}
use Rattle.std.{proofs.lemmas.{Bool.false≢true, Option.slice_get_read}}
use Rattle.schedule_checker.proofs.shape.masters.members_differ.Goals as goal

abbrev master : Device → Bool
master d = is_master d.role

abbrev Differ : Device → Device → Type 0
Differ d e = d.member ≢ e.member

pub returns-then-not-member_is_new : goal.returns-then-not-member_is_new
returns-then-not-member_is_new c =
    let devices = c.as_slice-devices.result.now in
    let place = c.loop-place.place in
    let device = c.index-devices-place.result in
    let at = slice_get_read devices (length devices) place device refl c.loop-place-test.true c.index-devices-place.is
    in
    let passes = sym c.is_master.ensures ∙ c.if-is_master.true in
    let broken = λ (m : MembersDiffer c.args.network.now). let pairs = pairs_from_filter master Differ devices (length devices)
    (rw c.as_slice-devices.ensures m) in
    false≢true (sym c.if-not-member_is_new.true
    ∙ c.member_is_new.ensures.1 (before_from_pairs master Differ devices (length devices) place device pairs c.loop-place-test.true at passes)) in
    (λ h. absurd (false≢true h), λ m. absurd (broken m))

pub loop-place-preserved : goal.loop-place-preserved
loop-place-preserved c =
    let devices = c.as_slice-devices.result.now in
    let place = c.loop-place.place in
    let device = c.index-devices-place.result in
    let at = slice_get_read devices (length devices) place device refl c.loop-place-test.true c.index-devices-place.is
    in
    elim c.else-is_master.branch [
      | else-is_master-via-then-is_master+else-not-member_is_new w ↦ pairs_more master Differ devices place device at c.loop-place.invariant
          (λ _. w.member_is_new.ensures.0 w.if-not-member_is_new.false)
      | else-is_master-via-else-is_master w ↦ pairs_more master Differ devices place device at c.loop-place.invariant
          (λ e. absurd (false≢true (sym w.if-is_master.false ∙ c.is_master.ensures ∙ e)))
    ]

pub returns : goal.returns
returns c =
    let all = filter_pairs master Differ c.as_slice-devices.result.now c.loop-place.place c.loop-place-test.false c.loop-place.invariant in
    (λ _. rw c.as_slice-devices.ensures at all, λ _. refl)

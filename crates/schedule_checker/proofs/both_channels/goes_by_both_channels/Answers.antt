use Rattle.std.{proofs.{Common.{◌∙◌, ◌≡◌, Some, get_or, sym}, lemmas.{Bool.false≢true, Option.slice_get-get_or}}, specs.Prelude.slice_get}
use Rattle.schedule_checker.proofs.Elements.{both_channels}
use Rattle.schedule_checker.proofs.both_channels.goes_by_both_channels.Goals.{else-leaves_on_both, then-leaves_on_both}
use Rattle.schedule_checker.specs.Routes.{EntersEndSystem, LeavesOnBoth}
use Rattle.schedule_checker.proofs.both_channels.goes_by_both_channels.Goals as goal
use Rattle.std.proofs.Common.{arith}

pub returns-then-enters_end_system : goal.returns-then-enters_end_system
returns-then-enters_end_system c =
    let n = c.args.network.now in
    let vl = get_or c.as_slice.result.now c.args.place c.index-as_slice-place.result in
    let at : slice_get n.vl c.args.place ≡ Some vl = rw c.as_slice.ensures (slice_get-get_or n.vl c.args.place c.index-as_slice-place.result c.requires.place)
    in
    let parts : LeavesOnBoth n (record { 0 = c.args.place }) vl.sender × EntersEndSystem n (record { 0 = c.args.place }) = elim c.if-leaves_on_both.branch [
      | then-leaves_on_both w ↦ (
        c.leaves_on_both.ensures.0 w.if-leaves_on_both.true,
        w.enters_end_system.ensures.0 (sym w.value-is ∙ c.if-enters_end_system.true),
      )
      | else-leaves_on_both w ↦ absurd (false≢true (sym w.if-leaves_on_both.false ∙ sym w.value-is ∙ c.if-enters_end_system.true))
    ] in (
      λ yes. both_channels c.args.place vl at parts.0 parts.1 (c.enters_all_alike.ensures.0 yes),
      λ kept. c.enters_all_alike.ensures.1
          (λ device. record { alike = kept.same device }),
    )

pub returns-else-enters_end_system : goal.returns-else-enters_end_system
returns-else-enters_end_system c =
    search (arith, slice_get-get_or)

use Rattle.device_rules.specs.FirstKinds.{kind_of}
use Rattle.drift_world.proofs.Words.{◌+◌, ◌≡◌, ◌∙◌, ap, arith, length, same_Some, sym}
use Rattle.std.proofs.Common.{slice_get}
use Rattle.drift_world.{proofs.Timings.part_least, specs.Parts.{part_of, part_rank}}
use Rattle.world_state.specs.declared.timers.Timer.{Timer}
use Rattle.drift_world.proofs.state.State.keeps_part.Goals as goal

pub returns-then-timer-number : goal.returns-then-timer-number
returns-then-timer-number g c = λ yes timer part at rank_is clock machine network d node own there kept task pending due.
    let same = same_Some _ _ (sym c.get-timer.ensures
    ∙ ap (λ n. slice_get c.args.self.now.timers (n + c.args.device)) (ap length c.as_slice-devices.ensures) ∙ at) in
    let four = sym rank_is ∙ sym (ap Timer.rank same) ∙ c.if-timer-number.true ∙ c.number.ensures ∙ c.rank.ensures in
    let least = part_least (part_of (kind_of task)) in
    omega arith

pub returns : goal.returns
returns g c = λ yes timer part at rank_is clock machine network d node own there kept task pending due.
    let same = same_Some _ _ (sym c.get-timer.ensures
    ∙ ap (λ n. slice_get c.args.self.now.timers (n + c.args.device)) (ap length c.as_slice-devices.ensures) ∙ at) in
    let le = c.is_from.ensures.0 yes in
    let rank : c.get-timer.result.rank ≡ part_rank part = ap Timer.rank same ∙ rank_is in
    let is = (rw same at c.part_at-part.ensures) clock machine network d node own there kept task pending due in
    omega arith

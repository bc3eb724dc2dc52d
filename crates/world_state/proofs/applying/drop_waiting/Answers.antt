use Rattle.{run_law.specs.scenario.Hypothesis.breaks_at}
use Rattle.std.proofs.Common.{◌∙◌, ap, not, sym}
use Rattle.world_state.proofs.Queues.{alike, all_kept, keeps_it}
use Rattle.world_state.proofs.applying.drop_waiting.Goals as goal

pub returns-in-Some : goal.returns-in-Some
returns-in-Some c =
    let what = c.args.what.now in
    c.drop_all.ensures
    ∙ sym (alike (λ w. not (breaks_at w.device.0 what)) (keeps_it c.in-Some.device.0) _
    (λ w. ap not (c.in-Some.ensures.some w.device.0)))

pub returns-in_default : goal.returns-in_default
returns-in_default c =
    let none = rw c.in_default.is at c.broken_by.ensures.none in
    sym (all_kept (λ w. not (breaks_at w.device.0 c.args.what.now)) _ (λ w. ap not (none w.device.0)))

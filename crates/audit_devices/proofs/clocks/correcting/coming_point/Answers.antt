use Rattle.audit_devices.{proofs.clocks_lemmas.Reached.{number_is, point_comes}, specs.clocks.Points.HasPoint}
use Rattle.device_rules.specs.Answers.{verdict_as}
use Rattle.{std.proofs.Common.subst, sync_state.specs.Verdicts.HasVerdict}
use Rattle.audit_devices.proofs.clocks.correcting.coming_point.Goals as goal

pub returns : goal.returns
returns c s hs t cycle verdict stands hears =
    let n = c.in_ok-cycle.cycle in
    let device = c.args.device in
    let has : HasPoint s hs device t n = (c.coming_cycle.ensures s hs device t n stands).0 c.in_ok-cycle.was in
    let same = c.standing-standing.ensures.is s hs c.args.network.now device t stands (number_is s hs device t n has) in
    point_comes cycle c.args.heard.now (verdict_as c.verdict.result) verdict has hears
    (subst (λ x. HasVerdict x c.args.heard.now (verdict_as c.verdict.result)) same c.verdict.ensures)

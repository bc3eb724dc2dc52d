use Rattle.audit_devices.{proofs.Words.{Hearing, subst, sym}, specs.Following.{Follows, HasHeard}}
use Rattle.audit_devices.proofs.shown.Shown.follow.Goals as goal

pub returns-in-Hears : goal.returns-in-Hears
returns-in-Hears c =
    let old = c.args.self.now in
    let new = c.hear.new.self in
    let hearing : Hearing = record { channel = c.in-Hears.channel; frame = c.in-Hears.frame; within = c.in-Hears.within } in
    let there : HasHeard old c.points_come-points.result hearing new = record { heard = new.heard; hears = c.hear.ensures.heard; is = c.hear.ensures.value } in
    subst (λ e. Follows c.args.network.now c.args.device c.args.time c.args.readings e old new) (sym c.in-Hears.is)
    (subst (λ n. HasHeard old n hearing new) c.points_come-points.ensures.value there)

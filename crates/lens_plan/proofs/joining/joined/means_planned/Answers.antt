use Rattle.lens_plan.proofs.Meanings.{planned_as}
use Rattle.lens_plan.specs.joining.{Extends.Extends, Served.AreServed}
use Rattle.std.{proofs.Common.{subst}, specs.Prelude.{◌↔◌, IsTrue}}
use Rattle.lens_plan.proofs.joining.joined.means_planned.Goals as goal

pub returns-in-Ok : goal.returns-in-Ok
returns-in-Ok c =
    planned_as c.args.network.now c.args.messages.now c.is_planned.result c.in-Ok.ensures.accepted
    (subst (λ n. IsTrue c.is_planned.result ↔ (Extends c.args.network.now n × AreServed c.args.network.now n c.args.messages.now))
    c.network.ensures.value c.is_planned.ensures)

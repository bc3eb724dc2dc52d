use Rattle.{audit_devices.proofs.permanence_lemmas.Judging.collects_so, std.proofs.Common.{◌↔◌, ◌≡◌, None, rules, subst, sym}}
use Rattle.compression.specs.Clusters.{point_at}
use Rattle.run_law.specs.control.{Collections.{master_of, point_fault}, Permanence.IsCollectedOrDropped}
use Rattle.audit_devices.proofs.permanence.hearer.Hearer.collected.Goals as goal

pub returns-in-None : goal.returns-in-None
returns-in-None c points has is =
    let network = c.args.self.now.network.now in
    let frame = c.args.frame.now in
    let point = c.args.point.0 in
    let at = point_at point (master_of frame.members.0) frame.cycle in
    let none : point_fault network c.args.self.now.state c.args.self.now.adjustment point frame.cycle ≡ None = search rules in
    subst (λ o. (is ≡ c.ripe_by_role.result) ↔ IsCollectedOrDropped network points at o is) (sym none)
    (collects_so network points at c.role.result c.ripe_by_role.result (c.role.ensures network points has) c.ripe_by_role.ensures is)

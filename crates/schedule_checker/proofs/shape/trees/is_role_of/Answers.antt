use Rattle.{net_plan.specs.declared.tables.Device.Device, schedule_checker.proofs.AtPlace.{none_past, some_there}}
use Rattle.std.{proofs.Common.{◌≡◌, Some}}
use Rattle.schedule_checker.proofs.shape.trees.is_role_of.Goals as goal
use Rattle.std.proofs.Common.{arith}

pub returns-in-Some : goal.returns-in-Some
returns-in-Some c =
    let P : Device → Type 0 = λ d. (d.role ≡ c.args.role) × (d.channel ≡ Some c.args.channel) in
    let at = c.args.device.0 in
    let found = c.in-Some.ensures.lookup in
    rw c.as_slice.ensures at (some_there P c.as_slice.result.now at c.in-Some.found.now c.has_role_on.result found.0
    found.1 c.has_role_on.ensures)

pub returns-in-None : goal.returns-in-None
returns-in-None c =
    search (arith, none_past)

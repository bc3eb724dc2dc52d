use Rattle.std.proofs.{Common.{◌++◌, ◌∷◌, [], arith, rules}, lemmas.{Grind.common_steps, List.Elements.{All-push, All-same}}}
use Rattle.net_plan.specs.Ranges.{IsDeviceInRange}
use Rattle.net_file.proofs.device.read_devices.Goals as goal

pub tables-preserved : goal.tables-preserved
tables-preserved c =
    let so_far = c.tables.devices.items in
    let thing = c.in-Ok-read_device.device in (
      first_of (grind (arith, common_steps), search rules),
      first_of (grind (arith, common_steps), search rules),
      All-same IsDeviceInRange c.push.new.self.items (so_far ++ thing ∷ []) (search rules)
          (All-push IsDeviceInRange so_far thing c.tables.invariant.2 c.in-Ok-read_device.ensures.in_range),
    )

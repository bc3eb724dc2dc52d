use Rattle.std.proofs.{Common.{◌++◌, ◌∷◌, ◌≡◌, [], ap, arith, length, rules}, lemmas.List.length_push}
use Rattle.world_drive.{proofs.machines_lemmas.Begun.begun_pushed, specs.declared.machines.device_machine.DeviceMachine.DeviceMachine}
use Rattle.world_drive.proofs.machines.beginning.machines_of.Goals as goal

pub loop-place-preserved : goal.loop-place-preserved
loop-place-preserved c =
    let machines = c.loop-place.machines.items in
    let last = c.in_ok-machine.machine in
    let items : c.push.new.self.items ≡ machines ++ last ∷ [] = search rules in
    record {
      count = omega (arith, ap (length {A = DeviceMachine}) items, length_push machines last, c.loop-place.invariant.count);
      begun = rw items (begun_pushed c.args.accepted.now machines last c.loop-place.place c.loop-place.invariant.count c.in_ok-machine.ensures
          c.loop-place.invariant.begun);
    }

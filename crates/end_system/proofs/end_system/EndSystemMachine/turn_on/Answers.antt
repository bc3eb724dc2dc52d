use Rattle.end_system.proofs.Ripe.{turns_on}
use Rattle.end_system.proofs.end_system.EndSystemMachine.turn_on.Goals as goal

pub returns-then-is_off : goal.returns-then-is_off
returns-then-is_off c = λ network device node stands off sound.
    turns_on c.on.new.self stands off c.on.ensures.value

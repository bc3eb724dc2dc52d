use Rattle.world_law.proofs.steps_lemmas.steps.Passed.{no_task}
use Rattle.world_state.proofs.kept.Kept.first_kind.Goals as goal

pub returns-in-Sound : goal.returns-in-Sound
returns-in-Sound g c = λ network device node is due.
    c.first_kind.ensures network device node (rw c.in-Sound.is at is).0 due

pub returns-in-Out : goal.returns-in-Out
returns-in-Out g c = λ network device node is due.
    let it = rw c.in-Out.is at is in
    absurd (no_task network device node due.0 it.0 due.1)

use Rattle.std.proofs.Common.{◌∙◌}
use Rattle.world_state.proofs.WorldSteps.{still_sound}
use Rattle.world_state.proofs.kept.Kept.act.Goals as goal

pub returns-in-Sound-clause-acted : goal.returns-in-Sound-clause-acted
returns-in-Sound-clause-acted g c = λ network device node is may due.
    let it = rw c.in-Sound.is at is in
    let then_is = c.act.ensures network device node it.0 may due in
    (then_is.0, then_is.1, (then_is.2, still_sound network device node c.args.moment c.act.result then_is.0 then_is.1 ∙ it.1))

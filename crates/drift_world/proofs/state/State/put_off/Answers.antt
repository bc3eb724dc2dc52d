use Rattle.drift_world.{proofs.Words.subst, specs.Acting.IsLeft}
use Rattle.drift_world.proofs.state.State.put_off.Goals as goal

pub defer-requires-clause-first : goal.defer-requires-clause-first
defer-requires-clause-first g c =
    subst (IsLeft g.C.Clock.reading g.M.Machine.stands c.args.network.now c.args.self.now c.args.device) c.in-Now.is
    c.requires.left

pub rekey_act_at-requires-clause-due : goal.rekey_act_at-requires-clause-due
rekey_act_at-requires-clause-due g c =
    (subst (IsLeft g.C.Clock.reading g.M.Machine.stands c.args.network.now c.args.self.now c.args.device) c.in-Next.is
    c.requires.left).0

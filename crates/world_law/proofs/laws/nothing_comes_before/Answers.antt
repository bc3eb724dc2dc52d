use Rattle.world_law.proofs.acts.Dues.{nothing_comes_before}
use Rattle.world_law.proofs.laws.nothing_comes_before.Goals as goal

pub returns : goal.returns
returns g c = nothing_comes_before g.C.Clock.reading g.M.Machine.stands

use Rattle.schedule_checker.proofs.NameLemmas.{decides_name}
use Rattle.schedule_checker.proofs.shape.names.is_same_name.Goals as goal

pub returns : goal.returns
returns c = decides_name 16 c.args.name.now c.args.other.now c.eq.result c.eq.ensures

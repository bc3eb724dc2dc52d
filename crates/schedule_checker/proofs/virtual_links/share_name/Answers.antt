use Rattle.schedule_checker.proofs.NameLemmas.{decides_name}
use Rattle.schedule_checker.proofs.virtual_links.share_name.Goals as goal

pub returns : goal.returns
returns c = decides_name 16 c.args.vl.now.name c.args.other.now.name c.eq.result c.eq.ensures

use Rattle.tte_audit.proofs.FirstLf.{first_is_position}
use Rattle.tte_audit.proofs.lines.first_lf.Goals as goal

pub returns-clause-place : goal.returns-clause-place
returns-clause-place c = first_is_position c.args.octets.now c.memchr.result c.memchr.ensures

use Rattle.drift_clock.proofs.Drifts.{lack_read}
use Rattle.drift_clock.proofs.segment.shifted_lack.Goals as goal

pub returns : goal.returns
returns c =
    lack_read c.args.rate.0 c.args.missing c.args.part c.args.each c.drift_of.result c.requires.slow c.requires.short c.requires.part c.requires.each
    c.drift_of.ensures.is c.drift_of.ensures.bound

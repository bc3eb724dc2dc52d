use Rattle.drift_clock.proofs.Drifts.{parts_read}
use Rattle.drift_clock.proofs.segment.shifted_parts.Goals as goal

pub returns : goal.returns
returns c =
    parts_read c.args.rate.0 c.args.since c.args.part c.drift_of.result c.requires.slow c.requires.short c.requires.part c.drift_of.ensures.is
    c.drift_of.ensures.bound

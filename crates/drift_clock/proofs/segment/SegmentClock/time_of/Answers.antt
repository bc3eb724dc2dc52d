use Rattle.std.proofs.Common.{◌+◌, ◌<◌, ap, arith, sym}
use Rattle.drift_clock.{proofs.Drifts.{IsCounted, segment_counts_up}}
use Rattle.drift_clock.{specs.{Counts.gain, Segment.Segment, SegmentLaws.gain_near}}
use Rattle.drift_clock.proofs.segment.SegmentClock.time_of.Goals as goal

-- as many steps count as many units
is_counted : (c : goal.After-steps_to) → IsCounted c.args.self.now c.args.goal (c.self.inside.at + c.steps_to.result)
is_counted c =
    let i = c.self.inside in
    let near = gain_near i.rate.0 1000000 c.self.invariant.0.slow (omega arith) in
    let low = near.0 in
    let fast : 0 < gain i.rate.0 = omega arith in
    rw (sym (ap (λ (x : Segment). x.at) (sym c.self.view_is)))
    (segment_counts_up c.args.self.now c.args.goal c.steps_to.result (rw (sym c.self.view_is) fast) c.requires.ahead
    c.steps_to.ensures)

pub returns-clause-counted : goal.returns-clause-counted
returns-clause-counted c = (is_counted c).counted

pub returns-clause-not_before : goal.returns-clause-not_before
returns-clause-not_before c = (is_counted c).not_before

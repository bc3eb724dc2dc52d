use Rattle.std.proofs.Common.{◌∙◌, ap, pos, sym}
use Rattle.drift_clock.{proofs.Drifts.whole_grains, specs.{Counts.rounded, Segment.segment_count}}
use Rattle.drift_clock.proofs.segment.SegmentClockClock.read.Goals as goal

pub returns : goal.returns
returns c =
    let s = c.args.self.now in
    let grain = c.self.inside.grain in
    let k = c.count_at-whole.result in
    let whole = sym (whole_grains grain k.whole k.part c.count_at-whole.ensures.part) in
    c.from_amount.ensures.whole
    ∙ ap pos (c.in_grains.ensures ∙ whole ∙ ap (rounded grain) c.count_at-whole.ensures.count
    ∙ ap (λ x. rounded x.grain (segment_count s c.amount.result)) c.self.view_is
    ∙ (rw c.amount.ensures.value))

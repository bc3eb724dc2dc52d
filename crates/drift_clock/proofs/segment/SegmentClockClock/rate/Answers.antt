use Rattle.std.proofs.{Common.{◌*◌, ◌-◌, ◌∙◌, ◌≤◌, ap, arith, sym, ℕ}, Math.Nat.mul-le-mul_right, lemmas.Int.ints}
use Rattle.drift_clock.specs.{Counts.gain, Segment.{Segment, counted, segment_count}, SegmentLaws.gain_near}
use Rattle.drift_clock.proofs.segment.SegmentClockClock.rate.Goals as goal

grows : (c : Segment) (t : ℕ) → c.count ≤ 1001000000 * c.at → c.at ≤ t → gain c.rate ≤ 1001000000 → segment_count c t ≤ 1001000000 * t
grows c t bound le fast =
    let part = mul-le-mul_right (t - c.at) fast in
    omega arith

pub invariant_of-self : goal.invariant_of-self
invariant_of-self c =
    let i = c.self.inside in
    let s : Segment = record { grain = i.grain; at = i.at; count = counted i.whole i.part; rate = i.rate.0 } in
    let is = c.self.view_is in
    let t = c.amount-t.result in
    let after : i.at ≤ t = omega (arith, ints, ap (λ x. x.at) is, c.requires.stepped, c.amount-t.ensures.whole) in
    let fast = gain_near i.rate.0 1000000 c.self.invariant.0.slow (omega arith) in
    let k = c.count_at-count.result in
    let count = c.count_at-count.ensures.count ∙ ap (λ x. segment_count x t) (sym is) in (
      record {
        some_grain = c.self.invariant.0.some_grain;
        fine = c.self.invariant.0.fine;
        time = omega (arith, ints, c.requires.limit, c.amount-t.ensures.whole);
        slow = c.requires.magnitude;
        bound = rw count (grows s t c.self.invariant.0.bound after (omega (arith, fast.1)));
      },
      c.count_at-count.ensures.part,
    )

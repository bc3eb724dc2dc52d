use Rattle.std.proofs.Common.{◌%◌, ◌*◌, ◌+◌, ◌<◌, ◌^◌, ◌≡◌, ◌≤◌, ap, arith, pos, sym, unsigned_abs}
use Rattle.std.proofs.lemmas.Int.{ints}
use Rattle.drift_clock.proofs.Drifts.{IsCounted, counts_on, reach_from, segment_comes, segment_reached}
use Rattle.drift_clock.specs.Segment.{segment_count, segment_reading}
use Rattle.drift_clock.proofs.segment.SegmentClockClock.reach.Goals as goal

pub returns-then-v-le0 : goal.returns-then-v-le0
returns-then-v-le0 c =
    record {
      from_on = omega (arith, ints);
      reached = omega (arith, ints);
      not_before = λ x from_x before. absurd (omega (arith, ints));
    }

pub returns-then-goal-self : goal.returns-then-goal-self
returns-then-goal-self c =
    let s = c.args.self.now in
    let t = unsigned_abs c.args.from.0 in
    let n = c.amount.result in
    let m = c.full_grains-goal.result in
    let grain : c.self.inside.grain ≡ s.grain = ap (λ x. x.grain) c.self.view_is in
    let count = ap (λ x. x.count) c.self.view_is in
    let some : 1 ≤ s.grain = omega (arith, c.self.invariant.0.some_grain) in
    let whole : m % s.grain ≡ 0 = rw grain at c.full_grains-goal.ensures.whole in
    let more = c.if-goal-self.true in
    let so_far : 10 ^ 9 * m ≤ segment_count s t = omega arith in
    let from_is : c.args.from.0 ≡ pos t = omega (arith, ints) in
    rw (sym from_is) at (reach_from (segment_reading s) c.args.from.0 c.args.v.0 t n t from_is c.amount.ensures.whole
    (segment_reached s t n m some whole c.full_grains-goal.ensures.enough so_far))

pub time_of-reached-requires-clause-ahead : goal.time_of-reached-requires-clause-ahead
time_of-reached-requires-clause-ahead c =
    let count = ap (λ x. x.count) c.self.view_is in
    let part = c.self.invariant.1 in
    let more = c.if-goal-self.false in
    omega arith

pub returns-then-reached-amount : goal.returns-then-reached-amount
returns-then-reached-amount c =
    let s = c.args.self.now in
    let t = unsigned_abs c.args.from.0 in
    let n = c.amount.result in
    let m = c.full_grains-goal.result in
    let grain : c.self.inside.grain ≡ s.grain = ap (λ x. x.grain) c.self.view_is in
    let some : 1 ≤ s.grain = omega (arith, c.self.invariant.0.some_grain) in
    let whole : m % s.grain ≡ 0 = rw grain at c.full_grains-goal.ensures.whole in
    let past = c.if-reached-amount.true in
    let on = counts_on s c.time_of-reached.result t (omega (arith, ints)) in
    let counted = c.time_of-reached.ensures.counted in
    let from_is : c.args.from.0 ≡ pos t = omega (arith, ints) in
    rw (sym from_is) at (reach_from (segment_reading s) c.args.from.0 c.args.v.0 t n t from_is c.amount.ensures.whole
    (segment_reached s t n m some whole c.full_grains-goal.ensures.enough (omega arith)))

pub returns : goal.returns
returns c =
    let s = c.args.self.now in
    let t = unsigned_abs c.args.from.0 in
    let n = c.amount.result in
    let m = c.full_grains-goal.result in
    let grain : c.self.inside.grain ≡ s.grain = ap (λ x. x.grain) c.self.view_is in
    let some : 1 ≤ s.grain = omega (arith, c.self.invariant.0.some_grain) in
    let whole : m % s.grain ≡ 0 = rw grain at c.full_grains-goal.ensures.whole in
    let least : m < n + s.grain = rw grain at c.full_grains-goal.ensures.least in
    let counted : IsCounted s m c.time_of-reached.result = record {
      counted = c.time_of-reached.ensures.counted;
      not_before = c.time_of-reached.ensures.not_before;
    } in
    let r = segment_comes s t n m c.time_of-reached.result some whole c.full_grains-goal.ensures.enough least
    (omega (arith, ints)) (omega (arith, ints)) counted in
    rw c.from_amount.ensures.whole
    (reach_from (segment_reading s) c.args.from.0 c.args.v.0 t n c.time_of-reached.result (omega (arith, ints))
    c.amount.ensures.whole r)

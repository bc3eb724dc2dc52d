use Rattle.std.proofs.{Common.{◌%◌, ◌*◌, ◌+◌, ◌/◌, ◌<◌, ◌≡◌, ◌≤◌, arith, unsigned_abs}, lemmas.Int.ints}
use Rattle.drift_clock.proofs.Drifts.{reach_from, steady_reaches}
use Rattle.drift_clock.proofs.steady.SteadyClockClock.reach.Goals as goal

pub returns : goal.returns
returns c =
    let grain = c.args.self.now in
    let t = unsigned_abs c.args.from.0 in
    let n = c.amount.result in
    let m = c.next_multiple_of.result in
    let is = c.self.view_is in
    let some : 1 ≤ grain = omega (arith, c.self.invariant.0) in
    let short : grain * (t / grain) < n = omega (arith, ints, c.read.ensures, c.if-v-read.false, c.amount.ensures.whole) in
    let whole : m % grain ≡ 0 = rw is at c.next_multiple_of.ensures.multiple in
    let least : m < n + grain = rw is at c.next_multiple_of.ensures.upper_bound in
    let r = steady_reaches grain t n m some whole c.next_multiple_of.ensures.lower_bound least short in
    rw c.from_amount.ensures.whole (reach_from (λ x. grain * (x / grain)) c.args.from.0 c.args.v.0 t n m (omega (arith, ints)) c.amount.ensures.whole r)

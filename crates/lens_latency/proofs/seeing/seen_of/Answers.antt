use Rattle.lens_latency.{proofs.SeenTimes.{few_taken, seen_off, seen_on}, specs.declared.seeing.SeenFrames.SeenFrames}
use Rattle.std.proofs.Common.{◌<◌, ◌^◌, ◌∙◌, ◌≤◌, IfSome, None, Option, Some, arith, length, rules, sym, ℕ}
use Rattle.lens_latency.proofs.seeing.seen_of.Goals.{else-is_of, then-is_of}
use Rattle.lens_latency.proofs.seeing.seen_of.Goals as goal

pub with_time-seen-requires : goal.with_time-seen-requires
with_time-seen-requires c =
    let few = few_taken c.args.coming.now c.args.arrivals.now c.arrivals.arrival-index c.arrivals.seen c.arrivals.invariant in
    let all : length c.args.arrivals.now < 2 ^ 63 = search rules in
    by c.arrivals.seen (length c.args.arrivals.now) all few
  where
    by : (seen : Option SeenFrames) (n : ℕ) → n < 2 ^ 63 → IfSome seen (λ s. s.count ≤ n) → IfSome seen (λ s. s.count < 2 ^ 63)
    by None n all few = few
    by (Some seen) n all few = omega (arith, all, few)

pub arrivals-preserved : goal.arrivals-preserved
arrivals-preserved c =
    elim c.if-is_of.branch [
      | then-is_of w ↦
          seen_on c.args.coming.now c.args.arrivals.now c.arrivals.arrival-index _ c.arrivals.seen c.if-is_of.seen c.arrivals-test.true
          (sym c.is_of.ensures ∙ w.if-is_of.true) (w.seen-is ∙ w.with_time-seen.ensures) c.arrivals.invariant
      | else-is_of w ↦
          seen_off c.args.coming.now c.args.arrivals.now c.arrivals.arrival-index _ c.arrivals.seen c.if-is_of.seen c.arrivals-test.true
          (sym c.is_of.ensures ∙ w.if-is_of.false) w.seen-is c.arrivals.invariant
    ]

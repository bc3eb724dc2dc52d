-- What a segment counts over its steps.
use Rattle.std.{proofs.{Common.{◌*◌, ◌+◌, ◌-◌, ◌∷◌, ◌≡◌, List, [], arith, refl, zero-add, ℕ}, lemmas.List.Sums.sum_by-cons}, specs.Prelude.sum_by}
use Rattle.drift_clock.specs.{Counts.{ReadsCount, Stretch, gain, stretches}, RateSteps.RateStep, Readings.value_after}
use Rattle.drift_clock.specs.Segment.{Segment, fresh_segment, segment_count, segment_reading, stepped_segment}

abbrev weight : Stretch → ℕ
weight s = gain s.rate * s.units

-- the count at t is that at the last step, and the gains over the stretches since
counts : (c : Segment) (steps : List RateStep) (t : ℕ) → segment_count (value_after stepped_segment c steps) t ≡ c.count + sum_by weight
    (stretches c.at c.rate steps t)
counts c [] t = omega (arith, sum_by-cons weight (record { rate = c.rate; units = t - c.at }) [])
counts c (s ∷ steps) t =
    let rest = counts (stepped_segment c s.at s.rate) steps t in
    omega (arith, sum_by-cons weight (record { rate = c.rate; units = s.at - c.at }) (stretches s.at s.rate steps t))

-- steps keep the grain
grain_stays : (c : Segment) (steps : List RateStep) → (value_after stepped_segment c steps).grain ≡ c.grain
grain_stays c [] = refl
grain_stays c (s ∷ steps) = grain_stays (stepped_segment c s.at s.rate) steps

pub reads_count : ReadsCount fresh_segment stepped_segment segment_reading
reads_count grain steps t = grind (arith, counts, zero-add, grain_stays)

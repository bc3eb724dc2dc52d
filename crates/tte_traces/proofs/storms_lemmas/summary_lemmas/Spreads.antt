-- The greatest spread of records.
use Rattle.{run_law.specs.{device.LocalClocks.local, records.Happenings.{Happening, time_of}}, std.proofs.Common.{◌≡◌, ◌≤ℤ◌, List, ap, arith, inl, inr, pos, ℤ}}
use Rattle.{run_law.specs.scenario.Scenarios.Scenario, std.proofs.lemmas.Int.ints, tte_units.specs.declared.units.Units.Units}
use Rattle.tte_traces.specs.storms.summary.{Laws.{SpreadIsOne, SpreadIsWithinPrecision}, Spread.{AreSeenApart, IsGreatestSpread}}

-- where two devices are seen, one is seen with itself
alone : {s : Scenario} {hs : List Happening} {apart : ℤ} → AreSeenApart s hs apart → AreSeenApart s hs (pos 0)
alone {s} {hs} seen =
    let seen_then = seen.apart_then in
    let here = local s hs seen_then.ahead (time_of seen.seen_at) in
    record {
      seen_at = seen.seen_at;
      there = seen.there;
      correction = seen.correction;
      apart_then = record {
        ahead = seen_then.ahead;
        behind = seen_then.ahead;
        ahead_there = seen_then.ahead_there;
        behind_there = seen_then.ahead_there;
        ahead_in_step = seen_then.ahead_in_step;
        behind_in_step = seen_then.ahead_in_step;
        is = omega (arith, ints);
      };
    }

-- one is at most the other
at_most : {s : Scenario} {hs : List Happening} {a b : Units} → IsGreatestSpread s hs a → IsGreatestSpread s hs b
    → a.0 ≤ℤ b.0
at_most {a} one other =
    elim one.reached [
      | inl none ↦
          elim other.reached [
            | inl zero ↦ omega (arith, ints, none, zero)
            | inr seen ↦ omega (arith, ints, none, other.bound (pos 0) (alone seen))
          ]
      | inr seen ↦ other.bound a.0 seen
    ]

pub spread_is_one : SpreadIsOne
spread_is_one s hs a b one other =
    let same : a.0 ≡ b.0 = omega (arith, ints, at_most one other, at_most other one) in
    ap (λ (z : ℤ). let u : Units = record { 0 = z } in u) same

pub within_precision : SpreadIsWithinPrecision
within_precision s hs until spread least bounded agree greatest =
    elim greatest.reached [
      | inl none ↦ omega (arith, ints, none, least)
      | inr seen ↦
          let seen_then = seen.apart_then in
          let at = time_of seen.seen_at in
          let close = agree.after at seen_then.ahead seen_then.behind (bounded seen.seen_at seen.there) seen_then.ahead_in_step seen_then.behind_in_step in
          omega (arith, ints, close.one, seen_then.is)
    ]

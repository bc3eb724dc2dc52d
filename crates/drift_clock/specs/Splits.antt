-- A count comes back from its whole units and parts.
use Rattle.std.{proofs.Common.{◌∙◌, ap, arith}, specs.Prelude.{◌%◌, ◌/◌, ◌<◌, ◌^◌, ◌≡◌, ℕ}}
use Rattle.drift_clock.specs.{Segment.counted, declared.segment.SegmentClock.TheInside.Inside}

whole_back : (whole part : ℕ) → part < 10 ^ 9 → counted whole part / 10 ^ 9 ≡ whole
whole_back whole part less = omega (arith, less)

part_back : (whole part : ℕ) → part < 10 ^ 9 → counted whole part % 10 ^ 9 ≡ part
part_back whole part less = omega (arith, less)

pub split_back : (c : Inside) → c.part < 10 ^ 9
    → ◌≡◌ {A = Inside} (record {
      grain = c.grain;
      at = c.at;
      whole = counted c.whole c.part / 10 ^ 9;
      part = counted c.whole c.part % 10 ^ 9;
      rate = c.rate;
    }) c
split_back c less =
    ap (λ (n : ℕ). let i : Inside = record {
      grain = c.grain;
      at = c.at;
      whole = n;
      part = counted c.whole c.part % 10 ^ 9;
      rate = c.rate;
    } in i) (whole_back c.whole c.part less)
    ∙ ap (λ (n : ℕ). let i : Inside = record { grain = c.grain; at = c.at; whole = c.whole; part = n; rate = c.rate } in
    i) (part_back c.whole c.part less)

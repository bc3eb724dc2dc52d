use Rattle.{device_rules.{proofs.Numbers.fits_far, specs.Widths.IsFar}, std.{proofs.{Common.arith, lemmas.Int.{ints, to_z-of_z}}, specs.Int.w128}}
use Rattle.device_rules.proofs.correcting.joined_adjustment.Goals as goal

pub overflow_sub-result : goal.overflow_sub-result
overflow_sub-result c =
    let low = c.expected_at.ensures.low in
    let high = c.expected_at.ensures.high in
    let far : IsFar c.expected_at.result = record { least = omega (arith, ints); most = omega (arith, ints) } in
    let e = to_z-of_z w128 c.expected_at.result (fits_far far) in
    fits_far (record { least = omega (arith, ints); most = omega (arith, ints) })

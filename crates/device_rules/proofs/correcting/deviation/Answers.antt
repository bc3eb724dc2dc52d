use Rattle.{device_rules.proofs.Numbers.fits_far, std.proofs.{Common.arith, lemmas.Int.ints}}
use Rattle.device_rules.proofs.correcting.deviation.Goals as goal

pub overflow_sub-result : goal.overflow_sub-result
overflow_sub-result c =
    let low = c.requires.low in
    let high = c.requires.high in
    fits_far (record { least = omega (arith, ints); most = omega (arith, ints) })

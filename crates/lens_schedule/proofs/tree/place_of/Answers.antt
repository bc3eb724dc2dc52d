use Rattle.std.proofs.{Common.{◌^◌, ◌≤◌, arith}, Math.Nat.pow-le-pow_right, lemmas.Int.ints}
use Rattle.lens_schedule.proofs.tree.place_of.Goals as goal

pub overflow_mul-place : goal.overflow_mul-place
overflow_mul-place c =
    let level : c.levels.level ≤ 7 = omega (arith, c.levels-test.true) in
    let power : 256 ^ c.levels.level ≤ 72057594037927936 = pow-le-pow_right (omega arith) level in
    let bound = c.levels.invariant.bound in
    omega (arith, ints, power, bound)

pub overflow_add-place : goal.overflow_add-place
overflow_add-place c =
    let level : c.levels.level ≤ 7 = omega (arith, c.levels-test.true) in
    let power : 256 ^ c.levels.level ≤ 72057594037927936 = pow-le-pow_right (omega arith) level in
    let bound = c.levels.invariant.bound in
    let digit = c.digit_of.ensures.bound in
    omega (arith, ints, power, bound, digit)

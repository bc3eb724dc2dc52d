use Rattle.std.{proofs.Common.{◌*◌, ◌+◌, ◌-◌, ◌<◌, ◌∙◌, ◌≡◌, ap, arith}, specs.Int.div_ceil}
use Rattle.drift_clock.{proofs.Drifts.shifted_ceiling, specs.SegmentLaws.gain_near}
use Rattle.drift_clock.proofs.segment.short_steps.Goals as goal

pub overflow_sub-result : goal.overflow_sub-result
overflow_sub-result c =
    let each = c.gain_of-each.result in
    let more = c.shifted_lack-more.result in
    let near = gain_near c.args.rate.0 1000000 c.requires.slow (omega arith) in
    let some : 0 < each = omega (arith, c.gain_of-each.ensures) in
    let y = 1000000000 * c.args.missing - c.args.part in
    let whole = shifted_ceiling more y each c.args.missing 4500000000 c.div_ceil.result some c.div_ceil.ensures
    (omega (arith, c.shifted_lack-more.ensures, c.requires.some)) in
    omega arith

pub returns : goal.returns
returns c =
    let each = c.gain_of-each.result in
    let more = c.shifted_lack-more.result in
    let near = gain_near c.args.rate.0 1000000 c.requires.slow (omega arith) in
    let some : 0 < each = omega (arith, c.gain_of-each.ensures) in
    let y = 1000000000 * c.args.missing - c.args.part in
    let whole = shifted_ceiling more y each c.args.missing 4500000000 c.div_ceil.result some c.div_ceil.ensures
    (omega (arith, c.shifted_lack-more.ensures, c.requires.some)) in
    let steps : c.args.missing + c.div_ceil.result - 4500000000 ≡ div_ceil y each = omega arith in
    steps ∙ ap (div_ceil y) c.gain_of-each.ensures

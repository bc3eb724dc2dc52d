use Rattle.std.proofs.{Common.arith, lemmas.Int.ints}
use Rattle.device_rules.proofs.collecting.dispatch_value.Goals as goal

pub returns : goal.returns
returns c =
    let shown = c.shown.ensures.value in
    let far = c.shown.ensures.fits.least in
    let most = c.shown.ensures.fits.most in
    let d = c.dmax.ensures.value in
    let dm = c.dmax.ensures.high in
    let p = c.precision.ensures.value in
    let pm = c.precision.ensures.high in
    omega (arith, ints)

use Rattle.std.proofs.Common.{ap, arith, length, refl}
use Rattle.tte_io.proofs.LineReading.{too_long_behind}
use Rattle.tte_io.proofs.taking.advance.Goals as goal

pub returns-then-count-room_left-clause-advances : goal.returns-then-count-room_left-clause-advances
returns-then-count-room_left-clause-advances c =
    let front = rw c.as_slice-octets.ensures at c.before_lf-count.ensures.unbroken in (
      too_long_behind c.args.line.now c.args.ahead.now c.before_lf-count.result c.requires.unbroken front (omega (arith, ap length c.as_slice-octets.ensures))
          (omega arith),
      refl,
      refl,
    )

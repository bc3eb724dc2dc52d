-- The octets that the last read gave come behind those before it.
use Rattle.{std.proofs.{Common.{◌++◌, arith, length-append, take}, KnownBytes.Consumes-trans, lemmas.List.length-take}, tte_io.proofs.Taken.too_many-left}
use Rattle.tte_io.proofs.whole.read_all.Goals as goal

pub returns-then-count-limit-clause-too_long : goal.returns-then-count-limit-clause-too_long
returns-then-count-limit-clause-too_long g c _ =
    let before = c.pieces.octets.items in
    let piece = take c.in-Ok.count c.read.new.buf in (
      before ++ piece,
      omega (arith, length-append before piece, length-take c.in-Ok.count c.read.new.buf, c.in-Ok.ensures.bound, c.pieces.octets.ok.0),
      Consumes-trans _ _ _ _ _ c.pieces.invariant.taken c.in-Ok.ensures.octets.0,
    )

pub returns-then-count-limit-clause-too_long_left : goal.returns-then-count-limit-clause-too_long_left
returns-then-count-limit-clause-too_long_left g c is = too_many-left _ _ c.args.limit (returns-then-count-limit-clause-too_long g c is)

pub returns-then-count-limit-clause-taken : goal.returns-then-count-limit-clause-taken
returns-then-count-limit-clause-taken g c =
    let before = c.pieces.octets.items in
    let piece = take c.in-Ok.count c.read.new.buf in (
      before ++ piece,
      let came = length-take c.in-Ok.count c.read.new.buf in
          omega (arith, length-append before piece, c.read.auto.buf, c.pieces.invariant.within),
      Consumes-trans _ _ _ _ _ c.pieces.invariant.taken c.in-Ok.ensures.octets.0,
    )

pub returns-then-is_err-clause-taken : goal.returns-then-is_err-clause-taken
returns-then-is_err-clause-taken g c =
    let before = c.pieces.octets.items in
    let piece = take c.in-Ok.count c.read.new.buf in (
      before ++ piece,
      let came = length-take c.in-Ok.count c.read.new.buf in
          omega (arith, length-append before piece, c.read.auto.buf, c.pieces.invariant.within),
      Consumes-trans _ _ _ _ _ c.pieces.invariant.taken c.in-Ok.ensures.octets.0,
    )

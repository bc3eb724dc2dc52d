use Rattle.{audit_law.proofs.collections_lemmas.Wide.fits_wide, std.proofs.{Common.arith, lemmas.Int.ints}}
use Rattle.audit_law.proofs.collections.mean.mean.Goals as goal

pub overflow_add-a : goal.overflow_add-a
overflow_add-a c =
    fits_wide _ (omega (arith, ints, c.requires.first.low, c.requires.second.low))
    (omega (arith, ints, c.requires.first.high, c.requires.second.high))

use Rattle.std.proofs.Common.{◌∷◌, [], ap, arith, length, length-append}
use Rattle.schedule_tables.proofs.SlotLemmas.{entry_pushed}
use Rattle.schedule_tables.proofs.entry.entries_of.Goals as goal

pub loop-place-preserved : goal.loop-place-preserved
loop-place-preserved c = record {
  count =
      omega (
        arith,
        ap (length) c.in-Ok.ensures.items,
        length-append c.loop-place.entries.items (c.entry_of.result ∷ []),
        c.loop-place.invariant.count,
      );
  each =
      rw c.in-Ok.ensures.items (entry_pushed c.loop-place.entries.items c.loop-place.invariant.count
      c.entry_of.ensures.is c.loop-place.invariant.each);
}

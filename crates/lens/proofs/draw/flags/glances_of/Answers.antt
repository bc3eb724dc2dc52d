use Rattle.std.proofs.Common.{refl}
use Rattle.lens.proofs.draw_lemmas.Keeping.{own_none}
use Rattle.lens.proofs.draw.flags.glances_of.Goals as goal

pub take_records-requires-clause-none : goal.take_records-requires-clause-none
take_records-requires-clause-none c notes end r = record {
  subject_is = refl;
  span_is = refl;
  own = own_none c.args.network.now c.args.subject notes c.in-Ok.flags.items c.in-Ok.ensures.items;
  glances = c.in-Ok-with_capacity.ensures.items;
  clocks = c.new-clocks.ensures;
}

use Rattle.lens_plan.{proofs.Courses.rows_more, specs.places.Offsets.AreSmall}
use Rattle.std.{proofs.{Common.{◌∷◌, [], subst, sym}, lemmas.List.Elements.{All-append, All-cons, All-nil}}, specs.List.All}
use Rattle.lens_plan.proofs.places.there.rows_there.Goals as goal

pub rows-preserved : goal.rows-preserved
rows-preserved c =
    let row = c.taken_by.result in
    record {
      are = rows_more c.push.new.self.items row c.rows.invariant.are
          c.entry_of-entry.ensures.is c.taken_by.ensures.value c.in-Ok.ensures.items;
      small = subst (All AreSmall) (sym c.in-Ok.ensures.items)
          (All-append AreSmall c.rows.rows.items (row ∷ []) c.rows.invariant.small (All-cons AreSmall row [] c.taken_by.ensures.small (All-nil AreSmall)));
    }

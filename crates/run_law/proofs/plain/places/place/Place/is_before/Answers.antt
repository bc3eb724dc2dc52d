use Rattle.std.proofs.Common.{◌∙◌, ap, refl, sym}
use Rattle.run_law.{proofs.plain_lemmas.Padded.padded, specs.{plain.Places.numbers_of, records.Order.is_before}}
use Rattle.run_law.proofs.plain.places.place.Place.is_before.Goals as goal

pub returns : goal.returns
returns c =
    let mine = c.self.inside.numbers in
    let others = c.other.inside.numbers in
    c.are_before.ensures
    ∙ sym (padded mine.count others.count (numbers_of mine) (numbers_of others) refl c.self.invariant.within c.other.invariant.within
    c.self.invariant.zeros c.other.invariant.zeros)
    ∙ (rw c.self.view_is
    (ap (is_before c.args.self.now) c.other.view_is))

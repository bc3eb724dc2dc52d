use Rattle.{run_law.proofs.plain_lemmas.Padded.first, std.proofs.Common.{◌∙◌}}
use Rattle.run_law.proofs.plain.places.place.Place.time.Goals as goal

pub returns : goal.returns
returns c =
    let numbers = c.self.inside.numbers in
    first numbers.count numbers.time _ c.self.invariant.zeros ∙ (rw c.self.view_is)

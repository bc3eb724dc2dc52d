use Rattle.std.proofs.{Common.{◌∙◌, ◌≡◌, ap, arith}, lemmas.Int.ints}
use Rattle.compression.{proofs.Collectors.{fits_within, middle-within}, specs.Middle.{middle_of, relative}}
use Rattle.compression.proofs.collection.Collection.emission.Goals as goal

pub overflow_add-result-2 : goal.overflow_add-result-2
overflow_add-result-2 c =
    let opened : c.self.inside.opened.0 ≡ c.args.self.now.opened = ap (λ v. v.opened) c.self.view_is in
    fits_within _ (omega (arith, ints, c.requires.collection.low)) (omega (arith, ints, c.requires.collection.high))

pub overflow_add-result-3 : goal.overflow_add-result-3
overflow_add-result-3 c =
    let opened : c.self.inside.opened.0 ≡ c.args.self.now.opened = ap (λ v. v.opened) c.self.view_is in
    let middle = c.middle-middle.ensures
    ∙ ap (λ v. middle_of (relative v.points)) c.self.view_is in
    let within = middle-within c.requires.collection in
    fits_within _ (omega (arith, ints, within.0, c.requires.collection.low))
    (omega (arith, ints, within.1, c.requires.collection.high))

pub returns : goal.returns
returns c =
    let opened : c.self.inside.opened.0 ≡ c.args.self.now.opened = ap (λ v. v.opened) c.self.view_is in
    let middle = c.middle-middle.ensures
    ∙ ap (λ v. middle_of (relative v.points)) c.self.view_is in
    let within = middle-within c.requires.collection in
    omega (arith, ints, within.0, within.1)

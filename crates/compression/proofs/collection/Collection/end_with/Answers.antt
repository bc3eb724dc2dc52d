use Rattle.{compression.proofs.Collections.joined_end-first, std.proofs.{Common.{◌+ℤ◌, ◌∙◌, ◌≡◌, ◌≤ℤ◌, ap, arith, sym}, lemmas.Int.ints}}
use Rattle.compression.proofs.collection.Collection.end_with.Goals as goal

pub returns-then-reading-self : goal.returns-then-reading-self
returns-then-reading-self c =
    let opened : c.self.inside.opened.0 ≡ c.args.self.now.opened = ap (λ v. v.opened) c.self.view_is in
    let first : c.args.reading.0 ≤ℤ (c.args.self.now.opened +ℤ c.args.ow.0) =
    omega (arith, ints, c.if-reading-self.true) in
    omega (arith, ints) ∙ sym (joined_end-first c.args.ow.0 c.args.self.now c.args.reading.0 first)

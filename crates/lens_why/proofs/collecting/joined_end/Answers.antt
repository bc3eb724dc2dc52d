use Rattle.compression.proofs.Collections.{joined_end-first}
use Rattle.{lens_why.specs.declared.collecting.LastCollection.LastCollection, std.proofs.{Common.{◌+ℤ◌, ◌∙◌, ◌≡◌, ◌≤ℤ◌, ap, arith, pos, sym}, lemmas.Int.ints}}
use Rattle.lens_why.proofs.collecting.joined_end.Goals as goal

pub returns-then-from-opened : goal.returns-then-from-opened
returns-then-from-opened c k is =
    let opened : c.args.collection.opened.0 ≡ k.opened = ap (λ (x : LastCollection). x.opened.0) is in
    let first : c.args.point.0 ≤ℤ (k.opened +ℤ pos c.args.ow) = omega (arith, ints, c.if-from-opened.true, opened) in
    omega (arith, ints, opened) ∙ sym (joined_end-first (pos c.args.ow) k c.args.point.0 first)

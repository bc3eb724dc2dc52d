use Rattle.std.proofs.{Common.{◌+◌, ◌<◌, ◌∙◌, ◌≡◌, List, ap, arith, get_or, length, pos, ℕ}, lemmas.{Int.ints, List.get_or_default}}
use Rattle.audit_law.proofs.collections_lemmas.Clusters.{offset-points}
use Rattle.audit_law.proofs.collections.history.CollectionHistory.offset.Goals as goal

pub returns-clause-value : goal.returns-clause-value
returns-clause-value c =
    let counted = c.args.self.now.counted in
    let k = c.args.kept.now in
    let items : c.self.inside.counted.items ≡ counted = ap (λ v. v.counted) c.self.view_is in
    let inside : (k.from + c.args.place) < length c.self.inside.counted.items = rw items (omega (arith, c.requires.counted.within, c.requires.inside)) in
    let start : k.from < length c.self.inside.counted.items = omega (arith, inside) in
    let point : c.index-point.result.now ≡ get_or counted (k.from + c.args.place) (pos 0) = c.index-point.ensures
    ∙ get_or_default c.self.inside.counted.items (k.from + c.args.place) c.index-point.result.now (pos 0) inside
    ∙ ap (λ (xs : List _). get_or xs (k.from + c.args.place) (pos 0)) items in
    let first : c.index-first.result.now ≡ get_or counted (k.from + 0) (pos 0) = c.index-first.ensures
    ∙ get_or_default c.self.inside.counted.items k.from c.index-first.result.now (pos 0) start
    ∙ ap (λ (xs : List _). get_or xs k.from (pos 0)) items
    ∙ ap (λ (n : ℕ). get_or counted n (pos 0)) (omega arith) in
    let value = offset-points counted k c.args.place c.requires.counted c.requires.inside in
    omega (arith, ints, point, first, value)

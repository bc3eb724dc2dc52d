use Rattle.std.proofs.Common.{◌<ℤ◌, ◌∙◌, ◌≤ℤ◌, arith, drop, sym, take}
use Rattle.audit_law.proofs.collections_lemmas.Clusters.{role-beyond, role-within}
use Rattle.{compression.specs.Clusters.{point_at}}
use Rattle.{std.proofs.lemmas.Int.ints}
use Rattle.audit_law.proofs.collections.history.CollectionHistory.role.Goals as goal

pub returns-then-row-from : goal.returns-then-row-from
returns-then-row-from c =
    let h = c.args.self.now in
    let row = c.in-Some.row in
    let p = point_at c.args.reading c.args.master c.args.cycle in
    let past : row.last.end <ℤ c.args.reading = omega (arith, ints, c.if-row-from.true, c.from.ensures) in
    sym (rw c.in-Some.is
    (role-beyond h.counted (take row.count (drop row.from h.closed)) row.last p past))

pub returns : goal.returns
returns c =
    let h = c.args.self.now in
    let row = c.in-Some.row in
    let p = point_at c.args.reading c.args.master c.args.cycle in
    let within : c.args.reading ≤ℤ row.last.end = omega (arith, ints, c.if-row-from.false, c.from.ensures) in
    c.role.ensures h.counted ∙ sym (rw c.in-Some.is
    (role-within h.counted (take row.count (drop row.from h.closed)) row.last p within))

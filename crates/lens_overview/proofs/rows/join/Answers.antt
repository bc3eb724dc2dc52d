use Rattle.lens_overview.{proofs.LawLines.joins_at, specs.Rows.{Row, is_like, raised}}
use Rattle.lens_overview.specs.declared.{label.Group.TheVariants.{States}, label.Label.TheVariants.{Title}}
use Rattle.std.proofs.{Common.{◌<◌, ◌∙◌, ◌≡◌, List, [], ap, get_or, length, rules, set, subst, sym, true}, lemmas.List.get_or_read}
use Rattle.lens_overview.proofs.rows.join.Goals as goal

-- a row of no place
abbrev none : Row
none = record { label = Title States; cells = [] }

pub returns-then-is_like : goal.returns-then-is_like
returns-then-is_like c =
    let rows = c.args.rows.now.items in
    let p = c.rows.place in
    let vl = c.args.flow.now.vl in
    let within : p < length rows = search rules in
    let same = c.rows.invariant.same in
    let row : c.index.result.now ≡ get_or rows p none =
    get_or_read rows p c.index.result.now within
    (subst (λ (xs : List Row). c.index.result.now ≡ get_or xs p c.index.result.now) same c.index.ensures) none in
    let raises : c.add_receiver.new.row ≡ raised (get_or rows p none) =
    c.add_receiver.ensures ∙ ap (λ x. raised x)
    (get_or_read rows p c.index_mut.result.now within
    (subst (λ (xs : List Row). c.index_mut.result.now ≡ get_or xs p c.index_mut.result.now) same c.index_mut.ensures.value) none) in
    let cells : c.as_slice.result.now ≡ c.args.cells.items = c.as_slice.ensures.value in
    let like : is_like vl c.args.cells.items (get_or rows p none) ≡ true =
    ap (λ x. is_like vl c.args.cells.items x) (sym row) ∙ ap (λ xs. is_like vl xs c.index.result.now) (sym cells)
    ∙ sym c.is_like.ensures ∙ c.if-is_like.true in
    ap (λ (xs : List Row). set xs p c.add_receiver.new.row) same ∙ ap (λ (row : Row). set rows p row) raises
    ∙ joins_at c.args.flow.now c.args.cells.items rows p none within like ∙ sym c.rows.invariant.joins

use Rattle.lens_overview.{proofs.LawCells.{copies_fill, seen_by}}
use Rattle.lens_overview.{specs.{Copies.is_copy_of, declared.shade.Shade.TheVariants.Blank}}
use Rattle.std.{proofs.{Common.{◌+◌, ◌∙◌, ap, arith, replicate}, lemmas.List.take_all}, specs.Prelude.{filter, fold}}
use Rattle.lens_overview.proofs.cells.cells_of_flow.Goals as goal

pub returns : goal.returns
returns c =
    let own = c.args.own.now in
    let start = replicate (own.run.last + 1) Blank in
    let copies = c.as_slice-copies.result.now in
    let test = c.copies-test.false in
    let whole =
    c.copies.invariant
    ∙ ap (fold (seen_by own.vl c.args.device) start) (take_all c.copies.change-index copies (omega (arith, test))
    ∙ c.as_slice-copies.ensures.value ∙ own.copies_are ∙ ap (filter (is_copy_of own.vl)) own.run.copies_are)
    ∙ copies_fill own.vl c.args.device own.run.grid start own.run.news.now in
    rw (c.deref.ensures.value ∙ whole) at c.narrowed.ensures

use Rattle.lens_overview.proofs.LawCells.{counts_skip, lane_skips, passage_skips}
use Rattle.lens_overview.specs.{Cells.taken, declared.{label.Label.Label, news.News.News}}
use Rattle.{std.proofs.Common.{◌∙◌, ◌≡◌, List, ap, subst, sym}, std.specs.Prelude.fold}
use Rattle.lens_overview.specs.declared.label.Label.TheVariants as labels
use Rattle.lens_overview.proofs.cells.part_for.Goals as goal

pub returns-in-Count : goal.returns-in-Count
returns-in-Count c cells =
    let run = c.args.run in
    let shown = λ (label : Label) (all : List News). fold (taken run.grid label) cells all in
    subst (λ label. shown label run.counts.now ≡ shown label run.news.now) (sym c.in-Count.is)
    (ap (λ all. shown (labels.Count c.in-Count.field-0) all) run.counts_are ∙ counts_skip run.grid c.in-Count.field-0 cells run.news.now)

pub returns-in-Lane : goal.returns-in-Lane
returns-in-Lane c cells =
    let run = c.args.run in
    let shown = λ (label : Label) (all : List News). fold (taken run.grid label) cells all in
    subst (λ label. shown label run.changes.now ≡ shown label run.news.now) (sym c.in-Lane.is)
    (ap (λ all. shown (labels.Lane c.in-Lane.field-0) all) run.changes_are ∙ lane_skips run.grid c.in-Lane.field-0 cells run.news.now)

pub returns-in-Passage : goal.returns-in-Passage
returns-in-Passage c cells =
    let run = c.args.run in
    let shown = λ (label : Label) (all : List News). fold (taken run.grid label) cells all in
    subst (λ label. shown label run.changes.now ≡ shown label run.news.now) (sym c.in-Passage.is)
    (ap (λ all. shown (labels.Passage c.in-Passage.field-0 c.in-Passage.field-1) all) run.changes_are
    ∙ passage_skips run.grid c.in-Passage.field-0 c.in-Passage.field-1 cells run.news.now)

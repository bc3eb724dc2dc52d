-- The strip of the greatest spread of each column.
use Rattle.std.specs.Prelude.{List, None, Option, Some, fold, max, replicate, slice_get, unwrap_or, ℕ}
use Rattle.lens_overview.specs.{Grids.column_of, declared.{grid.Grid.Grid, news.News.News}}
use Rattle.lens_svg.specs.Sketching.{with_at}

-- the greater of two spreads, where there are any
abbrev pub greater : Option ℕ → Option ℕ → Option ℕ
greater None second = second
greater (Some first) None = Some first
greater (Some first) (Some second) = Some (max first second)

-- the bar of the column with one more spread
abbrev pub raised : Grid → List (Option ℕ) → News → List (Option ℕ)
raised grid bars news =
    let column = column_of grid news.cycle in
    with_at bars column (greater (unwrap_or (slice_get bars column) None) news.spread)

-- the greatest spread of each column
abbrev pub bars_of : Grid → List News → List (Option ℕ)
bars_of grid all = fold (raised grid) (replicate grid.columns None) all

-- the greatest of all
abbrev pub greatest_of : List News → Option ℕ
greatest_of all = fold (λ greatest news. greater greatest news.spread) None all

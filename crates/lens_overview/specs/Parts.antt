-- The records that fill rows of one sort.
use Rattle.std.specs.Prelude.{Bool, List, None, Option, Some, false, filter, true, ◌≡◌}
use Rattle.lens_overview.specs.declared.{label.Kind.Kind, news.{Change.Change, News.News}, parts.RowSort.RowSort}
use Rattle.lens_overview.specs.declared.news.Change.TheVariants as changes
use Rattle.lens_overview.specs.declared.parts.RowSort.TheVariants as parts

-- the record is counted as something
abbrev pub is_counted : Option Kind → Bool
is_counted (Some kind) = true
is_counted None = false

-- it changes the state of a device, or a way
abbrev pub is_turning : Change → Bool
is_turning (changes.Turns device shade) = true
is_turning (changes.Cuts link way) = true
is_turning (changes.Heals link way) = true
is_turning change = false

-- it may fill rows of the sort
abbrev pub is_of : RowSort → News → Bool
is_of parts.Counts news = is_counted news.kind
is_of parts.Changes news = is_turning news.change

-- of all records these may fill rows of the sort
abbrev pub ArePartOf : RowSort → List News → List News → Type 0
ArePartOf part all some = some ≡ filter (is_of part) all

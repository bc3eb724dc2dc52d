-- How collections follow each other, and what is true of every collector.
use Rattle.std.specs.Prelude.{◌*ℤ◌, ◌+ℤ◌, ◌<ℤ◌, ◌^◌, ◌∷◌, ◌≡◌, ◌≤ℤ◌, ◌≤◌, List, [], length, pos, ℤ, ⊤}
use Rattle.tte_units.specs.Reading.{greatest_reading, least_reading}
use Rattle.compression.specs.{Ascent.{IsAscending, MayFollow, last_from}, Clusters.Cluster, Collecting.Collecting}

-- a cluster ends one or two observation windows after it opens, and its points lie up to there
pub record IsCollection (ow : ℤ) (c : Cluster) : Type 0 where
  pub low : least_reading ≤ℤ c.opened
  pub high : c.opened ≤ℤ greatest_reading
  pub later : List ℤ
  pub points : c.points ≡ c.opened ∷ later
  pub rising : IsAscending (c.opened ∷ later)
  pub held : last_from c.opened later ≤ℤ c.end
  pub one : (c.opened +ℤ ow) ≤ℤ c.end
  pub two : c.end ≤ℤ (c.opened +ℤ (pos 2 *ℤ ow))

-- each cluster opens beyond the end of the one before, and no point of the last is later than a reading
abbrev pub IsRow : ℤ → ℤ → List Cluster → Type 0
IsRow ow reading [] = ⊤
IsRow ow reading (c ∷ []) = IsCollection ow c × MayFollow c.points reading
IsRow ow reading (c ∷ d ∷ cs) = IsCollection ow c × (c.end <ℤ d.opened) × IsRow ow reading (d ∷ cs)

-- what is true of every collector
pub record IsSound (v : Collecting) : Type 0 where
  pub some : pos 1 ≤ℤ v.calc
  pub short : v.calc ≤ℤ v.ow
  pub small : v.ow ≤ℤ pos (2 ^ 40)
  pub low : least_reading ≤ℤ v.earliest
  pub row : IsRow v.ow v.earliest v.waiting
  pub few : length v.waiting ≤ 5

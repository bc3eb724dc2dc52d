-- Between which values local clocks lie.
use Rattle.std.specs.{Int.{int_max, int_min}, Prelude.{◌∷◌, List, None, Option, Some, [], fold, map, ℤ}}
use Rattle.lens_clocks.specs.declared.{spread.Ends.Ends, telling.DeviceClock.DeviceClock}

-- what the clocks show
abbrev pub locals_of : List DeviceClock → List ℤ
locals_of cs = map (λ c. c.local) cs

-- the least and the greatest of what they show, if there are any
abbrev pub ends_of : List DeviceClock → Option Ends
ends_of [] = None
ends_of (c ∷ cs) = Some (record {
  least = fold int_min c.local (locals_of cs);
  greatest = fold int_max c.local (locals_of cs);
})

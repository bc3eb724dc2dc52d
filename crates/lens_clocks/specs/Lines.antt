-- The lines of the local clocks at the end of a cycle, which are counted from 1.
--
--     clock K DEVICE LOCAL BEYOND
--     spread K S precision P          or `spread K none precision P`
use Rattle.std.specs.Fmt.{decimal, signed_decimal}
use Rattle.std.specs.Prelude.{◌++◌, ◌-ℤ◌, ◌∷◌, List, None, Option, Some, [], codes, map, ℕ, ℤ}
use Rattle.{lens_clocks.specs.Spread.ends_of, tte_units.specs.Amount.amount}
use Rattle.lens_clocks.specs.declared.{spread.Ends.Ends, telling.DeviceClock.DeviceClock}
use Rattle.net_plan.specs.{Belonging.device_name, declared.network.Network.Network}

-- what the clock shows, and how far that is beyond the least
unfoldable pub values_text : ℤ → ℤ → List ℕ
values_text least local = codes " " ++ signed_decimal local ++ codes " " ++ signed_decimal (local -ℤ least)

-- the line of a clock
unfoldable pub clock_line : Network → ℕ → ℤ → DeviceClock → List ℕ
clock_line network k least clock =
    codes "clock " ++ decimal k ++ codes " " ++ device_name network clock.device ++ values_text least clock.local
    ++ codes "\n"

-- how far the clocks are apart, if there are any
unfoldable pub apart_text : Option Ends → List ℕ
apart_text None = codes "none"
apart_text (Some ends) = signed_decimal (ends.greatest -ℤ ends.least)

-- the line of how far they are apart
unfoldable pub spread_line : Network → ℕ → Option Ends → List ℕ
spread_line network k ends =
    codes "spread " ++ decimal k ++ codes " " ++ apart_text ends ++ codes " precision "
    ++ decimal (amount network.precision) ++ codes "\n"

-- the lines of the clocks and of how far they are apart, where they lie between these
abbrev pub lines_between : Network → ℕ → Option Ends → List DeviceClock → List (List ℕ)
lines_between network k None cs = spread_line network k None ∷ []
lines_between network k (Some ends) cs =
    map (clock_line network k ends.least) cs ++ spread_line network k (Some ends) ∷ []

-- the same, whatever they show
abbrev pub told_lines : Network → ℕ → List DeviceClock → List (List ℕ)
told_lines network k cs = lines_between network k (ends_of cs) cs

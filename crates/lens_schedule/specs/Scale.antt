-- The part of the cycle that is drawn to scale.
use Rattle.std.specs.{List.fold, Prelude.{◌*◌, ◌+◌, ◌-◌, ◌/◌, List, max, min, ℕ}}
use Rattle.{lens_schedule.specs.declared.scale.Scale.Scale, net_plan.specs.declared.network.Network.Network}
use Rattle.schedule_tables.specs.{Windows.{tolerance, window_end}, declared.entry.Entry.Entry}
use Rattle.tte_units.specs.Amount.{amount}

-- the end of the last window
abbrev pub last_end : Network → List Entry → ℕ
last_end network entries = fold (λ last e. max last (window_end network e)) 0 entries

-- from where the schedule begins, less how far the clocks may differ, to the end of the last window
abbrev pub scale_of : Network → List Entry → Scale
scale_of network entries =
    record { begin = amount network.tt_start - tolerance network; end = last_end network entries }

-- how far to the right of its column a place in the cycle stands: it grows with the place by 600 pixels over the whole,
-- and what is before or behind stands at the ends
abbrev pub x_of : Scale → ℕ → ℕ
x_of scale time = 270 + (min time scale.end - scale.begin) * 600 / max (scale.end - scale.begin) 1

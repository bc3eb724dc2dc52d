-- The stretches of the cycle.
use Rattle.std.specs.Prelude.{◌+◌, ◌∷◌, List, [], ℕ}
use Rattle.lens_schedule.specs.{Scale.x_of, declared.{scale.Scale.Scale, zones.Zone.Zone}}
use Rattle.lens_schedule.specs.declared.zones.CycleStretch.{CycleStretch, TheVariants.{Control, Late, Rest, Schedule}}
use Rattle.{net_plan.specs.declared.network.Network.Network, tte_units.specs.Amount.amount}

-- in the order of time: control frames come until the clocks are set, late ones may come until the schedule begins,
-- scheduled frames come until the last window ends, and then nothing until the cycle ends
abbrev pub stretches : List CycleStretch
stretches = Control ∷ Late ∷ Schedule ∷ Rest ∷ []

-- when it ends
abbrev pub end_of : Network → Scale → CycleStretch → ℕ
end_of network scale Control = amount network.correction
end_of network scale Late = amount network.tt_start
end_of network scale Schedule = scale.end
end_of network scale Rest = amount network.cycle

-- where it begins and ends, from its column's left: what is before the scale and behind it is folded
abbrev pub left_of : Network → Scale → CycleStretch → ℕ
left_of network scale Control = 160
left_of network scale Late = 230
left_of network scale Schedule = x_of scale (amount network.tt_start)
left_of network scale Rest = 870

abbrev pub right_of : Network → Scale → CycleStretch → ℕ
right_of network scale Control = 230
right_of network scale Late = x_of scale (amount network.tt_start)
right_of network scale Schedule = 870
right_of network scale Rest = 930

-- the stretch in a column, from the top to the bottom of its lanes
abbrev pub zone_of : Network → Scale → ℕ → ℕ → ℕ → CycleStretch → Zone
zone_of network scale column top bottom stretch = record {
  stretch = stretch;
  from = record { x = column + left_of network scale stretch; y = top };
  to = record { x = column + right_of network scale stretch; y = bottom };
  time = end_of network scale stretch;
}

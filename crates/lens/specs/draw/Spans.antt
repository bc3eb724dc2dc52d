-- Which part of a run is drawn.
use Rattle.std.specs.Prelude.{◌*◌, ◌+◌, ◌-◌, min}
use Rattle.lens.specs.declared.forms.RunPart.{RunPart, TheVariants.{Cycle, Times}}
use Rattle.lens_svg.specs.{Layout.last_time, declared.layout.Span.Span}
use Rattle.{net_plan.specs.declared.network.Network.Network, tte_units.specs.Amount.amount}

-- the world times of the part: those of a cycle from its beginning to the next one's less 1, and none past the last
abbrev pub span_of : Network → RunPart → Span
span_of network (Cycle number) = record {
  from = min (number * amount network.cycle) last_time;
  to = min ((number + 1) * amount network.cycle) last_time - 1;
}
span_of network (Times from to) = record { from = from; to = to }

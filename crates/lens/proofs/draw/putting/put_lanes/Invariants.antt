use Rattle.{lens.specs.draw.Picture.{lines_from, some_line}, lens_svg.specs.Layers.on_lane, tte_forms.specs.Putting.{PutsLines, shown_by}}
use Rattle.std.proofs.Common.{◌≡◌}
use Rattle.lens.proofs.draw.putting.put_lanes.Given as goal

abbrev pub invariant-lanes : goal.invariant-lanes
invariant-lanes g l = record {
  puts : PutsLines (lines_from (λ place. some_line l.network (on_lane l.layer l.network l.sketch place)) 0 l.place)
      (shown_by g.K.Sink l.fn.out) (shown_by g.K.Sink l.out);
  quiet : g.K.Sink.faults l.out ≡ g.K.Sink.faults l.fn.out;
}

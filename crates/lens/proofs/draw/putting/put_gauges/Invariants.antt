use Rattle.{lens.specs.draw.Picture.some_line, lens_svg.specs.Clocks.gauge_of, std.proofs.Common.{◌≡◌, take}, tte_forms.specs.Putting.{PutsLines, shown_by}}
use Rattle.std.specs.Prelude.{flat_map}
use Rattle.lens.proofs.draw.putting.put_gauges.Given as goal

abbrev pub invariant-clocks : goal.invariant-clocks
invariant-clocks g l = record {
  puts : PutsLines (flat_map (λ told. some_line l.network (gauge_of l.network l.sketch l.clocks told)) (take l.clock-index l.clocks.told))
      (shown_by g.K.Sink l.fn.out) (shown_by g.K.Sink l.out);
  quiet : g.K.Sink.faults l.out ≡ g.K.Sink.faults l.fn.out;
}

use Rattle.{lens.specs.draw.Picture.some_line, lens_svg.specs.Layers.on_mark, std.proofs.Common.{◌≡◌, take}, tte_forms.specs.Putting.{PutsLines, shown_by}}
use Rattle.std.specs.Prelude.{flat_map}
use Rattle.lens.proofs.draw.putting.put_marks.Given as goal

abbrev pub invariant-drawn : goal.invariant-drawn
invariant-drawn g l = record {
  puts : PutsLines (flat_map (λ mark. some_line l.network (on_mark l.layer l.network l.sketch mark)) (take l.mark-index l.sketch.marks))
      (shown_by g.K.Sink l.fn.out) (shown_by g.K.Sink l.out);
  quiet : g.K.Sink.faults l.out ≡ g.K.Sink.faults l.fn.out;
}

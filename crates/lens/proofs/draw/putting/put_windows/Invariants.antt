use Rattle.{lens.specs.draw.Picture.some_line, lens_svg.specs.Windows.box_of, std.proofs.Common.{◌≡◌, take}, tte_forms.specs.Putting.{PutsLines, shown_by}}
use Rattle.std.specs.Prelude.{flat_map}
use Rattle.lens.proofs.draw.putting.put_windows.Given as goal

abbrev pub invariant-frames : goal.invariant-frames
invariant-frames g l = record {
  puts : PutsLines (flat_map (λ came. some_line l.network (box_of came)) (take l.came-index l.windows))
      (shown_by g.K.Sink l.fn.out) (shown_by g.K.Sink l.out);
  quiet : g.K.Sink.faults l.out ≡ g.K.Sink.faults l.fn.out;
}

use Rattle.{lens.specs.draw.Picture.{layer_lines, layers}, tte_forms.specs.Putting.{PutsLines, shown_by}}
use Rattle.std.{proofs.Common.{◌≡◌, take}, specs.Prelude.flat_map}
use Rattle.lens.proofs.draw.putting.put_front.Given as goal

abbrev pub invariant-layers : goal.invariant-layers
invariant-layers g l = record {
  puts : PutsLines (flat_map (λ layer. layer_lines l.network l.sketch l.windows l.clocks layer) (take l.layer-index layers))
      (shown_by g.K.Sink l.fn.out) (shown_by g.K.Sink l.out);
  quiet : g.K.Sink.faults l.out ≡ g.K.Sink.faults l.fn.out;
}

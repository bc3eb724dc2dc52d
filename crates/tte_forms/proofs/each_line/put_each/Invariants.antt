use Rattle.{std.proofs.Common.{◌≡◌, map, take}, tte_forms.specs.Putting.{PutsLines, shown_by}}
use Rattle.tte_forms.proofs.each_line.put_each.Given as goal

abbrev pub invariant-things : goal.invariant-things
invariant-things g l = record {
  puts : PutsLines (map (g.M.LineMaker.text l.maker) (take l.thing-index l.fn.things)) (shown_by g.K.Sink l.fn.out) (shown_by g.K.Sink l.out);
  quiet : g.K.Sink.faults l.out ≡ g.K.Sink.faults l.fn.out;
}

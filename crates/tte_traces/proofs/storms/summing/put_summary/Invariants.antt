use Rattle.std.proofs.Common.{◌≡◌}
use Rattle.tte_forms.specs.Putting.{shown_by}
use Rattle.tte_traces.{proofs.storms_lemmas.Summed.HasPutLines, specs.storms.summary.Lines.lines_of}
use Rattle.tte_traces.proofs.storms.summing.put_summary.Given as goal

abbrev pub invariant-lines : goal.invariant-lines
invariant-lines g l = record {
  puts : HasPutLines (lines_of l.summary) l.number (shown_by g.K.Sink l.fn.out) (shown_by g.K.Sink l.out);
  quiet : g.K.Sink.faults l.out ≡ g.K.Sink.faults l.fn.out;
}

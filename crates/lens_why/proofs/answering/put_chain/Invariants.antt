use Rattle.std.proofs.Common.{◌≡◌}
use Rattle.lens_why.proofs.Telling.{IsToldTo}
use Rattle.tte_forms.specs.Putting.{shown_by}
use Rattle.lens_why.proofs.answering.put_chain.Given as goal

abbrev pub invariant-records : goal.invariant-records
invariant-records g l = record {
  told : IsToldTo l.network l.report.octets l.initial.note l.note (shown_by g.K.Sink l.fn.out) (shown_by g.K.Sink l.out);
  quiet : g.K.Sink.faults l.out ≡ g.K.Sink.faults l.fn.out;
}

abbrev pub decreases-records : goal.decreases-records
decreases-records g l = l.note.number

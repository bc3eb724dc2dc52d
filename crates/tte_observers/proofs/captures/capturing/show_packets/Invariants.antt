use Rattle.std.proofs.Common.{◌-◌, ◌≡◌, ◌≤◌, length}
use Rattle.tte_forms.specs.Putting.{shown_by}
use Rattle.tte_observers.proofs.captures_lemmas.Packets.{IsShown}
use Rattle.tte_observers.proofs.captures.capturing.show_packets.Given as goal

abbrev pub invariant-packets : goal.invariant-packets
invariant-packets g l = record {
  shown : IsShown l.number l.head l.file l.at (shown_by g.K.Sink l.fn.out) (shown_by g.K.Sink l.out);
  within : l.at ≤ length l.file;
  numbered : l.number ≤ l.at;
  quiet : g.K.Sink.faults l.out ≡ g.K.Sink.faults l.fn.out;
}

abbrev pub decreases-packets : goal.decreases-packets
decreases-packets g l = length l.file - l.at

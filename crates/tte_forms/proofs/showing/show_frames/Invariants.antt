use Rattle.{std.proofs.Common.◌≡◌, tte_forms.{proofs.frames.Frames.IsShown, specs.{Putting.shown_by, frames.Answer.frame_count}}}
use Rattle.tte_forms.proofs.showing.show_frames.Given as goal

abbrev pub invariant-frames : goal.invariant-frames
invariant-frames g l = record {
  shown : IsShown (frame_count l.octets) l.k l.octets (shown_by g.K.Sink l.fn.out) (shown_by g.K.Sink l.out);
  quiet : g.K.Sink.faults l.out ≡ g.K.Sink.faults l.fn.out;
}

use Rattle.tte_forms.proofs.networks.Answers.{files_accepted, files_refused}
use Rattle.tte_observers.proofs.captures_lemmas.wires_lemmas.{Along.wire_safe, Words.{inl, inr, refl, shown_by}}
use Rattle.tte_traces.proofs.Runs.{safely_accepted, safely_refused}
use Rattle.tte_observers.specs.captures.wires.{Answer.{IsWireAnswer, silent_lines}, Safely.{IsCaptureToFault, IsSilent, IsWholeCapture}}
use Rattle.tte_observers.proofs.captures.wires.running.wire_trace.Goals as goal

pub returns-in-Ok-clause-general : goal.returns-in-Ok-clause-general
returns-in-Ok-clause-general g c =
    files_accepted silent_lines (IsWireAnswer c.args.link.now c.args.way) (g.A.Source.left c.args.first.now) (g.B.Source.left c.args.second.now)
    c.in-Ok.accepted c.wire_network.result _ _ c.in-Ok.ensures.accepted c.wire_network.ensures.general

pub returns-in-Err-clause-general : goal.returns-in-Err-clause-general
returns-in-Err-clause-general g c =
    files_refused silent_lines (IsWireAnswer c.args.link.now c.args.way) (g.A.Source.left c.args.first.now) (g.B.Source.left c.args.second.now)
    c.in-Err.cause c.end_quietly.result _ _ c.in-Err.ensures.none c.end_quietly.ensures.gives c.end_quietly.ensures.unput

pub returns-in-Ok-clause-safe : goal.returns-in-Ok-clause-safe
returns-in-Ok-clause-safe g c =
    let name = c.args.link.now in
    let way = c.args.way in
    safely_accepted (IsWholeCapture name way) (IsCaptureToFault name way) IsSilent silent_lines (λ reason. refl) (g.A.Source.left c.args.first.now)
    (g.B.Source.left c.args.second.now) c.wire_network.result _ _ c.in-Ok.accepted (λ trace. IsWireAnswer name way trace c.in-Ok.accepted)
    (wire_safe name way c.in-Ok.accepted c.in-Ok.ensures.range) c.in-Ok.ensures.accepted c.wire_network.ensures.general

pub returns-in-Err-clause-safe : goal.returns-in-Err-clause-safe
returns-in-Err-clause-safe g c =
    let shown = shown_by g.K.Sink in
    safely_refused (IsWholeCapture c.args.link.now c.args.way) (IsCaptureToFault c.args.link.now c.args.way) IsSilent silent_lines (λ reason. refl)
    (g.A.Source.left c.args.first.now) (g.B.Source.left c.args.second.now) c.end_quietly.result (shown c.args.out.now) (shown c.end_quietly.new.out)
    c.in-Err.cause c.end_quietly.ensures.gives

pub returns-in-Ok-clause-faults : goal.returns-in-Ok-clause-faults
returns-in-Ok-clause-faults g c = record {
  read = λ is. inr (c.wire_network.ensures.cause.read is, (c.in-Ok.accepted, c.in-Ok.ensures.accepted, c.wire_network.ensures.read is));
  write = c.wire_network.ensures.cause.write;
}

pub returns-in-Ok-clause-takes : goal.returns-in-Ok-clause-takes
returns-in-Ok-clause-takes g c = elim c.wire_network.ensures.little [
  | inl same ↦ (c.in-Ok.ensures.taken, inl same)
  | inr some ↦ (c.in-Ok.ensures.taken, inr (c.in-Ok.accepted, c.in-Ok.ensures.accepted, some))
]

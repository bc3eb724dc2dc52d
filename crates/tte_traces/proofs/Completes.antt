-- The answer of `run` is one, and valid input is answered to its end.
use Rattle.{schedule_checker.specs.Refusals.RefusalIsOne, tte_forms.specs.networks.Accepting.IsNetworkAnswer}
use Rattle.{tte_forms.proofs.networks.Answers.{accepted_alone, network_answer_one}, tte_traces.proofs.Answers.{IsAllAdmitted, trace_answer_one}}
use Rattle.tte_traces.proofs.{Given.all_done, Words.{◌≡◌, Answer, Done, Event, IsRunAnswer, List, MeansAccepted, Network, report_lines, ℕ}}

-- the octets of a network file and of a trace have one answer
pub run_one : RefusalIsOne → {octets : List ℕ} (trace : List ℕ) (a b : Answer)
    → IsNetworkAnswer (IsRunAnswer trace) octets a → IsNetworkAnswer (IsRunAnswer trace) octets b → a ≡ b
run_one one {octets} trace a b p q = network_answer_one one (IsRunAnswer trace) octets
    (λ network accepted. trace_answer_one report_lines network trace) a b p q

-- an accepted network under a trace that is admitted to its end is run to its end
pub run_done : {octets trace : List ℕ} {network : Network} {events : List Event} → MeansAccepted octets network
    → IsAllAdmitted network trace events → (a : Answer) → IsNetworkAnswer (IsRunAnswer trace) octets a
    → a.status ≡ Done
run_done {octets} {trace} {network} {events} m all a is =
    all_done report_lines trace network events a all (accepted_alone (IsRunAnswer trace) octets network m a is)

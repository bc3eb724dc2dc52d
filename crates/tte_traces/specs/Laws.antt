-- That there is an answer.
use Rattle.std.specs.Prelude.{List, ℕ}
use Rattle.{net_plan.specs.{Ranges.IsInRange, declared.network.Network.Network}, tte_traces.specs.Answer.{IsTraceAnswer, LinesOf}}
use Rattle.tte_forms.specs.Answering.{Answer}

-- whatever lines a command tells of a run, for each network in range and all octets of a trace there is an answer
abbrev pub TraceAnswersExist : Type 0
TraceAnswersExist =
    (lines : LinesOf) (network : Network) (octets : List ℕ) → IsInRange network
    → (a : Answer) × IsTraceAnswer lines octets network a

-- That there is an answer.
use Rattle.std.specs.{List.All, Prelude.{◌<◌, ◌^◌, ◌≤◌, ℕ}}
use Rattle.{net_plan.specs.Ranges.IsInRange, schedule_tables.specs.Rules.KeepsRules, tte_forms.specs.Answering.Answer}
use Rattle.{net_plan.specs.declared.network.Network.Network, tte_traces.specs.storms.Answer.IsStormAnswer}

-- what a control frame has of the network fits its octets there, as in each network that a program holds
pub record FitsFrames (network : Network) : Type 0 where
  pub destination : network.pcf_destination < 2 ^ 48
  pub sources : All (λ d. d.mac < 2 ^ 48) network.device
  pub priority : network.priority < 256
  pub domain : network.domain < 256

-- for each accepted network, each seed and so many cycles there is an answer of `storm`
abbrev pub StormAnswersExist : Type 0
StormAnswersExist =
    (seed cycles : ℕ) (network : Network) → cycles ≤ 100000 → IsInRange network → KeepsRules network
    → FitsFrames network → (a : Answer) × IsStormAnswer seed cycles network a

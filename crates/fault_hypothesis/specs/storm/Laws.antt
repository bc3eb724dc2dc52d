-- What holds of all storms.
use Rattle.std.specs.Prelude.{◌≡◌, ◌≤◌, List, ℕ}
use Rattle.{fault_hypothesis.specs.storm.Events.{AreStormEvents, IsStorm}, net_plan.specs.declared.event.Event.Event}
use Rattle.{net_plan.specs.declared.network.Network.Network, run_law.specs.scenario.Hypothesis.AreWithinHypothesis}
use Rattle.schedule_tables.specs.Rules.{KeepsRules}

-- there is one storm of a seed over so many cycles on a network
abbrev pub StormIsOne : Type 0
StormIsOne =
    (network : Network) (seed cycles : ℕ) (storm other : List Event) → KeepsRules network
    → cycles ≤ 100000 → IsStorm network seed cycles storm → IsStorm network seed cycles other → storm ≡ other

-- each event of a storm is within the fault hypothesis, given those before it
abbrev pub StormsAreWithin : Type 0
StormsAreWithin =
    (network : Network) (seed cycles : ℕ) (events : List Event) → cycles ≤ 100000
    → AreStormEvents network seed cycles events → AreWithinHypothesis network events

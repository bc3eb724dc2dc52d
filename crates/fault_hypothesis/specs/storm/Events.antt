-- The events of a storm, step by step.
use Rattle.std.specs.Prelude.{◌*◌, ◌++◌, ◌+◌, ◌/◌, ◌<◌, ◌∷◌, ◌≡◌, ◌≤ℤ◌, ◌⊎◌, IsSomeAnd, List, [], length, pos, ℕ}
use Rattle.fault_hypothesis.specs.declared.storm.draw.Choice.TheVariants.{Cut, Heal, Hold, On, Rate, Strike, Wire}
use Rattle.fault_hypothesis.specs.{declared.storm.draw.{Choice.Choice, StormDraw.StormDraw}, storm.Striking.Strikes}
use Rattle.fault_hypothesis.specs.storm.Choosing.{choice_of, device_of, hold_of, link_of, rate_of, way_of, wire_of}
use Rattle.{fault_hypothesis.specs.storm.Words.draw_at, tte_units.specs.declared.units.Units.Units}
use Rattle.net_plan.specs.Places.{link_at}
use Rattle.{net_plan.specs.declared.event.{Event.Event, What.What}, tte_units.specs.Amount.{amount, units_of}}
use Rattle.{net_plan.specs.declared.network.Network.Network, run_law.specs.scenario.Hypothesis.IsWithinHypothesis}
use Rattle.net_plan.specs.declared.event.What.TheVariants as kinds

-- this befalls the network where an event of this kind is chosen, given the events before
abbrev pub IsChosen : Network → List Event → Units → StormDraw → Choice → What → Type 0
IsChosen network before time draw Rate what = what ≡ kinds.Rate (device_of network draw) (rate_of network draw)
IsChosen network before time draw Wire what =
    IsSomeAnd (link_at network (link_of network draw))
    (λ l. what ≡ kinds.Wire (link_of network draw) (way_of draw) (wire_of l draw))
IsChosen network before time draw Hold what =
    IsSomeAnd (link_at network (link_of network draw))
    (λ l. what ≡ kinds.Hold (link_of network draw) (way_of draw) (hold_of l draw))
IsChosen network before time draw Cut what = what ≡ kinds.Cut (link_of network draw) (way_of draw)
IsChosen network before time draw Heal what = what ≡ kinds.Heal (link_of network draw) (way_of draw)
IsChosen network before time draw On what = what ≡ kinds.On (device_of network draw)
IsChosen network before time draw Strike what = Strikes network before time draw what

-- this befalls the network by the words of a step, given the events before
abbrev pub IsDrawn : Network → List Event → Units → StormDraw → What → Type 0
IsDrawn network before time draw what = IsChosen network before time draw (choice_of draw.kind) what

-- what stands for an event that the hypothesis refuses: the rate of device 0 is set to 0
abbrev pub substitute : What
substitute = kinds.Rate (record { 0 = 0 }) (record { 0 = pos 0 })

-- the event at the time by the words of a step: what is drawn where that is within the hypothesis, given
-- the events before, and otherwise the substitute
pub record IsEventOf (network : Network) (before : List Event) (time : Units) (draw : StormDraw) (event : Event) : Type
    0 where
  pub drawn : What
  pub is_drawn : IsDrawn network before time draw drawn
  pub becomes : (IsWithinHypothesis network before (record { time = time; what = drawn })
      × (event ≡ record { time = time; what = drawn }))
      ⊎ ((IsWithinHypothesis network before (record { time = time; what = drawn }) → ⊥)
      × (event ≡ record { time = time; what = substitute }))

-- the time of a step, from 0: there are eight steps in a cycle's length
abbrev pub time_of : Network → ℕ → Units
time_of network step = units_of ((step + 1) * (amount network.cycle / 8))

-- the event of this number, from 0, of the storm of a seed over so many cycles, given the events before:
-- each step has one, and then the end comes
abbrev pub IsStormEvent : Network → ℕ → ℕ → List Event → ℕ → Event → Type 0
IsStormEvent network seed cycles before n event =
    ((n < 8 * cycles) × IsEventOf network before (time_of network n) (draw_at seed n) event)
    ⊎ ((n ≡ 8 * cycles) × (event ≡ record { time = time_of network n; what = kinds.End }))

-- the last of the events, if there is one, is no later than the time
abbrev pub AreNoLater : List Event → Units → Type 0
AreNoLater before time = (front : List Event) (last : Event) → before ≡ front ++ last ∷ [] → last.time.0 ≤ℤ time.0

-- each of these events is the storm's, given those before it
abbrev pub AreStormEvents : Network → ℕ → ℕ → List Event → Type 0
AreStormEvents network seed cycles events =
    (before behind : List Event) (event : Event) → events ≡ before ++ event ∷ behind
    → IsStormEvent network seed cycles before (length before) event

-- these are all events of the storm of a seed over so many cycles, the end with them
pub record IsStorm (network : Network) (seed cycles : ℕ) (events : List Event) : Type 0 where
  pub whole : length events ≡ 8 * cycles + 1
  pub each : AreStormEvents network seed cycles events

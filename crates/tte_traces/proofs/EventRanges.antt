-- An event that is read from a line has no negative times.
use Rattle.{run_law.specs.law.FirstLaws.IsEventInRange, trace_text.specs.Ranges.IsTime}
use Rattle.{trace_text.proofs.ReadTimes.{HoldsATime, event_hold, event_time}, tte_traces.proofs.Words.{◌≡◌, Event, List, Network, Ok, event_read, subst, ℕ}}

pub event_in_range : (network : Network) (text : List ℕ) (event : Event) → event_read network text ≡ Ok event → IsEventInRange event
event_in_range network text event e = record {
  time = let time = event_time network text event e in time.least;
  hold = λ link way delay is. let hold : IsTime delay = subst HoldsATime is (event_hold network text event e) in hold.least;
}

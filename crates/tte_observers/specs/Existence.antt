-- That there are answers of `stamp`, `wire` and `vote`.
use Rattle.std.specs.Prelude.{List, ℕ}
use Rattle.net_plan.specs.{Ranges.IsInRange, declared.{network.Network.Network, tables.Way.Way}}
use Rattle.tte_forms.specs.Answering.{Answer}
use Rattle.tte_observers.specs.{captures.wires.Answer.IsWireAnswer, stamps.Answer.IsStampAnswer}
use Rattle.{tte_observers.specs.votes.Answer.{IsVoteAnswer, Names}, tte_units.specs.declared.units.Units.Units}

-- for a network and all octets of a trace there is an answer of each
pub record HasAnswers (network : Network) (trace : List ℕ) : Type 0 where
  pub stamp : (granule : Units) → (a : Answer) × IsStampAnswer granule trace network a
  pub wire : (name : List ℕ) (way : Way) → (a : Answer) × IsWireAnswer name way trace network a
  pub vote : (names : Names) → (a : Answer) × IsVoteAnswer names trace network a

-- so it is for each network in range
abbrev pub ObserversAnswer : Type 0
ObserversAnswer = (network : Network) (trace : List ℕ) → IsInRange network → HasAnswers network trace

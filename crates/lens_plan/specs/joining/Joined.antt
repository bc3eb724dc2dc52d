-- The octets of a network file with the text of a plan behind them.
use Rattle.std.specs.{List.concat, Prelude.{◌++◌, ◌<◌, List, length, map, ℕ}}
use Rattle.lens_plan.specs.{declared.joining.joined.NoJoin.{NoJoin, TheVariants.{OutOfMemory, TooLong}}, text.Lines.plan_line}
use Rattle.lens_plan.specs.{declared.text.line.PlanLine.PlanLine, joining.{Extends.Extends, Served.AreServed}}
use Rattle.{lens_plan.specs.messages.Message.Message, net_plan.specs.declared.network.Network.Network}
use Rattle.tte_forms.specs.{frames.Answer.file_limit, networks.Accepting.MeansAccepted}

-- the text of these lines
abbrev pub text_of : List PlanLine → List ℕ
text_of lines = concat (map plan_line lines)

-- the octets with the text behind them
abbrev pub joined : List ℕ → List PlanLine → List ℕ
joined octets lines = octets ++ text_of lines

-- the octets mean an accepted network, which is the network with virtual links and rows that serve the messages
pub record MeansPlanned (octets : List ℕ) (network : Network) (ms : List Message) : Type 0 where
  pub planned : Network
  pub accepted : MeansAccepted octets planned
  pub extends : Extends network planned
  pub served : AreServed network planned ms

-- why octets and text are not joined: they are too many; memory may run out at any
abbrev pub IsNoJoin : List ℕ → List PlanLine → NoJoin → Type 0
IsNoJoin octets lines TooLong = file_limit < length (joined octets lines)
IsNoJoin octets lines OutOfMemory = Unit {0}

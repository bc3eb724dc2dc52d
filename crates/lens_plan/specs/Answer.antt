-- What `plan` answers for the octets of a network file and of a file of messages.
use Rattle.std.specs.Prelude.{◌≡◌, ◌≤◌, ◌⊎◌, Err, List, Ok, codes, length, map, ℕ}
use Rattle.lens_plan.specs.{joining.Joined.{MeansPlanned, joined}, text.{Blocks.plan_lines, Ids.{AreIds, taken_ids}}}
use Rattle.lens_plan.specs.text.{Lines.plan_line, Refusals.{HasExcess, line_refusal, plan_refusal}}
use Rattle.lens_plan.specs.{declared.text.line.PlanLine.PlanLine, messages.{Lines.messages_read, Message.Message}}
use Rattle.lens_plan.specs.declared.{messages.refusal.RefusedLine.RefusedLine, places.{best.Attempt.Attempt, planning.NoPlan.NoPlan}}
use Rattle.lens_plan.specs.declared.joining.joined.NoJoin.{NoJoin}
use Rattle.lens_plan.specs.declared.joining.joined.NoJoin.TheVariants as joins
use Rattle.lens_plan.specs.declared.places.planning.NoPlan.TheVariants as plans
use Rattle.lens_plan.specs.places.Planning.{IsNoPlan, IsPlan}
use Rattle.{net_plan.specs.declared.network.Network.Network, tte_forms.specs.Statuses.IsNetworkStatus}
use Rattle.tte_forms.specs.{Answering.{Answer, line_answer}, frames.Answer.file_limit}
use Rattle.tte_forms.specs.declared.status.Status.{Status, TheVariants.{Done, MessagesRefused, PlanRefused}}
use Rattle.tte_forms.specs.networks.Accepting.{IsNetworkAnswer, IsTooLong, refused_answer, too_long_answer}

-- the octets of a file mean these messages
pub record MeansMessages (network : Network) (text : List ℕ) (ms : List Message) : Type 0 where
  pub fits : length text ≤ file_limit
  pub read : messages_read network text ≡ Ok ms

-- they mean none, by this first line that is refused
pub record MeansNoMessages (network : Network) (text : List ℕ) (line : RefusedLine) : Type 0 where
  pub fits : length text ≤ file_limit
  pub read : messages_read network text ≡ Err line

-- the lines of a plan, with the ids and the rows of the messages
pub record ArePlanLines (network : Network) (ms : List Message) (lines : List PlanLine) : Type 0 where
  pub ids : List ℕ
  pub attempts : List Attempt
  pub are_ids : AreIds (taken_ids network ms) ms ids
  pub plan : IsPlan network ms attempts
  pub are : lines ≡ plan_lines network ms ids attempts

-- the answer where there is no plan; where memory ran out there is none
abbrev pub IsToldBy : Network → List Message → NoPlan → Answer → Type 0
IsToldBy network ms plans.OutOfMemory a = ⊥
IsToldBy network ms cause a = a ≡ line_answer PlanRefused (plan_refusal network ms cause)

-- what is told of is the network's
abbrev pub TellsOf : Network → NoPlan → Type 0
TellsOf network (plans.Excess excess) = HasExcess network excess
TellsOf network other = Unit {0}

-- the answer where octets and text were not joined; where memory ran out there is none
abbrev pub IsNoJoinTold : NoJoin → Answer → Type 0
IsNoJoinTold joins.TooLong a = a ≡ too_long_answer
IsNoJoinTold joins.OutOfMemory a = ⊥

-- a line each
abbrev pub lines_answer : List PlanLine → Answer
lines_answer lines = record { status = Done; lines = map plan_line lines }

-- the answer for the lines of a plan: they are put where the octets of the network file with these lines behind them
-- mean what was planned
abbrev pub IsJoinedAnswer : List ℕ → Network → List Message → List PlanLine → Answer → Type 0
IsJoinedAnswer octets network ms lines a =
    (IsTooLong (joined octets lines) × (a ≡ too_long_answer))
    ⊎ ((length (joined octets lines) ≤ file_limit) × ¬ MeansPlanned (joined octets lines) network ms
    × (a ≡ refused_answer (codes "closed")))
    ⊎ (MeansPlanned (joined octets lines) network ms × (a ≡ lines_answer lines))

-- the answer for messages
abbrev pub IsPlanOf : List ℕ → Network → List Message → Answer → Type 0
IsPlanOf octets network ms a =
    ((cause : NoPlan) × IsNoPlan network ms cause × IsToldBy network ms cause a)
    ⊎ ((lines : List PlanLine) × ArePlanLines network ms lines × IsJoinedAnswer octets network ms lines a)

-- the answer for an accepted network, and the octets of its file and of the messages
abbrev pub IsPlanFor : List ℕ → List ℕ → Network → Answer → Type 0
IsPlanFor text octets network a =
    (IsTooLong text × (a ≡ too_long_answer))
    ⊎ ((line : RefusedLine) × MeansNoMessages network text line × (a ≡ line_answer MessagesRefused (line_refusal line)))
    ⊎ ((ms : List Message) × MeansMessages network text ms × IsPlanOf octets network ms a)

-- the answer of `plan NETWORK MESSAGES`
abbrev pub IsPlanAnswer : List ℕ → List ℕ → Answer → Type 0
IsPlanAnswer text octets a = IsNetworkAnswer (IsPlanFor text octets) octets a

-- the statuses of `plan`
abbrev pub IsPlanStatus : Status → Type 0
IsPlanStatus MessagesRefused = Unit {0}
IsPlanStatus PlanRefused = Unit {0}
IsPlanStatus other = IsNetworkStatus other

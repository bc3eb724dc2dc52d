-- What is answered where there is no accepted network.
use Rattle.std.specs.Prelude.{List, [], ℕ}
use Rattle.tte_forms.specs.{Answering.Answer, declared.accepting.NoNetwork.NoNetwork}
use Rattle.tte_forms.specs.declared.status.Status.TheVariants.{OutOfMemory, ReadFault}
use Rattle.tte_forms.specs.networks.Accepting.{IsTooLong, MeansNoNetwork, MeansUnfit, refusal_lines, refused_by}
use Rattle.tte_forms.specs.networks.{Accepting.too_long_answer, NetworkLine.{file_reason, rule_reason}}
use Rattle.tte_forms.specs.declared.accepting.NoNetwork.TheVariants as causes

-- the octets give no accepted network, for this cause; a read may fail and memory may run out at any
abbrev pub IsNoNetwork : List ℕ → NoNetwork → Type 0
IsNoNetwork octets causes.ReadFault = Unit {0}
IsNoNetwork octets causes.TooLong = IsTooLong octets
IsNoNetwork octets causes.OutOfMemory = Unit {0}
IsNoNetwork octets (causes.File refusal) = MeansNoNetwork octets refusal
IsNoNetwork octets (causes.Rule told) = MeansUnfit octets told

-- the octets give no network at all, for this cause, which is no broken rule
abbrev pub IsUnread : List ℕ → NoNetwork → Type 0
IsUnread octets causes.ReadFault = Unit {0}
IsUnread octets causes.TooLong = IsTooLong octets
IsUnread octets causes.OutOfMemory = Unit {0}
IsUnread octets (causes.File refusal) = MeansNoNetwork octets refusal
IsUnread octets (causes.Rule told) = ⊥

-- what is answered, where the lines about a network that is refused are given
abbrev pub answer_by : (List ℕ → List (List ℕ)) → NoNetwork → Answer
answer_by lines causes.ReadFault = record { status = ReadFault; lines = [] }
answer_by lines causes.TooLong = too_long_answer
answer_by lines causes.OutOfMemory = record { status = OutOfMemory; lines = [] }
answer_by lines (causes.File refusal) = refused_by lines (file_reason refusal)
answer_by lines (causes.Rule told) = refused_by lines (rule_reason told)

-- where a refusal is told by its line
abbrev pub no_network_answer : NoNetwork → Answer
no_network_answer cause = answer_by refusal_lines cause

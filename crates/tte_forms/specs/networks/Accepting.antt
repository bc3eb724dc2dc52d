-- How a network file is judged.
use Rattle.std.specs.Prelude.{◌<◌, ◌∷◌, ◌≡◌, ◌≤◌, ◌⊎◌, Err, List, Ok, Option, [], length, ℕ}
use Rattle.{net_file.specs.Schema.network_read, schedule_tables.specs.Rules.KeepsRules}
use Rattle.{net_file.specs.declared.refusal.FileRefusal.FileRefusal, net_plan.specs.declared.network.Network.Network}
use Rattle.schedule_checker.specs.{Refusals.TellsFirstBroken, declared.refusal.RuleBroken.RuleBroken}
use Rattle.tte_forms.specs.networks.NetworkLine.{file_reason, network_refusal_line, rule_reason}
use Rattle.tte_forms.specs.{Answering.{Answer, ForOctets}, declared.status.Status.TheVariants.{NetworkRefused, TooLong}}
use Rattle.tte_forms.specs.frames.Answer.{file_limit}

-- the file is longer than files may be
abbrev pub IsTooLong : List ℕ → Type 0
IsTooLong octets = file_limit < length octets

-- the octets mean no network, by this first fault
pub record MeansNoNetwork (octets : List ℕ) (refusal : FileRefusal) : Type 0 where
  pub fits : length octets ≤ file_limit
  pub read : network_read octets ≡ Err refusal

-- the octets mean this network, which may break rules
pub record MeansNetwork (octets : List ℕ) (network : Network) : Type 0 where
  pub fits : length octets ≤ file_limit
  pub read : network_read octets ≡ Ok network

-- the octets mean a network that breaks this rule first
pub record MeansUnfit (octets : List ℕ) (told : RuleBroken) : Type 0 where
  pub network : Network
  pub fits : length octets ≤ file_limit
  pub read : network_read octets ≡ Ok network
  pub first : TellsFirstBroken network told

-- the octets mean this network, and it keeps all rules
pub record MeansAccepted (octets : List ℕ) (network : Network) : Type 0 where
  pub fits : length octets ≤ file_limit
  pub read : network_read octets ≡ Ok network
  pub rules : KeepsRules network

-- the fact holds for an accepted network that the octets of its file mean
abbrev pub ForAccepted : Option (List ℕ) → (Network → Type 0) → Type 0
ForAccepted left P = (network : Network) × ForOctets left (λ octets. MeansAccepted octets network) × P network

-- the answer for a file that is too long
abbrev pub too_long_answer : Answer
too_long_answer = record { status = TooLong; lines = [] }

-- the lines about a network that is refused for this reason
abbrev pub refusal_lines : List ℕ → List (List ℕ)
refusal_lines reason = network_refusal_line reason ∷ []

-- the answer for a network that is refused, of which these lines are put by the reason
abbrev pub refused_by : (List ℕ → List (List ℕ)) → List ℕ → Answer
refused_by lines reason = record { status = NetworkRefused; lines = lines reason }

abbrev pub refused_answer : List ℕ → Answer
refused_answer reason = refused_by refusal_lines reason

-- the answer for the octets of a network file, where the lines about one that is refused and the answer for an accepted
-- one are given
abbrev pub IsAnswerBy : (List ℕ → List (List ℕ)) → (Network → Answer → Type 0) → List ℕ → Answer → Type 0
IsAnswerBy lines IsAnswerFor octets a =
    (IsTooLong octets × (a ≡ too_long_answer))
    ⊎ ((refusal : FileRefusal) × MeansNoNetwork octets refusal × (a ≡ refused_by lines (file_reason refusal)))
    ⊎ ((told : RuleBroken) × MeansUnfit octets told × (a ≡ refused_by lines (rule_reason told)))
    ⊎ ((network : Network) × MeansAccepted octets network × IsAnswerFor network a)

-- where a refusal is told by its line
abbrev pub IsNetworkAnswer : (Network → Answer → Type 0) → List ℕ → Answer → Type 0
IsNetworkAnswer IsAnswerFor octets a = IsAnswerBy refusal_lines IsAnswerFor octets a

-- What `slack` answers for the octets of a network file.
use Rattle.std.specs.Prelude.{if◌then◌else◌, ◌++◌, ◌==◌, ◌∷◌, ◌≡◌, ◌⊎◌, List, [], map, ℕ}
use Rattle.lens_slack.specs.{Finds.{IsFoundIn, shorts_of}, Steps.{all_steps, rule_steps}, declared.step.Step.Step}
use Rattle.{lens_slack.specs.Lines.{finding_line, place_line, sum_line}, schedule_tables.specs.declared.rule.Rule.Rule}
use Rattle.lens_slack.specs.declared.{measuring.Ending.{Ending, TheVariants.{Broken, Whole}}, spot.Finding.Finding}
use Rattle.{net_file.specs.declared.refusal.FileRefusal.FileRefusal, net_plan.specs.declared.network.Network.Network}
use Rattle.{schedule_checker.specs.declared.refusal.RuleBroken.RuleBroken, schedule_tables.specs.Numbers.number_of}
use Rattle.tte_forms.specs.{Answering.Answer, networks.NetworkLine.{file_reason, network_refusal_line, rule_reason}}
use Rattle.tte_forms.specs.declared.status.Status.{Status, TheVariants.{Done, NetworkRefused}}
use Rattle.tte_forms.specs.networks.Accepting.{IsTooLong, MeansNetwork, MeansNoNetwork, refused_answer, too_long_answer}

-- the status: done where nothing is broken and nothing is short
abbrev pub ending_status : List Finding → Ending → Status
ending_status fs Whole = if shorts_of fs == 0 then Done else NetworkRefused
ending_status fs (Broken rule place) = NetworkRefused

-- what is told of a broken rule
abbrev pub told_of : Rule → ℕ → RuleBroken
told_of rule place = record { number = number_of rule; index = place }

-- the last lines: how many of those above are short; or the line of `check` for the rule, and what its index means
abbrev pub ending_lines : Network → List Finding → Ending → List (List ℕ)
ending_lines network fs Whole = sum_line (shorts_of fs) ∷ []
ending_lines network fs (Broken rule place) =
    network_refusal_line (rule_reason (told_of rule place)) ∷ place_line network rule place ∷ []

-- the answer for a network that breaks this rule first, at this place
abbrev pub broken_answer : Network → Rule → ℕ → Answer
broken_answer network rule place = record {
  status = NetworkRefused;
  lines = network_refusal_line (rule_reason (told_of rule place)) ∷ place_line network rule place ∷ [];
}

-- the status and the last lines
abbrev pub ending_answer : Network → List Finding → Ending → Answer
ending_answer network fs end = record { status = ending_status fs end; lines = ending_lines network fs end }

-- the answer for what was found, and how it ends
abbrev pub found_answer : Network → List Finding → Ending → Answer
found_answer network fs end = record {
  status = ending_status fs end;
  lines = map (finding_line network) fs ++ ending_lines network fs end;
}

-- the answer for a network, which may break rules
pub record IsSlackOf (steps : List Step) (network : Network) (a : Answer) : Type 0 where
  pub findings : List Finding
  pub ending : Ending
  pub are : IsFoundIn network steps findings ending
  pub is : a ≡ found_answer network findings ending

-- the answer for the octets of a network file, where that for a network is given, whether it keeps the rules or not
abbrev pub IsFileAnswer : (Network → Answer → Type 0) → List ℕ → Answer → Type 0
IsFileAnswer IsAnswerFor octets a =
    (IsTooLong octets × (a ≡ too_long_answer))
    ⊎ ((refusal : FileRefusal) × MeansNoNetwork octets refusal × (a ≡ refused_answer (file_reason refusal)))
    ⊎ ((network : Network) × MeansNetwork octets network × IsAnswerFor network a)

-- the answer of `slack NETWORK`
abbrev pub IsSlackAnswer : List ℕ → Answer → Type 0
IsSlackAnswer octets a = IsFileAnswer (IsSlackOf all_steps) octets a

-- the answer of `slack NETWORK RULE`
abbrev pub IsSlackAnswerOf : Rule → List ℕ → Answer → Type 0
IsSlackAnswerOf rule octets a = IsFileAnswer (IsSlackOf (rule_steps rule)) octets a

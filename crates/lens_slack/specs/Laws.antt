-- What `slack` has to do with the rules and with `check`.
use Rattle.std.specs.{List.All, Prelude.{◌++◌, ◌<◌, ◌↔◌, ◌∷◌, ◌≡◌, List, ℕ}}
use Rattle.lens_slack.specs.declared.{measuring.Ending.Ending, spot.{Finding.Finding, BoundedNumber.BoundedNumber}}
use Rattle.lens_slack.specs.{Answer.IsSlackOf, Bounds.IsBoundAt, Finds.IsFoundIn, Spots.IsSpotAt, Tightest.IsEnough}
use Rattle.lens_slack.specs.{Inequalities.IsInequality, Lines.{spot_index, spot_rule}, Steps.{all_steps, rule_steps}}
use Rattle.net_plan.specs.{Ranges.IsInRange, declared.network.Network.Network}
use Rattle.schedule_tables.specs.{Rules.{IsFirstBroken, IsKept, IsKeptAt, KeepsRules}, declared.rule.Rule.Rule}
use Rattle.tte_forms.specs.{Answering.Answer, declared.status.Status.TheVariants.Done}

-- a rule that is an inequality is kept at a place exactly where at each of its spots there the network has what is
-- wanted
abbrev pub BoundsDecide : Type 0
BoundsDecide =
    (network : Network) (rule : Rule) (place : ℕ) → IsInequality rule
    → IsKeptAt rule network place
    ↔ ((spot : BoundedNumber) (n : ℕ) (f : Finding) → IsSpotAt rule place spot → IsBoundAt network spot n f → IsEnough f)

-- the answer is Done exactly where the network keeps all rules, that is, where `check` accepts it
abbrev pub SlackAccepts : Type 0
SlackAccepts =
    (network : Network) (a : Answer) → IsInRange network → IsSlackOf all_steps network a
    → (a.status ≡ Done) ↔ KeepsRules network

-- the rules that are no inequalities are kept
abbrev pub KeepsOthers : Network → Type 0
KeepsOthers network = (rule : Rule) → ¬ IsInequality rule → IsKept rule network

-- the finding is the first of these that is short
pub record IsFirstShort (fs : List Finding) (f : Finding) : Type 0 where
  pub front : List Finding
  pub behind : List Finding
  pub is : fs ≡ front ++ f ∷ behind
  pub enough : All IsEnough front
  pub short : f.has < f.wants

-- where the other rules are kept and one is broken, the answer has a line that is short, and the first one is of the
-- rule that `check` refuses; and of the lines of this rule alone the first is at the place that `check` tells
pub record SlackRefuses : Type 0 where
  pub rule : (network : Network) (rule : Rule) (place : ℕ) (fs : List Finding) (end : Ending)
      → KeepsOthers network → IsFirstBroken network rule place → IsFoundIn network all_steps fs end
      → (f : Finding) × IsFirstShort fs f × (spot_rule f.spot ≡ rule)
  pub place : (network : Network) (rule : Rule) (place : ℕ) (fs : List Finding) (end : Ending)
      → KeepsOthers network → IsFirstBroken network rule place → IsFoundIn network (rule_steps rule) fs end
      → (f : Finding) × IsFirstShort fs f × (spot_rule f.spot ≡ rule) × (spot_index f.spot ≡ place)

-- What the checker refuses.
use Rattle.std.specs.Prelude.{◌≡◌}
use Rattle.net_plan.specs.declared.network.Network.{Network}
use Rattle.schedule_tables.specs.{Numbers.number_of, Rules.IsFirstBroken, declared.rule.Rule.Rule}
use Rattle.schedule_checker.specs.declared.refusal.{RuleBroken.RuleBroken, Unfit.Unfit}
use Rattle.schedule_checker.specs.declared.refusal.Unfit.TheVariants.{OutOfMemory, Rule as Breaks}

-- what is told is the number of the first rule that the network breaks, and its first place
pub record TellsFirstBroken (network : Network) (told : RuleBroken) : Type 0 where
  pub rule : Rule
  pub number : told.number ≡ number_of rule
  pub first : IsFirstBroken network rule told.index

-- why the network is unfit: a rule that it breaks is the first; memory may run out at any
abbrev pub IsUnfitBy : Network → Unfit → Type 0
IsUnfitBy network (Breaks told) = TellsFirstBroken network told
IsUnfitBy network OutOfMemory = Unit {0}

-- a network has one first broken rule, and one first place
abbrev pub RefusalIsOne : Type 0
RefusalIsOne =
    (network : Network) (told other : RuleBroken) → TellsFirstBroken network told → TellsFirstBroken network other
    → told ≡ other

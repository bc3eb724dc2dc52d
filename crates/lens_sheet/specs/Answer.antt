-- What `sheet` answers for the octets of a network file.
use Rattle.std.specs.Prelude.{◌≡◌, List, map, ℕ}
use Rattle.lens_sheet.specs.{Sheet.{IsSheet, line_text}, Weights.AreWeights}
use Rattle.lens_sheet.specs.declared.{sheet.SheetLine.SheetLine, weights.Weights.Weights}
use Rattle.net_plan.specs.declared.network.Network.{Network}
use Rattle.tte_forms.specs.{Answering.Answer, declared.status.Status.TheVariants.Done}
use Rattle.tte_forms.specs.networks.Accepting.{IsNetworkAnswer}

-- these lines
abbrev pub sheet_answer : Network → Weights → List SheetLine → Answer
sheet_answer network w ls = record { status = Done; lines = map (line_text network w) ls }

-- the answer for an accepted network
pub record IsSheetOf (network : Network) (a : Answer) : Type 0 where
  pub weights : Weights
  pub weigh : AreWeights network weights
  pub lines : List SheetLine
  pub sheet : IsSheet network lines
  pub is : a ≡ sheet_answer network weights lines

-- the answer of `sheet NETWORK`
abbrev pub IsSheetAnswer : List ℕ → Answer → Type 0
IsSheetAnswer octets a = IsNetworkAnswer IsSheetOf octets a

-- What `check` answers for the octets of a network file.
use Rattle.std.specs.Prelude.{◌∷◌, ◌≡◌, List, [], pos, ℕ}
use Rattle.net_plan.specs.{Bounds.{IsBeta, gamma_of}, declared.network.Network.Network}
use Rattle.tte_forms.specs.{Answering.Answer, Statuses.IsNetworkStatus, networks.Accepting.IsNetworkAnswer}
use Rattle.tte_forms.specs.{declared.status.Status.{Status, TheVariants.Done}, networks.NetworkLine.acceptance_line}

-- an accepted network is answered with its beta and its gamma
pub record IsAcceptance (network : Network) (a : Answer) : Type 0 where
  pub beta : ℕ
  pub is : IsBeta network (pos beta)
  pub answer : a ≡ record { status = Done; lines = acceptance_line beta (gamma_of network) ∷ [] }

-- the answer for the octets of a network file
abbrev pub IsCheckAnswer : List ℕ → Answer → Type 0
IsCheckAnswer octets a = IsNetworkAnswer IsAcceptance octets a

-- the statuses of `check`
abbrev pub IsCheckStatus : Status → Type 0
IsCheckStatus status = IsNetworkStatus status

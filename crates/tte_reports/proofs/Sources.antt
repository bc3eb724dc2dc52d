-- An answer for the two sources of a command over a report.
use Rattle.{net_plan.specs.declared.network.Network.Network, std.proofs.Common.{◌≡◌, ◌⊎◌, List, Option, ℕ}, tte_forms.specs.declared.status.Status.Status}
use Rattle.tte_forms.specs.{Answering.{Answer, ForOctets, Gives, GivesAnswer}, declared.{accepting.NoNetwork.NoNetwork, status.Status.TheVariants.WriteFault}}
use Rattle.tte_forms.specs.Putting.{PutsNone, Shown}
use Rattle.tte_forms.specs.networks.{Accepting.{IsNetworkAnswer, MeansAccepted, refusal_lines}, NoNetworks.{IsNoNetwork, no_network_answer}}
use Rattle.tte_forms.proofs.networks.Answers as networks
use Rattle.tte_forms.specs.declared.accepting.NoNetwork.TheVariants as causes

-- an answer for the octets of a network file and of a report was given, where one for the octets of a report and an
-- accepted network is given
abbrev pub GivesFiles : (List ℕ → Network → Answer → Type 0) → Option (List ℕ) → Option (List ℕ) → Status → Shown → Shown → Type 0
GivesFiles IsFor first second status old new =
    ForOctets first (λ octets. ForOctets second (λ report. GivesAnswer (IsNetworkAnswer (IsFor report) octets) status old new))

pub files_accepted : (IsFor : List ℕ → Network → Answer → Type 0) (first second : Option (List ℕ)) (network : Network) (status : Status) (old new : Shown)
    → ForOctets first (λ octets. MeansAccepted octets network) → ForOctets second (λ report. GivesAnswer (IsFor report network) status old new)
    → GivesFiles IsFor first second status old new
files_accepted = networks.files_accepted refusal_lines

pub files_refused : (IsFor : List ℕ → Network → Answer → Type 0) (first second : Option (List ℕ)) (cause : NoNetwork) (status : Status) (old new : Shown)
    → ForOctets first (λ octets. IsNoNetwork octets cause) → Gives (no_network_answer cause) status old new
    → ((cause ≡ causes.ReadFault) ⊎ (cause ≡ causes.OutOfMemory) → (status ≡ WriteFault → ⊥) × PutsNone old new) → GivesFiles IsFor first second status old new
files_refused = networks.files_refused refusal_lines

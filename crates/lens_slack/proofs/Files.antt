-- The answer for a source of a network file.
use Rattle.{lens_slack.specs.Answer.IsFileAnswer, tte_forms.specs.Putting.{PutsNone, Shown}}
use Rattle.{net_plan.specs.declared.network.Network.Network, tte_forms.specs.{declared.status.Status.Status, networks.NetworkLine.file_reason}}
use Rattle.std.proofs.Common.{◌≡◌, ◌⊎◌, List, Option, inl, inr, refl, ℕ}
use Rattle.tte_forms.proofs.{Octets.for_more, Puts.{answer_widened, unput_answer}}
use Rattle.tte_forms.specs.{Answering.{Answer, AnswersOne, ForOctets, Gives, GivesAnswer}, networks.Accepting.{MeansNetwork, refused_answer, too_long_answer}}
use Rattle.tte_forms.specs.{declared.{accepting.NoNetwork.NoNetwork, status.Status.TheVariants.WriteFault}, networks.NoNetworks.{IsUnread, no_network_answer}}
use Rattle.tte_forms.specs.declared.accepting.NoNetwork.TheVariants as causes

-- where there is no network
unread_given : (Is : Network → Answer → Type 0) (octets : List ℕ) (cause : NoNetwork) (status : Status)
    {old new : Shown} → IsUnread octets cause → Gives (no_network_answer cause) status old new
    → ((cause ≡ causes.ReadFault) ⊎ (cause ≡ causes.OutOfMemory) → (status ≡ WriteFault → ⊥) × PutsNone old new)
    → GivesAnswer (IsFileAnswer Is octets) status old new
unread_given Is octets causes.ReadFault status {old} {new} h g unput =
    unput_answer (IsFileAnswer Is octets) (no_network_answer causes.ReadFault) status old new (inl refl) (unput (inl refl)) g
unread_given Is octets causes.OutOfMemory status {old} {new} h g unput =
    unput_answer (IsFileAnswer Is octets) (no_network_answer causes.OutOfMemory) status old new (inr refl) (unput (inr refl)) g
unread_given Is octets causes.TooLong status h g unput = inl (too_long_answer, inl (h, refl), g)
unread_given Is octets (causes.File e) status h g unput =
    inl (refused_answer (file_reason e), inr (inl (e, h, refl)), g)
unread_given Is octets (causes.Rule told) status h g unput = absurd h

-- the answer for a source
pub answered_unread : (Is : Network → Answer → Type 0) (left : Option (List ℕ)) (cause : NoNetwork) (status : Status)
    {old new : Shown} → ForOctets left (λ octets. IsUnread octets cause)
    → Gives (no_network_answer cause) status old new → ((cause ≡ causes.ReadFault) ⊎ (cause ≡ causes.OutOfMemory)
    → (status ≡ WriteFault → ⊥) × PutsNone old new) → AnswersOne (IsFileAnswer Is) left status old new
answered_unread Is left cause status {old} {new} h g unput =
    for_more left (λ octets. IsUnread octets cause) (λ octets. GivesAnswer (IsFileAnswer Is octets) status old new)
    (λ octets none. unread_given Is octets cause status none g unput) h

pub answered_network : (Is : Network → Answer → Type 0) (left : Option (List ℕ)) (network : Network)
    (status : Status) {old new : Shown} → ForOctets left (λ octets. MeansNetwork octets network)
    → GivesAnswer (Is network) status old new → AnswersOne (IsFileAnswer Is) left status old new
answered_network Is left network status {old} {new} h g =
    for_more left (λ octets. MeansNetwork octets network) (λ octets. GivesAnswer (IsFileAnswer Is octets) status old new)
    (λ octets m. answer_widened (Is network) (IsFileAnswer Is octets) status old new (λ a is. inr (inr (network, m, is))) g) h

-- What the octets of a planned network mean.
use Rattle.lens_plan.specs.{joining.{Extends.Extends, Joined.MeansPlanned, Served.AreServed}, messages.Message.Message}
use Rattle.net_file.specs.{Schema.network_read, declared.refusal.FileRefusal.FileRefusal}
use Rattle.net_plan.specs.declared.network.Network.{Network}
use Rattle.schedule_checker.specs.{Refusals.TellsFirstBroken, declared.refusal.RuleBroken.RuleBroken}
use Rattle.std.{proofs.Common.{◌≡◌, Bool, Err, List, Ok, arith, subst, ℕ}, specs.Prelude.{◌↔◌, IsTrue}}
use Rattle.tte_forms.specs.networks.Accepting.{IsTooLong, MeansAccepted, MeansNoNetwork, MeansUnfit}

same_network : (octets : List ℕ) (n m : Network) → network_read octets ≡ Ok n → network_read octets ≡ Ok m → n ≡ m
same_network octets n m p q = cc

no_both : (octets : List ℕ) (n : Network) (e : FileRefusal) → network_read octets ≡ Ok n → network_read octets ≡ Err e → ⊥
no_both octets n e p q = cc

-- the octets mean one network at most
pub planned_as : {octets : List ℕ} (network : Network) {planned : Network} (ms : List Message) (b : Bool)
    → MeansAccepted octets planned → (IsTrue b ↔ (Extends network planned × AreServed network planned ms))
    → IsTrue b ↔ MeansPlanned octets network ms
planned_as {octets} network {planned} ms b means is = (
  λ t. let both = is.0 t in record { planned = planned; accepted = means; extends = both.0; served = both.1 },
  λ m.
      let same = same_network octets m.planned planned m.accepted.read means.read in
      is.1 (subst (Extends network) same m.extends, subst (λ n. AreServed network n ms) same m.served),
)

module _ (octets : List ℕ) (network : Network) (ms : List Message) where
  pub not_too_long : IsTooLong octets → MeansPlanned octets network ms → ⊥
  not_too_long long m = let fits = m.accepted.fits in absurd (omega (arith, long, fits))

  pub not_read : (e : FileRefusal) → MeansNoNetwork octets e → MeansPlanned octets network ms → ⊥
  not_read e none m = no_both octets m.planned e m.accepted.read none.read

  pub not_fit : (told : RuleBroken) → MeansUnfit octets told → MeansPlanned octets network ms → ⊥
  not_fit told unfit m =
      let same = same_network octets unfit.network m.planned unfit.read m.accepted.read in
      let first = subst (λ n. TellsFirstBroken n told) same unfit.first in
      first.first.broken (m.accepted.rules first.rule told.index)

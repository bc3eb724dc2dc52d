-- The paths of a network, and so beta but for the drift, do not depend on its times.
use Rattle.{lens_slack.specs.{declared.least.times.Times.Times, least.Parts.{IsSteady, drift_over}}, net_plan.specs.declared.network.Network.Network}
use Rattle.{lens_slack.specs.least.Times.with_times, tte_units.{proofs.general_lemmas.Options.{closed, opened}, specs.declared.frames.channel.Channel.Channel}}
use Rattle.std.proofs.Common.{◌+◌, ◌∷◌, ◌≡◌, List, [], arith, pos, ℕ}
use Rattle.net_plan.{proofs.Trees.beta_is_unique, specs.Paths.{IsFirstPath, IsFirstUplink, IsPath}}
use Rattle.net_plan.specs.{Bounds.IsBeta, Places.{IsSwitchOf, link_at}, declared.{ids.{DeviceId.DeviceId, LinkId.LinkId}, tables.Link.Link}}
use Rattle.std.proofs.lemmas.Int.{ints}

module _ (n : Network) (t : Times) where
  -- with the times
  abbrev m : Network
  m = with_times n t

  first_to : (c : Channel) (d : DeviceId) (l : LinkId) → IsFirstUplink n c d l → IsFirstUplink m c d l
  first_to c d l h = record { leads = h.leads; first = h.first }

  pub first_path_to : (c : Channel) (d : DeviceId) (ls : List LinkId) → IsFirstPath n c d ls → IsFirstPath m c d ls
  first_path_to c d [] h = h
  first_path_to c d (l ∷ ls) h =
      let x = opened (λ (k : Link). IsFirstPath n c k.parent ls) (link_at n l) h.1 in
      (first_to c d l h.0, closed (λ (k : Link). IsFirstPath m c k.parent ls) (link_at n l) x.0 x.1 (first_path_to c x.0.parent ls x.2))

  pub path_to : (c : Channel) (d : DeviceId) (ls : List LinkId) → IsPath n c d ls → IsPath m c d ls
  path_to c d [] h = h
  path_to c d (l ∷ ls) h =
      let x = opened (λ (k : Link). (k.child ≡ d) × IsSwitchOf n c k.parent × IsPath n c k.parent ls) (link_at n l) h in
      closed (λ (k : Link). (k.child ≡ d) × IsSwitchOf n c k.parent × IsPath m c k.parent ls) (link_at n l) x.0 x.1
      (x.2.0, x.2.1, path_to c x.0.parent ls x.2.2)

  pub path_back : (c : Channel) (d : DeviceId) (ls : List LinkId) → IsPath m c d ls → IsPath n c d ls
  path_back c d [] h = h
  path_back c d (l ∷ ls) h =
      let x = opened (λ (k : Link). (k.child ≡ d) × IsSwitchOf n c k.parent × IsPath m c k.parent ls) (link_at n l) h in
      closed (λ (k : Link). (k.child ≡ d) × IsSwitchOf n c k.parent × IsPath n c k.parent ls) (link_at n l) x.0 x.1
      (x.2.0, x.2.1, path_back c x.0.parent ls x.2.2)

-- the one beta with these times
pub beta_is : (n : Network) (s : ℕ) → IsSteady n s → (t : Times) (b : ℕ) → IsBeta (with_times n t) (pos b) → b ≡ s + drift_over n t.dmax
beta_is n s steady t b is = omega (arith, ints, beta_is_unique (with_times n t) (pos b) (pos (s + drift_over n t.dmax)) is (steady t))

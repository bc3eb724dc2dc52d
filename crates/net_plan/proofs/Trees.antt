-- The trees of a network: its devices, links and paths, and the one beta that they give.
use Rattle.std.proofs.Common
use Common.{◌++◌, ◌+◌, ◌<◌, ◌==◌, ◌↔◌, ◌∙◌, ◌∷◌, ◌≡◌, ◌≤◌, ◌⊎◌, Bool, List, MatchOption, None, Option, Some, [], ap}
use Common.{arith, false, inl, inr, length, max, pos, refl, subst, suc, sym, true, zero, ℕ, ⊎_elim}
use Rattle.std.proofs.lemmas.{Bool.{cases_lt, false≢true}}
use Rattle.std.proofs.lemmas.{Option.{get_or_from_slice_get, slice_get-get_or, slice_get_within}}
use Rattle.std.specs.{Bool.MatchBool, List.{AllWithin, HoldsAt}, Option.option_map_or}
use Rattle.std.specs.{Prelude.{IsSomeAnd, IsTrue, slice_get}}
use Rattle.net_plan.specs.{Paths.{HasPath, IsFirstPath, IsPath, IsTree, IsUplink, LeadsToCm, PathsAreUnique}}
use Rattle.net_plan.specs.{Places.{IsCmOf, IsDeviceOf, IsSwitchOf, device_at, is_end_system, link_at}}
use Rattle.net_plan.specs.{Rules.{IsChildOf, KeepsShapeRules, RulesGiveTrees}}
use Rattle.net_plan.specs.Bounds
use Bounds.{BetaExists, BetaIsUnique, IsGreatest, IsOfPath, IsOfPathFrom, IsOfPathOn, beta_at, jitter_on}
use Rattle.net_plan.specs.declared.{event.{Event.Event, What.What}, ids.{DeviceId.DeviceId, LinkId.LinkId}}
use Rattle.net_plan.specs.declared.{network.Network.Network}
use Rattle.net_plan.specs.declared.tables.{Device.Device, Link.Link, Role.{Role, TheVariants.{Cm, Relay}}}
use Rattle.net_plan.specs.declared.tables.{VirtualLink.VirtualLink, Way.Way}
use Rattle.tte_units.{proofs.general_lemmas.Options.{at_known, closed, one as same_some, opened}}
use Rattle.tte_units.{specs.declared.frames.channel.Channel.{Channel, TheVariants.{A, B}}}
use Rattle.net_plan.specs.declared.event.What.TheVariants as events

-- ---- paths in the trees of a network

-- the first link of a path is an uplink
pub uplink_of_path : (n : Network) (c : Channel) (d : DeviceId) (link : LinkId) (links : List LinkId) → IsPath n c d (link ∷ links) → IsUplink n c d link
uplink_of_path n c d link links h =
    let k = opened (λ l. (l.child ≡ d) × IsSwitchOf n c l.parent × IsPath n c l.parent links) (link_at n link) h in
    closed (λ l. (l.child ≡ d) × IsSwitchOf n c l.parent) (link_at n link) k.0 k.1 (k.2.0, k.2.1)

-- a path goes by each uplink that there is
pub followed : {n : Network} (c : Channel) (d : DeviceId) (link : LinkId) (k : Link) (rest : List LinkId) → IsTree n
    → IsUplink n c d link → link_at n link ≡ Some k → IsPath n c d rest
    → (later : List LinkId) × (rest ≡ link ∷ later) × IsPath n c k.parent later
followed c d link k [] tree up at h = absurd (tree.root c d link h up)
followed c d link k (m ∷ ms) tree up at h = grind (arith, uplink_of_path, at_known)

-- a path of a device with no uplink is empty
pub ended : (n : Network) (c : Channel) (d : DeviceId) (rest : List LinkId) → ((link : LinkId) → IsUplink n c d link → ⊥) → IsPath n c d rest → rest ≡ []
ended n c d [] none h = refl
ended n c d (m ∷ ms) none h = absurd (none m (uplink_of_path n c d m ms h))

-- a device has no two paths on a channel
pub paths_are_unique : PathsAreUnique
paths_are_unique n c d [] [] tree h g = refl
paths_are_unique n c d [] (m ∷ ms) tree h g = absurd (tree.root c d m h (uplink_of_path n c d m ms g))
paths_are_unique n c d (l ∷ ls) others tree h g =
    let k = opened (λ x. (x.child ≡ d) × IsSwitchOf n c x.parent × IsPath n c x.parent ls) (link_at n l) h in
    let f = followed c d l k.0 others tree (uplink_of_path n c d l ls h) k.1 g in
    rw (paths_are_unique n c k.0.parent ls f.0 tree k.2.2 f.2) (sym f.1)

-- ---- the greatest of some numbers, of two kinds together and over the paths of a channel

-- no two numbers are the greatest
pub greatest_is_unique : (Has : ℕ → Type 0) {m n : ℕ} → IsGreatest Has m → IsGreatest Has n → m ≡ n
greatest_is_unique Has g h = grind (arith, ⊎_elim)

-- the greatest of one number, and of none
pub greatest_of_one : (Has : ℕ → Type 0) (m : ℕ) → Has m → ((n : ℕ) → Has n → n ≡ m) → IsGreatest Has m
greatest_of_one Has m here only = record { most = λ n h. omega (arith, only n h); reached = inr here }

pub greatest_of_none : (Has : ℕ → Type 0) → ((n : ℕ) → Has n → ⊥) → IsGreatest Has 0
greatest_of_none Has none = record { most = λ n h. absurd (none n h); reached = inl refl }

max_left : (m n : ℕ) → n ≤ m → max m n ≡ m
max_left m n h = omega arith

max_right : (m n : ℕ) → m ≤ n → max m n ≡ n
max_right m n h = omega arith

-- the greatest of two kinds together
pub greatest_of_both : (P Q R : ℕ → Type 0) {a b : ℕ} → IsGreatest P a → IsGreatest Q b → ((n : ℕ) → R n → P n ⊎ Q n)
    → ((n : ℕ) → P n → R n) → ((n : ℕ) → Q n → R n) → IsGreatest R (max a b)
greatest_of_both P Q R g h split left right = grind (arith, ⊎_elim, max, max_left, max_right, cases_lt)

-- the measure of a path of one of the first devices
abbrev pub IsOfPathBelow : Network → Channel → ℕ → (List LinkId → ℕ) → ℕ → Type 0
IsOfPathBelow network channel places measure n = (device : DeviceId) × (device.0 < places) × IsOfPathFrom network channel device measure n

module _ (n : Network) (c : Channel) (measure : List LinkId → ℕ) where
  greatest_below_none : IsGreatest (IsOfPathBelow n c 0 measure) 0
  greatest_below_none = greatest_of_none (IsOfPathBelow n c 0 measure) (λ k h. omega (arith, h.1))

  below_or_at : (place k : ℕ) → IsOfPathBelow n c (place + 1) measure k
      → IsOfPathBelow n c place measure k ⊎ IsOfPathFrom n c (record { 0 = place }) measure k
  below_or_at place k h =
      let d = h.0 in
      ⊎_elim
      (λ l. (inl (d, l, h.2)))
      (λ g. let e : d.0 ≡ place = omega (arith, h.1) in (inr (rw e at h.2)))
      (cases_lt d.0 place)

  pub greatest_below_more : (place a b : ℕ) → IsGreatest (IsOfPathBelow n c place measure) a
      → IsGreatest (IsOfPathFrom n c (record { 0 = place }) measure) b
      → IsGreatest (IsOfPathBelow n c (place + 1) measure) (max a b)
  greatest_below_more place a b g h =
      greatest_of_both (IsOfPathBelow n c place measure) (IsOfPathFrom n c (record { 0 = place }) measure)
      (IsOfPathBelow n c (place + 1) measure) g h
      (below_or_at place) (λ k p. (p.0, omega (arith, p.1), p.2)) (λ k q. (record { 0 = place }, omega arith, q))

device_within : (n : Network) (c : Channel) (d : DeviceId) → IsDeviceOf n c d → d.0 < length n.device
device_within n c d h =
    let v = opened (λ x. (is_end_system x.role ≡ _) ⊎ (x.channel ≡ _)) (device_at n d) h in
    slice_get_within n.device d.0 v.0 v.1

pub greatest_below_all : (n : Network) (c : Channel) (measure : List LinkId → ℕ) {m : ℕ}
    → IsGreatest (IsOfPathBelow n c (length n.device) measure) m → IsGreatest (IsOfPathOn n c measure) m
greatest_below_all n c measure {m} g = record {
  most = λ k h. g.most k (h.0, device_within n c h.0 h.1.1, h.1);
  reached =
      ⊎_elim (λ z. (inl z)) (λ h. (inr (h.0, h.2))) g.reached;
}

either : (n : Network) (measure : List LinkId → ℕ) (k : ℕ) (c : Channel) → IsOfPathOn n c measure k → IsOfPathOn n A measure k ⊎ IsOfPathOn n B measure k
either n measure k A h = inl h
either n measure k B h = inr h

pub greatest_of_channels : (n : Network) (measure : List LinkId → ℕ) {a b : ℕ}
    → IsGreatest (IsOfPathOn n A measure) a → IsGreatest (IsOfPathOn n B measure) b
    → IsGreatest (IsOfPath n measure) (max a b)
greatest_of_channels n measure g h =
    greatest_of_both (IsOfPathOn n A measure) (IsOfPathOn n B measure) (IsOfPath n measure) g h
    (λ k r. either n measure k r.0 r.1) (λ k p. (A, p))
    (λ k q. (B, q))

-- the path of a device has the greatest measure of its paths, since it is the only one
pub greatest_from_path : {n : Network} (c : Channel) (d : DeviceId) (measure : List LinkId → ℕ) (links : List LinkId)
    (m : ℕ) → IsTree n → IsDeviceOf n c d → IsPath n c d links → m ≡ measure links
    → IsGreatest (IsOfPathFrom n c d measure) m
greatest_from_path {n} c d measure links m tree member path e =
    greatest_of_one (IsOfPathFrom n c d measure) m (links, member, path, sym e) (λ k h. sym h.3 ∙ ap measure (paths_are_unique n c d h.0 links tree h.2 path)
    ∙ sym e)

greatest_from_none : (n : Network) (c : Channel) (d : DeviceId) (measure : List LinkId → ℕ) → (IsDeviceOf n c d → ⊥)
    → IsGreatest (IsOfPathFrom n c d measure) 0
greatest_from_none n c d measure none = greatest_of_none (IsOfPathFrom n c d measure) (λ k h. none h.1)

-- ---- a network of trees has one beta

pub beta_is_unique : BetaIsUnique
beta_is_unique n b other g h =
    let j = greatest_is_unique (IsOfPath n (jitter_on n)) g.jitter_greatest h.jitter_greatest in
    let l = greatest_is_unique (IsOfPath n (length)) g.links_greatest h.links_greatest in
    g.value ∙ (rw j ((rw l (sym h.value))))

either_channel : (o : Option Channel) (c : Channel) → (o ≡ Some c) ⊎ (o ≡ Some c → ⊥)
either_channel None c = inr (λ e. grind arith)
either_channel (Some A) A = inl refl
either_channel (Some B) B = inl refl
either_channel (Some A) B = inr (λ e. grind arith)
either_channel (Some B) A = inr (λ e. grind arith)

either_role : (b : Bool) (o : Option Channel) (c : Channel) → ((b ≡ true) ⊎ (o ≡ Some c)) ⊎ ((b ≡ true) ⊎ (o ≡ Some c) → ⊥)
either_role true o c = inl (inl refl)
either_role false o c = grind (arith, ⊎_elim, either_channel)

either_device : (o : Option Device) (c : Channel) → IsSomeAnd o (λ d. (is_end_system d.role ≡ true) ⊎ (d.channel ≡ Some c))
    ⊎ (IsSomeAnd o (λ d. (is_end_system d.role ≡ true) ⊎ (d.channel ≡ Some c)) → ⊥)
either_device None c = inr (λ h. h)
either_device (Some d) c = either_role (is_end_system d.role) d.channel c

module _ {n : Network} (c : Channel) (measure : List LinkId → ℕ) (tree : IsTree n) where
  from_one : (d : DeviceId) → (m : ℕ) × IsGreatest (IsOfPathFrom n c d measure) m
  from_one d = ⊎_elim
      (λ h. let p = tree.reach c d h in let r : (m : ℕ)
      × IsGreatest (IsOfPathFrom n c d measure) m =
      (measure p.0, greatest_from_path c d measure p.0 (measure p.0) tree h p.2 refl) in r)
      (λ no. (0, greatest_from_none n c d measure no))
      (either_device (device_at n d) c)

  from_first : (places : ℕ) → (m : ℕ) × IsGreatest (IsOfPathBelow n c places measure) m
  from_first zero = (0, greatest_below_none n c measure)
  from_first (suc k) =
      let before = from_first k in
      let one = from_one (record { 0 = k }) in
      let same : k + 1 ≡ suc k = omega arith in (
        max before.0 one.0,
        rw same at (greatest_below_more n c measure k before.0 one.0 before.1 one.1),
      )

  on_channel : (m : ℕ) × IsGreatest (IsOfPathOn n c measure) m
  on_channel = let all = from_first (length n.device) in (all.0, greatest_below_all n c measure all.1)

greatest_exists : {n : Network} (measure : List LinkId → ℕ) → IsTree n → (m : ℕ) × IsGreatest (IsOfPath n measure) m
greatest_exists {n} measure tree =
    let a = on_channel A measure tree in
    let b = on_channel B measure tree in
    (max a.0 b.0, greatest_of_channels n measure a.1 b.1)

pub beta_exists : BetaExists
beta_exists n tree =
    let j = greatest_exists (jitter_on n) tree in
    let l = greatest_exists (length) tree in
    (pos (beta_at n j.0 l.0), record { jitter = j.0; links = l.0; jitter_greatest = j.1; links_greatest = l.1; value = refl })

-- ---- links, virtual links, events and their ways

pub link_there : (o : Option Link) (P : Link → Type 0) → IsSomeAnd o P → (l : Link) × (o ≡ Some l)
link_there None P is = absurd is
link_there (Some l) P is = (l, refl)

pub link_within : (network : Network) (link : LinkId) (P : Link → Type 0) → IsSomeAnd (link_at network link) P → link.0 < length network.link
link_within network link P there =
    let found = link_there (link_at network link) P there in
    slice_get_within network.link link.0 found.0 found.1

pub id_by : (o : Option VirtualLink) (vl : VirtualLink) (id : ℕ) → o ≡ Some vl → option_map_or (λ v. v.id == id) o false ≡ (vl.id == id)
id_by o vl id e = rw e refl

-- an event cuts some link or none
pub cuts_or_not : (what : What) → ((link : LinkId) × (way : Way) × (what ≡ events.Cut link way))
    ⊎ ((link : LinkId) (way : Way) → what ≡ events.Cut link way → ⊥)
cuts_or_not (events.Cut link way) = inl (link, way, refl)
cuts_or_not what = inr (λ link way e. cc)

-- a device whose uplink leads to itself has no path
pub no_path : {network : Network} (channel : Channel) (device : DeviceId) (link : LinkId) (l : Link) → IsTree network
    → link_at network link ≡ Some l → l.parent ≡ device → IsUplink network channel device link
    → (links : List LinkId) → IsPath network channel device links → ⊥
no_path channel device link l tree at turns up [] path = tree.root channel device link path up
no_path {network} channel device link l tree at turns up (k ∷ ks) path =
    let first = opened (λ x. (x.child ≡ device) × IsSwitchOf network channel x.parent × IsPath network channel x.parent
    ks) (link_at network k) path in
    let here = closed (λ x. (x.child ≡ device) × IsSwitchOf network channel x.parent) (link_at network k) first.0
    first.1 (first.2.0, first.2.1) in
    let one = tree.one_uplink channel device k link here up in
    let same = same_some (link_at network k) first.0 l first.1 (rw one at) in
    let parent : first.0.parent ≡ device = rw same turns in
    no_path channel device link l tree at turns up ks
    (rw parent at first.2.2)

pub none_told : (before behind : List Event) (event : Event) → [] ≡ before ++ event ∷ behind → ⊥
none_told [] behind event e = cc
none_told (b ∷ before) behind event e = cc

-- ---- the rules of a network's shape make its links a tree on each channel

-- a compression master is no end system and no relay
cm_is_no_end : (r : Role) → r ≡ Cm → is_end_system r ≡ true → ⊥
cm_is_no_end r e h = false≢true (rw e at h)

cm_is_no_relay : (r : Role) → r ≡ Cm → r ≡ Relay → ⊥
cm_is_no_relay r e h = grind arith

root : {n : Network} → KeepsShapeRules n → (c : Channel) (cm : DeviceId) (link : LinkId) → IsCmOf n c cm
    → IsUplink n c cm link → ⊥
root keeps c cm link h u = grind (arith, opened, ⊎_elim, cm_is_no_end, at_known, cm_is_no_relay)

pub child_of : (n : Network) (c : Channel) (d : DeviceId) (link : LinkId) → IsUplink n c d link → IsChildOf n d link
child_of n c d link u =
    let l = opened (λ x. (x.child ≡ d) × IsSwitchOf n c x.parent) (link_at n link) u in
    closed (λ x. x.child ≡ d) (link_at n link) l.0 l.1 l.2.0

one_uplink : {n : Network} → KeepsShapeRules n → (c : Channel) (d : DeviceId) (link other : LinkId)
    → IsUplink n c d link → IsUplink n c d other → link ≡ other
one_uplink {n} keeps c d link other u v =
    let l = opened (λ x. (x.child ≡ d) × IsSwitchOf n c x.parent) (link_at n link) u in
    let j = keeps.joins link.0 l.0 l.1 in
    ⊎_elim
    (λ e. let one = (keeps.connected d.0).ends (rw l.2.0 at e) c in let r = one.2
    link u ∙ sym (one.2 other v) in r)
    (λ r. let one = (keeps.connected d.0).relays j.0 (rw l.2.0 at r) in let r =
    one.2 link (child_of n c d link u) ∙ sym (one.2 other (child_of n c d other v)) in r)
    j.2

-- a path by the first uplinks is a path
first_path : (n : Network) (c : Channel) (d : DeviceId) (links : List LinkId) → IsFirstPath n c d links → IsPath n c d links
first_path n c d [] h = h
first_path n c d (l ∷ ls) h =
    let k = opened (λ x. (x.child ≡ d) × IsSwitchOf n c x.parent) (link_at n l) h.0.leads in
    let rest = at_known (λ x. IsFirstPath n c x.parent ls) (link_at n l) k.0 k.1 h.1 in
    closed (λ x. (x.child ≡ d) × IsSwitchOf n c x.parent × IsPath n c x.parent ls) (link_at n l) k.0 k.1 (k.2.0, k.2.1, first_path n c k.0.parent ls rest)

has_path : (n : Network) (c : Channel) (d : DeviceId) → LeadsToCm n c d → HasPath n c d
has_path n c d h = (h.0, h.1, first_path n c d h.0 h.2)

pub rules_give_trees : RulesGiveTrees
rules_give_trees n keeps =
    record { root = root keeps; one_uplink = one_uplink keeps; reach = λ c d h. has_path n c d ((keeps.connected d.0).paths c h) }

-- ---- what a search among the devices tells

pub some_at : {X : Type 0} (P : X → Type 0) (xs : List X) (k : ℕ) → k < length xs → HoldsAt P xs k → IsSomeAnd (slice_get xs k) P
some_at P [] k below h = absurd (omega arith)
some_at P (x ∷ xs) k below h = rw (slice_get-get_or (x ∷ xs) k x below) (h x)

-- what `position` answers at a test
abbrev pub IsFound : {X : Type 0} → (X → Type 0) → List X → Option ℕ → Type 0
IsFound P xs r = MatchOption r (AllWithin (λ x. P x → ⊥) xs 0 (length xs)) (λ i. (i < length xs) × HoldsAt P xs i × AllWithin (λ x. P x → ⊥) xs 0 i)

pub none_below : {X : Type 0} (P : X → Type 0) (xs : List X) (k high : ℕ) → k < high → AllWithin (λ x. P x → ⊥) xs 0 high → IsSomeAnd (slice_get xs k) P → ⊥
none_below P xs k high below none h =
    let o = opened P (slice_get xs k) h in none k o.0 (omega arith) below (subst P (sym (get_or_from_slice_get xs k o.0 o.0 o.1)) o.2)

pub none_at : {X : Type 0} (P : X → Type 0) (xs : List X) (k : ℕ) → AllWithin (λ x. P x → ⊥) xs 0 (length xs) → IsSomeAnd (slice_get xs k) P → ⊥
none_at P xs k none h = let o = opened P (slice_get xs k) h in none_below P xs k (length xs) (slice_get_within xs k o.0 o.1) none h

-- a search among the devices finds one exactly where the network has one
pub some_device : (network : Network) (P : Device → Type 0) (found : Bool)
    → MatchBool found ((k : ℕ) × (k < length network.device) × HoldsAt P network.device k) (AllWithin (λ d. P d → ⊥) network.device 0 (length network.device))
    → IsTrue found ↔ ((device : DeviceId) × IsSomeAnd (device_at network device) P)
some_device network P true h = (λ _. (record { 0 = h.0 }, some_at P network.device h.0 h.1 h.2), λ _. refl)
some_device network P false h = (λ e. absurd (false≢true e), λ s. absurd (none_at P network.device s.0.0 h s.1))

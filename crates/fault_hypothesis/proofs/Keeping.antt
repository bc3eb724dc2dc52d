-- What a watch keeps of events, what that says of one more event, and how it stands behind it.
use Rattle.std.proofs.{Math.ListN.{get_or-append, replicate}}
use Rattle.std.proofs.Common
use Common.{◌++◌, ◌<◌, ◌↔◌, ◌∙◌, ◌∷◌, ◌≡◌, ◌≢◌, ◌≤◌, ◌⊎◌, Bool, List, None, Option, Some, [], ap, append_assoc, arith}
use Common.{cond, false, inl, inr, length, length-append, refl, subst, suc, sym, true, zero, ℕ}
use Rattle.std.proofs.lemmas.{Bool.{cases_order, lt-ltb, ltb-true}, Option.{get_or_from_slice_get, slice_get_within}}
use Rattle.std.proofs.lemmas.List.{Folds.{Any-from_list_any, list_any-append, list_any-from_Any}, Quantifiers.Any-push}
use Rattle.std.proofs.lemmas.List.{Sums.sum_by-cons, get_or-replicate, length-replicate}
use Rattle.std.specs.{List.{Any, count_by, enumerate_from, list_any}, Option.option_map_or}
use Rattle.std.specs.Prelude
use Prelude.{◌&&◌, ◌==◌, ◌||◌, IsSomeAnd, IsTrue, MatchOption, is_some, nat_lt, not, slice_get, slice_set}
use Rattle.fault_hypothesis.specs.{SoundMasters.is_sound_beside, Watching.AreOfNetwork}
use Rattle.net_plan.{proofs.{SameIds.same_device, Trees.cuts_or_not}}
use Rattle.net_plan.specs.{Belonging.{HasDevice, HasLink, IsOfNetwork}}
use Rattle.net_plan.specs.{Places.{IsSwitchOf, device_at, is_master, link_at}, Ranges.{IsInRange, IsLinkInRange}}
use Rattle.net_plan.specs.{Rules.HasOffSwitch}
use Rattle.net_plan.specs.declared.{event.{Event.Event, What.{TheVariants.{Break, Cut, Send}, What}}}
use Rattle.net_plan.specs.declared.{ids.{DeviceId.DeviceId, LinkId.LinkId}, network.Network.Network}
use Rattle.net_plan.specs.declared.{tables.{Link.Link, Way.Way}}
use Rattle.run_law.specs.{declared.outside.Outside.TheVariants.SecondBreak}
use Rattle.run_law.specs.scenario.Faults
use Faults.{Breaks, Cuts, CutsOn, IsBroken, IsFaulty, IsFirstCutOn, IsLinkOf, IsTurnedOn, TurnsOn}
use Rattle.run_law.specs.scenario.Hypothesis
use Hypothesis.{BreaksSecond, CutsOtherChannel, IsWithinHypothesis, LeavesTooFew, SendsUnbroken, breaks_at}
use Hypothesis.{is_sound_master, sound_masters}
use Rattle.schedule_tables.specs.{Rules.KeepsRules, declared.rule.Rule.TheVariants.{Joints, Masters}}
use Rattle.tte_units.{specs.declared.frames.channel.Channel.Channel}
use Rattle.tte_units.proofs.general_lemmas.{Bools.same_tests}
use Rattle.tte_units.proofs.general_lemmas.Lists
use Lists.{any_behind, any_first, any_none, any_of, any_parts, in_all, none_stands, some_at}
use Rattle.net_plan.specs.declared.event.What.TheVariants as events

-- ---- one more event behind those of a list

-- what holds of some element of a list holds of some element of the longer one
any_left : {X : Type 0} (P : X → Type 0) (xs : List X) (y : X) → Any P xs → Any P (xs ++ y ∷ [])
any_left P xs y (k, x, within, at, holds) =
    (k, x, omega (arith, length-append xs (y ∷ [])), get_or-append xs (y ∷ []) x k within ∙ at, holds)

-- what holds of the last element holds of some
pub any_last : {X : Type 0} (P : X → Type 0) (xs : List X) (y : X) → P y → Any P (xs ++ y ∷ [])
any_last P xs y holds = Any-push P xs y holds

-- an element of the longer list stands last, or is one of the shorter
pub record StandsInFront {X : Type 0} (xs : List X) (y : X) (before : List X) (x : X) (behind : List X) : Type 0 where
  pub rest : List X
  pub behind_is : behind ≡ rest ++ y ∷ []
  pub whole : xs ≡ before ++ x ∷ rest

pub record StandsLast {X : Type 0} (xs : List X) (y : X) (before : List X) (x : X) : Type 0 where
  pub before_is : before ≡ xs
  pub same : x ≡ y

pub stands_where : {X : Type 0} (xs : List X) (y : X) (before : List X) (x : X) (behind : List X) → xs ++ y ∷ [] ≡ before ++ x ∷ behind
    → StandsInFront xs y before x behind ⊎ StandsLast xs y before x
stands_where [] y [] x behind e = inr (record { before_is = refl; same = cc })
stands_where [] y (b ∷ []) x behind e = absurd cc
stands_where [] y (b ∷ c ∷ before) x behind e = absurd cc
stands_where (z ∷ xs) y [] x behind e = inl (record { rest = xs; behind_is = cc; whole = cc })
stands_where {X} (z ∷ xs) y (b ∷ before) x behind e =
    let heads : z ≡ b = cc in
    elim (stands_where xs y before x behind cc) [
      | inl s ↦ inl (record { rest = s.rest; behind_is = s.behind_is; whole = rw heads ((rw s.whole)) })
      | inr s ↦ inr (record { before_is = rw (sym heads) ((rw s.before_is)); same = s.same })
    ]

-- ---- what stands at a place of a list

-- each link of a network in range is in range
pub link_in_range : {network : Network} (link : LinkId) (found : Link) → IsInRange network
    → link_at network link ≡ Some found → IsLinkInRange network found
link_in_range {network} link found range at = in_all (IsLinkInRange network) network.link link.0 found range.links at

-- a value of which two facts hold
some_both : {X : Type 0} (o : Option X) (P Q : X → Type 0) → IsSomeAnd o P → IsSomeAnd o Q → (x : X) × P x × Q x
some_both None P Q p q = absurd p
some_both (Some x) P Q p q = (x, p, q)

-- ---- which channel is the faulty one, behind one more event

-- each link of a network that keeps the rules is of a channel
channel_there : (network : Network) (link : LinkId) → KeepsRules network → HasLink network link → (channel : Channel) × IsLinkOf network channel link
channel_there network link rules has =
    let at = some_at network.link link.0 has in
    let joint = rules Joints link.0 at.0 at.1 in
    (joint.0, rw at.1 joint.1)

-- a link is of one channel
one_channel : (network : Network) (link : LinkId) (c d : Channel) → IsLinkOf network c link → IsLinkOf network d link → c ≡ d
one_channel network link c d on_c on_d =
    let l = some_both (link_at network link) (λ l. IsSwitchOf network c l.parent) (λ l. IsSwitchOf network d l.parent)
    on_c on_d in
    let p = some_both (device_at network l.0.parent) (λ x. x.channel ≡ Some c) (λ x. x.channel ≡ Some d) l.1 l.2 in
    cc

-- where some event cuts a link, one is the first that does
first_cut : (network : Network) (events : List Event) (link : LinkId) → KeepsRules network → AreOfNetwork network events → Any (Cuts link) events
    → (channel : Channel) × IsFirstCutOn network channel events
first_cut network [] link rules of_network any = absurd (any_none (Cuts link) any)
first_cut network (x ∷ xs) link rules of_network any =
    elim (cuts_or_not x.what) [
      | inl cut ↦
          let has : HasLink network cut.0 = subst (IsOfNetwork network) cut.2 (of_network 0 x (omega arith)) in
          let on = channel_there network cut.0 rules has in
          (on.0, record { before = []; cut = x; behind = xs; order = refl; none_before = λ l a. any_none (Cuts l) a; cuts = (cut.0, (cut.1, cut.2), on.1) })
      | inr none ↦
          let behind : Any (Cuts link) xs = elim (any_of (Cuts link) x xs any) [ inl c ↦ absurd (none link c.0 c.1) | inr a ↦ a ] in
          let rest = first_cut network xs link rules (λ k d within. of_network (suc k) d (omega arith)) behind in (
            rest.0,
            record {
              before = x ∷ rest.1.before;
              cut = rest.1.cut;
              behind = rest.1.behind;
              order = ap (λ t. x ∷ t) rest.1.order;
              none_before = λ l a. elim (any_of (Cuts l) x rest.1.before a) [ inl c ↦ none l c.0 c.1 | inr b ↦ rest.1.none_before l b ];
              cuts = rest.1.cuts;
            },
          )
    ]

-- the first cut is one event
same_cut : (before other : List Event) (cut first : Event) (behind rest : List Event) (l m : LinkId) → before ++ cut ∷ behind ≡ other ++ first ∷ rest
    → ((link : LinkId) → Any (Cuts link) before → ⊥) → ((link : LinkId) → Any (Cuts link) other → ⊥) → Cuts l cut → Cuts m first → cut ≡ first
same_cut [] [] cut first behind rest l m e none bare on_l on_m = cc
same_cut [] (b ∷ other) cut first behind rest l m e none bare on_l on_m =
    let same : cut ≡ b = cc in
    absurd (bare l (any_first (Cuts l) b other (subst (Cuts l) same on_l)))
same_cut (b ∷ before) [] cut first behind rest l m e none bare on_l on_m =
    let same : first ≡ b = cc in
    absurd (none m (any_first (Cuts m) b before (subst (Cuts m) same on_m)))
same_cut (b ∷ before) (c ∷ other) cut first behind rest l m e none bare on_l on_m =
    let tails : before ++ cut ∷ behind ≡ other ++ first ∷ rest = cc in
    same_cut before other cut first behind rest l m tails
    (λ link a. none link (any_behind (Cuts link) b before a))
    (λ link a. bare link (any_behind (Cuts link) c other a))
    on_l on_m

-- at most one channel is faulty
pub one_faulty : {network : Network} (events : List Event) {c d : Channel} → KeepsRules network
    → IsFaulty network events c → IsFaulty network events d → c ≡ d
one_faulty events {c} {d} rules (inl off) (inl other) = (rules Masters 5).one_faulty refl c d off other
one_faulty events {c} rules (inl off) (inr first) = absurd (first.0 c off)
one_faulty events {d} rules (inr first) (inl off) = absurd (first.0 d off)
one_faulty {network} events {c} {d} rules (inr first) (inr other) =
    let a = first.1 in
    let b = other.1 in
    let cut = same_cut a.before b.before a.cut b.cut a.behind b.behind a.cuts.0 b.cuts.0 (sym a.order ∙ b.order) a.none_before b.none_before a.cuts.1 b.cuts.1
    in
    let way_a = a.cuts.1.1 in
    let way_b = b.cuts.1.1 in
    let same : a.cuts.0 ≡ b.cuts.0 = cc in
    one_channel network b.cuts.0 c d (subst (IsLinkOf network c) same a.cuts.2) b.cuts.2

module _ (network : Network) (admitted : List Event) (event : Event) (c : Channel) where
  -- a faulty channel stays so
  pub stays_faulty : IsFaulty network admitted c → IsFaulty network (admitted ++ event ∷ []) c
  stays_faulty (inl off) = inl off
  stays_faulty (inr first) =
      let f = first.1 in
      inr (
        first.0,
        record {
          before = f.before;
          cut = f.cut;
          behind = f.behind ++ event ∷ [];
          order = rw f.order (append_assoc f.before (f.cut ∷ f.behind)
              (event ∷ []));
          none_before = f.none_before;
          cuts = f.cuts;
        },
      )

  -- a channel that is faulty behind one more event was so, or that event is the first cut
  pub was_faulty : IsFaulty network (admitted ++ event ∷ []) c → IsFaulty network admitted c ⊎ CutsOn network c event
  was_faulty (inl off) = inl (inl off)
  was_faulty (inr first) =
      let f = first.1 in
      elim (stands_where admitted event f.before f.cut f.behind f.order) [
        | inl s ↦ inl (inr (first.0, record { before = f.before; cut = f.cut; behind = s.rest; order = s.whole; none_before = f.none_before; cuts = f.cuts }))
        | inr s ↦ inr (subst (CutsOn network c) s.same f.cuts)
      ]

-- what a watch knows of the faulty channel
abbrev pub KnowsFaulty : Network → List Event → Option Channel → Type 0
KnowsFaulty network events faulty = (c : Channel) → (faulty ≡ Some c) ↔ IsFaulty network events c

module _ (network : Network) (admitted : List Event) (event : Event) where
  -- a faulty channel stays the one
  pub faulty_stays : (faulty : Option Channel) → KeepsRules network → is_some faulty ≡ true
      → KnowsFaulty network admitted faulty → KnowsFaulty network (admitted ++ event ∷ []) faulty
  faulty_stays None rules some known = absurd cc
  faulty_stays (Some f) rules some known = λ c.
      let now = stays_faulty network admitted event f ((known f).0 refl) in (
        λ e. let same : f ≡ c = cc in subst (IsFaulty network (admitted ++ event ∷ [])) same now,
        λ h. rw (one_faulty (admitted ++ event ∷ []) rules now h),
      )

  -- where the event cuts nothing, the faulty channel is as it was
  pub faulty_uncut : (faulty : Option Channel) → ((link : LinkId) → Cuts link event → ⊥)
      → KnowsFaulty network admitted faulty → KnowsFaulty network (admitted ++ event ∷ []) faulty
  faulty_uncut faulty uncut known = λ c. (
    λ e. stays_faulty network admitted event c ((known c).0 e),
    λ h. elim (was_faulty network admitted event c h) [
      | inl was ↦ (known c).1 was
      | inr cut ↦ absurd (uncut cut.0 cut.1)
    ],
  )

  -- the first cut makes its channel the faulty one
  pub faulty_cut : (link : LinkId) (way : Way) (faulty found : Option Channel) → KeepsRules network
      → AreOfNetwork network admitted → event.what ≡ events.Cut link way
      → ((c : Channel) → (found ≡ Some c) ↔ IsLinkOf network c link) → is_some faulty ≡ false
      → KnowsFaulty network admitted faulty → KnowsFaulty network (admitted ++ event ∷ []) found
  faulty_cut link way (Some f) found rules of_network what on unknown known = absurd cc
  faulty_cut link way None found rules of_network what on unknown known =
      let none : (c : Channel) → IsFaulty network admitted c → ⊥ = λ c h. let e = (known c).1 h in absurd cc in
      let unoff : (c : Channel) → HasOffSwitch network c → ⊥ = λ c h. none c (inl h) in
      λ c. (
        λ e. inr (
          unoff,
          record {
            before = admitted;
            cut = event;
            behind = [];
            order = refl;
            none_before = λ l a. let f = first_cut network admitted l rules of_network a in none f.0 (inr (unoff, f.1));
            cuts = (link, (way, what), (on c).0 e);
          },
        ),
        λ h. elim (was_faulty network admitted event c h) [
          | inl was ↦ absurd (none c was)
          | inr cut ↦
              let cuts_it = cut.1.1 in
              let same : cut.0 ≡ link = cc in
              (on c).1 (subst (IsLinkOf network c) same cut.2)
        ],
      )

-- before any event the faulty channel is the one with a switch that begins off
pub faulty_begins : (network : Network) (found : Option Channel) → KeepsRules network → MatchOption found ((c : Channel) → HasOffSwitch network c → ⊥)
    (HasOffSwitch network) → KnowsFaulty network [] found
faulty_begins network None rules none = λ c. (
  λ e. absurd cc,
  λ h. elim h [ inl off ↦ absurd (none c off) | inr first ↦ absurd (none_stands first.1.before first.1.cut first.1.behind first.1.order) ],
)
faulty_begins network (Some f) rules off = λ c. (
  λ e. let same : f ≡ c = cc in inl (subst (HasOffSwitch network) same off),
  λ h. rw (one_faulty [] rules (inl off) h),
)

-- ---- what the values that a watch keeps say of an event

-- a break is a second one where a device is broken
pub second_by : (admitted : List Event) (event : Event) (device : DeviceId) (broken : Option DeviceId)
    → ((d : DeviceId) → (broken ≡ Some d) ↔ IsBroken admitted d) → event.what ≡ Break device → IsTrue (is_some broken) ↔ BreaksSecond admitted event
second_by admitted event device None known what = (λ t. absurd cc, λ v. let e = (known v.broken).1 v.is_broken in absurd cc)
second_by admitted event device (Some b) known what = (λ t. record { device = device; broken = b; breaks = what; is_broken = (known b).0 refl }, λ v. refl)

module _ (network : Network) (admitted : List Event) (event : Event) where
  -- a cut is one of the other channel where the link's channel is not the faulty one
  pub cut_by : (link : LinkId) (way : Way) (faulty found : Option Channel)
      → ((c : Channel) → (faulty ≡ Some c) ↔ IsFaulty network admitted c)
      → ((c : Channel) → (found ≡ Some c) ↔ IsLinkOf network c link) → event.what ≡ Cut link way
      → IsSomeAnd faulty (λ f. IsSomeAnd found (λ c. f ≢ c)) ↔ CutsOtherChannel network admitted event
  cut_by link way None found known on what = (λ t. absurd t, λ v. let e = (known v.faulty).1 v.is_faulty in absurd cc)
  cut_by link way (Some f) None known on what = (
    λ t. absurd t,
    λ v.
        let same : v.link ≡ link = cc in
        let e = (on v.channel).1 (subst (IsLinkOf network v.channel) same v.on) in
        absurd cc,
  )
  cut_by link way (Some f) (Some c) known on what = (
    λ other. record { link = link; way = way; channel = c; faulty = f; what = what; on = (on c).0 refl; is_faulty = (known f).0 refl; other = other },
    λ v e.
        let same : v.link ≡ link = cc in
        let on_it = (on v.channel).1 (subst (IsLinkOf network v.channel) same v.on) in
        let faulty_it = (known v.faulty).1 v.is_faulty in
        let one : v.faulty ≡ v.channel = cc in
        v.other one,
  )

  -- a break leaves too few where the masters that it leaves are fewer than enough
  pub few_by : (device : DeviceId) (count : ℕ) → count ≡ sound_masters network (admitted ++ event ∷ [])
      → event.what ≡ Break device → IsTrue (nat_lt count network.sync_threshold) ↔ LeavesTooFew network admitted event
  few_by device count same what = (
    λ t. record { device = device; breaks = what; few = rw (← same) (ltb-true count network.sync_threshold t) },
    λ v. lt-ltb count network.sync_threshold (rw same v.few),
  )

-- a device is broken where it is the one that is known to be
pub broken_by : (admitted : List Event) (device : DeviceId) (broken : Option DeviceId) → ((d : DeviceId) → (broken ≡ Some d) ↔ IsBroken admitted d)
    → (answer : Bool) → (IsTrue answer ↔ (broken ≡ Some device)) → IsTrue answer ↔ IsBroken admitted device
broken_by admitted device broken known answer tells = (λ t. (known device).0 (tells.0 t), λ b. tells.1 ((known device).1 b))

-- a send is one for a device that is not broken where the child of its link is not
pub sends_by : (network : Network) (admitted : List Event) (event : Event) (link : LinkId) (octets : List ℕ) (found : Link) → event.what ≡ Send link octets
    → link_at network link ≡ Some found → (broken : Bool) → (IsTrue broken ↔ IsBroken admitted found.child)
    → IsTrue (not broken) ↔ SendsUnbroken network admitted event
sends_by network admitted event link octets found what at true tells = (
  λ t. absurd cc,
  λ v.
      let same : v.link ≡ link = cc in
      absurd (v.unbroken (rw (ap (link_at network) same ∙ at) (tells.0 refl))),
)
sends_by network admitted event link octets found what at false tells = (
  λ t. record { link = link; octets = octets; what = what; unbroken = λ h. let e = tells.1 (rw at at h) in absurd cc },
  λ v. refl,
)

-- ---- what a watch keeps stands so behind one more event

-- one more event of the network
pub all_of_network : (network : Network) (admitted : List Event) (event : Event) → AreOfNetwork network admitted → IsOfNetwork network event.what
    → AreOfNetwork network (admitted ++ event ∷ [])
all_of_network network [] event all here zero d within = here
all_of_network network [] event all here (suc k) d within = absurd (omega arith)
all_of_network network (x ∷ xs) event all here zero d within = all zero d (omega arith)
all_of_network network (x ∷ xs) event all here (suc k) d within =
    all_of_network network xs event (λ i e lt. all (suc i) e (omega arith)) here k d (omega arith)

-- what a watch knows of the broken device
abbrev pub KnowsBroken : List Event → Option DeviceId → Type 0
KnowsBroken events broken = (d : DeviceId) → (broken ≡ Some d) ↔ IsBroken events d

-- where the event breaks nothing, the broken device is as it was
pub broken_stays : (admitted : List Event) (event : Event) (broken : Option DeviceId) → ((d : DeviceId) → Breaks d event → ⊥) → KnowsBroken admitted broken
    → KnowsBroken (admitted ++ event ∷ []) broken
broken_stays admitted event broken none known = λ d. (
  λ e. any_left (Breaks d) admitted event ((known d).0 e),
  λ h. elim (any_parts (Breaks d) admitted event h) [ inl a ↦ (known d).1 a | inr b ↦ absurd (none d b) ],
)

-- a break within the hypothesis is the first
pub broken_breaks : (network : Network) (admitted : List Event) (event : Event) (device : DeviceId) (broken : Option DeviceId)
    → IsWithinHypothesis network admitted event → event.what ≡ events.Break device → KnowsBroken admitted broken
    → KnowsBroken (admitted ++ event ∷ []) (Some device)
broken_breaks network admitted event device broken within what known = λ d. (
  λ e. any_last (Breaks d) admitted event (what ∙ ap (λ o. events.Break o) cc),
  λ h. elim (any_parts (Breaks d) admitted event h) [
    | inl a ↦ absurd (within SecondBreak (record { device = device; broken = d; breaks = what; is_broken = a }))
    | inr b ↦ cc
  ],
)

-- what a watch knows of the devices that were turned on
abbrev pub KnowsTurnedOn : Network → List Event → List Bool → Type 0
KnowsTurnedOn network events on = (d : DeviceId) → HasDevice network d → (slice_get on d.0 ≡ Some true) ↔ IsTurnedOn events d

-- where the event turns nothing on, these devices are as they were
pub on_stays : (network : Network) (admitted : List Event) (event : Event) (on : List Bool) → ((d : DeviceId) → TurnsOn d event → ⊥)
    → KnowsTurnedOn network admitted on → KnowsTurnedOn network (admitted ++ event ∷ []) on
on_stays network admitted event on none known = λ d has. (
  λ e. any_left (TurnsOn d) admitted event ((known d has).0 e),
  λ h. elim (any_parts (TurnsOn d) admitted event h) [ inl a ↦ (known d has).1 a | inr b ↦ absurd (none d b) ],
)

get_set_same : (xs : List Bool) (i : ℕ) (x : Bool) → i < length xs → slice_get (slice_set xs i x) i ≡ Some x
get_set_same [] i x within = absurd (omega arith)
get_set_same (y ∷ ys) zero x within = refl
get_set_same (y ∷ ys) (suc i) x within = get_set_same ys i x (omega arith)

get_set_other : (xs : List Bool) (i j : ℕ) (x : Bool) → (i ≡ j → ⊥) → slice_get (slice_set xs i x) j ≡ slice_get xs j
get_set_other [] i j x other = refl
get_set_other (y ∷ ys) zero zero x other = absurd (other refl)
get_set_other (y ∷ ys) zero (suc j) x other = refl
get_set_other (y ∷ ys) (suc i) zero x other = refl
get_set_other (y ∷ ys) (suc i) (suc j) x other = get_set_other ys i j x (λ e. other (rw e))

-- the event turns one more device on
pub on_turns : (network : Network) (admitted : List Event) (event : Event) (device : DeviceId) (on : List Bool) → length network.device ≤ length on
    → HasDevice network device → event.what ≡ events.On device → KnowsTurnedOn network admitted on
    → KnowsTurnedOn network (admitted ++ event ∷ []) (slice_set on device.0 true)
on_turns network admitted event device on room there what known = λ d has.
    let here : device.0 ≡ d.0 → IsTurnedOn (admitted ++ event ∷ []) d =
    λ same. any_last (TurnsOn d) admitted event (what ∙ (rw (same_device device d same))) in
    elim (cases_order device.0 d.0) [
      | inl same ↦ (
        λ e. here same,
        λ h. rw (← same) (get_set_same on device.0 true (omega arith)),
      )
      | inr other ↦
          let differ : device.0 ≡ d.0 → ⊥ = λ e. elim other [
            | inl lt ↦ absurd (omega arith)
            | inr gt ↦
                absurd (omega arith)
          ] in
          let kept = get_set_other on device.0 d.0 true differ in (
            λ e. any_left (TurnsOn d) admitted event ((known d has).0 (sym kept ∙ e)),
            λ h. elim (any_parts (TurnsOn d) admitted event h) [
              | inl a ↦ kept ∙ (known d has).1 a
              | inr b ↦ let one : device ≡ d = cc in absurd (differ (ap (λ x. x.0) one))
            ],
          )
    ]

-- none was turned on before any event
pub none_on : (network : Network) (size : ℕ) → KnowsTurnedOn network [] (replicate size false)
none_on network size = λ d has. (
  λ e.
      let within = slice_get_within (replicate size false) d.0 true e in
      let here = get_or_from_slice_get (replicate size false) d.0 true true e in
      let there = get_or-replicate size d.0 false true (omega (arith, length-replicate size false)) in
      absurd cc,
  λ h. absurd (any_none (TurnsOn d) h),
)

-- ---- how many masters are left behind a break

-- what breaks the device at a place is a break of it
breaks_it : (place : ℕ) (what : What) → breaks_at place what ≡ true → (device : DeviceId) × (what ≡ events.Break device) × ((device.0 == place) ≡ true)
breaks_it place (events.Break device) h = (device, refl, h)
breaks_it place other h = absurd cc

-- the events break the device at a place where it is the broken one
broken_at : (admitted : List Event) (broken : Option DeviceId) → ((d : DeviceId) → (broken ≡ Some d) ↔ IsBroken admitted d) → (place : ℕ)
    → list_any (λ e. breaks_at place e.what) admitted ≡ option_map_or (λ b. b.0 == place) broken false
broken_at admitted broken known place =
    same_tests (list_any (λ e. breaks_at place e.what) admitted) (option_map_or (λ b. b.0 == place) broken false)
    (λ t.
    let a = Any-from_list_any (λ e. breaks_at place e.what) admitted t in
    let h = breaks_it place a.1.what a.4 in
    rw ((known h.0).1 (a.0, a.1, a.2, a.3, h.1)) h.2)
    (elim broken as (λ o. ((d : DeviceId) → (o ≡ Some d) ↔ IsBroken admitted d) → option_map_or (λ b. b.0 == place) o false ≡ true
    → list_any (λ e. breaks_at place e.what) admitted ≡ true) [
      | None ↦ λ knows t. absurd cc
      | Some b ↦ λ knows t.
          let a = (knows b).0 refl in
          list_any-from_Any (λ e. breaks_at place e.what) admitted (a.0, a.1, a.2, a.3, ap (breaks_at place) a.4 ∙ t)
    ] known)

neither : (m p q : Bool) → (m && not p && not q) ≡ (m && not (p || (q || false)))
neither true true true = refl
neither true true false = refl
neither true false true = refl
neither true false false = refl
neither false p q = refl

same_count : {X : Type 0} (p q : X → Bool) → ((x : X) → p x ≡ q x) → (xs : List X) → count_by p xs ≡ count_by q xs
same_count p q same [] = refl
same_count p q same (x ∷ xs) =
    sum_by-cons (λ x. cond (p x) 1 0) x xs
    ∙ (rw (same x)
    ((rw (same_count p q same xs)
    (sym (sum_by-cons (λ x. cond (q x) 1 0) x xs)))))

-- the masters that a break leaves are those that are neither broken nor the device
pub left_by_break : (network : Network) (admitted : List Event) (event : Event) (device : DeviceId) (broken : Option DeviceId)
    → ((d : DeviceId) → (broken ≡ Some d) ↔ IsBroken admitted d) → event.what ≡ events.Break device
    → count_by (is_sound_beside broken device) (enumerate_from 0 network.device) ≡ sound_masters network (admitted ++ event ∷ [])
left_by_break network admitted event device broken known what =
    same_count (is_sound_beside broken device) (is_sound_master (admitted ++ event ∷ []))
    (λ placed.
    let any = list_any-append (λ e. breaks_at placed.0 e.what) admitted (event ∷ []) in
    let here = broken_at admitted broken known placed.0 in
    let last = ap (breaks_at placed.0) what in
    let join = neither (is_master placed.1.role && is_some placed.1.start) (option_map_or (λ b. b.0 == placed.0) broken false) (device.0 == placed.0) in
    cc)
    (enumerate_from 0 network.device)

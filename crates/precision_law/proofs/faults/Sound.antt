-- What is sound: enough good masters that began on, and a channel of which no way is cut.
use Rattle.std.proofs.{Common.filter_map, lemmas.Option.slice_get_within}
use Rattle.precision_law.proofs.{Plain.{any_is, any_of_in, le_by, some_if}}
use Rattle.precision_law.proofs.{faults.Masters.{broke_by, one_bad, one_member}, records.Points.last_in}
use Rattle.precision_law.proofs.{trips.Legs.{master_member, no_earlier}}
use Rattle.precision_law.proofs.words.Laws
use Laws.{EnoughMasters, IsBad, IsFirstMaster, IsGood, IsView, SoundSwitchesBeginOn, SoundWaysAreWhole, View}
use Rattle.precision_law.proofs.words.Plans
use Plans.{A, B, Channel, Device, DeviceId, Event, HasOffSwitch, IsMember, IsSwitchOf, Joints, Link, LinkId, Masters}
use Plans.{Members, Way, What, amount, closed, count_of, device_at, is_master, link_at, none, opened, single, union}
use Rattle.precision_law.proofs.words.Runs
use Runs.{Breaks, Cuts, IsFaulty, IsIn, IsLinkOf, Scenario, TooFewMasters, any_of_none, any_parts, breaks_at, cut_set}
use Runs.{events_up_to, in_filter, in_left, in_right, is_broken, is_cut, is_sound_master, is_way_of, member_of, parted}
use Runs.{sound_masters}
use Rattle.precision_law.proofs.words.Std
use Std.{if◌then◌else◌, ◌&&◌, ◌++◌, ◌+◌, ◌/◌, ◌<◌, ◌∙◌, ◌∷◌, ◌≡◌, ◌≤◌, ◌⊎◌, Any, Bool, IsNone, List, None, Option, Some}
use Std.{[], and_parts, ap, append_assoc, arith, bit_at, bit_at-pow_other, bit_at-suc, bit_at-zero, bit_at_lowest}
use Std.{bit_at_or, both_ways, cases_eq, cond, count_by, count_ones, enumerate_from, eq-eqb, false, false_from_ne_true}
use Std.{filter, filter-append, inl, inr, ints, is_some, last_or, le-leb, leb-true, length, list_any, nat_le, not}
use Std.{not-true, ones_le_self, ones_step, option_map_or, refl, slice_get, subst, suc, sum_by-cons, sym, true}
use Std.{unwrap_or, zero, ℕ}
use Rattle.run_law.proofs.{law.FirstDeliveries.{given, same_way_link}, records.Order.{given_of, has_passed, in_any}}
use Rattle.sync_state.proofs.membership_lemmas.CountLemmas.{count_of-union_single}
use Rattle.net_plan.specs.declared.event.What.TheVariants as events
use Rattle.run_law.specs.declared.outside.Outside.TheVariants as outside

-- ---- enough masters began on and are good: bits

-- a number whose bits another one has has no more ones
ones_within : (d n m : ℕ) → n ≤ d → ((i : ℕ) → bit_at n i ≤ bit_at m i) → count_ones n ≤ count_ones m
ones_within zero n m small each = (let few = ones_le_self n in omega arith)
ones_within (suc d) n m small each =
    let halves = ones_within d (n / 2) (m / 2) (omega arith)
    (λ i. (let up = each (suc i) in let a = bit_at-suc n i in let b = bit_at-suc m i in omega arith)) in
    omega (arith, ones_step n, ones_step m, each 0, bit_at_lowest n, bit_at_lowest m)

-- a set within another has no more members
pub sets_within : (a b : Members) → ((i : ℕ) → IsMember i a → IsMember i b) → count_of a ≤ count_of b
sets_within a b each = grind (arith, ones_within, cases_eq, bit_at)

-- ---- the sound masters' members

-- a sound master's device, among those before a place
record IsSoundAt (v : View) (befallen : List Event) (i : ℕ) : Type 0 where
  pub device : DeviceId
  pub d : Device
  pub at : device_at v.scenario.network device ≡ Some d
  pub sound : is_sound_master befallen (device.0, d) ≡ true
  pub is_member : member_of v.scenario.network device ≡ Some i

-- all members so far are those of devices before the place
abbrev AreBelow : View → List Event → ℕ → Members → Type 0
AreBelow v befallen place set = (i : ℕ) → IsMember i set → (s : IsSoundAt v befallen i) × (s.device.0 < place)

-- a set of so many members, each that of a sound master
abbrev HasSound : View → List Event → ℕ → Type 0
HasSound v befallen n = (set : Members) × (count_of set ≡ n) × ((i : ℕ) → IsMember i set → IsSoundAt v befallen i)

grow : {v : View} (befallen : List Event) (xs : List Device) (k : ℕ) (set : Members) → IsView v
    → ((j : ℕ) (d : Device) → slice_get xs j ≡ Some d → slice_get v.scenario.network.device (k + j) ≡ Some d)
    → AreBelow v befallen k set
    → HasSound v befallen (count_of set + count_by (is_sound_master befallen) (enumerate_from k xs))
grow befallen [] k set is there below = (set, omega arith, λ i m. (below i m).0)
grow {v} befallen (d ∷ xs) k set is there below =
    let test = is_sound_master befallen (k, d) in
    let here : slice_get v.scenario.network.device k ≡ Some d =
    (let same : k + 0 ≡ k = omega arith in rw same at (there 0 d refl)) in
    let later : (j : ℕ) (e : Device) → slice_get xs j ≡ Some e → slice_get v.scenario.network.device ((k + 1) + j) ≡ Some e = λ j e at.
    (let same : k + suc j ≡ (k + 1) + j = omega arith in rw same at (there (suc j) e at)) in
    let old : AreBelow v befallen (k + 1) set = λ i m. (let b = below i m in let lt = b.1 in (b.0, omega arith)) in
    let counts = sum_by-cons (λ x. cond (is_sound_master befallen x) 1 0) (k, d) (enumerate_from (k + 1) xs) in
    elim test as (λ b. test ≡ b → HasSound v befallen (count_of set + count_by (is_sound_master befallen) (enumerate_from k (d ∷ xs)))) [
      | false ↦ λ e.
          let r = grow befallen xs (k + 1) set is later old in
          (r.0, omega (arith, r.1, ap (λ (b : Bool). let n : ℕ = cond b 1 0 in n) e), r.2)
      | true ↦ λ e.
          let role = (and_parts (is_master d.role) (is_some d.start)
          (and_parts (is_master d.role && is_some d.start) (not (list_any (λ e. breaks_at k e.what) befallen)) e).0).0 in
          let m = master_member (record { 0 = k }) is
          (rw here role) in
          let new : IsMember m.0 set → ⊥ = λ old.
          let b = below m.0 old in
          let place : b.0.device.0 ≡ k =
          rw (one_member b.0.device (record { 0 = k }) m.0 is b.0.is_member m.1) in
          absurd (omega (arith, b.1)) in
          let r = grow befallen xs (k + 1) (union (single m.0) set) is later (λ i j. elim (cases_eq i m.0) [
            | inl same ↦ (
              record {
                device = record { 0 = k };
                d = d;
                at = here;
                sound = e;
                is_member =
                    m.1 ∙ ap (λ x. Some x) (sym same);
              },
              omega arith,
            )
            | inr other ↦ old i (omega (arith, bit_at_or (single m.0).0 set.0 i, bit_at-pow_other m.0 i other))
          ]) in (
            r.0,
            omega (arith, r.1, ap (λ (b : Bool). let n : ℕ = cond b 1 0 in n) e, count_of-union_single m.0 set new),
            r.2,
          )
    ] refl

-- a set that has all first masters has as many members as there are sound masters, where these are good
enough_by : {v : View} (befallen : List Event) (members : Members) → IsView v
    → ((device : DeviceId) (i : ℕ) → IsFirstMaster v device → member_of v.scenario.network device ≡ Some i
    → IsMember i members) → ((device : DeviceId) (d : Device) → device_at v.scenario.network device ≡ Some d
    → list_any (λ e. breaks_at device.0 e.what) befallen ≡ false → IsGood v device)
    → sound_masters v.scenario.network befallen ≤ count_of members
enough_by {v} befallen members is all good =
    let r = grow befallen v.scenario.network.device 0 none is (λ j d at.
    let same : j ≡ 0 + j = omega arith in
    rw same at at) (λ i m. (let z = bit_at-zero i in absurd (omega arith))) in
    let empty : count_of none ≡ 0 = (let le = ones_le_self 0 in omega arith) in
    omega (arith, r.1, sets_within r.0 members (λ i m. is_first i (r.2 i m)))
  where
    is_first : (i : ℕ) → IsSoundAt v befallen i → IsMember i members
    is_first i s = grind (arith, and_parts, is_master, is_some, not, list_any, breaks_at, option_map_or, closed, device_at, not-true)

-- ---- the masters that begin on

-- with no events, the sound masters are those of the masters that begin on
none_befell : (xs : List Device) (k : ℕ) → count_by (is_sound_master []) (enumerate_from k xs) ≡ count_by (λ d. is_some d.start)
    (filter (λ d. is_master d.role) xs)
none_befell [] k = refl
none_befell (d ∷ xs) k =
    let more = none_befell xs (k + 1) in
    let a = sum_by-cons (λ (x : ℕ × Device). cond (is_sound_master [] x) 1 0) (k, d) (enumerate_from (k + 1) xs) in
    let c = sum_by-cons (λ (x : Device). cond (is_some x.start) 1 0) d (filter (λ d. is_master d.role) xs) in
    let counts = λ (s : Bool). let n : ℕ = cond s 1 0 in n in
    elim (is_master d.role) as (λ m. is_master d.role ≡ m → count_by (is_sound_master []) (enumerate_from k (d ∷ xs)) ≡ count_by (λ d. is_some d.start)
    (if m then d ∷ filter (λ d. is_master d.role) xs else filter (λ d. is_master d.role) xs)) [
      | false ↦ λ e. (let none : cond (is_sound_master [] (k, d)) 1 0 ≡ 0 = ap (λ (b : Bool). counts (b && is_some d.start && true)) e in
          omega (arith, none))
      | true ↦ λ e.
          let both = elim (is_some d.start) as (λ s. (s && true) ≡ s) [ true ↦ refl | false ↦ refl ] in
          let one : cond (is_sound_master [] (k, d)) 1 0 ≡ cond (is_some d.start) 1 0 =
          ap (λ b. counts (b && is_some d.start && true)) e ∙ ap counts both in
          omega (arith, more, a, one, c)
    ] refl

-- a device is broken, or none is
some_bad : (v : View) (ds : List Device) (k : ℕ) → ((device : DeviceId) × IsBad v device) ⊎ ((i : ℕ) → k ≤ i → i < k + length ds → IsGood v (record { 0 = i }))
some_bad v [] k = inr (λ i from to. absurd (omega arith))
some_bad v (d ∷ ds) k =
    elim (is_broken v.scenario (record { 0 = k }) v.until) as (λ b. is_broken v.scenario (record { 0 = k }) v.until ≡ b
    → ((device : DeviceId) × IsBad v device) ⊎ ((i : ℕ) → k ≤ i → i < k + length (d ∷ ds) → IsGood v (record { 0 = i }))) [
      | true ↦ λ e. inl (record { 0 = k }, e)
      | false ↦ λ e. elim (some_bad v ds (k + 1)) [
        | inl found ↦ inl found
        | inr all ↦ inr (λ i from to. elim (cases_eq i k) [
          | inl same ↦ rw same e
          | inr other ↦ all i (omega arith) (omega arith)
        ])
      ]
    ] refl

pub enough_masters : EnoughMasters
enough_masters v members is all =
    let n = v.scenario.network in
    elim (some_bad v n.device 0) [
      | inr good ↦
          let enough = enough_by [] members is all (λ device d at none_breaks.
          good device.0 (omega arith) (omega (arith, slice_get_within n.device device.0 d at))) in
          omega (arith, (is.lawful.rules Masters 3).begin_on refl, none_befell n.device 0)
      | inl bad ↦
          let b = broke_by v bad.0 bad.1 in
          let at = parted b.event v.scenario.events b.there in
          let befallen = at.0 ++ b.event ∷ [] in
          let enough = enough_by befallen members is all
          (λ device d place none_breaks. spared v bad.0 b.event at.0 device is bad.1 b.breaks none_breaks) in
          let many =
          le_by (λ few. is.lawful.within at.0 at.1 b.event at.2 TooFewMasters (record { device = bad.0; breaks = b.breaks; few = few })) in
          omega arith
    ]
  where
    spared : (v : View) (broken : DeviceId) (e : Event) (before : List Event) (device : DeviceId) → IsView v → IsBad v broken → Breaks broken e
        → list_any (λ x. breaks_at device.0 x.what) (before ++ e ∷ []) ≡ false → IsGood v device
    spared v broken e before device is bad breaks none_breaks =
        false_from_ne_true (is_broken v.scenario device v.until) (λ bad'.
        let same = one_bad v broken device is bad bad' in
        let hit : breaks_at device.0 e.what ≡ true = ap (breaks_at device.0) breaks ∙ eq-eqb broken.0 device.0
        (rw (sym same)) in
        both_ways (list_any (λ x. breaks_at device.0 x.what) (before ++ e ∷ [])) none_breaks
        (in_any (λ x. breaks_at device.0 x.what) (before ++ e ∷ []) e (in_right e before (e ∷ []) (inl refl)) hit))

-- ---- the sound channel: no way of its links is cut, and its switches begin on: switches

pub sound_switches_begin_on : SoundSwitchesBeginOn
sound_switches_begin_on v device is switch =
    let n = v.scenario.network in
    let d = opened (λ x. x.channel ≡ Some v.channel) (device_at n device) switch in
    closed (λ x. IsNone x.start → ⊥) (device_at n device) d.0 d.1
    (λ none. is.sound (inl (
      device,
      closed (λ x. (x.channel ≡ Some v.channel) × IsNone x.start) (device_at n device) d.0
          d.1 (d.2, none),
    )))

-- ---- cuts

-- the first cut of some events
data FirstCut (es : List Event) : Type 0 where
  uncut : ((link : LinkId) → Any (Cuts link) es → ⊥) → FirstCut es
  cut_at : (before behind : List Event) (e : Event) (link : LinkId) → es ≡ before ++ e ∷ behind → Cuts link e → ((l : LinkId) → Any (Cuts l) before → ⊥)
      → FirstCut es

not_cut : (e : Event) {es : List Event} → ((link : LinkId) → Cuts link e → ⊥) → FirstCut es → FirstCut (e ∷ es)
not_cut e {es} never (uncut none) = uncut (λ link any. elim (any_parts (Cuts link) e es
    any) [ inl here ↦ never link here | inr later ↦ none link later ])
not_cut e never (cut_at before behind c link whole cuts none) =
    cut_at (e ∷ before) behind c link (rw whole) cuts
    (λ l any. elim (any_parts (Cuts l) e before any) [ inl here ↦ never l here | inr later ↦ none l later ])

first_cut : (es : List Event) → FirstCut es
first_cut [] = uncut (λ link any. any_of_none (Cuts link) any)
first_cut (e ∷ es) = by e.what refl (first_cut es)
  where
    by : (what : What) → e.what ≡ what → FirstCut es → FirstCut (e ∷ es)
    by (events.Cut link way) same more = cut_at [] es e link refl (way, same) (λ l any. any_of_none (Cuts l) any)
    by what same more =
        not_cut e (λ l cuts. (let wrong = sym same ∙ cuts.1 in absurd cc)) more

-- a way is cut by an event
cut_by : (s : Scenario) (link : LinkId) (way : Way) (t : ℕ) → is_cut s link way t ≡ true → (e : Event) × IsIn e (events_up_to s t) × Cuts link e
cut_by s link way t cut =
    let sets = λ (e : Event). cut_set link way e.what in
    elim (last_in None (filter_map sets (events_up_to s t)) true (some_true (last_or None (filter_map sets (events_up_to s t))) cut)) [
      | inl none ↦ absurd cc
      | inr i ↦
          let made = given_of sets (events_up_to s t) true i in
          (made.0, made.1, set_by made.0 made.0.what refl made.2)
    ]
  where
    some_true : (o : Option Bool) → unwrap_or o false ≡ true → o ≡ Some true
    some_true None e = absurd cc
    some_true (Some b) e = rw e

    set_by : (e : Event) (what : What) → e.what ≡ what → cut_set link way what ≡ Some true → Cuts link e
    set_by e (events.Cut other turned) same set =
        let one = same_way_link link other way turned (some_if (is_way_of link way other turned) true true set).0 in
        (turned, same ∙ ap (λ l. events.Cut l turned) one)
    set_by e (events.Heal other turned) same set = (let wrong : false ≡ true = (some_if (is_way_of link way other turned) false true set).1 in absurd cc)
    set_by e what same set = absurd cc

same_or_not : (c d : Channel) → (c ≡ d) ⊎ (c ≡ d → ⊥)
same_or_not A B = inr (λ e. absurd cc)
same_or_not B A = inr (λ e. absurd cc)
same_or_not c d = inl refl

-- a link that an event cuts is of a channel
channel_cut : {v : View} (e : Event) (link : LinkId) → IsView v → IsIn e v.scenario.events → Cuts link e
    → (channel : Channel) × IsLinkOf v.scenario.network channel link
channel_cut {v} e link is i cuts =
    let l = there_within v.scenario.network.link link.0 (is.lawful.named e link i cuts) in
    let joint = is.lawful.rules Joints link.0 l.0 l.1 in (
      joint.0,
      closed (λ k. IsSwitchOf v.scenario.network joint.0 k.parent) (link_at v.scenario.network link) l.0 l.1
          joint.1,
    )
  where
    there_within : (xs : List Link) (i : ℕ) → i < length xs → (x : Link) × (slice_get xs i ≡ Some x)
    there_within [] i lt = absurd (omega arith)
    there_within (x ∷ xs) zero lt = (x, refl)
    there_within (x ∷ xs) (suc i) lt = there_within xs i (omega arith)

-- where no switch begins off, the first cut is not of the sound channel
sound_cut : {v : View} (before behind : List Event) (e : Event) (link : LinkId) → IsView v
    → v.scenario.events ≡ before ++ e ∷ behind → amount e.time ≤ v.until → Cuts link e
    → IsLinkOf v.scenario.network v.channel link → ((c : Channel) → HasOffSwitch v.scenario.network c → ⊥)
    → ((l : LinkId) → Any (Cuts l) before → ⊥) → ⊥
sound_cut {v} before behind e link is whole early cuts of_channel on none =
    let p = λ (x : Event). nat_le (amount x.time) v.until in
    is.sound (inr (
      on,
      record {
        before = filter p before;
        cut = e;
        behind = filter p behind;
        order = ap (filter p) whole ∙ filter-append p before (e ∷ behind)
            ∙ ap (λ b. filter p before ++ (if b then e ∷ filter p behind else filter p behind))
            (le-leb (amount e.time) v.until early);
        none_before = λ l any. (let x = any_is (Cuts l) (filter p before) any in none l (any_of_in (Cuts l) x.0 before (in_filter p before x.0 x.1) x.2));
        cuts = (link, cuts, of_channel);
      },
    ))

module _ (v : View) (link : LinkId) (e : Event) (before behind : List Event) (is : IsView v) (of_channel : IsLinkOf v.scenario.network v.channel link)
    (whole : v.scenario.events ≡ before ++ e ∷ behind) (cuts : Cuts link e) where
  -- a channel other than the sound one that is faulty forbids a cut of the sound one
  other_faulty : (faulty : Channel) → IsFaulty v.scenario.network before faulty → (faulty ≡ v.channel → ⊥) → ⊥
  other_faulty faulty bad other =
      is.lawful.within before behind e whole outside.Channel
      (record { link = link; way = cuts.0; channel = v.channel; faulty = faulty; what = cuts.1; on = of_channel; is_faulty = bad; other = other })

  -- where a switch begins off, its channel is the faulty one
  none_off : (c : Channel) → HasOffSwitch v.scenario.network c → ⊥
  none_off c off = elim (same_or_not c v.channel) [
    | inl same ↦ is.sound (inl (subst (HasOffSwitch v.scenario.network) same off))
    | inr other ↦ other_faulty c (inl off) other
  ]

  -- where none does, it is that of the first cut
  never_cut : amount e.time ≤ v.until → FirstCut before → ⊥
  never_cut early (uncut none) = sound_cut before behind e link is whole early cuts of_channel none_off none
  never_cut early (cut_at b m c l split cuts_c none) =
      let in_before : IsIn c before = subst (IsIn c) (sym split) (in_right c b (c ∷ m) (inl refl)) in
      let in_all : IsIn c v.scenario.events = subst (IsIn c) (sym whole) (in_left c before (e ∷ behind) in_before) in
      let order = no_earlier v.scenario.network v.scenario.events before behind c e is.lawful.within whole in_before in
      let of_c = channel_cut c l is in_all cuts_c in
      elim (same_or_not of_c.0 v.channel) [
        | inl same ↦
            let parts = whole ∙ ap (λ t. t ++ e ∷ behind) split ∙ append_assoc b (c ∷ m) (e ∷ behind) in
            sound_cut b (m ++ e ∷ behind) c l is parts (omega
            (arith, ints, (given v.scenario c is.lawful in_all).range.time)) cuts_c
            (rw same at of_c.1) none_off none
        | inr other ↦ other_faulty of_c.0
            (inr (none_off, record { before = b; cut = c; behind = m; order = split; none_before = none; cuts = (l, cuts_c, of_c.1) })) other
      ]

pub sound_ways_are_whole : SoundWaysAreWhole
sound_ways_are_whole v link way t is of_channel le =
    false_from_ne_true (is_cut v.scenario link way t) (λ cut.
    let by_event = cut_by v.scenario link way t cut in
    let e = by_event.0 in
    let test = leb-true (amount e.time) t (has_passed (λ x. nat_le (amount x.time) t) v.scenario.events e by_event.1) in
    let at = parted e v.scenario.events (in_filter (λ x. nat_le (amount x.time) t) v.scenario.events e by_event.1) in
    never_cut v link e at.0 at.1 is of_channel at.2 by_event.2 (omega arith) (first_cut at.0))

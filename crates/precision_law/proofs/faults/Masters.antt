-- What the fault hypothesis leaves: one broken master at most, and one member number for each.
use Rattle.net_plan.proofs.SameIds.{same_device}
use Rattle.precision_law.proofs.{Plain.{any_of_in, reached}}
use Rattle.precision_law.proofs.words.{Laws.{GoodIsCorrect, IsBad, IsView, OneChannelIsSound, SwitchesAreGood, View}}
use Rattle.precision_law.proofs.words.Plans
use Plans.{A, B, Channel, Device, DeviceId, Event, HasOffSwitch, IsDeviceInRange, LinkId, Masters, Network, What}
use Plans.{all_at, amount, device_at, is_end_system, is_master, link_at, opened}
use Rattle.precision_law.proofs.words.Runs
use Runs.{Breaks, Cuts, IsFaulty, IsIn, IsLinkOf, NotMaster, SecondBreak, any_first, any_later, breaks_at, events_up_to}
use Runs.{in_filter, in_parts, in_right, is_broken, is_faulty, member_of, parted, same_some}
use Rattle.precision_law.proofs.words.Std
use Std.{if◌then◌else◌, ◌++◌, ◌<◌, ◌∙◌, ◌∷◌, ◌≡◌, ◌≤◌, Any, Bool, IsSomeAnd, List, Some, [], ap, append_assoc, arith}
use Std.{both_ways, cases_eq, cases_lt, eqb-true, false, false_from_ne_true, filter, inl, inr, is_some, le-leb}
use Std.{leb-true, nat_le, not_from_true, refl, slice_get, subst, suc, sym, true, zero, ℕ}
use Rattle.run_law.proofs.records.{Members.in_kept, Order.{any_in, has_passed, in_any}}
use Rattle.schedule_tables.proofs.Margins.{master_ends}
use Rattle.net_plan.specs.declared.event.What.TheVariants as events

-- ---- what the fault hypothesis leaves: broken devices

-- an event that breaks a device at a place
pub breaks_it : (place : ℕ) (what : What) → breaks_at place what ≡ true → (d : DeviceId) × (what ≡ events.Break d) × (d.0 ≡ place)
breaks_it place (events.Break d) e = (d, refl, eqb-true d.0 place e)
breaks_it place other e = absurd cc

-- a broken device is a master
pub bad_is_master : {v : View} (device : DeviceId) → IsView v → IsBad v device
    → (IsSomeAnd (device_at v.scenario.network device) (λ d. is_master d.role ≡ true) → ⊥) → ⊥
bad_is_master {v} device is bad no_master =
    let found = any_in (λ e. breaks_at device.0 e.what) (events_up_to v.scenario v.until) bad in
    let breaks = breaks_it device.0 found.0.what found.2 in
    let same = same_device breaks.0 device breaks.2 in
    let at = parted found.0 v.scenario.events (in_filter (λ e. nat_le (amount e.time) v.until) v.scenario.events found.0 found.1) in
    is.lawful.within at.0 at.1 found.0 at.2 NotMaster (record { device = device; breaks = breaks.1 ∙ ap events.Break same; no_master = no_master })

pub switches_are_good : SwitchesAreGood
switches_are_good v channel device is switch =
    false_from_ne_true (is_broken v.scenario device v.until) (λ bad. bad_is_master device is bad (λ master.
    let d = opened (λ x. x.channel ≡ Some channel) (device_at v.scenario.network device) switch in
    let m = opened (λ x. is_master x.role ≡ true) (device_at v.scenario.network device) master in
    let known = all_at IsDeviceInRange v.scenario.network.device device.0 d.0 is.lawful.range.devices d.1 in
    let ends = master_ends d.0.role (rw (sym (same_some (device_at v.scenario.network device) m.0 d.0 m.1 d.1)) m.2) in
    both_ways (is_some d.0.channel) (known.switches ∙ not_from_true (is_end_system d.0.role) ends) (rw d.2)))

pub good_is_correct : GoodIsCorrect
good_is_correct v device t good le =
    grind (
      arith,
      false_from_ne_true,
      is_broken,
      any_in,
      breaks_at,
      events_up_to,
      nat_le,
      amount,
      leb-true,
      has_passed,
      in_kept,
      in_filter,
      le-leb,
      both_ways,
      in_any,
    )

-- ---- channels

-- the first cut of a list is one
first_cut_is_one : (before before' behind behind' : List Event) (cut cut' : Event) (link link' : LinkId) → before ++ cut ∷ behind ≡ before' ++ cut' ∷ behind'
    → Cuts link cut → Cuts link' cut' → ((l : LinkId) → Any (Cuts l) before → ⊥) → ((l : LinkId) → Any (Cuts l) before' → ⊥) → cut ≡ cut'
first_cut_is_one [] [] behind behind' cut cut' link link' e a b none none' = cc
first_cut_is_one [] (x ∷ before') behind behind' cut cut' link link' e a b none none' =
    let same : cut ≡ x = cc in
    absurd (none' link (any_first (Cuts link) x before' (subst (Cuts link) same a)))
first_cut_is_one (x ∷ before) [] behind behind' cut cut' link link' e a b none none' =
    let same : cut' ≡ x = cc in
    absurd (none link' (any_first (Cuts link') x before (subst (Cuts link') same b)))
first_cut_is_one (x ∷ before) (y ∷ before') behind behind' cut cut' link link' e a b none none' =
    let rest : before ++ cut ∷ behind ≡ before' ++ cut' ∷ behind' = cc in
    first_cut_is_one before before' behind behind' cut cut' link link' rest a b (λ l any. none l (any_later (Cuts l) x before any))
    (λ l any. none' l (any_later (Cuts l) y before' any))

-- a link is of one channel
pub link_of_one : (n : Network) (c d : Channel) (link : LinkId) → IsLinkOf n c link → IsLinkOf n d link → c ≡ d
link_of_one n c d link one other = grind (arith, opened, link_at, device_at, same_some)

-- no two channels are faulty
pub one_is_faulty : {n : Network} {es : List Event} {c d : Channel}
    → ((x y : Channel) → HasOffSwitch n x → HasOffSwitch n y → x ≡ y) → IsFaulty n es c → IsFaulty n es d → c ≡ d
one_is_faulty {c} {d} off (inl a) (inl b) = off c d a b
one_is_faulty {c} off (inl a) (inr b) = absurd (b.0 c a)
one_is_faulty {d} off (inr a) (inl b) = absurd (a.0 d b)
one_is_faulty {n} {c} {d} off (inr a) (inr b) =
    let x = a.1 in
    let y = b.1 in
    let same = first_cut_is_one x.before y.before x.behind y.behind x.cut y.cut x.cuts.0 y.cuts.0
    (sym x.order ∙ y.order) x.cuts.1 y.cuts.1
    x.none_before y.none_before in
    let mine = subst (Cuts x.cuts.0) same x.cuts.1 in
    let both = sym y.cuts.1.1 ∙ mine.1 in
    let link : y.cuts.0 ≡ x.cuts.0 = cc in
    link_of_one n c d x.cuts.0 x.cuts.2 (rw link at y.cuts.2)

pub one_channel_is_sound : OneChannelIsSound
one_channel_is_sound s t lawful =
    let es = events_up_to s t in
    elim (is_faulty s.network es A) [
      | inr sound ↦ (A, sound)
      | inl faulty ↦ (
        B,
        λ other. (let wrong = one_is_faulty ((lawful.rules Masters 5).one_faulty refl) faulty other in
            cc),
      )
    ]

-- ---- one master at most is broken, and no two masters have one member number: one breaks

-- an event by which a broken device broke
pub record BrokeBy (v : View) (device : DeviceId) : Type 0 where
  pub event : Event
  pub there : IsIn event v.scenario.events
  pub breaks : Breaks device event

pub broke_by : (v : View) (device : DeviceId) → IsBad v device → BrokeBy v device
broke_by v device bad =
    let s = v.scenario in
    let found = any_in (λ e. breaks_at device.0 e.what) (events_up_to s v.until) bad in
    let breaks = breaks_it device.0 found.0.what found.2 in
    let same = same_device breaks.0 device breaks.2 in
    record { event = found.0; there = in_filter (λ e. nat_le (amount e.time) v.until) s.events found.0 found.1; breaks = breaks.1 ∙ ap events.Break same }

pub one_bad : (v : View) (device other : DeviceId) → IsView v → IsBad v device → IsBad v other → other ≡ device
one_bad v device other is bad bad' =
    let a = broke_by v device bad in
    let b = broke_by v other bad' in
    let at = parted a.event v.scenario.events a.there in
    elim (in_parts b.event at.0 (a.event ∷ at.1) (subst (IsIn b.event) at.2 b.there)) [
      | inl before ↦ absurd (is.lawful.within at.0 at.1 a.event at.2 SecondBreak
          (record { device = device; broken = other; breaks = a.breaks; is_broken = any_of_in (Breaks other) b.event at.0 before b.breaks }))
      | inr (inl same) ↦ (let both = sym b.breaks ∙ ap (λ e. e.what) same ∙ a.breaks in cc)
      | inr (inr after) ↦
          let to = parted b.event at.1 after in
          let whole = at.2 ∙ ap (λ t. at.0 ++ a.event ∷ t) to.2 ∙ sym
          (append_assoc at.0 (a.event ∷ to.0) (b.event ∷ to.1)) in
          absurd (is.lawful.within (at.0 ++ a.event ∷ to.0) to.1 b.event whole SecondBreak
          (record {
            device = other;
            broken = device;
            breaks = b.breaks;
            is_broken = any_of_in (Breaks device) a.event (at.0 ++ a.event ∷ to.0) (in_right a.event at.0 (a.event ∷ to.0) (inl refl)) a.breaks;
          }))
    ]

-- ---- member numbers

-- where what passes a test stands among those that do
kept_place : {X : Type 0} (p : X → Bool) (xs : List X) (i : ℕ) (x : X) → slice_get xs i ≡ Some x → p x ≡ true → (j : ℕ) × (slice_get (filter p xs) j ≡ Some x)
kept_place p [] i x at pass = absurd cc
kept_place {X} p (z ∷ zs) zero x at pass =
    let same : z ≡ x = cc in
    (0, rw (ap p same ∙ pass) (ap (λ y. Some y) same))
kept_place p (z ∷ zs) (suc i) x at pass =
    let more = kept_place p zs i x at pass in
    elim (p z) as (λ b. (j : ℕ) × (slice_get (if b then z ∷ filter p zs else filter p zs) j ≡ Some x)) [ true ↦ (suc more.0, more.1) | false ↦ more ]

kept_pair : {X : Type 0} (p : X → Bool) (xs : List X) (i k : ℕ) (x y : X) → i < k → slice_get xs i ≡ Some x → slice_get xs k ≡ Some y → p x ≡ true → p y ≡ true
    → (j : ℕ) × (l : ℕ) × (j < l) × (slice_get (filter p xs) j ≡ Some x) × (slice_get (filter p xs) l ≡ Some y)
kept_pair p [] i k x y lt at to pass passed = absurd cc
kept_pair p (z ∷ zs) i zero x y lt at to pass passed = absurd (omega arith)
kept_pair {X} p (z ∷ zs) zero (suc k) x y lt at to pass passed =
    let same : z ≡ x = cc in
    let later = kept_place p zs k y to passed in
    let first : p z ≡ true = ap p same ∙ pass in (
      0,
      suc later.0,
      omega arith,
      rw first (ap (λ w. Some w) same),
      rw first later.1,
    )
kept_pair p (z ∷ zs) (suc i) (suc k) x y lt at to pass passed =
    let more = kept_pair p zs i k x y (omega arith) at to pass passed in
    elim (p z) as (λ b. (j : ℕ) × (l : ℕ) × (j < l) × (slice_get (if b then z ∷ filter p zs else filter p zs) j ≡ Some x)
    × (slice_get (if b then z ∷ filter p zs else filter p zs) l ≡ Some y)) [ true ↦ (suc more.0, suc more.1, omega arith, more.3, more.4) | false ↦ more ]

-- the device of a member number
pub record HasMember (v : View) (device : DeviceId) (m : ℕ) : Type 0 where
  pub d : Device
  pub at : device_at v.scenario.network device ≡ Some d
  pub member : d.member ≡ Some m
  pub master : is_master d.role ≡ true
  pub small : m ≤ 31

pub has_member : {v : View} (device : DeviceId) (m : ℕ) → IsView v → member_of v.scenario.network device ≡ Some m
    → HasMember v device m
has_member {v} device m is e =
    let d = reached (λ x. x.member) (device_at v.scenario.network device) m e in
    let known = all_at IsDeviceInRange v.scenario.network.device device.0 d.0 is.lawful.range.devices d.1 in
    record {
      d = d.0;
      at = d.1;
      member = d.2;
      master = sym known.masters ∙ ap is_some d.2;
      small = rw d.2 at known.member;
    }

pub one_member : {v : View} (a b : DeviceId) (m : ℕ) → IsView v → member_of v.scenario.network a ≡ Some m
    → member_of v.scenario.network b ≡ Some m → a ≡ b
one_member {v} a b m is of_a of_b =
    let x = has_member a m is of_a in
    let y = has_member b m is of_b in
    let differ = (is.lawful.rules Masters 1).members refl in
    let clash = λ (p q : DeviceId) (at_p : HasMember v p m) (at_q : HasMember v q m) (lt : p.0 < q.0).
    let k = kept_pair (λ d. is_master d.role) v.scenario.network.device p.0 q.0 at_p.d at_q.d lt at_p.at at_q.at
    at_p.master at_q.master in
    differ k.0 k.1 at_p.d at_q.d k.2 k.3 k.4 (at_p.member ∙ sym at_q.member) in
    elim (cases_eq a.0 b.0) [
      | inl same ↦ same_device a b same
      | inr other ↦ elim (cases_lt a.0 b.0) [
        | inl lt ↦ absurd (clash a b x y lt)
        | inr ge ↦
            absurd (clash b a y x (omega arith))
      ]
    ]

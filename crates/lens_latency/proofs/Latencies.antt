-- The comings of a network, part by part, and that the lines of `latency` hold in each run.
use Rattle.std.{specs.{List.{All, Contains}, Prelude.{slice_get, ℤ}}}
use Rattle.std.proofs.{Math.Nat.{le-max_left, le-max_right, min-le_left, min-le_right}}
use Rattle.std.proofs.Common
use Common.{◌++◌, ◌+◌, ◌-ℤ◌, ◌-◌, ◌<◌, ◌∙◌, ◌∷◌, ◌≡◌, ◌≤ℤ◌, ◌≤◌, List, None, Option, Some, [], ap, append_assoc, arith}
use Common.{false, inl, inr, length, max, min, pos, refl, subst, suc, sym, true, zero, ℕ}
use Rattle.std.proofs.lemmas.{Bool.{both_ways, cases_lt}, Int.ints, Option.{none-some, slice_get_within}}
use Rattle.std.proofs.lemmas.List.{append-nil}
use Rattle.std.proofs.lemmas.List.Elements
use Elements.{All-append, All-cons, All-nil, Contains-append_cases, Contains-append_left, Contains-append_right}
use Rattle.lens_latency.specs.{Answer.{IsLatencyOf, latency_answer}, Laws.{ComesAtItsPlace, ComesInItsTime, trip_by}}
use Rattle.lens_latency.specs.{Trips.{IsFirstOf, IsHop, IsTrip, trip_of}}
use Rattle.lens_latency.specs.{declared.{comings.Coming.Coming, trips.{Trip.Trip, TripEnd.TheVariants.{First, Last}}}}
use Rattle.lens_latency.specs.Comings.{AreComings, HasNames, InParts, IsComing, IsPartAt, IsPartOf, Pushes, some_coming}
use Rattle.net_plan.{proofs.Trees.{beta_exists, rules_give_trees}}
use Rattle.net_plan.specs.{Bounds.{IsBeta, beta_at}, Paths.IsUplink}
use Rattle.net_plan.specs.{Places.{IsEndSystem, IsSwitchOf, device_at, is_end_system, link_at}, Ranges.IsInRange}
use Rattle.net_plan.specs.declared.{ids.{DeviceId.DeviceId, VlId.VlId}, network.Network.Network}
use Rattle.net_plan.specs.declared.tables.{Device.Device, Link.Link, VirtualLink.VirtualLink}
use Rattle.net_plan.specs.declared.tables.{Way.{TheVariants.{Down, Up}, Way}}
use Rattle.precision_law.proofs.traffic_lemmas.{Safe.{frames_are_delivered, times_are_taken}}
use Rattle.precision_law.proofs.traffic_lemmas.{faults.Channels.switch_no_end, schedule.Rows.rows_go_once}
use Rattle.run_law.{proofs.scenario.Devices.end_test}
use Rattle.run_law.specs.{device.{LocalClocks.local_before, Standpoints.offset_in_cycle}}
use Rattle.run_law.specs.{records.Happenings.{happenings, time_of}, scenario.{Devices.is_end, Scenarios.is_broken}}
use Rattle.schedule_tables.{proofs.{Margins.shape_rules, SlotLemmas.one_entry}}
use Rattle.schedule_tables.specs.{Entries.{IsEntry, IsOnChannel, source_by, source_of, target_by, target_of}}
use Rattle.schedule_tables.specs.{Rules.KeepsRules, Schedule.EntersOn, Windows.{arrival_of, tolerance, window_end}}
use Rattle.schedule_tables.specs.declared.{entry.Entry.Entry}
use Rattle.schedule_tables.specs.declared.rule.Rule.TheVariants
use TheVariants.{BothChannels, Forwarding, Joints, Senders, Sources, Targets}
use Rattle.tte_forms.specs.Answering.{Answer}
use Rattle.tte_units.{proofs.general_lemmas.Options.{closed, one, one as same_some, opened}}
use Rattle.tte_units.{specs.declared.frames.channel.Channel.{Channel, TheVariants.{A, B}}}

-- ---- the first of a network's rows for which something holds

-- it holds for no row below this number
abbrev pub NoneBelow : Network → (Entry → Type 0) → ℕ → Type 0
NoneBelow network Has n = (k : ℕ) (entry : Entry) → k < n → IsEntry network k entry → Has entry → ⊥

pub none_first : (network : Network) (Has : Entry → Type 0) → NoneBelow network Has 0
none_first network Has k entry lt is has = absurd (omega (arith, lt))

pub none_next : {network : Network} (Has : Entry → Type 0) {n : ℕ} {entry : Entry} → NoneBelow network Has n
    → IsEntry network n entry → (Has entry → ⊥) → NoneBelow network Has (n + 1)
none_next {network} Has {n} {entry} none is not k other lt its has =
    elim (cases_lt k n) [
      | inl below ↦ none k other below its has
      | inr ge ↦
          let here : k ≡ n = omega (arith, lt, ge) in
          let same = one_entry network n entry other is (subst (λ j. IsEntry network j other) here its) in
          not (subst Has (sym same) has)
    ]

pub none_of_all : (network : Network) (Has : Entry → Type 0) (n : ℕ) → NoneBelow network Has n → length network.row ≤ n → IsFirstOf network Has None
none_of_all network Has n none whole k entry is has =
    let within = slice_get_within network.row k entry.row is.row in
    none k entry (omega (arith, within, whole)) is has

-- there is one first row
pub first_once : (network : Network) (Has : Entry → Type 0) (a b : Option Entry) → IsFirstOf network Has a → IsFirstOf network Has b → a ≡ b
first_once network Has None None none empty = refl
first_once network Has None (Some e) none (place, is, has, before) = absurd (none place e is has)
first_once network Has (Some e) None (place, is, has, before) none = absurd (none place e is has)
first_once network Has (Some e) (Some f) (place, is, has, before) (other, its, have, earlier) =
    elim (cases_lt place other) [
      | inl lt ↦ absurd (earlier place e lt is has)
      | inr ge ↦ elim (cases_lt other place) [
        | inl lt ↦ absurd (before other f lt its have)
        | inr le ↦
            let here : other ≡ place = omega (arith, ge, le) in
            ap (λ (x : Entry). Some x) (one_entry network place e f is (subst (λ j. IsEntry network j f) here its))
      ]
    ]

-- ---- lists made of parts

module _ {X : Type 0} (IsPart : ℕ → List X → Type 0) where
  -- one more part
  part_more : (first n : ℕ) (xs part : List X) → InParts IsPart first n xs → IsPart (first + n) part → InParts IsPart first (suc n) (xs ++ part)
  part_more first zero xs part none is =
      let here : first + 0 ≡ first = omega arith in (
        part,
        [],
        subst (λ (k : ℕ). IsPart k part) here is,
        refl,
        ap (λ (ys : List X). ys ++ part) none ∙ sym (append-nil part),
      )
  part_more first (suc n) xs part (one, others, is, rest, same) next =
      let there : first + suc n ≡ first + 1 + n = omega arith in (
        one,
        others ++ part,
        is,
        part_more (first + 1) n others part rest (subst (λ (k : ℕ). IsPart k part) there next),
        ap (λ (ys : List X). ys ++ part) same ∙ append_assoc one others part,
      )

  -- the parts below this number were added
  abbrev pub ArePushed : ℕ → List X → List X → Type 0
  ArePushed n old new = Pushes (InParts IsPart 0 n) old new

  pub pushed_first : (old : List X) → ArePushed 0 old old
  pushed_first old = ([], refl, sym (append-nil old))

  pub pushed_next : (n : ℕ) (old new newer part : List X) → ArePushed n old new → IsPart n part → newer ≡ new ++ part → ArePushed (n + 1) old newer
  pushed_next n old new newer part (found, are, same) is more =
      let next : suc n ≡ n + 1 = omega arith in
      let here : n ≡ 0 + n = omega arith in (
        found ++ part,
        subst (λ k. InParts IsPart 0 k (found ++ part)) next (part_more 0 n found part are (subst (λ (k : ℕ). IsPart k part) here is)),
        more ∙ ap (λ (xs : List X). xs ++ part) same ∙ append_assoc old found part,
      )

  -- all parts were added to no elements
  pub pushed_all : (n count : ℕ) (new : List X) → ArePushed n [] new → n ≡ count → InParts IsPart 0 count new
  pushed_all n count new (found, are, same) whole =
      subst (λ xs. InParts IsPart 0 count xs) (sym same) (subst (λ k. InParts IsPart 0 k found) whole are)

  -- what holds of each part's elements holds of all
  pub all_in_parts : (P : X → Type 0) (first n : ℕ) (xs : List X) → ((k : ℕ) (ys : List X) → k < first + n → IsPart k ys → All P ys)
      → InParts IsPart first n xs → All P xs
  all_in_parts P first zero xs each none = subst (All P) (sym none) (All-nil P)
  all_in_parts P first (suc n) xs each (part, others, is, rest, same) =
      let here = each first part (omega arith) is in
      let there = all_in_parts P (first + 1) n others (λ k ys lt its. each k ys (omega (arith, lt)) its) rest in
      subst (All P) (sym same) (All-append P part others here there)

  -- one list, where each part is one
  pub parts_once : ((k : ℕ) (ys zs : List X) → IsPart k ys → IsPart k zs → ys ≡ zs) → (first n : ℕ) (xs ys : List X) → InParts IsPart first n xs
      → InParts IsPart first n ys → xs ≡ ys
  parts_once once first zero xs ys none empty = none ∙ sym empty
  parts_once once first (suc n) xs ys (part, others, is, rest, same) (one, more, its, left, there) =
      same ∙ ap (λ (zs : List X). zs ++ others) (once first part one is its)
      ∙ ap (λ (zs : List X). one ++ zs) (parts_once once (first + 1) n others more rest left) ∙ sym there

  -- the part of an element
  pub part_of : (first n : ℕ) (xs : List X) (x : X) → InParts IsPart first n xs → Contains xs x
      → (k : ℕ) × (part : List X) × (k < first + n) × IsPart k part × Contains part x
  part_of first zero xs x none has =
      let within = (subst (λ (ys : List X). Contains ys x) none has).1 in
      absurd (omega (arith, within))
  part_of first (suc n) xs x (part, others, is, rest, same) has =
      elim (Contains-append_cases part others x (subst (λ (ys : List X). Contains ys x) same has)) [
        | inl here ↦ (first, part, omega arith, is, here)
        | inr there ↦
            let found = part_of (first + 1) n others x rest there in
            (found.0, found.1, (let lt = found.2 in omega (arith, lt)), found.3, found.4)
      ]

  -- the elements of each part
  pub has_part : (first n k : ℕ) (xs : List X) → InParts IsPart first n xs → first ≤ k → k < first + n
      → (part : List X) × IsPart k part × ((x : X) → Contains part x → Contains xs x)
  has_part first zero k xs none from to = absurd (omega (arith, from, to))
  has_part first (suc n) k xs (part, others, is, rest, same) from to =
      elim (cases_lt first k) [
        | inl lt ↦
            let found = has_part (first + 1) n k others rest (omega (arith, lt)) (omega (arith, to)) in (
              found.0,
              found.1,
              λ x has. subst (λ (ys : List X). Contains ys x) (sym same) (Contains-append_right part others x (found.2 x has)),
            )
        | inr ge ↦
            let here : first ≡ k = omega (arith, from, ge) in (
              part,
              subst (λ (j : ℕ). IsPart j part) here is,
              λ x has. subst (λ (ys : List X). Contains ys x) (sym same) (Contains-append_left part others x has),
            )
      ]

-- ---- all comings are of the network's virtual links and devices

at_names : (network : Network) (vl device : ℕ) (cs : List Coming) → vl < length network.vl → device < length network.device → IsPartAt network vl device cs
    → All (HasNames network) cs
at_names network vl device cs few less (None, is, same) = subst (All (HasNames network)) (sym same) (All-nil (HasNames network))
at_names network vl device cs few less (Some c, is, same) =
    let own : c.vl.0 ≡ vl = ap (λ (v : VlId). v.0) is.3 in
    let at : c.device.0 ≡ device = ap (λ (d : DeviceId). d.0) is.4 in
    let names : HasNames network c = record { vl = omega (arith, own, few); device = omega (arith, at, less) } in
    subst (All (HasNames network)) (sym same) (All-cons (HasNames network) c [] names (All-nil (HasNames network)))

pub part_names : (network : Network) (vl : ℕ) (cs : List Coming) → vl < length network.vl → IsPartOf network vl cs → All (HasNames network) cs
part_names network vl cs few part =
    all_in_parts (IsPartAt network vl) (HasNames network) 0 (length network.device) cs
    (λ device zs less at. at_names network vl device zs few (omega (arith, less)) at) part

pub all_names : (network : Network) (cs : List Coming) → AreComings network cs → All (HasNames network) cs
all_names network cs are =
    all_in_parts (IsPartOf network) (HasNames network) 0 (length network.vl) cs
    (λ vl ys few part. part_names network vl ys (omega (arith, few)) part) are

-- ---- a network has one answer of `latency`

module _ (network : Network) (vl : VlId) (device : DeviceId) (channel : Channel) where
  -- a trip that there is none of, and one
  no_trip : (trip : Trip) → IsTrip network vl device channel None → IsTrip network vl device channel (Some trip) → ⊥
  no_trip trip (inl none) (first, last, is, its, same) =
      none-some first (first_once network (IsHop network vl channel First) None (Some first) none is)
  no_trip trip (inr none) (first, last, is, its, same) =
      none-some last (first_once network (IsHop network vl channel (Last device)) None (Some last) none its)

  trip_once : (t u : Trip) → IsTrip network vl device channel (Some t) → IsTrip network vl device channel (Some u)
      → t ≡ u
  trip_once t u (first, last, is, its, same) (one, other, has, have, equal) =
      let begin = one_of first one (first_once network (IsHop network vl channel First) (Some first) (Some one) is
      has) in
      let end = one_of last other (first_once network (IsHop network vl channel (Last device)) (Some last)
      (Some other) its have) in
      same ∙ ap (λ e. trip_of network e last) begin ∙ ap (λ e. trip_of network one e) end ∙ sym
      equal
    where
      one_of : (e f : Entry) → Some e ≡ Some f → e ≡ f
      one_of e f p = cc

abbrev made : VlId → DeviceId → Trip → Trip → Coming
made vl device a b = record { vl = vl; device = device; a = a; b = b }

module _ (network : Network) where
  coming_once : (vl : VlId) (device : DeviceId) (c d : Option Coming) → IsComing network vl device c
      → IsComing network vl device d → c ≡ d
  coming_once vl device None None none empty = refl
  coming_once vl device None (Some d) (inl not) is = absurd (not is.0)
  coming_once vl device None (Some d) (inr (inl none)) is = absurd (no_trip network vl device A d.a none is.1)
  coming_once vl device None (Some d) (inr (inr none)) is = absurd (no_trip network vl device B d.b none is.2)
  coming_once vl device (Some c) None is (inl not) = absurd (not is.0)
  coming_once vl device (Some c) None is (inr (inl none)) = absurd (no_trip network vl device A c.a none is.1)
  coming_once vl device (Some c) None is (inr (inr none)) = absurd (no_trip network vl device B c.b none is.2)
  coming_once vl device (Some c) (Some d) (end, a, b, own, at) (its, on_a, on_b, same, there) =
      let first = trip_once network vl device A c.a d.a a on_a in
      let second = trip_once network vl device B c.b d.b b on_b in
      ap (λ (x : Coming). Some x) (ap (λ v. made v c.device c.a c.b) (own ∙ sym same) ∙ ap
      (λ e. made d.vl e c.a c.b) (at ∙ sym there)
      ∙ ap (λ t. made d.vl d.device t c.b) first ∙ ap (λ t. made d.vl d.device d.a t) second)

  part_once : (vl device : ℕ) (cs ds : List Coming) → IsPartAt network vl device cs → IsPartAt network vl device ds
      → cs ≡ ds
  part_once vl device cs ds (c, is, same) (d, its, there) =
      same ∙ ap some_coming (coming_once (record { 0 = vl }) (record { 0 = device }) c d is its) ∙ sym there

  pub comings_by_once : (vl : ℕ) (cs ds : List Coming) → IsPartOf network vl cs → IsPartOf network vl ds → cs ≡ ds
  comings_by_once vl cs ds are its =
      parts_once (IsPartAt network vl) (part_once vl) 0 (length network.device) cs ds are its

  pub comings_once : (cs ds : List Coming) → AreComings network cs → AreComings network ds → cs ≡ ds
  comings_once cs ds are its =
      parts_once (IsPartOf network) (comings_by_once) 0 (length network.vl) cs ds are its

  -- so there is one answer
  pub latency_one : (a b : Answer) → IsLatencyOf network a → IsLatencyOf network b → a ≡ b
  latency_one a b p q = p.is ∙ ap (latency_answer network) (comings_once p.comings q.comings p.are q.are) ∙ sym q.is

-- ---- the rows of a virtual link at its sender and at its receivers

module _ (n : Network) (range : IsInRange n) (keeps : KeepsRules n) where
  -- a row that leaves an end system goes by its uplink
  by_uplink : (channel : Channel) (place : ℕ) (entry : Entry) (device : DeviceId) → IsEntry n place entry → IsOnChannel n channel entry
      → is_end n device ≡ true → source_of entry ≡ device → IsUplink n channel device entry.row.link
  by_uplink channel place entry device row on end source = by entry.row.way source
    where
      by : (way : Way) → source_by way entry.link ≡ device → IsUplink n channel device entry.row.link
      by Up e = closed (λ (l : Link). (l.child ≡ device) × IsSwitchOf n channel l.parent) (link_at n entry.row.link) entry.link row.link (e, on)
      by Down e =
          let switch = subst (IsSwitchOf n channel) e on in
          absurd (both_ways _ (switch_no_end channel device range switch) end)

  -- the virtual link's row that leaves its sender on the channel is one
  pub one_first : (vl : VlId) (channel : Channel) (place other : ℕ) (entry second : Entry) → IsEntry n place entry → IsEntry n other second
      → entry.row.vl ≡ vl → second.row.vl ≡ vl → IsOnChannel n channel entry → IsOnChannel n channel second → source_of entry ≡ entry.vl.sender
      → source_of second ≡ second.vl.sender → entry ≡ second
  one_first vl channel place other entry second row also own same on there source from =
      let linked = subst (λ (v : VlId). slice_get n.vl v.0 ≡ Some entry.vl) own row.vl in
      let again = subst (λ (v : VlId). slice_get n.vl v.0 ≡ Some second.vl) same also.vl in
      let vls = same_some (slice_get n.vl vl.0) entry.vl second.vl linked again in
      let end = end_test n entry.vl.sender (keeps Senders vl.0 entry.vl linked) in
      let back : source_of second ≡ entry.vl.sender = from ∙ sym (ap (λ v. v.sender) vls) in
      let tree = rules_give_trees n (shape_rules n keeps) in
      let link = tree.one_uplink channel entry.vl.sender entry.row.link second.row.link (by_uplink channel place entry entry.vl.sender row on end source)
      (by_uplink channel other second entry.vl.sender also there end back) in
      (rows_go_once n place other entry second keeps row also (own ∙ sym same) link).1

  -- so is the one that enters an end system on the channel
  pub one_last : (vl : VlId) (channel : Channel) (device : DeviceId) (place other : ℕ) (entry second : Entry) → IsEndSystem n device
      → IsEntry n place entry → IsEntry n other second → entry.row.vl ≡ vl → second.row.vl ≡ vl → IsOnChannel n channel entry
      → IsOnChannel n channel second → target_of entry ≡ device → target_of second ≡ device → entry ≡ second
  one_last vl channel device place other entry second end row also own same on there target into =
      elim (cases_lt place other) [
        | inl lt ↦
            absurd ((keeps Targets other).end_systems place entry second channel lt row also (same ∙ sym own) (subst (IsEndSystem n) (sym into) end) on there
            (into ∙ sym target))
        | inr ge ↦ elim (cases_lt other place) [
          | inl lt ↦
              absurd ((keeps Targets place).end_systems other second entry channel lt also row (own ∙ sym same) (subst (IsEndSystem n) (sym target) end) there on
              (target ∙ sym into))
          | inr le ↦
              let here : other ≡ place = omega (arith, ge, le) in
              one_entry n place entry second row (subst (λ j. IsEntry n j second) here also)
        ]
      ]

  -- a row that leaves a switch comes behind a window, so its own begins in the cycle
  pub begins_in_cycle : (channel : Channel) (place : ℕ) (entry : Entry) → IsEntry n place entry → IsSwitchOf n channel (source_of entry)
      → tolerance n ≤ arrival_of entry
  begins_in_cycle channel place entry row switch =
      let not : source_of entry ≡ entry.vl.sender → ⊥ = λ e.
      both_ways _ (switch_no_end channel (source_of entry) range switch)
      (subst (λ d. is_end n d ≡ true) (sym e) (end_test n entry.vl.sender (keeps Senders entry.row.vl.0 entry.vl row.vl))) in
      elim (keeps Sources place entry row) [
        | inl sender ↦ absurd (not sender)
        | inr other ↦
            let enters = other.1.2 in
            let behind = (keeps Forwarding place).from_switch other.1.0 enters.entry entry enters.is row (sym enters.same_vl) not enters.target in
            omega (arith, behind)
      ]

-- ---- the lines of `latency` hold in each run

-- the coming is the device's of the virtual link, among these
record IsFound (network : Network) (cs : List Coming) (vl : VlId) (device : DeviceId) : Type 0 where
  pub coming : Coming
  pub has : Contains cs coming
  pub is : IsComing network vl device (Some coming)

-- an end system that a row of the virtual link enters has one
found : (network : Network) (cs : List Coming) (vl : VlId) (device : DeviceId) → KeepsRules network → AreComings network cs → vl.0 < length network.vl
    → (of_vl : _) → slice_get network.vl vl.0 ≡ Some of_vl
    → IsEndSystem network device → ((channel : Channel) → EntersOn network vl channel device) → IsFound network cs vl device
found network cs vl device keeps are few of_vl there end enters =
    let at = opened (λ (d : Device). is_end_system d.role ≡ true) (device_at network device) end in
    let within = slice_get_within network.device device.0 at.0 at.1 in
    let all = has_part (IsPartOf network) 0 (length network.vl) vl.0 cs are (omega arith) (omega (arith, few)) in
    let own = has_part (IsPartAt network vl.0) 0 (length network.device) device.0 all.0 all.1 (omega arith) (omega (arith, within)) in
    by own.1.0 own.1.1 (λ c same. all.2 c (own.2 c (subst (λ (ys : List Coming). Contains ys c) (sym own.1.2) same)))
  where
    leaves : (channel : Channel) → IsFirstOf network (IsHop network vl channel First) None → ⊥
    leaves channel none =
        let row = (keeps BothChannels vl.0).leaves of_vl channel there in
        let same = same_some (slice_get network.vl vl.0) row.entry.vl of_vl
        (subst (λ (v : VlId). slice_get network.vl v.0 ≡ Some row.entry.vl) row.same_vl row.is.vl) there in
        none row.place row.entry row.is (record { own = row.same_vl; on_channel = row.on_channel; joins = row.source ∙ sym (ap (λ v. v.sender) same) })

    comes : (channel : Channel) → IsFirstOf network (IsHop network vl channel (Last device)) None → ⊥
    comes channel none =
        let row = enters channel in
        none row.place row.entry row.is (record { own = row.same_vl; on_channel = row.on_channel; joins = row.target })

    no_trip : (channel : Channel) → IsTrip network vl device channel None → ⊥
    no_trip channel (inl none) = leaves channel none
    no_trip channel (inr none) = comes channel none

    by : (o : Option Coming) → IsComing network vl device o → ((c : Coming) → Contains (some_coming o) c → Contains cs c) → IsFound network cs vl device
    by None (inl not) has = absurd (not end)
    by None (inr (inl none)) has = absurd (no_trip A none)
    by None (inr (inr none)) has = absurd (no_trip B none)
    by (Some c) is has = record { coming = c; has = has c (0, omega arith, refl); is = is }

-- what lies in the window of the trip's last row lies in the line's
record IsIn (network : Network) (trip : Trip) (offset : ℤ) : Type 0 where
  pub least : pos trip.from ≤ℤ offset
  pub most : offset ≤ℤ pos trip.to

in_trip : {network : Network} (vl : VlId) (device : DeviceId) (channel : Channel) (trip : Trip) {place : ℕ}
    {entry : Entry} (offset : ℤ) → IsInRange network → KeepsRules network → IsEndSystem network device
    → IsTrip network vl device channel (Some trip) → IsEntry network place entry → entry.row.vl ≡ vl
    → IsOnChannel network channel entry → target_of entry ≡ device
    → (pos (arrival_of entry) -ℤ pos (tolerance network)) ≤ℤ offset → offset ≤ℤ pos (window_end network entry)
    → tolerance network ≤ arrival_of entry → IsIn network trip offset
in_trip {network} vl device channel trip {place} {entry} offset range keeps end (first, last, is, its, same) row own
    on target from to begun =
    let one : last ≡ entry =
    one_last network range keeps vl channel device its.0 place last entry end its.1 row its.2.own own its.2.on_channel on its.2.joins target in
    let begin : trip.from ≡ arrival_of entry - tolerance network =
    ap (λ (t : Trip). t.from) same ∙ ap (λ e. arrival_of e - tolerance network) one in
    let ending : trip.to ≡ window_end network entry = ap (λ (t : Trip). t.to) same ∙ ap (window_end network) one in
    record { least = omega (arith, ints, begin, from, begun); most = omega (arith, ints, ending, to) }

-- so it lies between the first begin and the last end of both channels
module _ (c : Coming) (offset : ℤ) where
  -- on the one channel or the other
  abbrev IsInLine : Type 0
  IsInLine = (pos (min c.a.from c.b.from) ≤ℤ offset) × (offset ≤ℤ pos (max c.a.to c.b.to))

  in_line_a : (network : Network) → IsIn network c.a offset → IsInLine
  in_line_a network within =
      let low = min-le_left c.a.from c.b.from in
      let high = le-max_left c.a.to c.b.to in
      let least = within.least in
      let most = within.most in
      (omega (arith, ints, low, least), omega (arith, ints, high, most))

  in_line_b : (network : Network) → IsIn network c.b offset → IsInLine
  in_line_b network within =
      let low = min-le_right c.a.from c.b.from in
      let high = le-max_right c.a.to c.b.to in
      let least = within.least in
      let most = within.most in
      (omega (arith, ints, low, least), omega (arith, ints, high, most))

-- a row that enters an end system leaves a switch
leaves_switch : {network : Network} (channel : Channel) (entry : Entry) (device : DeviceId) → IsInRange network
    → IsOnChannel network channel entry → target_of entry ≡ device → IsEndSystem network device
    → IsSwitchOf network channel (source_of entry)
leaves_switch {network} channel entry device range on target end = by entry.row.way target
  where
    by : (way : Way) → target_by way entry.link ≡ device → IsSwitchOf network channel (source_by way entry.link)
    by Up e =
        absurd (both_ways _ (switch_no_end channel device range (subst (IsSwitchOf network channel) e on))
        (end_test network device end))
    by Down e = on

-- a frame that is owed
pub comes_at_its_place : ComesAtItsPlace
comes_at_its_place s mark ns until cs run are vl of_vl cycle device owed =
    let n = s.network in
    let hs = happenings n ns in
    let range = run.up.lawful.range in
    let keeps = run.up.lawful.rules in
    let d = frames_are_delivered s mark ns until run vl of_vl cycle device owed in
    let w = d.in_window in
    let entry = w.entry in
    let joint = keeps Joints entry.row.link.0 entry.link w.row.is.link in
    let own : EntersOn n vl joint.0 device =
    record { place = w.row.place; entry = entry; is = w.row.is; same_vl = w.row.of_vl; on_channel = joint.1; target = w.row.enters } in
    let few = slice_get_within n.vl vl.0 of_vl owed.there in
    let f = found n cs vl device keeps are few of_vl owed.there owed.end_system
    (λ channel. (keeps BothChannels vl.0).same device joint.0 channel owed.end_system own) in
    let c = f.coming in
    let offset = offset_in_cycle n (local_before s hs device (time_of d.delivery)) in
    let begun = begins_in_cycle n range keeps joint.0 w.row.place entry w.row.is
    (leaves_switch joint.0 entry device range joint.1 w.row.enters owed.end_system) in
    let within : (channel : Channel) → IsOnChannel n channel entry → IsInLine c offset = λ channel. by n c offset channel vl device w.row.place entry
    range keeps f.is w.row.is w.row.of_vl w.row.enters w.not_before w.not_behind begun in
    let both = within joint.0 joint.1 in
    (c, f.has, f.is.3, f.is.4, record { delivered = d; not_before = both.0; not_behind = both.1 })
  where
    by : (n : Network) (c : Coming) (offset : ℤ) (channel : Channel) (vl : VlId) (device : DeviceId) (place : ℕ) (entry : Entry) → IsInRange n
        → KeepsRules n → IsComing n vl device (Some c) → IsEntry n place entry → entry.row.vl ≡ vl → target_of entry ≡ device
        → (pos (arrival_of entry) -ℤ pos (tolerance n)) ≤ℤ offset → offset ≤ℤ pos (window_end n entry) → tolerance n ≤ arrival_of entry
        → IsOnChannel n channel entry → IsInLine c offset
    by n c offset A vl device place entry range keeps is row own target from to begun on =
        in_line_a c offset n (in_trip vl device A c.a offset range keeps is.0 is.1 row own on target from to begun)
    by n c offset B vl device place entry range keeps is row own target from to begun on =
        in_line_b c offset n (in_trip vl device B c.b offset range keeps is.0 is.2 row own on target from to begun)

-- what a list of one has is that one
only : (c d : Coming) → Contains (c ∷ []) d → c ≡ d
only c d (zero, within, is) = is
only c d (suc k, within, is) = absurd (omega (arith, within))

itself : (network : Network) (vl : VlId) (device : DeviceId) (c : Coming) → IsComing network vl device (Some c)
    → IsComing network c.vl c.device (Some c)
itself network vl device c is =
    subst (λ e. IsComing network c.vl e (Some c)) (sym is.4) (subst (λ v. IsComing network v device (Some c)) (sym is.3) is)

-- the coming of these is that of its virtual link and device
of_its : (network : Network) (cs : List Coming) (c : Coming) → AreComings network cs → Contains cs c → IsComing network c.vl c.device (Some c)
of_its network cs c are has =
    let all = part_of (IsPartOf network) 0 (length network.vl) cs c are has in
    let own = part_of (IsPartAt network all.0) 0 (length network.device) all.1 c all.3 all.4 in
    let at = own.3 in
    by all.0 own.0 at.0 at.1 (subst (λ (ys : List Coming). Contains ys c) at.2 own.4)
  where
    by : (vl device : ℕ) (o : Option Coming) → IsComing network (record { 0 = vl }) (record { 0 = device }) o → Contains (some_coming o) c
        → IsComing network c.vl c.device (Some c)
    by vl device None is (k, within, same) = absurd (omega (arith, within))
    by vl device (Some other) is own =
        subst (λ (x : Coming). IsComing network x.vl x.device (Some x)) (only other c own) (itself network (record { 0 = vl }) (record { 0 = device }) other is)

-- the trip by the channel
trip_is : (network : Network) (c : Coming) (channel : Channel) → IsComing network c.vl c.device (Some c)
    → IsTrip network c.vl c.device channel (Some (trip_by channel c))
trip_is network c A is = is.1
trip_is network c B is = is.2

-- what went by a channel
pub comes_in_its_time : ComesInItsTime
comes_in_its_time s mark ns until cs c cycle channel f z up are has le d =
    let n = s.network in
    let range = up.lawful.range in
    let keeps = up.lawful.rules in
    let is = of_its n cs c are has in
    let trip = trip_is n c channel is in
    let sent = trip.2 in
    let came = trip.3 in
    let first = d.dispatched.row in
    let last = d.delivered.row in
    let one = one_first n range keeps c.vl channel sent.0 first.place trip.0 d.first sent.1 first.is sent.2.own first.of_vl sent.2.on_channel d.by_first
    sent.2.joins d.leaves in
    let other = one_last n range keeps c.vl channel c.device came.0 last.place trip.1 d.last is.0 came.1 last.is came.2.own last.of_vl came.2.on_channel
    d.by_last came.2.joins d.enters in
    let vls : d.first.vl ≡ d.sender.of_vl = same_some (slice_get n.vl c.vl.0) d.first.vl d.sender.of_vl
    (subst (λ (v : VlId). slice_get n.vl v.0 ≡ Some d.first.vl) first.of_vl first.is.vl) d.sender.there in
    let correct = subst (λ (v : VirtualLink). is_broken s v.sender (time_of z) ≡ false) (sym vls) d.sender.correct in
    let beta = beta_exists n (rules_give_trees n (shape_rules n keeps)) in
    let value = beta_at n beta.1.jitter beta.1.links in
    let is_beta = subst (IsBeta n) beta.1.value beta.1 in
    let takes = times_are_taken s mark ns until value up is_beta c.vl cycle f z d.first.vl.sender c.device d.first d.last d.sent d.came d.in_order le
    d.dispatched d.delivered correct d.sender in
    let same : trip_by channel c ≡ trip_of n d.first d.last =
    trip.4 ∙ ap (λ e. trip_of n e trip.1) one ∙ ap (λ e. trip_of n d.first e) other in
    let least = ap (λ (t : Trip). t.least) same in
    let most = ap (λ (t : Trip). t.most) same in
    let order = d.in_order in
    (omega (arith, least, takes.least, takes.small, order), omega (arith, most, takes.most, takes.small, order))

-- A seed has one storm, on the masters, devices and links of a network that keeps the rules.
use Rattle.std.{specs.{List.{Any, count_by}, Prelude.{IsSomeAnd, MatchOption, Option, slice_get, slice_index}}}
use Rattle.std.proofs.Common
use Common.{◌*◌, ◌++◌, ◌+◌, ◌-◌, ◌<◌, ◌^◌, ◌∙◌, ◌∷◌, ◌≡◌, ◌≤◌, ◌⊎◌, Bool, List, None, Some, [], ap, append_assoc, arith}
use Common.{cond, drop, inl, inr, length, refl, subst, suc, sym, true, zero, ℕ}
use Rattle.std.proofs.lemmas.{Bool.{cases_Bool, cases_lt, cases_order}}
use Rattle.std.proofs.lemmas.{List.{Sums.{length-filter, sum_by-cons}, ext_get_or, get_or-drop}}
use Rattle.std.proofs.lemmas.{Option.slice_get_within}
use Rattle.byteorder.specs.{Endian.big_from, Numbers.big_from-lt}
use Rattle.fault_hypothesis.{proofs.storm_lemmas.Storms.{any_split, broken_is_master, storms_within}}
use Rattle.fault_hypothesis.specs.declared.storm.draw.{StormDraw.StormDraw}
use Rattle.fault_hypothesis.specs.declared.storm.draw.Choice.{Choice}
use Rattle.fault_hypothesis.specs.declared.storm.draw.Choice.{TheVariants.{Cut, Heal, Hold, On, Rate, Strike, Wire}}
use Rattle.fault_hypothesis.specs.storm.{Events.{AreStormEvents, IsChosen, IsDrawn, IsEventOf, IsStormEvent}}
use Rattle.fault_hypothesis.specs.storm.{Laws.StormIsOne}
use Rattle.fault_hypothesis.specs.storm.{Striking.{IsLastMaster, IsMaster, SendsForged, Strikes, forged}}
use Rattle.fault_hypothesis.specs.storm.Choosing
use Choosing.{channel_of, choice_of, device_of, hold_of, link_of, rate_of, way_of, wire_of}
use Rattle.hex.specs.Hex.{IsBytes}
use Rattle.net_plan.{proofs.Trees.link_within}
use Rattle.net_plan.specs.{Paths.IsUplink, Places.{IsEndSystem, device_at, is_master, link_at}}
use Rattle.net_plan.specs.declared.{event.{Event.Event, What.{TheVariants.End, What}}}
use Rattle.net_plan.specs.declared.{ids.{DeviceId.DeviceId, LinkId.LinkId}, network.Network.Network}
use Rattle.net_plan.specs.declared.{tables.{Device.Device, Link.Link, Way.Way}}
use Rattle.pcf_codec.specs.{Fields.field, Spelling.{IsPadding, Spells}}
use Rattle.run_law.{proofs.scenario.Devices.within_front}
use Rattle.run_law.specs.{declared.outside.Outside.TheVariants.SecondBreak}
use Rattle.run_law.specs.{scenario.{Faults.{Breaks, IsBroken}, Hypothesis.AreWithinHypothesis}}
use Rattle.schedule_tables.{proofs.Margins.master_ends}
use Rattle.schedule_tables.{specs.{Rules.KeepsRules, declared.rule.Rule.TheVariants.{Connections, Masters}}}
use Rattle.tte_units.{proofs.general_lemmas.{Lists.{any_behind, any_first, any_of}, Naturals.same_heads}}
use Rattle.tte_units.specs.declared.{frames.{channel.Channel.{Channel, TheVariants.A}, pcf.Pcf.Pcf}, rates.Ppb.Ppb}
use Rattle.tte_units.specs.declared.{units.Units.Units}
use Rattle.net_plan.specs.declared.event.What.TheVariants as kinds

-- ---- only the last event of a storm is the end

some_and : {X : Type 0} (o : Option X) (P : X → Type 0) → IsSomeAnd o P → ((x : X) → P x → ⊥) → ⊥
some_and None P is none = is
some_and (Some x) P is none = none x is

module _ (network : Network) (before : List Event) (time : Units) (draw : StormDraw) where
  -- what is chosen is no end
  chosen_goes_on : (choice : Choice) (what : What) → IsChosen network before time draw choice what → what ≡ End → ⊥
  chosen_goes_on Rate what is end = cc
  chosen_goes_on Wire what is end = some_and (link_at network (link_of network draw)) _ is (λ l same. cc)
  chosen_goes_on Hold what is end = some_and (link_at network (link_of network draw)) _ is (λ l same. cc)
  chosen_goes_on Cut what is end = cc
  chosen_goes_on Heal what is end = cc
  chosen_goes_on On what is end = cc
  chosen_goes_on Strike what (inl breaks) end = let is = breaks.breaks in cc
  chosen_goes_on Strike what (inr sends) end = let is = sends.2.sends in cc

  -- the event of a step is no end
  step_goes_on : {event : Event} → IsEventOf network before time draw event → event.what ≡ End → ⊥
  step_goes_on step end =
      elim step.becomes [
        | inl is ↦
            chosen_goes_on (choice_of draw.kind) step.drawn step.is_drawn (sym (rw is.1) ∙ end)
        | inr is ↦ cc
      ]

-- only behind all steps an event of a storm is the end
pub end_is_behind : {network : Network} (seed cycles : ℕ) {before : List Event} (n : ℕ) {event : Event}
    → IsStormEvent network seed cycles before n event → event.what ≡ End → n ≡ 8 * cycles
end_is_behind {network} seed cycles {before} n (inl step) end = absurd (step_goes_on network before _ _ step.1 end)
end_is_behind seed cycles n (inr last) end = last.0

-- ---- the masters, devices and links that a network has which keeps the rules

-- ---- the masters of a network: the last one, and the uplinks that they have

-- the device is the last master below a place, or there is none below it
abbrev pub IsLastBelow : Network → Option DeviceId → ℕ → Type 0
IsLastBelow network None place = (device : DeviceId) → device.0 < place → IsMaster network device → ⊥
IsLastBelow network (Some master) place =
    (master.0 < place) × IsMaster network master
    × ((later : DeviceId) → master.0 < later.0 → later.0 < place → IsMaster network later → ⊥)

module _ (network : Network) (place : ℕ) (found : Device) where
  -- a master at the place is the last one below the next
  pub next_master : slice_get network.device place ≡ Some found → is_master found.role ≡ true
      → IsLastBelow network (Some (record { 0 = place })) (place + 1)
  next_master at master = (omega arith, rw at master, λ later above below is. omega arith)

  -- a master at the place has a master's role
  not_here : (device : DeviceId) → slice_get network.device place ≡ Some found → device.0 ≡ place
      → IsMaster network device → is_master found.role ≡ true
  not_here device at same is =
      let there : device_at network device ≡ Some found = ap (slice_get network.device) same ∙ at in
      rw there at is

  -- where no master stands at the place, the last one below it is that below the next
  pub next_other : (last : Option DeviceId) → slice_get network.device place ≡ Some found
      → (is_master found.role ≡ true → ⊥) → IsLastBelow network last place → IsLastBelow network last (place + 1)
  next_other None at other below = λ device within is.
      elim (cases_order device.0 place) [
        | inl same ↦ other (not_here device at same is)
        | inr (inl less) ↦ below device less is
        | inr (inr more) ↦ omega arith
      ]
  next_other (Some master) at other below = (
    omega (arith, below.0),
    below.1,
    λ later above within is. elim (cases_order later.0 place) [
      | inl same ↦ other (not_here later at same is)
      | inr (inl less) ↦ below.2 later above less is
      | inr (inr more) ↦ omega arith
    ],
  )

some_found : (o : Option Device) → IsSomeAnd o (λ d. is_master d.role ≡ true) → (d : Device) × (o ≡ Some d) × (is_master d.role ≡ true)
some_found None is = absurd is
some_found (Some d) is = (d, refl, is)

module _ (network : Network) where
  -- a master stands below the end of the list
  pub master_within : (device : DeviceId) → IsMaster network device → device.0 < length network.device
  master_within device is =
      let found = some_found (device_at network device) is in
      slice_get_within network.device device.0 found.0 found.1

  -- the device of a master
  pub master_found : (device : DeviceId) → IsMaster network device
      → (d : Device) × (device_at network device ≡ Some d) × (is_master d.role ≡ true)
  master_found device is = some_found (device_at network device) is

  -- the last one below the end is the last
  pub last_of_all : (last : Option DeviceId) → IsLastBelow network last (length network.device)
      → MatchOption last ((device : DeviceId) → IsMaster network device → ⊥) (IsLastMaster network)
  last_of_all None below = λ device is. below device (master_within device is) is
  last_of_all (Some master) below =
      record { master = below.1; last = λ later above is. below.2 later above (master_within later is) is }

  master_is_end : (device : DeviceId) → IsMaster network device → IsEndSystem network device
  master_is_end device is =
      let found = master_found device is in
      rw found.1 (master_ends found.0.role found.2)

  -- a master of a network that keeps the rules has an uplink on each channel
  pub master_uplink : (device : DeviceId) (channel : Channel) → KeepsRules network → IsMaster network device
      → (link : LinkId) × IsUplink network channel device link
  master_uplink device channel rules is =
      let one = (rules Connections device.0).ends (master_is_end device is) channel in
      (one.0, one.1)

-- ---- a network that keeps the rules has devices and links

-- where some elements of a list pass a test, one stands at a place of it
pub one_counted : {X : Type 0} (p : X → Bool) (xs : List X) → 0 < count_by p xs → (k : ℕ) × (x : X) × (slice_get xs k ≡ Some x) × (p x ≡ true)
one_counted p [] some = absurd (omega arith)
one_counted {X} p (x ∷ xs) some =
    let parts = sum_by-cons (λ x. cond (p x) 1 0) x xs in
    elim (cases_Bool (p x)) [
      | inl here ↦ (zero, x, refl, here)
      | inr other ↦
          let less = ap (λ b. cond b 1 0 + count_by p xs) other in
          let rest = one_counted p xs (omega arith) in
          (suc rest.0, rest.1, rest.2, rest.3)
    ]

-- a network that keeps the rules has a master
pub some_master : (network : Network) → KeepsRules network → (device : DeviceId) × IsMaster network device
some_master network rules =
    let least = (rules Masters 0).least refl in
    let count = length-filter (λ d. is_master d.role) network.device in
    let one = one_counted (λ d. is_master d.role) network.device (omega arith) in
    (record { 0 = one.0 }, rw one.2 one.3)

-- it has devices
pub some_device : (network : Network) → KeepsRules network → 0 < length network.device
some_device network rules =
    let one = some_master network rules in
    omega (arith, master_within network one.0 one.1)

-- an uplink is a link of the network
pub uplink_within : (network : Network) (device : DeviceId) (link : LinkId) (channel : Channel) → IsUplink network channel device link
    → link.0 < length network.link
uplink_within network device link channel up = link_within network link _ up

-- it has links
pub some_link : (network : Network) → KeepsRules network → 0 < length network.link
some_link network rules =
    let one = some_master network rules in
    let up = master_uplink network one.0 A rules one.1 in
    omega (arith, uplink_within network one.0 up.0 A up.1)

-- ---- what the events of a storm draw and send is one, so there is one storm of a seed

-- ---- what the kinds of events draw

-- what is chosen is drawn where the words choose its kind
pub drawn_by : (network : Network) (before : List Event) (time : Units) (draw : StormDraw) (choice : Choice) (what : What) → choice ≡ choice_of draw.kind
    → IsChosen network before time draw choice what → IsDrawn network before time draw what
drawn_by network before time draw choice what chosen is = rw chosen at is

module _ (network : Network) (before : List Event) (time : Units) (draw : StormDraw) (link : LinkId) (way : Way)
    (delay : Units) (found : Link) (link_is : link ≡ link_of network draw) (at : link_at network link ≡ Some found)
    (way_is : way ≡ way_of draw) where
  -- the wire delay of a link
  pub wire_drawn : delay ≡ wire_of found draw → IsChosen network before time draw Wire (kinds.Wire link way delay)
  wire_drawn delay_is =
      let there : link_at network (link_of network draw) ≡ Some found = ap (link_at network) (sym link_is) ∙ at in
      let same : kinds.Wire link way delay ≡ kinds.Wire (link_of network draw) (way_of draw) (wire_of found draw) =
      cc in
      rw there same

  -- the hold of a link
  pub hold_drawn : delay ≡ hold_of found draw → IsChosen network before time draw Hold (kinds.Hold link way delay)
  hold_drawn delay_is =
      let there : link_at network (link_of network draw) ≡ Some found = ap (link_at network) (sym link_is) ∙ at in
      rw there cc

-- the kinds that no link's own numbers bound
pub rate_drawn : (network : Network) (before : List Event) (time : Units) (draw : StormDraw) (device : DeviceId) (rate : Ppb)
    → device ≡ device_of network draw → rate ≡ rate_of network draw → IsChosen network before time draw Rate (kinds.Rate device rate)
rate_drawn network before time draw device rate device_is rate_is = cc

module _ (network : Network) (before : List Event) (time : Units) (draw : StormDraw) (link : LinkId) (way : Way)
    (link_is : link ≡ link_of network draw) (way_is : way ≡ way_of draw) where
  pub cut_drawn : IsChosen network before time draw Cut (kinds.Cut link way)
  cut_drawn = cc

  pub heal_drawn : IsChosen network before time draw Heal (kinds.Heal link way)
  heal_drawn = cc

-- where a value is there and has one property, it has each that follows
pub match_some : {X : Type 0} (o : Option X) (P Q : X → Type 0) → ((x : X) → P x → Q x) → MatchOption o ⊥ P → MatchOption o ⊥ Q
match_some None P Q follows is = is
match_some (Some x) P Q follows is = follows x is

-- ---- two spellings of one frame, of bytes and with zeros in the padding, are the same octets

same_tails : (x y p r s : ℕ) → x ≡ y → x * p + r ≡ y * p + s → r ≡ s
same_tails x y p r s heads same = let tops = ap (λ b. b * p) heads in omega arith

-- bytes that spell one number are equal
same_bytes : (n i : ℕ) (xs ys : List ℕ) → IsBytes xs → IsBytes ys → big_from i n xs ≡ big_from i n ys → (k : ℕ) → i ≤ k → k < i + n
    → slice_index xs k ≡ slice_index ys k
same_bytes zero i xs ys small other same k low high = absurd (omega arith)
same_bytes (suc n) i xs ys small other same k low high =
    let less_x = big_from-lt (suc i) n xs small in
    let less_y = big_from-lt (suc i) n ys other in
    let heads = same_heads (slice_index xs i) (slice_index ys i) (256 ^ n) (big_from (suc i) n xs) (big_from (suc i) n ys) less_x less_y same in
    let tails = same_tails (slice_index xs i) (slice_index ys i) (256 ^ n) (big_from (suc i) n xs) (big_from (suc i) n ys) heads same in
    elim (cases_order k i) [
      | inl here ↦ rw here heads
      | inr (inl less) ↦ absurd (omega arith)
      | inr (inr more) ↦ same_bytes n (suc i) xs ys small other tails k (omega arith) (omega arith)
    ]

bytes_drop : (place : ℕ) (xs : List ℕ) → IsBytes xs → IsBytes (drop place xs)
bytes_drop place xs small i = rw (get_or-drop place xs i 0) (small (place + i))

-- the octets of equal fields are equal
same_field : (place n : ℕ) (xs ys : List ℕ) → IsBytes xs → IsBytes ys → field place n xs ≡ field place n ys → (k : ℕ) → place ≤ k → k < place + n
    → slice_index xs k ≡ slice_index ys k
same_field place n xs ys small other same k low high =
    let moved = same_bytes n 0 (drop place xs) (drop place ys) (bytes_drop place xs small) (bytes_drop place ys other) same (k - place) (omega arith)
    (omega arith)
    in
    let back : k ≡ place + (k - place) = omega arith in
    rw back (sym (get_or-drop place xs (k - place) 0) ∙ moved ∙ get_or-drop place ys (k - place) 0)

-- two spellings with zeros in the padding are one
same_octets : {xs ys : List ℕ} {p : Pcf} → Spells xs p → Spells ys p → IsBytes xs → IsBytes ys
    → ((i : ℕ) → IsPadding i → slice_index xs i ≡ 0) → ((i : ℕ) → IsPadding i → slice_index ys i ≡ 0) → xs ≡ ys
same_octets {xs} {ys} x y small other zeros none =
    ext_get_or 0 xs ys (x.size ∙ sym y.size)
    (λ i within.
    elim (cases_lt i 14) [
      | inl a ↦ elim (cases_lt i 6) [
        | inl b ↦ same_field 0 6 xs ys small other (x.destination ∙ sym y.destination) i (omega arith) (omega arith)
        | inr b ↦ elim (cases_lt i 12) [
          | inl d ↦ same_field 6 6 xs ys small other (x.source ∙ sym y.source) i b (omega arith)
          | inr d ↦ same_field 12 2 xs ys small other (x.ethertype ∙ sym y.ethertype) i d (omega arith)
        ]
      ]
      | inr a ↦ elim (cases_lt i 26) [
        | inl b ↦ elim (cases_lt i 18) [
          | inl d ↦ same_field 14 4 xs ys small other (x.cycle ∙ sym y.cycle) i a (omega arith)
          | inr d ↦ elim (cases_lt i 22) [
            | inl e ↦ same_field 18 4 xs ys small other (x.members ∙ sym y.members) i d (omega arith)
            | inr e ↦ x.reserved i (inl (e, omega arith)) ∙ sym (y.reserved i (inl (e, omega arith)))
          ]
        ]
        | inr b ↦ elim (cases_lt i 29) [
          | inl d ↦ elim (cases_lt i 27) [
            | inl e ↦ let here : i ≡ 26 = omega arith in rw here (x.priority ∙ sym y.priority)
            | inr e ↦ elim (cases_lt i 28) [
              | inl f ↦ let here : i ≡ 27 = omega arith in rw here (x.domain ∙ sym y.domain)
              | inr f ↦ let here : i ≡ 28 = omega arith in rw here (x.kind ∙ sym y.kind)
            ]
          ]
          | inr d ↦ elim (cases_lt i 34) [
            | inl e ↦ x.reserved i (inr (d, omega arith)) ∙ sym (y.reserved i (inr (d, omega arith)))
            | inr e ↦ elim (cases_lt i 42) [
              | inl f ↦ same_field 34 8 xs ys small other (x.clock ∙ sym y.clock) i e (omega arith)
              | inr f ↦
                  let low : i < 60 = omega (arith, x.size) in
                  zeros i (f, low) ∙ sym (none i (f, low))
            ]
          ]
        ]
      ]
    ])

-- ---- there is one storm of a seed

-- what holds of some element of two lists holds of one of the first or of the second
any_either : {X : Type 0} (P : X → Type 0) (xs ys : List X) → Any P (xs ++ ys) → Any P xs ⊎ Any P ys
any_either P [] ys any = inr any
any_either P (x ∷ xs) ys any =
    elim (any_of P x (xs ++ ys) any) [
      | inl here ↦ inl (any_first P x xs here)
      | inr behind ↦ elim (any_either P xs ys behind) [
        | inl a ↦ inl (any_behind P x xs a)
        | inr b ↦ inr b
      ]
    ]

any_here : {X : Type 0} (P : X → Type 0) (front : List X) (x : X) (behind : List X) → P x → Any P (front ++ x ∷ behind)
any_here P [] x behind holds = any_first P x behind holds
any_here P (y ∷ front) x behind holds = any_behind P y (front ++ x ∷ behind) (any_here P front x behind holds)

-- events within the hypothesis break one device
one_broken : (network : Network) (before : List Event) → AreWithinHypothesis network before → (d e : DeviceId) → IsBroken before d → IsBroken before e → d ≡ e
one_broken network before within d e broken other =
    let s = any_split (Breaks d) before broken in
    elim (any_either (Breaks e) s.0 (s.1 ∷ s.2) (subst (Any (Breaks e)) s.3 other)) [
      | inl front ↦ absurd (within s.0 s.2 s.1 s.3 SecondBreak (record { device = d; broken = e; breaks = s.4; is_broken = front }))
      | inr rest ↦ elim (any_of (Breaks e) s.1 s.2 rest) [
        | inl here ↦ cc
        | inr behind ↦
            let t = any_split (Breaks e) s.2 behind in
            let order = s.3 ∙ ap (λ l. s.0 ++ s.1 ∷ l) t.3 ∙ sym (append_assoc s.0 (s.1 ∷ t.0) (t.1 ∷ t.2)) in
            absurd
            (within (s.0 ++ s.1 ∷ t.0) t.2 t.1 order SecondBreak
            (record { device = e; broken = d; breaks = t.4; is_broken = any_here (Breaks d) s.0 s.1 t.0 s.4 }))
      ]
    ]

abbrev id_of : ℕ → DeviceId
id_of n = record { 0 = n }

-- a network has one last master
one_last : {network : Network} {a b : DeviceId} → IsLastMaster network a → IsLastMaster network b → a ≡ b
one_last {a} {b} last other =
    elim (cases_order a.0 b.0) [
      | inl same ↦ (ap id_of same)
      | inr (inl less) ↦ absurd (last.last b less other.master)
      | inr (inr more) ↦ absurd (other.last a more last.master)
    ]

-- a broken master has one forged send
one_send : {network : Network} (before : List Event) {device : DeviceId} {time : Units} {draw : StormDraw} {w v : What}
    → KeepsRules network → AreWithinHypothesis network before → IsBroken before device
    → SendsForged network device time draw w → SendsForged network device time draw v → w ≡ v
one_send {network} before {device} {time} {draw} rules within broken a b =
    let a_at = a.at in
    let b_at = b.at in
    let masters : a.master ≡ b.master = cc in
    let a_numbered = a.numbered in
    let b_numbered = b.numbered in
    let numbers = ap (λ d. d.member) masters in
    let members : a.member ≡ b.member = cc in
    let end = master_is_end network device (broken_is_master network before within device broken) in
    let one = (rules Connections device.0).ends end (channel_of draw) in
    let links = one.2 a.link a.uplink ∙ sym (one.2 b.link b.uplink) in
    let frames : forged network b.master b.member time draw ≡ forged network a.master a.member time draw =
    ap (λ d. forged network d b.member time draw) (sym masters) ∙ ap (λ m. forged network a.master m time draw) (sym members)
    in
    let octets = same_octets a.spells (rw (sym frames) b.spells)
    a.bytes b.bytes a.padding b.padding
    in
    let same : kinds.Send a.link a.octets ≡ kinds.Send b.link b.octets = cc in
    a.sends ∙ same ∙ sym b.sends

-- a strike is one
one_strike : {network : Network} {before : List Event} {time : Units} {draw : StormDraw} {w v : What} → KeepsRules network
    → AreWithinHypothesis network before → Strikes network before time draw w → Strikes network before time draw v
    → w ≡ v
one_strike rules within (inl a) (inl b) =
    a.breaks ∙ (rw (one_last a.last b.last) (sym b.breaks))
one_strike rules within (inl a) (inr b) = absurd (a.none b.0 b.1)
one_strike rules within (inr a) (inl b) = absurd (b.none a.0 a.1)
one_strike {network} {before} {time} {draw} {v} rules within (inr a) (inr b) =
    let same = one_broken network before within b.0 a.0 b.1 a.1 in
    one_send before rules within a.1 a.2 (rw same at b.2)

one_of_some : {X : Type 0} (o : Option X) (f : X → What) (w v : What) → IsSomeAnd o (λ x. w ≡ f x) → IsSomeAnd o (λ x. v ≡ f x) → w ≡ v
one_of_some None f w v a b = absurd a
one_of_some (Some x) f w v a b = a ∙ sym b

-- what is chosen is one
one_chosen : (network : Network) (before : List Event) (time : Units) (draw : StormDraw) (choice : Choice) (w v : What) → KeepsRules network
    → AreWithinHypothesis network before → IsChosen network before time draw choice w → IsChosen network before time draw choice v → w ≡ v
one_chosen network before time draw Rate w v rules within a b = a ∙ sym b
one_chosen network before time draw Wire w v rules within a b =
    one_of_some (link_at network (link_of network draw)) (λ l. kinds.Wire (link_of network draw) (way_of draw)
    (wire_of l draw)) w v a b
one_chosen network before time draw Hold w v rules within a b =
    one_of_some (link_at network (link_of network draw)) (λ l. kinds.Hold (link_of network draw) (way_of draw)
    (hold_of l draw)) w v a b
one_chosen network before time draw Cut w v rules within a b = a ∙ sym b
one_chosen network before time draw Heal w v rules within a b = a ∙ sym b
one_chosen network before time draw On w v rules within a b = a ∙ sym b
one_chosen network before time draw Strike w v rules within a b = one_strike rules within a b

abbrev at_time : Units → What → Event
at_time time what = record { time = time; what = what }

-- a step has one event
one_event : {network : Network} {before : List Event} {time : Units} {draw : StormDraw} {a b : Event} → KeepsRules network
    → AreWithinHypothesis network before → IsEventOf network before time draw a
    → IsEventOf network before time draw b → a ≡ b
one_event {network} {before} {time} {draw} rules within is other =
    let same = one_chosen network before time draw (choice_of draw.kind) is.drawn other.drawn rules within is.is_drawn other.is_drawn in
    elim is.becomes [
      | inl good ↦ elim other.becomes [
        | inl fine ↦ good.1 ∙ ap (at_time time) same ∙ sym fine.1
        | inr bad ↦ absurd (bad.0 (rw same at good.0))
      ]
      | inr bad ↦ elim other.becomes [
        | inl fine ↦ absurd (bad.0 (rw same fine.0))
        | inr worse ↦ bad.1 ∙ sym worse.1
      ]
    ]

module _ (network : Network) (seed cycles : ℕ) where
  -- the event of a number is one
  pub one_storm_event : {before : List Event} (n : ℕ) {a b : Event} → KeepsRules network
      → AreWithinHypothesis network before → IsStormEvent network seed cycles before n a
      → IsStormEvent network seed cycles before n b → a ≡ b
  one_storm_event n rules within (inl x) (inl y) =
      one_event rules within x.1 y.1
  one_storm_event n rules within (inl x) (inr y) = absurd (omega (arith, x.0, y.0))
  one_storm_event n rules within (inr x) (inl y) = absurd (omega (arith, x.0, y.0))
  one_storm_event n rules within (inr x) (inr y) = x.1 ∙ sym y.1

  -- behind the same events, as many events of a storm are the same
  same_rest : (front rest other : List Event) → KeepsRules network → AreWithinHypothesis network (front ++ rest)
      → AreStormEvents network seed cycles (front ++ rest) → AreStormEvents network seed cycles (front ++ other)
      → length rest ≡ length other → rest ≡ other
  same_rest front [] [] rules within a b size = refl
  same_rest front [] (y ∷ other) rules within a b size = absurd (omega arith)
  same_rest front (x ∷ rest) [] rules within a b size = absurd (omega arith)
  same_rest front (x ∷ rest) (y ∷ other) rules within a b size =
      let heads = one_storm_event (length front) rules (within_front network front (x ∷ rest) within)
      (a front rest x refl)
      (b front other y refl)
      in
      let moved = sym (append_assoc front (x ∷ []) rest) in
      let shifted = ap (λ e. front ++ e ∷ other) (sym heads) ∙ sym (append_assoc front (x ∷ []) other) in
      let tails = same_rest (front ++ x ∷ []) rest other rules (subst (AreWithinHypothesis network) moved within)
      (subst (AreStormEvents network seed cycles) moved a) (subst (AreStormEvents network seed cycles) shifted b)
      (omega arith)
      in
      rw heads ((rw tails))

pub one_storm : StormIsOne
one_storm network seed cycles storm other rules few a b =
    same_rest network seed cycles [] storm other rules (storms_within network seed cycles storm few a.each) a.each b.each (a.whole ∙ sym b.whole)

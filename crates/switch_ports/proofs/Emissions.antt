-- The frames of masters at a compression master, its links, and how it stands when it has sent one.
use Rattle.std.{specs.{Int.{int_max, trailing_zeros, w32}, List.AllByRecursion, Prelude.{is_some, unsigned_abs}}}
use Rattle.std.proofs.{Common.{All, IsTrue, arith, negsuc}, Math.Pow.pow-lt}
use Rattle.std.proofs.{lemmas.{Nat.Bits.bit_at-trailing_zeros, Option.{same_Some, slice_get_cases}}}
use Rattle.compression.{specs.Role.{has_point_of, open_at}}
use Rattle.compression.proofs.{Collectors.{last_split, open_at-some}}
use Rattle.compression.proofs.{Growth.{in_filter, in_filter_from, room_for_each_master}}
use Rattle.net_plan.specs.{Paths.IsFirstPath, Places.{IsCmOf, IsEndSystem, IsRoleOf, device_at}, Ranges.IsDeviceInRange}
use Rattle.net_plan.specs.{Rules.{IsChildOf, most_masters}, declared.tables.Role.{Role, TheVariants.{Cm, Relay}}}
use Rattle.run_law.{proofs.scenario.Devices.cm_role}
use Rattle.run_law.specs.{machines.{Calls.{HasLink, IsOneMaster}, Tasks.{IsFirstTask, order_of}}}
use Rattle.run_law.specs.{records.Order.IsBefore, scenario.Devices.{channel_of, is_cm_role}}
use Rattle.schedule_tables.proofs.Margins.{master_ends}
use Rattle.switch_ports.{specs.Members.member_numbers}
use Rattle.switch_ports.proofs.{SwitchStates.{head_there, one_of_four}}
use Rattle.switch_ports.proofs.Pending
use Pending.{IsClocked, IsEmission, emission_pending, first_opened, in_map, kind_of, opened_beyond, some_window, to_map}
use Rattle.switch_ports.proofs.Words
use Words.{if◌then◌else◌, ◌++◌, ◌+ℤ◌, ◌-ℤ◌, ◌<ℤ◌, ◌<◌, ◌==◌, ◌^◌, ◌∙◌, ◌∷◌, ◌≡◌, ◌≤ℤ◌, ◌≤◌, ◌⊎◌, A, All-contains}
use Words.{All-contains_itself, B, Bool, Channel, Cluster, Collecting, Compressed, Contains, Contains-append_left}
use Words.{Contains-append_right, Device, DeviceId, IfSome, IsAccepted, IsLeast, IsPending, IsSomeAnd, Link, LinkId}
use Words.{List, MayCall, Members, Moment, Network, Node, None, Option, Phase, Some, StandsAs, StandsForPoints, Switch}
use Words.{Task, Units, [], ap, cases_Bool, compressed, correcting, dispatching, doing, emission, emissions, emitting}
use Words.{false, get_or, in_all, in_head, inl, inr, ints, is_cm, is_end_system, is_master, length, length-map, link_at}
use Words.{master_of, masters, neg_ℤ, option_and_then, option_map_or, pos, reading_for, refl, sending, slice_get}
use Words.{slice_get-get_or, subst, suc, sym, true, unwrap_or, zero, ℕ, ℤ}
use Rattle.sync_state.proofs.membership_lemmas.SetLemmas.{single-members}
use Rattle.schedule_tables.specs.declared.rule.Rule.TheVariants as rules

-- ---- the links of a compression master

-- a link whose parent is the channel's compression master
abbrev LeadsUp : Network → Channel → Type 0
LeadsUp network channel = (link : LinkId) × IsSomeAnd (link_at network link) (λ l. IsCmOf network channel l.parent)

module _ (network : Network) (channel : Channel) where
  step_up : (o : Option Link) (P : DeviceId → Type 0) → IsSomeAnd o (λ l. P l.parent)
      → ((d : DeviceId) → P d → IsCmOf network channel d ⊎ LeadsUp network channel)
      → IsSomeAnd o (λ l. IsCmOf network channel l.parent) ⊎ LeadsUp network channel
  step_up None P h go = absurd h
  step_up (Some l) P h go = go l.parent h

  leads : (device : DeviceId) (links : List LinkId) → IsFirstPath network channel device links
      → IsCmOf network channel device ⊎ LeadsUp network channel
  leads device [] p = inl p
  leads device (link ∷ links) p =
      elim (step_up (link_at network link) (λ d. IsFirstPath network channel d links) p.1 (λ d q. leads d links q)) [
        | inl here ↦ inr (link, here)
        | inr more ↦ inr more
      ]

is_cm_of_by : (o : Option Device) (channel : Channel) → option_map_or (λ d. is_cm_role d.role) o false ≡ true
    → option_and_then (λ d. d.channel) o ≡ Some channel → IsSomeAnd o (λ d. (d.role ≡ Cm) × (d.channel ≡ Some channel))
is_cm_of_by None channel e f = absurd cc
is_cm_of_by (Some d) channel e f = (cm_role d.role e, f)

no_master : (o : Option Device) (channel : Channel) → IsSomeAnd o (λ d. (d.role ≡ Cm) × (d.channel ≡ Some channel))
    → IsSomeAnd o (λ d. is_end_system d.role ≡ true) → ⊥
no_master None channel h k = h
no_master (Some d) channel h k = let e : is_end_system Cm ≡ true = subst (λ r. is_end_system r ≡ true) h.0 k in cc

there_as : (o : Option Device) (d : Device) (P : Device → Type 0) → o ≡ Some d → P d → IsSomeAnd o P
there_as o d P e h = subst (λ (p : Option Device). IsSomeAnd p P) (sym e) h

parent_is : (network : Network) (channel : Channel) (device : DeviceId) (o : Option Link) → ((d : DeviceId) → IsCmOf network channel d → d ≡ device)
    → IsSomeAnd o (λ l. IsCmOf network channel l.parent) → IsSomeAnd o (λ l. l.parent ≡ device)
parent_is network channel device None one h = absurd h
parent_is network channel device (Some l) one h = one l.parent h

two_same : (x y z : DeviceId) → x ≡ z → y ≡ z → x ≡ y
two_same x y z a b = a ∙ sym b

only_cm : {network : Network} (channel : Channel) (device d : DeviceId) → IsAccepted network
    → IsCmOf network channel device → IsCmOf network channel d → d ≡ device
only_cm A device d accepted h k =
    let one = (accepted.rules rules.CompressionMasters 0).on_a refl in two_same d device one.0 (one.2 d k) (one.2 device h)
only_cm B device d accepted h k =
    let one = (accepted.rules rules.CompressionMasters 1).on_b refl in two_same d device one.0 (one.2 d k) (one.2 device h)

-- some link leads up to it
pub cm_linked : {network : Network} (device : DeviceId) (channel : Channel) → IsAccepted network
    → is_cm network device ≡ true → channel_of network device ≡ Some channel → HasLink network device
cm_linked {network} device channel accepted cm on =
    let is : IsCmOf network channel device = is_cm_of_by (device_at network device) channel cm on in
    let d = head_there (masters network) (one_of_four _ ((accepted.rules rules.Masters 0).least refl)) in
    let at = in_filter (λ (x : Device). is_master x.role) network.device d.0 d.1 in
    let there : slice_get network.device at.0.0 ≡ Some d.0 = slice_get-get_or network.device at.0.0 d.0 at.0.1 ∙ ap Some at.0.2 in
    let end = there_as (slice_get network.device at.0.0) d.0 (λ x. is_end_system x.role ≡ true) there (master_ends d.0.role at.1) in
    let path = (accepted.rules rules.Connections at.0.0).paths channel
    (there_as (slice_get network.device at.0.0) d.0 (λ x. (is_end_system x.role ≡ true) ⊎ (x.channel ≡ Some channel)) there
    (inl (master_ends d.0.role at.1))) in
    elim (leads network channel (record { 0 = at.0.0 }) path.0 path.2) [
      | inl same ↦ absurd (no_master (slice_get network.device at.0.0) channel same end)
      | inr up ↦ (up.0, inr (parent_is network channel device (link_at network up.0) (λ x k. only_cm channel device x accepted is k) up.1))
    ]

below_by : (network : Network) (device : DeviceId) (o : Option Link) → ((l : Link) → o ≡ Some l → l.child ≡ device → ⊥) → IsSomeAnd o (λ l. l.child ≡ device)
    → ⊥
below_by network device None f h = h
below_by network device (Some l) f h = f l refl h

no_relay : (o : Option Device) (channel other : Channel) → IsSomeAnd o (λ d. (d.role ≡ Cm) × (d.channel ≡ Some channel))
    → IsSomeAnd o (λ d. (d.role ≡ Relay) × (d.channel ≡ Some other)) → ⊥
no_relay None channel other h k = h
no_relay (Some d) channel other h k = let e : Cm ≡ Relay = sym h.0 ∙ k.0 in cc

module _ (network : Network) (device : DeviceId) (channel : Channel) where
  never_below : (other : Channel) (l : Link) → (IsEndSystem network l.child ⊎ IsRoleOf network Relay other l.child)
      → l.child ≡ device → IsCmOf network channel device → ⊥
  never_below other l below is cm = grind (arith, no_master, no_relay)

  -- it is the child of none
  pub not_child : (link : LinkId) → IsAccepted network → is_cm network device ≡ true
      → channel_of network device ≡ Some channel → IsChildOf network device link → ⊥
  not_child link accepted cm on h =
      below_by network device (link_at network link) (λ l e is. never_below (accepted.rules rules.Joints link.0 l e).0 l
      (accepted.rules rules.Joints link.0 l e).2 is (is_cm_of_by (device_at network device) channel cm on)) h

-- ---- how a compression master stands when it has sent a frame

-- the device that has sent one frame more
abbrev pub with_sent : Node → Compressed → Node
with_sent node sent = record node { emitted = node.emitted ++ sent ∷ [] }

most_of : (a b limit : ℤ) → a ≤ℤ limit → b ≤ℤ limit → int_max a b ≤ℤ limit
most_of a b limit h k = grind (arith, ints, h, k)

all_front : (P : Compressed → Type 0) (xs ys : List Compressed) → All P (xs ++ ys) → All P xs
all_front P xs ys all = λ k d lt. All-contains P (xs ++ ys) (get_or xs k d) all (Contains-append_left xs ys (get_or xs k d) (All-contains_itself xs k d lt))

all_last : (P : Compressed → Type 0) (xs : List Compressed) (x : Compressed) → All P (xs ++ x ∷ []) → P x
all_last P xs x all = All-contains P (xs ++ x ∷ []) x all (Contains-append_right xs (x ∷ []) x (in_head x []))

-- the switch that has sent it
pub sent_stands : {s : Switch} {collector : Collecting} {network : Network} {device : DeviceId} {node : Node}
    (sent : Compressed) → StandsAs s network device node → collector
    ≡ record s.collector { earliest = int_max s.collector.earliest sent.at.0; waiting = collector.waiting }
    → StandsForPoints collector node.points (node.emitted ++ sent ∷ [])
    → StandsAs (record s { collector = collector }) network device (with_sent node sent)
sent_stands {s} {node} sent st kept stands = record {
  accepted = st.accepted;
  intake = st.intake;
  site = st.site;
  sound = st.sound;
  standing = st.standing;
  plan = st.plan;
  heard = st.heard;
  changed = st.changed;
  corrects = st.corrects;
  done = st.done;
  begun = st.begun;
  small = st.small;
  steady = λ timed. let o = st.steady timed in record { number = o.number; lower = o.lower; upper = o.upper; joined = o.joined; fair = o.fair };
  collects = record {
    collected = stands;
    window = ap (λ (c : Collecting). c.ow) kept ∙ st.collects.window;
    calc = ap (λ (c : Collecting). c.calc) kept ∙ st.collects.calc;
    idle = st.collects.idle;
    earliest = λ limit low points emitted.
        subst (λ (c : Collecting). c.earliest ≤ℤ limit) (sym kept)
        (most_of s.collector.earliest sent.at.0 limit
        (st.collects.earliest limit low points (all_front (λ e. e.at.0 ≤ℤ limit) node.emitted (sent ∷ []) emitted))
        (all_last (λ e. e.at.0 ≤ℤ limit) node.emitted sent emitted));
    masters = st.collects.masters;
    from_zero = st.collects.from_zero;
  };
  departs = st.departs;
  awaits = st.awaits;
}

-- what is left to do then was to be done before
pub pending_before : (network : Network) (device : DeviceId) (node : Node) (sent : Compressed) (task : Task)
    → IsPending network device (with_sent node sent) task → IsPending network device node task
pending_before network device node sent (emitting e) p = grind (arith, Contains-append_left)
pending_before network device node sent (doing (sending cycle)) p = (p.0, record { own = p.1.own; ahead = p.1.ahead; not_yet = p.1.not_yet })
pending_before network device node sent (doing (correcting cycle)) p = (p.0, record { own = p.1.own; ahead = p.1.ahead; not_yet = p.1.not_yet })
pending_before network device node sent (doing (dispatching row cycle)) p = grind arith

same_reading : (network : Network) (node : Node) (sent : Compressed) (task : Task) → reading_for network (with_sent node sent) task ≡ reading_for network node
    task
same_reading network node sent (emitting e) = refl
same_reading network node sent (doing deed) = refl

module _ (network : Network) (device : DeviceId) (node : Node) (sent : Compressed) (moment : Moment) where
  all_done_before : (task : Task) → ((task : Task) → IsPending network device node task
      → node.last.reading.0 <ℤ reading_for network node task) → IsPending network device (with_sent node sent) task
      → node.last.reading.0 <ℤ reading_for network (with_sent node sent) task
  all_done_before task h p =
      subst (λ z. node.last.reading.0 <ℤ z) (sym (same_reading network node sent task))
      (h task (pending_before network device node sent task p))

  in_time_before : (task : Task) → ((task : Task) → IsPending network device node task
      → moment.reading.0 <ℤ (reading_for network node task +ℤ network.precision.0))
      → IsPending network device (with_sent node sent) task
      → moment.reading.0 <ℤ (reading_for network (with_sent node sent) task +ℤ network.precision.0)
  in_time_before task h p =
      subst (λ z. moment.reading.0 <ℤ (z +ℤ network.precision.0)) (sym (same_reading network node sent task))
      (h task (pending_before network device node sent task p))

  -- so it may be called as before
  pub may_before : {phase : Phase} → MayCall network device node moment phase
      → MayCall network device (with_sent node sent) moment phase
  may_before may = record {
    later = may.later;
    in_order = may.in_order;
    all_done = λ lt task p. all_done_before task (may.all_done lt) p;
    in_time = λ task p. in_time_before task may.in_time p;
  }

-- ---- it is the first task

to_recursion : {X : Type 0} (P : X → Type 0) (xs : List X) → All P xs → AllByRecursion P xs
to_recursion P [] all = tt
to_recursion P (x ∷ xs) all = (all 0 x (omega arith), to_recursion P xs (λ k d lt. all (suc k) d (omega (arith, lt))))

above : (x : ℤ) → pos 0 ≤ℤ x → neg_ℤ (pos 1) <ℤ x
above x h = omega (arith, ints, h)

below : (x : ℤ) → neg_ℤ (pos 1) <ℤ x → pos 0 ≤ℤ x
below x h = omega (arith, ints, h)

opened_from_zero : {s : Switch} {network : Network} {device : DeviceId} {node : Node} (c : Cluster)
    → StandsAs s network device node → Contains s.collector.waiting c → pos 0 ≤ℤ c.opened
opened_from_zero {s} {node} c st at =
    let held = st.collects.collected in
    below c.opened
    (opened_beyond s.collector.ow (neg_ℤ (pos 1)) node.points (held.done ++ s.collector.waiting) c
    (to_recursion (λ q. neg_ℤ (pos 1) <ℤ q.reading) node.points (λ k d lt. above _ (st.collects.from_zero k d lt))) held.clusters
    (Contains-append_right held.done s.collector.waiting c at))

not_less : (x y : ℤ) → pos 0 ≤ℤ x → x ≤ℤ y → unsigned_abs y < unsigned_abs x → ⊥
not_less (pos m) (pos n) a b lt = omega (arith, ints, b, lt)
not_less (pos m) (negsuc n) a b lt = omega (arith, ints, a, b)
not_less (negsuc m) y a b lt = omega (arith, ints, a)

order_of_two : (m n : ℕ) → (m < n → ⊥) → IsBefore (0 ∷ m ∷ []) (0 ∷ n ∷ []) → ⊥
order_of_two m n h (inl lt) = omega (arith, lt)
order_of_two m n h (inr (e, inl lt)) = h lt
order_of_two m n h (inr (e, inr more)) = more.1

module _ (s : Switch) (network : Network) (device : DeviceId) (node : Node) where
  order_first : (first : Cluster) (rest : List Cluster) (task : Task) → StandsAs s network device node
      → s.collector.waiting ≡ first ∷ rest → IsEmission s task
      → IsBefore (order_of network task) (0 ∷ unsigned_abs first.opened ∷ []) → ⊥
  order_first first rest (doing deed) st is h before = h
  order_first first rest (emitting sent) st is (c, at, e) before =
      let zero_on =
      opened_from_zero first st (subst (λ (cs : List Cluster). Contains cs first) (sym is) (in_head first rest)) in
      let le = first_opened first rest c (some_window s network device node st) st.collects.collected is at in
      let opened : sent.opened.0 ≡ c.opened = ap (λ (x : Compressed). x.opened.0) e in
      order_of_two (unsigned_abs sent.opened.0) (unsigned_abs first.opened)
      (λ lt. not_less first.opened c.opened zero_on le
      (subst (λ (z : ℤ). unsigned_abs z < unsigned_abs first.opened) opened lt)) before

  order_other : (n : ℕ) (task : Task) → IsClocked s network device node task
      → IsBefore (order_of network task) (0 ∷ n ∷ []) → ⊥
  order_other n (doing (correcting cycle)) p (inl lt) = omega (arith, lt)
  order_other n (doing (correcting cycle)) p (inr more) = omega (arith, more.0)
  order_other n (doing (dispatching row cycle)) p (inl lt) = omega (arith, lt)
  order_other n (doing (dispatching row cycle)) p (inr more) = omega (arith, more.0)
  order_other n (emitting sent) (inl p) before = p
  order_other n (emitting sent) (inr p) before = p
  order_other n (doing (sending cycle)) (inl p) before = p
  order_other n (doing (sending cycle)) (inr p) before = p

  -- the first collection's frame is the first task
  pub first_emission : (sent : Compressed) (first : Cluster) (rest : List Cluster) (reading : ℤ)
      → StandsAs s network device node → s.collector.waiting ≡ first ∷ rest
      → sent ≡ compressed s.collector.ow s.collector.calc first → sent.at.0 ≤ℤ reading
      → IsFirstTask network device node reading (emitting sent)
  first_emission sent first rest reading st is e due = record {
    pending =
        subst (λ (x : Compressed). IsPending network device node (emitting x)) (sym e)
        (emission_pending s network device node first st
        (subst (λ (cs : List Cluster). Contains cs first) (sym is) (in_head first rest)));
    due = due;
    first = λ other q here before. elim (kind_of s network device node other st q) [
      | inl x ↦ order_first first rest other st is x
          (subst (λ (z : ℤ). IsBefore (order_of network other) (0 ∷ unsigned_abs z ∷ []))
          (ap (λ (x : Compressed). x.opened.0) e) before)
      | inr y ↦ order_other _ other y before
    ];
  }

pub reached_by : (o : Option Units) (reading : ℤ) {x : ℤ} {es : List ℤ} → IsSomeAnd o (λ at. at.0 ≤ℤ reading)
    → IfSome o (λ at. IsLeast at.0 es) → IsLeast x es → x ≤ℤ reading
reached_by None reading some least mine = absurd some
reached_by (Some at) reading {x} {es} some least mine =
    let le = All-contains (λ y. x ≤ℤ y) es at.0 mine.bound least.there in omega (arith, ints, le, some)

-- ---- the frames of one master at a compression master

-- a device with this member number, if it is there
record HasMember (network : Network) (o : Option Device) (m : ℕ) : Type 0 where
  d : Device
  there : o ≡ Some d
  member : d.member ≡ Some m

member_by : (network : Network) (d : Device) (o : Option ℕ) → d.member ≡ o → (members : Members) → IsSomeAnd o (λ k. members.0 ≡ 2 ^ k) → (k : ℕ)
    × HasMember network (Some d) k × (members.0 ≡ 2 ^ k)
member_by network d None e members h = absurd h
member_by network d (Some k) e members h = (k, record { d = d; there = refl; member = e }, h)

slice_there : {X : Type 0} (xs : List X) (i : ℕ) (x : X) → slice_get xs i ≡ Some x → Contains xs x
slice_there xs i x e = grind (arith, slice_get_cases, same_Some)

has_member : (network : Network) (o : Option Device) (members : Members) → IsSomeAnd (option_and_then (λ (d : Device). d.member) o) (λ k. members.0 ≡ 2 ^ k)
    → (k : ℕ) × HasMember network o k × (members.0 ≡ 2 ^ k)
has_member network None members h = absurd h
has_member network (Some d) members h = member_by network d d.member refl members h

number_known : (o : Option ℕ) (m : ℕ) → o ≡ Some m → IfSome o (λ k. k ≤ 31) → m ≤ 31
number_known o m e h = subst (λ (p : Option ℕ). IfSome p (λ k. k ≤ 31)) e h

is_master_by : (b : Bool) (o : Option ℕ) (m : ℕ) → is_some o ≡ b → o ≡ Some m → b ≡ true
is_master_by b o m e f = sym e ∙ ap is_some f

-- the members are the bit of a master number of the network, which is below 32
pub record IsBit (network : Network) (members : Members) : Type 0 where
  pub number : ℕ
  pub small : number ≤ 31
  pub there : Contains (member_numbers network) number
  pub bit : members.0 ≡ 2 ^ number

pub is_bit : {network : Network} (members : Members) → IsAccepted network → IsOneMaster network members
    → IsBit network members
is_bit {network} members accepted (master, h) =
    let m = has_member network (device_at network master) members h in
    let range = in_all IsDeviceInRange network.device master.0 m.1.d accepted.range.devices m.1.there in
    let at = slice_there network.device master.0 m.1.d m.1.there in
    let among : Contains (masters network) m.1.d = in_filter_from (λ (x : Device). is_master x.role) network.device m.1.d at
    (is_master_by (is_master m.1.d.role) m.1.d.member m.0 range.masters m.1.member) in
    record {
      number = m.0;
      small = number_known m.1.d.member m.0 m.1.member range.member;
      there =
          subst (Contains (member_numbers network)) (ap (λ (o : Option ℕ). unwrap_or o 0) m.1.member)
          (to_map (λ (x : Device). unwrap_or x.member 0) (masters network) m.1.d among);
      bit = m.2;
    }

pow_positive : (n : ℕ) → 0 < 2 ^ n
pow_positive zero = omega arith
pow_positive (suc n) = let h = pow_positive n in omega (arith, h)

few : (n : ℕ) → n ≤ 31 → n < 32
few n h = omega (arith, h)

bit_small : (n : ℕ) → n ≤ 31 → 2 ^ n < 2 ^ 32
bit_small n h = pow-lt (few n h)

-- so its lowest bit is below 32
pub master_small : {network : Network} {members : Members} → IsBit network members → trailing_zeros w32 members.0 < 32
master_small h =
    rw h.bit ((bit_at-trailing_zeros w32 (2 ^ h.number) (pow_positive h.number) (bit_small h.number h.small)).0)

-- and is that number
pub master_is : {network : Network} {members : Members} (h : IsBit network members) → master_of members.0 ≡ h.number
master_is h =
    let bits = (bit_at-trailing_zeros w32 (2 ^ h.number) (pow_positive h.number) (bit_small h.number h.small)).1 in
    rw h.bit ((single-members h.number (trailing_zeros w32 (2 ^ h.number))).0 bits)

few_by : (b : Bool) (n : ℕ) → n ≤ (if b then 5 else 8) → n ≤ 8
few_by true n h = omega (arith, h)
few_by false n h = h

few_enough : (v n : ℕ) → n ≤ most_masters v → n ≤ 8
few_enough v n h = few_by (v == 1) n h

fewer : (a b : ℕ) → a < b → b ≤ 8 → a < 8
fewer a b h k = omega (arith, h, k)

module _ {s : Switch} {network : Network} {device : DeviceId} {node : Node} {members : Members} (reading : ℤ)
    (st : StandsAs s network device node) (h : IsBit network members) where
  room_by : (o : Option Cluster) → open_at s.collector.waiting reading ≡ o
      → IfSome o (λ c. IsTrue (has_point_of c (master_of members.0)) ⊎ (length c.points < 8))
  room_by None e = tt
  room_by (Some c) e =
      let held = st.collects.collected in
      let last = last_split s.collector.waiting c (open_at-some s.collector.waiting reading c e).0 in
      let at : Contains s.collector.waiting c = subst (λ (cs : List Cluster). Contains cs c) (sym last.1)
      (Contains-append_right last.0 (c ∷ []) c (in_head c []))
      in
      elim (cases_Bool (has_point_of c (master_of members.0))) [
        | inl y ↦ inl y
        | inr n ↦
            let fewer_points = room_for_each_master s.collector.ow node.points (held.done ++ s.collector.waiting)
            (member_numbers network) held.clusters
            st.collects.masters c (Contains-append_right held.done s.collector.waiting c at) (master_of members.0)
            (subst (Contains (member_numbers network)) (sym (master_is h)) h.there) n in
            let most = few_enough network.version (length (masters network))
            ((st.accepted.rules rules.Masters 0).most refl) in
            let same : length (member_numbers network) ≡ length (masters network) = search (length-map) in
            inr (fewer _ _ fewer_points (subst (λ k. k ≤ 8) (sym same) most))
      ]

  -- there is room for the point of each master
  pub has_room : IfSome (open_at s.collector.waiting reading)
      (λ c. IsTrue (has_point_of c (master_of members.0)) ⊎ (length c.points < 8))
  has_room = room_by (open_at s.collector.waiting reading) refl

-- ---- each collection to come is later than the point less the window

later_by : (point reading at em prec ow : ℤ) → at ≡ em → ow ≡ prec → point ≤ℤ reading → reading <ℤ (em +ℤ prec) → (point -ℤ ow) <ℤ at
later_by point reading at em prec ow a b c d = omega (arith, ints, a, b, c, d)

pub all_later : {s : Switch} {network : Network} {device : DeviceId} {node : Node} {moment : Moment} {phase : Phase}
    (point : Units) → StandsAs s network device node → MayCall network device node moment phase
    → point.0 ≤ℤ moment.reading.0 → All (λ at. (point.0 -ℤ s.collector.ow) <ℤ at) (emissions s.collector)
all_later {s} {network} {device} {node} {moment} point st may reached = λ k d lt.
    let at = get_or (emissions s.collector) k d in
    let of = in_map (emission s.collector.ow s.collector.calc) s.collector.waiting at (All-contains_itself (emissions s.collector) k d lt) in
    let h = may.in_time (emitting (compressed s.collector.ow s.collector.calc of.0)) (emission_pending s network device node of.0 st of.1) in
    later_by point.0 moment.reading.0 at (emission s.collector.ow s.collector.calc of.0) network.precision.0 s.collector.ow of.2 st.collects.window reached h

-- Which messages an accepted network serves, and which have a place behind its rows.
use Rattle.std.proofs.{Math.Nat.{le-min, max-le}}
use Rattle.std.proofs.Common
use Common.{◌%◌, ◌&&◌, ◌*◌, ◌++◌, ◌+◌, ◌-◌, ◌<◌, ◌==◌, ◌∙◌, ◌∷◌, ◌≡◌, ◌≤◌, ◌⊎◌, Bool, List, None, Option, Some, [], ap}
use Common.{arith, cond, false, get_or, inl, inr, length, max, min, refl, subst, suc, sym, true, zero, ℕ, ⊎_elim}
use Rattle.std.proofs.lemmas.{Bool.{Decides.nat_tests, cases_lt, eq-eqb, eqb-true, false≢true}}
use Rattle.std.proofs.lemmas.{Option.{slice_get-get_or, slice_get_within}}
use Rattle.std.proofs.lemmas.List.{Sums.count_by-le-length, length-append}
use Rattle.std.proofs.lemmas.List.Elements
use Elements.{All-append, All-cons, All-head, All-nil, All-tail, Contains-append_left, Contains-append_right}
use Rattle.std.specs.{List.{All, AllZip, Contains, count_by, fold}, Option.{option_map_or, unwrap_or}}
use Rattle.std.specs.{Prelude.{IfSome, IsSomeAnd, nat_le, slice_get}}
use Rattle.lens_plan.proofs.{Leading.{Behind, Goes, IsRowBy, Lead, leads, relay_is}}
use Rattle.lens_plan.proofs.Attempts.{IsInTime, best_is_earliest, count_all, count_append, count_both, count_found}
use Rattle.lens_plan.proofs.Attempts.{count_le, own_attempt, way_one, whole}
use Rattle.schedule_checker.proofs.ShapeRules.{tree_of}
use Rattle.lens_plan.proofs.Courses
use Courses.{EntersIt, HasTrees, IsCourse, courses, end_is as system_is, one_link, one_target, reaches, sends, targets}
use Rattle.lens_plan.specs.{messages.{Message.Message, Values.is_end}}
use Rattle.lens_plan.specs.declared.places.{best.Attempt.Attempt}
use Rattle.lens_plan.specs.declared.places.{limits.Excess.{Excess, TheVariants.{Rows, RowsOf, VirtualLinks}}}
use Rattle.lens_plan.specs.declared.places.{offsets.Taken.Taken, placing.{Placed.Placed, Trial.Trial}}
use Rattle.lens_plan.specs.declared.places.{scoring.Score.Score, ways.Hop.Hop}
use Rattle.lens_plan.specs.joining.{Extends.{Begins, Extends}, Impossible.{NoneServes, NoneServesAll}}
use Rattle.lens_plan.specs.joining.{Served.{AreServed, IsAskedFor, IsReached, IsServedBy}}
use Rattle.lens_plan.specs.places.{Best.{IsBest, IsBestBy, in_phase}, Fitting.{HasPlace, IsUnfit}}
use Rattle.lens_plan.specs.places.{Limits.{AreHops, AreWays, IsExcess, hop_by_link, hop_leaves, once}, Offsets.Hits}
use Rattle.lens_plan.specs.places.{Placing.{IsOrdered, IsPlacedWay, delay_on, end_of, port_on, slot_of}}
use Rattle.lens_plan.specs.places.{Scoring.{is_down, is_last, limit_of, no_score, schedule_end, score_of, with_row}}
use Rattle.lens_plan.specs.places.{Spacing.{AreSpaced, IsPhaseBy, IsSpacedAt, IsSpacedTo, IsSpacedWay}, There.AreThere}
use Rattle.lens_plan.specs.places.{Trying.{AreTried, IsPlacedTo, start_of}, Ways.{IsWay, down_hops, hop_by, up_hops}}
use Rattle.net_plan.{proofs.Trees.{paths_are_unique, rules_give_trees}}
use Rattle.net_plan.specs.{Bounds.gamma_of, Paths.{IsPath, IsTree}}
use Rattle.net_plan.specs.{Places.{IsEndSystem, IsRoleOf, IsSwitchOf, device_at, is_end_system, link_at}}
use Rattle.net_plan.specs.{Ranges.{IsInRange, IsRowInRange}}
use Rattle.net_plan.specs.declared.{ids.{DeviceId.DeviceId, LinkId.LinkId, VlId.VlId}, network.Network.Network}
use Rattle.net_plan.specs.declared.tables.{Device.Device, Link.Link, Role.TheVariants.{Cm, Relay}, Row.Row}
use Rattle.net_plan.specs.declared.tables.{VirtualLink.VirtualLink, Way.{TheVariants.{Down, Up}, Way}}
use Rattle.precision_law.proofs.traffic_lemmas.faults.Channels.{one_channel}
use Rattle.run_law.proofs.law.FirstDeliveries.{in_front}
use Rattle.schedule_tables.{proofs.SlotLemmas.one_entry}
use Rattle.schedule_tables.specs.{Entries.{IsEntry, IsOnChannel, source_by, target_by, target_of}, Rules.KeepsRules}
use Rattle.schedule_tables.specs.{Schedule.{Coincide, EntersOn, leaves}, Windows.{port_time, tolerance, window_end}}
use Rattle.schedule_tables.specs.declared.{entry.Entry.Entry}
use Rattle.schedule_tables.specs.declared.rule.Rule.TheVariants
use TheVariants.{Forwarding, Joints, Limits, Periods, RowsOfDevice, Senders, Spacing, WindowEnds}
use Rattle.tte_units.proofs.general_lemmas.{Bools.{both_left, both_right}, Lists.{find_of, found_passes, in_all}}
use Rattle.tte_units.proofs.general_lemmas.{Options.{closed, opened, some_same}}
use Rattle.tte_units.specs.{Amount.amount, OctetTime.octet_time, Slip.slip_of}
use Rattle.tte_units.specs.{declared.frames.channel.Channel.{Channel, TheVariants.{A, B}}}

-- ---- a virtual link of an accepted network that serves a message, and its rows

-- an accepted network is a tree on each channel
pub tree_kept : (network : Network) → KeepsRules network → IsTree network
tree_kept network keeps = tree_of rules_give_trees network (λ rule below. keeps rule)

-- ---- what the extended network has of the other

module _ (network planned : Network) (extends : Extends network planned) where
  pub kept : {X : Type 0} (xs ys : List X) (k : ℕ) (x : X) → Begins xs ys → slice_get xs k ≡ Some x → slice_get ys k ≡ Some x
  kept xs ys k x (added, is) at = subst (λ (zs : List _). slice_get zs k ≡ Some x) (sym is) (in_front xs added k x at)

  -- its links
  link_there : (link : LinkId) (l : Link) → link_at network link ≡ Some l → link_at planned link ≡ Some l
  link_there link l at = subst (λ (ls : List Link). slice_get ls link.0 ≡ Some l) extends.links at

  pub link_back : (link : LinkId) (l : Link) → link_at planned link ≡ Some l → link_at network link ≡ Some l
  link_back link l at = subst (λ (ls : List Link). slice_get ls link.0 ≡ Some l) (sym extends.links) at

  -- what holds of a device
  pub device_there : (P : Device → Type 0) (device : DeviceId) → IsSomeAnd (device_at network device) P → IsSomeAnd (device_at planned device) P
  device_there P device h = subst (λ (ds : List Device). IsSomeAnd (slice_get ds device.0) P) extends.devices h

  pub device_back : (P : Device → Type 0) (device : DeviceId) → IsSomeAnd (device_at planned device) P → IsSomeAnd (device_at network device) P
  device_back P device h = subst (λ (ds : List Device). IsSomeAnd (slice_get ds device.0) P) (sym extends.devices) h

  -- its paths
  pub path_there : (channel : Channel) (device : DeviceId) (links : List LinkId) → IsPath network channel device links → IsPath planned channel device links
  path_there channel device [] cm = device_there (λ d. (d.role ≡ Cm) × (d.channel ≡ Some channel)) device cm
  path_there channel device (link ∷ links) h =
      let o = opened (λ (l : Link). (l.child ≡ device) × IsSwitchOf network channel l.parent × IsPath network channel l.parent links) (link_at network link) h in
      closed (λ (l : Link). (l.child ≡ device) × IsSwitchOf planned channel l.parent × IsPath planned channel l.parent links) (link_at planned link) o.0
      (link_there link o.0 o.1) (o.2.0, device_there (λ d. d.channel ≡ Some channel) o.0.parent o.2.1, path_there channel o.0.parent links o.2.2)

  -- its rows
  pub entry_there : (place : ℕ) (entry : Entry) → IsEntry network place entry → IsEntry planned place entry
  entry_there place entry is = record {
    row = kept network.row planned.row place entry.row extends.rows is.row;
    vl = kept network.vl planned.vl entry.row.vl.0 entry.vl extends.vls is.vl;
    link = link_there entry.row.link entry.link is.link;
  }

  -- and its times
  pub gamma_same : gamma_of network ≡ gamma_of planned
  gamma_same =
      ap (λ r. slip_of r (2 * amount network.cycle) + 4 * (amount network.grain - 1)) extends.clocks.rho
      ∙ ap (λ (c : _). slip_of planned.rho (2 * amount c) + 4 * (amount network.grain - 1)) extends.clocks.cycle
      ∙ ap (λ g. slip_of planned.rho (2 * amount planned.cycle) + 4 * (amount g - 1)) extends.clocks.grain

  pub tolerance_same : tolerance network ≡ tolerance planned
  tolerance_same = ap (λ p. amount p + gamma_of network) extends.clocks.precision ∙ ap (λ g. amount planned.precision + g) gamma_same

after_kept : (after : Option ℕ) (e : ℕ) → IfSome after (λ t. t ≤ e) → unwrap_or after 0 ≤ e
after_kept None e asked = omega arith
after_kept (Some t) e asked = asked

-- ---- a virtual link that serves a message

-- the accepted network extends this one, and serves the message by a virtual link that was added
pub record Serves (network : Network) (m : Message) (planned : Network) (vl : VlId) (of_vl : VirtualLink) : Type 0 where
  pub tree : IsTree network
  pub range : IsInRange planned
  pub keeps : KeepsRules planned
  pub extends : Extends network planned
  pub new : length network.vl ≤ vl.0
  pub served : IsServedBy planned vl m
  pub there : slice_get planned.vl vl.0 ≡ Some of_vl
  pub asked : IsAskedFor m of_vl

-- where a row of the message that leaves the sender may begin
abbrev pub start_by : Network → Message → ℕ
start_by network m = max (amount network.tt_start) (unwrap_or m.after 0)

module _ (network : Network) (m : Message) (planned : Network) (vl : VlId) (of_vl : VirtualLink) (s : Serves network m planned vl of_vl) where
  pub vl_is : (place : ℕ) (e : Entry) → IsEntry planned place e → e.row.vl ≡ vl → e.vl ≡ of_vl
  vl_is place e is own =
      some_same e.vl of_vl (slice_get planned.vl vl.0) (subst (λ (v : VlId). slice_get planned.vl v.0 ≡ Some e.vl) own is.vl) s.there

  goes : Goes planned vl of_vl (start_by network m)
  goes = record {
    tree = tree_kept planned s.keeps;
    range = s.range;
    keeps = s.keeps;
    there = s.there;
    sender = s.keeps Senders vl.0 of_vl s.there;
    begins = λ place e is own source.
        let sender = source ∙ sym (ap (λ (v : VirtualLink). v.sender) (vl_is place e is own)) in
        let begun = (s.keeps Forwarding place).from_sender e is sender in
        let asked = (s.served.rows place e is own).after (source ∙ s.asked.sender) in
        max-le
        (subst (λ t. amount t ≤ amount e.row.offset) (sym s.extends.times.tt_start) begun)
        (after_kept m.after (amount e.row.offset) asked);
  }

  -- what a row enters is an end system or a switch of the channel
  entered : (place : ℕ) (e : Entry) (channel : Channel) (way : Way) → IsEntry planned place e → IsOnChannel planned channel e → e.row.way ≡ way
      → IsEndSystem planned (target_of e) ⊎ IsSwitchOf planned channel (target_of e)
  entered place e channel Up is on by = inr (subst (IsSwitchOf planned channel) (sym (ap (λ w. target_by w e.link) by)) on)
  entered place e channel Down is on by =
      let joins = s.keeps Joints e.row.link.0 e.link is.link in
      let child = sym (ap (λ w. target_by w e.link) by) in
      ⊎_elim
      (λ (end : IsEndSystem planned e.link.child). inl (subst (IsEndSystem planned) child end))
      (λ (relay : IsRoleOf planned Relay joins.0 e.link.child).
      let same = one_channel planned joins.0 channel e.link.parent joins.1 on in
      inr (subst (IsSwitchOf planned channel) child
      (subst (λ c. IsSwitchOf planned c e.link.child) same (relay_is planned joins.0 e.link.child relay))))
      joins.2

  entered_on : (channel : Channel) (device : DeviceId) → EntersOn planned vl channel device → IsEndSystem planned device ⊎ IsSwitchOf planned channel device
  entered_on channel device enters =
      subst (λ d. IsEndSystem planned d ⊎ IsSwitchOf planned channel d) enters.target
      (entered enters.place enters.entry channel enters.entry.row.way enters.is enters.on_channel refl)

  -- what is reached on both channels is an end system
  reached_end : (device : DeviceId) → IsReached planned vl device → IsEndSystem planned device
  reached_end device reached =
      elim (entered_on A device (reached A)) [
        | inl end ↦ end
        | inr on_a ↦ elim (entered_on B device (reached B)) [
          | inl end ↦ end
          | inr on_b ↦ absurd (let same = one_channel planned A B device on_a on_b in let no : A ≡ B → ⊥ = λ e. absurd cc in no same)
        ]
      ]

  end_path : (channel : Channel) (device : DeviceId) → IsEndSystem planned device → (links : List LinkId) × IsPath network channel device links
  end_path channel device end =
      let here = device_back network planned s.extends (λ d. is_end_system d.role ≡ true) device end in
      let o = opened (λ (d : Device). is_end_system d.role ≡ true) (device_at network device) here in
      let path = s.tree.reach channel device
      (closed (λ (d : Device). (is_end_system d.role ≡ true) ⊎ (d.channel ≡ Some channel)) (device_at network device) o.0 o.1 (inl o.2)) in
      (path.0, path.2)

  -- its rows lead to a receiver by the way to it
  pub record LeadTo (channel : Channel) (receiver : DeviceId) : Type 0 where
    pub hops : List Hop
    pub way : IsWay network m.sender receiver channel hops
    pub next : ℕ
    pub lead : Lead planned vl (start_by network m) hops next

  pub lead_to : (channel : Channel) (receiver : DeviceId) → IsReached planned vl receiver → LeadTo channel receiver
  lead_to channel receiver reached =
      let enters = reached channel in
      let from = end_path channel of_vl.sender (s.keeps Senders vl.0 of_vl s.there) in
      let to = end_path channel receiver (reached_end receiver reached) in
      let e = enters.entry in
      record {
        hops = up_hops to.0 from.0 ++ down_hops from.0 to.0;
        way = record {
          from = from.0;
          to = to.0;
          from_path = subst (λ d. IsPath network channel d from.0) s.asked.sender from.1;
          to_path = to.1;
          is = refl;
        };
        next = window_end planned e + 1;
        lead = leads planned vl of_vl (start_by network m) goes channel from.0 (path_there network planned s.extends channel of_vl.sender from.0 from.1)
            (suc (amount e.row.offset)) enters.place e to.0 enters.is enters.same_vl enters.on_channel
            (subst (λ d. IsPath planned channel d to.0) (sym enters.target)
            (path_there network planned s.extends channel receiver to.0 to.1)) (omega arith);
      }

-- ---- messages of which there would be too many are served by no accepted network

-- an element of two lists is one of the first or of the second
of_parts : {X : Type 0} (xs ys : List X) (k : ℕ) (x : X) → slice_get (xs ++ ys) k ≡ Some x → (slice_get xs k ≡ Some x) ⊎ ((i : ℕ) × (slice_get ys i ≡ Some x))
of_parts [] ys k x at = inr (k, at)
of_parts (z ∷ xs) ys zero x at = inl at
of_parts (z ∷ xs) ys (suc k) x at = of_parts xs ys k x at

-- the hop of a row
abbrev hop_of : Row → Hop
hop_of row = hop_by row.way row.link

zip_all : {A B : Type 0} (R : A → B → Type 0) (xs : List A) (ys : List B) → AllZip R xs ys → All (λ x. (y : B) × R x y) xs
zip_all {A} {B} R [] ys zip = All-nil (λ (x : A). (y : B) × R x y)
zip_all R (x ∷ xs) [] zip = absurd zip
zip_all {A} {B} R (x ∷ xs) (y ∷ ys) zip = All-cons (λ (a : A). (b : B) × R a b) x xs (y, zip.0) (zip_all R xs ys zip.1)

own_parts : (n v : ℕ) (b : Bool) → ((n == v) && b) ≡ true → ((nat_le (v + 1) n && b) ≡ false) × ((nat_le v n && b) ≡ true)
own_parts n v b pass =
    let same : n ≡ v = eqb-true n v (both_left (n == v) b pass) in
    let holds = both_right (n == v) b pass in
    let later : nat_le (v + 1) n ≡ false = grind (arith, nat_tests, same) in
    let here : nat_le v n ≡ true = grind (arith, nat_tests, same) in
    (ap (λ (x : Bool). x && b) later, ap (λ (x : Bool). x && b) here ∙ holds)

later_parts : (n v : ℕ) (b : Bool) → (nat_le (v + 1) n && b) ≡ true → (nat_le v n && b) ≡ true
later_parts n v b pass =
    let more = both_left (nat_le (v + 1) n) b pass in
    let holds = both_right (nat_le (v + 1) n) b pass in
    let here : nat_le v n ≡ true = grind (arith, nat_tests, more) in
    ap (λ (x : Bool). x && b) here ∙ holds

module _ (test : Hop → Bool) (network planned : Network) (added : List Row) (more : planned.row ≡ network.row ++ added) (range : IsInRange network) where
  -- ---- of one message

  module _ (m : Message) (vl : VlId) (of_vl : VirtualLink) (s : Serves network m planned vl of_vl) where
    -- the virtual link has a row by the hop
    abbrev HasRow : Hop → Type 0
    HasRow hop = (p : Placed) × IsRowBy planned vl hop p

    -- its row, and one by a hop that passes the test
    abbrev is_its : Row → Bool
    is_its row = (row.vl.0 == vl.0) && test (hop_of row)

    way_rows : (channel : Channel) (receiver : DeviceId) (hops : List Hop) → IsReached planned vl receiver → IsWay network m.sender receiver channel hops
        → All HasRow hops
    way_rows channel receiver hops reached way =
        let to = lead_to network m planned vl of_vl s channel receiver reached in
        let one = way_one s.tree to.way way in
        subst (All HasRow) one (zip_all (IsRowBy planned vl) to.hops to.lead.ps to.lead.rows)

    ways_rows : (receivers : List DeviceId) (hops : List Hop) → AreWays network m.sender receivers hops → All (IsReached planned vl) receivers
        → All HasRow hops
    ways_rows [] hops none all = subst (All HasRow) (sym none) (All-nil HasRow)
    ways_rows (r ∷ receivers) hops (a, b, others, on_a, on_b, rest, same) all =
        let reached = All-head (IsReached planned vl) r receivers all in
        subst (All HasRow) (sym same)
        (All-append HasRow a (b ++ others) (way_rows A r a reached on_a)
        (All-append HasRow b others (way_rows B r b reached on_b)
        (ways_rows receivers others rest (All-tail (IsReached planned vl) r receivers all))))

    -- its rows are among those that were added
    row_added : (place : ℕ) (e : Entry) → IsEntry planned place e → e.row.vl ≡ vl → (i : ℕ) × (slice_get added i ≡ Some e.row)
    row_added place e is own =
        elim (of_parts network.row added place e.row (subst (λ (rs : List Row). slice_get rs place ≡ Some e.row) more is.row)) [
          | inr new ↦ new
          | inl old ↦
              let ranged = in_all (IsRowInRange network) network.row place e.row range.rows old in
              let within = ranged.vl in
              let here : e.row.vl.0 ≡ vl.0 = ap (λ (v : VlId). v.0) own in
              let new = s.new in
              absurd (omega (arith, within, here, new))
        ]

    one_message : (ways : List Hop) → AreWays network m.sender m.receivers ways → count_by test (once network ways) ≤ count_by is_its added
    one_message ways are =
        let rows = ways_rows m.receivers ways are s.served.reached in
        count_found test is_its (λ r. r.link.0) (hop_by_link ways) added
        (λ k h found pass.
        let it = find_of HasRow (λ hop. hop.link.0 == k) ways h rows found in
        let row = it.1 in
        let at = row_added row.place row.entry row.is row.own in
        let r = row.entry.row in
        let hop : hop_of r ≡ h =
        ap (λ w. hop_by w r.link) row.way ∙ ap (λ l. hop_by h.way l) row.link in
        let own : (r.vl.0 == vl.0) ≡ true = eq-eqb r.vl.0 vl.0 (ap (λ (v : VlId). v.0) row.own) in
        let key : h.link.0 ≡ k = eqb-true h.link.0 k (found_passes (λ hop. hop.link.0 == k) ways h found) in (
          at.0,
          r,
          at.1,
          ap (λ (b : Bool). b && test (hop_of r)) own ∙ (ap test hop ∙ pass),
          ap (λ (l : LinkId). l.0) row.link ∙ key,
        ))
        (length network.link)

  -- ---- of all

  -- one that passes the test, by this virtual link or a later one
  abbrev is_from : ℕ → Row → Bool
  is_from v row = nat_le v row.vl.0 && test (hop_of row)

  -- the messages are served by the virtual links from this one on
  abbrev ServedFrom : ℕ → List Message → Type 0
  ServedFrom v ms = (k : ℕ) (m : Message) → slice_get ms k ≡ Some m → IsServedBy planned (record { 0 = v + k }) m

  all_messages : (ms : List Message) (v : ℕ) (hops : List Hop) → IsTree network → IsInRange planned → KeepsRules planned → Extends network planned
      → length network.vl ≤ v → AreHops network ms hops → ServedFrom v ms → count_by test hops ≤ count_by (is_from v) added
  all_messages [] v hops tree in_range keeps extends new none served =
      let nothing : count_by test hops ≡ 0 = ap (count_by test) none in omega (arith, nothing)
  all_messages (m ∷ ms) v hops tree in_range keeps extends new (ways, others, are, rest, same) served =
      let vl : VlId = record { 0 = v } in
      let here : IsServedBy planned vl m = subst (λ (n : ℕ). IsServedBy planned (record { 0 = n }) m) (let e : v + 0 ≡ v = omega arith in e) (served 0 m refl) in
      let o = opened (IsAskedFor m) (slice_get planned.vl v) here.asked in
      let serves : Serves network m planned vl o.0 = record {
        tree = tree;
        range = in_range;
        keeps = keeps;
        extends = extends;
        new = new;
        served = here;
        there = o.1;
        asked = o.2;
      } in
      let one = one_message m vl o.0 serves ways are in
      let later = all_messages ms (v + 1) others tree in_range keeps extends (omega (arith, new)) rest
      (λ k n at. subst (λ (j : ℕ). IsServedBy planned (record { 0 = j }) n) (let e : v + suc k ≡ v + 1 + k = omega arith in e) (served (suc k) n at)) in
      let both = count_both (is_its m vl o.0 serves) (is_from (v + 1)) (is_from v) added
      (λ r pass. own_parts (r.vl.0) v (test (hop_of r)) pass) (λ r pass. later_parts r.vl.0 v (test (hop_of r)) pass) in
      let parts : count_by test hops ≡ count_by test (once network ways) + count_by test others =
      ap (count_by test) same ∙ count_append test (once network ways) others in
      omega (arith, parts, one, later, both)

-- ---- what follows for the limits

module _ (network planned : Network) (ms : List Message) (tree : IsTree network) (range : IsInRange network) (in_range : IsInRange planned)
    (keeps : KeepsRules planned) (extends : Extends network planned) (served : AreServed network planned ms) where
  fewer : (test : Hop → Bool) (hops : List Hop) → AreHops network ms hops → count_by test hops ≤ count_by (λ r. test (hop_of r)) extends.rows.0
  fewer test hops are =
      let added = extends.rows.0 in
      let some = all_messages test network planned added extends.rows.1 range ms (length network.vl) hops tree in_range keeps extends (omega arith) are served.each in
      let more = count_le (λ r. nat_le (length network.vl) r.vl.0 && test (hop_of r)) (λ r. test (hop_of r)) added
      (λ r pass. both_right (nat_le (length network.vl) r.vl.0) (test (hop_of r)) pass) in
      omega (arith, some, more)

  rows_fit : (hops : List Hop) → AreHops network ms hops → length network.row + length hops ≤ 1024
  rows_fit hops are =
      let some = fewer (λ h. true) hops are in
      let all = count_all hops in
      let few = count_by-le-length (λ (r : Row). true) extends.rows.0 in
      let whole = ap length extends.rows.1 in
      let parts = length-append network.row extends.rows.0 in
      let limit = (keeps Limits 3).rows refl in
      omega (arith, some, all, few, whole, parts, limit)

  device_fits : (hops : List Hop) (device : DeviceId) → AreHops network ms hops
      → count_by (leaves network device) network.row + count_by (hop_leaves network device) hops ≤ 256
  device_fits hops device are =
      let some = fewer (hop_leaves network device) hops are in
      let limit : count_by (leaves planned device) planned.row ≤ 256 = keeps RowsOfDevice device.0 in
      let same : count_by (leaves planned device) planned.row ≡ count_by (leaves network device) planned.row =
      ap (λ (ls : List Link). count_by (λ row. option_map_or (λ link. (source_by row.way link).0 == device.0) (slice_get ls row.link.0) false) planned.row)
      (sym extends.links) in
      let whole : count_by (leaves network device) planned.row
      ≡ count_by (leaves network device) network.row + count_by (leaves network device) extends.rows.0 =
      ap (count_by (leaves network device)) extends.rows.1 ∙ count_append (leaves network device) network.row extends.rows.0 in
      omega (arith, some, limit, same, whole)

pub excess_is_impossible : {network : Network} (ms : List Message) (excess : Excess) → IsTree network
    → IsExcess network ms excess → NoneServesAll network ms
excess_is_impossible ms (VirtualLinks wants) tree (is, many) planned range in_range keeps extends served =
    let limit = (keeps Limits 2).vls refl in
    let counted = served.counted in
    omega (arith, is, many, limit, counted)
excess_is_impossible {network} ms (Rows wants) tree many planned range in_range keeps extends served =
    let fit = rows_fit network planned ms tree range in_range keeps extends served many.hops many.are in
    let is = many.wants_is in
    let more = many.more in
    omega (arith, fit, is, more)
excess_is_impossible {network} ms (RowsOf device wants) tree many planned range in_range keeps extends served =
    let fit = device_fits network planned ms tree range in_range keeps extends served many.hops device many.are in
    let is = many.crowded.wants_is in
    let more = many.crowded.more in
    omega (arith, fit, is, more)

-- ---- a message that has no place behind the rows of a network is served by none that extends it: what is in time

-- the windows of the rows end by their limits
abbrev AreInTime : Trial → List Placed → Type 0
AreInTime trial [] = Unit {0}
AreInTime trial (p ∷ ps) = (p.end ≤ limit_of trial p.hop) × AreInTime trial ps

time_append : (trial : Trial) (ps qs : List Placed) → AreInTime trial ps → AreInTime trial qs → AreInTime trial (ps ++ qs)
time_append trial [] qs one two = two
time_append trial (p ∷ ps) qs one two = (one.0, time_append trial ps qs one.1 two)

none_short : (trial : Trial) (ps : List Placed) (s : Score) → s.short ≡ 0 → AreInTime trial ps → (fold (with_row trial) s ps).short ≡ 0
none_short trial [] s none time = none
none_short trial (p ∷ ps) s none time =
    let own = time.0 in
    none_short trial ps (with_row trial s p) (omega (arith, none, own)) time.1

limit_kept : (b : Bool) (e by end : ℕ) → (b ≡ true → e ≤ by) → e ≤ end → e ≤ cond b (min by end) end
limit_kept true e by end asked whole = le-min (asked refl) whole
limit_kept false e by end asked whole = whole

by_kept : (by : Option ℕ) (e end : ℕ) → IfSome by (λ t. e ≤ t) → e ≤ end → e ≤ unwrap_or by end
by_kept None e end asked whole = whole
by_kept (Some t) e end asked whole = asked

-- ---- a virtual link that serves the message of a trial

module _ (trial : Trial) (are : AreThere trial.network.now trial.rows.now) (planned : Network) (vl : VlId) (of_vl : VirtualLink)
    (s : Serves trial.network.now trial.message.now planned vl of_vl) where
  -- the trial in the phase of the virtual link
  abbrev so : Trial
  so = in_phase trial of_vl.phase

  abbrev network : Network
  network = trial.network.now

  abbrev m : Message
  m = trial.message.now

  -- ---- a row of it

  module _ (hop : Hop) (p : Placed) (row : IsRowBy planned vl hop p) where
    link_is : link_at network hop.link ≡ Some row.entry.link
    link_is = subst (λ l. link_at network l ≡ Some row.entry.link) row.link (link_back network planned s.extends row.entry.row.link row.entry.link row.is.link)

    port_is : port_on network m.length hop.link ≡ port_time row.entry
    port_is =
        ap (λ (o : Option Link). option_map_or (λ l. (m.length + 24) * octet_time l.speed) o 0) link_is
        ∙ ap (λ n. (n + 24) * octet_time row.entry.link.speed)
        (sym s.asked.length ∙ sym (ap (λ (v : VirtualLink). v.length) (vl_is network m planned vl of_vl s row.place row.entry row.is row.own)))

    delay_is : delay_on network hop.link ≡ amount row.entry.link.wire + amount row.entry.link.jitter
    delay_is = ap (λ (o : Option Link). option_map_or (λ l. amount l.wire + amount l.jitter) o 0) link_is

    end_is : p.end ≡ end_of so hop p.offset
    end_is =
        let port = port_is in
        let delay = delay_is in
        let own = row.end in
        let offset = row.offset in
        let room = tolerance_same network planned s.extends in
        omega (arith, port, delay, own, offset, room)

    -- it is none of the rows that are there
    is_new : (t : Taken) → length trial.rows.now ≤ row.place
    is_new t =
        elim (cases_lt row.place (length trial.rows.now)) [
          | inr ge ↦ ge
          | inl below ↦
              let old = are.each row.place (get_or trial.rows.now row.place t) (slice_get-get_or trial.rows.now row.place t below) in
              let there = entry_there network planned s.extends row.place old.0 old.1 in
              let one = one_entry planned row.place old.0 row.entry there row.is in
              let own : old.0.row.vl ≡ vl = ap (λ (e : Entry). e.row.vl) one ∙ row.own in
              let within = slice_get_within network.vl vl.0 old.0.vl (subst (λ (v : VlId). slice_get network.vl v.0 ≡ Some old.0.vl) own old.1.vl) in
              let new = s.new in
              absurd (omega (arith, within, new))
        ]

    -- it hits none of them
    no_hit : (k : ℕ) (t : Taken) → slice_get trial.rows.now k ≡ Some t → Hits (gamma_of network) (slot_of so hop) p.offset t → ⊥
    no_hit k t at hit =
        let old = are.each k t at in
        let e = old.0 in
        let hits = subst (Hits (gamma_of network) (slot_of so hop) p.offset) old.2 hit in
        let within = slice_get_within trial.rows.now k t at in
        let new = is_new t in
        let own = vl_is network m planned vl of_vl s row.place row.entry row.is row.own in
        let by_asked : (of_vl.phase % min of_vl.period e.vl.period) ≡ (e.vl.phase % min of_vl.period e.vl.period) =
        subst (λ (n : ℕ). of_vl.phase % min n e.vl.period ≡ e.vl.phase % min n e.vl.period) (sym s.asked.period) hits.meets.phase in
        let together : Coincide row.entry.vl e.vl = subst (λ v. Coincide v e.vl) (sym own) by_asked in
        let apart = s.keeps Spacing row.place k e row.entry (omega (arith, within, new)) (entry_there network planned s.extends k e old.1) row.is
        (row.link ∙ hits.meets.link) (row.way ∙ hits.meets.way) together in
        let gamma = gamma_same network planned s.extends in
        let port = port_is in
        let offset = row.offset in
        elim apart [
          | inl before ↦ let behind = hits.behind in omega (arith, before, behind, gamma, offset)
          | inr after ↦ let ahead = hits.ahead in omega (arith, after, ahead, gamma, offset, port)
        ]

    spaced_at : (from : ℕ) → from ≤ p.offset → IsSpacedAt so from hop p
    spaced_at from late = record {
      is = row.hop_is;
      not_before = late;
      clear = λ k d within. no_hit k (get_or trial.rows.now k d) (slice_get-get_or trial.rows.now k d within);
      end = end_is;
    }

    -- the end system that it enters, where it enters one
    enters_end : (way : Way) → row.entry.row.way ≡ way → is_last network p.hop ≡ true → IsEndSystem planned (target_of row.entry)
    enters_end way by last =
        let here : is_last network hop ≡ true = subst (λ h. is_last network h ≡ true) row.hop_is last in
        let at : (is_down hop.way && is_end network row.entry.link.child) ≡ true =
        sym (ap (λ (o : Option Link). is_down hop.way && option_map_or (λ l. is_end network l.child) o false) link_is) ∙ here in
        by_way way by (subst (λ w. (is_down w && is_end network row.entry.link.child) ≡ true) (sym row.way ∙ by) at)
      where
        by_way : (w : Way) → row.entry.row.way ≡ w → (is_down w && is_end network row.entry.link.child) ≡ true → IsEndSystem planned (target_of row.entry)
        by_way Up is at = absurd (false≢true at)
        by_way Down is at =
            subst (IsEndSystem planned) (sym (ap (λ w. target_by w row.entry.link) is))
            (device_there network planned s.extends (λ d. is_end_system d.role ≡ true) row.entry.link.child (system_is network row.entry.link.child at))

    in_time : p.end ≤ limit_of so p.hop
    in_time =
        let end = row.end in
        let cycle = s.keeps WindowEnds row.place row.entry row.is in
        let cycles : amount network.cycle ≡ amount planned.cycle = ap (λ c. amount c) s.extends.clocks.cycle in
        let room : amount network.precision ≡ amount planned.precision = ap (λ c. amount c) s.extends.clocks.precision in
        let whole : p.end ≤ schedule_end network = omega (arith, end, cycle, cycles, room) in
        limit_kept (is_last network p.hop) p.end (unwrap_or m.by (schedule_end network)) (schedule_end network)
        (λ last. by_kept m.by p.end (schedule_end network)
        (subst (λ (n : ℕ). IfSome m.by (λ t. n ≤ t)) (sym end)
        ((s.served.rows row.place row.entry row.is row.own).by (enters_end row.entry.row.way refl last))) whole)
        whole

  -- ---- its rows

  spaced_way : (from : ℕ) (hops : List Hop) (ps : List Placed) → AllZip (IsRowBy planned vl) hops ps → Behind from ps → IsSpacedWay so from hops ps
  spaced_way from [] [] zip behind = refl
  spaced_way from [] (p ∷ ps) zip behind = absurd zip
  spaced_way from (h ∷ hops) [] zip behind = absurd zip
  spaced_way from (h ∷ hops) (p ∷ ps) zip behind =
      (p, ps, spaced_at h p zip.0 from behind.0, spaced_way (p.end + 1) hops ps zip.1 behind.1, refl)

  time_way : (hops : List Hop) (ps : List Placed) → AllZip (IsRowBy planned vl) hops ps → AreInTime so ps
  time_way [] [] zip = tt
  time_way [] (p ∷ ps) zip = absurd zip
  time_way (h ∷ hops) [] zip = absurd zip
  time_way (h ∷ hops) (p ∷ ps) zip = (in_time h p zip.0, time_way hops ps zip.1)

  -- the rows to a receiver keep the rules, and are in time
  record Come (channel : Channel) (receiver : DeviceId) : Type 0 where
    pub ps : List Placed
    pub spaced : IsSpacedTo so channel receiver ps
    pub time : AreInTime so ps

  come : (channel : Channel) (receiver : DeviceId) → IsReached planned vl receiver → Come channel receiver
  come channel receiver reached =
      let to = lead_to network m planned vl of_vl s channel receiver reached in
      let lead = to.lead in
      record {
        ps = lead.ps;
        spaced = record { hops = to.hops; way = to.way; rows = spaced_way (start_of so) to.hops lead.ps lead.rows lead.behind };
        time = time_way to.hops lead.ps lead.rows;
      }

  all_come : (receivers : List DeviceId) → All (IsReached planned vl) receivers → (ps : List Placed) × AreSpaced so receivers ps × AreInTime so ps
  all_come [] all = ([], refl, tt)
  all_come (r ∷ receivers) all =
      let reached = All-head (IsReached planned vl) r receivers all in
      let a = come A r reached in
      let b = come B r reached in
      let rest = all_come receivers (All-tail (IsReached planned vl) r receivers all) in (
        a.ps ++ (b.ps ++ rest.0),
        (a.ps, b.ps, rest.0, a.spaced, b.spaced, rest.1, refl),
        time_append so a.ps (b.ps ++ rest.0) a.time (time_append so b.ps rest.0 b.time rest.2),
      )

  phase_by : (phase : Option ℕ) → IfSome phase (λ n. of_vl.phase ≡ n) → IsPhaseBy m.period phase of_vl.phase
  phase_by None asked = let has = s.keeps Periods vl.0 of_vl s.there in subst (λ n. of_vl.phase < n) s.asked.period has.1
  phase_by (Some n) asked = asked

  -- so the best attempt is short by nothing
  not_short : (a : Attempt) → IsBest trial a → 0 < a.score.short → ⊥
  not_short a best short =
      let it = all_come m.receivers s.served.reached in
      let none = none_short so it.0 (no_score so) refl it.2 in
      let later = best_is_earliest trial a of_vl.phase it.0 s.tree best (phase_by m.phase s.asked.phase) it.1 in
      elim later [
        | inl less ↦ omega (arith, less, none)
        | inr same ↦ let is = same.0 in omega (arith, is, none, short)
      ]

pub unfit_is_impossible : {network : Network} {there : List Taken} {ms : List Message} {place : ℕ} {a : Attempt}
    → IsTree network → AreThere network there → (unfit : IsUnfit network there ms place a)
    → NoneServes network unfit.message
unfit_is_impossible {network} {there} {a} tree are unfit planned vl range keeps extends new served =
    let best = unfit.best in
    let of = best.of_message in
    let trial = best.trial in
    let o = opened (IsAskedFor unfit.message) (slice_get planned.vl vl.0) served.asked in
    let rows = subst (λ n. AreThere n trial.rows.now) (sym of.network_is) (subst (AreThere network) (sym of.rows_are) are) in
    let serves : Serves trial.network.now trial.message.now planned vl o.0 = record {
      tree = subst IsTree (sym of.network_is) tree;
      range = range;
      keeps = keeps;
      extends = subst (λ n. Extends n planned) (sym of.network_is) extends;
      new = subst (λ (n : Network). length n.vl ≤ vl.0) (sym of.network_is) new;
      served = subst (IsServedBy planned vl) (sym of.message_is) served;
      there = o.1;
      asked = subst (λ x. IsAskedFor x o.0) (sym of.message_is) o.2;
    } in
    not_short trial rows planned vl o.0 serves a best.best unfit.short

-- ---- a message that has a place behind rows: the courses of its rows

-- the trial of a message over a network, behind rows and in a phase
abbrev pub trial_by : Trial → Network → Message → List Taken → ℕ → Trial
trial_by t network m rows phase = record t {
  network = record t.network { now = network };
  message = record t.message { now = m };
  phase = phase;
  rows = record t.rows { now = rows };
}

-- the rows of the attempt have least offsets behind these, and are in time
pub record IsSeated (network : Network) (rows : List Taken) (m : Message) (a : Attempt) : Type 0 where
  pub base : Trial
  pub tried : AreTried (trial_by base network m rows a.phase) m.receivers a.placed.items
  pub time : All (IsInTime (trial_by base network m rows a.phase)) a.placed.items
  pub ordered : All IsOrdered a.placed.items
  pub phase : IsPhaseBy m.period m.phase a.phase

phase_kept : (t : Trial) (given : Option ℕ) (a : Attempt) → IsBestBy t given a → IsPhaseBy t.message.now.period given a.phase
phase_kept t None a best = best.within
phase_kept t (Some phase) a is = is.phase_is

pub seated : {network : Network} {rows : List Taken} {m : Message} {a : Attempt} → HasPlace network rows m a
    → IsSeated network rows m a
seated {network} {rows} {m} {a} has =
    let t = has.best.trial in
    let of = has.best.of_message in
    let own = own_attempt t t.message.now.phase a has.best.best in
    let there = in_phase t own.0 in
    let short : (score_of there a.placed.items).short ≡ 0 = sym (ap (λ (s : Score). s.short) own.1.score) ∙ has.fits in
    let all = whole there a.placed.items (no_score there) short in
    let Tried = λ (n : Network) (x : Message) (rs : List Taken) (phase : ℕ). AreTried (trial_by t n x rs phase) x.receivers a.placed.items in
    let Time = λ (n : Network) (x : Message) (rs : List Taken) (phase : ℕ). All (IsInTime (trial_by t n x rs phase)) a.placed.items in
    record {
      base = t;
      tried =
          subst (Tried network m rows) (sym own.1.phase_is)
          (subst (λ (rs : List Taken). Tried network m rs own.0) of.rows_are
          (subst (λ (x : Message). Tried network x t.rows.now own.0) of.message_is
          (subst (λ (n : Network). Tried n t.message.now t.rows.now own.0) of.network_is own.1.rows)));
      time =
          subst (Time network m rows) (sym own.1.phase_is)
          (subst (λ (rs : List Taken). Time network m rs own.0) of.rows_are
          (subst (λ (x : Message). Time network x t.rows.now own.0) of.message_is
          (subst (λ (n : Network). Time n t.message.now t.rows.now own.0) of.network_is all.rows)));
      ordered = own.1.ordered;
      phase = subst (λ (x : Message). IsPhaseBy x.period x.phase a.phase) of.message_is (phase_kept t t.message.now.phase a has.best.best);
    }

-- ---- the courses of its rows

-- the sender is an end system of the trees, with its paths
pub record HasGround (network : Network) (sender : DeviceId) : Type 0 where
  pub trees : HasTrees network
  pub from : Channel → List LinkId
  pub path : (channel : Channel) → IsPath network channel sender (from channel)
  pub no_switch : (channel : Channel) → IsSwitchOf network channel sender → ⊥

module _ (network : Network) (rows : List Taken) (m : Message) (a : Attempt) (seat : IsSeated network rows m a) (g : HasGround network m.sender) where
  abbrev tr : Trial
  tr = trial_by seat.base network m rows a.phase

  -- the course of a row on a channel
  abbrev pub CourseOn : Channel → Placed → Type 0
  CourseOn channel p = IsCourse network g.trees channel m.sender (g.from channel) (g.path channel) tr (start_of tr) p

  abbrev pub EntersOnIt : Channel → DeviceId → Placed → Type 0
  EntersOnIt channel receiver p =
      EntersIt network g.trees channel m.sender (g.from channel) (g.path channel) tr (start_of tr) (g.no_switch channel) receiver p

  -- the row has its course, and enters a receiver or a switch
  pub record ItsCourse (p : Placed) : Type 0 where
    pub channel : Channel
    pub course : CourseOn channel p
    pub among : (q : Placed) → Contains course.before q → Contains a.placed.items q
    pub receiver : DeviceId
    pub of_message : Contains m.receivers receiver
    pub enters : EntersOnIt channel receiver p

  placed_to : (channel : Channel) (receiver : DeviceId) (ps : List Placed) → IsPlacedTo tr channel receiver ps
      → (to : List LinkId) × IsPath network channel receiver to
      × IsPlacedWay tr (start_of tr) (up_hops to (g.from channel) ++ down_hops (g.from channel) to) ps
  placed_to channel receiver ps placed =
      let way = placed.way in
      let from = paths_are_unique network channel m.sender way.from (g.from channel) g.trees.tree way.from_path (g.path channel) in
      let hops = way.is ∙ ap (λ fs. up_hops way.to fs ++ down_hops fs way.to) from in
      (way.to, way.to_path, subst (λ hs. IsPlacedWay tr (start_of tr) hs ps) hops placed.rows)

  courses_to : (channel : Channel) (receiver : DeviceId) (ps : List Placed) → Contains m.receivers receiver → IsPlacedTo tr channel receiver ps
      → ((q : Placed) → Contains ps q → Contains a.placed.items q) → All ItsCourse ps
  courses_to channel receiver ps of_message placed among =
      let it = placed_to channel receiver ps placed in
      let n = suc (length (up_hops it.0 (g.from channel) ++ down_hops (g.from channel) it.0)) in
      let own = courses network g.trees channel m.sender (g.from channel) (g.path channel) tr (start_of tr) (g.no_switch channel) n receiver it.0 ps
      (omega arith) it.1 it.2 in
      let enters = targets network g.trees channel m.sender (g.from channel) (g.path channel) tr (start_of tr) (g.no_switch channel) n receiver it.0 ps
      (omega arith) it.1 it.2 in
      λ k d within. record {
        channel = channel;
        course = (own k d within).course;
        among = λ q there. among q ((own k d within).among q there);
        receiver = receiver;
        of_message = of_message;
        enters = enters k d within;
      }

  courses_all : (receivers : List DeviceId) (ps : List Placed) → ((r : DeviceId) → Contains receivers r → Contains m.receivers r)
      → ((q : Placed) → Contains ps q → Contains a.placed.items q) → AreTried tr receivers ps → All ItsCourse ps
  courses_all [] ps of among none = subst (All ItsCourse) (sym none) (All-nil ItsCourse)
  courses_all (r ∷ receivers) ps of among (x, y, others, on_a, on_b, rest, same) =
      let here = of r (0, omega arith, refl) in
      let all = subst (λ (qs : List Placed). (q : Placed) → Contains qs q → Contains a.placed.items q) same among in
      subst (All ItsCourse) (sym same)
      (All-append ItsCourse x (y ++ others) (courses_to A r x here on_a (λ q there. all q (Contains-append_left x (y ++ others) q there)))
      (All-append ItsCourse y others
      (courses_to B r y here on_b (λ q there. all q (Contains-append_right x (y ++ others) q (Contains-append_left y others q there))))
      (courses_all receivers others (λ d (k, within, is). of d (suc k, (omega (arith, within)), is))
      (λ q there. all q (Contains-append_right x (y ++ others) q (Contains-append_right y others q there))) rest)))

  pub its_courses : All ItsCourse a.placed.items
  its_courses = courses_all m.receivers a.placed.items (λ r there. there) (λ q there. there) seat.tried

  -- the rows to a receiver by a channel
  pub record HasWay (channel : Channel) (receiver : DeviceId) : Type 0 where
    pub ps : List Placed
    pub placed : IsPlacedTo tr channel receiver ps
    pub among : (q : Placed) → Contains ps q → Contains a.placed.items q

  way_by : (channel : Channel) (r : DeviceId) (x y others : List Placed) → IsPlacedTo tr A r x → IsPlacedTo tr B r y
      → ((q : Placed) → Contains (x ++ (y ++ others)) q → Contains a.placed.items q) → HasWay channel r
  way_by A r x y others on_a on_b among =
      record { ps = x; placed = on_a; among = λ q there. among q (Contains-append_left x (y ++ others) q there) }
  way_by B r x y others on_a on_b among =
      record { ps = y; placed = on_b; among = λ q there. among q (Contains-append_right x (y ++ others) q (Contains-append_left y others q there)) }

  ways_all : (channel : Channel) (r : DeviceId) (receivers : List DeviceId) (ps : List Placed) → Contains receivers r
      → ((q : Placed) → Contains ps q → Contains a.placed.items q) → AreTried tr receivers ps → HasWay channel r
  ways_all channel r [] ps (k, within, is) among tried = absurd (omega (arith, within))
  ways_all channel r (d ∷ receivers) ps (zero, within, is) among (x, y, others, on_a, on_b, rest, same) =
      subst (HasWay channel) is
      (way_by channel d x y others on_a on_b (subst (λ (qs : List Placed). (q : Placed) → Contains qs q → Contains a.placed.items q) same among))
  ways_all channel r (d ∷ receivers) ps (suc k, within, is) among (x, y, others, on_a, on_b, rest, same) =
      let all = subst (λ (qs : List Placed). (q : Placed) → Contains qs q → Contains a.placed.items q) same among in
      ways_all channel r receivers others (k, (omega (arith, within)), is)
      (λ q there. all q (Contains-append_right x (y ++ others) q (Contains-append_right y others q there))) rest

  pub way_of : (channel : Channel) (receiver : DeviceId) → Contains m.receivers receiver → HasWay channel receiver
  way_of channel receiver there = ways_all channel receiver m.receivers a.placed.items there (λ q is. is) seat.tried

  -- a row leaves the sender on each channel, and one enters each receiver
  pub first_of : (channel : Channel) (receiver : DeviceId) → Contains m.receivers receiver → (receiver ≡ m.sender → ⊥)
      → (p : Placed) × (link : Link) × Contains a.placed.items p × (link_at network p.hop.link ≡ Some link) × IsSwitchOf network channel link.parent
      × (source_by p.hop.way link ≡ m.sender)
  first_of channel receiver there other =
      let way = way_of channel receiver there in
      let it = placed_to channel receiver way.ps way.placed in
      let n = suc (length (up_hops it.0 (g.from channel) ++ down_hops (g.from channel) it.0)) in
      let first = sends network g.trees channel m.sender (g.from channel) (g.path channel) tr (start_of tr) (g.no_switch channel) n receiver it.0 way.ps
      (omega arith) other it.1 it.2 in
      (first.p, first.link, way.among first.p first.there, first.at, first.on, first.source)

  pub last_of : (channel : Channel) (receiver : DeviceId) → Contains m.receivers receiver → (receiver ≡ m.sender → ⊥)
      → (p : Placed) × (link : Link) × Contains a.placed.items p × (link_at network p.hop.link ≡ Some link) × IsSwitchOf network channel link.parent
      × (target_by p.hop.way link ≡ receiver)
  last_of channel receiver there other =
      let way = way_of channel receiver there in
      let it = placed_to channel receiver way.ps way.placed in
      let last = reaches network g.trees channel m.sender (g.from channel) (g.path channel) tr (start_of tr) (g.no_switch channel) receiver it.0 way.ps
      other it.1 it.2 in
      let here = subst (λ (qs : List Placed). Contains qs last.p) (sym last.is) (Contains-append_right last.front (last.p ∷ []) last.p (0, omega arith, refl)) in
      (last.p, last.link, way.among last.p here, last.at, last.on, last.target)

  -- rows by one link are one
  pub by_link : (p q : Placed) → ItsCourse p → ItsCourse q → p.hop.link ≡ q.hop.link → p ≡ q
  by_link p q one other link =
      let links = some_same one.course.link other.course.link (link_at network p.hop.link) one.course.at
      (subst (λ l. link_at network l ≡ Some other.course.link) (sym link) other.course.at) in
      let channels = one_channel network other.channel one.channel other.course.link.parent other.course.on
      (subst (λ (l : Link). IsSwitchOf network one.channel l.parent) links one.course.on) in
      let moved = subst (λ (c : Channel). CourseOn c q) channels other.course in
      one_link network g.trees one.channel m.sender (g.from one.channel) (g.path one.channel) tr (start_of tr) (g.no_switch one.channel) p q one.course moved link

  -- and so are those of one channel that enter one device
  pub by_target : (p q : Placed) (one : ItsCourse p) (other : ItsCourse q) → one.channel ≡ other.channel
      → target_by p.hop.way one.course.link ≡ target_by q.hop.way other.course.link → p ≡ q
  by_target p q one other channels same =
      let c = other.channel in
      let moved = subst (λ (x : Channel). (course : CourseOn x p) × (course.link ≡ one.course.link)) channels (one.course, refl) in
      one_target network g.trees c m.sender (g.from c) (g.path c) tr (start_of tr) (g.no_switch c) p q moved.0 other.course
      (ap (target_by p.hop.way) moved.1 ∙ same)

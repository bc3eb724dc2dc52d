-- A planned network keeps all rules, of its shape and of the rows of its messages.
use Rattle.std.proofs.{lemmas.{Bool.{cases_lt, ne_eqb}, List.{Sums.sum_by-cons, length-append, length-map, map-append}}}
use Rattle.std.proofs.Common
use Common.{◌++◌, ◌+◌, ◌==◌, ◌∙◌, ◌∷◌, ◌≡◌, ◌≤◌, Bool, List, None, Option, Some, [], ap, arith, cond, false, inl, inr}
use Common.{length, map, pos, refl, suc, sym, true, zero, ℕ, ⊎_elim}
use Rattle.std.specs.{List.{cons_option, count_by, filter_map, range_with_len}, Option.{option_map, option_map_or}}
use Rattle.std.specs.{Prelude.slice_get}
use Rattle.lens_plan.proofs.{Attempts.{count_append, count_cons, one_if, way_one}, PlannedRows.IsSound}
use Rattle.lens_plan.proofs.{Serving.{IsSeated, tree_kept, trial_by}}
use Rattle.lens_plan.proofs.KeptRows
use KeptRows.{both_channels, comes_in_time, ends_in_cycle, enters_anew, goes_once, has_period, has_sender, has_source}
use KeptRows.{ids_new, names_new, stands_apart}
use Rattle.lens_plan.specs.{joining.Planned.{own_rows, planned_network, row_of, rows_from, vls_of}}
use Rattle.lens_plan.specs.{messages.Message.Message}
use Rattle.lens_plan.specs.declared.places.{best.Attempt.Attempt, offsets.Taken.Taken}
use Rattle.lens_plan.specs.declared.places.{placing.{Placed.Placed, Trial.Trial}, ways.Hop.Hop}
use Rattle.lens_plan.specs.places.{InOrder.{row_by, rows_in_order}}
use Rattle.lens_plan.specs.places.{Limits.{AreHops, AreWays, IsWithinLimits, hop_by_link, hop_leaves, once}}
use Rattle.lens_plan.specs.places.{Placing.IsPlacedWay, Trying.{AreTried, start_of}, Ways.hop_by}
use Rattle.net_plan.specs.{Bounds.{IsBeta, IsGreatest, IsOfPath, jitter_on}}
use Rattle.net_plan.specs.{Paths.{IsFirstPath, IsFirstUplink, IsPath, IsTree, LeadsToCm}, Places.{IsSwitchOf, link_at}}
use Rattle.net_plan.specs.{Ranges.{IsInRange, IsLinkInRange}}
use Rattle.net_plan.specs.{Rules.{HasOneCm, IsConnected, IsWithinLimits as IsWithinAll, MastersSuffice}}
use Rattle.net_plan.specs.declared.{ids.{DeviceId.DeviceId, LinkId.LinkId}, network.Network.Network}
use Rattle.net_plan.specs.declared.tables.{Link.Link, Row.Row, VirtualLink.VirtualLink}
use Rattle.net_plan.specs.declared.tables.{Way.{TheVariants.{Down, Up}, Way}}
use Rattle.schedule_tables.specs.{Delays.{DelaysFit, ErrorsSettle, PrecisionFits, ScheduleFits}, Entries.source_by}
use Rattle.schedule_tables.specs.{Rules.KeepsRules, Schedule.{HasFewRows, leaves}}
use Rattle.schedule_tables.specs.declared.rule.Rule.TheVariants
use TheVariants.{BothChannels, CompressionMasters, Connections, Correction, Delays, DevicesDiffer, Forwarding, Joints}
use TheVariants.{Limits, LinksDiffer, LinksOnce, Masters, Periods, Precision, RowsOfDevice, ScheduleStart, Senders}
use TheVariants.{Settling, Sources, Spacing, Targets, VlIdsDiffer, VlNamesDiffer, WindowEnds}
use Rattle.tte_units.{proofs.general_lemmas.{Lists.in_all, Options.{closed, opened, some_or_none}}}
use Rattle.tte_units.{specs.declared.frames.channel.Channel.{Channel, TheVariants.{A, B}}}

-- ---- a planned network has the rows of the ways of its messages

map_map : {X Y Z : Type 0} (f : X → Y) (g : Y → Z) (xs : List X) → map g (map f xs) ≡ map (λ x. g (f x)) xs
map_map f g [] = refl
map_map {X} {Y} {Z} f g (x ∷ xs) = ap (λ (zs : List Z). g (f x) ∷ zs) (map_map f g xs)

map_cons : {X Y : Type 0} (f : X → Y) (o : Option X) (xs : List X) → map f (cons_option o xs) ≡ cons_option (option_map f o) (map f xs)
map_cons f None xs = refl
map_cons f (Some x) xs = refl

map_found : {X Y : Type 0} (f : X → Y) (h : ℕ → Option X) (g : ℕ → Option Y) (same : (k : ℕ) → option_map f (h k) ≡ g k) (ks : List ℕ)
    → map f (filter_map h ks) ≡ filter_map g ks
map_found f h g same [] = refl
map_found {X} {Y} f h g same (k ∷ ks) =
    map_cons f (h k) (filter_map h ks) ∙ ap (λ (o : Option Y). cons_option o (map f (filter_map h ks))) (same k)
    ∙ ap (cons_option (g k)) (map_found f h g same ks)

count_map : {X Y : Type 0} (f : X → Y) (test : Y → Bool) (xs : List X) → count_by test (map f xs) ≡ count_by (λ x. test (f x)) xs
count_map f test [] = refl
count_map {X} {Y} f test (x ∷ xs) =
    sum_by-cons (λ (y : Y). cond (test y) 1 0) (f x) (map f xs) ∙ ap (λ n. cond (test (f x)) 1 0 + n) (count_map f test xs)
    ∙ sym (sum_by-cons (λ (y : X). cond (test (f y)) 1 0) x xs)

-- ---- the hops of rows

abbrev hop_of : Row → Hop
hop_of row = hop_by row.way row.link

abbrev hop_at : Placed → Hop
hop_at p = p.hop

found_hop : (ps : List Placed) (k : ℕ) → option_map hop_at (row_by ps k) ≡ hop_by_link (map hop_at ps) k
found_hop [] k = refl
found_hop (p ∷ ps) k = by (p.hop.link.0 == k) (row_by ps k) (hop_by_link (map hop_at ps) k) (found_hop ps k)
  where
    by : (b : Bool) (o : Option Placed) (h : Option Hop) → option_map hop_at o ≡ h → option_map hop_at (cond b (Some p) o) ≡ cond b (Some p.hop) h
    by true o h same = refl
    by false o h same = same

hops_in_order : (network : Network) (ps : List Placed) → map hop_at (rows_in_order network ps) ≡ once network (map hop_at ps)
hops_in_order network ps = map_found hop_at (row_by ps) (hop_by_link (map hop_at ps)) (found_hop ps) (range_with_len 0 (length network.link))

-- the rows of a way go by its hops
way_hops : (trial : Trial) (start : ℕ) (hops : List Hop) (ps : List Placed) → IsPlacedWay trial start hops ps → map hop_at ps ≡ hops
way_hops trial start [] ps none = ap (map hop_at) none
way_hops trial start (hop ∷ hops) ps (p, others, at, rest, same) =
    ap (map hop_at) same ∙ ap (λ (h : Hop). h ∷ map hop_at others) at.is ∙ ap (λ (hs : List Hop). hop ∷ hs) (way_hops trial (p.end + 1) hops others rest)

module _ (network : Network) (tree : IsTree network) where
  tried_ways : (t : Trial) (m : Message) (rows : List Taken) (phase : ℕ) (receivers : List DeviceId) (ps : List Placed) (hops : List Hop)
      → AreTried (trial_by t network m rows phase) receivers ps → AreWays network m.sender receivers hops → map hop_at ps ≡ hops
  tried_ways t m rows phase [] ps hops none also = ap (map hop_at) none ∙ sym also
  tried_ways t m rows phase (r ∷ receivers) ps hops (a, b, others, on_a, on_b, rest, same) (c, d, more, at_a, at_b, also, too) =
      let tr = trial_by t network m rows phase in
      let one : map hop_at a ≡ c = way_hops tr (start_of tr) on_a.hops a on_a.rows ∙ way_one tree on_a.way at_a in
      let two : map hop_at b ≡ d = way_hops tr (start_of tr) on_b.hops b on_b.rows ∙ way_one tree on_b.way at_b in
      ap (map hop_at) same ∙ map-append hop_at a (b ++ others)
      ∙ ap (λ (hs : List Hop). hs ++ map hop_at (b ++ others)) one
      ∙ ap (λ (hs : List Hop). c ++ hs) (map-append hop_at b others ∙ ap (λ (hs : List Hop). hs ++ map hop_at others) two
      ∙ ap (λ (hs : List Hop). d ++ hs) (tried_ways t m rows phase receivers others more rest also))
      ∙ sym too

  own_hops : (vl : ℕ) (a : Attempt) → map hop_of (own_rows network vl a) ≡ once network (map hop_at a.placed.items)
  own_hops vl a = map_map (row_of vl) hop_of (rows_in_order network a.placed.items) ∙ hops_in_order network a.placed.items

  -- the rows of all messages go by the hops of their ways
  pub all_hops : (ms : List Message) (attempts : List Attempt) (vl : ℕ) (hops : List Hop) → length attempts ≡ length ms
      → ((j : ℕ) (m : Message) (a : Attempt) → slice_get ms j ≡ Some m → slice_get attempts j ≡ Some a → (rows : List Taken) × IsSeated network rows m a)
      → AreHops network ms hops → map hop_of (rows_from network vl attempts) ≡ hops
  all_hops [] [] vl hops long seat none = sym none
  all_hops [] (a ∷ attempts) vl hops long seat none = absurd (omega (arith, long))
  all_hops (m ∷ ms) [] vl hops long seat are = absurd (omega (arith, long))
  all_hops (m ∷ ms) (a ∷ attempts) vl hops long seat (ways, others, are, rest, same) =
      let own = seat 0 m a refl refl in
      let here : map hop_at a.placed.items ≡ ways = tried_ways own.1.base m own.0 a.phase m.receivers a.placed.items ways own.1.tried are in
      map-append hop_of (own_rows network vl a) (rows_from network (vl + 1) attempts)
      ∙ ap (λ (hs : List Hop). hs ++ map hop_of (rows_from network (vl + 1) attempts)) (own_hops vl a ∙ ap (once network) here)
      ∙ ap (λ (hs : List Hop). once network ways ++ hs)
      (all_hops ms attempts (vl + 1) others (omega (arith, long)) (λ j n b at_n at_b. seat (suc j) n b at_n at_b) rest)
      ∙ sym same

  pub rows_counted : (rows : List Row) (hops : List Hop) → map hop_of rows ≡ hops → length rows ≡ length hops
  rows_counted rows hops same = sym (length-map rows hop_of) ∙ ap length same

  pub leaving_counted : (rows : List Row) (hops : List Hop) (d : DeviceId) → map hop_of rows ≡ hops
      → count_by (leaves network d) rows ≡ count_by (hop_leaves network d) hops
  leaving_counted rows hops d same = sym (count_map hop_of (hop_leaves network d) rows) ∙ ap (count_by (hop_leaves network d)) same

-- ---- the rules of devices, links and times, which virtual links and rows do not touch

-- a network with other virtual links and rows
module _ (network : Network) (vls : List VirtualLink) (rows : List Row) where
  abbrev other : Network
  other = record network { vl = vls; row = rows }

  -- its paths are the same
  path_there : (channel : Channel) (d : DeviceId) (links : List LinkId) → IsPath network channel d links → IsPath other channel d links
  path_there channel d [] cm = cm
  path_there channel d (link ∷ links) h =
      let o = opened (λ (l : Link). (l.child ≡ d) × IsSwitchOf network channel l.parent × IsPath network channel l.parent links) (link_at network link) h in
      closed (λ (l : Link). (l.child ≡ d) × IsSwitchOf other channel l.parent × IsPath other channel l.parent links) (link_at network link) o.0 o.1
      (o.2.0, o.2.1, path_there channel o.0.parent links o.2.2)

  path_back : (channel : Channel) (d : DeviceId) (links : List LinkId) → IsPath other channel d links → IsPath network channel d links
  path_back channel d [] cm = cm
  path_back channel d (link ∷ links) h =
      let o = opened (λ (l : Link). (l.child ≡ d) × IsSwitchOf network channel l.parent × IsPath other channel l.parent links) (link_at network link) h in
      closed (λ (l : Link). (l.child ≡ d) × IsSwitchOf network channel l.parent × IsPath network channel l.parent links) (link_at network link) o.0 o.1
      (o.2.0, o.2.1, path_back channel o.0.parent links o.2.2)

  first_there : (channel : Channel) (d : DeviceId) (links : List LinkId) → IsFirstPath network channel d links → IsFirstPath other channel d links
  first_there channel d [] cm = cm
  first_there channel d (link ∷ links) h =
      let o = opened (λ (l : Link). IsFirstPath network channel l.parent links) (link_at network link) h.1 in
      let first : IsFirstUplink other channel d link = record { leads = h.0.leads; first = h.0.first } in
      (first, closed (λ (l : Link). IsFirstPath other channel l.parent links) (link_at network link) o.0 o.1 (first_there channel o.0.parent links o.2))

  leads_there : (channel : Channel) (d : DeviceId) → LeadsToCm network channel d → LeadsToCm other channel d
  leads_there channel d h = (h.0, h.1, first_there channel d h.0 h.2)

  -- and so is its beta
  of_path_there : (measure : List LinkId → ℕ) (n : ℕ) → IsOfPath network measure n → IsOfPath other measure n
  of_path_there measure n (c, (d, (links, of, path, is))) = (c, (d, (links, of, path_there c d links path, is)))

  of_path_back : (measure : List LinkId → ℕ) (n : ℕ) → IsOfPath other measure n → IsOfPath network measure n
  of_path_back measure n (c, (d, (links, of, path, is))) = (c, (d, (links, of, path_back c d links path, is)))

  greatest_back : (measure : List LinkId → ℕ) (n : ℕ) → IsGreatest (IsOfPath other measure) n → IsGreatest (IsOfPath network measure) n
  greatest_back measure n g = record {
    most = λ k of. g.most k (of_path_there measure k of);
    reached = ⊎_elim (λ (none : n ≡ zero). inl none) (λ (some : IsOfPath other measure n). inr (of_path_back measure n some)) g.reached;
  }

  beta_back : (beta : ℕ) → IsBeta other (pos beta) → IsBeta network (pos beta)
  beta_back beta b = record {
    jitter = b.jitter;
    links = b.links;
    jitter_greatest = greatest_back (jitter_on network) b.jitter b.jitter_greatest;
    links_greatest = greatest_back length b.links b.links_greatest;
    value = b.value;
  }

  module _ (keeps : KeepsRules network) where
    pub one_cm : (part : ℕ) → HasOneCm other part
    one_cm part = let own = keeps CompressionMasters part in record { on_a = own.on_a; on_b = own.on_b }

    pub connected : (i : ℕ) → IsConnected other i
    connected i = let own = keeps Connections i in record {
      ends = own.ends;
      relays = own.relays;
      paths = λ channel of. leads_there channel (record { 0 = i }) (own.paths channel of);
    }

    pub masters_suffice : (part : ℕ) → MastersSuffice other part
    masters_suffice part = let own = keeps Masters part in record {
      least = own.least;
      most = own.most;
      members = own.members;
      threshold_least = own.threshold_least;
      threshold_most = own.threshold_most;
      begin_on = own.begin_on;
      starts = own.starts;
      one_faulty = own.one_faulty;
    }

    pub delays_fit : (place : ℕ) → DelaysFit other place
    delays_fit place beta channel links is of path =
        keeps Delays place beta channel links (beta_back beta is) of (path_back channel (record { 0 = place }) links path)

    pub errors_settle : ErrorsSettle other
    errors_settle beta is = keeps Settling 0 beta (beta_back beta is)

    pub precision_fits : PrecisionFits other
    precision_fits = let own = keeps Precision 0 in record { errors = λ beta is. own.errors beta (beta_back beta is); calc = own.calc }

    pub schedule_fits : ScheduleFits other
    schedule_fits = let own = keeps ScheduleStart 0 in record { begins = own.begins; ends = own.ends }

-- ---- a planned network keeps all rules

few_vls : (ms : List Message) (ids : List ℕ) (attempts : List Attempt) → length (vls_of ms ids attempts) ≤ length ms
few_vls [] ids attempts = omega arith
few_vls (m ∷ ms) [] attempts = omega arith
few_vls (m ∷ ms) (id ∷ ids) [] = omega arith
few_vls (m ∷ ms) (id ∷ ids) (a ∷ attempts) = let rest = few_vls ms ids attempts in omega (arith, rest)

-- what no element passes is counted at none
count_none : {X : Type 0} (test : X → Bool) (xs : List X) → ((x : X) → test x ≡ false) → count_by test xs ≡ 0
count_none test [] none = refl
count_none test (x ∷ xs) none =
    let one = count_cons test x xs in
    let rest = count_none test xs none in
    let here : one_if (test x) ≡ 0 = ap one_if (none x) in
    omega (arith, one, rest, here)

-- no row leaves a device that there is not
none_leaves : {network : Network} (d : DeviceId) → IsInRange network → length network.device ≤ d.0 → (row : Row)
    → leaves network d row ≡ false
none_leaves {network} d range past row =
    elim (some_or_none (link_at network row.link)) [
      | inr none ↦ ap (λ (o : Option Link). option_map_or (λ l. (source_by row.way l).0 == d.0) o false) none
      | inl (l, at) ↦
          ap (λ (o : Option Link). option_map_or (λ l. (source_by row.way l).0 == d.0) o false) at ∙ by_way row.way l (in_all (IsLinkInRange network) network.link row.link.0 l range.links at)
    ]
  where
    by_way : (w : Way) (l : Link) → IsLinkInRange network l → ((source_by w l).0 == d.0) ≡ false
    by_way Up l ranged = let child = ranged.child in ne_eqb l.child.0 d.0 (λ same. (omega (arith, child, same, past)))
    by_way Down l ranged = let parent = ranged.parent in ne_eqb l.parent.0 d.0 (λ same. (omega (arith, parent, same, past)))

module _ (network : Network) (ms : List Message) (ids : List ℕ) (attempts : List Attempt) (s : IsSound network ms ids attempts)
    (limits : IsWithinLimits network ms) (long : length attempts ≡ length ms) where
  abbrev planned : Network
  planned = planned_network network ms ids attempts

  abbrev new_rows : List Row
  new_rows = rows_from network (length network.vl) attempts

  few_all : (part : ℕ) → IsWithinAll planned part
  few_all part = let own = s.keeps Limits part in record {
    devices = own.devices;
    links = own.links;
    vls = λ is.
        let some = few_vls ms ids attempts in
        let parts = length-append network.vl (vls_of ms ids attempts) in
        let few = limits.links in
        (omega (arith, some, parts, few));
    rows = λ is.
        let hops = all_hops network (tree_kept network s.keeps) ms attempts (length network.vl) limits.hops long s.seat limits.are in
        let counted = rows_counted network (tree_kept network s.keeps) new_rows limits.hops hops in
        let parts = length-append network.row new_rows in
        let few = limits.rows in
        (omega (arith, counted, parts, few));
  }

  few_from : (place : ℕ) → HasFewRows planned place
  few_from place =
      let d : DeviceId = record { 0 = place } in
      let parts = count_append (leaves network d) network.row new_rows in
      elim (cases_lt place (length network.device)) [
        | inl within ↦
            let hops = all_hops network (tree_kept network s.keeps) ms attempts (length network.vl) limits.hops long s.seat limits.are in
            let counted = leaving_counted network (tree_kept network s.keeps) new_rows limits.hops d hops in
            let few = limits.devices d within in
            (omega (arith, parts, counted, few))
        | inr past ↦
            let none = count_none (leaves network d) (network.row ++ new_rows) (none_leaves d s.range past) in
            (omega (arith, none))
      ]

  pub keeps_all : KeepsRules planned
  keeps_all Limits part = few_all part
  keeps_all DevicesDiffer place = s.keeps DevicesDiffer place
  keeps_all LinksDiffer place = s.keeps LinksDiffer place
  keeps_all CompressionMasters part = one_cm network planned.vl planned.row s.keeps part
  keeps_all Joints place = s.keeps Joints place
  keeps_all Connections place = connected network planned.vl planned.row s.keeps place
  keeps_all Masters part = masters_suffice network planned.vl planned.row s.keeps part
  keeps_all Delays place = delays_fit network planned.vl planned.row s.keeps place
  keeps_all Settling place = errors_settle network planned.vl planned.row s.keeps
  keeps_all Precision place = precision_fits network planned.vl planned.row s.keeps
  keeps_all Correction place = s.keeps Correction place
  keeps_all ScheduleStart place = schedule_fits network planned.vl planned.row s.keeps
  keeps_all WindowEnds place = ends_in_cycle network ms ids attempts s place
  keeps_all VlNamesDiffer place = names_new network ms ids attempts s place
  keeps_all VlIdsDiffer place = ids_new network ms ids attempts s place
  keeps_all Periods place = has_period network ms ids attempts s place
  keeps_all Senders place = has_sender network ms ids attempts s place
  keeps_all LinksOnce place = goes_once network ms ids attempts s place
  keeps_all Sources place = has_source network ms ids attempts s place
  keeps_all Targets place = enters_anew network ms ids attempts s place
  keeps_all Spacing place = stands_apart network ms ids attempts s place
  keeps_all BothChannels place = both_channels network ms ids attempts s place
  keeps_all Forwarding place = comes_in_time network ms ids attempts s place
  keeps_all RowsOfDevice place = few_from place

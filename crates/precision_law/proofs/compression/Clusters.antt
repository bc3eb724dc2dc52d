-- The points of a compression master in their order, their clusters, and when it sends.
use Rattle.precision_law.proofs.{hearing.Timely.arrived_clock, records.Behind.PartsAtLast.{none, some}}
use Rattle.precision_law.proofs.words.{Laws.{EmissionsAreSharp, IsPermanentAt, IsRipe, IsView, View, clock_in}}
use Rattle.precision_law.proofs.words.Clocks
use Clocks.{IsClusterOf, PartsAtLast, TakesWith, after_last_at, after_more, all_by, behind_last, child_kind}
use Clocks.{cluster_from, cm_is_no_end, device_of, has_firsts, has_is_member, in_filter_map, natural, never_timed}
use Clocks.{not_each, parts_at_last, permanence_is_sharp, reach_is_sharp, receiver_down, receiver_way, ripe_in_order}
use Clocks.{room, same_device, sizes_are, some_if, steady, taken_as, taken_sound}
use Rattle.precision_law.proofs.words.Plans
use Plans.{AreClusters, Cluster, Compressed, DeviceId, Down, Holds, IsChildOf, LinkId, Master, Ordered, Ordered-beyond}
use Plans.{Pcf, Point, Relay, Role, Units, Up, Way, amount, beyond, beyond-push_out, cluster_of, cluster_of-beyond}
use Plans.{device_at, emission, end_of, end_of-least, end_of-same, firsts, firsts-has, from_beyond, held-push_beyond}
use Plans.{in_cases, in_filter_from, in_head, in_none, in_rest, in_tail, int_le-true, is_end_system, last_but_one}
use Plans.{mean_of, mean_of-floor, middle_of, of_cycle_within, one_list_of_clusters, point_at, point_of, relative}
use Rattle.precision_law.proofs.words.Runs
use Runs.{Happening, IsArrivedRecord, IsBefore, IsCaused, IsDue, IsFounded, IsIn, Judgement, NoteBody, Signal}
use Runs.{arrival_of, behind_first, control, cycle_in, ends_stretch, founded_at, frame_by, in_left, in_right, is_cm}
use Runs.{is_cm_role, master_of, members_in, numbered_in, observation_window, place_of, point_by, points_of}
use Runs.{receiver_of, same_some, standpoint, time_of, timed, way_to}
use Rattle.precision_law.proofs.words.Std
use Std.{◌&&◌, ◌++◌, ◌-ℤ◌, ◌-◌, ◌<ℤ◌, ◌<◌, ◌==◌, ◌^◌, ◌∙◌, ◌∷◌, ◌≡◌, ◌≤ℤ◌, ◌≤◌, ◌⊎◌, AllByRecursion, Bool, Contains}
use Std.{Err, List, None, Ok, Option, Some, [], after_last, and_from, ap, append-nil, append_assoc, arith, bit_at}
use Std.{bit_at-pow_other, bit_at-trailing_zeros, cases_eq, cons_option, eq-eqb, filter_map, filter_map-append, inl}
use Std.{inr, int_le, ints, map, option_and_then, option_map_or, pos, pow_below, pow_pos, refl, subst, sym}
use Std.{trailing_zeros, true, w32, ℕ, ℤ}
use Rattle.run_law.proofs.records.Order.{contained, place_order}
use Rattle.run_law.specs.declared.note.NoteBody.TheVariants as notes

-- ---- when compression masters send: middles

abbrev NotNegative : ℤ → Type 0
NotNegative z = pos 0 ≤ℤ z

mean_not_negative : (a b : ℤ) → NotNegative a → NotNegative b → NotNegative (mean_of a b)
mean_not_negative a b x y = (let m = mean_of-floor a b in omega (arith, ints))

last_not_negative : (p q : ℤ) (xs : List ℤ) → NotNegative p → AllByRecursion NotNegative (q ∷ xs) → NotNegative (last_but_one p q xs)
last_not_negative p q [] x all = x
last_not_negative p q (r ∷ rs) x all = last_not_negative q r rs all.0 all.1

-- the middle of numbers that are not negative is not
middle_not_negative : (xs : List ℤ) → AllByRecursion NotNegative xs → NotNegative (middle_of xs)
middle_not_negative [] all = omega (arith, ints)
middle_not_negative (a ∷ []) all = all.0
middle_not_negative (a ∷ b ∷ []) all = mean_not_negative a b all.0 all.1.0
middle_not_negative (a ∷ b ∷ c ∷ []) all = all.1.0
middle_not_negative (a ∷ b ∷ c ∷ d ∷ []) all = mean_not_negative b c all.1.0 all.1.1.0
middle_not_negative (a ∷ b ∷ c ∷ d ∷ e ∷ []) all = mean_not_negative b d all.1.0 all.1.1.1.0
middle_not_negative (a ∷ b ∷ c ∷ d ∷ e ∷ f ∷ more) all =
    mean_not_negative b (last_but_one e f more) all.1.0 (last_not_negative e f more all.1.1.1.1.0 all.1.1.1.1.1)

-- ---- clusters

-- what is not before the opener
all_late : (o : Point) (qs : List Point) → ((q : Point) → IsIn q qs → o.reading ≤ℤ q.reading)
    → AllByRecursion NotNegative (map (λ q. q -ℤ o.reading) (map (λ q. q.reading) qs))
all_late o [] from = tt
all_late o (q ∷ qs) from = (let low = from q (inl refl) in omega (arith, ints), all_late o qs (λ x i. from x (inr i)))

-- the middle of a cluster is not before its first point
pub middle_late : (ow : ℤ) (o : Point) (rest : List Point) → pos 0 ≤ℤ ow → NotNegative (middle_of (relative (cluster_of ow o (o ∷ rest)).points))
middle_late ow o rest there_is =
    let f = has_firsts ow o rest there_is in
    rw f.are (middle_not_negative (map (λ q. q -ℤ o.reading) (map (λ q. q.reading) (o ∷ f.more)))
    (all_late o (o ∷ f.more) (λ q i. (f.each q i).from)))

-- ---- points

-- so is what is in a cluster of the points
pub in_cluster : {ow : ℤ} {ps : List Point} {c : Cluster} (k : IsClusterOf ow ps c) (q : Point) → Contains (k.first ∷ k.rest) q → IsIn q ps
in_cluster {ps = ps} k q at =
    contained ps q (elim (in_cases k.first q k.rest at) [ inl same ↦ subst (Contains ps) same k.there | inr later ↦ k.others q later ])

module _ (v : View) (hs : List Happening) (t : ℕ) (device : DeviceId) (link : LinkId) (cause : ℕ) where
  -- no arrival is too old
  young_by : (signal : Signal) (taken : Pcf) → TakesWith (arrival_of v.scenario hs device t link cause signal) taken
      → taken.clock ≤ amount v.scenario.network.dmax
  young_by (control (Ok frame)) taken takes =
      omega (arith, taken_sound v.scenario.network device link (standpoint v.scenario hs device t) frame taken takes)
  young_by (control (Err refusal)) taken takes = absurd takes
  young_by (timed octets) taken takes = absurd (never_timed v hs t device link cause octets taken takes)

  pub arrival_young : {clock : ℕ} → IsArrivedRecord v.scenario hs device t link cause clock
      → clock ≤ amount v.scenario.network.dmax
  arrival_young a =
      let x = taken_as a in
      let young = young_by x.1.signal a.frame (rw x.1.becomes at x.2) in
      omega (arith, a.shows)

-- the record gives the device this point
pub record GivesPoint (cm : DeviceId) (k : Happening) (p : Point) : Type 0 where
  pub link : LinkId
  pub cause : ℕ
  pub point : Units
  pub verdict : Judgement
  pub is : k.note.body ≡ notes.Permanent cm link cause point verdict
  pub reads : p.reading ≡ point.0
  pub of_master : p.master ≡ master_of (members_in k)
  pub of_cycle : p.cycle ≡ cycle_in k

gives_by : (cm : DeviceId) (k : Happening) (p : Point) (body : NoteBody) → k.note.body ≡ body → point_by cm k body ≡ Some p → GivesPoint cm k p
gives_by cm k p (notes.Permanent other link cause point verdict) same e =
    let both = some_if (cm.0 == other.0) (point_at point.0 (master_of (members_in k)) (cycle_in k)) p e in
    record {
      link = link;
      cause = cause;
      point = point;
      verdict = verdict;
      is = same ∙ ap (λ d. notes.Permanent d link cause point verdict) (same_device cm other both.0);
      reads = sym (ap (λ x. x.reading) both.1);
      of_master = sym (ap (λ x. x.master) both.1);
      of_cycle = sym (ap (λ x. x.cycle) both.1);
    }
gives_by cm k p body same e = absurd cc

pub gives_point : (cm : DeviceId) (k : Happening) (p : Point) → point_by cm k k.note.body ≡ Some p → GivesPoint cm k p
gives_point cm k p e = gives_by cm k p k.note.body refl e

-- each point of the present stretch is given by a record
pub point_record : (cm : DeviceId) (front : List Happening) (p : Point) → IsIn p (points_of front cm) → (k : Happening) × IsIn k front × GivesPoint cm k p
point_record cm front p i =
    let ends = λ (h : Happening). ends_stretch cm h.note.body in
    let made = in_filter_map (λ h. point_by cm h h.note.body) (after_last ends front) p i in
    let cut = behind_last ends front in
    (made.0, subst (IsIn made.0) (sym cut.whole) (in_right made.0 cut.front (after_last ends front) made.1), gives_point cm made.0 p made.2)

-- a point is not negative
point_not_negative : {v : View} (cm : DeviceId) (front : List Happening) (p : Point) → IsView v
    → IsFounded place_of (IsDue v.scenario) front → IsIn p (points_of front cm) → NotNegative p.reading
point_not_negative {v} cm front p is founded i =
    let s = v.scenario in
    let given = point_record cm front p i in
    let at = founded_at s front given.0 founded given.1 in
    let q = (subst (IsCaused s at.front given.0.note.time) given.2.is at.due.cause).permanent in
    let at_a = founded_at s at.front q.arrival at.founded (numbered_in at.front given.2.cause q.arrival q.there) in
    omega (arith, ints, arrival_young v _ _ cm _ _ (subst (IsCaused s at_a.front q.arrival.note.time) q.arrived at_a.due.cause), is.lawful.range.dmax.least)

pub emissions_are_sharp : EmissionsAreSharp
emissions_are_sharp v h cm cycle members e is =
    let s = v.scenario in
    let at = founded_at s v.records h is.run.founded e.there in
    let emits = subst (IsCaused s at.front h.note.time) e.is at.due.cause in
    let ow = observation_window s.network in
    let c = cluster_from ow (points_of at.front cm) emits.clusters emits.cluster emits.are emits.there in
    let first = point_not_negative cm at.front c.first is at.founded
    (contained (points_of at.front cm) c.first c.there) in
    let wide : pos 0 ≤ℤ ow = omega (arith, ints) in
    let middle = middle_late ow c.first c.rest wide in
    let shown = ap (emission ow (pos (amount s.network.calc))) c.is in
    reach_is_sharp v.sizes (s.reading cm) 0 e.at.0 (time_of h) (steady v is cm)
    (omega (
      arith,
      ints,
      (steady v is cm).begins,
      ap (λ (x : Compressed). x.at.0) emits.is,
      (sizes_are is).precision,
      room is,
    ))
    emits.reached

-- ---- what is permanent at a compression master: a master's frame, in the order of the points

-- ---- what comes to a compression master comes up

cm_role_relays : (role : Role) → is_cm_role role ≡ true → role ≡ Relay → ⊥
cm_role_relays Master a b = absurd cc
cm_role_relays role a b = absurd cc

-- a compression master is no link's child
cm_no_child : {v : View} (cm : DeviceId) (link : LinkId) → IsView v → is_cm v.scenario.network cm ≡ true
    → IsChildOf v.scenario.network cm link → ⊥
cm_no_child cm link is one child =
    grind (arith, device_of, is_cm_role, device_at, child_kind, cm_is_no_end, option_map_or, is_end_system, cm_role_relays, same_some)

arrives_up : {v : View} {hs : List Happening} {t : ℕ} {cm : DeviceId} {link : LinkId} {cause clock : ℕ} → IsView v
    → is_cm v.scenario.network cm ≡ true → IsArrivedRecord v.scenario hs cm t link cause clock
    → way_to v.scenario.network cm link ≡ Up
arrives_up {v} {cm} {link} is one a =
    let put = (taken_as a).1.arrives in
    by put.way put.receiver
  where
    by : (way : Way) → receiver_of v.scenario.network link way ≡ Some cm → way_to v.scenario.network cm link ≡ Up
    by Up e = receiver_way link cm Up is e
    by Down e = absurd (cm_no_child cm link is one (receiver_down v.scenario.network link cm e))

-- ---- what is permanent

-- the record of a permanence, read
pub record IsRipening (v : View) (device : DeviceId) (ripe : Happening) (point : ℤ) : Type 0 where
  pub arrival : Happening
  pub arrived : IsIn arrival v.records
  pub permanent : IsPermanentAt v arrival device point (time_of ripe)
  pub sharp : IsRipe v.sizes (v.scenario.reading device) (time_of arrival) point (time_of ripe)
  pub members : members_in ripe ≡ members_in arrival
  pub cycle : cycle_in ripe ≡ cycle_in arrival
  pub not_negative : pos 0 ≤ℤ point
  pub clock : clock_in arrival ≡ permanent.clock
  pub up : is_cm v.scenario.network device ≡ true → way_to v.scenario.network device permanent.link ≡ Up

pub ripening : {v : View} (device : DeviceId) (ripe : Happening) (link : LinkId) (cause : ℕ) (point : Units)
    (verdict : Judgement) → IsView v → IsIn ripe v.records
    → ripe.note.body ≡ notes.Permanent device link cause point verdict → IsRipening v device ripe point.0
ripening {v} device ripe link cause point verdict is i body =
    let s = v.scenario in
    let n = s.network in
    let at = founded_at s v.records ripe is.run.founded i in
    let ripens = subst (IsCaused s at.front ripe.note.time) body at.due.cause in
    let p = ripens.permanent in
    let arrival = p.arrival in
    let in_front = numbered_in at.front cause arrival p.there in
    let in_all : IsIn arrival v.records = subst (IsIn arrival) (sym at.whole) (in_left arrival at.front (ripe ∷ at.rest) in_front) in
    let at_a = founded_at s at.front arrival at.founded in_front in
    let caused = subst (IsCaused s at_a.front arrival.note.time) p.arrived at_a.due.cause in
    let young = arrival_young v at_a.front (amount arrival.note.time) device link p.from caused in
    let of_frame : ripe.frame ≡ Some ripens.frame = ap (λ x. x.frame) at.due.same ∙ ap (frame_by n at.front) body
    ∙ ap (λ o. option_and_then (λ x. x.frame) o) p.there ∙ p.of_frame in
    let same = of_frame ∙ sym p.of_frame in
    let reading = s.reading device in
    let dmax = (sizes_are is).dmax in
    let point_is = p.at_point ∙ ap (point_of (pos (reading (time_of arrival))) p.clock) ((natural n.dmax.0 (omega (arith, ints))) ∙ ap pos (sym dmax)) in
    record {
      arrival = arrival;
      arrived = in_all;
      permanent = record { link = link; from = p.from; clock = p.clock; is = p.arrived; at_point = point_is; reached = p.reached };
      sharp =
          permanence_is_sharp v.sizes reading (time_of arrival) point.0 (time_of ripe) (steady v is device)
          (omega (arith, ints))
          p.reached;
      members = ap (λ o. option_map_or (λ f. f.members.0) o 0) same;
      cycle = ap (λ o. option_map_or (λ f. f.cycle) o 0) same;
      not_negative = omega (arith, ints);
      clock = arrived_clock arrival device link p.from p.clock is in_all p.arrived ripens.frame p.of_frame;
      up = λ one. arrives_up is one caused;
    }

-- the master whose bit is a power of two
pub master_of_bit : (m : ℕ) → m ≤ 31 → master_of (2 ^ m) ≡ m
master_of_bit m small =
    let t = bit_at-trailing_zeros w32 (2 ^ m) (pow_pos m) (pow_below m 32 (omega arith)) in
    elim (cases_eq (trailing_zeros w32 (2 ^ m)) m) [
      | inl same ↦ same
      | inr other ↦ (let clear = bit_at-pow_other m (trailing_zeros w32 (2 ^ m)) other in let set = t.1 in
          absurd (omega arith))
    ]

-- ---- the points of a compression master as records come: points and their records

-- the reading of the device comes sharply to the point at the time
pub record IsReadAt (v : View) (cm : DeviceId) (point : ℤ) (q : ℕ) : Type 0 where
  pub arrived : ℕ
  pub ripe : IsRipe v.sizes (v.scenario.reading cm) arrived point q
  pub not_negative : pos 0 ≤ℤ point

pub read_at : {v : View} {cm : DeviceId} {k : Happening} {p : Point} → IsView v → IsIn k v.records
    → GivesPoint cm k p → IsReadAt v cm p.reading (time_of k)
read_at {v} {cm} {k} is i g =
    let r = ripening cm k g.link g.cause g.point g.verdict is i g.is in
    record {
      arrived = time_of r.arrival;
      ripe = rw g.reads r.sharp;
      not_negative = omega (arith, ints, g.reads, r.not_negative);
    }

-- a point that is permanent later is not below an earlier reading
pub later_point : {v : View} {cm : DeviceId} {point : ℤ} (t : ℕ) {q : ℕ} → IsView v → IsReadAt v cm point q → t < q
    → pos (v.scenario.reading cm t) ≤ℤ point
later_point {v} {cm} t {q} is r lt =
    let up = (steady v is cm).never_falls in
    elim r.ripe.before [
      | inl before ↦ (let u = up t (q - 1) (omega arith) in omega (arith, ints))
      | inr at ↦ (let u = up t q (omega (arith, lt)) in omega (arith, ints))
    ]

-- ---- order

points_in_order : {v : View} {cm : DeviceId} {k l : Happening} {p q : Point} → IsView v → IsIn k v.records
    → IsIn l v.records → GivesPoint cm k p → GivesPoint cm l q → IsBefore (place_of k) (place_of l)
    → p.reading ≤ℤ q.reading
points_in_order {v} {cm} {k} {l} {p} {q} is i j gk gl before =
    let a = read_at is i gk in
    let b = read_at is j gl in
    let of_l = rw (gk.is, gl.is) at before in
    elim (place_order (time_of k) (time_of l) cm.0 (amount gk.point) (amount gl.point) (members_in k ∷ gk.link.0 ∷ gk.cause ∷ [])
    (members_in l ∷ gl.link.0 ∷ gl.cause ∷ []) of_l) [
      | inl lt ↦ ripe_in_order v.sizes (v.scenario.reading cm) a.arrived b.arrived p.reading q.reading (time_of k) (time_of l) (steady v is cm) a.ripe b.ripe lt
      | inr le ↦ omega (arith, ints, gk.reads, gl.reads, a.not_negative, b.not_negative)
    ]

ordered_by : {v : View} (cm : DeviceId) (ps ks rest : List Happening) → IsView v → v.records ≡ ps ++ (ks ++ rest)
    → Ordered (filter_map (λ h. point_by cm h h.note.body) ks)
ordered_by cm ps [] rest is whole = tt
ordered_by {v} cm ps (k ∷ ks) rest is whole =
    by (point_by cm k k.note.body) refl (ordered_by cm (ps ++ k ∷ []) ks rest is
    (whole ∙ sym (append_assoc ps (k ∷ []) (ks ++ rest))))
  where
    by : (o : Option Point) → point_by cm k k.note.body ≡ o → Ordered (filter_map (λ h. point_by cm h h.note.body) ks)
        → Ordered (cons_option o (filter_map (λ h. point_by cm h h.note.body) ks))
    by None e up = up
    by (Some p) e up = (
      all_by (λ q. p.reading ≤ℤ q.reading) (filter_map (λ h. point_by cm h h.note.body) ks) (λ q i.
          let made = in_filter_map (λ h. point_by cm h h.note.body) ks q i in
          let in_rest = in_left made.0 ks rest made.1 in
          let before = behind_first place_of (IsDue v.scenario) ps (ks ++ rest) k made.0 (subst (IsFounded place_of (IsDue v.scenario)) whole is.run.founded)
          in_rest in
          points_in_order is (subst (IsIn k) (sym whole) (in_right k ps (k ∷ (ks ++ rest)) (inl refl)))
          (subst (IsIn made.0) (sym whole) (in_right made.0 ps (k ∷ (ks ++ rest)) (inr in_rest))) (gives_point cm k p e)
          (gives_point cm made.0 q made.2) before),
      up,
    )

-- the points of a stretch are in their order
pub points_ordered : {v : View} (cm : DeviceId) (front rest : List Happening) → IsView v → v.records ≡ front ++ rest
    → Ordered (points_of front cm)
points_ordered cm front rest is whole =
    let cut = behind_last (λ h. ends_stretch cm h.note.body) front in
    ordered_by cm cut.front (after_last (λ h. ends_stretch cm h.note.body) front) rest is
    (whole ∙ ap (λ hs. hs ++ rest) cut.whole ∙ append_assoc cut.front
    (after_last (λ h. ends_stretch cm h.note.body) front)
    rest)

-- ---- stretches

-- the point is given by one of the records
abbrev pub IsGivenIn : DeviceId → List Happening → Point → Type 0
IsGivenIn cm ks p = (k : Happening) × IsIn k ks × (point_by cm k k.note.body ≡ Some p)

-- behind the last of a kind stands what stood there, with what comes, or only what comes
last_parts : {X : Type 0} {p : X → Bool} (xs : List X) {ys : List X} → PartsAtLast p ys
    → (after_last p (xs ++ ys) ≡ after_last p xs ++ ys) ⊎ ((x : X) → IsIn x (after_last p (xs ++ ys)) → IsIn x ys)
last_parts {p} xs {ys} (none all) = inl (after_more ys all (parts_at_last p xs))
last_parts {X} {p} xs (some front rest last whole here all) =
    let at = ap (λ zs. after_last p (xs ++ zs)) whole ∙ ap (after_last p) (sym (append_assoc xs front (last ∷ rest)))
    ∙ after_last_at p (xs ++ front) last rest here (not_each p rest all) in
    inr (λ x i. subst (IsIn x) (sym whole) (in_right x front (last ∷ rest) (inr (subst (IsIn x) at i))))

-- records that come add points behind those of the stretch, or begin another, whose points are all given by them
pub record AddsPoints (cm : DeviceId) (front back : List Happening) : Type 0 where
  pub more : List Point
  pub whole : points_of (front ++ back) cm ≡ points_of front cm ++ more
  pub given : (p : Point) → IsIn p more → IsGivenIn cm back p

pub points_go_on : (cm : DeviceId) (front back : List Happening) → AddsPoints cm front back
    ⊎ ((p : Point) → IsIn p (points_of (front ++ back) cm) → IsGivenIn cm back p)
points_go_on cm front back =
    let ends = λ (h : Happening). ends_stretch cm h.note.body in
    let point = λ (h : Happening). point_by cm h h.note.body in
    elim (last_parts front (parts_at_last ends back)) [
      | inl same ↦ inl (record {
        more = filter_map point back;
        whole = ap (filter_map point) same ∙ filter_map-append point (after_last ends front) back;
        given = λ p i. in_filter_map point back p i;
      })
      | inr in_back ↦ inr (λ p i. let made = in_filter_map point (after_last ends (front ++ back)) p i in (made.0, in_back made.0 made.1, made.2))
    ]

-- ---- a cluster of points is one without the points beyond its end as it is with them, and a point that it holds is of one of its members

-- ---- with points beyond and without

-- a cluster of a list opens behind a reading behind which all points lie, and does not end before it opens
opens_behind : (ow end : ℤ) (qs : List Point) (cs : List Cluster) (c : Cluster) → pos 0 ≤ℤ ow → AreClusters ow (beyond end qs) cs → Contains cs c
    → (end <ℤ c.opened) × (c.opened ≤ℤ c.end)
opens_behind ow end qs cs c there_is are at =
    let from = cluster_from ow (beyond end qs) cs c are at in
    let opened = (from_beyond end qs from.first from.there).1 in
    let ends : c.end ≡ end_of ow from.first (from.first ∷ from.rest) = ap (λ x. x.end) from.is in
    let opens : c.opened ≡ from.first.reading = ap (λ x. x.opened) from.is in
    (omega (arith, ints), omega (arith, ints, end_of-least ow from.first (from.first ∷ from.rest) there_is))

-- the first cluster is the same with a point more, where either ends before it
first_same : (ow : ℤ) (o : Point) (ps : List Point) (p : Point) (k e : Cluster) → pos 0 ≤ℤ ow → k ≡ cluster_of ow o (o ∷ ps)
    → e ≡ cluster_of ow o ((o ∷ ps) ++ p ∷ []) → (k.end <ℤ p.reading) ⊎ (e.end <ℤ p.reading) → k ≡ e
first_same ow o ps p k e there_is is_k is_e past = grind (arith, end_of, ints, end_of-least, end_of-same, firsts, held-push_beyond, cluster_of-beyond)

-- a cluster that ends before a point is one with the point where it is one without
same_by : (ow : ℤ) (ps : List Point) (p : Point) (cs ds : List Cluster) (c : Cluster) → pos 0 ≤ℤ ow → AreClusters ow ps cs → AreClusters ow (ps ++ p ∷ []) ds
    → c.end <ℤ p.reading → (Contains cs c → Contains ds c) × (Contains ds c → Contains cs c)
same_by ow [] p (k ∷ cs) ds c there_is are next past = absurd are
same_by ow [] p [] [] c there_is are next past = absurd next
same_by ow [] p [] (e ∷ d ∷ ds) c there_is are next past = absurd next.1
same_by ow [] p [] (e ∷ []) c there_is are next past = grind (arith, in_none, in_cases, ints, end_of-least)
same_by ow (o ∷ ps) p [] ds c there_is are next past = absurd are
same_by ow (o ∷ ps) p (k ∷ cs) [] c there_is are next past = absurd next
same_by ow (o ∷ ps) p (k ∷ cs) (e ∷ ds) c there_is are next past =
    let one = first_same ow o ps p k e there_is are.0 next.0 in
    let rest = λ (same : k ≡ e) (behind : k.end <ℤ p.reading).
    same_by ow (beyond k.end ps) p cs ds c there_is are.1 (rw (sym (beyond-push_out k.end ps p behind))
    (rw (sym same) at next.1)) past in (
      λ at. elim (in_cases k c cs at) [
        | inl same ↦ subst (Contains (e ∷ ds)) (sym (one (inl (rw same past))) ∙ same) (in_head e ds)
        | inr later ↦
            let behind : k.end <ℤ p.reading = omega (arith, ints, opens_behind ow k.end ps cs c there_is are.1 later) in
            in_tail e c ds ((rest (one (inl behind)) behind).0 later)
      ],
      λ at. elim (in_cases e c ds at) [
        | inl same ↦ subst (Contains (k ∷ cs)) (one (inr (rw same past)) ∙ same) (in_head k cs)
        | inr later ↦
            let opens = opens_behind ow e.end (ps ++ p ∷ []) ds c there_is next.1 later in
            let same = one (inr (omega (arith, ints))) in
            in_tail k c cs ((rest same (omega (arith, ints, ap (λ (x : Cluster). x.end) same))).1 later)
      ],
    )

-- one that ends before all that come is one with them where it is one without
pub same_beyond : (ow : ℤ) (ps more : List Point) (cs ds : List Cluster) (c : Cluster) → pos 0 ≤ℤ ow → AreClusters ow ps cs → AreClusters ow (ps ++ more) ds
    → AllByRecursion (λ q. c.end <ℤ q.reading) more → (Contains cs c → Contains ds c) × (Contains ds c → Contains cs c)
same_beyond ow ps [] cs ds c there_is are next past =
    let unique = (one_list_of_clusters ow ps).2 in
    let same = unique ds (rw (append-nil ps) at next) ∙ sym (unique cs are) in
    (subst (λ x. Contains x c) (sym same), subst (λ x. Contains x c) same)
same_beyond ow ps (p ∷ more) cs ds c there_is are next past =
    let found = one_list_of_clusters ow (ps ++ p ∷ []) in
    let whole : AreClusters ow ((ps ++ p ∷ []) ++ more) ds = rw (append_assoc ps (p ∷ []) more) next in
    let one = same_by ow ps p cs found.0 c there_is are found.1 past.0 in
    let all = same_beyond ow (ps ++ p ∷ []) more found.0 ds c there_is found.1 whole past.1 in
    (λ at. all.0 (one.0 at), λ at. one.1 (all.1 at))

-- so it was one before they came
pub cluster_was : (ow : ℤ) (ps more : List Point) (cs ds : List Cluster) (c : Cluster) → pos 0 ≤ℤ ow → AreClusters ow ps cs → AreClusters ow (ps ++ more) ds
    → Contains ds c → AllByRecursion (λ q. c.end <ℤ q.reading) more → Contains cs c
cluster_was ow ps more cs ds c there_is are next at past = (same_beyond ow ps more cs ds c there_is are next past).1 at

-- the master of a point that a cluster holds is one of its members
pub is_held : (ow : ℤ) (ps : List Point) (cs : List Cluster) {c : Cluster} {p : Point} → pos 0 ≤ℤ ow → Ordered ps
    → AreClusters ow ps cs → Contains cs c → Contains ps p → Holds c p → bit_at c.members p.master ≡ 1
is_held ow [] cs {p} there_is up are at there holds = absurd (in_none p there)
is_held ow (o ∷ ps) [] there_is up are at there holds = absurd are
is_held ow (o ∷ ps) (k ∷ cs) {c} {p} there_is up are at there holds =
    let ends : k.end ≡ end_of ow o (o ∷ ps) = rw are.0 in
    elim (in_cases k c cs at) [
      | inl same ↦
          let is = sym same ∙ are.0 in
          let end = end_of ow o (o ∷ ps) in
          let low : o.reading ≤ℤ p.reading = rw is at holds.1.low in
          let high : p.reading ≤ℤ end = rw is at holds.1.high in
          let cycle = holds.0 ∙ ap (λ x. x.cycle) is in
          let pass = and_from (p.cycle == o.cycle) (int_le o.reading p.reading && int_le p.reading end) (eq-eqb p.cycle o.cycle cycle)
          (and_from (int_le o.reading p.reading) (int_le p.reading end) (int_le-true o.reading p.reading low) (int_le-true p.reading end high)) in
          let within = in_filter_from (λ q. q.cycle == o.cycle && (int_le o.reading q.reading && int_le q.reading end)) (o ∷ ps) p there pass in
          let bit = has_is_member (firsts (of_cycle_within o.cycle o.reading end (o ∷ ps))) p.master
          (firsts-has (of_cycle_within o.cycle o.reading end (o ∷ ps)) p within) in
          rw is bit
      | inr later ↦
          let opens = opens_behind ow k.end ps cs c there_is are.1 later in
          is_held ow (beyond k.end ps) cs there_is (Ordered-beyond k.end ps up.1) are.1 later
          (in_rest o ps p k.end (omega (arith, ints, end_of-least ow o (o ∷ ps) there_is))
          (omega (arith, ints, opens.0, holds.1.low)) there) holds
    ]

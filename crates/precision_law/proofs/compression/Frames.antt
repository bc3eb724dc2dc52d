-- Compressed frames: what they are made of, in what hull their base lies, and that one is sent of a cycle.
use Rattle.std.proofs.lemmas.List.{length-map}
use Rattle.compression.{proofs.ClusterFacts.ends_soon, specs.Emission.compressed}
use Rattle.precision_law.proofs.{block.Instants.cm_channel, hearing.Timely.{cm_of, path_member}}
use Rattle.precision_law.proofs.{trips.Upward.{path_up, trips_up_take_dmax}}
use Rattle.precision_law.proofs.compression.Clusters
use Clusters.{GivesPoint, IsGivenIn, emissions_are_sharp, gives_point, in_cluster, later_point, master_of_bit}
use Clusters.{middle_late, point_record, points_go_on, points_ordered, read_at, ripening, same_beyond}
use Rattle.precision_law.proofs.words.Clocks
use Clocks.{Apart, all_but_one, all_by, any_in, ascending_from, before_of, cluster_from, contains, few_members}
use Clocks.{founded_by, frames_up_are_of_masters, has_firsts, has_is_member, has_member, has_one, higher_before, in_all}
use Clocks.{in_any, le_by, member_has, middle_near, no_later, one_bad, one_member, room, short_by_reading, sizes_are}
use Clocks.{steady}
use Rattle.precision_law.proofs.words.Laws
use Laws.{AreGood, BasesAreInHulls, BasesAreNearHulls, EmissionIsOne, EmissionsAreOfDispatches, HasGood, Hull, IsBad}
use Laws.{IsBaseIn, IsDispatch, IsEmission, IsGood, IsGoodMember, IsInTime, IsNarrowIfThere, IsSteady, IsTidyBefore}
use Laws.{IsView, MembersAreMasters, Sizes, ThreeHaveGood, View, base_of, clock_in, hull_of, links_of}
use Rattle.precision_law.proofs.words.Plans
use Plans.{AreClusters, AreInOrder, Cluster, DeviceId, IsKept, IsMember, LiesIn, LiesWithin, Members, Ordered, Point}
use Plans.{amount, count_of, emission, last_from, mean_of-floor, members_of, middle_among_others}
use Plans.{middle_from_first_to_last, middle_of, middle_point, one_cluster, one_time_law, relative}
use Rattle.precision_law.proofs.words.Runs
use Runs.{Happening, IsBefore, IsCaused, IsDue, IsFounded, IsFoundedAt, IsIn, behind_first, cycle_in, founded_at}
use Runs.{frame_by, in_left, in_parts, in_right, is_broken, is_cm, key, master_of, member_of, members_in, never_self}
use Runs.{observation_window, parted, place_of, points_of, rank, same_some, time_of}
use Rattle.precision_law.proofs.words.Std
use Std.{◌*ℤ◌, ◌*◌, ◌++◌, ◌+ℤ◌, ◌+◌, ◌-ℤ◌, ◌-◌, ◌<ℤ◌, ◌<◌, ◌==◌, ◌^◌, ◌∙◌, ◌∷◌, ◌≡◌, ◌≤ℤ◌, ◌≤◌, ◌⊎◌, Contains, List}
use Std.{Some, [], ap, append_assoc, arith, bit_at, bit_at-zero, both_ways, cases_lt, eq-eqb, eqb-true, inl, inr, ints}
use Std.{length, map, negsuc, option_map_or, pos, refl, subst, sym, true, zero_from_ones, ℕ, ℤ}
use Rattle.run_law.{proofs.records.Order.contained, specs.control.Emissions.Emits}
use Rattle.run_law.specs.declared.note.NoteBody.TheVariants as notes

-- ---- what compressed frames are made of: points

-- the point is that of a good master's frame, which is permanent up to this time
pub record IsGoodPoint (v : View) (cm : DeviceId) (by : ℕ) (q : Point) : Type 0 where
  pub first : Happening
  pub master : DeviceId
  pub dispatch : IsDispatch v first master q.cycle
  pub is_member : member_of v.scenario.network master ≡ Some q.master
  pub before : time_of first < by
  pub ripe : ℕ
  pub not_behind : ripe ≤ by
  pub in_time : IsInTime v first ripe
  pub least : q.reading ≤ℤ pos (v.scenario.reading cm ripe)
  pub most : pos (v.scenario.reading cm ripe) ≤ℤ (q.reading +ℤ pos (2 * v.sizes.grain))

-- it is that of a broken one's
pub record IsBadPoint (v : View) (q : Point) : Type 0 where
  pub master : DeviceId
  pub bad : IsBad v master
  pub is_member : member_of v.scenario.network master ≡ Some q.master

-- a good device is not bad
pub not_both : (v : View) (device other : DeviceId) → IsGood v device → IsBad v other → device ≡ other → ⊥
not_both v device other good bad same = both_ways (is_broken v.scenario other v.until) (subst (IsGood v) same good) bad

-- a good point is of another master than a bad one
pub point_not_both : {v : View} {cm : DeviceId} {by : ℕ} {p q : Point} → IsView v → IsGoodPoint v cm by p
    → IsBadPoint v q → p.master ≡ q.master → ⊥
point_not_both {v} is good bad same =
    not_both v _ _ good.dispatch.good bad.bad (one_member good.master bad.master _ is good.is_member
    (bad.is_member ∙ ap (λ m. Some m) (sym same)))

-- bad points are of one master
pub bad_is_one : {v : View} {p q : Point} → IsView v → IsBadPoint v p → IsBadPoint v q → p.master ≡ q.master
bad_is_one is a b = grind (arith, one_bad, member_of, same_some)

-- a dispatch has no delay so far
pub dispatch_clock : {v : View} {first : Happening} {master : DeviceId} {cycle : ℕ} → IsView v
    → IsDispatch v first master cycle → clock_in first ≡ 0
dispatch_clock {v} {first} is d =
    let at = founded_at v.scenario v.records first is.run.founded d.there in
    ap (λ o. option_map_or (λ f. f.clock) o 0) (ap (λ x. x.frame) at.due.same ∙ ap
    (frame_by v.scenario.network at.front) d.is)

-- a point that a record gives is that of a good master or of a bad one
pub record_point : {v : View} {cm : DeviceId} {q : Point} (by : ℕ) {k : Happening} → IsView v → IsIn k v.records
    → time_of k ≤ by → is_cm v.scenario.network cm ≡ true → GivesPoint cm k q → IsGoodPoint v cm by q ⊎ IsBadPoint v q
record_point {v} {cm} {q} by {k} is there early one g =
    let r = ripening cm k g.link g.cause g.point g.verdict is there g.is in
    let p = r.permanent in
    elim (frames_up_are_of_masters v r.arrival cm p.link p.from p.clock is r.arrived p.is (r.up one)) [
      | inr bad ↦ inr (record {
        master = bad.master;
        bad = bad.bad;
        is_member = bad.is_member ∙ ap (λ m. Some m) (sym
            (master_is bad.master bad.member g.of_master r.members bad.is_member bad.members));
      })
      | inl good ↦
          let channel = cm_channel cm is one in
          let path = path_up channel.0 good.first r.arrival good.legs good.master cm (cycle_in r.arrival) p.link
          p.from p.clock is
          (cm_of v cm channel.0 one channel.1) good.trip p.is good.dispatch.is in
          inl (record {
            first = good.first;
            master = good.master;
            dispatch = subst (IsDispatch v good.first good.master) (sym r.cycle ∙ sym g.of_cycle) good.dispatch;
            is_member = good.is_member ∙ ap (λ m. Some m) (sym
                (master_is good.master good.member g.of_master r.members good.is_member good.members));
            before = omega (arith, good.in_order, r.sharp.after);
            ripe = time_of k;
            not_behind = early;
            in_time =
                trips_up_take_dmax v good.first r.arrival good.legs channel.0 good.master cm g.point.0 (time_of k) is
                (path_member v channel.0 good.master (links_of good.legs) is path) path
                (dispatch_clock is good.dispatch) good.trip p r.clock;
            least = omega (arith, ints, r.sharp.least, g.reads);
            most = omega (arith, ints, r.sharp.most, g.reads);
          })
    ]
  where
    master_is : {a b : ℕ} (master : DeviceId) (m : ℕ) → q.master ≡ master_of a → a ≡ b → member_of v.scenario.network master ≡ Some m → b ≡ 2 ^ m → q.master ≡ m
    master_is master m e same member bits =
        e ∙ ap master_of (same ∙ bits) ∙ master_of_bit m (has_member master m is member).small

pub front_point : {v : View} (cm : DeviceId) (q : Point) (by : ℕ) (front rest : List Happening) → IsView v
    → v.records ≡ front ++ rest → ((h : Happening) → IsIn h front → time_of h ≤ by)
    → is_cm v.scenario.network cm ≡ true → IsIn q (points_of front cm) → IsGoodPoint v cm by q ⊎ IsBadPoint v q
front_point cm q by front rest is whole only one i =
    let given = point_record cm front q i in
    let k = given.0 in
    record_point by is (subst (IsIn k) (sym whole) (in_left k front rest given.1)) (only k given.1) one given.2

-- a point of those before a record
pub point_is : {v : View} {h : Happening} (cm : DeviceId) (q : Point) → IsView v
    → (at : IsFoundedAt v.scenario v.records h) → is_cm v.scenario.network cm ≡ true → IsIn q (points_of at.front cm)
    → IsGoodPoint v cm (time_of h) q ⊎ IsBadPoint v q
point_is {h} cm q is at one i =
    front_point cm q (time_of h) at.front (h ∷ at.rest) is at.whole (before_of is at).only one i

-- ---- clusters

-- a counted point of a cluster
pub record IsCounted (v : View) (cm : DeviceId) (front : List Happening) (cycle : ℕ) (opened : ℤ) (q : Point) : Type 0 where
  pub of_cycle : q.cycle ≡ cycle
  pub from : opened ≤ℤ q.reading
  pub to : q.reading ≤ℤ (opened +ℤ pos (2 * v.sizes.precision))
  pub there : IsIn q (points_of front cm)

-- the emission is of these points, in order and of different masters
pub record IsMade (v : View) (h : Happening) (cm : DeviceId) (cycle : ℕ) (members : Members) (sent : ℤ) (front : List Happening) : Type 0 where
  pub is_cm_one : is_cm v.scenario.network cm ≡ true
  pub first : Point
  pub more : List Point
  pub members_are : members.0 ≡ members_of (first ∷ more)
  pub each : (q : Point) → IsIn q (first ∷ more) → IsCounted v cm front cycle first.reading q
  pub differ : Apart (first ∷ more)
  pub ordered : Ordered (first ∷ more)
  pub at : sent ≡ ((first.reading +ℤ pos v.sizes.compression) +ℤ middle_of (relative (map (λ q. q.reading) (first ∷ more))))

pub made_of : {v : View} {h : Happening} {cm : DeviceId} {cycle : ℕ} {members : Members} (is : IsView v)
    (e : IsEmission v h cm cycle members) → IsMade v h cm cycle members e.at.0
    (founded_at v.scenario v.records h is.run.founded e.there).front
made_of {v} {h} {cm} {cycle} is e =
    let at = founded_at v.scenario v.records h is.run.founded e.there in
    let emits = subst (IsCaused v.scenario at.front h.note.time) e.is at.due.cause in
    let ow = observation_window v.scenario.network in
    let c = cluster_from ow (points_of at.front cm) emits.clusters emits.cluster emits.are emits.there in
    let o = c.first in
    let wide : pos 0 ≤ℤ ow = omega (arith, ints) in
    let f = has_firsts ow o c.rest wide in
    let soon = ends_soon ow o (o ∷ c.rest) wide in
    let cycle_is : cycle ≡ o.cycle = ap (λ x. x.cycle) emits.is ∙ ap (λ (x : Cluster). x.cycle) c.is in
    let sent = ap (λ x. x.at.0) emits.is ∙ ap (emission ow (pos (amount v.scenario.network.calc))) c.is in
    record {
      is_cm_one = emits.cm;
      first = o;
      more = f.more;
      members_are = ap (λ x. x.members.0) emits.is ∙ ap (λ (x : Cluster). x.members) c.is ∙ ap members_of f.are;
      each = λ q i.
          let k = f.each q i in
          record {
            of_cycle = k.of_cycle ∙ sym cycle_is;
            from = k.from;
            to =
                omega (arith, ints, k.to, sizes_are is);
            there = in_cluster c q k.there;
          };
      differ = f.differ;
      ordered = f.ordered (c.ordered (points_ordered cm at.front (h ∷ at.rest) is at.whole));
      at = omega (
        arith,
        ints,
        ap (λ (qs : List Point). middle_of (relative (map (λ q. q.reading) qs))) f.are,
        sizes_are
            is,
      );
    }

-- ---- good members

-- a member has a point
pub point_of_member : (qs : List Point) (i : ℕ) → bit_at (members_of qs) i ≡ 1 → (q : Point) × IsIn q qs × (q.master ≡ i)
point_of_member qs i set =
    let found = any_in (λ q. q.master == i) qs (member_has qs i set) in
    (found.0, found.1, eqb-true found.0.master i found.2)

-- and a point's master is a member
pub member_of_point : (qs : List Point) (q : Point) → IsIn q qs → bit_at (members_of qs) q.master ≡ 1
member_of_point qs q i = has_is_member qs q.master (in_any (λ x. x.master == q.master) qs q i
    (eq-eqb q.master q.master refl))

module _ (v : View) (h : Happening) (cm : DeviceId) (cycle : ℕ) (members : Members) (is : IsView v) (e : IsEmission v h cm cycle members) where
  -- the points of what is sent
  abbrev pub made : IsMade v h cm cycle members e.at.0 (founded_at v.scenario v.records h is.run.founded e.there).front
  made = made_of is e

  -- each is good, or a broken master's
  pub good_or_bad_point : (q : Point) → IsIn q (made.first ∷ made.more) → IsGoodPoint v cm (time_of h) q ⊎ IsBadPoint v q
  good_or_bad_point q i = point_is cm q is (founded_at v.scenario v.records h is.run.founded e.there) made.is_cm_one (made.each q i).there

  -- and its master is a member
  pub is_of_member : (q : Point) → IsIn q (made.first ∷ made.more) → IsMember q.master members
  is_of_member q i = rw made.members_are (member_of_point (made.first ∷ made.more) q i)

  pub good_member_point : (i : ℕ) → IsMember i members → IsGoodMember v i → (q : Point) × IsIn q (made.first ∷ made.more) × IsGoodPoint v cm (time_of h) q
  good_member_point i set good =
      let p = point_of_member (made.first ∷ made.more) i (rw (sym made.members_are) set) in
      elim (good_or_bad_point p.0 p.1) [
        | inl one ↦ (p.0, p.1, one)
        | inr bad ↦ absurd (not_both v good.0 bad.master good.2 bad.bad
            (one_member good.0 bad.master i is good.1 (bad.is_member ∙ ap (λ x. Some x) p.2)))
      ]

  -- some member is good, or the only point is a broken master's
  good_or_alone : (more : List Point) → made.more ≡ more → HasGood v members ⊎ (IsBadPoint v made.first × (made.more ≡ []))
  good_or_alone more are =
      let has : (q : Point) → IsIn q (made.first ∷ made.more) → IsGoodPoint v cm (time_of h) q → HasGood v members =
      λ q i good. (q.master, is_of_member q i, (good.master, good.is_member, good.dispatch.good)) in
      elim (good_or_bad_point made.first (inl refl)) [
        | inl good ↦ inl (has made.first (inl refl) good)
        | inr bad ↦ by more are bad has
      ]
    where
      by : (more : List Point) → made.more ≡ more → IsBadPoint v made.first
          → ((q : Point) → IsIn q (made.first ∷ made.more) → IsGoodPoint v cm (time_of h) q → HasGood v members)
          → HasGood v members ⊎ (IsBadPoint v made.first × (made.more ≡ []))
      by [] none bad has = inr (bad, none)
      by (next ∷ more) some bad has =
          let i : IsIn next made.more = subst (IsIn next) (sym some) (inl refl) in
          elim (good_or_bad_point next (inr i)) [
            | inl good ↦ inl (has next (inr i) good)
            | inr other ↦ absurd (in_all (λ q. q.master ≡ made.first.master → ⊥) made.more next made.differ.0 i
                (bad_is_one is other bad))
          ]

  one_at_least : 1 ≤ count_of members
  one_at_least = le_by (λ none.
      let bit = ap (λ x. bit_at x made.first.master) (zero_from_ones members.0 (omega arith)) in
      omega (arith, is_of_member made.first (inl refl), bit_at-zero made.first.master))

  -- one point makes one member
  one_at_most : made.more ≡ [] → count_of members ≤ 1
  one_at_most none =
      let same : count_of members ≡ count_of (record { 0 = members_of (made.first ∷ []) }) =
      ap (λ x. count_of (record { 0 = x })) (made.members_are ∙ ap (λ (qs : List Point). members_of (made.first ∷ qs))
      none) in
      omega (arith, few_members (made.first ∷ []))

pub emissions_are_of_dispatches : EmissionsAreOfDispatches
emissions_are_of_dispatches v h cm cycle members is e good =
    let p = good_member_point v h cm cycle members is e good.0 good.1 good.2 in
    let g = p.2 in
    let dispatch = subst (IsDispatch v g.first g.master) ((made v h cm cycle members is e).each p.0 p.1).of_cycle g.dispatch in
    record { first = g.first; master = g.master; dispatch = dispatch; before = g.before }

pub three_have_good : ThreeHaveGood
three_have_good v h cm cycle members is e many = elim (good_or_alone v h cm cycle members is e (made v h cm cycle members is e).more refl) [
  | inl good ↦ good
  | inr alone ↦ absurd (omega (arith, one_at_most v h cm cycle members is e alone.1))
]

pub members_are_masters : MembersAreMasters
members_are_masters v h cm cycle members is e =
    let m = made v h cm cycle members is e in
    let one = one_at_least v h cm cycle members is e in (
      one,
      elim (good_or_alone v h cm cycle members is e m.more refl) [
        | inl good ↦ inl good
        | inr alone ↦ inr (
          λ i member.
              let p = point_of_member (m.first ∷ m.more) i (rw (sym m.members_are) member) in
              let only : p.0 ≡ m.first = elim p.1 [ inl same ↦ same | inr more ↦ absurd (subst (IsIn p.0) alone.1 more) ] in
              (alone.0.master, alone.0.is_member ∙ ap (λ x. Some x) (rw (sym only) p.2), alone.0.bad),
          omega (arith, one_at_most v h cm cycle members is e alone.1),
        )
      ],
    )

-- ---- the base of a compressed frame lies in the hull of its cycle: numbers

-- a reading that lies so far behind that of a time is read so much later
later_by : {n : Sizes} {reading : ℕ → ℕ} (a s gap : ℕ) → IsSteady n reading → gap ≤ 2 * n.cycle
    → reading a + gap ≤ reading s → 1 ≤ gap → a + gap ≤ s + n.drift
later_by {n} a s gap steady short le some =
    elim (cases_lt a s) [
      | inr ge ↦ (let up = steady.never_falls s a ge in absurd (omega arith))
      | inl lt ↦ elim (cases_lt (a + 2 * n.cycle) s) [
        | inl long ↦ omega arith
        | inr within ↦ (let fast = steady.fast a s (omega arith) within in omega arith)
      ]
    ]

-- and one that lies at most so far behind is read at most so much later
sooner_by : {n : Sizes} {reading : ℕ → ℕ} (b s gap : ℕ) → IsSteady n reading → gap + n.drift < 2 * n.cycle
    → reading s ≤ reading b + gap → s ≤ b + gap + n.drift
sooner_by {n} {reading} b s gap steady short le =
    elim (cases_lt b s) [
      | inr ge ↦ omega arith
      | inl lt ↦ omega (
        arith,
        steady.slow b s (omega arith)
            (omega (arith, short_by_reading n reading b s steady (omega arith) (omega arith))),
      )
    ]

-- ---- middles

-- the last of points that lie within bounds does
last_within : (low high p : ℤ) (qs : List Point) → LiesWithin low high p → ((q : Point) → IsIn q qs → LiesWithin low high q.reading)
    → LiesWithin low high (last_from p (map (λ q. q.reading) qs))
last_within low high p [] at each = at
last_within low high p (q ∷ qs) at each = last_within low high q.reading qs (each q (inl refl)) (λ x i. each x (inr i))

-- ---- the bounds of an emission

-- the least number that is not below
record HasLeast (z : ℤ) : Type 0 where
  pub n : ℕ
  pub above : z ≤ℤ pos n
  pub least : (q : ℕ) → z ≤ℤ pos q → n ≤ q

has_least : (z : ℤ) → HasLeast z
has_least (pos n) = record { n = n; above = omega (arith, ints); least = λ q le. omega (arith, ints) }
has_least (negsuc n) = record { n = 0; above = omega (arith, ints); least = λ q le. omega arith }

-- the reading lies between those of the compression master at the two times
abbrev LiesBetween : View → DeviceId → ℕ → ℕ → ℤ → Type 0
LiesBetween v cm a b z = LiesWithin (pos (v.scenario.reading cm a) -ℤ pos (2 * v.sizes.grain)) (pos (v.scenario.reading cm b)) z

-- the times between which what dispatches of the cycle make is permanent
record HasBounds (v : View) (cm : DeviceId) (cycle by : ℕ) : Type 0 where
  pub hull : Hull
  pub is : hull_of v cycle ≡ Some hull
  pub a : ℕ
  pub b : ℕ
  pub from : (hull.least +ℤ pos v.sizes.dmax) ≤ℤ pos (a + v.sizes.path)
  pub to : pos b ≤ℤ (hull.greatest +ℤ pos (v.sizes.dmax + v.sizes.path))
  pub each : (q : Point) → q.cycle ≡ cycle → IsGoodPoint v cm by q → LiesBetween v cm a b q.reading

bounds_of : {v : View} {cm : DeviceId} (cycle : ℕ) {by : ℕ} {q : Point} → IsView v → IsTidyBefore v by
    → q.cycle ≡ cycle → IsGoodPoint v cm by q → HasBounds v cm cycle by
bounds_of {v} {cm} cycle {q} is tidy of_cycle good =
    let inside = tidy good.first good.master q.cycle good.dispatch good.before in
    let hull = inside.hull in
    let n = v.sizes in
    let begun : pos 0 ≤ℤ hull.greatest = omega (arith, ints, inside.most) in
    let a = has_least ((hull.least +ℤ pos n.dmax) -ℤ pos n.path) in
    let b = has_least (hull.greatest +ℤ pos (n.dmax + n.path)) in
    let b_is : (hull.greatest +ℤ pos (n.dmax + n.path)) ≡ pos b.n =
    top (hull.greatest +ℤ pos (n.dmax + n.path)) b (omega (arith, ints)) in
    let hull_is : hull_of v cycle ≡ Some hull = ap (hull_of v) (sym of_cycle) ∙ inside.is in
    record {
      hull = hull;
      is = hull_is;
      a = a.n;
      b = b.n;
      from = omega (arith, ints, a.above);
      to = omega (arith, ints);
      each = λ x x_cycle x_good.
          let at = tidy x_good.first x_good.master x.cycle x_good.dispatch x_good.before in
          let same : at.hull ≡ hull = same_some (hull_of v cycle) at.hull hull (ap (hull_of v) (sym x_cycle) ∙ at.is) hull_is in
          let low : hull.least ≤ℤ pos (time_of x_good.first) = rw same at at.least in
          let high : pos (time_of x_good.first) ≤ℤ hull.greatest = rw (sym same) at.most in
          let down = (steady v is cm).never_falls x_good.ripe b.n (omega (arith, ints, x_good.in_time.not_late)) in
          (omega (arith, ints, (steady v is cm).never_falls a.n x_good.ripe (a.least x_good.ripe (omega (arith, ints))), x_good.most), omega (arith, ints));
    }
  where
    top : (z : ℤ) (l : HasLeast z) → pos 0 ≤ℤ z → z ≡ pos l.n
    top (pos n) l le = (let up = l.above in let down = l.least n (omega (arith, ints)) in omega (arith, ints))
    top (negsuc n) l le = absurd (omega (arith, ints))

-- the middle of any number of points within bounds lies within them
good_lie : (low high : ℤ) (first : Point) (more : List Point) → Ordered (first ∷ more) → ((q : Point) → IsIn q (first ∷ more) → LiesWithin low high q.reading)
    → LiesWithin low high (middle_point (map (λ q. q.reading) (first ∷ more)))
good_lie low high first more up each =
    let middle = middle_from_first_to_last first.reading (map (λ q. q.reading) more) (ascending_from (first ∷ more) up) in
    let at = each first (inl refl) in
    (omega (arith, ints, middle.0, at.0), omega (arith, ints, middle.1, (last_within low high first.reading more at (λ x i. each x (inr i))).1))

-- the middle of points of which one lies within bounds, and all but one do, is near them
near_lie : {v : View} (low high : ℤ) (first : Point) (more : List Point) (q : Point) → IsView v
    → Ordered (first ∷ more) → Apart (first ∷ more) → ((x : Point) → IsIn x (first ∷ more)
    → x.reading ≤ℤ (first.reading +ℤ pos (2 * v.sizes.precision)))
    → ((x : Point) → IsIn x (first ∷ more) → LiesWithin low high x.reading ⊎ IsBadPoint v x) → IsIn q (first ∷ more)
    → LiesWithin low high q.reading → LiesWithin (low -ℤ pos v.sizes.precision) (high +ℤ pos v.sizes.precision)
    (middle_point (map (λ q. q.reading) (first ∷ more)))
near_lie low high first [] q is up differ close each (inl same) at =
    let here : LiesWithin low high first.reading = rw (sym same) at in
    let m = middle_from_first_to_last first.reading [] tt in
    (omega (arith, ints, m.0, here.0), omega (arith, ints, m.1, here.1))
near_lie low high first [] q is up differ close each (inr i) at = absurd i
near_lie low high first (next ∷ []) q is up differ close each i at =
    let m = mean_of-floor (first.reading -ℤ first.reading) (next.reading -ℤ first.reading) in
    let near = close next (inr (inl refl)) in
    let which : LiesWithin low high first.reading ⊎ LiesWithin low high next.reading = elim i [
      | inl same ↦ inl (rw (sym same) at)
      | inr (inl same) ↦ inr (rw (sym same) at)
      | inr (inr none) ↦ absurd none
    ] in
    elim which [ inl one ↦ (omega (arith, ints), omega (arith, ints)) | inr other ↦ (omega (arith, ints), omega (arith, ints)) ]
near_lie {v} low high first (next ∷ third ∷ more) q is up differ close each i at =
    let middle = middle_among_others (map (λ q. q.reading) (first ∷ next ∷ third ∷ more)) low high (omega arith)
    (ascending_from (first ∷ next ∷ third ∷ more) up)
    (all_but_one low high (IsBadPoint v) (first ∷ next ∷ third ∷ more) differ each
    (λ p q i j a b. bad_is_one is a b)) in
    (omega (arith, ints, middle.0), omega (arith, ints, middle.1))

-- ---- the base of what is sent

module _ (v : View) (h : Happening) (cm : DeviceId) (cycle : ℕ) (members : Members) (is : IsView v) (e : IsEmission v h cm cycle members) where
  abbrev points : List Point
  points = (made v h cm cycle members is e).first ∷ (made v h cm cycle members is e).more

  abbrev middle : ℤ
  middle = middle_point (map (λ q. q.reading) points)

  -- a member that is good gives bounds
  bounds_by : IsTidyBefore v (time_of h) → (q : Point) → IsIn q points → IsGoodPoint v cm (time_of h) q → HasBounds v cm cycle (time_of h)
  bounds_by tidy q i good = bounds_of cycle is tidy ((made v h cm cycle members is e).each q i).of_cycle good

  -- where the middle lies near the bounds, the base lies near the hull
  base_near : (slack : ℕ) (bounds : HasBounds v cm cycle (time_of h)) → slack ≤ v.sizes.precision
      → LiesWithin ((pos (v.scenario.reading cm bounds.a) -ℤ pos (2 * v.sizes.grain)) -ℤ pos slack) (pos (v.scenario.reading cm bounds.b) +ℤ pos slack) middle
      → IsBaseIn v cycle (v.sizes.base + slack) (base_of v.sizes (time_of h))
  base_near slack bounds small lies =
      let m = made v h cm cycle members is e in
      let sharp = emissions_are_sharp v h cm cycle members e is in
      let space = room is in
      let fit : 2 * v.sizes.grain + slack + 1 ≤ v.sizes.compression = omega arith in
      let short : v.sizes.compression + slack + 2 * v.sizes.grain + v.sizes.drift < 2 * v.sizes.cycle = omega arith in
      let gap = v.sizes.compression - (2 * v.sizes.grain + slack) in
      let gap_is : gap + (2 * v.sizes.grain + slack) ≡ v.sizes.compression = omega arith in
      let late = later_by bounds.a (time_of h) gap (steady v is cm) (omega arith)
      (omega (arith, ints, lies.0, m.at)) (omega arith) in
      let soon = sooner_by bounds.b (time_of h) (v.sizes.compression + slack + 2 * v.sizes.grain) (steady v is cm) short
      (omega (arith, ints, lies.1, m.at)) in
      record {
        hull = bounds.hull;
        is = bounds.is;
        least = omega (arith, ints, bounds.from, space.errors.base_is);
        most = omega (arith, ints, bounds.to, space.errors.base_is);
      }

  -- where it lies within them, the base lies in the hull
  base_in : (bounds : HasBounds v cm cycle (time_of h)) → LiesBetween v cm bounds.a bounds.b middle
      → IsBaseIn v cycle v.sizes.base (base_of v.sizes (time_of h))
  base_in bounds lies =
      let near = base_near 0 bounds (omega arith) (omega (arith, ints, lies.0), omega (arith, ints, lies.1)) in
      record { hull = near.hull; is = near.is; least = omega (arith, ints, near.least); most = omega (arith, ints, near.most) }

  -- each point lies within the bounds, or is a broken master's
  within_or_bad : (bounds : HasBounds v cm cycle (time_of h)) (q : Point) → IsIn q points → LiesBetween v cm bounds.a bounds.b q.reading ⊎ IsBadPoint v q
  within_or_bad bounds q i = elim (good_or_bad_point v h cm cycle members is e q i) [
    | inl good ↦ inl (bounds.each q ((made v h cm cycle members is e).each q i).of_cycle good)
    | inr bad ↦ inr bad
  ]

  -- the middle of three or more lies within the bounds
  three_lie : (bounds : HasBounds v cm cycle (time_of h)) → 3 ≤ length points → LiesBetween v cm bounds.a bounds.b middle
  three_lie bounds many =
      let m = made v h cm cycle members is e in
      middle_among_others (map (λ q. q.reading) points) _ _ (omega
      (arith, length-map points (λ (q : Point). q.reading)))
      (ascending_from points m.ordered)
      (all_but_one _ _ (IsBadPoint v) points m.differ (within_or_bad bounds) (λ p q i j a b. bad_is_one is a b))

  -- all points of good members are good
  all_good : AreGood v members → (q : Point) → IsIn q points → IsGoodPoint v cm (time_of h) q
  all_good are q i = elim (good_or_bad_point v h cm cycle members is e q i) [
    | inl good ↦ good
    | inr bad ↦
        let good = are q.master (is_of_member v h cm cycle members is e q i) in
        absurd (not_both v good.0 bad.master good.2 bad.bad (one_member good.0 bad.master q.master is good.1 bad.is_member))
  ]

pub bases_are_in_hulls : BasesAreInHulls
bases_are_in_hulls v h cm cycle members is e tidy which =
    let m = made v h cm cycle members is e in
    elim which [
      | inl many ↦
          let good = three_have_good v h cm cycle members is e many in
          let p = good_member_point v h cm cycle members is e good.0 good.1 good.2 in
          let same : count_of members ≡ count_of (record { 0 = members_of (m.first ∷ m.more) }) =
          ap (λ x. count_of (record { 0 = x })) m.members_are in
          let bounds = bounds_by v h cm cycle members is e tidy p.0 p.1 p.2 in
          base_in v h cm cycle members is e bounds (three_lie v h cm cycle members is e bounds
          (omega (arith, few_members (m.first ∷ m.more))))
      | inr are ↦
          let good = all_good v h cm cycle members is e are in
          let bounds = bounds_by v h cm cycle members is e tidy m.first (inl refl) (good m.first (inl refl)) in
          base_in v h cm cycle members is e bounds (good_lie _ _ m.first m.more m.ordered (λ q i. bounds.each q (m.each q i).of_cycle (good q i)))
    ]

pub bases_are_near_hulls : BasesAreNearHulls
bases_are_near_hulls v h cm cycle members is e tidy good =
    let m = made v h cm cycle members is e in
    let p = good_member_point v h cm cycle members is e good.0 good.1 good.2 in
    let bounds = bounds_by v h cm cycle members is e tidy p.0 p.1 p.2 in
    base_near v h cm cycle members is e v.sizes.precision bounds (omega arith)
    (near_lie _ _ m.first m.more p.0 is m.ordered m.differ (λ x i. (m.each x i).to)
    (within_or_bad v h cm cycle members is e bounds) p.1
    (bounds.each p.0 (m.each p.0 p.1).of_cycle p.2))

-- ---- a compression master sends at most one frame of a cycle that has a good member

-- ---- good points of one cycle are near

-- what is known of the cycle
pub record IsKnown (v : View) (t cycle : ℕ) : Type 0 where
  pub is : IsView v
  pub tidy : IsTidyBefore v t
  pub narrow : IsNarrowIfThere v cycle

pub good_near : {v : View} {t cycle : ℕ} {cm : DeviceId} {by late : ℕ} {p q : Point} → IsKnown v t cycle → by < t
    → late < t → p.cycle ≡ cycle → q.cycle ≡ cycle → IsGoodPoint v cm by p → IsGoodPoint v cm late q
    → p.reading ≤ℤ (q.reading +ℤ pos v.sizes.precision)
good_near {v} {cm} {p} {q} k lt less of_p of_q a b =
    let w = rw of_p at (k.tidy a.first a.master p.cycle a.dispatch (omega (arith, a.before))) in
    let x = rw of_q at (k.tidy b.first b.master q.cycle b.dispatch (omega (arith, b.before))) in
    let low : w.hull.least ≤ℤ pos (time_of b.first) = rw (same_some _ _ _ x.is w.is) at x.least in
    let space = room k.is in
    let clock = steady v k.is cm in
    let narrow = k.narrow w.hull w.is in
    elim (cases_lt b.ripe a.ripe) [
      | inr le ↦ (let up = clock.never_falls a.ripe b.ripe le in omega (arith, ints, a.least, b.most))
      | inl more ↦
          let within : a.ripe ≤ b.ripe + (v.sizes.spread + 2 * v.sizes.path) =
          omega (arith, ints, w.most, a.in_time, b.in_time) in
          omega (
            arith,
            ints,
            clock.fast b.ripe a.ripe (omega (arith, more)) (omega (arith, within, space)),
            a.least,
            b.most,
          )
    ]

-- ---- a good point of what is sent

-- a good point in the cluster of what is sent: a precision and more below the emission reading, which is behind the
-- cluster's end, and at most a precision and the time of a compression above the point
pub record IsWitness (v : View) (cm : DeviceId) (by cycle : ℕ) (at : ℤ) (ps : List Point) (c : Cluster) (x : Point) : Type 0 where
  pub there : IsIn x ps
  pub of_cycle : x.cycle ≡ cycle
  pub of_cluster : x.cycle ≡ c.cycle
  pub lies : LiesIn c x
  pub good : IsGoodPoint v cm by x
  pub near : (x.reading +ℤ pos v.sizes.precision) <ℤ at
  pub ends : c.end <ℤ at
  pub begun : pos 0 <ℤ at
  pub soon : at ≤ℤ (x.reading +ℤ pos (v.sizes.precision + v.sizes.compression))

-- a cluster of the cycle, of the compression master's points by the records of a front, which are of times up to one
pub record IsFrontCluster (v : View) (t cycle : ℕ) (cm : DeviceId) (by : ℕ) (front rest : List Happening) (clusters : List Cluster) (c : Cluster) : Type 0 where
  pub known : IsKnown v t cycle
  pub whole : v.records ≡ front ++ rest
  pub only : (h : Happening) → IsIn h front → time_of h ≤ by
  pub early : by < t
  pub one : is_cm v.scenario.network cm ≡ true
  pub are : AreClusters (observation_window v.scenario.network) (points_of front cm) clusters
  pub there : Contains clusters c
  pub cycle_is : c.cycle ≡ cycle

-- a member of such a cluster that is good has such a point
pub front_witness : {v : View} {t cycle : ℕ} {cm : DeviceId} {by : ℕ} {front rest : List Happening}
    {clusters : List Cluster} {cluster : Cluster} → IsFrontCluster v t cycle cm by front rest clusters cluster
    → (m : ℕ) → bit_at cluster.members m ≡ 1 → IsGoodMember v m
    → (x : Point) × IsWitness v cm by cycle
    (emission (observation_window v.scenario.network) (pos (amount v.scenario.network.calc)) cluster)
    (points_of front cm) cluster x
front_witness {v} {cycle} {cm} {by} {front} {rest} {clusters} {cluster} f m bit good =
    let n = v.scenario.network in
    let k = f.known in
    let ow = observation_window n in
    let ps = points_of front cm in
    let point : (q : Point) → IsIn q ps → IsGoodPoint v cm by q ⊎ IsBadPoint v q =
    λ q i. front_point cm q by front rest k.is f.whole f.only f.one i in
    let c = cluster_from ow ps clusters cluster f.are f.there in
    let o = c.first in
    let wide : pos 0 ≤ℤ ow = omega (arith, ints) in
    let soon = ends_soon ow o (o ∷ c.rest) wide in
    let h = has_firsts ow o c.rest wide in
    let in_points : (q : Point) → IsIn q (o ∷ h.more) → IsIn q ps = λ q i. in_cluster c q (h.each q i).there in
    let cycle_is : o.cycle ≡ cycle = ap (λ x. x.cycle) (sym c.is) ∙ f.cycle_is in
    let found = has_one _ m (member_has _ m (rw c.is at bit)) in
    let x = found.0 in
    let i : IsIn x (o ∷ h.more) = subst (IsIn x) h.are found.1 in
    let is_good : IsGoodPoint v cm by x = elim (point x (in_points x i)) [
      | inl one ↦ one
      | inr bad ↦ absurd (not_both v _ _ good.2 bad.bad
          (one_member good.0 bad.master m k.is good.1 (bad.is_member ∙ ap (λ m. Some m) found.2)))
    ] in
    let of_cycle : (q : Point) → IsIn q (o ∷ h.more) → q.cycle ≡ cycle = λ q j. (h.each q j).of_cycle ∙ cycle_is in
    let lies : (q : Point) → IsIn q (o ∷ h.more) → LiesWithin (x.reading -ℤ ow) (x.reading +ℤ ow) q.reading
    ⊎ IsBadPoint v q = λ q j. elim (point q (in_points q j)) [
      | inr bad ↦ inr bad
      | inl one ↦
          let above = good_near k f.early f.early (of_cycle q j) (of_cycle x i) one is_good in
          let below = good_near k f.early f.early (of_cycle x i) (of_cycle q j) is_good one in
          inl (omega (arith, ints, sizes_are k.is), omega (arith, ints, sizes_are k.is))
    ] in
    let near = middle_near ow (IsBadPoint v) x o h.more wide
    (h.ordered (c.ordered (points_ordered cm front rest k.is f.whole))) h.differ i lies
    (λ p q a d bad also. bad_is_one k.is bad also)
    (λ q j. (let to = (h.each q j).to in omega (arith, ints))) in
    let at = emission ow (pos (amount n.calc)) cluster in
    let points = ap (λ zs. middle_of (relative (map (λ q. q.reading) zs))) h.are in
    let whole = (ap (emission ow (pos (amount n.calc))) c.is) ∙ ap (λ z. ((o.reading +ℤ (pos 2 *ℤ ow)) +ℤ pos (amount n.calc)) +ℤ z) points in
    let late = rw points at (middle_late ow o c.rest wide) in
    let calc : 1 ≤ amount n.calc = (let m = (room k.is).compression_least in omega (arith, sizes_are k.is)) in
    let given = point_record cm front o (in_points o (inl refl)) in
    let begun = (read_at k.is (subst (IsIn given.0) (sym f.whole) (in_left given.0 front rest given.1))
    given.2).not_negative in
    let sizes = sizes_are k.is in
    let here = h.each x i in (
      x,
      record {
        there = in_points x i;
        of_cycle = of_cycle x i;
        of_cluster = here.of_cycle ∙ sym (ap (λ y. y.cycle) c.is);
        lies = grind (arith, x.reading, here.from, here.to);
        good = is_good;
        near = omega (arith, ints, near.0);
        ends = omega (arith, ints, ap (λ (y : Cluster). y.end) c.is);
        begun = omega (arith, ints);
        soon = omega (arith, ints, near.1);
      },
    )

-- what is sent, given the records before it
abbrev IsSentBy : (v : View) (h : Happening) (cm : DeviceId) (cycle : ℕ) (members : Members) → IsEmission v h cm cycle members → List Happening → Type 0
IsSentBy v h cm cycle members e front =
    Emits v.scenario front cm (time_of h) (record { opened = e.opened; at = e.at; cycle = cycle; members = members }) e.verdict

sent_by : {v : View} {h : Happening} {cm : DeviceId} {cycle : ℕ} {members : Members}
    (e : IsEmission v h cm cycle members) (at : IsFoundedAt v.scenario v.records h)
    → IsSentBy v h cm cycle members e at.front
sent_by {v} {h} e at = subst (IsCaused v.scenario at.front h.note.time) e.is at.due.cause

witness : {v : View} {t : ℕ} {h : Happening} {cm : DeviceId} {cycle : ℕ} {members : Members} (k : IsKnown v t cycle)
    (e : IsEmission v h cm cycle members) (at : IsFoundedAt v.scenario v.records h) → time_of h < t
    → HasGood v members → (b : IsSentBy v h cm cycle members e at.front)
    → (x : Point) × IsWitness v cm (time_of h) cycle e.at.0 (points_of at.front cm) b.cluster x
witness {v} {t} {h} {cm} {cycle} k e at early good b =
    let found = front_witness
    (record {
      known = k;
      whole = at.whole;
      only = (before_of k.is at).only;
      early = early;
      one = b.cm;
      are = b.are;
      there = b.there;
      cycle_is = ap (λ x. x.cycle) (sym b.is);
    }) good.0 (ap (λ x. bit_at x.members.0 good.0) (sym b.is) ∙ good.1) good.2 in
    let sent = ap (λ x. x.at.0) (sym b.is) in
    (found.0, subst (λ z. IsWitness v cm (time_of h) cycle z (points_of at.front cm) b.cluster found.0) sent found.1)

-- ---- the number of the broken master

-- a number that is of the broken master's points, and of no good one's
pub record IsBadNumber (v : View) (cm : DeviceId) (by : ℕ) (qs : List Point) (b : ℕ) : Type 0 where
  pub of_bad : (q : Point) → IsIn q qs → IsBadPoint v q → q.master ≡ b
  pub of_good : (q : Point) → IsIn q qs → IsGoodPoint v cm by q → q.master ≡ b → ⊥

bad_or_none : (v : View) (cm : DeviceId) (by : ℕ) (qs : List Point) → ((q : Point) → IsIn q qs → IsGoodPoint v cm by q ⊎ IsBadPoint v q)
    → ((q : Point) × IsBadPoint v q) ⊎ ((q : Point) → IsIn q qs → IsGoodPoint v cm by q)
bad_or_none v cm by [] each = inr (λ q i. absurd i)
bad_or_none v cm by (p ∷ qs) each = elim (each p (inl refl)) [
  | inr bad ↦ inl (p, bad)
  | inl good ↦ elim (bad_or_none v cm by qs (λ q i. each q (inr i))) [
    | inl bad ↦ inl bad
    | inr all ↦ inr (λ q i. elim i [ inl same ↦ subst (IsGoodPoint v cm by) (sym same) good | inr more ↦ all q more ])
  ]
]

pub bad_number : {v : View} (cm : DeviceId) (by : ℕ) (qs : List Point) → IsView v
    → ((q : Point) → IsIn q qs → IsGoodPoint v cm by q ⊎ IsBadPoint v q) → (b : ℕ) × IsBadNumber v cm by qs b
bad_number {v} cm by qs is each = elim (bad_or_none v cm by qs each) [
  | inl bad ↦ (
    bad.0.master,
    record { of_bad = λ q i also. bad_is_one is also bad.1; of_good = λ q i good same. point_not_both is good bad.1 same },
  )
  | inr all ↦ (
    32,
    record {
      of_bad = λ q i bad. absurd (point_not_both is (all q i) bad refl);
      of_good = λ q i good same. (let small = (has_member good.master q.master is good.is_member).small in
          omega arith);
    },
  )
]

-- two clusters of good points of one cycle are one
one_of_two : (v : View) (t : ℕ) (g : Happening) (cm : DeviceId) (cycle : ℕ) (k : IsKnown v t cycle) (at : IsFoundedAt v.scenario v.records g) → time_of g < t
    → is_cm v.scenario.network cm ≡ true
    → (ds : List Cluster) → AreClusters (observation_window v.scenario.network) (points_of at.front cm) ds → (c d : Cluster) → Contains ds c → Contains ds d
    → (x y : Point) → IsIn x (points_of at.front cm) → IsIn y (points_of at.front cm) → x.cycle ≡ cycle → y.cycle ≡ cycle → x.cycle ≡ c.cycle
    → y.cycle ≡ d.cycle → LiesIn c x → LiesIn d y → (late : ℕ) → late < t → IsGoodPoint v cm late x → IsGoodPoint v cm (time_of g) y → c ≡ d
one_of_two v t g cm cycle k at early one ds are c d in_c in_d x y ix iy of_x of_y of_c of_d lies_x lies_y late less gx gy =
    let ow = observation_window v.scenario.network in
    let ps = points_of at.front cm in
    let wide : pos 0 ≤ℤ ow = omega (arith, ints) in
    let up : AreInOrder ps = ascending_from ps (points_ordered cm at.front (g ∷ at.rest) k.is at.whole) in
    let each : (q : Point) → IsIn q ps → IsGoodPoint v cm (time_of g) q ⊎ IsBadPoint v q =
    λ q i. point_is {h = g} cm q k.is at one i in
    let b = bad_number cm (time_of g) ps k.is each in
    let sizes = sizes_are k.is in
    let kept_good : (q : Point) → IsKept ps ds b.0 cycle q → IsGoodPoint v cm (time_of g) q = λ q kept. elim (each q (contained ps q kept.there))
    [ inl good ↦ good | inr bad ↦ absurd (kept.other (b.1.of_bad q (contained ps q kept.there) bad)) ] in
    let near : (p q : Point) → IsKept ps ds b.0 cycle p → IsKept ps ds b.0 cycle q → p.reading ≤ℤ (q.reading +ℤ ow) = λ p q kp kq.
    (let r = good_near k early early kp.same kq.same (kept_good p kp) (kept_good q kq) in omega (arith, ints)) in
    let time = one_time_law ow ps ds wide up are in
    let kept : (q : Point) (e : Cluster) → IsIn q ps → q.cycle ≡ cycle → q.cycle ≡ e.cycle → Contains ds e → LiesIn e q → (q.master ≡ b.0 → ⊥)
    → IsKept ps ds b.0 cycle q = λ q e i of_q of_e in_e lies_q other.
    record {
      there = contains ps q i;
      other = other;
      same = of_q;
      kept = λ dropped.
          (let u = time q (contains ps q i) in dropped.2 (of_e ∙ ap (λ (z : Cluster). z.cycle) (u.3 e in_e lies_q ∙ sym (u.3 dropped.0 dropped.1 dropped.3))));
    } in
    let other_x : x.master ≡ b.0 → ⊥ =
    elim (each x ix) [ inl good ↦ b.1.of_good x ix good | inr bad ↦ absurd (point_not_both k.is gx bad refl) ] in
    let kx = kept x c ix of_x of_c in_c lies_x other_x in
    let ky = kept y d iy of_y of_d in_d lies_y (b.1.of_good y iy gy) in
    let z = one_cluster ow ps ds b.0 cycle wide up are near x kx in
    let ux = time x (contains ps x ix) in
    let uy = time y (contains ps y iy) in
    ux.3 c in_c lies_x ∙ sym (ux.3 z.0 z.1 (z.2 x kx).1) ∙ (uy.3 z.0 z.1 (z.2 y ky).1 ∙ sym (uy.3 d in_d lies_y))

-- ---- one emission

-- of two emissions one is not behind the other
not_behind : {v : View} {t : ℕ} {h g : Happening} {cm : DeviceId} {cycle : ℕ} {members others : Members}
    (k : IsKnown v t cycle) → IsEmission v h cm cycle members → IsEmission v g cm cycle others → time_of g < t
    → HasGood v members → HasGood v others → (front mid rest : List Happening)
    → v.records ≡ front ++ h ∷ (mid ++ g ∷ rest) → ⊥
not_behind {v} {t} {h} {g} {cm} {cycle} {members} {others} k e f early good also front mid rest whole =
    let s = v.scenario in
    let ow = observation_window s.network in
    let wide : pos 0 ≤ℤ ow = omega (arith, ints) in
    let founded = subst (IsFounded place_of (IsDue s)) whole k.is.run.founded in
    let at_h = founded_by v front (mid ++ g ∷ rest) h k.is whole in
    let at = founded_by v (front ++ h ∷ mid) rest g k.is (whole ∙ sym (append_assoc front (h ∷ mid) (g ∷ rest))) in
    let before = behind_first place_of (IsDue s) front (mid ++ g ∷ rest) h g founded (in_right g mid (g ∷ rest) (inl refl)) in
    let order = no_later (time_of h) (time_of g) (rank h.note.body ∷ key (members_in h) h.note.body) (rank g.note.body ∷ key (members_in g) g.note.body)
    before in
    let early_h : time_of h < t = omega arith in
    let b = sent_by e at_h in
    let c = sent_by f at in
    let x = witness k e at_h early_h good b in
    let y = witness k f at early also c in
    let sharp = emissions_are_sharp v h cm cycle members e k.is in
    let sharp_g = emissions_are_sharp v g cm cycle others f k.is in
    let late : (p : Point) → IsGivenIn cm (h ∷ mid) p → e.at.0 ≤ℤ p.reading = λ p given.
    let point = gives_point cm given.0 p given.2 in
    elim given.1 [
      | inl same ↦ (let wrong = sym e.is ∙ ap (λ z. z.note.body) (sym same) ∙ point.is in absurd cc)
      | inr i ↦
          let in_rest = in_left given.0 mid (g ∷ rest) i in
          let behind = behind_first place_of (IsDue s) front (mid ++ g ∷ rest) h given.0 founded in_rest in
          let lt = higher_before h given.0 behind (omega (arith, ap rank e.is, ap rank point.is)) in
          let in_all : IsIn given.0 v.records = subst (IsIn given.0) (sym whole) (in_right given.0 front (h ∷ (mid ++ g ∷ rest)) (inr in_rest)) in
          (omega (arith, ints, later_point (time_of h) k.is (read_at k.is in_all point) lt, sharp.least))
    ] in
    elim (points_go_on cm front (h ∷ mid)) [
      | inr anew ↦
          let near = good_near k early early_h y.1.of_cycle x.1.of_cycle y.1.good x.1.good in
          (omega (arith, ints, late y.0 (anew y.0 y.1.there), x.1.near))
      | inl adds ↦
          let past = all_by (λ q. b.cluster.end <ℤ q.reading) adds.more
          (λ q i. (let above = late q (adds.given q i) in let ends = x.1.ends in omega (arith, ints))) in
          let next = rw adds.whole at c.are in
          let stays = (same_beyond _ _ adds.more _ _ b.cluster wide b.are next past).0 b.there in
          let ix : IsIn x.0 (points_of at.front cm) = subst (IsIn x.0) (sym adds.whole) (in_left x.0 (points_of front cm) adds.more x.1.there) in
          let one = one_of_two v t g cm cycle k at early c.cm c.clusters c.are b.cluster c.cluster stays c.there x.0 y.0 ix y.1.there x.1.of_cycle y.1.of_cycle
          x.1.of_cluster y.1.of_cluster x.1.lies y.1.lies (time_of h) early_h x.1.good y.1.good in
          let sent = b.is ∙ ap (compressed ow (pos (amount s.network.calc))) one ∙ sym c.is in
          let at_same : e.at.0 ≡ f.at.0 = ap (λ x. x.at.0) sent in
          let same_time : time_of h ≡ time_of g = elim (cases_lt (time_of h) (time_of g)) [
            | inr ge ↦ omega arith
            | inl lt ↦
                let up = (steady v k.is cm).never_falls (time_of h) (time_of g - 1) (omega arith) in
                (let reached = sharp.least in let not_yet = sharp_g.before in absurd (omega (arith, ints)))
          ] in
          let place : place_of h ≡ place_of g = rw e.is
          (ap (λ z. z ∷ 4 ∷ key 0 (notes.Compressed cm e.opened e.at cycle members e.verdict)) same_time
          ∙ ap (λ x. time_of g ∷ 4 ∷ key 0 (notes.Compressed cm x.opened x.at x.cycle x.members e.verdict)) sent
          ∙ sym (rw f.is)) in
          never_self (place_of g) (subst (λ p. IsBefore p (place_of g)) place before)
    ]

pub emission_is_one : EmissionIsOne
emission_is_one v t h g cm cycle members others is tidy narrow e f before after good also =
    let k : IsKnown v t cycle = record { is = is; tidy = tidy; narrow = narrow } in
    let at = parted g v.records f.there in
    elim (in_parts h at.0 (g ∷ at.1) (subst (IsIn h) at.2 e.there)) [
      | inl first ↦
          let p = parted h at.0 first in
          let whole = at.2 ∙ ap (λ hs. hs ++ g ∷ at.1) p.2 ∙ append_assoc p.0 (h ∷ p.1) (g ∷ at.1) in
          absurd (not_behind k e f after good also p.0 p.1 at.1 whole)
      | inr (inl same) ↦ same
      | inr (inr later) ↦
          let p = parted h at.1 later in
          let whole = at.2 ∙ ap (λ hs. at.0 ++ g ∷ hs) p.2 in
          absurd (not_behind k f e before also good at.0 p.0 p.1 whole)
    ]

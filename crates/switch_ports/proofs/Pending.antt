-- What a switch has still to do and to send, and what of it comes first.
use Rattle.std.{proofs.{Common.append_assoc, lemmas.{Bool.both_ways, List.Elements.Contains-append_cases}}}
use Rattle.std.{specs.{List.AllByRecursion, Prelude.{◌↔◌, IsNone, int_le}}}
use Rattle.compression.{specs.Clusters.{Point, beyond, cluster_of}}
use Rattle.compression.proofs.{ClusterFacts.no_cluster}
use Rattle.compression.proofs.{Growth.{all-beyond, beyond-all, end_of-least, in_cases, in_tail}}
use Rattle.compression.proofs.{Times.one_list_of_clusters}
use Rattle.run_law.specs.{machines.{Calls.HasDue, Tasks.{IsDueReading, IsFirstTask, order_of}}, records.Order.IsBefore}
use Rattle.schedule_tables.specs.Dispatches.{dispatch_order}
use Rattle.switch_ports.{specs.Due.least_of}
use Rattle.switch_ports.proofs.{SwitchStates.number_of}
use Rattle.switch_ports.proofs.Dispatching.{IsDispatch, dispatch_bound, dispatch_is, leaves_so, next_is, next_of}
use Rattle.switch_ports.proofs.Dispatching.{no_dispatch, not_sooner, pending_dispatch, value_is}
use Rattle.switch_ports.proofs.Words
use Words.{◌*◌, ◌++◌, ◌+ℤ◌, ◌+◌, ◌-ℤ◌, ◌<ℤ◌, ◌<◌, ◌∙◌, ◌∷◌, ◌≡◌, ◌≤ℤ◌, ◌≤◌, ◌⊎◌, All-contains, AreClusters, Cluster}
use Words.{Collecting, Compressed, Contains, Contains-append_right, DeviceId, Dispatch, IfSome, Integrating, IsAccepted}
use Words.{IsLeast, IsLeaving, IsPending, Joining, List, MayCall, Moment, Network, Node, None, Off, Option, Precedes}
use Words.{Row, RowId, Some, StandsAs, StandsForPoints, State, Switch, SwitchRow, Synchronised, Task, Units, [], acting}
use Words.{amount, ap, arith, cases_Bool, compressed, correcting, correction_value, dispatch_at, dispatching, doing}
use Words.{emission, emissions, emitting, held_in, in_head, in_none, inl, inr, int_lt, ints, is_cm, its_amount, map}
use Words.{mul-le-mul_right, nat_le, next_point, observation_window, option_and_then, option_map, option_map_or}
use Words.{point_in, pos, reading_for, reading_of, refl, sending, subst, sym, through, true, ℕ, ℤ}
use Rattle.tte_units.proofs.general_lemmas.Options.{same_next}
use Rattle.schedule_tables.specs.declared.rule.Rule.TheVariants as rules

-- ---- what a compression master has still to send: the collections that its collector keeps

pub in_map : {X Y : Type 0} (f : X → Y) (xs : List X) (y : Y) → Contains (map f xs) y → (x : X) × Contains xs x × (y ≡ f x)
in_map f [] y at = absurd (in_none y at)
in_map f (x ∷ xs) y at = elim (in_cases (f x) y (map f xs) at) [
  | inl e ↦ (x, in_head x xs, sym e)
  | inr there ↦ let rest = in_map f xs y there in (rest.0, in_tail x rest.0 xs rest.1, rest.2)
]

pub to_map : {X Y : Type 0} (f : X → Y) (xs : List X) (x : X) → Contains xs x → Contains (map f xs) (f x)
to_map f [] x at = absurd (in_none x at)
to_map f (y ∷ xs) x at = elim (in_cases y x xs at) [
  | inl e ↦ subst (λ z. Contains (f y ∷ map f xs) (f z)) e (in_head (f y) (map f xs))
  | inr there ↦ in_tail (f y) (f x) (map f xs) (to_map f xs x there)
]

-- clusters of points beyond a reading open beyond it
pub opened_beyond : (ow low : ℤ) (ps : List Point) (cs : List Cluster) (c : Cluster) → AllByRecursion (λ q. low <ℤ q.reading) ps → AreClusters ow ps cs
    → Contains cs c → low <ℤ c.opened
opened_beyond ow low ps [] c all are at = absurd (in_none c at)
opened_beyond ow low [] (d ∷ cs) c all are at = absurd are
opened_beyond ow low (o ∷ ps) (d ∷ cs) c all are at = elim (in_cases d c cs at) [
  | inl e ↦ let opened : c.opened ≡ o.reading = ap (λ (k : Cluster). k.opened) (sym e ∙ are.0) in subst (λ z. low <ℤ z) (sym opened) all.0
  | inr there ↦ opened_beyond ow low (beyond d.end ps) cs c (all-beyond low d.end ps all.1) are.1 there
]

end_after : (ow : ℤ) (o : Point) (ps : List Point) (d : Cluster) → pos 0 ≤ℤ ow → d ≡ cluster_of ow o (o ∷ ps) → d.opened ≤ℤ d.end
end_after ow o ps d some is = grind (arith, end_of-least, ints)

less_through : (x y z : ℤ) → x ≤ℤ y → y <ℤ z → x <ℤ z
less_through x y z a b = omega (arith, ints, a, b)

-- those that stand before open before
pub opened_before : (ow : ℤ) (ps : List Point) (done rest : List Cluster) (d c : Cluster) → pos 0 ≤ℤ ow → AreClusters ow ps (done ++ rest) → Contains done d
    → Contains rest c → d.opened <ℤ c.opened
opened_before ow ps [] rest d c some are before at = absurd (in_none d before)
opened_before ow [] (k ∷ done) rest d c some are before at = absurd are
opened_before ow (o ∷ ps) (k ∷ done) rest d c some are before at = elim (in_cases k d done before) [
  | inl e ↦
      let behind = opened_beyond ow k.end (beyond k.end ps) (done ++ rest) c (beyond-all k.end ps) are.1 (Contains-append_right done rest c at) in
      subst (λ (x : Cluster). x.opened <ℤ c.opened) e (less_through k.opened k.end c.opened (end_after ow o ps k some are.0) behind)
  | inr there ↦ opened_before ow (beyond k.end ps) done rest d c some are.1 there at
]

-- a cluster that was not sent waits
waits : {v : Collecting} {points : List Point} {emitted : List Compressed} (clusters : List Cluster)
    (c : Cluster) → StandsForPoints v points emitted → AreClusters v.ow points clusters → Contains clusters c
    → (Contains emitted (compressed v.ow v.calc c) → ⊥) → Contains v.waiting c
waits {v} {points} clusters c st are at not_yet =
    let one = one_list_of_clusters v.ow points in
    let same : clusters ≡ st.done ++ v.waiting = one.2 clusters are ∙ sym (one.2 (st.done ++ v.waiting) st.clusters) in
    elim (Contains-append_cases st.done v.waiting c (subst (λ (cs : List Cluster). Contains cs c) same at)) [
      | inl sent ↦ absurd
          (not_yet (subst (λ (es : List Compressed). Contains es (compressed v.ow v.calc c)) (sym st.given) (to_map (compressed v.ow v.calc) st.done c sent)))
      | inr here ↦ here
    ]

not_less : (x : ℤ) → x <ℤ x → ⊥
not_less x h = omega (arith, ints, h)

-- what waits was not sent
unsent : {v : Collecting} {points : List Point} {emitted : List Compressed} (c : Cluster) → pos 0 ≤ℤ v.ow
    → StandsForPoints v points emitted → Contains v.waiting c → Contains emitted (compressed v.ow v.calc c) → ⊥
unsent {v} {points} c some st at sent =
    let was = in_map (compressed v.ow v.calc) st.done (compressed v.ow v.calc c)
    (subst (λ (es : List Compressed). Contains es (compressed v.ow v.calc c)) st.given sent) in
    let before = opened_before v.ow points st.done v.waiting was.0 c some st.clusters was.1 at in
    let opened : c.opened ≡ was.0.opened = ap (λ (s : Compressed). s.opened.0) was.2 in
    not_less c.opened (subst (λ z. z <ℤ c.opened) (sym opened) before)

-- the first that waits opened first
pub first_opened : {v : Collecting} {points : List Point} {emitted : List Compressed} (first : Cluster)
    (rest : List Cluster) (c : Cluster) → pos 0 ≤ℤ v.ow → StandsForPoints v points emitted → v.waiting ≡ first ∷ rest
    → Contains v.waiting c → first.opened ≤ℤ c.opened
first_opened {v} {points} first rest c some st is at =
    elim (in_cases first c rest (subst (λ (cs : List Cluster). Contains cs c) is at)) [
      | inl e ↦ subst (λ (x : Cluster). first.opened ≤ℤ x.opened) e (omega (arith, ints))
      | inr there ↦
          let are : AreClusters v.ow points ((st.done ++ first ∷ []) ++ rest) = subst (AreClusters v.ow points) (ap (λ (cs : List Cluster). st.done ++ cs) is
          ∙ sym (append_assoc st.done (first ∷ []) rest)) st.clusters in
          let lt = opened_before v.ow points (st.done ++ first ∷ []) rest first c some are (Contains-append_right st.done (first ∷ []) first (in_head first []))
          there in
          omega (arith, ints, lt)
    ]

-- ---- what a switch has still to do: collections

module _ {s : Switch} {network : Network} {device : DeviceId} {node : Node}
    (st : StandsAs s network device node) where
  pub window_is : s.collector.ow ≡ observation_window network
  window_is = st.collects.window ∙ its_amount st.accepted.range.precision

  calc_is : s.collector.calc ≡ pos (amount network.calc)
  calc_is = st.collects.calc ∙ its_amount st.accepted.range.calc

from_one : (x : ℤ) → pos 1 ≤ℤ x → pos 0 ≤ℤ x
from_one x h = omega (arith, ints, h)

module _ (s : Switch) (network : Network) (device : DeviceId) (node : Node) where
  pub some_window : StandsAs s network device node → pos 0 ≤ℤ s.collector.ow
  some_window st = subst (λ z. pos 0 ≤ℤ z) (sym st.collects.window) (from_one _ st.accepted.range.precision.least)

  pub is_master_of : (c : Cluster) → StandsAs s network device node → Contains s.collector.waiting c
      → is_cm network device ≡ true
  is_master_of c st at = elim (cases_Bool (is_cm network device)) [
    | inl y ↦ y
    | inr n ↦ absurd (no_cluster s.collector.ow node.points (st.collects.collected.done ++ s.collector.waiting) c
        (st.collects.idle n)
        st.collects.collected.clusters (Contains-append_right st.collects.collected.done s.collector.waiting c at))
  ]

  -- a collection that waits is a task
  pub emission_pending : (c : Cluster) → StandsAs s network device node → Contains s.collector.waiting c
      → IsPending network device node (emitting (compressed s.collector.ow s.collector.calc c))
  emission_pending c st at =
      let held = st.collects.collected in (
        st.sound,
        record {
          cm = is_master_of c st at;
          clusters = held.done ++ s.collector.waiting;
          are = subst (λ w. AreClusters w node.points (held.done ++ s.collector.waiting)) (window_is st)
              held.clusters;
          cluster = c;
          there = Contains-append_right held.done s.collector.waiting c at;
          is =
              ap (λ w. compressed w s.collector.calc c) (window_is st) ∙ ap
              (λ k. compressed (observation_window network) k c)
              (calc_is st);
          not_yet = unsent c (some_window st) held at;
        },
      )

  -- and each emission to come is one of them
  pub pending_emission : (sent : Compressed) → StandsAs s network device node
      → IsPending network device node (emitting sent) → (c : Cluster) × Contains s.collector.waiting c
      × (sent ≡ compressed s.collector.ow s.collector.calc c)
  pending_emission sent st p =
      let w = p.1 in
      let is : sent ≡ compressed s.collector.ow s.collector.calc w.cluster =
      w.is ∙ sym (ap (λ x. compressed x s.collector.calc w.cluster) (window_is st)
      ∙ ap (λ k. compressed (observation_window network) k w.cluster) (calc_is st)) in
      let are = subst (λ x. AreClusters x node.points w.clusters) (sym (window_is st)) w.are in
      let not_yet = λ (at : Contains node.emitted (compressed s.collector.ow s.collector.calc w.cluster)). w.not_yet
      (subst (Contains node.emitted) (sym is) at)
      in
      (w.cluster, waits w.clusters w.cluster st.collects.collected are w.there not_yet, is)

-- ---- the correction

correction_by : (value adjustment changed : ℤ) (at : Units) → reading_of value adjustment changed ≡ Some at → (changed <ℤ value)
    × (at.0 ≡ (value -ℤ adjustment))
correction_by value adjustment changed at e = grind (arith, cases_Bool, int_lt, ints)

due_by : (value adjustment changed : ℤ) → changed <ℤ value → reading_of value adjustment changed ≡ Some (record { 0 = value -ℤ adjustment })
due_by value adjustment changed lt = let y : int_lt changed value ≡ true = grind (arith, ints, lt) in rw y refl

not_next : (state : State) (number cycle : ℕ) → point_in state number ≡ Some cycle → cycle < number → ⊥
not_next Off number cycle e lt = cc
not_next Integrating number cycle e lt = cc
not_next Joining number cycle e lt = let same : number ≡ cycle = cc in omega (arith, same, lt)
not_next Synchronised number cycle e lt = let same : number ≡ cycle = cc in omega (arith, same, lt)

-- the correction that is to come, by the next point
due_with : (f : ℕ → Option Units) (next : Option ℕ) (at : Units) → option_and_then f next ≡ Some at → (cycle : ℕ) × (next ≡ Some cycle) × (f cycle ≡ Some at)
due_with f None at e = absurd cc
due_with f (Some cycle) at e = (cycle, refl, e)

pub correction_pending : {s : Switch} {network : Network} {device : DeviceId} {node : Node} (at : Units)
    → StandsAs s network device node → s.corrects_at ≡ Some at
    → (cycle : ℕ) × IsPending network device node (doing (correcting cycle))
    × (reading_for network node (doing (correcting cycle)) ≡ at.0) × (next_point node.standing ≡ Some cycle)
correction_pending {network} {node} at st e =
    let d = due_with (λ (cycle : ℕ). reading_of (correction_value network cycle) node.standing.adjustment.0 node.changed) (next_point node.standing) at
    (sym st.corrects ∙ e) in
    let by = correction_by (correction_value network d.0) node.standing.adjustment.0 node.changed at d.2 in (
      d.0,
      (st.sound, record { own = d.1; ahead = by.0; not_yet = λ there. not_next (node.standing.state) node.standing.number d.0 d.1 (st.done d.0 there) }),
      sym by.1,
      d.1,
    )

pending_correction : {s : Switch} {network : Network} {device : DeviceId} {node : Node} (cycle : ℕ)
    → StandsAs s network device node → IsPending network device node (doing (correcting cycle))
    → (next_point node.standing ≡ Some cycle) × (s.corrects_at
    ≡ Some (record { 0 = correction_value network cycle -ℤ node.standing.adjustment.0 }))
pending_correction {network} {node} cycle st p = (
  p.1.own,
  st.corrects ∙ ap (option_and_then (λ (cycle : ℕ). reading_of (correction_value network cycle) node.standing.adjustment.0 node.changed)) p.1.own
      ∙ due_by (correction_value network cycle) node.standing.adjustment.0 node.changed p.1.ahead,
)

-- ---- the least of both

-- the least reading of the tasks of a kind
abbrev pub IsLeastOf : (Task → Type 0) → (Task → ℤ) → Option Units → Type 0
IsLeastOf Is reading None = (task : Task) → Is task → ⊥
IsLeastOf Is reading (Some due) = ((task : Task) × Is task × (reading task ≡ due.0)) × ((task : Task) → Is task → due.0 ≤ℤ reading task)

abbrev pub IsEmission : Switch → Task → Type 0
IsEmission s (emitting sent) = (c : Cluster) × Contains s.collector.waiting c × (sent ≡ compressed s.collector.ow s.collector.calc c)
IsEmission s (doing deed) = ⊥

abbrev pub IsCorrection : Network → DeviceId → Node → Task → Type 0
IsCorrection network device node (doing (correcting cycle)) = IsPending network device node (doing (correcting cycle))
IsCorrection network device node other = ⊥

-- the task is done where the local clock reaches a value
abbrev pub IsClocked : Switch → Network → DeviceId → Node → Task → Type 0
IsClocked s network device node task = IsCorrection network device node task ⊎ IsDispatch s network node task

module _ (s : Switch) (network : Network) (device : DeviceId) (node : Node) where
  pub kind_of : (task : Task) → StandsAs s network device node → IsPending network device node task
      → IsEmission s task ⊎ IsClocked s network device node task
  kind_of (emitting sent) st p = inl (pending_emission s network device node sent st p)
  kind_of (doing (correcting cycle)) st p = inr (inl p)
  kind_of (doing (sending cycle)) st p = absurd (both_ways _ st.site.not_master p.1.own.0)
  kind_of (doing (dispatching row cycle)) st p = inr (inr (pending_dispatch s network device node row cycle st p))

  pub emission_is : (task : Task) → StandsAs s network device node → IsEmission s task
      → IsPending network device node task
  emission_is (emitting sent) st (c, at, is) =
      subst (λ (e : Compressed). IsPending network device node (emitting e)) (sym is)
      (emission_pending s network device node c st at)
  emission_is (doing deed) st none = absurd none

correction_is : (network : Network) (device : DeviceId) (node : Node) (task : Task) → IsCorrection network device node task → IsPending network device node task
correction_is network device node (doing (correcting cycle)) p = p
correction_is network device node (emitting sent) p = absurd p
correction_is network device node (doing (sending cycle)) p = absurd p
correction_is network device node (doing (dispatching row cycle)) p = absurd p

-- ---- collections by their readings

emission_at : (s : Switch) (c : Cluster) → Contains s.collector.waiting c → Contains (emissions s.collector) (emission s.collector.ow s.collector.calc c)
emission_at s c at = to_map (emission s.collector.ow s.collector.calc) s.collector.waiting c at

no_emission : (s : Switch) (task : Task) → s.collector.waiting ≡ [] → IsEmission s task → ⊥
no_emission s (emitting sent) none (c, at, is) = in_none c (subst (λ (cs : List Cluster). Contains cs c) none at)
no_emission s (doing deed) none h = h

module _ (s : Switch) (network : Network) where
  emission_bound : (node : Node) (task : Task) (at : Units) → IsLeast at.0 (emissions s.collector)
      → IsEmission s task → at.0 ≤ℤ reading_for network node task
  emission_bound node (doing deed) at least h = absurd h
  emission_bound node (emitting sent) at least (c, there, is) =
      subst (λ (e : Compressed). at.0 ≤ℤ e.at.0) (sym is)
      (All-contains (λ x. at.0 ≤ℤ x) (emissions s.collector) (emission s.collector.ow s.collector.calc c)
      least.bound (emission_at s c there))

  no_correction : {device : DeviceId} {node : Node} (task : Task) → StandsAs s network device node
      → s.corrects_at ≡ None → IsCorrection network device node task → ⊥
  no_correction (doing (correcting cycle)) st e p = let f = sym e ∙ (pending_correction cycle st p).1 in cc
  no_correction (emitting sent) st e p = p
  no_correction (doing (sending cycle)) st e p = p
  no_correction (doing (dispatching row cycle)) st e p = p

  correction_bound : {device : DeviceId} {node : Node} (task : Task) (at : Units)
      → StandsAs s network device node → s.corrects_at ≡ Some at → IsCorrection network device node task
      → at.0 ≤ℤ reading_for network node task
  correction_bound (doing (correcting cycle)) at st e p =
      let same = number_of at _ (sym e ∙ (pending_correction cycle st p).1) in omega (arith, ints, same)
  correction_bound (emitting sent) at st e p = absurd p
  correction_bound (doing (sending cycle)) at st e p = absurd p
  correction_bound (doing (dispatching row cycle)) at st e p = absurd p

  least_emission : (node : Node) (o : Option Units) → (IsNone o ↔ (s.collector.waiting ≡ []))
      → IfSome o (λ at. IsLeast at.0 (emissions s.collector)) → IsLeastOf (IsEmission s) (reading_for network node) o
  least_emission node None none least = λ task is. no_emission s task (none.0 refl) is
  least_emission node (Some at) none least =
      let of = in_map (emission s.collector.ow s.collector.calc) s.collector.waiting at.0 least.there in (
        (emitting (compressed s.collector.ow s.collector.calc of.0), (of.0, of.1, refl), sym of.2),
        λ task is. emission_bound node task at least is,
      )

  least_correction : {device : DeviceId} {node : Node} (o : Option Units) → StandsAs s network device node
      → s.corrects_at ≡ o → IsLeastOf (IsCorrection network device node) (reading_for network node) o
  least_correction None st e = λ task is. no_correction task st e is
  least_correction {device} {node} (Some at) st e =
      let p = correction_pending {s = s} {network = network} {device = device} {node = node} at st e in
      ((doing (correcting p.0), p.1, p.2), λ task is. correction_bound {device = device} {node = node} task at st e is)

join_least : (Is A B : Task → Type 0) (reading : Task → ℤ) (a b : Option Units) → ((task : Task) → Is task → A task ⊎ B task)
    → ((task : Task) → A task → Is task) → ((task : Task) → B task → Is task)
    → IsLeastOf A reading a → IsLeastOf B reading b → IsLeastOf Is reading (least_of a b)
join_least Is A B reading None None split fa fb la lb = λ task is. elim (split task is) [ inl x ↦ la task x | inr y ↦ lb task y ]
join_least Is A B reading None (Some b) split fa fb la lb =
    ((lb.0.0, fb lb.0.0 lb.0.1, lb.0.2), λ task is. elim (split task is) [ inl x ↦ absurd (la task x) | inr y ↦ lb.1 task y ])
join_least Is A B reading (Some a) None split fa fb la lb =
    ((la.0.0, fa la.0.0 la.0.1, la.0.2), λ task is. elim (split task is) [ inl x ↦ la.1 task x | inr y ↦ absurd (lb task y) ])
join_least Is A B reading (Some a) (Some b) split fa fb la lb = elim (cases_Bool (int_le a.0 b.0)) [
  | inl y ↦ rw y (
    (la.0.0, fa la.0.0 la.0.1, la.0.2),
    λ (task : Task) (is : Is task). elim (split task is) [ inl x ↦ la.1 task x | inr z ↦ let le = lb.1 task z in grind (arith, ints, y, le) ],
  )
  | inr n ↦ rw n (
    (lb.0.0, fb lb.0.0 lb.0.1, lb.0.2),
    λ (task : Task) (is : Is task). elim (split task is) [ inl x ↦ let le = la.1 task x in grind (arith, ints, n, le) | inr z ↦ lb.1 task z ],
  )
]

is_least : (network : Network) (device : DeviceId) (node : Node) (o : Option Units) → IsLeastOf (IsPending network device node) (reading_for network node) o
    → IsDueReading network device node o
is_least network device node None h = h
is_least network device node (Some at) h = h

module _ (s : Switch) (network : Network) (device : DeviceId) (node : Node) where
  clocked_is : (task : Task) → StandsAs s network device node → IsClocked s network device node task
      → IsPending network device node task
  clocked_is task st (inl p) = correction_is network device node task p
  clocked_is task st (inr p) = dispatch_is s network device node task st p

  least_dispatch : (o : Option Dispatch) → StandsAs s network device node → s.departures.next ≡ o
      → IsLeastOf (IsDispatch s network node) (reading_for network node) (option_map (λ next. next.at) o)
  least_dispatch None st e = λ task is. no_dispatch task st e is
  least_dispatch (Some next) st e =
      let n = next_is s network device node next st e in
      ((doing (dispatching next.row next.cycle), n.0, n.1), λ task is. dispatch_bound next task st e is)

  -- the least of what the collector, the correction and the rows wait for is due
  pub is_due : (o : Option Units) → StandsAs s network device node → (IsNone o ↔ (s.collector.waiting ≡ []))
      → IfSome o (λ at. IsLeast at.0 (emissions s.collector)) → IsDueReading network device node
      (least_of o (least_of s.corrects_at (option_map (λ next. next.at) s.departures.next)))
  is_due o st none least =
      let dispatches = option_map (λ (next : Dispatch). next.at) s.departures.next in
      is_least network device node (least_of o (least_of s.corrects_at dispatches))
      (join_least (IsPending network device node) (IsEmission s) (IsClocked s network device node)
      (reading_for network node) o
      (least_of s.corrects_at dispatches)
      (λ task p. kind_of s network device node task st p) (λ task p. emission_is s network device node task st p)
      (λ task p. clocked_is task st p) (least_emission s network node o none least)
      (join_least (IsClocked s network device node) (IsCorrection network device node) (IsDispatch s network node)
      (reading_for network node) s.corrects_at
      dispatches (λ task p. p) (λ task p. inl p) (λ task p. inr p) (least_correction s network s.corrects_at st refl)
      (least_dispatch s.departures.next st refl)))

-- ---- what a switch does first

-- no collection is due
pub record EmitsNone (s : Switch) (reading : ℤ) (o : Option Units) : Type 0 where
  pub none : IsNone o ↔ (s.collector.waiting ≡ [])
  pub least : IfSome o (λ at. IsLeast at.0 (emissions s.collector))
  pub later : IfSome o (λ at. reading <ℤ at.0)

too_late : (x y z : ℤ) → x <ℤ y → y ≤ℤ z → z ≤ℤ x → ⊥
too_late x y z a b d = omega (arith, ints, a, b, d)

pub emits_none : {s : Switch} (network : Network) (node : Node) {reading : ℤ} (o : Option Units) (task : Task)
    → EmitsNone s reading o → IsEmission s task → reading_for network node task ≤ℤ reading → ⊥
emits_none network node o (doing deed) h is due = is
emits_none network node None (emitting sent) h (c, there, is) due =
    in_none c (subst (λ (cs : List Cluster). Contains cs c) (h.none.0 refl) there)
emits_none {s} network node {reading} (Some at) (emitting sent) h (c, there, is) due =
    let bound = All-contains (λ x. at.0 ≤ℤ x) (emissions s.collector) (emission s.collector.ow s.collector.calc c) h.least.bound (emission_at s c there) in
    let at_is : sent.at.0 ≡ emission s.collector.ow s.collector.calc c = ap (λ (e : Compressed). e.at.0) is in
    too_late reading at.0 sent.at.0 h.later (subst (λ z. at.0 ≤ℤ z) (sym at_is) bound) due

not_before_itself : (a b : ℕ) → a ≡ b → IsBefore (2 ∷ a ∷ []) (2 ∷ b ∷ []) → ⊥
not_before_itself a b e (inl lt) = omega arith
not_before_itself a b e (inr (x, inl lt)) = omega (arith, e, lt)
not_before_itself a b e (inr (x, inr more)) = more.1

module _ (s : Switch) (network : Network) where
  order_last : {device : DeviceId} {node : Node} (cycle : ℕ) (task : Task) → StandsAs s network device node
      → next_point node.standing ≡ Some cycle → IsCorrection network device node task
      → IsBefore (order_of network task) (2 ∷ cycle ∷ []) → ⊥
  order_last {node} cycle (doing (correcting other)) st next p before =
      not_before_itself other cycle (same_next (next_point node.standing) other cycle
      (pending_correction other st p).0 next) before
  order_last cycle (emitting sent) st next p before = p
  order_last cycle (doing (sending other)) st next p before = p
  order_last cycle (doing (dispatching row other)) st next p before = p

  order_row : (node : Node) (cycle : ℕ) (task : Task) → IsDispatch s network node task
      → IsBefore (order_of network task) (2 ∷ cycle ∷ []) → ⊥
  order_row node cycle (doing (dispatching row other)) p (inl lt) = omega (arith, lt)
  order_row node cycle (doing (dispatching row other)) p (inr more) = omega (arith, more.0)
  order_row node cycle (doing (correcting other)) p before = p
  order_row node cycle (emitting sent) p before = p
  order_row node cycle (doing (sending other)) p before = p

module _ (s : Switch) (network : Network) (device : DeviceId) (node : Node) where
  -- where no collection is due, the correction that is due is the first task
  pub first_correction : (cycle : ℕ) (at : Units) {reading : ℤ} {o : Option Units} → StandsAs s network device node
      → EmitsNone s reading o → s.corrects_at ≡ Some at → next_point node.standing ≡ Some cycle → at.0 ≤ℤ reading
      → IsFirstTask network device node reading (doing (correcting cycle))
  first_correction cycle at {reading} {o} st none e next reached =
      let p = correction_pending {s = s} {network = network} {device = device} {node = node} at st e in
      let same = same_next (next_point node.standing) p.0 cycle p.3 next in
      record {
        pending = subst (λ (n : ℕ). IsPending network device node (doing (correcting n))) same p.1;
        due = subst (λ (n : ℕ). reading_for network node (doing (correcting n)) ≤ℤ reading) same
            (subst (λ z. z ≤ℤ reading) (sym p.2) reached);
        first = λ other q here before. elim (kind_of s network device node other st q) [
          | inl x ↦ emits_none network node o other none x here
          | inr (inl y) ↦ order_last s network cycle other st next y before
          | inr (inr z) ↦ order_row s network node cycle other z before
        ];
      }

  -- a correction is to come where one is due
  pub its_next : (at : Units) → StandsAs s network device node → s.corrects_at ≡ Some at
      → (cycle : ℕ) × (next_point s.sync ≡ Some cycle)
  its_next at st e =
      let p = correction_pending {s = s} {network = network} {device = device} {node = node} at st e in
      (p.0, ap next_point (sym st.standing) ∙ p.3)

  -- ---- dispatches

  -- no correction is due
  pub corrects_none : (reading : ℤ) (o : Option Units) (task : Task) → StandsAs s network device node
      → s.corrects_at ≡ o → IfSome o (λ at. reading <ℤ at.0) → IsCorrection network device node task
      → reading_for network node task ≤ℤ reading → ⊥
  corrects_none reading None task st e later is due = no_correction s network task st e is
  corrects_none reading (Some at) task st e later is due =
      too_late reading at.0 (reading_for network node task) later
      (correction_bound s network {device = device} {node = node} task at st e is) due

from_not_less : (m n : ℕ) (adjustment : ℤ) → ((pos m -ℤ adjustment) <ℤ (pos n -ℤ adjustment) → ⊥) → n ≤ m
from_not_less m n adjustment never = grind (arith, cases_Bool, nat_le, ints)

same_at : (o' o x y : ℕ) (adjustment : ℤ) → x ≤ y → y + o ≤ x + o' → o' ≡ o → pos (x + o') -ℤ adjustment ≡ pos (y + o) -ℤ adjustment
same_at o' o x y adjustment le from e = let same : x + o' ≡ y + o = omega (arith, le, from, e) in ap (λ n. pos n -ℤ adjustment) same

order_tie : (o' l' r' o l r x y : ℕ) (adjustment : ℤ) → x ≤ y → y + o ≤ x + o'
    → (pos (x + o') -ℤ adjustment ≡ pos (y + o) -ℤ adjustment → (l' < l) ⊎ ((l' ≡ l) × (r' < r)) → ⊥) → IsBefore (o' ∷ l' ∷ r' ∷ []) (o ∷ l ∷ r ∷ []) → ⊥
order_tie o' l' r' o l r x y adjustment le from tie (inl lt) = omega (arith, le, from, lt)
order_tie o' l' r' o l r x y adjustment le from tie (inr (e, inl lt)) = tie (same_at o' o x y adjustment le from e) (inl lt)
order_tie o' l' r' o l r x y adjustment le from tie (inr (e, inr (f, inl lt))) = tie (same_at o' o x y adjustment le from e) (inr (f, lt))
order_tie o' l' r' o l r x y adjustment le from tie (inr (e, inr (f, inr more))) = more.1

-- one dispatch is not before the other by offsets, links and rows, if it is not by readings, links and rows, and both are due
order_clash : (o' l' r' o l r c' c L p : ℕ) (adjustment reading precision : ℤ) → o + 4 * p ≤ L → precision ≡ pos p
    → (pos (c' * L + o') -ℤ adjustment) ≤ℤ reading → reading <ℤ ((pos (c * L + o) -ℤ adjustment) +ℤ precision)
    → ((pos (c' * L + o') -ℤ adjustment) <ℤ (pos (c * L + o) -ℤ adjustment) → ⊥)
    → (pos (c' * L + o') -ℤ adjustment ≡ pos (c * L + o) -ℤ adjustment → (l' < l) ⊎ ((l' ≡ l) × (r' < r)) → ⊥)
    → IsBefore (o' ∷ l' ∷ r' ∷ []) (o ∷ l ∷ r ∷ []) → ⊥
order_clash o' l' r' o l r c' c L p adjustment reading precision ends prec due in_time never tie before =
    let from : c * L + o ≤ c' * L + o' = from_not_less (c' * L + o') (c * L + o) adjustment never in
    let to : c' * L + o' < c * L + o + p = omega (arith, ints, due, in_time, prec) in
    elim (cases_Bool (nat_le c' c)) [
      | inl y ↦
          let le : c' ≤ c = grind (arith, y) in
          let less : c' * L ≤ c * L = mul-le-mul_right L le in
          order_tie o' l' r' o l r (c' * L) (c * L) adjustment less from tie before
      | inr n ↦
          let more : c + 1 ≤ c' = grind (arith, n) in
          let far : (c + 1) * L ≤ c' * L = mul-le-mul_right L more in
          omega (arith, far, to, ends)
    ]

order_is : {network : Network} {device : DeviceId} {of : SwitchRow} → IsLeaving network device of
    → dispatch_order network of.row ≡ of.offset ∷ of.link.0 ∷ of.row.0 ∷ []
order_is {of} is =
    ap (λ (o : Option Row). option_map_or (λ r. amount r.offset ∷ r.link.0 ∷ of.row.0 ∷ []) o []) is.is.row
    ∙ ap (λ (x : SwitchRow). x.offset ∷ x.link.0 ∷ of.row.0 ∷ []) (sym is.kept)

ends_in : {network : Network} {device : DeviceId} {of : SwitchRow} → IsAccepted network
    → IsLeaving network device of → of.offset + 4 * amount network.precision ≤ amount network.cycle
ends_in {of} accepted is =
    let ends = accepted.rules rules.WindowEnds of.row.0 is.entry is.is in
    let offset : of.offset ≡ amount is.entry.row.offset = ap (λ (x : SwitchRow). x.offset) is.kept in
    omega (arith, ends, offset)

module _ (s : Switch) (network : Network) (device : DeviceId) (node : Node) where
  -- no other dispatch that is due is before the next
  order_next : (next : Dispatch) (reading : ℤ) (task : Task) → StandsAs s network device node
      → s.departures.next ≡ Some next
      → reading <ℤ (reading_for network node (doing (dispatching next.row next.cycle)) +ℤ network.precision.0)
      → IsDispatch s network node task → reading_for network node task ≤ℤ reading
      → IsBefore (order_of network task) (order_of network (doing (dispatching next.row next.cycle))) → ⊥
  order_next next reading (emitting sent) st e in_time is here before = is
  order_next next reading (doing (sending cycle)) st e in_time is here before = is
  order_next next reading (doing (correcting cycle)) st e in_time is here before = is
  order_next next reading (doing (dispatching row cycle)) st e in_time is here (inl lt) = omega (arith, lt)
  order_next next reading (doing (dispatching row cycle)) st e in_time (d, there, awaited, same, sync) here
      (inr (three, before)) =
      let n = next_of s network device node next st e in
      let L = amount network.cycle in
      let mine = leaves_so s network device node n.d st n.there in
      let other = leaves_so s network device node d st there in
      let its_row : n.d.of.row ≡ next.row = sym (ap (λ (x : Dispatch). x.row) n.is) in
      let never = not_sooner next d (held_in L d.of cycle) st e there awaited in
      let apart = subst (λ x. Precedes
      (dispatch_at node.standing.adjustment.0 d.of (held_in L d.of cycle)) x → ⊥) n.is never in
      let at : next.at.0 ≡ pos (next.cycle * L + n.d.of.offset) -ℤ node.standing.adjustment.0 =
      ap (λ (x : Dispatch). x.at.0) n.is in
      let its_at = (next_is s network device node next st e).1 ∙ at in
      order_clash d.of.offset d.of.link.0 d.of.row.0 n.d.of.offset n.d.of.link.0 n.d.of.row.0 cycle next.cycle L
      (amount network.precision)
      node.standing.adjustment.0 reading network.precision.0 (ends_in st.accepted mine)
      (its_amount st.accepted.range.precision)
      (subst (λ z. (z -ℤ node.standing.adjustment.0) ≤ℤ reading) (value_is cycle other)
      (subst (λ (x : RowId). reading_for network node (doing (dispatching x cycle)) ≤ℤ reading) (sym same) here))
      (subst (λ z. reading <ℤ (z +ℤ network.precision.0)) its_at in_time)
      (λ lt. apart (inl lt)) (λ tie last. apart (inr (tie, last)))
      (subst (λ xs. IsBefore xs (n.d.of.offset ∷ n.d.of.link.0 ∷ n.d.of.row.0 ∷ [])) (order_is other)
      (subst (λ x. IsBefore (dispatch_order network x) (n.d.of.offset ∷ n.d.of.link.0 ∷ n.d.of.row.0 ∷ []))
      (sym same)
      (subst (IsBefore (dispatch_order network row)) (order_is mine)
      (subst (λ x. IsBefore (dispatch_order network row) (dispatch_order network x)) (sym its_row) before))))

  -- where no collection and no correction is due, the dispatch that comes next is the first task
  pub first_dispatch : (next : Dispatch) {moment : Moment} {o : Option Units} → StandsAs s network device node
      → MayCall network device node moment acting → EmitsNone s moment.reading.0 o
      → IfSome s.corrects_at (λ at. moment.reading.0 <ℤ at.0) → s.departures.next ≡ Some next
      → HasDue network device node moment.reading.0 → IsFirstTask network device node moment.reading.0
      (doing (dispatching next.row next.cycle))
  first_dispatch next {moment} {o} st may none later e due =
      let n = next_is s network device node next st e in
      let pending = dispatch_is s network device node (doing (dispatching next.row next.cycle)) st n.0 in
      record {
        pending = pending;
        due = subst (λ z. z ≤ℤ moment.reading.0) (sym n.1) (elim (kind_of s network device node due.0 st due.1) [
          | inl x ↦ absurd (emits_none network node o due.0 none x due.2)
          | inr (inl y) ↦ absurd (corrects_none s network device node moment.reading.0 s.corrects_at due.0
              st refl later y due.2)
          | inr (inr z) ↦ through _ _ _ (dispatch_bound next due.0 st e z) due.2
        ]);
        first = λ other q here before. elim (kind_of s network device node other st q) [
          | inl x ↦ emits_none network node o other none x here
          | inr (inl y) ↦ corrects_none s network device node moment.reading.0 s.corrects_at other st refl later y here
          | inr (inr z) ↦ order_next next moment.reading.0 other st e
              (may.in_time (doing (dispatching next.row next.cycle)) pending)
              z here before
        ];
      }

  -- and without one nothing is due
  pub nothing_due : {reading : ℤ} {o : Option Units} → StandsAs s network device node → EmitsNone s reading o
      → IfSome s.corrects_at (λ at. reading <ℤ at.0) → s.departures.next ≡ None → HasDue network device node reading
      → ⊥
  nothing_due {reading} {o} st none later absent due = elim (kind_of s network device node due.0 st due.1) [
    | inl x ↦ emits_none network node o due.0 none x due.2
    | inr (inl y) ↦ corrects_none s network device node reading s.corrects_at due.0 st refl later y due.2
    | inr (inr z) ↦ no_dispatch due.0 st absent z
  ]

pub value_reached : (value adjustment reading : ℤ) → (value -ℤ adjustment) ≤ℤ reading → value ≤ℤ (reading +ℤ adjustment)
value_reached value adjustment reading h = omega (arith, ints, h)

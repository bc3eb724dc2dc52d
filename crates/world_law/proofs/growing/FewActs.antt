-- What a device does at one moment is not much, as few rows leave it.
use Rattle.std.{specs.{Cmp.IsEquivalence, List.IsDistinct}}
use Rattle.std.proofs.{Common.{◌*ℤ◌, Contains}}
use Rattle.std.proofs.lemmas.{Bool.{cases_eq, ne_eqb, or_cases, or_left, or_right}, List.Sums.length-filter}
use Rattle.std.proofs.lemmas.{Map.Made.length-le_from_is_member}
use Rattle.compression.{proofs.Collectors.AreClusters-unique, specs.{Emission.emission, Middle.{middle_of, relative}}}
use Rattle.run_law.specs.{device.States.is_synchronised, machines.Tasks.{IsFirstTask, order_of}}
use Rattle.schedule_tables.specs.{Dispatches.dispatch_order, Schedule.leaves}
use Rattle.schedule_tables.specs.{declared.rule.Rule.TheVariants.RowsOfDevice}
use Rattle.world_law.{specs.device.Growing.{ActsAreFew, AreActs, AreRising, FewAreEmitted, IsDueFrame}}
use Rattle.world_law.proofs.{acts.{Acting.{acted, heard_so}, Ready.{acting_last, last_is}}}
use Rattle.world_law.proofs.Words
use Words.{if◌then◌else◌, ◌++◌, ◌+ℤ◌, ◌+◌, ◌<ℤ◌, ◌<◌, ◌==◌, ◌∷◌, ◌≡◌, ◌≤ℤ◌, ◌≤◌, ◌⊎◌, Act, AllByRecursion, AsyncClique}
use Words.{Bool, Cleared, Cluster, Compressed, Corrected, DeviceId, Entry, IsActOf, IsBefore, IsEntry, IsFromZero, IsIn}
use Words.{IsInRange, IsPending, KeepsRules, List, MayCall, Moment, Network, Node, Row, Some, Summary, SyncClique, Task}
use Words.{Verdict, [], acting, after_correction, after_emission, amount, arith, called, cases_Bool, cases_lt, chain}
use Words.{correcting, dispatching, doing, emitting, eq-eqb, eqb-true, false, filter, inl, inr, ints, length, list_any}
use Words.{never_self, no_cluster, observation_window, option_map_or, own_hearing, plan_of, pos, reading_for, refl}
use Words.{sending, slice_get, source_of, subst, suc, sym, true, zero, ℕ, ℤ}
use Rattle.world_law.proofs.growing.Growing
use Growing.{IsSpan, acts_grow, from_zero, nothing_behind_correction, nothing_sent_behind_sending, opens_behind}
use Growing.{span_of, whole_precision, wide}
use Rattle.run_law.specs.declared.steps.Act.TheVariants as acts

-- ---- different rows that leave one device are at most 256

abbrev eqn : ℕ → ℕ → Bool
eqn a b = a == b

numbers_equal : IsEquivalence eqn
numbers_equal = grind (arith, eq-eqb, eqb-true, cases_eq, ne_eqb)

-- the places of the rows that pass a test, from a place on
abbrev places : (Row → Bool) → ℕ → List Row → List ℕ
places p k [] = []
places p k (r ∷ rs) = if p r then k ∷ places p (suc k) rs else places p (suc k) rs

places_many : (p : Row → Bool) (k : ℕ) (rs : List Row) → length (places p k rs) ≡ length (filter p rs)
places_many p k [] = refl
places_many p k (r ∷ rs) = grind (arith, cases_Bool, (places_many p (suc k) rs))

passing : (p : Row → Bool) (k i : ℕ) (rs : List Row) {r : Row} → slice_get rs i ≡ Some r → p r ≡ true → list_any
    (eqn (k + i)) (places p k rs) ≡ true
passing p k i [] there pass = absurd cc
passing p k zero (x ∷ rs) there pass = grind (arith, list_any, or_left, eq-eqb)
passing p k (suc i) (x ∷ rs) {r} there pass = grind
    (arith, list_any, cases_Bool, or_right, (passing p (suc k) i rs there pass))

member_has : (P : ℕ → Type 0) (xs : List ℕ) (q : ℕ) → AllByRecursion P xs → list_any (eqn q) xs ≡ true → P q
member_has P [] q all at = absurd cc
member_has P (x ∷ xs) q all at =
    elim (or_cases (q == x) (list_any (eqn q) xs) at) [
      | inl e ↦ subst P (sym (eqb-true q x e)) all.0
      | inr rest ↦ member_has P xs q all.1 rest
    ]

-- a row that leaves the device
pub record IsRowOf (network : Network) (device : DeviceId) (n : ℕ) : Type 0 where
  pub row : Row
  pub there : slice_get network.row n ≡ Some row
  pub leaves : leaves network device row ≡ true

pub row_of : {network : Network} {device : DeviceId} {n : ℕ} {entry : Entry} → IsEntry network n entry
    → source_of entry ≡ device → IsRowOf network device n
row_of is from = grind (arith, option_map_or, eq-eqb, source_of)

-- different ones are at most 256
pub few_rows : (network : Network) (device : DeviceId) (rows : List ℕ) → KeepsRules network → IsDistinct (λ a b. a == b) rows
    → AllByRecursion (IsRowOf network device) rows → length rows ≤ 256
few_rows network device rows rules distinct each =
    let p = leaves network device in
    let few = rules RowsOfDevice device.0 in
    let within = length-le_from_is_member numbers_equal rows (places p 0 network.row) distinct
    (λ q at. let it = member_has (IsRowOf network device) rows q each at in
    subst (λ n. list_any (eqn n) (places p 0 network.row) ≡ true) (omega arith)
    (passing p 0 q network.row it.there it.leaves)) in
    let many = places_many p 0 network.row in
    let counted = length-filter p network.row in
    omega arith

-- ---- what a device does at one moment is not much

-- At most two frames are due at once and have not waited for as long as the precision.

-- the emission of a cluster lies from its opening to its end, and two windows and the time to calculate
record IsSentBy (ow calc : ℤ) (c : Cluster) (at : ℤ) : Type 0 where
  pub low : ((c.opened +ℤ (pos 2 *ℤ ow)) +ℤ calc) ≤ℤ at
  pub high : at ≤ℤ ((c.end +ℤ (pos 2 *ℤ ow)) +ℤ calc)

sent_by : {ow : ℤ} (calc : ℤ) {c : Cluster} (at : ℤ) → IsSpan ow c → at ≡ emission ow calc c → IsSentBy ow calc c at
sent_by {ow} calc {c} at span is = by (middle_of (relative c.points)) span.low span.high is
  where
    by : (m : ℤ) → pos 0 ≤ℤ m → (c.opened +ℤ m) ≤ℤ c.end → at ≡ (((c.opened +ℤ (pos 2 *ℤ ow)) +ℤ calc) +ℤ m) → IsSentBy ow calc c at
    by m low high e = record { low = omega (arith, ints); high = omega (arith, ints) }

-- of three clusters, each opening behind the one before it, the frames are not due at once
never_three : {ow calc : ℤ} (reading : ℤ) {x z : ℤ} {a b c : Cluster} → IsSpan ow b → a.end <ℤ b.opened
    → b.end <ℤ c.opened → IsSentBy ow calc a x → IsSentBy ow calc c z → reading <ℤ (x +ℤ ow) → z ≤ℤ reading → ⊥
never_three reading span one two first last late due =
    omega (arith, ints, span.one, first.high, last.low)

three : {network : Network} {node : Node} {reading : ℤ} {a b c : Compressed} → IsInRange network
    → IsDueFrame network node reading a → IsDueFrame network node reading b → IsDueFrame network node reading c
    → a.opened.0 <ℤ b.opened.0 → b.opened.0 <ℤ c.opened.0 → ⊥
three {network} {node} {reading} {a} {b} {c} range u v w one two =
    let ow = observation_window network in
    let calc = pos (amount network.calc) in
    let whole = whole_precision range in
    let some : pos 0 ≤ℤ ow = omega (arith, ints) in
    let cs = u.clusters in
    let there_b : Contains cs v.cluster = rw (AreClusters-unique ow node.points v.clusters cs v.are u.are) at v.there in
    let there_c : Contains cs w.cluster = rw (AreClusters-unique ow node.points w.clusters cs w.are u.are) at w.there in
    let of_a : a.opened.0 ≡ u.cluster.opened = rw u.is in
    let of_b : b.opened.0 ≡ v.cluster.opened = rw v.is in
    let of_c : c.opened.0 ≡ w.cluster.opened = rw w.is in
    let ab = opens_behind ow node.points cs some u.are u.cluster v.cluster u.there there_b (omega (arith, ints)) in
    let bc = opens_behind ow node.points cs some u.are v.cluster w.cluster there_b there_c (omega (arith, ints)) in
    never_three reading (span_of ow node.points cs some u.are v.cluster there_b) ab bc
    (sent_by calc a.at.0 (span_of ow node.points cs some u.are u.cluster u.there)
    (rw u.is))
    (sent_by calc c.at.0 (span_of ow node.points cs some u.are w.cluster there_c)
    (rw w.is))
    (rw whole at u.in_time) w.due

pub few_are_emitted : FewAreEmitted
few_are_emitted network node reading (a ∷ b ∷ c ∷ more) range each rising =
    absurd (three range (each a (inl refl)) (each b (inr (inl refl))) (each c (inr (inr (inl refl)))) rising.0
    rising.1.0)
few_are_emitted network node reading done range each rising = omega arith

-- ---- each act where the device may act

-- it may act again at the moment
pub may_act_again : {network : Network} {device : DeviceId} {node : Node} {moment : Moment} (act : Act) (new : Node)
    → IsInRange network → KeepsRules network → MayCall network device node moment acting
    → IsActOf network device node moment act new → MayCall network device new moment acting
may_act_again {network} {device} {node} {moment} act new range rules may is =
    let last = last_is network device node moment act new is in
    let time : new.last.time.0 ≡ moment.time.0 = rw last in
    let read : new.last.reading.0 ≡ moment.reading.0 = rw last in
    let some = range.precision.least in
    record {
      later = record {
        time = omega (arith, ints);
        reading = omega (arith, ints);
        early_enough = may.later.early_enough;
        low_enough = may.later.low_enough;
      };
      in_order = λ same. acting_last new.phase;
      all_done = λ before task p. absurd (omega (arith, ints));
      in_time = λ task p.
          elim (acted network device node moment act new may (wide range rules) is task p) [
            | inl old ↦ rw old.1 (may.in_time task old.0)
            | inr far ↦ omega (arith, ints)
          ];
    }

-- they are acts, and each comes where the device may act
abbrev AreCalled : Network → DeviceId → Moment → Node → List Act → Node → Type 0
AreCalled network device moment node [] new = new ≡ node
AreCalled network device moment node (act ∷ done) new =
    (mid : Node) × MayCall network device node moment acting × IsActOf network device node moment act mid
    × AreCalled network device moment mid done new

module _ (network : Network) (device : DeviceId) (moment : Moment) where
  so_called : {node : Node} (done : List Act) (new : Node) → IsInRange network → KeepsRules network
      → MayCall network device node moment acting → AreActs network device moment node done new
      → AreCalled network device moment node done new
  so_called [] new range rules may are = are
  so_called (act ∷ done) new range rules may (mid, is, rest) =
      (mid, may, is, so_called done new range rules (may_act_again act mid range rules may is) rest)

  -- after all of them it may act again
  pub may_act_then : {node : Node} (done : List Act) (new : Node) → IsInRange network → KeepsRules network
      → MayCall network device node moment acting → AreActs network device moment node done new
      → MayCall network device new moment acting
  may_act_then [] new range rules may are = rw are may
  may_act_then (act ∷ done) new range rules may (mid, is, rest) =
      may_act_then done new range rules (may_act_again act mid range rules may is) rest

  -- one more act
  pub one_more_act : (node mid : Node) (done : List Act) (act : Act) (new : Node)
      → AreActs network device moment node done mid → IsActOf network device mid moment act new
      → AreActs network device moment node (done ++ act ∷ []) new
  one_more_act node mid [] act new are is =
      (new, rw are at is, refl)
  one_more_act node mid (a ∷ done) act new are is = (are.0, are.1, one_more_act are.0 mid done act new are.2 is)

-- ---- the points after an act: those before, or none

abbrev HasPointsOf : Node → Node → Type 0
HasPointsOf node new = (new.points ≡ node.points) ⊎ (new.points ≡ [])

points_emitted : (network : Network) (device : DeviceId) (node : Node) (moment : Moment) (sent : Compressed)
    → HasPointsOf node (called moment acting (after_emission network device node moment sent (own_hearing network device node sent)))
points_emitted network device node moment sent = grind (arith, heard_so, plan_of, observation_window, called, acting, after_emission)

points_corrected : (node : Node) (moment : Moment) (heard : Summary) (cycle : ℕ) (verdict : Verdict)
    → HasPointsOf node (called moment acting (after_correction node moment heard cycle verdict))
points_corrected node moment heard cycle (Corrected by) =
    search (arith, is_synchronised)
points_corrected node moment heard cycle SyncClique = inr refl
points_corrected node moment heard cycle AsyncClique = inr refl
points_corrected node moment heard cycle Cleared = inl refl

points_after : (network : Network) (device : DeviceId) (node : Node) (moment : Moment) (act : Act) (new : Node) → IsActOf network device node moment act new
    → HasPointsOf node new
points_after network device node moment (acts.Send frame) new (cycle, first, of_frame, is) = inl (rw is)
points_after network device node moment (acts.Dispatch row cycle) new (first, is) = inl (rw is)
points_after network device node moment (acts.Emit sent heard) new (first, so, is) =
    search (arith, points_emitted)
points_after network device node moment (acts.Correct cycle verdict) new (first, (heard, comes, is)) =
    subst (HasPointsOf node) (sym is) (points_corrected node moment heard cycle verdict)

-- so none lies before reading 0, where none did
pub still_from_zero : (network : Network) (device : DeviceId) (node : Node) (moment : Moment) (act : Act) (new : Node)
    → IsActOf network device node moment act new → IsFromZero network device node → IsFromZero network device new
still_from_zero network device node moment act new is zero_on = grind (arith, points_after)

-- ---- what is due, by its kind

abbrev kind_of : Task → ℕ
kind_of (emitting sent) = 0
kind_of (doing (sending n)) = 1
kind_of (doing (correcting n)) = 2
kind_of (doing (dispatching row n)) = 3

-- what is due is of this kind or of one behind it
abbrev AreFrom : Network → DeviceId → Moment → ℕ → Node → Type 0
AreFrom network device moment k node = (task : Task) → IsPending network device node task → reading_for network node task ≤ℤ moment.reading.0 → k ≤ kind_of task

by_kind : (network : Network) (a b : Task) → kind_of a < kind_of b → IsBefore (order_of network a) (order_of network b)
by_kind network (emitting a) (doing (sending n)) lt = inl lt
by_kind network (doing (sending m)) (doing (sending n)) lt = inl lt
by_kind network (doing (correcting m)) (doing (sending n)) lt = inl lt
by_kind network (doing (dispatching of m)) (doing (sending n)) lt = inl lt
by_kind network a b lt = inl lt

-- none is of a kind before that of the first
from_first : {network : Network} {device : DeviceId} {node : Node} (moment : Moment) {task : Task}
    → IsFirstTask network device node moment.reading.0 task → AreFrom network device moment (kind_of task) node
from_first moment first other q due = grind (arith, cases_lt, by_kind)

-- ---- the dispatches

abbrev rows_in : List Act → List ℕ
rows_in [] = []
rows_in (acts.Dispatch row cycle ∷ more) = row.0 ∷ rows_in more
rows_in (other ∷ more) = rows_in more

abbrev order_at : Network → ℕ → List ℕ
order_at network n = dispatch_order network (record { 0 = n })

-- all are behind this row
abbrev AreBehindRow : Network → DeviceId → Moment → List ℕ → Node → Type 0
AreBehindRow network device moment low node =
    (task : Task) → IsPending network device node task → reading_for network node task ≤ℤ moment.reading.0 → IsBefore (3 ∷ low) (order_of network task)

of_kind_three : (low : List ℕ) (network : Network) (task : Task) → IsBefore (3 ∷ low) (order_of network task) → 3 ≤ kind_of task
of_kind_three low network (doing (sending n)) b = grind arith
of_kind_three low network task b = grind arith

row_behind : (low high : List ℕ) → IsBefore (3 ∷ low) (3 ∷ high) → IsBefore low high
row_behind low high (inl lt) = absurd (omega arith)
row_behind low high (inr b) = b.1

-- what a chain of acts is where all that is due are dispatches
record AreDispatches (network : Network) (device : DeviceId) (done : List Act) : Type 0 where
  pub many : length done ≡ length (rows_in done)
  pub each : AllByRecursion (IsRowOf network device) (rows_in done)
  pub distinct : IsDistinct (λ a b. a == b) (rows_in done)

module _ (network : Network) where
  apart_all : (low : ℕ) (ns : List ℕ) → AllByRecursion (λ n. IsBefore (order_at network low) (order_at network n)) ns
      → AllByRecursion (λ n. (low == n) ≡ false) ns
  apart_all low [] all = tt
  apart_all low (n ∷ ns) all = grind (arith, ne_eqb, never_self, (apart_all low ns all.1))

  further : (low high ns : List ℕ) → IsBefore low high → AllByRecursion (λ n. IsBefore high (order_at network n)) ns
      → AllByRecursion (λ n. IsBefore low (order_at network n)) ns
  further low high [] b all = tt
  further low high (n ∷ ns) b all = (chain low high (order_at network n) b all.0, further low high ns b all.1)

  behind_rows : (device : DeviceId) (moment : Moment) (node : Node) (done : List Act) (new : Node) (low : List ℕ)
      → IsInRange network → KeepsRules network → IsFromZero network device node
      → AreCalled network device moment node done new → AreBehindRow network device moment low node
      → AllByRecursion (λ n. IsBefore low (order_at network n)) (rows_in done)
  behind_rows device moment node [] new low range rules zero_on are behind = tt
  behind_rows device moment node (acts.Dispatch row cycle ∷ more) new low range rules zero_on (mid, may, is, rest)
      behind =
      let here = row_behind low (dispatch_order network row)
      (behind (doing (dispatching row cycle)) is.0.pending is.0.due) in (
        here,
        further low (dispatch_order network row) (rows_in more) here
            (behind_rows device moment mid more new (dispatch_order network row) range rules
            (still_from_zero network device node moment (acts.Dispatch row cycle) mid is zero_on) rest
            (λ task p due. acts_grow network device node moment (acts.Dispatch row cycle) mid task range rules
            zero_on may is p due)),
      )
  behind_rows device moment node (acts.Send frame ∷ more) new low range rules zero_on (mid, may, is, rest) behind =
      let bad = of_kind_three low network (doing (sending is.0))
      (behind (doing (sending is.0)) is.1.pending is.1.due) in absurd (omega arith)
  behind_rows device moment node (acts.Emit sent heard ∷ more) new low range rules zero_on (mid, may, is, rest) behind =
      let bad = of_kind_three low network (emitting sent) (behind (emitting sent) is.0.pending is.0.due) in
      absurd (omega arith)
  behind_rows device moment node (acts.Correct cycle verdict ∷ more) new low range rules zero_on (mid, may, is, rest)
      behind =
      let bad = of_kind_three low network (doing (correcting cycle))
      (behind (doing (correcting cycle)) is.0.pending is.0.due) in absurd (omega arith)

dispatches : {network : Network} (device : DeviceId) (moment : Moment) (node : Node) (done : List Act) (new : Node)
    → IsInRange network → KeepsRules network
    → IsFromZero network device node → AreCalled network device moment node done new → AreFrom network device moment 3 node → AreDispatches network device done
unfolding IsDistinct
dispatches device moment node [] new range rules zero_on are from = record { many = refl; each = tt; distinct = tt }
dispatches {network} device moment node (acts.Dispatch row cycle ∷ more) new range rules zero_on (mid, may, is, rest)
    from =
    let frame = is.0.pending.1.own.1 in
    let grow : AreBehindRow network device moment (dispatch_order network row) mid =
    λ task p due. acts_grow network device node moment (acts.Dispatch row cycle) mid task range rules zero_on may is p due in
    let zero_mid = still_from_zero network device node moment (acts.Dispatch row cycle) mid is zero_on in
    let others = dispatches device moment mid more new range rules zero_mid rest
    (λ task p due. of_kind_three (dispatch_order network row) network task (grow task p due)) in
    let many = others.many in
    record {
      many = omega arith;
      each = (row_of frame.is frame.leaves, others.each);
      distinct = (
        apart_all network row.0 (rows_in more) (behind_rows network device moment mid more new (dispatch_order network row) range rules zero_mid rest grow),
        others.distinct,
      );
    }
dispatches device moment node (acts.Send frame ∷ more) new range rules zero_on (mid, may, is, rest) from =
    let bad = from (doing (sending is.0)) is.1.pending is.1.due in absurd (omega arith)
dispatches device moment node (acts.Emit sent heard ∷ more) new range rules zero_on (mid, may, is, rest) from =
    let bad = from (emitting sent) is.0.pending is.0.due in absurd (omega arith)
dispatches device moment node (acts.Correct cycle verdict ∷ more) new range rules zero_on (mid, may, is, rest) from =
    let bad = from (doing (correcting cycle)) is.0.pending is.0.due in absurd (omega arith)

module _ {network : Network} (device : DeviceId) (moment : Moment) where
  -- at most 256 acts, where no emission or sending is due
  few_behind : (node : Node) (done : List Act) (new : Node) → IsInRange network → KeepsRules network
      → IsFromZero network device node → AreCalled network device moment node done new
      → AreFrom network device moment 2 node → length done ≤ 256
  few_behind node [] new range rules zero_on are from = omega arith
  few_behind node (acts.Dispatch row cycle ∷ more) new range rules zero_on are from =
      let all = dispatches device moment node (acts.Dispatch row cycle ∷ more) new range rules zero_on are
      (from_first moment are.2.0) in
      let few = few_rows network device (rows_in (acts.Dispatch row cycle ∷ more)) rules all.distinct all.each in
      let many = all.many in
      omega arith
  few_behind node (acts.Send frame ∷ more) new range rules zero_on (mid, may, is, rest) from =
      let bad = from (doing (sending is.0)) is.1.pending is.1.due in absurd (omega arith)
  few_behind node (acts.Emit sent heard ∷ more) new range rules zero_on (mid, may, is, rest) from =
      let bad = from (emitting sent) is.0.pending is.0.due in absurd (omega arith)
  few_behind node (acts.Correct cycle verdict ∷ []) new range rules zero_on are from = omega arith
  few_behind node (acts.Correct cycle verdict ∷ act ∷ more) new range rules zero_on
      (mid, may, is, (last, may_go, next, rest)) from =
      absurd (first_there act next (λ task p due. nothing_behind_correction network device node moment cycle verdict
      mid task range rules may is p due))
    where
      first_there : (a : Act) → IsActOf network device mid moment a last
          → ((task : Task) → IsPending network device mid task → reading_for network mid task ≤ℤ moment.reading.0
          → ⊥) → ⊥
      first_there (acts.Send frame) x none = none (doing (sending x.0)) x.1.pending x.1.due
      first_there (acts.Emit sent heard) x none = none (emitting sent) x.0.pending x.0.due
      first_there (acts.Correct n so) x none = none (doing (correcting n)) x.0.pending x.0.due
      first_there (acts.Dispatch row n) x none = none (doing (dispatching row n)) x.0.pending x.0.due

  -- and one more, where no emission is due
  few_then : (node : Node) (done : List Act) (new : Node) → IsInRange network → KeepsRules network
      → IsFromZero network device node → AreCalled network device moment node done new
      → AreFrom network device moment 1 node → length done ≤ 257
  few_then node [] new range rules zero_on are from = omega arith
  few_then node (acts.Send frame ∷ more) new range rules zero_on (mid, may, is, rest) from =
      let few = few_behind mid more new range rules
      (still_from_zero network device node moment (acts.Send frame) mid is zero_on) rest
      behind in
      omega arith
    where
      sent_behind : (n : ℕ) → IsBefore (1 ∷ frame.cycle ∷ []) (0 ∷ n ∷ []) → ⊥
      sent_behind n (inl lt) = omega arith
      sent_behind n (inr same) = let bad = same.0 in omega arith

      behind : AreFrom network device moment 2 mid
      behind (emitting sent) p due =
          absurd (sent_behind (amount sent.opened)
          (acts_grow network device node moment (acts.Send frame) mid (emitting sent) range rules zero_on may is p due))
      behind (doing (sending n)) p due =
          absurd (nothing_sent_behind_sending frame mid n range rules may is p due)
      behind (doing (correcting n)) p due = omega arith
      behind (doing (dispatching row n)) p due = omega arith
  few_then node (acts.Dispatch row cycle ∷ more) new range rules zero_on are from =
      let first = from_first moment are.2.0 in
      let few = few_behind node (acts.Dispatch row cycle ∷ more) new range rules zero_on are
      (λ task p due. omega arith) in
      omega arith
  few_then node (acts.Correct cycle verdict ∷ more) new range rules zero_on are from =
      let few = few_behind node (acts.Correct cycle verdict ∷ more) new range rules zero_on are
      (from_first moment are.2.0) in
      omega arith
  few_then node (acts.Emit sent heard ∷ more) new range rules zero_on (mid, may, is, rest) from =
      let bad = from (emitting sent) is.0.pending is.0.due in absurd (omega arith)

-- ---- the emissions

abbrev emitted_in : List Act → List Compressed
emitted_in [] = []
emitted_in (acts.Emit sent heard ∷ more) = sent ∷ emitted_in more
emitted_in (other ∷ more) = []

due_frame : {network : Network} {device : DeviceId} {node : Node} {moment : Moment} (sent : Compressed)
    → MayCall network device node moment acting → IsPending network device node (emitting sent)
    → sent.at.0 ≤ℤ moment.reading.0 → IsDueFrame network node moment.reading.0 sent
due_frame sent may p due = record {
  clusters = p.1.clusters;
  are = p.1.are;
  cluster = p.1.cluster;
  there = p.1.there;
  is = p.1.is;
  due = due;
  in_time = may.in_time (emitting sent) p;
}

due_before : {network : Network} (node : Node) {new : Node} {reading : ℤ} {c : Compressed} → HasPointsOf node new
    → IsDueFrame network new reading c → IsDueFrame network node reading c
due_before node (inl same) d = grind (arith, observation_window)
due_before {network} node (inr none) d =
    absurd (no_cluster (observation_window network) d.clusters d.cluster
    (rw none at d.are) d.there)

each_due : (network : Network) (device : DeviceId) (moment : Moment) (node : Node) (done : List Act) (new : Node)
    → AreCalled network device moment node done new → (c : Compressed) → IsIn c (emitted_in done) → IsDueFrame network node moment.reading.0 c
each_due network device moment node (acts.Emit sent heard ∷ more) new (mid, may, is, rest) c (inl e) =
    subst (IsDueFrame network node moment.reading.0) (sym e) (due_frame sent may is.0.pending is.0.due)
each_due network device moment node (acts.Emit sent heard ∷ more) new (mid, may, is, rest) c (inr i) =
    due_before node (points_after network device node moment (acts.Emit sent heard) mid is)
    (each_due network device moment mid more new rest c i)
each_due network device moment node done new are c i = absurd i

opened_behind : (a b : Compressed) → a.opened.0 ≡ pos (amount a.opened) → b.opened.0 ≡ pos (amount b.opened)
    → IsBefore (0 ∷ amount a.opened ∷ []) (0 ∷ amount b.opened ∷ []) → a.opened.0 <ℤ b.opened.0
opened_behind a b x y (inl lt) = absurd (omega arith)
opened_behind a b x y (inr (e, inl lt)) = omega (arith, ints)
opened_behind a b x y (inr (e, inr more)) = absurd more.1

module _ {network : Network} (device : DeviceId) (moment : Moment) where
  rising : (node : Node) (done : List Act) (new : Node) → IsInRange network → KeepsRules network
      → IsFromZero network device node → AreCalled network device moment node done new → AreRising (emitted_in done)
  rising node (acts.Emit sent heard ∷ acts.Emit next by ∷ more) new range rules zero_on (mid, may, is, rest) =
      let zero_mid = still_from_zero network device node moment (acts.Emit sent heard) mid is zero_on in
      let first = rest.2.0 in (
        opened_behind sent next (from_zero zero_on is.0.pending.1) (from_zero zero_mid first.pending.1)
            (acts_grow network device node moment (acts.Emit sent heard) mid (emitting next) range rules zero_on may
            is first.pending first.due),
        rising mid (acts.Emit next by ∷ more) new range rules zero_mid rest,
      )
  rising node done new range rules zero_on are = tt

  few_others : (node : Node) (done : List Act) (new : Node) → IsInRange network → KeepsRules network
      → IsFromZero network device node → AreCalled network device moment node done new
      → length done ≤ length (emitted_in done) + 257
  few_others node [] new range rules zero_on are = omega arith
  few_others node (acts.Emit sent heard ∷ more) new range rules zero_on (mid, may, is, rest) =
      let few = few_others mid more new range rules
      (still_from_zero network device node moment (acts.Emit sent heard) mid is zero_on) rest in
      omega arith
  few_others node (acts.Send frame ∷ more) new range rules zero_on are =
      few_then device moment node (acts.Send frame ∷ more) new range rules zero_on are
      (from_first moment are.2.1)
  few_others node (acts.Correct cycle verdict ∷ more) new range rules zero_on are =
      few_then device moment node (acts.Correct cycle verdict ∷ more) new range rules zero_on are
      (λ task p due. let ge = from_first moment are.2.0 task p due in omega arith)
  few_others node (acts.Dispatch row cycle ∷ more) new range rules zero_on are =
      few_then device moment node (acts.Dispatch row cycle ∷ more) new range rules zero_on are
      (λ task p due. let ge = from_first moment are.2.0 task p due in omega arith)

-- what a device does at one moment is not much
pub acts_are_few : ActsAreFew
acts_are_few network device moment node done new range rules zero_on may acts_are =
    let are = so_called network device moment done new range rules may acts_are in
    let few = few_are_emitted network node moment.reading.0 (emitted_in done) range (each_due network device moment node done new are)
    (rising device moment node done new range rules zero_on are) in
    let others = few_others device moment node done new range rules zero_on are in
    omega arith

-- What is still due stands behind what a device did, and an emission behind its cluster's opening.
use Rattle.std.proofs.{Common.{◌*ℤ◌, Contains}, lemmas.List.Elements.{Contains-append_right, recursion_from_All}}
use Rattle.compression.proofs.{ClusterFacts.ends_soon, Collectors.AreClusters-unique, Times.{first_end, open_beyond}}
use Rattle.sync_state.proofs.VerdictLemmas.{integrating_point}
use Rattle.compression.proofs.Growth
use Growth.{all_at, beyond-all, counts, end_of-least, firsts-start, held-start, in_cases, in_head, in_none}
use Rattle.compression.specs.{Clusters.{beyond, cluster_of, end_of, firsts, has_master, of_cycle_within}}
use Rattle.compression.specs.{Emission.compressed, Middle.{last_but_one, middle_of, relative}}
use Rattle.run_law.specs.machines.{Answers.with_done, Tasks.{IsFirstTask, IsWaiting, order_of}}
use Rattle.schedule_tables.specs.{Dispatches.dispatch_order, declared.rule.Rule.TheVariants.ScheduleStart}
use Rattle.tte_units.{specs.Mean.mean_of}
use Rattle.tte_units.proofs.{Means.mean_of-floor}
use Rattle.tte_units.proofs.{general_lemmas.{Integers.{whole, whole as natural}, Options.same_next}}
use Rattle.world_law.{specs.{device.Growing.{ActsGrow, order_of_act}, steps.Acting.task_of}}
use Rattle.world_law.proofs.{acts.Acting.{acted, heard_so}}
use Rattle.world_law.proofs.Words
use Words.{◌&&◌, ◌+ℤ◌, ◌+◌, ◌-ℤ◌, ◌<ℤ◌, ◌<◌, ◌==◌, ◌∙◌, ◌∷◌, ◌≡◌, ◌≤ℤ◌, ◌≤◌, ◌⊎◌, Act, AllByRecursion, AreClusters}
use Words.{AsyncClique, Cleared, ClockTask, Cluster, Compressed, Corrected, DeviceId, Entry, IsActOf, IsBefore, IsEntry}
use Words.{IsFromZero, IsInRange, IsPending, KeepsRules, List, MayCall, Moment, Network, Node, Pcf, Point, Ripe, RowId}
use Words.{Some, Summary, SyncClique, Task, Verdict, [], acting, after_correction, after_emission, amount, and_parts}
use Words.{ap, arith, called, cases_Bool, cases_lt, cases_order, correcting, correction_value, dispatching, doing}
use Words.{either_way, emitting, false, inl, inr, int_le, ints, map, negsuc, never_self, next_point, no_cluster}
use Words.{observation_window, own_hearing, plan_of, pos, reading_for, refl, sending, subst, sym, task_place, true}
use Words.{value_of, ℕ, ℤ}
use Rattle.world_law.proofs.rows.{AtHand.{ShowsAt, cycles_apart, value_is}, Dispatching.{apart_so, precise, row_apart}}
use Rattle.run_law.specs.declared.steps.Act.TheVariants as acts

-- ---- how far a cluster reaches, and how far its frame's emission lies behind its opening

-- ---- the middle of numbers that lie from 0 to a bound

abbrev LiesUpTo : ℤ → ℤ → Type 0
LiesUpTo k x = (pos 0 ≤ℤ x) × (x ≤ℤ k)

mean_up_to : (k a b : ℤ) → LiesUpTo k a → LiesUpTo k b → LiesUpTo k (mean_of a b)
mean_up_to k a b x y = grind (arith, mean_of-floor, ints)

last_up_to : (k e f : ℤ) (more : List ℤ) → LiesUpTo k e → AllByRecursion (LiesUpTo k) (f ∷ more) → LiesUpTo k (last_but_one e f more)
last_up_to k e f [] x all = x
last_up_to k e f (g ∷ gs) x all = last_up_to k f g gs all.0 all.1

middle_up_to : (k : ℤ) (xs : List ℤ) → pos 0 ≤ℤ k → AllByRecursion (LiesUpTo k) xs → LiesUpTo k (middle_of xs)
middle_up_to k [] some all = (omega (arith, ints), some)
middle_up_to k (a ∷ []) some all = all.0
middle_up_to k (a ∷ b ∷ []) some all = mean_up_to k a b all.0 all.1.0
middle_up_to k (a ∷ b ∷ c ∷ []) some all = all.1.0
middle_up_to k (a ∷ b ∷ c ∷ d ∷ []) some all = mean_up_to k b c all.1.0 all.1.1.0
middle_up_to k (a ∷ b ∷ c ∷ d ∷ e ∷ []) some all = mean_up_to k b d all.1.0 all.1.1.1.0
middle_up_to k (a ∷ b ∷ c ∷ d ∷ e ∷ f ∷ more) some all = mean_up_to k b (last_but_one e f more) all.1.0 (last_up_to k e f more all.1.1.1.1.0 all.1.1.1.1.1)

-- ---- the points of a cluster

abbrev LiesFrom : ℤ → ℤ → Point → Type 0
LiesFrom from to q = (from ≤ℤ q.reading) × (q.reading ≤ℤ to)

in_window : (q : Point) (cycle : ℕ) (from to : ℤ) → (q.cycle == cycle && (int_le from q.reading && int_le q.reading to)) ≡ true → LiesFrom from to q
in_window q cycle from to pass = grind (arith, and_parts, int_le, ints)

held_from : (cycle : ℕ) (from to : ℤ) (ps : List Point) → AllByRecursion (LiesFrom from to) (of_cycle_within cycle from to ps)
held_from cycle from to [] = tt
held_from cycle from to (p ∷ ps) = grind (arith, cases_Bool, int_le, in_window, (held_from cycle from to ps))

all_of : (P : Point → Type 0) (xs acc qs : List Point) → AllByRecursion P xs → AllByRecursion (λ q. Contains xs q × (has_master acc q.master ≡ false)) qs
    → AllByRecursion P qs
all_of P xs acc [] all each = tt
all_of P xs acc (q ∷ qs) all each = (all_at P xs q all each.0.0, all_of P xs acc qs all each.1)

firsts_all : (P : Point → Type 0) (xs : List Point) → AllByRecursion P xs → AllByRecursion P (firsts xs)
firsts_all P xs all = let c = counts [] xs in subst (AllByRecursion P) (sym c.is) (all_of P xs [] c.more all c.each)

relative_up_to : (from k : ℤ) (qs : List Point) → AllByRecursion (LiesFrom from (from +ℤ k)) qs
    → AllByRecursion (LiesUpTo k) (map (λ x. x -ℤ from) (map (λ q. q.reading) qs))
relative_up_to from k [] all = tt
relative_up_to from k (q ∷ qs) all = ((omega (arith, ints, all.0.0), omega (arith, ints, all.0.1)), relative_up_to from k qs all.1)

-- a list of points that begins with the opener and lies up to the end
middle_from : (o : Point) (k : ℤ) {counts : List Point} {more : List Point} → pos 0 ≤ℤ k → counts ≡ o ∷ more
    → AllByRecursion (LiesFrom o.reading (o.reading +ℤ k)) counts → LiesUpTo k (middle_of (relative (map (λ q. q.reading) counts)))
middle_from o k {more} some is all =
    search (arith, middle_up_to, relative_up_to)

-- a cluster ends one or two windows after its opening, and the middle of its points lies up to there
pub record IsSpan (ow : ℤ) (c : Cluster) : Type 0 where
  pub one : (c.opened +ℤ ow) ≤ℤ c.end
  pub two : c.end ≤ℤ (c.opened +ℤ (pos 2 *ℤ ow))
  pub low : pos 0 ≤ℤ middle_of (relative c.points)
  pub high : (c.opened +ℤ middle_of (relative c.points)) ≤ℤ c.end

first_span : (ow : ℤ) (o : Point) (ps : List Point) → pos 0 ≤ℤ ow → IsSpan ow (cluster_of ow o (o ∷ ps))
first_span ow o ps some =
    let l = o ∷ ps in
    let end = end_of ow o l in
    let least = end_of-least ow o l some in
    let most = ends_soon ow o l some in
    let k = end -ℤ o.reading in
    let whole : end ≡ (o.reading +ℤ k) = omega (arith, ints) in
    let held = of_cycle_within o.cycle o.reading end l in
    let begins = held-start o end ps (omega (arith, ints)) in
    let rest = firsts-start o (of_cycle_within o.cycle o.reading end ps) in
    let all = firsts_all (LiesFrom o.reading (o.reading +ℤ k)) held
    (rw (sym whole) (held_from o.cycle o.reading end l)) in
    let middle = middle_from o k (omega (arith, ints)) (ap firsts begins ∙ rest.1) all in
    let high = middle.1 in
    record { one = least; two = most; low = middle.0; high = omega (arith, ints) }

pub span_of : (ow : ℤ) (ps : List Point) (cs : List Cluster) → pos 0 ≤ℤ ow → AreClusters ow ps cs → (c : Cluster) → Contains cs c → IsSpan ow c
span_of ow [] [] some are c at = absurd (in_none c at)
span_of ow [] (k ∷ ks) some are c at = absurd are
span_of ow (o ∷ ps) [] some are c at = absurd are
span_of ow (o ∷ ps) (k ∷ ks) some are c at =
    elim (in_cases k c ks at) [
      | inl e ↦ subst (IsSpan ow) (sym are.0 ∙ e) (first_span ow o ps some)
      | inr there ↦ span_of ow (beyond k.end ps) ks some are.1 c there
    ]

-- a cluster that opens after another does so behind its end
pub opens_behind : (ow : ℤ) (ps : List Point) (cs : List Cluster) → pos 0 ≤ℤ ow → AreClusters ow ps cs → (c d : Cluster) → Contains cs c → Contains cs d
    → c.opened <ℤ d.opened → c.end <ℤ d.opened
opens_behind ow [] [] some are c d at too lt = absurd (in_none c at)
opens_behind ow [] (k ∷ ks) some are c d at too lt = absurd are
opens_behind ow (o ∷ ps) [] some are c d at too lt = absurd are
opens_behind ow (o ∷ ps) (k ∷ ks) some are c d at too lt =
    let start = first_end ow o ps k some are.0 in
    let all = open_beyond ow k.end (beyond k.end ps) ks are.1 (beyond-all k.end ps) in
    let later : (x : Cluster) → Contains ks x → k.end <ℤ x.opened =
    λ x there. all_at (λ y. k.end <ℤ y.opened) ks x all there in
    elim (in_cases k d ks too) [
      | inl f ↦
          let its : k.opened ≡ d.opened = rw f in
          elim (in_cases k c ks at) [
            | inl e ↦ let mine : k.opened ≡ c.opened = rw e in absurd (omega (arith, ints))
            | inr here ↦ let past = later c here in absurd (omega (arith, ints, start.1))
          ]
      | inr there ↦
          elim (in_cases k c ks at) [
            | inl e ↦ rw e at (later d there)
            | inr here ↦ opens_behind ow (beyond k.end ps) ks some are.1 c d here there lt
          ]
    ]

-- The clusters of a list of points open at different readings.

-- two clusters that open at the same reading are one
pub one_opening : (ow : ℤ) (ps : List Point) (cs : List Cluster) → pos 0 ≤ℤ ow → AreClusters ow ps cs → (c d : Cluster) → Contains cs c → Contains cs d
    → c.opened ≡ d.opened → c ≡ d
one_opening ow [] [] some are c d at too same = absurd (in_none c at)
one_opening ow [] (k ∷ ks) some are c d at too same = absurd are
one_opening ow (o ∷ ps) [] some are c d at too same = absurd are
one_opening ow (o ∷ ps) (k ∷ ks) some are c d at too same =
    let start = first_end ow o ps k some are.0 in
    let all = open_beyond ow k.end (beyond k.end ps) ks are.1 (beyond-all k.end ps) in
    let later : (x : Cluster) → Contains ks x → k.end <ℤ x.opened =
    λ x there. all_at (λ y. k.end <ℤ y.opened) ks x all there in
    elim (in_cases k c ks at) [
      | inl e ↦
          let mine : k.opened ≡ c.opened = rw e in
          elim (in_cases k d ks too) [
            | inl f ↦ sym e ∙ f
            | inr there ↦ let past = later d there in absurd (omega (arith, ints, start.1))
          ]
      | inr here ↦
          elim (in_cases k d ks too) [
            | inl f ↦
                let mine : k.opened ≡ d.opened = rw f in
                let past = later c here in
                absurd (omega (arith, ints, start.1))
            | inr there ↦ one_opening ow (beyond k.end ps) ks some are.1 c d here there same
          ]
    ]

-- so two frames that wait, whose collections opened at the same reading, are one
pub one_waiting : {network : Network} {device : DeviceId} {node : Node} {a b : Compressed}
    → IsWaiting network device node a → IsWaiting network device node b → a.opened.0 ≡ b.opened.0 → a ≡ b
one_waiting {network} {node} {a} {b} w x same =
    let ow = observation_window network in
    let lists = AreClusters-unique ow node.points x.clusters w.clusters x.are w.are in
    let there : Contains w.clusters x.cluster = rw lists at x.there in
    let of_a : a.opened.0 ≡ w.cluster.opened = rw w.is in
    let of_b : b.opened.0 ≡ x.cluster.opened = rw x.is in
    let one = one_opening ow node.points w.clusters (omega (arith, ints)) w.are w.cluster x.cluster w.there there (sym of_a ∙ same ∙ of_b) in
    w.is ∙ ap (compressed ow (pos (amount network.calc))) one ∙ sym x.is

above : (ps : List Point) → AllByRecursion (λ p. pos 0 ≤ℤ p.reading) ps → AllByRecursion (λ p. negsuc 0 <ℤ p.reading) ps
above [] all = tt
above (p ∷ ps) all = (omega (arith, ints, all.0), above ps all.1)

-- a collection of points none of which lies before reading 0 does not open before it
pub from_zero : {network : Network} {device : DeviceId} {node : Node} {a : Compressed}
    → IsFromZero network device node → IsWaiting network device node a → a.opened.0 ≡ pos (amount a.opened)
from_zero {network} {node} {a} zero_on w =
    let all = above node.points (recursion_from_All (λ p. pos 0 ≤ℤ p.reading) node.points (zero_on w.cm)) in
    let past = all_at (λ c. negsuc 0 <ℤ c.opened) w.clusters w.cluster
    (open_beyond (observation_window network) (negsuc 0) node.points w.clusters w.are all) w.there in
    let of_a : a.opened.0 ≡ w.cluster.opened = rw w.is in
    whole a.opened.0 (omega (arith, ints))

-- ---- where a device has acted, each task that is still due at the moment stands behind what it did: the precision

-- it is a number, and less than the cycle
pub whole_precision : {network : Network} → IsInRange network → network.precision.0 ≡ pos (amount network.precision)
whole_precision {network} range =
    let least = range.precision.least in natural network.precision.0 (omega (arith, ints))

pub wide : {network : Network} → IsInRange network → KeepsRules network
    → network.precision.0 ≤ℤ pos (amount network.cycle)
wide range rules =
    let whole = whole_precision range in
    let ends = (rules ScheduleStart 0).ends in
    omega (arith, ints, whole)

-- what is due and has not waited for as long as the precision
due_shows : (v a reading : ℤ) {p : ℤ} (precision : ℕ) → p ≡ pos precision → (v -ℤ a) ≤ℤ reading → reading <ℤ
    ((v -ℤ a) +ℤ p) → ShowsAt (reading +ℤ a) v precision
due_shows v a reading precision whole reached late = record {
  least = omega (arith, ints);
  most =
      omega (arith, ints, whole);
}

-- ---- places

not_less : (k m n : ℕ) → (IsBefore (k ∷ m ∷ []) (k ∷ n ∷ []) → ⊥) → n ≤ m
not_less k m n none = elim (cases_lt m n) [ inl lt ↦ absurd (none (inr (refl, inl lt))) | inr ge ↦ ge ]

row_order : {network : Network} (row : RowId) {entry : Entry} → IsEntry network row.0 entry
    → dispatch_order network row ≡ amount entry.row.offset ∷ entry.row.link.0 ∷ row.0 ∷ []
row_order row is =
    rw is.row

third_of : (a b c d e f : ℕ) → ◌≡◌ (a ∷ b ∷ c ∷ []) (d ∷ e ∷ f ∷ []) → c ≡ f
third_of a b c d e f same = cc

-- of two rows one is dispatched before the other
rows_apart : {network : Network} (row other : RowId) {entry : Entry} (with : Entry) → IsEntry network row.0 entry
    → IsEntry network other.0 with → (row.0 ≡ other.0 → ⊥)
    → (IsBefore (3 ∷ dispatch_order network other) (3 ∷ dispatch_order network row) → ⊥)
    → IsBefore (3 ∷ dispatch_order network row) (3 ∷ dispatch_order network other)
rows_apart row other with is at apart none = grind (arith, either_way, third_of, row_order)

-- ---- what was done is not pending

module _ (network : Network) (device : DeviceId) (node : Node) {new : Node} (moment : Moment) where
  gone_deed : (deed : ClockTask) → new ≡ called moment acting (with_done node deed)
      → IsPending network device new (doing deed) → ⊥
  gone_deed deed is =
      rw is (λ p. p.1.not_yet (Contains-append_right node.done (deed ∷ []) deed (in_head deed [])))

  gone_emission : (sent : Compressed) {heard : Ripe} → heard ≡ own_hearing network device node sent
      → new ≡ called moment acting (after_emission network device node moment sent heard)
      → IsPending network device new (emitting sent) → ⊥
  gone_emission sent so is =
      let whole = is
      ∙ ap (λ r. called moment acting (after_emission network device node moment sent r)) so in
      let there =
      Contains-append_right node.emitted (sent ∷ []) sent (in_head sent []) in
      rw whole (heard_so (plan_of network device) (observation_window network) node.standing.state
      node.standing.adjustment.0
      sent.at.0 sent.cycle sent.members
      (λ r. IsPending network device (called moment acting
      (after_emission network device node moment sent r)) (emitting sent) → ⊥)
      (λ p. p.1.not_yet there)
      (λ p. p.1.not_yet there)
      (λ p. no_cluster (observation_window network) p.1.clusters p.1.cluster p.1.are p.1.there)
      (λ p. p.1.not_yet there))

-- ---- what is behind each act, of the tasks that were pending before

module _ {network : Network} {device : DeviceId} {node : Node} (new : Node) {reading : ℤ} where
  behind_emission : (sent : Compressed) (task : Task) → IsFromZero network device node
      → IsFirstTask network device node reading (emitting sent) → (IsPending network device new (emitting sent) → ⊥)
      → IsPending network device new task → IsPending network device node task
      → reading_for network node task ≤ℤ reading → IsBefore (0 ∷ amount sent.opened ∷ []) (order_of network task)
  behind_emission sent (doing (sending n)) zero_on first gone p q due = inl (omega arith)
  behind_emission sent (doing (correcting n)) zero_on first gone p q due = inl (omega arith)
  behind_emission sent (doing (dispatching row n)) zero_on first gone p q due = inl (omega arith)
  behind_emission sent (emitting other) zero_on first gone p q due =
      let least = not_less 0 (amount other.opened) (amount sent.opened) (first.first (emitting other) q due) in
      elim (cases_lt (amount sent.opened) (amount other.opened)) [
        | inl lt ↦ inr (refl, inl lt)
        | inr most ↦
            let same : amount other.opened ≡ amount sent.opened = omega arith in
            let one = one_waiting q.1 first.pending.1
            (from_zero zero_on q.1 ∙ ap (λ n. pos n) same ∙ sym (from_zero zero_on first.pending.1)) in
            absurd (gone (rw one at p))
      ]

  behind_sending : (cycle : ℕ) (task : Task) → IsFirstTask network device node reading (doing (sending cycle))
      → (IsPending network device new (doing (sending cycle)) → ⊥) → IsPending network device new task
      → IsPending network device node task → reading_for network node task ≤ℤ reading
      → IsBefore (1 ∷ cycle ∷ []) (order_of network task)
  behind_sending cycle (emitting other) first gone p q due =
      absurd (first.first (emitting other) q due (inl (omega arith)))
  behind_sending cycle (doing (correcting n)) first gone p q due = inl (omega arith)
  behind_sending cycle (doing (dispatching row n)) first gone p q due = inl (omega arith)
  behind_sending cycle (doing (sending n)) first gone p q due =
      let least = not_less 1 n cycle (first.first (doing (sending n)) q due) in
      elim (cases_lt cycle n) [
        | inl lt ↦ inr (refl, inl lt)
        | inr most ↦
            let same : n ≡ cycle = omega arith in
            absurd (gone (rw same at p))
      ]

-- one row of two cycles is not due at once
same_row : {network : Network} (node : Node) (reading : ℤ) (row : RowId) (m n : ℕ) → IsInRange network
    → KeepsRules network → m < n
    → reading <ℤ (reading_for network node (doing (dispatching row m)) +ℤ network.precision.0)
    → reading_for network node (doing (dispatching row n)) ≤ℤ reading → ⊥
same_row {network} node reading row m n range rules lt late due =
    let far = cycles_apart m n (amount network.cycle) lt in
    let size = wide range rules in
    omega (arith, ints)

behind_dispatch : {network : Network} {device : DeviceId} {node : Node} (new : Node) {moment : Moment} (row : RowId)
    (cycle : ℕ) (task : Task) → IsInRange network → KeepsRules network → MayCall network device node moment acting
    → IsFirstTask network device node moment.reading.0 (doing (dispatching row cycle))
    → (IsPending network device new (doing (dispatching row cycle)) → ⊥) → IsPending network device new task
    → IsPending network device node task → reading_for network node task ≤ℤ moment.reading.0
    → IsBefore (3 ∷ dispatch_order network row) (order_of network task)
behind_dispatch new row cycle (emitting other) range rules may first gone p q due =
    absurd (first.first (emitting other) q due (inl (omega arith)))
behind_dispatch new row cycle (doing (sending n)) range rules may first gone p q due =
    absurd (first.first (doing (sending n)) q due (inl (omega arith)))
behind_dispatch new row cycle (doing (correcting n)) range rules may first gone p q due =
    absurd (first.first (doing (correcting n)) q due (inl (omega arith)))
behind_dispatch {network} {device} {node} new {moment} row cycle (doing (dispatching other n)) range rules may first
    gone p q due =
    let mine = first.pending.1.own.1 in
    let its = q.1.own.1 in
    rows_apart row other its.entry mine.is its.is apart (first.first (doing (dispatching other n)) q due)
  where
    of_row : IsPending network device new (doing (dispatching row n)) → IsPending network device node (doing (dispatching row n))
        → reading_for network node (doing (dispatching row n)) ≤ℤ moment.reading.0 → (n ≡ cycle) ⊎ ((n < cycle) ⊎ (cycle < n)) → ⊥
    of_row p_row q_row due_row (inl same) = gone (rw same at p_row)
    of_row p_row q_row due_row (inr (inl lt)) =
        same_row node moment.reading.0 row n cycle range rules lt (may.in_time (doing (dispatching row n)) q_row)
        first.due
    of_row p_row q_row due_row (inr (inr gt)) =
        same_row node moment.reading.0 row cycle n range rules gt
        (may.in_time (doing (dispatching row cycle)) first.pending) due_row

    apart : row.0 ≡ other.0 → ⊥
    apart same =
        let one : other ≡ row = rw (sym same) in
        of_row (rw one at p)
        (rw one at q)
        (rw one at due) (cases_order n cycle)

-- ---- nothing is behind a correction

not_ahead : (reading adjustment value : ℤ) → (reading +ℤ adjustment) <ℤ value → (value -ℤ adjustment) ≤ℤ reading → ⊥
not_ahead reading adjustment value ahead due = omega (arith, ints)

module _ (network : Network) (device : DeviceId) (node : Node) (moment : Moment) where
  no_more_points : (heard : Summary) {cycle : ℕ} (n : ℕ) (verdict : Verdict) → next_point node.standing ≡ Some cycle
      → next_point node.standing ≡ Some n → IsPending network device
      (called moment acting (after_correction node moment heard cycle verdict)) (doing (correcting n))
      → reading_for network (called moment acting (after_correction node moment heard cycle verdict))
      (doing (correcting n)) ≤ℤ moment.reading.0 → ⊥
  no_more_points heard n (Corrected by) next own p due =
      not_ahead moment.reading.0 _ (correction_value network n) p.1.ahead due
  no_more_points heard n SyncClique next own p due = integrating_point (node.standing.number + 1) n p.1.own
  no_more_points heard n AsyncClique next own p due = integrating_point (node.standing.number + 1) n p.1.own
  no_more_points heard {cycle} n Cleared next own p due =
      search (arith, same_next, in_head)

  -- a row is not due where a correction is
  no_row_due : (number cycle : ℕ) (row : RowId) → IsInRange network → KeepsRules network
      → MayCall network device node moment acting → IsPending network device node (doing (correcting number))
      → reading_for network node (doing (correcting number)) ≤ℤ moment.reading.0
      → IsPending network device node (doing (dispatching row cycle))
      → reading_for network node (doing (dispatching row cycle)) ≤ℤ moment.reading.0 → ⊥
  no_row_due number cycle row range rules may corrects one dispatches two =
      let frame = dispatches.1.own.1 in
      let a = node.standing.adjustment.0 in
      let whole = whole_precision range in
      let first =
      due_shows (correction_value network number) a moment.reading.0 (amount network.precision)
      whole one
      (may.in_time (doing (correcting number)) corrects) in
      let second =
      due_shows (value_of network (dispatching row cycle)) a moment.reading.0
      (amount network.precision) whole two
      (may.in_time (doing (dispatching row cycle)) dispatches) in
      apart_so (amount network.correction) number cycle (row_apart rules frame.is) (omega arith) (precise range) first
      (rw (value_is row cycle frame.is) at second)

  behind_correction : (heard : Summary) (cycle : ℕ) (verdict : Verdict) (task : Task) → IsInRange network
      → KeepsRules network → MayCall network device node moment acting
      → IsFirstTask network device node moment.reading.0 (doing (correcting cycle))
      → IsPending network device (called moment acting (after_correction node moment heard cycle verdict)) task
      → reading_for network
      (called moment acting (after_correction node moment heard cycle verdict)) task ≤ℤ moment.reading.0
      → IsPending network device node task → reading_for network node task ≤ℤ moment.reading.0 → ⊥
  behind_correction heard cycle verdict (emitting other) range rules may first p due q was =
      first.first (emitting other) q was (inl (omega arith))
  behind_correction heard cycle verdict (doing (sending n)) range rules may first p due q was =
      first.first (doing (sending n)) q was (inl (omega arith))
  behind_correction heard cycle verdict (doing (correcting n)) range rules may first p due q was =
      no_more_points heard n verdict first.pending.1.own q.1.own p due
  behind_correction heard cycle verdict (doing (dispatching row n)) range rules may first p due q was =
      no_row_due cycle n row range rules may first.pending first.due q was

  -- where a device has come to a correction point, nothing more is due at the moment
  pub nothing_behind_correction : (cycle : ℕ) (verdict : Verdict) (new : Node) (task : Task) → IsInRange network
      → KeepsRules network → MayCall network device node moment acting
      → IsActOf network device node moment (acts.Correct cycle verdict) new → IsPending network device new task
      → reading_for network new task ≤ℤ moment.reading.0 → ⊥
  nothing_behind_correction cycle verdict new task range rules may (first, (heard, comes, is)) p due =
      elim (acted network device node moment (acts.Correct cycle verdict) new may (wide range rules)
      (first, (heard, comes, is)) task p) [
        | inr far ↦ omega (arith, ints)
        | inl old ↦
            behind_correction heard cycle verdict task range rules may first
            (rw is at p)
            (rw is at due) old.0
            (rw old.1 at due)
      ]

-- ---- no sending is behind a sending

two_sendings : {network : Network} (node : Node) (reading : ℤ) (m n : ℕ) → IsInRange network → KeepsRules network
    → m < n → reading <ℤ (reading_for network node (doing (sending m)) +ℤ network.precision.0)
    → reading_for network node (doing (sending n)) ≤ℤ reading → ⊥
two_sendings {network} node reading m n range rules lt late due =
    let far = cycles_apart m n (amount network.cycle) lt in
    let size = wide range rules in
    omega (arith, ints)

module _ {network : Network} {device : DeviceId} {node : Node} {moment : Moment} where
  -- where a device has sent the frame of a cycle, that of no other is due at the moment
  pub nothing_sent_behind_sending : (frame : Pcf) (new : Node) (n : ℕ) → IsInRange network → KeepsRules network
      → MayCall network device node moment acting → IsActOf network device node moment (acts.Send frame) new
      → IsPending network device new (doing (sending n))
      → reading_for network new (doing (sending n)) ≤ℤ moment.reading.0 → ⊥
  nothing_sent_behind_sending frame new n range rules may (cycle, first, of_frame, is) p due =
      elim (acted network device node moment (acts.Send frame) new may (wide range rules)
      (cycle, first, of_frame, is) (doing (sending n)) p) [
        | inr far ↦ omega (arith, ints)
        | inl old ↦ was old.0 (rw old.1 at due) (cases_order n cycle)
      ]
    where
      was : IsPending network device node (doing (sending n)) → reading_for network node
          (doing (sending n)) ≤ℤ moment.reading.0
          → (n ≡ cycle) ⊎ ((n < cycle) ⊎ (cycle < n)) → ⊥
      was q here (inl same) =
          gone_deed network device node moment (sending cycle) is
          (rw same at p)
      was q here (inr (inl lt)) =
          two_sendings node moment.reading.0 n cycle range rules lt (may.in_time (doing (sending n)) q) first.due
      was q here (inr (inr gt)) = two_sendings node moment.reading.0 cycle n range rules gt
          (may.in_time (doing (sending cycle)) first.pending) here

  -- ---- all acts

  grown : (act : Act) (new : Node) (task : Task) → IsInRange network → KeepsRules network
      → IsFromZero network device node → MayCall network device node moment acting
      → IsActOf network device node moment act new → IsPending network device new task
      → reading_for network new task ≤ℤ moment.reading.0 → IsPending network device node task
      → reading_for network node task ≤ℤ moment.reading.0
      → IsBefore (order_of_act network act) (order_of network task)
  grown (acts.Emit sent heard) new task range rules zero_on may (first, so, is) p due q was =
      behind_emission new sent task zero_on first
      (gone_emission network device node moment sent so is) p q was
  grown (acts.Send frame) new task range rules zero_on may (cycle, first, of_frame, is) p due q was =
      rw (ap (λ (f : Pcf). f.cycle) of_frame) (behind_sending new cycle task first
      (gone_deed network device node moment (sending cycle) is) p q was)
  grown (acts.Correct cycle verdict) new task range rules zero_on may is p due q was =
      absurd (nothing_behind_correction network device node moment cycle verdict new task range rules may is p due)
  grown (acts.Dispatch row cycle) new task range rules zero_on may (first, is) p due q was =
      behind_dispatch new row cycle task range rules may first
      (gone_deed network device node moment (dispatching row cycle) is) p q was

-- where a device has acted, each task that is still due at the moment stands behind what it did
pub acts_grow : ActsGrow
acts_grow network device node moment act new task range rules zero_on may is p due =
    elim (acted network device node moment act new may (wide range rules) is task p) [
      | inr far ↦ absurd (omega (arith, ints))
      | inl old ↦
          grown act new task range rules zero_on may is p due old.0 (rw old.1 at due)
    ]

-- The order of what a device does is that of the places where its tasks stand.

-- ---- behind in the order is behind in place

-- a correction point, behind which nothing of the device is left
abbrev pub IsCorrection : Task → Type 0
IsCorrection (doing (correcting m)) = Unit {0}
IsCorrection a = ⊥

module _ (network : Network) (t : ℕ) (device : DeviceId) where
  -- a task that is behind another in the order of what a device does stands behind it, but for those behind a correction
  pub place_grows : (a b : Task) → (IsCorrection a → ⊥) → IsBefore (order_of network a) (order_of network b)
      → IsBefore (task_place network t device a) (task_place network t device b)
  place_grows (emitting c) (emitting d) apart (inr (same, inl lt)) = inr (refl, inr (refl, inr (refl, inl lt)))
  place_grows (emitting c) (emitting d) apart (inl lt) = absurd (omega arith)
  place_grows (emitting c) (emitting d) apart (inr (same, inr (e, none))) = absurd none
  place_grows (emitting c) (doing (sending n)) apart b = inr (refl, inl (omega arith))
  place_grows (emitting c) (doing (correcting n)) apart b = inr (refl, inl (omega arith))
  place_grows (emitting c) (doing (dispatching row n)) apart b = inr (refl, inl (omega arith))
  place_grows (doing (sending m)) (doing (sending n)) apart (inr (same, inl lt)) =
      inr (refl, inr (refl, inr (refl, inl lt)))
  place_grows (doing (sending m)) (doing (sending n)) apart (inl lt) = absurd (omega arith)
  place_grows (doing (sending m)) (doing (sending n)) apart (inr (same, inr (e, none))) = absurd none
  place_grows (doing (sending m)) (doing (correcting n)) apart b = inr (refl, inl (omega arith))
  place_grows (doing (sending m)) (doing (dispatching row n)) apart b = inr (refl, inl (omega arith))
  place_grows (doing (dispatching row m)) (doing (dispatching other n)) apart (inl lt) = absurd (omega arith)
  place_grows (doing (dispatching row m)) (doing (dispatching other n)) apart (inr b) =
      inr (refl, inr (refl, inr (refl, b.1)))
  place_grows (doing (correcting m)) b apart before = absurd (apart tt)
  place_grows a b apart before = absurd (grind arith)

  -- what a device that has acted has still to do at the instant stands behind what it did, wherever other devices act in
  -- between
  pub what_is_left : {node : Node} (new : Node) {moment : Moment} (act : Act) (task : Task) → IsInRange network
      → KeepsRules network → IsFromZero network device node → MayCall network device node moment acting
      → IsActOf network device node moment act new → (IsCorrection (task_of act) → ⊥)
      → IsPending network device new task → reading_for network new task ≤ℤ moment.reading.0
      → IsBefore (task_place network t device (task_of act)) (task_place network t device task)
  what_is_left {node} new {moment} (acts.Emit sent heard) task range rules zero may is apart pending due =
      place_grows (emitting sent) task apart (acts_grow network device node moment (acts.Emit sent heard) new task
      range rules zero may is
      pending due)
  what_is_left {node} new {moment} (acts.Send frame) task range rules zero may is apart pending due =
      place_grows (doing (sending frame.cycle)) task apart
      (acts_grow network device node moment (acts.Send frame) new task range rules zero may
      is pending due)
  what_is_left {node} new {moment} (acts.Dispatch row cycle) task range rules zero may is apart pending due =
      place_grows (doing (dispatching row cycle)) task apart
      (acts_grow network device node moment (acts.Dispatch row cycle) new task range
      rules zero may is pending due)
  what_is_left new (acts.Correct cycle verdict) task range rules zero may is apart pending due = absurd (apart tt)

-- ---- what stands before another is before it in the order

-- two frames whose collections open at once
abbrev OpenAtOnce : Task → Task → Type 0
OpenAtOnce (emitting c) (emitting d) = amount c.opened ≡ amount d.opened
OpenAtOnce a b = ⊥

-- of one place in all but what is last, what is before is so there
fourth : (t r d : ℕ) (more ws : List ℕ) → IsBefore (t ∷ r ∷ d ∷ more) (t ∷ r ∷ d ∷ ws) → IsBefore more ws
fourth t r d more ws b = grind arith

module _ (network : Network) (t : ℕ) (device : DeviceId) where
  before_in_order : (a b : Task) → IsBefore (task_place network t device a) (task_place network t device b)
      → IsBefore (order_of network a) (order_of network b) ⊎ OpenAtOnce a b
  before_in_order (emitting c) (emitting d) (inl lt) = absurd (omega arith)
  before_in_order (emitting c) (emitting d) (inr (e, inl lt)) = absurd (omega arith)
  before_in_order (emitting c) (emitting d) (inr (e, inr (f, inl lt))) = absurd (omega arith)
  before_in_order (emitting c) (emitting d) (inr (e, inr (f, inr (g, inl lt)))) = inl (inr (refl, inl lt))
  before_in_order (emitting c) (emitting d) (inr (e, inr (f, inr (g, inr (h, b))))) = inr h
  before_in_order (emitting c) (doing (sending n)) b = inl (inl (omega arith))
  before_in_order (emitting c) (doing (correcting n)) b = inl (inl (omega arith))
  before_in_order (emitting c) (doing (dispatching row n)) b = inl (inl (omega arith))
  before_in_order (doing (sending m)) (doing (sending n)) b =
      elim (fourth t 5 device.0 (m ∷ []) (n ∷ []) b) [ inl lt ↦ inl (inr (refl, inl lt)) | inr x ↦ absurd x.1 ]
  before_in_order (doing (sending m)) (doing (correcting n)) b = inl (inl (omega arith))
  before_in_order (doing (sending m)) (doing (dispatching row n)) b = inl (inl (omega arith))
  before_in_order (doing (correcting m)) (doing (correcting n)) b = absurd (never_self (t ∷ 6 ∷ device.0 ∷ []) b)
  before_in_order (doing (correcting m)) (doing (dispatching row n)) b = inl (inl (omega arith))
  before_in_order (doing (dispatching row m)) (doing (dispatching other n)) b =
      inl (inr (refl, fourth t 6 device.0 (dispatch_order network row) (dispatch_order network other) b))
  before_in_order a b before = absurd (grind arith)

  one_frame : (node : Node) (a b : Task) → IsFromZero network device node → IsPending network device node a
      → IsPending network device node b → OpenAtOnce a b
      → IsBefore (task_place network t device a) (task_place network t device b) → ⊥
  one_frame node (emitting c) (emitting d) zero p q same before =
      let opens = from_zero zero p.1 ∙ ap pos same ∙ sym (from_zero zero q.1) in
      never_self (task_place network t device (emitting d))
      (rw (one_waiting p.1 q.1 opens) at before)
  one_frame node (doing x) b zero p q same before = absurd same
  one_frame node (emitting c) (doing y) zero p q same before = absurd same

  -- so what is due of a device does not stand before what it does first
  pub place_first : {node : Node} {reading : ℤ} {task : Task} (other : Task) → IsFromZero network device node
      → IsFirstTask network device node reading task → IsPending network device node other
      → reading_for network node other ≤ℤ reading → IsBefore (task_place network t device other)
      (task_place network t device task) → ⊥
  place_first {node} {task} other zero first pending due before = search (arith, before_in_order, one_frame)

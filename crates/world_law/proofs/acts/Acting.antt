-- When a device acts by itself it has a task that is due, and after the act the tasks that it had or later ones.
use Rattle.std.proofs.{Common.Contains, lemmas.{Bool.and_from, List.Elements.Contains-append_left}}
use Rattle.compression.specs.Emission.{compressed}
use Rattle.run_law.specs.{control.{Hearing.{heard_enough, last_cycle}, Permanence.ripe_as}}
use Rattle.run_law.specs.{device.States.is_synchronised, scenario.Devices.is_cm}
use Rattle.run_law.specs.machines.{Answers.{with_clique, with_corrected, with_done}}
use Rattle.run_law.specs.machines.{Tasks.{IsDeedOf, IsUndone, IsWaiting}}
use Rattle.sync_state.proofs.VerdictLemmas.{no_longer, no_point}
use Rattle.sync_state.{specs.{Calls.state_by, declared.plan.SyncPlan.SyncPlan, membership.Members.count_of}}
use Rattle.tte_units.{proofs.general_lemmas.Integers.{int_le-from, int_le-is, int_lt-is}}
use Rattle.tte_units.{specs.declared.frames.members.Members.Members}
use Rattle.world_law.{specs.{device.Acted.IsCarried, source.Sources.task_numbers}}
use Rattle.world_law.proofs.Words
use Words.{if◌then◌else◌, ◌&&◌, ◌*◌, ◌++◌, ◌+ℤ◌, ◌+◌, ◌-ℤ◌, ◌-◌, ◌<ℤ◌, ◌<◌, ◌∙◌, ◌∷◌, ◌≡◌, ◌≤ℤ◌, ◌≤◌, Act, AreClusters}
use Words.{AsyncClique, Bool, Cleared, ClockTask, Cluster, Compressed, Corrected, DeviceId, Emits, Happening, HasDone}
use Words.{HasSent, HasTaskAt, Integrating, IsActOf, IsAtCorrection, IsLeft, IsPending, IsStill, Joining, Judgement}
use Words.{List, MayCall, Moment, Network, Node, Off, Reaches, Ripe, Scenario, Sends, Some, State, Summary, SyncClique}
use Words.{Synchronised, Task, Units, Verdict, [], acting, adjustment_before, after_correction, after_emission, amount}
use Words.{and_parts, ap, arith, both_ways, called, cases_Bool, changed_at, correcting, correction_value, dispatching}
use Words.{doing, earlier, emitting, false, filter, has_cleared, heard_as, inl, inr, int_lt, ints, is_broken}
use Words.{is_integration_cycle, is_timed, is_turned_on_at, last_or, local_at_change, nat_le, never_both, next_cycle}
use Words.{next_point, no_cluster, observation_window, own_hearing, plan_of, point_in, pos, recorded_cycle, refl}
use Words.{rows_place, sending, state_before, subst, sym, task_place, true, value_of, ℕ, ℤ}
use Rattle.world_law.proofs.devices.Unmoved
use Unmoved.{adjustment_still, change_still, cleared_still, local_still, next_still, not_turned_on, state_still}
use Rattle.run_law.specs.declared.steps.Act.TheVariants as acts
use Rattle.run_law.specs.declared.steps.Ripe.TheVariants as ripe

-- ---- after an act a device has the tasks that it had before, and such as are for later readings

-- a device that stands as another but for what it has done and how it was called, and has taken the same frames, has
-- the same deeds before it
pub record IsAlike (node new : Node) : Type 0 where
  pub standing : new.standing ≡ node.standing
  pub broken : new.broken ≡ node.broken
  pub changed : new.changed ≡ node.changed
  pub taken : new.taken ≡ node.taken
  pub done : (deed : ClockTask) → Contains node.done deed → Contains new.done deed

pub deed_alike : (network : Network) (device : DeviceId) {node new : Node} (deed : ClockTask) → IsAlike node new
    → IsDeedOf network device new deed → IsDeedOf network device node deed
deed_alike network device (sending cycle) a own =
    (own.0, sym (rw a.standing) ∙ own.1, own.2)
deed_alike network device (correcting cycle) a own = sym (ap next_point a.standing) ∙ own
deed_alike network device (dispatching row cycle) a own = grind (arith, last_or, filter, value_of, dispatching)

module _ (network : Network) (device : DeviceId) (node new : Node) where
  pub undone_alike : {deed : ClockTask} → IsAlike node new → IsUndone network device new deed
      → IsUndone network device node deed
  undone_alike a u = grind (arith, deed_alike, value_of)

  -- a device that has emitted no less, of the same points, has the same frames before it
  pub waiting_alike : {sent : Compressed} → new.points ≡ node.points
      → ((c : Compressed) → Contains node.emitted c → Contains new.emitted c) → IsWaiting network device new sent
      → IsWaiting network device node sent
  waiting_alike points emitted w = grind (arith, observation_window)

  pending_alike : (moment : Moment) (task : Task) → IsAlike node new → new.points ≡ node.points
      → ((c : Compressed) → Contains node.emitted c → Contains new.emitted c) → IsPending network device new task
      → IsCarried network device node new moment task
  pending_alike moment (emitting sent) a points emitted p =
      inl ((sym a.broken ∙ p.0, waiting_alike points emitted p.1), refl)
  pending_alike moment (doing deed) a points emitted p =
      inl ((sym a.broken ∙ p.0, undone_alike a p.1), rw a.standing)

-- ---- the device begins anew

pub beyond_it : (changed reading adjustment value : ℤ) → changed ≡ (reading +ℤ adjustment) → changed <ℤ value → reading <ℤ (value -ℤ adjustment)
beyond_it changed reading adjustment value is lt = omega (arith, ints)

-- where its clock showed this much after the change, and nothing is left of its points, all that it has before it is
-- for later readings
anew : (network : Network) (device : DeviceId) (node new : Node) (moment : Moment) (task : Task) → new.changed ≡ (moment.reading.0 +ℤ new.standing.adjustment.0)
    → new.points ≡ [] → IsPending network device new task → IsCarried network device node new moment task
anew network device node new moment (emitting sent) changed none p =
    absurd (no_cluster (observation_window network) p.1.clusters p.1.cluster
    (rw none at p.1.are) p.1.there)
anew network device node new moment (doing deed) changed none p = inr (beyond_it _ _ _ _ changed p.1.ahead)

-- ---- the acts

pub done_more : (node : Node) (moment : Moment) (deed : ClockTask) → IsAlike node (called moment acting (with_done node deed))
done_more node moment deed = grind (arith, Contains-append_left)

after_deed : (network : Network) (device : DeviceId) (node : Node) {new : Node} (moment : Moment) (deed : ClockTask)
    (task : Task)
    → new ≡ called moment acting (with_done node deed) → IsPending network device new task → IsCarried network device node new moment task
after_deed network device node moment deed task is p =
    (rw (sym is) at (pending_alike network device node (called moment acting (with_done node deed)) moment task
    (done_more node moment deed) refl (λ c there. there))) p

-- a device hears a frame as one of four things
pub heard_so : (plan : SyncPlan) (precision : ℤ) (state : State) (adjustment point : ℤ) (cycle : ℕ) (members : Members) (P : Ripe → Type 0) → P ripe.Within
    → P ripe.Outside → P ripe.Integrates → P ripe.Ignored → P (ripe_as (heard_as plan precision state adjustment point cycle members))
heard_so plan precision Off adjustment point cycle members P within outside integrates ignored = ignored
heard_so plan precision Integrating adjustment point cycle members P within outside integrates ignored =
    elim (nat_le plan.threshold (count_of members) && nat_le cycle last_cycle) as (λ b. P (ripe_as (heard_enough b))) [ true ↦ integrates | false ↦ ignored ]
heard_so plan precision Joining adjustment point cycle members P within outside integrates ignored =
    search arith
heard_so plan precision Synchronised adjustment point cycle members P within outside integrates ignored =
    search arith

emitted_more : (node : Node) (sent c : Compressed) → Contains node.emitted c → Contains (node.emitted ++ sent ∷ []) c
emitted_more node sent c there = Contains-append_left node.emitted (sent ∷ []) c there

after_emission_by : (network : Network) (device : DeviceId) (node : Node) (moment : Moment) (sent : Compressed) (task : Task)
    → IsPending network device (called moment acting (after_emission network device node moment sent (own_hearing network device node sent))) task
    → IsCarried network device node (called moment acting (after_emission network device node moment sent (own_hearing network device node sent))) moment task
after_emission_by network device node moment sent task =
    heard_so (plan_of network device) (observation_window network) node.standing.state node.standing.adjustment.0 sent.at.0 sent.cycle sent.members
    (λ heard. IsPending network device (called moment acting (after_emission network device node moment sent heard)) task
    → IsCarried network device node (called moment acting (after_emission network device node moment sent heard)) moment task)
    (pending_alike network device node (called moment acting (after_emission network device node moment sent ripe.Within)) moment task
    (record { standing = refl; broken = refl; changed = refl; taken = refl; done = λ d there. there }) refl (emitted_more node sent))
    (pending_alike network device node (called moment acting (after_emission network device node moment sent ripe.Outside)) moment task
    (record { standing = refl; broken = refl; changed = refl; taken = refl; done = λ d there. there }) refl (emitted_more node sent))
    (anew network device node (called moment acting (after_emission network device node moment sent ripe.Integrates)) moment task refl refl)
    (pending_alike network device node (called moment acting (after_emission network device node moment sent ripe.Ignored)) moment task
    (record { standing = refl; broken = refl; changed = refl; taken = refl; done = λ d there. there }) refl (emitted_more node sent))

-- ---- the correction points

kept_waiting : (network : Network) (device : DeviceId) (node : Node) (b : Bool) {sent : Compressed}
    (cm : is_cm network device ≡ true) (clusters : List Cluster)
    → AreClusters (observation_window network) (if b then node.points else []) clusters → (cluster : Cluster) → Contains clusters cluster
    → sent ≡ compressed (observation_window network) (pos (amount network.calc)) cluster → (Contains (if b then node.emitted else []) sent → ⊥)
    → IsWaiting network device node sent
kept_waiting network device node true cm clusters are cluster there is not_yet = grind arith
kept_waiting network device node false cm clusters are cluster there is not_yet =
    absurd (no_cluster (observation_window network) clusters cluster are there)

one_more : (state : State) (number : ℕ) {cycle n : ℕ} → point_in state number ≡ Some cycle → point_in state
    (number + 1) ≡ Some n → n ≡ cycle + 1
one_more Off number e f = absurd cc
one_more Integrating number e f = absurd cc
one_more Joining number {cycle} {n} e f = let a : number ≡ cycle = cc in let b : number + 1 ≡ n = cc in omega arith
one_more Synchronised number {cycle} {n} e f = let a : number ≡ cycle = cc in let b : number + 1 ≡ n = cc in omega arith

pub next_turn : (r c cycle n : ℕ) (a reading precision : ℤ) → n ≡ cycle + 1 → reading <ℤ ((pos (cycle * r + c) -ℤ a) +ℤ precision) → precision ≤ℤ pos r
    → reading <ℤ (pos (n * r + c) -ℤ a)
next_turn r c cycle n a reading precision is lt wide = let more : n * r ≡ (cycle + 1) * r = rw is in omega (arith, ints)

module _ (network : Network) (device : DeviceId) (node : Node) (moment : Moment) where
  corrected_by : (heard : Summary) (by : Units) (task : Task)
      → IsPending network device (called moment acting (with_corrected node moment heard by)) task
      → IsCarried network device node (called moment acting (with_corrected node moment heard by)) moment task
  corrected_by heard by (doing deed) p = inr (beyond_it _ _ _ _ refl p.1.ahead)
  corrected_by heard by (emitting sent) p =
      inl (
        (
          p.0,
          kept_waiting network device node (is_synchronised node.standing.state) p.1.cm p.1.clusters p.1.are
              p.1.cluster p.1.there p.1.is
              p.1.not_yet,
        ),
        refl,
      )

  clique_by : (heard : Summary) (verdict : Verdict) (task : Task) → state_by node.standing.state verdict ≡ Integrating
      → IsPending network device (called moment acting (with_clique node heard verdict)) task
      → IsCarried network device node (called moment acting (with_clique node heard verdict)) moment task
  clique_by heard verdict (emitting sent) lost p =
      absurd (no_cluster (observation_window network) p.1.clusters p.1.cluster p.1.are p.1.there)
  clique_by heard verdict (doing (sending cycle)) lost p = absurd (no_longer (sym lost ∙ p.1.own.1))
  clique_by heard verdict (doing (dispatching row cycle)) lost p = absurd (no_longer (sym lost ∙ p.1.own.0))
  clique_by heard verdict (doing (correcting cycle)) lost p = absurd (no_point _ _ _ lost p.1.own)

  cleared_by : (heard : Summary) {cycle : ℕ} (task : Task) → next_point node.standing ≡ Some cycle
      → moment.reading.0 <ℤ ((correction_value network cycle -ℤ node.standing.adjustment.0) +ℤ network.precision.0)
      → network.precision.0 ≤ℤ pos (amount network.cycle)
      → IsPending network device (called moment acting (after_correction node moment heard cycle Cleared)) task
      → IsCarried network device node
      (called moment acting (after_correction node moment heard cycle Cleared)) moment task
  cleared_by heard (emitting sent) next in_time wide p =
      search arith
  cleared_by heard {cycle} (doing (sending n)) next in_time wide p =
      inl (
        (
          p.0,
          record { own = p.1.own; ahead = p.1.ahead; not_yet = λ there. p.1.not_yet (Contains-append_left node.done (correcting cycle ∷ []) (sending n) there) },
        ),
        refl,
      )
  cleared_by heard {cycle} (doing (dispatching row n)) next in_time wide p =
      inl (
        (
          p.0,
          record {
            own = (
              p.1.own.0,
              record {
                entry = p.1.own.1.entry;
                is = p.1.own.1.is;
                leaves = p.1.own.1.leaves;
                occurs = p.1.own.1.occurs;
                has = elim p.1.own.1.has [ inl sender ↦ inl sender | inr took ↦ inr (took.0, record { last = took.1.last }) ];
              },
            );
            ahead = p.1.ahead;
            not_yet = λ there. p.1.not_yet (Contains-append_left node.done (correcting cycle ∷ [])
                (dispatching row n) there);
          },
        ),
        refl,
      )
  cleared_by heard {cycle} (doing (correcting n)) next in_time wide p =
      search (arith, next_turn, one_more)

  after_point : (heard : Summary) {cycle : ℕ} (verdict : Verdict) (task : Task)
      → next_point node.standing ≡ Some cycle → moment.reading.0 <ℤ
      ((correction_value network cycle -ℤ node.standing.adjustment.0) +ℤ network.precision.0)
      → network.precision.0 ≤ℤ pos (amount network.cycle)
      → IsPending network device (called moment acting (after_correction node moment heard cycle verdict)) task
      → IsCarried network device node
      (called moment acting (after_correction node moment heard cycle verdict)) moment task
  after_point heard (Corrected by) task next in_time wide p = corrected_by heard by task p
  after_point heard SyncClique task next in_time wide p = clique_by heard SyncClique task refl p
  after_point heard AsyncClique task next in_time wide p = clique_by heard AsyncClique task refl p
  after_point heard {cycle} Cleared task next in_time wide p = cleared_by heard task next in_time wide p

  -- after an act a device has the tasks that it had before, and such as are for later readings
  pub acted : (act : Act) (new : Node) → MayCall network device node moment acting
      → network.precision.0 ≤ℤ pos (amount network.cycle) → IsActOf network device node moment act new
      → (task : Task) → IsPending network device new task → IsCarried network device node new moment task
  acted (acts.Send frame) new may wide (cycle, first, of_frame, is) task p =
      after_deed network device node moment (sending cycle) task is p
  acted (acts.Dispatch row cycle) new may wide (first, is) task p =
      after_deed network device node moment (dispatching row cycle) task is p
  acted (acts.Emit sent heard) new may wide (first, so, is) task p =
      let whole = is
      ∙ ap (λ r. called moment acting (after_emission network device node moment sent r)) so in
      (rw (sym whole) at (after_emission_by network device node moment sent task)) p
  acted (acts.Correct cycle verdict) new may wide (first, (heard, comes, is)) task p =
      (rw (sym is) at (after_point heard verdict task first.pending.1.own
      (may.in_time (doing (correcting cycle)) first.pending) wide)) p

-- ---- when a device acts by itself, it has a task that is due

-- nothing moves the device from the time on, up to another: no record, and no event
pub record IsUnmoved (s : Scenario) (hs : List Happening) (device : DeviceId) (t later : ℕ) : Type 0 where
  pub le : t ≤ later
  pub still : IsStill hs device t later
  pub not_on : is_turned_on_at s device t ≡ false
  pub not_on_later : is_turned_on_at s device later ≡ false
  pub not_broken : is_broken s device later ≡ is_broken s device t
  pub never_falls : (x y : ℕ) → x ≤ y → s.reading device x ≤ s.reading device y

-- its clock comes to the value, as the node counts
pub record Comes (s : Scenario) (hs : List Happening) (device : DeviceId) (t later : ℕ) (node : Node) (v : ℤ) : Type 0 where
  pub ahead : node.changed <ℤ v
  pub reached : (v -ℤ node.standing.adjustment.0) ≤ℤ pos (s.reading device later)
  pub not_before : (x : ℕ) → changed_at hs device t ≤ x → x < later → pos (s.reading device x) <ℤ (v -ℤ node.standing.adjustment.0)

module _ {s : Scenario} {hs : List Happening} {device : DeviceId} {t later : ℕ} {node : Node} where
  pub comes_so : {v : ℤ} → IsUnmoved s hs device t later → IsLeft s hs device t node → Reaches s hs device v later
      → Comes s hs device t later node v
  comes_so {v} u left r =
      let adjusted =
      adjustment_still s hs device t later u.le u.still
      ∙ sym left.counted.adjustment in
      let local =
      local_still s hs device t later u.le u.still ∙ sym left.counted.changed in
      let change = change_still hs device t later u.le u.still in
      record {
        ahead = rw local at r.below;
        reached = rw adjusted at r.reach.reached;
        not_before = λ x from lt.
            rw adjusted at (r.reach.not_before x (omega (arith, ints)) (omega (arith, ints)));
      }

  -- a deed of the device to whose value its clock comes is to be done
  pub undone_so : (deed : ClockTask) → t ≤ later → HasDone s hs device t node → IsDeedOf s.network device node deed
      → Comes s hs device t later node (value_of s.network deed) → IsUndone s.network device node deed
  undone_so deed le has own c = record {
    own = own;
    ahead = c.ahead;
    not_yet = λ there.
        let x = has.done deed there in
        never_both _ _ (c.not_before x.0 x.1 (omega (arith, x.2))) x.3;
  }

  -- ---- a master that sends

  pub sending_task : {cycle : ℕ} → IsUnmoved s hs device t later → IsLeft s hs device t node
      → HasDone s hs device t node → Sends s hs device later cycle
      → HasTaskAt s device node later (task_place s.network later device (doing (sending cycle)))
  sending_task {cycle} u left has sent =
      let c = comes_so u left sent.reached in
      let state =
      left.state ∙ not_turned_on s hs device t u.not_on ∙ sym (state_still s hs device t later u.le u.still)
      ∙ sym (not_turned_on s hs device later u.not_on_later) ∙ sent.up.synchronised in (
        doing (sending cycle),
        (
          left.counted.broken ∙ sym u.not_broken ∙ sent.up.correct,
          undone_so (sending cycle) u.le has (sent.master, state, sent.begun) c,
        ),
        c.reached,
        refl,
      )

  -- ---- a compression master that emits

  pub emitting_task : {sent : Compressed} {verdict : Judgement} → IsUnmoved s hs device t later
      → IsLeft s hs device t node → HasSent s device t node → Emits s hs device later sent verdict
      → HasTaskAt s device node later (task_place s.network later device (emitting sent))
  emitting_task {sent} u left has e = (
    emitting sent,
    (
      left.counted.broken ∙ sym u.not_broken ∙ e.correct,
      record {
        cm = e.cm;
        clusters = e.clusters;
        are = rw (left.points e.cm) e.are;
        cluster = e.cluster;
        there = e.there;
        is = e.is;
        not_yet =
            λ there. let x = has.sent sent there in let le = u.le in never_both _ _
            (e.reached.not_before x.0 (omega (arith, ints)) (omega (arith, ints, x.1))) x.2;
      },
    ),
    e.reached.reached,
    refl,
  )

-- ---- a correction point

pub point_number : (state : State) (number cycle : ℕ) → point_in state number ≡ Some cycle → (is_timed state ≡ true) × (number ≡ cycle)
point_number Off number cycle e = absurd cc
point_number Integrating number cycle e = absurd cc
point_number Joining number cycle e = (refl, cc)
point_number Synchronised number cycle e = (refl, cc)

pub point_of_timed : (state : State) (number : ℕ) → is_timed state ≡ true → point_in state number ≡ Some number
point_of_timed Off number e = absurd cc
point_of_timed Integrating number e = absurd cc
point_of_timed Joining number e = refl
point_of_timed Synchronised number e = refl

come_back : (v a : ℤ) (r m : ℕ) → v ≤ℤ (pos r +ℤ a) → r ≤ m → (v -ℤ a) ≤ℤ pos m
come_back v a r m le fell = omega (arith, ints)

come_there : (v a : ℤ) (r m : ℕ) → (v -ℤ a) ≤ℤ pos r → r ≤ m → v ≤ℤ (pos m +ℤ a)
come_there v a r m le fell = omega (arith, ints)

before_one : (t later : ℕ) → t ≤ later → t - 1 ≤ later - 1
before_one t later le = omega arith

onward : (v a : ℤ) (r m : ℕ) → v ≤ℤ (pos r +ℤ a) → r ≤ m → v ≤ℤ (pos m +ℤ a)
onward v a r m le fell = omega (arith, ints)

-- what a clock had come to at an earlier time, it had come to before this one
cleared_by_then : {s : Scenario} {hs : List Happening} {device : DeviceId} {t : ℕ} {node : Node} (x : ℕ)
    → IsLeft s hs device t node → is_timed node.standing.state ≡ true
    → node.standing.number ≡ recorded_cycle (earlier t hs) device → is_integration_cycle (earlier t hs) device ≡ true
    → int_lt (local_at_change s hs device t) (correction_value s.network (recorded_cycle (earlier t hs) device))
    ≡ true → ((a b : ℕ) → a ≤ b → s.reading device a ≤ s.reading device b) → x < t
    → (correction_value s.network node.standing.number -ℤ node.standing.adjustment.0) ≤ℤ pos (s.reading device x)
    → has_cleared s hs device t t ≡ true
cleared_by_then {s} {hs} {device} {t} {node} x left timed number joining ahead never_falls lt at =
    let fell = never_falls x (t - 1) (omega arith) in
    let there =
    come_there (correction_value s.network node.standing.number) node.standing.adjustment.0 (s.reading device x) (s.reading device (t - 1)) at fell in
    and_from _ _ joining (and_from _ _ ahead (int_le-from _ _ (rw left.counted.adjustment at (rw number at there))))

-- what a device has cleared stays so
pub cleared_on : {s : Scenario} {hs : List Happening} {device : DeviceId} {t later : ℕ}
    → IsUnmoved s hs device t later → has_cleared s hs device t t ≡ true → has_cleared s hs device later later ≡ true
cleared_on {s} {hs} {device} {t} {later} u did =
    let joining = and_parts (is_integration_cycle (earlier t hs) device) _ did in
    let came = and_parts (int_lt (local_at_change s hs device t) (correction_value s.network (recorded_cycle (earlier t hs) device))) _ joining.1 in
    let there : correction_value s.network (recorded_cycle (earlier t hs) device) ≤ℤ (pos (s.reading device (t - 1)) +ℤ (adjustment_before s hs device t).0) =
    int_le-is _ _ came.1 in
    let fell = u.never_falls (t - 1) (later - 1) (before_one t later u.le) in
    cleared_still s hs device t later later u.le u.still
    ∙ and_from _ _ joining.0 (and_from _ _ came.0 (int_le-from _ _ (onward _ (adjustment_before s hs device t).0 _ _ there fell)))

module _ {s : Scenario} {hs : List Happening} {device : DeviceId} {t later : ℕ} {node : Node}
    (u : IsUnmoved s hs device t later) (left : IsLeft s hs device t node) where
  -- a device with a next correction point, whose clock had come to it before a time, has a task that was due before it
  pub had_come_by : ((cycle : ℕ) → IsDeedOf s.network device node (correcting cycle)
      → node.changed <ℤ correction_value s.network cycle → Contains node.done (correcting cycle)
      → (x : ℕ) × (changed_at hs device t ≤ x) × (x < t)
      × ((correction_value s.network cycle -ℤ node.standing.adjustment.0) ≤ℤ pos (s.reading device x)))
      → is_timed node.standing.state ≡ true → has_cleared s hs device t t ≡ false
      → has_cleared s hs device later later ≡ true → node.broken ≡ false
      → HasTaskAt s device node (later - 1) (rows_place (later - 1) device)
  had_come_by has timed not_yet cleared sound =
      let moved =
      sym (cleared_still s hs device t later later u.le u.still) ∙ cleared in
      let joining = and_parts (is_integration_cycle (earlier t hs) device) _ moved in
      let came = and_parts (int_lt (local_at_change s hs device t)
      (correction_value s.network (recorded_cycle (earlier t hs) device))) _ joining.1 in
      let number = left.counted.number timed
      ∙ (rw not_yet) in
      let ahead =
      int_lt-is _ _ came.0 in
      let there = int_le-is _ _ came.1 in
      let v = correction_value s.network node.standing.number in
      let same : correction_value s.network (recorded_cycle (earlier t hs) device) ≡ v =
      ap (correction_value s.network) (sym number) in
      let before : node.changed <ℤ v = subst (λ z. z <ℤ v) (sym left.counted.changed)
      (subst (λ z. local_at_change s hs device t <ℤ z) same ahead) in
      let reached : v ≤ℤ (pos (s.reading device (later - 1)) +ℤ node.standing.adjustment.0) =
      subst (λ a. v ≤ℤ (pos (s.reading device (later - 1)) +ℤ a.0)) (sym left.counted.adjustment)
      (subst (λ z. z ≤ℤ (pos (s.reading device (later - 1)) +ℤ (adjustment_before s hs device t).0)) same
      there) in
      let own = point_of_timed node.standing.state node.standing.number timed in (
        doing (correcting node.standing.number),
        (
          sound,
          record { own = own; ahead = before; not_yet = grind (arith, both_ways, cleared_by_then, joining.0, came.0) },
        ),
        come_back v node.standing.adjustment.0 (s.reading device (later - 1)) (s.reading device (later - 1)) reached
            (omega arith),
        refl,
      )

  -- the same of what it has done before the time
  pub had_come_before : HasDone s hs device t node → is_timed node.standing.state ≡ true
      → has_cleared s hs device t t ≡ false → has_cleared s hs device later later ≡ true → node.broken ≡ false
      → HasTaskAt s device node (later - 1) (rows_place (later - 1) device)
  had_come_before has timed not_yet cleared sound =
      had_come_by (λ cycle own ahead there. has.done (correcting cycle) there) timed not_yet cleared sound

later_still : (z : ℤ) (r m : ℕ) → z ≤ℤ pos r → r ≤ m → z ≤ℤ pos m
later_still z r m le fell = omega (arith, ints)

module _ {s : Scenario} {hs : List Happening} {device : DeviceId} {t later : ℕ} {node : Node} where
  had_come_task : IsUnmoved s hs device t later → IsLeft s hs device t node → HasDone s hs device t node
      → is_timed node.standing.state ≡ true → has_cleared s hs device t t ≡ false
      → has_cleared s hs device later later ≡ true → node.broken ≡ false
      → HasTaskAt s device node later (rows_place later device)
  had_come_task u left has timed not_yet cleared sound =
      let x = had_come_before u left has timed not_yet cleared sound in
      let at : task_numbers s.network device x.0 ≡ 6 ∷ device.0 ∷ [] = cc in (
        x.0,
        x.1,
        later_still _ (s.reading device (later - 1)) (s.reading device later) x.2
            (u.never_falls (later - 1) later (omega arith)),
        rw at,
      )

  -- a device that comes to its correction point has a task that is due
  pub correcting_task : {cycle : ℕ} → IsUnmoved s hs device t later → IsLeft s hs device t node
      → HasDone s hs device t node → IsAtCorrection s hs later device cycle
      → HasTaskAt s device node later (rows_place later device)
  correcting_task {cycle} u left has c =
      let point = point_number (state_before s hs device later) (next_cycle s hs device later) cycle c.next in
      let state =
      left.state ∙ not_turned_on s hs device t u.not_on ∙ sym (state_still s hs device t later u.le u.still)
      ∙ sym (not_turned_on s hs device later u.not_on_later) in
      let timed : is_timed node.standing.state ≡ true = ap is_timed state ∙ point.0 in
      let sound = left.counted.broken ∙ sym u.not_broken ∙ c.correct in
      let here = comes_so u left c.reached in
      let as_before : has_cleared s hs device later later ≡ has_cleared s hs device t t → HasTaskAt s device node
      later (rows_place later device) = λ flag.
      let number =
      left.counted.number timed ∙ sym (next_still s hs device t later u.le u.still flag) ∙ point.1 in
      let own =
      point_of_timed node.standing.state node.standing.number timed
      ∙ (rw number) in
      (doing (correcting cycle), (sound, undone_so (correcting cycle) u.le has own here), here.reached, refl) in
      elim (cases_Bool (has_cleared s hs device t t)) [
        | inl did ↦ as_before (cleared_on u did ∙ sym did)
        | inr not_yet ↦
            elim (cases_Bool (has_cleared s hs device later later)) [
              | inl cleared ↦ had_come_task u left has timed not_yet cleared sound
              | inr still_not ↦ as_before (still_not ∙ sym not_yet)
            ]
      ]

-- The timers of devices, and what they do first, are right and stay so.
use Rattle.std.proofs.Common.{◌≢◌, slice_get}
use Rattle.device_rules.{proofs.FirstKinds.first_kind_of}
use Rattle.device_rules.specs.{FirstKinds.{IsFirstKind, kind_of, order_of_kind}}
use Rattle.device_rules.specs.declared.first_kind.TaskKind.{TaskKind}
use Rattle.device_rules.specs.declared.first_kind.TaskKind.{TheVariants.{Correction, Dispatch, Emission, Sending}}
use Rattle.drift_world.proofs.{Signals.sized_so}
use Rattle.drift_world.proofs.Words
use Words.{if◌then◌else◌, ◌*◌, ◌+◌, ◌<◌, ◌==◌, ◌^◌, ◌↔◌, ◌∙◌, ◌∷◌, ◌≡◌, ◌≤ℤ◌, ◌≤◌, ◌⊎◌, AreTimed, Bool, ChangesOnly}
use Words.{DeviceId, IfSome, IsBefore, IsIn, IsOfNetwork, IsRunning, IsSized, IsSomeAnd, IsTimed, Kept, List, Meaning}
use Words.{Moment, Network, Node, None, Option, Some, Units, Waits, What, [], amount, ap, arith, breaks_at, cases_eq}
use Words.{cases_lt, clock_after, eqb-true, false, false_from_ne_true, filter, in_filter, inl, inr, ints, keeps, length}
use Words.{never, not, option_map_or, pos, refl, same_Some, subst, sym, true, ℕ, ℤ}
use Rattle.drift_world.specs.{Parts.{IsFirstPart, IsNoSooner, part_of, part_place, part_rank}}
use Rattle.drift_world.specs.{declared.{part.Part.{Part, TheVariants.{Emissions, Late, Sendings}}, state.State.State}}
use Rattle.drift_world.specs.Stepping
use Stepping.{ActsAt, IsActTimed, IsRekeyed, IsRipeAt, IsRipeTimed, IsSlotBy, MayRekey, SetsOnly}
use Rattle.net_plan.specs.Ranges.{IsInRange}
use Rattle.run_law.specs.{declared.steps.Act.Act}
use Rattle.run_law.specs.machines.{Answers.IsActOf, Calls.{HasDue, MayCall}}
use Rattle.run_law.specs.machines.{Nodes.{acting, correcting, dispatching, sending}}
use Rattle.run_law.specs.machines.{Tasks.{IsDueReading, Task, doing, emitting, order_of}}
use Rattle.schedule_tables.specs.Rules.{KeepsRules}
use Rattle.world_law.{proofs.growing.Growing.acts_grow}
use Rattle.world_law.specs.{device.Growing.{IsFromZero, order_of_act}, source.Sources.task_place}
use Rattle.world_law.specs.{steps.Acting.{place_of_act, rank_of_act}}
use Rattle.world_state.specs.{Applying.{IsElsewhere, device_in}, Timing.{IsLeastPoint, IsTimeFor}, timers.Times.AreFrom}
use Rattle.net_plan.specs.declared.event.What.TheVariants as events
use Rattle.run_law.specs.declared.steps.Act.TheVariants as acts

-- ---- what a device does first of all that is due, and of which part it is: parts by kinds

-- no part is earlier than emissions, or later than what comes last
pub part_least : (part : Part) → 4 ≤ part_rank part
part_least Emissions = let le : 4 ≤ 4 = omega arith in le
part_least Sendings = let le : 4 ≤ 5 = omega arith in le
part_least Late = let le : 4 ≤ 6 = omega arith in le

pub part_most : (part : Part) → part_rank part ≤ 6
part_most Emissions = let le : 4 ≤ 6 = omega arith in le
part_most Sendings = let le : 5 ≤ 6 = omega arith in le
part_most Late = let le : 6 ≤ 6 = omega arith in le

-- a rank is of one part
pub one_rank : (a b : Part) → part_rank a ≡ part_rank b → a ≡ b
one_rank Emissions Emissions e = refl
one_rank Sendings Sendings e = refl
one_rank Late Late e = refl
one_rank Emissions Sendings e = absurd (let no = e in omega arith)
one_rank Emissions Late e = absurd (let no = e in omega arith)
one_rank Sendings Emissions e = absurd (let no = e in omega arith)
one_rank Sendings Late e = absurd (let no = e in omega arith)
one_rank Late Emissions e = absurd (let no = e in omega arith)
one_rank Late Sendings e = absurd (let no = e in omega arith)

-- a later kind is of no earlier part
kind_grows : (a b : TaskKind) → order_of_kind a ≤ order_of_kind b → part_rank (part_of a) ≤ part_rank (part_of b)
kind_grows Emission b le = part_least (part_of b)
kind_grows Sending Emission le = absurd (let no = le in omega arith)
kind_grows Sending Sending le = let l : 5 ≤ 5 = omega arith in l
kind_grows Sending other le = let l : 5 ≤ 6 = omega arith in l
kind_grows Correction Emission le = absurd (let no = le in omega arith)
kind_grows Correction Sending le = absurd (let no = le in omega arith)
kind_grows Correction other le = part_most Late
kind_grows Dispatch Emission le = absurd (let no = le in omega arith)
kind_grows Dispatch Sending le = absurd (let no = le in omega arith)
kind_grows Dispatch other le = part_most Late

module _ {network : Network} {device : DeviceId} {node : Node} {reading : ℤ} {part : Part} where
  -- nothing is of an earlier part than the first of all
  pub none_sooner : IsFirstPart network device node reading part → IsNoSooner network device node reading part
  none_sooner first = λ task pending due.
      rw first.of_part at (kind_grows first.kind (kind_of task) (first.is.first task pending due))

  -- so the first is of no earlier part than all are
  pub first_no_sooner : (low : Part) → IsFirstPart network device node reading part
      → IsNoSooner network device node reading low → part_rank low ≤ part_rank part
  first_no_sooner low first none =
      rw first.of_part at (rw first.is.of_kind at (none first.is.task first.is.pending first.is.due))

-- a task stands where its part does
pub placed_by : (network : Network) (t : ℕ) (device : DeviceId) (task : Task)
    → (rest : List ℕ) × (task_place network t device task ≡ t ∷ part_rank (part_of (kind_of task)) ∷ device.0 ∷ rest)
placed_by network t device (emitting sent) = (_, refl)
placed_by network t device (doing (sending cycle)) = (_, refl)
placed_by network t device (doing (correcting cycle)) = (_, refl)
placed_by network t device (doing (dispatching row cycle)) = (_, refl)

-- ---- the first of all is of one part

-- two first kinds are of one part
same_rank : {network : Network} {device : DeviceId} {node : Node} {reading : ℤ} {a b : TaskKind}
    → IsFirstKind network device node reading a → IsFirstKind network device node reading b
    → order_of_kind a ≡ order_of_kind b
same_rank {a} {b} one other =
    let low = rw other.of_kind at (one.first other.task other.pending other.due) in
    let high = rw one.of_kind at (other.first one.task one.pending one.due) in
    omega arith

abbrev part_by : ℕ → Part
part_by n = if n == 0 then Emissions else (if n == 1 then Sendings else Late)

is_by : (kind : TaskKind) → part_of kind ≡ part_by (order_of_kind kind)
is_by Emission = refl
is_by kind = refl

pub one_part : {network : Network} {device : DeviceId} {node : Node} {reading : ℤ} {kind : TaskKind} {part : Part}
    → IsFirstPart network device node reading part → IsFirstKind network device node reading kind
    → part_of kind ≡ part
one_part {kind} is first =
    is_by kind ∙ ap part_by (same_rank first is.is) ∙ sym (is_by is.kind) ∙ is.of_part

-- ---- an act

-- the kind of an act
abbrev kind_by : Act → TaskKind
kind_by (acts.Send frame) = Sending
kind_by (acts.Emit sent heard) = Emission
kind_by (acts.Correct cycle verdict) = Correction
kind_by (acts.Dispatch row cycle) = Dispatch

act_kind : (network : Network) (device : DeviceId) (node : Node) (moment : Moment) (act : Act) (new : Node) → IsActOf network device node moment act new
    → IsFirstKind network device node moment.reading.0 (kind_by act)
act_kind network device node moment (acts.Send frame) new is = first_kind_of is.1
act_kind network device node moment act new is = first_kind_of is.0

place_by : (now : ℕ) (device : DeviceId) (act : Act) → place_of_act now device act ≡ part_place (part_of (kind_by act)) now device
place_by now device (acts.Send frame) = refl
place_by now device act = refl

-- what is done is of the part of what is first, and stands there
pub act_place_is : {network : Network} (now : ℕ) {device : DeviceId} {node : Node} (moment : Moment) (act : Act)
    (new : Node) {part : Part} → IsActOf network device node moment act new
    → IsFirstPart network device node moment.reading.0 part → place_of_act now device act ≡ part_place part now device
act_place_is {network} now {device} {node} moment act new is first =
    place_by now device act
    ∙ ap (λ p. part_place p now device) (one_part first (act_kind network device node moment act new is))

rank_by : (act : Act) → rank_of_act act ≡ part_rank (part_of (kind_by act))
rank_by (acts.Send frame) = refl
rank_by act = refl

pub act_rank_is : {network : Network} {device : DeviceId} {node : Node} (moment : Moment) (act : Act) (new : Node)
    {part : Part} → IsActOf network device node moment act new
    → IsFirstPart network device node moment.reading.0 part → rank_of_act act ≡ part_rank part
act_rank_is {network} {device} {node} moment act new is first =
    rank_by act ∙ ap part_rank (one_part first (act_kind network device node moment act new is))

-- ---- what is left behind an act

order_head : (network : Network) (task : Task) → (rest : List ℕ) × (order_of network task ≡ order_of_kind (kind_of task) ∷ rest)
order_head network (emitting sent) = (_, refl)
order_head network (doing (sending cycle)) = (_, refl)
order_head network (doing (correcting cycle)) = (_, refl)
order_head network (doing (dispatching row cycle)) = (_, refl)

act_head : (network : Network) (act : Act) → (rest : List ℕ) × (order_of_act network act ≡ order_of_kind (kind_by act) ∷ rest)
act_head network (acts.Send frame) = (_, refl)
act_head network act = (_, refl)

heads : (m n : ℕ) (xs ys : List ℕ) → IsBefore (m ∷ xs) (n ∷ ys) → m ≤ n
heads m n xs ys (inl lt) = omega arith
heads m n xs ys (inr (e, b)) = omega arith

-- what a device that has acted has still to do is of no earlier part than what it did
pub left_no_sooner : {network : Network} {device : DeviceId} {node : Node} {moment : Moment} (act : Act) {new : Node}
    {left : Part} → IsInRange network → KeepsRules network → IsFromZero network device node
    → MayCall network device node moment acting → IsActOf network device node moment act new
    → IsFirstPart network device new moment.reading.0 left → rank_of_act act ≤ part_rank left
left_no_sooner {network} {device} {node} {moment} act {new} range rules zero may is first =
    let f = first.is in
    let x = act_head network act in
    let y = order_head network f.task in
    let le = heads (order_of_kind (kind_by act)) (order_of_kind (kind_of f.task)) x.0 y.0
    (rw y.1 at (rw x.1 at (acts_grow network device node moment act new f.task range rules zero may is f.pending
    f.due))) in
    rw (sym first.of_part) (rw (sym f.of_kind) (rw
    (sym (rank_by act)) at (kind_grows (kind_by act) (kind_of f.task) le)))

-- ---- timers that are right, and stay so

-- the network of a state that stands is in range
pub in_range : {C M : Type 0} {reading : C → ℕ → ℕ} {stands : Meaning M} {network : Network} {state : State C M}
    → IsRunning reading stands network state → IsInRange network
in_range run = subst IsInRange (sym run.is.same) run.is.range

-- ---- a time at which a clock reads so much

-- no clock reads more in a run
abbrev pub IsLow : {C : Type 0} → (C → ℕ → ℕ) → C → ℕ → Type 0
IsLow reading clock now = (u : ℕ) → now ≤ u → u ≤ 2 ^ 60 → reading clock u ≤ 2 ^ 60 + 2 ^ 51

module _ {C : Type 0} (reading : C → ℕ → ℕ) (clock : C) where
  -- it is not past
  pub not_past : (now : ℕ) (value : Option Units) (time : ℕ) → now ≤ 2 ^ 60 → IsTimeFor reading clock now value time
      → now ≤ time
  not_past now None time limit is = omega arith
  not_past now (Some value) time limit (inl is) = let e = is.0 in omega arith
  not_past now (Some value) time limit (inr is) = is.from_now

  -- before it the clock reads less
  pub reads_less : (now : ℕ) (value : Units) (time u : ℕ) → IsLow reading clock now
      → IsTimeFor reading clock now (Some value) time → now ≤ u → u ≤ 2 ^ 60 → value.0 ≤ℤ pos (reading clock u)
      → time ≤ u
  reads_less now value time u low (inl is) from most reached =
      let above = is.1 in let most_read = low u from most in absurd (omega (arith, ints))
  reads_less now value time u low (inr is) from most reached =
      elim (cases_lt u time) [
        | inl sooner ↦ let less = is.not_before u from sooner in absurd (omega (arith, ints))
        | inr le ↦ le
      ]

  -- at it, it reads so much
  pub reads_so : (now : ℕ) (value : Units) (time : ℕ) → IsTimeFor reading clock now (Some value) time → time < never
      → value.0 ≤ℤ pos (reading clock time)
  reads_so now value time (inl is) true_time = let e = is.0 in absurd (omega arith)
  reads_so now value time (inr is) true_time = is.reached

  -- ---- the timers of a device are right

  pub ripe_timed : (waiting : List Waits) (device now : ℕ) (point : Option Units) (time : ℕ)
      → IsLow reading clock now → IsLeastPoint waiting device point → IsTimeFor reading clock now point time
      → IsRipeAt reading clock waiting device now time
  ripe_timed waiting device now None time low none is = grind arith
  ripe_timed waiting device now (Some point) time low least is = record {
    none = λ w there at u from most reached.
        let le = least.1 w there at in reads_less now point time u low is from most (omega (arith, ints));
    one = λ true_time. (
      least.0.0,
      least.0.1,
      least.0.2,
      rw least.0.3 (reads_so now point time is true_time),
    );
  }

pub acts_timed : {C M : Type 0} (reading : C → ℕ → ℕ) (stands : Meaning M) (network : Network) (clock : C) (machine : Kept M)
    (device : DeviceId) (now : ℕ) (due : Option Units) (time : ℕ) (part : Part)
    → IsLow reading clock now → ((node : Node) → keeps stands machine network device node → IsDueReading network device node due)
    → IsTimeFor reading clock now due time
    → ((node : Node) → keeps stands machine network device node → IsNoSooner network device node (pos (reading clock time)) part)
    → ActsAt reading stands network clock machine device now time part
acts_timed reading stands network clock machine device now None time part low none is late = record {
  none = λ node task kept pending u from most reached. absurd (none node kept task pending);
  one = λ true_time. absurd (omega arith);
  late = λ true_time. late;
}
acts_timed reading stands network clock machine device now (Some due) time part low least is late = record {
  none = λ node task kept pending u from most reached.
      let le = (least node kept).1 task pending in reads_less reading clock now due time u low is from most
      (omega (arith, ints));
  one = one;
  late = λ true_time. late;
}
  where
    one : time < never → (node : Node) → keeps stands machine network device node → HasDue network device node (pos (reading clock time))
    one true_time node kept =
        let earliest = (least node kept).0 in let at = earliest.2 in let reads = reads_so reading clock now due time is true_time in
        (earliest.0, earliest.1, omega (arith, ints))

-- ---- they stay so

-- where the device is as it was, and time has not gone back
pub still_timed : {C M : Type 0} {reading : C → ℕ → ℕ} {stands : Meaning M}
    {network : Network} {old : State C M} (new : State C M) {device : DeviceId}
    → IsTimed reading stands network old.timers old device
    → slice_get new.clocks.items device.0 ≡ slice_get old.clocks.items device.0
    → slice_get new.machines.items device.0 ≡ slice_get old.machines.items device.0
    → ((w : Waits) → w.device.0 ≡ device.0 → IsIn w new.waiting.items ↔ IsIn w old.waiting.items)
    → old.time ≤ new.time → slice_get new.timers device.0 ≡ slice_get old.timers device.0
    → slice_get new.timers (length network.device + device.0)
    ≡ slice_get old.timers (length network.device + device.0) → IsTimed reading stands network new.timers new device
still_timed new is clocks machines waiting later ripe act = record {
  ripe = record {
    clock = is.ripe.clock;
    of_clock = clocks ∙ is.ripe.of_clock;
    ripe = is.ripe.ripe;
    of_ripe = ripe ∙ is.ripe.of_ripe;
    ripens = record {
      none = λ w there at u from most reached. is.ripe.ripens.none w ((waiting w at).0 there) at u (omega arith) most
          reached;
      one = λ true_time. let r = is.ripe.ripens.one true_time in (r.0, (waiting r.0 r.2).1 r.1, r.2, r.3);
    };
  };
  act = record {
    clock = is.act.clock;
    of_clock = clocks ∙ is.act.of_clock;
    machine = is.act.machine;
    of_machine = machines ∙ is.act.of_machine;
    act = is.act.act;
    part = is.act.part;
    of_act = act ∙ is.act.of_act;
    acts = record {
      none = λ node task kept pending u from most reached. is.act.acts.none node task kept pending u (omega arith) most
          reached;
      one = is.act.acts.one;
      late = is.act.acts.late;
    };
  };
}

module _ {C M : Type 0} {reading : C → ℕ → ℕ} {stands : Meaning M} {network : Network} where
  -- one device and its clock have changed, and its timers are set then
  pub rekeyed_by : {device : DeviceId} {old mid new : State C M} → AreTimed reading stands network old → device.0 < length network.device
      → ((i : ℕ) → (i ≡ device.0 → ⊥) → slice_get mid.clocks.items i ≡ slice_get old.clocks.items i)
      → ((i : ℕ) → (i ≡ device.0 → ⊥) → slice_get mid.machines.items i ≡ slice_get old.machines.items i)
      → ((w : Waits) → (w.device.0 ≡ device.0 → ⊥) → w.device.0 < length network.device → IsIn w mid.waiting.items ↔ IsIn w old.waiting.items)
      → mid.time ≡ old.time → mid.timers ≡ old.timers → IsRekeyed reading stands network device mid new → AreTimed reading stands network new
  rekeyed_by {device} {old} {mid} {new} are of_it clocks machines waiting time timers keyed = record {
    sized = keyed.sets.sized ∙ ap length timers ∙ are.sized;
    each = λ other there.
        elim (cases_eq other.0 device.0) [
          | inl e ↦
              rw (ap (λ (n : ℕ). let d : DeviceId = record { 0 = n } in d) (sym e)) at keyed.timed
          | inr ne ↦
              let same = keyed.sets.same in
              still_timed new (are.each other there)
              (rw same (clocks other.0 ne))
              (rw same (machines other.0 ne))
              (λ w at. rw same (waiting w (λ e. ne (sym at ∙ e)) (omega arith)))
              (let now = ap State.time same in omega arith)
              (keyed.sets.others other.0 (apart other.0 ne (λ e. omega arith)) ∙ ap (λ l. slice_get l other.0) timers)
              (keyed.sets.others (length network.device + other.0)
              (apart (length network.device + other.0) (λ e. omega arith) (λ e. ne (omega arith)))
              ∙ ap (λ l. slice_get l (length network.device + other.0)) timers)
        ];
    later = keyed.sets.later
        (rw time (rw timers are.later));
  }
    where
      apart : (slot : ℕ) → (slot ≡ device.0 → ⊥) → (slot ≡ length network.device + device.0 → ⊥)
          → (slot ≡ device.0) ⊎ (slot ≡ length network.device + device.0) → ⊥
      apart slot one other = λ is. elim is [ inl e ↦ one e | inr e ↦ other e ]

  -- a step of one device, whose timers are set then
  pub rekeyed : {device : DeviceId} {old mid new : State C M} → AreTimed reading stands network old → device.0 < length network.device
      → ChangesOnly device.0 old mid → mid.timers ≡ old.timers → IsRekeyed reading stands network device mid new → AreTimed reading stands network new
  rekeyed {device} {old} {mid} {new} are of_it changes timers keyed =
      rekeyed_by are of_it (λ i ne. ap (λ c. slice_get c.items i) changes.clocks) changes.machines
      (λ w ne lt. changes.waiting w ne) changes.time timers keyed

  -- a step that leaves what timers are for as it was
  pub unmoved : (old new : State C M) → AreTimed reading stands network old → new.clocks ≡ old.clocks → new.machines.items ≡ old.machines.items
      → new.waiting.items ≡ old.waiting.items → new.time ≡ old.time → new.timers ≡ old.timers → AreTimed reading stands network new
  unmoved old new are clocks machines waiting time timers = record {
    sized = ap length timers ∙ are.sized;
    each = λ device there.
        still_timed new (are.each device there) (rw clocks)
        (rw machines)
        (λ w at. rw waiting ((λ i. i), (λ i. i)))
        (omega arith) (rw timers)
        (rw timers);
    later = rw time (rw timers are.later);
  }

  -- a step of none of the devices
  pub aside : {other : ℕ} {old new : State C M} → AreTimed reading stands network old → length network.device ≤ other → ChangesOnly other old new
      → new.timers ≡ old.timers → AreTimed reading stands network new
  aside {old} {new} are none c timers = record {
    sized = ap length timers ∙ are.sized;
    each = λ device there.
        let time = c.time in
        still_timed new (are.each device there) (rw c.clocks)
        (c.machines device.0 (λ e. omega arith))
        (λ w at. c.waiting w (λ e. omega arith))
        (omega arith) (rw timers)
        (rw timers);
    later = rw c.time (rw timers are.later);
  }

  pub unchanged : (old new : State C M) → AreTimed reading stands network old → ((device : ℕ) → ChangesOnly device old new) → new.timers ≡ old.timers
      → AreTimed reading stands network new
  unchanged old new are changes timers = aside are (omega arith) (changes (length network.device)) timers

  -- time passes, up to no timer's time
  pub passed : {old : State C M} (t : ℕ) (early : Bool) → AreTimed reading stands network old → old.time ≤ t → AreFrom t old.timers
      → AreTimed reading stands network (record old { time = t; early = early })
  passed {old} t early are later none = record {
    sized = are.sized;
    each = λ device there.
        still_timed (record old { time = t; early = early }) (are.each device there) refl refl
        (λ w at. ((λ i. i), (λ i. i))) later refl refl;
    later = none;
  }

-- ---- the timers of all devices are set, one after the other

-- those of so many are right, none is past, and nothing else has changed
pub record AreSetTo {C M : Type 0} (reading : C → ℕ → ℕ) (stands : Meaning M) (network : Network) (count : ℕ)
    (old state : State C M) : Type 0 where
  pub same : state ≡ record old { timers = state.timers }
  pub sized : length state.timers ≡ 2 * length network.device
  pub later : AreFrom old.time state.timers
  pub each : (device : DeviceId) → device.0 < count → device.0 < length network.device → IsTimed reading stands network state.timers state device

module _ {C M : Type 0} (last_step : C → ℕ) (reading : C → ℕ → ℕ) (stands : Meaning M) {network : Network}
    {old state : State C M} (same : state ≡ record old { timers = state.timers }) where
  -- what a state keeps does not depend on its timers
  pub sized_with : IsSized last_step network old → IsSized last_step network state
  sized_with is =
      rw same (sized_so (record old { timers = state.timers }) is refl refl refl refl refl refl refl)

  pub running_with : IsRunning reading stands network old → IsRunning reading stands network state
  running_with is = rw same (record { s = is.s; notes = is.notes; is = is.is })

-- so timers may be set when others have been
pub may_still : {C M : Type 0} {last_step : C → ℕ} {reading : C → ℕ → ℕ}
    {stands : Meaning M} {network : Network} {device : DeviceId} (IsSet : ℕ → Type 0)
    {old new : State C M} → MayRekey last_step reading stands network old device → SetsOnly IsSet old new
    → MayRekey last_step reading stands network new device
may_still IsSet may sets = grind arith

module _ {C M : Type 0} {reading : C → ℕ → ℕ} {stands : Meaning M} {network : Network} where
  -- one device more
  pub set_more : {device : DeviceId} {old mid new : State C M} → AreSetTo reading stands network device.0 old mid
      → IsRekeyed reading stands network device mid new → device.0 < length network.device → AreSetTo reading stands network (device.0 + 1) old new
  set_more {device} {mid} {new} are keyed there =
      let same = keyed.sets.same in
      let was = ap State.time are.same in
      let now = ap State.time same in
      record {
        same = same ∙ ap (λ s. let k : State C M = record s { timers = new.timers } in k) are.same;
        sized = keyed.sets.sized ∙ are.sized;
        later = rw (now ∙ was) at (keyed.sets.later (rw was are.later));
        each = λ other less of_it.
            elim (cases_eq other.0 device.0) [
              | inl e ↦
                  rw (ap (λ (n : ℕ). let d : DeviceId = record { 0 = n } in d) (sym e)) at keyed.timed
              | inr ne ↦
                  still_timed new (are.each other (omega arith) of_it)
                  (rw same)
                  (rw same)
                  (λ w at. rw same ((λ i. i), (λ i. i)))
                  (omega arith) (keyed.sets.others other.0 (λ is. elim is [ inl e ↦ ne e | inr e ↦ omega arith ]))
                  (keyed.sets.others (length network.device + other.0)
                  (λ is. elim is [ inl e ↦ omega arith | inr e ↦ ne (omega arith) ]))
            ];
      }

-- ---- an event leaves all devices as they were but one: what an event does to another device

other_clock : {C : Type 0} (after_step : C → ℕ → ℤ → C) (device : DeviceId) (time : Units) (what : What) (clock : C) → IsElsewhere what device
    → clock_after after_step device time what clock ≡ clock
other_clock {C} after_step device time (events.Rate other rate) clock away = grind (arith, option_map_or, amount, false_from_ne_true, eqb-true)
other_clock after_step device time (events.Wire link way delay) clock away = refl
other_clock after_step device time other clock away = refl

pub clock_elsewhere : {C : Type 0} (after_step : C → ℕ → ℤ → C) (old new : List C) (device : DeviceId) (time : Units) (what : What)
    → device.0 < length old → IsElsewhere what device
    → ((d : DeviceId) (clock : C) → slice_get old d.0 ≡ Some clock → slice_get new d.0 ≡ Some (clock_after after_step d time what clock))
    → slice_get new device.0 ≡ slice_get old device.0
clock_elsewhere after_step old new device time what there away each =
    let it = Rattle.drift_world.proofs.Beginnings.found old device.0 there in
    each device it.0 it.1 ∙ ap Some (other_clock after_step device time what it.0 away) ∙ sym it.1

breaks_other : (device w : ℕ) (what : What) → IsElsewhere what (record { 0 = device }) → w ≡ device → breaks_at w what ≡ false
breaks_other device w (events.Break other) away at = false_from_ne_true (other.0 == w) (λ e. away (eqb-true other.0 w e ∙ at))
breaks_other device w rest away at = refl

in_kept : {X : Type 0} (q : X → Bool) (xs : List X) (x : X) → q x ≡ true → IsIn x xs → IsIn x (filter q xs)
in_kept q [] x passes i = i
in_kept q (y ∷ ys) x passes (inl same) = rw (ap q (sym same) ∙ passes) (inl same)
in_kept q (y ∷ ys) x passes (inr i) =
    elim (q y) as (λ b. IsIn x (if b then y ∷ filter q ys else filter q ys)) [ true ↦ inr (in_kept q ys x passes i) | false ↦ in_kept q ys x passes i ]

pub waits_elsewhere : (old : List Waits) {new : List Waits} (device : DeviceId) (what : What) → new ≡ filter (λ w. not (breaks_at w.device.0 what)) old
    → IsElsewhere what device → (w : Waits) → w.device.0 ≡ device.0 → IsIn w new ↔ IsIn w old
waits_elsewhere old device what is away w at = grind (arith, not, breaks_at, breaks_other, in_filter, in_kept)

-- ---- the timers

-- the device that an event changes is one of the network
pub its_device : (network : Network) (what : What) {device : DeviceId} → IsOfNetwork network what → device_in what ≡ Some device
    → device.0 < length network.device
its_device network (events.Rate d rate) of is = rw (same_Some _ _ is) at of
its_device network (events.On d) of is = rw (same_Some _ _ is) at of
its_device network (events.Break d) of is = rw (same_Some _ _ is) at of
its_device network other of is = absurd cc

-- the timers of another device are not among its
module _ (devices : ℕ) (device : DeviceId) (there : device.0 < devices) where
  not_ripe : (o : Option DeviceId) → IfSome o (λ d. d.0 ≢ device.0)
      → IsSomeAnd o (λ d. (device.0 ≡ d.0) ⊎ (device.0 ≡ devices + d.0)) → ⊥
  not_ripe None away is = is
  not_ripe (Some d) away (inl e) = away (sym e)
  not_ripe (Some d) away (inr e) = omega arith

  not_act : (o : Option DeviceId) → ((d : DeviceId) → o ≡ Some d → d.0 < devices) → IfSome o (λ d. d.0 ≢ device.0)
      → IsSomeAnd o (λ d. (devices + device.0 ≡ d.0) ⊎ (devices + device.0 ≡ devices + d.0)) → ⊥
  not_act None within away is = is
  not_act (Some d) within away (inl e) = let lt = within d refl in omega arith
  not_act (Some d) within away (inr e) = away (omega arith)

-- the timers are right, where those of the device that the event changes are set
pub timed_by_event : {C M : Type 0} {reading : C → ℕ → ℕ} {stands : Meaning M}
    {network : Network} {old : State C M} {mid new : State C M} (what : What) → AreTimed reading stands network old
    → ((device : DeviceId) → device.0 < length network.device → IsElsewhere what device
    → (slice_get mid.clocks.items device.0 ≡ slice_get old.clocks.items device.0)
    × (slice_get mid.machines.items device.0 ≡ slice_get old.machines.items device.0)
    × ((w : Waits) → w.device.0 ≡ device.0 → IsIn w mid.waiting.items ↔ IsIn w old.waiting.items))
    → mid.timers ≡ old.timers → mid.time ≡ old.time → IsOfNetwork network what → SetsOnly (IsSlotBy network what) mid new
    → ((device : DeviceId) → device_in what ≡ Some device → IsTimed reading stands network new.timers new device)
    → AreTimed reading stands network new
timed_by_event {C} {M} {reading} {stands} {network} {old} {mid} {new} what are away timers time of_network sets own = record {
  sized = sets.sized ∙ ap length timers ∙ are.sized;
  each = λ device there. each device there (device_in what) refl;
  later = sets.later (rw time (rw timers are.later));
}
  where
    still : (device : DeviceId) → device.0 < length network.device → IsElsewhere what device → IsTimed reading stands network new.timers new device
    still device there else_where =
        let is = away device there else_where in
        let same = sets.same in
        still_timed new (are.each device there)
        (rw same is.0)
        (rw same is.1)
        (λ w at. rw same (is.2 w at))
        (let now = ap State.time same in omega arith)
        (sets.others device.0 (not_ripe (length network.device) device there (device_in what) else_where)
        ∙ ap (λ l. slice_get l device.0) timers)
        (sets.others (length network.device + device.0)
        (not_act (length network.device) device there (device_in what) (λ d is. its_device network what of_network is) else_where)
        ∙ ap (λ l. slice_get l (length network.device + device.0)) timers)

    each : (device : DeviceId) → device.0 < length network.device → (o : Option DeviceId) → device_in what ≡ o
        → IsTimed reading stands network new.timers new device
    each device there None none = still device there (rw none tt)
    each device there (Some other) is = elim (cases_eq other.0 device.0) [
      | inl at ↦ own device (is ∙ ap (λ n. Some (let d : DeviceId = record { 0 = n } in d)) at)
      | inr ne ↦ still device there (rw is ne)
    ]

-- ---- the two timers of a device, each by itself

-- the same frames wait
pub waits_as : {C M : Type 0} (old new : State C M) → new.waiting ≡ old.waiting → (w : Waits)
    → IsIn w new.waiting.items ↔ IsIn w old.waiting.items
waits_as old new same w =
    rw same ((λ there. there), (λ there. there))

module _ {C M : Type 0} {reading : C → ℕ → ℕ} (stands : Meaning M) (network : Network) (old new : State C M)
    {device : DeviceId} where
  -- one stays right, where what it is for does
  pub ripe_stays : IsRipeTimed reading old.timers old device → new.clocks ≡ old.clocks → new.time ≡ old.time
      → ((w : Waits) → w.device.0 ≡ device.0 → IsIn w new.waiting.items ↔ IsIn w old.waiting.items)
      → slice_get new.timers device.0 ≡ slice_get old.timers device.0 → IsRipeTimed reading new.timers new device
  ripe_stays is clocks time waiting slot = record {
    clock = is.clock;
    of_clock = rw clocks is.of_clock;
    ripe = is.ripe;
    of_ripe = slot ∙ is.of_ripe;
    ripens = rw time (record {
      none = λ w there at u from most reached. is.ripens.none w ((waiting w at).0 there) at u from most reached;
      one = λ true_time. let r = is.ripens.one true_time in (r.0, (waiting r.0 r.2).1 r.1, r.2, r.3);
    });
  }

  pub act_stays : IsActTimed reading stands network old.timers old device → new.clocks ≡ old.clocks → new.time ≡ old.time → new.machines ≡ old.machines
      → slice_get new.timers (length network.device + device.0) ≡ slice_get old.timers (length network.device + device.0)
      → IsActTimed reading stands network new.timers new device
  act_stays is clocks time machines slot = record {
    clock = is.clock;
    of_clock = rw clocks is.of_clock;
    machine = is.machine;
    of_machine = rw machines is.of_machine;
    act = is.act;
    part = is.part;
    of_act = slot ∙ is.of_act;
    acts = rw time is.acts;
  }

module _ {C M : Type 0} {reading : C → ℕ → ℕ} {stands : Meaning M} {network : Network} {old mid new : State C M}
    {device : DeviceId} where
  -- one is set, and then the other
  pub set_both : device.0 < length network.device → IsRipeTimed reading mid.timers mid device → SetsOnly (λ slot. slot ≡ device.0) old mid
      → IsActTimed reading stands network new.timers new device → SetsOnly (λ slot. slot ≡ length network.device + device.0) mid new
      → IsRekeyed reading stands network device old new
  set_both there ripe first act second = record {
    sets = record {
      same = second.same ∙ ap (λ s. let k : State C M = record s { timers = new.timers } in k) first.same;
      sized = second.sized ∙ first.sized;
      others = λ slot apart. second.others slot (λ e. apart (inr e)) ∙ first.others slot (λ e. apart (inl e));
      later = λ all. second.later (first.later all);
    };
    timed = record {
      ripe = ripe_stays stands network mid new ripe (ap State.clocks second.same) (ap State.time second.same)
          (λ w at. waits_as mid new (ap State.waiting second.same) w)
          (second.others device.0 (λ e. omega arith));
      act = act;
    };
  }

  -- one alone is set, and the other was right
  pub set_act : device.0 < length network.device → IsTimed reading stands network old.timers old device → mid.clocks ≡ old.clocks
      → mid.time ≡ old.time
      → ((w : Waits) → w.device.0 ≡ device.0 → IsIn w mid.waiting.items ↔ IsIn w old.waiting.items)
      → mid.timers ≡ old.timers → IsActTimed reading stands network new.timers new device
      → SetsOnly (λ slot. slot ≡ length network.device + device.0) mid new
      → IsRekeyed reading stands network device mid new
  set_act there was clocks time waiting timers act sets = record {
    sets = record { same = sets.same; sized = sets.sized; others = λ slot apart. sets.others slot (λ e. apart (inr e)); later = sets.later };
    timed = record {
      ripe = ripe_stays stands network old new was.ripe (ap State.clocks sets.same ∙ clocks)
          (ap State.time sets.same ∙ time)
          (λ w at. rw sets.same (waiting w at))
          (sets.others device.0 (λ e. omega arith) ∙ ap (λ l. slice_get l device.0) timers);
      act = act;
    };
  }

  pub set_ripe : device.0 < length network.device → IsTimed reading stands network old.timers old device → mid.clocks ≡ old.clocks
      → mid.time ≡ old.time → mid.machines ≡ old.machines → mid.timers ≡ old.timers
      → IsRipeTimed reading new.timers new device → SetsOnly (λ slot. slot ≡ device.0) mid new → IsRekeyed reading stands network device mid new
  set_ripe there was clocks time machines timers ripe sets = record {
    sets = record { same = sets.same; sized = sets.sized; others = λ slot apart. sets.others slot (λ e. apart (inl e)); later = sets.later };
    timed = record {
      ripe = ripe;
      act = act_stays stands network old new was.act (ap State.clocks sets.same ∙ clocks)
          (ap State.time sets.same ∙ time) (ap State.machines sets.same ∙ machines)
          (sets.others (length network.device + device.0) (λ e. omega arith)
          ∙ ap (λ l. slice_get l (length network.device + device.0)) timers);
    };
  }

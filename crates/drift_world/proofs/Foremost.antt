-- What comes first of all that a state has under way.
use Rattle.std.proofs.Common.{get_or, slice_get}
use Rattle.device_rules.specs.FirstKinds.{kind_of}
use Rattle.drift_world.proofs.Timings.{part_least, part_most, placed_by}
use Rattle.world_law.proofs.{frames.Proper.{IsReceiver, received}, steps_lemmas.ripening.Ripens.come_of}
use Rattle.world_state.proofs.Queues.{port_numbers, wire_numbers}
use Rattle.drift_world.proofs.Words
use Words.{◌*◌, ◌+◌, ◌-◌, ◌<◌, ◌^◌, ◌∙◌, ◌∷◌, ◌≡◌, ◌≤ℤ◌, ◌≤◌, ◌⊎◌, AreFirsts, AreNotBefore, AreTimed, AreUnderWay}
use Words.{AtPort, Content, DeviceId, Down, DueAt, Happening, HasNothingBefore, IfNone, IfSome, IsBefore, IsDue}
use Words.{IsFirst, IsFounded, IsIn, IsInRange, IsLinkInRange, IsRunning, IsSized, IsWell, Kept, List, Meaning, Network}
use Words.{Node, None, Note, OnWire, Option, Port, Scenario, SlotTimer, Some, Stands, Up, Waiting, Waits, Way, Wire, []}
use Words.{amount, ap, arith, at_port, both_ways, cases_eq, cases_lt, chain, false, get_or_from_slice_get, given_of}
use Words.{in_all, inl, inr, is_given, keeps, le-ltb, length, lt-ltb, map, never, never_self, numbers_of, on_wire}
use Words.{place_of, pos, rank_of, reading_for, refl, ripe_place, slice_get_within, subst, sym, true, waiting_as}
use Words.{wire_at, wire_place, world_of, ℕ}
use Rattle.drift_world.specs.{Parts.{IsNoSooner, part_of, part_rank}, Sourcing.{IsRipePlace, device_of_slot, due_place}}
use Rattle.drift_world.specs.{Stepping.IsActTimed, Turns.IsActive, declared.{part.Part.Part, state.State.State}}
use Rattle.run_law.{proofs.runs.Places.before_later, specs.machines.Tasks.{IsPending, Task}}
use Rattle.tte_units.proofs.general_lemmas.Options.{some_same}
use Rattle.world_law.{specs.{source.Sources.task_place, world.{Moves.NothingBefore, World.{IsWaitingFor, port_place}}}}
use Rattle.world_state.specs.{Views.port_at, declared.{queue.Entry.Entry, timers.Timer.Timer}}
use Rattle.world_state.specs.{timers.Times.{AreFrom, IsFirst as IsFirstDue}}

-- ---- what comes first of what a state has under way

-- what is not before the first is not before a place that the first is not before
pub not_sooner : (q first p : List ℕ) → (IsBefore q first → ⊥) → (IsBefore first p → ⊥) → IsBefore q p → ⊥
not_sooner q first p not later b = not (before_later q first p b later)

-- a place in time is not later than all of a run
pub in_run : (t rank : ℕ) (rest p : List ℕ) → (IsBefore ((2 ^ 60 + 1) ∷ []) p → ⊥) → IsBefore (t ∷ rank ∷ rest) p → t ≤ 2 ^ 60
in_run t rank rest p in_time b =
    elim (cases_lt t (2 ^ 60 + 1)) [
      | inl lt ↦ omega arith
      | inr le ↦
          elim (cases_eq t (2 ^ 60 + 1)) [
            | inl e ↦ absurd (in_time (chain ((2 ^ 60 + 1) ∷ []) (t ∷ rank ∷ rest) p (inr (sym e, tt)) b))
            | inr ne ↦ absurd (in_time (chain ((2 ^ 60 + 1) ∷ []) (t ∷ rank ∷ rest) p (inl (omega arith)) b))
          ]
    ]

-- ---- slots in the order of their places

slot_low : (devices slot : ℕ) → slot < devices → device_of_slot devices slot ≡ slot
slot_low devices slot lt = rw (lt-ltb slot devices lt)

pub slot_high : (devices slot : ℕ) → devices ≤ slot → device_of_slot devices slot ≡ slot - devices
slot_high devices slot le = rw (le-ltb slot devices le)

slot_most : (devices slot : ℕ) → device_of_slot devices slot ≤ slot
slot_most devices slot = elim (cases_lt slot devices) [
  | inl lt ↦ let is = slot_low devices slot lt in omega arith
  | inr le ↦ let is = slot_high devices slot le in omega arith
]

module _ {timers : List Timer} {due : SlotTimer} (slot : ℕ) {t : Timer} (first : IsFirstDue timers due) where
  -- no timer is earlier than the first, and one of its rank and of a lower slot is later
  least_slot : slice_get timers slot ≡ Some t → due.time ≤ t.time
  least_slot at = elim (cases_lt t.time due.time) [
    | inl lt ↦ absurd (first.least slot t at (inl lt))
    | inr le ↦ le
  ]

  lower_slot : slice_get timers slot ≡ Some t → t.rank ≡ due.rank → slot < due.slot → due.time < t.time
  lower_slot at same lower = elim (cases_lt due.time t.time) [
    | inl lt ↦ lt
    | inr le ↦
        let least = least_slot at in absurd (first.least slot
        t at (inr (omega arith, inr (same, inl lower))))
  ]

-- a place before another is before what is farther
farther : (t r s u q d e : ℕ) → d ≤ e → IsBefore (t ∷ r ∷ s ∷ []) (u ∷ q ∷ d ∷ []) → IsBefore (t ∷ r ∷ s ∷ []) (u ∷ q ∷ e ∷ [])
farther t r s u q d e le (inl lt) = inl lt
farther t r s u q d e le (inr (a, inl lt)) = inr (a, inl lt)
farther t r s u q d e le (inr (a, inr (b, inl lt))) = inr (a, inr (b, inl (omega arith)))
farther t r s u q d e le (inr (a, inr (b, inr (c, x)))) = absurd x

-- the frames that wait at a device, by its timer, are not due before the first
ripe_slot : (devices : ℕ) {timers : List Timer} {due : SlotTimer} (slot time : ℕ) → IsFirstDue timers due
    → slice_get timers slot ≡ Some (record { time = time; rank = 3 })
    → IsBefore (time ∷ 3 ∷ slot ∷ []) (due_place devices due) → ⊥
ripe_slot devices {due} slot time first at b =
    first.least slot (record { time = time; rank = 3 }) at
    (farther time 3 slot due.time due.rank (device_of_slot devices due.slot) due.slot (slot_most devices due.slot) b)

-- the acts of a device neither
higher_rank : (t r s u q d e f : ℕ) → q < r → IsBefore (t ∷ r ∷ s ∷ []) (u ∷ q ∷ d ∷ []) → IsBefore (t ∷ r ∷ e ∷ []) (u ∷ q ∷ f ∷ [])
higher_rank t r s u q d e f low (inl lt) = inl lt
higher_rank t r s u q d e f low (inr (a, inl lt)) = absurd (omega arith)
higher_rank t r s u q d e f low (inr (a, inr (b, c))) = absurd (omega arith)

shifted : (t r s u q d n e : ℕ) → d + n ≡ e → IsBefore (t ∷ r ∷ s ∷ []) (u ∷ q ∷ d ∷ []) → IsBefore (t ∷ r ∷ (n + s) ∷ []) (u ∷ q ∷ e ∷ [])
shifted t r s u q d n e is (inl lt) = inl lt
shifted t r s u q d n e is (inr (a, inl lt)) = inr (a, inl lt)
shifted t r s u q d n e is (inr (a, inr (b, inl lt))) = inr (a, inr (b, inl (omega arith)))
shifted t r s u q d n e is (inr (a, inr (b, inr (c, x)))) = absurd x

act_slot : (devices : ℕ) {timers : List Timer} {due : SlotTimer} (device time rank : ℕ) → IsFirstDue timers due
    → (due.slot < devices → due.rank ≡ 3) → 4 ≤ rank → slice_get timers (devices + device)
    ≡ Some (record { time = time; rank = rank }) → IsBefore (time ∷ rank ∷ device ∷ []) (due_place devices due) → ⊥
act_slot devices {due} device time rank first ripe high at b =
    first.least (devices + device) (record { time = time; rank = rank }) at
    (elim (cases_lt due.slot devices) [
      | inl low ↦
          let three = ripe low in
          higher_rank time rank device due.time due.rank (device_of_slot devices due.slot) (devices + device) due.slot
          (omega arith) b
      | inr le ↦
          let is = slot_high devices due.slot le in
          shifted time rank device due.time due.rank (device_of_slot devices due.slot) devices due.slot (omega arith) b
    ])

-- what parts the frames that are permanent at one device at one time
abbrev pub parting : Waits → List ℕ
parting w = w.frame.members.0 ∷ w.link.0 ∷ w.cause ∷ []

-- a place of a device is not before that of its timer
ripe_earlier : (t ripe device point : ℕ) (rest : List ℕ) → ripe ≤ t → IsBefore (ripe ∷ 3 ∷ device ∷ []) (t ∷ 3 ∷ device ∷ point ∷ rest)
ripe_earlier t ripe device point rest le =
    elim (cases_lt ripe t) [ inl lt ↦ inl lt | inr ge ↦ inr (omega arith, inr (refl, inr (refl, tt))) ]

-- nor is one of a later time, or of its own rank and device, or of a higher rank
not_sooner_than : (t act r rank device : ℕ) (rest : List ℕ) → act ≤ t → (t ≡ act → rank ≤ r)
    → IsBefore (t ∷ r ∷ device ∷ rest) (act ∷ rank ∷ device ∷ []) → ⊥
not_sooner_than t act r rank device rest le ranks (inl lt) = omega arith
not_sooner_than t act r rank device rest le ranks (inr (e, inl lt)) = let high = ranks e in omega arith
not_sooner_than t act r rank device rest le ranks (inr (e, inr (f, inl lt))) = omega arith
not_sooner_than t act r rank device rest le ranks (inr (e, inr (f, inr (g, b)))) = b

-- where the timers are right, and the place is that of a frame that is permanent by the first
same_time : (t time : ℕ) (rest more : List ℕ) → time ≤ t → IsBefore (t ∷ rest) (time ∷ more) → (t ≡ time) × IsBefore rest more
same_time t time rest more le (inl lt) = absurd (omega arith)
same_time t time rest more le (inr (e, b)) = (e, b)

ranked_before : (rank : ℕ) (rest more : List ℕ) → 4 ≤ rank → IsBefore (rank ∷ rest) (3 ∷ more) → ⊥
ranked_before rank rest more le (inl lt) = absurd (omega arith)
ranked_before rank rest more le (inr (e, b)) = absurd (omega arith)

same_slot : (device other : ℕ) (rest more : List ℕ) → other ≤ device → IsBefore (3 ∷ device ∷ rest) (3 ∷ other ∷ more) → device ≡ other
same_slot device other rest more le (inl lt) = absurd (omega arith)
same_slot device other rest more le (inr (e, inl lt)) = absurd (omega arith)
same_slot device other rest more le (inr (e, inr (same, b))) = same

module _ {C M : Type 0} {last_step : C → ℕ} {reading : C → ℕ → ℕ} {stands : Meaning M} {network : Network}
    {state : State C M} (sized : IsSized last_step network state) (are : AreTimed reading stands network state)
    (p : List ℕ) (in_time : IsBefore ((2 ^ 60 + 1) ∷ []) p → ⊥) where
  -- what a frame that waits is for is of the lowest rank
  ripe_rank : {due : SlotTimer} → IsFirstDue state.timers due → due.slot < length network.device → due.rank ≡ 3
  ripe_rank {due} first low =
      let timed = (are.each (record { 0 = due.slot }) low).ripe in ap Timer.rank (some_same _ _ _ first.timer timed.of_ripe)

  -- a frame that waits, whose device's timer is at this time, is not before the place
  waits_by : (due : Option SlotTimer) → IfSome due (λ d. IsFirstDue state.timers d) → IfNone due (AreFrom never state.timers)
      → IfSome due (λ d. (IsBefore (due_place (length network.device) d) p → ⊥) ⊎ IsRipePlace reading network state d p)
      → (w : Waits) {clock : C} → IsIn w state.waiting.items → slice_get state.clocks.items w.device.0 ≡ Some clock
      → w.device.0 < length network.device → (time : ℕ) → slice_get state.timers w.device.0 ≡ Some (record { time = time; rank = 3 }) → (t : ℕ) → time ≤ t
      → t ≤ 2 ^ 60 → w.point.0 ≤ℤ pos (reading clock t) → IsBefore (ripe_place t (waiting_as w)) p → ⊥
  waits_by None first none not w there own of_it time at t le most reached b =
      let past = in_all (λ r. never ≤ r.time) state.timers w.device.0 (record { time = time; rank = 3 }) none at in
      absurd (omega arith)
  waits_by (Some d) first none (inl not) w there own of_it time at t le most reached b =
      not_sooner (time ∷ 3 ∷ w.device.0 ∷ []) (due_place (length network.device) d) p
      (ripe_slot (length network.device) w.device.0 time first at) not
      (chain (time ∷ 3 ∷ w.device.0 ∷ []) (ripe_place t (waiting_as w)) p (ripe_earlier t time w.device.0 (amount w.point) (parting w) le) b)
  waits_by (Some d) first none (inr r) w {clock} there own of_it time at t le most reached b =
      let least = least_slot w.device.0 first at in
      let by = same_time t d.time (3 ∷ w.device.0 ∷ amount w.point ∷ parting w) (3 ∷ r.one.device.0 ∷ amount r.one.point ∷ parting r.one)
      (omega arith) (rw r.place at b) in
      let now = by.0 in
      let one = r.at in
      let low : r.one.device.0 ≤ w.device.0 = elim (cases_lt w.device.0 d.slot) [
        | inl lt ↦
            let later = lower_slot w.device.0 first at (sym (ripe_rank first r.there)) lt in absurd (omega arith)
        | inr ge ↦ omega arith
      ] in
      let same = same_slot w.device.0 r.one.device.0 (amount w.point ∷ parting w) (amount r.one.point ∷ parting r.one)
      low by.1
      ∙ one in
      r.none w clock there same (rw same at own)
      (rw now at reached)
      (rw now at b)

  -- a task that is due is not before where the timer of its device stands
  behind_timer : (device : DeviceId) (node : Node) (task : Task) (clock : C) (t act : ℕ) (part : Part) → act ≤ t → t ≤ 2 ^ 60
      → (act < never → IsNoSooner network device node (pos (reading clock act)) part) → IsPending network device node task
      → reading_for network node task ≤ℤ pos (reading clock t) → IsBefore (task_place network t device task) (act ∷ part_rank part ∷ device.0 ∷ []) → ⊥
  behind_timer device node task clock t act part le most late pending reached b =
      let q = placed_by network t device task in
      let rank = part_rank (part_of (kind_of task)) in
      not_sooner_than t act rank (part_rank part) device.0 q.0 le
      (λ e. late (omega arith) task pending (rw e at reached))
      (subst (λ l. IsBefore l (act ∷ part_rank part ∷ device.0 ∷ [])) q.1 b)

  -- nor is it before the place
  acts_by : (due : Option SlotTimer) → IfSome due (λ d. IsFirstDue state.timers d) → IfNone due (AreFrom never state.timers)
      → IfSome due (λ d. (IsBefore (due_place (length network.device) d) p → ⊥) ⊎ IsRipePlace reading network state d p)
      → {device : DeviceId} (node : Node) (task : Task) (t : ℕ) → state.time ≤ t → t ≤ 2 ^ 60
      → (timed : IsActTimed reading stands network state.timers state device) → keeps stands timed.machine network device node
      → IsPending network device node task → reading_for network node task ≤ℤ pos (reading timed.clock t)
      → IsBefore (task_place network t device task) p → ⊥
  acts_by None first none not {device} node task t from most timed kept pending reached b =
      let le = timed.acts.none node task kept pending t from most reached in
      let past = in_all (λ r. never ≤ r.time) state.timers (length network.device + device.0) _ none timed.of_act in
      absurd (omega arith)
  acts_by (Some d) first none (inl not) {device} node task t from most timed kept pending reached b =
      let place = timed.act ∷ part_rank timed.part ∷ device.0 ∷ [] in
      let le = timed.acts.none node task kept pending t from most reached in
      not_sooner (task_place network t device task) place p
      (behind_timer device node task timed.clock t timed.act timed.part le most (λ lt. timed.acts.late lt node kept) pending reached)
      (not_sooner place (due_place (length network.device) d) p
      (act_slot (length network.device) device.0 timed.act (part_rank timed.part) first (ripe_rank first) (part_least timed.part) timed.of_act)
      not) b
  acts_by (Some d) first none (inr r) {device} node task t from most timed kept pending reached b =
      let q = placed_by network t device task in
      let rank = part_rank (part_of (kind_of task)) in
      let le = timed.acts.none node task kept pending t from most reached in
      let least = least_slot (length network.device + device.0) first timed.of_act in
      let by = same_time t d.time (rank ∷ device.0 ∷ q.0) (3 ∷ r.one.device.0 ∷ amount r.one.point ∷ parting r.one)
      (omega arith)
      (subst (λ l. IsBefore l (ripe_place d.time (waiting_as r.one))) q.1
      (subst (λ l. IsBefore (task_place network t device task) l) r.place b)) in
      ranked_before rank (device.0 ∷ q.0) (r.one.device.0 ∷ amount r.one.point ∷ parting r.one) (part_least (part_of (kind_of task))) by.1

  -- nor what is under way
  under_way_by : (place : Option DueAt) → IfSome place (λ q. IsFirst state.under_way.entries q) → IfNone place (state.under_way.entries ≡ [])
      → IfSome place (λ q. IsBefore (numbers_of q) p → ⊥) → (e : Entry Content) → IsIn e state.under_way.entries → IsBefore (numbers_of e.place) p → ⊥
  under_way_by None first none not e there b = rw none at there
  under_way_by (Some q) first none not e there b = not_sooner (numbers_of e.place) (numbers_of q) p (first.none e there) not b

  all_by : {place : Option DueAt} {due : Option SlotTimer} → AreFirsts state place due → AreNotBefore reading network state place due p
      → HasNothingBefore reading stands network state p
  all_by {place} {due} firsts not = record {
    under_way = λ e there. under_way_by place firsts.some_place firsts.no_place not.under_way e there;
    waiting = λ w clock there own t from reached b.
        let few = slice_get_within state.clocks.items w.device.0 clock own in
        let sizes = sized.clocks in
        let of_it : w.device.0 < length network.device = omega (arith, few) in
        let timed = (are.each w.device of_it).ripe in
        let most = in_run t 3 _ p in_time b in
        let clock_is = some_same _ _ _ own timed.of_clock in
        let le = timed.ripens.none w there refl t from most (rw clock_is at reached) in
        waits_by due firsts.some_due firsts.no_due not.timers w there own of_it timed.ripe timed.of_ripe t le most reached b;
    acting = λ device machine clock node task held own kept pending t from reached b.
        let few = slice_get_within state.clocks.items device.0 clock own in
        let sizes = sized.clocks in
        let of_it : device.0 < length network.device = omega (arith, few) in
        let timed = (are.each device of_it).act in
        let q = placed_by network t device task in
        let most = in_run t (part_rank (part_of (kind_of task))) (device.0 ∷ q.0) p in_time (rw q.1 at b) in
        let clock_is = some_same _ _ _ own timed.of_clock in
        let machine_is = some_same _ _ _ held timed.of_machine in
        acts_by due firsts.some_due firsts.no_due not.timers node task t from most timed
        (rw machine_is at kept) pending
        (rw clock_is at reached) b;
    befell = not.befell;
    clocks = not.clocks;
  }

-- where the first of each kind is not before the place, nothing is
pub nothing_before : {C M : Type 0} {last_step : C → ℕ} {reading : C → ℕ → ℕ}
    {stands : Meaning M} {network : Network} {state : State C M} {place : Option DueAt}
    {due : Option SlotTimer} {p : List ℕ} → IsSized last_step network state → AreTimed reading stands network state
    → AreFirsts state place due → AreNotBefore reading network state place due p
    → HasNothingBefore reading stands network state p
nothing_before {last_step} {reading} {stands} {network} {state} {place} {due} {p} sized are firsts not =
    all_by sized are p not.in_time firsts not

-- nothing is before what is not behind a place before which nothing is
pub sooner_too : {C M : Type 0} {reading : C → ℕ → ℕ} {stands : Meaning M}
    {network : Network} {state : State C M} {w : List ℕ} (p : List ℕ)
    → HasNothingBefore reading stands network state w → (IsBefore w p → ⊥)
    → HasNothingBefore reading stands network state p
sooner_too {w} p has not = record {
  under_way = λ e there. not_sooner _ w p (has.under_way e there) not;
  waiting = λ one clock there own t from reached. not_sooner _ w p (has.waiting one clock there own t from reached) not;
  acting = λ device machine clock node task held own kept pending t from reached.
      not_sooner _ w p (has.acting device machine clock node task held own kept pending t from reached) not;
  befell = λ yes. not_sooner _ w p (has.befell yes) not;
  clocks = λ ended more. not_sooner _ w p (has.clocks ended more) not;
}

-- ---- what is due by the first timer

module _ {C M : Type 0} {reading : C → ℕ → ℕ} {stands : Meaning M} {network : Network} {state : State C M}
    {due : SlotTimer} (are : AreTimed reading stands network state) (first : IsFirstDue state.timers due) where
  -- it is not past
  pub due_time : state.time ≤ due.time
  due_time = in_all (λ t. state.time ≤ t.time) state.timers due.slot _ are.later first.timer

  -- where it is not for frames that wait, it is for a part of what a device does
  pub due_part : length network.device ≤ due.slot → (part : Part) × (due.rank ≡ part_rank part) × (due.slot < 2 * length network.device)
  due_part high =
      let device : DeviceId = record { 0 = due.slot - length network.device } in
      let inside = first.inside in
      let slots = are.sized in
      let timed = (are.each device (omega arith)).act in
      let slot : due.slot ≡ length network.device + device.0 = omega arith in (
        timed.part,
        ap Timer.rank (some_same _ _ _ first.timer (ap (λ n. slice_get state.timers n) slot ∙ timed.of_act)),
        omega arith,
      )

  -- its rank is that of the frames that wait, or of a part
  pub due_ranks : (3 ≤ due.rank) × (due.rank ≤ 6)
  due_ranks = elim (cases_lt due.slot (length network.device)) [
    | inl low ↦
        let timed = (are.each (record { 0 = due.slot }) low).ripe in
        let three : due.rank ≡ 3 = ap Timer.rank (some_same _ _ _ first.timer timed.of_ripe) in
        (omega arith, omega arith)
    | inr high ↦ let is = due_part high in by is.0 is.1
  ]
    where
      by : (part : Part) → due.rank ≡ part_rank part → (3 ≤ due.rank) × (due.rank ≤ 6)
      by part is = let least = part_least part in let most = part_most part in (omega arith, omega arith)

  -- a frame that waits at its device is permanent then
  pub due_ripe : due.slot < length network.device → due.time < never → (clock : C) × (slice_get state.clocks.items due.slot ≡ Some clock)
      × ((w : Waits) × IsIn w state.waiting.items × (w.device.0 ≡ due.slot) × (w.point.0 ≤ℤ pos (reading clock due.time)))
  due_ripe of_it soon =
      let device : DeviceId = record { 0 = due.slot } in
      let timed = (are.each device of_it).ripe in
      let is : timed.ripe ≡ due.time = ap Timer.time (some_same _ _ _ timed.of_ripe first.timer) in
      let w = timed.ripens.one (omega arith) in
      (timed.clock, timed.of_clock, (w.0, w.1, w.2, subst (λ t. w.0.point.0 ≤ℤ pos (reading timed.clock t)) is w.3))

  -- the device has something to do of the part then
  pub due_acts : (device : DeviceId) (part : Part) → due.time ≡ state.time → state.time ≤ 2 ^ 60 → due.slot ≡ length network.device + device.0
      → device.0 < length network.device → due.rank ≡ part_rank part → IsActive reading stands network state part device
  due_acts device part now soon slot of_it rank = record {
    of = of_it;
    due = rw (sym slot) (first.timer
        ∙ ap (λ n. Some (let t : Timer = record { time = n; rank = due.rank } in t)) now
        ∙ ap (λ n. Some (let t : Timer = record { time = state.time; rank = n } in t)) rank);
    late = λ s machine node of there kept.
        let timed = (are.each device of_it).act in
        let timer = some_same _ _ _ first.timer (ap (λ n. slice_get state.timers n) slot ∙ timed.of_act) in
        let time : due.time ≡ timed.act = ap Timer.time timer in
        let is = sym (ap Timer.rank timer) ∙ rank in
        let machine_is = some_same _ _ _ there timed.of_machine in
        let own = of.clocks device (rw of.same at of_it) in
        let clock_is = some_same _ _ _ own.1 timed.of_clock in
        let act_now = sym time ∙ now in
        let read : reading timed.clock timed.act ≡ s.reading device state.time = ap (reading timed.clock) act_now
        ∙ ap (λ k. reading k state.time) (sym clock_is) ∙ sym (own.2 state.time (omega arith)) in
        rw (sym of.same) (rw (sym read) (λ task pending reached.
        let late = timed.acts.late (omega arith) node
        (rw (sym machine_is) (rw (sym of.same) at kept)) task pending reached in
        omega (arith, late, is)));
  }

-- ---- of the world of a state

-- the device at which a frame waits is one of the network
waits_there : {s : Scenario} {hs : List Happening} {e : Waiting} → IsInRange s.network
    → IsFounded place_of (IsDue s) hs → IsWaitingFor s hs e → e.device.0 < length s.network.device
waits_there {s} {hs} {e} range founded it =
    let c = come_of s hs e it founded in
    by_way c.so.arrives.way (received s.network e.device e.link c.so.arrives.way c.so.arrives.receiver)
  where
    by_way : (way : Way) → IsReceiver s.network e.device e.link way → e.device.0 < length s.network.device
    by_way Up v =
        rw v.is at (in_all (IsLinkInRange s.network) s.network.link e.link.0 v.joint range.links v.there).parent
    by_way Down v =
        rw v.is at (in_all (IsLinkInRange s.network) s.network.link e.link.0 v.joint range.links v.there).child

-- what is in a list of what a function makes of others is made of one
pub made_of : {X Y : Type 0} (f : X → Y) (xs : List X) (y : Y) → IsIn y (map f xs) → (x : X) × IsIn x xs × (f x ≡ y)
made_of f [] y i = absurd i
made_of f (x ∷ xs) y (inl e) = (x, inl refl, sym e)
made_of f (x ∷ xs) y (inr i) = let more = made_of f xs y i in (more.0, inr more.1, more.2)

shown_earlier : (now shown device : ℕ) (p : List ℕ) → shown ≤ device → IsBefore (now ∷ 14 ∷ device ∷ []) p → IsBefore (now ∷ 14 ∷ shown ∷ []) p
shown_earlier now shown device p le b =
    elim (cases_eq shown device) [
      | inl e ↦ rw e b
      | inr ne ↦ chain (now ∷ 14 ∷ shown ∷ []) (now ∷ 14 ∷ device ∷ []) p (inr (refl, inr (refl, inl (omega arith)))) b
    ]

module _ {C M : Type 0} {last_step : C → ℕ} {reading : C → ℕ → ℕ} (stands : Meaning M) {s : Scenario} {network : Network}
    {state : State C M} {notes : List Note} (old : Stands reading (keeps stands) s (world_of network state) notes)
    (sized : IsSized last_step network state) where
  few : (n : ℕ) → n < length network.device → n < length s.network.device
  few n lt = rw old.same at lt

  -- then nothing of the world is before the place
  pub of_world : {p : List ℕ} → AreUnderWay network state.under_way.entries → HasNothingBefore reading stands network state p
      → NothingBefore (keeps stands) s (world_of network state) p
  of_world {p} under_way has = record {
    wires = λ e i b.
        let g = given_of (on_wire network) state.under_way.entries e i in
        has.under_way g.0 g.1
        (rw (wire_numbers network g.0.place g.0.content e g.2 (under_way.kinds g.0 g.1)) at b);
    ports = λ e i b.
        let g = given_of at_port state.under_way.entries e i in
        has.under_way g.0 g.1 (rw (port_numbers g.0.place g.0.content e g.2 (under_way.kinds g.0 g.1)) at b);
    waiting = λ e i t from reached b.
        let w = made_of waiting_as state.waiting.items e i in
        let of_it = waits_there old.range old.run.founded (old.waiting.real e i) in
        let own = old.clocks e.device of_it in
        has.waiting w.0 own.0 w.1 (ap (λ x. slice_get state.clocks.items x.device.0) w.2 ∙ own.1) t from
        (subst (λ x. x.point.0 ≤ℤ pos (reading own.0 t)) (sym w.2)
        (subst (λ n. e.point.0 ≤ℤ pos n) (own.2 t from) reached))
        (rw w.2 b);
    acting = λ device machine node task held kept pending t from reached b.
        let within = slice_get_within state.machines.items device.0 machine held in
        let sizes = sized.machines in
        let own = old.clocks device (few device.0 (omega arith)) in
        has.acting device machine own.0 node task held own.1
        (rw old.same kept)
        (rw old.same pending) t from
        (subst (λ k. reading_for k node task ≤ℤ pos (reading own.0 t)) (sym old.same)
        (subst (λ n. reading_for s.network node task ≤ℤ pos n) (own.2 t from) reached))
        (rw old.same b);
    befell = has.befell;
    clocks = λ device of_it ended shown b.
        has.clocks ended
        (rw old.same (omega arith))
        (shown_earlier state.time state.shown device.0 p shown b);
  }

-- ---- places of one time, or of a later one

-- what is no earlier, and at the time not before by its rank, is not before
pub not_earlier : (t now : ℕ) (rest more : List ℕ) → now ≤ t → (t ≡ now → IsBefore rest more → ⊥) → IsBefore (t ∷ rest) (now ∷ more) → ⊥
not_earlier t now rest more le ranks (inl lt) = omega arith
not_earlier t now rest more le ranks (inr (e, b)) = ranks e b

pub higher : (high rank : ℕ) (rest more : List ℕ) → rank < high → IsBefore (high ∷ rest) (rank ∷ more) → ⊥
higher high rank rest more lt (inl less) = omega arith
higher high rank rest more lt (inr (e, b)) = omega arith

-- a place of a rank is not before the first of its rank
pub not_first : (rank low : ℕ) (rest : List ℕ) → low ≤ rank → IsBefore (rank ∷ rest) (low ∷ []) → ⊥
not_first rank low rest le (inl lt) = omega arith
not_first rank low rest le (inr (e, b)) = b

-- a place of a run is in time
pub of_run : (now : ℕ) (rest : List ℕ) → now ≤ 2 ^ 60 → IsBefore ((2 ^ 60 + 1) ∷ []) (now ∷ rest) → ⊥
of_run now rest le (inl lt) = omega arith
of_run now rest le (inr (e, b)) = omega arith

pub of_end : (until : ℕ) → until ≤ 2 ^ 60 + 1 → IsBefore ((2 ^ 60 + 1) ∷ []) (until ∷ []) → ⊥
of_end until le (inl lt) = omega arith
of_end until le (inr (e, b)) = b

-- ---- nothing under way, and no timer, is past

module _ {C M : Type 0} {reading : C → ℕ → ℕ} {stands : Meaning M} {network : Network} {state : State C M}
    (running : IsRunning reading stands network state) where
  -- no place before the present time is still to be worked off
  past : (p q : List ℕ) → p ≡ q → (IsBefore p running.is.frontier → ⊥) → IsBefore q (state.time ∷ []) → ⊥
  past p q same not b = not (rw same (running.is.of_now q b))

  entry_later : (e : Entry Content) (content : Content) → e.content ≡ content → IsIn e state.under_way.entries → e.place.rank ≡ rank_of content
      → state.time ≤ e.place.at
  entry_later e (Wire signal) is there kind =
      let x : OnWire = record {
        at = e.place.at;
        device = record { 0 = e.place.device };
        link = record { 0 = e.place.link };
        cause = e.place.cause;
        signal = Rattle.world_state.specs.Views.signal_as network signal;
      } in
      let i = is_given (on_wire network) state.under_way.entries e x there (ap (wire_at network e.place) is) in
      elim (cases_lt e.place.at state.time) [
        | inl lt ↦ absurd (past (wire_place x) (wire_place x) refl (running.is.wires.real x i).2 (inl lt))
        | inr le ↦ le
      ]
  entry_later e (Port frame given) is there kind =
      let x : AtPort = record {
        at = e.place.at;
        device = record { 0 = e.place.device };
        link = record { 0 = e.place.link };
        cause = e.place.cause;
        frame = frame;
        reading = given;
      } in
      let i = is_given at_port state.under_way.entries e x there (ap (port_at e.place) is) in
      elim (cases_lt e.place.at state.time) [
        | inl lt ↦ absurd (past (port_place x) (port_place x) refl (running.is.ports.real x i).1 (inl lt))
        | inr le ↦ le
      ]

  -- nothing that is under way is past
  pub entries_later : AreUnderWay network state.under_way.entries → (e : Entry Content) → IsIn e state.under_way.entries → state.time ≤ e.place.at
  entries_later are e there = entry_later e e.content refl there (are.kinds e there)

  -- nor the first place
  pub first_later : AreUnderWay network state.under_way.entries → {place : DueAt} → IsFirst state.under_way.entries place → state.time ≤ place.at
  first_later are first = rw first.at at (entries_later are first.entry first.there)

  -- the node of a device's machine
  pub node_of : (device : DeviceId) {machine : Kept M} → device.0 < length network.device → slice_get state.machines.items device.0 ≡ Some machine
      → (node : Node) × keeps stands machine network device node
  node_of device {machine} of_it held =
      let s = running.s in
      let own = running.is.devices device (rw running.is.same at of_it) in
      let same : own.0 ≡ machine = cc in
      let is : (node : Node) × keeps stands own.0 s.network device node = elim own.2 [ inl k ↦ (k.node, k.is) | inr o ↦ (o.node, o.is) ] in (
        is.0,
        rw (sym same) (rw (sym running.is.same) at is.1),
      )

  -- where nothing is before a time, no timer is
  pub timers_later : {t : ℕ} → t ≤ never → AreTimed reading stands network state → HasNothingBefore reading stands network state (t ∷ [])
      → AreFrom t state.timers
  timers_later {t} most are has = λ k d lt.
      let slots = are.sized in
      let now = are.later k d lt in
      elim (cases_lt (get_or state.timers k d).time t) [
        | inr le ↦ le
        | inl sooner ↦
            elim (cases_lt k (length network.device)) [
              | inl low ↦
                  let timed = (are.each (record { 0 = k }) low).ripe in
                  let is : (get_or state.timers k d).time ≡ timed.ripe = ap Timer.time
                  (get_or_from_slice_get state.timers k (record { time = timed.ripe; rank = 3 }) d timed.of_ripe) in
                  let w = timed.ripens.one (omega arith) in
                  absurd (has.waiting w.0 timed.clock w.1 (rw w.2 timed.of_clock) timed.ripe
                  (omega (arith, now)) w.3 (inl (omega arith)))
              | inr high ↦
                  let device : DeviceId = record { 0 = k - length network.device } in
                  let of_it : device.0 < length network.device = omega arith in
                  let timed = (are.each device of_it).act in
                  let slot : k ≡ length network.device + device.0 = omega arith in
                  let is : (get_or state.timers k d).time ≡ timed.act = ap Timer.time
                  (get_or_from_slice_get state.timers k (record { time = timed.act; rank = part_rank timed.part }) d
                  (ap (λ n. slice_get state.timers n) slot ∙ timed.of_act)) in
                  let node = node_of device of_it timed.of_machine in
                  let task = timed.acts.one (omega arith) node.0 node.1 in
                  absurd (has.acting device timed.machine timed.clock node.0 task.0 timed.of_machine timed.of_clock node.1 task.1 timed.act
                  (omega (arith, now)) task.2 (inl (omega arith)))
            ]
      ]

-- ---- the source that comes first

if_some : {X : Type 0} (P : X → Type 0) (o : Option X) → ((x : X) → o ≡ Some x → P x) → IfSome o P
if_some P None each = tt
if_some P (Some x) each = each x refl

pub from_some : {X : Type 0} (P : X → Type 0) (o : Option X) {x : X} → IfSome o P → o ≡ Some x → P x
from_some P None is e = absurd cc
from_some {X} P (Some y) {x} is e = let same : y ≡ x = cc in subst P same is

rank_is : (content : Content) → (rank_of content ≡ 2) ⊎ (rank_of content ≡ 8)
rank_is (Wire signal) = inl refl
rank_is (Port frame reading) = inr refl

-- the place is of this time and rank
pub record HasShape (devices : ℕ) (due : SlotTimer) (p : List ℕ) : Type 0 where
  pub rank : ℕ
  pub rest : List ℕ
  pub is : p ≡ due.time ∷ rank ∷ rest
  pub least : 3 ≤ rank
  pub most : rank ≤ 6

shape_of : {C M : Type 0} {reading : C → ℕ → ℕ} {network : Network} {state : State C M} {due : SlotTimer} {p : List ℕ}
    → (3 ≤ due.rank) × (due.rank ≤ 6) → (p ≡ due_place (length network.device) due)
    ⊎ IsRipePlace reading network state due p → HasShape (length network.device) due p
shape_of {network} {due} ranks (inl e) =
    record { rank = due.rank; rest = device_of_slot (length network.device) due.slot ∷ []; is = e; least = ranks.0; most = ranks.1 }
shape_of ranks (inr r) = grind arith

module _ {C M : Type 0} {last_step : C → ℕ} {reading : C → ℕ → ℕ} {stands : Meaning M} {network : Network}
    {state : State C M} {place : Option DueAt} {due : Option SlotTimer}
    (well : IsWell last_step reading stands network state) (firsts : AreFirsts state place due) where
  abbrev now : ℕ
  now = state.time

  first_is : {q : DueAt} → place ≡ Some q → IsFirst state.under_way.entries q
  first_is {q} e = from_some (λ p. IsFirst state.under_way.entries p) place firsts.some_place e

  first_rank : {q : DueAt} → place ≡ Some q → (q.rank ≡ 2) ⊎ (q.rank ≡ 8)
  first_rank {q} e =
      let first = first_is e in
      let kind = well.sound.under_way.kinds first.entry first.there in
      let rank = sym (ap DueAt.rank first.at) ∙ kind in
      elim (rank_is first.entry.content) [ inl two ↦ inl (rank ∙ two) | inr eight ↦ inr (rank ∙ eight) ]

  place_later : {q : DueAt} → place ≡ Some q → now ≤ q.at
  place_later {q} e = first_later well.running well.sound.under_way (first_is e)

  due_later : {d : SlotTimer} → due ≡ Some d → now ≤ d.time
  due_later {d} e = due_time well.timed (from_some (λ x. IsFirstDue state.timers x) due firsts.some_due e)

  due_ranks_are : {d : SlotTimer} → due ≡ Some d → (3 ≤ d.rank) × (d.rank ≤ 6)
  due_ranks_are {d} e = due_ranks well.timed (from_some (λ x. IsFirstDue state.timers x) due firsts.some_due e)

  -- none is before the place, where each is so
  are_not : (p : List ℕ) → (IsBefore ((2 ^ 60 + 1) ∷ []) p → ⊥)
      → ((q : DueAt) → place ≡ Some q → now ≤ q.at → (q.rank ≡ 2) ⊎ (q.rank ≡ 8) → IsBefore (numbers_of q) p → ⊥) → ((d : SlotTimer) → due ≡ Some d → now ≤ d.time
      → (IsBefore (due_place (length network.device) d) p → ⊥) ⊎ IsRipePlace reading network state d p) → (state.pending ≡ true → IsBefore (now ∷ 2 ∷ []) p → ⊥)
      → (state.ended ≡ true → state.shown < length network.device → IsBefore (now ∷ 14 ∷ state.shown ∷ []) p → ⊥)
      → HasNothingBefore reading stands network state p
  are_not p in_time places dues befell clocks =
      nothing_before well.sound.sized well.timed firsts
      (record {
        in_time = in_time;
        under_way = if_some (λ q. IsBefore (numbers_of q) p → ⊥) place
            (λ q e. places q e (place_later e) (first_rank e));
        timers = if_some (λ d. (IsBefore (due_place (length network.device) d) p → ⊥) ⊎ IsRipePlace reading network
            state d p) due
            (λ d e. dues d e (due_later e));
        befell = befell;
        clocks = clocks;
      })

  -- a timer is not before what is of the present time and a lower rank
  after_lower : (rank : ℕ) (rest : List ℕ) (d : SlotTimer) → rank < 3 → 3 ≤ d.rank → now ≤ d.time → IsBefore (due_place (length network.device) d) (now ∷ rank ∷ rest) → ⊥
  after_lower rank rest d lt high le =
      not_earlier d.time now (d.rank ∷ device_of_slot (length network.device) d.slot ∷ []) (rank ∷ rest) le
      (λ e. higher d.rank rank (device_of_slot (length network.device) d.slot ∷ []) rest (omega arith))

  -- a timer of a later time is not before a place of the present time
  after_now : (more : List ℕ) (d : SlotTimer) → (d.time ≡ now → ⊥) → now ≤ d.time → IsBefore (due_place (length network.device) d) (now ∷ more) → ⊥
  after_now more d not le =
      not_earlier d.time now (d.rank ∷ device_of_slot (length network.device) d.slot ∷ []) more le (λ e. absurd (not e))

  clocks_after : (rank : ℕ) (rest : List ℕ) → rank < 14 → IsBefore (now ∷ 14 ∷ state.shown ∷ []) (now ∷ rank ∷ rest) → ⊥
  clocks_after rank rest lt = not_earlier now now (14 ∷ state.shown ∷ []) (rank ∷ rest) (omega arith) (λ e. higher 14 rank (state.shown ∷ []) rest lt)

  none_befell : (p : List ℕ) → state.pending ≡ false → state.pending ≡ true → IsBefore (now ∷ 2 ∷ []) p → ⊥
  none_befell p calm told = absurd (both_ways state.pending calm told)

  -- the outcomes of the events of the instant
  pub events_first : HasNothingBefore reading stands network state (state.time ∷ 2 ∷ [])
  events_first =
      are_not (now ∷ 2 ∷ []) (of_run now (2 ∷ []) well.sound.sized.limit)
      (λ q e le rank. not_earlier q.at now (q.rank ∷ q.device ∷ q.link ∷ q.cause ∷ []) (2 ∷ []) le
      (λ same. not_first q.rank 2 (q.device ∷ q.link ∷ q.cause ∷ [])
      (elim rank [ inl two ↦ omega arith | inr eight ↦ omega arith ])))
      (λ d e le. inl (after_lower 2 [] d (omega arith) (due_ranks_are e).0 le))
      (λ yes. never_self (now ∷ 2 ∷ []))
      (λ ended more. clocks_after 2 [] (omega arith))

  -- what is the first that is under way, and there now
  placed_first : {q : DueAt} {rank : ℕ} → rank < 14 → state.pending ≡ false → place ≡ Some q → q.at ≡ state.time → q.rank ≡ rank
      → ((d : SlotTimer) → due ≡ Some d → now ≤ d.time → IsBefore (due_place (length network.device) d) (now ∷ rank ∷ q.device ∷ q.link ∷ q.cause ∷ []) → ⊥)
      → HasNothingBefore reading stands network state (numbers_of q)
  placed_first {q} {rank} lt calm is at of_rank dues =
      let rest = q.device ∷ q.link ∷ q.cause ∷ [] in
      let same : now ∷ rank ∷ rest ≡ numbers_of q = rw (sym at) (ap (λ n. q.at ∷ n ∷ rest) (sym of_rank)) in
      subst (HasNothingBefore reading stands network state) same
      (are_not (now ∷ rank ∷ rest) (of_run now (rank ∷ rest) well.sound.sized.limit)
      (λ r e le either.
      let one : q ≡ r = cc in
      subst (λ x. IsBefore (numbers_of x) (now ∷ rank ∷ rest) → ⊥) one
      (subst (λ p. IsBefore p (now ∷ rank ∷ rest) → ⊥) same (never_self (now ∷ rank ∷ rest))))
      (λ d e le. inl (dues d e le)) (none_befell (now ∷ rank ∷ rest) calm) (λ ended more. clocks_after rank rest lt))

  -- what arrives now
  pub arrival_first : {q : DueAt} → state.pending ≡ false → place ≡ Some q → q.at ≡ state.time → q.rank ≡ 2
      → HasNothingBefore reading stands network state (numbers_of q)
  arrival_first {q} calm is at rank =
      placed_first (omega arith) calm is at rank (λ d e le. after_lower 2 (q.device ∷ q.link ∷ q.cause ∷ []) d (omega arith) (due_ranks_are e).0 le)

  -- what is due by a timer now
  pub slot_first : (d : SlotTimer) (p : List ℕ) → state.pending ≡ false → IfSome place (λ q. q.at ≡ state.time → q.rank ≡ 2 → ⊥) → due ≡ Some d
      → d.time ≡ state.time → (p ≡ due_place (length network.device) d) ⊎ IsRipePlace reading network state d p
      → HasNothingBefore reading stands network state p
  slot_first d p calm no_arrival is at of_slot =
      let shape = shape_of (due_ranks_are is) of_slot in
      let rank = shape.rank in
      let most = shape.most in
      let of_now = shape.is ∙ ap (λ n. n ∷ rank ∷ shape.rest) at in
      are_not p (rw of_now (of_run now (rank ∷ shape.rest) well.sound.sized.limit))
      (λ q e le either.
      rw of_now (not_earlier q.at now (q.rank ∷ q.device ∷ q.link ∷ q.cause ∷ []) (rank ∷ shape.rest) le
      (λ same. higher q.rank rank (q.device ∷ q.link ∷ q.cause ∷ []) shape.rest
      (elim either [
        | inl two ↦ absurd (from_some (λ x. x.at ≡ state.time → x.rank ≡ 2 → ⊥) place no_arrival e same two)
        | inr eight ↦ omega arith
      ]))))
      (λ x e le.
      let same : d ≡ x = cc in
      rw (sym same) (elim of_slot [
        | inl own ↦ inl (rw (sym own) (never_self p))
        | inr ripe ↦ inr ripe
      ]))
      (none_befell p calm)
      (λ ended more. rw of_now (clocks_after rank shape.rest (omega arith)))

  -- what leaves now
  pub departure_first : (q : DueAt) → state.pending ≡ false → IfSome due (λ d. d.time ≡ state.time → ⊥) → place ≡ Some q → q.at ≡ state.time → q.rank ≡ 8
      → HasNothingBefore reading stands network state (numbers_of q)
  departure_first q calm no_due is at rank =
      placed_first (omega arith) calm is at rank
      (λ d e le. after_now (8 ∷ q.device ∷ q.link ∷ q.cause ∷ []) d
      (from_some (λ x. x.time ≡ state.time → ⊥) due no_due e) le)

  -- the clock that is to be shown
  pub clock_first : state.pending ≡ false → IfSome place (λ q. q.at ≡ state.time → q.rank ≡ 2 → ⊥) → IfSome due (λ d. d.time ≡ state.time → ⊥)
      → IfSome place (λ q. q.at ≡ state.time → q.rank ≡ 8 → ⊥) → HasNothingBefore reading stands network state (state.time ∷ 14 ∷ state.shown ∷ [])
  clock_first calm no_arrival no_due no_departure =
      are_not (now ∷ 14 ∷ state.shown ∷ []) (of_run now (14 ∷ state.shown ∷ []) well.sound.sized.limit)
      (λ q e le either. not_earlier q.at now (q.rank ∷ q.device ∷ q.link ∷ q.cause ∷ []) (14 ∷ state.shown ∷ []) le
      (λ same. elim either [
        | inl two ↦ absurd (from_some (λ x. x.at ≡ state.time → x.rank ≡ 2 → ⊥) place no_arrival e same two)
        | inr eight ↦ absurd (from_some (λ x. x.at ≡ state.time → x.rank ≡ 8 → ⊥) place no_departure e same eight)
      ]))
      (λ d e le. inl (after_now (14 ∷ state.shown ∷ []) d (from_some (λ x. x.time ≡ state.time → ⊥) due no_due e) le))
      (none_befell (now ∷ 14 ∷ state.shown ∷ []) calm)
      (λ ended more. never_self (now ∷ 14 ∷ state.shown ∷ []))

  -- all that is under way, and each timer, is of a later time
  pub place_after : IfSome place (λ q. q.at ≡ state.time → q.rank ≡ 2 → ⊥) → IfSome place (λ q. q.at ≡ state.time → q.rank ≡ 8 → ⊥)
      → IfSome place (λ q. state.time < q.at)
  place_after no_arrival no_departure =
      if_some (λ q. state.time < q.at) place
      (λ q e.
      let le = place_later e in
      elim (cases_lt now q.at) [
        | inl lt ↦ lt
        | inr ge ↦
            let same : q.at ≡ state.time = omega arith in
            elim (first_rank e) [
              | inl two ↦ absurd (from_some (λ x. x.at ≡ state.time → x.rank ≡ 2 → ⊥) place no_arrival e same two)
              | inr eight ↦ absurd (from_some (λ x. x.at ≡ state.time → x.rank ≡ 8 → ⊥) place no_departure e same eight)
            ]
      ])

  pub due_after : IfSome due (λ d. d.time ≡ state.time → ⊥) → IfSome due (λ d. state.time < d.time)
  due_after no_due =
      if_some (λ d. state.time < d.time) due
      (λ d e.
      let le = due_later e in
      elim (cases_lt now d.time) [
        | inl lt ↦ lt
        | inr ge ↦ absurd (from_some (λ x. x.time ≡ state.time → ⊥) due no_due e (omega arith))
      ])

  -- the first that is under way is at this place of the network
  pub placed : {q : DueAt} → place ≡ Some q → (q.device < length network.device) × (q.link < length network.link)
  placed {q} e =
      let first = first_is e in
      rw first.at at (well.sound.under_way.placed first.entry first.there)

  -- nothing before a time
  pub none_before : (t : ℕ) → t ≤ 2 ^ 60 + 1 → state.pending ≡ false → (state.ended ≡ true → state.shown < length network.device → ⊥)
      → IfSome place (λ q. t ≤ q.at) → IfSome due (λ d. t ≤ d.time) → HasNothingBefore reading stands network state (t ∷ [])
  none_before t most calm no_clock places dues =
      are_not (t ∷ []) (of_end t most)
      (λ q e le either. not_first q.at t (q.rank ∷ q.device ∷ q.link ∷ q.cause ∷ [])
      (from_some (λ x. t ≤ x.at) place places e))
      (λ d e le. inl (not_first d.time t (d.rank ∷ device_of_slot (length network.device) d.slot ∷ [])
      (from_some (λ x. t ≤ x.time) due dues e)))
      (none_befell (t ∷ []) calm)
      (λ ended more. absurd (no_clock ended more))

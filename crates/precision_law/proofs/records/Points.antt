-- What is due in a view is recorded, and of what records its correction points come.
use Rattle.precision_law.proofs.{faults.Masters.good_is_correct}
use Rattle.precision_law.proofs.{records.{Judged.all_judge, Times.{AreSorted, earlier_front}, Views.in_order}}
use Rattle.precision_law.proofs.words.Laws
use Laws.{AreBeforeCorrections, IsEmission, IsGood, IsPermanentAt, IsView, View, has_time, last_setting, state_left}
use Rattle.precision_law.proofs.words.Plans
use Plans.{AreClusters, Cluster, DeviceId, Integrating, IsReach, LinkId, Off, Pcf, State, Taken, Verdict, amount}
use Plans.{emission, one_list_of_clusters, point_at, point_in, point_of, role, units_of}
use Rattle.precision_law.proofs.words.Runs
use Runs.{AllBefore, BecomesPermanent, ComesToCorrection, Emits, Happening, IsCaused, IsCollectedOrDropped}
use Runs.{IsCollectionOutcome, IsDue, IsFounded, IsFoundedAt, IsIn, IsPermanenceOutcome, IsPermanent, IsSplit}
use Runs.{Judgement, NoneBefore, NoteBody, Reaches, Reason, adjustment_at_hearing, adjustment_before, by_number}
use Runs.{changes_adjustment, due_is_there, earlier, front_founded, happening, heard_as, in_filter, in_front_of}
use Runs.{in_right, is_cm, is_turned_on_at, key, master_of, members_in, observation_window, place_of, plan_of}
use Runs.{point_fault, points_of, rank, ripe_as, sign, state_after, state_at_hearing, state_before, time_of, waits_for}
use Rattle.precision_law.proofs.words.Std
use Std.{if◌then◌else◌, ◌++◌, ◌+◌, ◌<◌, ◌∙◌, ◌∷◌, ◌≡◌, ◌≤◌, ◌⊎◌, Bool, Contains, List, MatchBool, None, Option, Some}
use Std.{[], ap, arith, cases_lt, false, filter, inl, inr, ints, last_or, pos, refl, subst, sym, true, unsigned_abs, ℕ}
use Std.{ℤ}
use Rattle.run_law.proofs.{device.States.reaches_by, law.FirstDeliveries.{next_due, next_note}}
use Rattle.run_law.proofs.records.Order.{ahead, from_earlier, has_passed, soon, time_before}
use Rattle.tte_units.proofs.general_lemmas.Bools.{match_false}
use Rattle.compression.specs.declared.taken.Taken.TheVariants as taken
use Rattle.run_law.specs.declared.judgement.Judgement.TheVariants as judgements
use Rattle.run_law.specs.declared.note.NoteBody.TheVariants as notes

-- ---- what is due is recorded: the frames of clusters, and what is permanent: what is sent

-- what a time of the run brings, given the records before its place, is recorded
pub due_there : {v : View} (t : ℕ) (body : NoteBody) {p : List ℕ} (at : IsSplit place_of v.records p) → IsView v
    → t ≤ v.until → place_of (happening v.scenario.network at.front (next_note at.front t body)) ≡ p
    → IsCaused v.scenario at.front (units_of t) body → IsIn
    (happening v.scenario.network at.front (next_note at.front t body)) v.records
due_there {v} t body at is within same cause =
    due_is_there (record {
      front = at.front;
      rest = at.rest;
      whole = at.whole;
      before = subst (AllBefore place_of at.front) (sym same) at.before;
      none = subst (NoneBefore place_of at.rest) (sym same) at.none;
    }) is.run (next_due v.scenario at.front t body cause) (inl (omega arith))

-- the emission reading of a cluster
abbrev pub sent_at : View → Cluster → ℤ
sent_at v c = emission (observation_window v.scenario.network) (pos (amount v.scenario.network.calc)) c

-- where the frame of a cluster stands in the order, if it is sent at the time
abbrev pub place_of_sent : View → DeviceId → Cluster → ℕ → List ℕ
place_of_sent v cm c t = t ∷ 4 ∷ cm.0 ∷ unsigned_abs c.opened ∷ unsigned_abs (sent_at v c) ∷ c.cycle ∷ c.members ∷ sign c.opened ∷ sign (sent_at v c) ∷ []

-- the frame of the cluster was sent at the time
pub record IsSentAt (v : View) (cm : DeviceId) (c : Cluster) (t : ℕ) : Type 0 where
  pub h : Happening
  pub emission : IsEmission v h cm c.cycle (record { 0 = c.members })
  pub at_is : emission.at.0 ≡ sent_at v c
  pub time : time_of h ≡ t

-- where a compression master's reading first reaches the emission reading of a cluster of its points so far, the frame
-- of the cluster is sent
pub is_sent : {v : View} (cm : DeviceId) (t : ℕ) (c : Cluster) (clusters : List Cluster) (is : IsView v)
    → is_cm v.scenario.network cm ≡ true → IsGood v cm → t ≤ v.until
    → (at : IsSplit place_of v.records (place_of_sent v cm c t))
    → AreClusters (observation_window v.scenario.network) (points_of at.front cm) clusters → Contains clusters c
    → IsReach (v.scenario.reading cm) (pos 0) (sent_at v c) (pos t) → IsSentAt v cm c t
is_sent {v} cm t c clusters is one good within at are there reached =
    let s = v.scenario in
    let n = s.network in
    let verdict = heard_as (plan_of n cm) (observation_window n) (state_at_hearing s at.front cm t) (adjustment_at_hearing s at.front cm t).0 (sent_at v c)
    c.cycle (record { 0 = c.members }) in
    let body = notes.Compressed cm (record { 0 = c.opened }) (record { 0 = sent_at v c }) c.cycle
    (record { 0 = c.members }) verdict in
    let emits : Emits s at.front cm t
    (record { opened = record { 0 = c.opened }; at = record { 0 = sent_at v c }; cycle = c.cycle; members = record { 0 = c.members } }) verdict =
    record {
      cm = one;
      correct = good_is_correct v cm t good within;
      clusters = clusters;
      are = are;
      cluster = c;
      there = there;
      is = refl;
      reached = reached;
      heard = refl;
    } in
    let h = happening n at.front (next_note at.front t body) in
    record {
      h = h;
      emission = record {
        there = due_there t body at is within refl emits;
        opened = record { 0 = c.opened };
        at = record { 0 = sent_at v c };
        verdict = verdict;
        is = refl;
      };
      at_is = refl;
      time = refl;
    }

-- ---- what is permanent

-- what has arrived, and is permanent at q: the number of its record, and its frame
pub record IsRipeArrival (v : View) (device : DeviceId) (arrival : Happening) (link : LinkId) (frame : Pcf) (point : ℤ) (q : ℕ) : Type 0 where
  pub there : IsIn arrival v.records
  pub of_frame : arrival.frame ≡ Some frame
  pub waits : waits_for v.scenario.network device link ≡ true
  pub good : IsGood v device
  pub permanent : IsPermanentAt v arrival device point q
  pub by_link : permanent.link ≡ link
  pub later : time_of arrival ≤ q
  pub in_run : q ≤ v.until

-- its place in the order
abbrev pub place_of_ripe : DeviceId → Happening → LinkId → Pcf → ℤ → ℕ → List ℕ
place_of_ripe device arrival link frame point q = q ∷ 3 ∷ device.0 ∷ unsigned_abs point ∷ frame.members.0 ∷ link.0 ∷ arrival.note.number ∷ []

-- it has a record of its permanence
pub record IsRipeRecord (v : View) (device : DeviceId) (arrival : Happening) (link : LinkId) (point : ℤ) (q : ℕ) (verdict : Judgement)
    (frame : Pcf) : Type 0 where
  pub h : Happening
  pub there : IsIn h v.records
  pub is : h.note.body ≡ notes.Permanent device link arrival.note.number (record { 0 = point }) verdict
  pub time : time_of h ≡ q
  pub of_frame : h.frame ≡ Some frame

-- given those before its place, it becomes what the law of permanence says: where this is a judgement, there is a
-- record of it
pub is_recorded : {v : View} {device : DeviceId} {arrival : Happening} {link : LinkId} {frame : Pcf} {point : ℤ}
    {q : ℕ} (verdict : Judgement) (is : IsView v) → IsRipeArrival v device arrival link frame point q
    → (at : IsSplit place_of v.records (place_of_ripe device arrival link frame point q))
    → IsPermanenceOutcome v.scenario.network device (state_at_hearing v.scenario at.front device q)
    (adjustment_at_hearing v.scenario at.front device q).0 (points_of at.front device) frame point (ripe_as verdict)
    → IsRipeRecord v device arrival link point q verdict frame
is_recorded {v} {device} {arrival} {link} {frame} {point} {q} verdict is r at becomes =
    let s = v.scenario in
    let n = s.network in
    let number = arrival.note.number in
    let body = notes.Permanent device link number (record { 0 = point }) verdict in
    let p = r.permanent in
    let arrives = p.is ∙ ap (λ l. notes.Arrived device l p.from p.clock) r.by_link in
    let sooner = ahead (time_of arrival) q (rank arrival.note.body) 3
    (key (members_in arrival) arrival.note.body) (device.0 ∷ unsigned_abs point ∷ frame.members.0 ∷ link.0 ∷ number ∷ []) r.later
    (let two : rank arrival.note.body ≡ 2 = ap rank arrives in omega arith) in
    let front = front_founded place_of (IsDue s) at.front at.rest (subst (IsFounded place_of (IsDue s)) at.whole is.run.founded) in
    let found =
    by_number s at.front arrival front (in_front_of at arrival r.there sooner) in
    let dmax_is : n.dmax.0 ≡ pos v.sizes.dmax = (let least = is.lawful.range.dmax.least in
    let size : v.sizes.dmax ≡ amount n.dmax = rw is.sizes in omega (arith, ints)) in
    let permanent : IsPermanent s at.front device q link number frame (record { 0 = point }) =
    grind (arith, p.from, p.clock, p.at_point, point_of, s.reading, time_of, p.reached, good_is_correct) in
    let judged = rw (sym (all_judge at.front q device link number frame (record { 0 = point }) at.before)) at becomes in
    let ripens : BecomesPermanent s at.front device q link number (record { 0 = point }) (ripe_as verdict) =
    record { frame = frame; permanent = permanent; becomes = judged } in
    let h = happening n at.front (next_note at.front q body) in
    let framed : h.frame ≡ Some frame = rw found r.of_frame in
    let members : members_in h ≡ frame.members.0 = rw framed in
    let place = ap (λ m. q ∷ 3 ∷ device.0 ∷ unsigned_abs point ∷ m ∷ link.0 ∷ number ∷ []) members in
    record {
      h = h;
      there = due_there q body at is r.in_run place
          ripens;
      is = refl;
      time = refl;
      of_frame = framed;
    }

-- ---- what a compression master collects

if_true : (b : Bool) (P Q : Type 0) → b ≡ true → P → MatchBool b P Q
if_true true P Q e p = p
if_true false P Q e p = absurd cc

-- a frame that is permanent at a compression master, and has no fault, has a record that gives its point, but where it
-- is dropped since it lies in the time of a cluster of another cycle
pub is_collected : {v : View} {cm : DeviceId} {arrival : Happening} {link : LinkId} {frame : Pcf} {point : ℤ} {q : ℕ}
    (is : IsView v) → is_cm v.scenario.network cm ≡ true → IsRipeArrival v cm arrival link frame point q
    → (at : IsSplit place_of v.records (place_of_ripe cm arrival link frame point q))
    → point_fault v.scenario.network (state_at_hearing v.scenario at.front cm q)
    (adjustment_at_hearing v.scenario at.front cm q).0 point frame.cycle ≡ None →
    ((clusters : List Cluster) × AreClusters (observation_window v.scenario.network) (points_of at.front cm) clusters
    × (role clusters (point_at point (master_of frame.members.0) frame.cycle) ≡ taken.OtherCycle))
    ⊎ ((verdict : Judgement) × IsRipeRecord v cm arrival link point q verdict frame)
is_collected {v} {cm} {arrival} {link} {frame} {point} {q} is one r at fine =
    let found = one_list_of_clusters (observation_window v.scenario.network) (points_of at.front cm) in
    by found.0 found.1 (role found.0 (point_at point (master_of frame.members.0) frame.cycle)) refl
  where
    becomes : (o : Option Reason) (verdict : Judgement) → o ≡ None
        → IsCollectionOutcome v.scenario.network (points_of at.front cm) (point_at point (master_of frame.members.0) frame.cycle) (ripe_as verdict)
        → IsCollectedOrDropped v.scenario.network (points_of at.front cm) (point_at point (master_of frame.members.0) frame.cycle) o (ripe_as verdict)
    becomes None verdict e so = so
    becomes (Some reason) verdict e so = absurd cc

    kept : (verdict : Judgement)
        → IsCollectionOutcome v.scenario.network (points_of at.front cm) (point_at point (master_of frame.members.0) frame.cycle) (ripe_as verdict)
        → (verdict : Judgement) × IsRipeRecord v cm arrival link point q verdict frame
    kept verdict so =
        (verdict, is_recorded verdict is r at (if_true (is_cm v.scenario.network cm) _ _ one (becomes _ verdict fine so)))

    by : (clusters : List Cluster) → AreClusters (observation_window v.scenario.network) (points_of at.front cm) clusters → (t : Taken)
        → role clusters (point_at point (master_of frame.members.0) frame.cycle) ≡ t
        → ((clusters : List Cluster) × AreClusters (observation_window v.scenario.network) (points_of at.front cm) clusters
        × (role clusters (point_at point (master_of frame.members.0) frame.cycle) ≡ taken.OtherCycle))
        ⊎ ((verdict : Judgement) × IsRipeRecord v cm arrival link point q verdict frame)
    by clusters are taken.OtherCycle e = inl (clusters, are, e)
    by clusters are taken.Opened e =
        inr (kept judgements.Opened (record { taken = taken.Opened; collected = record { clusters = clusters; are = are; is = sym e }; becomes = refl }))
    by clusters are taken.Joined e =
        inr (kept judgements.Joined (record { taken = taken.Joined; collected = record { clusters = clusters; are = are; is = sym e }; becomes = refl }))
    by clusters are taken.Repeat e =
        inr (kept judgements.Repeat (record { taken = taken.Repeat; collected = record { clusters = clusters; are = are; is = sym e }; becomes = refl }))

-- a frame that is permanent at any other device has a record, by which the device hears it
pub is_heard_of : {v : View} {device : DeviceId} {arrival : Happening} {link : LinkId} {frame : Pcf} {point : ℤ}
    {q : ℕ} (is : IsView v) → is_cm v.scenario.network device ≡ false
    → IsRipeArrival v device arrival link frame point q
    → (at : IsSplit place_of v.records (place_of_ripe device arrival link frame point q))
    → IsRipeRecord v device arrival link point q
    (heard_as (plan_of v.scenario.network device) (observation_window v.scenario.network) (state_at_hearing
    v.scenario at.front device q) (adjustment_at_hearing v.scenario at.front device q).0 point frame.cycle
    frame.members) frame
is_heard_of {v} {device} is other r at =
    is_recorded _ is r at (match_false (is_cm v.scenario.network device) _ _ other refl)

-- ---- the records of a view with those before them, and the correction points that they come of

-- ---- records with those before them

-- each record of a view is of a time up to its end
pub within_run : {v : View} → IsView v → (h : Happening) → IsIn h v.records → time_of h ≤ v.until
within_run {v} is h i = let lt = soon h (v.until + 1) (is.run.within h i) in omega arith

-- of sorted records those before one are not later, and those behind it not earlier
pub sorted_parts : (ps qs : List Happening) (x : Happening) → AreSorted (ps ++ x ∷ qs) → ((y : Happening) → IsIn y ps → time_of y ≤ time_of x)
    × ((y : Happening) → IsIn y qs → time_of x ≤ time_of y)
sorted_parts [] qs x order = (λ y i. absurd i, order.0)
sorted_parts (p ∷ ps) qs x order =
    let more = sorted_parts ps qs x order.1 in (
      λ y i. elim i [
        | inl same ↦ (let up = order.0 x (in_right x ps (x ∷ qs) (inl refl)) in rw same up)
        | inr later ↦ more.0 y later
      ],
      more.1,
    )

-- those before a record are the records before corrections at its time
pub before_of : {v : View} {h : Happening} → IsView v → (at : IsFoundedAt v.scenario v.records h)
    → AreBeforeCorrections v (time_of h) at.front
before_of {h} is at =
    let parts = sorted_parts at.front at.rest h (subst AreSorted at.whole (in_order is)) in
    record { rest = h ∷ at.rest; whole = at.whole; later = λ g i. elim i [ inl same ↦ (rw same (omega arith)) | inr more ↦ parts.1 g more ]; only = parts.0 }

-- a record at a place of the view, with those before it
abbrev pub founded_by : (v : View) (front rest : List Happening) (h : Happening) → IsView v → v.records ≡ front ++ h ∷ rest → IsFoundedAt v.scenario v.records h
founded_by v front rest h is whole = record {
  front = front;
  rest = rest;
  whole = whole;
  due = (is.run.founded front rest h whole).1;
  founded = front_founded place_of (IsDue v.scenario) front (h ∷ rest) (subst (IsFounded place_of (IsDue v.scenario)) whole is.run.founded);
}

-- they have all earlier records
pub earlier_before : {v : View} {t : ℕ} {front : List Happening} → AreBeforeCorrections v t front
    → earlier t front ≡ earlier t v.records
earlier_before {t} {front} split = earlier_front t front split.rest split.later ∙ ap (earlier t) (sym split.whole)

-- ---- correction points

-- a state that has a correction point has the common time
pub point_has_time : (state : State) (n cycle : ℕ) → point_in state n ≡ Some cycle → has_time state ≡ true
point_has_time Off n cycle e = absurd cc
point_has_time Integrating n cycle e = absurd cc
point_has_time state n cycle e = refl

-- a device that is not just turned on has the state that the records leave
not_turned_on : (b : Bool) (state : State) → has_time (if b then Integrating else state) ≡ true → has_time state ≡ true
not_turned_on true state e = absurd cc
not_turned_on false state e = e

-- one that comes to a correction point has the time
pub point_timed : {v : View} {t : ℕ} {device : DeviceId} {cycle : ℕ} {verdict : Verdict} {front : List Happening}
    → AreBeforeCorrections v t front → ComesToCorrection v.scenario front device t cycle verdict
    → has_time (state_left v device t) ≡ true
point_timed {v} {t} {device} {cycle} {front} split point =
    let now = point_has_time (state_before v.scenario front device t) _ cycle point.next in
    let here = not_turned_on (is_turned_on_at v.scenario device t) (state_after v.scenario (earlier t front) device) now in
    rw (earlier_before split) at here

-- the adjustment is that which the earlier records leave
pub same_adjustment : {v : View} (device : DeviceId) {t : ℕ} {front : List Happening}
    → AreBeforeCorrections v t front → adjustment_before v.scenario front device t
    ≡ adjustment_before v.scenario v.records device t
same_adjustment {v} device split =
    rw (earlier_before split)

-- ---- the last setting

-- the last of a list is in it
pub last_in : {X : Type 0} (o : Option X) (xs : List X) (x : X) → last_or o xs ≡ Some x → (o ≡ Some x) ⊎ IsIn x xs
last_in o [] x e = inl e
last_in {X} o (y ∷ xs) x e = grind (arith, (last_in (Some y) xs x e))

-- the record that set a device's clock last
pub record IsSetting (v : View) (device : DeviceId) (t : ℕ) (h : Happening) : Type 0 where
  pub there : IsIn h v.records
  pub early : time_of h < t
  pub sets : changes_adjustment device h.note.body ≡ true

pub setting_is : (v : View) (device : DeviceId) (t : ℕ) (h : Happening) → last_setting (earlier t v.records) device ≡ Some h → IsSetting v device t h
setting_is v device t h e =
    let sets = λ (g : Happening). changes_adjustment device g.note.body in
    elim (last_in None (filter sets (earlier t v.records)) h e) [
      | inl none ↦ absurd cc
      | inr i ↦
          let back = from_earlier t v.records h (in_filter sets (earlier t v.records) h i) in
          record { there = back.0; early = back.1; sets = has_passed sets (earlier t v.records) h i }
    ]

-- ---- what a clock reaches

-- where a clock reaches a value given the records before, it does given all
pub reaches_whole : {v : View} {device : DeviceId} {value : ℤ} {t : ℕ} {front : List Happening}
    → AreBeforeCorrections v t front → Reaches v.scenario front device value t
    → Reaches v.scenario v.records device value t
reaches_whole {v} {device} {value} {t} {front} split =
    reaches_by v.records (earlier_before split)

-- ---- the records before a place of a time

-- where records part at a place of a time
pub before_place : (v : View) (t : ℕ) (more : List ℕ) (at : IsSplit place_of v.records (t ∷ more)) → AreBeforeCorrections v t at.front
before_place v t more at = grind (arith, cases_lt, time_of, time_before, rank, key, members_in)

-- what a clock reaches given all records it reaches given those before
pub reaches_front : {v : View} {device : DeviceId} {value : ℤ} {t : ℕ} {front : List Happening}
    → AreBeforeCorrections v t front → Reaches v.scenario v.records device value t
    → Reaches v.scenario front device value t
reaches_front {v} {device} {value} {t} {front} before =
    reaches_by front (sym
    (earlier_before before))

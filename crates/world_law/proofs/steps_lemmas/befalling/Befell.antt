-- What the events of an instant leave is settled: the world, its devices and what is under way then.
use Rattle.std.proofs.Common.{flat_map}
use Rattle.net_plan.proofs.SameIds.{alike}
use Rattle.run_law.proofs.{records.Members.in_flat, runs.Places.before_next_time}
use Rattle.world_law.proofs.{devices.Working.{rested, worked_by}, putting.PutIn.split_three}
use Rattle.world_law.proofs.runs.{Over.{StandsOver, stand_of}}
use Rattle.world_law.proofs.{runs.Worlds.{arrives_later, event_cause, event_place, no_part, none_pending}}
use Rattle.world_law.proofs.steps_lemmas.befalling.EventRecords.{AreRising, IsOutcome, adjustment_unmoved, all_bodies}
use Rattle.world_law.proofs.steps_lemmas.befalling.EventRecords.{all_rising, calm_joins, calm_outcome, event_due}
use Rattle.world_law.proofs.steps_lemmas.befalling.EventRecords.{few_all, is_calm, left_all_calm, on_by_event}
use Rattle.world_law.proofs.steps_lemmas.befalling.EventRecords.{on_by_record, recorded, state_unmoved}
use Rattle.world_law.proofs.steps_lemmas.{steps.{Applied.no_coming, AppliedParts.{before_others, own_event}}}
use Rattle.world_law.proofs.steps_lemmas.Words
use Words.{if◌then◌else◌, ◌++◌, ◌+◌, ◌<◌, ◌==◌, ◌∙◌, ◌∷◌, ◌≡◌, ◌≤◌, ◌⊎◌, AllBefore, AreAtPorts, AreOfNetwork}
use Words.{AreOnWires, ArePutIn, AreSettled, AreUntold, AreWaiting, Arrives, AtPort, Befell, Bool, DeviceId, Happening}
use Words.{HasDoneFrom, HaveBefallen, Integrating, IsAtRest, IsBefore, IsCaused, IsDue, IsEventBody, IsFounded, IsHeld}
use Words.{IsIn, IsKept, IsOfThisTime, IsOwnSource, IsPutIn, IsRun, IsSendLost, IsSource, IsTurnedOnBy, Link, LinkId}
use Words.{List, Network, Node, None, NoteBody, OnWire, Option, Scenario, Signal, Some, Units, Up, Waiting, What, World}
use Words.{[], act_place, acts_before, adjustment_after, amount, ap, append-nil, append_assoc, arith, before_behind}
use Words.{behind, bodies_of, both_ways, cases_Bool, cause_of, chain, changed_at, changes_adjustment, clock_place}
use Words.{earlier, earlier_still, either_way, eq-eqb, false, filter, frames_taken, happenings, has_outcome, in_left}
use Words.{in_parts, in_right, inl, inr, ints, is_at_source, is_broken, is_cut, is_joined_by, is_turned_on_at, key}
use Words.{last_or, launched, length, length-append, local_before, members_in, moves, never_self, numbered}
use Words.{numbered_front, numbered_in, numbered_parts, option_map_or, own_time, place_of, rank, refl, ripe_place}
use Words.{settled_as, some_same, subst, suc, sym, taken_in, time_of, true, wire_place, ℕ, ℤ}
use Rattle.world_law.specs.{steps.Befalling.{ArePutBy, BefellStep, befell_bodies}}
use Rattle.world_law.specs.{world.World.{IsDueAs, IsForward, IsWorkedOff}}
use Rattle.net_plan.specs.declared.event.What.TheVariants as events
use Rattle.run_law.specs.declared.judgement.Why.TheVariants as whys
use Rattle.run_law.specs.declared.note.NoteBody.TheVariants as kinds

-- ---- what the events of an instant put on wires, and what else is under way when their outcomes are settled

-- where the events of the instant are to be told: nothing else of it is worked off, and what is before it is
pub record IsTelling (hs : List Happening) (frontier : List ℕ) (now : ℕ) (befell : List Befell) : Type 0 where
  pub untold : AreUntold hs frontier now true befell
  pub over : (p : List ℕ) → IsBefore p (now ∷ []) → IsBefore p frontier
  pub sooner : (h : Happening) → IsIn h hs → (time_of h < now) ⊎ ((time_of h ≡ now) × IsEventBody h.note.body)

-- the frontier goes on
pub goes_on : {hs : List Happening} {frontier : List ℕ} {now : ℕ} {befell : List Befell}
    → IsTelling hs frontier now befell → (p : List ℕ) → IsBefore p frontier → IsBefore p (behind (now ∷ 2 ∷ []))
goes_on {now} m p b =
    chain p (now ∷ 2 ∷ []) (behind (now ∷ 2 ∷ [])) (m.untold.early refl p b) (before_behind (now ∷ 2 ∷ []))

-- what is of rank 2 or more, and no such place, it goes by only where it is of an earlier time
pub earlier_only : (t k w now : ℕ) (ws : List ℕ) → 2 ≤ k → IsBefore (t ∷ k ∷ w ∷ ws) (behind (now ∷ 2 ∷ [])) → t < now
earlier_only t k w now ws high (inl lt) = lt
earlier_only t k w now ws high (inr (e, inl few)) = absurd (omega arith)
earlier_only t k w now ws high (inr (e, inr (r, inl less))) = absurd (omega arith)
earlier_only t k w now ws high (inr (e, inr (r, inr (z, none)))) = absurd none

pub not_gone_by : {hs : List Happening} {frontier : List ℕ} {now : ℕ} {befell : List Befell} (t k w : ℕ) (ws : List ℕ)
    → IsTelling hs frontier now befell → 2 ≤ k → IsBefore (t ∷ k ∷ w ∷ ws) (behind (now ∷ 2 ∷ []))
    → IsBefore (t ∷ k ∷ w ∷ ws) frontier
not_gone_by {now} t k w ws m high b = m.over (t ∷ k ∷ w ∷ ws) (inl (earlier_only t k w now ws high b))

-- ---- wires

-- what an event puts on a wire it puts there as one that has an outcome
launch_out : (s : Scenario) (h : Happening) (t line : ℕ) (what : What) (l : _) → launched s h t (kinds.Event line what) ≡ Some l → has_outcome what ≡ true
launch_out s h t line (events.Send link octets) l e = refl
launch_out s h t line (events.On device) l e = refl
launch_out s h t line other l e = absurd cc

event_is : (body : NoteBody) → IsEventBody body → (line : ℕ) × (what : What) × (body ≡ kinds.Event line what)
event_is (kinds.Event line what) is = (line, what, refl)
event_is other is = absurd is

-- one of these put it there
pub record IsPutByOne (s : Scenario) (hs : List Happening) (befell : List Befell) (e : OnWire) : Type 0 where
  pub x : Befell
  pub one : IsIn x befell
  pub h : Happening
  pub there : numbered hs x.number ≡ Some h
  pub cause : e.cause ≡ x.number
  pub arrives : Arrives s h e.device e.link e.at e.signal

put_real : (s : Scenario) (hs : List Happening) (befell : List Befell) (old new : List OnWire) → ArePutBy s hs befell old new → (e : OnWire) → IsIn e new
    → IsIn e old ⊎ IsPutByOne s hs befell e
put_real s hs [] old new put e i = inl (rw put at i)
put_real s hs (x ∷ befell) old new (mid, h, there, first, later) e i =
    search (arith, (put_real s hs befell mid new later e i))

put_kept : (s : Scenario) (hs : List Happening) (befell : List Befell) (old new : List OnWire) → ArePutBy s hs befell old new → (e : OnWire) → IsIn e old
    → IsIn e new
put_kept s hs [] old new put e i = rw put i
put_kept s hs (x ∷ befell) old new (mid, h, there, first, later) e i = put_kept s hs befell mid new later e (first.kept e i)

put_all : {s : Scenario} (hs : List Happening) (befell : List Befell) (old new : List OnWire)
    → ArePutBy s hs befell old new → (x : Befell) → IsIn x befell → {h : Happening} → numbered hs x.number ≡ Some h
    → {device : DeviceId} {link : LinkId} {t : ℕ} {signal : Signal} → Arrives s h device link t signal
    → (e : OnWire) × IsIn e new × (wire_place e ≡ t ∷ 2 ∷ device.0 ∷ link.0 ∷ x.number ∷ [])
put_all hs [] old new put x i there arrives = absurd i
put_all {s} hs (y ∷ befell) old new (mid, g, at, first, later) x
    (inl same) {h} there {device} {link} {t} {signal} arrives =
    let one = some_same h g _ (rw same at there) at in
    let it = first.all device link t signal (rw one at arrives) in (
      it.0,
      put_kept s hs befell mid new later it.0 it.1,
      it.2 ∙ ap (λ z. t ∷ 2 ∷ device.0 ∷ link.0 ∷ z.number ∷ [])
          (sym same),
    )
put_all hs (y ∷ befell) old new (mid, g, at, first, later) x (inr i) there arrives =
    put_all hs befell mid new later x i there arrives

module _ (s : Scenario) {hs : List Happening} {frontier : List ℕ} {now : ℕ} {befell : List Befell} where
  pub wires_told : {wires : List OnWire} (new : List OnWire) → IsTelling hs frontier now befell → IsForward s
      → AreOnWires s hs frontier now true wires → ArePutBy s hs befell wires new
      → AreOnWires s hs (behind (now ∷ 2 ∷ [])) now false new
  wires_told {wires} new m forward are put = record {
    real = λ e i. elim (put_real s hs befell wires new put e i) [
      | inl old ↦
          let was = are.real e old in (
            was.0,
            λ open_. absurd cc,
            λ b. was.2 (not_gone_by e.at 2 e.device.0 (e.link.0 ∷ e.cause ∷ []) m (omega arith) b),
          )
      | inr it ↦
          let record_of = m.untold.real it.x it.one in
          let same = some_same it.h record_of.1 _ it.there record_of.2.there in
          let at : time_of it.h ≡ now = ap time_of same ∙ record_of.2.same_time in
          let later = arrives_later forward it.arrives in (
            record { putting = it.h; there = ap (numbered hs) it.cause ∙ it.there; arrives = it.arrives },
            λ open_. absurd cc,
            λ b.
                let lt = earlier_only e.at 2 e.device.0 now (e.link.0 ∷ e.cause ∷ []) (omega arith) b in
                omega arith,
          )
    ];
    all = λ t device link cause a told not.
        elim (m.sooner a.putting (numbered_in hs cause a.putting a.there)) [
          | inl lt ↦
              let it = are.all t device link cause a (λ open_ at. (let bad = at in omega arith))
              (λ b. not (goes_on m _ b)) in
              (it.0, put_kept s hs befell wires new put it.0 it.1, it.2)
          | inr same ↦
              let is = event_is a.putting.note.body same.1 in
              let out = launch_out s a.putting (time_of a.putting) is.0 is.1 _
              (rw is.2 at a.arrives.put) in
              let one = m.untold.all refl cause is.0 is.1 a.putting (record { there = a.there; same_time = same.0 })
              is.2 out in
              put_all hs befell wires new put (record { number = cause; what = is.1 }) one a.there a.arrives
        ];
  }

  -- ---- ports, and what waits

  pub ports_told : {ports : List AtPort} → IsTelling hs frontier now befell → AreAtPorts s hs frontier ports
      → AreAtPorts s hs (behind (now ∷ 2 ∷ [])) ports
  ports_told m are = search (arith, not_gone_by, goes_on)

  pub waiting_told : {waiting : List Waiting} → IsTelling hs frontier now befell → AreWaiting s hs frontier now waiting
      → AreWaiting s hs (behind (now ∷ 2 ∷ [])) now waiting
  waiting_told m are = record {
    real = are.real;
    later = λ e i t x b. are.later e i t x (not_gone_by t 3 e.device.0 _ m (omega arith) b);
    sound = are.sound;
    all = λ e it sound not. are.all e it sound (λ t x b. not t x (goes_on m (ripe_place t e) b));
  }

-- ---- each device when the outcomes of the events of an instant are settled

-- Such records take no frame of the schedule.

calm_takes : (device : DeviceId) (at : ℤ) (body : NoteBody) → is_calm body ≡ true → taken_in device at body ≡ []
calm_takes device at (kinds.Lost other link cause) e = refl
calm_takes device at (kinds.State other state cause why) e = refl
calm_takes device at other e = absurd cc

-- a list of which a part gives nothing, and the other the same
flat_calm : {X Y : Type 0} (f g : X → List Y) (hs zs : List X) → ((h : X) → IsIn h hs → f h ≡ g h) → ((z : X) → IsIn z zs → f z ≡ [])
    → flat_map f (hs ++ zs) ≡ flat_map g hs
flat_calm f g [] [] same none = refl
flat_calm {X} {Y} f g [] (z ∷ zs) same none = rw (none z (inl refl)) (flat_calm f g [] zs same (λ y i. none y (inr i)))
flat_calm {X} {Y} f g (h ∷ hs) zs same none =
    rw (same h (inl refl)) (rw (flat_calm f g hs zs (λ y i. same y (inr i)) none))

pub taken_calm : (s : Scenario) (hs zs : List Happening) (device : DeviceId) (now : ℕ) → ((h : Happening) → IsIn h hs → time_of h ≤ now)
    → ((z : Happening) → IsIn z zs → now ≤ time_of z) → ((z : Happening) → IsIn z zs → is_calm z.note.body ≡ true)
    → frames_taken s (hs ++ zs) device ≡ frames_taken s hs device
taken_calm s hs zs device now past late calm = grind (arith, flat_calm, taken_in, local_before, time_of, adjustment_after, earlier_still, calm_takes)

-- what is to come, and where a sound device is turned on, its record
pub record AreToldOf (s : Scenario) (hs coming : List Happening) (frontier : List ℕ) (now : ℕ)
    (befell : List Befell) : Type 0 where
  pub telling : IsTelling hs frontier now befell
  pub founded : IsFounded place_of (IsDue s) hs
  pub at : (z : Happening) → IsIn z coming → time_of z ≡ now
  pub out : (z : Happening) → IsIn z coming → IsOutcome s hs now z.note.body
  pub turned : (device : DeviceId) → is_turned_on_at s device now ≡ true → is_broken s device now ≡ false → IsTurnedOnBy coming device now

-- ---- what such a record says of a device

-- the device of which it speaks is turned on by an event
on_so : (s : Scenario) {hs : List Happening} {now n : ℕ} (line : ℕ) (d : DeviceId) {h : Happening}
    → IsFounded place_of (IsDue s) hs → (it : IsOfThisTime hs now n h) → h.note.body ≡ kinds.Event line (events.On d)
    → is_turned_on_at s d now ≡ true
on_so s {hs} {now} {n} line d {h} founded it is =
    on_by_record s d (event_due s hs h line (events.On d) founded (numbered_in hs n h it.there) is) it.same_time

module _ {s : Scenario} {hs : List Happening} {now : ℕ} (device : DeviceId) where
  pub rest_outcome : {body : NoteBody} → IsFounded place_of (IsDue s) hs → IsOutcome s hs now body
      → IsAtRest s device now body
  rest_outcome founded (IsOutcome.losing d link n it) = inl refl
  rest_outcome founded (IsOutcome.turning d n line h sound it is) =
      elim (cases_Bool (device.0 == d.0)) [
        | inr other ↦ inl other
        | inl same ↦ inr (
          same,
          rw (alike device d same) (on_so s line d founded it is),
        )
      ]

  -- it does not move a broken one
  out_unmoved : {body : NoteBody} → is_broken s device now ≡ true → IsOutcome s hs now body
      → moves device body ≡ false
  out_unmoved broken (IsOutcome.losing d link n it) = refl
  out_unmoved broken (IsOutcome.turning d n line h sound it is) = grind (arith, cases_Bool, is_broken, alike)

  -- nor one that no event turns on
  off_unmoved : {body : NoteBody} → IsFounded place_of (IsDue s) hs → is_turned_on_at s device now ≡ false
      → IsOutcome s hs now body → moves device body ≡ false
  off_unmoved founded off (IsOutcome.losing d link n it) = refl
  off_unmoved founded off (IsOutcome.turning d n line h sound it is) =
      elim (cases_Bool (device.0 == d.0)) [
        | inr other ↦ other
        | inl same ↦
            absurd (let bad = sym off ∙ ap (λ x. is_turned_on_at s x now)
            (alike device d same)
            ∙ on_so s line d founded it is in cc)
      ]

pub known_told : {s : Scenario} {hs coming : List Happening} {frontier : List ℕ} {now : ℕ} {befell : List Befell}
    → AreToldOf s hs coming frontier now befell → AreOfNetwork s (hs ++ []) → AreOfNetwork s (hs ++ coming)
known_told {s} {hs} {coming} {now} m known = record {
  unmoved = λ device le h i. elim (in_parts h hs coming i) [
    | inl old ↦ known.unmoved device le h (rw (append-nil hs) old)
    | inr new ↦ off_unmoved device m.founded (known.never_on device le now) (m.out h new)
  ];
  never_on = known.never_on;
}

-- ---- a sound device

not_past_acts : (now : ℕ) (device : DeviceId) → IsBefore (act_place now device) (behind (now ∷ 2 ∷ [])) → ⊥
not_past_acts now device (inl lt) = omega arith
not_past_acts now device (inr (e, inl lt)) = omega arith
not_past_acts now device (inr (e, inr (two, b))) = omega arith

module _ {hs : List Happening} {frontier : List ℕ} {now : ℕ} {befell : List Befell}
    (m : IsTelling hs frontier now befell) where
  early_not : IsBefore (now ∷ 2 ∷ []) frontier → ⊥
  early_not b = never_self (now ∷ 2 ∷ []) (m.untold.early refl (now ∷ 2 ∷ []) b)

  past_told : (h : Happening) → IsIn h hs → time_of h ≤ now
  past_told h i = elim (m.sooner h i) [ inl lt ↦ omega arith | inr it ↦ omega arith ]

module _ {M : Type 0} (stands : M → Network → DeviceId → Node → Type 0) {s : Scenario} {hs coming : List Happening}
    {frontier : List ℕ} {now : ℕ} {befell : List Befell} (device : DeviceId) (machine : M) where
  kept_told : AreToldOf s hs coming frontier now befell → IsKept stands s hs [] frontier now device machine
      → IsKept stands s hs coming (behind (now ∷ 2 ∷ [])) now device machine
  kept_told m k =
      let at_now : k.up ≡ now = elim k.acted [
        | inl yet ↦ yet.0
        | inr over ↦ absurd (early_not m.telling (over.1 (now ∷ 2 ∷ []) (inr (refl, inl (omega arith)))))
      ] in
      let same : (t : ℕ) → t ≤ now → earlier t (hs ++ []) ≡ earlier t (hs ++ coming) =
      λ t le. ap (earlier t) (append-nil hs)
      ∙ sym (earlier_still t hs coming (λ z i. omega arith)) in
      let up_le : k.up ≤ now = omega arith in
      let left_so =
      left_all_calm coming (λ z i. omega arith)
      (λ z i. calm_outcome (m.out z i)) (rw (append-nil hs) at k.left) in
      let rests = rested now k.worked (omega arith)
      (λ b. not_past_acts now device (chain (act_place now device) (now ∷ 2 ∷ []) (behind (now ∷ 2 ∷ []))
      (m.telling.untold.early refl (act_place now device) b) (before_behind (now ∷ 2 ∷ [])))) in
      let done_so : HasDoneFrom s.network (s.reading device) device k.node (changed_at (hs ++ coming) device k.up)
      k.up k.up =
      rw (ap (λ (l : List Happening). option_map_or time_of
      (last_or None (filter (λ h. changes_adjustment device h.note.body) l)) 0) (same k.up up_le)) at rests.done in
      record {
        node = k.node;
        is = k.is;
        sound = k.sound;
        up = k.up;
        acted = inl (at_now, λ task b a. absurd (not_past_acts now device (acts_before s.network now device task (behind (now ∷ 2 ∷ [])) b)));
        told = λ over. absurd (omega arith);
        left = left_so;
        worked = worked_by (behind (now ∷ 2 ∷ [])) (record { done = done_so; sent = rests.sent })
            (λ x task lt. inl (omega arith));
        taken =
            k.taken ∙ (rw (append-nil hs)
            (sym (taken_calm s hs coming device now (past_told m.telling)
            (λ z i. omega arith) (λ z i. calm_outcome (m.out z i)))));
        bare = k.bare;
        ready = k.ready;
        still = λ up h i at. elim (in_parts h hs coming i) [
          | inl old ↦ k.still up h (rw (append-nil hs) old) at
          | inr new ↦ rest_outcome device m.founded (m.out h new)
        ];
        turned = λ on_now.
            let was = k.turned on_now in
            let it = m.turned device on_now k.sound in
            record {
              off = rw (sym (same now (omega arith))) was.off;
              number = was.number;
              event = was.event;
              befell = was.befell;
              turned = λ b. record { by = it.by; there = in_right it.by hs coming it.there; at = it.at; turning = it.turning };
            };
        cleared = k.cleared;
        phase = λ at p b. (goes_on m.telling) p (k.phase at p b);
      }

  -- ---- and each

  pub held_told : AreToldOf s hs coming frontier now befell → IsHeld stands s hs [] frontier now device machine
      → IsHeld stands s hs coming (behind (now ∷ 2 ∷ [])) now device machine
  held_told m (inl k) = inl (kept_told m k)
  held_told m (inr k) =
      let none : (z : Happening) → IsIn z coming → moves device z.note.body ≡ false =
      λ z i. out_unmoved device k.broken (m.out z i) in
      let whole = append-nil hs in
      inr (record {
        node = k.node;
        is = k.is;
        broken = k.broken;
        shows = k.shows;
        state =
            k.state ∙ (rw whole (sym
            (state_unmoved s hs coming device now none)));
        adjustment =
            k.adjustment ∙ (rw whole (sym
            (adjustment_unmoved s hs coming device now none)));
        ready = k.ready;
        phase = λ at p b. goes_on m.telling p (k.phase at p b);
      })

-- ---- the outcomes of events are put in at their places: the list that is settled then

-- the record is one of an outcome
pub record IsOne (s : Scenario) (hs : List Happening) (now : ℕ) (z : Happening) : Type 0 where
  pub body : NoteBody
  pub is : z ≡ settled_as s.network hs now body
  pub out : IsOutcome s hs now body

-- each of the list is, and they stand in their order
pub record IsFilled (s : Scenario) (hs : List Happening) (now : ℕ) (settled : List Happening) : Type 0 where
  pub each : (z : Happening) → IsIn z settled → IsOne s hs now z
  pub sorted : (front rest : List Happening) (z : Happening) → settled ≡ front ++ z ∷ rest → AllBefore place_of front (place_of z)

-- at one place they have one cause
same_cause : {s : Scenario} {hs : List Happening} {now : ℕ} {b c : NoteBody} → IsOutcome s hs now b
    → IsOutcome s hs now c → place_of (settled_as s.network hs now b) ≡ place_of (settled_as s.network hs now c)
    → cause_of b ≡ cause_of c
same_cause (IsOutcome.turning d n line h sound it is) (IsOutcome.turning e k line_ g sound_ it_ is_) same =
    cc
same_cause (IsOutcome.turning d n line h sound it is) (IsOutcome.losing e link k it_) same =
    absurd (let bad : ◌≡◌ {A = ℕ} 7 9 = cc in omega arith)
same_cause (IsOutcome.losing d link n it) (IsOutcome.turning e k line_ g sound_ it_ is_) same =
    absurd (let bad : ◌≡◌ {A = ℕ} 9 7 = cc in omega arith)
same_cause (IsOutcome.losing d link n it) (IsOutcome.losing e other k it_) same = cc

-- ---- one is put in

filled_put : {s : Scenario} {hs : List Happening} {now : ℕ} {b : NoteBody} {old new : List Happening}
    → IsFilled s hs now old → IsOutcome s hs now b → ((z : Happening) → IsIn z old
    → cause_of z.note.body < cause_of b) → IsPutIn (settled_as s.network hs now b) old new → IsFilled s hs now new
filled_put {s} {hs} {now} {b} {old} filled out less put = record {
  each = λ z i. elim (in_parts z put.front (w ∷ put.back) (rw put.is at i)) [
    | inl ahead ↦ filled.each z (from_old z (in_left z put.front put.back ahead))
    | inr (inl same) ↦ record { body = b; is = same; out = out }
    | inr (inr later) ↦ filled.each z (from_old z (in_right z put.front put.back later))
  ];
  sorted = λ f rest y e. elim (split_three put.front put.back w f rest y (sym put.is ∙ e)) [
    | inl it ↦ filled.sorted f (it.0 ++ put.back) y
        (put.was ∙ (rw it.1 (append_assoc f (y ∷ it.0) put.back)))
    | inr (inl it) ↦
        subst (λ x. AllBefore place_of f (place_of x)) it.1
        (subst (λ l. AllBefore place_of l (place_of w)) it.0 put.before)
    | inr (inr it) ↦ λ n i.
        let ahead : AllBefore place_of (put.front ++ it.0) (place_of y) = filled.sorted (put.front ++ it.0) rest y
        (put.was ∙ (rw it.2 (sym (append_assoc put.front it.0 (y ∷ rest))))) in
        elim (in_parts n put.front (w ∷ it.0) (rw it.1 at i)) [
          | inl first ↦ ahead n (in_left n put.front it.0 first)
          | inr (inl same) ↦ rw same (new_before y (rw it.2 (in_right y it.0 (y ∷ rest) (inl refl))))
          | inr (inr next) ↦ ahead n (in_right n put.front it.0 next)
        ]
  ];
}
  where
    w : Happening
    w = settled_as s.network hs now b

    from_old : (z : Happening) → IsIn z (put.front ++ put.back) → IsIn z old
    from_old z i = rw put.was i

    apart : (y : Happening) → IsIn y put.back → place_of w ≡ place_of y → ⊥
    apart y i e =
        let it = filled.each y (from_old y (in_right y put.front put.back i)) in
        let lt = less y (from_old y (in_right y put.front put.back i)) in
        let cause : cause_of y.note.body ≡ cause_of it.body = ap (λ (x : Happening). cause_of x.note.body) it.is in
        let same = same_cause out it.out (e ∙ ap place_of it.is) in
        omega arith

    new_before : (y : Happening) → IsIn y put.back → IsBefore (place_of w) (place_of y)
    new_before y i = elim (either_way (place_of w) (place_of y)) [
      | inl lt ↦ lt
      | inr (inl e) ↦ absurd (apart y i e)
      | inr (inr gt) ↦ absurd (put.none y i gt)
    ]

module _ {w : Happening} {old new : List Happening} (put : IsPutIn w old new) where
  put_old : (z : Happening) → IsIn z old → IsIn z new
  put_old z i =
      rw put.is (elim (in_parts z put.front put.back (rw put.was at i)) [
        | inl ahead ↦ in_left z put.front (w ∷ put.back) ahead
        | inr later ↦ in_right z put.front (w ∷ put.back) (inr later)
      ])

  put_new : IsIn w new
  put_new = rw put.is (in_right w put.front (w ∷ put.back) (inl refl))

  put_back : (z : Happening) → IsIn z new → IsIn z old ⊎ (z ≡ w)
  put_back z i =
      elim (in_parts z put.front (w ∷ put.back) (rw put.is at i)) [
        | inl ahead ↦ inl (rw put.was (in_left z put.front put.back ahead))
        | inr (inl same) ↦ inr same
        | inr (inr later) ↦ inl (rw put.was (in_right z put.front put.back later))
      ]

  put_long : length new ≡ length old + 1
  put_long = grind (arith, length, length-append)

-- ---- all are put in

module _ (s : Scenario) (hs : List Happening) (now : ℕ) where
  pub filled_all : (bodies : List NoteBody) {old : List Happening} (new : List Happening) → IsFilled s hs now old
      → ((b : NoteBody) → IsIn b bodies → IsOutcome s hs now b) → AreRising bodies
      → ((z : Happening) (b : NoteBody) → IsIn z old → IsIn b bodies → cause_of z.note.body < cause_of b)
      → ArePutIn s.network hs now bodies old new → IsFilled s hs now new
  filled_all [] new filled out rising less put = subst (IsFilled s hs now) (sym put) filled
  filled_all (b ∷ bodies) new filled out rising less (mid, put, later) =
      filled_all bodies new (filled_put filled (out b (inl refl)) (λ z i. less z b i (inl refl)) put)
      (λ c i. out c (inr i))
      rising.1 (λ z c i j. elim (put_back put z i) [
        | inl was ↦ less z c was (inr j)
        | inr same ↦ rw same (rising.0 c j)
      ]) later

  pub all_old : (bodies : List NoteBody) (old new : List Happening) → ArePutIn s.network hs now bodies old new
      → (z : Happening) → IsIn z old → IsIn z new
  all_old [] old new put z i = rw put i
  all_old (b ∷ bodies) old new (mid, put, later) z i = all_old bodies mid new later z (put_old put z i)

  pub all_new : (bodies : List NoteBody) (old new : List Happening) → ArePutIn s.network hs now bodies old new
      → (b : NoteBody) → IsIn b bodies → IsIn (settled_as s.network hs now b) new
  all_new [] old new put b i = absurd i
  all_new (c ∷ bodies) old new (mid, put, later) b (inl same) =
      all_old bodies mid new later (settled_as s.network hs now b)
      (rw same (put_new put))
  all_new (c ∷ bodies) old new (mid, put, later) b (inr i) = all_new bodies mid new later b i

  pub all_long : (bodies : List NoteBody) (old new : List Happening) → ArePutIn s.network hs now bodies old new
      → length new ≡ length old + length bodies
  all_long [] old new put = let a = ap length put in omega arith
  all_long (b ∷ bodies) old new (mid, put, later) =
      let a = put_long put in
      let c = all_long bodies mid new later in
      let d : length (b ∷ bodies) ≡ suc (length bodies) = refl in
      omega arith

-- ---- what the events of an instant leave is settled, before all else of it: the world stands behind them

-- The outcomes of the events of an instant are all that is due by them.

-- what the step starts from, and the records that are settled
pub record IsSettling (s : Scenario) (hs : List Happening) (frontier : List ℕ) (now : ℕ) (befell : List Befell)
    (settled : List Happening) : Type 0 where
  pub telling : IsTelling hs frontier now befell
  pub befallen : HaveBefallen s frontier now
  pub run : IsRun place_of (IsDue s) frontier hs
  pub of_now : (p : List ℕ) → IsBefore p (now ∷ []) → IsBefore p frontier
  pub filled : IsFilled s hs now settled
  pub there : (number line : ℕ) (what : What) (h : Happening) → IsOfThisTime hs now number h → h.note.body ≡ kinds.Event line what → (b : NoteBody)
      → IsIn b (bodies_of s now number what) → IsIn (settled_as s.network hs now b) settled

-- ---- each is due, by an event

moved : {hs : List Happening} (front : List Happening) {now n : ℕ} {h : Happening} → IsOfThisTime hs now n h
    → IsOfThisTime (hs ++ front) now n h
moved {hs} front {n} {h} it = record { there = numbered_front hs front n h it.there; same_time = it.same_time }

module _ {s : Scenario} (hs front : List Happening) {now : ℕ} where
  lost_moved : {n : ℕ} {device : DeviceId} {link : LinkId} → IsSendLost s hs device now link n
      → IsSendLost s (hs ++ front) device now link n
  lost_moved it = grind (arith, moved)

  due_one : {body : NoteBody} → IsOutcome s hs now body → IsDueAs s (hs ++ front) (settled_as s.network hs now body)
  due_one (IsOutcome.turning d n line h sound it is) =
      record { same = refl; begun = omega (arith, ints); cause = (refl, sound, (line, h, moved front it, is)) }
  due_one (IsOutcome.losing d link n it) =
      record { same = refl; begun = omega (arith, ints); cause = inr (inr (lost_moved it)) }

  worked_one : {body : NoteBody} → IsOutcome s hs now body
      → IsWorkedOff s (hs ++ front) (behind (now ∷ 2 ∷ [])) (settled_as s.network hs now body)
  worked_one (IsOutcome.turning d n line h sound it is) =
      (now ∷ 2 ∷ [], refl, IsSource.following now n h (moved front it), before_behind (now ∷ 2 ∷ []))
  worked_one (IsOutcome.losing d link n it) = (
    now ∷ 2 ∷ [],
    inr (inr (refl, lost_moved it)),
    IsSource.following now n it.event (moved front it.is),
    before_behind (now ∷ 2 ∷ []),
  )

module _ {s : Scenario} {hs : List Happening} {now : ℕ} where
  late_body : {body : NoteBody} → IsOutcome s hs now body
      → (r : ℕ) × (more : List ℕ) × (place_of (settled_as s.network hs now body) ≡ now ∷ r ∷ more) × (7 ≤ r)
  late_body (IsOutcome.turning d n line h sound it is) = (7, d.0 ∷ n ∷ [], refl, omega arith)
  late_body (IsOutcome.losing d link n it) = (9, d.0 ∷ link.0 ∷ n ∷ [], refl, omega arith)

  not_at_source : {body : NoteBody} → IsOutcome s hs now body → is_at_source body ≡ false
  not_at_source (IsOutcome.turning d n line h sound it is) = refl
  not_at_source (IsOutcome.losing d link n it) = refl

  -- ---- those to come

  late_place : {z : Happening} → IsOne s hs now z → (r : ℕ) × (more : List ℕ) × (place_of z ≡ now ∷ r ∷ more)
      × (7 ≤ r)
  late_place it = let at = late_body it.out in (at.0, at.1, ap place_of it.is ∙ at.2, at.3)

not_under : (now r : ℕ) (more : List ℕ) → 7 ≤ r → IsBefore (now ∷ r ∷ more) (now ∷ 2 ∷ []) → ⊥
not_under now r more high (inl lt) = omega arith
not_under now r more high (inr (e, inl few)) = omega arith
not_under now r more high (inr (e, inr (two, none))) = none

behind_two : (now r : ℕ) (more : List ℕ) → 7 ≤ r → IsBefore (behind (now ∷ 2 ∷ [])) (now ∷ r ∷ more)
behind_two now r more high = inr (refl, inl (omega arith))

-- none of them is before the place behind the events
not_yet : (s : Scenario) {hs : List Happening} {now : ℕ} {z : Happening} → IsOne s hs now z
    → IsBefore (place_of z) (behind (now ∷ 2 ∷ [])) → ⊥
not_yet s {hs} {now} {z} it b =
    search (arith, late_place, behind, never_self, chain, behind_two)

-- ---- what is due by an event is among them

bodies_out : (s : Scenario) (now number : ℕ) (what : What) (b : NoteBody) {x : Bool} → x ≡ false → IsIn b (b ∷ [])
    → IsIn b (if x then [] else b ∷ [])
bodies_out s now number what b sound i = rw sound i

lost_out : (s : Scenario) (now n : ℕ) {device : DeviceId} (link : LinkId) {way : Link} {o : Option Link} → o ≡ Some way
    → device ≡ way.child
    → is_cut s link Up now ≡ true
    → IsIn (kinds.Lost device link n) (option_map_or
    (λ l. if is_cut s link Up now then kinds.Lost l.child link n ∷ [] else []) o [])
lost_out s now n link there by cut = grind (arith, option_map_or, is_cut)

event_joins : (device : DeviceId) (body : NoteBody) → IsEventBody body → is_joined_by device body ≡ false
event_joins device (kinds.Event line what) is = refl
event_joins device other is = absurd is

-- a record of the instant among those given and such outcomes is that of an event, or such an outcome
of_instant : {hs : List Happening} (front : List Happening) {frontier : List ℕ} {now n : ℕ} {befell : List Befell}
    {h : Happening} → IsTelling hs frontier now befell → ((z : Happening) → IsIn z front → is_calm z.note.body ≡ true)
    → IsOfThisTime (hs ++ front) now n h → (IsOfThisTime hs now n h × IsEventBody h.note.body)
    ⊎ (is_calm h.note.body ≡ true)
of_instant front m calm it = grind (arith, numbered_parts, numbered_in)

-- one of the list stands there
abbrev pub StandsThere : Scenario → List Happening → ℕ → List Happening → List ℕ → Type 0
StandsThere s hs now settled p = (b : NoteBody) × IsIn (settled_as s.network hs now b) settled × (place_of (settled_as s.network hs now b) ≡ p)

module _ {s : Scenario} (hs front : List Happening) {frontier : List ℕ} {now : ℕ} {befell : List Befell}
    {settled : List Happening} (time : Units) where
  came : (members : ℕ) (body : NoteBody) → IsSettling s hs frontier now befell settled
      → ((z : Happening) → IsIn z front → is_calm z.note.body ≡ true) → amount time ≡ now
      → IsOwnSource s (hs ++ front) (amount time) members body (amount time ∷ 2 ∷ [])
      → IsCaused s (hs ++ front) time body → StandsThere s hs now settled (amount time ∷ rank body ∷ key members body)
  came ms (kinds.State d st n whys.On) m calm at o (looking, sound, (line, h, it, is)) =
      elim (of_instant front m.telling calm
      (rw at at it)) [
        | inr new ↦ absurd (cc)
        | inl old ↦ (
          kinds.State d Integrating n whys.On,
          m.there n line (events.On d) h old.0 is (kinds.State d Integrating n whys.On)
              (bodies_out s now n (events.On d) (kinds.State d Integrating n whys.On)
              (ap (is_broken s d) (sym at) ∙ sound) (inl refl)),
          rw (sym at),
        )
      ]
  came ms (kinds.State d st n whys.Frame) m calm at o (joining, (h, it, joins)) =
      absurd (elim (of_instant front m.telling calm (rw at at it)) [
        | inr new ↦ (both_ways _ (calm_joins d h.note.body new) joins)
        | inl old ↦ (both_ways _ (event_joins d h.note.body old.1) joins)
      ])
  came ms (kinds.State d st n whys.Correction) m calm at o (first, joining, (cycle, by, adjustment, h, it, is)) =
      absurd (elim (of_instant front m.telling calm (rw at at it)) [
        | inr new ↦ (cc)
        | inl old ↦ subst IsEventBody is old.1
      ])
  came ms (kinds.Lost d link n) m calm at (inr (inr (o, lost))) c =
      elim (of_instant front m.telling calm
      (rw at at lost.is)) [
        | inr new ↦ absurd (cc)
        | inl old ↦ (
          kinds.Lost d link n,
          m.there n lost.line (events.Send link lost.octets) lost.event old.0 lost.sends (kinds.Lost d link n)
              (lost_out s now n link lost.there lost.by (ap (is_cut s link Up) (sym at) ∙ lost.cut)),
          rw (sym at),
        )
      ]
  came ms (kinds.Lost d link n) m calm at (inl o) c = absurd (grind arith)
  came ms (kinds.Lost d link n) m calm at (inr (inl o)) c = absurd (grind arith)
  came ms other m calm at o c = absurd (grind arith)

-- ---- a record that is due by a source up to there

event_past : {s : Scenario} (js : List Happening) {frontier : List ℕ} {now : ℕ} (y : Happening)
    → HaveBefallen s frontier now
    → IsEventBody y.note.body → IsCaused s js y.note.time y.note.body → IsBefore (place_of y) frontier
event_past js y befallen is caused = grind (arith, event_cause, event_place, amount)

only_none : (ws : List ℕ) → IsBefore ws (0 ∷ []) → ws ≡ []
only_none [] b = refl
only_none (x ∷ ws) (inl lt) = absurd (omega arith)
only_none (x ∷ ws) (inr (e, none)) = absurd none

due_there : {s : Scenario} {hs : List Happening} (front : List Happening) {frontier : List ℕ} {now : ℕ}
    {befell : List Befell} {settled : List Happening} {y : Happening} (k : ℕ) (ws : List ℕ)
    → IsSettling s hs frontier now befell settled → ((z : Happening) → IsIn z front → is_calm z.note.body ≡ true)
    → (IsBefore (place_of y) frontier → ⊥) → IsDueAs s (hs ++ front) y
    → IsOwnSource s (hs ++ front) (time_of y) (members_in y) y.note.body (time_of y ∷ k ∷ ws)
    → IsBefore (time_of y ∷ k ∷ ws) (behind (now ∷ 2 ∷ [])) → StandsThere s hs now settled (place_of y)
due_there front {y} k ws m calm not due own (inl lt) = absurd (not (m.of_now (place_of y) (inl lt)))
due_there {s} {hs} front {y} k ws m calm not due own (inr (at, inl few)) =
    absurd (not (event_past (hs ++ front) y m.befallen
    (own_event s (hs ++ front) (time_of y) (members_in y) y.note.body k ws own few) due.cause))
due_there {s} {hs} front {frontier} {now} {befell} {settled} {y} k ws m calm not due own (inr (at, inr (two, b))) =
    came hs front y.note.time (members_in y) y.note.body m calm at
    (rw (only_none ws b) at (rw two at own)) due.cause

-- ---- so they are settled

pub settled_told : {s : Scenario} {hs : List Happening} {frontier : List ℕ} {now : ℕ} {befell : List Befell}
    {settled : List Happening} → IsSettling s hs frontier now befell settled
    → AreSettled s hs settled frontier (behind (now ∷ 2 ∷ [])) now
settled_told {s} {hs} {now} m =
    let one = m.filled.each in
    record {
      of_now = λ z i. ap time_of (one z i).is;
      after = λ z i b.
          let at = late_place (one z i) in
          not_under now at.0 at.1 at.3
          (subst (λ p. IsBefore p (now ∷ 2 ∷ [])) at.2 (m.telling.untold.early refl (place_of z) b));
      founded = λ front rest z e.
          let it = one z (rw e (in_here front rest z)) in
          (m.filled.sorted front rest z e, rw it.is (due_one hs front it.out));
      by = λ front rest z e.
          let it = one z (rw e (in_here front rest z)) in
          let off = worked_one hs front it.out in
          rw it.is off;
      full = λ front back y e before none not due worked.
          let calm : (z : Happening) → IsIn z front → is_calm z.note.body ≡ true = λ z i.
          let it = one z (rw e (in_left z front back i)) in
          rw it.is (calm_outcome it.out) in
          let own = own_time s (hs ++ front) (time_of y) (members_in y) y.note.body worked.0 worked.1 in
          let found = due_there front own.0 own.1 m calm not due
          (rw own.2 at worked.1)
          (rw own.2 at worked.3) in
          (settled_as s.network hs now found.0, found.1, found.2);
      not_past = λ z i p b.
          let at = late_place (one z i) in
          chain p (place_of z) (behind (place_of z))
          (rw (sym at.2) at (chain p (behind (now ∷ 2 ∷ [])) (now ∷ at.0 ∷ at.1) b (behind_two now at.0 at.1 at.3)))
          (before_behind (place_of z));
      worked = λ z i is.
          let it = one z i in
          absurd (let bad = sym (not_at_source it.out) ∙ ap
          (λ x. is_at_source x.note.body) (sym it.is) ∙ is
          in cc);
      begun = λ z i. before_behind (now ∷ 2 ∷ []);
    }
  where
    in_here : (front rest : List Happening) (z : Happening) → IsIn z (front ++ z ∷ rest)
    in_here front rest z = in_right z front (z ∷ rest) (inl refl)

has_out : (s : Scenario) (now number : ℕ) (what : What) (b : NoteBody) → IsIn b (bodies_of s now number what) → has_outcome what ≡ true
has_out s now number (events.On device) b i = refl
has_out s now number (events.Send link octets) b i = refl
has_out s now number other b i = absurd i

-- a sound device that is turned on has its record
turned_there : {s : Scenario} {hs : List Happening} {frontier : List ℕ} {now : ℕ} {befell : List Befell}
    {settled : List Happening} (device : DeviceId) → IsSettling s hs frontier now befell settled
    → is_turned_on_at s device now ≡ true → is_broken s device now ≡ false → IsTurnedOnBy settled device now
turned_there {s} {hs} {frontier} {now} device m on sound =
    let it = on_by_event s device now on in
    let h = recorded s it.0 m.run it.2 (m.befallen.begun it.0 it.1 it.2)
    (m.befallen.told it.0 it.1 it.2) in
    let body = kinds.State device Integrating h.0 whys.On in
    let here : IsIn body (bodies_of s now h.0 (events.On device)) = rw sound (inl refl) in
    let there = m.there h.0 (it.0 + 1) (events.On device) h.1
    (record { there = h.2; same_time = ap amount h.3 ∙ it.4 }) (h.4 ∙ (rw it.3)) body here in
    record { by = settled_as s.network hs now body; there = there; at = refl; turning = eq-eqb device.0 device.0 refl }

no_clock : (now : ℕ) (device : DeviceId) → IsBefore (clock_place now device) (behind (now ∷ 2 ∷ [])) → ⊥
no_clock now device (inl lt) = omega arith
no_clock now device (inr (e, inl lt)) = omega arith
no_clock now device (inr (e, inr (two, b))) = omega arith

pub befell_step : {C M : Type 0} (reading : C → ℕ → ℕ) (stands : M → Network → DeviceId → Node → Type 0) → BefellStep reading stands
befell_step {C} {M} reading stands s world notes wires settled old open_ room put_by put_in =
    let hs = happenings s.network notes in
    let now = world.now in
    let here = now ∷ 2 ∷ [] in
    let untold : AreUntold hs old.frontier now true world.befell = rw open_ at old.untold in
    let early = untold.early refl in
    let empty = no_coming hs world.settled s old.frontier now old.are early in
    let m : IsTelling hs old.frontier now world.befell = grind (arith, before_others, place_of) in
    let bodies = befell_bodies s now world.befell in
    let each = all_bodies s hs now world.befell untold.real in
    let filled : IsFilled s hs now settled = filled_all s hs now bodies {old = []} settled
    (record { each = λ z i. absurd i; sorted = λ front rest z e. absurd (no_part front rest z e) })
    (λ b i. (each b i).0) (all_rising s hs now world.befell untold.real untold.in_order) (λ z b i j. absurd i) put_in in
    let settling : IsSettling s hs old.frontier now world.befell settled = record {
      telling = m;
      befallen = old.befallen;
      run = old.run;
      of_now = old.of_now;
      filled = filled;
      there = λ number line what h it is b i. all_new s hs now bodies [] settled put_in b
          (in_flat (λ (e : Befell). bodies_of s now e.number e.what) world.befell (record { number = number; what = what }) b
          (untold.all refl number line what h it is (has_out s now number what b i)) i);
    } in
    let are = settled_told settling in
    let told : AreToldOf s hs settled old.frontier now world.befell = record {
      telling = m;
      founded = old.run.founded;
      at = are.of_now;
      out = λ z i. let it = filled.each z i in rw it.is it.out;
      turned = λ device on sound. turned_there device settling on sound;
    } in
    let on = goes_on m in
    let few = few_all s now world.befell in
    let put_count = all_long s hs now bodies [] settled put_in in
    let none_long : length {A = Happening} [] ≡ 0 = refl in
    let then_ : World C M = record world {
      wires = wires;
      early = false;
      pending = false;
      befell = [];
      settled = settled;
    } in
    let told_all : StandsOver reading stands s then_ notes old.frontier (behind here) = record {
      same = old.same;
      range = old.range;
      rules = old.rules;
      forward = old.forward;
      steady = old.steady;
      precise = old.precise;
      run = old.run;
      on = on;
      of_now = old.of_now;
      not_later = λ p b. before_next_time p now (2 ∷ 0 ∷ []) b;
      limit = old.limit;
      lines = old.lines;
      given = old.given;
      ended = old.ended;
      befallen = old.befallen;
      clocks = old.clocks;
      broken = old.broken;
      ways = old.ways;
      room = omega arith;
      known = known_told told (rw empty at old.known);
      devices = λ device lt.
          let k = old.devices device lt in (
            k.0,
            k.1,
            held_told stands device k.0 told
                (rw empty at k.2),
          );
      early = λ fresh. absurd (let bad : false ≡ true = fresh in cc);
      untold = none_pending refl refl (λ number h it. before_behind here);
      wires = wires_told s wires m old.forward
          (rw open_ at old.wires) put_by;
      ports = ports_told s m old.ports;
      waiting = waiting_told s m old.waiting;
      stored = old.stored;
      are = are;
      shown = λ device lt ended. (
        λ b. absurd (no_clock now device b),
        λ less. on (clock_place now device)
            ((old.shown device lt ended).1 less),
      );
    } in
    stand_of told_all (λ z i b. not_yet s (filled.each z i) b)

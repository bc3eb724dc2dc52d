-- No source is before what a world has under way, and runs up to an event stay under what comes behind it.
use Rattle.std.{proofs.lemmas.List.Elements.Contains-append_cases, specs.{List.Contains, Prelude.unsigned_abs}}
use Rattle.drift_clock.proofs.Drifts.{one_reach}
use Rattle.net_plan.specs.declared.event.What.TheVariants.{End}
use Rattle.run_law.{proofs.law.FirstDeliveries.numbered_in, specs.{runs.DueRecords.EndsAt, scenario.Scenarios.turns_on}}
use Rattle.world_law.proofs.{acts.Acting.{IsUnmoved, correcting_task, emitting_task, sending_task}}
use Rattle.world_law.proofs.{giving.GivenParts.{in_get, no_later_breaks, some_same}}
use Rattle.world_law.proofs.Words
use Words.{◌&&◌, ◌++◌, ◌+◌, ◌-◌, ◌<◌, ◌==◌, ◌∙◌, ◌∷◌, ◌≡◌, ◌≤◌, ◌⊎◌, AllBefore, Bool, DeviceId, Dispatches, Event}
use Words.{Happening, HasDone, HasSent, HasTaskAt, HaveBefallen, IsActing, IsAtRest, IsBefore, IsCaused, IsDue}
use Words.{IsEventRecord, IsIn, IsLeft, IsSource, LinkId, List, Network, Node, Note, NoteBody, Scenario, Some, Stands}
use Words.{Task, Units, VlId, Waiting, What, World, [], amount, ap, arith, both_ways, cases_Bool, cases_lt, chain}
use Words.{clock_place, dispatching, doing, eqb-true, false, false_from_ne_true, happenings, in_front, in_right, inl}
use Words.{inr, is_turned_on_at, key, length, list_any, members_in, moves, place_of, pos, rank, refl, ripe_place}
use Words.{scenario, slice_get, slice_get_within, subst, suc, sym, task_place, time_of, true, zero, ℕ}
use Rattle.world_law.proofs.runs.{Agreement.caused_same}
use Rattle.world_law.proofs.runs.Worlds
use Worlds.{agree_back, arrives_later, clock_cause, earlier_by_rank, event_cause, event_place, kinds, up_to_it}
use Rattle.world_law.specs.{source.{Applying.{MayFollow, RunStaysUnderMore, place_of_event}, Sources.IsRipening}}
use Rattle.world_law.specs.{world.{Moves.NothingBefore, World.IsWaitingFor}}

-- ---- where nothing that a world has under way is before a place, no source that is not worked off is, but for acts

-- no act that is not worked off is before the place
abbrev pub NoActBefore : Scenario → List Happening → List ℕ → List ℕ → Type 0
NoActBefore s hs frontier p =
    (t : ℕ) (device : DeviceId) (task : Task) → IsActing s hs t device task
    → (IsBefore (task_place s.network t device task) frontier → ⊥)
    → IsBefore (task_place s.network t device task) p → ⊥

pub none_but_acts : {C M : Type 0} {reading : C → ℕ → ℕ} {stands : M → Network → DeviceId → Node → Type 0}
    {s : Scenario} {world : World C M} {notes : List Note} {p : List ℕ} (old : Stands reading stands s world notes)
    → NothingBefore stands s world p → NoActBefore s (happenings s.network notes) old.frontier p → {w : List ℕ}
    → IsSource s (happenings s.network notes) w → (IsBefore w old.frontier → ⊥) → IsBefore w p → ⊥
none_but_acts {world} {p} old none acts (IsSource.arriving t device link cause a) not b =
    search (arith, arrives_later, chain)
none_but_acts {s} {world} {notes} old none acts (IsSource.ripening t device link cause point r) not b =
    let e : Waiting = record { device = device; link = link; cause = cause; frame = r.frame; point = point } in
    let p_is = r.permanent in
    let le : world.now ≤ t = elim (cases_lt t world.now)
    [ inl lt ↦ absurd (not (old.of_now _ (inl lt))) | inr ge ↦ ge ] in
    let it : IsWaitingFor s (happenings s.network notes) e = record {
      arrival = p_is.arrival;
      there = p_is.there;
      awaited = record {
        from = p_is.from;
        clock = p_is.clock;
        arrived = p_is.arrived;
        of_frame = p_is.of_frame;
        waits = p_is.waits;
        at_point = p_is.at_point;
      };
    } in
    let sound = sym (no_later_breaks s old.frontier world.now t device old.befallen le) ∙ p_is.correct in
    let one : (u : ℕ) → IsRipening s (happenings s.network notes) u device link cause point
    → IsBefore (ripe_place u e) old.frontier → ⊥ = λ u x under.
    let arrival = some_same x.permanent.arrival p_is.arrival _ x.permanent.there p_is.there in
    let reached = rw arrival at x.permanent.reached in
    not (rw (one_reach (s.reading device) (pos (time_of p_is.arrival)) point.0 u t reached p_is.reached) at under) in
    none.waiting e (old.waiting.all e it sound one) t le p_is.reached.reached b
none_but_acts old none acts (IsSource.acting t device task a) not b = acts t device task a not b
none_but_acts {p} old none acts (IsSource.departing t device link cause d) not b =
    let found = old.ports.all t device link cause d not in none.ports found.0 found.1 (rw found.2 b)
none_but_acts {s} {world} {notes} {p} old none acts (IsSource.following t cause h it) not b =
    search (arith, numbered_in, place_of, cases_Bool)
none_but_acts old none acts (IsSource.befalling time line what it) not b =
    let told = old.befallen.told it.before it.event it.is in
    let at : amount it.event.time ∷ 1 ∷ [] ≡ amount time ∷ 1 ∷ [] = rw (sym it.at) in
    not (rw at at (chain (amount it.event.time ∷ 1 ∷ []) (amount it.event.time ∷ 1 ∷ (it.before + 1) ∷ []) old.frontier
    (inr (refl, inr (refl, tt))) told))
none_but_acts {s} {world} {p} old none acts (IsSource.ending time device is there ends) not b =
    let it = (old.ended time).0 ends in
    let now : amount time ≡ world.now = ap unsigned_abs it.1 in
    let place : clock_place (amount time) device ≡ clock_place world.now device = rw now in
    let lt = slice_get_within s.network.device device.0 is there in
    elim (cases_lt device.0 world.shown) [
      | inl less ↦ not (rw place ((old.shown device lt it.0).1 less))
      | inr ge ↦ none.clocks device lt it.0 ge (rw place at b)
    ]

-- ---- acts, but for dispatches

-- the source by which a device acts is a task of its node, where nothing has moved it since the time of that
pub acting_task : {s : Scenario} {hs : List Happening} {device : DeviceId} {t later : ℕ} {node : Node} {task : Task}
    → IsUnmoved s hs device t later → IsLeft s hs device t node → HasDone s hs device t node
    → HasSent s device t node → ((link : LinkId) (cause : ℕ) (vl : VlId) (cycle : ℕ)
    → (d : Dispatches s hs device later link cause vl cycle)
    → HasTaskAt s device node later (task_place s.network later device (doing (dispatching (record { 0 = d.place })
    cycle)))) → IsActing s hs later device task → HasTaskAt s device node later
    (task_place s.network later device task)
acting_task {s} {hs} {device} {t} {later} {node} u left has sent rows (IsActing.sends cycle d) =
    sending_task u left has d
acting_task {s} {hs} {device} {t} {later} {node} u left has sent rows (IsActing.emits emission verdict e) =
    emitting_task u left sent e
acting_task {s} {hs} {device} {t} {later} {node} u left has sent rows (IsActing.corrects cycle c) =
    correcting_task u left has c
acting_task u left has sent rows (IsActing.dispatches link cause vl cycle d) = rows link cause vl cycle d

-- an event of a later time than all turns no device on
pub not_on_after : {s : Scenario} {frontier : List ℕ} {now : ℕ} (t : ℕ) (device : DeviceId)
    → HaveBefallen s frontier now
    → now < t → is_turned_on_at s device t ≡ false
not_on_after {s} t device b lt = none_any (λ e. turns_on device e.what && amount e.time == t) s.events (λ e i.
    let at = in_get s.events e i in
    let early = b.past at.0 e at.1 in
    and_none (turns_on device e.what) (amount e.time == t)
    (false_from_ne_true (amount e.time == t) (λ same. let time = eqb-true (amount e.time) t same in
    absurd (omega arith))))
  where
    and_none : (b c : Bool) → c ≡ false → (b && c) ≡ false
    and_none true c e = e
    and_none false c e = refl

    none_any : {X : Type 0} (q : X → Bool) (xs : List X) → ((x : X) → IsIn x xs → q x ≡ false) → list_any q xs ≡ false
    none_any q [] none = refl
    none_any q (x ∷ xs) none = rw (none x (inl refl)) (none_any q xs (λ y i. none y (inr i)))

-- a device that is not turned on at the time is not moved by what leaves it at rest
pub unmoved_by : (s : Scenario) (device : DeviceId) (now : ℕ) (body : NoteBody) → is_turned_on_at s device now ≡ false → IsAtRest s device now body
    → moves device body ≡ false
unmoved_by s device now body off (inl e) = e
unmoved_by s device now body off (inr on) = absurd (both_ways _ off on.1)

-- ---- a run up to the record of an event is the same under this event and those behind it

-- what stands in two lists behind each other stands in one of them
get_parts : {X : Type 0} (xs ys : List X) (x : X) (i : ℕ) → slice_get (xs ++ ys) i ≡ Some x
    → (slice_get xs i ≡ Some x) ⊎ ((length xs ≤ i) × (slice_get ys (i - length xs) ≡ Some x))
get_parts [] ys x i e =
    let same : i ≡ i - 0 = omega arith in inr (omega arith, rw same at e)
get_parts (z ∷ xs) ys x zero e = inl e
get_parts (z ∷ xs) ys x (suc i) e = grind (arith, length, slice_get, (get_parts xs ys x i e))

-- an event's record that is before that of the next event is one of those before
old_event : (events others : List Event) (event : Event) (y : Happening) {line : ℕ} {what : What}
    → ((i : ℕ) (e : Event) → slice_get (event ∷ others) i ≡ Some e → amount event.time ≤ amount e.time)
    → IsEventRecord (events ++ event ∷ others) y.note.time line what
    → IsBefore (time_of y ∷ 1 ∷ line ∷ []) (place_of_event events event) → IsEventRecord events y.note.time line what
old_event events others event y order r b = grind (arith, get_parts, length, time_of, amount)

contains_get : {X : Type 0} (xs : List X) (x : X) → Contains xs x → (i : ℕ) × (slice_get xs i ≡ Some x)
contains_get [] x there = absurd (omega (arith, there.1))
contains_get (y ∷ ys) x (zero, lt, e) = (0, ap Some e)
contains_get (y ∷ ys) x (suc i, lt, e) = let more = contains_get ys x (i, omega arith, e) in (suc more.0, more.1)

-- a clock's record is that of the end, which is none of the events before, and no later event is before its time
no_clock : (events others : List Event) (event : Event) (time : Units) → ((time : Units) → EndsAt events time → ⊥)
    → ((i : ℕ) (e : Event) → slice_get (event ∷ others) i ≡ Some e → amount event.time ≤ amount e.time)
    → EndsAt (events ++ event ∷ others) time → amount time < amount event.time → ⊥
no_clock events others event time running order ends lt =
    elim (Contains-append_cases events (event ∷ others) (record { time = time; what = End }) ends) [
      | inl old ↦ running time old
      | inr new ↦ let there = contains_get (event ∷ others) _ new in let late = order there.0 _ there.1 in omega arith
    ]

module _ {n : Network} {f g : DeviceId → ℕ → ℕ} {events others : List Event} {event : Event} {mark : List ℕ}
    (may : MayFollow n f g events event others mark) {ps : List Happening} {y : Happening}
    (here : IsBefore (place_of y) mark) where
  due_on : AllBefore place_of ps (place_of y) → IsDue (scenario n f events) ps y
      → IsDue (scenario n g (events ++ event ∷ others)) ps y
  due_on before due = record {
    number = due.number;
    same = due.same;
    begun = due.begun;
    cause = elim (kinds y.note.body) [
      | inl it ↦
          let found = event_cause (scenario n f events) ps y.note.time y.note.body it due.cause in
          let r = found.3 in
          let still : IsEventRecord (events ++ event ∷ others) y.note.time found.0 found.1 = record {
            event = r.event;
            before = r.before;
            line_is = r.line_is;
            is = in_front events (event ∷ others) r.before r.event r.is;
            at = r.at;
            same = r.same;
          } in
          subst (IsCaused (scenario n g (events ++ event ∷ others)) ps y.note.time) (sym found.2) still
      | inr (inl clock) ↦ absurd (may.running y.note.time
          (clock_cause (scenario n f events) ps y.note.time y.note.body clock due.cause))
      | inr (inr own) ↦
          let lt = earlier_by_rank (time_of y) (rank y.note.body) (amount event.time) (length events + 1)
          (key (members_in y) y.note.body) own.1
          (may.sooner (place_of y) here) in
          caused_same ps y.note.time y.note.body
          (may.agree (time_of y) lt) (omega arith)
          (up_to_it ps y before) own.0 due.cause
    ];
  }

  due_back : AllBefore place_of ps (place_of y) → IsDue (scenario n g (events ++ event ∷ others)) ps y
      → IsDue (scenario n f events) ps y
  due_back before due = record {
    number = due.number;
    same = due.same;
    begun = due.begun;
    cause = elim (kinds y.note.body) [
      | inl it ↦
          let found = event_cause (scenario n g (events ++ event ∷ others)) ps y.note.time y.note.body it due.cause in
          let at = event_place y found.0 found.1 found.2 in
          let old = old_event events others event y may.in_order found.3
          (subst (λ p. IsBefore p (place_of_event events event)) at (may.sooner (place_of y) here)) in
          subst (IsCaused (scenario n f events) ps y.note.time) (sym found.2) old
      | inr (inl clock) ↦
          let lt = earlier_by_rank (time_of y) (rank y.note.body) (amount event.time) (length events + 1)
          (key (members_in y) y.note.body)
          (omega arith) (may.sooner (place_of y) here) in
          absurd (no_clock events others event y.note.time may.running may.in_order
          (clock_cause (scenario n g (events ++ event ∷ others)) ps y.note.time y.note.body clock due.cause) lt)
      | inr (inr own) ↦
          let lt = earlier_by_rank (time_of y) (rank y.note.body) (amount event.time) (length events + 1)
          (key (members_in y) y.note.body) own.1
          (may.sooner (place_of y) here) in
          caused_same ps y.note.time y.note.body
          (agree_back (may.agree (time_of y) lt)) (omega arith) (up_to_it ps y before) own.0 due.cause
    ];
  }

pub run_stays_under_more : RunStaysUnderMore
run_stays_under_more n f g events event others mark ns may run = record {
  founded = λ ps qs y e.
      let was = run.founded ps qs y e in
      (was.0, due_on may (run.within y (rw e (in_right y ps (y ∷ qs) (inl refl)))) was.0 was.1);
  full = λ ps qs y e before rest due lt.
      run.full ps qs y e before rest (due_back may lt before due) lt;
  within = run.within;
}

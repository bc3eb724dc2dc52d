-- A world begins, time passes where nothing is to come, and clocks are shown at the end.
use Rattle.run_law.{specs.machines.Nodes.begun_node}
use Rattle.run_law.proofs.records.Order.{none_numbered}
use Rattle.world_law.proofs.{acts.{Acting.{IsUnmoved, cleared_on, had_come_before}, Dues.nothing_comes_before}}
use Rattle.world_law.proofs.{devices.{Standing.{IsPast, IsWorked, all_past, at_rest, held_shows}, Unmoved.passes_if}}
use Rattle.world_law.proofs.runs.Worlds.{coming_of, late_of, none_pending, none_to_come, nothing_settled_is_all, run_to}
use Rattle.run_law.proofs.runs.{Grow.empty_run}
use Rattle.run_law.proofs.runs.{Places.{before_later_time, before_next_time, before_of_time, earlier_time}}
use Rattle.world_law.proofs.{giving.{Given.device_in, GivenParts.{no_later_events, up_to_place}}}
use Rattle.world_law.proofs.{putting.{Placing.same_record, Putting.{IsPutting, held_put, known_put, settled_put}}}
use Rattle.world_law.proofs.devices.{Working.worked_by}
use Rattle.world_law.proofs.steps_lemmas.Words
use Words.{◌++◌, ◌+ℤ◌, ◌+◌, ◌-ℤ◌, ◌-◌, ◌<ℤ◌, ◌<◌, ◌^◌, ◌↔◌, ◌∙◌, ◌∷◌, ◌≡◌, ◌≤ℤ◌, ◌≤◌, AreComing, ArePutIn, ComesFirst}
use Words.{DeviceId, Down, Happening, HasDoneFrom, HasSentFrom, HaveBefallen, IsBefore, IsDue, IsHeld, IsIn, IsKept}
use Words.{IsLeft, IsMoving, IsOut, IsOwnSource, IsPending, IsReadyAt, IsSource, IsSteady, LinkId, List, Network, Node}
use Words.{Note, NoteBody, Scenario, Some, Stands, StandsBehind, State, Task, Units, Up, Way, World, [], act_place}
use Words.{acts_before, adjustment_after, all_up_to, amount, ap, append-nil, are_past, arith, at_least, behind}
use Words.{both_ways, cases_Bool, cases_int, cases_lt, chain, change_still, changed_at, clock_place, comes_first}
use Words.{correcting, device_still, doing, due_of, emitting, false, filter_map, happenings, has_cleared, inl, inr}
use Words.{ints, is_at_source, key, last_or, length, members_in, natural, no_cluster, no_later_breaks, no_task_at}
use Words.{none_in, not_on_after, numbered_in, observation_window, own_time, place_of, ports_still, pos, rank}
use Words.{reading_for, record_of, refl, ripe_place, scenario, second, settled_as, slice_get, some_same, stands_on}
use Words.{state_after, subst, sym, time_of, true, units_of, up_to, value_of, waiting_still, wires_still, ℕ, ℤ}
use Rattle.world_law.specs.{device.Own.IsStill, source.First.NoSourceBefore, steps.Steps.{Begun, PassedStep}}
use Rattle.world_law.specs.{world.{Calls.IsStateOf, Moves.{NothingBefore, StandsAt}, World.way_now}}
use Rattle.run_law.specs.declared.judgement.Why.TheVariants as whys
use Rattle.run_law.specs.declared.note.NoteBody.TheVariants as kinds

-- ---- a fresh world stands for the run of no records under no events

-- nothing of the run is before the first source
low_rank : (t k : ℕ) (ws : List ℕ) → 1 ≤ k → IsBefore (t ∷ k ∷ ws) (0 ∷ 1 ∷ []) → ⊥
low_rank t k ws one (inl lt) = absurd (omega arith)
low_rank t k ws one (inr (e, inl lt)) = absurd (omega arith)
low_rank t k ws one (inr (e, inr (f, b))) = b

source_from : {s : Scenario} {hs : List Happening} {w : List ℕ} → IsSource s hs w → IsBefore w (0 ∷ 1 ∷ []) → ⊥
source_from {s} (IsSource.acting t device task a) b =
    low_rank t 4 (device.0 ∷ []) (omega arith) (acts_before s.network t device task (0 ∷ 1 ∷ []) b)
source_from source b = grind arith

begins_at : (a : Units) (r : ℕ) → r ≡ 0 → a.0 ≡ (pos r +ℤ a.0)
begins_at a r e = omega (arith, ints)

left_fresh : (network : Network) (f : DeviceId → ℕ → ℕ) (device : DeviceId) (t : ℕ) → f device 0 ≡ 0
    → IsLeft (scenario network f []) [] device t (begun_node network device)
left_fresh network f device t zero_first = grind (arith, begins_at)

in_time : {r : ℕ} (v a precision : ℤ) → r ≡ 0 → a <ℤ v → pos 0 ≤ℤ precision → pos r <ℤ ((v -ℤ a) +ℤ precision)
in_time v a precision e lt le = omega (arith, ints)

ahead_time : {r : ℕ} (network : Network) (device : DeviceId) (task : Task) → r ≡ 0 → pos 0 ≤ℤ network.precision.0
    → IsPending network device (begun_node network device) task → pos r <ℤ (reading_for network (begun_node network device) task +ℤ network.precision.0)
ahead_time {r} network device (doing deed) e le p = in_time (value_of network deed) _ network.precision.0 e p.1.ahead le
ahead_time network device (emitting sent) e le p = absurd
    (no_cluster (observation_window network) p.1.clusters p.1.cluster p.1.are p.1.there)

kept_fresh : {M : Type 0} (stands : M → Network → DeviceId → Node → Type 0) (network : Network) (f : DeviceId → ℕ → ℕ) (device : DeviceId) (machine : M)
    → f device 0 ≡ 0 → pos 0 ≤ℤ network.precision.0 → stands machine network device (begun_node network device)
    → IsKept stands (scenario network f []) [] [] (0 ∷ 1 ∷ []) 0 device machine
kept_fresh stands network f device machine zero_first le is = record {
  node = begun_node network device;
  is = is;
  sound = refl;
  up = 0;
  acted = inl (refl, λ task b a. absurd (low_rank 0 4 (device.0 ∷ []) (omega arith) (acts_before network 0 device task (0 ∷ 1 ∷ []) b)));
  told = λ over. absurd cc;
  left = left_fresh network f device 0 zero_first;
  taken = refl;
  worked = record {
    undone = λ deed u x from lt. absurd (omega arith);
    done = λ deed there. absurd (none_in deed there);
    unsent = λ sent w x lt. absurd (omega arith);
    sent = λ sent there. absurd (none_in sent there);
  };
  bare = λ other. (refl, refl);
  ready = record {
    time = omega (arith, ints);
    begun = omega (arith, ints);
    last = ap pos (sym zero_first);
    undone = λ task p x lt. absurd (omega arith);
    in_time = λ task p. ahead_time network device task zero_first le p;
  };
  still = λ same h i. absurd i;
  turned = λ on. absurd cc;
  cleared = λ cycle there. absurd (none_in (correcting cycle) there);
  phase = λ at p b. b;
}

pub begun : {C M : Type 0} (reading : C → ℕ → ℕ) (stands : M → Network → DeviceId → Node → Type 0) → Begun reading stands
begun {C} {M} reading stands network f world fresh forward steady zero_first le range rules =
    let s = scenario network f [] in
    let now = sym fresh.now in
    let on : (p : List ℕ) → IsBefore p (0 ∷ []) → IsBefore p (0 ∷ 1 ∷ []) = λ p b. before_of_time p 0 (1 ∷ []) b in
    let none =
    none_to_come (λ front y not due off. source_from off.2 off.3) in
    record {
      same = fresh.of_it;
      range = range;
      rules = rules;
      forward = forward;
      steady = steady;
      precise = le;
      frontier = 0 ∷ 1 ∷ [];
      run = run_to [] (0 ∷ 1 ∷ [])
          (empty_run place_of (IsDue s) (0 ∷ [])
          (λ y due here. elim here [ inl lt ↦ absurd (omega arith) | inr bad ↦ bad.1 ])) none
          (λ w source waits b. waits b) (λ z i. absurd i) on;
      of_now = λ p b. on p (rw fresh.now at b);
      not_later = λ p b. rw (sym now) (before_next_time p 0 (1 ∷ []) b);
      limit = rw (sym now) (omega arith);
      lines = fresh.lines;
      given = fresh.given;
      ended = λ time. (λ ends. absurd (none_in _ ends), λ it. absurd (cc));
      befallen = record { past = λ i e at. absurd cc; told = λ i e at. absurd cc; begun = λ i e at. absurd cc; sent = λ i e link octets at. absurd cc };
      clocks = λ device lt. let own = fresh.clocks device lt in (own.0, own.1, λ t late. own.2 t (omega arith));
      broken = fresh.broken;
      ways = rw now at fresh.ways;
      room = let none : length world.settled ≡ 0 = ap length fresh.settled in omega arith;
      known =
          rw fresh.settled (record { unmoved = λ device le h i. absurd i; never_on = λ device le t. refl });
      devices = λ device lt.
          let m = fresh.machines device lt in (
            m.0,
            m.1,
            inl (subst (λ l. IsKept stands s [] l (0 ∷ 1 ∷ []) world.now device m.0) (sym fresh.settled)
                (subst (λ n. IsKept stands s [] [] (0 ∷ 1 ∷ []) n device m.0) now
                (kept_fresh stands network f device m.0 (zero_first device) le m.2))),
          );
      early = λ first p b. rw now at (chain p (0 ∷ 1 ∷ []) (0 ∷ 2 ∷ []) b (inr (refl, inl (omega arith))));
      untold = none_pending fresh.pending fresh.befell (λ number h it. absurd (none_numbered number h it.there));
      wires =
          rw fresh.wires (record {
            real = λ e i. absurd i;
            all =
                λ t device link cause a told not. absurd (none_numbered cause a.putting a.there);
          });
      ports =
          rw fresh.ports (record {
            real = λ e i. absurd i;
            all =
                λ t device link cause d not. absurd (none_numbered cause d.giving d.there);
          });
      waiting =
          rw fresh.waiting (record {
            real = λ e i. absurd i;
            later = λ e i. absurd i;
            sound = λ e i. absurd i;
            all = λ e it sound not. absurd (none_numbered e.cause it.arrival it.there);
          });
      stored =
          rw fresh.stored (record { real = λ e i. absurd i; all = λ device vl taking last. absurd cc });
      are =
          rw fresh.settled (coming_of none on (λ z i. absurd i));
      shown = λ device lt ended. absurd (cc);
    }

-- ---- time passes where nothing is to come

-- no way changes without an event
ways_stay : {s : Scenario} {frontier : List ℕ} {now : ℕ} (t : ℕ) (link : LinkId) (way : Way)
    → HaveBefallen s frontier now
    → now ≤ t → way_now s now link way ≡ way_now s t link way
ways_stay t link way b le = grind (arith, last_or, filter_map, no_later_events)

-- where nothing is to come, nothing comes from a source of an earlier time
nothing_full : (s : Scenario) (hs : List Happening) (t : ℕ) → AreComing s hs [] (t ∷ []) t
nothing_full s hs t = coming_of {from = t ∷ []} (none_to_come (λ front y not due worked.
    let at = own_time s (hs ++ front) (time_of y) (members_in y) y.note.body worked.0 worked.1 in
    not (inl (earlier_time (time_of y) t (at.0 ∷ at.1) (rw at.2 at worked.3)))))
    (λ p b. b) (λ z i. absurd i)

in_past : {C M : Type 0} {reading : C → ℕ → ℕ} {stands : M → Network → DeviceId → Node → Type 0} {s : Scenario}
    {world : World C M} {notes : List Note} (old : Stands reading stands s world notes) (h : Happening)
    → IsIn h (happenings s.network notes) → time_of h ≤ world.now
in_past old h i = (are_past old).past h i

-- the world stands at the later time, where its devices are kept there
pub passed_but_devices : {C M : Type 0} {reading : C → ℕ → ℕ} {stands : M → Network → DeviceId → Node → Type 0}
    {s : Scenario} {world : World C M} {notes : List Note} (t : ℕ) (old : Stands reading stands s world notes)
    → world.settled ≡ [] → world.now < t → t ≤ 2 ^ 60 → world.ended ≡ false → NothingBefore stands s world (t ∷ [])
    → NoSourceBefore s (happenings s.network notes) old.frontier (t ∷ [])
    → ((device : DeviceId) → device.0 < length s.network.device
    → (machine : M) × (slice_get world.machines device.0 ≡ Some machine)
    × IsHeld stands s (happenings s.network notes) [] (t ∷ []) t device machine)
    → StandsAt reading stands s (record world { now = t; early = true }) notes (t ∷ [])
passed_but_devices {stands} {s} {world} {notes} t old settled lt few running none first devices =
    let hs = happenings s.network notes in
    let now = world.now in
    let are : AreComing s hs [] old.frontier now = rw settled at old.are in
    let over : (p : List ℕ) → IsBefore p old.frontier → IsBefore p (t ∷ []) = λ p b. before_later_time p
    (now + 1) t (omega arith) (old.not_later p b) in
    let told : world.pending ≡ false = elim (cases_Bool world.pending) [ inr closed ↦ closed | inl open_ ↦ absurd (none.befell open_ (inl lt)) ] in
    let le : now ≤ t = omega arith in (
      record {
        same = old.same;
        range = old.range;
        rules = old.rules;
        forward = old.forward;
        steady = old.steady;
        precise = old.precise;
        frontier = t ∷ [];
        run = nothing_settled_is_all s notes old.frontier now t old.run are over first;
        of_now = λ p b. b;
        not_later = λ p b. before_later_time p t (t + 1) (omega arith) b;
        limit = few;
        lines = old.lines;
        given = old.given;
        ended = λ time. (
          λ ends. absurd (both_ways _ running ((old.ended time).0 ends).0),
          λ it. absurd (both_ways _ running it.0),
        );
        befallen = record {
          past = λ i e at. let early = old.befallen.past i e at in omega arith;
          told = λ i e at. over _ (old.befallen.told i e at);
          begun = old.befallen.begun;
          sent = old.befallen.sent;
        };
        clocks = λ device in_it. let own = old.clocks device in_it in (own.0, own.1, λ x late. own.2 x (omega arith));
        broken = λ device in_it. old.broken device in_it
            ∙ ap Some (sym (no_later_breaks s old.frontier now t device old.befallen le));
        ways = record {
          up = λ link in_it. old.ways.up link in_it ∙ ap Some (ways_stay t link Up old.befallen le);
          down = λ link in_it. old.ways.down link in_it ∙ ap Some (ways_stay t link Down old.befallen le);
        };
        room = old.room;
        known = old.known;
        devices = λ device within.
            let m = devices device within in
            (m.0, m.1, rw settled m.2);
        early = λ fresh p b. before_of_time p t (2 ∷ []) b;
        untold = none_pending told (old.untold.none told) (λ number h it.
            let early = in_past old h (numbered_in hs number h it.there) in
            let at = it.same_time in
            absurd (omega arith));
        wires = record {
          real = λ e i. ((old.wires.real e i).0, λ open_. absurd (both_ways _ told open_), none.wires e i);
          all =
              λ u device link cause a closed not. old.wires.all u device link cause a
              (λ open_. absurd (both_ways _ told open_))
              (λ b. not (over _ b));
        };
        ports = record {
          real = λ e i. ((old.ports.real e i).0, none.ports e i);
          all = λ u device link cause d not. old.ports.all u device link cause d (λ b. not (over _ b));
        };
        waiting = record {
          real = old.waiting.real;
          later = λ e i u r b. elim (cases_lt u now) [
            | inl past ↦ old.waiting.later e i u r (old.of_now _ (inl past))
            | inr ge ↦ none.waiting e i u ge r.permanent.reached.reached b
          ];
          sound = λ e i. no_later_breaks s old.frontier now t e.device old.befallen le ∙ old.waiting.sound e i;
          all =
              λ e it sound not. old.waiting.all e it
              (sym (no_later_breaks s old.frontier now t e.device old.befallen le) ∙ sound)
              (λ u r b. not u r (over (ripe_place u e) b));
        };
        stored = old.stored;
        are = rw settled (nothing_full s hs t);
        shown = λ device in_it ended. absurd (both_ways _ running ended);
      },
      refl,
    )

-- ---- a device of which nothing is due before the later time

not_now : (t : ℕ) (device : DeviceId) → IsBefore (act_place t device) (t ∷ []) → ⊥
not_now t device (inl lt) = omega arith
not_now t device (inr b) = b.1

-- what has not come to its reading by the time has not waited for as long as the precision there
too_late : (z : ℤ) (now t : ℕ) → z ≡ pos t → z ≤ℤ pos now → now < t → ⊥
too_late z now t e le lt = omega (arith, ints)

ready_later : (s : Scenario) {device : DeviceId} {node : Node} {now : ℕ} (t : ℕ)
    → IsReadyAt (s.reading device) s.network device node now
    → IsSteady (s.reading device) (amount s.network.precision)
    → s.network.precision.0 ≡ pos (amount s.network.precision) → now < t
    → ((task : Task) → IsPending s.network device node task → (x : ℕ) → x < t
    → pos (s.reading device x) <ℤ reading_for s.network node task)
    → IsReadyAt (s.reading device) s.network device node t
ready_later s {device} t ready steady wide lt undone = record {
  time = let early = ready.time in omega (arith, ints);
  begun = ready.begun;
  last = ready.last;
  undone = undone;
  in_time = λ task p.
      let before = undone task p (t - 1) (omega (arith, lt)) in
      let jump = steady.no_jump (t - 1) in
      let same : t - 1 + 1 ≡ t = omega arith in
      let jumped : s.reading device t < s.reading device (t - 1) + amount s.network.precision = rw same at jump in
      omega (arith, ints);
}

-- a broken device has no task
pub no_task : (network : Network) (device : DeviceId) (node : Node) (task : Task) → node.broken ≡ true → IsPending network device node task → ⊥
no_task network device node (emitting sent) broken p = cc
no_task network device node (doing deed) broken p = cc

module _ {M : Type 0} (stands : M → Network → DeviceId → Node → Type 0) {s : Scenario} {hs : List Happening}
    {frontier : List ℕ} {now : ℕ} (t : ℕ) (device : DeviceId) (machine : M) where
  pub device_passes : (k : IsKept stands s hs [] frontier now device machine) → now < t
      → IsSteady (s.reading device) (amount s.network.precision) → pos 0 ≤ℤ s.network.precision.0
      → HaveBefallen s frontier now → IsPast hs now → IsWorked hs frontier now
      → ((p : List ℕ) → IsBefore p frontier → IsBefore p ((now + 1) ∷ []))
      → ((task : Task) → IsPending s.network device k.node task → (x : ℕ) → now ≤ x → x < t
      → pos (s.reading device x) <ℤ reading_for s.network k.node task)
      → IsKept stands s hs [] (t ∷ []) t device machine
  device_passes k lt steady precise befallen past worked later idle =
      let rest = at_rest k befallen past worked
      (record { later = later; falls = steady.never_falls }) (λ task p. idle task p now (omega arith) lt) in
      let from = rest.from in
      let le : from ≤ t = omega arith in
      let off_later = not_on_after t device befallen lt in
      let as_broken = no_later_breaks s frontier now t device befallen (omega arith) ∙ sym
      (no_later_breaks s frontier now from device befallen rest.le) in
      let still : IsStill hs device from t = λ h i after before. rest.still h i after in
      let u : IsUnmoved s hs device from t = record {
        le = le;
        still = still;
        not_on = rest.off;
        not_on_later = off_later;
        not_broken = as_broken;
        never_falls = steady.never_falls;
      } in
      let undone : (task : Task) → IsPending s.network device k.node task → (x : ℕ) → x < t → pos
      (s.reading device x) <ℤ reading_for s.network k.node task =
      λ task p x before.
      elim (cases_lt x now) [ inl earlier ↦ k.ready.undone task p x earlier | inr after ↦ idle task p x after before ] in
      let sound =
      rest.left.counted.broken ∙ no_later_breaks s frontier now from device befallen rest.le ∙ k.sound in
      let whole = sym (append-nil hs) in
      let left = passes_if t le still rest.off off_later as_broken (λ timed.
      elim (cases_Bool (has_cleared s hs device from from)) [
        | inl did ↦ cleared_on u did ∙ sym did
        | inr not_yet ↦
            elim (cases_Bool (has_cleared s hs device t t)) [
              | inr still_not ↦ still_not ∙ sym not_yet
              | inl cleared ↦
                  let task = had_come_before u rest.left rest.done timed not_yet cleared sound in
                  absurd (never_both _ _ (idle task.0 task.1 (t - 1) (omega arith) (omega arith)) task.2)
            ]
      ]) rest.left in
      let done : HasDoneFrom s.network (s.reading device) device k.node (changed_at hs device t) t t = record {
        undone = λ deed w x after before. undone (doing deed) (sound, w) x before;
        done = λ deed there.
            let x = rest.done.done deed there in
            let change = change_still hs device from t le still in
            (x.0, omega (arith, x.1), omega (arith, x.2), x.3);
      } in
      let sent : HasSentFrom s device k.node t t = record {
        unsent = λ c w x before. undone (emitting c) (sound, w) x before;
        sent = λ c there. let x = rest.sent.sent c there in (x.0, omega (arith, x.1), x.2);
      } in
      record {
        node = k.node;
        is = k.is;
        sound = no_later_breaks s frontier now t device befallen (omega arith) ∙ k.sound;
        up = t;
        acted = inl (refl, λ task b a. absurd (not_now t device (acts_before s.network t device task (t ∷ []) b)));
        told = λ over. absurd (too_soon t over);
        left = rw whole at left;
        taken = k.taken;
        worked = worked_by (t ∷ [])
            (record {
              done = rw whole at done;
              sent = sent;
            }) (λ x task early. inl early);
        bare = k.bare;
        ready = ready_later s t k.ready steady (natural s.network.precision.0 precise) lt undone;
        turned = λ on. absurd (both_ways _ off_later on);
        still = λ same h i at. let early = past.past h (subst (λ l. IsIn h l) (sym whole) i) in
            absurd (omega arith);
        cleared = k.cleared;
        phase = λ at. absurd (too_late _ now t at k.ready.time lt);
      }
    where
      too_soon : (t : ℕ) → t ≡ t + 1 → ⊥
      too_soon t e = omega arith

      never_both : (a b : ℤ) → a <ℤ b → b ≤ℤ a → ⊥
      never_both a b lt le = omega (arith, ints)

  out_passes : (k : IsOut stands s hs [] frontier now device machine) → now < t → HaveBefallen s frontier now
      → IsPast hs now → IsOut stands s hs [] (t ∷ []) t device machine
  out_passes k lt befallen past =
      grind (arith, time_of, append-nil, up_to, all_up_to, no_later_breaks, state_after, adjustment_after, ints, no_task, too_late)

  held_passes : IsHeld stands s hs [] frontier now device machine → now < t
      → IsSteady (s.reading device) (amount s.network.precision) → pos 0 ≤ℤ s.network.precision.0
      → HaveBefallen s frontier now → IsPast hs now → IsWorked hs frontier now
      → ((p : List ℕ) → IsBefore p frontier → IsBefore p ((now + 1) ∷ []))
      → ((node : Node) → stands machine s.network device node → (task : Task) → IsPending s.network device node task
      → (x : ℕ) → now ≤ x → x < t → pos (s.reading device x) <ℤ reading_for s.network node task)
      → IsHeld stands s hs [] (t ∷ []) t device machine
  held_passes (inl k) lt steady precise befallen past worked later idle =
      inl (device_passes k lt steady precise befallen past worked later (idle k.node k.is))
  held_passes (inr k) lt steady precise befallen past worked later idle =
      inr (out_passes k lt befallen past)

pub passed_step : {C M : Type 0} (reading : C → ℕ → ℕ) (stands : M → Network → DeviceId → Node → Type 0) → PassedStep reading stands
passed_step {C} {M} reading stands s world notes t old settled lt few running none =
    let told : world.pending ≡ false = elim (cases_Bool world.pending) [ inr closed ↦ closed | inl open_ ↦ absurd (none.befell open_ (inl lt)) ] in
    let first = nothing_comes_before reading stands s world notes (t ∷ []) old (λ z i. absurd (rw settled at i)) none in
    passed_but_devices t old settled lt few running none first (λ device within.
    let m = old.devices device within in (
      m.0,
      m.1,
      held_passes stands t device m.0
          (rw settled at m.2) lt
          (old.steady device) old.precise old.befallen
          (are_past old) (old.untold.done told) old.not_later
          (λ node is task p x from before. elim (cases_int (pos (s.reading device x)) (reading_for s.network node task)) [
            | inl less ↦ less
            | inr ge ↦ absurd (none.acting device m.0 node task m.1 is p x from ge (inl before))
          ]),
    ))

-- ---- the clock of a device is shown at the end

-- only the record of a device's clock comes from its source at the end
clock_own : (s : Scenario) (js : List Happening) (t members : ℕ) (body : NoteBody) (device : DeviceId) (now : ℕ)
    → IsOwnSource s js t members body (now ∷ 14 ∷ device.0 ∷ []) → (t ≡ now) × (rank body ∷ key members body ≡ 14 ∷ device.0 ∷ [])
clock_own s js t m (kinds.Clock other reading adjustment state) device now o = (cc, cc)
clock_own s js t m (kinds.State d state cause whys.SyncClique) device now o = grind arith
clock_own s js t m other device now o = grind arith

-- what is late is at its source where it is a clock's
last_rank : (body : NoteBody) → 14 ≤ rank body → is_at_source body ≡ true
last_rank (kinds.Clock other reading adjustment state) late = refl
last_rank other late = absurd (omega arith)

-- so nothing is to come where a clock comes first
none_coming : {s : Scenario} {hs : List Happening} (coming : List Happening) {now : ℕ}
    (device : DeviceId) → IsMoving s hs coming now 14 (device.0 ∷ []) → coming ≡ []
none_coming [] device m = refl
none_coming (y ∷ coming) {now} device m =
    let late = at_least y now 14 (device.0 ∷ []) (m.are.of_now y (inl refl)) (m.are.after y (inl refl)) in
    absurd (both_ways _ (late_of m.are y (inl refl)) (last_rank y.note.body late))

pub nothing_put : (now : ℕ) (network : Network) (hs : List Happening) (body : NoteBody) (settled : List Happening)
    → ArePutIn network hs now (body ∷ []) [] settled → settled ≡ settled_as network hs now body ∷ []
nothing_put now network hs body settled (mid, put, last) = from put.front put.back put.was put.is
  where
    from : (front back : List Happening) → [] ≡ front ++ back → mid ≡ front ++ settled_as network hs now body ∷ back → settled ≡ settled_as network hs now body
        ∷ []
    from [] [] was is = last ∙ is
    from [] (b ∷ back) was is = absurd cc
    from (f ∷ front) back was is = absurd cc

shown_more : (now : ℕ) {shown : ℕ} (device d : DeviceId) → shown ≡ device.0 → IsBefore (clock_place now d)
    (behind (clock_place now device)) ↔ (d.0 < shown + 1)
shown_more now device d e = grind (arith, up_to_place, clock_place, cases_lt)

-- the clock of the next device is shown, and its record is to come
pub clock_step : {C M : Type 0} {reading : C → ℕ → ℕ} {stands : M → Network → DeviceId → Node → Type 0} (s : Scenario)
    {world : World C M} {notes : List Note} (device : DeviceId) {machine : M} (state : State) (adjustment : Units)
    (settled : List Happening) {old : Stands reading stands s world notes}
    → device.0 < length s.network.device → world.ended ≡ true → world.shown ≡ device.0
    → ComesFirst reading stands s world notes old (clock_place world.now device)
    → slice_get world.machines device.0 ≡ Some machine → IsStateOf stands s.network device machine state adjustment
    → ArePutIn s.network (happenings s.network notes) world.now
    (kinds.Clock device (units_of (s.reading device world.now)) adjustment state ∷ []) world.settled settled
    → StandsBehind reading stands s (record world { early = false; settled = settled; shown = world.shown + 1 }) notes
    (clock_place world.now device)
clock_step {C} {M} {reading} {stands} s {world} {notes} device {machine} state adjustment settled {old} lt ended shown
    first there stood put =
    let hs = happenings s.network notes in
    let now = world.now in
    let more = device.0 ∷ [] in
    let here = now ∷ 14 ∷ more in
    let waits : IsBefore here old.frontier → ⊥ = λ b. let less = (old.shown device lt ended).0 b in omega
    arith in
    let c = comes_first old 14 more (inr (refl, inl (omega arith))) refl waits first in
    let empty = none_coming world.settled device c.moving in
    let moving : IsMoving s hs [] now 14 more = rw empty at c.moving in
    let body = kinds.Clock device (units_of (s.reading device now)) adjustment state in
    let w = record_of s.network hs [] now body in
    let m2 = old.devices device lt in
    let machine_is = some_same m2.0 machine _ m2.1 there in
    let shows = held_shows stands s hs world.settled old.frontier now device m2.0 m2.2 (old.untold.done c.told)
    (all_past reading stands s world notes old) old.befallen in
    let is = stood shows.0 (rw (sym machine_is) shows.1) in
    let at_end = device_in s.network device lt in
    let due = due_of s hs [] now body (record {
      is = at_end.0;
      there = at_end.1;
      ends = (old.ended (units_of now)).1 (ended, refl);
      reads = refl;
      adjusted = is.1 ∙ shows.2.adjustment ∙ ap (λ l. adjustment_after s (up_to now (hs ++ l)) device) empty;
      in_state = is.0 ∙ shows.2.state ∙ ap (λ l. state_after s (up_to now (hs ++ l)) device) empty;
    }) in
    let p : IsPutting s hs [] [] now 14 more w = record {
      one = record {
        moving = moving;
        given = old.run.founded;
        at = refl;
        due = due;
        before = λ y i. absurd i;
        none = λ y i b. i;
        fresh = λ y i same. i;
        mine = refl;
        here = IsSource.ending (units_of now) device at_end.0 at_end.1 ((old.ended (units_of now)).1 (ended, refl));
        aside = λ x j other same hears. let six : 14 ≡ 6 = ap second same in omega arith;
      };
      late = omega arith;
      idle = tt;
      own = λ zs y y_due few at own.
          let it = clock_own s (hs ++ zs) (time_of y) (members_in y) y.note.body device now own in
          rw (sym it.1) (ap (λ n. n ∷ rank y.note.body ∷ key (members_in y) y.note.body) (sym it.0));
    } in
    let all = nothing_put now s.network hs body settled
    (rw empty at put)
    ∙ ap (λ h. h ∷ []) (sym (same_record s.network hs [] now body (omega arith))) in
    let room = first.room in
    rw all (stands_on c world.machines (world.shown + 1) (omega arith)
    (settled_put p)
    (known_put hs [] [] w tt (rw empty at old.known))
    (λ d within.
    let k = c.devices d within in (
      k.0,
      k.1,
      held_put [] [] w tt refl
          (subst (λ l. IsHeld stands s hs l (behind here) now d k.0) empty
          (device_still c (no_task_at s.network now d 14 more (inr (omega arith))) k.2)),
    ))
    (wires_still c (λ two. omega arith))
    (ports_still c (λ eight. omega arith))
    (waiting_still c (λ three. omega arith))
    (λ d within over. shown_more now device d shown))

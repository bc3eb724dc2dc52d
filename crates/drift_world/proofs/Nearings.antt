-- A world comes nearer to a time, turn by turn, as devices act and timers are set.
use Rattle.std.proofs.{Common.{drop, slice_get}, Math.Nat.mul-le-mul_right, lemmas.List.length-drop}
use Rattle.device_rules.specs.Reading.{StandsAsBefore}
use Rattle.drift_world.proofs.{ActTurns.{IsTurn, comes_first as comes_then, others_then}, Foremost.node_of}
use Rattle.drift_world.proofs.{Locals.shows_of, Timings.{act_stays, part_most, rekeyed_by, set_act, waits_as}}
use Rattle.drift_world.proofs.{Turning.{comes_first, kept_timers, rekeyed_step, runs_on, says_then}}
use Rattle.drift_world.proofs.Words
use Words.{if◌then◌else◌, ◌*◌, ◌++◌, ◌+◌, ◌-◌, ◌<◌, ◌↔◌, ◌∙◌, ◌∷◌, ◌≡◌, ◌≤ℤ◌, ◌≤◌, Befallen, Bool, Content, DeviceId}
use Words.{Err, IfOk, IsIn, IsPutOn, IsRunning, IsSound, IsWell, Kept, List, Meaning, Moment, Network, Node, None, Note}
use Words.{Ok, OnOk, Option, Result, Settled, Some, StandsOn, StandsWith, Turn, Waits, WayState, [], ap, arith}
use Words.{cases_lt, false, in_all, inl, inr, ints, keeps, le-ltb, length, length_permutation, lt-ltb, nat_lt, never}
use Words.{numbers_end, pos, reading_for, refl, subst, suc, sym, true, units_of, zero, ℕ}
use Rattle.drift_world.specs.{Acting.{ActGives, IsIdleAt, IsLeft, IsNextDue}}
use Rattle.drift_world.specs.{Nearing.{IsLess, Nears, acting, burden, distance, due_work}}
use Rattle.drift_world.specs.{Parts.{IsLaterThan, IsNoSooner, part_rank}}
use Rattle.drift_world.specs.{Turns.{GivesAt, IsActive, IsKept, IsPassed, IsStep, MayWork, TurnsTo, WorkSays}}
use Rattle.drift_world.specs.Stepping
use Stepping.{ActsAt, IsActTimed, IsDueBy, IsDueTimed, IsTimedFor, IsTimerBy, MayRekey, SetsOnly, ToldBefore}
use Rattle.drift_world.specs.declared.{next.Turn.TheVariants.{Ends, Gives, GoesOn}}
use Rattle.drift_world.specs.declared.{part.{Part.Part, ToDo.{TheVariants.{Next, Now}, ToDo}}}
use Rattle.drift_world.specs.declared.{source.Source.TheVariants.Act, state.State.State}
use Rattle.run_law.specs.machines.{Answers.called, Calls.HasDue, Nodes.Phase}
use Rattle.run_law.specs.machines.{Tasks.{IsDueReading, IsPending, Task, doing, emitting}}
use Rattle.tte_units.specs.declared.units.Units.{Units}
use Rattle.world_law.proofs.{giving.GivenParts.some_same, steps_lemmas.Words.{undone_alike, waiting_alike}}
use Rattle.world_state.specs.{Befalling.AreSettledBy}
use Rattle.world_state.specs.declared.{hearing.Before.{Before, TheVariants.{Due, Same}}, queue.Entry.Entry}
use Rattle.world_state.specs.declared.{timers.Timer.Timer}

-- ---- a world comes nearer to a time, turn by turn: what is due at the times of timers

-- what one adds
abbrev work_of : ℕ → Timer → ℕ
work_of now t = if nat_lt now t.time then 0 else 7 - t.rank

work_later : (now : ℕ) (t : Timer) → now < t.time → work_of now t ≡ 0
work_later now t lt = rw (lt-ltb now t.time lt)

work_now : (now : ℕ) (t : Timer) → t.time ≤ now → work_of now t ≡ 7 - t.rank
work_now now t le = rw (le-ltb now t.time le)

work_most : (now : ℕ) (t : Timer) → work_of now t ≤ 7
work_most now t = elim (cases_lt now t.time) [
  | inl lt ↦ let is = work_later now t lt in omega arith
  | inr le ↦ let is = work_now now t le in omega arith
]

due_cons : (now : ℕ) (t : Timer) (ts : List Timer) → due_work now (t ∷ ts) ≡ work_of now t + due_work now ts
due_cons now t ts = refl

-- no more than so much for each
pub due_most : (now : ℕ) (ts : List Timer) → due_work now ts ≤ 7 * length ts
due_most now [] = omega arith
due_most now (t ∷ ts) = grind (arith, length, due_cons, work_most, (due_most now ts))

-- as much, where the timers are the same
due_same : (now : ℕ) (xs ys : List Timer) → ((j : ℕ) → slice_get ys j ≡ slice_get xs j) → due_work now ys ≡ due_work now xs
due_same now [] [] same = refl
due_same now [] (y ∷ ys) same = let e = same 0 in absurd cc
due_same now (x ∷ xs) [] same = let e = same 0 in absurd cc
due_same now (x ∷ xs) (y ∷ ys) same =
    let head : y ≡ x = let e : Some y ≡ Some x = same 0 in cc in
    rw head (ap (λ n. work_of now x + n) (due_same now xs ys (λ j. same (suc j))))

-- less, where one adds less
due_falls : (now : ℕ) (xs ys : List Timer) (i : ℕ) {a b : Timer} → ((j : ℕ) → (j ≡ i → ⊥) → slice_get ys j ≡ slice_get xs j) → slice_get xs i ≡ Some a
    → slice_get ys i ≡ Some b → work_of now b < work_of now a → due_work now ys < due_work now xs
due_falls now [] ys i same was is lt = absurd cc
due_falls now (x ∷ xs) [] i same was is lt = absurd cc
due_falls now (x ∷ xs) (y ∷ ys) zero {a} {b} same was is lt =
    let before = ap (work_of now) (let e : x ≡ a = (let f = was in cc) in e) in
    let after = ap (work_of now) (let e : y ≡ b = (let f = is in cc) in e) in
    let rest = due_same now xs ys (λ j. same (suc j) (λ e. omega arith)) in
    let old = due_cons now x xs in
    let new = due_cons now y ys in
    omega arith
due_falls now (x ∷ xs) (y ∷ ys) (suc i) {a} {b} same was is lt =
    let head = ap (work_of now) (let e : y ≡ x = (let f = same 0 (λ e. omega arith) in cc) in e) in
    let rest = due_falls now xs ys i (λ j ne. same (suc j) (λ e. ne (omega arith))) was is lt in
    let old = due_cons now x xs in
    let new = due_cons now y ys in
    omega arith

get_drop : {X : Type 0} (n : ℕ) (xs : List X) (j : ℕ) → slice_get (drop n xs) j ≡ slice_get xs (n + j)
get_drop zero xs j = let e : j ≡ zero + j = omega arith in ap (slice_get xs) e
get_drop (suc n) [] j = refl
get_drop (suc n) (x ∷ xs) j = let e : suc (n + j) ≡ suc n + j = omega arith in get_drop n xs j ∙ ap (slice_get (x ∷ xs)) e

-- the same, of the timers behind the first so many
pub due_falls_behind : (now n : ℕ) (xs ys : List Timer) (i : ℕ) {a b : Timer}
    → ((slot : ℕ) → (slot ≡ n + i → ⊥) → slice_get ys slot ≡ slice_get xs slot) → slice_get xs (n + i) ≡ Some a → slice_get ys (n + i) ≡ Some b
    → work_of now b < work_of now a → due_work now (drop n ys) < due_work now (drop n xs)
due_falls_behind now n xs ys i {a} {b} same was is lt =
    due_falls now (drop n xs) (drop n ys) i
    (λ j ne. get_drop n ys j ∙ same (n + j) (λ e. ne (omega arith)) ∙ sym (get_drop n xs j)) (get_drop n xs i ∙ was)
    (get_drop n ys i ∙ is) lt

-- ---- what is settled

put_length : (o : Option (Entry Content)) (old new : List (Entry Content)) → IsPutOn o old new → length new ≤ length old + 1
put_length None old new is = let e : length new ≡ length old = ap length is in omega arith
put_length (Some e) old new is = let long = length_permutation (e ∷ old) new is in omega arith

-- each event that is settled puts at most one under way
pub settled_length : (network : Network) (broken : List Bool) (ups : List WayState) (time : ℕ) (befell : List Befallen) (settled after : List Settled)
    (entries then_ : List (Entry Content)) → AreSettledBy network broken ups time befell settled after entries then_
    → length then_ ≤ length befell + length entries
settled_length network broken ups time [] settled after entries then_ are =
    let e : length then_ ≡ length entries = ap length are.1 in omega arith
settled_length network broken ups time (b ∷ befell) settled after entries then_ (mid, between, one, put, rest) =
    grind (arith, put_length, (settled_length network broken ups time befell mid after between then_ rest))

-- ---- steps

module _ {C M : Type 0} (last_step : C → ℕ) (reading : C → ℕ → ℕ) (stands : Meaning M) (network : Network) where
  -- the timer of one that is idle is later
  act_later : (device : DeviceId) {mid new : State C M} → device.0 < length network.device → IsRunning reading stands network mid
      → new ≡ record mid { timers = new.timers } → IsWell last_step reading stands network new → IsIdleAt reading stands network mid device
      → (timer : Timer) × (slice_get new.timers (length network.device + device.0) ≡ Some timer) × (new.time < timer.time)
  act_later device {mid} {new} of_it running same well idle =
      let timed = (well.timed.each device of_it).act in
      let s = running.s in
      let time : new.time ≡ mid.time = ap State.time same in
      let limit = well.sound.sized.limit in
      let held =
      sym (rw same) ∙ timed.of_machine in
      let clocked =
      sym (rw same) ∙ timed.of_clock in
      let node = node_of running device of_it held in
      let own = running.is.clocks device (rw running.is.same at of_it) in
      let clock_is = some_same _ _ _ own.1 clocked in (
        record { time = timed.act; rank = part_rank timed.part },
        timed.of_act,
        elim (cases_lt new.time timed.act) [
          | inl lt ↦ lt
          | inr le ↦
              let from = in_all (λ t. new.time ≤ t.time) new.timers (length network.device + device.0) _
              well.timed.later timed.of_act in
              let task = timed.acts.one (omega arith) node.0 node.1 in
              let reads : reading timed.clock timed.act ≡ s.reading device mid.time =
              ap (λ n. reading timed.clock n) (omega (arith, le, from, time)) ∙ ap (λ (k : C). reading k mid.time)
              (sym clock_is)
              ∙ sym (own.2 mid.time (omega arith)) in
              let less = idle s timed.machine (shows_of mid running.is) held node.0 task.0
              (subst (λ k. keeps stands timed.machine k device node.0) running.is.same node.1)
              (subst (λ k. IsPending k device node.0 task.0) running.is.same task.1) in
              let more = subst (λ k. reading_for k node.0 task.0 ≤ℤ pos (s.reading device mid.time)) running.is.same
              (subst (λ n. reading_for network node.0 task.0 ≤ℤ pos n) reads task.2) in
              absurd (omega (arith, ints, less, more))
        ],
      )

  -- where its timer is set to one that adds less, and those of other devices stay, there is less to do
  fewer_acts : {part : Part} {device : DeviceId} {old mid new : State C M} {timer : Timer} → IsActive reading stands network old part device
      → mid ≡ record old { machines = mid.machines; early = mid.early; settled = mid.settled; spare = mid.spare }
      → new ≡ record mid { timers = new.timers }
      → ((slot : ℕ) → (slot ≡ length network.device + device.0 → ⊥) → slice_get new.timers slot ≡ slice_get mid.timers slot)
      → slice_get new.timers (length network.device + device.0) ≡ Some timer → work_of old.time timer < 7 - part_rank part → IsLess network old new
  fewer_acts {part} {device} {old} {new} {timer} active acted same others is less =
      let time : new.time ≡ old.time = ap State.time same ∙ ap State.time acted in
      let was : Timer = record { time = old.time; rank = part_rank part } in
      let before = work_now old.time was (let le : old.time ≤ old.time = omega arith in le) in
      let falls = due_falls_behind old.time (length network.device) old.timers new.timers device.0
      (λ slot ne. others slot ne ∙ ap (λ l. slice_get l slot) (ap State.timers acted)) active.due is
      (omega arith) in
      inr (
        rw same (ap (λ t. burden network t) acted),
        rw time falls,
      )

  part_work : (part : Part) → 0 < 7 - part_rank part
  part_work part = let most = part_most part in omega arith

  -- what a device does leaves as much to work off, and the device has nothing more to do
  pub act_less : {part : Part} {device : DeviceId} {old mid new : State C M} → IsActive reading stands network old part device
      → mid ≡ record old { machines = mid.machines; early = mid.early; settled = mid.settled; spare = mid.spare } → IsRunning reading stands network mid
      → new ≡ record mid { timers = new.timers }
      → ((slot : ℕ) → (slot ≡ length network.device + device.0 → ⊥) → slice_get new.timers slot ≡ slice_get mid.timers slot)
      → IsWell last_step reading stands network new → IsIdleAt reading stands network mid device → IsLess network old new
  act_less {part} {device} {old} {mid} {new} active acted running same others well_new idle =
      let time : new.time ≡ old.time = ap State.time same ∙ ap State.time acted in
      let later = act_later device active.of running same well_new idle in
      let lt = later.2 in
      let none = work_later old.time later.0 (omega arith) in
      let some = part_work part in
      fewer_acts active acted same others later.1 (omega arith)

  -- or only what is of a later part, which it has put off
  pub defer_less : (part other : Part) {device : DeviceId} {old mid new : State C M} → IsActive reading stands network old part device
      → part_rank part < part_rank other
      → mid ≡ record old { machines = mid.machines; early = mid.early; settled = mid.settled; spare = mid.spare }
      → new ≡ record mid { timers = new.timers }
      → ((slot : ℕ) → (slot ≡ length network.device + device.0 → ⊥) → slice_get new.timers slot ≡ slice_get mid.timers slot)
      → slice_get new.timers (length network.device + device.0) ≡ Some (record { time = new.time; rank = part_rank other }) → IsLess network old new
  defer_less part other {device} {old} {mid} {new} active later acted same others put =
      let time : new.time ≡ old.time = ap State.time same ∙ ap State.time acted in
      let put_off : Timer = record { time = new.time; rank = part_rank other } in
      let is = work_now old.time put_off (let le : new.time ≤ old.time = omega arith in le) in
      let most = part_most other in
      fewer_acts active acted same others put (omega arith)

  -- ---- the distance

  -- no more than so much for each device
  acting_most : {state : State C M} → IsWell last_step reading stands network state → acting network state ≤ 7 * length network.device
  acting_most {state} well =
      let most = due_most state.time (drop (length network.device) state.timers) in
      let long = length-drop (length network.device) state.timers in
      let sized = well.timed.sized in
      omega arith

  -- with less to come the distance is less
  fewer : (a b n x y : ℕ) → a < b → x ≤ n → a * (n + 1) + x < b * (n + 1) + y
  fewer a b n x y lt le =
      let times = mul-le-mul_right (n + 1) (let l : a + 1 ≤ b = omega arith in l) in
      omega arith

  -- a step that leaves less to work off comes nearer to any time
  pub less_nears : (until : ℕ) (old new : State C M) → IsWell last_step reading stands network new → new.time ≡ old.time → IsLess network old new
      → distance network until new < distance network until old
  less_nears until old new well time (inl lt) =
      fewer ((until - new.time) + burden network new) ((until - old.time) + burden network old) (7 * length network.device) (acting network new)
      (acting network old) (sum_less until old new time lt) (acting_most well)
    where
      sum_less : (until : ℕ) (old new : State C M) → new.time ≡ old.time → burden network new < burden network old
          → ((until - new.time) + burden network new) < ((until - old.time) + burden network old)
      sum_less until old new time lt = plus (until - new.time) (until - old.time) (burden network new) (burden network old)
          (rw time) lt
        where
          plus : (a b c d : ℕ) → a ≡ b → c < d → a + c < b + d
          plus a b c d e l = omega arith
  less_nears until old new well time (inr same) =
      evenly (until - new.time) (until - old.time) (burden network new) (burden network old) (7 * length network.device) (acting network new)
      (acting network old) (rw time) same.0 same.1
    where
      evenly : (a b c d n x y : ℕ) → a ≡ b → c ≡ d → x < y → (a + c) * (n + 1) + x < (b + d) * (n + 1) + y
      evenly a b c d n x y e f l =
          rw (sym (let g : a + c ≡ b + d = omega (arith, e, f) in g)) (omega (arith, l))

  -- so does one where time passes
  pub passing_nears : (until time : ℕ) (early : Bool) (old : State C M) {new : State C M} → IsWell last_step reading stands network new
      → new ≡ record old { time = time; early = early } → old.time < time → time ≤ until → distance network until new < distance network until old
  passing_nears until time early old {new} well same later within =
      fewer ((until - new.time) + burden network new) ((until - old.time) + burden network old) (7 * length network.device) (acting network new)
      (acting network old)
      (plus new.time (burden network new) (burden network old) (ap State.time same) (rw same))
      (acting_most well)
    where
      plus : (t c d : ℕ) → t ≡ time → c ≡ d → (until - t) + c < (until - old.time) + d
      plus t c d e f = omega arith

-- ---- each kind of source

-- the events of the instant are settled
pub settled_less : {C M : Type 0} (network : Network) (old : State C M) {new : State C M} → old.pending ≡ true → new.pending ≡ false
    → length new.befell.items + length new.under_way.entries ≤ length old.befell.items + length old.under_way.entries → new ≡ record old {
      under_way = new.under_way;
      befell = new.befell;
      settled = new.settled;
      early = new.early;
      pending = new.pending;
    } → IsLess network old new
settled_less network old was is most same = grind (arith, length)

pub on_both : {A E : Type 0} (result : Result A E) (P Q R : Type 0) → OnOk result P → OnOk result Q → (P → Q → R) → OnOk result R
on_both (Ok a) P Q R p q f = f p q
on_both (Err e) P Q R p q f = tt

-- ---- turns

module _ {C M : Type 0} (network : Network) (until : ℕ) (old : State C M) where
  -- what nears a state with more room nears the state before it
  pub nears_behind : (mid new : State C M) (turn : Turn) → distance network until mid ≤ distance network until old
      → Nears network until mid new turn → Nears network until old new turn
  nears_behind mid new Gives le nears = tt
  nears_behind mid new Ends le nears = tt
  nears_behind mid new GoesOn le nears =
      let lt : distance network until new < distance network until mid = nears in omega (arith, le, lt)

pub no_more : {a b : ℕ} → a ≡ b → a ≤ b
no_more e = omega (arith, e)

-- it is as far where room is taken
pub as_far : {C M : Type 0} (network : Network) (until : ℕ) (old new : State C M)
    → new ≡ record old { under_way = new.under_way; settled = new.settled }
    → new.under_way.entries ≡ old.under_way.entries → distance network until new ≡ distance network until old
as_far {C} {M} network until old new same entries =
    ap (λ (t : State C M). distance network until t) same
    ∙ ap (λ (l : List (Entry Content)). ((until - old.time) + ((if old.pending then 1 else 0) + length old.befell.items + length l
    + length old.waiting.items + (length network.device - old.shown))) * (7 * length network.device + 1) + acting network old) entries

-- ---- what a device has done by itself, once its timer is set

module _ {C M : Type 0} {last_step : C → ℕ} {reading : C → ℕ → ℕ} {stands : Meaning M} {network : Network} {part : Part}
    {device : DeviceId} {first mid : State C M} {left : ToDo} {acts : ℕ}
    (may : MayWork last_step reading stands network first (Act part device))
    (turn : IsTurn last_step reading stands network part device first mid left acts) where
  still : StandsOn reading stands network first mid
  still s notes is =
      (turn.still s notes is
      (comes_first may tt is)).new

  timers_are : mid.timers ≡ first.timers
  timers_are = ap State.timers turn.same

  waits : (w : Waits) → IsIn w mid.waiting.items ↔ IsIn w first.waiting.items
  waits = waits_as first mid (ap State.waiting turn.same)

  -- its timer may be set
  pub may_set : MayRekey last_step reading stands network mid device
  may_set = record {
    sized = turn.sound.sized;
    there = may.foremost.there.of;
    few = may.range.few_devices;
    slots = ap length timers_are ∙ may.well.timed.sized;
    running = runs_on mid may.well still;
  }

  -- ---- nothing of it is given

  -- the step, once it is
  pub stepped : {new : State C M} → IsActTimed reading stands network new.timers new device
      → SetsOnly (λ slot. slot ≡ length network.device + device.0) mid new
      → IsStep last_step reading stands network first new
  stepped {new} timed sets =
      let there = may.foremost.there.of in
      let others = others_then device.0 first mid turn.same turn.machines in
      rekeyed_step may.well turn.sound there others timers_are
      (ap State.given turn.same) still
      (set_act there (may.well.timed.each device there) others.clocks
      others.time (λ w at. waits w)
      timers_are timed sets)

  -- there is less to do then
  pub less_then : (new : State C M) → SetsOnly (λ slot. slot ≡ length network.device + device.0) mid new
      → IsWell last_step reading stands network new
      → (rest : ToDo) → IsLeft reading stands network mid device rest → IsLaterThan part rest
      → ((other : Part) → rest ≡ Now other → slice_get new.timers (length network.device + device.0)
      ≡ Some (record { time = new.time; rank = part_rank other })) → IsLess network first new
  less_then new sets well (Now other) is later put =
      defer_less last_step reading stands network part other may.foremost.there later turn.same
      sets.same sets.others (put other refl)
  less_then new sets well (Next due) is later put =
      act_less last_step reading stands network may.foremost.there turn.same may_set.running
      sets.same sets.others well is.1

  -- ---- a record of it is given

  module _ {gave : State C M} {note : Note} (sound : IsSound last_step network gave)
      (machines : (i : ℕ) → (i ≡ device.0 → ⊥) → slice_get gave.machines.items i ≡ slice_get mid.machines.items i)
      (act : ActGives reading stands network part device mid gave note)
      (numbers : mid.given + length mid.settled.items + 2 < numbers_end) where
    gives : StandsWith reading stands network first gave (note ∷ [])
    gives s notes is =
        let ahead = comes_first may tt is in
        let was = turn.still s notes is ahead in
        act.then_stands s notes was.new
        (comes_then last_step reading stands network part device first mid left acts turn numbers s notes
        is ahead)

    gave_timers : gave.timers ≡ first.timers
    gave_timers = ap State.timers act.same ∙ timers_are

    gave_time : gave.time ≡ first.time
    gave_time = ap State.time act.same ∙ ap State.time turn.same

    gave_waits : (w : Waits) → w.device.0 < length network.device
        → IsIn w gave.waiting.items ↔ IsIn w first.waiting.items
    gave_waits w lt =
        let few = may.range.few_devices in
        let aside = act.waiting w (omega arith) in
        let before = waits w in
        (λ i. before.0 (aside.0 i), λ i. aside.1 (before.1 i))

    pub gave_may_set : MayRekey last_step reading stands network gave device
    gave_may_set =
        let run = may.well.running in
        record {
          sized = sound.sized;
          there = may.foremost.there.of;
          few = may.range.few_devices;
          slots = ap length gave_timers ∙ may.well.timed.sized;
          running = record {
            s = run.s;
            notes = run.notes ++ note ∷ [];
            is = gives run.s run.notes run.is;
          };
        }

    pub gave_kept : {new : State C M} → IsActTimed reading stands network new.timers new device
        → SetsOnly (λ slot. slot ≡ length network.device + device.0) gave new
        → IsKept last_step reading stands network first new (note ∷ [])
    gave_kept {new} timed sets =
        let there = may.foremost.there.of in
        let time = gave_time in
        let clocks = ap State.clocks act.same ∙ ap State.clocks turn.same in
        let keyed =
        set_act there (may.well.timed.each device there) clocks gave_time
        (λ w at. gave_waits w (omega arith)) gave_timers timed sets in
        kept_timers (note ∷ []) may.well sound
        (record {
          clocks = clocks;
          ended = ap State.ended act.same ∙ ap State.ended turn.same;
          later = omega arith;
        })
        gives sets.same
        (rekeyed_by may.well.timed there
        (λ i ne. ap (λ c. slice_get c.items i) clocks)
        (λ i ne. machines i ne ∙ turn.machines i ne) (λ w ne lt. gave_waits w lt) gave_time gave_timers keyed)

    pub gave_says : {new : State C M} → SetsOnly (λ slot. slot ≡ length network.device + device.0) gave new
        → GivesAt first new note Gives
    gave_says sets =
        let now = ap State.time sets.same ∙ ap State.time act.same in (
          act.time ∙ ap units_of (sym now),
          now ∙ ap State.time turn.same,
          ap State.given sets.same ∙ ap State.given act.same
              ∙ ap (λ t. t.given + 1) turn.same,
        )

-- ---- a timer that is right for the reading at which a machine acts next

module _ {C M : Type 0} {reading : C → ℕ → ℕ} (stands : Meaning M) (network : Network) where
  -- one that is right for the machine is right for the reading
  pub due_by : {clock : C} {machine : Kept M} {device : DeviceId} {now time : ℕ} {part : Part} (due : Option Units) (node : Node)
      → keeps stands machine network device node → IsDueReading network device node due → ActsAt reading stands network clock machine device now time part
      → IsDueBy reading clock due now time
  due_by None node kept least acts = record { none = tt; one = λ lt. let task = acts.one lt node kept in least task.0 task.1 }
  due_by (Some at) node kept least acts = record {
    none = λ u from most reached.
        let first = least.0 in
        let reads = first.2 in
        acts.none node first.0 kept first.1 u from most (omega (arith, ints));
    one = λ lt.
        let task = acts.one lt node kept in
        let le = least.1 task.0 task.1 in
        let reads = task.2 in
        omega (arith, ints);
  }

  -- and the other way about, where it is of the right part
  pub acts_by : {clock : C} (machine : Kept M) (device : DeviceId) {now time : ℕ} (part : Part) (due : Option Units)
      → ((node : Node) → keeps stands machine network device node → IsDueReading network device node due) → IsDueBy reading clock due now time
      → ((node : Node) → keeps stands machine network device node → IsNoSooner network device node (pos (reading clock time)) part)
      → ActsAt reading stands network clock machine device now time part
  acts_by machine device part None least by keeps_part = record {
    none = λ node task kept pending u from most reached. absurd (least node kept task pending);
    one = λ lt. absurd (by.one lt);
    late = λ lt. keeps_part;
  }
  acts_by {clock} machine device {time} part (Some at) least by keeps_part = record {
    none = λ node task kept pending u from most reached.
        let le = (least node kept).1 task pending in by.none u from most (omega (arith, ints));
    one = one;
    late = λ lt. keeps_part;
  }
    where
      one : time < never → (node : Node) → keeps stands machine network device node → HasDue network device node (pos (reading clock time))
      one lt node kept =
          let first = (least node kept).0 in let e = first.2 in let reads = by.one lt in
          (first.0, first.1, omega (arith, ints))

  -- it stays right for the reading where clocks, timers and time do, whatever becomes of the machine
  pub due_stays : {last_step : C → ℕ} {old : State C M} (new : State C M) (device : DeviceId) (due : Option Units) → IsWell last_step reading stands network old
      → device.0 < length network.device → IsNextDue stands old device due
      → new.clocks ≡ old.clocks → new.time ≡ old.time → new.timers ≡ old.timers → IsDueTimed reading network new device.0 due
  due_stays {old} new device due well of_it least clocks now timers clock timer own at =
      let timed = (well.timed.each device of_it).act in
      let clock_is = some_same _ _ _ timed.of_clock (sym (rw clocks) ∙ own) in
      let was : Timer = record { time = timed.act; rank = part_rank timed.part } in
      let timer_is = some_same _ _ _ timed.of_act
      (sym (rw timers) ∙ at) in
      let node = node_of well.running device of_it timed.of_machine in
      let by = due_by due node.0 node.1
      (least timed.machine network device node.0 timed.of_machine node.1) timed.acts in
      subst (λ n. IsTimerBy reading clock due n timer) (sym now)
      (subst (λ t. IsTimerBy reading clock due old.time t) timer_is
      (subst (λ k. IsTimerBy reading k due old.time was) clock_is
      (record { by = by; part = timed.part; rank_is = refl })))

-- ---- what a turn says, and how near it comes: what a turn says that works a source off

-- what it gives after a step, it gives after the state before
gives_then : {E C M : Type 0} (network : Network) (old mid new : State C M) (note : Note) (result : Result Turn E) → mid.time ≡ old.time → mid.given ≡ old.given
    → IfOk result (GivesAt mid new note) → IfOk result (WorkSays network old new note)
gives_then network old mid new note (Ok Gives) time given says = (says.0, says.1 ∙ time, says.2 ∙ ap (λ n. n + 1) given)
gives_then network old mid new note (Ok GoesOn) time given says = absurd says
gives_then network old mid new note (Ok Ends) time given says = absurd says
gives_then network old mid new note (Err e) time given says = tt

module _ {C M : Type 0} {last_step : C → ℕ} {reading : C → ℕ → ℕ} {stands : Meaning M} {network : Network} where
  -- it does not end, and where it goes on, it comes nearer
  pub work_turns : (E : Type 0) (old : State C M) {new : State C M} (until : ℕ) (note : Note) (result : Result Turn E) → old.time < until
      → IsWell last_step reading stands network new → IfOk result (WorkSays network old new note)
      → IfOk result (TurnsTo reading stands network until old new note)
  work_turns E old until note (Ok Gives) early well says =
      let time = says.1 in record { whole = λ s notes is. tt; says = (says.0, omega arith, says.2); nears = tt }
  work_turns E old {new} until note (Ok GoesOn) early well says =
      let time = says.0 in
      record {
        whole = λ s notes is. tt;
        says = (omega arith, says.1);
        nears = less_nears last_step reading stands network until old new well says.0 says.2;
      }
  work_turns E old until note (Ok Ends) early well says = absurd says
  work_turns E old until note (Err e) early well says = tt

  pub gives_turns : (E : Type 0) (old : State C M) {new : State C M} (until : ℕ) (note : Note) (result : Result Turn E) → old.time < until
      → IsWell last_step reading stands network new → IfOk result (GivesAt old new note) → IfOk result (TurnsTo reading stands network until old new note)
  gives_turns E old {new} until note result early well says =
      work_turns E old until note result early well (gives_then network old old new note result refl refl says)

  -- ---- what a turn says where time passes, or behind a step

  pub passed_turns : {old new : State C M} {until : ℕ} (note : Note) (turn : Turn) → IsPassed last_step reading stands network until old new turn
      → Nears network until old new turn → TurnsTo reading stands network until old new note turn
  passed_turns note Gives passed nears = absurd passed.says
  passed_turns note GoesOn passed nears = record { whole = passed.whole; says = passed.says; nears = nears }
  passed_turns note Ends passed nears = record { whole = passed.whole; says = passed.says; nears = nears }

pub turns_then : {E C M : Type 0} (reading : C → ℕ → ℕ) (stands : Meaning M) (network : Network)
    (old mid new : State C M) (until : ℕ) (note : Note) (result : Result Turn E) → mid.given ≡ old.given → mid.ended ≡ old.ended
    → StandsOn reading stands network old mid
    → distance network until mid ≤ distance network until old → IfOk result (TurnsTo reading stands network until mid new note)
    → IfOk result (TurnsTo reading stands network until old new note)
turns_then reading stands network old mid new until note (Ok turn) given ended still le turns = record {
  whole = λ s notes is. turns.whole s notes (still s notes is);
  says = says_then old mid new until note turn given ended turns.says;
  nears = nears_behind network until old mid new turn le turns.nears;
}
turns_then reading stands network old mid new until note (Err e) given ended still le turns = tt

-- a turn that does not go on need not come nearer
pub ends_near : {C M : Type 0} (network : Network) (until : ℕ) (old new : State C M) (turn : Turn) → (turn ≡ GoesOn → ⊥) → Nears network until old new turn
ends_near network until old new Gives not = tt
ends_near network until old new GoesOn not = absurd (not refl)
ends_near network until old new Ends not = tt

-- ---- what is to be done for a device that had as much to do before

-- a device has the same to do, whenever it was called last
pub still_to_do : (network : Network) (device : DeviceId) (node : Node) (last : Moment) (phase : Phase) (task : Task)
    → IsPending network device node task → IsPending network device (called last phase node) task
    × (reading_for network (called last phase node) task ≡ reading_for network node task)
still_to_do network device node last phase (emitting sent) p =
    ((p.0, waiting_alike network device (called last phase node) node refl (λ c there. there) p.1), refl)
still_to_do network device node last phase (doing deed) p = (
  (
    p.0,
    undone_alike network device (called last phase node) node
        (record { standing = refl; broken = refl; changed = refl; taken = refl; done = λ d there. there }) p.1,
  ),
  refl,
)

module _ {C M : Type 0} (reading : C → ℕ → ℕ) (stands : Meaning M) (network : Network) where
  -- a timer that was right for its machine is right
  pub acts_still : (clock : C) (was is : Kept M) (device : DeviceId) (now time : ℕ) (part : Part) → StandsAsBefore (keeps stands) was is
      → ActsAt reading stands network clock was device now time part → ActsAt reading stands network clock is device now time part
  acts_still clock was is device now time part before acts = record {
    none = λ node task kept pending u from most reached.
        let b = before network device node kept in
        let p = still_to_do network device node b.0 b.1 task pending in
        acts.none (called b.0 b.1 node) task b.2 p.0 u from most (rw p.1 reached);
    one = λ lt node kept.
        let b = before network device node kept in
        let t = acts.one lt (called b.0 b.1 node) b.2 in
        let p = still_to_do network device (called b.0 b.1 node) node.last node.phase t.0 t.1 in
        (t.0, p.0, rw p.1 t.2);
    late = λ lt node kept task pending reached.
        let b = before network device node kept in
        let p = still_to_do network device node b.0 b.1 task pending in
        acts.late lt (called b.0 b.1 node) b.2 task p.0 (rw p.1 reached);
  }

  -- the timer stays right for what the device had to do before, where clocks, timers and time stay
  pub told_timed : (last_step : C → ℕ) (old new : State C M) (device : DeviceId) (before : Before) → IsWell last_step reading stands network old
      → device.0 < length network.device → ToldBefore stands old new device.0 before
      → (is : Kept M) → slice_get new.machines.items device.0 ≡ Some is → new.clocks ≡ old.clocks → new.time ≡ old.time
      → new.timers ≡ old.timers → IsTimedFor reading stands network new device.0 before
  told_timed last_step old new device Same well of_it told is of_is clocks time timers =
      let timed = (well.timed.each device of_it).act in
      record {
        clock = timed.clock;
        of_clock = rw clocks timed.of_clock;
        machine = is;
        of_machine = of_is;
        act = timed.act;
        part = timed.part;
        of_act = rw timers timed.of_act;
        acts = rw time (acts_still timed.clock timed.machine is device old.time timed.act timed.part
            (told timed.machine is timed.of_machine of_is) timed.acts);
      }
  told_timed last_step old new device (Due due) well of_it told is of_is clocks time timers =
      due_stays stands network new device due well of_it
      (λ machine other d node at kept. told machine is at of_is other d node kept) clocks time timers

  -- and where the timer of the frames that wait is set
  pub timed_still : (old new : State C M) (device : DeviceId) (before : Before) → device.0 < length network.device
      → SetsOnly (λ slot. slot ≡ device.0) old new → IsTimedFor reading stands network old device.0 before
      → IsTimedFor reading stands network new device.0 before
  timed_still old new device Same there ripe is =
      act_stays stands network old new is (ap State.clocks ripe.same) (ap State.time ripe.same)
      (ap State.machines ripe.same) (ripe.others (length network.device + device.0) (λ e. omega arith))
  timed_still old new device (Due due) there ripe is = λ clock timer own at.
      rw (ap State.time ripe.same) (is clock timer (sym (rw ripe.same) ∙ own)
      (sym (ripe.others (length network.device + device.0) (λ e. omega arith)) ∙ at))

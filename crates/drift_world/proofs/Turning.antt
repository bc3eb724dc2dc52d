-- A turn of a world: what comes first, where its records stand, and how far the world came.
use Rattle.std.{proofs.Common.{All, slice_get}, specs.List.filter_map}
use Rattle.drift_world.proofs.{Foremost.{of_world, sooner_too, timers_later}, Rising.settled_in_order}
use Rattle.drift_world.proofs.{Signals.{sound_same, sound_timers}}
use Rattle.drift_world.proofs.{Timings.{part_least, part_most, passed, rekeyed, unchanged}}
use Rattle.run_law.proofs.{records.Order.all_of, runs.Places.{before_later, before_later_time}}
use Rattle.world_law.proofs.{acts.Dues.nothing_comes_before, runs.Worlds.{late_of, nothing_settled_is_all}}
use Rattle.drift_world.proofs.Words
use Words.{◌++◌, ◌+◌, ◌<◌, ◌^◌, ◌∙◌, ◌∷◌, ◌≡◌, ◌≤◌, ◌⊎◌, AreComing, AreFirsts, AreTimed, Bool, ChangesOnly, ComesFirst}
use Words.{ComesUpTo, DeviceId, DueAt, Err, Happening, HasItsOctets, HasNothingBefore, InOrder, IsAt, IsBefore, IsIn}
use Words.{IsRunning, IsScenarioRun, IsSound, IsWell, List, Meaning, Network, NoSourceBefore, Note, NoteBody, Ok, OnErr}
use Words.{OnOk, Option, Result, Scenario, Settled, SlotTimer, SourceFirst, Stands, StandsOn, StandsWith, Turn, Units}
use Words.{[], ap, append-nil, arith, at_port, cases_lt, chain, false, given_by, happenings, inl, inr, ints, is_mapped}
use Words.{keeps, length, length-map, map, never_self, numbers_of, on_wire, option_map_or, own_place, place_of, pos}
use Words.{rank, refl, settled_at, subst, suc, sym, true, waiting_as, world_of, zero, ℕ}
use Rattle.drift_world.specs.{Acting.AreAbove, Running.{MayTryAgain, next_of}, Stepping.IsRekeyed}
use Rattle.drift_world.specs.Turns
use Turns.{HasRoom, IsAfter, IsForemost, IsKept, IsNow, IsPassed, IsStep, IsThere, MayGive, MayWork, NextSays, PassSays}
use Turns.{SettledFirst, TurnSays, given_in, source_place, source_rank}
use Rattle.drift_world.specs.declared.{next.Turn.TheVariants.{Ends, Gives, GoesOn}}
use Rattle.drift_world.specs.declared.{source.Source.{Source, TheVariants.{Act, Arrival, Clock, Departure, Later}}}
use Rattle.drift_world.specs.declared.{state.State.State}
use Rattle.run_law.{specs.records.Ranks.key}
use Rattle.world_law.{specs.world.World.is_at_source}
use Rattle.run_law.specs.declared.note.NoteBody.TheVariants as kinds

-- ---- records that stand where their sources do: the ranks of sources

-- no source is of rank 1, or of that of changes of state, or of those of what becomes of frames
pub record IsSourceRank (r : ℕ) : Type 0 where
  pub least : 2 ≤ r
  pub no_change : r ≡ 7 → ⊥
  pub either : (r ≤ 8) ⊎ (14 ≤ r)

pub ranks : (source : Source) → IsSourceRank (source_rank source)
ranks (Act part device) =
    let least = part_least part in
    let most = part_most part in
    record { least = omega arith; no_change = λ e. omega arith; either = inl (omega arith) }
ranks (Clock device) = record { least = omega arith; no_change = λ e. omega arith; either = inr (omega arith) }
ranks (Later time) = record { least = omega arith; no_change = λ e. omega arith; either = inr (omega arith) }
ranks other = record { least = omega arith; no_change = λ e. omega arith; either = inl (omega arith) }

none : (r : ℕ) → 8 < r → r < 14 → (r ≤ 8) ⊎ (14 ≤ r) → ⊥
none r low high (inl le) = omega arith
none r low high (inr ge) = omega arith

-- a record of such a rank stands where its source does
pub at_rank : (body : NoteBody) → IsSourceRank (rank body) → is_at_source body ≡ true
at_rank (kinds.Event line what) r = let least = r.least in absurd (omega arith)
at_rank (kinds.State device state cause why) r = absurd (r.no_change refl)
at_rank (kinds.Lost device link cause) r = absurd (none 9 (omega arith) (omega arith) r.either)
at_rank (kinds.TtSent device link cause vl cycle) r = absurd (none 10 (omega arith) (omega arith) r.either)
at_rank (kinds.Accepted device link cause vl cycle) r = absurd (none 11 (omega arith) (omega arith) r.either)
at_rank (kinds.Delivered device link cause vl cycle) r = absurd (none 12 (omega arith) (omega arith) r.either)
at_rank (kinds.Dropped device link cause reason) r = absurd (none 13 (omega arith) (omega arith) r.either)
at_rank other r = refl

-- so does one of the rank of a source
pub source_at : (source : Source) (body : NoteBody) → rank body ≡ source_rank source → is_at_source body ≡ true
source_at source body same = at_rank body (subst IsSourceRank (sym same) (ranks source))

pub rank_most : (body : NoteBody) → rank body ≤ 14
rank_most (kinds.Event line what) = omega arith
rank_most other = omega arith

-- ---- what is settled

-- what holds of all holds of each
pub each_of : {X : Type 0} (P : X → Type 0) (xs : List X) (x : X) → All P xs → IsIn x xs → P x
each_of P [] x all i = absurd i
each_of P (y ∷ ys) x all (inl same) = subst P (sym same) (all zero y (omega arith))
each_of P (y ∷ ys) x all (inr i) = each_of P ys x (λ k d within. all (suc k) d (omega arith)) i

-- nothing that is settled stands where its source does
pub is_late : {C M : Type 0} {reading : C → ℕ → ℕ} (stands : Meaning M) {network : Network}
    (state : State C M) {z : Settled} {others : List Settled} {s : Scenario} {notes : List Note}
    → state.settled.items ≡ z ∷ others
    → (old : Stands reading (keeps stands) s (world_of network state) notes)
    → is_at_source z.body ≡ false
is_late stands {network} state {z} {s} {notes} whole old =
    let shown = settled_at network state.time z in
    let there : IsIn shown (map (settled_at network state.time) state.settled.items) =
    rw whole (inl refl) in
    late_of old.are shown there

-- ---- where the first of what is settled is of a higher rank, all is

each_above : (network : Network) (now low : ℕ) (settled : List Settled) → InOrder (map (settled_at network now) settled)
    → ((z : Settled) (others : List Settled) → settled ≡ z ∷ others → low < rank z.body) → (y : Settled) → IsIn y settled → low < rank y.body
each_above network now low [] order first y i = absurd i
each_above network now low (x ∷ xs) order first y (inl e) = rw e (first x xs refl)
each_above network now low (x ∷ xs) order first y (inr i) =
    let lt = first x xs refl in
    elim (cases_lt (rank y.body) (rank x.body)) [
      | inr ge ↦ omega arith
      | inl less ↦ absurd (order.0 (settled_at network now y) (is_mapped (settled_at network now) xs y i) (inr (refl, inl less)))
    ]

pub all_above : {C M : Type 0} {reading : C → ℕ → ℕ} (stands : Meaning M)
    {network : Network} (state : State C M) (low : ℕ) {s : Scenario} {notes : List Note}
    → Stands reading (keeps stands) s (world_of network state) notes
    → ((z : Settled) (others : List Settled) → state.settled.items ≡ z ∷ others → low < rank z.body)
    → AreAbove low state
all_above stands {network} state low old first =
    all_of (λ z. low < rank z.body) state.settled.items
    (each_above network state.time low state.settled.items (settled_in_order old) first)

-- ---- a turn of a world: what comes first, and what the steps keep: a source and what is settled

-- the numbers of what is under way at this time and of this rank
pub ranked_at : {now rank : ℕ} (place : DueAt) → place.at ≡ now → place.rank ≡ rank
    → now ∷ rank ∷ place.device ∷ place.link ∷ place.cause ∷ [] ≡ numbers_of place
ranked_at {rank} place at is =
    ap (λ t. t ∷ rank ∷ place.device ∷ place.link ∷ place.cause ∷ []) (sym at)
    ∙ ap (λ (r : ℕ). place.at ∷ r ∷ place.device ∷ place.link ∷ place.cause ∷ []) (sym is)

-- the place of a source of the present instant
pub record IsShaped (now : ℕ) (source : Source) : Type 0 where
  pub rest : List ℕ
  pub place : source_place now source ≡ now ∷ source_rank source ∷ rest

pub shaped : {C M : Type 0} (reading : C → ℕ → ℕ) (stands : Meaning M) (network : Network) (state : State C M)
    (source : Source) → IsThere reading stands network state source → IsNow source → IsShaped state.time source
shaped reading stands network state (Arrival place) there now = record { rest = _; place = sym (ranked_at place there.now there.rank_is) }
shaped reading stands network state (Departure place) there now = record { rest = _; place = sym (ranked_at place there.now there.rank_is) }
shaped reading stands network state (Later time) there now = absurd now
shaped reading stands network state other there now = record { rest = _; place = refl }

-- what is of a higher rank than a source of the present instant is not before it
higher_not : (now r q : ℕ) (xs ys : List ℕ) → q < r → IsBefore (now ∷ r ∷ xs) (now ∷ q ∷ ys) → ⊥
higher_not now r q xs ys lt (inl b) = omega (arith, b)
higher_not now r q xs ys lt (inr (e, inl b)) = omega (arith, lt, b)
higher_not now r q xs ys lt (inr (e, inr (f, b))) = omega (arith, lt, f)

not_ahead : (network : Network) {now : ℕ} {source : Source} (first : Settled) → IsShaped now source
    → source_rank source < rank first.body → IsBefore (place_of (settled_at network now first))
    (source_place now source) → ⊥
not_ahead network {now} {source} first shape lt before =
    higher_not now (rank first.body) (source_rank source) (key (option_map_or (λ frame. frame.members.0) first.frame 0) first.body) shape.rest lt
    (subst (IsBefore (now ∷ own_place first)) shape.place before)

-- what is of a lower rank than a source is before it
pub ahead_before : {C M : Type 0} (reading : C → ℕ → ℕ) (stands : Meaning M) (network : Network) (state : State C M)
    (source : Source) (first : Settled) → IsThere reading stands network state source → rank first.body < source_rank source
    → IsBefore (place_of (settled_at network state.time first)) (source_place state.time source)
ahead_before reading stands network state (Later time) first there lt = inl there
ahead_before reading stands network state (Arrival place) first there lt =
    subst (IsBefore (place_of (settled_at network state.time first))) (ranked_at place there.now there.rank_is) (inr (refl, inl lt))
ahead_before reading stands network state (Departure place) first there lt =
    subst (IsBefore (place_of (settled_at network state.time first))) (ranked_at place there.now there.rank_is) (inr (refl, inl lt))
ahead_before reading stands network state other first there lt = inr (refl, inl lt)

-- where something is settled, a source that comes first of it is not later
pub none_settled : (settled : List Settled) (time : ℕ) → SourceFirst settled (Later time) → settled ≡ []
none_settled [] time first = refl
none_settled (z ∷ zs) time first = let above = first z zs refl in let most = rank_most z.body in absurd (omega (arith, above, most))

-- nothing that is settled is before what the first of it is not before
none_sooner : (network : Network) (now : ℕ) (settled : List Settled) (w : List ℕ) → InOrder (map (settled_at network now) settled)
    → ((first : Settled) (others : List Settled) → settled ≡ first ∷ others → IsBefore (place_of (settled_at network now first)) w → ⊥)
    → (z : Happening) → IsIn z (map (settled_at network now) settled) → IsBefore (place_of z) w → ⊥
none_sooner network now [] w order not z there before = absurd there
none_sooner network now (x ∷ xs) w order not z (inl e) before = not x xs refl (subst (λ h. IsBefore (place_of h) w) e before)
none_sooner network now (x ∷ xs) w order not z (inr rest) before =
    let first = place_of (settled_at network now x) in
    order.0 z rest (before_later (place_of z) first w before (not x xs refl))

-- one step after the other
pub after_then : {C M : Type 0} {old mid new : State C M} → IsAfter old mid → IsAfter mid new → IsAfter old new
after_then first second = grind arith

-- nothing that is under way is before a record of a lower rank than the first source
nothing_ahead : {C M : Type 0} {reading : C → ℕ → ℕ} {stands : Meaning M} {network : Network}
    {state : State C M} {source : Source} (z : Settled) → IsForemost reading stands network state source
    → rank z.body < source_rank source → HasNothingBefore reading stands network state (place_of (settled_at network state.time z))
nothing_ahead {reading} {stands} {network} {state} {source} z foremost ahead =
    let w = source_place state.time source in
    let p = place_of (settled_at network state.time z) in
    let before = ahead_before reading stands network state source z foremost.there ahead in
    sooner_too p foremost.nothing (λ b. never_self p (chain p w p before b))

module _ {C M : Type 0} {last_step : C → ℕ} {reading : C → ℕ → ℕ} {stands : Meaning M} {network : Network} where
  pub passed_after : {old new : State C M} {until : ℕ} {turn : Turn} → IsPassed last_step reading stands network until old new turn → IsAfter old new
  passed_after passed = record {
    clocks = ap State.clocks passed.same;
    ended = ap State.ended passed.same;
    later = passed.later;
  }

  -- the source that comes first of what is under way comes first of all
  pub comes_first : {state : State C M} {source : Source} {s : Scenario} {notes : List Note} → MayWork last_step reading stands network state source
      → IsNow source → (old : Stands reading (keeps stands) s (world_of network state) notes)
      → ComesFirst reading (keeps stands) s (world_of network state) notes old (source_place state.time source)
  comes_first {state} {source} {s} {notes} may now old =
      let w = source_place state.time source in
      let shape = shaped reading stands network state source may.foremost.there now in
      let after = none_sooner network state.time state.settled.items w (settled_in_order old)
      (λ z others whole. not_ahead network z shape (may.first z others whole)) in
      let many = length-map state.settled.items (settled_at network state.time) in
      record {
        none = nothing_comes_before reading (keeps stands) s (world_of network state) notes w old after
            (of_world stands old may.well.sound.sized may.well.sound.under_way may.foremost.nothing);
        after = after;
        room = omega (arith, old.given, may.room.numbers, many);
      }

  pub is_at : {state : State C M} {source : Source} → MayWork last_step reading stands network state source → IsNow source
      → IsAt reading stands network state (source_place state.time source)
  is_at {state} {source} may now =
      let run = may.well.running in
      record {
        s = run.s;
        notes = run.notes;
        is = run.is;
        first = comes_first may now run.is;
      }

  -- nothing that is settled stands where its source does
  not_own : {state : State C M} {source : Source} (is : SettledFirst state.settled.items source)
      → IsWell last_step reading stands network state → source_rank source ≡ rank is.first.body → ⊥
  not_own {state} {source} is well same =
      let own : is_at_source is.first.body ≡ true = at_rank is.first.body (subst IsSourceRank same (ranks source)) in
      let late = is_late stands state is.whole well.running.is in
      cc

  -- where what is settled comes first, it may be given
  pub may_give_first : {state : State C M} {source : Source} → IsWell last_step reading stands network state
      → IsForemost reading stands network state source → SettledFirst state.settled.items source
      → MayGive reading stands network state
  may_give_first {state} {source} well foremost is = record {
    first = is.first;
    others = is.others;
    whole = is.whole;
    before = elim (cases_lt (rank is.first.body) (source_rank source)) [
      | inl lt ↦ nothing_ahead is.first foremost lt
      | inr le ↦
          absurd (not_own is well (omega (arith, le, is.ahead)))
    ];
  }

  -- nothing comes before the first that is settled, where nothing that is under way is before it
  pub first_gives : {state : State C M} {z : Settled} {others : List Settled} (s : Scenario) {notes : List Note}
      → IsSound last_step network state → HasNothingBefore reading stands network state (place_of (settled_at network state.time z))
      → state.settled.items ≡ z ∷ others → (old : Stands reading (keeps stands) s (world_of network state) notes)
      → NoSourceBefore s (happenings s.network notes) old.frontier (place_of (settled_at network state.time z))
  first_gives {state} {z} {others} s {notes} sound nothing whole old =
      let p = place_of (settled_at network state.time z) in
      let after = none_sooner network state.time state.settled.items p (settled_in_order old)
      (λ x rest is. λ b. never_self p (subst (λ y. IsBefore (place_of (settled_at network state.time y)) p) (first_is x rest is) b)) in
      nothing_comes_before reading (keeps stands) s (world_of network state) notes p old after
      (of_world stands old sound.sized sound.under_way nothing)
    where
      first_is : (x : Settled) (rest : List Settled) → state.settled.items ≡ x ∷ rest → x ≡ z
      first_is x rest is = cc

  pub gives_first : {state : State C M} (may : MayGive reading stands network state) (s : Scenario) {notes : List Note} → IsSound last_step network state
      → (old : Stands reading (keeps stands) s (world_of network state) notes)
      → NoSourceBefore s (happenings s.network notes) old.frontier (place_of (settled_at network state.time may.first))
  gives_first {state} may s {notes} sound old = first_gives s sound
      may.before may.whole old

  -- where nothing is settled, and nothing under way before a later time, the records are the run up to it
  pub whole_run : {state : State C M} {s : Scenario} {notes : List Note} {until : ℕ} → IsSound last_step network state
      → HasNothingBefore reading stands network state (until ∷ []) → state.settled.items ≡ [] → state.time < until
      → (old : Stands reading (keeps stands) s (world_of network state) notes) → IsScenarioRun s (until ∷ []) notes
  whole_run {state} {s} {notes} {until} sound none empty later old =
      let settled : (world_of network state).settled ≡ [] = ap (map (settled_at network state.time)) empty in
      nothing_settled_is_all s notes old.frontier state.time until old.run
      (subst (λ l. AreComing s (happenings s.network notes) l old.frontier state.time) settled old.are)
      (λ p before. before_later_time p (state.time + 1) until (omega (arith, later)) (old.not_later p before))
      (nothing_comes_before reading (keeps stands) s (world_of network state) notes (until ∷ []) old
      (λ z there. absurd (subst (λ l. IsIn z l) settled there))
      (of_world stands old sound.sized sound.under_way none))

  -- ---- what steps keep

  pub runs_on : {old : State C M} (new : State C M) → IsWell last_step reading stands network old
      → StandsOn reading stands network old new → IsRunning reading stands network new
  runs_on new well still =
      let run = well.running in
      record { s = run.s; notes = run.notes; is = still run.s run.notes run.is }

  -- where it stands on, the state stays well
  well_on : {old new : State C M} → IsWell last_step reading stands network old
      → StandsOn reading stands network old new → IsSound last_step network new
      → AreTimed reading stands network new → IsWell last_step reading stands network new
  well_on {old} {new} well still sound timed =
      record { sound = sound; running = runs_on new well still; timed = timed }

  -- a step that changes no device
  pub plain_step : {old new : State C M} → IsWell last_step reading stands network old → IsSound last_step network new
      → ((n : ℕ) → ChangesOnly n old new) → new.timers ≡ old.timers → new.given ≡ old.given
      → StandsOn reading stands network old new
      → IsStep last_step reading stands network old new
  plain_step {old} {new} well sound changes timers given still = record {
    well = well_on well still sound (unchanged old new well.timed changes timers);
    after = record { clocks = (changes 0).clocks; ended = (changes 0).ended; later = let same = (changes 0).time in omega (arith, same) };
    still = still;
    time = (changes 0).time;
    given = given;
  }

  -- a step that changes one device, whose timers are set anew
  pub rekeyed_step : {device : DeviceId} {old mid new : State C M} → IsWell last_step reading stands network old → IsSound last_step network mid
      → device.0 < length network.device → ChangesOnly device.0 old mid → mid.timers ≡ old.timers → mid.given ≡ old.given
      → StandsOn reading stands network old mid
      → IsRekeyed reading stands network device mid new → IsStep last_step reading stands network old new
  rekeyed_step {device} {old} {mid} {new} well sound there changes timers given still keyed =
      let same = keyed.sets.same in
      let on : StandsOn reading stands network old new = λ s notes is.
      subst (λ t. Stands reading (keeps stands) s (world_of network t) notes) (sym same) (still s notes is) in
      let at : new.time ≡ old.time = ap State.time same ∙ changes.time in
      record {
        well = well_on well on (sound_timers same sound)
            (rekeyed well.timed there changes timers keyed);
        after = record {
          clocks = ap State.clocks same ∙ changes.clocks;
          ended = ap State.ended same ∙ changes.ended;
          later = omega (arith, at);
        };
        still = on;
        time = at;
        given = ap State.given same ∙ given;
      }

  -- ---- a turn keeps the state

  -- a step alone
  pub step_kept : {old new : State C M} → IsStep last_step reading stands network old new → IsKept last_step reading stands network old new []
  step_kept {new} step = record {
    well = step.well;
    after = step.after;
    stands_then = λ s notes is.
        rw (sym (append-nil notes)) at (step.still s notes is);
  }

  -- a turn behind a step
  pub kept_then : {old mid new : State C M} {more : List Note} → IsAfter old mid
      → StandsOn reading stands network old mid
      → IsKept last_step reading stands network mid new more → IsKept last_step reading stands network old new more
  kept_then after still kept = record {
    well = kept.well;
    after = after_then after kept.after;
    stands_then = λ s notes is. kept.stands_then s notes (still s notes is);
  }

  -- records are given, and timers are set then
  pub kept_timers : {old mid new : State C M} (more : List Note) → IsWell last_step reading stands network old
      → IsSound last_step network mid → IsAfter old mid
      → StandsWith reading stands network old mid more
      → new ≡ record mid { timers = new.timers } → AreTimed reading stands network new → IsKept last_step reading stands network old new more
  kept_timers {old} {mid} {new} more well sound after stands_more same timed =
      let run = well.running in
      let on : StandsWith reading stands network old new more = λ s notes is.
      subst (λ t. Stands reading (keeps stands) s (world_of network t) (notes ++ more)) (sym same)
      (stands_more s notes is) in
      record {
        well = record {
          sound = sound_timers same sound;
          running = record { s = run.s; notes = run.notes ++ more; is = on run.s run.notes run.is };
          timed = timed;
        };
        after = subst (λ t. IsAfter old t) (sym same) (record { clocks = after.clocks; ended = after.ended; later = after.later });
        stands_then = on;
      }

  -- where time passes, no record is given
  pub passed_kept : (E : Type 0) {old new : State C M} {until : ℕ} (note : Note) {turn : Turn}
      → IsPassed last_step reading stands network until old new turn → IsKept last_step reading stands network old new (given_in {E = E} (Ok turn) note)
  passed_kept E {old} {new} {until} note {turn} passed = record {
    well = passed.well;
    after = passed_after passed;
    stands_then = λ s notes is.
        rw (sym (none_given turn passed.says)) at (rw (sym (append-nil notes)) at (passed.still s notes is));
  }
    where
      none_given : (turn : Turn) → PassSays old new until turn → given_in {E = E} (Ok turn) note ≡ []
      none_given Gives says = absurd says
      none_given Ends says = refl
      none_given GoesOn says = refl

  -- room is taken
  pub roomier : {old : State C M} (new : State C M) → IsWell last_step reading stands network old
      → new ≡ record old { under_way = new.under_way; waiting = new.waiting; settled = new.settled }
      → new.under_way.entries ≡ old.under_way.entries → new.waiting.items ≡ old.waiting.items
      → new.settled.items ≡ old.settled.items → IsStep last_step reading stands network old new
  roomier {old} new well same entries waiting items =
      let mid : State C M = record old { under_way = new.under_way; waiting = new.waiting; settled = new.settled } in
      plain_step well
      (subst (IsSound last_step network) (sym same)
      (sound_same mid well.sound refl refl refl refl refl refl refl refl entries waiting
      (subst (All (λ (z : Settled). HasItsOctets z.body z.octets)) (sym items) well.sound.fit.octets)))
      (λ n. record {
        clocks = ap State.clocks same;
        time = ap State.time same;
        ended = ap State.ended same;
        machines = λ i other. ap (λ t. slice_get t.machines.items i) same;
        waiting = λ w other. (
          λ there. rw (sym waiting) there,
          λ there. rw (sym waiting) at there,
        );
      })
      (ap State.timers same) (ap State.given same)
      (λ s notes is.
      subst (λ t. Stands reading (keeps stands) s (world_of network t) notes) (sym same)
      (subst
      (λ l. Stands reading (keeps stands) s
      (record (world_of network mid) { wires = filter_map (on_wire network) l; ports = filter_map at_port l }) notes)
      (sym entries)
      (subst
      (λ l. Stands reading (keeps stands) s
      (record (world_of network old) {
        waiting = map waiting_as l;
        settled = map (settled_at network old.time) new.settled.items;
      }) notes)
      (sym waiting)
      (subst
      (λ l. Stands reading (keeps stands) s
      (record (world_of network old) { settled = map (settled_at network old.time) l }) notes)
      (sym items) is))))

  -- where it is taken for a frame that waits, what comes first on a wire comes first still
  pub arrival_stays : {old new : State C M} {place : DueAt} → new ≡ record old { waiting = new.waiting }
      → new.waiting.items ≡ old.waiting.items → MayWork last_step reading stands network old (Arrival place)
      → MayWork last_step reading stands network new (Arrival place)
  arrival_stays {old} {new} {place} same items may =
      let there = may.foremost.there in
      let nothing = may.foremost.nothing in
      let room = may.room in
      let roomy : State C M = record old { waiting = new.waiting } in
      subst (λ t. MayWork last_step reading stands network t (Arrival place)) (sym same)
      (record {
        range = may.range;
        well = (roomier roomy may.well refl refl items refl).well;
        room = record { places = room.places; numbers = room.numbers; launches = room.launches };
        foremost = record {
          there = record {
            first = there.first;
            now = there.now;
            rank_is = there.rank_is;
            device = there.device;
            link = there.link;
          };
          nothing = record {
            under_way = nothing.under_way;
            waiting = λ w clock is. nothing.waiting w clock (rw (sym items) is);
            acting = nothing.acting;
            befell = nothing.befell;
            clocks = nothing.clocks;
          };
        };
        first = may.first;
      })

  -- time passes
  pub passes : {old new : State C M} {time : ℕ} → IsWell last_step reading stands network old
      → HasNothingBefore reading stands network old (time ∷ []) → old.time < time → time ≤ 2 ^ 60
      → new ≡ record old { time = time; early = true } → IsSound last_step network new
      → StandsOn reading stands network old new → IsWell last_step reading stands network new
  passes {old} {new} {time} well none later limit same sound still =
      well_on well still sound
      (subst (AreTimed reading stands network) (sym same)
      (passed time true well.timed (omega (arith, later))
      (timers_later well.running (omega (arith, limit)) well.timed none)))

-- ---- results

pub passed_same : {C M : Type 0} (old new : State C M) (time : ℕ) (early : Bool) → new ≡ record old { time = time; early = early }
    → new ≡ record old { time = new.time; early = new.early; pending = new.pending }
passed_same {C} {M} old new time early same = same ∙ ap (λ t. let k : State C M =
    record old { time = t.time; early = t.early; pending = t.pending } in k) (sym same)

-- a source that is not later is of the present instant
pub now_so : (source : Source) → ((time : ℕ) → source ≡ Later time → ⊥) → IsNow source
now_so (Later time) not = not time refl
now_so other not = tt

-- one of two clauses of a result serves
pub either_end : {A E : Type 0} (result : Result A E) (P Q R : Type 0) → OnOk result P → OnErr result Q → (P → R) → (Q → R) → R
either_end (Ok a) P Q R ok err f g = f ok
either_end (Err e) P Q R ok err f g = g err

-- where a turn fails, it is not the time yet
pub err_open : {C M : Type 0} (E : Type 0) (old new : State C M) (result : Result Turn E) (until : ℕ) → old.time < until
    → OnErr result (new.time ≡ old.time) → OnErr result (new.time < until)
err_open E old new (Ok t) until early same = tt
err_open E old new (Err e) until early same = omega arith

-- where time passes, what is first stays so, and the room is as it was
pub firsts_passed : {C M : Type 0} {old : State C M} {new : State C M} {place : Option DueAt} {due : Option SlotTimer}
    → new ≡ record old { time = new.time; early = new.early; pending = new.pending } → AreFirsts old place due
    → AreFirsts new place due
firsts_passed {place} {due} same are =
    rw same (record {
      some_place = are.some_place;
      no_place = are.no_place;
      some_due = are.some_due;
      no_due =
          are.no_due;
    })

pub room_passed : {C M : Type 0} {network : Network} {old : State C M} {new : State C M}
    → new ≡ record old { time = new.time; early = new.early; pending = new.pending } → HasRoom network old
    → HasRoom network new
room_passed {network} same room =
    rw same (record { places = room.places; numbers = room.numbers; launches = room.launches })

-- where events without an outcome are worked off, no more changes than where time passes
pub step_same : {C M : Type 0} (old mid : State C M) → mid ≡ record old { early = mid.early; pending = mid.pending }
    → mid.time ≡ old.time → mid ≡ record old { time = mid.time; early = mid.early; pending = mid.pending }
step_same {C} {M} old mid same time = same ∙ ap (λ t. let k : State C M =
    record old { time = t; early = mid.early; pending = mid.pending } in k) (sym time)

-- what passes from there passes from before
module _ {C M : Type 0} {last_step : C → ℕ} {reading : C → ℕ → ℕ} {stands : Meaning M} {network : Network} where
  pub passed_then : {old mid new : State C M} {until : ℕ} (turn : Turn)
      → IsStep last_step reading stands network old mid
      → mid ≡ record old { early = mid.early; pending = mid.pending }
      → IsPassed last_step reading stands network until mid new turn
      → IsPassed last_step reading stands network until old new turn
  passed_then {old} {mid} {new} {until} turn step same passed = record {
    well = passed.well;
    still = λ s notes is. passed.still s notes (step.still s notes is);
    whole = λ s notes is. passed.whole s notes (step.still s notes is);
    says = says turn passed.says;
    same = passed.same ∙ ap (λ t. let k : State C M =
        record t { time = new.time; early = new.early; pending = new.pending } in k) same;
    later = let time = step.time in let later = passed.later in omega arith;
  }
    where
      says : (turn : Turn) → PassSays mid new until turn → PassSays old new until turn
      says Gives is = absurd is
      says GoesOn is = (is.0, is.1 ∙ step.given)
      says Ends is = λ early limit. is (step.after.ended ∙ early) limit

-- ---- one turn after the other

-- what a turn says of the state before it, it says of one with as many records given
pub says_then : {C M : Type 0} (old mid new : State C M) (until : ℕ) (note : Note) (turn : Turn) → mid.given ≡ old.given
    → mid.ended ≡ old.ended → TurnSays mid new until note turn → TurnSays old new until note turn
says_then old mid new until note Gives given ended says = (says.0, says.1, says.2 ∙ ap (λ n. n + 1) given)
says_then old mid new until note GoesOn given ended says = (says.0, says.1 ∙ given)
says_then old mid new until note Ends given ended says = λ is limit. says (ended ∙ is) limit

-- where it fails, the present time is that of the state before it
pub err_then : {C M : Type 0} {T : Type 0} (E : Type 0) (old mid new : State C M) (result : Result T E) → mid.time ≡ old.time
    → OnErr result (new.time ≡ mid.time) → OnErr result (new.time ≡ old.time)
err_then E old mid new (Ok x) same err = tt
err_then E old mid new (Err e) same err = err ∙ same

-- some turns on from where the state was: nothing is given, and it is not yet the time
pub record IsOnward {C M : Type 0} (last_step : C → ℕ) (reading : C → ℕ → ℕ) (stands : Meaning M) (network : Network)
    (old new : State C M) (until : ℕ) : Type 0 where
  pub well : IsWell last_step reading stands network new
  pub after : IsAfter old new
  pub still : StandsOn reading stands network old new
  pub early : new.time < until
  pub given : new.given ≡ old.given

-- ---- how far a world came that was asked for the next record

module _ {C M : Type 0} {reading : C → ℕ → ℕ} {stands : Meaning M} {own : Network} {old new : State C M} where
  -- memory ran out before the time
  try_again : (until : Units) (n : ℕ) → until.0 ≡ pos n → IsAfter old new → IsRunning reading stands own old
      → StandsWith reading stands own old new [] → new.time < n
      → MayTryAgain (world_of own old) (world_of own new) until
  try_again until n is after run still lt =
      let a = run.is in
      let b = still run.s run.notes run.is in
      record {
        same = b.same ∙ sym a.same;
        lines = b.lines ∙ sym a.lines;
        given = b.given ∙ ap length (append-nil run.notes) ∙ sym a.given;
        ended = after.ended;
        later = after.later;
        before = omega (arith, ints);
      }

  pub comes_up_to : (E : Type 0) (result : Result Bool E) (note : Note) (until : Units) (n : ℕ) → until.0 ≡ pos n → IsAfter old new
      → IsRunning reading stands own old
      → ((s : Scenario) (notes : List Note) → Stands reading (keeps stands) s (world_of own old) notes
      → Stands reading (keeps stands) s (world_of own new) (notes ++ given_by (next_of result note)))
      → NextSays old new n note result → ComesUpTo (world_of own old) (world_of own new) until (next_of result note)
  comes_up_to E (Ok false) note until n is after run still says = λ unended order limit.
      (let at = says unended (omega (arith, ints)) in
      let time = at.time in
      record { time = omega (arith, ints); early = λ either. at.early })
  comes_up_to E (Ok true) note until n is after run still says =
      let time = ap (λ (u : Units). u.0) says.0 in
      let early = says.1 in
      (says.0, omega (arith, ints))
  comes_up_to E (Err e) note until n is after run still says = try_again until n is after run still says

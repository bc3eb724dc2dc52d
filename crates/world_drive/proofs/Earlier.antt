-- The records of a world up to a time or an event, their order, and how the world comes there.
use Rattle.std.{specs.Prelude.{MatchResult, OnOk, option_to_list, slice_get}}
use Rattle.std.proofs.{Common.{◌⊎◌, Bool, Result, length-append, negsuc, ℤ}}
use Rattle.std.proofs.{lemmas.{Bool.{cases_Bool, false_from_ne_true}, Option.slice_get_within}}
use Rattle.drift_world.{proofs.EventRuns.runs_behind_events}
use Rattle.drift_world.specs.Running
use Running.{ComesUpTo, HasReached, IsOpenTo, MayBefall, behind_events, event_note, option_given}
use Rattle.net_plan.specs.{Belonging.IsOfNetwork, declared.event.What.TheVariants.End}
use Rattle.precision_law.specs.traffic.safety.Headline.{IsSafeFront}
use Rattle.run_law.proofs.records.Order.{index_of}
use Rattle.world_law.{proofs.runs.Worlds.{event_cause, event_place, kinds}, specs.source.Agreeing.scenario}
use Rattle.run_law.proofs.runs.{Grow.empty_run, NetworkRuns.one_more}
use Rattle.run_law.proofs.runs.Places
use Places.{before_later_time, before_next_time, before_of_time, in_left, in_right, never_self, parted}
use Rattle.run_law.specs.{declared.note.NoteBody.{NoteBody, TheVariants.Event as Befalls}}
use Rattle.run_law.specs.{runs.DueRecords.{EndsAt, IsCaused, IsDue, IsScenarioRun}}
use Rattle.run_law.specs.{scenario.{Hypothesis.{ComesTooEarly, IsWithinHypothesis}, Scenarios.Scenario}}
use Rattle.run_law.specs.records.{Happenings.happening, Order.{IsBefore, IsIn}, Ranks.{key, members_in, place_of, rank}}
use Rattle.tte_units.specs.declared.memory.OutOfMemory.{OutOfMemory}
use Rattle.world_drive.proofs.Words
use Words.{◌++◌, ◌+ℤ◌, ◌+◌, ◌<ℤ◌, ◌<◌, ◌^◌, ◌∙◌, ◌∷◌, ◌≡◌, ◌≤ℤ◌, ◌≤◌, AreEarlier, AreRecordsBefore, AreRecordsSoFar}
use Words.{Cut, CutsAtEvent, CutsBefore, Err, Event, ExactWorld, Happening, IsAsked, IsPast, IsUnderwayAt, List}
use Words.{MayGive, Network, None, Note, Ok, Reaches, Sees, SeesEvent, SeesUntil, Some, StandsExact, Start, Stops, Told}
use Words.{Units, [], amount, ap, append-nil, append_assoc, arith, cases_lt, false, fresh_segment, go_on, happenings}
use Words.{inl, inr, ints, last_is, last_time, left_of, length, pos, refl, segment_reading, stepped_segment, subst, sym}
use Words.{true, units_of, unsigned_abs, ℕ}
use Rattle.world_drive.proofs.exact_lemmas.{Events.last_or_none}
use Rattle.world_drive.proofs.exact_lemmas.Given
use Given.{amount_after, comes_to, given_none, given_some, is_before, still_ended}
use Rattle.world_drive.specs.{Driving.IsUpToEnd, Observing.{Befell, IsCompleteExact, IsGiven}}
use Rattle.world_drive.specs.{Seeing.{ComesNext, IsOnTheWay}}
use Rattle.world_drive.specs.{exact.{Records.{HaveEnded, clock_reading}, Worlds.IsReached}}
use Rattle.world_drive.specs.{machines.Standing.StandsAsDevice}
use Rattle.run_law.specs.declared.outside.Outside.TheVariants as conditions

-- ---- the order of events

pub not_less : (a b : ℤ) → (b <ℤ a → ⊥) → a ≤ℤ b
not_less a b not = grind (arith, ints)

pub sizes : (a b : ℤ) → pos 0 ≤ℤ a → a ≤ℤ b → unsigned_abs a ≤ unsigned_abs b
sizes (pos m) (pos n) begun le = omega (arith, ints)
sizes (negsuc m) b begun le = absurd (omega (arith, ints))
sizes (pos m) (negsuc n) begun le = absurd (omega (arith, ints))

no_earlier : (events : List Event) (event : Event) → (ComesTooEarly events event → ⊥) → (events ≡ []) ⊎ ((front : List Event) × (last : Event)
    × (events ≡ front ++ last ∷ []) × (last.time.0 ≤ℤ event.time.0))
no_earlier events event not = elim (last_or_none events) [
  | inl none ↦ inl none
  | inr some ↦
      inr (
        some.0,
        some.1,
        some.2,
        not_less some.1.time.0 event.time.0
            (λ less. not (record { front = some.0; last = some.1; order = some.2; later = less })),
      )
]

order_of : (events : List Event) (event : Event) → (ComesTooEarly events event → ⊥) → pos 0 ≤ℤ event.time.0 → (last_time events).0 ≤ℤ event.time.0
order_of events event not begun = elim (no_earlier events event not) [
  | inl none ↦ subst (λ es. (last_time es).0 ≤ℤ event.time.0) (sym none) begun
  | inr some ↦
      subst (λ es. (last_time es).0 ≤ℤ event.time.0) (sym some.2)
      (subst (λ (t : Units). t.0 ≤ℤ event.time.0) (sym (last_is some.0 some.1)) some.3)
]

-- the event that is given is no earlier than the last
pub in_order : {network : Network} {events : List Event} {event : Event} → MayGive network events event
    → (last_time events).0 ≤ℤ event.time.0
in_order {events} {event} may = order_of events event (may.within conditions.Order) may.begun

-- events that end at a time have an end
pub have_ended : (events : List Event) (time : Units) → EndsAt events time → HaveEnded events
have_ended events time (k, lt, at) = (k, record { time = time; what = End }, lt, at, refl)

-- ---- records up to a mark that is not behind a time, or not behind the next event: before a time

module _ (network : Network) (events : List Event) (notes : List Note) where
  -- the records of a world that has not reached the time
  pub earlier_at : (more : List Note) (until : ℕ) {world : ExactWorld} → world.now < until
      → StandsExact network world events (notes ++ more) → AreEarlier network events notes more until
  earlier_at more until {world} before stands =
      inr (
        stands.is.frontier,
        λ p b. before_later_time p (world.now + 1) until (omega (arith, before)) (stands.is.not_later p b),
        stands.is.run,
      )

  -- records behind those that are earlier
  pub earlier_joined : (front more : List Note) (from until : ℕ) {world : ExactWorld} → from ≤ until
      → world.now < until → StandsExact network world events (notes ++ front)
      → AreEarlier network events (notes ++ front) more from → AreEarlier network events notes (front ++ more) until
  earlier_joined front more from until le before stands (inl none) =
      subst (λ ns. AreEarlier network events notes ns until)
      (sym (append-nil front) ∙ ap (λ (ns : List Note). front ++ ns) (sym none))
      (earlier_at front until before stands)
  earlier_joined front more from until le before stands (inr run) =
      inr (
        run.0,
        λ p b. before_later_time p from until le (run.1 p b),
        subst (AreRecordsBefore network events run.0) (append_assoc notes front more) run.2,
      )

-- ---- the records so far

under_two : (t r : ℕ) (rest : List ℕ) → IsBefore (t ∷ r ∷ rest) (0 ∷ 2 ∷ []) → r < 2
under_two t r rest (inl less) = absurd (omega arith)
under_two t r rest (inr (same, inl less)) = less
under_two t r rest (inr (same, inr (two, none))) = absurd none

-- at first nothing is due
none_at_first : (s : Scenario) (time : Units) (members : ℕ) (body : NoteBody) → s.events ≡ [] → IsCaused s [] time body
    → IsBefore (amount time ∷ rank body ∷ key members body) (behind_events 0) → ⊥
none_at_first s time members (Befalls line what) none cause before =
    let there = subst (λ (es : List Event). slice_get es cause.before ≡ Some cause.event) none cause.is in absurd cc
none_at_first s time members other none cause before = let low = under_two (amount time) (rank other) (key members other) before in absurd (omega (arith, low))

-- so there are no records
pub records_none : (network : Network) → AreRecordsSoFar network [] []
records_none network =
    let s : Scenario = record { network = network; reading = clock_reading network []; events = [] } in
    empty_run place_of (IsDue s) (behind_events 0) (λ h due before. none_at_first s h.note.time (members_in h) h.note.body refl due.cause before)

module _ (network : Network) (events : List Event) (notes : List Note)
    (run : AreRecordsSoFar network events notes) where
  -- the records so far are all before the place of a next event
  in_so_far : (h : Happening) → IsIn h (happenings network notes)
      → IsBefore (place_of h) (amount (last_time events) ∷ 1 ∷ (length events + 1) ∷ [])
  in_so_far h there =
      let s = scenario network (clock_reading network events) events in
      let at = parted h (happenings network notes) there in
      let due = (run.founded at.0 at.1 h at.2).1 in
      elim (run.within h there) [
        | inl lt ↦ inl lt
        | inr low ↦ elim (kinds h.note.body) [
          | inl it ↦
              let found = event_cause s at.0 h.note.time h.note.body it due.cause in
              let r = found.3 in
              let few : r.before < length events = slice_get_within events r.before r.event r.is in
              let line = r.line_is in
              subst (λ p. IsBefore p (amount (last_time events) ∷ 1 ∷ (length events + 1) ∷ []))
              (sym (event_place h found.0 found.1 found.2))
              (inr (low.0, inr (refl, inl (omega (arith, few, line)))))
          | inr (inl clock) ↦ absurd (elim low.1 [ inl less ↦ omega (arith, less, clock) | inr none ↦ none.1 ])
          | inr (inr own) ↦ let two = own.1 in
              absurd (elim low.1 [ inl less ↦ omega (arith, less, two) | inr none ↦ none.1 ])
        ]
      ]

  -- so they are the run up to there
  pub so_far_at : AreRecordsBefore network events (amount (last_time events) ∷ 1 ∷ (length events + 1) ∷ []) notes
  so_far_at = record {
    founded = run.founded;
    full = λ ps qs y e before rest due lt. run.full ps qs y e before rest due (wider (place_of y) lt);
    within = in_so_far;
  }
    where
      wider : (p : List ℕ) → IsBefore p (amount (last_time events) ∷ 1 ∷ (length events + 1) ∷ []) → IsBefore p
          (behind_events (amount (last_time events)))
      wider [] b = tt
      wider (t ∷ []) (inl lt) = inl lt
      wider (t ∷ []) (inr b) = inr (b.0, tt)
      wider (t ∷ r ∷ more) (inl lt) = inl lt
      wider (t ∷ r ∷ more) (inr (e, inl lt)) = inr (e, inl (omega (arith, lt)))
      wider (t ∷ r ∷ more) (inr (e, inr (f, b))) = inr (e, inl (omega (arith, f)))

-- a place of a time is no further than one of a later time, or of this with the same behind it
pub no_further : (t u line : ℕ) → t ≤ u → (p : List ℕ) → IsBefore p (t ∷ 1 ∷ line ∷ []) → IsBefore p (u ∷ 1 ∷ line ∷ [])
no_further t u line le [] b = tt
no_further t u line le (x ∷ more) (inl lt) = inl (omega (arith, lt, le))
no_further t u line le (x ∷ more) (inr b) = elim (cases_lt x u) [
  | inl lt ↦ inl lt
  | inr ge ↦ inr (omega (arith, ge, le, b.0), b.1)
]

-- ---- on the way

module _ (network : Network) (events : List Event) (notes more : List Note) where
  -- the records that are earlier than the time of the next event are on the way to it
  pub on_the_way : {event : Event} → MayGive network events event → pos 0 ≤ℤ (last_time events).0
      → AreRecordsSoFar network events notes → AreEarlier network events notes more (amount event.time)
      → IsOnTheWay network events event (notes ++ more)
  on_the_way {event} may begun so_far (inl none) =
      let order = sizes (last_time events).0 event.time.0 begun (in_order may) in
      record {
        mark = amount (last_time events) ∷ 1 ∷ (length events + 1) ∷ [];
        sooner = no_further (amount (last_time events)) (amount event.time) (length events + 1) order;
        run =
            subst (λ ns. AreRecordsBefore network events
            (amount (last_time events) ∷ 1 ∷ (length events + 1) ∷ []) ns)
            (sym (append-nil notes) ∙ ap (λ (l : List Note). notes ++ l) (sym none))
            (so_far_at network events notes so_far);
      }
  on_the_way {event} may begun so_far (inr run) = record {
    mark = run.0;
    sooner = λ p b. before_of_time p (amount event.time) (1 ∷ (length events + 1) ∷ []) (run.1 p b);
    run = run.2;
  }

  -- those that are earlier than the time behind the last event are on the way to the end
  pub up_to_end : AreRecordsSoFar network events notes
      → AreEarlier network events notes more (amount (last_time events) + 1)
      → IsUpToEnd network events (notes ++ more)
  up_to_end so_far (inl none) = record {
    mark = behind_events (amount (last_time events));
    up_to = λ p b. before_next_time p (amount (last_time events)) (2 ∷ []) b;
    run = subst (AreRecordsSoFar network events) (sym (append-nil notes) ∙ ap (λ (l : List Note). notes ++ l)
        (sym none)) so_far;
  }
  up_to_end so_far (inr run) = record { mark = run.0; up_to = run.1; run = run.2 }

-- ---- where the records stand that a world gives one after another

-- the last record with its frame
abbrev pub last_of : Network → List Note → Note → Happening
last_of network notes note = happening network (happenings network notes) note

-- ---- where the next record stands

-- it is not before a mark up to which the records are the run
not_marked : (s : Scenario) (notes : List Note) (note : Note) {mark later : List ℕ} → IsScenarioRun s mark notes
    → IsScenarioRun s later (notes ++ note ∷ []) → IsBefore (place_of (last_of s.network notes note)) mark → ⊥
not_marked s notes note run more before =
    let hs = happenings s.network notes in
    let y = last_of s.network notes note in
    let founded = more.founded hs [] y (one_more s.network notes note) in
    let other = run.full hs [] y (sym (append-nil hs)) founded.0 (λ h i. absurd i) founded.1 before in
    never_self (place_of y) (subst (λ p. IsBefore p (place_of y)) other.2 (founded.0 other.0 other.1))

module _ (network : Network) (events : List Event) (notes : List Note) (note : Note) where
  -- so it is not before the world's time
  pub given_from : {world next : ExactWorld} → StandsExact network world events notes
      → StandsExact network next events (notes ++ note ∷ []) → world.now ≤ amount note.time
  given_from {world} a b = elim (cases_lt (amount note.time) world.now) [
    | inl lt ↦
        let s = scenario network (clock_reading network events) events in
        let y = last_of network notes note in
        absurd (not_marked s notes note a.is.run b.is.run (a.is.of_now (place_of y) (inl lt)))
    | inr le ↦ le
  ]

  -- nor before a time up to which the records are all
  pub given_behind : {next : ExactWorld} (time : ℕ) → AreRecordsBefore network events (time ∷ []) notes
      → StandsExact network next events (notes ++ note ∷ []) → time ≤ amount note.time
  given_behind time all b = elim (cases_lt (amount note.time) time) [
    | inl lt ↦ absurd (not_marked (scenario network (clock_reading network events) events) notes note all b.is.run
        (inl lt))
    | inr le ↦ le
  ]

  -- a record that is given before the time behind the world's is of the world's time
  pub stays_now : {world next : ExactWorld} (until : Units) → StandsExact network world events notes
      → StandsExact network next events (notes ++ note ∷ []) → note.time ≡ units_of next.now
      → pos next.now <ℤ until.0 → until.0 ≡ pos world.now +ℤ pos 1 → next.now ≡ world.now
  stays_now {next} until a b at lt after =
      let now : amount note.time ≡ next.now = ap amount at in
      let first = given_from a b in
      omega (arith, ints, now, first, lt, after)

-- ---- the end

-- after the end the time stays
pub end_stays : {network : Network} {world next : ExactWorld} {events : List Event} {notes others : List Note}
    → StandsExact network world events notes → StandsExact network next events others → world.ended ≡ true
    → (next.ended ≡ true) × (next.now ≡ world.now)
end_stays {world} a b ended =
    let at = (b.is.ended (units_of world.now)).0 ((a.is.ended (units_of world.now)).1 (ended, refl)) in (at.0, omega (arith, ints, at.1))

pub unended_before : {network : Network} {events : List Event} {notes others : List Note} {world next : ExactWorld}
    → StandsExact network world events notes → StandsExact network next events others → next.ended ≡ false
    → world.ended ≡ false
unended_before {world} a b open_ = elim (cases_Bool world.ended) [
  | inl ended ↦ let over = (end_stays a b ended).0 in absurd cc
  | inr still ↦ still
]

-- ---- numbers

-- more records leave fewer numbers
pub fewer : {network : Network} {events others : List Event} {notes : List Note} (more : List Note) (note : Note)
    {world next : ExactWorld} → StandsExact network world events notes
    → StandsExact network next others ((notes ++ note ∷ []) ++ more) → left_of next < left_of world
fewer {notes} more note a b =
    let room = b.is.room in
    let old = a.is.given in
    let new = b.is.given in
    let longer = length-append (notes ++ note ∷ []) more in
    let long = length-append notes (note ∷ []) in
    omega (arith, room, old, new, longer, long)

-- ---- an event befalls a world whose earlier records are seen

module _ (network : Network) (world : ExactWorld) (events : List Event) (notes : List Note) (event : Event)
    (n : ComesNext network world events notes event) where
  pub unended_now : world.ended ≡ false
  unended_now =
      false_from_ne_true world.ended
      (λ is. n.may.unended (have_ended events (units_of world.now) ((n.stands.is.ended (units_of world.now)).1 (is, refl))))

  begun_last : pos 0 ≤ℤ (last_time events).0
  begun_last = let now = n.reached.now in omega (arith, ints, now)

  -- the records before its time may be asked for
  pub asked_for : IsAsked world event.time
  asked_for = record {
    order = let now = n.reached.now in let order = in_order n.may in omega (arith, ints, now, order);
    ended = λ is. absurd (let open_ = unended_now in cc);
    unended = λ open_. n.may.limit;
  }

  -- ---- the observer failed before it

  pub cut_before : {O : Type 0} (stop : Stops O) (cut : Cut) (old : Start O) (put : Told) → CutsBefore stop network events notes (amount event.time) cut old put
      → CutsAtEvent stop network events notes event cut old put
  cut_before stop cut old put k = record {
    befallen = events;
    more = k.more;
    whether = inl (refl, on_the_way network events notes k.more n.may begun_last n.so_far k.earlier);
    stops = k.stops;
  }

  module _ {O : Type 0} (see : Sees O) (next : ExactWorld) (observer : O) (old : Start O) (put : Told)
      (s : SeesUntil see network events notes event.time world next observer old put) where
    -- memory ran out at it
    pub cut_at : (stop : Stops O) (cut : Cut) → stop network events (notes ++ s.more) cut old put → CutsAtEvent stop network events notes event cut old put
    cut_at stop cut stops = record {
      befallen = events;
      more = s.more;
      whether = inl (refl, on_the_way network events notes s.more n.may begun_last n.so_far s.earlier);
      stops = stops;
    }

    -- ---- the world has come to the event

    module _ (reached : Reaches world next event.time) where
      reached_now : HasReached world next event.time
      reached_now = reached unended_now (let asked = asked_for in asked.order) n.may.limit

      now_is : next.now ≡ amount event.time
      now_is = ap unsigned_abs reached_now.time

      open_now : IsOpenTo next event
      open_now = record {
        time = sym reached_now.time;
        early = reached_now.early (inr n.reached.early);
        unended = (go_on n.stands s.stands).unended unended_now;
      }

      pub may_befall : (line : ℕ) → line ≡ length events + 1 → MayBefall fresh_segment stepped_segment segment_reading StandsAsDevice next line event
      may_befall line number = record {
        next = number ∙ ap (λ m. m + 1) (sym s.stands.is.lines);
        now = open_now;
        hold = n.may.hold;
        events = events;
        notes = notes ++ s.more;
        is = subst (λ m. StandsExact m next events (notes ++ s.more)) (sym s.stands.is.same) s.stands;
        of_network = subst (λ m. IsOfNetwork m event.what) (sym s.stands.is.same) n.may.of_network;
        within = subst (λ m. IsWithinHypothesis m events event) (sym s.stands.is.same) n.may.within;
      }

      -- ---- it has befallen it

      module _ (after : ExactWorld) (note : Note) (line : ℕ) (number : line ≡ length events + 1)
          (stands : StandsExact network after (events ++ event ∷ []) ((notes ++ s.more) ++ note ∷ []))
          (is : note ≡ event_note (next.given + 1) line event) (still : (after.now ≡ next.now) × (after.early ≡ next.early)) where
        pub come_after : IsReached after event.time
        come_after = record { now = ap pos still.0 ∙ reached_now.time; early = still.1 ∙ reached_now.early (inr n.reached.early) }

        -- nothing of its instant but events is worked off
        so_far : AreRecordsSoFar network (events ++ event ∷ []) ((notes ++ s.more) ++ note ∷ [])
        so_far =
            subst (λ t. AreRecordsBefore network (events ++ event ∷ []) (behind_events t) ((notes ++ s.more) ++ note ∷ []))
            (still.0 ∙ now_is ∙ ap amount (sym (last_is events event)))
            (runs_behind_events fresh_segment stepped_segment segment_reading StandsAsDevice network after (events ++ event ∷ [])
            ((notes ++ s.more) ++ note ∷ []) stands come_after.early)

        pub befell : Befell network after events (notes ++ s.more) event note
        befell = record {
          may = n.may;
          stands = stands;
          so_far = so_far;
          reached = come_after;
          is = is ∙ ap (λ m. event_note (m + 1) line event) s.stands.is.given ∙ ap (λ m. event_note (length (notes ++ s.more) + 1) m event) number;
        }

        joined : (notes ++ s.more) ++ note ∷ [] ≡ notes ++ (s.more ++ note ∷ [])
        joined = append_assoc notes s.more (note ∷ [])

        pub seen_event : (later : O) (new : Told) → see network (events ++ event ∷ []) ((notes ++ s.more) ++ note ∷ []) None old new later
            → SeesEvent see network events notes event after later old new
        seen_event later new sees = record {
          more = s.more ++ note ∷ [];
          stands = subst (λ ns. StandsExact network after (events ++ event ∷ []) ns) joined stands;
          so_far = subst (λ ns. AreRecordsSoFar network (events ++ event ∷ []) ns) joined so_far;
          sees = subst (λ (ns : List Note). see network (events ++ event ∷ []) ns None old new later) joined sees;
        }

        -- the observer failed at it
        pub cut_event : (stop : Stops O) (cut : Cut) (new : Told) → stop network (events ++ event ∷ []) ((notes ++ s.more) ++ note ∷ []) cut old new
            → CutsAtEvent stop network events notes event cut old new
        cut_event stop cut new stops = record {
          befallen = events ++ event ∷ [];
          more = s.more ++ note ∷ [];
          whether = inr (refl, subst (λ ns. AreRecordsSoFar network (events ++ event ∷ []) ns) joined so_far);
          stops = subst (λ (ns : List Note). stop network (events ++ event ∷ []) ns cut old new) joined stops;
        }

-- the line of the next event, whichever events and records leave the world where it stands
pub same_number : {network : Network} {world : ExactWorld} {events others : List Event} {notes more : List Note}
    (line : ℕ) → StandsExact network world events notes → StandsExact network world others more
    → line ≡ length events + 1 → line ≡ length others + 1
same_number line a b number = number ∙ ap (λ m. m + 1) (sym a.is.lines ∙ b.is.lines)

-- ---- how a world comes to a time

-- the world is where it was, or before the time, or it has just come to it
abbrev pub IsNearing : ExactWorld → ExactWorld → Units → Type 0
IsNearing from world until = (world ≡ from) ⊎ ((pos world.now <ℤ until.0) ⊎ ((pos world.now ≡ until.0) × (world.early ≡ true)))

-- the same time is asked for
pub asked_still : {network : Network} {until : Units} {world next : ExactWorld} {events : List Event}
    {notes others : List Note} → StandsExact network world events notes → StandsExact network next events others
    → pos next.now ≤ℤ until.0 → IsAsked world until → IsAsked next until
asked_still {until} a b order asked = record {
  order = order;
  ended = still_ended until a b asked.ended;
  unended = λ open_. asked.unended (unended_before a b open_);
}

-- past an instant before the time, this is not passed
pub past_order : (world next : ExactWorld) (until : Units) → pos world.now <ℤ until.0 → IsPast world next → pos next.now ≤ℤ until.0
past_order world next until lt (inl past) = let at = past.0 in omega (arith, ints, lt, at)
past_order world next until lt (inr here) = let at = here.1 in omega (arith, ints, lt, at)

-- and it is near
pub past_near : (from world next : ExactWorld) (until : Units) → pos world.now <ℤ until.0 → next.ended ≡ false → IsPast world next → IsNearing from next until
past_near from world next until lt open_ (inr here) = absurd (let ended = here.0 in cc)
past_near from world next until lt open_ (inl past) =
    let at = past.0 in
    elim (le_cases (world.now + 1) until.0 (omega (arith, ints, lt))) [
      | inl less ↦ inr (inl (omega (arith, ints, less, at)))
      | inr same ↦ inr (inr (omega (arith, ints, same, at), past.1))
    ]
  where
    le_cases : (n : ℕ) (z : ℤ) → pos n ≤ℤ z → (pos n <ℤ z) ⊎ (pos n ≡ z)
    le_cases n (pos m) le = elim (cases_lt n m) [ inl lt ↦ inl (omega (arith, ints, lt)) | inr ge ↦ inr (omega (arith, ints, le, ge)) ]
    le_cases n (negsuc m) le = absurd (omega (arith, ints, le))

pub way_reached : {network : Network} (until : Units) {from world : ExactWorld} (next : ExactWorld)
    {events : List Event} {notes others : List Note} → StandsExact network from events notes
    → StandsExact network world events others → (from.ended ≡ false → IsNearing from world until)
    → Reaches world next until → Reaches from next until
way_reached until next a b way reached open_ order limit =
    let still = (go_on a b).unended open_ in
    elim (way open_) [
      | inl same ↦ subst (λ w. Reaches w next until) same reached open_ order limit
      | inr (inl lt) ↦ let r = reached still (omega (arith, ints, lt)) limit in record { time = r.time; early = λ either. r.early (inl lt) }
      | inr (inr here) ↦
          let at = here.0 in
          let r = reached still (omega (arith, ints, at)) limit in record { time = r.time; early = λ either. r.early (inr here.1) }
    ]

module _ (network : Network) (until : Units) (world : ExactWorld) where
  -- at the end of an instant the world is past it
  pub past_is : {next : ExactWorld} {events : List Event} {notes others : List Note}
      → StandsExact network world events notes → StandsExact network next events others
      → until.0 ≡ pos world.now +ℤ pos 1 → (world.ended ≡ false → world.now < 2 ^ 60) → Reaches world next until
      → IsPast world next
  past_is a b after limit reached = elim (cases_Bool world.ended) [
    | inl ended ↦ inr (end_stays a b ended)
    | inr unended ↦
        let early = limit unended in
        let r = reached unended (omega (arith, ints, after)) (omega (arith, ints, after, early)) in
        let time = r.time in
        inl (omega (arith, ints, time, after), r.early (inl (omega (arith, ints, after))))
  ]

  -- a time that may be asked for is in the range of runs, or just behind it
  pub asked_limit : {events : List Event} {notes : List Note} → StandsExact network world events notes
      → IsAsked world until → until.0 ≤ℤ pos (2 ^ 60 + 1)
  asked_limit a asked = elim (cases_Bool world.ended) [
    | inl ended ↦ let le = asked.ended ended in let limit = a.is.limit in omega (arith, ints, le, limit)
    | inr open_ ↦ let le = asked.unended open_ in omega (arith, ints, le)
  ]

  -- a world that gave a record before a time that may be asked for is not behind the range of runs
  pub room_now : {next : ExactWorld} {events : List Event} {notes others : List Note}
      → StandsExact network world events notes → StandsExact network next events others → pos next.now <ℤ until.0
      → IsAsked world until → next.ended ≡ false → next.now < 2 ^ 60
  room_now a b lt asked open_ =
      let le = asked.unended (unended_before a b open_) in omega (arith, ints, le, lt)

-- ---- the instant whose end is asked for

-- a record stays among those that follow
pub in_more : (network : Network) (notes more : List Note) (h : Happening) → IsIn h (happenings network notes) → IsIn h (happenings network (notes ++ more))
in_more network notes [] h i = subst (λ ns. IsIn h (happenings network ns)) (sym (append-nil notes)) i
in_more network notes (m ∷ more) h i =
    subst (λ ns. IsIn h (happenings network ns)) (append_assoc notes (m ∷ []) more)
    (in_more network (notes ++ m ∷ []) more h
    (subst (IsIn h) (sym (one_more network notes m)) (in_left h (happenings network notes) (last_of network notes m ∷ []) i)))

-- the instant of a record that is behind those of events is underway
pub underway_now : {network : Network} {world : ExactWorld} {events : List Event} (notes : List Note) (note : Note)
    → StandsExact network world events (notes ++ note ∷ []) → note.time ≡ units_of world.now → 2 < rank note.body
    → (world.ended ≡ false → world.now < 2 ^ 60) → IsUnderwayAt network world events (notes ++ note ∷ []) note.time
underway_now {network} {world} notes note stands at behind limit =
    let y = last_of network notes note in
    let now : amount note.time ≡ world.now = ap amount at in
    record {
      stands = stands;
      now = ap (λ (u : Units). u.0) at;
      limit = limit;
      given = y;
      there = subst (IsIn y) (sym (one_more network notes note)) (in_right y (happenings network notes) (y ∷ []) (inl refl));
      behind = inr (sym now, inl behind);
    }

-- the time of the instant is the world's
pub amount_now : (world : ExactWorld) (time : Units) → time.0 ≡ pos world.now → amount time ≡ world.now
amount_now world time now = ap unsigned_abs now

module _ (network : Network) (events : List Event) (notes : List Note) where
  -- past it the world shows the clocks of its time
  pub complete_past : (more : List Note) {time : Units} {world next : ExactWorld}
      → IsUnderwayAt network world events notes time → StandsExact network next events (notes ++ more)
      → IsPast world next → AreRecordsBefore network events ((amount time + 1) ∷ []) (notes ++ more)
      → IsCompleteExact network next (amount time) events (notes ++ more)
  complete_past more {time} {world} {next} at stands gone all =
      let same = amount_now world time at.now in
      subst (λ t. IsCompleteExact network next t events (notes ++ more)) (sym same) (record {
        is = stands;
        past = λ e i. let there = index_of e events i in at.stands.is.befallen.past there.0 e there.1;
        all = subst (λ t. AreRecordsBefore network events ((t + 1) ∷ []) (notes ++ more)) same all;
        come = elim gone [
          | inl on ↦ let now = on.0 in inl (omega (arith, now), on.1)
          | inr here ↦ inr (here.1, (at.given, in_more network notes more at.given at.there, at.behind))
        ];
      })

  -- ---- the record that a world gave

  pub given_before : (note : Note) (until : Units) {next : ExactWorld} (given : Bool) → given ≡ true
      → StandsExact network next events (notes ++ option_to_list (option_given given note))
      → (note.time ≡ units_of next.now) × (note.time.0 <ℤ until.0) → IsGiven network next None events notes note
  given_before note until {next} given is stands at = record {
    stands = given_some network events notes next given note is stands;
    at = at.0;
    here = tt {0};
  }

  -- within an instant it is of the same time
  pub given_in : (note : Note) (time until : Units) (from : ExactWorld) {world next : ExactWorld} (given : Bool)
      → given ≡ true → StandsExact network world events notes
      → StandsExact network next events (notes ++ option_to_list (option_given given note))
      → (note.time ≡ units_of next.now) × (note.time.0 <ℤ until.0) → time.0 ≡ pos from.now
      → world.now ≡ from.now → until.0 ≡ time.0 +ℤ pos 1 → IsGiven network next (Some (amount time)) events notes note
  given_in note time until from {next} given is a stands at now same after =
      let b = given_some network events notes next given note is stands in
      record {
        stands = b;
        at = at.0;
        here = stays_now network events notes note until a b at.0 (is_before note next.now until.0 at)
            (omega (arith, ints, now, same, after)) ∙ same
            ∙ sym (amount_now from time now);
      }

-- ---- where no more is given

-- all records of the instant are given, and the world is past it
pub record InstantOver (network : Network) (events : List Event) (notes : List Note) (time : Units) (from next : ExactWorld) : Type 0 where
  pub stands : StandsExact network next events notes
  pub past : IsPast from next
  pub all : AreRecordsBefore network events ((amount time + 1) ∷ []) notes

past_from : (from world next : ExactWorld) → world.now ≡ from.now → IsPast world next → IsPast from next
past_from from world next same (inl on) = let now = on.0 in inl (omega (arith, same, now), on.1)
past_from from world next same (inr here) = inr (here.0, here.1 ∙ same)

pub instant_over : {network : Network} {events : List Event} {notes : List Note} (more : List Note) {time : Units}
    (until : Units) {from world next : ExactWorld} (given : Bool) (note : Note) → given ≡ false
    → IsUnderwayAt network from events notes time → StandsExact network world events (notes ++ more)
    → world.now ≡ from.now → until.0 ≡ time.0 +ℤ pos 1 → StandsExact network next events
    ((notes ++ more) ++ option_to_list (option_given given note)) →
    (pos world.now <ℤ until.0 → given ≡ false
    → IsSafeFront fresh_segment stepped_segment segment_reading network events (amount until) (notes ++ more))
    → ComesUpTo {E = OutOfMemory} world next until (Ok (option_given given note))
    → InstantOver network events (notes ++ more) time from next
instant_over {network} {events} {notes} more {time} until {from} {world} {next} given note is at a same after b
    complete reached =
    let now = at.now in
    let own = subst (StandsExact network next events) (append-nil (notes ++ more)) (given_none network events (notes ++ more) next given note is b) in
    let limit : world.ended ≡ false → world.now < 2 ^ 60 = λ open_.
    (let early = at.limit (unended_before at.stands a open_) in omega (arith, early, same)) in
    let behind : until.0 ≡ pos world.now +ℤ pos 1 = omega (arith, ints, now, same, after) in
    let all = complete (omega (arith, ints, behind)) is in
    record {
      stands = own;
      past = past_from from world next same
          (past_is network until world a own behind limit (comes_to world next until given note reached is));
      all =
          subst (λ (n : ℕ). AreRecordsBefore network events (n ∷ []) (notes ++ more))
          (amount_after time until (omega (arith, ints, now)) after) all.run;
    }

-- ---- a call that went well or was cut short

pub match_on : {T E : Type 0} (r : Result T E) (P Q : T → Type 0) (C D : E → Type 0) → ((x : T) → P x → Q x) → ((e : E) → C e → D e) → MatchResult r P C
    → MatchResult r Q D
match_on (Ok x) P Q C D f h a = f x a
match_on (Err e) P Q C D f h a = h e a

pub on_ok : {T E : Type 0} (r : Result T E) (P : Type 0) → P → OnOk r P
on_ok (Ok x) P p = p
on_ok (Err e) P p = tt {0}

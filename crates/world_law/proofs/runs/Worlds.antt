-- A world and its run: what it gives next is the next record, and all that is due has a source.
use Rattle.std.proofs.{Common.arith, lemmas.List.Elements.Contains-push_cases}
use Rattle.run_law.proofs.{law.FirstDeliveries.at_length, records.Order.time_before}
use Rattle.run_law.proofs.{runs.{Grow.{grow, move_mark}, NetworkRuns.{one_more, run_goes_on, same_notes}}}
use Rattle.run_law.specs.{records.Happenings.frame_from}
use Rattle.run_law.specs.{runs.{DueRecords.EndsAt, Runs.{IsNextOf, IsRun, NothingDueUpTo}}, scenario.Ways.hold_at}
use Rattle.run_law.specs.{timed.Dispatching.IsUp}
use Rattle.tte_units.proofs.general_lemmas.Lists.{pushed}
use Rattle.world_law.proofs.{devices.Unmoved.earlier_no, lists.Lists.{behind_no, behind_yes, map_none}}
use Rattle.world_law.proofs.{runs.{Agreement.{AreUpTo, IsOwn, caused_same}, TaskPlaces.placed_so}}
use Rattle.world_law.proofs.Words
use Words.{if◌then◌else◌, ◌++◌, ◌+◌, ◌<◌, ◌∙◌, ◌∷◌, ◌≡◌, ◌≤◌, ◌⊎◌, Agree, AllBefore, AreComing, Arrival, Arrives}
use Words.{ArrivesAs, BecomesPermanent, Bool, ChangesState, ComesToCorrection, Departs, Departure, DeviceId, Dispatches}
use Words.{Emits, Event, Gives, Happening, Integrating, IsActing, IsArrivedRecord, IsAtCorrection, IsBefore, IsCaused}
use Words.{IsDropped, IsDue, IsEventRecord, IsForward, IsIn, IsLost, IsOfThisTime, IsOwnSource, IsScenarioRun, IsSource}
use Words.{IsWorkedOff, LinkId, List, Network, NoSourceBefore, None, NoneBefore, Note, NoteBody, Reaches, Reason, Ripe}
use Words.{Scenario, Signal, Some, Standing, State, Task, Units, Verdict, What, Why, [], adjustment_after}
use Words.{adjustment_at_hearing, after_last, amount, ap, append-nil, append_assoc, before_behind, before_later}
use Words.{before_or_not, behind, both_ways, cases_Bool, cases_lt, chain, correcting, dispatching, doing, earlier}
use Words.{emitting, ends_stretch, false, filter, filter-append, frame_by, happening, happenings, heard_as, in_front}
use Words.{in_right, inl, inr, integration_cycle, ints, is_accepted, is_at_source, is_turned_on_at, key, last_or}
use Words.{length, length-map, members_in, nat_lt, never_self, no_cluster, numbered, observation_window, option_map_or}
use Words.{parted, place_of, plan_of, point_by, points_of, rank, refl, scenario, sending, slice_get, slice_get_within}
use Words.{state_after, state_at_hearing, subst, suc, sym, time_of, true, way_from, zero, ℕ, ℤ}
use Rattle.world_law.specs.{device.Told.next_in}
use Rattle.world_law.specs.{world.World.{AreUntold, Befell, FirstSettledIsNext, IsDueAs, NothingSettledIsAll, note_of}}
use Rattle.world_law.specs.source.{Applying.{IsEventBody, MayBefall, RunGoesOnByEvent, note_of_event, place_of_event}}
use Rattle.world_law.specs.source.{Next.NoneDueBefore, Sources.{IsArriving, IsDeparting, IsRipening, IsSourced}}
use Rattle.run_law.specs.declared.judgement.Why.TheVariants as whys
use Rattle.run_law.specs.declared.note.NoteBody.TheVariants as notes

-- ---- what is next in a run: the first of what is due behind all of it

behind_mark : {N : Type 0} (place : N → List ℕ) (IsDue : List N → N → Type 0) (mark : List ℕ) {ns : List N} (p : List ℕ)
    → AllBefore place ns mark
    → NoneDueBefore place IsDue mark ns p
    → (ps qs : List N) (y : N) → ns ≡ ps ++ qs → AllBefore place ps (place y) → NoneBefore place qs (place y) → IsDue ps y → IsBefore (place y) p
    → (IsBefore (place y) mark → ⊥) → ⊥
behind_mark {N} place IsDue mark p within none ps [] y e before rest due here not =
    none y (rw (sym (append-nil ps) ∙ sym e) at due) not here
behind_mark {N} place IsDue mark p within none ps (q ∷ qs) y e before rest due here not =
    rest q (inl refl) (before_later (place q) (place y) mark (within q (rw e (in_right q ps (q ∷ qs) (inl refl)))) not)

-- where none that is due behind the mark is before the place, none is due up to it
pub none_due : {N : Type 0} (place : N → List ℕ) (IsDue : List N → N → Type 0) (mark : List ℕ) (ns : List N) (p : List ℕ) → AllBefore place ns mark
    → NoneDueBefore place IsDue mark ns p → NothingDueUpTo place IsDue mark ns p
none_due {N} place IsDue mark ns p within none = record {
  gap = λ ps qs y e before rest due here.
      elim (before_or_not (place y) mark) [
        | inl lt ↦ lt
        | inr not ↦ absurd (behind_mark place IsDue mark p within none ps qs y e before rest due here not)
      ];
}

-- a record that is due behind the mark is next, where none is due before it
pub is_next : {N : Type 0} {place : N → List ℕ} (IsDue : List N → N → Type 0) {mark : List ℕ} {ns : List N} (x : N)
    → IsRun place IsDue mark ns → (IsBefore (place x) mark → ⊥) → IsDue ns x
    → NoneDueBefore place IsDue mark ns (place x) → IsNextOf place IsDue mark ns x
is_next IsDue x run not due none = grind (arith, before_later, none_due)

-- ---- a run goes on by the record of an event

pub agree_back : {n : Network} {f g : DeviceId → ℕ → ℕ} {events more : List Event} {t : ℕ}
    → Agree n f g events more t → Agree n g f more events t
agree_back a = record { reads = λ device x le. sym (a.reads device x le); befell = λ u le. sym (a.befell u le) }

pub up_to_it : (ps : List Happening) (y : Happening) → AllBefore place_of ps (place_of y) → AreUpTo (time_of y) ps
up_to_it ps y before h i =
    time_before (time_of h) (time_of y) (rank h.note.body ∷ key (members_in h) h.note.body) (rank y.note.body ∷ key (members_in y) y.note.body) (before h i)

-- the kinds of record: of an event, of a clock, or any other
pub kinds : (body : NoteBody) → IsEventBody body ⊎ ((rank body ≡ 14) ⊎ (IsOwn body × (2 ≤ rank body)))
kinds (notes.Event line what) = inl tt
kinds (notes.Clock device reading adjustment state) = inr (inl refl)
kinds other = inr (inr (tt, omega arith))

-- the cause of an event's record: its event
pub event_cause : (s : Scenario) (hs : List Happening) (time : Units) (body : NoteBody) → IsEventBody body → IsCaused s hs time body → (line : ℕ)
    × (what : What) × (body ≡ notes.Event line what) × IsEventRecord s.events time line what
event_cause s hs time (notes.Event line what) e c = (line, what, refl, c)
event_cause s hs time other e c = absurd e

pub clock_cause : (s : Scenario) (hs : List Happening) (time : Units) (body : NoteBody) → rank body ≡ 14 → IsCaused s hs time body → EndsAt s.events time
clock_cause s hs time (notes.Clock device reading adjustment state) e c = c.ends
clock_cause s hs time other e c = absurd (omega arith)

event_more : {events : List Event} (event : Event) {time : Units} {line : ℕ} {what : What}
    → IsEventRecord events time line what → IsEventRecord (events ++ event ∷ []) time line what
event_more event r = grind (arith, in_front)

-- the place of an event's record
pub event_place : (y : Happening) (line : ℕ) (what : What) → y.note.body ≡ notes.Event line what → place_of y ≡ time_of y ∷ 1 ∷ line ∷ []
event_place y line what e = rw e

-- a record of rank 2 or more before the event's is of an earlier time
pub earlier_by_rank : (t r a line : ℕ) (more : List ℕ) → 2 ≤ r → IsBefore (t ∷ r ∷ more) (a ∷ 1 ∷ line ∷ []) → t < a
earlier_by_rank t r a line more two (inl lt) = lt
earlier_by_rank t r a line more two (inr (e, inl lt)) = absurd (omega arith)
earlier_by_rank t r a line more two (inr (e, inr (f, b))) = absurd (omega arith)

-- ---- the two scenarios

not_both : (body : NoteBody) → IsEventBody body → IsOwn body → ⊥
not_both (notes.Event line what) e o = o
not_both other e o = e

module _ {n : Network} {f g : DeviceId → ℕ → ℕ} {events : List Event} {event : Event} {mark : List ℕ}
    {ns : List Note} (may : MayBefall n f g events event mark ns) {ps : List Happening} {y : Happening} where
  -- what was due is due still
  due_on : IsIn y (happenings n ns) → AllBefore place_of ps (place_of y) → IsDue (scenario n f events) ps y
      → IsDue (scenario n g (events ++ event ∷ [])) ps y
  due_on there before due = record {
    number = due.number;
    same = due.same;
    begun = due.begun;
    cause = elim (kinds y.note.body) [
      | inl it ↦
          let found = event_cause (scenario n f events) ps y.note.time y.note.body it due.cause in
          subst (IsCaused (scenario n g (events ++ event ∷ [])) ps y.note.time) (sym found.2) (event_more event found.3)
      | inr (inl clock) ↦ absurd (may.running y.note.time
          (clock_cause (scenario n f events) ps y.note.time y.note.body clock due.cause))
      | inr (inr own) ↦
          elim (may.sooner y there) [
            | inl lt ↦ caused_same ps y.note.time y.note.body
                (may.agree (time_of y) lt) (omega arith)
                (up_to_it ps y before) own.0 due.cause
            | inr it ↦ absurd (not_both y.note.body it own.0)
          ]
    ];
  }

  -- and what is due before the event's record was due, and is before the mark
  due_back : AllBefore place_of ps (place_of y) → IsDue (scenario n g (events ++ event ∷ [])) ps y
      → IsBefore (place_of y) (place_of_event events event)
      → IsDue (scenario n f events) ps y × IsBefore (place_of y) mark
  due_back before due here =
      elim (kinds y.note.body) [
        | inl it ↦
            let found = event_cause (scenario n g (events ++ event ∷ [])) ps y.note.time y.note.body it due.cause in
            let r = found.3 in
            let at = event_place y found.0 found.1 found.2 in
            elim (pushed events event r.event r.before r.is) [
              | inl old ↦
                  let was : IsEventRecord events y.note.time found.0 found.1 = record {
                    event = r.event;
                    before = r.before;
                    line_is = r.line_is;
                    is = old;
                    at = r.at;
                    same = r.same;
                  } in (
                    record {
                      number = due.number;
                      same = due.same;
                      begun = due.begun;
                      cause = subst (IsCaused (scenario n f events) ps y.note.time) (sym found.2)
                          was;
                    },
                    rw (ap (λ u. amount u ∷ 1 ∷ (r.before + 1) ∷ []) (sym r.at) ∙ ap
                        (λ (l : ℕ). time_of y ∷ 1 ∷ l ∷ []) (sym r.line_is) ∙ sym at) at (may.told r.before r.event
                        old),
                  )
              | inr new ↦
                  absurd (never_self (place_of_event events event)
                  (subst (λ p. IsBefore p (place_of_event events event))
                  (at
                  ∙ ap (λ u. amount u ∷ 1 ∷ found.0 ∷ []) (r.at ∙ ap (λ e. e.time) (sym new.1))
                  ∙ ap (λ l. amount event.time ∷ 1 ∷ l ∷ []) (r.line_is ∙ ap (λ k. k + 1) new.0))
                  here))
            ]
        | inr (inl clock) ↦
            elim (Contains-push_cases events event _ (clock_cause (scenario n g (events ++ event ∷ [])) ps
            y.note.time y.note.body clock due.cause)) [
              | inl old ↦ absurd (may.running y.note.time old)
              | inr e ↦ let same : amount event.time ≡ time_of y = rw e in
                  absurd (omega arith)
            ]
        | inr (inr own) ↦
            let lt = earlier_by_rank (time_of y) (rank y.note.body) (amount event.time) (length events + 1)
            (key (members_in y) y.note.body) own.1 here in (
              record {
                number = due.number;
                same = due.same;
                begun = due.begun;
                cause =
                    caused_same ps y.note.time y.note.body
                    (agree_back (may.agree (time_of y) lt)) (omega arith) (up_to_it ps y before) own.0 due.cause;
              },
              may.none_left (place_of y) (inl lt),
            )
      ]

pub line_before : (t a line next : ℕ) → t ≤ a → line < next → IsBefore (t ∷ 1 ∷ line ∷ []) (a ∷ 1 ∷ next ∷ [])
line_before t a line next le lt = elim (cases_lt t a) [
  | inl sooner ↦ inl sooner
  | inr ge ↦
      inr (omega arith, inr (refl, inl lt))
]

pub same_length : (n : Network) (ns : List Note) → length ns ≡ length (happenings n ns)
same_length n ns = ap length (sym (same_notes n ns)) ∙ length-map (happenings n ns) (λ h. h.note)

-- each record is before that of the event
before_event : {n : Network} {f g : DeviceId → ℕ → ℕ} {events : List Event} {event : Event} {mark : List ℕ}
    {ns : List Note} → MayBefall n f g events event mark ns → IsScenarioRun (scenario n f events) mark ns
    → (h : Happening) → IsIn h (happenings n ns) → IsBefore (place_of h) (place_of_event events event)
before_event {n} {f} {events} {event} {ns} may run h there =
    elim (may.sooner h there) [
      | inl lt ↦ inl lt
      | inr it ↦
          let at = parted h (happenings n ns) there in
          let due = (run.founded at.0 at.1 h at.2).1 in
          let found = event_cause (scenario n f events) at.0 h.note.time h.note.body it due.cause in
          let r = found.3 in
          let few = slice_get_within events r.before r.event r.is in
          let order = may.in_order r.before r.event r.is in
          let time : time_of h ≡ amount r.event.time = ap amount r.at in
          subst (λ p. IsBefore p (place_of_event events event)) (sym (event_place h found.0 found.1 found.2))
          (line_before (time_of h) (amount event.time) found.0 (length events + 1) (omega (arith, time, order)) (omega (arith, few, r.line_is)))
    ]

pub run_goes_on_by_event : RunGoesOnByEvent
run_goes_on_by_event n f g events event mark ns may run =
    let r = scenario n g (events ++ event ∷ []) in
    let hs = happenings n ns in
    let here = place_of_event events event in
    let x = happening n hs (note_of_event ns events event) in
    let all = before_event may run in
    let under : IsRun place_of (IsDue r) here hs = record {
      founded = λ ps qs y e.
          let was = run.founded ps qs y e in (
            was.0,
            due_on may (rw e (in_right y ps (y ∷ qs) (inl refl))) was.0
                was.1,
          );
      full = λ ps qs y e before rest due lt.
          let back = due_back may before due lt in
          run.full ps qs y e before rest back.0 back.1;
      within = all;
    } in
    let due : IsDue r hs x = record {
      number = rw (same_length n ns);
      same = refl;
      begun = may.begun;
      cause = record { event = event; before = length events; line_is = refl; is = at_length events [] event; at = refl; same = refl };
    } in
    let grown = grow (IsDue r) x under all due (record { gap = λ ps qs y e before rest d lt. lt }) in
    subst (IsRun place_of (IsDue r) (behind here)) (sym (one_more n ns (note_of_event ns events event))) grown

-- ---- where no source and nothing settled is before a place, nothing that is due is

pub source_before : (w q p : List ℕ) → (w ≡ q) ⊎ IsBefore w q → IsBefore q p → IsBefore w p
source_before w q p (inl e) b = rw e b
source_before w q p (inr lt) b = chain w q p lt b

-- ---- one more record

-- the record of a number is an old one, or the new one has the next number
pub numbered_more : (hs : List Happening) (x : Happening) {g : Happening} (cause : ℕ) → numbered (hs ++ x ∷ [])
    cause ≡ Some g → (numbered hs cause ≡ Some g)
    ⊎ ((cause ≡ length hs + 1) × (x ≡ g))
numbered_more hs x zero e = absurd cc
numbered_more hs x {g} (suc before) e = elim (pushed hs x g before e) [
  | inl old ↦ inl old
  | inr new ↦
      inr (omega (arith, new.0), new.1)
]

pub numbered_still : (hs : List Happening) (x : Happening) {g : Happening} (cause : ℕ) → numbered hs cause ≡ Some g
    → numbered (hs ++ x ∷ []) cause ≡ Some g
numbered_still hs x zero e = absurd cc
numbered_still hs x {g} (suc before) e = in_front hs (x ∷ []) before g e

module _ {s : Scenario} (hs : List Happening) (x : Happening) {t : ℕ} {device : DeviceId} {link : LinkId}
    {cause : ℕ} where
  -- what arrives was under way before, or is what the new record puts on a wire
  pub arriving_more : IsArriving s (hs ++ x ∷ []) t device link cause
      → IsArriving s hs t device link cause ⊎ ((cause ≡ length hs + 1)
      × ((signal : Signal) × Arrives s x device link t signal))
  arriving_more a =
      search (arith, numbered_more)

  -- what leaves was given before, or is the frame that the new record gives
  pub departing_more : IsDeparting s (hs ++ x ∷ []) t device link cause
      → IsDeparting s hs t device link cause ⊎ ((cause ≡ length hs + 1) × Gives s.network x.note.body device link
      × (t ≡ time_of x + hold_at s link (way_from s.network device link) (time_of x)))
  departing_more d =
      elim (numbered_more hs x cause d.there) [
        | inl old ↦ inl (record { giving = d.giving; there = old; gives = d.gives; held = d.held })
        | inr new ↦ inr (
          new.0,
          rw new.1 d.gives,
          rw new.1 d.held,
        )
      ]

-- What is to come brings no source that is not behind it.

-- ---- lists

get_parts : {X : Type 0} (xs ys : List X) {x : X} (i : ℕ) → slice_get (xs ++ ys) i ≡ Some x → (slice_get xs i ≡ Some x)
    ⊎ IsIn x ys
get_parts [] [] i e = absurd cc
get_parts [] (y ∷ ys) zero e = inr (inl cc)
get_parts [] (y ∷ ys) {x} (suc i) e = elim (get_parts [] ys i e) [ inl none ↦ absurd cc | inr more ↦ inr (inr more) ]
get_parts (z ∷ xs) ys zero e = inl e
get_parts (z ∷ xs) ys {x} (suc i) e = get_parts xs ys i e

-- the record of a number is given, or is to come
pub numbered_parts : (hs zs : List Happening) (g : Happening) (cause : ℕ) → numbered (hs ++ zs) cause ≡ Some g → (numbered hs cause ≡ Some g) ⊎ IsIn g zs
numbered_parts hs zs g zero e = absurd cc
numbered_parts hs zs g (suc before) e = get_parts hs zs before e

pub none_earlier : (t : ℕ) (zs : List Happening) → ((z : Happening) → IsIn z zs → t ≤ time_of z) → earlier t zs ≡ []
none_earlier t [] of = refl
none_earlier t (z ∷ zs) of = earlier_no t z zs (of z (inl refl)) ∙ none_earlier t zs (λ y i. of y (inr i))

-- records of a time do not change those before it
pub earlier_still : (t : ℕ) (hs zs : List Happening) → ((z : Happening) → IsIn z zs → t ≤ time_of z) → earlier t (hs ++ zs) ≡ earlier t hs
earlier_still t hs zs of = grind (arith, filter-append, nat_lt, time_of, earlier, none_earlier, append-nil)

-- ---- places of one time

-- where a place is not behind one of the time, its time is no later, and at the time its rank is no higher
pub no_higher : (t k now r : ℕ) (ws more : List ℕ) → (t ∷ k ∷ ws ≡ now ∷ r ∷ more) ⊎ IsBefore (t ∷ k ∷ ws) (now ∷ r ∷ more) → (t < now) ⊎ ((t ≡ now) × (k ≤ r))
no_higher t k now r ws more (inl e) = let b : k ≡ r = cc in inr (cc, omega arith)
no_higher t k now r ws more (inr (inl lt)) = inl lt
no_higher t k now r ws more (inr (inr (e, inl lt))) = inr (e, omega arith)
no_higher t k now r ws more (inr (inr (e, inr (f, b)))) = inr (e, omega arith)

-- a record of the time that is not before a place of it has at least its rank
pub at_least : (g : Happening) (now r : ℕ) (more : List ℕ) → time_of g ≡ now → (IsBefore (place_of g) (now ∷ r ∷ more) → ⊥) → r ≤ rank g.note.body
at_least g now r more at not = elim (cases_lt (rank g.note.body) r) [ inl lt ↦ absurd (not (inr (at, inl lt))) | inr ge ↦ ge ]

pub gives_rank : (network : Network) (body : NoteBody) (device : DeviceId) (link : LinkId) → Gives network body device link → rank body ≤ 5
gives_rank network (notes.Sent master cycle) device link g = omega arith
gives_rank network (notes.Compressed cm opened at cycle members verdict) device link g = omega arith
gives_rank network (notes.Arrived relay by cause clock) device link g = omega arith
gives_rank network other device link g = absurd g

-- ---- what acts

pub of_high_rank : (device : DeviceId) (z : Happening) (body : NoteBody) → 4 ≤ rank body → point_by device z body ≡ None
of_high_rank device z (notes.Permanent other link cause point verdict) high = absurd (omega arith)
of_high_rank device z other high = refl

points_one : (hs : List Happening) (z : Happening) (device : DeviceId) → 4 ≤ rank z.note.body → (points_of (hs ++ z ∷ []) device ≡ points_of hs device)
    ⊎ (points_of (hs ++ z ∷ []) device ≡ [])
points_one hs z device high = grind (arith, ends_stretch, point_by, cases_Bool, behind_yes, behind_no, map_none, after_last, of_high_rank)

pub points_back : (zs hs : List Happening) (device : DeviceId) → ((z : Happening) → IsIn z zs → 4 ≤ rank z.note.body)
    → (points_of (hs ++ zs) device ≡ points_of hs device) ⊎ (points_of (hs ++ zs) device ≡ [])
points_back [] hs device high = inl (rw (append-nil hs))
points_back (z ∷ zs) hs device high = grind (arith, points_of, append_assoc, points_one, (points_back zs (hs ++ z ∷ []) device (λ y i. high y (inr i))))

abbrev pub standing_in : Scenario → DeviceId → ℕ → List Happening → Standing
standing_in s device t w = record {
  plan = plan_of s.network device;
  state = if is_turned_on_at s device t then Integrating else state_after s w device;
  adjustment = adjustment_after s w device;
  number = next_in s device w t;
  integrated = integration_cycle w device;
}

module _ (s : Scenario) (js hs : List Happening) (t : ℕ) (device : DeviceId) where
  pub reaches_back : {v : ℤ} → earlier t js ≡ earlier t hs → Reaches s js device v t → Reaches s hs device v t
  reaches_back same r = grind (arith, adjustment_after)

  pub up_back : earlier t js ≡ earlier t hs → IsUp s js device t → IsUp s hs device t
  up_back same up = grind (arith, is_turned_on_at, state_after)

pub dispatches_back : {s : Scenario} {js : List Happening} (hs : List Happening) {t : ℕ} {device : DeviceId}
    {link : LinkId} {cause : ℕ} {vl : _} {cycle : ℕ} → earlier t js ≡ earlier t hs
    → Dispatches s js device t link cause vl cycle → Dispatches s hs device t link cause vl cycle
dispatches_back hs same d = grind (arith, up_back, reaches_back, last_or, filter, is_accepted)

-- it is of the same row
pub dispatches_same : (s : Scenario) (js hs : List Happening) (t : ℕ) (device : DeviceId) (link : LinkId) (cause : ℕ) (vl : _) (cycle : ℕ)
    → earlier t js ≡ earlier t hs → (d : Dispatches s js device t link cause vl cycle)
    → (e : Dispatches s hs device t link cause vl cycle) × (e.place ≡ d.place)
unfolding dispatches_back
dispatches_same s js hs t device link cause vl cycle same d = (dispatches_back hs same d, refl)

emits_back : {s : Scenario} (hs zs : List Happening) {t : ℕ} {device : DeviceId} {sent verdict : _}
    → ((z : Happening) → IsIn z zs → 4 ≤ rank z.note.body) → Emits s (hs ++ zs) device t sent verdict
    → IsActing s hs t device (emitting sent)
emits_back {s} hs zs {t} {device} {sent} high e =
    elim (points_back zs hs device high) [
      | inl same ↦
          IsActing.emits sent (heard_as (plan_of s.network device) (observation_window s.network) (state_at_hearing s hs device t)
          (adjustment_at_hearing s hs device t).0 sent.at.0 sent.cycle sent.members) (record {
            cm = e.cm;
            correct = e.correct;
            clusters = e.clusters;
            are = rw same at e.are;
            cluster = e.cluster;
            there = e.there;
            is = e.is;
            reached = e.reached;
            heard = refl;
          })
      | inr none ↦ absurd (no_cluster (observation_window s.network) e.clusters e.cluster
          (rw none at e.are) e.there)
    ]

-- what acts by the records with those to come, where these have the rank of acts or a higher one, acts by those given
pub acting_back : {s : Scenario} (hs zs : List Happening) {t : ℕ} {device : DeviceId} {task : Task}
    → ((z : Happening) → IsIn z zs → t ≤ time_of z) → ((z : Happening) → IsIn z zs → 4 ≤ rank z.note.body)
    → IsActing s (hs ++ zs) t device task → IsActing s hs t device task
acting_back {s} hs zs {t} {device} of high (IsActing.sends cycle d) =
    let same = earlier_still t hs zs of in
    IsActing.sends cycle
    (record {
      master = d.master;
      up = up_back s (hs ++ zs) hs t device same d.up;
      begun = d.begun;
      reached = reaches_back s (hs ++ zs) hs t device same d.reached;
    })
acting_back hs zs of high (IsActing.emits sent verdict e) = emits_back hs zs high e
acting_back {s} hs zs {t} {device} of high (IsActing.corrects cycle d) =
    let same = earlier_still t hs zs of in
    IsActing.corrects cycle
    (record {
      next = rw same at d.next;
      reached = reaches_back s (hs ++ zs) hs t device same d.reached;
      correct = d.correct;
    })
acting_back {s} hs zs {t} {device} of high (IsActing.dispatches link cause vl cycle d) =
    let e = dispatches_same s (hs ++ zs) hs t device link cause vl cycle (earlier_still t hs zs of) d in
    rw e.1 at (IsActing.dispatches link cause vl cycle e.0)

-- ---- all sources

-- what the source is: one by the records given, one of an earlier time, or the records of this time
abbrev pub IsBack : Scenario → List Happening → ℕ → List ℕ → Type 0
IsBack s hs now w = IsSource s hs w ⊎ (IsBefore w (now ∷ []) ⊎ (w ≡ now ∷ 2 ∷ []))

pub arrives_later : {s : Scenario} {g : Happening} {device : DeviceId} {link : LinkId} {t : ℕ} {signal : Signal}
    → IsForward s → Arrives s g device link t signal → time_of g < t
arrives_later {g} {device} {link} forward a =
    let one = forward link a.way device (time_of g) a.receiver in omega (arith, a.at)

pub source_back : {s : Scenario} (hs zs : List Happening) (now r : ℕ) (more : List ℕ) → IsForward s
    → ((z : Happening) → IsIn z zs → time_of z ≡ now) → NoneBefore place_of zs (now ∷ r ∷ more) → {w : List ℕ}
    → IsSource s (hs ++ zs) w → (w ≡ now ∷ r ∷ more) ⊎ IsBefore w (now ∷ r ∷ more) → IsBack s hs now w
source_back hs zs now r more forward of none (IsSource.arriving t device link cause a) le =
    elim (numbered_parts hs zs a.putting cause a.there) [
      | inl old ↦ inl (IsSource.arriving t device link cause (record { putting = a.putting; there = old; signal = a.signal; arrives = a.arrives }))
      | inr new ↦
          let later = arrives_later forward a.arrives in
          let at = of a.putting new in
          elim (no_higher t 2 now r _ more le) [
            | inl lt ↦ absurd (omega arith)
            | inr same ↦
                absurd (omega (arith, same.0))
          ]
    ]
source_back hs zs now r more forward of none (IsSource.ripening t device link cause point x) le =
    let p = x.permanent in
    elim (numbered_parts hs zs p.arrival cause p.there) [
      | inl old ↦
          inl (IsSource.ripening t device link cause point (record {
            frame = x.frame;
            permanent = record {
              arrival = p.arrival;
              there = old;
              from = p.from;
              clock = p.clock;
              arrived = p.arrived;
              of_frame = p.of_frame;
              waits = p.waits;
              at_point = p.at_point;
              reached = p.reached;
              correct = p.correct;
            };
          }))
      | inr new ↦
          let low = at_least p.arrival now r more (of p.arrival new) (none p.arrival new) in
          let two : rank p.arrival.note.body ≡ 2 = ap rank p.arrived in
          let from = p.reached.from_on in
          elim (no_higher t 3 now r _ more le) [
            | inl lt ↦ absurd (omega (arith, ints))
            | inr same ↦
                absurd (omega (arith, same.1))
          ]
    ]
source_back {s} hs zs now r more forward of none (IsSource.acting t device task a) le =
    let p = placed_so s.network t device task in
    elim (no_higher t p.rank now r (device.0 ∷ p.rest) more (subst (λ q. (q ≡ now ∷ r ∷ more) ⊎ IsBefore q (now ∷ r ∷ more)) p.is le)) [
      | inl lt ↦ inr (inl (subst (λ q. IsBefore q (now ∷ [])) (sym p.is) (inl lt)))
      | inr same ↦
          inl (IsSource.acting t device task (acting_back hs zs (λ z i. omega (arith, same.0))
          (λ z i. let low = at_least z now r more (of z i) (none z i) in omega (arith, same.1)) a))
    ]
source_back {s} hs zs now r more forward of none (IsSource.departing t device link cause d) le =
    elim (numbered_parts hs zs d.giving cause d.there) [
      | inl old ↦ inl (IsSource.departing t device link cause (record { giving = d.giving; there = old; gives = d.gives; held = d.held }))
      | inr new ↦
          let low = at_least d.giving now r more (of d.giving new) (none d.giving new) in
          let few = gives_rank s.network d.giving.note.body device link d.gives in
          let held = d.held in
          elim (no_higher t 8 now r _ more le) [
            | inl lt ↦ absurd (omega arith)
            | inr same ↦
                absurd (omega (arith, same.1))
          ]
    ]
source_back hs zs now r more forward of none (IsSource.following t cause h it) le =
    elim (no_higher t 2 now r _ more le) [ inl lt ↦ inr (inl (inl lt)) | inr same ↦ inr (inr (rw same.0)) ]
source_back hs zs now r more forward of none (IsSource.befalling time line what it) le =
    inl (IsSource.befalling time line what it)
source_back hs zs now r more forward of none (IsSource.ending time device is there it) le =
    inl (IsSource.ending time device is there it)

-- ---- what is to come while a source is worked off and its own record is not given yet

-- a record that stands at its source does so
pub own_here : (s : Scenario) (js : List Happening) (t m : ℕ) (body : NoteBody) (p : List ℕ) → is_at_source body ≡ true
    → IsOwnSource s js t m body p
    → p ≡ t ∷ rank body ∷ key m body
own_here s js t m (notes.Arrived device link cause clock) p e o = o
own_here s js t m other p e o = grind arith

pub frame_source : (body : NoteBody) → rank body ≡ 4 → is_at_source body ≡ true
frame_source (notes.Compressed device opened at cycle members verdict) e = refl
frame_source other e = absurd (omega arith)

-- between two places: up to the first the records given are the run, and each source before the second is worked off
pub record AreSettled (s : Scenario) (hs coming : List Happening) (from to : List ℕ) (now : ℕ) : Type 0 where
  pub of_now : (z : Happening) → IsIn z coming → time_of z ≡ now
  pub after : (z : Happening) → IsIn z coming → IsBefore (place_of z) from → ⊥
  pub founded : (front rest : List Happening) (z : Happening) → coming ≡ front ++ z ∷ rest
      → AllBefore place_of front (place_of z) × IsDueAs s (hs ++ front) z
  pub by : (front rest : List Happening) (z : Happening) → coming ≡ front ++ z ∷ rest → IsWorkedOff s (hs ++ front) to z
  pub full : (front back : List Happening) (y : Happening) → coming ≡ front ++ back
      → AllBefore place_of front (place_of y) → NoneBefore place_of back (place_of y) → (IsBefore (place_of y) from → ⊥)
      → IsDueAs s (hs ++ front) y → IsWorkedOff s (hs ++ front) to y
      → (z : Happening) × IsIn z coming × (place_of z ≡ place_of y)
  pub not_past : (z : Happening) → IsIn z coming → (p : List ℕ) → IsBefore p to → IsBefore p (behind (place_of z))
  pub worked : (z : Happening) → IsIn z coming → is_at_source z.note.body ≡ true → IsBefore (place_of z) to
  pub begun : (z : Happening) → IsIn z coming → IsBefore (now ∷ 2 ∷ []) to

-- at one frontier nothing to come stands at its source
pub late_of : {s : Scenario} {hs coming : List Happening} {frontier : List ℕ} {now : ℕ}
    → AreComing s hs coming frontier now → (z : Happening) → IsIn z coming → is_at_source z.note.body ≡ false
late_of {s} {hs} {coming} {frontier} are z i = search (arith, cases_Bool, parted, own_here)

pub settled_of : {s : Scenario} {hs coming : List Happening} {frontier : List ℕ} {now : ℕ}
    → AreComing s hs coming frontier now → AreSettled s hs coming frontier frontier now
settled_of {frontier} are = record {
  of_now = are.of_now;
  after = are.after;
  founded = are.founded;
  by = are.by;
  full = are.full;
  not_past = λ z i p b.
      chain p (place_of z) (behind (place_of z)) (before_later p (place_of z) frontier b (are.after z i))
      (before_behind (place_of z));
  worked = λ z i is. absurd (both_ways _ (late_of are z i) is);
  begun = are.begun;
}

-- and where nothing to come is before the second place, that is the frontier
pub coming_of : {s : Scenario} {hs coming : List Happening} {from to : List ℕ} {now : ℕ}
    → AreSettled s hs coming from to now → ((p : List ℕ) → IsBefore p from → IsBefore p to)
    → ((z : Happening) → IsIn z coming → IsBefore (place_of z) to → ⊥) → AreComing s hs coming to now
coming_of are on none = search (arith, place_of)

-- where no event is pending, and what follows events is worked off, the outcomes of events are settled
pub none_pending : {hs : List Happening} {frontier : List ℕ} {now : ℕ} {pending : Bool} {befell : List Befell}
    → pending ≡ false → befell ≡ []
    → ((number : ℕ) (h : Happening) → IsOfThisTime hs now number h → IsBefore (now ∷ 2 ∷ []) frontier)
    → AreUntold hs frontier now pending befell
none_pending told none done = search arith

-- nothing has no part
pub no_part : (front rest : List Happening) (z : Happening) → [] ≡ front ++ z ∷ rest → ⊥
no_part [] rest z e = cc
no_part (f ∷ front) rest z e = cc

-- where all that is due by a source that is worked off is before the first place, nothing is to come
pub none_to_come : {s : Scenario} {hs : List Happening} {from to : List ℕ} {now : ℕ}
    → ((front : List Happening) (y : Happening) → (IsBefore (place_of y) from → ⊥) → IsDueAs s (hs ++ front) y
    → IsWorkedOff s (hs ++ front) to y → ⊥) → AreSettled s hs [] from to now
none_to_come none = search (arith, no_part)

-- ---- each record that is due has a source

-- a source of the time at this place or before
abbrev IsSourcedAt : Scenario → List Happening → ℕ → ℕ → NoteBody → List ℕ → Type 0
IsSourcedAt s hs t members body at = (place : List ℕ) × IsOwnSource s hs t members body place × IsSource s hs place × ((place ≡ at) ⊎ IsBefore place at)

module _ {s : Scenario} {hs : List Happening} {t : ℕ} {device : DeviceId} where
  pub arrival_of_it : {link : LinkId} {cause : ℕ} {is : Arrival} → ArrivesAs s hs device t link cause is
      → IsArriving s hs t device link cause
  arrival_of_it a = record { putting = a.putting; there = a.there; signal = a.signal; arrives = a.arrives }

  pub departure_of_it : {link : LinkId} {cause : ℕ} {is : Departure} → Departs s hs device t link cause is
      → IsDeparting s hs t device link cause
  departure_of_it d = record { giving = d.giving; there = d.there; gives = d.gives; held = d.held }

  pub point_of_it : {cycle : ℕ} {verdict : Verdict} → ComesToCorrection s hs device t cycle verdict
      → IsAtCorrection s hs t device cycle
  point_of_it c = record { next = c.next; reached = c.reached; correct = c.correct }

abbrev pub ripening_of_it : (s : Scenario) (hs : List Happening) (t : ℕ) (device : DeviceId) (link : LinkId) (cause : ℕ)
    (point : Units) (is : Ripe)
    → BecomesPermanent s hs device t link cause point is → IsRipening s hs t device link cause point
ripening_of_it s hs t device link cause point is r = record { frame = r.frame; permanent = r.permanent }

module _ (s : Scenario) (hs : List Happening) (t : ℕ) (device : DeviceId) where
  taken_of_it : {link : LinkId} {cause clock : ℕ} → IsArrivedRecord s hs device t link cause clock
      → IsArriving s hs t device link cause
  taken_of_it a =
      elim a.taken [
        | inl waits ↦ arrival_of_it waits
        | inr (inl passes) ↦ arrival_of_it passes
        | inr (inr both) ↦ arrival_of_it both
      ]

  by_state : (state : State) (cause : ℕ) (why : Why) (members : ℕ) → ChangesState s hs device t state cause why
      → (more : List ℕ) → IsSourcedAt s hs t members (notes.State device state cause why) (t ∷ 7 ∷ more)
  by_state state cause whys.On m c more =
      (t ∷ 2 ∷ [], refl, IsSource.following t cause c.2.1 c.2.2, inr (inr (refl, inl (omega arith))))
  by_state state cause whys.Frame m c more =
      (t ∷ 2 ∷ [], refl, IsSource.following t cause c.1.0 c.1.1, inr (inr (refl, inl (omega arith))))
  by_state state cause whys.Correction m c more =
      (t ∷ 2 ∷ [], refl, IsSource.following t cause c.2.3 c.2.4, inr (inr (refl, inl (omega arith))))
  by_state state cause whys.SyncClique m c more = (
    t ∷ 6 ∷ device.0 ∷ [],
    (c.2.0, refl),
    IsSource.acting t device (doing (correcting c.2.0)) (IsActing.corrects c.2.0 (point_of_it c.2.1)),
    inr (inr (refl, inl (omega arith))),
  )
  by_state state cause whys.AsyncClique m c more = (
    t ∷ 6 ∷ device.0 ∷ [],
    (c.2.0, refl),
    IsSource.acting t device (doing (correcting c.2.0)) (IsActing.corrects c.2.0 (point_of_it c.2.1)),
    inr (inr (refl, inl (omega arith))),
  )

module _ (s : Scenario) (hs : List Happening) (t : ℕ) (device : DeviceId) (link : LinkId) (cause : ℕ) where
  by_loss : (members : ℕ) → IsLost s hs device t link cause → (more : List ℕ)
      → IsSourcedAt s hs t members (notes.Lost device link cause) (t ∷ 9 ∷ more)
  by_loss m (inl departs) more = (
    _,
    inl (refl, departs),
    IsSource.departing t device link cause (departure_of_it departs),
    inr
        (inr (refl, inl (omega arith))),
  )
  by_loss m (inr (inl d)) more =
      let source = IsSource.acting t device (doing (dispatching (record { 0 = d.2.place }) d.1))
      (IsActing.dispatches link cause d.0 d.1 d.2) in
      (_, inr (inl (d.0, d.1, d.2, d.3, refl)), source, inr (inr (refl, inl (omega arith))))
  by_loss m (inr (inr send)) more =
      (_, inr (inr (refl, send)), IsSource.following t cause send.event send.is, inr (inr (refl, inl (omega arith))))

  by_drop : (reason : Reason) (members : ℕ) → IsDropped s hs device t link cause reason → (more : List ℕ)
      → IsSourcedAt s hs t members (notes.Dropped device link cause reason) (t ∷ 13 ∷ more)
  by_drop reason m (inl arrives) more = (
    _,
    inl (refl, arrives),
    IsSource.arriving t device link cause (arrival_of_it arrives),
    inr
        (inr (refl, inl (omega arith))),
  )
  by_drop reason m (inr (inl r)) more = (
    _,
    inr (inl (r.0, r.1, refl)),
    IsSource.ripening t device link cause r.0 (ripening_of_it s hs t device link cause r.0 _ r.1),
    inr (inr (refl, inl (omega arith))),
  )
  by_drop reason m (inr (inr d)) more = (
    _,
    inr (inr (refl, d.0)),
    IsSource.departing t device link cause (departure_of_it d.0),
    inr
        (inr (refl, inl (omega arith))),
  )

-- the members of the frame of a record of this body, as a number
abbrev members_by : Network → List Happening → NoteBody → ℕ
members_by network hs body = option_map_or (λ frame. frame.members.0) (frame_by network hs body) 0

-- the source of a record of this body
by_body : (s : Scenario) (hs : List Happening) (time : Units) {members : ℕ} (body : NoteBody) → members ≡ members_by
    s.network hs body → IsCaused s hs time body
    → IsSourcedAt s hs (amount time) members body (amount time ∷ rank body ∷ key members body)
by_body s hs time (notes.Event line what) m c =
    (_, refl, IsSource.befalling time line what c, inr (inr (refl, inr (refl, tt))))
by_body s hs time (notes.Arrived device link cause clock) m c =
    (_, refl, IsSource.arriving (amount time) device link cause (taken_of_it s hs (amount time) device c), inl refl)
by_body s hs time (notes.Permanent device link cause point verdict) m c =
    let r = ripening_of_it s hs (amount time) device link cause point _ c in
    let p = r.permanent in
    let frame : frame_from hs cause ≡ Some r.frame = rw p.there p.of_frame in
    let same = sym (m ∙ ap (λ o. option_map_or (λ f. f.members.0) o 0) frame) in
    let at = ap (λ k. amount time ∷ 3 ∷ device.0 ∷ amount point ∷ k ∷ link.0 ∷ cause ∷ []) same in (
      _,
      at,
      IsSource.ripening (amount time) device link cause point r,
      inl (rw same),
    )
by_body s hs time (notes.Compressed device opened at cycle of_masters verdict) m c =
    (_, refl, IsSource.acting (amount time) device (emitting _) (IsActing.emits _ verdict c), inl refl)
by_body s hs time (notes.Sent device cycle) m c =
    (_, refl, IsSource.acting (amount time) device (doing (sending cycle)) (IsActing.sends cycle c), inl refl)
by_body s hs time (notes.Corrected device cycle by adjustment) m c = (
  _,
  refl,
  IsSource.acting (amount time) device (doing (correcting cycle))
      (IsActing.corrects cycle (point_of_it c.corrected)),
  inl refl,
)
by_body s hs time {members} (notes.State device state cause why) m c =
    by_state s hs (amount time) device state cause why members c (device.0 ∷ cause ∷ [])
by_body s hs time (notes.Left device link cause clock) m c =
    (_, refl, IsSource.departing (amount time) device link cause (departure_of_it c), inl refl)
by_body s hs time {members} (notes.Lost device link cause) m c =
    by_loss s hs (amount time) device link cause members c (device.0 ∷ link.0 ∷ cause ∷ [])
by_body s hs time (notes.TtSent device link cause vl cycle) m c =
    let source = IsSource.acting (amount time) device (doing (dispatching (record { 0 = c.dispatches.place }) cycle))
    (IsActing.dispatches link cause vl cycle c.dispatches) in
    (_, (c.dispatches, refl), source, inr (inr (refl, inl (omega arith))))
by_body s hs time (notes.Accepted device link cause vl cycle) m c =
    (_, refl, IsSource.arriving (amount time) device link cause (arrival_of_it c), inr (inr (refl, inl (omega arith))))
by_body s hs time (notes.Delivered device link cause vl cycle) m c =
    (_, refl, IsSource.arriving (amount time) device link cause (arrival_of_it c), inr (inr (refl, inl (omega arith))))
by_body s hs time {members} (notes.Dropped device link cause reason) m c =
    by_drop s hs (amount time) device link cause reason members c (device.0 ∷ link.0 ∷ cause ∷ [])
by_body s hs time (notes.Clock device reading adjustment state) m c =
    (_, refl, IsSource.ending time device c.is c.there c.ends, inl refl)

pub sourced : (s : Scenario) (hs : List Happening) (y : Happening) → IsDue s hs y → IsSourced s hs y
sourced s hs y due =
    let found = by_body s hs y.note.time y.note.body (ap members_in due.same) due.cause in record {
      place = found.0;
      own = found.1;
      source = found.2;
      no_later = found.3;
    }

-- ---- what a world gives next is the next record of the run

pub length_is : (s : Scenario) (ns : List Note) → length ns ≡ length (happenings s.network ns)
length_is s ns = ap length (sym (same_notes s.network ns)) ∙ length-map (happenings s.network ns) (λ h. h.note)

due_now : {s : Scenario} {hs : List Happening} {y : Happening} → IsDue s hs y → IsDueAs s (hs ++ []) y
due_now {s} {hs} {y} due =
    rw (append-nil hs) (record { same = due.same; begun = due.begun; cause = due.cause })

worked_now : {s : Scenario} {hs : List Happening} (to : List ℕ) (y : Happening) → IsWorkedOff s hs to y
    → IsWorkedOff s (hs ++ []) to y
worked_now {s} {hs} to y worked =
    rw (append-nil hs) worked

module _ {s : Scenario} {hs : List Happening} {z : Happening} {rest : List Happening} {from to : List ℕ}
    {now : ℕ} (settled : AreSettled s hs (z ∷ rest) from to now) where
  -- what stands first is before all others
  pub first_before : (other : Happening) → IsIn other rest → IsBefore (place_of z) (place_of other)
  first_before other i =
      let at = parted other rest i in
      (settled.founded (z ∷ at.0) at.1 other (ap (λ l. z ∷ l) at.2)).0 z (inl refl)

  none_under : (other : Happening) → IsIn other (z ∷ rest) → (p : List ℕ) → IsBefore p (place_of z)
      → IsBefore (place_of other) p → ⊥
  none_under other (inl e) p here under =
      never_self (place_of z) (chain (place_of z) p (place_of z)
      (rw e at under) here)
  none_under other (inr i) p here under =
      search (arith, first_before, never_self, place_of, chain)

  not_at : (other : Happening) → IsIn other (z ∷ rest) → {p : List ℕ} → p ≡ place_of other → IsBefore p (place_of z)
      → ⊥
  not_at other (inl e) at here =
      never_self (place_of z) (rw (at ∙ ap place_of e) at here)
  not_at other (inr i) at here =
      never_self (place_of z) (chain (place_of z) (place_of other) (place_of z) (first_before other i)
      (rw at at here))

  none_before : NoSourceBefore s hs to (place_of z) → NoneDueBefore place_of (IsDue s) from hs (place_of z)
  none_before none y due not here =
      let source = sourced s hs y due in
      elim (before_or_not source.place to) [
        | inl worked ↦
            let under = λ (o : Happening) (i : IsIn o (z ∷ rest)) (b : IsBefore (place_of o) (place_of y)). none_under o i
            (place_of y) here b in
            let found = settled.full [] (z ∷ rest) y refl (λ n i. absurd i) under not (due_now due)
            (worked_now to y (source.place, source.own, source.source, worked)) in
            not_at found.0 found.1 (sym found.2) here
        | inr waits ↦ none source.place source.source waits
            (source_before source.place (place_of y) (place_of z) source.no_later here)
      ]

-- the first of what is to come is the next of the run
pub first_is_next : {s : Scenario} (notes : List Note) {z : Happening} {rest : List Happening}
    {from to : List ℕ} {now : ℕ}
    → IsScenarioRun s from notes → AreSettled s (happenings s.network notes) (z ∷ rest) from to now
    → NoSourceBefore s (happenings s.network notes) to (place_of z)
    → IsScenarioRun s (behind (place_of z)) (notes ++ note_of notes z ∷ [])
first_is_next {s} notes {z} {rest} {from} run settled none =
    let hs = happenings s.network notes in
    let x = happening s.network hs (note_of notes z) in
    let first : IsDueAs s hs z = rw (append-nil hs) at (settled.founded [] rest z refl).1 in
    let place : place_of x ≡ place_of z = ap place_of (sym first.same) in
    let due : IsDue s hs x = record {
      number = rw (length_is s notes);
      same = refl;
      begun = first.begun;
      cause =
          first.cause;
    } in
    let not : IsBefore (place_of x) from → ⊥ = λ b. settled.after z (inl refl) (rw place at b) in
    let free : NoneDueBefore place_of (IsDue s) from hs (place_of x) = subst
    (NoneDueBefore place_of (IsDue s) from hs) (sym place)
    (none_before settled none) in
    subst (λ p. IsScenarioRun s (behind p) (notes ++ note_of notes z ∷ [])) place
    (run_goes_on s from notes (note_of notes z) x run refl (is_next (IsDue s) x run not due free))

pub first_settled_is_next : FirstSettledIsNext
first_settled_is_next s notes z rest frontier now run are none =
    first_is_next notes run (settled_of are) none

-- where no source that is not worked off is before a place, and nothing to come, the records given are the run up to there
pub run_to : {s : Scenario} (notes : List Note) {coming : List Happening} {from to : List ℕ} {now : ℕ} (until : List ℕ)
    → IsScenarioRun s from notes → AreSettled s (happenings s.network notes) coming from to now
    → NoSourceBefore s (happenings s.network notes) to until
    → ((z : Happening) → IsIn z coming → IsBefore (place_of z) until → ⊥)
    → ((p : List ℕ) → IsBefore p from → IsBefore p until) → IsScenarioRun s until notes
run_to {s} notes {coming} {from} {to} until run settled none after up_to =
    let hs = happenings s.network notes in
    let free : NoneDueBefore place_of (IsDue s) from hs until = λ y due not here.
    let source = sourced s hs y due in
    let worked : IsBefore source.place to = elim (before_or_not source.place to) [
      | inl yet ↦ yet
      | inr waits ↦
          absurd (none source.place source.source waits
          (source_before source.place (place_of y) until source.no_later here))
    ] in
    let found = settled.full [] coming y refl (λ n i. absurd i)
    (λ o i b. after o i (chain (place_of o) (place_of y) until b here)) not (due_now due)
    (worked_now to y (source.place, source.own, source.source, worked)) in
    after found.0 found.1 (rw found.2 here) in
    move_mark (IsDue s) run (λ n i. up_to (place_of n) (run.within n i))
    (none_due place_of (IsDue s) from hs until run.within free)

pub nothing_settled_is_all : NothingSettledIsAll
nothing_settled_is_all s notes frontier now until run are within none =
    run_to notes (until ∷ []) run (settled_of are) none (λ z i. absurd i) within

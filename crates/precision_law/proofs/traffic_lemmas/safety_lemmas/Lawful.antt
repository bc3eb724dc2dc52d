-- Networks under admitted events are lawful: their clocks, the times of events, and runs up to a time.
use Rattle.std.{specs.List.{All, Sorted.IsNonDecreasingBy, cons_option}}
use Rattle.std.proofs.{lemmas.{Int.ints, List.{Elements.{All-cons, All-head, All-nil, All-tail}, map-append}}}
use Rattle.std.proofs.Common
use Common.{◌*◌, ◌++◌, ◌+◌, ◌-◌, ◌<ℤ◌, ◌<◌, ◌^◌, ◌∙◌, ◌∷◌, ◌≡◌, ◌≤ℤ◌, ◌≤◌, List, None, Option, Some, [], ap}
use Common.{append_assoc, arith, fold, inl, inr, length, negsuc, pos, refl, subst, suc, sym, unsigned_abs, zero, ℕ, ℤ}
use Rattle.drift_clock.specs.{ClockLaws.{AlwaysBeginsAtZero, AlwaysKeepsClockLaws}, RateSteps.{IsHistory, RateStep}}
use Rattle.net_plan.specs.{Belonging.IsOfNetwork}
use Rattle.net_plan.specs.declared.{event.{Event.Event, What.{TheVariants.End, What}}}
use Rattle.net_plan.specs.declared.{ids.{DeviceId.DeviceId, LinkId.LinkId, VlId.VlId}, network.Network.Network}
use Rattle.net_plan.specs.declared.{tables.VirtualLink.VirtualLink}
use Rattle.precision_law.proofs.{law.Whole.{ends_come_in, time_kept}, records.Times.cut_run}
use Rattle.precision_law.proofs.{traffic_lemmas.Safe.all_are_safe}
use Rattle.precision_law.specs.{Progress.ComesIn}
use Rattle.precision_law.specs.traffic.{Ports.IsRunTo}
use Rattle.precision_law.specs.traffic.safety.{Headline.{GoesWell, IsEventOf, IsSafeFront, TimeStays}}
use Rattle.precision_law.specs.traffic.safety.{Under.{IsUnder, last_time, reading_of, scenario_of}}
use Rattle.precision_law.specs.traffic.safety.Laws
use Laws.{EndedRunsAreSafe, FrontRunsAreSafe, OwnRunsAreSafe, RunsSoFarAreSafe}
use Rattle.run_law.proofs.{law.FirstDeliveries.{IsSplit, split}}
use Rattle.run_law.proofs.{records.{Order.{contained, soon}, Told.{note_in, notes_of, told}}}
use Rattle.run_law.proofs.{scenario.Devices.{Holds, IsSlow, IsStepAt, in_turn, slow_event, slow_what, step_is}}
use Rattle.run_law.proofs.{runs.{NetworkRuns.same_notes, Places.{before_of_time, in_left, in_right, parted}}}
use Rattle.run_law.specs.{declared.{note.{Note.Note, NoteBody.NoteBody}, outside.Outside.TheVariants.Late}}
use Rattle.run_law.specs.{law.{FirstLaws.{IsEventInRange, IsLawful}, Safety.{ClocksAgree, IsOwed, IsSafe}}}
use Rattle.run_law.specs.{runs.{DueRecords.{EndsAt, IsDue, IsRunOf, IsScenarioRun}, Runs.IsRun}}
use Rattle.run_law.specs.records.{Happenings.{Happening, happenings, time_of}, Order.{IsBefore, IsIn}}
use Rattle.run_law.specs.records.{Ranks.{key, members_in, place_of, rank}}
use Rattle.run_law.specs.scenario.{Faults.Cuts, Hypothesis.{AreWithinHypothesis, IsWithinHypothesis}}
use Rattle.run_law.specs.scenario.{Rates.{rate_steps, step_by}, Scenarios.Scenario}
use Rattle.tte_units.{proofs.Amounts.units_are}
use Rattle.tte_units.{specs.{Amount.{amount, units_of}, declared.{rates.Ppb.Ppb, units.Units.Units}}}
use Rattle.net_plan.specs.declared.event.What.TheVariants as events
use Rattle.run_law.specs.declared.note.NoteBody.TheVariants as notes

-- ---- a lawful run that goes just as far as a time goes well up to there, and up to each earlier time

module _ {s : Scenario} (ns : List Note) (until : ℕ) (lawful : IsLawful s)
    (short : until ≤ 2 ^ 20 * amount s.network.cycle) (run : IsScenarioRun s ((until + 1) ∷ []) ns) where
  run_to : IsRunTo s ((until + 1) ∷ []) ns until
  run_to = grind (arith, soon)

  -- a lawful run goes well
  pub goes_well : GoesWell s (happenings s.network ns) until
  goes_well =
      let it = run_to in
      record {
        safe = all_are_safe s ((until + 1) ∷ []) ns until it;
        time = time_kept s ((until + 1) ∷ []) ns until it.up;
        comes = ends_come_in s ((until + 1) ∷ []) ns until it.up;
      }

-- ---- an earlier time

owed_later : {s : Scenario} {hs : List Happening} {u : ℕ} (t : ℕ) {vl : VlId} {of_vl : VirtualLink} {cycle : ℕ}
    {device : DeviceId} → u ≤ t → IsOwed s hs u vl of_vl cycle device → IsOwed s hs t vl of_vl cycle device
owed_later t le o = grind arith

agree_earlier : {s : Scenario} {hs : List Happening} (u : ℕ) {t : ℕ} → u ≤ t → ClocksAgree s hs t → ClocksAgree s hs u
agree_earlier u le agree = grind arith

safe_earlier : {s : Scenario} {hs : List Happening} (u : ℕ) {t : ℕ} → u ≤ t → IsSafe s hs t → IsSafe s hs u
safe_earlier u le safe = grind (arith, agree_earlier, owed_later)

stays_earlier : (s : Scenario) (hs : List Happening) (u t : ℕ) → u ≤ t → TimeStays s hs t → TimeStays s hs u
stays_earlier s hs u t le stays h device state cause why there early is clique =
    stays h device state cause why there (omega arith) is clique

comes_earlier : (wait : ℕ) (s : Scenario) (hs : List Happening) (u t : ℕ) → u ≤ t → ComesIn wait s hs t → ComesIn wait s hs u
comes_earlier wait s hs u t le comes device from x end on long early good =
    comes device from x end on long (omega arith) good

pub well_earlier : {s : Scenario} {hs : List Happening} (u : ℕ) {t : ℕ} → u ≤ t → GoesWell s hs t → GoesWell s hs u
well_earlier {s} {hs} u {t} le well = record {
  safe = safe_earlier u le well.safe;
  time = stays_earlier s hs u t le well.time;
  comes = comes_earlier (3 * amount s.network.cycle) s hs u t le well.comes;
}

-- ---- the run up to behind the events of a time is one that goes just up to before the time, and then records of events

-- ---- what is behind the front

-- a record of the lowest rank is that of an event
lowest : (body : NoteBody) → rank body < 2 → (line : ℕ) × (what : What) × (body ≡ notes.Event line what)
lowest (notes.Event line what) lt = (line, what, refl)
lowest other lt = absurd (omega arith)

-- a place that is not before a time, but before the place behind its events, is of this time and of the lowest rank
between : (at kind time : ℕ) (rest : List ℕ) → (IsBefore (at ∷ kind ∷ rest) (time ∷ []) → ⊥) → IsBefore (at ∷ kind ∷ rest) (time ∷ 2 ∷ [])
    → (at ≡ time) × (kind < 2)
between at kind time rest not (inl lt) = absurd (not (inl lt))
between at kind time rest not (inr (same, inl lt)) = (same, lt)
between at kind time rest not (inr (same, inr none)) = absurd none.1

event_of : (s : Scenario) {hs : List Happening} (time : ℕ) (at : IsSplit place_of hs (time ∷ []))
    → IsRun place_of (IsDue s) (time ∷ 2 ∷ []) hs → (h : Happening) → IsIn h at.rest → IsEventOf time h.note
event_of s {hs} time at run h i =
    let there : IsIn h hs = subst (IsIn h) (sym at.whole) (in_right h at.front at.rest i) in
    let parts = parted h hs there in
    let due = (run.founded parts.0 parts.1 h parts.2).1 in
    let place = between (time_of h) (rank h.note.body) time (key (members_in h) h.note.body) (at.none h i) (run.within h there) in
    let event = lowest h.note.body place.1 in
    record { line = event.0; what = event.1; is = event.2; at = units_are h.note.time time due.begun place.0 }

-- ---- the front

-- a run up to before a time goes well up to each earlier time
pub goes_well_before : {s : Scenario} (ns : List Note) (time : ℕ) → IsLawful s
    → time ≤ 2 ^ 20 * amount s.network.cycle + 1 → IsScenarioRun s (time ∷ []) ns → (until : ℕ) → until < time
    → GoesWell s (happenings s.network ns) until
goes_well_before {s} ns time lawful short run until early =
    let next : time ≡ (time - 1) + 1 = omega arith in
    let well = goes_well ns (time - 1) lawful (omega arith)
    (rw next at run) in
    well_earlier until (omega arith) well

-- the records before the time, and those behind
pub record IsParted (s : Scenario) (time : ℕ) (ns : List Note) : Type 0 where
  pub front : List Note
  pub rest : List Note
  pub parts : ns ≡ front ++ rest
  pub run : IsScenarioRun s (time ∷ []) front
  pub only_events : (note : Note) → IsIn note rest → IsEventOf time note

pub part : (s : Scenario) (time : ℕ) (ns : List Note) → IsScenarioRun s (time ∷ 2 ∷ []) ns → IsParted s time ns
part s time ns run =
    let hs = happenings s.network ns in
    let at = split place_of (IsDue s) hs (time ∷ []) run.founded in
    let cut = cut_run (IsDue
    s) at (λ q before. before_of_time q time (2 ∷ []) before)
    run in
    record {
      front = notes_of at.front;
      rest = notes_of at.rest;
      parts = sym (same_notes s.network ns) ∙ ap notes_of at.whole ∙ map-append (λ h. h.note) at.front at.rest;
      run = subst (IsRun place_of (IsDue s) (time ∷ [])) (sym (told s at.front cut.founded)) cut;
      only_events = λ note i. let it = note_in at.rest note i in subst (IsEventOf time) (sym it.2)
          (event_of s time at run it.0 it.1);
    }

-- ---- the rates that events within the hypothesis set are a history of a clock

pub slow_rate : (network : Network) (before : List Event) (event : Event) (device : DeviceId) (rate : Ppb) → IsWithinHypothesis network before event
    → event.what ≡ events.Rate device rate → unsigned_abs rate.0 ≤ network.rho
slow_rate network before event device rate within same = slow_what network before event (events.Rate device rate) same within

-- ---- the events in their order

-- each is not before the one before it, and each rate is slow
abbrev AreSlowInOrder : ℕ → ℕ → List Event → Type 0
AreSlowInOrder rho least [] = Unit {0}
AreSlowInOrder rho least (e ∷ es) = (least ≤ amount e.time) × IsSlow rho e.what × AreSlowInOrder rho (amount e.time) es

in_order_behind : (network : Network) (all front rest : List Event) (last : Event) → all ≡ (front ++ last ∷ []) ++ rest → AreWithinHypothesis network all
    → ((e : Event) → IsIn e all → pos 0 ≤ℤ e.time.0) → AreSlowInOrder network.rho (amount last.time) rest
in_order_behind network all front [] last same within begun = tt
in_order_behind network all front (e ∷ rest) last same within begun =
    let here = within (front ++ last ∷ []) rest e same in
    let at_last = begun last (subst (IsIn last) (sym same) (in_left last (front ++ last ∷ []) (e ∷ rest)
    (in_right last front (last ∷ []) (inl refl)))) in
    let at_e = begun e (subst (IsIn e) (sym same) (in_right e (front ++ last ∷ []) (e ∷ rest) (inl refl))) in (
      in_turn network front last e here at_last at_e,
      slow_event network (front ++ last ∷ []) e here,
      in_order_behind network all (front ++ last ∷ []) rest e (same ∙ sym (append_assoc (front ++ last ∷ []) (e ∷ []) rest)) within begun,
    )

in_order : (network : Network) (all : List Event) → AreWithinHypothesis network all → ((e : Event) → IsIn e all → pos 0 ≤ℤ e.time.0)
    → AreSlowInOrder network.rho 0 all
in_order network [] within begun = tt
in_order network (e ∷ es) within begun = (
  omega arith,
  slow_event network [] e (within [] es e refl),
  in_order_behind network (e ∷ es) [] es e refl within begun,
)

-- ---- their steps

sorted_more : (x : RateStep) (xs : List RateStep) → All (λ y. x.at ≤ y.at) xs → IsNonDecreasingBy (λ s. s.at) xs → IsNonDecreasingBy (λ s. s.at) (x ∷ xs)
sorted_more x xs least sorted zero zero d le lt = omega arith
sorted_more x xs least sorted zero (suc j) d le lt = least j d (omega arith)
sorted_more x xs least sorted (suc i) zero d le lt = absurd (omega arith)
sorted_more x xs least sorted (suc i) (suc j) d le lt = sorted i j d (omega arith) (omega arith)

-- steps from a time on
record IsHistoryFrom (rho least : ℕ) (steps : List RateStep) : Type 0 where
  pub sorted : IsNonDecreasingBy (λ s. s.at) steps
  pub later : All (λ s. least ≤ s.at) steps
  pub slow : All (λ s. unsigned_abs s.rate ≤ rho) steps

no_steps : (rho least : ℕ) → IsHistoryFrom rho least []
no_steps rho least =
    record { sorted = λ i j d le lt. absurd (omega arith); later = All-nil (λ s. least ≤ s.at); slow = All-nil (λ s. unsigned_abs s.rate ≤ rho) }

later_all : (least more : ℕ) (steps : List RateStep) → least ≤ more → All (λ s. more ≤ s.at) steps → All (λ s. least ≤ s.at) steps
later_all least more steps le all k d lt = let here = all k d lt in omega arith

more_steps : (rho least time : ℕ) (o : Option RateStep) (steps : List RateStep) → least ≤ time → Holds o (IsStepAt rho time) → IsHistoryFrom rho time steps
    → IsHistoryFrom rho least (cons_option o steps)
more_steps rho least time None steps le here h = record { sorted = h.sorted; later = later_all least time steps le h.later; slow = h.slow }
more_steps rho least time (Some step) steps le here h = grind (arith, sorted_more, later_all, All-cons, unsigned_abs)

history_from : (rho least : ℕ) (all : List Event) (device : DeviceId) → AreSlowInOrder rho least all → IsHistoryFrom rho least (rate_steps all device)
history_from rho least [] device order = no_steps rho least
history_from rho least (e ∷ all) device order =
    more_steps rho least (amount e.time) (step_by device (amount e.time) e.what) (rate_steps all device) order.0
    (step_is rho device (amount e.time) e.what order.1) (history_from rho (amount e.time) all device order.2)

-- the rates of a device's clock are a history
pub history : (network : Network) (all : List Event) (device : DeviceId) → AreWithinHypothesis network all
    → ((e : Event) → IsIn e all → pos 0 ≤ℤ e.time.0) → IsHistory network.rho (rate_steps all device)
history network all device within begun =
    let h = history_from network.rho 0 all device (in_order network all within begun) in record { in_order = h.sorted; within = h.slow }

-- ---- a network under admitted events, where each device has a clock that keeps the clock laws, is lawful

each_in : {X : Type 0} (P : X → Type 0) (xs : List X) → All P xs → (x : X) → IsIn x xs → P x
each_in P [] all x i = absurd i
each_in P (y ∷ xs) all x (inl e) = subst P (sym e) (All-head P y xs all)
each_in P (y ∷ xs) all x (inr i) = each_in P xs (All-tail P y xs all) x i

-- no event comes before time 0
pub begun : (network : Network) (events : List Event) → IsUnder network events → (event : Event) → IsIn event events → pos 0 ≤ℤ event.time.0
begun network events under event i = (each_in IsEventInRange events under.times event i).time

-- a cut names a link of the network
names_link : (network : Network) (events : List Event) → All (λ e. IsOfNetwork network e.what) events → (event : Event) (link : LinkId)
    → IsIn event events → Cuts link event → link.0 < length network.link
names_link network events all event link i cuts = subst (IsOfNetwork network) cuts.1
    (each_in (λ e. IsOfNetwork network e.what) events all event i)

pub lawful : {C : Type 0} (fresh : ℕ → C) (after_step : C → ℕ → ℤ → C) (reading : C → ℕ → ℕ)
    → AlwaysKeepsClockLaws fresh after_step reading → AlwaysBeginsAtZero fresh after_step reading
    → {network : Network} {events : List Event} → IsUnder network events
    → IsLawful (scenario_of fresh after_step reading network events)
lawful fresh after_step reading laws zero_first {network} {events} under =
    let least = under.range.grain.least in
    let some : 1 ≤ amount network.grain = omega (arith, ints) in
    record {
      range = under.range;
      rules = under.rules;
      events = under.times;
      named = names_link network events under.of_network;
      within = under.within;
      clocks =
          λ device. laws network.rho (amount network.grain) (rate_steps events device) under.range.rho some
          (history network events device under.within (begun network events under));
      begins = λ device. zero_first (amount network.grain) (rate_steps events device);
    }

-- ---- events within the hypothesis come in the first 2^20 cycles

not_late : (z : ℤ) (n : ℕ) → pos 0 ≤ℤ z → (pos n <ℤ z → ⊥) → unsigned_abs z ≤ n
not_late (pos m) n begun not = grind (arith, ints)
not_late (negsuc m) n begun not = absurd (omega (arith, ints, begun))

module _ {network : Network} {events : List Event} (under : IsUnder network events) where
  in_time : (event : Event) → IsIn event events → amount event.time ≤ 2 ^ 20 * amount network.cycle
  in_time event i =
      let parts = parted event events i in
      not_late event.time.0 (2 ^ 20 * amount network.cycle) (begun network events under event i)
      (λ late. under.within parts.0 parts.1 event parts.2 Late late)

  -- the end does
  pub end_in_time : (end : Units) → EndsAt events end → amount end ≤ 2 ^ 20 * amount network.cycle
  end_in_time end ends =
      let event : Event = record { time = end; what = End } in in_time event (contained events event ends)

last_within : (most : ℕ) (time : Units) (events : List Event) → amount time ≤ most → ((event : Event) → IsIn event events → amount event.time ≤ most)
    → amount (fold (λ before event. event.time) time events) ≤ most
last_within most time [] first all = first
last_within most time (e ∷ events) first all = last_within most e.time events (all e (inl refl)) (λ event i. all event (inr i))

-- the last event does
pub last_in_time : {network : Network} {events : List Event} → IsUnder network events
    → amount (last_time events) ≤ 2 ^ 20 * amount network.cycle
last_in_time {network} {events} under =
    last_within (2 ^ 20 * amount network.cycle) (units_of 0) events (omega arith) (in_time under)

-- ---- the laws, for clocks that keep the clock laws

module _ {C : Type 0} (fresh : ℕ → C) (after_step : C → ℕ → ℤ → C) (reading : C → ℕ → ℕ)
    (laws : AlwaysKeepsClockLaws fresh after_step reading)
    (zero_first : AlwaysBeginsAtZero fresh after_step reading) where
  pub own : OwnRunsAreSafe fresh after_step reading
  own network events time written under short run =
      goes_well written time (lawful fresh after_step reading laws zero_first under) short run

  pub front : FrontRunsAreSafe fresh after_step reading
  front network events time written under short run =
      let s = scenario_of fresh after_step reading network events in
      let parted = part s time written run in
      record {
        front = parted.front;
        rest = parted.rest;
        parts = parted.parts;
        run = parted.run;
        well = goes_well_before parted.front time (lawful fresh after_step reading laws zero_first under)
            (omega arith) parted.run;
        only_events = parted.only_events;
      }

  -- a run up to before a time goes well up to there
  pub before : {network : Network} {events : List Event} (time : ℕ) (written : List Note) → IsUnder network events
      → IsRunOf network (reading_of fresh after_step reading network events) events (time ∷ []) written
      → IsSafeFront fresh after_step reading network events time written
  before time written under run = record {
    run = run;
    well = λ short.
        goes_well_before written time (lawful fresh after_step reading laws zero_first under) short run;
  }

  pub ended : EndedRunsAreSafe fresh after_step reading
  ended network events end written under ends run = record {
    end = end;
    ends = ends;
    run = run;
    well = own network events (amount end) written under (end_in_time under end ends) run;
  }

  pub so_far : RunsSoFarAreSafe fresh after_step reading
  so_far network events written under run =
      front network events (amount (last_time events)) written under (last_in_time under) run

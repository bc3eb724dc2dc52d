-- What the observer of `stamp` puts along the run, line by line, and so what its answers begin with.
use Rattle.std.{proofs.Common.{Err, Ok, Result}, specs.Prelude.{IfErr, MatchResult}}
use Rattle.drift_world.specs.Running.{behind_events}
use Rattle.run_law.proofs.{runs.{NetworkRuns.run_is_one, Places.{in_left, in_right}}, scenario.Devices.within_front}
use Rattle.tte_observers.proofs.stamps_lemmas.LineStamps
use LineStamps.{AreUpToLast, MayFollow, admitted_follow, admitted_up_to_last, begun, hypothesis_up_to_last, last_grows}
use LineStamps.{stamps_stay}
use Rattle.tte_forms.{proofs.Puts.{PutFails-behind, PutsLines-append}, specs.Putting.PutFails}
use Rattle.tte_io.specs.declared.ends.Sink.{Ghosts}
use Rattle.tte_observers.{specs.stamps.Stamping.{PutsAll, PutsStamps, StopsStamps}}
use Rattle.tte_observers.proofs.stamps_lemmas.{SameRecords.{IsUpTo, up_to_mark}}
use Rattle.tte_observers.proofs.stamps_lemmas.Words
use Words.{◌++◌, ◌+◌, ◌∙◌, ◌∷◌, ◌≡◌, ◌≤ℤ◌, ◌≤◌, Answer, AreAdmitted, AreFrom, AreRecordsBefore, AreRecordsSoFar, Event}
use Words.{ExactWorld, IsIn, IsTraceAnswer, List, Network, None, Note, Option, PutsLines, PutsLines-none, Some, []}
use Words.{admitted_in_order, amount, ap, append-nil, append_assoc, arith, clock_reading, inl, inr, last_time, length}
use Words.{line_at, line_stamps, pos, refl, shown_as, stamp_lines, stamps_behind, subst, suc, sym, told_by, zero, ℕ}
use Rattle.tte_traces.{proofs.{Admitted.{admitted_one, events_admitted}, Answers.{AnswersEither, answer_stops}}}
use Rattle.tte_traces.{specs.{Along.{BeginWith, IsFrontOf, IsShortAt, PutsAlong}, FaultLine.fault_lines}}
use Rattle.world_drive.{proofs.{Earlier.records_none, exact_lemmas.Events.{last_is, last_or_none}}}
use Rattle.world_drive.specs.{Observing.{Befell, Sees, Stops, Told}}
use Rattle.world_drive.specs.{declared.observing.Cut.{Cut, TheVariants.{OutOfMemory, WriteFault}}}
use Rattle.world_drive.specs.{exact.Records.AreAllRecords}

-- ---- each answer of `stamp` begins with the stamps of the lines that were taken

module _ (granule : ℕ) (network : Network) (octets : List ℕ) (events : List Event) (notes : List Note) (run : AreRecordsSoFar network events notes) where
  -- those of further events behind them
  stay : (more : List Event) (others : List Note) (mark : List ℕ) → AreAdmitted network octets (events ++ more)
      → IsUpTo (amount (last_time (events ++ more))) mark → AreRecordsBefore network (events ++ more) mark others → AreAdmitted network octets events
      → stamp_lines granule network (events ++ more) others ≡ stamp_lines granule network events notes ++ stamps_behind granule network others events more
  stay more others mark all up whole own =
      stamps_stay granule network events more notes others (admitted_up_to_last network octets events own)
      (admitted_follow network octets events more all) run whole
      (λ p before. up p (up_to_mark (amount (last_time events)) (amount (last_time (events ++ more))) [] (last_grows network octets events more all) p before))

  -- an answer of these and further events
  begins : (more : List Event) (a : Answer) → AreAdmitted network octets events → AreAdmitted network octets (events ++ more)
      → AnswersEither (stamp_lines granule) network octets (events ++ more) a → BeginWith a.lines (stamp_lines granule network events notes)
  begins more a own all (inl w) =
      let last = (admitted_in_order network octets (events ++ more) all).last w.records.0 w.records.1 in
      let up : IsUpTo (amount (last_time (events ++ more))) ((amount w.records.0 + 1) ∷ []) =
      up_to_mark (amount (last_time (events ++ more))) (amount w.records.0 + 1) []
      (subst (λ t. amount (last_time (events ++ more)) ≤ amount t + 1) (sym last) (omega arith)) in (
        stamps_behind granule network w.notes events more,
        ap (λ (b : Answer). b.lines) w.answer ∙ stay more w.notes ((amount w.records.0 + 1) ∷ []) all up w.records.2 own,
      )
  begins more a own all (inr f) =
      let last = amount (last_time (events ++ more)) in
      let up : IsUpTo last (last ∷ 2 ∷ []) = up_to_mark last last (2 ∷ []) (omega arith) in
      let rest = stamps_behind granule network f.notes events more in
      let fault = fault_lines (length (events ++ more) + 1) f.fault in (
        rest ++ fault,
        ap (λ (b : Answer). b.lines) f.answer ∙ ap (λ (ls : List (List ℕ)). ls ++ fault) (stay more f.notes (last ∷ 2 ∷ []) all up f.records own)
            ∙ append_assoc (stamp_lines granule network events notes) rest fault,
      )

  pub stamps_begin : AreAdmitted network octets events
      → IsFrontOf (IsTraceAnswer (stamp_lines granule) octets network) (stamp_lines granule network events notes)
  stamps_begin own a i =
      let stop = answer_stops (stamp_lines granule) network octets i.events a i.is in
      let more = admitted_one network octets events i.events own i.admitted stop in
      begins more.0 a own (subst (AreAdmitted network octets) more.1 i.admitted)
      (subst (λ es. AnswersEither (stamp_lines granule) network octets es a) more.1 i.is)

-- ---- the observer of `stamp` puts its lines along the run: an observer whose granule is given by it

module _ {O : Type 0} (granule_of : O → ℕ) where
  abbrev pub stamp_sees : Sees O
  stamp_sees network events notes instant old put it =
      (granule_of it ≡ granule_of old.observer) × PutsStamps (granule_of old.observer) network events old.told put

  abbrev pub stamp_stops : Stops O
  stamp_stops network events notes cut old put = StopsStamps (granule_of old.observer) network events cut old.told put

-- ---- what it has put

so_far : {granule : ℕ} {network : Network} {events : List Event} (notes : List Note) {old put : Told}
    → AreRecordsSoFar network events notes → PutsStamps granule network events old put
    → PutsLines (stamp_lines granule network events notes) (shown_as old) (shown_as put)
so_far {granule} {network} {events} notes {old} {put} run p =
    let same = run_is_one network (clock_reading network events) events (behind_events (amount (last_time events))) p.notes notes p.records run in
    subst (λ ns. PutsLines (stamp_lines granule network events ns) (shown_as old) (shown_as put)) same p.puts

-- by the end
all_put : {granule : ℕ} {network : Network} (octets : List ℕ) {events : List Event} (notes : List Note)
    {old put : Told} → AreAdmitted network octets events → AreAllRecords network events notes
    → PutsStamps granule network events old put → PutsLines (stamp_lines granule network events notes) (shown_as old)
    (shown_as put)
all_put {granule} {network} octets {events} notes {old} {put} all records p =
    let t = amount (last_time events) in
    let last = (admitted_in_order network octets events all).last records.0 records.1 in
    let le : t ≤ amount records.0 + 1 = subst (λ u. t ≤ amount u + 1) (sym last) (omega arith) in
    let mark = (amount records.0 + 1) ∷ [] in
    let run = subst (λ es. AreRecordsBefore network es mark notes) (sym (append-nil events)) records.2 in
    let stay = stamps_stay granule network events [] p.notes notes (admitted_up_to_last network octets events all)
    (tt {0}) p.records run
    (up_to_mark t (amount records.0 + 1) [] le) in
    let same : stamp_lines granule network events notes ≡ stamp_lines granule network events p.notes =
    ap (λ es. stamp_lines granule network es notes) (sym (append-nil events)) ∙ stay ∙ append-nil (stamp_lines granule network events p.notes) in
    subst (λ ls. PutsLines ls (shown_as old) (shown_as put)) (sym same) p.puts

-- the events that befell where a drive was cut short are admitted
admitted_short : (network : Network) (octets : List ℕ) (events : List Event) (next : Option Event) (befallen : List Event) (notes : List Note)
    → IsShortAt network octets events next befallen notes → AreAdmitted network octets befallen
admitted_short network octets events (Some event) befallen notes at = elim at.1 [
  | inl way ↦ subst (AreAdmitted network octets) (sym way.0) (events_admitted network octets events (event ∷ []) at.0)
  | inr own ↦ subst (AreAdmitted network octets) (sym own.0) at.0
]
admitted_short network octets events None befallen notes at = subst (AreAdmitted network octets) (sym at.1) at.0.admitted

pub stamps_along : {O : Type 0} (granule_of : O → ℕ) (begun : O)
    → PutsAlong begun (stamp_sees granule_of) (stamp_stops granule_of) (stamp_lines (granule_of begun)) (IsTraceAnswer (stamp_lines (granule_of begun)))
stamps_along granule_of begun = record {
  at_first = λ network. refl;
  so_far = λ network events notes old put o run seen. so_far notes run seen.1;
  all = λ network octets events notes old put o admitted records seen.
      all_put octets notes admitted records seen.1;
  front = λ network octets events notes admitted run. stamps_begin (granule_of begun) network octets events notes run admitted;
  short = λ network octets events next befallen notes cut old put at stops. (
    stamp_lines (granule_of begun) network befallen stops.notes,
    stops.stops,
    stamps_begin (granule_of begun) network octets befallen stops.notes stops.records (admitted_short network octets events next befallen notes at),
  );
}

-- ---- what the observer of `stamp` has put, and what it puts at one more line: at first

pub first_stamps : (granule : ℕ) (network : Network) (told : Told) → PutsStamps granule network [] told told
first_stamps granule network told = record { notes = []; records = records_none network; puts = PutsLines-none (shown_as told) }

-- ---- one more line

module _ (granule : ℕ) (network : Network) (world : ExactWorld) (events : List Event) (notes : List Note) (event : Event) (note : Note)
    (befell : Befell network world events notes event note) where
  from_zero : (e : Event) → IsIn e (events ++ event ∷ []) → pos 0 ≤ℤ e.time.0
  from_zero e i = begun (events ++ event ∷ []) befell.stands.times e i

  up_to_it : AreUpToLast (events ++ event ∷ [])
  up_to_it = hypothesis_up_to_last network (events ++ event ∷ []) befell.stands.within from_zero

  last_is_it : amount (last_time (events ++ event ∷ [])) ≡ amount event.time
  last_is_it = ap amount (last_is events event)

  -- the event is not earlier than those before it
  not_earlier : (e : Event) → IsIn e events → amount e.time ≤ amount event.time
  not_earlier e i = subst (λ t. amount e.time ≤ t) last_is_it (up_to_it e (in_left e events (event ∷ []) i))

  not_before_last : amount (last_time events) ≤ amount event.time
  not_before_last = elim (last_or_none events) [
    | inl none ↦ subst (λ es. amount (last_time es) ≤ amount event.time) (sym none) (omega arith)
    | inr some ↦
        let there : IsIn some.1 events = subst (IsIn some.1) (sym some.2) (in_right some.1 some.0 (some.1 ∷ []) (inl refl)) in
        let time = ap (λ es. amount (last_time es)) some.2 ∙ ap amount (last_is some.0 some.1) in
        subst (λ t. t ≤ amount event.time) (sym time) (not_earlier some.1 there)
  ]

  only : AreFrom (amount event.time) (event ∷ [])
  only zero e is = let same : event ≡ e = cc in subst (λ (d : Event). amount event.time ≤ amount d.time) same (omega arith)
  only (suc k) e is = absurd cc

  -- the stamps with those of one more line
  pub one_line_more : (others : List Note) → AreRecordsSoFar network events others → stamp_lines granule network (events ++ event ∷ []) (notes ++ note ∷ [])
      ≡ stamp_lines granule network events others ++ line_stamps granule network (line_at network events event (notes ++ note ∷ []))
  one_line_more others run =
      let follows : MayFollow events event [] = record { from = only; unended = befell.may.unended; order = not_before_last } in
      let last = amount (last_time (events ++ event ∷ [])) in
      let up_to : AreUpToLast events = hypothesis_up_to_last network events (within_front network events (event ∷ []) befell.stands.within)
      (λ e i. from_zero e (in_left e events (event ∷ []) i)) in
      let le : amount (last_time events) ≤ last = subst (λ t. amount (last_time events) ≤ t) (sym last_is_it) not_before_last in
      let one = line_stamps granule network (line_at network events event (notes ++ note ∷ [])) in
      stamps_stay granule network events (event ∷ []) others (notes ++ note ∷ []) up_to follows run befell.so_far
      (up_to_mark (amount (last_time events)) last (2 ∷ []) le)
      ∙ ap (λ (ls : List (List ℕ)). stamp_lines granule network events others ++ ls) (append-nil one)

  -- they were put, or the put of one of them failed
  pub stamps_go : {T K : Type 0} (sink : Ghosts K) (r : Result T Cut) (old : Told) (now new : K) → PutsStamps granule network events old (told_by sink now)
      → PutsAll sink r (line_stamps granule network (line_at network events event (notes ++ note ∷ []))) now new → IfErr r (λ cut. cut ≡ WriteFault)
      → MatchResult r (λ _. PutsStamps granule network (events ++ event ∷ []) old (told_by sink new))
      (λ cut. StopsStamps granule network (events ++ event ∷ []) cut old (told_by sink new))
  stamps_go sink (Ok x) old now new p puts cut = record {
    notes = notes ++ note ∷ [];
    records = befell.so_far;
    puts = subst (λ ls. PutsLines ls (shown_as old) (shown_as (told_by sink new))) (sym (one_line_more p.notes p.records))
        (PutsLines-append p.puts puts);
  }
  stamps_go sink (Err OutOfMemory) old now new p puts cut = absurd (let is : ◌≡◌ {A = Cut} OutOfMemory WriteFault = cut in cc)
  stamps_go sink (Err WriteFault) old now new p puts cut = record {
    notes = notes ++ note ∷ [];
    records = befell.so_far;
    stops = inl (subst (λ ls. PutFails ls (shown_as old) (shown_as (told_by sink new))) (sym (one_line_more p.notes p.records))
        (PutFails-behind (line_stamps granule network (line_at network events event (notes ++ note ∷ []))) (shown_as (told_by sink new)) p.puts puts));
  }

-- and the granule is the first one still
pub seen_go : {T K : Type 0} (sink : Ghosts K) (r : Result T Cut) (granule own : ℕ) (network : Network) (events : List Event) (old : Told) (new : K)
    → own ≡ granule
    → MatchResult r (λ _. PutsStamps granule network events old (told_by sink new)) (λ cut. StopsStamps granule network events cut old (told_by sink new))
    → MatchResult r (λ _. (own ≡ granule) × PutsStamps granule network events old (told_by sink new))
    (λ cut. StopsStamps granule network events cut old (told_by sink new))
seen_go sink (Ok x) granule own network events old new same p = (same, p)
seen_go sink (Err e) granule own network events old new same p = p

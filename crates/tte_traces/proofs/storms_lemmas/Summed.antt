-- The summary of a storm's run: the spread of corrections it has seen, and that it is one and safe.
use Rattle.std.{specs.{Io.KnownBytes.Appends, List.list_any, Prelude.{if◌then◌else◌, filter, nat_le, slice_get}}}
use Rattle.std.proofs.{lemmas.{Bool.{cases_eq, lt-leb}, Int.{by_lt_z, ints}, List.{Elements.filter-append, append-nil}}}
use Rattle.std.proofs.Common
use Common.{◌++◌, ◌+ℤ◌, ◌+◌, ◌-ℤ◌, ◌<◌, ◌^◌, ◌∙◌, ◌∷◌, ◌≡◌, ◌≤ℤ◌, ◌≤◌, ◌⊎◌, Bool, List, None, Option, Some, [], ap}
use Common.{append_assoc, arith, false, inl, inr, length, length-append, negsuc, pos, refl, subst, suc, sym, true}
use Common.{unsigned_abs, zero, ℕ, ℤ}
use Rattle.drift_clock.{proofs.ExactSegments.{exact_begins, exact_laws, exact_steps}}
use Rattle.drift_clock.{specs.Segment.{fresh_segment, segment_count, segment_reading, stepped_segment}}
use Rattle.drift_world.proofs.Agreements.{reads_same}
use Rattle.fault_hypothesis.{proofs.storm_lemmas.{OneStorm.one_storm, Storms.storms_within}, specs.storm.Events.IsStorm}
use Rattle.precision_law.proofs.traffic_lemmas.existence_lemmas.decisions.Places.{is_synchronised}
use Rattle.net_plan.specs.{Belonging.HasDevice, Ranges.IsInRange}
use Rattle.net_plan.specs.{declared.{event.Event.Event, ids.DeviceId.DeviceId, network.Network.Network}}
use Rattle.precision_law.{specs.traffic.safety.{Headline.IsWholeRun, Under.IsUnder}}
use Rattle.precision_law.proofs.traffic_lemmas.{safety_lemmas.Lawful.ended}
use Rattle.run_law.proofs.{runs.{NetworkRuns.{one_more, run_is_one}, Places.{in_left, in_parts, in_right}}}
use Rattle.run_law.proofs.{scenario.Decisions.{IsDecided, decided_and, decided_by, decided_false}}
use Rattle.run_law.specs.{declared.note.{Note.Note, NoteBody.NoteBody}}
use Rattle.run_law.specs.{device.{LocalClocks.local, States.{adjustment_after, state_after}}, law.Safety.IsInStep}
use Rattle.run_law.specs.{scenario.{Hypothesis.breaks_at, Scenarios.{Scenario, events_up_to, is_broken}}}
use Rattle.run_law.specs.records.{Happenings.{Happening, happenings, time_of, up_to}, Order.{IsBefore, IsIn}}
use Rattle.run_law.specs.records.{Ranks.rank}
use Rattle.schedule_checker.specs.Refusals.{RefusalIsOne}
use Rattle.schedule_tables.specs.Rules.{KeepsRules}
use Rattle.tte_forms.proofs.{Octets.{for_all, for_more}}
use Rattle.tte_forms.proofs.{Puts.{Ends-gives, IsSafeAnswer, PutsLines-fails, PutsLines-more, none_safe, puts_safely}}
use Rattle.tte_forms.proofs.{networks.Answers.{answered_accepted, network_answer_one}}
use Rattle.tte_forms.specs.{Answering.{Answer, AnswersOne, Ends, ForOctets, Gives, GivesAnswer}}
use Rattle.tte_forms.specs.{Putting.{PutsLines, Shown, WriteFails}}
use Rattle.tte_forms.specs.declared.{accepting.NoNetwork.NoNetwork}
use Rattle.tte_forms.specs.declared.{status.Status.{Status, TheVariants.{Done, WriteFault}}}
use Rattle.tte_forms.specs.networks.{Accepting.{IsNetworkAnswer, MeansAccepted, refusal_lines}}
use Rattle.tte_forms.specs.networks.{NoNetworks.no_network_answer}
use Rattle.tte_io.specs.{Faults.next_count, Told.AppendsFront}
use Rattle.tte_traces.{proofs.storms_lemmas.{Ends.storm_ends, summary_lemmas.Spreads.{spread_is_one, within_precision}}}
use Rattle.tte_traces.specs.declared.storms.{counting.Seen.Seen}
use Rattle.tte_traces.specs.declared.storms.{summary.{counts.Counts.Counts, summary.Summary.Summary}}
use Rattle.tte_traces.specs.storms.{Answer.{IsStormAnswer, IsWidest, exact_scenario}}
use Rattle.tte_traces.specs.storms.{Counts.{ArePastCorrections, IsOpenAt, IsSeen, IsSpreadSoFar, corrects}}
use Rattle.tte_traces.specs.storms.{Safely.{IsSafeSummary, IsSafeText, PutsSummary, SummarisesSafely}}
use Rattle.tte_traces.specs.storms.{Spreads.IsSpreadAt, Storms.{EndsStorm, HasStormed, Summarises}}
use Rattle.tte_traces.specs.storms.summary.{Counting.counts_of, Lines.{lines_of, summary_lines}}
use Rattle.tte_traces.specs.storms.summary.{Spread.{AreApart, AreSeenApart, IsCorrection, IsGreatestSpread}}
use Rattle.tte_units.specs.{Amount.amount, declared.units.Units.Units}
use Rattle.world_drive.{proofs.Earlier.{given_behind, given_from, last_of}}
use Rattle.world_drive.specs.{Observing.{Befell, IsCompleteExact, IsGiven, Told, instant_of}}
use Rattle.world_drive.specs.exact.{Records.{AreAllRecords, AreRecordsBefore, clock_reading}}
use Rattle.world_drive.specs.exact.{Worlds.{ExactWorld, StandsExact}}
use Rattle.run_law.specs.declared.note.NoteBody.TheVariants as kinds
use Rattle.tte_forms.specs.declared.accepting.NoNetwork.TheVariants as causes

-- ---- what is seen of a correction stays as more records and events come: what is up to a time

none_up_to : (t c : ℕ) (tail : List Happening) → t < c → ((h : Happening) → IsIn h tail → c ≤ time_of h) → up_to t tail ≡ []
none_up_to t c [] lt later = refl
none_up_to t c (h ∷ tail) lt later =
    let at = later h (inl refl) in
    ap (λ (b : Bool). if b then h ∷ up_to t tail else up_to t tail) (lt-leb (time_of h) t (omega (arith, lt, at)))
    ∙ none_up_to t c tail lt (λ g i. later g (inr i))

up_to_more : (t c : ℕ) (hs tail : List Happening) → t < c → ((h : Happening) → IsIn h tail → c ≤ time_of h) → up_to t (hs ++ tail) ≡ up_to t hs
up_to_more t c hs tail lt later =
    filter-append (λ (h : Happening). nat_le (time_of h) t) hs tail ∙ ap (λ (l : List Happening). up_to t hs ++ l) (none_up_to t c tail lt later)
    ∙ append-nil (up_to t hs)

-- ---- two runs that are alike at a time

-- the devices are in step alike, and their local clocks show the same
pub record Alike (s : Scenario) (hs : List Happening) (other : Scenario) (js : List Happening) (t : ℕ) : Type 0 where
  pub same : other.network ≡ s.network
  pub on : (d : DeviceId) → IsInStep s hs d t → IsInStep other js d t
  pub back : (d : DeviceId) → IsInStep other js d t → IsInStep s hs d t
  pub shows : (d : DeviceId) → local other js d t ≡ local s hs d t

module _ (s : Scenario) (hs : List Happening) (other : Scenario) (js : List Happening) (t : ℕ) where
  turned : Alike s hs other js t → Alike other js s hs t
  turned a = record { same = sym a.same; on = a.back; back = a.on; shows = λ d. sym (a.shows d) }

  apart_on : {apart : ℤ} → Alike s hs other js t → AreApart s hs t apart → AreApart other js t apart
  apart_on a x = record {
    ahead = x.ahead;
    behind = x.behind;
    ahead_there = subst (λ n. HasDevice n x.ahead) (sym a.same) x.ahead_there;
    behind_there = subst (λ n. HasDevice n x.behind) (sym a.same) x.behind_there;
    ahead_in_step = a.on x.ahead x.ahead_in_step;
    behind_in_step = a.on x.behind x.behind_in_step;
    is = x.is ∙ ap (λ z. z -ℤ local s hs x.behind t) (sym (a.shows x.ahead)) ∙ ap
        (λ z. local other js x.ahead t -ℤ z) (sym (a.shows x.behind));
  }

-- under more records that are later
pub alike_more : (s : Scenario) (hs tail : List Happening) (c t : ℕ) → t < c → ((h : Happening) → IsIn h tail → c ≤ time_of h) → Alike s hs s (hs ++ tail) t
alike_more s hs tail c t lt later =
    let same = up_to_more t c hs tail lt later in
    record {
      same = refl;
      on = λ d i. record { correct = i.correct; synchronised = ap (λ l. state_after s l d) same ∙ i.synchronised };
      back = λ d i. record { correct = i.correct; synchronised = ap (λ l. state_after s l d) (sym same) ∙ i.synchronised };
      shows = λ d. ap (λ l. pos (s.reading d t) +ℤ (adjustment_after s l d).0) same;
    }

-- an event befalls at a later time
broken_before : (network : Network) (events : List Event) (event : Event) (d : DeviceId) (t : ℕ) → t < amount event.time
    → is_broken (exact_scenario network (events ++ event ∷ [])) d t ≡ is_broken (exact_scenario network events) d t
broken_before network events event d t lt =
    let one = filter (λ (e : Event). nat_le (amount e.time) t) (event ∷ []) in
    let old = events_up_to (exact_scenario network events) t in
    let none : one ≡ [] = ap (λ (b : Bool). if b then event ∷ [] else []) (lt-leb (amount event.time) t lt) in
    ap (list_any (λ (e : Event). breaks_at d.0 e.what))
    (filter-append (λ (e : Event). nat_le (amount e.time) t) events (event ∷ []) ∙ ap (λ (l : List Event). old ++ l) none ∙ append-nil old)

pub alike_event : (network : Network) (events : List Event) (event : Event) (hs tail : List Happening) (t : ℕ) → t < amount event.time
    → ((h : Happening) → IsIn h tail → amount event.time ≤ time_of h)
    → Alike (exact_scenario network events) hs (exact_scenario network (events ++ event ∷ [])) (hs ++ tail) t
alike_event network events event hs tail t lt later =
    let s = exact_scenario network events in
    let other = exact_scenario network (events ++ event ∷ []) in
    let same = up_to_more t (amount event.time) hs tail lt later in
    let reads : (d : DeviceId) → other.reading d t ≡ s.reading d t = λ d.
    reads_same fresh_segment stepped_segment segment_reading (λ c. c.grain) segment_count exact_steps network events event d t (omega (arith, lt)) in
    record {
      same = refl;
      on = λ d i. record {
        correct = broken_before network events event d t lt ∙ i.correct;
        synchronised = ap (λ l. state_after s l d) same ∙ i.synchronised;
      };
      back = λ d i. record {
        correct = sym (broken_before network events event d t lt) ∙ i.correct;
        synchronised = ap (λ l. state_after s l d) (sym same) ∙ i.synchronised;
      };
      shows = λ d.
          ap (λ x. pos x +ℤ (adjustment_after s (up_to t (hs ++ tail)) d).0) (reads d)
          ∙ ap (λ l. pos (s.reading d t) +ℤ (adjustment_after s l d).0) same;
    }

-- ---- the greatest spread

module _ (s other : Scenario) (hs tail : List Happening) (c : ℕ) (past : (h : Happening) → IsIn h hs → IsCorrection h → time_of h < c)
    (alike : (t : ℕ) → t < c → Alike s hs other (hs ++ tail) t) where
  seen_on : (apart : ℤ) → AreSeenApart s hs apart → AreSeenApart other (hs ++ tail) apart
  seen_on apart a = record {
    seen_at = a.seen_at;
    there = in_left a.seen_at hs tail a.there;
    correction = a.correction;
    apart_then = apart_on s hs other (hs ++ tail) (time_of a.seen_at) (alike (time_of a.seen_at) (past a.seen_at a.there a.correction)) a.apart_then;
  }

  seen_back : (apart : ℤ) (a : AreSeenApart other (hs ++ tail) apart) → IsIn a.seen_at hs → AreSeenApart s hs apart
  seen_back apart a there = record {
    seen_at = a.seen_at;
    there = there;
    correction = a.correction;
    apart_then =
        apart_on other (hs ++ tail) s hs (time_of a.seen_at)
        (turned s hs other (hs ++ tail) (time_of a.seen_at) (alike (time_of a.seen_at) (past a.seen_at there a.correction))) a.apart_then;
  }

  -- where no correction comes it stays
  pub spread_stays : (spread : Units) → ((h : Happening) → IsIn h tail → IsCorrection h → ⊥) → IsGreatestSpread s hs spread
      → IsGreatestSpread other (hs ++ tail) spread
  spread_stays spread none g = record {
    bound = λ apart a. elim (in_parts a.seen_at hs tail a.there) [
      | inl there ↦ g.bound apart (seen_back apart a there)
      | inr there ↦ absurd (none a.seen_at there a.correction)
    ];
    reached = elim g.reached [ inl is_zero ↦ inl is_zero | inr a ↦ inr (seen_on spread.0 a) ];
  }

  -- where corrections of one time come it is the greater of it and of the spread of this time
  pub spread_grows : (t : ℕ) (spread most : Units) (at : ℤ) (one : Happening) → ((h : Happening) → IsIn h tail → time_of h ≡ t) → IsIn one tail
      → IsCorrection one → IsSpreadAt other (hs ++ tail) t at → IsGreatestSpread s hs spread → spread.0 ≤ℤ most.0 → at ≤ℤ most.0
      → (most.0 ≡ spread.0) ⊎ (most.0 ≡ at) → IsGreatestSpread other (hs ++ tail) most
  spread_grows t spread most at one then_ there correction is g first second either = record {
    bound = λ apart a. elim (in_parts a.seen_at hs tail a.there) [
      | inl before ↦ let le = g.bound apart (seen_back apart a before) in omega (arith, ints, le, first)
      | inr now ↦
          let le = is.bound apart (subst (λ u. AreApart other (hs ++ tail) u apart) (then_ a.seen_at now) a.apart_then) in
          omega (arith, ints, le, second)
    ];
    reached = elim either [
      | inl old ↦ elim g.reached [ inl is_zero ↦ inl (old ∙ is_zero) | inr a ↦ inr (subst (AreSeenApart other (hs ++ tail)) (sym old) (seen_on spread.0 a)) ]
      | inr new ↦ elim is.reached [
        | inl is_zero ↦ inl (new ∙ is_zero)
        | inr a ↦ inr (subst (AreSeenApart other (hs ++ tail)) (sym new) (record {
          seen_at = one;
          there = in_right one hs tail there;
          correction = correction;
          apart_then = subst (λ u. AreApart other (hs ++ tail) u at) (sym (then_ one there)) a;
        }))
      ]
    ];
  }

-- ---- records seen one after another, and the spread of the times of corrections: numbers

-- there is room for one more
pub room_for : (network : Network) (events : List Event) (notes : List Note) (note : Note) (next : ExactWorld) (counts : Counts) → counts ≡ counts_of notes
    → StandsExact network next events (notes ++ note ∷ []) → counts.records + 1 < 2 ^ 64
unfolding counts_of
room_for network events notes note next counts is b =
    let room = b.is.room in
    let many : counts.records ≡ length notes = ap (λ (c : Counts). c.records) is in
    let longer = length-append notes (note ∷ []) in
    omega (arith, room, many, longer)

-- ---- corrections

-- a record that corrects a clock has a rank behind events, and is a correction
pub correction_of : (h : Happening) (body : NoteBody) → h.note.body ≡ body → corrects body ≡ true → IsCorrection h × (2 < rank body)
correction_of h (kinds.Corrected device cycle by adjustment) is c =
    (record { device = device; cycle = cycle; by = by; adjustment = adjustment; is = is }, omega arith)
correction_of h body is c = absurd cc

-- another is none
pub no_correction : {h : Happening} → corrects h.note.body ≡ false → IsCorrection h → ⊥
no_correction {h} not c = let is : corrects h.note.body ≡ true = ap corrects c.is in cc

-- only a record behind those of events is asked for
pub behind_events : (note : Note) (asks : Bool) → asks ≡ corrects note.body → asks ≡ true → 2 < rank note.body
behind_events note asks same is = (correction_of (record { note = note; frame = None; octets = [] }) note.body refl (sym same ∙ is)).1

-- ---- one more record

module _ (network : Network) (events : List Event) (notes : List Note) (note : Note) (world : ExactWorld)
    (stands : StandsExact network world events (notes ++ note ∷ [])) (at : amount note.time ≡ world.now) where
  abbrev y : Happening
  y = last_of network notes note

  abbrev hs : List Happening
  hs = happenings network notes

  joined : happenings network (notes ++ note ∷ []) ≡ hs ++ y ∷ []
  joined = one_more network notes note

  -- where corrections are past, they still are behind a record that is none
  past_on : (t : ℕ) → amount note.time ≡ t → ((h : Happening) → IsIn h hs → IsCorrection h → time_of h < t) → (IsCorrection y → ⊥)
      → ArePastCorrections network events (notes ++ note ∷ [])
  past_on t here past none next further more h i c = elim (in_parts h hs (y ∷ []) (subst (λ l. IsIn h l) joined i)) [
    | inl old ↦
        let lt = past h old c in
        let from = given_from network events (notes ++ note ∷ []) further stands more in
        omega (arith, lt, here, from, at)
    | inr (inl same) ↦ absurd (none (subst IsCorrection same c))
    | inr (inr bad) ↦ absurd bad
  ]

  behind : (h : Happening) → IsIn h (y ∷ []) → amount note.time ≤ time_of h
  behind h (inl same) = let there : time_of h ≡ amount note.time = ap time_of same in omega (arith, there)
  behind h (inr none) = absurd none

  none_in : (IsCorrection y → ⊥) → (h : Happening) → IsIn h (y ∷ []) → IsCorrection h → ⊥
  none_in none h (inl same) c = none (subst IsCorrection same c)
  none_in none h (inr bad) c = absurd bad

  -- it corrects nothing
  pub plain_on : (spread : Units) → corrects note.body ≡ false → IsSpreadSoFar network events notes None spread
      → IsSpreadSoFar network events (notes ++ note ∷ []) None spread
  plain_on spread plain before =
      let s = exact_scenario network events in
      let past = before.1 world note stands in
      let none = no_correction {h = y} plain in (
        subst (λ l. IsGreatestSpread s l spread) (sym joined)
            (spread_stays s s hs (y ∷ []) (amount note.time) past (λ t lt.
            alike_more s hs (y ∷ []) (amount note.time) t lt behind) spread (none_in none) before.0),
        past_on (amount note.time) refl past none,
      )

  -- it is the first correction of its time
  pub opens_on : (spread : Units) → corrects note.body ≡ true → IsSpreadSoFar network events notes None spread
      → IsOpenAt network events (notes ++ note ∷ []) (amount note.time) spread
  opens_on spread is before = record {
    front = notes;
    tail = y ∷ [];
    is = joined;
    of_now = λ h i. elim i [ inl same ↦ ap time_of same | inr bad ↦ absurd bad ];
    one = y;
    there = inl refl;
    correction = (correction_of y note.body refl is).0;
    widest = before.0;
    past = before.1 world note stands;
  }

  -- a correction of its time was seen
  pub open_on : (spread : Units) (t : ℕ) → amount note.time ≡ t → IsOpenAt network events notes t spread → IsOpenAt network events (notes ++ note ∷ []) t spread
  open_on spread t here o = record {
    front = o.front;
    tail = o.tail ++ y ∷ [];
    is = joined ∙ ap (λ (l : List Happening). l ++ y ∷ []) o.is ∙ append_assoc (happenings network o.front) o.tail (y ∷ []);
    of_now = λ h i. elim (in_parts h o.tail (y ∷ []) i) [
      | inl old ↦ o.of_now h old
      | inr (inl same) ↦ ap time_of same ∙ here
      | inr (inr bad) ↦ absurd bad
    ];
    one = o.one;
    there = in_left o.one o.tail (y ∷ []) o.there;
    correction = o.correction;
    widest = o.widest;
    past = o.past;
  }

pub seen_record : {network : Network} {events : List Event} {notes : List Note} {note : Note} {world : ExactWorld}
    {instant : Option ℕ} (asks : Bool) {old put : Told} {seen : Seen} (new : Seen)
    → IsGiven network world instant events notes note → IsSeen network events notes instant old put seen
    → asks ≡ corrects note.body → new.tally ≡ counts_of (notes ++ note ∷ []) → new.spread ≡ seen.spread
    → IsSeen network events (notes ++ note ∷ []) (instant_of instant asks note.time) old put new
seen_record {network} {events} {notes} {note} {world} {instant} asks {seen} new given is same tallied still = record {
  tallied = tallied;
  spread_is =
      subst (λ z. IsSpreadSoFar network events (notes ++ note ∷ []) (instant_of instant asks note.time) (record { 0 = z })) (sym still)
      (on instant asks given is.spread_is same);
  unput = is.unput;
}
  where
    on : (i : Option ℕ) (a : Bool) → IsGiven network world i events notes note → IsSpreadSoFar network events notes i (record { 0 = seen.spread })
        → a ≡ corrects note.body → IsSpreadSoFar network events (notes ++ note ∷ []) (instant_of i a note.time) (record { 0 = seen.spread })
    on None false g before e = plain_on network events notes note world g.stands (ap amount g.at) (record { 0 = seen.spread }) (sym e) before
    on None true g before e = opens_on network events notes note world g.stands (ap amount g.at) (record { 0 = seen.spread }) (sym e) before
    on (Some t) a g before e = open_on network events notes note world g.stands (ap amount g.at) (record { 0 = seen.spread }) t (ap amount g.at ∙ g.here) before

-- ---- an event

-- a record of a higher rank before one is of an earlier time
earlier_rank : (t u r q : ℕ) (rest more : List ℕ) → IsBefore (t ∷ r ∷ rest) (u ∷ q ∷ more) → q < r → t < u
earlier_rank t u r q rest more (inl lt) low = lt
earlier_rank t u r q rest more (inr (same, inl less)) low = absurd (omega (arith, less, low))
earlier_rank t u r q rest more (inr (same, inr (eq, b))) low = absurd (omega (arith, eq, low))

module _ (network : Network) (events : List Event) (notes : List Note) (event : Event) (note : Note) (world : ExactWorld)
    (b : Befell network world events notes event note) where
  abbrev e : Happening
  e = last_of network notes note

  abbrev gs : List Happening
  gs = happenings network notes

  e_time : amount note.time ≡ amount event.time
  e_time = ap (λ (n : Note). amount n.time) b.is

  e_now : amount note.time ≡ world.now
  e_now = e_time ∙ sym (ap unsigned_abs b.reached.now)

  e_plain : IsCorrection e → ⊥
  e_plain c = no_correction (ap (λ (n : Note). corrects n.body) b.is) c

  -- corrections before it are of an earlier time
  earlier : (h : Happening) → IsIn h gs → IsCorrection h → time_of h < amount event.time
  earlier h i c =
      let f = b.stands.is.run.founded gs [] e (one_more network notes note) in
      let low : rank note.body ≡ 1 = ap (λ (n : Note). rank n.body) b.is in
      let high : rank h.note.body ≡ 6 = ap rank c.is in
      let lt = earlier_rank (time_of h) (time_of e) (rank h.note.body) (rank note.body) _ _ (f.0 h i) (omega (arith, low, high)) in
      let same = e_time in
      omega (arith, lt, same)

  pub seen_event : (old put : Told) (seen new : Seen) → IsSeen network events notes None old put seen → new.tally ≡ counts_of (notes ++ note ∷ [])
      → new.spread ≡ seen.spread → IsSeen network (events ++ event ∷ []) (notes ++ note ∷ []) None old put new
  seen_event old put seen new is tallied still =
      let other = exact_scenario network (events ++ event ∷ []) in
      let tail_behind : (h : Happening) → IsIn h (e ∷ []) → amount event.time ≤ time_of h = λ h i.
      (let late = behind network (events ++ event ∷ []) notes note world b.stands e_now h i in let same = e_time in omega (arith, late, same)) in
      record {
        tallied = tallied;
        spread_is = subst (λ z. IsSpreadSoFar network (events ++ event ∷ []) (notes ++ note ∷ []) None (record { 0 = z })) (sym still) (
          subst (λ (l : List Happening). IsGreatestSpread other l (record { 0 = seen.spread })) (sym (one_more network notes note))
              (spread_stays (exact_scenario network events) other gs (e ∷ []) (amount event.time) earlier
              (λ t lt. alike_event network events event gs (e ∷ []) t lt tail_behind) (record { 0 = seen.spread })
              (none_in network (events ++ event ∷ []) notes note world b.stands e_now e_plain) is.spread_is.0),
          past_on network (events ++ event ∷ []) notes note world b.stands e_now (amount event.time) e_time earlier e_plain,
        );
        unput = is.unput;
      }

-- ---- the end of an instant

pub seen_settled : (network : Network) (events : List Event) (notes : List Note) (t : ℕ) (world : ExactWorld) (at : ℤ) (old put : Told) (seen new : Seen)
    → IsCompleteExact network world t events notes → IsSeen network events notes (Some t) old put seen
    → IsSpreadAt (exact_scenario network events) (happenings network notes) t at → new.tally ≡ seen.tally → seen.spread ≤ℤ new.spread → at ≤ℤ new.spread
    → (new.spread ≡ seen.spread) ⊎ (new.spread ≡ at) → IsSeen network events notes None old put new
seen_settled network events notes t world at old put seen new complete is spread tally first second either =
    let s = exact_scenario network events in
    let o = is.spread_is in
    let fs = happenings network o.front in
    record {
      tallied = tally ∙ is.tallied;
      spread_is = (
        subst (λ (l : List Happening). IsGreatestSpread s l (record { 0 = new.spread })) (sym o.is)
            (spread_grows s s fs o.tail t o.past
            (λ u lt. alike_more s fs o.tail t u lt (λ h i. (let now = o.of_now h i in omega (arith, now)))) t (record { 0 = seen.spread })
            (record { 0 = new.spread }) at o.one o.of_now o.there o.correction
            (subst (λ l. IsSpreadAt s l t at) o.is spread) o.widest first second either),
        λ next note more h i c.
            let behind_it = given_behind network events notes note (t + 1) complete.all more in
            elim (in_parts h fs o.tail (subst (λ l. IsIn h l) o.is i)) [
              | inl old_one ↦ let lt = o.past h old_one c in omega (arith, lt, behind_it)
              | inr new_one ↦ let now = o.of_now h new_one in omega (arith, now, behind_it)
            ],
      );
      unput = is.unput;
    }

-- ---- nothing was seen: an accepted network has one answer under a storm

-- the records of a storm's run, up to its end, are one list
pub same_records : {network : Network} {seed cycles : ℕ} {events : List Event} (notes others : List Note)
    → IsStorm network seed cycles events → AreAllRecords network events notes → AreAllRecords network events others
    → notes ≡ others
same_records {network} {seed} {cycles} {events} notes others storm a b =
    let end = storm_ends network seed cycles events a.0 storm.each a.1 ∙ sym (storm_ends network seed cycles events b.0 storm.each b.1) in
    run_is_one network (clock_reading network events) events ((amount b.0 + 1) ∷ []) notes others
    (subst (λ t. AreRecordsBefore network events ((amount t + 1) ∷ []) notes) end a.2) b.2

-- the answer for the network is one
pub storm_answer_one : (seed cycles : ℕ) (network : Network) → cycles ≤ 100000 → KeepsRules network → (a b : Answer) → IsStormAnswer seed cycles network a
    → IsStormAnswer seed cycles network b → a ≡ b
storm_answer_one seed cycles network few rules a b p q =
    let events : q.events ≡ p.events = one_storm network seed cycles q.events p.events rules few q.storm p.storm in
    let notes : q.notes ≡ p.notes =
    same_records q.notes p.notes p.storm (subst (λ es. AreAllRecords network es q.notes) events
    q.records)
    p.records in
    let widest : IsWidest network p.events p.notes q.spread = subst (λ ns. IsWidest network p.events ns q.spread) notes
    (subst (λ es. IsWidest network es q.notes q.spread) events q.widest) in
    let spread : q.spread ≡ p.spread = spread_is_one (exact_scenario network p.events) (happenings network p.notes) q.spread p.spread widest p.widest in
    let answer : List Note → Units → Answer = λ ns apart. record { status = Done; lines = summary_lines seed cycles (counts_of ns) apart network.precision } in
    p.answer ∙ ap (λ (ns : List Note). answer ns p.spread) (sym notes) ∙ ap (answer q.notes) (sym spread) ∙ sym q.answer

-- the octets of a network file have one answer under the storm
pub storm_one : RefusalIsOne → (seed cycles : ℕ) → cycles ≤ 100000 → {octets : List ℕ} (a b : Answer)
    → IsNetworkAnswer (IsStormAnswer seed cycles) octets a → IsNetworkAnswer (IsStormAnswer seed cycles) octets b
    → a ≡ b
storm_one one seed cycles few {octets} a b p q =
    network_answer_one one (IsStormAnswer seed cycles) octets (λ network accepted. storm_answer_one seed cycles network few accepted.rules) a b p q

-- ---- the summary of a storm's run, and its lines

-- so many of the lines were put
pub record HasPutLines (lines : List (List ℕ)) (count : ℕ) (old new : Shown) : Type 0 where
  pub done : List (List ℕ)
  pub left : List (List ℕ)
  pub order : lines ≡ done ++ left
  pub counted : length done ≡ count
  pub puts : PutsLines done old new

-- the next of them
next_line : (done left : List (List ℕ)) (line : List ℕ) → slice_get (done ++ left) (length done) ≡ Some line → (rest : List (List ℕ)) × (left ≡ line ∷ rest)
next_line [] [] line is = absurd cc
next_line [] (l ∷ left) line is = (left, let same : l ≡ line = cc in ap (λ (x : List ℕ). x ∷ left) same)
next_line (d ∷ done) left line is = next_line done left line is

next_of : {lines : List (List ℕ)} {count : ℕ} {old new : Shown} (line : List ℕ) (h : HasPutLines lines count old new)
    → slice_get lines count ≡ Some line → (rest : List (List ℕ)) × (lines ≡ h.done ++ line ∷ rest)
next_of {lines} line h is =
    let next = next_line h.done h.left line
    (ap (λ (l : List (List ℕ)). slice_get l (length h.done)) (sym h.order) ∙ ap (λ (n : ℕ). slice_get lines n) h.counted ∙ is) in
    (next.0, h.order ∙ ap (λ (l : List (List ℕ)). h.done ++ l) next.1)

module _ {lines : List (List ℕ)} {count : ℕ} {old now : Shown} (new : Shown) (line : List ℕ)
    (h : HasPutLines lines count old now) (is : slice_get lines count ≡ Some line) where
  pub lines_more : Appends now.written new.written line → new.puts ≡ next_count now.puts
      → HasPutLines lines (count + 1) old new
  lines_more written puts =
      let next = next_of line h is in
      let long = length-append h.done (line ∷ []) in
      let counted = h.counted in
      record {
        done = h.done ++ line ∷ [];
        left = next.0;
        order = next.1 ∙ sym (append_assoc h.done (line ∷ []) next.0);
        counted = omega (arith, long, counted);
        puts = PutsLines-more line new h.puts written puts;
      }

  pub lines_fail : AppendsFront now.written new.written line → new.puts ≡ next_count now.puts
      → Gives (record { status = Done; lines = lines }) WriteFault old new
  lines_fail front puts =
      let next = next_of line h is in
      inr (inl (
        refl,
        subst (λ l. WriteFails l old new) (sym next.1)
            (inl (PutsLines-fails line next.0 new h.puts front puts)),
      ))

none_left : (done left : List (List ℕ)) → length (done ++ left) ≡ length done → left ≡ []
none_left done [] is = refl
none_left done (l ∷ left) is = absurd (let long = length-append done (l ∷ left) in omega (arith, long, is))

pub lines_all : {lines : List (List ℕ)} {count : ℕ} (status : Status) {old now : Shown} (new : Shown)
    → HasPutLines lines count old now → length lines ≡ count → Ends Done status now new
    → Gives (record { status = Done; lines = lines }) status old new
lines_all {lines} status {old} {now} new h all ends =
    let none = none_left h.done h.left (ap (λ l. length l) (sym h.order) ∙ all ∙ sym h.counted) in
    let whole : lines ≡ h.done = h.order ∙ ap (λ (l : List (List ℕ)). h.done ++ l) none ∙ append-nil h.done in
    Ends-gives Done status new (subst (λ l. PutsLines l old now) (sym whole) h.puts) ends

-- ---- what the summary tells

-- the run goes well, and the spread is at most the precision
pub record IsFine (network : Network) (seed cycles : ℕ) (seen : Seen) (h : HasStormed network seed cycles seen) : Type 0 where
  pub run : IsWholeRun fresh_segment stepped_segment segment_reading network h.events h.notes
  pub within : seen.spread ≤ℤ network.precision.0

pub is_fine : {network : Network} {seed cycles : ℕ} {seen : Seen} (h : HasStormed network seed cycles seen)
    → cycles ≤ 100000 → IsInRange network → KeepsRules network → IsFine network seed cycles seen h
is_fine {network} {seed} {cycles} {seen} h few range rules =
    let under : IsUnder network h.events = record {
      range = range;
      rules = rules;
      of_network = h.of_network;
      times = h.range;
      within = storms_within network seed cycles h.events few h.storm.each;
    } in
    let run = ended fresh_segment stepped_segment segment_reading exact_laws exact_begins network h.events h.records.0 h.notes under h.records.1 h.records.2 in
    let s = exact_scenario network h.events in
    let hs = happenings network h.notes in
    let precision = range.precision.least in
    let bounded : (g : Happening) → IsIn g hs → time_of g ≤ amount run.end = λ g i.
    elim (run.run.within g i) [ inl lt ↦ omega (arith, lt) | inr bad ↦ absurd bad.1 ] in
    record {
      run = run;
      within = within_precision s hs (amount run.end) (record { 0 = seen.spread }) (omega (arith, ints, precision)) bounded run.well.safe.precision h.widest;
    }

pub sums_up : {network : Network} {seed cycles : ℕ} {seen : Seen} {h : HasStormed network seed cycles seen}
    → IsFine network seed cycles seen h → (summary : Summary) → summary.seed ≡ seed → summary.cycles ≡ cycles
    → summary.counts ≡ seen.tally → summary.spread.0 ≡ seen.spread → summary.precision ≡ network.precision
    → Summarises network seed cycles summary
sums_up {seed} {cycles} {seen} {h} fine summary of_seed of_cycles of_counts of_spread of_precision =
    let made : ℕ → ℕ → Counts → Units → Units → Summary = λ a b c d e. record { seed = a; cycles = b; counts = c; spread = d; precision = e } in
    let spread : Units = record { 0 = seen.spread } in
    record {
      events = h.events;
      storm = h.storm;
      notes = h.notes;
      records = h.records;
      run = fine.run;
      spread = spread;
      widest = h.widest;
      within = fine.within;
      is =
          ap (λ k. made k summary.cycles summary.counts summary.spread summary.precision) of_seed
          ∙ ap (λ k. made seed k summary.counts summary.spread summary.precision) of_cycles
          ∙ ap (λ k. made seed cycles k summary.spread summary.precision) (of_counts ∙ h.tallied)
          ∙ ap (λ (z : ℤ). made seed cycles (counts_of h.notes) (record { 0 = z }) summary.precision) of_spread
          ∙ ap (made seed cycles (counts_of h.notes) spread) of_precision;
    }

-- ---- the answer

pub storm_given : {seed cycles : ℕ} {network : Network} (status : Status) {old new : Shown}
    → EndsStorm network seed cycles status old new → GivesAnswer (IsStormAnswer seed cycles network) status old new
storm_given status (inl (summary, sums, gives)) = inl (
  record { status = Done; lines = lines_of summary },
  record {
    events = sums.events;
    storm = sums.storm;
    notes = sums.notes;
    records = sums.records;
    spread = sums.spread;
    widest = sums.widest;
    answer = ap (λ (s : Summary). record { status = Done; lines = lines_of s }) sums.is;
  },
  gives,
)
storm_given status (inr (memory, same)) = inr (inr memory, same)

pub storm_accepted : {seed cycles : ℕ} (left : Option (List ℕ)) {network : Network} (status : Status)
    {old new : Shown} → ForOctets left (λ octets. MeansAccepted octets network)
    → EndsStorm network seed cycles status old new → AnswersOne
    (IsNetworkAnswer (IsStormAnswer seed cycles)) left status old new
storm_accepted {seed} {cycles} left {network} status {old} {new} means ends =
    answered_accepted (IsStormAnswer seed cycles) left network status old new means (storm_given status ends)

-- ---- the greatest of some numbers, from 0 on, where it is decided which there are

-- the greatest of the numbers that are so, or 0 where none is greater
pub record HasMost (P : ℤ → Type 0) : Type 0 where
  pub most : ℤ
  pub least : pos 0 ≤ℤ most
  pub bound : (x : ℤ) → P x → x ≤ℤ most
  pub reached : (most ≡ pos 0) ⊎ P most

-- none is so
pub most_of_none : (P : ℤ → Type 0) → ((x : ℤ) → P x → ⊥) → HasMost P
most_of_none P none = record { most = pos 0; least = omega (arith, ints); bound = λ x p. absurd (none x p); reached = inl refl }

-- one is so
pub most_of_one : (P : ℤ → Type 0) (v : ℤ) → P v → ((x : ℤ) → P x → x ≡ v) → HasMost P
most_of_one P (pos n) p only = record {
  most = pos n;
  least = omega (arith, ints);
  bound = λ x q. let same = only x q in omega (arith, ints, same);
  reached = inr p;
}
most_of_one P (negsuc n) p only = record {
  most = pos 0;
  least = omega (arith, ints);
  bound = λ x q. let same = only x q in omega (arith, ints, same);
  reached = inl refl;
}

-- those of two kinds
pub most_of_two : (P Q R : ℤ → Type 0) → ((x : ℤ) → R x → P x ⊎ Q x) → ((x : ℤ) → P x → R x) → ((x : ℤ) → Q x → R x) → HasMost P → HasMost Q → HasMost R
most_of_two P Q R parts first second a b = by_lt_z {P = HasMost R} a.most b.most (λ lt. record {
  most = b.most;
  least = b.least;
  bound = λ x r. elim (parts x r) [
    | inl p ↦ (let le = a.bound x p in omega (arith, ints, le, lt))
    | inr q ↦ b.bound x q
  ];
  reached = elim b.reached [ inl none ↦ inl none | inr q ↦ inr (second b.most q) ];
}) (λ ge. record {
  most = a.most;
  least = a.least;
  bound = λ x r. elim (parts x r) [
    | inl p ↦ a.bound x p
    | inr q ↦ (let le = b.bound x q in omega (arith, ints, le, ge))
  ];
  reached = elim a.reached [ inl none ↦ inl none | inr p ↦ inr (first a.most p) ];
})

-- the same ones
pub most_of_same : (P Q : ℤ → Type 0) → ((x : ℤ) → P x → Q x) → ((x : ℤ) → Q x → P x) → HasMost P → HasMost Q
most_of_same P Q there back a = record {
  most = a.most;
  least = a.least;
  bound = λ x q. a.bound x (back x q);
  reached = elim a.reached [ inl none ↦ inl none | inr p ↦ inr (there a.most p) ];
}

-- those of each number below the bound
pub most_below : (P : ℕ → ℤ → Type 0) → ((n : ℕ) → HasMost (P n)) → (bound : ℕ) → HasMost (λ x. (n : ℕ) × (n < bound) × P n x)
most_below P each zero = most_of_none _ (λ x h. let lt = h.1 in omega (arith, lt))
most_below P each (suc bound) =
    most_of_two (λ x. (n : ℕ) × (n < bound) × P n x) (P bound) (λ x. (n : ℕ) × (n < suc bound) × P n x)
    (λ x h. let lt = h.1 in elim (cases_eq h.0 bound) [
      | inl same ↦ inr (subst (λ (n : ℕ). P n x) same h.2)
      | inr other ↦ inl (h.0, omega (arith, lt, other), h.2)
    ])
    (λ x h. let lt = h.1 in (h.0, omega (arith, lt), h.2)) (λ x p. (bound, omega arith, p)) (most_below P each bound) (each bound)

-- those of each element of a list
pub most_among : {N : Type 0} (P : N → ℤ → Type 0) → ((n : N) → HasMost (P n)) → (ns : List N) → HasMost (λ x. (n : N) × IsIn n ns × P n x)
most_among P each [] = most_of_none _ (λ x h. h.1)
most_among {N} P each (m ∷ ns) =
    most_of_two (P m) (λ x. (n : N) × IsIn n ns × P n x) (λ x. (n : N) × IsIn n (m ∷ ns) × P n x)
    (λ x h. elim h.1 [
      | inl same ↦ inl (subst (λ (n : N). P n x) same h.2)
      | inr later ↦ inr (h.0, later, h.2)
    ])
    (λ x p. (m, inl refl, p)) (λ x h. (h.0, inr h.1, h.2)) (each m) (most_among P each ns)

-- ---- records have a greatest spread: decisions

in_step : (s : Scenario) (hs : List Happening) (device : DeviceId) (t : ℕ) → IsDecided (IsInStep s hs device t)
in_step s hs device t =
    decided_by (λ h. record { correct = h.0; synchronised = h.1 }) (λ i. (i.correct, i.synchronised))
    (decided_and (decided_false (is_broken s device t)) (is_synchronised (state_after s (up_to t hs) device)))

correction : (h : Happening) → IsDecided (IsCorrection h)
correction h = by h.note.body refl
  where
    by : (body : NoteBody) → h.note.body ≡ body → IsDecided (IsCorrection h)
    by (kinds.Corrected device cycle amount adjustment) e = inl (record { device = device; cycle = cycle; by = amount; adjustment = adjustment; is = e })
    by other e = inr (λ c. let is = c.is in cc)

-- ---- two devices

abbrev device_of : ℕ → DeviceId
device_of n = record { 0 = n }

-- the two are in step, and so far apart
abbrev Apart : Scenario → List Happening → ℕ → ℕ → ℕ → ℤ → Type 0
Apart s hs t d e x =
    (IsInStep s hs (device_of d) t × IsInStep s hs (device_of e) t)
    × (x ≡ (local s hs (device_of d) t -ℤ local s hs (device_of e) t))

most_of_pair : (s : Scenario) (hs : List Happening) (t d e : ℕ) → HasMost (Apart s hs t d e)
most_of_pair s hs t d e =
    elim (decided_and (in_step s hs (device_of d) t) (in_step s hs (device_of e) t)) [
      | inl both ↦
          most_of_one (Apart s hs t d e) (local s hs (device_of d) t -ℤ local s hs (device_of e) t) (both, refl) (λ x h. h.1)
      | inr none ↦ most_of_none (Apart s hs t d e) (λ x h. none h.0)
    ]

-- some two are so far apart
abbrev SomeApart : Scenario → List Happening → ℕ → ℤ → Type 0
SomeApart s hs t x = (d : ℕ) × (d < length s.network.device) × ((e : ℕ) × (e < length s.network.device) × Apart s hs t d e x)

most_apart : (s : Scenario) (hs : List Happening) (t : ℕ) → HasMost (AreApart s hs t)
most_apart s hs t =
    most_of_same (SomeApart s hs t) (AreApart s hs t)
    (λ x h. record {
      ahead = device_of h.0;
      behind = device_of h.2.0;
      ahead_there = h.1;
      behind_there = h.2.1;
      ahead_in_step = h.2.2.0.0;
      behind_in_step = h.2.2.0.1;
      is = h.2.2.1;
    })
    (λ x a. (a.ahead.0, a.ahead_there, (a.behind.0, a.behind_there, ((a.ahead_in_step, a.behind_in_step), a.is))))
    (most_below (λ d x. (e : ℕ) × (e < length s.network.device) × Apart s hs t d e x)
    (λ d. most_below (Apart s hs t d) (most_of_pair s hs t d) (length s.network.device)) (length s.network.device))

-- ---- all records

-- they are seen so far apart at the record
abbrev SeenAt : Scenario → List Happening → Happening → ℤ → Type 0
SeenAt s hs h x = IsCorrection h × AreApart s hs (time_of h) x

most_at : (s : Scenario) (hs : List Happening) (h : Happening) → HasMost (SeenAt s hs h)
most_at s hs h =
    elim (correction h) [
      | inl is ↦
          most_of_same (AreApart s hs (time_of h)) (SeenAt s hs h) (λ x a. (is, a)) (λ x a. a.1) (most_apart s hs (time_of h))
      | inr none ↦ most_of_none (SeenAt s hs h) (λ x a. none a.0)
    ]

most_seen : (s : Scenario) (hs : List Happening) → HasMost (AreSeenApart s hs)
most_seen s hs =
    most_of_same (λ x. (h : Happening) × IsIn h hs × SeenAt s hs h x) (AreSeenApart s hs)
    (λ x a. record { seen_at = a.0; there = a.1; correction = a.2.0; apart_then = a.2.1 })
    (λ x a. (a.seen_at, a.there, (a.correction, a.apart_then))) (most_among (SeenAt s hs) (most_at s hs) hs)

pub greatest_spread : (s : Scenario) (hs : List Happening) → (spread : Units) × IsGreatestSpread s hs spread
greatest_spread s hs =
    let seen = most_seen s hs in
    (record { 0 = seen.most }, record { bound = seen.bound; reached = seen.reached })

-- ---- what `storm` writes is the summary of a run that is safe

module _ (seed cycles : ℕ) where
  summary_safe : (octets : List ℕ) (network : Network) (summary : Summary) → MeansAccepted octets network → Summarises network seed cycles summary
      → IsSafeSummary seed cycles octets (lines_of summary)
  summary_safe octets network summary m sums = record {
    network = network;
    accepted = m;
    events = sums.events;
    storm = sums.storm;
    notes = sums.notes;
    run = sums.run;
    spread = sums.spread;
    widest = sums.widest;
    within = sums.within;
    is = ap lines_of sums.is;
  }

  module _ (status : Status) (old new : Shown) where
    -- ---- for an accepted network

    ends_safely : (octets : List ℕ) (network : Network) → MeansAccepted octets network → EndsStorm network seed cycles status old new
        → GivesAnswer (IsSafeAnswer (PutsSummary seed cycles octets) (IsSafeText seed cycles octets)) status old new
    ends_safely octets network m (inl (summary, sums, gives)) =
        let safe = summary_safe octets network summary m sums in
        inl (
          record { status = Done; lines = lines_of summary },
          record { safe = inl (inl safe); whole = λ before after puts. (lines_of summary, safe, puts) },
          gives,
        )
    ends_safely octets network m (inr (memory, same)) = inr (inr memory, same)

    pub storm_safely : (left : Option (List ℕ)) (network : Network) → ForOctets left (λ octets. MeansAccepted octets network)
        → EndsStorm network seed cycles status old new → SummarisesSafely seed cycles left status old new
    storm_safely left network means ends =
        for_more left (λ octets. MeansAccepted octets network) _
        (λ octets m. puts_safely (PutsSummary seed cycles octets) (IsSafeText seed cycles octets) (refusal_lines []) (inr ([], refl)) old new status
        (ends_safely octets network m ends)) means

    -- ---- where there is no accepted network

    puts_none : (octets : List ℕ) (cause : NoNetwork) (before after : Shown) → PutsLines (no_network_answer cause).lines before after
        → PutsSummary seed cycles octets (no_network_answer cause).status before after
    puts_none octets causes.ReadFault before after puts = tt
    puts_none octets causes.TooLong before after puts = tt
    puts_none octets causes.OutOfMemory before after puts = tt
    puts_none octets (causes.File refusal) before after puts = tt
    puts_none octets (causes.Rule told) before after puts = tt

    pub none_safely : (left : Option (List ℕ)) (cause : NoNetwork) → Gives (no_network_answer cause) status old new
        → SummarisesSafely seed cycles left status old new
    none_safely left cause g =
        for_all left _ (λ octets. puts_safely (PutsSummary seed cycles octets) (IsSafeText seed cycles octets) (refusal_lines []) (inr ([], refl)) old new
        status
        (inl (
          no_network_answer cause,
          none_safe (PutsSummary seed cycles octets) (IsSafeText seed cycles octets) refusal_lines (λ reason. inr (reason, refl)) (puts_none octets) cause,
          g,
        )))

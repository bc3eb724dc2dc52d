-- The run under a trace: how far it lasts, its report and its answer, and that it is safe.
use Rattle.std.proofs.{Common.{filter, option_map, slice_get}}
use Rattle.std.proofs.lemmas.{Bool.{cases_lt, eq-eqb, lt-leb}}
use Rattle.std.proofs.lemmas.{List.{Elements.{All-cons, All-nil, filter-append, filter_map-append}, map-append}}
use Rattle.std.proofs.lemmas.{Option.slice_get_within}
use Rattle.std.specs.{Io.KnownBytes.Appends, List.{All, cons_option}, Prelude.{IfErr, MatchResult, OnErr, OnOk, nat_le}}
use Rattle.drift_clock.{proofs.ExactSegments.{exact_begins, exact_laws}}
use Rattle.drift_clock.specs.{RateSteps.{RateStep, up_to}, Readings.value_after}
use Rattle.drift_clock.specs.{Segment.{fresh_segment, segment_reading, stepped_segment}}
use Rattle.drift_world.proofs.Turned.{gives_in, gives_within}
use Rattle.fault_hypothesis.specs.Watching.{AreOfNetwork as AreEventsOf}
use Rattle.net_plan.specs.{Places.link_at, Ranges.IsLinkInRange}
use Rattle.net_plan.specs.declared.{ids.{DeviceId.DeviceId, LinkId.LinkId, VlId.VlId}}
use Rattle.net_plan.specs.declared.{tables.{Link.Link, Way.{TheVariants.{Down, Up}, Way}}}
use Rattle.precision_law.{specs.traffic.safety.Under.IsUnder}
use Rattle.precision_law.proofs.traffic_lemmas.{safety_lemmas.Lawful.{ended, last_in_time, own, so_far}}
use Rattle.precision_law.proofs.traffic_lemmas.existence_lemmas.{Existence.runs_exist_to_each_mark}
use Rattle.precision_law.proofs.traffic_lemmas.existence_lemmas.{bounds.Weights.device_there}
use Rattle.report_text.specs.{NoteLine.note_line, Ranges.{HasPassage, HasStream, IsBodyOf}}
use Rattle.run_law.proofs.{law.FirstDeliveries.numbered_in, scenario.Devices.{Holds, step_at}}
use Rattle.run_law.proofs.runs.{NetworkRuns.{earlier_run_is_front, one_more}}
use Rattle.run_law.proofs.runs.{Places.{before_next_time, in_left, in_right, parted}}
use Rattle.run_law.specs.{control.{Leaving.{Departs, Departure}, Wires.{Arrives, Signal}}}
use Rattle.run_law.specs.{declared.note.NoteBody.NoteBody, law.FirstLaws.IsEventInRange}
use Rattle.run_law.specs.{runs.{DueRecords.{IsArrivedRecord, IsCaused, IsDue, IsScenarioRun}, Runs.IsFounded}}
use Rattle.run_law.specs.{scenario.{Rates.{rate_steps, step_by}, Scenarios.Scenario}}
use Rattle.run_law.specs.{timed.{Dispatching.Dispatches, Receptions.ArrivesAs}}
use Rattle.run_law.specs.records.{Happenings.{Happening, happening, happenings, time_of}, Order.{IsBefore, IsIn}}
use Rattle.run_law.specs.records.{Ranks.place_of}
use Rattle.schedule_tables.specs.{Entries.{IsEntry, source_by, source_of}, declared.entry.Entry.Entry}
use Rattle.trace_text.proofs.WordsBack.{read_of_network}
use Rattle.tte_forms.proofs.{Octets.for_all}
use Rattle.tte_forms.proofs.Puts.{IsSafeAnswer, PutsLines-fails, PutsLines-more, answer_widened, none_safe, puts_safely}
use Rattle.tte_forms.specs.{Answering.GivesAnswer, Putting.PutsSo, declared.accepting.NoNetwork.NoNetwork}
use Rattle.tte_forms.specs.{networks.NoNetworks.answer_by}
use Rattle.tte_io.specs.{Faults.next_count, Told.AppendsFront, declared.ends.Sink.Ghosts}
use Rattle.tte_traces.proofs.{Admitted.{admitted_in_order, admitted_one, front_admitted}}
use Rattle.tte_traces.proofs.{Answers.{AnswersEither, BeginWith, IsAllAdmitted, all_is_whole, answer_stops}}
use Rattle.tte_traces.proofs.{EventOrder.{last_before, last_of, not_earlier}, EventRanges.event_in_range, Splits.split}
use Rattle.tte_traces.proofs.Words
use Words.{if◌then◌else◌, ◌++◌, ◌+◌, ◌<◌, ◌∙◌, ◌∷◌, ◌≡◌, ◌≤◌, ◌⊎◌, After, Answer, AnswersAll, AnswersFault, AreAdmitted}
use Words.{AreAllRecords, AreRecordsBefore, AreRecordsSoFar, Bool, Done, EndsAt, Err, Event, ForOctets, Gives}
use Words.{HaveEnded, IsFault, IsFrontOf, IsInRange, IsNoteOf, IsOfNetwork, IsRunAnswer, IsTraceAnswer, Line, LinesOf}
use Words.{List, Long, MeansAccepted, Missing, Network, None, Note, Ok, Option, Outlaw, PutFails, PutsLines, Result}
use Words.{Rose, Shown, Some, Status, TooMany, TraceFault, Units, [], amount, ap, append-nil, append_assoc, arith}
use Words.{behind_events, behind_lines, clock_reading, false, fault_lines, fault_status, first_line, for_more, inl, inr}
use Words.{last_time, length, refl, report_lines, report_of, subst, suc, sym, true, ℕ}
use Rattle.tte_traces.specs.{Along.{IsShortAt, PutsAlong}, Report.{PutsReport, StopsReport, shown_as}}
use Rattle.tte_traces.specs.Safely
use Safely.{BeginsRunTo, IsGoodRun, IsGoodRunBefore, IsReportToFault, IsWholeReport, OfRunToFault, OfWholeRun}
use Safely.{PutsOfRun, RunsSafely}
use Rattle.tte_units.proofs.general_lemmas.Lists.{in_all as all_at}
use Rattle.world_drive.{proofs.{Earlier.{have_ended, no_further, so_far_at}, exact_lemmas.Events.ended_at}}
use Rattle.world_drive.specs.{Observing.{PutsFurther, Sees, Stops, Told, told_by}}
use Rattle.world_drive.specs.{declared.observing.Cut.{Cut, TheVariants.{OutOfMemory, WriteFault}}}
use Rattle.world_drive.specs.{exact.Worlds.{ExactWorld, StandsExact}}
use Rattle.world_law.proofs.{rows.AtHand.{delivered_of, taken_at}, runs.Foremost.run_stays_under_more}
use Rattle.world_law.proofs.{steps_lemmas.hearing.Receptions.receiver_in}
use Rattle.world_law.specs.{device.Own.moves, source.{Agreeing.Agree, Applying.place_of_event}}
use Rattle.world_law.specs.{world.World.AreOfNetwork}
use Rattle.run_law.specs.declared.note.NoteBody.TheVariants as kinds
use Rattle.tte_forms.specs.declared.accepting.NoNetwork.TheVariants as causes

-- ---- there is an answer for each trace: records

pub records_before : {network : Network} (events : List Event) (mark : List ℕ) → IsInRange network
    → (notes : List Note) × AreRecordsBefore network events mark notes
records_before {network} events mark range =
    runs_exist_to_each_mark (record { network = network; reading = clock_reading network events; events = events }) mark range

pub all_records : {network : Network} (events : List Event) → IsInRange network → HaveEnded events
    → (notes : List Note) × AreAllRecords network events notes
all_records events range ended =
    let end = ended_at events ended in
    let run = records_before events ((amount end.0 + 1) ∷ []) range in
    (run.0, (end.0, end.1, run.1))

-- ---- answers

module _ (lines : LinesOf) where
  whole : (network : Network) (octets : List ℕ) (events : List Event) → IsInRange network → HaveEnded events
      → behind_lines (length events) octets ≡ [] → (a : Answer) × AnswersAll lines network octets events a
  whole network octets events range ended none =
      let run = all_records events range ended in (
        record { status = Done; lines = lines network events run.0 },
        record { ended = ended; none_left = none; notes = run.0; records = run.1; answer = refl },
      )

  faulty : (network : Network) (octets : List ℕ) (events : List Event) (fault : TraceFault) → IsInRange network
      → IsFault network events (behind_lines (length events) octets) fault → (a : Answer) × AnswersFault lines network octets events a
  faulty network octets events fault range is =
      let run = records_before events (behind_events (amount (last_time events))) range in (
        record { status = fault_status fault; lines = lines network events run.0 ++ fault_lines (length events + 1) fault },
        record { fault = fault; is = is; notes = run.0; records = run.1; answer = refl },
      )

  -- of whatever lines of a run a command puts
  pub trace_answers_exist : (network : Network) (octets : List ℕ) → IsInRange network → (a : Answer) × IsTraceAnswer lines octets network a
  trace_answers_exist network octets range =
      let at = split network octets in
      elim at.stops [
        | inl end ↦
            (let a = whole network octets at.events range end.0 end.1 in
            (a.0, record { events = at.events; admitted = at.admitted; is = inl a.1 }))
        | inr fault ↦
            (let a = faulty network octets at.events fault.0 range fault.1 in
            (a.0, record { events = at.events; admitted = at.admitted; is = inr a.1 }))
      ]

-- ---- the run up to the next event lasts under this event and those behind it: later events change nothing before them

-- none of them is earlier than the time
abbrev pub AreFrom : ℕ → List Event → Type 0
AreFrom t events = (k : ℕ) (e : Event) → slice_get events k ≡ Some e → t ≤ amount e.time

dropped : (x : ℕ) (o : Option RateStep) (steps : List RateStep) → Holds o (λ s. x < s.at) → up_to x steps ≡ [] → up_to x (cons_option o steps) ≡ []
dropped x None steps late none = none
dropped x (Some s) steps late none = ap (λ (b : Bool). if b then s ∷ up_to x steps else up_to x steps) (lt-leb s.at x late) ∙ none

holds_later : (x time : ℕ) (o : Option RateStep) → x < time → Holds o (λ s. s.at ≡ time) → Holds o (λ s. x < s.at)
holds_later x time None lt h = tt
holds_later x time (Some s) lt h = omega (arith, lt, h)

no_steps : (x t : ℕ) (device : DeviceId) (more : List Event) → x < t → AreFrom t more → up_to x (rate_steps more device) ≡ []
no_steps x t device [] lt from = refl
no_steps x t device (e ∷ more) lt from =
    let late = from 0 e refl in
    dropped x (step_by device (amount e.time) e.what) (rate_steps more device)
    (holds_later x (amount e.time) (step_by device (amount e.time) e.what) (omega (arith, lt, late)) (step_at device (amount e.time) e.what))
    (no_steps x t device more lt (λ k d is. from (suc k) d is))

-- a clock reads what it read
reads_still : (network : Network) (events more : List Event) (device : DeviceId) (x t : ℕ) → x < t → AreFrom t more
    → clock_reading network events device x ≡ clock_reading network (events ++ more) device x
reads_still network events more device x t lt from =
    let f = λ (e : Event). step_by device (amount e.time) e.what in
    let parts : up_to x (rate_steps (events ++ more) device) ≡ up_to x (rate_steps events device) =
    ap (up_to x) (filter_map-append f events more) ∙ filter-append (λ s. nat_le s.at x) (rate_steps events device) (rate_steps more device)
    ∙ ap (λ (l : List RateStep). up_to x (rate_steps events device) ++ l) (no_steps x t device more lt from)
    ∙ append-nil (up_to x (rate_steps events device)) in
    ap (λ l. segment_reading (value_after stepped_segment (fresh_segment (amount network.grain)) l) x) (sym parts)

pub no_events : (u t : ℕ) (more : List Event) → u < t → AreFrom t more → filter (λ e. nat_le (amount e.time) u) more ≡ []
no_events u t [] lt from = refl
no_events u t (e ∷ more) lt from =
    let late = from 0 e refl in
    let rest = no_events u t more lt (λ k d is. from (suc k) d is) in
    ap (λ (b : Bool). if b then e ∷ filter (λ d. nat_le (amount d.time) u) more else filter (λ d. nat_le (amount d.time) u) more)
    (lt-leb (amount e.time) u (omega (arith, lt, late)))
    ∙ rest

agree : (network : Network) (events more : List Event) (t u : ℕ) → u < t → AreFrom t more
    → Agree network (clock_reading network events) (clock_reading network (events ++ more)) events (events ++ more) u
agree network events more t u lt from = record {
  reads = λ device x le. reads_still network events more device x t (omega (arith, le, lt)) from;
  befell = λ v le. sym (filter-append (λ e. nat_le (amount e.time) v) events more
      ∙ ap (λ (l : List Event). filter (λ e. nat_le (amount e.time) v) events ++ l) (no_events v t more (omega (arith, le, lt)) from)
      ∙ append-nil (filter (λ e. nat_le (amount e.time) v) events));
}

-- the run up to the next event lasts, where the events before it have no end and those behind it are not earlier
pub lasts_under : (network : Network) (events : List Event) (event : Event) (others : List Event) {mark : List ℕ}
    (notes : List Note) → AreFrom (amount event.time) (event ∷ others) → (HaveEnded events → ⊥)
    → ((p : List ℕ) → IsBefore p mark → IsBefore p (place_of_event events event))
    → AreRecordsBefore network events mark notes → AreRecordsBefore network (events ++ event ∷ others) mark notes
lasts_under network events event others {mark} notes from unended sooner run =
    run_stays_under_more network (clock_reading network events) (clock_reading network (events ++ event ∷ others)) events event others mark notes
    (record {
      agree = λ t lt. agree network events (event ∷ others) (amount event.time) t lt from;
      running = λ time ends. unended (have_ended events time ends);
      in_order = from;
      sooner = sooner;
    }) run

-- ---- admitted events

pub lasts : (network : Network) (octets : List ℕ) (events : List Event) (event : Event) (others : List Event)
    {mark : List ℕ} (notes : List Note) → AreAdmitted network octets (events ++ event ∷ others)
    → ((p : List ℕ) → IsBefore p mark → IsBefore p (place_of_event events event))
    → AreRecordsBefore network events mark notes → AreRecordsBefore network (events ++ event ∷ others) mark notes
lasts network octets events event others notes all sooner run =
    let order = (admitted_in_order network octets (events ++ event ∷ others) all).order in
    let from : AreFrom (amount event.time) (event ∷ others) = λ k e is. not_earlier 0 events others event k e order is in
    lasts_under network events event others notes from (all events others event refl).has.is_open.unended sooner run

-- ---- what the answer of `run` begins with: the reports of the fronts of its run: reports

begin_further : (lines front more : List (List ℕ)) → BeginWith front more → BeginWith lines front → BeginWith lines more
begin_further lines front more a b = (a.0 ++ b.0, b.1 ∙ ap (λ (t : List (List ℕ)). t ++ b.0) a.1 ∙ append_assoc more a.0 b.0)

report_begins : (network : Network) (notes front rest : List Note) → notes ≡ front ++ rest → BeginWith (report_of network notes) (report_of network front)
report_begins network notes front rest order = (report_of network rest, ap (report_of network) order ∙ map-append (note_line network) front rest)

-- ---- the records so far

-- what is before a place of the last event's time is up to the end
pub up_to_end : (octets : List ℕ) (network : Network) (events : List Event) (time : Units) → AreAdmitted network octets events → EndsAt events time
    → (p : List ℕ) → IsBefore p (behind_events (amount (last_time events))) → IsBefore p ((amount time + 1) ∷ [])
up_to_end octets network events time all ends p before =
    let last = (admitted_in_order network octets events all).last time ends in
    subst (λ t. IsBefore p ((amount t + 1) ∷ [])) (sym last) (before_next_time p (amount (last_time events)) (2 ∷ []) before)

-- ---- what an answer begins with

-- an answer of all admitted events begins with the records of their run up to a place of the last event's time
stopped_begins : {network : Network} {octets : List ℕ} {events : List Event} {mark : List ℕ} (notes : List Note)
    {a : Answer} → AreAdmitted network octets events → ((p : List ℕ) → IsBefore p mark
    → IsBefore p (behind_events (amount (last_time events)))) → AreRecordsBefore network events mark notes
    → AnswersEither report_lines network octets events a → BeginWith a.lines (report_of network notes)
stopped_begins {network} {octets} {events} {mark} notes all low run (inl w) =
    let r = earlier_run_is_front network (clock_reading network events) events mark ((amount w.records.0 + 1) ∷ []) notes w.notes
    (λ p b. up_to_end octets network events w.records.0 all w.records.1 p (low p b)) run w.records.2 in
    let report = report_begins network w.notes notes r.0 r.1 in
    (report.0, ap (λ (b : Answer). b.lines) w.answer ∙ report.1)
stopped_begins {network} {events} {mark} notes {a} all low run (inr f) =
    let r =
    earlier_run_is_front network (clock_reading network events) events mark (behind_events (amount (last_time events))) notes f.notes low run f.records in
    let report = report_begins network f.notes notes r.0 r.1 in
    begin_further a.lines (report_of network f.notes) (report_of network notes) report
    (fault_lines (length events + 1) f.fault, ap (λ (b : Answer). b.lines) f.answer)

module _ (network : Network) (octets : List ℕ) (events : List Event) where
  -- the place of an event's record is one of the last event's time at most
  pub place_low : (others : List Event) (event : Event) → AreAdmitted network octets (events ++ event ∷ others)
      → (p : List ℕ) → IsBefore p (place_of_event events event)
      → IsBefore p (behind_events (amount (last_time (events ++ event ∷ others))))
  place_low others event all p b =
      low _ _ p (no_further (amount event.time) _ (length events + 1)
      (last_of events others event (admitted_in_order network octets _ all).order) p b)
    where
      low : (t line : ℕ) (p : List ℕ) → IsBefore p (t ∷ 1 ∷ line ∷ []) → IsBefore p (behind_events t)
      low t line [] b = tt
      low t line (x ∷ []) (inl lt) = inl lt
      low t line (x ∷ []) (inr b) = inr (b.0, tt)
      low t line (x ∷ r ∷ more) (inl lt) = inl lt
      low t line (x ∷ r ∷ more) (inr (e, inl lt)) = inr (e, inl (omega (arith, lt)))
      low t line (x ∷ r ∷ more) (inr (e, inr (f, b))) = inr (e, inl (omega (arith, f)))

  -- the answer begins with the records up to the place of a next event that is admitted
  pub next_begins : (event : Event) {mark : List ℕ} (notes : List Note) {a : Answer}
      → AreAdmitted network octets (events ++ event ∷ [])
      → ((p : List ℕ) → IsBefore p mark → IsBefore p (place_of_event events event))
      → AreRecordsBefore network events mark notes → IsRunAnswer octets network a
      → BeginWith a.lines (report_of network notes)
  next_begins event notes {a} all sooner run i =
      let stop = answer_stops report_lines network octets i.events a i.is in
      let more = admitted_one network octets (events ++ event ∷ []) i.events all i.admitted stop in
      let whole : i.events ≡ events ++ event ∷ more.0 = more.1 ∙ append_assoc events (event ∷ []) more.0 in
      let admitted = subst (AreAdmitted network octets) whole i.admitted in
      stopped_begins notes admitted
      (λ p b. place_low more.0 event admitted p (sooner p b))
      (lasts network octets events event more.0 notes admitted sooner run)
      (subst (λ es. AnswersEither report_lines network octets es a) whole i.is)

  -- it begins with the records so far, of whichever first events
  pub answer_begins : (notes : List Note) {a : Answer} → AreAdmitted network octets events
      → AreRecordsSoFar network events notes → IsRunAnswer octets network a
      → BeginWith a.lines (report_of network notes)
  answer_begins notes {a} all run i =
      let stop = answer_stops report_lines network octets i.events a i.is in
      let more = admitted_one network octets events i.events all i.admitted stop in
      by more.0 more.1
    where
      by : (more : List Event) → i.events ≡ events ++ more → BeginWith a.lines (report_of network notes)
      by [] whole =
          let same : i.events ≡ events = whole ∙ append-nil events in
          stopped_begins notes all (λ p b. b) run
          (subst (λ es. AnswersEither report_lines network octets es a) same i.is)
      by (event ∷ others) whole =
          let admitted = subst (AreAdmitted network octets) whole i.admitted in
          let order = admitted_in_order network octets (events ++ event ∷ others) admitted in
          let le = last_before events others event order.order in
          let one = front_admitted network octets events event others admitted in
          next_begins event notes one
          (no_further (amount (last_time events)) (amount event.time) (length events + 1) le)
          (so_far_at network events notes run) i

  -- ---- where a trace ends with its end

  -- it begins with the records up to any mark that is not behind the end
  pub ended_begins : {mark : List ℕ} (notes : List Note) {a : Answer} → IsAllAdmitted network octets events
      → ((p : List ℕ) → IsBefore p mark → IsBefore p ((amount (last_time events) + 1) ∷ []))
      → AreRecordsBefore network events mark notes → IsRunAnswer octets network a
      → BeginWith a.lines (report_of network notes)
  ended_begins {mark} notes {a} all up run i =
      let w = all_is_whole report_lines network octets events a all i in
      let last = (admitted_in_order network octets events all.admitted).last w.records.0 w.records.1 in
      let later = subst (λ t. AreRecordsBefore network events ((amount t + 1) ∷ []) w.notes) last
      w.records.2 in
      let rest = earlier_run_is_front network (clock_reading network events) events mark
      ((amount (last_time events) + 1) ∷ []) notes w.notes up run later in
      let report = report_begins network w.notes notes rest.0 rest.1 in
      (report.0, ap (λ (b : Answer). b.lines) w.answer ∙ report.1)

-- ---- what a command over a trace writes is of a run that is safe: what the laws on runs ask

all_parts : {X : Type 0} (P : X → Type 0) (xs : List X) → ((before behind : List X) (x : X) → xs ≡ before ++ x ∷ behind → P x) → All P xs
all_parts P [] h = All-nil P
all_parts P (x ∷ xs) h = All-cons P x xs (h [] xs x refl) (all_parts P xs (λ before behind y e. h (x ∷ before) behind y (ap (λ t. x ∷ t) e)))

-- admitted events of an accepted network are such as they ask for
pub admitted_under : {octets : List ℕ} (trace : List ℕ) {network : Network} (events : List Event) → IsInRange network
    → MeansAccepted octets network → AreAdmitted network trace events → IsUnder network events
admitted_under trace {network} events range accepted all = record {
  range = range;
  rules = accepted.rules;
  of_network =
      all_parts (λ (e : Event). IsOfNetwork network e.what) events
      (λ before behind e order. read_of_network network (first_line (behind_lines (length before) trace)) e (all before behind e order).has.read);
  times =
      all_parts IsEventInRange events
      (λ before behind e order. event_in_range network (first_line (behind_lines (length before) trace)) e (all before behind e order).has.read);
  within = λ before behind e order. (all before behind e order).within;
}

-- the run up to the time of the last event, this time and all
begins_run : {network : Network} {events : List Event} (notes : List Note) → IsUnder network events
    → AreRecordsSoFar network events notes → BeginsRunTo network events (amount (last_time events)) notes
begins_run {network} {events} notes under records =
    let time = amount (last_time events) in
    let mark : List ℕ = (time + 1) ∷ [] in
    let there = records_before events mark under.range in
    let front = earlier_run_is_front network (clock_reading network events) events (behind_events time) mark notes there.0
    (λ p b. before_next_time p time (2 ∷ []) b) records there.1 in
    record {
      whole = there.0;
      coming = front.0;
      parts = front.1;
      run = there.1;
      well = own fresh_segment stepped_segment segment_reading exact_laws exact_begins network events time there.0 under
          (last_in_time under) there.1;
    }

-- ---- what is told of a run of an accepted network

module _ (octets trace : List ℕ) (network : Network) (range : IsInRange network) (accepted : MeansAccepted octets network) where
  module _ (events : List Event) (admitted : AreAdmitted network trace events) (notes : List Note) where
    pub good_run : AreAllRecords network events notes → IsGoodRun network events notes
    good_run records =
        ended fresh_segment stepped_segment segment_reading exact_laws exact_begins network events records.0 notes
        (admitted_under trace events range accepted admitted) records.1 records.2

    pub good_before : AreRecordsSoFar network events notes → IsGoodRunBefore network events notes
    good_before records =
        so_far fresh_segment stepped_segment segment_reading exact_laws exact_begins network events notes
        (admitted_under trace events range accepted admitted) records

    pub of_whole : (Tells : (n : Network) (es : List Event) (ns : List Note) → IsGoodRun n es ns → Type 0) (records : AreAllRecords network events notes)
        → Tells network events notes (good_run records) → OfWholeRun octets trace Tells
    of_whole Tells records tells = record {
      network = network;
      accepted = accepted;
      events = events;
      admitted = admitted;
      notes = notes;
      run = good_run records;
      tells = tells;
    }

    pub of_fault : (Tells : (n : Network) (es : List Event) (f : TraceFault) (ns : List Note) → IsGoodRunBefore n es ns → Type 0) (fault : TraceFault)
        → IsFault network events (behind_lines (length events) trace) fault → (records : AreRecordsSoFar network events notes)
        → Tells network events fault notes (good_before records) → OfRunToFault octets trace Tells
    of_fault Tells fault there records tells = record {
      network = network;
      accepted = accepted;
      events = events;
      admitted = admitted;
      fault = fault;
      there = there;
      notes = notes;
      run = good_before records;
      begins = begins_run notes (admitted_under trace events range accepted admitted) records;
      tells = tells;
    }

-- ---- answers

module _ (IsWhole IsToFault IsRefusal : List (List ℕ) → Type 0) where
  -- the answer is safe
  abbrev pub IsSafe : Answer → Type 0
  IsSafe a = IsSafeAnswer (PutsOfRun IsWhole IsToFault) (λ lines. IsWhole lines ⊎ IsToFault lines ⊎ IsRefusal lines) a

  -- that to the end of a trace
  pub whole_safe : (lines : List (List ℕ)) (a : Answer) → a ≡ record { status = Done; lines = lines } → IsWhole lines → IsSafe a
  whole_safe lines a is whole = subst IsSafe (sym is) (record { safe = inl (inl whole); whole = λ old new puts. (lines, whole, puts) })

  puts_to_fault : (fault : TraceFault) (old new : Shown) → PutsSo IsToFault PutsLines old new → PutsOfRun IsWhole IsToFault (fault_status fault) old new
  puts_to_fault Missing old new puts = puts
  puts_to_fault TooMany old new puts = inl puts
  puts_to_fault After old new puts = puts
  puts_to_fault Long old new puts = puts
  puts_to_fault (Line refusal) old new puts = puts
  puts_to_fault (Outlaw outside) old new puts = puts

  -- that to its fault
  pub fault_safe : (fault : TraceFault) (lines : List (List ℕ)) (a : Answer) → a ≡ record { status = fault_status fault; lines = lines } → IsToFault lines
      → IsSafe a
  fault_safe fault lines a is there =
      subst IsSafe (sym is) (record { safe = inl (inr (inl there)); whole = λ old new puts. puts_to_fault fault old new (lines, there, puts) })

  puts_none : (lines : List ℕ → List (List ℕ)) (cause : NoNetwork) (old new : Shown) → PutsLines (answer_by lines cause).lines old new
      → PutsOfRun IsWhole IsToFault (answer_by lines cause).status old new
  puts_none lines causes.ReadFault old new puts = tt
  puts_none lines causes.TooLong old new puts = inr puts
  puts_none lines causes.OutOfMemory old new puts = tt
  puts_none lines (causes.File refusal) old new puts = tt
  puts_none lines (causes.Rule told) old new puts = tt

  -- that where there is no accepted network
  pub without_safe : (lines : List ℕ → List (List ℕ)) → ((reason : List ℕ) → IsRefusal (lines reason)) → (cause : NoNetwork) → IsSafe (answer_by lines cause)
  without_safe lines refusal cause = none_safe _ _ lines (λ reason. inr (inr (refusal reason))) (puts_none lines) cause

  -- that of a command that puts lines of the run
  pub trace_safe : (lines : LinesOf) (trace : List ℕ) (network : Network)
      → ((events : List Event) (notes : List Note) → AreAdmitted network trace events → AreAllRecords network events notes
      → IsWhole (lines network events notes)) → ((events : List Event) (notes : List Note) (fault : TraceFault) → AreAdmitted network trace events
      → IsFault network events (behind_lines (length events) trace) fault → AreRecordsSoFar network events notes
      → IsToFault (lines network events notes ++ fault_lines (length events + 1) fault)) → (a : Answer) → IsTraceAnswer lines trace network a → IsSafe a
  trace_safe lines trace network whole fault a i =
      elim i.is [
        | inl all ↦ whole_safe _ a all.answer (whole i.events all.notes i.admitted all.records)
        | inr some ↦ fault_safe some.fault _ a some.answer (fault i.events some.notes some.fault i.admitted some.is some.records)
      ]

-- ---- for the octets of a network file and of a trace

module _ (IsWhole IsToFault : List ℕ → List ℕ → List (List ℕ) → Type 0) (IsRefusal : List (List ℕ) → Type 0) (lines : List ℕ → List (List ℕ))
    (refusal : (reason : List ℕ) → IsRefusal (lines reason)) (first second : Option (List ℕ)) (status : Status) (old new : Shown) where
  -- where there is an accepted network
  pub safely_accepted : (network : Network) (IsAnswer : List ℕ → Answer → Type 0)
      → ((octets trace : List ℕ) (a : Answer) → MeansAccepted octets network → IsAnswer trace a
      → IsSafe (IsWhole octets trace) (IsToFault octets trace) IsRefusal a) → ForOctets first (λ octets. MeansAccepted octets network)
      → ForOctets second (λ trace. GivesAnswer (IsAnswer trace) status old new) → RunsSafely IsWhole IsToFault IsRefusal first second status old new
  safely_accepted network IsAnswer safe means g =
      for_more first (λ octets. MeansAccepted octets network) _
      (λ octets m. for_more second (λ trace. GivesAnswer (IsAnswer trace) status old new) _
      (λ trace h. puts_safely _ _ (lines []) (inr (inr (refusal []))) old new status
      (answer_widened (IsAnswer trace) (IsSafe (IsWhole octets trace) (IsToFault octets trace) IsRefusal) status old new (λ a is. safe octets trace a m is) h))
      g) means

  -- where there is none
  pub safely_refused : (cause : NoNetwork) → Gives (answer_by lines cause) status old new → RunsSafely IsWhole IsToFault IsRefusal first second status old new
  safely_refused cause g =
      for_all first _ (λ octets. for_all second _ (λ trace. puts_safely _ _ (lines []) (inr (inr (refusal []))) old new status
      (inl (answer_by lines cause, without_safe (IsWhole octets trace) (IsToFault octets trace) IsRefusal lines refusal cause, g))))

-- ---- what `run` writes

pub report_safe : {octets trace : List ℕ} {network : Network} (IsRefusal : List (List ℕ) → Type 0)
    → IsInRange network → {a : Answer} → MeansAccepted octets network → IsRunAnswer trace network a
    → IsSafe (IsWholeReport octets trace) (IsReportToFault octets trace) IsRefusal a
report_safe {octets} {trace} {network} IsRefusal range {a} m is =
    trace_safe (IsWholeReport octets trace) (IsReportToFault octets trace) IsRefusal report_lines trace network
    (λ events notes admitted records. of_whole octets trace network range m events admitted notes _ records refl)
    (λ events notes fault admitted there records. of_fault octets trace network range m events admitted notes _ fault there records refl) a is

-- ---- the devices, links and virtual links of a record of a run are the network's: links and devices

received_link : (network : Network) (way : Way) (link : LinkId) (device : DeviceId) (f : Link → DeviceId) → option_map f (link_at network link) ≡ Some device
    → link.0 < length network.link
received_link network way link device f e = by (link_at network link) refl e
  where
    by : (o : Option Link) → link_at network link ≡ o → option_map f o ≡ Some device → link.0 < length network.link
    by None is e = absurd cc
    by (Some l) is e = slice_get_within network.link link.0 l is

-- where something arrives
arrives_at : {s : Scenario} {h : Happening} {device : DeviceId} {link : LinkId} {t : ℕ} {signal : Signal}
    → IsInRange s.network → Arrives s h device link t signal → HasPassage s.network device link
arrives_at {s} {device} {link} range a =
    (receiver_in s.network a.way link (link_at s.network link) device refl range a.receiver, received_link s.network a.way link device _ a.receiver)

module _ (s : Scenario) (hs : List Happening) (device : DeviceId) (t : ℕ) (link : LinkId) (cause : ℕ) where
  arrived_at : {clock : ℕ} → IsInRange s.network → IsArrivedRecord s hs device t link cause clock
      → HasPassage s.network device link
  arrived_at range c = elim c.taken [
    | inl w ↦ arrives_at range w.arrives
    | inr (inl p) ↦ arrives_at range p.arrives
    | inr (inr b) ↦ arrives_at range b.arrives
  ]

  departs_at : {is : Departure} → IsInRange s.network → Departs s hs device t link cause is
      → HasPassage s.network device link
  departs_at range d =
      (gives_in s.network d.giving.note.body device link range d.gives, gives_within s.network d.giving.note.body device link d.gives)

source_by_in : {network : Network} (way : Way) {l : Link} → IsLinkInRange network l
    → (source_by way l).0 < length network.device
source_by_in Up range = range.child
source_by_in Down range = range.parent

source_in : {network : Network} {place : ℕ} {entry : Entry} (device : DeviceId) → IsInRange network
    → IsEntry network place entry → source_of entry ≡ device → device.0 < length network.device
source_in {network} {entry} device range is leaves =
    subst (λ (d : DeviceId). d.0 < length network.device) leaves
    (source_by_in entry.row.way (all_at (IsLinkInRange network) network.link entry.row.link.0 entry.link range.links
    is.link))

module _ (s : Scenario) (hs : List Happening) (device : DeviceId) (t : ℕ) (link : LinkId) (cause : ℕ) where
  -- where a row's frame is dispatched
  dispatched_at : {vl : VlId} {cycle : ℕ} → IsInRange s.network → Dispatches s hs device t link cause vl cycle
      → HasStream s.network device link vl
  dispatched_at {vl} range d =
      let there : link.0 < length s.network.link =
      subst (λ (l : LinkId). l.0 < length s.network.link) d.by
      (slice_get_within s.network.link d.entry.row.link.0 d.entry.link d.row.link) in
      let stream : vl.0 < length s.network.vl =
      subst (λ (v : VlId). v.0 < length s.network.vl) d.of_vl
      (slice_get_within s.network.vl d.entry.row.vl.0 d.entry.vl d.row.vl) in
      (source_in device range d.row d.leaves, there, stream)

  -- ---- a record

  -- the record of a frame that was taken came in by a passage of the network
  arrival_at : {is : _} → IsInRange s.network → ArrivesAs s hs device t link cause is
      → HasPassage s.network device link
  arrival_at range a = arrives_at range a.arrives

module _ (s : Scenario) (hs : List Happening) where
  -- what is permanent arrived
  permanent_at : (h : Happening) (device : DeviceId) (link : LinkId) (cause clock : ℕ) → IsInRange s.network
      → IsFounded place_of (IsDue s) hs → IsIn h hs → h.note.body ≡ kinds.Arrived device link cause clock
      → HasPassage s.network device link
  permanent_at h device link cause clock range founded i is =
      let at = parted h hs i in
      let due = (founded at.0 at.1 h at.2).1 in
      arrived_at s at.0 device (time_of h) link cause range (subst (IsCaused s at.0 h.note.time) is due.cause)

  body_of : (time : Units) (body : NoteBody) → IsInRange s.network → AreEventsOf s.network s.events
      → IsFounded place_of (IsDue s) hs → ((device : DeviceId) → moves device body ≡ true
      → device.0 < length s.network.device) → IsCaused s hs time body → IsBodyOf s.network body
  body_of time (kinds.Event line what) range all founded own c =
      let mine : IsOfNetwork s.network c.event.what =
      all_at (λ e. IsOfNetwork s.network e.what) s.events c.before c.event all c.is in
      subst (λ w. IsOfNetwork s.network w) (sym c.same) mine
  body_of time (kinds.Arrived device link cause clock) range all founded own c =
      arrived_at s hs device (amount time) link cause range c
  body_of time (kinds.Permanent device link cause point verdict) range all founded own c =
      let p = c.permanent in
      permanent_at p.arrival device link p.from p.clock range founded (numbered_in hs cause p.arrival p.there) p.arrived
  body_of time (kinds.Compressed device opened at cycle members verdict) range all founded own c =
      device_there s.network _ device c.cm
  body_of time (kinds.Sent device cycle) range all founded own c = device_there s.network _ device c.master
  body_of time (kinds.Corrected device cycle by adjustment) range all founded own c =
      own device (eq-eqb device.0 device.0 refl)
  body_of time (kinds.State device state cause why) range all founded own c = own device (eq-eqb device.0 device.0 refl)
  body_of time (kinds.Left device link cause clock) range all founded own c =
      departs_at s hs device (amount time) link cause range c
  body_of time (kinds.Lost device link cause) range all founded own (inl d) =
      departs_at s hs device (amount time) link cause range d
  body_of time (kinds.Lost device link cause) range all founded own (inr (inl d)) =
      let at = dispatched_at s hs device (amount time) link cause range d.2 in (at.0, at.1)
  body_of time (kinds.Lost device link cause) range all founded own (inr (inr l)) = (
    subst (λ (d : DeviceId). d.0 < length s.network.device) (sym l.by)
        (all_at (IsLinkInRange s.network) s.network.link link.0 l.way range.links l.there).child,
    slice_get_within s.network.link link.0 l.way l.there,
  )
  body_of time (kinds.TtSent device link cause vl cycle) range all founded own c =
      dispatched_at s hs device (amount time) link cause range c.dispatches
  body_of time (kinds.Accepted device link cause vl cycle) range all founded own c =
      let at = arrival_at s hs device (amount time) link cause range c in
      let it = taken_at s hs device (amount time) link cause vl cycle c in
      let stream = subst (λ (v : VlId). v.0 < length s.network.vl) it.of_vl
      (slice_get_within s.network.vl it.entry.row.vl.0 it.entry.vl it.is.vl) in
      (at.0, at.1, stream)
  body_of time (kinds.Delivered device link cause vl cycle) range all founded own c =
      let at = arrival_at s hs device (amount time) link cause range c in
      (at.0, at.1, delivered_of s hs device (amount time) link cause vl cycle c)
  body_of time (kinds.Dropped device link cause reason) range all founded own (inl a) =
      arrival_at s hs device (amount time) link cause range a
  body_of time (kinds.Dropped device link cause reason) range all founded own (inr (inl r)) =
      let p = r.1.permanent in
      permanent_at p.arrival device link p.from p.clock range founded (numbered_in hs cause p.arrival p.there) p.arrived
  body_of time (kinds.Dropped device link cause reason) range all founded own (inr (inr d)) =
      departs_at s hs device (amount time) link cause range d.0
  body_of time (kinds.Clock device reading adjustment state) range all founded own c =
      slice_get_within s.network.device device.0 c.is c.there

  -- the front of founded records is founded
  front_founded : (more : List Happening) → IsFounded place_of (IsDue s) (hs ++ more)
      → IsFounded place_of (IsDue s) hs
  front_founded more founded ps qs x e =
      founded ps (qs ++ more) x (ap (λ (l : List Happening). l ++ more) e ∙ append_assoc ps (x ∷ qs) more)

-- the last record of a run, of which no record moves a device that the network does not have
pub note_of : {s : Scenario} {mark : List ℕ} (notes : List Note) (note : Note) (coming : List Happening)
    → IsInRange s.network → AreEventsOf s.network s.events → IsScenarioRun s mark (notes ++ note ∷ [])
    → AreOfNetwork s (happenings s.network (notes ++ note ∷ []) ++ coming) → IsNoteOf s.network note
note_of {s} notes note coming range all run known =
    let hs = happenings s.network notes in
    let h = happening s.network hs note in
    let whole = one_more s.network notes note in
    let there : IsIn h (happenings s.network (notes ++ note ∷ [])) = subst (λ l. IsIn h l) (sym whole) (in_right h hs (h ∷ []) (inl refl)) in
    let founded : IsFounded place_of (IsDue s) (hs ++ h ∷ []) = subst (IsFounded place_of (IsDue s)) whole run.founded in
    let own : (device : DeviceId) → moves device note.body ≡ true → device.0 < length s.network.device = λ device moved.
    elim (cases_lt device.0 (length s.network.device)) [
      | inl lt ↦ lt
      | inr ge ↦
          let still = known.unmoved device ge h (in_left h (happenings s.network (notes ++ note ∷ [])) coming there) in
          absurd (let bad : true ≡ false = sym moved ∙ still in cc)
    ] in
    body_of s hs note.time note.body range all (front_founded s hs (h ∷ []) founded) own (founded hs [] h refl).1.cause

-- ---- the observer of a report puts its lines along the run

-- what it sees
abbrev pub report_sees : {O : Type 0} → Sees O
report_sees network events notes instant old put it = PutsReport network notes old.told put

abbrev pub report_stops : {O : Type 0} → Stops O
report_stops network events notes cut old put = StopsReport network notes cut old.told put

report_short : (network : Network) (octets : List ℕ) (events : List Event) (next : Option Event) (befallen : List Event) (notes : List Note)
    → IsShortAt network octets events next befallen notes → IsFrontOf (IsTraceAnswer report_lines octets network) (report_of network notes)
report_short network octets events (Some event) befallen notes at a is = elim at.1 [
  | inl way ↦ next_begins network octets events event notes at.0 way.1.sooner way.1.run is
  | inr own ↦ answer_begins network octets befallen notes (subst (AreAdmitted network octets) (sym own.0) at.0) own.1 is
]
report_short network octets events None befallen notes at a is =
    let up = at.2 in ended_begins network octets events notes at.0 up.up_to up.run is

pub report_along : {O : Type 0} (begun : O) → PutsAlong begun report_sees report_stops report_lines (IsTraceAnswer report_lines)
report_along begun = record {
  at_first = λ network. refl;
  so_far = λ network events notes old put o run seen. seen;
  all = λ network octets events notes old put o admitted run seen. seen;
  front = λ network octets events notes all run a is. answer_begins network octets events notes all run is;
  short = λ network octets events next befallen notes cut old put at stops. (
    report_of network notes,
    stops,
    report_short network octets events next befallen notes at,
  );
}

-- ---- the lines of a report put one after another

-- the record that a world gave last is the network's
pub own_note : {network : Network} {events : List Event} (notes : List Note) (note : Note) {world : ExactWorld}
    → StandsExact network world events (notes ++ note ∷ []) → IsNoteOf network note
own_note notes note {world} stands =
    note_of notes note world.settled stands.is.range stands.of_network stands.is.run stands.is.known

report_one : (network : Network) (notes : List Note) (note : Note)
    → report_of network notes ++ note_line network note ∷ [] ≡ report_of network (notes ++ note ∷ [])
report_one network notes note = sym (map-append (note_line network) notes (note ∷ []))

-- what comes of the put of a line
pub record PutsNote {T K : Type 0} (sink : Ghosts K) (network : Network) (note : Note) (r : Result T Cut) (now new : K) : Type 0 where
  pub all : OnOk r (Appends (sink.written now) (sink.written new) (note_line network note) × (sink.faults new ≡ sink.faults now))
  pub front : OnErr r (AppendsFront (sink.written now) (sink.written new) (note_line network note) × Rose (sink.faults now) (sink.faults new))
  pub counted : sink.puts new ≡ next_count (sink.puts now)
  pub cut : IfErr r (λ cut. cut ≡ WriteFault)

module _ {T K : Type 0} (sink : Ghosts K) (network : Network) (notes : List Note) (note : Note) where
  -- it was put
  pub report_more : (x : T) (old : Told) {now new : K} → PutsReport network notes old (told_by sink now)
      → PutsNote {T = T} sink network note (Ok x) now new
      → PutsReport network (notes ++ note ∷ []) old (told_by sink new)
  report_more x old {now} {new} p n =
      subst (λ ls. PutsLines ls (shown_as old) (shown_as (told_by sink new)))
      (report_one network notes note)
      (PutsLines-more (note_line network note)
      (shown_as (told_by sink new)) p n.all.0
      n.counted)

  -- its put failed
  pub report_fails : (e : Cut) (old : Told) {now new : K} → PutsReport network notes old (told_by sink now)
      → PutsNote {T = T} sink network note (Err e) now new
      → StopsReport network (notes ++ note ∷ []) e old (told_by sink new)
  report_fails OutOfMemory old p n = absurd (let is = n.cut in cc)
  report_fails WriteFault old {now} {new} p n =
      inl (subst (λ ls. PutFails ls (shown_as old) (shown_as (told_by sink new)))
      (report_one network notes note)
      (PutsLines-fails (note_line network note) [] (shown_as (told_by sink new)) p
      n.front.0 n.counted))

  pub report_goes : (r : Result T Cut) (old : Told) {now new : K} → PutsReport network notes old (told_by sink now)
      → PutsNote sink network note r now new → MatchResult r
      (λ _. PutsReport network (notes ++ note ∷ []) old (told_by sink new))
      (λ cut. StopsReport network (notes ++ note ∷ []) cut old (told_by sink new))
  report_goes (Ok x) old p n = report_more x old p n
  report_goes (Err e) old p n = report_fails e old p n

module _ {T U K : Type 0} (sink : Ghosts K) (network : Network) (note : Note) where
  pub further_ok : (x : T) (y : U) {now new : K} → PutsNote {T = T} sink network note (Ok x) now new
      → PutsFurther {T = U} sink (Ok y) now new
  further_ok x y n = record { grew = (note_line network note, n.all.0); quiet = n.all.1; cause = tt {0} }

  pub further_err : (e : Cut) {now new : K} → PutsNote {T = T} sink network note (Err e) now new
      → PutsFurther {T = U} sink (Err e) now new
  further_err OutOfMemory n = absurd (let is = n.cut in cc)
  further_err WriteFault n =
      let f = n.front.0 in record { grew = (f.0, f.3); quiet = tt {0}; cause = n.front.1 }

pub further : {T K : Type 0} {sink : Ghosts K} {network : Network} {note : Note} (r : Result T Cut) {now new : K}
    → PutsNote sink network note r now new → PutsFurther sink r now new
further {sink} {network} {note} (Ok x) n = further_ok sink network note x x n
further {sink} {network} {note} (Err e) n = further_err sink network note e n

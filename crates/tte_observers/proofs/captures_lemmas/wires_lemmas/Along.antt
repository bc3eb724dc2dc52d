-- The capture of a way along a run that is safe: its header, the packets of each front, and how it ends.
use Rattle.std.{proofs.Common.append_assoc, specs.Io.KnownBytes.Appends}
use Rattle.drift_world.specs.Running.{behind_events, last_time}
use Rattle.net_plan.specs.{Bearers.{HasNoBearer, link_names}, Ranges.IsInRange}
use Rattle.run_law.{proofs.{records.Order.happenings_on, runs.NetworkRuns.{earlier_run_is_front, run_is_one}}}
use Rattle.run_law.{specs.records.Order.IsBefore}
use Rattle.tte_forms.proofs.{frames.Frames.Gives-behind}
use Rattle.tte_forms.proofs.Puts
use Puts.{PutsLines-fails, PutsLines-more, PutsSome-behind, WriteFails-behind, answer_widened, one_given, one_of}
use Rattle.tte_forms.specs.{Answering.{ForOctets, GivesAnswer, with_line}, Putting.{PutsSome, WriteFails}}
use Rattle.tte_forms.specs.{declared.status.Status.TheVariants.{Done, WriteFault}, networks.Accepting.MeansAccepted}
use Rattle.tte_io.specs.{Faults.next_count, Told.AppendsFront}
use Rattle.tte_observers.proofs.captures_lemmas.wires_lemmas.{Cuts.packets_stay, Seen.{at_start, whole}}
use Rattle.tte_observers.proofs.captures_lemmas.wires_lemmas.{Settled.{filter_has, settled_first, settled_sooner}}
use Rattle.tte_observers.proofs.captures_lemmas.wires_lemmas.Words
use Words.{◌++◌, ◌+◌, ◌∙◌, ◌∷◌, ◌≡◌, ◌⊎◌, AllBefore, Answer, AnswersAll, AreAdmitted, AreFrom, AreRecordsSoFar, Capture}
use Words.{EndsEither, Event, ExactWorld, Gives, GivesOne, Happening, IsCapture, IsHeaded, IsIn, IsNamed, LinkId, List}
use Words.{Network, None, Note, Option, PutFails, PutsLines, PutsLines-append, PutsLines-none, RunEnds, SeesWay, Shown}
use Words.{Some, Status, StopsWay, Told, Way, [], amount, ap, append-nil, capture_of, fault_status, filter_map-append}
use Words.{for_all, for_more, happenings, head_octets, inl, inr, is_settled, length, packet_of, packets_of, place_of}
use Words.{refl, scenario_under, sent_packets, settled, settled_lines, shown_as, shown_by, subst, sym, told_by, true}
use Words.{unsettled, way_lines, ℕ}
use Rattle.tte_observers.specs.captures.wires.{Answer.{IsWireAnswer, name_answer}}
use Rattle.tte_observers.specs.captures.wires.{Safely.{IsCaptureToFault, IsSilent, IsWholeCapture}}
use Rattle.tte_observers.specs.captures.wires.{Streaming.headed_lines}
use Rattle.tte_traces.proofs.{Answers.same_end, EventOrder.{last_before, not_earlier}}
use Rattle.tte_traces.proofs.Admitted
use Admitted.{IsStopped, admitted_in_order, admitted_one, end_has_no_fault, fault_one, fault_stops, front_admitted}
use Admitted.{stopped_one}
use Rattle.tte_traces.proofs.Ends.{done_no_read, fault_no_read, for_stopped, little_at, little_so_far, puts_shown}
use Rattle.tte_traces.proofs.Ends.{trace_ended, trace_stopped, writes_answer}
use Rattle.tte_traces.proofs.Runs
use Runs.{IsSafe, fault_safe, lasts, of_fault, of_whole, place_low, trace_answers_exist, up_to_end, whole_safe}
use Rattle.tte_traces.specs.{Along.{BeginWith, IsAllAdmitted, IsFrontOf, IsShortAt, PutsAlong}}
use Rattle.tte_traces.specs.{Answer.{AnswersFault, LinesOf}, Lines.{IsFault, behind_lines}}
use Rattle.tte_traces.specs.{Streaming.{ForTrace, StopsBehindLines, TakesLittle}, Taking.IsStopAt}
use Rattle.tte_traces.specs.{declared.{fault.{TraceFault.TraceFault, TraceStop.TraceStop}, lines.Trace.Trace}}
use Rattle.world_drive.{proofs.Earlier.{no_further, so_far_at}}
use Rattle.world_drive.specs.{Driving.{DrivesAll, DrivesSoFar}, Observing.{Sees, Stops, start_by}}
use Rattle.world_drive.specs.{exact.Records.{AreAllRecords, AreRecordsBefore, clock_reading}}
use Rattle.world_law.specs.source.Applying.{place_of_event}
use Rattle.tte_io.specs.declared.ends.Sink as sinks
use Rattle.tte_io.specs.declared.ends.Source as sources
use Rattle.tte_traces.specs.declared.fault.TraceStop.TheVariants as ends

-- ---- the capture of a run begins with the packets of the settled records of each front of it: a front of a run

-- the run goes on from these records to those, as further events befall the network, which come behind the first records
pub record GoesOnTo (network : Network) (events : List Event) (notes : List Note) (all : List Event) (others : List Note) : Type 0 where
  pub more : List Event
  pub rest : List Note
  pub events_are : all ≡ events ++ more
  pub notes_are : others ≡ notes ++ rest
  pub behind : (event : Event) (behind : List Event) → more ≡ event ∷ behind
      → AllBefore place_of (happenings network notes) (place_of_event events event) × AreFrom (amount event.time) (event ∷ behind)

module _ (link : LinkId) (way : Way) (network : Network) (events : List Event) (notes : List Note) (front left : List Happening)
    (parts : happenings network notes ≡ front ++ left)
    (settled : (h : Happening) → IsIn h front → is_settled (happenings network notes) h ≡ true) where
  -- the packets of settled records stay
  stay : (more : List Event) → ((event : Event) (behind : List Event) → more ≡ event ∷ behind
      → AllBefore place_of (happenings network notes) (place_of_event events event) × AreFrom (amount event.time) (event ∷ behind))
      → packets_of (scenario_under network (events ++ more)) link way front ≡ packets_of (scenario_under network events) link way front
  stay [] behind = ap (λ es. packets_of (scenario_under network es) link way front) (append-nil events)
  stay (event ∷ others) behind =
      let b = behind event others refl in
      packets_stay network events (event ∷ others) link way (amount event.time) front b.1
      (λ h i. settled_sooner (happenings network notes) (amount event.time) ((length events + 1) ∷ []) b.0 h (settled h i))

  -- so the capture begins with them
  pub begins : (all : List Event) (others : List Note) → GoesOnTo network events notes all others
      → BeginWith (capture_of network link way all others) (packets_of (scenario_under network events) link way front)
  begins all others on =
      let s = scenario_under network (events ++ on.more) in
      let f = packet_of s link way in
      let hs = happenings_on network notes on.rest in
      let whole : happenings network (notes ++ on.rest) ≡ front ++ (left ++ hs.0) =
      hs.1 ∙ ap (λ (l : List Happening). l ++ hs.0) parts ∙ append_assoc front left hs.0 in (
        packets_of s link way (left ++ hs.0),
        ap (λ es. capture_of network link way es others) on.events_are
            ∙ ap (λ ns. capture_of network link way (events ++ on.more) ns) on.notes_are ∙ ap (packets_of s link way) whole
            ∙ filter_map-append f front (left ++ hs.0)
            ∙ ap (λ (l : List (List ℕ)). l ++ packets_of s link way (left ++ hs.0)) (stay on.more on.behind),
      )

-- ---- the run of an answer

-- the events are all that are admitted, and the records those of the run up to a mark that is not before the place behind
-- the last event
pub record RunsOut (network : Network) (octets : List ℕ) (events : List Event) (notes : List Note) : Type 0 where
  pub admitted : AreAdmitted network octets events
  pub stopped : IsStopped network octets events
  pub mark : List ℕ
  pub high : (p : List ℕ) → IsBefore p (behind_events (amount (last_time events))) → IsBefore p mark
  pub run : AreRecordsBefore network events mark notes

-- the answer has the capture of such a run
pub record Captures (link : LinkId) (way : Way) (network : Network) (octets : List ℕ) (a : Answer) : Type 0 where
  pub events : List Event
  pub notes : List Note
  pub out : RunsOut network octets events notes
  pub lines : a.lines ≡ capture_of network link way events notes

module _ (link : LinkId) (way : Way) (network : Network) (octets : List ℕ) where
  -- behind the events of an answer no more are admitted
  pub either_stops : {events : List Event} {a : Answer} → EndsEither (way_lines link way) network octets events a
      → IsStopped network octets events
  either_stops (inl w) event admitted = admitted.has.is_open.some w.none_left
  either_stops {events} (inr f) event admitted =
      fault_stops network events (behind_lines (length events) octets) f.fault f.is admitted

  pub answer_captures : {a : Answer} → IsCapture link way octets network a → Captures link way network octets a
  answer_captures {a} i = by i.is
    where
      by : EndsEither (way_lines link way) network octets i.events a → Captures link way network octets a
      by (inl w) = record {
        events = i.events;
        notes = w.notes;
        out = record {
          admitted = i.admitted;
          stopped = either_stops {events = i.events} {a = a} (inl w);
          mark = (amount w.records.0 + 1) ∷ [];
          high = up_to_end octets network i.events w.records.0 i.admitted w.records.1;
          run = w.records.2;
        };
        lines = ap (λ (b : Answer). b.lines) w.answer;
      }
      by (inr f) = record {
        events = i.events;
        notes = f.notes;
        out = record {
          admitted = i.admitted;
          stopped = either_stops {events = i.events} {a = a} (inr f);
          mark = behind_events (amount (last_time i.events));
          high = λ p b. b;
          run = f.records;
        };
        lines = ap (λ (b : Answer). b.lines) f.answer;
      }

-- ---- it goes on from each front

module _ (network : Network) (octets : List ℕ) (events : List Event) where
  -- from the records on the way to a next event that is admitted
  pub next_goes : (event : Event) {mark : List ℕ} (notes : List Note) {all : List Event} {others : List Note}
      → AreAdmitted network octets (events ++ event ∷ [])
      → ((p : List ℕ) → IsBefore p mark → IsBefore p (place_of_event events event))
      → AreRecordsBefore network events mark notes → RunsOut network octets all others
      → GoesOnTo network events notes all others
  next_goes event {mark} notes {all} {others} admitted sooner run out =
      let more = admitted_one network octets (events ++ event ∷ []) all admitted out.admitted out.stopped in
      let whole : all ≡ events ++ event ∷ more.0 = more.1 ∙ append_assoc events (event ∷ []) more.0 in
      let o = subst (λ es. RunsOut network octets es others) whole out in
      let joined = events ++ event ∷ more.0 in
      let r = earlier_run_is_front network (clock_reading network joined) joined mark o.mark notes others
      (λ p b. o.high p (place_low network octets events more.0 event o.admitted p (sooner p b)))
      (lasts network octets events event more.0 notes o.admitted sooner run) o.run in
      let order = (admitted_in_order network octets joined o.admitted).order in
      record {
        more = event ∷ more.0;
        rest = r.0;
        events_are = whole;
        notes_are = r.1;
        behind = λ e behind is.
            let first : event ≡ e = cc in
            let later : more.0 ≡ behind = cc in (
              subst (λ x. AllBefore place_of (happenings network notes) (place_of_event events x)) first
                  (λ h i. sooner (place_of h) (run.within h i)),
              subst (λ (x : Event). AreFrom (amount x.time) (x ∷ behind)) first
                  (subst (λ (l : List Event). AreFrom (amount event.time) (event ∷ l)) later
                  (λ k d is. not_earlier 0 events more.0 event k d order is)),
            );
      }

  -- where no more events are admitted
  pub same_goes : {mark : List ℕ} (notes : List Note) {later : List ℕ} (others : List Note)
      → ((p : List ℕ) → IsBefore p mark → IsBefore p later) → AreRecordsBefore network events mark notes
      → AreRecordsBefore network events later others → GoesOnTo network events notes events others
  same_goes {mark} notes {later} others low run all =
      let r = earlier_run_is_front network (clock_reading network events) events mark later notes others low run all in
      record { more = []; rest = r.0; events_are = sym (append-nil events); notes_are = r.1; behind = λ e behind is. absurd cc }

  -- from the records so far, of whichever first events
  pub so_far_goes : (notes : List Note) {all : List Event} {others : List Note} → AreAdmitted network octets events
      → AreRecordsSoFar network events notes → RunsOut network octets all others
      → GoesOnTo network events notes all others
  so_far_goes notes {all} {others} admitted run out =
      let more = admitted_one network octets events all admitted out.admitted out.stopped in
      by more.0 more.1
    where
      by : (more : List Event) → all ≡ events ++ more → GoesOnTo network events notes all others
      by [] whole =
          let same : all ≡ events = whole ∙ append-nil events in
          let o = subst (λ es. RunsOut network octets es others) same out in
          subst (λ es. GoesOnTo network events notes es others) (sym same)
          (same_goes notes others o.high run o.run)
      by (event ∷ behind) whole =
          let joined = subst (AreAdmitted network octets) whole out.admitted in
          let order = admitted_in_order network octets (events ++ event ∷ behind) joined in
          next_goes event notes
          (front_admitted network octets events event behind joined)
          (no_further (amount (last_time events)) (amount event.time) (length events + 1)
          (last_before events behind event order.order))
          (so_far_at network events notes run) out

-- ---- where a trace ends with its end

module _ (link : LinkId) (way : Way) (network : Network) (octets : List ℕ) (events : List Event) where
  -- the answer is a whole one of these events
  pub all_whole : {a : Answer} → IsAllAdmitted network octets events → IsCapture link way octets network a
      → AnswersAll (way_lines link way) network octets events a
  all_whole {a} all i =
      let same = stopped_one network octets i.events events i.admitted (either_stops link way network octets i.is)
      all.admitted
      (λ event admitted. admitted.has.is_open.some all.none_left) in
      elim (subst (λ es. EndsEither (way_lines link way) network octets es a) same i.is) [
        | inl w ↦ w
        | inr f ↦ absurd (end_has_no_fault network events (behind_lines (length events) octets) f.fault all.none_left
            all.ended f.is)
      ]

  -- from the records up to any mark that is not behind the end
  pub ended_goes : {mark : List ℕ} (notes : List Note) {a : Answer} → IsAllAdmitted network octets events
      → ((p : List ℕ) → IsBefore p mark → IsBefore p ((amount (last_time events) + 1) ∷ []))
      → AreRecordsBefore network events mark notes → (w : AnswersAll (way_lines link way) network octets events a)
      → GoesOnTo network events notes events w.notes
  ended_goes notes all up run w =
      let last = (admitted_in_order network octets events all.admitted).last w.records.0 w.records.1 in
      let later = subst (λ t. AreRecordsBefore network events ((amount t + 1) ∷ []) w.notes) last
      w.records.2 in
      same_goes network octets events notes w.notes up run later

-- ---- the observer of a way puts the packets of the settled records along the run

-- what it sees
abbrev pub way_sees : Sees Capture
way_sees network events notes instant start put it = SeesWay network events notes start put it

abbrev pub way_stops : Stops Capture
way_stops network events notes cut start put = StopsWay network events notes cut start put

module _ (begun : Capture) where
  -- the answers of its way
  abbrev pub IsOwn : List ℕ → Network → Answer → Type 0
  IsOwn octets network a = IsCapture begun.link begun.way octets network a

  abbrev pub lines : LinesOf
  lines = settled_lines begun.link begun.way

  -- an answer begins with the packets of settled records, where its run goes on from them
  begins_so : (network : Network) (events all : List Event) (notes others : List Note) (front left : List Happening) (a : Answer)
      → happenings network notes ≡ front ++ left → ((h : Happening) → IsIn h front → is_settled (happenings network notes) h ≡ true)
      → GoesOnTo network events notes all others → a.lines ≡ capture_of network begun.link begun.way all others
      → BeginWith a.lines (packets_of (scenario_under network events) begun.link begun.way front)
  begins_so network events all notes others front left a parts held on is =
      let b = begins begun.link begun.way network events notes front left parts held all others on in (b.0, is ∙ b.1)

  seen_puts : (network : Network) (events : List Event) (notes : List Note) (old put : Told) (it : Capture)
      → SeesWay network events notes (record { told = old; observer = begun }) put it → PutsLines (lines network events notes) (shown_as old) (shown_as put)
  seen_puts network events notes old put it seen =
      let hs = happenings network notes in
      subst (λ ls. PutsLines ls (shown_as old) (shown_as put))
      (at_start network events hs (record { told = old; observer = begun }) put it seen events (settled hs)) seen.puts

  front_so : (network : Network) (octets : List ℕ) (events : List Event) (notes : List Note) → AreAdmitted network octets events
      → AreRecordsSoFar network events notes → IsFrontOf (IsOwn octets network) (lines network events notes)
  front_so network octets events notes admitted run a is =
      let c = answer_captures begun.link begun.way network octets is in
      let hs = happenings network notes in
      begins_so network events c.events notes c.notes (settled hs) (unsettled hs) a (settled_first hs (λ ps qs x is. (run.founded ps qs x is).0))
      (λ h i. filter_has (is_settled hs) hs h i) (so_far_goes network octets events notes admitted run c.out) c.lines

  short_so : (network : Network) (octets : List ℕ) (events : List Event) (next : Option Event) (befallen : List Event) (notes : List Note)
      (front left : List Happening) → happenings network notes ≡ front ++ left
      → ((h : Happening) → IsIn h front → is_settled (happenings network notes) h ≡ true) → IsShortAt network octets events next befallen notes
      → IsFrontOf (IsOwn octets network) (packets_of (scenario_under network befallen) begun.link begun.way front)
  short_so network octets events (Some event) befallen notes front left parts held at a is =
      let c = answer_captures begun.link begun.way network octets is in
      elim at.1 [
        | inl way ↦
            let goes = next_goes network octets events event notes at.0 way.1.sooner way.1.run c.out in
            subst (λ es. BeginWith a.lines (packets_of (scenario_under network es) begun.link begun.way front)) (sym way.0)
            (begins_so network events c.events notes c.notes front left a parts held goes c.lines)
        | inr own ↦
            let goes = so_far_goes network octets befallen notes (subst (AreAdmitted network octets) (sym own.0) at.0) own.1 c.out in
            begins_so network befallen c.events notes c.notes front left a parts held goes c.lines
      ]
  short_so network octets events None befallen notes front left parts held at a is =
      let up = at.2 in
      let w = all_whole begun.link begun.way network octets events at.0 is in
      let goes = ended_goes begun.link begun.way network octets events notes at.0 up.up_to up.run w in
      subst (λ es. BeginWith a.lines (packets_of (scenario_under network es) begun.link begun.way front)) (sym at.1)
      (begins_so network events events notes w.notes front left a parts held goes (ap (λ (b : Answer). b.lines) w.answer))

  pub way_along : PutsAlong begun way_sees way_stops lines IsOwn
  way_along = record {
    at_first = λ network. refl;
    so_far = λ network events notes old put o run seen. seen_puts network events notes old put o seen;
    all = λ network octets events notes old put o admitted run seen. seen_puts network events notes old put o seen;
    front = front_so;
    short = λ network octets events next befallen notes cut old put at stops. (
      packets_of (scenario_under network befallen) begun.link begun.way stops.front,
      stops.stops,
      short_so network octets events next befallen notes stops.front stops.rest stops.parts stops.settled at,
    );
  }

-- ---- how the capture of a way ends, where the drive came to its end or to a fault: the sends that wait are put, and all is
-- passed on.

-- ---- an answer is one

module _ (link : LinkId) (way : Way) (network : Network) (octets : List ℕ) (events : List Event) (notes : List Note) where
  -- that of a trace that is admitted to its end
  abbrev pub done_answer : Answer
  done_answer = record { status = Done; lines = capture_of network link way events notes }

  whole_is : (a : Answer) → IsAllAdmitted network octets events → AreAllRecords network events notes → IsCapture link way octets network a → a ≡ done_answer
  whole_is a all records i =
      let w = all_whole link way network octets events all i in
      let time = same_end network octets events w.records.0 records.0 all.admitted w.records.1 records.1 in
      let here = subst (λ t. AreRecordsBefore network events ((amount t + 1) ∷ []) w.notes) time w.records.2 in
      let same = run_is_one network (clock_reading network events) events ((amount records.0 + 1) ∷ []) w.notes notes here records.2 in
      w.answer ∙ ap (λ (ns : List Note). record { status = Done; lines = capture_of network link way events ns }) same

  pub whole_given : (status : Status) (old new : Shown) → IsAllAdmitted network octets events → AreAllRecords network events notes
      → Gives done_answer status old new → GivesOne (IsCapture link way octets network) status old new
  whole_given status old new all records g =
      one_given (IsCapture link way octets network) done_answer status old new
      (record {
        events = events;
        admitted = all.admitted;
        is = inl (record { ended = all.ended; none_left = all.none_left; notes = notes; records = records; answer = refl });
      })
      (λ a i. whole_is a all records i) g

  -- that of a trace with a fault
  abbrev pub fault_answer : TraceFault → Answer
  fault_answer fault = record { status = fault_status fault; lines = capture_of network link way events notes }

  module _ (fault : TraceFault) (admitted : AreAdmitted network octets events)
      (fails : IsFault network events (behind_lines (length events) octets) fault) (run : AreRecordsSoFar network events notes) where
    broken_alone : (a : Answer) → EndsEither (way_lines link way) network octets events a → a ≡ fault_answer fault
    broken_alone a (inl w) = absurd (end_has_no_fault network events (behind_lines (length events) octets) fault w.none_left w.ended fails)
    broken_alone a (inr f) =
        let faults = fault_one network events (behind_lines (length events) octets) f.fault fault f.is fails in
        let same = run_is_one network (clock_reading network events) events (behind_events (amount (last_time events))) f.notes notes f.records run in
        f.answer
        ∙ ap (λ (t : TraceFault). record { status = fault_status t; lines = capture_of network link way events f.notes }) faults
        ∙ ap (λ (ns : List Note). record { status = fault_status fault; lines = capture_of network link way events ns }) same

    broken : EndsEither (way_lines link way) network octets events (fault_answer fault)
    broken = inr (record { fault = fault; is = fails; notes = notes; records = run; answer = refl })

    broken_is : (a : Answer) → IsCapture link way octets network a → a ≡ fault_answer fault
    broken_is a i =
        let same = stopped_one network octets i.events events i.admitted (either_stops link way network octets i.is) admitted
        (either_stops link way network octets broken) in
        broken_alone a (subst (λ es. EndsEither (way_lines link way) network octets es a) same i.is)

    pub fault_given : (status : Status) (old new : Shown) → Gives (fault_answer fault) status old new
        → GivesOne (IsCapture link way octets network) status old new
    fault_given status old new g =
        one_given (IsCapture link way octets network) (fault_answer fault) status old new
        (record { events = events; admitted = admitted; is = broken }) (λ a i. broken_is a i) g

-- ---- the sends that wait are put behind the settled ones

all_gives : {K : Type 0} (sink : sinks.Ghosts K) {network : Network} {events : List Event} (notes : List Note)
    (begun : Capture) {it : Capture} (wanted status : Status) (old put new : K)
    → SeesWay network events notes (start_by sink old begun) (told_by sink put) it
    → Gives (record { status = wanted; lines = sent_packets it.cut it.time it.sends.items }) status
    (shown_by sink put) (shown_by sink new)
    → Gives (record { status = wanted; lines = capture_of network begun.link begun.way events notes }) status
    (shown_by sink old) (shown_by sink new)
all_gives sink {network} {events} notes begun {it} wanted status old put new seen g =
    let hs = happenings network notes in
    let start = start_by sink old begun in
    let front = packets_of (scenario_under network events) it.link it.way (settled hs) in
    let rest = sent_packets it.cut it.time it.sends.items in
    let puts = puts_shown sink front old put seen.puts in
    subst (λ (ls : List (List ℕ)). Gives (record { status = wanted; lines = ls }) status (shown_by sink old) (shown_by sink new))
    (whole network events hs start (told_by sink put) it seen ∙ at_start network events hs start (told_by sink put) it seen events hs)
    (Gives-behind (record { status = wanted; lines = rest }) status puts g)

module _ {B K : Type 0} (source : sources.Ghosts B) (sink : sinks.Ghosts K) (begun : Capture) (network : Network) (first : B) (origin : Trace) (now : B)
    (trace : Trace) (old put : K) where
  abbrev Ends : Status → K → Type 0
  Ends status new =
      RunEnds (λ octets. IsCapture begun.link begun.way octets network) (settled_lines begun.link begun.way) network (source.left first) (source.left now)
      status (shown_by sink old) (shown_by sink new)

  -- all events befell
  pub ends_all : {X : Type 0} (world : ExactWorld) (it : Capture) (status : Status) (new : K)
      → DrivesAll sink (trace_ended source) way_sees network first origin now trace world begun it old put
      → Gives (record { status = Done; lines = sent_packets it.cut it.time it.sends.items }) status (shown_by sink put) (shown_by sink new)
      → (status ≡ Done) ⊎ ((status ≡ WriteFault) × X) → Ends status new
  ends_all world it status new d g which = record {
    general =
        for_more (source.left first) (λ octets. AreAdmitted network octets d.events × (behind_lines (length d.events) octets ≡ []))
        (λ octets. GivesOne (IsCapture begun.link begun.way octets network) status (shown_by sink old) (shown_by sink new))
        (λ octets a.
        let all : IsAllAdmitted network octets d.events = record { admitted = a.0; ended = d.have_ended; none_left = a.1 } in
        whole_given begun.link begun.way network octets d.events d.notes status (shown_by sink old) (shown_by sink new) all d.records
        (all_gives sink d.notes begun Done status old put new d.sees g)) d.ended.some;
    cut = λ is. absurd (done_no_read status which is);
    little =
        little_so_far source sink begun way_sees way_stops (lines begun) (IsOwn begun) (way_along begun) network first origin now trace old put d.events
        (shown_by sink new) (λ octets told. let a = d.ended.all octets told in (a.0, a.1, a.2)) d.ended.few d.so_far
        (writes_answer (record { status = Done; lines = sent_packets it.cut it.time it.sends.items }) status g);
  }

  -- the trace has a fault
  pub ends_fault : {X : Type 0} (it : Capture) (stop : TraceStop) (fault : TraceFault) (status : Status) (new : K)
      → (d : DrivesSoFar sink (trace_stopped source sink) way_sees network first origin stop now trace begun it old put) → stop ≡ ends.Fault fault
      → (wanted : Status) → wanted ≡ fault_status fault
      → Gives (record { status = wanted; lines = sent_packets it.cut it.time it.sends.items }) status (shown_by sink put) (shown_by sink new)
      → (status ≡ wanted) ⊎ ((status ≡ WriteFault) × X) → Ends status new
  ends_fault {X} it stop fault status new d is wanted told g which =
      let gives = subst (λ (w : Status). Gives (record { status = w; lines = sent_packets it.cut it.time it.sends.items }) status (shown_by sink put)
      (shown_by sink new)) told g in
      record {
        general =
            for_stopped source sink begun way_sees way_stops (lines begun) (IsOwn begun) (way_along begun) network first origin now trace old put it stop d
            (λ octets. GivesOne (IsCapture begun.link begun.way octets network) status (shown_by sink old) (shown_by sink new))
            (λ octets admitted at.
            let behind : IsFault network d.events (behind_lines (length d.events) octets) fault =
            subst (IsStopAt network d.events (behind_lines (length d.events) octets)) is at in
            fault_given begun.link begun.way network octets d.events d.notes fault admitted behind d.so_far status (shown_by sink old) (shown_by sink new)
            (all_gives sink d.notes begun (fault_status fault) status old put new d.sees gives));
        cut = λ read. absurd (fault_no_read fault status (subst (λ (w : Status). (status ≡ w) ⊎ ((status ≡ WriteFault) × X)) told which) read);
        little =
            little_at source sink begun way_sees way_stops (lines begun) (IsOwn begun) (way_along begun) network first origin now trace old put it stop d
            (shown_by sink new)
            (writes_answer (record { status = wanted; lines = sent_packets it.cut it.time it.sends.items }) status g);
      }

-- ---- the answer of `wire` for a name: a name

module _ (link : LinkId) (way : Way) (octets : List ℕ) {network : Network} (range : IsInRange network) where
  -- there is an answer for each link and each trace
  capture_exists : (a : Answer) × IsCapture link way octets network a
  capture_exists =
      let t = trace_answers_exist (way_lines link way) network octets range in
      by t.1.events t.1.admitted t.1.is
    where
      by : {b : Answer} (events : List Event) → AreAdmitted network octets events
          → AnswersAll (way_lines link way) network octets events b ⊎ AnswersFault (way_lines link way) network
          octets events b
          → (a : Answer) × IsCapture link way octets network a
      by {b} events admitted (inl w) = (b, record { events = events; admitted = admitted; is = inl w })
      by {b} events admitted (inr f) = (
        record { status = fault_status f.fault; lines = way_lines link way network events f.notes },
        record {
          events = events;
          admitted = admitted;
          is = inr (record { fault = f.fault; is = f.is; notes = f.notes; records = f.records; answer = refl });
        },
      )

  headed_exists : (a : Answer) × IsHeaded (IsCapture link way octets network) a
  headed_exists =
      let b = capture_exists in (with_line head_octets b.0, (b.0, b.1, refl))

module _ (name : List ℕ) (way : Way) (second : Option (List ℕ)) (network : Network) where
  -- what was answered for the link of the name
  pub named_given : (link : LinkId) (status : Status) (old new : Shown) → IsInRange network
      → IsNamed network name link
      → ForOctets second (λ trace. GivesOne (IsHeaded (IsCapture link way trace network)) status old new)
      → ForOctets second (λ trace. GivesAnswer (IsWireAnswer name way trace network) status old new)
  named_given link status old new range named g =
      for_more second (λ trace. GivesOne (IsHeaded (IsCapture link way trace network)) status old new)
      (λ trace. GivesAnswer (IsWireAnswer name way trace network) status old new)
      (λ trace h. answer_widened (IsHeaded (IsCapture link way trace network)) (IsWireAnswer name way trace network)
      status old new
      (λ a is. inr (link, named, is))
      (inl (one_of (IsHeaded (IsCapture link way trace network)) status old new (headed_exists link way trace range)
      h))) g

  -- what was answered where no link has the name
  pub nameless_given : (status : Status) {old new : Shown} → HasNoBearer (link_names network.link) name
      → Gives name_answer status old new → ForOctets second
      (λ trace. GivesAnswer (IsWireAnswer name way trace network) status old new)
  nameless_given status {old} {new} none g =
      for_all second (λ trace. GivesAnswer (IsWireAnswer name way trace network) status old new)
      (λ trace. inl (name_answer, inl (none, refl), g))

-- ---- a header before the packets

-- the header is put
pub head_put : (old new : Shown) → Appends old.written new.written head_octets → new.puts ≡ next_count old.puts → PutsLines (head_octets ∷ []) old new
head_put old new written counted = PutsLines-more head_octets new (PutsLines-none old) written counted

-- its put fails
pub head_failed : (old new : Shown) → AppendsFront old.written new.written head_octets → new.puts ≡ next_count old.puts
    → (left : List (List ℕ)) → PutFails (head_octets ∷ left) old new
head_failed old new front counted left = PutsLines-fails head_octets left new (PutsLines-none old) front counted

-- ---- the answer behind it

module _ (IsAnswer : Answer → Type 0) (old mid new : Shown) (head : PutsLines (head_octets ∷ []) old mid) where
  fails_behind : (b : Answer) → WriteFails b.lines mid new → WriteFails (head_octets ∷ b.lines) old new
  fails_behind b f = WriteFails-behind b.lines new head f

  some_behind : (b : Answer) → PutsSome b.lines mid new → PutsSome (head_octets ∷ b.lines) old new
  some_behind b p = PutsSome-behind b.lines new head p

  pub headed_given : (status : Status) → GivesOne IsAnswer status mid new → GivesOne (IsHeaded IsAnswer) status old new
  headed_given status (inl (b, is, same, puts, passed)) =
      inl (with_line head_octets b, (b, is, refl), same, PutsLines-append head puts, passed)
  headed_given status (inr (inl (failed, each))) =
      inr (inl (failed, λ a h. subst (λ (x : Answer). WriteFails x.lines old new) (sym h.2) (fails_behind h.0 (each h.0 h.1))))
  headed_given status (inr (inr (cause, each))) =
      inr (inr (cause, λ a h. subst (λ (x : Answer). PutsSome x.lines old new) (sym h.2) (some_behind h.0 (each h.0 h.1))))

pub headed_failed : (IsAnswer : Answer → Type 0) (old new : Shown) → ((left : List (List ℕ)) → PutFails (head_octets ∷ left) old new)
    → GivesOne (IsHeaded IsAnswer) WriteFault old new
headed_failed IsAnswer old new fails = inr (inl (refl, λ a h. subst (λ (x : Answer). WriteFails x.lines old new) (sym h.2) (inl (fails h.0.lines))))

-- ---- what was taken and put

for_trace_more : (first left : Option (List ℕ)) (P Q : List ℕ → List ℕ → Type 0) → ((octets rest : List ℕ) → P octets rest → Q octets rest)
    → ForTrace first left P → ForTrace first left Q
for_trace_more None left P Q f h = tt {0}
for_trace_more (Some octets) None P Q f h = h
for_trace_more (Some octets) (Some rest) P Q f h = f octets rest h

module _ (link : LinkId) (way : Way) (network : Network) (first left : Option (List ℕ)) (old mid new : Shown)
    (head : PutsLines (head_octets ∷ []) old mid) where
  pub stops_headed : ForTrace first left (λ octets rest. StopsBehindLines (settled_lines link way) network octets rest mid new)
      → ForTrace first left (λ octets rest. StopsBehindLines (headed_lines link way) network octets rest old new)
  stops_headed h =
      for_trace_more first left (λ octets rest. StopsBehindLines (settled_lines link way) network octets rest mid new)
      (λ octets rest. StopsBehindLines (headed_lines link way) network octets rest old new)
      (λ octets rest s. record {
        events = s.events;
        admitted = s.admitted;
        part = s.part;
        unbroken = s.unbroken;
        taken = s.taken;
        whole = s.whole;
        notes = s.notes;
        records = s.records;
        puts = PutsLines-append head s.puts;
      }) h

  pub little_headed : ForTrace first left (λ octets rest. TakesLittle (settled_lines link way) network octets rest mid new)
      → ForTrace first left (λ octets rest. TakesLittle (headed_lines link way) network octets rest old new)
  little_headed h =
      for_trace_more first left (λ octets rest. TakesLittle (settled_lines link way) network octets rest mid new)
      (λ octets rest. TakesLittle (headed_lines link way) network octets rest old new)
      (λ octets rest t. record {
        events = t.events;
        admitted = t.admitted;
        notes = t.notes;
        records = t.records;
        between = t.between;
        puts = PutsLines-append head t.puts;
        more = t.more;
        few = t.few;
      }) h

-- ---- what `wire` writes is the capture of a run that is safe

module _ (name : List ℕ) (way : Way) (network : Network) (range : IsInRange network) (octets trace : List ℕ) where
  abbrev Safe : Answer → Type 0
  Safe a = IsSafe (IsWholeCapture name way octets trace) (IsCaptureToFault name way octets trace) IsSilent a

  either_safe : (link : LinkId) (events : List Event) (a b : Answer) → MeansAccepted octets network → IsNamed network name link
      → AreAdmitted network trace events → EndsEither (way_lines link way) network trace events b → a ≡ with_line head_octets b → Safe a
  either_safe link events a b m named admitted (inl w) is =
      whole_safe (IsWholeCapture name way octets trace) (IsCaptureToFault name way octets trace) IsSilent
      (head_octets ∷ way_lines link way network events w.notes) a (is ∙ ap (with_line head_octets) w.answer)
      (of_whole octets trace network range m events admitted w.notes _ w.records (link, named, refl))
  either_safe link events a b m named admitted (inr f) is =
      fault_safe (IsWholeCapture name way octets trace) (IsCaptureToFault name way octets trace) IsSilent f.fault
      (head_octets ∷ way_lines link way network events f.notes) a (is ∙ ap (with_line head_octets) f.answer)
      (of_fault octets trace network range m events admitted f.notes _ f.fault f.is f.records (link, named, refl))

  -- an answer of `wire` for an accepted network is safe
  pub wire_safe : (a : Answer) → MeansAccepted octets network → IsWireAnswer name way trace network a → Safe a
  wire_safe a m (inl (none, is)) = subst Safe (sym is) (record { safe = inr refl; whole = λ old new puts. tt })
  wire_safe a m (inr (link, named, (b, c, is))) = either_safe link c.events a b m named c.admitted c.is is

-- How a run under a trace ends: what it has written and taken of its source, and its answer.
use Rattle.std.{proofs.KnownBytes.{Appends-nil, Appends-trans}, specs.{Io.KnownBytes.Appends, List.concat}}
use Rattle.tte_forms.{proofs.{Octets.for_all, Puts.{PutsLines-none, PutsLines-still, none_put, one_of}}}
use Rattle.tte_forms.specs.{Answering.{Ends, GivesAnswer}, Faults.HasCause}
use Rattle.tte_forms.specs.{Putting.{PutsNone, StopsWriting, WriteFails}}
use Rattle.tte_forms.specs.{declared.status.Status.TheVariants.{OutOfMemory, ReadFault, WriteFault}}
use Rattle.tte_io.specs.Line.{behind_line, lf}
use Rattle.tte_traces.proofs.{Admitted.{admitted_none, events_admitted}, Answers.IsAllAdmitted}
use Rattle.tte_traces.proofs.{Given.{faulty_given, front_failed, front_given, whole_failed, whole_given}}
use Rattle.tte_traces.proofs.{Taken.gave_some}
use Rattle.tte_traces.proofs.Words
use Words.{if◌then◌else◌, ◌++◌, ◌+◌, ◌==◌, ◌∙◌, ◌∷◌, ◌≡◌, ◌≤◌, ◌⊎◌, Answer, AreAdmitted, AreRecordsSoFar, Bool, Done}
use Words.{Err, Event, ForOctets, GaveEvents, Gives, GivesOne, IsFault, IsFrontOf, IsTraceAnswer, LinesOf, List}
use Words.{Missing, Network, None, Note, Option, PutFails, PutsLines, ReadsOn, Rose, RunEnds, Shown, Some, Status}
use Words.{TakesFew, Trace, TraceFault, TraceStop, [], ap, arith, behind_lines, false, fault_answer, fault_status}
use Words.{for_more, inl, inr, length, pending, refl, shown_by, subst, suc, sym, true, ℕ}
use Rattle.tte_traces.specs.{Along.{IsShortAt, PutsAlong}, Report.{StopsLines, shown_as}}
use Rattle.tte_traces.specs.{Streaming.{ForTrace, StopsBehindLines, TakesLittle, WritesSome}}
use Rattle.tte_traces.specs.{Taking.{EndedBehind, IsStopAt, StoppedBehind, TakesFewFrom}}
use Rattle.world_drive.{proofs.{Earlier.records_none, exact_lemmas.Given.if_some}}
use Rattle.world_drive.specs.{Driving.{DrivesAll, DrivesCut, DrivesSoFar, HasSeenSoFar, IsCutAt}}
use Rattle.world_drive.specs.{Observing.{Sees, Stops, Told, told_by}, declared.observing.Cut.Cut}
use Rattle.world_drive.specs.{exact.Worlds.ExactWorld}
use Rattle.tte_io.specs.declared.ends.Sink as sinks
use Rattle.tte_io.specs.declared.ends.Source as sources
use Rattle.tte_traces.specs.declared.fault.TraceStop.TheVariants as ends
use Rattle.world_drive.specs.declared.observing.Cut.TheVariants as cuts

-- ---- what a run has written, and what it has taken of its trace by then: what was written grew

pub writes_nothing : (s : Shown) → WritesSome s s
writes_nothing s = ([], Appends-nil s.written)

pub writes_none : (old new : Shown) → PutsNone old new → WritesSome old new
writes_none old new none = ([], subst (λ w. Appends old.written w []) (sym none.0) (Appends-nil old.written))

pub writes_lines : {lines : List (List ℕ)} {old new : Shown} → PutsLines lines old new → WritesSome old new
writes_lines {lines} p = (concat lines, p.written)

pub writes_fails : {lines : List (List ℕ)} {old new : Shown} → PutFails lines old new → WritesSome old new
writes_fails {old} {new} p =
    (concat p.done ++ p.front.0, Appends-trans old.written p.before.written new.written (concat p.done) p.front.0 p.puts.written p.front.3)

writes_failing : {lines : List (List ℕ)} {old new : Shown} → WriteFails lines old new → WritesSome old new
writes_failing (inl f) = writes_fails f
writes_failing (inr p) = writes_lines p.puts

pub writes_answer : (a : Answer) (status : Status) {old new : Shown} → Gives a status old new → WritesSome old new
writes_answer a status (inl g) = writes_lines g.1
writes_answer a status (inr (inl g)) = writes_failing g.1
writes_answer a status (inr (inr g)) = writes_lines g.1.puts

-- ---- what was taken

-- what holds where a trace is told
pub for_trace : (first after : Option (List ℕ)) (P : List ℕ → List ℕ → Type 0)
    → ((octets : List ℕ) → first ≡ Some octets → (rest : List ℕ) × (after ≡ Some rest) × P octets rest) → ForTrace first after P
for_trace None after P h = tt {0}
for_trace (Some octets) after P h = let at = h octets refl in subst (λ a. ForTrace (Some octets) a P) (sym at.1) at.2

-- where no call was made, nothing was taken
length-behind_line : (octets : List ℕ) → length (behind_line octets) ≤ length octets
length-behind_line [] = omega arith
length-behind_line (octet ∷ octets) = shorter (octet == lf) (length-behind_line octets)
  where
    shorter : (ends : Bool) → length (behind_line octets) ≤ length octets → length (if ends then octets else behind_line octets) ≤ suc (length octets)
    shorter true less = omega arith
    shorter false less = omega (arith, less)

pub untouched : (lines : LinesOf) (network : Network) (left : Option (List ℕ)) (old new : Shown) → lines network [] [] ≡ [] → WritesSome old new
    → ForTrace left left (λ octets rest. TakesLittle lines network octets rest old new)
untouched lines network left old new none more =
    for_trace left left (λ octets rest. TakesLittle lines network octets rest old new) (λ octets told. (
      octets,
      told,
      record {
        events = [];
        admitted = admitted_none network octets;
        notes = [];
        records = records_none network;
        between = old;
        puts = subst (λ ls. PutsLines ls old old) (sym none) (PutsLines-none old);
        more = more;
        few = omega (arith, length-behind_line octets);
      },
    ))

-- ---- how a run under a trace ends, by how its drive did

-- little was taken of the trace
abbrev pub Little : LinesOf → Network → Option (List ℕ) → Option (List ℕ) → Shown → Shown → Type 0
Little lines network first after old new = ForTrace first after (λ octets rest. TakesLittle lines network octets rest old new)

-- the status is that of the fault, or a put failed
abbrev pub IsStatusOf : TraceFault → Status → Type 0 → Type 0
IsStatusOf fault status PutFails = (status ≡ fault_status fault) ⊎ ((status ≡ WriteFault) × PutFails)

-- one whose trace has a fault is not that of a failed read
pub fault_no_read : {X : Type 0} (fault : TraceFault) (status : Status) → (status ≡ fault_status fault) ⊎ ((status ≡ WriteFault) × X) → status ≡ ReadFault → ⊥
fault_no_read fault status (inr w) is = let e = w.0 in cc
fault_no_read Missing status (inl e) is = cc
fault_no_read fault status (inl e) is = cc

-- and one that is done is not
pub done_no_read : {X : Type 0} (status : Status) → (status ≡ Done) ⊎ ((status ≡ WriteFault) × X) → status ≡ ReadFault → ⊥
done_no_read status (inl e) is = cc
done_no_read status (inr w) is = let e = w.0 in cc

-- ---- what is told of a sink is what it shows

module _ {K : Type 0} (sink : sinks.Ghosts K) (lines : List (List ℕ)) (old : K) where
  pub puts_shown : (new : K) → PutsLines lines (shown_as (told_by sink old)) (shown_as (told_by sink new))
      → PutsLines lines (shown_by sink old) (shown_by sink new)
  puts_shown new p = record { written = p.written; counted = p.counted }

  puts_from : {new : Shown} → PutsLines lines (shown_as (told_by sink old)) new
      → PutsLines lines (shown_by sink old) new
  puts_from p = record { written = p.written; counted = p.counted }

stops_shown : {K : Type 0} (sink : sinks.Ghosts K) {lines : List (List ℕ)} (old new : K)
    → StopsWriting lines (shown_as (told_by sink old)) (shown_as (told_by sink new))
    → StopsWriting lines (shown_by sink old) (shown_by sink new)
stops_shown sink old new (inl f) = inl (record {
  done = f.done;
  line = f.line;
  left = f.left;
  order = f.order;
  before = f.before;
  puts = puts_from sink f.done old f.puts;
  front = f.front;
  counted = f.counted;
})
stops_shown sink {lines} old new (inr p) = inr (puts_shown sink lines old new p)

-- ---- what was taken of a trace

-- the octets that a source has are those of the events, and some more
abbrev pub Admits : {B : Type 0} → sources.Ghosts B → Network → B → List Event → B → Type 0
Admits source network first events now =
    (octets : List ℕ) → source.left first ≡ Some octets → (rest : List ℕ) × (source.left now ≡ Some rest) × AreAdmitted network octets events

takes_little : {B K : Type 0} (source : sources.Ghosts B) (sink : sinks.Ghosts K) (lines : LinesOf)
    (network : Network) (first now : B) (events : List Event) (notes : List Note) (old : K) {between : Shown}
    (new : Shown) → Admits source network first events now
    → TakesFewFrom (source.left first) (source.left now) (length events) → AreRecordsSoFar network events notes
    → PutsLines (lines network events notes) (shown_by sink old) between → WritesSome between new
    → Little lines network (source.left first) (source.left now) (shown_by sink old) new
takes_little source sink lines network first now events notes old {between} new admitted few records puts more =
    for_trace (source.left first) (source.left now) (λ octets rest. TakesLittle lines network octets rest (shown_by sink old) new) (λ octets told.
    let a = admitted octets told in (
      a.0,
      a.1,
      record {
        events = events;
        admitted = a.2;
        notes = notes;
        records = records;
        between = between;
        puts = puts;
        more = more;
        few = if_some (source.left now) a.0 (TakesFew octets (length events)) a.1 (few octets told);
      },
    ))

-- the source of events
abbrev pub trace_gave : {B : Type 0} → sources.Ghosts B → Network → B → Trace → List Event → B → Trace → Type 0
trace_gave source at f o events n it = GaveEvents source at f events n it

abbrev pub trace_ended : {B : Type 0} → sources.Ghosts B → Network → B → Trace → List Event → B → Trace → Type 0
trace_ended source at f o events n it = EndedBehind source at f events n

abbrev pub trace_stopped : {B K : Type 0} → sources.Ghosts B → sinks.Ghosts K → Network → B → Trace → List Event → TraceStop → B → Trace → K → K → Type 0
trace_stopped source sink at f o events stop n it before after = StoppedBehind source sink at f events stop n it before after

-- the cause of a status where memory ran out
pub memory_cause : {X : Type 0} (status : Status) (old now new : ℕ) → (status ≡ OutOfMemory) ⊎ ((status ≡ WriteFault) × Rose now new) → now ≡ old
    → HasCause status X (Rose old new)
memory_cause status old now new (inl e) same = record { read = λ is. absurd cc; write = λ is. absurd cc }
memory_cause status old now new (inr w) same = record { read = λ is. absurd (let e = w.0 in cc); write = λ is. subst (λ n. Rose n new) same w.1 }

-- what ended so for a network ended so for the same one
pub ends_for : (Is : List ℕ → Network → Answer → Type 0) {lines : LinesOf} {n m : Network}
    {first left : Option (List ℕ)} {status : Status} {old new : Shown} → n ≡ m
    → RunEnds (λ octets. Is octets n) lines n first left status old new
    → RunEnds (λ octets. Is octets m) lines m first left status old new
ends_for Is {lines} {n} {m} {first} {left} {status} {old} {new} same ends =
    subst (λ (x : Network). RunEnds (λ octets. Is octets x) lines x first left status old new) same ends

-- ---- the lines that an observer puts of a run

module _ {B K O : Type 0} (source : sources.Ghosts B) (sink : sinks.Ghosts K) (begun : O) (see : Sees O) (stops : Stops O)
    (lines : LinesOf) (Is : List ℕ → Network → Answer → Type 0) (along : PutsAlong begun see stops lines Is) (network : Network) (first : B) (origin : Trace)
    (now : B)
    (trace : Trace) (old put : K) where
  -- one of the answers was given, and little was taken
  abbrev pub EndsSo : Status → Shown → Type 0
  EndsSo status new = RunEnds (λ octets. Is octets network) lines network (source.left first) (source.left now) status (shown_by sink old) new

  -- up to the last whole event
  pub little_so_far : (events : List Event) (new : Shown) → Admits source network first events now
      → TakesFewFrom (source.left first) (source.left now) (length events)
      → HasSeenSoFar sink see network events begun old put → WritesSome (shown_by sink put) new
      → Little lines network (source.left first) (source.left now) (shown_by sink old) new
  little_so_far events new admitted few s more =
      let told : Told = told_by sink old in
      takes_little source sink lines network first now events s.notes old new admitted few s.records
      (puts_from sink (lines network events s.notes) old
      (along.so_far network events s.notes told s.between s.observer s.records s.sees))
      (s.grew.0 ++ more.0, Appends-trans s.between.written (sink.written put) new.written s.grew.0 more.0 s.grew.1 more.1)

  -- ---- the trace stopped

  module _ (observer : O) (stop : TraceStop) (d : DrivesSoFar sink (trace_stopped source sink) see network first origin stop now trace begun observer old
      put) where
    admits_so_far : Admits source network first d.events now
    admits_so_far octets told = let a = d.stopped.reads octets told in (a.0, a.1, a.2)

    -- what holds for all octets that have the events, and the fault behind them
    pub for_stopped : (P : List ℕ → Type 0)
        → ((octets : List ℕ) → AreAdmitted network octets d.events → IsStopAt network d.events (behind_lines (length d.events) octets) stop → P octets)
        → ForOctets (source.left first) P
    for_stopped P f =
        for_more (source.left first) (λ octets. AreAdmitted network octets d.events × IsStopAt network d.events (behind_lines (length d.events) octets) stop) P
        (λ octets a. f octets a.0 a.1) d.stopped.some

    pub seen_so_far : PutsLines (lines network d.events d.notes) (shown_by sink old) (shown_by sink put)
    seen_so_far =
        puts_shown sink (lines network d.events d.notes) old put
        (along.so_far network d.events d.notes (told_by sink old) (told_by sink put) observer d.so_far d.sees)

    pub little_at : (new : Shown) → WritesSome (shown_by sink put) new → Little lines network (source.left first) (source.left now) (shown_by sink old) new
    little_at new more =
        takes_little source sink lines network first now d.events d.notes old new admits_so_far d.stopped.few d.so_far seen_so_far more

    -- where a read failed
    pub ends_read : stop ≡ ends.ReadFault → EndsSo ReadFault (shown_by sink put)
    ends_read is = record {
      general = for_stopped (λ octets. GivesOne (Is octets network) ReadFault (shown_by sink old) (shown_by sink put))
          (λ octets admitted at.
          front_given (Is octets network) ReadFault
          (along.front network octets d.events d.notes admitted d.so_far) (inl refl) seen_so_far);
      cut = λ read. (
        (d.stopped.read is).1,
        for_trace (source.left first) (source.left now) (λ octets rest. StopsBehindLines lines network octets rest (shown_by sink old) (shown_by sink put))
            (λ octets told.
            let a = d.stopped.reads octets told in
            let o = subst (λ (s : TraceStop). ReadsOn network octets d.events (Err s) trace a.0) is a.3 in (
              a.0,
              a.1,
              record {
                events = d.events;
                admitted = a.2;
                part = pending trace.reader;
                unbroken = o.1;
                taken = o.0.coming;
                whole = o.2;
                notes = d.notes;
                records = d.so_far;
                puts = seen_so_far;
              },
            )),
      );
      little = little_at (shown_by sink put) (writes_nothing (shown_by sink put));
    }

    -- where nothing could be passed on before one
    pub ends_unpassed : EndsSo WriteFault (shown_by sink put)
    ends_unpassed = record {
      general = for_stopped (λ octets. GivesOne (Is octets network) WriteFault (shown_by sink old) (shown_by sink put))
          (λ octets admitted at.
          front_failed (Is octets network) {lines = lines network d.events d.notes} WriteFault {old = shown_by sink old} {new = shown_by sink put}
          (along.front network octets d.events d.notes admitted d.so_far) refl (inr seen_so_far));
      cut = λ read. absurd cc;
      little = little_at (shown_by sink put) (writes_nothing (shown_by sink put));
    }

  -- ---- it was cut short

  module _ (cut : Cut) (d : DrivesCut sink (trace_gave source) (trace_ended source) see stops network first origin cut now trace begun old put) where
    abbrev IsCutShort : Option Event → Type 0
    IsCutShort next = IsCutAt (trace_gave source) (trace_ended source) network first origin d.events next d.befallen d.notes now trace

    admits_at : (next : Option Event) → IsCutShort next → Admits source network first d.events now
    admits_at (Some event) at octets told =
        let r = at.0.reads octets told in
        (r.0, r.1, events_admitted network octets d.events (event ∷ []) r.2.admitted)
    admits_at None at octets told = let a = at.0.all octets told in (a.0, a.1, a.2)

    few_at : (next : Option Event) → IsCutShort next → TakesFewFrom (source.left first) (source.left now) (length d.events)
    few_at (Some event) at octets told = at.0.few d.events event refl octets told
    few_at None at octets told = at.0.few octets told

    -- where it was cut short, for the octets
    abbrev IsShort : List ℕ → Option Event → Type 0
    IsShort octets next = IsShortAt network octets d.events next d.befallen d.notes

    short_at : (next : Option Event) → IsCutShort next → ForOctets (source.left first) (λ octets. IsShort octets next)
    short_at (Some event) at =
        for_more (source.left first) (λ octets. AreAdmitted network octets (d.events ++ event ∷ [])) (λ octets. IsShort octets (Some event))
        (λ octets admitted. (admitted, at.1)) (gave_some at.0)
    short_at None at =
        for_more (source.left first) (λ octets. AreAdmitted network octets d.events × (behind_lines (length d.events) octets ≡ []))
        (λ octets. IsShort octets None)
        (λ octets a. (record { admitted = a.0; ended = at.1; none_left = a.1 }, at.2, at.3)) at.0.some

    -- what was put
    abbrev FrontPut : List ℕ → Type 0
    FrontPut octets = (ls : List (List ℕ)) × StopsLines ls cut (told_by sink old) (told_by sink put) × IsFrontOf (Is octets network) ls

    -- what holds for the octets of which a front was put
    for_front : (P : List ℕ → Type 0) → ((octets : List ℕ) → FrontPut octets → P octets) → ForOctets (source.left first) P
    for_front P f =
        for_more (source.left first) (λ octets. IsShort octets d.next) P
        (λ octets at.
        f octets (along.short network octets d.events d.next d.befallen d.notes cut (told_by sink old) (told_by sink put) at d.stops))
        (short_at d.next d.at)

    little_cut : (new : Shown) → WritesSome (shown_by sink put) new → Little lines network (source.left first) (source.left now) (shown_by sink old) new
    little_cut new more = little_so_far d.events new (admits_at d.next d.at) (few_at d.next d.at) d.so_far more

    -- writing failed
    pub ends_write : cut ≡ cuts.WriteFault → EndsSo WriteFault (shown_by sink put)
    ends_write is = record {
      general = for_front (λ octets. GivesOne (Is octets network) WriteFault (shown_by sink old) (shown_by sink put))
          (λ octets f.
          let halts = subst (λ c. StopsLines f.0 c (told_by sink old) (told_by sink put)) is f.1 in
          front_failed (Is octets network) WriteFault f.2 refl (stops_shown sink old put halts));
      cut = λ read. absurd cc;
      little = little_cut (shown_by sink put) (writes_nothing (shown_by sink put));
    }

    -- memory ran out
    pub ends_memory : (status : Status) (new : K) → cut ≡ cuts.OutOfMemory → Ends OutOfMemory status (shown_by sink put) (shown_by sink new)
        → EndsSo status (shown_by sink new)
    ends_memory status new is e = record {
      general = for_front (λ octets. GivesOne (Is octets network) status (shown_by sink old) (shown_by sink new))
          (λ octets f.
          let seen = subst (λ c. StopsLines f.0 c (told_by sink old) (told_by sink put)) is f.1 in
          let puts = PutsLines-still (shown_by sink new) (puts_shown sink f.0 old put seen) e.0 in
          elim e.1 [
            | inl m ↦ front_given (Is octets network) status f.2 (inr m.0) puts
            | inr w ↦ front_failed (Is octets network) {lines = f.0} status {old = shown_by sink old} {new = shown_by sink new} f.2 w (inr puts)
          ]);
      cut = λ read. absurd (elim e.1 [ inl m ↦ (let s = m.0 in cc) | inr w ↦ cc ]);
      little = little_cut (shown_by sink new) (writes_none (shown_by sink put) (shown_by sink new) e.0);
    }

-- ---- where its command's answers have just these lines, and that of a fault

module _ {B K O : Type 0} (source : sources.Ghosts B) (sink : sinks.Ghosts K) (begun : O) (see : Sees O) (stops : Stops O)
    (lines : LinesOf) (along : PutsAlong begun see stops lines (IsTraceAnswer lines)) (network : Network) (first : B) (origin : Trace) (now : B) (trace : Trace)
    (old put : K) where
  -- all events befell
  module _ (world : ExactWorld) (observer : O) (d : DrivesAll sink (trace_ended source) see network first origin now trace world begun observer old put) where
    admits_all : Admits source network first d.events now
    admits_all octets told = let a = d.ended.all octets told in (a.0, a.1, a.2)

    all_given : (octets : List ℕ) (status : Status) (new : K)
        → AreAdmitted network octets d.events × (behind_lines (length d.events) octets ≡ []) → Ends Done status (shown_by sink put) (shown_by sink new)
        → GivesOne (IsTraceAnswer lines octets network) status (shown_by sink old) (shown_by sink new)
    all_given octets status new a e =
        let all : IsAllAdmitted network octets d.events = record { admitted = a.0; ended = d.have_ended; none_left = a.1 } in
        let seen = puts_shown sink (lines network d.events d.notes) old put
        (along.all network octets d.events d.notes (told_by sink old) (told_by sink put) observer a.0 d.records d.sees) in
        let puts = PutsLines-still (shown_by sink new) seen e.0 in
        elim e.1 [
          | inl done ↦ whole_given lines network octets d.events d.notes status (shown_by sink old) (shown_by sink new) all d.records done.0 puts done.1
          | inr failed ↦ whole_failed lines network octets d.events d.notes status (shown_by sink old) (shown_by sink new) all d.records failed puts
        ]

    pub ends_all : (status : Status) (new : K) → Ends Done status (shown_by sink put) (shown_by sink new)
        → RunEnds (λ octets. IsTraceAnswer lines octets network) lines network (source.left first) (source.left now) status (shown_by sink old)
        (shown_by sink new)
    ends_all status new e = record {
      general =
          for_more (source.left first) (λ octets. AreAdmitted network octets d.events × (behind_lines (length d.events) octets ≡ []))
          (λ octets. GivesOne (IsTraceAnswer lines octets network) status (shown_by sink old) (shown_by sink new))
          (λ octets a. all_given octets status new a e) d.ended.some;
      cut = λ is. absurd (elim e.1 [ inl done ↦ (let s = done.0 in cc) | inr failed ↦ cc ]);
      little = little_so_far source sink begun see stops lines (IsTraceAnswer lines) along network first origin now trace old put d.events (shown_by sink new)
          admits_all d.ended.few d.so_far (writes_none (shown_by sink put) (shown_by sink new) e.0);
    }

  -- the trace has a fault
  pub ends_fault : (observer : O) (stop : TraceStop)
      (d : DrivesSoFar sink (trace_stopped source sink) see network first origin stop now trace begun observer old put)
      (fault : TraceFault) (line : ℕ) (status : Status) (new : K) {PutFails : Type 0} → stop ≡ ends.Fault fault → line ≡ trace.lines + 1
      → Gives (fault_answer line fault) status (shown_by sink put) (shown_by sink new) → IsStatusOf fault status PutFails
      → RunEnds (λ octets. IsTraceAnswer lines octets network) lines network (source.left first) (source.left now) status (shown_by sink old)
      (shown_by sink new)
  ends_fault observer stop d fault line status new is number gives which =
      let count : line ≡ length d.events + 1 = number ∙ ap (λ n. n + 1) d.stopped.lines in
      record {
        general = for_stopped source sink begun see stops lines (IsTraceAnswer lines) along network first origin now trace old put observer stop d
            (λ octets. GivesOne (IsTraceAnswer lines octets network) status (shown_by sink old) (shown_by sink new))
            (λ octets admitted at.
            let behind : IsFault network d.events (behind_lines (length d.events) octets) fault =
            subst (IsStopAt network d.events (behind_lines (length d.events) octets)) is at in
            faulty_given lines network octets d.events d.notes fault status (shown_by sink old) (shown_by sink put) (shown_by sink new)
            (record { admitted = admitted; is = behind }) d.so_far
            (seen_so_far source sink begun see stops lines (IsTraceAnswer lines) along network first origin now trace old put observer stop d)
            (subst (λ n. Gives (fault_answer n fault) status (shown_by sink put) (shown_by sink new)) count gives));
        cut = λ read. absurd (fault_no_read fault status which read);
        little = little_at source sink begun see stops lines (IsTraceAnswer lines) along network first origin now trace old put observer stop d
            (shown_by sink new)
            (writes_answer (fault_answer line fault) status gives);
      }

-- ---- the answer of a command over a trace for its source

-- where there is no memory for a run, nothing was put, whatever the answers are
pub no_memory : (Is : List ℕ → Answer → Type 0) (lines : LinesOf) (network : Network) (left : Option (List ℕ)) (s : Shown) → lines network [] [] ≡ []
    → RunEnds Is lines network left left OutOfMemory s s
no_memory Is lines network left s none = record {
  general = for_all left (λ trace. GivesOne (Is trace) OutOfMemory s s) (λ trace. inr (inr (inr refl, λ a is. none_put a.lines s s (PutsLines-none s))));
  cut = λ is. absurd cc;
  little = untouched lines network left s s none (writes_nothing s);
}

-- where there is an answer for each trace, it was given

pub trace_given : (Is : List ℕ → Answer → Type 0) (second : Option (List ℕ)) (status : Status) (old new : Shown)
    → ((trace : List ℕ) → (a : Answer) × Is trace a)
    → ForOctets second (λ trace. GivesOne (Is trace) status old new) → ForOctets second (λ trace. GivesAnswer (Is trace) status old new)
trace_given Is second status old new there g =
    for_more second (λ trace. GivesOne (Is trace) status old new) (λ trace. GivesAnswer (Is trace) status old new)
    (λ trace h. inl (one_of (Is trace) status old new (there trace) h)) g

-- The answers for a network under the octets of a trace: for each kind of lines there is one.
use Rattle.{run_law.proofs.runs.NetworkRuns.run_is_one, world_drive.proofs.exact_lemmas.Events.ended_at}
use Rattle.tte_traces.proofs.Admitted.{IsStopped, admitted_in_order, end_has_no_fault, fault_one, fault_stops}
use Rattle.tte_traces.proofs.Admitted.{stopped_one}
use Rattle.tte_traces.proofs.Words.{◌++◌, ◌+◌, ◌∙◌, ◌∷◌, ◌≡◌, ◌⊎◌, Answer, AnswersAll, AnswersFault, AreAdmitted, AreAllRecords, AreRecordsBefore}
use Rattle.tte_traces.proofs.Words.{AreRecordsSoFar, Done, EndsAt, Event, IsFault, IsTraceAnswer, LinesOf, List, Network, Note, TraceFault, Units, [], amount}
use Rattle.tte_traces.proofs.Words.{ap, behind_events, behind_lines, clock_reading, fault_lines, fault_status, inl, inr, last_time, length, subst, sym, ℕ}
pub use Rattle.tte_traces.specs.Along.{BeginWith, IsAllAdmitted}

-- ---- where an answer stops

whole_stops : (network : Network) (octets : List ℕ) (events : List Event) → behind_lines (length events) octets ≡ [] → IsStopped network octets events
whole_stops network octets events none event a = a.has.is_open.some none

faulty_stops : (network : Network) (octets : List ℕ) (events : List Event) (fault : TraceFault)
    → IsFault network events (behind_lines (length events) octets) fault → IsStopped network octets events
faulty_stops network octets events fault is event a =
    fault_stops network events (behind_lines (length events) octets) fault is a

-- the answer is a whole one of these events, or one of a fault behind them
abbrev pub AnswersEither : LinesOf → Network → List ℕ → List Event → Answer → Type 0
AnswersEither lines network octets events a = AnswersAll lines network octets events a ⊎ AnswersFault lines network octets events a

-- behind the events of an answer no more are admitted
pub answer_stops : (lines : LinesOf) (network : Network) (octets : List ℕ) (events : List Event) (a : Answer)
    → AnswersAll lines network octets events a ⊎ AnswersFault lines network octets events a → IsStopped network octets events
answer_stops lines network octets events a (inl w) = whole_stops network octets events w.none_left
answer_stops lines network octets events a (inr f) = faulty_stops network octets events f.fault f.is

-- ---- the answer where a trace ends with its end

pub same_end : (network : Network) (octets : List ℕ) (events : List Event) (time other : Units) → AreAdmitted network octets events → EndsAt events time
    → EndsAt events other → time ≡ other
same_end network octets events time other all a b =
    let o = admitted_in_order network octets events all in o.last time a ∙ sym (o.last other b)

-- the records up to just behind the time of the last event are all
pub all_records : (events : List Event) (network : Network) (octets : List ℕ) (notes : List Note) → IsAllAdmitted network octets events
    → AreRecordsBefore network events ((amount (last_time events) + 1) ∷ []) notes → AreAllRecords network events notes
all_records events network octets notes all run =
    let end = ended_at events all.ended in
    let last = (admitted_in_order network octets events all.admitted).last end.0 end.1 in
    (end.0, end.1, subst (λ t. AreRecordsBefore network events ((amount t + 1) ∷ []) notes) (sym last) run)

-- behind the admitted events the trace goes on with the fault
pub record IsFaultBehind (network : Network) (octets : List ℕ) (events : List Event) (fault : TraceFault) : Type 0 where
  pub admitted : AreAdmitted network octets events
  pub is : IsFault network events (behind_lines (length events) octets) fault

module _ (lines : LinesOf) where
  -- the answer of a trace that is admitted to its end is a whole one of these events
  pub all_is_whole : (network : Network) (octets : List ℕ) (events : List Event) (a : Answer) → IsAllAdmitted network octets events
      → IsTraceAnswer lines octets network a → AnswersAll lines network octets events a
  all_is_whole network octets events a all i =
      let same = stopped_one network octets i.events events i.admitted (answer_stops lines network octets i.events a i.is) all.admitted
      (whole_stops network octets events all.none_left) in
      elim (subst (λ es. AnswersEither lines network octets es a) same i.is) [
        | inl w ↦ w
        | inr f ↦ absurd (end_has_no_fault network events (behind_lines (length events) octets) f.fault all.none_left all.ended f.is)
      ]

  -- it has the lines of all records
  pub whole_is : (network : Network) (octets : List ℕ) (events : List Event) (notes : List Note) (a : Answer) → IsAllAdmitted network octets events
      → AreAllRecords network events notes → IsTraceAnswer lines octets network a → a ≡ record { status = Done; lines = lines network events notes }
  whole_is network octets events notes a all records i =
      let w = all_is_whole network octets events a all i in
      let time = same_end network octets events w.records.0 records.0 all.admitted w.records.1 records.1 in
      let here = subst (λ t. AreRecordsBefore network events ((amount t + 1) ∷ []) w.notes) time w.records.2 in
      let same = run_is_one network (clock_reading network events) events ((amount records.0 + 1) ∷ []) w.notes notes here records.2 in
      w.answer ∙ ap (λ (ns : List Note). record { status = Done; lines = lines network events ns }) same

  -- ---- the answer where a trace has a fault

  abbrev pub faulty_answer : Network → List Event → List Note → TraceFault → Answer
  faulty_answer network events notes fault =
      record { status = fault_status fault; lines = lines network events notes ++ fault_lines (length events + 1) fault }

  faulty_alone : (network : Network) (octets : List ℕ) (events : List Event) (notes : List Note) (fault : TraceFault) (a : Answer)
      → IsFaultBehind network octets events fault → AreRecordsSoFar network events notes
      → AnswersEither lines network octets events a → a ≡ faulty_answer network events notes fault
  faulty_alone network octets events notes fault a b run (inl w) =
      absurd (end_has_no_fault network events (behind_lines (length events) octets) fault w.none_left w.ended b.is)
  faulty_alone network octets events notes fault a b run (inr f) =
      let faults = fault_one network events (behind_lines (length events) octets) f.fault fault f.is b.is in
      let same = run_is_one network (clock_reading network events) events (behind_events (amount (last_time events))) f.notes notes f.records run in
      f.answer ∙ ap (λ (t : TraceFault). faulty_answer network events f.notes t) faults ∙ ap (λ (ns : List Note). faulty_answer network events ns fault) same

  -- it has the lines so far and the line of the fault
  pub faulty_is : (network : Network) (octets : List ℕ) (events : List Event) (notes : List Note) (fault : TraceFault) (a : Answer)
      → IsFaultBehind network octets events fault → AreRecordsSoFar network events notes → IsTraceAnswer lines octets network a
      → a ≡ faulty_answer network events notes fault
  faulty_is network octets events notes fault a b run i =
      let same = stopped_one network octets i.events events i.admitted (answer_stops lines network octets i.events a i.is) b.admitted
      (faulty_stops network octets events fault b.is) in
      faulty_alone network octets events notes fault a b run (subst (λ es. AnswersEither lines network octets es a) same i.is)

  -- ---- there is one answer

  one_of_whole : (network : Network) (octets : List ℕ) (events : List Event) (a b : Answer) → AreAdmitted network octets events
      → AnswersAll lines network octets events a → IsTraceAnswer lines octets network b → a ≡ b
  one_of_whole network octets events a b all w j =
      let admitted : IsAllAdmitted network octets events = record { admitted = all; ended = w.ended; none_left = w.none_left } in
      w.answer ∙ sym (whole_is network octets events w.notes b admitted w.records j)

  one_of_faulty : (network : Network) (octets : List ℕ) (events : List Event) (a b : Answer) → AreAdmitted network octets events
      → AnswersFault lines network octets events a → IsTraceAnswer lines octets network b → a ≡ b
  one_of_faulty network octets events a b all f j =
      let behind : IsFaultBehind network octets events f.fault = record { admitted = all; is = f.is } in
      f.answer ∙ sym (faulty_is network octets events f.notes f.fault b behind f.records j)

  pub trace_answer_one : (network : Network) (octets : List ℕ) (a b : Answer) → IsTraceAnswer lines octets network a → IsTraceAnswer lines octets network b
      → a ≡ b
  trace_answer_one network octets a b i j =
      elim i.is [ inl w ↦ one_of_whole network octets i.events a b i.admitted w j | inr f ↦ one_of_faulty network octets i.events a b i.admitted f j ]

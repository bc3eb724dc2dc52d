-- What was put of the answers for a network under the octets of a trace: a front of each, where it was cut short; or the
-- whole one, behind the end or at a fault of the trace.
use Rattle.tte_forms.{proofs.{Puts.{PutFails-more, one_given}, frames.Frames.Gives-behind}}
use Rattle.tte_forms.{specs.Putting.{IsPassedOn, StopsWriting}}
use Rattle.{tte_forms.specs.declared.status.Status.TheVariants.{OutOfMemory, ReadFault, WriteFault}, tte_traces.proofs.Words.{inr, length, refl, subst, sym, ℕ}}
use Rattle.tte_traces.proofs.Answers.{IsAllAdmitted, IsFaultBehind, all_is_whole, faulty_answer, faulty_is, whole_is}
use Rattle.tte_traces.proofs.Words.{◌+◌, ◌∙◌, ◌≡◌, ◌⊎◌, Answer, AreAllRecords, AreRecordsSoFar, Done, Event, Gives, GivesOne, IsFrontOf, IsTraceAnswer, LinesOf}
use Rattle.tte_traces.proofs.Words.{List, Network, Note, PutFails, PutsLines, Shown, Status, TraceFault, [], ap, append-nil, fault_lines, fault_status, inl}

-- ---- a front of each answer was put

-- where a read failed or memory ran out
pub front_given : (Is : Answer → Type 0) {lines : List (List ℕ)} (status : Status) {old new : Shown}
    → IsFrontOf Is lines → (status ≡ ReadFault) ⊎ (status ≡ OutOfMemory) → PutsLines lines old new
    → GivesOne Is status old new
front_given Is {lines} status begins cause puts =
    inr (inr (cause, λ a is. let b = begins a is in record { done = lines; left = b.0; order = b.1; puts = puts }))

-- where writing failed
pub front_failed : (Is : Answer → Type 0) {lines : List (List ℕ)} (status : Status) {old new : Shown}
    → IsFrontOf Is lines → status ≡ WriteFault → StopsWriting lines old new → GivesOne Is status old new
front_failed Is {lines} status {old} {new} begins cause (inl fails) =
    inr (inl (
      cause,
      λ a is. let b = begins a is in inl (subst (λ ls.
          PutFails ls old new) (sym b.1) (PutFails-more b.0 fails)),
    ))
front_failed Is {lines} status begins cause (inr puts) =
    inr (inl (cause, λ a is. let b = begins a is in inr (record { done = lines; left = b.0; order = b.1; puts = puts })))

-- ---- the lines of a run

module _ (lines : LinesOf) where
  -- those of all records were put and passed on
  pub whole_given : (network : Network) (octets : List ℕ) (events : List Event) (notes : List Note) (status : Status) (old new : Shown)
      → IsAllAdmitted network octets events → AreAllRecords network events notes
      → status ≡ Done → PutsLines (lines network events notes) old new → IsPassedOn new → GivesOne (IsTraceAnswer lines octets network) status old new
  whole_given network octets events notes status old new all records done puts passed =
      let a : Answer = record { status = Done; lines = lines network events notes } in
      inl (
        a,
        record {
          events = events;
          admitted = all.admitted;
          is = inl
              (record { ended = all.ended; none_left = all.none_left; notes = notes; records = records; answer = refl });
        },
        done,
        puts,
        passed,
      )

  -- they were put, and passing them on failed
  pub whole_failed : (network : Network) (octets : List ℕ) (events : List Event) (notes : List Note) (status : Status) (old new : Shown)
      → IsAllAdmitted network octets events → AreAllRecords network events notes
      → status ≡ WriteFault → PutsLines (lines network events notes) old new → GivesOne (IsTraceAnswer lines octets network) status old new
  whole_failed network octets events notes status old new all records failed puts =
      front_failed (IsTraceAnswer lines octets network) {lines = lines network events notes} status {old = old} {new = new}
      (λ a i. let is = whole_is lines network octets events notes a all records i in
      ([], ap (λ (b : Answer). b.lines) is ∙ sym (append-nil (lines network events notes)))) failed (inr puts)

  -- those so far were put, and then what is written about the fault was given
  pub faulty_given : (network : Network) (octets : List ℕ) (events : List Event) (notes : List Note) (fault : TraceFault) (status : Status)
      (old now new : Shown) → IsFaultBehind network octets events fault → AreRecordsSoFar network events notes → PutsLines (lines network events notes) old now
      → Gives (record { status = fault_status fault; lines = fault_lines (length events + 1) fault }) status now new
      → GivesOne (IsTraceAnswer lines octets network) status old new
  faulty_given network octets events notes fault status old now new b run puts g =
      let is : IsTraceAnswer lines octets network (faulty_answer lines network events notes fault) =
      record { events = events; admitted = b.admitted; is = inr (record { fault = fault; is = b.is; notes = notes; records = run; answer = refl }) } in
      one_given (IsTraceAnswer lines octets network) (faulty_answer lines network events notes fault) status old new is
      (λ a i. faulty_is lines network octets events notes fault a b run i)
      (Gives-behind (record { status = fault_status fault; lines = fault_lines (length events + 1) fault }) status
      puts g)

  -- a trace that is admitted to its end is answered to its end
  pub all_done : (octets : List ℕ) (network : Network) (events : List Event) (a : Answer) → IsAllAdmitted network octets events
      → IsTraceAnswer lines octets network a → a.status ≡ Done
  all_done octets network events a all is = let w = all_is_whole lines network octets events a all is in ap (λ (b : Answer). b.status) w.answer

-- The events admitted from a trace that is taken line by line, and the fault behind them.
use Rattle.std.{specs.{Io.KnownBytes.Consumes, Prelude.{IfErr, IfOk}}}
use Rattle.std.proofs.{Common.{◌↔◌, ◌≤ℤ◌, pos}, KnownBytes.Consumes-nil}
use Rattle.std.proofs.{lemmas.{Bool.{cases_order, false_from_ne_true}, List.Quantifiers.Any-push}}
use Rattle.fault_hypothesis.{proofs.Keeping.{any_last, stands_where}}
use Rattle.fault_hypothesis.{specs.{Watching.Watches, declared.watch.Watch.Watch}}
use Rattle.run_law.{proofs.scenario.Decided.hypothesis_is_decided}
use Rattle.run_law.specs.{declared.outside.Outside.TheVariants.Order}
use Rattle.run_law.specs.{scenario.Hypothesis.{IsOutsideBy, IsWithinHypothesis}}
use Rattle.schedule_tables.specs.declared.accepted.Accepted.{Accepted}
use Rattle.trace_text.{proofs.ReadTimes.event_time}
use Rattle.trace_text.{specs.{Ranges.IsEventInRange, declared.refusal.LineRefusal.LineRefusal}}
use Rattle.tte_io.{proofs.LineReading.{behind_line-append, first_line-append, first_line-too_long, outcome_told}}
use Rattle.tte_io.specs.{Line.{IsUnbroken, ahead_limit, behind_line, lf, line_limit}}
use Rattle.tte_io.specs.{NextLine.{Answers, IsEnd, KeepsLine, NextLine}, Outcome.{Outcome, TellsOutcome}}
use Rattle.tte_io.specs.{ReaderState.to_come}
use Rattle.tte_traces.proofs.{EventOrder.{AreInOrder, IsInOrder}}
use Rattle.tte_traces.proofs.Words
use Words.{if◌then◌else◌, ◌++◌, ◌+◌, ◌<◌, ◌==◌, ◌^◌, ◌∙◌, ◌∷◌, ◌≡◌, ◌≢◌, ◌≤◌, ◌⊎◌, After, AreAdmitted, Bool, End, Err}
use Words.{Event, HaveEnded, IfSome, IsAdmitted, IsFault, IsOfNetwork, Line, LineReaderState, LineTaken, List, Long}
use Words.{Missing, Network, None, Ok, Option, Outlaw, Read, ReadsOn, Result, Some, TakesFew, TooMany, Trace}
use Words.{TraceFault, TraceStop, [], amount, ap, append-nil, append_assoc, arith, behind_lines, event_read, false}
use Words.{first_line, inl, inr, last_time, length, length-append, pending, refl, subst, suc, sym, true, zero, ℕ}
use Rattle.tte_traces.specs.{Lines.StandWhole}
use Rattle.tte_traces.specs.Following
use Following.{Follows, GoesOn, IsFound, IsRefused, Judges, JudgesSo, Reads, ReadsAny, ReadsMore}
use Rattle.tte_units.proofs.general_lemmas.Lists.{any_none, any_parts, fronts, none_before}
use Rattle.world_drive.proofs.{Earlier.{not_less, sizes}, exact_lemmas.Events.{last_is, parted}}
use denote.Bor.{Bor}
use Rattle.tte_io.specs.declared.lines.LineTaken.TheVariants as found
use Rattle.tte_traces.specs.declared.fault.TraceStop.TheVariants as stops

-- ---- the fault of a trace behind the events admitted is one

-- one reading
pub one_event : (r : Read Event) (d e : Event) → r ≡ Ok d → r ≡ Ok e → d ≡ e
one_event r d e p q = cc

one_refusal : (r : Read Event) (d e : LineRefusal) → r ≡ Err d → r ≡ Err e → d ≡ e
one_refusal r d e p q = cc

no_both : (r : Read Event) (d : LineRefusal) (e : Event) → r ≡ Err d → r ≡ Ok e → ⊥
no_both r d e p q = cc

-- which question about a line the fault answers: they are asked in this order
abbrev question : TraceFault → ℕ
question Missing = 0
question TooMany = 1
question After = 2
question Long = 3
question (Line refusal) = 4
question (Outlaw outside) = 5

last_question : (f : TraceFault) → question f ≤ 5
last_question Missing = omega arith
last_question TooMany = omega arith
last_question After = omega arith
last_question Long = omega arith
last_question (Line refusal) = omega arith
last_question (Outlaw outside) = omega arith

module _ (network : Network) (before : List Event) (rest : List ℕ) where
  -- no later question is asked where a fault stands
  no_later : (f g : TraceFault) → question f < question g → IsFault network before rest f
      → IsFault network before rest g → ⊥
  no_later Missing TooMany lt p q = q.0 p.0
  no_later Missing After lt p q = q.0 p.0
  no_later Missing Long lt p q = q.0.some p.0
  no_later Missing (Line s) lt p q = q.0.some p.0
  no_later Missing (Outlaw o) lt p q = q.1.is_open.some p.0
  no_later TooMany After lt p q = omega (arith, p.1, q.1)
  no_later TooMany Long lt p q = omega (arith, p.1, q.0.number)
  no_later TooMany (Line s) lt p q = omega (arith, p.1, q.0.number)
  no_later TooMany (Outlaw o) lt p q = omega (arith, p.1, q.1.is_open.number)
  no_later After Long lt p q = q.0.unended p.2
  no_later After (Line s) lt p q = q.0.unended p.2
  no_later After (Outlaw o) lt p q = q.1.is_open.unended p.2
  no_later Long (Line s) lt p q = omega (arith, p.1, q.1)
  no_later Long (Outlaw o) lt p q = omega (arith, p.1, q.1.short)
  no_later (Line r) (Outlaw o) lt p q = no_both (event_read network (first_line rest)) r q.0 p.2 q.1.read
  no_later f g lt p q = absurd (omega (arith, lt, last_question g))

  -- faults that answer one question are one
  one_answer : (f g : TraceFault) → question f ≡ question g → IsFault network before rest f
      → IsFault network before rest g → f ≡ g
  one_answer Missing Missing same p q = refl
  one_answer TooMany TooMany same p q = refl
  one_answer After After same p q = refl
  one_answer Long Long same p q = refl
  one_answer (Line r) (Line s) same p q = ap Line (one_refusal (event_read network (first_line rest)) r s p.2 q.2)
  one_answer (Outlaw o) (Outlaw u) same p q =
      let event = one_event (event_read network (first_line rest)) q.0 p.0 q.1.read p.1.read in
      ap Outlaw ((hypothesis_is_decided network before p.0).one o u p.2
      (subst (λ e. IsOutsideBy network before e u) event q.2))
  one_answer f g same p q = absurd (omega (arith, same))

  pub fault_one : (f g : TraceFault) → IsFault network before rest f → IsFault network before rest g → f ≡ g
  fault_one f g p q =
      elim (cases_order (question f) (question g)) [
        | inl same ↦ one_answer f g same p q
        | inr (inl lt) ↦ absurd (no_later f g lt p q)
        | inr (inr gt) ↦ absurd (no_later g f gt q p)
      ]

  -- where a fault stands no event is admitted
  pub fault_stops : (fault : TraceFault) {event : Event} → IsFault network before rest fault
      → IsAdmitted network before rest event → ⊥
  fault_stops Missing p a = a.has.is_open.some p.0
  fault_stops TooMany p a = omega (arith, p.1, a.has.is_open.number)
  fault_stops After p a = a.has.is_open.unended p.2
  fault_stops Long p a = omega (arith, p.1, a.has.short)
  fault_stops (Line refusal) {event} p a = no_both (event_read network (first_line rest)) refusal event p.2 a.has.read
  fault_stops (Outlaw outside) {event} p a =
      let same = one_event (event_read network (first_line rest)) event p.0 a.has.read p.1.read in
      (hypothesis_is_decided network before p.0).not_both outside
      (subst (λ e. IsWithinHypothesis network before e) same a.within) p.2

  -- a trace does not end with a fault behind the end
  pub end_has_no_fault : (fault : TraceFault) → rest ≡ [] → HaveEnded before → IsFault network before rest fault → ⊥
  end_has_no_fault Missing none ended p = p.1 ended
  end_has_no_fault TooMany none ended p = p.0 none
  end_has_no_fault After none ended p = p.0 none
  end_has_no_fault Long none ended p = p.0.some none
  end_has_no_fault (Line refusal) none ended p = p.0.some none
  end_has_no_fault (Outlaw outside) none ended p = p.1.is_open.some none

-- ---- the events admitted from the octets of a trace: no events

module _ (network : Network) where
  pub admitted_none : (octets : List ℕ) → AreAdmitted network octets []
  admitted_none octets before behind event e = absurd (none_before before behind event e)

  -- the first of them are admitted
  pub front_admitted : (octets : List ℕ) (events : List Event) (event : Event) (others : List Event)
      → AreAdmitted network octets (events ++ event ∷ others) → AreAdmitted network octets (events ++ event ∷ [])
  front_admitted octets events event others all before behind e is =
      all before (behind ++ others) e
      (sym (append_assoc events (event ∷ []) others) ∙ ap (λ (l : List Event). l ++ others) is ∙ append_assoc before
      (e ∷ behind) others)

  pub events_admitted : (octets : List ℕ) (events others : List Event)
      → AreAdmitted network octets (events ++ others) → AreAdmitted network octets events
  events_admitted octets events others all before behind e is =
      all before (behind ++ others) e (ap (λ (l : List Event). l ++ others) is ∙ append_assoc before (e ∷ behind)
      others)

  -- ---- their order

  -- an event within the hypothesis is no earlier than the last before it
  no_earlier : (front : List Event) (last event : Event) → IsWithinHypothesis network (front ++ last ∷ []) event
      → last.time.0 ≤ℤ event.time.0
  no_earlier front last event within =
      not_less last.time.0 event.time.0 (λ less. within Order
      (record { front = front; last = last; order = refl; later = less }))

  admitted_begun : {before : List Event} {rest : List ℕ} {event : Event} → IsAdmitted network before rest event
      → pos 0 ≤ℤ event.time.0
  admitted_begun {rest} {event} a = let time = event_time network (first_line rest) event a.has.read in time.least

  in_order_from : (octets : List ℕ) (front events : List Event) (last : Event) → pos 0 ≤ℤ last.time.0
      → AreAdmitted network octets ((front ++ last ∷ []) ++ events) → IsInOrder (amount last.time) events
  in_order_from octets front [] last begun all = tt
  in_order_from octets front (e ∷ es) last begun all =
      let a = all (front ++ last ∷ []) es e refl in
      let next = admitted_begun a in
      let joined = sym (append_assoc (front ++ last ∷ []) (e ∷ []) es) in (
        next,
        sizes last.time.0 e.time.0 begun (no_earlier front last e a.within),
        in_order_from octets (front ++ last ∷ []) es e next (subst (AreAdmitted network octets) joined all),
      )

in_order : (network : Network) (octets : List ℕ) (events : List Event) → AreAdmitted network octets events → IsInOrder 0 events
in_order network octets [] all = tt
in_order network octets (e ∷ es) all =
    let begun = admitted_begun network (all [] es e refl) in
    (begun, omega arith, in_order_from network octets [] es e begun all)

-- ---- their end

-- no event is admitted behind the end
end_is_last : (network : Network) (octets : List ℕ) (front behind : List Event) (end : Event) → end.what ≡ End
    → AreAdmitted network octets (front ++ end ∷ behind) → end.time ≡ last_time (front ++ end ∷ behind)
end_is_last network octets front [] end is all = sym (last_is front end)
end_is_last network octets front (e ∷ es) end is all =
    let a = all (front ++ end ∷ []) es e (sym (append_assoc front (end ∷ []) (e ∷ es))) in
    absurd (a.has.is_open.unended (Any-push (λ (d : Event). d.what ≡ End) front end is))

-- admitted events are in order, and only the last is the end
pub admitted_in_order : (network : Network) (octets : List ℕ) (events : List Event) → AreAdmitted network octets events → AreInOrder events
admitted_in_order network octets events all = record {
  order = in_order network octets events all;
  last = λ time ends.
      let end : Event = record { time = time; what = End } in
      let p = parted events end ends in
      end_is_last network octets p.0 p.1 end refl (subst (AreAdmitted network octets) p.2 all) ∙ ap last_time (sym p.2);
}

-- ---- events admitted from the same octets

-- no event is admitted behind these
abbrev pub IsStopped : Network → List ℕ → List Event → Type 0
IsStopped network octets events = (event : Event) → IsAdmitted network events (behind_lines (length events) octets) event → ⊥

one_more : {X : Type 0} (x y : X) (xs ys : List X) → x ≡ y → xs ≡ ys → x ∷ xs ≡ y ∷ ys
one_more x y xs ys e f = cc

module _ (network : Network) (octets : List ℕ) where
  front_from : (before es fs : List Event) → AreAdmitted network octets (before ++ es)
      → AreAdmitted network octets (before ++ fs) → IsStopped network octets (before ++ fs)
      → (more : List Event) × (fs ≡ es ++ more)
  front_from before [] fs a b stop = (fs, refl)
  front_from before (e ∷ es) [] a b stop =
      absurd (subst (IsStopped network octets) (append-nil before) stop e (a before es e refl))
  front_from before (e ∷ es) (f ∷ fs) a b stop =
      let same : f ≡ e =
      one_event (event_read network (first_line (behind_lines (length before) octets))) f e
      (b before fs f refl).has.read (a before es e refl).has.read in
      let joined : before ++ f ∷ fs ≡ (before ++ e ∷ []) ++ fs =
      ap (λ (t : Event). before ++ t ∷ fs) same ∙ sym (append_assoc before (e ∷ []) fs) in
      let left = subst (AreAdmitted network octets) (sym (append_assoc before (e ∷ []) es)) a in
      let right = subst (AreAdmitted network octets) joined b in
      let r = front_from (before ++ e ∷ []) es fs left right (subst (IsStopped network octets) joined stop) in
      (r.0, one_more f e fs (es ++ r.0) same r.1)

  -- the events admitted so far are the first of all those that are
  pub admitted_one : (events all : List Event) → AreAdmitted network octets events → AreAdmitted network octets all
      → IsStopped network octets all → (more : List Event) × (all ≡ events ++ more)
  admitted_one events all a b stop = front_from [] events all a b stop

  -- where none is admitted behind either, they are the same
  pub stopped_one : (events others : List Event) → AreAdmitted network octets events
      → IsStopped network octets events → AreAdmitted network octets others → IsStopped network octets others
      → events ≡ others
  stopped_one events others a stop b halt =
      let more = admitted_one events others a b halt in
      let rest = admitted_one others events b a stop in
      fronts events others more.0 rest.0 more.1 rest.1

-- ---- a line taken from the octets ahead, or by reads

-- the same call with another answer, of which this is so, or from other octets
anew : {E F : Type 0} {before : List ℕ} {had : Bool} {left left_after : Option (List ℕ)} {after : LineReaderState} {result : Result LineTaken E}
    (n : NextLine before had left after left_after result) (from to : Option (List ℕ)) (other : Result LineTaken F) → Consumes from to (n.earlier ++ n.last)
    → (had ≡ true → IsEnd other) → Answers had other n.given after to → NextLine before had from after to other
anew n from to other consumed ends answer = record {
  earlier = n.earlier;
  last = n.last;
  consumed = consumed;
  last_size = n.last_size;
  needed = n.needed;
  ends = ends;
  given = n.given;
  nothing_lost = n.nothing_lost;
  answer = answer;
}

module _ {E F : Type 0} (before : List ℕ) (had : Bool) (left : Option (List ℕ)) (after : LineReaderState)
    (left_after : Option (List ℕ)) where
  -- what was found is found whatever errors there are
  pub found_over : (found : LineTaken) → NextLine {E = E} before had left after left_after (Ok found)
      → NextLine {E = F} before had left after left_after (Ok found)
  found_over found.Whole n = anew n left left_after (Ok found.Whole) n.consumed n.ends n.answer
  found_over found.Long n = anew n left left_after (Ok found.Long) n.consumed n.ends n.answer
  found_over found.End n = anew n left left_after (Ok found.End) n.consumed n.ends n.answer

  -- so is what stays where a read failed
  pub failed_over : (e : E) (f : F) → NextLine before had left after left_after (Err e)
      → NextLine before had left after left_after (Err f)
  failed_over e f n = anew n left left_after (Err f) n.consumed n.ends n.answer

-- where no line was found ahead and nothing is read, the unfinished line stays
pub unread : {F : Type 0} (before : List ℕ) (had : Bool) (left : Option (List ℕ)) {after : LineReaderState} (f : F)
    → had ≡ false → pending after ≡ before → KeepsLine [] after → NextLine before had left after left (Err f)
unread before had left f unended same keeps = record {
  earlier = [];
  last = [];
  consumed = Consumes-nil left;
  last_size = omega arith;
  needed = λ some. absurd (some refl);
  ends = λ is. absurd cc;
  given = [];
  nothing_lost = append-nil before ∙ sym same;
  answer = keeps;
}

-- where no line was found ahead, a line that is taken then is taken from what was pending before
pub unmoved : {E : Type 0} (before : List ℕ) (had : Bool) {between : LineReaderState} {left : Option (List ℕ)}
    {after : LineReaderState} {left_after : Option (List ℕ)} {result : Result LineTaken E}
    → (had ≡ false) × (pending between ≡ before) × KeepsLine [] between
    → NextLine (pending between) between.ended left after left_after result
    → NextLine before had left after left_after result
unmoved {E} before had {between} {left} {after} {left_after} {result} none n =
    let same : between.ended ≡ had = ap (λ (r : LineReaderState). r.ended) none.2.reader ∙ sym none.0 in
    let next = subst (λ b. NextLine {E = E} (pending between) b left after left_after result) same n in
    subst (λ b. NextLine {E = E} b had left after left_after result) none.1 next

-- where a source that tells its octets was found at its end, none is left in it
pub none_left_after : {E : Type 0} {before : List ℕ} {had : Bool} (left : List ℕ) {after : LineReaderState}
    (rest : List ℕ) (result : Result LineTaken E) → (had ≡ true → left ≡ [])
    → NextLine before had (Some left) after (Some rest) result → after.ended ≡ true → rest ≡ []
none_left_after left rest (Ok found.Whole) none n is =
    elim n.answer.ended [ inl e ↦ let on = e.1 in absurd cc | inr e ↦ e.4 ]
none_left_after left {after} rest (Ok found.Long) none n is =
    let on : after.ended ≡ false = ap (λ (r : LineReaderState). r.ended) n.answer.reader in absurd cc
none_left_after left {after} rest (Err e) none n is =
    let on : after.ended ≡ false = ap (λ (r : LineReaderState). r.ended) n.answer.reader in absurd cc
none_left_after left rest (Ok found.End) none n is =
    elim n.answer.end [
      | inl e ↦ behind_none (n.earlier ++ n.last) rest (sym n.consumed ∙ none e)
      | inr e ↦ e
    ]
  where
    behind_none : (xs ys : List ℕ) → xs ++ ys ≡ [] → ys ≡ []
    behind_none [] ys e = e
    behind_none (x ∷ xs) ys e = absurd cc

module _ {E : Type 0} (before : List ℕ) (had : Bool) (left : Option (List ℕ)) (after : LineReaderState)
    (left_after : Option (List ℕ)) where
  -- where nothing came behind the end, and where it is found none is left
  pub ends_so : (result : Result LineTaken E) (n : NextLine before had left after left_after result) → had ≡ true
      → (n.earlier ++ n.last ≡ []) × (after.ended ≡ true)
  ends_so (Ok found.Whole) n is = absurd (n.ends is)
  ends_so (Ok found.Long) n is = absurd (n.ends is)
  ends_so (Err e) n is = absurd (n.ends is)
  ends_so (Ok found.End) n is =
      (none_of (n.earlier ++ n.last) (λ some. let on = (n.needed some).0 in cc), ap (λ (r : LineReaderState). r.ended) n.answer.reader)
    where
      none_of : (xs : List ℕ) → (xs ≢ [] → ⊥) → xs ≡ []
      none_of [] h = refl
      none_of (x ∷ xs) h = absurd (h (λ e. cc))

  -- a source that had told what came, and then these
  pub as_told : (result : Result LineTaken E) (n : NextLine before had left after left_after result) (rest : List ℕ)
      → (after.ended ≡ true → rest ≡ []) → NextLine before had (Some ((n.earlier ++ n.last) ++ rest)) after
      (Some rest) result
  as_told (Ok found.Whole) n rest none =
      anew n _ (Some rest) (Ok found.Whole) refl n.ends (record {
        text = n.answer.text;
        line = n.answer.line;
        ended = elim n.answer.ended [ inl e ↦ inl e | inr e ↦ inr (e.0, e.1, e.2, e.3, none e.3) ];
        reader = n.answer.reader;
      })
  as_told (Ok found.Long) n rest none = anew n _ (Some rest) (Ok found.Long) refl n.ends n.answer
  as_told (Ok found.End) n rest none =
      anew n _ (Some rest) (Ok found.End) refl n.ends (record {
        none = n.answer.none;
        reader = n.answer.reader;
        end = inr (none (ap (λ (r : LineReaderState). r.ended) n.answer.reader));
      })
  as_told (Err e) n rest none = anew n _ (Some rest) (Err e) refl n.ends n.answer

-- ---- one more event of a trace that is taken line by line

-- a trace without events has not ended
pub none_ended : HaveEnded [] → ⊥
none_ended ended = any_none (λ (e : Event). e.what ≡ End) ended

-- so many lines and one more
pub behind_one : (n m : ℕ) (octets : List ℕ) → m ≡ n + 1 → behind_lines m octets ≡ behind_line (behind_lines n octets)
behind_one n m octets e = let s : m ≡ suc n = omega (arith, e) in ap (λ k. behind_lines k octets) s

pub behind_more : (events : List Event) (event : Event) (octets : List ℕ)
    → behind_lines (length (events ++ event ∷ [])) octets ≡ behind_line (behind_lines (length events) octets)
behind_more events event octets = behind_one (length events) (length (events ++ event ∷ [])) octets (length-append events (event ∷ []))

-- lines are taken from the front
front_of_line : (octets : List ℕ) → (front : List ℕ) × (octets ≡ front ++ behind_line octets)
front_of_line [] = ([], refl)
front_of_line (x ∷ xs) = line_front (x == lf) (front_of_line xs)
  where
    line_front : (ends : Bool) → (front : List ℕ) × (xs ≡ front ++ behind_line xs)
        → (front : List ℕ) × (x ∷ xs ≡ front ++ (if ends then xs else behind_line xs))
    line_front true f = (x ∷ [], refl)
    line_front false f = (x ∷ f.0, ap (λ (t : List ℕ). x ∷ t) f.1)

front_of_lines : (n : ℕ) (octets : List ℕ) → (front : List ℕ) × (octets ≡ front ++ behind_lines n octets)
front_of_lines zero octets = ([], refl)
front_of_lines (suc n) octets =
    let f = front_of_lines n octets in
    let g = front_of_line (behind_lines n octets) in
    (f.0 ++ g.0, f.1 ∙ ap (λ (t : List ℕ). f.0 ++ t) g.1 ∙ sym (append_assoc f.0 g.0 (behind_line (behind_lines n octets))))

-- one more line with its LF stands whole
more_whole : (events : List Event) (event : Event) (octets rest : List ℕ) → behind_lines (length (events ++ event ∷ [])) octets ≡ rest
    → (text : List ℕ) → behind_lines (length events) octets ≡ text ++ lf ∷ rest → StandWhole (length (events ++ event ∷ [])) octets
more_whole events event octets rest behind text here =
    let f = front_of_lines (length events) octets in
    let whole : octets ≡ (f.0 ++ text) ++ lf ∷ rest = f.1 ∙ ap (λ (t : List ℕ). f.0 ++ t) here ∙ sym (append_assoc f.0 text (lf ∷ rest)) in
    let long : length (events ++ event ∷ []) ≡ suc (length events) = length-append events (event ∷ []) ∙ omega arith in
    let next : behind_lines (suc (length events)) octets ≡ rest = ap (λ k. behind_lines k octets) (sym long) ∙ behind in
    subst (λ k. StandWhole k octets) (sym long) (f.0 ++ text, whole ∙ ap (λ (t : List ℕ). (f.0 ++ text) ++ lf ∷ t) (sym next))

-- one more event is admitted
pub more_admitted : {network : Network} (octets : List ℕ) {events : List Event} {event : Event}
    → AreAdmitted network octets events → IsAdmitted network events (behind_lines (length events) octets) event
    → AreAdmitted network octets (events ++ event ∷ [])
more_admitted octets {events} {event} all here before behind e order =
    elim (stands_where events event before e behind order) [
      | inl s ↦ all before s.rest e s.whole
      | inr s ↦ rw (s.before_is, s.same) here
    ]

-- one more event behind those that have no end
pub more_ended : (events : List Event) (event : Event) → (HaveEnded events → ⊥) → (event.what ≡ End) ↔ HaveEnded (events ++ event ∷ [])
more_ended events event unended = (
  λ e. any_last (λ (x : Event). x.what ≡ End) events event e,
  λ h. elim (any_parts (λ (x : Event). x.what ≡ End) events event h) [ inl a ↦ absurd (unended a) | inr e ↦ e ],
)

-- the event of a line, over one network and one text
pub event_as : (network at : Network) (line shown : List ℕ) (text : Option (List ℕ)) (read : Read Event) → read ≡ event_read at shown → at ≡ network
    → text ≡ Some shown → text ≡ Some line → event_read network line ≡ read
event_as network at line shown text read is over is_shown is_line = cc

-- a trace follows the events and one more
pub more_followed : {network : Network} {events : List Event} (event : Event) {before : Trace} (after : Trace)
    → Follows network events before → length events + 1 < 2 ^ 32 → after.accepted.now ≡ before.accepted.now
    → Watches network after.watch (events ++ event ∷ []) → after.lines ≡ before.lines + 1 → (HaveEnded events → ⊥)
    → (after.ended ≡ true) ↔ (event.what ≡ End) → Follows network (events ++ event ∷ []) after
more_followed {events} event after f number over watch lines unended ends =
    let more = more_ended events event unended in
    record {
      over = over ∙ f.over;
      watch = watch;
      lines = omega (arith, lines, f.lines, length-append events (event ∷ []));
      number = omega (arith, number, length-append events (event ∷ []));
      ended = (λ t. more.0 (ends.0 t), λ h. ends.1 (more.1 h));
    }

-- a trace without events
pub none_followed : (accepted : Bor Accepted) {watch : Watch} (reader : LineReaderState)
    → Watches accepted.now watch [] → Follows accepted.now []
    (record { accepted = accepted; watch = watch; reader = reader; lines = 0; ended = false })
none_followed accepted {watch} reader watches = record {
  over = refl;
  watch = watches;
  lines = refl;
  number = omega arith;
  ended = (λ t. absurd cc, λ h. absurd (none_ended h));
}

-- octets behind a long line
pub long_some : (rest : List ℕ) → line_limit < length (first_line rest) → rest ≢ []
long_some rest long none = omega (arith, long, ap (λ t. length (first_line t)) none)

-- the reader is no part of what a trace knows of its events
pub followed_with : {network : Network} {events : List Event} {trace : Trace} (reader : LineReaderState)
    → Follows network events trace → Follows network events (record trace { reader = reader })
followed_with reader f = record { over = f.over; watch = f.watch; lines = f.lines; number = f.number; ended = f.ended }

-- all that is left is to come where none is left at the end
to_come_all : (pending : List ℕ) (ended : Bool) (left : List ℕ) → (ended ≡ true → left ≡ []) → to_come pending ended left ≡ pending ++ left
to_come_all pending true left none = ap (λ (t : List ℕ). pending ++ t) (sym (none refl))
to_come_all pending false left none = refl

-- what comes of told octets
told_outcome : {before : List ℕ} {had : Bool} (left : List ℕ) {after : LineReaderState}
    (left_before left_after : Option (List ℕ)) {result : Result LineTaken TraceStop} → left_before ≡ Some left
    → (had ≡ true → left ≡ []) → NextLine before had left_before after left_after result
    → TellsOutcome before had left_before after left_after result
    → (rest : List ℕ) × (left_after ≡ Some rest) × Outcome (before ++ left) result after (pending after ++ rest)
    × (after.ended ≡ true → rest ≡ [])
told_outcome left None left_after told none n o = absurd cc
told_outcome left (Some l) None told none n o = absurd o
told_outcome {before} {had} left {after} (Some l) (Some rest) {result} told none n o =
    let same : l ≡ left = cc in
    let next = subst (λ (t : List ℕ). NextLine before had (Some t) after (Some rest) result) same n in
    let none_after = none_left_after left rest result none next in
    let before_is : to_come before had l ≡ before ++ left = to_come_all before had l (λ is. same ∙ none is) ∙ ap (λ (t : List ℕ). before ++ t) same in
    let after_is = to_come_all (pending after) after.ended rest none_after in
    let out = subst (λ t. Outcome t result after (to_come (pending after) after.ended rest)) before_is o in
    (rest, refl, subst (λ t. Outcome (before ++ left) result after t) after_is out, none_after)

-- what is found in told octets
found_of : (octets : List ℕ) (t : LineTaken) (after : LineReaderState) (rest : List ℕ) → Outcome {E = TraceStop} octets (Ok t) after rest
    → IsFound octets t after
found_of octets found.Whole after rest o = (o.0, o.1, o.2)
found_of octets found.Long after rest o = o.0
found_of octets found.End after rest o = o.0

-- something is found in some octets, also where they are not told
pub some_found : {before : List ℕ} {had : Bool} {left : Option (List ℕ)} {after : LineReaderState}
    {left_after : Option (List ℕ)} (t : LineTaken) → NextLine {E = TraceStop} before had left after left_after (Ok t)
    → (rest : List ℕ) × IsFound rest t after
some_found found.Whole n =
    let text = n.answer.text in
    let first : first_line (text ++ lf ∷ []) ≡ text = first_line-append text (lf ∷ []) n.answer.line.unbroken ∙ append-nil text in (
      text ++ lf ∷ [],
      (
        λ none. omega (arith, ap length none, length-append text (lf ∷ [])),
        omega (arith, ap length first, n.answer.line.within),
        ap
            (λ (r : LineReaderState). r.text) n.answer.reader ∙ ap (λ (l : List ℕ). Some l) (sym first),
      ),
    )
some_found {after} found.Long n = (pending after ++ [], first_line-too_long [] n.answer.line)
some_found found.End n = ([], refl)

-- how a trace goes on, by how the events go on with what was found
pub goes_on : (network : Network) (events : List Event) (rest : List ℕ) (event : Option Event) (trace : Trace) → Judges network events rest (Ok event) trace
    → IfSome event (λ e. IsOfNetwork network e.what) → IfSome event IsEventInRange → GoesOn network events (Ok event) trace
goes_on network events rest None trace j of_network range = (j.1, j.2)
goes_on network events rest (Some event) trace j of_network range = record {
  unended = j.0.has.is_open.unended;
  of_network = of_network;
  range = range;
  within = j.0.within;
  follows = j.1;
}

module _ (network : Network) (octets : List ℕ) (events : List Event) (left : List ℕ) (old new : Trace)
    (reader : LineReaderState) where
  -- the same where the octets are told
  on_told : (rest : List ℕ) (t : LineTaken) (event : Option Event) → Reads network octets events old left
      → Outcome {E = TraceStop} (pending old.reader ++ left) (Ok t) reader (pending reader ++ rest)
      → (reader.ended ≡ true → rest ≡ []) → Judges network events (pending old.reader ++ left) (Ok event) new
      → new.reader ≡ reader → ReadsOn network octets events (Ok event) new rest
  on_told rest t None r o none j same = (r.coming ∙ j.0, j.1)
  on_told rest found.Whole (Some event) r o none j same = record {
    follows = j.1;
    admitted = more_admitted octets r.admitted (subst (λ coming. IsAdmitted network events coming event)
        (sym r.coming) j.0);
    coming = behind_more events event octets ∙ ap behind_line r.coming ∙ sym o.3 ∙ ap
        (λ s. pending s ++ rest) (sym same);
    none_left = λ is. none (sym (ap (λ (s : LineReaderState). s.ended) same) ∙ is);
    whole = λ is.
        more_whole events event octets (pending reader ++ rest)
        (behind_more events event octets ∙ ap behind_line r.coming ∙ sym o.3)
        (first_line (pending old.reader ++ left)) (r.coming ∙ o.4
        (sym (ap (λ (s : LineReaderState). s.ended) same) ∙ is));
  }
  on_told rest found.Long (Some event) r o none j same = absurd (omega (arith, o.0, j.0.has.short))
  on_told rest found.End (Some event) r o none j same = absurd (j.0.has.is_open.some o.0)

  pub reads_on : {left_before left_after : Option (List ℕ)} (t : LineTaken) (event : Option Event)
      → left_before ≡ Some left → Reads network octets events old left
      → NextLine {E = TraceStop} (pending old.reader) old.reader.ended left_before reader left_after (Ok t)
      → TellsOutcome {E = TraceStop} (pending old.reader) old.reader.ended left_before reader left_after (Ok t)
      → ((rest : List ℕ) → IsFound rest t reader → Judges network events rest (Ok event) new) → new.reader ≡ reader
      → (rest : List ℕ) × (left_after ≡ Some rest) × ReadsOn network octets events (Ok event) new rest
  reads_on {left_before} {left_after} t event told r n outcome judged same =
      let o = told_outcome left left_before left_after told r.none_left n outcome in (
        o.0,
        o.1,
        on_told o.0 t event r o.2 o.3
            (judged (pending old.reader ++ left) (found_of (pending old.reader ++ left) t reader
            (pending reader ++ o.0) o.2)) same,
      )

  pub reads_fault : {left_before left_after : Option (List ℕ)} (t : LineTaken) (fault : TraceFault)
      → left_before ≡ Some left → Reads network octets events old left
      → NextLine {E = TraceStop} (pending old.reader) old.reader.ended left_before reader left_after (Ok t)
      → TellsOutcome {E = TraceStop} (pending old.reader) old.reader.ended left_before reader left_after (Ok t)
      → ((rest : List ℕ) → IsFound rest t reader → Judges network events rest (Err fault) new)
      → (rest : List ℕ) × (left_after ≡ Some rest) × IsFault network events
      (behind_lines (length events) octets) fault
  reads_fault {left_before} {left_after} t fault told r n outcome judged =
      let o = told_outcome left left_before left_after told r.none_left n outcome in
      let j = judged (pending old.reader ++ left) (found_of (pending old.reader ++ left) t reader
      (pending reader ++ o.0) o.2) in
      (o.0, o.1, subst (λ coming. IsFault network events coming fault) (sym r.coming) j.0)

-- how a trace goes on, by how it was judged
pub goes_so : (network : Network) (events : List Event) (rest : List ℕ) (result : Result (Option Event) TraceStop) (trace : Trace)
    → JudgesSo network events rest result trace → IfOk result (λ event. IfSome event (λ e. IsOfNetwork network e.what))
    → IfOk result (λ event. IfSome event IsEventInRange) → GoesOn network events result trace
goes_so network events rest (Ok event) trace j of_network range = goes_on network events rest event trace j of_network range
goes_so network events rest (Err (stops.Fault fault)) trace j of_network range = j.1
goes_so network events rest (Err stops.ReadFault) trace j of_network range = absurd j
goes_so network events rest (Err stops.WriteFault) trace j of_network range = absurd j

module _ (network : Network) (octets : List ℕ) (events : List Event) (left : List ℕ) (old : Trace) where
  -- the same where the octets are told
  pub reads_so : (new : Trace) {reader : LineReaderState} {left_before left_after : Option (List ℕ)} (t : LineTaken)
      (result : Result (Option Event) TraceStop) → left_before ≡ Some left → Reads network octets events old left
      → NextLine {E = TraceStop} (pending old.reader) old.reader.ended left_before reader left_after (Ok t)
      → TellsOutcome {E = TraceStop} (pending old.reader) old.reader.ended left_before reader left_after (Ok t)
      → ((rest : List ℕ) → IsFound rest t reader → JudgesSo network events rest result new) → new.reader ≡ reader
      → IfErr result IsRefused → (rest : List ℕ) × (left_after ≡ Some rest)
      × ReadsOn network octets events result new rest
  reads_so new {reader} t (Ok event) told r n outcome judged same refused =
      reads_on network octets events left old new reader t event told r n outcome judged same
  reads_so new {reader} t (Err (stops.Fault fault)) told r n outcome judged same refused =
      reads_fault network octets events left old new reader t fault told r n outcome judged
  reads_so new t (Err stops.ReadFault) told r n outcome judged same refused =
      let is : stops.ReadFault ≡ stops.Fault refused.0 = refused.1 in absurd cc
  reads_so new t (Err stops.WriteFault) told r n outcome judged same refused =
      let is : stops.WriteFault ≡ stops.Fault refused.0 = refused.1 in absurd cc

  -- a failed read leaves the trace where it stands, and so does failing to pass on before one
  pub reads_same : {reader : LineReaderState} {left_before left_after : Option (List ℕ)} (stop : TraceStop)
      → left_before ≡ Some left → Reads network octets events old left
      → (stop ≡ stops.ReadFault) ⊎ (stop ≡ stops.WriteFault)
      → NextLine {E = TraceStop} (pending old.reader) old.reader.ended left_before reader left_after (Err stop)
      → TellsOutcome {E = TraceStop} (pending old.reader) old.reader.ended left_before reader left_after (Err stop)
      → (rest : List ℕ) × (left_after ≡ Some rest) × ReadsOn network octets events (Err stop)
      (record old { reader = reader }) rest
  reads_same {reader} {left_before} {left_after} stop told r which n outcome =
      let o = told_outcome left left_before left_after told r.none_left n outcome in
      let unread : reader.ahead ≡ [] = ap (λ (s : LineReaderState). s.ahead) n.answer.reader in
      let line : pending reader ≡ reader.kept = ap (λ (a : List ℕ). reader.kept ++ a) unread ∙ append-nil reader.kept in
      let unended : old.reader.ended ≡ false = false_from_ne_true old.reader.ended (λ is. n.ends is) in
      let next = record old { reader = reader } in
      let reads : Reads network octets events next o.0 = record {
        follows = followed_with reader r.follows;
        admitted = r.admitted;
        coming = r.coming ∙ sym o.2;
        none_left = o.3;
        whole = λ _. r.whole unended;
      } in
      let P : TraceStop → Type 0 = λ s. ReadsOn network octets events (Err s) next o.0 in
      let same : P stops.ReadFault = (reads, subst IsUnbroken (sym line) n.answer.line.unbroken, r.whole unended) in
      (o.0, o.1, elim which [ inl e ↦ subst P (sym e) same | inr e ↦ subst P (sym e) same ])

-- ---- where the octets are not told

-- what was read with any octets behind it is read so with those that are left
reads_told : (network : Network) (octets : List ℕ) (events : List Event) (result : Result (Option Event) TraceStop) (next : Trace) (left : List ℕ)
    → (rest : List ℕ) × (Some left ≡ Some rest) × ReadsOn network octets events result next rest → ReadsOn network octets events result next left
reads_told network octets events result next left r =
    let same : r.0 ≡ left = let e = r.1 in cc in
    subst (ReadsOn network octets events result next) same r.2

-- the octets before and behind
behind_more_octets : (network : Network) (came more left : List ℕ) (events : List Event) (result : Result (Option Event) TraceStop) (next : Trace)
    → AreAdmitted network (came ++ (more ++ left)) events → ReadsOn network (came ++ (more ++ left)) events result next left
    → AreAdmitted network ((came ++ more) ++ left) events × ReadsOn network ((came ++ more) ++ left) events result next left
behind_more_octets network came more left events result next admitted reads =
    let same = sym (append_assoc came more left) in (
      subst (λ t. AreAdmitted network t events) same admitted,
      subst (λ t. ReadsOn network t events result next left) same reads,
    )

-- what was left before a line was taken is what it took, and any that may follow
module _ (network : Network) (came : List ℕ) (events : List Event) (old : Trace) (reader : LineReaderState) (left_before left_after : Option (List ℕ))
    (any : ReadsAny network came events old) where
  before_any : (result : Result LineTaken TraceStop) (n : NextLine {E = TraceStop} (pending old.reader) old.reader.ended left_before reader left_after result)
      (left : List ℕ) → (reader.ended ≡ true → left ≡ []) → Reads network (came ++ ((n.earlier ++ n.last) ++ left)) events old ((n.earlier ++ n.last) ++ left)
  before_any result n left none =
      any ((n.earlier ++ n.last) ++ left) (λ is.
      let e = ends_so (pending old.reader) old.reader.ended left_before reader left_after result n is in
      ap (λ (t : List ℕ). t ++ left) e.0 ∙ none e.1)

  -- a line was found
  pub reads_any : (new : Trace) (t : LineTaken) (result : Result (Option Event) TraceStop)
      → NextLine {E = TraceStop} (pending old.reader) old.reader.ended left_before reader left_after (Ok t)
      → ((rest : List ℕ) → IsFound rest t reader → JudgesSo network events rest result new) → new.reader ≡ reader → IfErr result IsRefused
      → ReadsMore network came events result new
  reads_any new t result n judged same refused = record {
    more = n.earlier ++ n.last;
    reads = λ left none.
        let read = n.earlier ++ n.last in
        let none_read : reader.ended ≡ true → left ≡ [] = λ is. none (ap (λ (r : LineReaderState). r.ended) same ∙ is) in
        let told = as_told (pending old.reader) old.reader.ended left_before reader left_after (Ok t) n left none_read in
        let r = before_any (Ok t) n left none_read in
        let outcome = outcome_told old.reader.ended (Some (read ++ left)) (Some left) told in
        behind_more_octets network came read left events result new r.admitted
        (reads_told network (came ++ (read ++ left)) events result new left
        (reads_so network (came ++ (read ++ left)) events (read
        ++ left) old new t result refl r told outcome judged same
        refused));
  }

  -- a read failed, or nothing could be passed on before one
  pub stays_any : (stop : TraceStop) → (stop ≡ stops.ReadFault) ⊎ (stop ≡ stops.WriteFault)
      → NextLine {E = TraceStop} (pending old.reader) old.reader.ended left_before reader left_after (Err stop)
      → ReadsMore network came events (Err stop) (record old { reader = reader })
  stays_any stop which n = record {
    more = n.earlier ++ n.last;
    reads = λ left none.
        let read = n.earlier ++ n.last in
        let told = as_told (pending old.reader) old.reader.ended left_before reader left_after (Err stop) n left none in
        let r = before_any (Err stop) n left none in
        let outcome = outcome_told old.reader.ended (Some (read ++ left)) (Some left) told in
        behind_more_octets network came read left events (Err stop) (record old { reader = reader }) r.admitted
        (reads_told network (came ++ (read ++ left)) events (Err stop) (record old { reader = reader }) left
        (reads_same network (came ++ (read ++ left)) events (read ++ left) old stop refl r which told outcome));
  }

-- the octets of the first line and those behind it
line_length : (octets : List ℕ) → length (first_line octets) + length (behind_line octets) ≤ length octets
line_length [] = omega arith
line_length (x ∷ xs) =
    elim (x == lf) as (λ (b : Bool). length (if b then [] else x ∷ first_line xs) + length (if b then xs else behind_line xs) ≤ length (x ∷ xs)) [
      | true ↦ omega arith
      | false ↦ omega (arith, line_length xs)
    ]

-- little more than the next line was taken
few_told : (coming : List ℕ) {after : LineReaderState} {had : Bool} {left : Option (List ℕ)} (rest : List ℕ)
    {before : List ℕ} (result : Result LineTaken TraceStop) → NextLine before had left after (Some rest) result
    → Outcome coming result after (pending after ++ rest) → length after.kept ≤ line_limit
    → length after.ahead ≤ ahead_limit → length (behind_line coming) ≤ length rest + ahead_limit
few_told coming {after} rest (Ok found.Whole) n o kept ahead =
    let unkept : after.kept ≡ [] = ap (λ (r : LineReaderState). r.kept) n.answer.reader in
    omega (arith, ap length o.3, ap length unkept, length-append (pending after) rest, length-append after.kept after.ahead, ahead)
few_told coming rest (Ok found.End) n o kept ahead = omega (arith, ap (λ t. length (behind_line t)) o.0)
few_told coming {after} rest (Ok found.Long) n o kept ahead =
    omega (arith, o.0, ap length o.1, line_length coming, length-append (pending after) rest, length-append after.kept after.ahead, kept, ahead)
few_told coming {after} rest (Err e) n o kept ahead =
    let unread : after.ahead ≡ [] = ap (λ (r : LineReaderState). r.ahead) n.answer.reader in
    let line : pending after ≡ after.kept = ap (λ (a : List ℕ). after.kept ++ a) unread ∙ append-nil after.kept in
    let behind : behind_line coming ≡ behind_line rest =
    ap behind_line (sym o ∙ ap (λ (p : List ℕ). p ++ rest) line) ∙ behind_line-append after.kept rest n.answer.line.unbroken in
    omega (arith, ap length behind, line_length rest)

pub takes_few : (octets : List ℕ) (lines : ℕ) {before : List ℕ} {had : Bool} (left : List ℕ)
    {after : LineReaderState} {left_before : Option (List ℕ)} (left_after : Option (List ℕ))
    {result : Result LineTaken TraceStop} → left_before ≡ Some left → (had ≡ true → left ≡ [])
    → behind_lines lines octets ≡ before ++ left → NextLine before had left_before after left_after result
    → TellsOutcome before had left_before after left_after result → length after.kept ≤ line_limit
    → length after.ahead ≤ ahead_limit → IfSome left_after (TakesFew octets lines)
takes_few octets lines left None told none coming n o kept ahead = tt
takes_few octets lines {before} left {after} {left_before} (Some rest) {result} told none coming n outcome kept ahead =
    let o = told_outcome left left_before (Some rest) told none n outcome in
    let same : o.0 ≡ rest = let e = o.1 in cc in
    let behind : behind_lines (lines + 1) octets ≡ behind_line (before ++ left) = behind_one lines (lines + 1) octets refl ∙ ap behind_line coming in
    omega (
      arith,
      ap length behind,
      few_told (before ++ left) rest result n
          (subst (λ (t : List ℕ). Outcome (before ++ left) result after (pending after ++ t)) same o.2) kept ahead,
    )

-- The events of a report that are right: how they end, and that the clocks under them keep their laws.
use Rattle.std.{proofs.{Common.{◌≤ℤ◌, pos}, lemmas.{Int.ints, List.Elements.{All-cons, All-nil}}}}
use Rattle.std.{specs.{List.{Contains, cons_option}, Prelude.{◌↔◌, MatchBool}}}
use Rattle.audit_law.{proofs.events_lemmas.{Clocks.steps_history, Keeping.{events_from, soon, steps_from}}}
use Rattle.audit_law.{specs.{events.Readings.HaveBegun, law.SameRuns.IsClocked}}
use Rattle.compression.proofs.Growth.{in_cases, in_head, in_none, in_tail}
use Rattle.drift_clock.proofs.ExactSegments.{exact_laws}
use Rattle.net_plan.{proofs.Trees.none_told, specs.Ranges.IsInRange}
use Rattle.run_law.{proofs.runs.Places.parted}
use Rattle.run_law.specs.{records.Order.IsIn, runs.DueRecords.EndsAt}
use Rattle.run_law.specs.{scenario.{Hypothesis.{AreWithinHypothesis, IsWithinHypothesis}, Rates.rate_steps}}
use Rattle.tte_audit.{specs.{Named.IsNamed, Report.MayBefall}}
use Rattle.tte_audit.proofs.Words
use Words.{◌++◌, ◌^◌, ◌∙◌, ◌∷◌, ◌≡◌, ◌≤◌, ◌⊎◌, Any, AreEventsRight, Bool, End, EndWith, Event, List, MayCome, Network}
use Words.{None, Note, NoteBody, Option, Some, Units, What, [], amount, any_behind, any_first, ap, arith, event_by}
use Words.{events_of, false, inl, inr, refl, scenario_of, subst, sym, true}
use Rattle.run_law.specs.declared.note.NoteBody.TheVariants as notes

-- ---- the clocks of a report whose events are right keep the clock laws: its events

abbrev event_in : Note → Option Event
event_in note = event_by note.time note.body

-- some records, of which one is of the event
pub record IsTold (ns : List Note) (before : List Event) (event : Event) : Type 0 where
  pub front : List Note
  pub note : Note
  pub rest : List Note
  pub whole : ns ≡ front ++ note ∷ rest
  pub same : events_of front ≡ before
  pub tells : event_in note ≡ Some event

-- where events part, the records do
pub told : (ns : List Note) (before behind : List Event) (event : Event) → events_of ns ≡ before ++ event ∷ behind → IsTold ns before event
told [] before behind event e = absurd (none_told before behind event e)
told (n ∷ ns) before behind event e = by (λ bs same. told ns bs behind event same) (event_in n) refl before e
  where
    by : ((bs : List Event) → events_of ns ≡ bs ++ event ∷ behind → IsTold ns bs event) → (o : Option Event) → event_in n ≡ o → (before : List Event)
        → events_of (n ∷ ns) ≡ before ++ event ∷ behind → IsTold (n ∷ ns) before event
    by behind_it None is before e =
        let more = behind_it before (sym (ap (λ (o : Option Event). cons_option o (events_of ns)) is) ∙ e) in
        record {
          front = n ∷ more.front;
          note = more.note;
          rest = more.rest;
          whole = ap (λ (t : List Note). n ∷ t) more.whole;
          same = ap (λ (o : Option Event). cons_option o (events_of more.front)) is ∙ more.same;
          tells = more.tells;
        }
    by behind_it (Some x) is [] e =
        let whole : x ∷ events_of ns ≡ event ∷ behind = sym (ap (λ (o : Option Event). cons_option o (events_of ns)) is) ∙ e in
        let same : x ≡ event = cc in
        record { front = []; note = n; rest = ns; whole = refl; same = refl; tells = is ∙ ap (λ (v : Event). Some v) same }
    by behind_it (Some x) is (b ∷ bs) e =
        let whole : x ∷ events_of ns ≡ b ∷ (bs ++ event ∷ behind) = sym (ap (λ (o : Option Event). cons_option o (events_of ns)) is) ∙ e in
        let head : x ≡ b = cc in
        let tail : events_of ns ≡ bs ++ event ∷ behind = cc in
        let more = behind_it bs tail in
        record {
          front = n ∷ more.front;
          note = more.note;
          rest = more.rest;
          whole = ap (λ (t : List Note). n ∷ t) more.whole;
          same = ap (λ (o : Option Event). cons_option o (events_of more.front)) is
              ∙ ap (λ (v : Event). v ∷ events_of more.front) head
              ∙ ap (λ (t : List Event). b ∷ t) more.same;
          tells = more.tells;
        }

befalls : (network : Network) (befallen : List Event) (time : Units) (body : NoteBody) (event : Event) → event_by time body ≡ Some event
    → MayCome network befallen time body → IsWithinHypothesis network befallen event
befalls network befallen time (notes.Event line what) event is may =
    let same : (let v : Event = record { time = time; what = what } in v) ≡ event = cc in
    subst (IsWithinHypothesis network befallen) same may.within
befalls network befallen time body event is may = absurd cc

-- events that are right are within the hypothesis
pub within : (network : Network) (ns : List Note) → AreEventsRight network ns → AreWithinHypothesis network (events_of ns)
within network ns right before behind event e =
    let at = told ns before behind event e in
    subst (λ es. IsWithinHypothesis network es event) at.same
    (befalls network (events_of at.front) at.note.time at.note.body event at.tells (right at.front at.rest at.note at.whole))

begun_there : (network : Network) (befallen : List Event) (time : Units) (body : NoteBody) (event : Event) → event_by time body ≡ Some event
    → MayCome network befallen time body → pos 0 ≤ℤ event.time.0
begun_there network befallen time (notes.Event line what) event is may =
    let same : (let v : Event = record { time = time; what = what } in v) ≡ event = cc in
    subst (λ (v : Event). pos 0 ≤ℤ v.time.0) same may.begun
begun_there network befallen time body event is may = absurd cc

-- and begin at time 0
begun_in : (network : Network) (ns : List Note) → AreEventsRight network ns → (e : Event) → IsIn e (events_of ns) → pos 0 ≤ℤ e.time.0
begun_in network ns right e i =
    let parts = parted e (events_of ns) i in
    let at = told ns parts.0 parts.1 e parts.2 in
    begun_there network (events_of at.front) at.note.time at.note.body e at.tells (right at.front at.rest at.note at.whole)

all_begun : (es : List Event) → ((e : Event) → IsIn e es → pos 0 ≤ℤ e.time.0) → HaveBegun es
all_begun [] each = All-nil (λ e. pos 0 ≤ℤ e.time.0)
all_begun (e ∷ es) each = All-cons (λ e. pos 0 ≤ℤ e.time.0) e es (each e (inl refl)) (all_begun es (λ d i. each d (inr i)))

-- ---- the scenario

-- the scenario of records whose events are right
pub clocked : {network : Network} (ns : List Note) → IsNamed network → AreEventsRight network ns
    → IsClocked (scenario_of network ns)
clocked {network} ns named right =
    let range = named.in_range in
    let least = range.grain.least in
    let some : 1 ≤ amount network.grain = omega (arith, ints, least) in
    let from_zero = begun_in network ns right in
    let events = events_from (events_of ns) range (within network ns right) (all_begun (events_of ns) from_zero) in
    record {
      range = range;
      begun = from_zero;
      clocks = λ device.
          let steps = rate_steps (events_of ns) device in
          exact_laws network.rho (amount network.grain) steps range.rho some
          (steps_history network.rho 0 steps (steps_from network.rho 0 (events_of ns) device events));
    }

-- ---- the end of the events of a report

abbrev end_at : Units → Event
end_at time = record { time = time; what = End }

-- the event may befall the network on some line, given those before it
abbrev MayBefallThere : Network → List Event → Event → Type 0
MayBefallThere network befallen event = (line : _) × MayBefall network befallen line event

may_by : (network : Network) (befallen : List Event) (time : Units) (body : NoteBody) (event : Event) → event_by time body ≡ Some event
    → MayCome network befallen time body → MayBefallThere network befallen event
may_by network befallen time (notes.Event line what) event is may =
    let same : (let v : Event = record { time = time; what = what } in v) ≡ event = cc in
    (line, subst (MayBefall network befallen line) same may)
may_by network befallen time body event is may = absurd cc

-- each event of a report may befall the network, given those before it
pub may_there : (network : Network) (ns : List Note) (front behind : List Event) (event : Event) → AreEventsRight network ns
    → events_of ns ≡ front ++ event ∷ behind → MayBefallThere network front event
may_there network ns front behind event right parts =
    let at = told ns front behind event parts in
    subst (λ es. MayBefallThere network es event) at.same
    (may_by network (events_of at.front) at.note.time at.note.body event at.tells (right at.front at.rest at.note at.whole))

-- the end comes no later than any clock may read
pub ends_soon : {network : Network} (ns : List Note) (end : Units) → IsInRange network → AreEventsRight network ns
    → EndWith (events_of ns) end → amount end ≤ 2 ^ 60
ends_soon {network} ns end range right ends =
    let may = may_there network ns ends.0 [] (end_at end) right ends.1 in
    soon ends.0 (end_at end) range may.1.within may.1.begun

contains_last : (front : List Event) (event : Event) → Contains (front ++ event ∷ []) event
contains_last [] event = in_head event []
contains_last (e ∷ front) event = in_tail e event (front ++ event ∷ []) (contains_last front event)

in_front_or_last : (front : List Event) (last event : Event) → Contains (front ++ last ∷ []) event → Contains front event ⊎ (last ≡ event)
in_front_or_last [] last event has =
    elim (in_cases last event [] has) [ inl same ↦ inr same | inr none ↦ absurd (in_none event none) ]
in_front_or_last (e ∷ front) last event has =
    elim (in_cases e event (front ++ last ∷ []) has) [
      | inl same ↦ inl (subst (λ (x : Event). Contains (e ∷ front) x) same (in_head e front))
      | inr more ↦ elim (in_front_or_last front last event more) [
        | inl there ↦ inl (in_tail e event front there)
        | inr same ↦ inr same
      ]
    ]

any_end_in : (front : List Event) (time : Units) → Contains front (end_at time) → Any (λ e. e.what ≡ End) front
any_end_in [] time has = absurd (in_none (end_at time) has)
any_end_in (e ∷ front) time has =
    elim (in_cases e (end_at time) front has) [
      | inl same ↦ any_first (λ (x : Event). x.what ≡ End) e front (ap (λ (x : Event). x.what) same)
      | inr more ↦ any_behind (λ (x : Event). x.what ≡ End) e front (any_end_in front time more)
    ]

-- the events of a report end with its end, and at no other time
pub only_end : (network : Network) (ns : List Note) (end : Units) → AreEventsRight network ns → EndWith (events_of ns) end → (time : Units)
    → (time ≡ end) ↔ EndsAt (events_of ns) time
only_end network ns end right ends time = (
  λ same.
      subst (λ t. EndsAt (events_of ns) t) (sym same)
      (subst (λ (es : List Event). Contains es (end_at end)) (sym ends.1) (contains_last ends.0 (end_at end))),
  λ has.
      elim (in_front_or_last ends.0 (end_at end) (end_at time) (subst (λ (es : List Event). Contains es (end_at time)) ends.1 has)) [
        | inl there ↦
            let may = may_there network ns ends.0 [] (end_at end) right ends.1 in
            absurd (may.1.unended (any_end_in ends.0 time there))
        | inr same ↦ ap (λ (e : Event). e.time) (sym same)
      ],
)

-- ---- one more event of a report

event_at : Units → What → Event
event_at time what = record { time = time; what = what }

-- an end is the last event
pub ends_with : (befallen : List Event) (event : Event) → event.what ≡ End → EndWith (befallen ++ event ∷ []) event.time
unfolding event_at
ends_with befallen event is = (befallen, ap (λ w. befallen ++ event_at event.time w ∷ []) is)

-- events that end with one have one
pub any_end : (befallen : List Event) (time : Units) → EndWith befallen time → Any (λ e. e.what ≡ End) befallen
unfolding event_at
any_end befallen time ends =
    subst (Any (λ (e : Event). e.what ≡ End)) (sym ends.1) (behind ends.0 (event_at time End) refl)
  where
    behind : (front : List Event) (event : Event) → event.what ≡ End → Any (λ (e : Event). e.what ≡ End) (front ++ event ∷ [])
    behind [] event is = any_first (λ (e : Event). e.what ≡ End) event [] is
    behind (e ∷ front) event is = any_behind (λ (d : Event). d.what ≡ End) e (front ++ event ∷ []) (behind front event is)

pub none_ends : {X : Type 0} {Y : Type 0} (o : Option X) (x : X) → o ≡ None → o ≡ Some x → Y
none_ends o x none some = absurd cc

pub match_false : (b : Bool) (A B : Type 0) → MatchBool b A B → b ≡ false → B
match_false false A B h e = h
match_false true A B h e = absurd cc

pub match_true : (b : Bool) (A B : Type 0) → MatchBool b A B → b ≡ true → A
match_true true A B h e = h
match_true false A B h e = absurd cc

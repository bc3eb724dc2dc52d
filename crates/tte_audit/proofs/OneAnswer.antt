-- An audit has one answer.
use Rattle.audit_law.{proofs.law_lemmas.Sound.{fronts, full_of_run, none_unsound, one_unsound, sound_of_run}}
use Rattle.audit_law.{specs.law.Findings.IsUnfoundedAt}
use Rattle.tte_audit.{proofs.{Meet.{form_or_report, one_form, one_list}, Words.{scenario_of, subst, sym, ℕ}}, specs.Laws.{AnswerLaw, IsOfReport}}
use Rattle.{tte_audit.{proofs.ReportRuns.audit_run, specs.Named.IsNamed}, tte_units.specs.Amount.units_of}
use Rattle.tte_audit.proofs.Words.{◌++◌, ◌∙◌, ◌∷◌, ◌≡◌, ◌⊎◌, Any, AreEventsRight, End, EndWith, Event, IsDue, IsEventFault, IsRefusedBy, List, Network, Note}
use Rattle.tte_audit.proofs.Words.{Units, [], any_behind, any_first, ap, arith, behind_time, events_of, happenings, inl, inr, length, place_of, refl}
use Rattle.tte_audit.specs.{Answers.{IsAudited, IsEventsFault, IsFirstLackOf, IsOfFormOrEvents}, Report.IsOfEvents, declared.refusal.AuditRefusal.AuditRefusal}
use Rattle.tte_audit.specs.declared.refusal.AuditRefusal.TheVariants as refusals

-- ---- events

module _ (network : Network) (ns : List Note) where
  one_event_fault : {n m : ℕ} → IsEventFault network ns n → IsEventFault network ns m → n ≡ m
  one_event_fault a b =
      elim (fronts a.before a.behind b.before b.behind a.note b.note (sym a.parts ∙ b.parts)) [
        | inl same ↦ omega (arith, a.number, b.number, same)
        | inr (inl h) ↦ absurd (a.wrong (b.right_before a.before h.rest a.note h.is))
        | inr (inr h) ↦ absurd (b.wrong (a.right_before b.before h.rest b.note h.is))
      ]

  right_or_fault : {n : ℕ} → AreEventsRight network ns → IsEventFault network ns n → ⊥
  right_or_fault right a = a.wrong (right a.before a.behind a.note a.parts)

  one_events : {n m : ℕ} → IsEventsFault network ns n → IsEventsFault network ns m → n ≡ m
  one_events (inl a) (inl b) = one_event_fault a b
  one_events (inl a) (inr b) = absurd (right_or_fault b.right a)
  one_events (inr a) (inl b) = absurd (right_or_fault a.right b)
  one_events (inr a) (inr b) = a.number ∙ sym b.number

any_last : (front : List Event) (time : Units) → Any (λ e. e.what ≡ End) (front ++ record { time = time; what = End } ∷ [])
any_last [] time = any_first (λ (e : Event). e.what ≡ End) (record { time = time; what = End }) [] refl
any_last (e ∷ es) time = any_behind (λ (e : Event). e.what ≡ End) e (es ++ record { time = time; what = End } ∷ []) (any_last es time)

ends_or_faults : {network : Network} {octets : List ℕ} {ns : List Note} {time : Units} {n : ℕ}
    → IsOfEvents network octets ns time → IsEventsFault network ns n → ⊥
ends_or_faults {network} {ns} of (inl a) = right_or_fault network ns of.right a
ends_or_faults {time} of (inr a) =
    a.unended (subst (λ (es : List Event). Any (λ e. e.what ≡ End) es) (sym of.ends.1) (any_last of.ends.0 time))

last_same : {A : Type 0} (xs ys : List A) (a b : A) → xs ++ a ∷ [] ≡ ys ++ b ∷ [] → a ≡ b
last_same [] [] a b e = cc
last_same [] (y ∷ []) a b e = absurd cc
last_same [] (y ∷ z ∷ ys) a b e = absurd cc
last_same (x ∷ []) [] a b e = absurd cc
last_same (x ∷ z ∷ xs) [] a b e = absurd cc
last_same (x ∷ xs) (y ∷ ys) a b e = let tail : xs ++ a ∷ [] ≡ ys ++ b ∷ [] = cc in last_same xs ys a b tail

one_end : (events : List Event) (time other : Units) → EndWith events time → EndWith events other → time ≡ other
one_end events time other a b =
    let same = last_same a.0 b.0 (record { time = time; what = End }) (record { time = other; what = End }) (sym a.1 ∙ b.1) in
    ap (λ (e : Event). e.time) same

-- ---- the records of a report, and its end

pub record AreSame (notes others : List Note) (time last : Units) : Type 0 where
  pub lists : notes ≡ others
  pub times : time ≡ last

pub same_of : {network : Network} {octets : List ℕ} {notes others : List Note} {time last : Units} → IsNamed network
    → IsOfEvents network octets notes time → IsOfEvents network octets others last → AreSame notes others time last
same_of {network} {octets} {notes} {time} {last} named a b =
    let lists = one_list network octets named a.text b.text in
    record { lists = lists; times = one_end (events_of notes) time last a.ends (subst (λ ns. EndWith (events_of ns) last) (sym lists) b.ends) }

one_lack : {network : Network} {ns : List Note} {end t u : Units} → IsFirstLackOf network ns end t
    → IsFirstLackOf network ns end u → t ≡ u
one_lack a b =
    let here = a.lack in
    let there = b.lack in
    let same : a.at ≡ b.at = omega (arith, here.first there.missing there.lacking, there.first here.missing here.lacking, here.at, there.at) in
    a.is ∙ ap units_of same ∙ sym b.is

-- ---- answers

module _ (network : Network) (octets : List ℕ) where
  events_and_form : {ns : List Note} {time : Units} (n : ℕ) → IsNamed network → IsOfEvents network octets ns time
      → (refusal : AuditRefusal) → (refusal ≡ refusals.Form n) ⊎ (refusal ≡ refusals.Events n)
      → IsRefusedBy network octets refusal → ⊥
  events_and_form n named of refusal (inl is) h =
      form_or_report network octets named (subst (IsRefusedBy network octets) is h) of.text
  events_and_form n named of refusal (inr is) h =
      let fault = subst (IsRefusedBy network octets) is h in
      let same = one_list network octets named fault.1 of.text in
      ends_or_faults of (subst (λ ms. IsEventsFault network ms n) same fault.2)

  not_both : {count : ℕ} (refusal : AuditRefusal) → IsNamed network → IsOfReport refusal
      → IsAudited network octets count → IsRefusedBy network octets refusal → ⊥
  not_both (refusals.Form n) named of a h = events_and_form n named a.events (refusals.Form n) (inl refl) h
  not_both (refusals.Events n) named of a h = events_and_form n named a.events (refusals.Events n) (inr refl) h
  not_both (refusals.Unfounded n) named of a h =
      let same = same_of named h.2 a.events in
      let found = subst (λ t. IsUnfoundedAt place_of (IsDue (scenario_of network a.notes)) (behind_time t)
      (happenings network a.notes) n) same.times
      (subst (λ ns. IsUnfoundedAt place_of (IsDue (scenario_of network ns)) (behind_time h.1)
      (happenings network ns) n) same.lists h.3) in
      none_unsound place_of (IsDue (scenario_of network a.notes)) (behind_time a.time) (happenings network a.notes) n
      (sound_of_run place_of (IsDue (scenario_of network a.notes))
      (audit_run a.notes a.time named a.events.right a.run)) found
  not_both (refusals.Lacking t) named of a h =
      let same = same_of named h.2 a.events in
      let lack = subst (λ e. IsFirstLackOf network a.notes e t) same.times
      (subst (λ ns. IsFirstLackOf network ns h.1 t) same.lists h.4) in
      full_of_run place_of (IsDue (scenario_of network a.notes))
      (audit_run a.notes a.time named a.events.right a.run) lack.lack.missing lack.lack.lacking lack.lack.within
  not_both refusals.OutOfMemory named of a h = of

  one_count : {count other : ℕ} → IsNamed network → IsAudited network octets count → IsAudited network octets other
      → count ≡ other
  one_count named a b =
      let same = same_of named a.events b.events in
      a.counted ∙ ap length same.lists ∙ sym b.counted

  unfounded_or_lacking : (n : ℕ) (t : Units) → IsNamed network → IsRefusedBy network octets (refusals.Unfounded n)
      → IsRefusedBy network octets (refusals.Lacking t) → ⊥
  unfounded_or_lacking n t named a b =
      let same = same_of named a.2 b.2 in
      let found = subst (λ t. IsUnfoundedAt place_of (IsDue (scenario_of network b.0)) (behind_time t)
      (happenings network b.0) n) same.times
      (subst (λ ns. IsUnfoundedAt place_of (IsDue (scenario_of network ns)) (behind_time a.1)
      (happenings network ns) n) same.lists a.3) in
      none_unsound place_of (IsDue (scenario_of network b.0)) (behind_time b.1) (happenings network b.0) n b.3 found

  one_refusal : (refusal other : AuditRefusal) → IsNamed network → IsOfReport refusal → IsOfReport other
      → IsRefusedBy network octets refusal → IsRefusedBy network octets other → refusal ≡ other
  one_refusal (refusals.Form n) (refusals.Form m) named of so a b = ap refusals.Form (one_form network octets named a b)
  one_refusal (refusals.Form n) (refusals.Events m) named of so a b = absurd (form_or_report network octets named a b.1)
  one_refusal (refusals.Form n) (refusals.Unfounded m) named of so a b =
      absurd (form_or_report network octets named a b.2.text)
  one_refusal (refusals.Form n) (refusals.Lacking m) named of so a b =
      absurd (form_or_report network octets named a b.2.text)
  one_refusal (refusals.Events n) (refusals.Form m) named of so a b = absurd (form_or_report network octets named b a.1)
  one_refusal (refusals.Events n) (refusals.Events m) named of so a b =
      let same = one_list network octets named a.1 b.1 in
      ap refusals.Events (one_events network b.0 (subst (λ ns. IsEventsFault network ns n) same a.2) b.2)
  one_refusal (refusals.Events n) (refusals.Unfounded m) named of so a b =
      absurd (events_and_form n named b.2 (refusals.Events n) (inr refl) a)
  one_refusal (refusals.Events n) (refusals.Lacking m) named of so a b =
      absurd (events_and_form n named b.2 (refusals.Events n) (inr refl) a)
  one_refusal (refusals.Unfounded n) (refusals.Form m) named of so a b =
      absurd (form_or_report network octets named b a.2.text)
  one_refusal (refusals.Unfounded n) (refusals.Events m) named of so a b =
      absurd (events_and_form m named a.2 (refusals.Events m) (inr refl) b)
  one_refusal (refusals.Unfounded n) (refusals.Unfounded m) named of so a b =
      let same = same_of named a.2 b.2 in
      let found = subst (λ t. IsUnfoundedAt place_of (IsDue (scenario_of network b.0)) (behind_time t)
      (happenings network b.0) n) same.times
      (subst (λ ns. IsUnfoundedAt place_of (IsDue (scenario_of network ns)) (behind_time a.1)
      (happenings network ns) n) same.lists a.3) in
      ap refusals.Unfounded (one_unsound place_of (IsDue (scenario_of network b.0)) (behind_time b.1)
      (happenings network b.0) n m found b.3)
  one_refusal (refusals.Unfounded n) (refusals.Lacking m) named of so a b = absurd (unfounded_or_lacking n m named a b)
  one_refusal (refusals.Lacking n) (refusals.Form m) named of so a b =
      absurd (form_or_report network octets named b a.2.text)
  one_refusal (refusals.Lacking n) (refusals.Events m) named of so a b =
      absurd (events_and_form m named a.2 (refusals.Events m) (inr refl) b)
  one_refusal (refusals.Lacking n) (refusals.Unfounded m) named of so a b = absurd (unfounded_or_lacking m n named b a)
  one_refusal (refusals.Lacking n) (refusals.Lacking m) named of so a b =
      let same = same_of named a.2 b.2 in
      let lack = subst (λ e. IsFirstLackOf network b.0 e n) same.times
      (subst (λ ns. IsFirstLackOf network ns a.1 n) same.lists a.4) in
      ap refusals.Lacking (one_lack lack b.4)
  one_refusal refusals.OutOfMemory other named of so a b = absurd of
  one_refusal refusal refusals.OutOfMemory named of so a b = absurd so

  not_refused : {notes : List Note} {time : Units} (refusal : AuditRefusal) → IsNamed network
      → IsOfFormOrEvents refusal → IsOfEvents network octets notes time → IsRefusedBy network octets refusal → ⊥
  not_refused (refusals.Form n) named kind of h = events_and_form n named of (refusals.Form n) (inl refl) h
  not_refused (refusals.Events n) named kind of h =
      events_and_form n named of (refusals.Events n) (inr refl) h
  not_refused (refusals.Unfounded n) named kind of h = kind
  not_refused (refusals.Lacking t) named kind of h = kind
  not_refused refusals.OutOfMemory named kind of h = kind

pub answer_law : AnswerLaw
answer_law network octets named = record {
  not_both = λ count refusal of a h. not_both network octets refusal named of a h;
  not_refused = λ notes time refusal kind of h. not_refused network octets refusal named kind of h;
  one_count = λ count other a b. one_count network octets named a b;
  one_refusal = λ refusal other of so a b. one_refusal network octets refusal other named of so a b;
}

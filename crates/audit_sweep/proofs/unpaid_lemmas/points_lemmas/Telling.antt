-- The records that tell of a device's correction points and sendings, and that judge a point.
use Rattle.std.{proofs.{Common.{◌++◌, ◌⊎◌, Bool, filter}, lemmas.List.{Elements.filter-append, append-nil}}}
use Rattle.std.{specs.Prelude.◌↔◌}
use Rattle.audit_devices.specs.{Keeping.records_before, Showing.IsAfter, clocks.Points.{ComesTo, IsHeard}}
use Rattle.audit_devices.specs.{declared.clocks.correcting.Point.Point}
use Rattle.audit_law.proofs.law_lemmas.{Correcting.{comes_by, late_earlier, late_heard, late_part, time_before}}
use Rattle.audit_law.proofs.law_lemmas.{Founded.{founded_at, joins_looking}}
use Rattle.audit_law.specs.law.{CorrectionNumbers.{ComesToPoint, heard_since_point, standing_at}}
use Rattle.audit_law.specs.law.{CorrectionPoints.IsPointOf, DueRecords.{ChangesState, IsCaused}}
use Rattle.audit_sweep.proofs.unpaid_lemmas.points_lemmas.Words
use Words.{◌+◌, ◌<◌, ◌∙◌, ◌∷◌, ◌≡◌, DeviceId, Happening, HasRecordAt, Integrating, IsDue, IsFounded, IsSent, IsTold}
use Words.{List, NoteBody, Option, Scenario, Shown, Shows, Some, State, Units, Verdict, [], ap, arith, earlier, false}
use Words.{inl, inr, members_in, place_of, refl, subst, sym, time_of, true, up_to, ℕ}
use Rattle.device_rules.specs.Answers.{verdict_as}
use Rattle.net_plan.proofs.SameIds.{same_device}
use Rattle.run_law.proofs.{control.Verdicts.state_by, law.FirstDeliveries.{IsSplit, none_kept, same_earlier}}
use Rattle.run_law.proofs.{records.Order.{all_kept, before_is, is_there}}
use Rattle.run_law.proofs.{runs.{Lacking.behind_first, Places.{chain, in_left, never_self}}}
use Rattle.run_law.specs.{declared.judgement.Why.Why}
use Rattle.run_law.specs.{device.{LocalClocks.changes_adjustment, States.{is_joined_by, state_before}}}
use Rattle.run_law.specs.{records.{Happenings.numbered, Order.{IsBefore, IsIn, is_before}, Ranks.{key, place_at, rank}}}
use Rattle.sync_state.{proofs.VerdictLemmas.no_point}
use Rattle.sync_state.specs.{Standing.next_point}
use Rattle.sync_state.specs.{declared.answers.Verdict.TheVariants.{AsyncClique, Cleared, Corrected, SyncClique}}
use Rattle.sync_state.specs.{membership.Summary.{Summarizes, Summary}}
use Rattle.run_law.specs.declared.judgement.Why.TheVariants as whys
use Rattle.run_law.specs.declared.note.NoteBody.TheVariants as notes

-- ---- a correction point, judged by the records up to its time and by those of a lower rank than corrections

-- ---- the records of a lower rank than corrections

-- the front that is before them
pub front_is : {hs : List Happening} {p : List ℕ} (at : IsSplit place_of hs p) → records_before p hs ≡ at.front
front_is {p} at =
    let test : Happening → Bool = λ h. is_before (place_of h) p in
    let kept = all_kept test at.front (λ h i. before_is (place_of h) p (at.before h i)) in
    let none : filter test at.rest ≡ [] = none_kept test at.rest (λ h i. not_before (place_of h) p (at.none h i) (is_before (place_of h) p) refl) in
    ap (filter test) at.whole ∙ filter-append test at.front at.rest
    ∙ ap (λ (gs : List Happening). gs ++ filter test at.rest) kept ∙ ap (λ (gs : List Happening). at.front ++ gs) none ∙ append-nil at.front
  where
    not_before : (q r : List ℕ) → (IsBefore q r → ⊥) → (b : Bool) → is_before q r ≡ b → is_before q r ≡ false
    not_before q r not true e = absurd (not (is_there q r e))
    not_before q r not false e = e

-- what the point comes to is the same by the front and by the records up to its time
pub by_front : (s : Scenario) {hs : List Happening} (device : DeviceId) (t cycle : ℕ) (v : Verdict)
    (at : IsSplit place_of hs (t ∷ 6 ∷ [])) → ComesToPoint s at.front device t cycle v
    ↔ ComesToPoint s (up_to t hs) device t cycle v
by_front s {hs} device t cycle v at =
    let late = late_part {hs = hs} t 6 [] (omega arith) at in
    let same = late_earlier late in
    let heard = late_heard s device late in (
      λ c. comes_by (up_to t hs) (sym same) (sym heard) c,
      λ c. comes_by at.front same heard c,
    )

pub earlier_up_to : {hs : List Happening} (t : ℕ) (at : IsSplit place_of hs (t ∷ 6 ∷ []))
    → earlier t (up_to t hs) ≡ earlier t hs
earlier_up_to {hs} t at =
    let late = late_part {hs = hs} t 6 [] (omega arith) at in late_earlier late ∙ same_earlier t (6 ∷ []) at

low_rank : (u r t : ℕ) (ks : List ℕ) → IsBefore (u ∷ r ∷ ks) (t ∷ 6 ∷ []) → u ≡ t → r < 6
low_rank u r t ks (inl lt) same = absurd (omega (arith, lt, same))
low_rank u r t ks (inr (e, inl lt)) same = lt
low_rank u r t ks (inr (e, inr none)) same = absurd none.1

changes_low : (device : DeviceId) (body : NoteBody) → rank body < 6 → changes_adjustment device body ≡ true → is_joined_by device body ≡ true
changes_low device (notes.Corrected other cycle by adjustment) low e = absurd (omega (arith, low))
changes_low device body low e = e

-- those before a record of a founded list are all that are of earlier times
front_earlier : (s : Scenario) (hs : List Happening) (h : Happening) → IsFounded place_of (IsDue s) hs → (front rest : List Happening) → hs ≡ front ++ h ∷ rest
    → earlier (time_of h) front ≡ earlier (time_of h) hs
front_earlier s hs h founded front rest whole =
    let parts = subst (IsFounded place_of (IsDue s)) whole founded in
    let at : IsSplit place_of hs (place_of h) = record {
      front = front;
      rest = h ∷ rest;
      whole = whole;
      before = (founded front rest h whole).0;
      none = λ n i lt. elim i [
        | inl e ↦ never_self (place_of h) (subst (λ m. IsBefore (place_of m) (place_of h)) e lt)
        | inr r ↦ never_self (place_of n) (chain (place_of n) (place_of h) (place_of n) lt (behind_first place_of (IsDue s) front rest h n parts r))
      ];
    } in
    same_earlier (time_of h) (rank h.note.body ∷ key (members_in h) h.note.body) at

-- where the device has a correction point at the time, no record of the front is of the time and changes its adjustment
pub front_after : (s : Scenario) {hs : List Happening} (device : DeviceId) (t cycle : ℕ)
    (at : IsSplit place_of hs (t ∷ 6 ∷ [])) → IsFounded place_of (IsDue s) hs
    → next_point (standing_at s at.front device t) ≡ Some cycle → IsAfter at.front device t
front_after s {hs} device t cycle at founded next = record {
  none_later = λ h i. time_before (time_of h) (rank h.note.body) t 6 (key (members_in h) h.note.body) [] (at.before h i);
  unchanged = λ h i same. by_test h i same (changes_adjustment device h.note.body) refl;
}
  where
    by_test : (h : Happening) → IsIn h at.front → time_of h ≡ t → (b : Bool) → changes_adjustment device h.note.body ≡ b
        → changes_adjustment device h.note.body ≡ false
    by_test h i same false e = e
    by_test h i same true e =
        let low = low_rank (time_of h) (rank h.note.body) t (key (members_in h) h.note.body) (at.before h i) same in
        let joined = changes_low device h.note.body low e in
        let by = founded_at s hs h founded (subst (IsIn h) (sym at.whole) (in_left h at.front at.rest i)) in
        let looks = joins_looking s by.front h.note.time device h.note.body joined by.due.cause in
        let fronts : earlier (time_of h) by.front ≡ earlier (time_of h) hs = front_earlier s hs h founded by.front by.rest by.whole in
        let state : state_before s hs device t ≡ Integrating =
        subst (λ u. state_before s hs device u ≡ Integrating) same (sym (state_by s by.front hs device (time_of h) fronts) ∙ looks) in
        absurd (no_point (state_before s at.front device t) _ cycle
        (state_by s at.front hs device t (same_earlier t (6 ∷ []) at) ∙ state) next)

-- so what has been heard by then is told by the front
pub heard_front : (s : Scenario) (hs : List Happening) (device : DeviceId) (t : ℕ) (at : IsSplit place_of hs (t ∷ 6 ∷ [])) (heard : Summary) (shown : Shown)
    → IsFounded place_of (IsDue s) hs → Shows s (records_before (t ∷ 6 ∷ []) hs) device shown
    → (IsAfter at.front device t → Shows s at.front device shown → Summarizes heard (heard_since_point s at.front device t)) → IsHeard s at.front device t heard
heard_front s hs device t at heard shown founded shows told cycle next =
    told (front_after s {hs = hs} device t cycle at founded next)
    (subst (λ gs. Shows s gs device shown) (front_is at) shows)

-- ---- which records say that a device sends

-- what stands at the place of a sending is it
sent_at : (u m n t c : ℕ) (d : DeviceId) (body : NoteBody) → place_at u m body ≡ place_at t n (notes.Sent d c) → (u ≡ t) × (body ≡ notes.Sent d c)
sent_at u m n t c d (notes.Event line what) e = absurd cc
sent_at u m n t c d (notes.Arrived device link cause clock) e = absurd cc
sent_at u m n t c d (notes.Permanent device link cause point verdict) e = absurd cc
sent_at u m n t c d (notes.Compressed device opened at cycle of_masters verdict) e = absurd cc
sent_at u m n t c d (notes.Sent other cycle) e = grind (arith, same_device)
sent_at u m n t c d other e = absurd cc

module _ (s : Scenario) (hs : List Happening) (d : DeviceId) (t c : ℕ) (place : List ℕ)
    (is : place ≡ place_at t 0 (notes.Sent d c)) where
  pub sent_there : HasRecordAt hs place → IsSent s hs d t c
  sent_there there =
      let both = sent_at (time_of there.0) (members_in there.0) 0 t c d there.0.note.body (there.2 ∙ is) in
      (there.0, there.1, record { at = both.0; says = both.1 })

  pub there_sent : IsSent s hs d t c → HasRecordAt hs place
  there_sent sent = grind (arith, members_in)

-- ---- which records tell of correction points

-- a change of state without a cause is by a clique
without_cause : (s : Scenario) (ps : List Happening) (device : DeviceId) (t cause : ℕ) (state : State) (why : Why) → cause ≡ 0
    → ChangesState s ps device t state cause why → (why ≡ whys.SyncClique) ⊎ (why ≡ whys.AsyncClique)
without_cause s ps device t cause state whys.On none c =
    let there = subst (λ n. numbered ps n ≡ Some c.2.1) none c.2.2.there in absurd cc
without_cause s ps device t cause state whys.Frame none c =
    let there = subst (λ n. numbered ps n ≡ Some c.1.0) none c.1.1.there in absurd cc
without_cause s ps device t cause state whys.Correction none c =
    let there = subst (λ n. numbered ps n ≡ Some c.2.3) none c.2.4.there in absurd cc
without_cause s ps device t cause state whys.SyncClique none c = inl refl
without_cause s ps device t cause state whys.AsyncClique none c = inr refl

-- what stands at the place of a correction tells of a point
correction_at : (u m t : ℕ) (d : DeviceId) (body : NoteBody) → place_at u m body ≡ t ∷ 6 ∷ d.0 ∷ [] → (u ≡ t) × IsPointOf d body
correction_at u m t d (notes.Corrected other cycle by adjustment) e = grind (arith, same_device)
correction_at u m t d other e = absurd cc

by_why : (d other : DeviceId) (state : State) (cause : ℕ) (why : Why) → other ≡ d → (why ≡ whys.SyncClique) ⊎ (why ≡ whys.AsyncClique)
    → IsPointOf d (notes.State other state cause why)
by_why d other state cause why same (inl e) = subst (λ (w : Why). IsPointOf d (notes.State other state cause w)) (sym e) same
by_why d other state cause why same (inr e) = subst (λ (w : Why). IsPointOf d (notes.State other state cause w)) (sym e) same

-- and what stands at that of a change of state without a cause, where it is due
clique_at : (s : Scenario) (ps : List Happening) (time : Units) (u m t : ℕ) (d : DeviceId) (body : NoteBody) → IsCaused s ps time body
    → place_at u m body ≡ t ∷ 7 ∷ d.0 ∷ 0 ∷ [] → (u ≡ t) × IsPointOf d body
clique_at s ps time u m t d (notes.State other state cause why) c e = grind (arith, by_why, same_device, without_cause)
clique_at s ps time u m t d other c e = absurd cc

module _ (s : Scenario) (hs : List Happening) (d : DeviceId) (t c : ℕ) (place : List ℕ) where
  pub corrected_there : place ≡ t ∷ 6 ∷ d.0 ∷ [] → HasRecordAt hs place → IsTold s hs d t c
  corrected_there is there =
      let both = correction_at (time_of there.0) (members_in there.0) t d there.0.note.body (there.2 ∙ is) in
      (there.0, there.1, record { at = both.0; of_point = both.1 })

  pub left_there : IsFounded place_of (IsDue s) hs → place ≡ t ∷ 7 ∷ d.0 ∷ 0 ∷ [] → HasRecordAt hs place
      → IsTold s hs d t c
  left_there founded is there =
      let by = founded_at s hs there.0 founded there.1 in
      let both = clique_at s by.front there.0.note.time (time_of there.0) (members_in there.0) t d there.0.note.body
      by.due.cause (there.2 ∙ is) in
      (there.0, there.1, record { at = both.0; of_point = both.1 })

-- a record that tells of a point stands at one of the two places
tells_at : (s : Scenario) (ps : List Happening) (time : Units) (u m : ℕ) (d : DeviceId) (body : NoteBody) → IsCaused s ps time body → IsPointOf d body
    → (place_at u m body ≡ u ∷ 6 ∷ d.0 ∷ []) ⊎ (place_at u m body ≡ u ∷ 7 ∷ d.0 ∷ 0 ∷ [])
tells_at s ps time u m d (notes.Corrected other cycle by adjustment) c p = inl (ap (λ (x : DeviceId). u ∷ 6 ∷ x.0 ∷ []) p)
tells_at s ps time u m d (notes.State other state cause whys.SyncClique) c p =
    inr (ap (λ (x : DeviceId). u ∷ 7 ∷ x.0 ∷ cause ∷ []) p ∙ ap (λ (n : ℕ). u ∷ 7 ∷ d.0 ∷ n ∷ []) c.1)
tells_at s ps time u m d (notes.State other state cause whys.AsyncClique) c p =
    inr (ap (λ (x : DeviceId). u ∷ 7 ∷ x.0 ∷ cause ∷ []) p ∙ ap (λ (n : ℕ). u ∷ 7 ∷ d.0 ∷ n ∷ []) c.1)
tells_at s ps time u m d other c p = absurd p

pub told_at : (s : Scenario) (hs : List Happening) (d : DeviceId) (t c : ℕ) → IsFounded place_of (IsDue s) hs → IsTold s hs d t c
    → HasRecordAt hs (t ∷ 6 ∷ d.0 ∷ []) ⊎ HasRecordAt hs (t ∷ 7 ∷ d.0 ∷ 0 ∷ [])
told_at s hs d t c founded told =
    let by = founded_at s hs told.0 founded told.1 in
    let times : place_of told.0 ≡ place_at t (members_in told.0) told.0.note.body = ap (λ u. place_at u (members_in told.0) told.0.note.body) told.2.at in
    elim (tells_at s by.front told.0.note.time t (members_in told.0) d told.0.note.body by.due.cause told.2.of_point) [
      | inl e ↦ inl (told.0, told.1, times ∙ e)
      | inr e ↦ inr (told.0, told.1, times ∙ e)
    ]

-- a point that comes to more than a clearing
pub owed_so : (o : Option Point) (p : Point) → o ≡ Some p → (verdict_as p.verdict ≡ Cleared → ⊥)
    → (cycle : ℕ) × (verdict : Verdict) × ComesTo o cycle verdict × (verdict ≡ Cleared → ⊥)
owed_so o p is more = (p.cycle, verdict_as p.verdict, subst (λ x. ComesTo x p.cycle (verdict_as p.verdict)) (sym is) (refl, refl), more)

pub not_alone : (v : Verdict) → v ≡ SyncClique → v ≡ Cleared → ⊥
not_alone v is e = let same : SyncClique ≡ Cleared = sym is ∙ e in cc

pub not_outnumbered : (v : Verdict) → v ≡ AsyncClique → v ≡ Cleared → ⊥
not_outnumbered v is e = let same : AsyncClique ≡ Cleared = sym is ∙ e in cc

pub not_corrected : (v : Verdict) (by : Units) → v ≡ Corrected by → v ≡ Cleared → ⊥
not_corrected v by is e = let same : Corrected by ≡ Cleared = sym is ∙ e in cc

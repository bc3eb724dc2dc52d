-- What is owed of correction points is due.
use Rattle.audit_law.proofs.law_lemmas.{Words.{standing_at, state_after, subst, sym, time_of, units_of, up_to, ℕ, ℤ}}
use Rattle.audit_law.proofs.law_lemmas.Founded.{PaidAt, due_there, next_is_due, next_of, same_verdict, split_at, timely}
use Rattle.audit_law.proofs.law_lemmas.Founded.{within}
use Rattle.run_law.proofs.records.Order.{after_more, all_kept, has_passed, makes_none}
use Rattle.sync_state.specs.declared.answers.Verdict.TheVariants.{Cleared}
use Rattle.run_law.proofs.law.FirstDeliveries.{in_filter}
use Rattle.audit_law.proofs.law_lemmas.Words.{◌&&◌, ◌++◌, ◌+ℤ◌, ◌+◌, ◌-ℤ◌, ◌-◌, ◌<◌, ◌==◌, ◌∙◌, ◌∷◌, ◌≡◌, ◌≤◌, AsyncClique, Bool, ComesToPoint, Corrected}
use Rattle.audit_law.proofs.law_lemmas.Words.{DeviceId, Happening, Integrating, IsBefore, IsCaused, IsDue, IsDueIn, IsFounded, IsIn, IsSplit, List}
use Rattle.audit_law.proofs.law_lemmas.Words.{Network, None, NoteBody, Option, Scenario, Some, SyncClique, Units, Verdict, []}
use Rattle.audit_law.proofs.law_lemmas.Words.{adjustment_after, adjustment_before, after_last, ap, append-nil, arith, cases_lt, changes_adjustment}
use Rattle.audit_law.proofs.law_lemmas.Words.{correction_value, earlier, filter, filter-append, heard_since_point, if◌then◌else◌, inl, inr, int_div_euclid}
use Rattle.audit_law.proofs.law_lemmas.Words.{int_le, int_lt, integration_cycle, is_turned_on_at, key, last_or, le-ltb, members_in, nat_le, nat_lt, natural}
use Rattle.audit_law.proofs.law_lemmas.Words.{next_point, none_kept, option_map_or, place_at, place_of, plan_of, pos, rank, recorded_cycle, refl, split}
use Rattle.{audit_law.specs.law.CorrectionPoints.{IsDueByPoint, IsPointOf, OwesPoint, ShowsVerdict, TellsPoint}, run_law.proofs.device.States.reaches_by}
use Rattle.{audit_law.specs.law.DebtLaws.PointLaw, std.{proofs.lemmas.Bool.{le-leb, leb-true}, specs.List.filter_map}}
use Rattle.{run_law.specs.control.Corrections.hearing_by, std.proofs.lemmas.List.Elements.filter_map-append, sync_state.specs.membership.Hearing.Hearing}
use Rattle.run_law.specs.declared.judgement.Why.TheVariants as whys
use Rattle.run_law.specs.declared.note.NoteBody.TheVariants as notes

-- ---- what the records of earlier times tell

-- how many correction points the clock has come to, by the records of earlier times
abbrev come_by : Scenario → DeviceId → ℕ → List Happening → ℕ
come_by s device by es =
    let changed = option_map_or time_of (last_or None (filter (λ h. changes_adjustment device h.note.body) es)) 0 in
    let first = correction_value s.network (recorded_cycle es device) in
    let shown = pos (s.reading device (by - 1)) +ℤ (adjustment_after s es device).0 in
    if int_lt (pos (s.reading device changed) +ℤ (adjustment_after s es device).0) first && int_le first shown
    then natural (int_div_euclid (shown -ℤ first) s.network.cycle.0) + 1
    else 0

standing_by : (s : Scenario) (gs hs : List Happening) (device : DeviceId) (t : ℕ) → earlier t gs ≡ earlier t hs
    → standing_at s gs device t ≡ standing_at s hs device t
standing_by s gs hs device t same = grind (arith, plan_of, is_turned_on_at, state_after, adjustment_after, recorded_cycle, integration_cycle)

-- a correction point is one by other records that have the same earlier ones, and tell the same to be heard
pub comes_by : {s : Scenario} {gs : List Happening} (hs : List Happening) {device : DeviceId} {t cycle : ℕ}
    {v : Verdict} → earlier t gs ≡ earlier t hs → heard_since_point s gs device t ≡ heard_since_point s hs device t
    → ComesToPoint s gs device t cycle v → ComesToPoint s hs device t cycle v
comes_by {s} {gs} hs {device} {t} {cycle} {v} same heard h =
    let standing = standing_by s gs hs device t same in
    record {
      next = subst (λ st. next_point st ≡ Some cycle) standing h.next;
      reached = reaches_by hs same h.reached;
      correct = h.correct;
      summary = h.summary;
      heard = rw heard at h.heard;
      comes = rw standing at h.comes;
    }

-- ---- what is heard up to a time

-- records from corrections on tell nothing heard
pub high_quiet : (network : Network) (device : DeviceId) (h : Happening) (body : NoteBody) → (rank body < 6 → ⊥) → hearing_by network device h body ≡ None
high_quiet network device h (notes.Permanent other link cause point verdict) high = absurd (high (omega arith))
high_quiet network device h (notes.Compressed other opened sent cycle members verdict) high = absurd (high (omega arith))
high_quiet network device h body high = refl

-- a list that parts at a correction or later has up to that time its front, and records of the time that are no lower
pub record HasLate (hs : List Happening) (t : ℕ) (front : List Happening) : Type 0 where
  pub late : List Happening
  pub whole : up_to t hs ≡ front ++ late
  pub not_earlier : (h : Happening) → IsIn h late → t ≤ time_of h
  pub not_lower : (h : Happening) → IsIn h late → rank h.note.body < 6 → ⊥

pub time_before : (u r t q : ℕ) (ks ls : List ℕ) → IsBefore (u ∷ r ∷ ks) (t ∷ q ∷ ls) → u ≤ t
time_before u r t q ks ls (inl lt) = omega arith
time_before u r t q ks ls (inr b) = omega (arith, b.0)

pub late_part : {hs : List Happening} (t r : ℕ) (more : List ℕ) → 6 ≤ r → (at : IsSplit place_of hs (t ∷ r ∷ more))
    → HasLate hs t at.front
late_part t r more high at =
    let test : Happening → Bool = λ h. nat_le (time_of h) t in
    let kept = all_kept test at.front (λ h i.
    le-leb (time_of h) t (time_before (time_of h) (rank h.note.body) t r (key (members_in h) h.note.body) more (at.before h i))) in
    let from : (h : Happening) → IsIn h (filter test at.rest) → t ≤ time_of h = λ h i.
    elim (cases_lt (time_of h) t) [ inl lt ↦ absurd (at.none h (in_filter test at.rest h i) (inl lt)) | inr ge ↦ ge ] in
    record {
      late = filter test at.rest;
      whole = ap (filter test) at.whole ∙ filter-append test at.front at.rest ∙ ap (λ gs. gs ++ filter test at.rest)
          kept;
      not_earlier = from;
      not_lower = λ h i low.
          let first = from h i in
          let last = leb-true (time_of h) t (has_passed test at.rest h i) in
          at.none h (in_filter test at.rest h i) (inr (omega arith, inl (omega arith)));
    }

-- the records of earlier times are all in the front
pub late_earlier : {hs : List Happening} {t : ℕ} {front : List Happening} → HasLate hs t front
    → earlier t (up_to t hs) ≡ earlier t front
late_earlier l = grind (arith, nat_lt, time_of, filter, none_kept, le-ltb, filter-append, append-nil)

-- the front tells all that is heard up to the time
pub late_heard : (s : Scenario) {hs : List Happening} (device : DeviceId) {t : ℕ} {front : List Happening}
    → HasLate hs t front → heard_since_point s (up_to t hs) device t ≡ heard_since_point s front device t
late_heard s {hs} device {t} {front} l =
    let set : Happening → Bool = λ h. nat_lt (time_of h) t && changes_adjustment device h.note.body in
    let f : Happening → Option Hearing = λ h. hearing_by s.network device h h.note.body in
    let kept : List Happening → Happening → Bool = λ es h. come_by s device t es == come_by s device (time_of h) es in
    let es = earlier t front in
    let since = after_more set front l.late
    (λ h i. rw (le-ltb (time_of h) t (l.not_earlier h i))) in
    let quiet = makes_none f (filter (kept es) l.late)
    (λ h i. high_quiet s.network device h h.note.body (l.not_lower h (in_filter (kept es) l.late h i))) in
    rw (late_earlier l)
    (ap (λ gs. filter_map f (filter (kept es) (after_last set gs))) l.whole
    ∙ ap (λ gs. filter_map f (filter (kept es) gs)) since
    ∙ ap (filter_map f) (filter-append (kept es) (after_last set front) l.late)
    ∙ filter_map-append f (filter (kept es) (after_last set front)) (filter (kept es) l.late)
    ∙ ap (λ ts. filter_map f (filter (kept es) (after_last set front)) ++ ts) quiet
    ∙ append-nil (filter_map f (filter (kept es) (after_last set front))))

-- ---- the records of correction points

-- the record of what a correction point comes to, but for one at which a joiner clears
abbrev point_record : DeviceId → ℕ → Units → Verdict → NoteBody
point_record device cycle adjustment (Corrected by) = notes.Corrected device cycle by adjustment
point_record device cycle adjustment AsyncClique = notes.State device Integrating 0 whys.AsyncClique
point_record device cycle adjustment other = notes.State device Integrating 0 whys.SyncClique

-- what is added to the adjustment
abbrev added : Verdict → ℤ
added (Corrected by) = by.0
added other = pos 0

abbrev adjusted : Scenario → List Happening → DeviceId → ℕ → Verdict → Units
adjusted s hs device t v = record { 0 = (adjustment_before s hs device t).0 +ℤ added v }

abbrev point_rank : Verdict → ℕ
point_rank (Corrected by) = 6
point_rank other = 7

abbrev point_key : DeviceId → Verdict → List ℕ
point_key device (Corrected by) = device.0 ∷ []
point_key device other = device.0 ∷ 0 ∷ []

-- its place
abbrev point_place : ℕ → DeviceId → Verdict → List ℕ
point_place t device v = t ∷ point_rank v ∷ point_key device v

high_rank : (v : Verdict) → 6 ≤ point_rank v
high_rank (Corrected by) = omega arith
high_rank other = omega arith

record_place : (t m : ℕ) (device : DeviceId) (cycle : ℕ) (adjustment : Units) (v : Verdict)
    → place_at t m (point_record device cycle adjustment v) ≡ point_place t device v
record_place t m device cycle adjustment (Corrected by) = refl
record_place t m device cycle adjustment other = refl

is_of_point : (device : DeviceId) (cycle : ℕ) (adjustment : Units) (v : Verdict) → IsPointOf device (point_record device cycle adjustment v)
is_of_point device cycle adjustment (Corrected by) = refl
is_of_point device cycle adjustment other = refl

module _ (s : Scenario) (gs : List Happening) (device : DeviceId) (t cycle : ℕ) where
  shows_record : (v : Verdict) → (v ≡ Cleared → ⊥) → ShowsVerdict s gs device t cycle v
      (point_record device cycle (adjusted s gs device t v) v)
  shows_record (Corrected by) more =
      record { adjustment = adjusted s gs device t (Corrected by); says = refl; sum = refl }
  shows_record SyncClique more = refl
  shows_record AsyncClique more = refl
  shows_record Cleared more = absurd (more refl)

  causes_record : (v : Verdict) → (v ≡ Cleared → ⊥) → ComesToPoint s gs device t cycle v
      → IsCaused s gs (units_of t) (point_record device cycle (adjusted s gs device t v) v)
  causes_record (Corrected by) more h = record { corrected = h; sum = refl }
  causes_record SyncClique more h = (refl, refl, (cycle, h))
  causes_record AsyncClique more h = (refl, refl, (cycle, h))
  causes_record Cleared more h = absurd (more refl)

  -- what a record shows of a verdict
  shown_place : (m : ℕ) (v : Verdict) (body : NoteBody) → ShowsVerdict s gs device t cycle v body
      → place_at t m body ≡ point_place t device v
  shown_place m (Corrected by) body h = rw h.says
  shown_place m SyncClique body h = rw h
  shown_place m AsyncClique body h = rw h
  shown_place m Cleared body h = absurd h

  shown_device : (v : Verdict) (body : NoteBody) → ShowsVerdict s gs device t cycle v body → IsPointOf device body
  shown_device (Corrected by) body h = subst (IsPointOf device) (sym h.says) refl
  shown_device SyncClique body h = subst (IsPointOf device) (sym h) refl
  shown_device AsyncClique body h = subst (IsPointOf device) (sym h) refl
  shown_device Cleared body h = absurd h

  shown_more : (v : Verdict) (body : NoteBody) → ShowsVerdict s gs device t cycle v body → v ≡ Cleared → ⊥
  shown_more (Corrected by) body h e = cc
  shown_more SyncClique body h e = cc
  shown_more AsyncClique body h e = cc
  shown_more Cleared body h e = h

-- ---- the law

some_point : {s : Scenario} {hs : List Happening} {until : ℕ} {device : DeviceId} {time : ℕ}
    → IsFounded place_of (IsDue s) hs → OwesPoint s hs until device time
    → PaidAt s hs until (IsDueByPoint s) time (λ x. TellsPoint device time x)
some_point {s} {hs} {until} {device} {time} founded o =
    let v = o.verdict in
    let p = point_place time device v in
    let at = split place_of (IsDue s) hs p founded in
    let late = late_part time (point_rank v) (point_key device v) (high_rank v) at in
    let comes = comes_by at.front (late_earlier late) (late_heard s device late) o.comes in
    let adjustment = adjusted s at.front device time v in
    let body = point_record device o.cycle adjustment v in
    let x = next_of s at.front time body in
    let due : IsDueByPoint s at.front x = record {
      due = next_is_due s at.front time body (causes_record s at.front device time o.cycle v o.more comes);
      device = device;
      cycle = o.cycle;
      verdict = v;
      comes = comes;
      shows = shows_record s at.front device time o.cycle v o.more;
    } in (
      x,
      due_there (IsDueByPoint s) at x
          (record_place time (members_in x) device o.cycle adjustment v) due,
      within time until (rank body ∷ key (members_in x) body) o.timely,
      record { at = refl; of_point = is_of_point device o.cycle adjustment v },
      refl,
    )

-- the place of what is due by a correction point
due_place : {s : Scenario} {before : List Happening} {x : Happening} (h : IsDueByPoint s before x)
    → place_of x ≡ point_place (time_of x) h.device h.verdict
due_place {s} {before} {x} h =
    shown_place s before h.device (time_of x) h.cycle (members_in x) h.verdict x.note.body h.shows

-- the point comes by the records up to its time
due_comes : {s : Scenario} {hs : List Happening} {x : Happening} (h : IsDueIn place_of (IsDue s) hs x)
    (d : IsDueByPoint s h.before x) → ComesToPoint s (up_to (time_of x) hs) d.device (time_of x) d.cycle d.verdict
due_comes {s} {hs} {x} h d =
    let t = time_of x in
    let at = subst (λ p. (at : IsSplit place_of hs p) × (at.front ≡ h.before)) (due_place d)
    (split_at (IsDue s) hs x h, refl) in
    let late = late_part t (point_rank d.verdict) (point_key d.device d.verdict) (high_rank d.verdict) at.0 in
    let here = rw (sym at.1) at d.comes in
    comes_by (up_to t hs) (sym (late_earlier late)) (sym (late_heard s d.device late)) here

point_owed : (s : Scenario) {hs : List Happening} (until : ℕ) {x : Happening}
    → IsDueIn place_of (IsDueByPoint s) hs x → IsBefore (place_of x) ((until + 1) ∷ [])
    → (at : DeviceId × ℕ) × OwesPoint s hs until at.0 at.1 × TellsPoint at.0 at.1 x × (time_of x ≡ at.1)
point_owed s {hs} until {x} h here =
    let d = h.due in
    let part : IsDueIn place_of (IsDue s) hs x = record {
      before = h.before;
      behind = h.behind;
      parts = h.parts;
      all_before = h.all_before;
      none_before = h.none_before;
      due = d.due;
    } in
    let owed : OwesPoint s hs until d.device (time_of x) = record {
      cycle = d.cycle;
      verdict = d.verdict;
      comes = due_comes part d;
      more = shown_more s h.before d.device (time_of x) d.cycle d.verdict x.note.body d.shows;
      timely = timely (time_of x) until (rank x.note.body ∷ key (members_in x) x.note.body) here;
    } in (
      (d.device, time_of x),
      owed,
      record { at = refl; of_point = shown_device s h.before d.device (time_of x) d.cycle d.verdict x.note.body d.shows },
      refl,
    )

-- a record that is due and tells of a device's correction point is due by it
pub by_point : {s : Scenario} {before : List Happening} {x : Happening} (device : DeviceId) → IsDue s before x
    → (body : NoteBody) → x.note.body ≡ body → IsCaused s before x.note.time body → IsPointOf device body
    → (d : IsDueByPoint s before x) × (d.device ≡ device)
by_point device due (notes.Corrected other cycle by adjustment) is c e = (
  record {
    due = due;
    device = other;
    cycle = cycle;
    verdict = Corrected by;
    comes = c.corrected;
    shows = record { adjustment = adjustment; says = is; sum = c.sum };
  },
  e,
)
by_point device due (notes.State other state cause whys.SyncClique) is c e = (
  record {
    due = due;
    device = other;
    cycle = c.2.0;
    verdict = SyncClique;
    comes = c.2.1;
    shows = is
        ∙ ap (λ u. notes.State other u cause whys.SyncClique) c.0
        ∙ ap (λ n. notes.State other Integrating n whys.SyncClique) c.1;
  },
  e,
)
by_point device due (notes.State other state cause whys.AsyncClique) is c e = (
  record {
    due = due;
    device = other;
    cycle = c.2.0;
    verdict = AsyncClique;
    comes = c.2.1;
    shows = is
        ∙ ap (λ u. notes.State other u cause whys.AsyncClique) c.0
        ∙ ap (λ n. notes.State other Integrating n whys.AsyncClique) c.1;
  },
  e,
)
by_point device due other is c e = absurd e

same_place : {s : Scenario} (hs : List Happening) {t u : ℕ} {device other : DeviceId} {cycle number : ℕ}
    {v w : Verdict} → t ≡ u → device ≡ other → ComesToPoint s (up_to t hs) device t cycle v
    → ComesToPoint s (up_to u hs) other u number w → point_place t device v ≡ point_place u other w
same_place {s} hs {t} {u} {device} {other} {number} {w} times devices a b =
    let there = subst (λ d. ComesToPoint s (up_to t hs) d t number w) (sym devices)
    (rw (sym times) at b) in
    rw (same_verdict a there)
    (ap (λ n. point_place n device w) times
    ∙ ap (λ d. point_place u d w) devices)

pub point_law : PointLaw
point_law s hs until founded = record {
  each = λ x h here. point_owed s until h here;
  some = λ at o. some_point founded o;
  one = λ at x y o a b p q.
      let first = by_point at.0 a.due x.note.body refl a.due.cause p.of_point in
      let second = by_point at.0 b.due y.note.body refl b.due.cause q.of_point in
      let i = first.0 in
      let j = second.0 in
      due_place i ∙ same_place hs (p.at ∙ sym q.at) (first.1 ∙ sym second.1) (due_comes a i) (due_comes b j)
      ∙ sym (due_place j);
}

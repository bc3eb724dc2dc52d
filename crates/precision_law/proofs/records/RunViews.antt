-- The views of a run: where dispatches lie there, and that good devices' correction points are recorded.
use Rattle.precision_law.proofs.{block.{Halving.ends_of, Instants.known_dispatch}, law.Precision.earlier_in_block}
use Rattle.precision_law.proofs.words.Clocks
use Clocks.{IsCutAt, after_more, before_place, cut_at, due_there, earlier_before, good_is_correct, has_before}
use Clocks.{never_some, next_note, parts_at_last, passes, reaches_front, same_cleared, same_kept, same_next, sizes_are}
use Clocks.{tested, within_run}
use Rattle.precision_law.proofs.words.Laws
use Laws.{AreBeforeCorrections, AreFromTo, BlocksCover, BlocksGoSo, HasTimeAt, Hull, IsDispatch, IsDispatchedBy}
use Laws.{IsInBlock, IsInHull, IsPointRecord, IsRunUpTo, IsSound, IsView, LieFromTo, NoneTurnsOn, PointsAreRecorded}
use Laws.{View, has_time, hull_of, is_dispatch, sizes_of, start_hull}
use Rattle.precision_law.proofs.words.Plans
use Plans.{AsyncClique, Channel, Corrected, DeviceId, HasVerdict, Integrating, IsAtIntegration, IsBeta, Off, State}
use Plans.{Summarizes, Summary, SyncClique, Units, Verdict, point_in}
use Rattle.precision_law.proofs.words.Runs
use Runs.{ChangesState, ComesToCorrection, Happening, IsBefore, IsDue, IsFounded, IsIn, IsSplit, Note, NoteBody}
use Runs.{Reaches, Scenario, Why, adjustment_before, chain, changes_adjustment, correction_value, earlier}
use Runs.{front_founded, happening, happenings, has_cleared, heard_since, hearing_by, in_filter, in_parts, in_right}
use Runs.{integration_cycle, is_turned_on_at, next_cycle, place_of, rank, same_some, split, standing_before}
use Runs.{state_after, time_of}
use Rattle.precision_law.proofs.words.Std
use Std.{if◌then◌else◌, ◌&&◌, ◌++◌, ◌+ℤ◌, ◌+◌, ◌-ℤ◌, ◌<◌, ◌||◌, ◌∙◌, ◌∷◌, ◌≡◌, ◌≤◌, List, None, Some, [], after_last}
use Std.{ap, append-nil, append_assoc, arith, filter, filter-append, filter_map, filter_map-append, inl, inr, le-ltb}
use Std.{nat_lt, not, pos, refl, subst, suc, sym, true, zero, ℕ, ℤ}
use Rattle.run_law.proofs.{control.Summaries.{summary_of, verdict_of}, records.Order.makes_none}
use Rattle.run_law.specs.declared.judgement.Why.TheVariants as whys
use Rattle.run_law.specs.declared.note.NoteBody.TheVariants as notes

-- ---- the correction points of good devices are recorded: what was heard

-- records of corrections and states tell nothing heard
high_quiet : (v : View) (device : DeviceId) (u : ℕ) (h : Happening) (body : NoteBody) → time_of h ≡ u → (rank body < 6 → ⊥)
    → hearing_by v.scenario.network device h body ≡ None
high_quiet v device u h (notes.Permanent other link cause point verdict) at high = absurd (high (omega arith))
high_quiet v device u h (notes.Compressed other opened sent cycle members verdict) at high = absurd (high (omega arith))
high_quiet v device u h body at high = refl

heard_more : (v : View) (device : DeviceId) (u : ℕ) (front mid : List Happening) → has_cleared v.scenario (front ++ mid) device u u ≡ has_cleared v.scenario
    front device u u → ((x : ℕ) → has_cleared v.scenario (front ++ mid) device u x ≡ has_cleared v.scenario front device u x)
    → ((m : Happening) → IsIn m mid → time_of m ≡ u) → ((m : Happening) → IsIn m mid → rank m.note.body < 6 → ⊥)
    → heard_since v.scenario (front ++ mid) device u ≡ heard_since v.scenario front device u
heard_more v device u front mid cleared cleared_at at high =
    let s = v.scenario in
    let set = λ (h : Happening). nat_lt (time_of h) u && changes_adjustment device h.note.body in
    let f = λ (h : Happening). hearing_by s.network device h h.note.body in
    let late = λ (h : Happening). not (has_cleared s front device u u) || has_cleared s front device u (time_of h) in
    let late_more = λ (h : Happening). not (has_cleared s (front ++ mid) device u u) || has_cleared s (front ++ mid) device u (time_of h) in
    let since = after_more mid
    (λ m i. rw (le-ltb (time_of m) u (let e = at m i in omega arith)))
    (parts_at_last set front) in
    let quiet = makes_none f (filter late mid) (λ m i. (let back = in_filter late mid m i in high_quiet v device u m m.note.body (at m back) (high m back))) in
    rw since (ap (filter_map f)
    (same_kept late_more late (after_last set front ++ mid) (λ h i. rw cleared
    (ap (λ b. not (has_cleared s front device u u) || b) (cleared_at (time_of h)))))
    ∙ ap (filter_map f) (filter-append late (after_last set front) mid) ∙ filter_map-append f (filter late (after_last set front)) (filter late mid)
    ∙ ap (λ t. filter_map f (filter late (after_last set front)) ++ t) quiet ∙ append-nil
    (filter_map f (filter late (after_last set front))))

-- ---- the point

point_of_timed : (state : State) (n : ℕ) → has_time state ≡ true → point_in state n ≡ Some n
point_of_timed Off n e = absurd cc
point_of_timed Integrating n e = absurd cc
point_of_timed state n e = refl

-- the point comes, given such a part
comes_given : {v : View} {device : DeviceId} {u : ℕ} {front : List Happening} {summary : Summary} (verdict : Verdict)
    → IsView v → NoneTurnsOn → u ≤ v.until → HasTimeAt v device u → AreBeforeCorrections v u front
    → Reaches v.scenario v.records device
    (correction_value v.scenario.network (next_cycle v.scenario v.records device u)) u
    → Summarizes summary (heard_since v.scenario front device u)
    → HasVerdict (standing_before v.scenario front device u) summary verdict
    → ComesToCorrection v.scenario front device u (next_cycle v.scenario v.records device u) verdict
comes_given {v} {device} {u} {front} {summary} verdict is steady_on le timed before reaches heard has =
    let s = v.scenario in
    let state = ap (λ b. has_time (if b then Integrating else state_after s (earlier u front) device))
    (steady_on v device u is timed) ∙ ap
    (λ hs. has_time (state_after s hs device)) (earlier_before before) ∙ timed.timed in
    record {
      next =
          point_of_timed (if is_turned_on_at s device u then Integrating else state_after s (earlier u front) device) (next_cycle s front device u) state
          ∙ ap (λ n. Some n) (same_next device before);
      reached = reaches_front before reaches;
      correct = good_is_correct v device u timed.good le;
      summary = summary;
      heard = heard;
      comes = has;
    }

module _ {v : View} (device : DeviceId) {u : ℕ} {front : List Happening}
    (before : AreBeforeCorrections v u front) where
  not_at : (integration_cycle (earlier u v.records) device ≡ Some (next_cycle v.scenario v.records device u) → ⊥)
      → IsAtIntegration (standing_before v.scenario front device u) → ⊥
  not_at never at =
      never (ap (λ hs. integration_cycle hs device) (sym (earlier_before before)) ∙ at.cycle
      ∙ ap (λ (n : ℕ). Some n) (same_next device before))

  same_standing : standing_before v.scenario front device u ≡ standing_before v.scenario v.records device u
  same_standing =
      let s = v.scenario in
      rw (earlier_before before)

-- what lies between the places of a correction and of the loss of the time
between_is : (h : Happening) (u d : ℕ) → IsBefore (place_of h) (u ∷ 7 ∷ d ∷ 0 ∷ []) → (IsBefore (place_of h) (u ∷ 6 ∷ d ∷ []) → ⊥) → (time_of h ≡ u)
    × (rank h.note.body < 6 → ⊥)
between_is h u d (inl lt) never = absurd (never (inl lt))
between_is h u d (inr (same, more)) never = (same, λ low. never (inr (same, inl low)))

-- the two parts of the records at the places of a correction and of the loss of the time
record HasParts (v : View) (device : DeviceId) (u : ℕ) : Type 0 where
  pub six : IsSplit place_of v.records (u ∷ 6 ∷ device.0 ∷ [])
  pub seven : IsSplit place_of v.records (u ∷ 7 ∷ device.0 ∷ 0 ∷ [])
  pub mid : List Happening
  pub whole : seven.front ≡ six.front ++ mid
  pub at : (m : Happening) → IsIn m mid → (time_of m ≡ u) × (rank m.note.body < 6 → ⊥)

parts_of : {v : View} (device : DeviceId) (u : ℕ) → IsView v → HasParts v device u
parts_of {v} device u is =
    let seven = split place_of (IsDue v.scenario) v.records (u ∷ 7 ∷ device.0 ∷ 0 ∷ []) is.run.founded in
    let founded = front_founded place_of (IsDue v.scenario) seven.front seven.rest (subst (IsFounded place_of (IsDue v.scenario)) seven.whole is.run.founded) in
    let six = split place_of (IsDue v.scenario) seven.front (u ∷ 6 ∷ device.0 ∷ []) founded in
    record {
      six = record {
        front = six.front;
        rest = six.rest ++ seven.rest;
        whole = seven.whole ∙ ap (λ t. t ++ seven.rest) six.whole ∙ append_assoc six.front six.rest seven.rest;
        before = six.before;
        none = λ n i lt. elim (in_parts n six.rest seven.rest i) [
          | inl l ↦ six.none n l lt
          | inr r ↦ seven.none n r (chain (place_of n) (u ∷ 6 ∷ device.0 ∷ []) (u ∷ 7 ∷ device.0 ∷ 0 ∷ []) lt (inr (refl, inl (omega arith))))
        ];
      };
      seven = seven;
      mid = six.rest;
      whole = six.whole;
      at = λ m i. between_is m u device.0 (seven.before m (subst (IsIn m) (sym six.whole) (in_right m six.front six.rest i))) (six.none m i);
    }

-- the record of a correction
corrected_there : {v : View} {device : DeviceId} {u cycle : ℕ} (by : Units)
    (at : IsSplit place_of v.records (u ∷ 6 ∷ device.0 ∷ [])) → IsView v → u ≤ v.until
    → ComesToCorrection v.scenario at.front device u cycle (Corrected by)
    → (h : Happening) × IsPointRecord v device u h
corrected_there {v} {device} {u} {cycle} by at is le comes =
    let adjustment : Units = record { 0 = (adjustment_before v.scenario at.front device u).0 +ℤ by.0 } in
    let body = notes.Corrected device cycle by adjustment in (
      happening v.scenario.network at.front (next_note at.front u body),
      record {
        there = due_there u body at is
            le refl (record { corrected = comes; sum = refl });
        at = refl;
        says = inl (cycle, by, adjustment, refl);
      },
    )

-- and that of the loss of the time
lost_there : {v : View} (device : DeviceId) (u : ℕ) (why : Why)
    (at : IsSplit place_of v.records (u ∷ 7 ∷ device.0 ∷ 0 ∷ [])) → IsView v → u ≤ v.until
    → ChangesState v.scenario at.front device u Integrating 0 why → (h : Happening) × IsPointRecord v device u h
lost_there {v} device u why at is le changes =
    let body = notes.State device Integrating 0 why in (
      happening v.scenario.network at.front (next_note at.front u body),
      record { there = due_there u body at is le refl changes; at = refl; says = inr (0, why, refl) },
    )

pub points_are_recorded : NoneTurnsOn → PointsAreRecorded
points_are_recorded steady_on v device u is le timed reaches never =
    let s = v.scenario in
    let p = parts_of device u is in
    let six = before_place v u (6 ∷ device.0 ∷ []) p.six in
    let seven = before_place v u (7 ∷ device.0 ∷ 0 ∷ []) p.seven in
    let standing = same_standing device seven ∙ sym (same_standing device six) in
    let cleared : (x : ℕ) → has_cleared s (p.six.front ++ p.mid) device u x ≡ has_cleared s p.six.front device u x = λ x.
    rw p.whole at (same_cleared device x seven
    ∙ sym (same_cleared device x six)) in
    let heard : heard_since s p.seven.front device u ≡ heard_since s p.six.front device u = rw p.whole
    (heard_more v device u p.six.front p.mid (cleared u) cleared (λ m i. (p.at m i).0) (λ m i. (p.at m i).1)) in
    let summary = summary_of (heard_since s p.seven.front device u) in
    let comes = λ (verdict : Verdict) (has : HasVerdict (standing_before s p.seven.front device u) summary.0 verdict).
    comes_given verdict is steady_on le timed seven reaches summary.1 has in
    elim (verdict_of (standing_before s p.seven.front device u) summary.0 (not_at device seven never)) [
      | inl correct ↦
          corrected_there correct.0 p.six is le
          (comes_given (Corrected correct.0) is steady_on le timed six reaches
          (subst (Summarizes summary.0) heard summary.1)
          (subst (λ st. HasVerdict st summary.0 (Corrected correct.0)) standing correct.1))
      | inr (inl sync) ↦ lost_there device u whys.SyncClique p.seven is le
          (refl, refl, (next_cycle s v.records device u, comes SyncClique sync))
      | inr (inr async) ↦ lost_there device u whys.AsyncClique p.seven is le
          (refl, refl, (next_cycle s v.records device u, comes AsyncClique async))
    ]

-- ---- the views of a run, and where the dispatches of their cycles lie: views

-- the view of the records up to a time, by which the path error is this one
abbrev pub view_of : Scenario → ℕ → Channel → ℕ → List Happening → View
view_of s t channel path front = record { scenario = s; until = t; records = front; sizes = sizes_of s.network path; channel = channel }

pub record IsViewWith (s : Scenario) (hs : List Happening) (t : ℕ) (channel : Channel) (path : ℕ) : Type 0 where
  pub cut : IsCutAt s hs t
  pub is : IsView (view_of s t channel path cut.front)

pub view_with : {s : Scenario} {mark : List ℕ} {ns : List Note} {until : ℕ} (t : ℕ) (channel : Channel) (path : ℕ)
    → IsRunUpTo s mark ns until → IsBeta s.network (pos path) → t ≤ until → IsSound s t channel
    → IsViewWith s (happenings s.network ns) t channel path
view_with {s} {until} t channel path up beta le sound =
    let cut = cut_at s until t up.run up.covers le in
    record {
      cut = cut;
      is = record {
        lawful = up.lawful;
        run = cut.run;
        short = omega (arith, up.short);
        beta =
            beta;
        sizes = refl;
        sound = sound;
      };
    }

-- ---- dispatches

module _ (cover : BlocksCover) (goes : BlocksGoSo) {v : View} (is : IsView v) where
  -- each dispatch of a good master lies in the hull of its cycle
  pub all_in_hulls : {h : Happening} {device : DeviceId} {cycle : ℕ} → IsDispatch v h device cycle
      → IsInHull v cycle (time_of h)
  all_in_hulls {h} {device} {cycle} dispatch =
      let found = cover v v.until is (omega arith) in
      (known_dispatch v found.0 (v.until + 1) found.1.before
      (λ u from lt. goes v found.0 u (earlier_in_block _ _ _ _ found.1 from (omega arith)) is) h device cycle dispatch
      (let in_run = within_run is h dispatch.there in omega arith)).1

  -- the hull of a cycle is from its first to its last dispatch
  pub hull_lies : (cycle : ℕ) (hull : Hull) → hull_of v (suc cycle) ≡ Some hull
      → LieFromTo v.scenario v.records v.until (suc cycle) hull.least hull.greatest
  hull_lies cycle hull at =
      let has = has_before v cycle hull (within_run is) at in
      let test = λ (g : Happening). is_dispatch v has.before (suc cycle) g g.note.body in
      let over_is = rw has.is_before at at in
      let ends = ends_of None (filter test v.records) hull over_is in
      let dispatched : (h : Happening) → IsIn h (filter test v.records) → IsDispatchedBy v.scenario v.records v.until
      (suc cycle) h = λ h i.
      (let t = tested v has.before (suc cycle) h h.note.body (passes test v.records h i) in
      let there = in_filter test v.records h i in
      record { there = there; master = t.device; is = t.is; correct = t.good; by_then = within_run is h there }) in
      elim ends.greatest [
        | inr none ↦ absurd (never_some none.0 none.1)
        | inl top ↦ elim ends.least [
          | inr none ↦ absurd (never_some none.0 none.1)
          | inl low ↦ record {
            earliest = low.0;
            is_earliest = dispatched low.0 low.1;
            first_is = sym low.2;
            latest = top.0;
            is_latest = dispatched top.0 top.1;
            last_is = sym top.2;
            each = λ h d.
                (let inside = all_in_hulls (record { there = d.there; is = d.is; good = d.correct }) in
                let same = same_some (hull_of v (suc cycle)) inside.hull hull inside.is at in
                (rw same at inside.least, rw same at inside.most));
          }
        ]
      ]

  -- so that of any cycle
  pub hull_is_from_to : (cycle : ℕ) (hull : Hull) → hull_of v cycle ≡ Some hull
      → AreFromTo v.scenario v.records v.until cycle hull.least hull.greatest
  hull_is_from_to zero hull at =
      let same = same_some (hull_of v zero) (start_hull v.sizes) hull refl at in
      (rw (sym same) (ap (λ x. pos 0 -ℤ pos x) (sizes_are is).settled), rw (sym same))
  hull_is_from_to (suc c) hull at = hull_lies c hull at

-- ---- the records up to a time

module _ {s : Scenario} {hs : List Happening} {t : ℕ} (cycle : ℕ) (cut : IsCutAt s hs t) (h : Happening) where
  -- what holds of the dispatches up to a time holds of those of the run
  of_run : IsDispatchedBy s cut.front t cycle h → IsDispatchedBy s hs t cycle h
  of_run d = record { there = cut.inside h d.there; master = d.master; is = d.is; correct = d.correct; by_then = d.by_then }

  -- and the other way round
  pub of_cut : IsDispatchedBy s hs t cycle h → IsDispatchedBy s cut.front t cycle h
  of_cut d = record { there = cut.has h d.there d.by_then; master = d.master; is = d.is; correct = d.correct; by_then = d.by_then }

-- so the first and the last of the one are those of the other
pub from_to_by : (s : Scenario) (hs gs : List Happening) (t cycle : ℕ) (first last : ℤ)
    → ((c : ℕ) (h : Happening) → IsDispatchedBy s hs t c h → IsDispatchedBy s gs t c h)
    → ((c : ℕ) (h : Happening) → IsDispatchedBy s gs t c h → IsDispatchedBy s hs t c h) → AreFromTo s hs t cycle first last → AreFromTo s gs t cycle first last
from_to_by s hs gs t zero first last there back at = at
from_to_by s hs gs t (suc c) first last there back at = grind arith

module _ {s : Scenario} {hs : List Happening} {t : ℕ} (cycle : ℕ) (first last : ℤ) (cut : IsCutAt s hs t) where
  pub from_to_of_run : AreFromTo s cut.front t cycle first last → AreFromTo s hs t cycle first last
  from_to_of_run = from_to_by s cut.front hs t cycle first last (λ c h. of_run c cut h) (λ c h. of_cut c cut h)

  pub from_to_of_cut : AreFromTo s hs t cycle first last → AreFromTo s cut.front t cycle first last
  from_to_of_cut = from_to_by s hs cut.front t cycle first last (λ c h. of_cut c cut h) (λ c h. of_run c cut h)

-- ---- blocks of dispatches

-- the block of a dispatch is that of its cycle
pub record IsOfBlockOf (v : View) (cycle : ℕ) (h : Happening) : Type 0 where
  pub n : ℕ
  pub block : IsInBlock v n (time_of h)
  pub of_cycle : cycle ≡ suc n

pub block_of : BlocksCover → BlocksGoSo → {v : View} → IsView v → {h : Happening} {device : DeviceId} {cycle : ℕ}
    → IsDispatch v h device cycle → IsOfBlockOf v cycle h
block_of cover goes {v} is {h} {device} {cycle} dispatch =
    let found = cover v (time_of h) is (within_run is h dispatch.there) in
    record { n = found.0; block = found.1; of_cycle = ((goes v found.0 (time_of h) found.1 is).dispatches h device cycle dispatch refl).of_cycle }

-- There is a run up to each time.
use Rattle.{net_plan.specs.Ranges.IsInRange, tte_units.specs.Amount.amount}
use Rattle.precision_law.{specs.traffic.existence.Laws.{RunsExist, RunsExistToEachMark}}
use Rattle.precision_law.proofs.traffic_lemmas.existence_lemmas.{bounds.Weights.{bound, fits, size_of}}
use Rattle.precision_law.proofs.traffic_lemmas.existence_lemmas.Sweep
use Sweep.{IsBoundedBy, IsShaped, never_before_none, run_to_time}
use Rattle.precision_law.proofs.traffic_lemmas.existence_lemmas.decisions.{Places.place_parts}
use Rattle.precision_law.proofs.traffic_lemmas.existence_lemmas.decisions.{Ranks.{is_rank, place_decided}}
use Rattle.run_law.proofs.{law.FirstDeliveries.{IsSplit, front_founded, split}, records.Told.{notes_of, told_from}}
use Rattle.run_law.proofs.{runs.Places.{before_next_time, chain, in_parts}}
use Rattle.run_law.specs.{declared.note.Note.Note, records.Order.{IsBefore, IsIn}, runs.Runs.{IsFounded, IsFull, IsRun}, scenario.Scenarios.Scenario}
use Rattle.run_law.specs.{records.{Happenings.{Happening, time_of}, Ranks.{key, members_in, place_of, rank}}, runs.DueRecords.{IsDue, IsScenarioRun}}
use Rattle.std.proofs.{Common.{◌++◌, ◌+◌, ◌∙◌, ◌∷◌, ◌≡◌, ◌≤◌, List, [], ap, append_assoc, arith, inl, inr, refl, subst, sym, ℕ}, lemmas.Int.ints}

-- ---- the places of records

shaped : (h : Happening) → IsShaped 15 (place_of h)
shaped h =
    let is = is_rank h.note.body in
    record { time = time_of h; rank = rank h.note.body; key = key (members_in h) h.note.body; below = is.below; is = refl }

bounded : (s : Scenario) → 1 ≤ amount s.network.cycle → (t r : ℕ) (ms : List Happening) → IsBoundedBy place_of (IsDue s) t r ms
bounded s some t r ms = record {
  size = size_of r;
  bound = bound s t ms;
  sized = λ more y key_of recent due e.
      let parts = place_parts (time_of y) (rank y.note.body) t r (key (members_in y) y.note.body) key_of e in
      let all = λ (x : Happening) (i : IsIn x more).
      (let under = recent x i in let p = place_parts (time_of x) (rank x.note.body) t r (key (members_in x) x.note.body) under.0 under.1 in
      let both : (time_of x ≡ t) × (rank x.note.body ≡ r) = (p.0, p.1.0) in both) in
      let it = fits s t r ms more all y.note.time y.note.body (members_in y) some parts.0 parts.1.0 (ap members_in due.same) due.cause in
      rw parts.1.1 at (rw parts.1.0 at it);
}

-- ---- up to an earlier mark

-- what of a run is before an earlier mark is the run up to it
front_run : {N : Type 0} {place : N → List ℕ} (IsDue : List N → N → Type 0) (mark : List ℕ) {later : List ℕ}
    {ns : List N} → ((p : List ℕ) → IsBefore p mark → IsBefore p later) → IsRun place IsDue later ns
    → (front : List N) × IsRun place IsDue mark front
front_run {N} {place} IsDue mark {ns} sooner run =
    let at = split place IsDue ns mark run.founded in (
      at.front,
      record { founded = front_founded place IsDue at.front at.rest (subst (IsFounded place IsDue) at.whole run.founded); full = full at; within = at.before },
    )
  where
    full : (at : IsSplit place ns mark) → IsFull place IsDue mark at.front
    full at ps qs x e before none due here =
        let whole = at.whole ∙ ap (λ l. l ++ at.rest) e ∙ append_assoc ps qs at.rest in
        let found = run.full ps (qs ++ at.rest) x whole before (λ n i lt. elim (in_parts n qs at.rest i) [
          | inl l ↦ none n l lt
          | inr r ↦ at.none n r (chain (place n) (place x) mark lt here)
        ]) due (sooner (place x) here) in
        elim (in_parts found.0 at.front at.rest (subst (IsIn found.0) at.whole found.1)) [
          | inl l ↦ (found.0, l, found.2)
          | inr r ↦ absurd (at.none found.0 r (rw found.2 here))
        ]

-- ---- the laws

run_to : (s : Scenario) (t : ℕ) → IsInRange s.network → (hs : List Happening) × IsRun place_of (IsDue s) (t ∷ []) hs
run_to s t range =
    let least = range.cycle.least in
    let some : 1 ≤ amount s.network.cycle = omega (arith, ints) in
    run_to_time place_of (IsDue s) (place_decided s some) 15 shaped (bounded s some) t

noted : (s : Scenario) {mark : List ℕ} → (hs : List Happening) × IsRun place_of (IsDue s) mark hs
    → (ns : List Note) × IsScenarioRun s mark ns
noted s {mark} there =
    (notes_of there.0, subst (IsRun place_of (IsDue s) mark) (sym (told_from s [] there.0 there.1.founded)) there.1)

pub runs_exist : RunsExist
runs_exist s t range = noted s (run_to s t range)

pub runs_exist_to_each_mark : RunsExistToEachMark
runs_exist_to_each_mark s [] range =
    let there = run_to s 0 range in
    noted s (front_run (IsDue s) [] (λ p b. absurd (never_before_none p b)) there.1)
runs_exist_to_each_mark s (t ∷ more) range =
    let there = run_to s (t + 1) range in
    noted s (front_run (IsDue s) (t ∷ more) (λ p b. before_next_time p t more b) there.1)

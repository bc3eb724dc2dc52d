-- Where only events of the present instant are worked off, the records given are the run behind them.
use Rattle.drift_world.proofs.Words.{◌+◌, ◌<◌, ◌∷◌, ◌≡◌, ◌≤◌, Happening, IsBefore, IsDue, IsScenarioRun, List, Meaning, Note}
use Rattle.drift_world.proofs.Words.{Scenario, Stands, World, [], amount, ap, append-nil, arith, chain, happenings, inl, inr, place_of, refl, subst}
use Rattle.drift_world.{proofs.Words.{sym, true, ℕ, ℤ}, specs.Running.RunsBehindEvents}
use Rattle.net_plan.specs.declared.event.Event.{Event}
use Rattle.world_law.{specs.source.{Next.NoneDueBefore, Sources.IsSource}}
use Rattle.world_law.proofs.runs.{TaskPlaces.placed_so, Worlds.{none_due, source_before, sourced}}
use Rattle.world_law.proofs.{steps_lemmas.steps.Applied.no_coming}
use Rattle.run_law.proofs.runs.Grow.{move_mark}

-- nothing is to come
pub none_coming : {C M : Type 0} {reading : C → ℕ → ℕ} {stands : Meaning M}
    {s : Scenario} {world : World C M} {notes : List Note} → Stands reading stands s world notes → world.early ≡ true
    → world.settled ≡ []
none_coming {s} {world} {notes} old early =
    no_coming (happenings s.network notes) world.settled s old.frontier world.now old.are (old.early early)

-- ---- what is before the place behind the events

-- a place of the time before the place behind its events is of a lesser time, or of the rank 0 or 1
sooner : (t now k : ℕ) (ws : List ℕ) → IsBefore (t ∷ k ∷ ws) (now ∷ 2 ∷ []) → 2 ≤ k → t < now
sooner t now k ws (inl lt) high = lt
sooner t now k ws (inr (e, inl few)) high = absurd (omega arith)
sooner t now k ws (inr (e, inr (same, none))) high = absurd none

module _ {C M : Type 0} {reading : C → ℕ → ℕ} {stands : Meaning M} {s : Scenario} {world : World C M}
    {notes : List Note} (old : Stands reading stands s world notes) (early : world.early ≡ true) where
  hs : List Happening
  hs = happenings s.network notes

  -- what is of an earlier time is worked off
  past : (t : ℕ) (ws : List ℕ) → t < world.now → IsBefore (t ∷ ws) old.frontier
  past t ws lt = old.of_now (t ∷ ws) (inl lt)

  -- an event of the instant is
  told : (i : ℕ) (e : Event) → Rattle.std.specs.Prelude.slice_get s.events i ≡ Rattle.std.proofs.Common.Some e
      → IsBefore (amount e.time ∷ 1 ∷ []) old.frontier
  told i e is =
      chain (amount e.time ∷ 1 ∷ []) (amount e.time ∷ 1 ∷ (i + 1) ∷ []) old.frontier (inr (refl, inr (refl, tt)))
      (old.befallen.told i e is)

  by_time : (t k : ℕ) (ws : List ℕ) → 2 ≤ k → IsBefore (t ∷ k ∷ ws) (world.now ∷ 2 ∷ [])
      → IsBefore (t ∷ k ∷ ws) old.frontier
  by_time t k ws high b = past t (k ∷ ws) (sooner t world.now k ws b high)

  -- so is each source that is before the place behind the events
  worked : {w : List ℕ} → IsSource s hs w → IsBefore w (world.now ∷ 2 ∷ []) → IsBefore w old.frontier
  unfolding hs
  worked (IsSource.arriving t device link cause a) b = by_time t 2 (device.0 ∷ link.0 ∷ cause ∷ []) (omega arith) b
  worked (IsSource.ripening t device link cause point r) b = by_time t 3 (device.0 ∷ amount point ∷ r.frame.members.0 ∷ link.0 ∷ cause ∷ []) (omega arith) b
  worked (IsSource.acting t device task a) b =
      let p = placed_so s.network t device task in
      let late = p.late in
      subst (λ q. IsBefore q old.frontier) (sym p.is)
      (by_time t p.rank (device.0 ∷ p.rest) (omega (arith, late)) (subst (λ q. IsBefore q (world.now ∷ 2 ∷ [])) p.is b))
  worked (IsSource.departing t device link cause d) b = by_time t 8 (device.0 ∷ link.0 ∷ cause ∷ []) (omega arith) b
  worked (IsSource.following t cause h it) b = by_time t 2 [] (omega arith) b
  worked (IsSource.befalling time line what r) b =
      rw (ap amount (sym r.at)) at (told r.before r.event r.is)
  worked (IsSource.ending time device is there ends) b = by_time (amount time) 14 (device.0 ∷ []) (omega arith) b

  nothing : NoneDueBefore place_of (IsDue s) old.frontier hs (world.now ∷ 2 ∷ [])
  unfolding hs
  nothing y due not here =
      let from = sourced s hs y due in
      let is_worked = worked from.source (source_before from.place (place_of y) (world.now ∷ 2 ∷ []) from.no_later here) in
      let are = rw (none_coming old early) at old.are in
      (are.full [] [] y refl (λ n i. absurd i) (λ n i. absurd i) not
      (rw (append-nil hs) (record { same = due.same; begun = due.begun; cause = due.cause }))
      (rw (append-nil hs) (from.place, from.own, from.source, is_worked))).1

  -- the records are the run behind the events of the instant
  pub run_behind_events : IsScenarioRun s (world.now ∷ 2 ∷ []) notes
  unfolding hs
  run_behind_events =
      move_mark (IsDue s) old.run
      (λ n i. old.early early (place_of n) (old.run.within n i))
      (none_due place_of (IsDue s) old.frontier hs (world.now ∷ 2 ∷ []) old.run.within nothing)

-- so of a world that stands for events and records
pub runs_behind_events : {C M : Type 0} (fresh : ℕ → C) (after_step : C → ℕ → ℤ → C) (reading : C → ℕ → ℕ)
    (stands : Meaning M) → RunsBehindEvents fresh after_step reading stands
runs_behind_events fresh after_step reading stands network world events notes under early =
    run_behind_events under.is early

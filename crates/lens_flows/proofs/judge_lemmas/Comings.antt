-- When a clock reaches a value where its device is synchronised.
pub use Rattle.audit_sweep.proofs.unpaid_lemmas.dispatches_lemmas.RowDebts.{reached_later as not_at_first, when_true}
use Rattle.{lens_flows.specs.judge.Fates.{HasComeInStep, ReachesInStep}, sync_state.specs.declared.state.State.TheVariants.Synchronised}
use Rattle.{lens_flows.specs.judge.Times.{IsFirstTime, NoneWithin}, run_law.specs.{records.Happenings.{Happening, up_to}, scenario.Scenarios.Scenario}}
use Rattle.{net_plan.specs.declared.ids.DeviceId.DeviceId, std.specs.Prelude.{◌↔◌, IsTrue, MatchBool}}
use Rattle.run_law.specs.{device.States.state_after, law.Safety.ReachesPlace}
use Rattle.std.proofs.{Common.{◌+◌, ◌<◌, ◌≡◌, ◌≤◌, Bool, List, arith, false, inl, inr, refl, subst, true, ℕ}, lemmas.Bool.{cases_lt, false≢true}}

module _ (s : Scenario) (hs : List Happening) (device : DeviceId) (cycle place : ℕ) where
  pub none_in_step : (after before last : ℕ) → last ≤ before
      → NoneWithin (ReachesPlace s hs device cycle place) after before
      → NoneWithin (ReachesInStep s hs device cycle place) after last
  none_in_step after before last le none t lt early r = none t lt (omega (arith, early, le)) r.reaches

  -- the first time, where the device is not synchronised at it
  pub passed_in_step : {after until time : ℕ} → IsFirstTime (ReachesPlace s hs device cycle place) after until time
      → (state_after s (up_to time hs) device ≡ Synchronised → ⊥)
      → NoneWithin (ReachesInStep s hs device cycle place) after (time + 1)
  passed_in_step {time} first out t lt early r =
      elim (cases_lt t time) [
        | inl less ↦ first.none_before t lt less r.reaches
        | inr more ↦
            let same : t ≡ time = omega (arith, early, more) in
            out (subst (λ x. state_after s (up_to x hs) device ≡ Synchronised) same r.synchronised)
      ]

  -- where it has come to none behind time 0, it has come to none
  pub not_come : {before : ℕ} → NoneWithin (ReachesInStep s hs device cycle place) 0 before
      → HasComeInStep s hs device cycle place before → ⊥
  not_come none come =
      none come.time (not_at_first come.time come.reaches.reaches) come.early come.reaches

-- ---- the answer

-- it came to the place before the time
abbrev pub Comes : Scenario → List Happening → DeviceId → ℕ → ℕ → ℕ → Type 0
Comes s hs device cycle place before = (time : ℕ) × (time < before) × ReachesInStep s hs device cycle place time

module _ (s : Scenario) (hs : List Happening) (device : DeviceId) (cycle place before : ℕ) where
  pub has_come : Comes s hs device cycle place before → HasComeInStep s hs device cycle place before
  has_come w = record { time = w.0; early = w.1; reaches = w.2 }

  pub tells_come : (r : Bool) → MatchBool r (Comes s hs device cycle place before)
      (NoneWithin (ReachesInStep s hs device cycle place) 0 before)
      → IsTrue r ↔ HasComeInStep s hs device cycle place before
  tells_come true w = (λ e. has_come w, λ come. refl)
  tells_come false none = (λ e. absurd (false≢true e), λ come. absurd (not_come s hs device cycle place none come))

-- What a frame is judged as, what it ripens to, and to whom it tells the time.
use Rattle.std.proofs.{Common.{MatchBool, arith, cond, filter}}
use Rattle.std.proofs.{lemmas.Bool.{both_ways, cases_Bool, false_from_ne_true, ltb-true}}
use Rattle.compression.{proofs.Times.one_list_of_clusters}
use Rattle.compression.{specs.{Clusters.Point, Role.role, declared.taken.Taken.Taken}}
use Rattle.net_plan.proofs.SameIds.{same_device}
use Rattle.run_law.proofs.{records.Order.before_is}
use Rattle.run_law.proofs.Words
use Words.{◌∙◌, ◌∷◌, ◌≡◌, Bool, DeviceId, Happening, Integrates, Integrating, IsCaused, Joining, Judgement, List}
use Words.{Members, Network, None, NoteBody, Option, Pcf, Reason, Ripe, Scenario, Some, State, Synchronised, Units, []}
use Words.{amount, earlier, eqb-true, false, inl, is_joined_by, nat_lt, observation_window, option_map, place_of, refl}
use Words.{ripe_as, sym, time_of, true, ℕ, ℤ}
use Rattle.run_law.specs.{declared.{judgement.Judgement.TheVariants.Ignored, steps.Ripe.TheVariants.Within}}
use Rattle.run_law.specs.{records.{Order.is_before, Ranks.key}, scenario.Devices.{is_cm, plan_of}}
use Rattle.run_law.specs.control.{Collections.ripe_by_role, Corrections.cycle_after}
use Rattle.run_law.specs.control.{Hearing.{heard_as, heard_by_schedule, heard_enough}}
use Rattle.run_law.specs.control.{Permanence.{IsCollectedOrDropped, IsPermanenceOutcome, before_permanence}}
use Rattle.run_law.specs.device.{LocalClocks.changes_adjustment, States.{has_joined_at, state_at_hearing, state_before}}
use Rattle.sync_state.{proofs.VerdictLemmas.before_hearing}
use Rattle.sync_state.{specs.declared.{plan.SyncPlan.SyncPlan, state.State.TheVariants.Off}}
use Rattle.compression.specs.declared.taken.Taken.TheVariants as takings
use Rattle.run_law.specs.declared.judgement.Judgement.TheVariants as judgements
use Rattle.run_law.specs.declared.note.NoteBody.TheVariants as notes
use Rattle.run_law.specs.declared.steps.Ripe.TheVariants as ripe
use Rattle.sync_state.specs.declared.state.State.TheVariants as states

-- ---- what a frame is judged as, and what it ripens to

-- a role in a collection is no integration
pub role_not : (taken : Taken) → ripe.Integrates ≡ ripe_by_role taken → ⊥
role_not takings.Opened e = cc
role_not other e = cc

collected_not : (network : Network) (points : List Point) (p : Point) (fault : Option Reason) → IsCollectedOrDropped network points p fault ripe.Integrates
    → ⊥
collected_not network points p None so = role_not so.taken so.becomes
collected_not network points p (Some reason) so = cc

pub never_dropped : (v : Judgement) (reason : Reason) → ripe.Dropped reason ≡ ripe_as v → ⊥
never_dropped judgements.Opened reason e = cc
never_dropped other reason e = cc

-- where no reason is the first, its test fails and no later one is
pub none_first : (b : Bool) (x : Bool × Reason) (o : Option (Bool × Reason)) → option_map (λ test. test.1) (cond b (Some x) o) ≡ None
    → (b ≡ false) × (option_map (λ test. test.1) o ≡ None)
none_first true x o e = absurd cc
none_first false x o e = (refl, e)

pub by_schedule : (b : Bool) → heard_by_schedule b ≡ Integrates → ⊥
by_schedule true e = absurd cc
by_schedule false e = absurd cc

pub cycle_stays : (device : DeviceId) (old : ℕ) (h : Happening) (body : NoteBody) → changes_adjustment device body ≡ false → cycle_after device old h body ≡ old
cycle_stays device old h (notes.Corrected d number by adjustment) e = rw e refl
cycle_stays device old h (notes.Permanent d link cause point Integrates) e = rw e refl
cycle_stays device old h (notes.Compressed d opened own of_cycle members Integrates) e = rw e refl
cycle_stays device old h body e = refl

pub collected : (network : Network) (points : List Point) (point : Point) (fault : Option Reason)
    → (is : Ripe) × IsCollectedOrDropped network points point fault is
collected network points point (Some reason) = (ripe.Dropped reason, refl)
collected network points point None =
    let all = one_list_of_clusters (observation_window network) points in (
      ripe_by_role (role all.0 point),
      record { taken = role all.0 point; collected = record { clusters = all.0; are = all.1; is = refl }; becomes = refl },
    )

pub by_kind : (b : Bool) (P : Ripe → Type 0) (heard : Ripe) → (is : Ripe) × P is → (is : Ripe) × MatchBool b (P is) (is ≡ heard)
by_kind true P heard there = there
by_kind false P heard there = (heard, refl)

pub some_outcome : (network : Network) (device : DeviceId) (state : State) (adjustment : ℤ) (points : List Point) (frame : Pcf) (point : ℤ)
    → (is : Ripe) × IsPermanenceOutcome network device state adjustment points frame point is
some_outcome network device state adjustment points frame point =
    by_kind (is_cm network device) (λ is. IsCollectedOrDropped network points _ _ is) _ (collected network points _ _)

module _ (plan : SyncPlan) (precision : ℤ) where
  pub heard_integrates : (state : State) (adjustment point : ℤ) (cycle : ℕ) (members : Members)
      → heard_as plan precision state adjustment point cycle members ≡ judgements.Integrates
      → state ≡ states.Integrating
  heard_integrates states.Off adjustment point cycle members e = absurd cc
  heard_integrates states.Integrating adjustment point cycle members e = refl
  heard_integrates states.Joining adjustment point cycle members e = absurd (by_schedule _ e)
  heard_integrates states.Synchronised adjustment point cycle members e = absurd (by_schedule _ e)

  pub looking_ripe : (state : State) (adjustment point : ℤ) (cycle : ℕ) (members : Members)
      → ripe.Integrates ≡ ripe_as (heard_as plan precision state adjustment point cycle members) → state ≡ Integrating
  looking_ripe Off adjustment point cycle members e = absurd cc
  looking_ripe Integrating adjustment point cycle members e = refl
  looking_ripe Joining adjustment point cycle members e = grind (arith, ripe_as)
  looking_ripe Synchronised adjustment point cycle members e = grind (arith, ripe_as)

pub in_time_not : (b : Bool) → ripe_as (heard_by_schedule b) ≡ ripe.Integrates → ⊥
in_time_not true e = cc
in_time_not false e = cc

pub in_time_by : (b : Bool) → ripe_as (heard_by_schedule b) ≡ Within → b ≡ true
in_time_by true e = refl
in_time_by false e = absurd cc

pub tells_by : (b : Bool) → ripe_as (heard_enough b) ≡ ripe.Integrates → b ≡ true
tells_by true e = refl
tells_by false e = absurd cc

pub enough_not : (b : Bool) → ripe_as (heard_enough b) ≡ Within → ⊥
enough_not true e = cc
enough_not false e = cc

-- ---- a frame tells the time only to a device that looks for it

-- a filter that keeps all earlier records
pub earlier_kept : (t : ℕ) (q : Happening → Bool) (hs : List Happening) → ((h : Happening) → nat_lt (time_of h) t ≡ true → q h ≡ true)
    → earlier t (filter q hs) ≡ earlier t hs
earlier_kept t q [] all = refl
earlier_kept t q (h ∷ hs) all = grind (arith, cases_Bool, earlier, filter, nat_lt, time_of, false_from_ne_true, both_ways, (earlier_kept t q hs all))

-- a place of the time is behind what is earlier
pub earlier_before : (hs : List Happening) (t : ℕ) (more : List ℕ) → earlier t (filter (λ h. is_before (place_of h) (t ∷ more)) hs) ≡ earlier t hs
earlier_before hs t more =
    earlier_kept t (λ h. is_before (place_of h) (t ∷ more)) hs (λ h e. before_is (place_of h) (t ∷ more) (inl (ltb-true (time_of h) t e)))

-- a device's state at a time is told by the records of earlier times
pub state_by : (s : Scenario) (gs hs : List Happening) (device : DeviceId) (t : ℕ) → earlier t gs ≡ earlier t hs
    → state_before s gs device t ≡ state_before s hs device t
state_by s gs hs device t same = rw same

outcome_looks : (b : Bool) (P : Type 0) (plan : SyncPlan) (precision : ℤ) (state : State) (adjustment point : ℤ) (cycle : ℕ) (members : Members) → (P → ⊥)
    → MatchBool b P (ripe.Integrates ≡ ripe_as (heard_as plan precision state adjustment point cycle members)) → state ≡ Integrating
outcome_looks true P plan precision state adjustment point cycle members not so = absurd (not so)
outcome_looks false P plan precision state adjustment point cycle members not so = looking_ripe plan precision state adjustment point cycle members so

looking : (n : Network) (device : DeviceId) (state : State) (adjustment : ℤ) (points : List Point) (frame : Pcf) (point : ℤ)
    → IsPermanenceOutcome n device state adjustment points frame point ripe.Integrates → state ≡ Integrating
looking n device state adjustment points frame point so =
    outcome_looks (is_cm n device) _ (plan_of n device) (observation_window n) state adjustment point frame.cycle frame.members
    (λ c. collected_not n points _ _ c) so

-- a record by which a frame tells a device the time finds it integrating
pub looking_by : (s : Scenario) (ps : List Happening) (time : Units) (device : DeviceId) (body : NoteBody) → is_joined_by device body ≡ true
    → IsCaused s ps time body → state_before s ps device (amount time) ≡ Integrating
looking_by s ps time device (notes.Permanent other link cause point Integrates) joined caused =
    let same = sym (same_device device other (eqb-true device.0 other.0 joined)) in
    let t = amount time in
    let judged = before_permanence ps other t link cause caused.frame point in
    let looks = looking s.network other (state_at_hearing s judged other t) _ _ caused.frame point.0 caused.becomes in
    let before = before_hearing (has_joined_at judged other t) (state_before s judged other t) looks in
    let there = sym (state_by s judged ps other t (earlier_before ps t (3 ∷ key caused.frame.members.0 (notes.Permanent other link cause point Ignored))))
    ∙ before in
    rw same at there
looking_by s ps time device (notes.Compressed other opened at cycle members Integrates) joined caused =
    grind (arith, same_device, eqb-true, amount, looking_ripe, observation_window, ripe_as, before_hearing)
looking_by s ps time device other joined caused = absurd cc

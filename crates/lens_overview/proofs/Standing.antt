-- What is shown of a device at a time, once all records of the time have come.
use Rattle.{audit_devices.specs.Showing.{Shown, Shows}, lens_overview.specs.Spreads.local_at, net_plan.specs.declared.ids.DeviceId.DeviceId}
use Rattle.run_law.specs.device.{LocalClocks.local, States.{is_synchronised, state_after}}
use Rattle.precision_law.proofs.law.Precision.{up_to_is}
use Rattle.{run_law.specs.{records.Happenings.{Happening, earlier, up_to}, scenario.Scenarios.{Scenario, is_broken}}}
use Rattle.std.proofs.Common.{◌+◌, ◌∙◌, ◌≡◌, Bool, List, None, Option, Some, ap, false, if◌then◌else◌, refl, subst, sym, true, ℕ, ℤ}
use Rattle.sync_state.specs.declared.state.State.{State, TheVariants.{Integrating, Joining, Off, Synchronised}}

-- what is shown before the next unit of time is so after this one
pub shows_up_to : {s : Scenario} (hs : List Happening) {device : DeviceId} (t : ℕ) {shown : Shown}
    → Shows s (earlier (t + 1) hs) device shown → Shows s (up_to t hs) device shown
shows_up_to {s} hs {device} t {shown} shows =
    subst (λ xs. Shows s xs device shown) (sym (up_to_is t hs)) shows

-- a device that is broken has no clock that counts
pub local_broken : (s : Scenario) (hs : List Happening) (t : ℕ) (device : DeviceId) → is_broken s device t ≡ true → local_at s hs t device ≡ None
local_broken s hs t device broken = ap (λ (b : Bool). if b then None else by_state s hs t device (state_after s (up_to t hs) device)) broken
  where
    by_state : Scenario → List Happening → ℕ → DeviceId → State → Option ℤ
    by_state s hs t device state = if is_synchronised state then Some (local s hs device t) else None

not_synchronised : (state : State) → (state ≡ Synchronised → ⊥) → is_synchronised state ≡ false
not_synchronised Off other = refl
not_synchronised Integrating other = refl
not_synchronised Joining other = refl
not_synchronised Synchronised other = absurd (other refl)

module _ (s : Scenario) (hs : List Happening) (t : ℕ) (device : DeviceId)
    (correct : is_broken s device t ≡ false) where
  -- nor has one that is not synchronised
  pub local_other : (state_after s (up_to t hs) device ≡ Synchronised → ⊥) → local_at s hs t device ≡ None
  local_other other =
      ap (λ (b : Bool). if b then None else if is_synchronised (state_after s (up_to t hs) device) then Some
      (local s hs device t) else None) correct
      ∙ ap (λ (b : Bool). if b then Some (local s hs device t) else None)
      (not_synchronised (state_after s (up_to t hs) device) other)

  -- one that is correct and synchronised has
  pub local_in_step : state_after s (up_to t hs) device ≡ Synchronised
      → local_at s hs t device ≡ Some (local s hs device t)
  local_in_step state =
      ap (λ (b : Bool). if b then None else if is_synchronised (state_after s (up_to t hs) device) then Some
      (local s hs device t) else None) correct
      ∙ ap (λ st. if is_synchronised st then Some (local s hs device t) else None) state

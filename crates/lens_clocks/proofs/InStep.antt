-- The clocks that are told of a time are those of the devices that are correct and synchronised.
use Rattle.audit_devices.specs.Showing.{Shown, Shows}
use Rattle.lens_clocks.specs.{Laws.{ClocksAreInStep, IsTold}, Telling.{clock_of, clocks_at, clocks_of}, declared.telling.DeviceClock.DeviceClock}
use Rattle.net_plan.specs.declared.ids.DeviceId.{DeviceId}
use Rattle.precision_law.proofs.law.Precision.{up_to_is}
use Rattle.run_law.proofs.{device.States.is_in, runs.Places.{in_left, in_parts, in_right}}
use Rattle.run_law.specs.{device.{LocalClocks.local, States.{adjustment_after, is_synchronised, state_after}}, records.Order.IsIn}
use Rattle.run_law.specs.records.Happenings.{Happening, earlier, up_to}
use Rattle.run_law.specs.scenario.Scenarios.{Scenario, is_broken}
use Rattle.std.proofs.Common.{◌+◌, ◌<◌, ◌∙◌, ◌≡◌, Bool, List, None, Option, Some, [], ap, arith, false, inl, inr}
use Rattle.std.proofs.Common.{length, refl, subst, suc, sym, true, zero, ℕ, ℤ}
use Rattle.std.{proofs.lemmas.Bool.cases_lt, specs.{List.cons_option, Prelude.if◌then◌else◌}}
use Rattle.sync_state.specs.declared.state.State.{State, TheVariants.Synchronised}
use Rattle.tte_units.proofs.general_lemmas.Options.{one}

-- what is told of a device whose clock is this
abbrev told_where : Bool → Bool → DeviceClock → Option DeviceClock
told_where broken synchronised clock = if broken then None else if synchronised then Some clock else None

-- the clock of the device
abbrev own_clock : Scenario → List Happening → ℕ → DeviceId → DeviceClock
own_clock s hs t device = record { device = device; local = local s hs device t }

where_of : (broken synchronised : Bool) (own c : DeviceClock) → told_where broken synchronised own ≡ Some c → (broken ≡ false) × (synchronised ≡ true) × (own ≡ c)
where_of true synchronised own c e = absurd cc
where_of false false own c e = absurd cc
where_of false true own c e = (refl, refl, one (Some own) own c refl e)

sync_not : (state : State) → (state ≡ Synchronised → ⊥) → is_synchronised state ≡ false
sync_not Synchronised not = absurd (not refl)
sync_not other not = refl

-- ---- what is told of a device

module _ {s : Scenario} (hs : List Happening) {device : DeviceId} (t : ℕ) {shown : Shown}
    (shows : Shows s (earlier (t + 1) hs) device shown) where
  -- what is shown before the next unit of time is so after this one
  pub told_state : shown.state ≡ state_after s (up_to t hs) device
  told_state = shows.state ∙ ap (λ xs. state_after s xs device) (sym (up_to_is t hs))

  pub told_adjustment : shown.adjustment ≡ (adjustment_after s (up_to t hs) device).0
  told_adjustment =
      shows.adjustment ∙ ap (λ xs. (adjustment_after s xs device).0) (sym (up_to_is t hs))

module _ (s : Scenario) (hs : List Happening) (t : ℕ) (device : DeviceId) where
  pub told_broken : is_broken s device t ≡ true → None ≡ clock_of s hs t device
  told_broken broken =
      sym (ap (λ b. told_where b (is_synchronised (state_after s (up_to t hs) device))
      (own_clock s hs t device)) broken)

  pub told_not : is_broken s device t ≡ false → (state_after s (up_to t hs) device ≡ Synchronised → ⊥)
      → None ≡ clock_of s hs t device
  told_not correct not =
      sym (ap (λ b. told_where b (is_synchronised (state_after s (up_to t hs) device))
      (own_clock s hs t device)) correct
      ∙ ap (λ b. told_where false b (own_clock s hs t device))
      (sync_not (state_after s (up_to t hs) device) not))

  pub told_own : (v : ℤ) → is_broken s device t ≡ false → state_after s (up_to t hs) device ≡ Synchronised
      → v ≡ local s hs device t → Some (record { device = device; local = v }) ≡ clock_of s hs t device
  told_own v correct synchronised shows =
      ap (λ (z : ℤ). Some (record { device = device; local = z })) shows
      ∙ sym (ap (λ b. told_where b (is_synchronised (state_after s (up_to t hs) device))
      (own_clock s hs t device)) correct
      ∙ ap (λ state. told_where false (is_synchronised state) (own_clock s hs t device)) synchronised)

  told_is : (c : DeviceClock) → clock_of s hs t device ≡ Some c
      → (is_broken s device t ≡ false) × (state_after s (up_to t hs) device ≡ Synchronised)
      × (own_clock s hs t device ≡ c)
  told_is c e =
      let w = where_of (is_broken s device t) (is_synchronised (state_after s (up_to t hs) device))
      (own_clock s hs t device) c e in
      (w.0, is_in (state_after s (up_to t hs) device) w.1, w.2)

-- ---- among all

only : (o : Option DeviceClock) (c : DeviceClock) → IsIn c (cons_option o []) → o ≡ Some c
only None c i = absurd i
only (Some d) c (inl same) = ap (λ (x : DeviceClock). Some x) (sym same)
only (Some d) c (inr i) = absurd i

among : (o : Option DeviceClock) (c : DeviceClock) → o ≡ Some c → IsIn c (cons_option o [])
among o c e = subst (λ (x : Option DeviceClock). IsIn c (cons_option x [])) (sym e) (inl refl)

-- a clock among those of the first so many devices is that of one of them
of_one : (s : Scenario) (hs : List Happening) (t n : ℕ) (c : DeviceClock) → IsIn c (clocks_of s hs t n)
    → (c.device.0 < n) × (clock_of s hs t c.device ≡ Some c)
of_one s hs t zero c i = absurd i
of_one s hs t (suc n) c i =
    elim (in_parts c (clocks_of s hs t n) (cons_option (clock_of s hs t (record { 0 = n })) []) i) [
      | inl there ↦ let h = of_one s hs t n c there in (omega (arith, h.0), h.1)
      | inr last ↦
          let is = only (clock_of s hs t (record { 0 = n })) c last in
          let own = ap (λ (x : DeviceClock). x.device) (told_is s hs t (record { 0 = n }) c is).2 in
          let number : n ≡ c.device.0 = ap (λ (d : DeviceId). d.0) own in
          (omega (arith, number), subst (λ d. clock_of s hs t d ≡ Some c) own is)
    ]

of_all : (s : Scenario) (hs : List Happening) (t n : ℕ) (c : DeviceClock) → c.device.0 < n → clock_of s hs t c.device ≡ Some c → IsIn c (clocks_of s hs t n)
of_all s hs t zero c within is = absurd (omega (arith, within))
of_all s hs t (suc n) c within is =
    elim (cases_lt c.device.0 n) [
      | inl less ↦ in_left c (clocks_of s hs t n) (cons_option (clock_of s hs t (record { 0 = n })) []) (of_all s hs t n c less is)
      | inr more ↦
          let number : n ≡ c.device.0 = omega (arith, within, more) in
          in_right c (clocks_of s hs t n) (cons_option (clock_of s hs t (record { 0 = n })) [])
          (among (clock_of s hs t (record { 0 = n })) c (ap (λ (k : ℕ). clock_of s hs t (record { 0 = k })) number ∙ is))
    ]

-- each clock that is told is so, and each such clock is told
pub clocks_are_in_step : ClocksAreInStep
clocks_are_in_step s hs t c = (there, back)
  where
    there : IsIn c (clocks_at s hs t) → IsTold s hs t c
    there i =
        let h = of_one s hs t (length s.network.device) c i in
        let is = told_is s hs t c.device c h.1 in
        record {
          device = h.0;
          in_step = record { correct = is.0; synchronised = is.1 };
          shows = sym (ap (λ (x : DeviceClock). x.local) is.2);
        }

    back : IsTold s hs t c → IsIn c (clocks_at s hs t)
    back h =
        of_all s hs t (length s.network.device) c h.device
        (sym (told_own s hs t c.device c.local h.in_step.correct h.in_step.synchronised h.shows))

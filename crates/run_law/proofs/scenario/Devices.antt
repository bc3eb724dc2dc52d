-- Devices of a scenario, and the rates that its events set.
use Rattle.std.{proofs.{Common.{filter, nat_le}, lemmas.Bool.{eq-eqb, le-leb}}, specs.List.list_any}
use Rattle.drift_clock.specs.RateSteps.{RateStep}
use Rattle.net_plan.{proofs.SameIds.alike, specs.Places.{IsEndSystem, is_end_system}}
use Rattle.run_law.proofs.{runs.Grow.in_two}
use Rattle.run_law.proofs.Words
use Words.{if◌then◌else◌, ◌++◌, ◌==◌, ◌∙◌, ◌∷◌, ◌≡◌, ◌≤ℤ◌, ◌≤◌, Bool, Cm, DeviceId, Event, IsSomeAnd}
use Words.{IsWithinHypothesis, Link, LinkId, List, Network, None, Option, Role, Scenario, Some, What, [], amount, ap}
use Words.{append-nil, append_assoc, arith, cases_lt, device_at, eqb-true, false, inl, inr, ints, is_broken, is_master}
use Words.{is_parent_of, link_at, option_map_or, pos, refl, subst, sym, true, unsigned_abs, ℕ}
use Rattle.run_law.specs.scenario.{Devices.{IsParentOf, has_role, is_cm_role, is_end}}
use Rattle.run_law.specs.scenario.{Hypothesis.{AreWithinHypothesis, breaks_at}, Rates.step_by, Scenarios.turns_on}
use Rattle.tte_units.proofs.general_lemmas.Options.{opened}
use Rattle.net_plan.specs.declared.event.What.TheVariants as events
use Rattle.run_law.specs.declared.outside.Outside.TheVariants as outside

-- ---- devices of a scenario

-- the test of such an event
pub on_by : (device : DeviceId) (what : What) → turns_on device what ≡ true → what ≡ events.On device
on_by device (events.On other) e = rw (sym (eqb-true device.0 other.0 e))
on_by device other e = absurd cc

-- one more event within the hypothesis
pub all_within : (network : Network) (past : List Event) (event : Event) → AreWithinHypothesis network past → IsWithinHypothesis network past event
    → AreWithinHypothesis network (past ++ event ∷ [])
all_within network past event all here before behind e order =
    elim (in_two past before (e ∷ behind) event order) [
      | inl l ↦ absurd (not_none e behind l.0)
      | inr r ↦ at r.others r.last r.whole
    ]
  where
    not_none : (x : Event) (xs : List Event) → x ∷ xs ≡ [] → ⊥
    not_none x xs e = cc

    at : (others : List Event) → e ∷ behind ≡ others ++ event ∷ [] → past ≡ before ++ others → IsWithinHypothesis network before e
    at [] last whole =
        let same : event ≡ e = cc in
        let all_before = whole ∙ append-nil before in
        rw all_before at (rw same at here)
    at (o ∷ others) last whole =
        all before others e (whole ∙ ap (λ x. before ++ x ∷ others) cc)

-- one is not before the last of those that befell before it
pub in_turn : (network : Network) (front : List Event) (last event : Event) → IsWithinHypothesis network (front ++ last ∷ []) event → pos 0 ≤ℤ last.time.0
    → pos 0 ≤ℤ event.time.0 → amount last.time ≤ amount event.time
in_turn network front last event within first second = elim (cases_lt (amount event.time) (amount last.time)) [
  | inl sooner ↦ absurd (within outside.Order (record {
    front = front;
    last = last;
    order = refl;
    later =
        omega (arith, ints);
  }))
  | inr later ↦ later
]

pub broken_by : (device : DeviceId) (what : What) → breaks_at device.0 what ≡ true → what ≡ events.Break device
broken_by device (events.Break other) e =
    rw (eqb-true other.0 device.0 e)
broken_by device other e = absurd cc

-- a link's parent shows as one
pub shown_parent : (n : Network) (device : DeviceId) (link : LinkId) → IsParentOf n device link → is_parent_of n device link ≡ true
shown_parent n device link parent =
    let l = opened (λ k. k.parent ≡ device) (link_at n link) parent in
    rw l.1 (eq-eqb l.0.parent.0 device.0 (rw l.2))

pub end_is : (end_of : Link → DeviceId) (o : Option Link) (device : DeviceId) → option_map_or (λ l. (end_of l).0 == device.0) o false ≡ true
    → IsSomeAnd o (λ l. end_of l ≡ device)
end_is end_of None device e = absurd cc
end_is end_of (Some l) device e = alike (end_of l) device e

module _ (network : Network) (device : DeviceId) where
  -- and what shows as one is
  pub parent_shown : (link : LinkId) → is_parent_of network device link ≡ true → IsParentOf network device link
  parent_shown link e = end_is (λ l. l.parent) (link_at network link) device e

  -- the end system's test
  pub end_test : IsEndSystem network device → is_end network device ≡ true
  end_test end =
      let d = opened (λ x. is_end_system x.role ≡ true) (device_at network device) end in
      rw d.1 d.2

  -- a master is an end system
  pub master_end : has_role network is_master device ≡ true → is_end network device ≡ true
  master_end e = grind (arith, device_at, is_master, option_map_or)

-- the first of events within the hypothesis are
pub within_front : (network : Network) (front rest : List Event) → AreWithinHypothesis network (front ++ rest) → AreWithinHypothesis network front
within_front network front rest within before behind event order =
    within before (behind ++ rest) event (rw order (append_assoc before (event ∷ behind) rest))

-- a compression master's role
pub cm_role : (role : Role) → is_cm_role role ≡ true → role ≡ Cm
cm_role Cm e = refl
cm_role role e = absurd cc

pub any_less : (q : Event → Bool) (t later : ℕ) (xs : List Event) → t ≤ later → list_any q (filter (λ e. nat_le (amount e.time) later) xs) ≡ false
    → list_any q (filter (λ e. nat_le (amount e.time) t) xs) ≡ false
any_less q t later [] le none = refl
any_less q t later (x ∷ xs) le none =
    elim (cases_lt t (amount x.time)) [
      | inl far ↦
          rw (Rattle.std.proofs.lemmas.Bool.lt-leb (amount x.time) t far)
          (any_less q t later xs le (rest (nat_le (amount x.time) later) none))
      | inr near ↦
          let both = ap (λ b. list_any q (if b then x ∷ filter (λ e. nat_le (amount e.time) later) xs
          else filter (λ e. nat_le (amount e.time) later) xs))
          (sym (le-leb (amount x.time) later (omega arith))) ∙ none in
          let parts = Rattle.std.proofs.lemmas.Bool.or_parts (q x) (list_any q (filter (λ e. nat_le (amount e.time) later) xs)) both in
          rw (le-leb (amount x.time) t near)
          (rw parts.0
          (any_less q t later xs le parts.1))
    ]
  where
    rest : (b : Bool) → list_any q (if b then x ∷ filter (λ e. nat_le (amount e.time) later) xs else filter (λ e. nat_le (amount e.time) later) xs) ≡ false
        → list_any q (filter (λ e. nat_le (amount e.time) later) xs) ≡ false
    rest true e = (Rattle.std.proofs.lemmas.Bool.or_parts (q x) (list_any q (filter (λ e. nat_le (amount e.time) later) xs)) e).1
    rest false e = e

-- a device that is sound was so before
pub correct_before : (s : Scenario) (device : DeviceId) (t later : ℕ) → t ≤ later → is_broken s device later ≡ false → is_broken s device t ≡ false
correct_before s device t later le sound = any_less (λ e. breaks_at device.0 e.what) t later s.events le sound

-- ---- the rates that events set: each is of its event's time, and slow where the event is within the hypothesis

-- a rate that this sets is of a magnitude of at most rho
abbrev pub IsSlow : ℕ → What → Type 0
IsSlow rho (events.Rate device rate) = unsigned_abs rate.0 ≤ rho
IsSlow rho other = Unit {0}

module _ (network : Network) (before : List Event) (event : Event) where
  pub slow_event : IsWithinHypothesis network before event → IsSlow network.rho event.what
  slow_event within = of event.what refl
    where
      of : (what : What) → event.what ≡ what → IsSlow network.rho what
      of (events.Rate device rate) same = elim (cases_lt network.rho (unsigned_abs rate.0)) [
        | inl fast ↦ absurd (within outside.Rate (record { device = device; rate = rate; what = same; fast = fast }))
        | inr slow ↦ slow
      ]
      of other same = tt

  pub slow_what : (what : What) → event.what ≡ what → IsWithinHypothesis network before event
      → IsSlow network.rho what
  slow_what what same within = subst (IsSlow network.rho) same (slow_event within)

-- what holds of the value, where there is one
abbrev pub Holds : {X : Type 0} → Option X → (X → Type 0) → Type 0
Holds None P = Unit {0}
Holds (Some x) P = P x

-- the step is of its event's time
pub step_at : (device : DeviceId) (time : ℕ) (what : What) → Holds (step_by device time what) (λ s. s.at ≡ time)
step_at device time (events.Rate other rate) = grind arith
step_at device time other = tt

-- the step is of this time, and its rate of at most rho
pub record IsStepAt (rho time : ℕ) (step : RateStep) : Type 0 where
  pub at : step.at ≡ time
  pub slow : unsigned_abs step.rate ≤ rho

pub step_is : (rho : ℕ) (device : DeviceId) (time : ℕ) (what : What) → IsSlow rho what → Holds (step_by device time what) (IsStepAt rho time)
step_is rho device time (events.Rate other rate) slow = grind arith
step_is rho device time other slow = tt

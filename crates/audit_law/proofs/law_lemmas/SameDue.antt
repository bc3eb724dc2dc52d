-- No correction point is passed without a record, so an audit and a run have the same records due.
use Rattle.std.{specs.{List.{filter_map, list_any}, Prelude.◌<ℤ◌}}
use Rattle.std.proofs.{Common.{◌^◌, arith, negsuc, unsigned_abs}}
use Rattle.std.proofs.{lemmas.{Bool.{and_from, cases_Bool, eq-eqb, le-leb, ltb-true}, Int.by_lt_z}}
use Rattle.audit_law.proofs.law_lemmas.{Owed.debt_law, Sound.sound_of_run, Steps.{none_more, reached_by, short_step}}
use Rattle.audit_law.proofs.law_lemmas.Founded
use Founded.{by_number, caused_in_audit, caused_in_run, cut_at, founded_at, in_behind, in_time, no_later, run_before}
use Founded.{run_by, sorted, stays}
use Rattle.audit_law.proofs.law_lemmas.Words
use Words.{if◌then◌else◌, ◌&&◌, ◌*◌, ◌++◌, ◌+ℤ◌, ◌+◌, ◌-ℤ◌, ◌-◌, ◌<◌, ◌==◌, ◌||◌, ◌∙◌, ◌∷◌, ◌≡◌, ◌≤ℤ◌, ◌≤◌, ◌⊎◌}
use Words.{AllBefore, AsyncClique, Bool, ChangesState, ComesToPoint, Corrected, Debt, DeviceId, Happening, HasVerdict}
use Words.{Integrating, IsCaused, IsClocked, IsDue, IsFounded, IsIn, IsOwed, IsPaid, IsReach, IsRun, Joining, List}
use Words.{None, NoneBefore, NoteBody, Off, Option, Pays, Scenario, Some, Standing, State, Summarizes, SyncClique}
use Words.{Synchronised, Units, Verdict, Why, [], adjustment_after, adjustment_before, after_last, amount, and_parts}
use Words.{and_right, ap, append-nil, behind_first, both_ways, cases_lt, changes_adjustment, correction_value, earlier}
use Words.{eqb-true, false, false_from_ne_true, filter, filter-append, fold, heard_since_point, in_right, inl, inr}
use Words.{int_div_euclid, int_le, int_lt, integration_cycle, ints, is_broken, is_joined_by, is_turned_on_at, last_or}
use Words.{le-ltb, nat_le, nat_lt, natural, next_point, none_kept, not, numbered, numbered_front, numbered_in}
use Words.{option_map_or, parted, place_of, plan_of, pos, recorded_cycle, refl, same_some, slice_get, standing_at}
use Words.{state_after, subst, suc, sym, time_of, true, up_to, zero, ℕ, ℤ}
use Rattle.audit_law.specs.law.{Changes.{OwesChange, TellsChange}, CorrectionNumbers.points_come}
use Rattle.audit_law.specs.law.{CorrectionPoints.{IsPointOf, OwesPoint}, SameRuns.SameRuns}
use Rattle.audit_law.specs.law.{TracedEvents.{OwesEvent, TellsEvent}}
use Rattle.net_plan.specs.declared.event.{Event.Event, What.TheVariants.On}
use Rattle.run_law.proofs.{control.{Summaries.{summary_of, verdict_of}, Verdicts.cycle_stays}}
use Rattle.run_law.proofs.{device.States.{adjustment_kept, joined_changes}, law.FirstDeliveries.in_at}
use Rattle.run_law.proofs.{records.Order.{fold_parts, same_kept, soon}, runs.Places.in_left}
use Rattle.run_law.proofs.{scenario.{Decisions.at_integration, Devices.{correct_before, on_by as turned}}}
use Rattle.run_law.specs.{device.{LocalClocks.{Reaches, had_come}, States.{cycle_in, state_before, state_with}}}
use Rattle.run_law.specs.{runs.DueRecords.IsEventRecord, scenario.Scenarios.turns_on}
use Rattle.run_law.specs.control.Corrections
use Corrections.{ComesToCorrection, has_cleared, heard_since, hearing_by, is_integration_cycle, standing_before}
use Rattle.sync_state.specs.{Standing.{IsAtIntegration, point_in}, declared.answers.Verdict.TheVariants.Cleared}
use Rattle.sync_state.specs.{membership.Summary.Summary}
use Rattle.tte_units.proofs.general_lemmas.Integers.{int_le-from, int_le-is, int_lt-from, int_lt-is}
use Rattle.audit_law.specs.law.Owed as debts
use Rattle.run_law.specs.declared.judgement.Why.TheVariants as whys
use Rattle.run_law.specs.declared.note.NoteBody.TheVariants as notes
use Rattle.run_law.specs.runs.DueRecords as runs

-- ---- records behind the last change of a device's adjustment: they bring it to no state with a correction point

-- ---- a record that does not change the adjustment

not_joined : (device : DeviceId) (body : NoteBody) → changes_adjustment device body ≡ false → is_joined_by device body ≡ false
not_joined device (notes.Corrected other cycle by adjustment) e = refl
not_joined device body e = e

-- ---- states

-- the state has correction points
abbrev pub IsTimed : State → Type 0
IsTimed Off = ⊥
IsTimed Integrating = ⊥
IsTimed Joining = Unit {0}
IsTimed Synchronised = Unit {0}

-- the record leaves the device's state, or makes it integrating
abbrev pub IsCalm : DeviceId → NoteBody → Type 0
IsCalm device body = (old : State) → (state_with device old body ≡ old) ⊎ (state_with device old body ≡ Integrating)

-- a state that the record says of the device is integrating
abbrev pub SaysIntegrating : DeviceId → NoteBody → Type 0
SaysIntegrating device (notes.State other state cause why) = device.0 ≡ other.0 → state ≡ Integrating
SaysIntegrating device other = Unit {0}

state_or : (b : Bool) (state old : State) → (b ≡ true → state ≡ Integrating) → ((if b then state else old) ≡ old) ⊎ ((if b then state else old) ≡ Integrating)
state_or true state old says = inr (says refl)
state_or false state old says = inl refl

calm : (device : DeviceId) (body : NoteBody) → changes_adjustment device body ≡ false → SaysIntegrating device body → IsCalm device body
calm device (notes.State other state cause why) e says old = state_or (device.0 == other.0) state old (λ b. says (eqb-true device.0 other.0 b))
calm device (notes.Corrected other cycle by adjustment) e says old = inl refl
calm device body e says old = inl (ap (λ b. if b then Joining else old) (not_joined device body e))

-- a change of state that no change of the adjustment brings is to integrating
leaves : (s : Scenario) (front : List Happening) (device : DeviceId) (t : ℕ) (state : State) (cause : ℕ) (why : Why)
    → ((h : Happening) → numbered front cause ≡ Some h → time_of h ≡ t → changes_adjustment device h.note.body ≡ false)
    → ChangesState s front device t state cause why → state ≡ Integrating
leaves s front device t state cause whys.On quiet c = c.0
leaves s front device t state cause whys.Frame quiet c =
    let body = c.1.0.note.body in
    absurd (both_ways (changes_adjustment device body) (quiet c.1.0 c.1.1.there c.1.1.same_time) (joined_changes device body c.1.2))
leaves s front device t state cause whys.Correction quiet c = grind (arith, both_ways, changes_adjustment, eq-eqb)
leaves s front device t state cause whys.SyncClique quiet c = c.0
leaves s front device t state cause whys.AsyncClique quiet c = c.0

-- ---- what calm records leave

abbrev after : DeviceId → State → Happening → State
after device old h = state_with device old h.note.body

from_integrating : (device : DeviceId) (h : Happening) → IsCalm device h.note.body → after device Integrating h ≡ Integrating
from_integrating device h is = elim (is Integrating) [ inl same ↦ same | inr same ↦ same ]

stays_integrating : (device : DeviceId) (ys : List Happening) → ((h : Happening) → IsIn h ys → IsCalm device h.note.body)
    → fold (after device) Integrating ys ≡ Integrating
stays_integrating device [] each = refl
stays_integrating device (y ∷ ys) each =
    rw (from_integrating device y (each y (inl refl))) (stays_integrating device ys (λ h i. each h (inr i)))

stays_or_leaves : (device : DeviceId) (old : State) (ys : List Happening) → ((h : Happening) → IsIn h ys → IsCalm device h.note.body)
    → (fold (after device) old ys ≡ old) ⊎ (fold (after device) old ys ≡ Integrating)
stays_or_leaves device old [] each = inl refl
stays_or_leaves device old (y ∷ ys) each = grind (arith, fold, stays_integrating, (stays_or_leaves device old ys (λ h i. each h (inr i))))

-- ---- in a run no correction point is passed without a record, so an audit and a run have the same records due

-- ---- in a run no device passes a correction point without a record, but a joiner that of the cycle by whose frame it
-- joined.

-- ---- events

any_in : {X : Type 0} (p : X → Bool) (xs : List X) → list_any p xs ≡ true → (x : X) × (i : ℕ) × (slice_get xs i ≡ Some x) × (p x ≡ true)
any_in p [] e = absurd cc
any_in {X} p (x ∷ xs) e = elim (p x) as (λ b. p x ≡ b → (b || list_any p xs) ≡ true → (y : X) × (i : ℕ) × (slice_get (x ∷ xs) i ≡ Some y) × (p y ≡ true)) [
  | true ↦ λ here all. (x, 0, refl, here)
  | false ↦ λ here all. let more = any_in p xs all in (more.0, suc more.1, more.2, more.3)
] refl e

-- ---- lists

filtered : {X : Type 0} (p q : X → Bool) (xs : List X) → ((x : X) → p x ≡ true → q x ≡ true) → filter p (filter q xs) ≡ filter p xs
filtered p q [] weaker = refl
filtered {X} p q (x ∷ xs) weaker = grind (arith, cases_Bool, filter, (filtered p q xs weaker))

pub earlier_of_up : (u : ℕ) (hs : List Happening) → earlier u (up_to u hs) ≡ earlier u hs
earlier_of_up u hs = filtered (λ h. nat_lt (time_of h) u) (λ h. nat_le (time_of h) u) hs
    (λ h lt. let low = ltb-true (time_of h) u lt in le-leb (time_of h) u (omega arith))

-- ---- where a device stands, by what the records leave

-- when the device's adjustment last changed
abbrev pub last_changed : List Happening → DeviceId → ℕ
last_changed es device = option_map_or time_of (last_or None (filter (λ h. changes_adjustment device h.note.body) es)) 0

-- how many correction points the clock comes to from the first on, by the adjustment since the change
abbrev pub come_of : Scenario → DeviceId → ℤ → Units → ℕ → ℕ → ℕ
come_of s device first adjustment changed by =
    let shown = pos (s.reading device (by - 1)) +ℤ adjustment.0 in
    if int_lt (pos (s.reading device changed) +ℤ adjustment.0) first && int_le first shown
    then natural (int_div_euclid (shown -ℤ first) s.network.cycle.0) + 1
    else 0

-- what some records leave is what others do
pub record LeavesSame (s : Scenario) (device : DeviceId) (es gs : List Happening) : Type 0 where
  pub state : state_after s es device ≡ state_after s gs device
  pub adjustment : adjustment_after s es device ≡ adjustment_after s gs device
  pub number : recorded_cycle es device ≡ recorded_cycle gs device
  pub integrated : integration_cycle es device ≡ integration_cycle gs device
  pub changed : last_changed es device ≡ last_changed gs device

-- the standing of a device that is not just turned on
abbrev pub standing_of : Scenario → DeviceId → ℕ → List Happening → Standing
standing_of s device u gs = record {
  plan = plan_of s.network device;
  state = state_after s gs device;
  adjustment = adjustment_after s gs device;
  number = recorded_cycle gs device
      + come_of s device (correction_value s.network (recorded_cycle gs device)) (adjustment_after s gs device) (last_changed gs device) u;
  integrated = integration_cycle gs device;
}

abbrev stood : Scenario → DeviceId → ℕ → State → Units → ℕ → Option ℕ → ℕ → Standing
stood s device u state adjustment number integrated changed = record {
  plan = plan_of s.network device;
  state = state;
  adjustment = adjustment;
  number = number + come_of s device (correction_value s.network number) adjustment changed u;
  integrated = integrated;
}

pub stands_same : {s : Scenario} {device : DeviceId} (u : ℕ) (hs : List Happening) {gs : List Happening}
    → LeavesSame s device (earlier u hs) gs → is_turned_on_at s device u ≡ false
    → standing_at s hs device u ≡ standing_of s device u gs
stands_same u hs same off = grind (arith, earlier, state_after, adjustment_after, recorded_cycle, integration_cycle)

reaches_same : {s : Scenario} {device : DeviceId} (u : ℕ) (v : ℤ) (hs : List Happening) {gs : List Happening}
    → LeavesSame s device (earlier u hs) gs
    → (pos (s.reading device (last_changed gs device)) +ℤ (adjustment_after s gs device).0) <ℤ v
    → IsReach (s.reading device) (pos (last_changed gs device)) (v -ℤ (adjustment_after s gs device).0) (pos u)
    → Reaches s hs device v u
reaches_same u v hs same below reach = grind (arith, adjustment_after, earlier)

-- ---- verdicts

timed_point : (state : State) (n : ℕ) → IsTimed state → point_in state n ≡ Some n
timed_point Off n is = absurd is
timed_point Integrating n is = absurd is
timed_point Joining n is = refl
timed_point Synchronised n is = refl

set_state : (device other : DeviceId) (state old : State) (cause : ℕ) (why : Why) → other ≡ device → state ≡ Integrating
    → state_with device old (notes.State other state cause why) ≡ Integrating
set_state device other state old cause why e is =
    rw (eq-eqb device.0 other.0 (rw (sym e))) is

-- the next correction point is that of the cycle by whose frame the device joined, and up to the time its clock has not
-- come to a further one
record PassesOne (s : Scenario) (gs : List Happening) (device : DeviceId) (until : ℕ) : Type 0 where
  joined : integration_cycle gs device ≡ Some (recorded_cycle gs device)
  no_further : (pos (s.reading device until) +ℤ (adjustment_after s gs device).0)
      <ℤ (correction_value s.network (recorded_cycle gs device) +ℤ s.network.cycle.0)

-- ---- a device that has a correction point, in a run

module _ (s : Scenario) (clocked : IsClocked s) (gs : List Happening) (device : DeviceId) (until : ℕ) (run : IsRun place_of (IsDue s) ((until + 1) ∷ []) gs)
    (timed : IsTimed (state_after s gs device)) (correct : is_broken s device (until + 1) ≡ false) where
  abbrev changed : ℕ
  changed = last_changed gs device

  quiet : (h : Happening) → IsIn h gs → changed < time_of h → changes_adjustment device h.note.body ≡ false
  quiet h i late = false_from_ne_true (changes_adjustment device h.note.body) (λ e.
      let low = no_later (λ x. changes_adjustment device x.note.body) gs h (sorted (IsDue s) gs run.founded) i e in
      omega arith)

  -- a state that a later record says of the device is integrating
  says : (x : Happening) → IsIn x gs → changed < time_of x → SaysIntegrating device x.note.body
  says x i late =
      let at = founded_at s gs x run.founded i in
      by at.front (λ h cause there same. quiet h (subst (IsIn h) (sym at.whole) (in_left h at.front (x ∷ at.rest) (numbered_in at.front cause h there)))
      (rw same late)) x.note.body at.due.cause
    where
      by : (front : List Happening)
          → ((h : Happening) (cause : ℕ) → numbered front cause ≡ Some h → time_of h ≡ time_of x → changes_adjustment device h.note.body ≡ false)
          → (body : NoteBody) → IsCaused s front x.note.time body → SaysIntegrating device body
      by front calm_there (notes.State other state cause why) c = λ ids.
          let devices : other ≡ device = rw (sym ids) in
          leaves s front device (time_of x) state cause why (λ h there same. calm_there h cause there same)
          (rw devices at c)
      by front calm_there body c = tt

  calm_later : (x : Happening) → IsIn x gs → changed < time_of x → IsCalm device x.note.body
  calm_later x i late = calm device x.note.body (quiet x i late) (says x i late)

  abbrev leave : State → Happening → State
  leave old h = state_with device old h.note.body

  -- no later record leaves the device integrating
  never_left : (x : Happening) → IsIn x gs → changed < time_of x → ((old : State) → state_with device old x.note.body ≡ Integrating) → ⊥
  never_left x i late sets =
      let at = parted x gs i in
      let start = state_after s [] device in
      let here = sets (fold leave start at.0) in
      let rest = stays_integrating device at.1 (λ h j.
      let in_all : IsIn h gs = subst (IsIn h) (sym at.2) (in_right h at.0 (x ∷ at.1) (inr j)) in
      let order = in_time x h (behind_first place_of (IsDue s) at.0 at.1 x h (subst (IsFounded place_of (IsDue s)) at.2 run.founded) j) in
      calm_later h in_all (omega arith)) in
      let ends : state_after s gs device ≡ Integrating = ap (fold leave start) at.2
      ∙ fold_parts leave start at.0 (x ∷ at.1)
      ∙ ap (λ u. fold leave u at.1) here
      ∙ rest in
      subst IsTimed ends timed

  no_clique : (x : Happening) → IsIn x gs → changed < time_of x → (other : DeviceId) (state : State) (cause : ℕ) (why : Why)
      → x.note.body ≡ notes.State other state cause why → other ≡ device → ⊥
  no_clique x i late other state cause why is e =
      let integrating = subst (SaysIntegrating device) is (says x i late) (rw (sym e)) in
      never_left x i late (λ old. ap (state_with device old) is ∙ set_state device other state old cause why e integrating)

  -- what the records before a later time leave is what all do
  same_before : (u : ℕ) → changed < u → LeavesSame s device (earlier u gs) gs
  same_before u late =
      let cut = cut_at (IsDue s) gs u run.founded in
      let behind : (h : Happening) → IsIn h cut.rest → IsIn h gs = λ h i. subst (IsIn h) (sym cut.whole) (in_right h cut.front cut.rest i) in
      let after : (h : Happening) → IsIn h cut.rest → changed < time_of h = λ h i. let l = cut.later h i in
      omega arith in
      let still : (h : Happening) → IsIn h cut.rest → changes_adjustment device h.note.body ≡ false = λ h i. quiet h (behind h i) (after h i) in
      let start = state_after s [] device in
      let set : Happening → Bool = λ h. changes_adjustment device h.note.body in
      let state : state_after s cut.front device ≡ state_after s gs device = elim (stays_or_leaves device (state_after s cut.front device) cut.rest (λ h i.
      calm_later h (behind h i) (after h i))) [
        | inl same ↦ sym (ap (fold leave start) cut.whole ∙ fold_parts leave start cut.front cut.rest ∙ same)
        | inr left ↦ absurd (subst IsTimed (ap (fold leave start) cut.whole ∙ fold_parts leave start cut.front cut.rest ∙ left) timed)
      ] in
      record {
        state = rw cut.same state;
        adjustment = ap (λ es. adjustment_after s es device) cut.same
            ∙ sym (ap (λ es. adjustment_after s es device) cut.whole
            ∙ stays _ (adjustment_after s [] device) cut.front cut.rest (λ b h i. adjustment_kept s device (cycle_in h) b h.note.body (still h i)));
        number = ap (λ es. recorded_cycle es device) cut.same
            ∙ sym (ap (λ es. recorded_cycle es device) cut.whole
            ∙ stays _ 1 cut.front cut.rest (λ b h i. cycle_stays device b h h.note.body (still h i)));
        integrated = ap (λ es. integration_cycle es device) cut.same
            ∙ sym (ap (λ es. integration_cycle es device) cut.whole
            ∙ stays _ None cut.front cut.rest
            (λ b h i. rw (not_joined device h.note.body (still h i))));
        changed = ap (λ es. last_changed es device) cut.same
            ∙ sym (ap (λ es. last_changed es device) cut.whole
            ∙ ap (λ es. option_map_or time_of (last_or None es) 0) (filter-append set cut.front cut.rest
            ∙ ap (λ es. filter set cut.front ++ es) (none_kept set cut.rest still)
            ∙ append-nil (filter set cut.front)));
      }

  same_up_to : (u : ℕ) → changed < u → LeavesSame s device (earlier u (up_to u gs)) gs
  same_up_to u late = rw (earlier_of_up u gs) (same_before u late)

  -- what is owed is paid
  paid : (o : Debt) → IsOwed s gs until o → IsPaid gs (Pays s) o
  paid o owed = (debt_law s gs until (sound_of_run place_of (IsDue s) run)).run.0 run o owed

  -- the device is not turned on later
  not_turned_on : (u : ℕ) → changed < u → u ≤ until → is_turned_on_at s device u ≡ false
  not_turned_on u late le = false_from_ne_true (is_turned_on_at s device u) (λ e.
      let found = any_in (λ x. turns_on device x.what && amount x.time == u) s.events e in
      let event = found.0 in
      let both = and_parts (turns_on device event.what) (amount event.time == u) found.3 in
      let at = eqb-true (amount event.time) u both.1 in
      let owed : OwesEvent s until (found.1 + 1) = record {
        before = found.1;
        line_is = refl;
        event = event;
        is = found.2;
        begun = clocked.begun event (in_at s.events found.1 event found.2);
        timely = omega arith;
      } in
      let told = paid (debts.event (found.1 + 1)) owed in
      of_event event found.1 found.2 (turned device event.what both.0) at told.0 told.1 told.0.note.body (refl) told.2)
    where
      brings : (front rest : List Happening) (cause line : ℕ) (x y : Happening) → gs ≡ front ++ rest → numbered gs cause ≡ Some x
          → x.note.body ≡ notes.Event line (On device) → (t : ℕ) (other : DeviceId) (state : State) (why : Why) → ChangesState s front other t state cause why
          → (other ≡ device) × (t ≡ time_of x) × (state ≡ Integrating)
      brings front rest cause line x y whole there is t other state whys.On c =
          let here = same_some (numbered gs cause) c.2.1 x (rw whole
          (numbered_front front rest cause c.2.1 c.2.2.there)) there in
          let bodies = sym c.2.3 ∙ ap (λ h. h.note.body) here ∙ is in
          (cc, sym c.2.2.same_time ∙ ap time_of here, c.0)
      brings front rest cause line x y whole there is t other state whys.Frame c =
          let here = same_some (numbered gs cause) c.1.0 x (rw whole
          (numbered_front front rest cause c.1.0 c.1.1.there)) there in
          absurd cc
      brings front rest cause line x y whole there is t other state whys.Correction c =
          let here = same_some (numbered gs cause) c.2.3 x (rw whole
          (numbered_front front rest cause c.2.3 c.2.4.there)) there in
          let bodies = sym c.2.5 ∙ ap (λ h. h.note.body) here ∙ is in
          absurd cc
      brings front rest cause line x y whole there is t other state whys.SyncClique c =
          let none : numbered gs 0 ≡ Some x = rw c.1 at there in absurd cc
      brings front rest cause line x y whole there is t other state whys.AsyncClique c =
          absurd cc

      said : (cause line : ℕ) (x y : Happening) → numbered gs cause ≡ Some x → time_of x ≡ u → x.note.body ≡ notes.Event line (On device) → IsIn y gs
          → (body : NoteBody) → y.note.body ≡ body → TellsChange cause body → ⊥
      said cause line x y there at is i (notes.State other state from why) of pays =
          let by = founded_at s gs y run.founded i in
          let c = rw pays at (subst (IsCaused s by.front y.note.time) of by.due.cause) in
          let b = brings by.front (y ∷ by.rest) cause line x y by.whole there is (time_of y) other state why c in
          never_left y i (omega (arith, b.1)) (λ old. ap (state_with device old) of ∙ set_state device other state old
          from why b.0 b.2)
      said cause line x y there at is i body of pays = absurd pays

      of_event : (event : Event) (i : ℕ) → slice_get s.events i ≡ Some event → event.what ≡ On device → amount event.time ≡ u → (x : Happening) → IsIn x gs
          → (body : NoteBody) → x.note.body ≡ body → TellsEvent (i + 1) body → ⊥
      of_event event i there what_is at x inside (notes.Event line what) is pays =
          let by = founded_at s gs x run.founded inside in
          let c : IsEventRecord s.events x.note.time line what = subst (IsCaused s by.front x.note.time) is by.due.cause in
          let places : c.before ≡ i = omega (arith, c.line_is) in
          let same = same_some (slice_get s.events i) c.event event (rw places at c.is)
          there in
          let now : time_of x ≡ u = ap amount (c.at ∙ ap (λ v. v.time) same) ∙ at in
          let turns = c.same ∙ ap (λ v. v.what) same ∙ what_is in
          let body_is = is ∙ ap (λ w. notes.Event line w) turns in
          let number = by_number s gs x run.founded inside in
          let owed : OwesChange s gs until x.note.number = record {
            device = device;
            time = u;
            state = Integrating;
            why = whys.On;
            brought = tt;
            changes = (
              refl,
              correct_before s device u (until + 1) (omega arith) correct,
              (line, x, record { there = number; same_time = now }, body_is),
            );
            timely = le;
          } in
          let told = paid (debts.change x.note.number) owed in
          said x.note.number line x told.0 number now body_is told.1 told.0.note.body (refl) told.2
      of_event event i there what_is at x inside body is pays = absurd pays

  -- no later record is of a correction point
  no_point : (x : Happening) → IsIn x gs → changed < time_of x → (body : NoteBody) → x.note.body ≡ body → IsPointOf device body → ⊥
  no_point x i late (notes.Corrected other cycle by adjustment) is e =
      both_ways (changes_adjustment device x.note.body) (quiet x i late)
      (ap (changes_adjustment device) is ∙ eq-eqb device.0 other.0 (rw (sym e)))
  no_point x i late (notes.State other state cause whys.SyncClique) is e = no_clique x i late other state cause whys.SyncClique is e
  no_point x i late (notes.State other state cause whys.AsyncClique) is e = no_clique x i late other state cause whys.AsyncClique is e
  no_point x i late body is e = absurd e

  -- what comes at a later correction point, by the adjustment since the change, is only a joiner's clearing
  only_clears : (u m : ℕ) → changed < u → u ≤ until → (pos (s.reading device changed) +ℤ (adjustment_after s gs device).0) <ℤ correction_value s.network m
      → IsReach (s.reading device) (pos changed) (correction_value s.network m -ℤ (adjustment_after s gs device).0) (pos u)
      → (standing_of s device u gs).number ≡ m → IsAtIntegration (standing_of s device u gs)
  only_clears u m late le below reach number = elim (at_integration st) [
    | inl is ↦ is
    | inr not ↦ elim (verdict_of st summary.0 not) [
      | inl by ↦ absurd (wrong (Corrected by.0) by.1 (λ e. cc))
      | inr (inl has) ↦ absurd (wrong SyncClique has (λ e. cc))
      | inr (inr has) ↦ absurd (wrong AsyncClique has (λ e. cc))
    ]
  ]
    where
      st : Standing
      st = standing_of s device u gs

      same : LeavesSame s device (earlier u (up_to u gs)) gs
      same = same_up_to u late

      stands : standing_at s (up_to u gs) device u ≡ st
      stands = stands_same u (up_to u gs) same (not_turned_on u late le)

      summary : (m : Summary) × Summarizes m (heard_since_point s (up_to u gs) device u)
      summary = summary_of (heard_since_point s (up_to u gs) device u)

      wrong : (v : Verdict) → HasVerdict st summary.0 v → (v ≡ Cleared → ⊥) → ⊥
      wrong v has more =
          let point = timed_point (state_after s gs device) st.number timed ∙ ap (λ n. Some n) number in
          let comes : ComesToPoint s (up_to u gs) device u m v = record {
            next = subst (λ x. next_point x ≡ Some m) (sym stands) point;
            reached = reaches_same u (correction_value s.network m) (up_to u gs) same below reach;
            correct = correct_before s device u (until + 1) (omega arith) correct;
            summary = summary.0;
            heard = summary.1;
            comes = rw stands has;
          } in
          let owed : OwesPoint s gs until device u = record { cycle = m; verdict = v; comes = comes; more = more; timely = le } in
          let told = paid (debts.point device u) owed in
          let at = told.2.at in
          no_point told.0 told.1 (omega arith) told.0.note.body refl told.2.of_point

  -- ---- the first point, and none behind it

  abbrev reading : ℕ → ℕ
  reading = s.reading device

  abbrev first : ℤ
  first = correction_value s.network (recorded_cycle gs device)

  abbrev shown : ℕ → ℤ
  shown u = pos (reading u) +ℤ (adjustment_after s gs device).0

  rises : (u v : ℕ) → u ≤ v → reading u ≤ reading v
  rises u v le = (clocked.clocks device).never_falls u v le

  abbrev come : ℕ → ℕ
  come by = come_of s device first (adjustment_after s gs device) changed by

  long_cycle : pos (2 ^ 32) ≤ℤ s.network.cycle.0
  long_cycle = clocked.range.cycle.least

  -- the clock goes on by less than a cycle in one unit
  goes_on : (u : ℕ) → shown (u + 1) <ℤ (shown u +ℤ s.network.cycle.0)
  goes_on u =
      let range = clocked.range in
      let fine = small s.network.grain.0 range.grain.least range.grain.most in
      let short = short_step u range.rho fine (clocked.clocks device) in
      let long = long_cycle in
      omega (arith, ints)
    where
      small : (g : ℤ) → pos 1 ≤ℤ g → g ≤ℤ pos 1048576 → unsigned_abs g ≤ 1048576
      small (pos n) least most = omega (arith, ints)
      small (negsuc n) least most = absurd (omega (arith, ints))

  -- the first point comes at some time
  record ComesFirst (by : ℕ) : Type 0 where
    time : ℕ
    within : time ≤ by
    late : changed < time
    enough : first ≤ℤ shown time
    not_before : (u : ℕ) → changed ≤ u → u < time → shown u <ℤ first
    clears : IsAtIntegration (standing_of s device time gs)
    number : (standing_of s device time gs).number ≡ recorded_cycle gs device

  abbrev has_come : ℕ → Bool
  has_come by = int_lt (shown changed) first && int_le first (shown (by - 1))

  abbrev further : ℕ → ℕ
  further by = natural (int_div_euclid (shown (by - 1) -ℤ first) s.network.cycle.0) + 1

  come_none : (by : ℕ) → shown (by - 1) <ℤ first → come by ≡ 0
  come_none by short =
      let off = false_from_ne_true (has_come by) (λ e.
      let reached = int_le-is first (shown (by - 1)) (and_parts (int_lt (shown changed) first) (int_le first (shown (by - 1))) e).1 in
      omega (arith, ints)) in
      rw off

  come_one : (by : ℕ) → shown changed <ℤ first → first ≤ℤ shown (by - 1) → shown (by - 1) <ℤ (first +ℤ s.network.cycle.0) → come by ≡ 1
  come_one by below reached short =
      let on = and_from (int_lt (shown changed) first) (int_le first (shown (by - 1))) (int_lt-from (shown changed) first below)
      (int_le-from first (shown (by - 1)) reached) in
      let none = none_more (shown (by - 1) -ℤ first) s.network.cycle.0 (omega (arith, ints)) (omega (arith, ints)) in
      rw on (ap (λ n. n + 1) none)

  came_since : first ≤ℤ shown until → shown changed <ℤ first → changed ≤ until
  came_since reached below = elim (cases_lt until changed) [
    | inl lt ↦ let up = rises until changed (omega arith) in absurd (omega (arith, ints))
    | inr ge ↦ ge
  ]

  first_comes : shown changed <ℤ first → first ≤ℤ shown until → ComesFirst until
  first_comes below reached =
      let r = reached_by reading rises changed (first -ℤ (adjustment_after s gs device).0) until
      (came_since reached below) (omega (arith, ints)) in
      let there = r.reach.reached in
      let late : changed < r.time = elim (cases_lt changed r.time) [
        | inl lt ↦ lt
        | inr ge ↦ let up = rises r.time changed ge in absurd (omega (arith, ints))
      ] in
      let before : (u : ℕ) → changed ≤ u → u < r.time → shown u <ℤ first = λ u from lt.
      let low = r.reach.not_before u (omega (arith, ints)) (omega (arith, ints)) in omega (arith, ints) in
      let none = come_none r.time (before (r.time - 1) (omega arith) (omega arith)) in
      let number : recorded_cycle gs device + come r.time ≡ recorded_cycle gs device = omega arith in
      record {
        time = r.time;
        within = r.within;
        late = late;
        enough = omega (arith, ints);
        not_before = before;
        clears = only_clears r.time (recorded_cycle gs device) late r.within below r.reach number;
        number = number;
      }

  -- the value of the next correction point is a cycle further
  next_value : correction_value s.network (recorded_cycle gs device + 1) ≡ first +ℤ s.network.cycle.0
  next_value = by s.network.cycle.0 long_cycle
    where
      by : (c : ℤ) → pos (2 ^ 32) ≤ℤ c → pos ((recorded_cycle gs device + 1) * unsigned_abs c + amount s.network.correction)
          ≡ pos (recorded_cycle gs device * unsigned_abs c + amount s.network.correction) +ℤ c
      by (pos c) long = omega (arith, ints)
      by (negsuc c) long = absurd (omega (arith, ints))

  -- the clock has come to one point at the most, which is the one at which the joiner clears
  passes_one : shown changed <ℤ first → first ≤ℤ shown until → PassesOne s gs device until
  passes_one below reached = record { joined = joined; no_further = by_lt_z (shown until) (first +ℤ s.network.cycle.0) (λ lt. lt) (λ ge. absurd (second ge)) }
    where
      f : ComesFirst until
      f = first_comes below reached

      joined : integration_cycle gs device ≡ Some (recorded_cycle gs device)
      joined = f.clears.cycle ∙ ap (λ n. Some n) f.number

      -- when the first comes, the clock is not yet a cycle further
      at_first : shown f.time <ℤ (first +ℤ s.network.cycle.0)
      at_first =
          let same : (f.time - 1) + 1 ≡ f.time = (let l = f.late in omega arith) in
          let on = rw same at (goes_on (f.time - 1)) in
          let low = f.not_before (f.time - 1) (let l = f.late in omega arith) (let l = f.late in omega arith) in
          omega (arith, ints)

      second : (first +ℤ s.network.cycle.0) ≤ℤ shown until → ⊥
      second ge =
          let n = recorded_cycle gs device in
          let value = correction_value s.network (n + 1) in
          let long = long_cycle in
          let r = reached_by reading rises changed (value -ℤ (adjustment_after s gs device).0) until (came_since reached below)
          (omega (arith, ints, next_value)) in
          let there = r.reach.reached in
          let early = at_first in
          let later : f.time < r.time = elim (cases_lt f.time r.time) [
            | inl lt ↦ lt
            | inr more ↦ let up = rises r.time f.time more in absurd (omega (arith, ints, next_value))
          ] in
          let late : changed < r.time = (let l = f.late in omega arith) in
          let low = r.reach.not_before (r.time - 1) (omega (arith, ints)) (omega (arith, ints)) in
          let up = rises f.time (r.time - 1) (omega arith) in
          let enough = f.enough in
          let one = come_one r.time below (omega (arith, ints)) (omega (arith, ints, next_value)) in
          let number : n + come r.time ≡ n + 1 = omega arith in
          let clears = only_clears r.time (n + 1) late r.within (omega (arith, ints, next_value)) r.reach number in
          let cycles = same_some (integration_cycle gs device) n (n + 1) joined
          (clears.cycle ∙ ap (λ k. Some k) number) in
          omega arith

  -- so it has come to one point where a joiner has cleared, and else to none
  counts : (by : ℕ) → by ≤ until + 1 → come by ≡ (if is_integration_cycle gs device && has_come by then 1 else 0)
  counts by le = elim (cases_Bool (has_come by)) [
    | inr none ↦
        let not_cleared = and_right (is_integration_cycle gs device) (has_come by) none in
        ap (λ b. if b then further by else 0) none ∙ sym (ap (λ b. if b then 1 else 0) not_cleared)
    | inl has ↦
        let both = and_parts (int_lt (shown changed) first) (int_le first (shown (by - 1))) has in
        let below = int_lt-is (shown changed) first both.0 in
        let reached = int_le-is first (shown (by - 1)) both.1 in
        let up = rises (by - 1) until (omega arith) in
        let p = passes_one below (omega (arith, ints)) in
        let short = p.no_further in
        let one = come_one by below reached (omega (arith, ints)) in
        let n = recorded_cycle gs device in
        let joins : is_integration_cycle gs device ≡ true = rw p.joined (eq-eqb n n refl) in
        one ∙ sym (rw (and_from (is_integration_cycle gs device) (has_come by) joins has))
  ]

-- before the first time no clock has come to a point
none_at_start : {s : Scenario} (clocked : IsClocked s) (gs : List Happening) (device : DeviceId) (by : ℕ)
    → by ≤ 0 → (first : ℤ) →
    (int_lt (pos (s.reading device (last_changed gs device)) +ℤ (adjustment_after s gs device).0) first && int_le
    first (pos (s.reading device (by - 1)) +ℤ (adjustment_after s gs device).0)) ≡ false
none_at_start {s} clocked gs device by le first =
    let changed = last_changed gs device in
    let low = pos (s.reading device changed) +ℤ (adjustment_after s gs device).0 in
    let high = pos (s.reading device (by - 1)) +ℤ (adjustment_after s gs device).0 in
    false_from_ne_true (int_lt low first && int_le first high) (λ e.
    let both = and_parts (int_lt low first) (int_le first high) e in
    let below = int_lt-is low first both.0 in
    let reached = int_le-is first high both.1 in
    let up = (clocked.clocks device).never_falls (by - 1) changed (omega arith) in
    omega (arith, ints))

-- ---- behind a run an audit and a run have the same records due

-- ---- how many points have come

-- a run counts the one at which a joiner has cleared, and no other
counted : {s : Scenario} (clocked : IsClocked s) (t : ℕ) {gs : List Happening} (device : DeviceId)
    → IsRun place_of (IsDue s) (t ∷ []) gs → IsTimed (state_after s gs device) → is_broken s device t ≡ false
    → (by : ℕ) → by ≤ t → come_of s device (correction_value s.network (recorded_cycle gs device))
    (adjustment_after s gs device) (last_changed gs device) by ≡
    (if is_integration_cycle gs device && (int_lt (pos (s.reading device (last_changed gs device)) +ℤ
    (adjustment_after s gs device).0) (correction_value s.network (recorded_cycle gs device)) && int_le
    (correction_value s.network (recorded_cycle gs device)) (pos (s.reading device (by - 1)) +ℤ (adjustment_after s
    gs device).0)) then 1 else 0)
counted {s} clocked zero {gs} device run timed correct by le =
    let first = correction_value s.network (recorded_cycle gs device) in
    let shown : ℕ → ℤ = λ u. pos (s.reading device u) +ℤ (adjustment_after s gs device).0 in
    let come = int_lt (shown (last_changed gs device)) first && int_le first (shown (by - 1)) in
    let none = none_at_start clocked gs device by le first in
    ap (λ b. if b then natural (int_div_euclid (shown (by - 1) -ℤ first) s.network.cycle.0) + 1 else 0) none
    ∙ sym (ap (λ b. if b then 1 else 0) (and_right (is_integration_cycle gs device) come none))
counted {s} clocked (suc until) {gs} device run timed correct by le =
    let same : suc until ≡ until + 1 = omega arith in
    counts s clocked gs device until (rw same at run) timed
    (rw same at correct) by (omega arith)

-- ---- states

timed_at : (state : State) (n cycle : ℕ) → point_in state n ≡ Some cycle → IsTimed state
timed_at Off n cycle e = absurd cc
timed_at Integrating n cycle e = absurd cc
timed_at Joining n cycle e = tt
timed_at Synchronised n cycle e = tt

left_timed : (b : Bool) (state : State) → IsTimed (if b then Integrating else state) → IsTimed state
left_timed true state is = absurd is
left_timed false state is = is

number_by : (b : Bool) (n : ℕ) → n + (if b then 1 else 0) ≡ (if b then n + 1 else n)
number_by true n = refl
number_by false n = omega arith

-- what is kept of what was heard, by the one count or the other
kept_by : (now then_ : Bool) → (then_ ≡ true → now ≡ true) → ((if now then 1 else 0) == (if then_ then 1 else 0)) ≡ (not now || then_)
kept_by true true up = refl
kept_by true false up = refl
kept_by false true up = absurd (let e = up refl in cc)
kept_by false false up = refl

-- ---- a correction point

module _ (s : Scenario) (clocked : IsClocked s) (ps : List Happening) (t : ℕ) (run : IsRun place_of (IsDue s) (t ∷ []) (earlier t ps))
    (up_to_now : (h : Happening) → IsIn h ps → time_of h ≤ t) where
  module _ (device : DeviceId) (timed : IsTimed (state_after s (earlier t ps) device)) (correct : is_broken s device t ≡ false) where
    count : (by : ℕ) → by ≤ t → points_come s ps device t by ≡ (if has_cleared s ps device t by then 1 else 0)
    count by le = counted clocked t device run timed correct by le

    same_standing : standing_at s ps device t ≡ standing_before s ps device t
    same_standing =
        let n = recorded_cycle (earlier t ps) device in
        ap (λ k. let st : Standing = record {
          plan = plan_of s.network device;
          state = state_before s ps device t;
          adjustment = adjustment_before s ps device t;
          number = k;
          integrated = integration_cycle (earlier t ps) device;
        } in st) (ap (λ k. n + k) (count t (omega arith)) ∙ number_by (has_cleared s ps device t t) n)

    -- what has been cleared stays so
    cleared_up : (by : ℕ) → by ≤ t → has_cleared s ps device t by ≡ true → has_cleared s ps device t t ≡ true
    cleared_up by le e =
        let first = correction_value s.network (recorded_cycle (earlier t ps) device) in
        let a = (adjustment_before s ps device t).0 in
        let low = pos (s.reading device (last_changed (earlier t ps) device)) +ℤ a in
        let shown : ℕ → ℤ = λ u. pos (s.reading device u) +ℤ a in
        let outer = and_parts (is_integration_cycle (earlier t ps) device) (had_come s ps device first t by) e in
        let inner = and_parts (int_lt low first) (int_le first (shown (by - 1))) outer.1 in
        let reached = int_le-is first (shown (by - 1)) inner.1 in
        let up = (clocked.clocks device).never_falls (by - 1) (t - 1) (omega arith) in
        and_from (is_integration_cycle (earlier t ps) device) (had_come s ps device first t t) outer.0
        (and_from (int_lt low first) (int_le first (shown (t - 1))) inner.0
        (int_le-from first (shown (t - 1)) (omega (arith, ints))))

    same_heard : heard_since_point s ps device t ≡ heard_since s ps device t
    same_heard =
        let set : Happening → Bool = λ h. nat_lt (time_of h) t && changes_adjustment device h.note.body in
        let now = has_cleared s ps device t t in
        ap (filter_map (λ h. hearing_by s.network device h h.note.body)) (same_kept (λ h. points_come s ps device t t == points_come s ps device t (time_of h))
        (λ h. not now || has_cleared s ps device t (time_of h)) (after_last set ps) (λ h i.
        let le = up_to_now h (in_behind set ps h i) in
        rw (count t (omega arith))
        (ap (λ k. (if now then 1 else 0) == k) (count (time_of h) le)
        ∙ kept_by now (has_cleared s ps device t (time_of h)) (cleared_up (time_of h) le))))

  timed_before : (device : DeviceId) (n cycle : ℕ) → point_in (state_before s ps device t) n ≡ Some cycle → IsTimed (state_after s (earlier t ps) device)
  timed_before device n cycle e =
      left_timed (is_turned_on_at s device t) (state_after s (earlier t ps) device) (timed_at (state_before s ps device t) n cycle e)

  comes_in_run : (device : DeviceId) (cycle : ℕ) (v : Verdict) → ComesToPoint s ps device t cycle v → ComesToCorrection s ps device t cycle v
  comes_in_run device cycle v c =
      let timed = timed_before device (standing_at s ps device t).number cycle c.next in
      let standing = same_standing device timed c.correct in
      record {
        next = subst (λ st. next_point st ≡ Some cycle) standing c.next;
        reached = c.reached;
        correct = c.correct;
        summary = c.summary;
        heard = subst (Summarizes c.summary) (same_heard device timed c.correct) c.heard;
        comes = rw standing at c.comes;
      }

  comes_in_audit : (device : DeviceId) (cycle : ℕ) (v : Verdict) → ComesToCorrection s ps device t cycle v → ComesToPoint s ps device t cycle v
  comes_in_audit device cycle v c =
      let timed = timed_before device (standing_before s ps device t).number cycle c.next in
      let standing = sym (same_standing device timed c.correct) in
      record {
        next = subst (λ st. next_point st ≡ Some cycle) standing c.next;
        reached = c.reached;
        correct = c.correct;
        summary = c.summary;
        heard = subst (Summarizes c.summary) (sym (same_heard device timed c.correct)) c.heard;
        comes = rw standing at c.comes;
      }

-- ---- what is due

module _ {s : Scenario} (clocked : IsClocked s) (ps : List Happening) (time : Units)
    (run : IsRun place_of (IsDue s) (amount time ∷ []) (earlier (amount time) ps))
    (up : ((h : Happening) → IsIn h ps → time_of h ≤ amount time)) where
  -- what is caused in an audit is in a run
  to_run : (body : NoteBody) → IsCaused s ps time body → runs.IsCaused s ps time body
  to_run (notes.Corrected device cycle by adjustment) c =
      record { corrected = comes_in_run s clocked ps (amount time) run up device cycle _ c.corrected; sum = c.sum }
  to_run (notes.State device state cause whys.SyncClique) c =
      (c.0, c.1, (c.2.0, comes_in_run s clocked ps (amount time) run up device c.2.0 _ c.2.1))
  to_run (notes.State device state cause whys.AsyncClique) c =
      (c.0, c.1, (c.2.0, comes_in_run s clocked ps (amount time) run up device c.2.0 _ c.2.1))
  to_run (notes.State device state cause whys.On) c = c
  to_run (notes.State device state cause whys.Frame) c = c
  to_run (notes.State device state cause whys.Correction) c = c
  to_run body c = caused_in_run s ps time body tt c

  -- and what is in a run, is in an audit
  to_audit : (body : NoteBody) → runs.IsCaused s ps time body → IsCaused s ps time body
  to_audit (notes.Corrected device cycle by adjustment) c =
      record { corrected = comes_in_audit s clocked ps (amount time) run up device cycle _ c.corrected; sum = c.sum }
  to_audit (notes.State device state cause whys.SyncClique) c =
      (c.0, c.1, (c.2.0, comes_in_audit s clocked ps (amount time) run up device c.2.0 _ c.2.1))
  to_audit (notes.State device state cause whys.AsyncClique) c =
      (c.0, c.1, (c.2.0, comes_in_audit s clocked ps (amount time) run up device c.2.0 _ c.2.1))
  to_audit (notes.State device state cause whys.On) c = c
  to_audit (notes.State device state cause whys.Frame) c = c
  to_audit (notes.State device state cause whys.Correction) c = c
  to_audit body c = caused_in_audit s ps time body tt c

-- behind a run, what is due in one is due in the other
same_due : {s : Scenario} (clocked : IsClocked s) (ps : List Happening) (x : Happening)
    → IsRun place_of (IsDue s) (time_of x ∷ []) (earlier (time_of x) ps)
    → ((h : Happening) → IsIn h ps → time_of h ≤ time_of x)
    → (IsDue s ps x → runs.IsDue s ps x) × (runs.IsDue s ps x → IsDue s ps x)
same_due clocked ps x run up = grind (arith, to_run, to_audit)

-- ---- what is a run by what is due in an audit is one by what is due in a run, and the other way round

-- the part before a record's place has all records of earlier times
earlier_part : (hs ps qs : List Happening) (y : Happening) → hs ≡ ps ++ qs → NoneBefore place_of qs (place_of y)
    → earlier (time_of y) hs ≡ earlier (time_of y) ps
earlier_part hs ps qs y whole none = grind (arith, time_of, nat_lt, earlier, none_kept, cases_lt, le-ltb, filter-append, append-nil)

-- what is earlier in a run is the run up to then
earlier_run : (IsDueSo : List Happening → Happening → Type 0) {hs : List Happening} (ps qs : List Happening) (u : ℕ)
    (y : Happening) → IsRun place_of IsDueSo (u ∷ []) hs → time_of y ≤ u → hs ≡ ps ++ qs
    → NoneBefore place_of qs (place_of y) → IsRun place_of IsDueSo (time_of y ∷ []) (earlier (time_of y) ps)
earlier_run IsDueSo {hs} ps qs u y run le whole none =
    let cut = cut_at IsDueSo hs (time_of y) run.founded in
    subst (IsRun place_of IsDueSo (time_of y ∷ [])) (sym cut.same ∙ earlier_part hs ps qs y whole none)
    (run_before IsDueSo u le run cut)

up_to_now : (ps : List Happening) (y : Happening) → AllBefore place_of ps (place_of y) → (h : Happening) → IsIn h ps → time_of h ≤ time_of y
up_to_now ps y before h i = in_time h y (before h i)

-- a run of an audit is a run
in_run : {s : Scenario} (clocked : IsClocked s) {hs : List Happening} (u : ℕ) → IsRun place_of (IsDue s) (u ∷ []) hs
    → IsRun place_of (runs.IsDue s) (u ∷ []) hs
in_run {s} clocked {hs} u run =
    run_by (IsDue s) (runs.IsDue s) (λ ps qs y whole before none here.
    let lt = soon y u here in
    same_due clocked ps y (earlier_run (IsDue s) ps qs u y run (omega arith) whole none)
    (up_to_now ps y before)) run

-- and a run is one of an audit: up to each time, since it is so up to each earlier one
in_audit : {s : Scenario} (clocked : IsClocked s) (most u : ℕ) → u ≤ most → (hs : List Happening)
    → IsRun place_of (runs.IsDue s) (u ∷ []) hs → IsRun place_of (IsDue s) (u ∷ []) hs
in_audit {s} clocked zero u le hs run =
    run_by (runs.IsDue s) (IsDue s) (λ ps qs y whole before none here. let lt = soon y u
    here in absurd (omega arith)) run
in_audit {s} clocked (suc most) u le hs run =
    run_by (runs.IsDue s) (IsDue s) (λ ps qs y whole before none here.
    let lt = soon y u here in
    let front = in_audit clocked most (time_of y) (omega arith) (earlier (time_of y) ps)
    (earlier_run (runs.IsDue s) ps qs u y run (omega arith) whole none) in
    let same = same_due clocked ps y front (up_to_now ps y before) in
    (same.1, same.0)) run

pub same_runs : SameRuns
same_runs s hs until clocked =
    (λ run. in_audit clocked (until + 1) (until + 1) (omega arith) hs run, λ run. in_run clocked (until + 1) run)

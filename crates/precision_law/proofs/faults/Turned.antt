-- A device that has the common time is not just turned on.
use Rattle.run_law.proofs.{control.Verdicts.looking_by, scenario.Devices.on_by}
use Rattle.precision_law.proofs.words.Clocks.{Keeps, any_in, any_of_in, before_of, earlier_before, in_earlier, kept_by_all, kept_if, point_has_time}
use Rattle.precision_law.proofs.words.{Clocks.same_device, Plans.{Device, DeviceId, Event, Integrating, Joining, Off, State, amount, device_at, state_at_start}}
use Rattle.precision_law.proofs.words.{Laws.{AreBeforeCorrections, IsView, NoneTurnsOn, View, has_time, state_left}, Std.{true, zero, ℕ}}
use Rattle.precision_law.proofs.words.Runs.{ChangesState, Happening, Integrates, IsCaused, IsEventRecord, IsIn, NotOff, NoteBody, Scenario, TurnsOn, Why}
use Rattle.precision_law.proofs.words.Runs.{earlier, founded_at, in_at, in_left, in_parts, in_right, is_joined_by, is_off, is_turned_on_at, numbered_in, parted}
use Rattle.precision_law.proofs.words.Runs.{start_of, state_after, state_before, time_of, turns_on}
use Rattle.precision_law.proofs.words.Std.{◌++◌, ◌<◌, ◌==◌, ◌∙◌, ◌∷◌, ◌≡◌, ◌≤◌, Bool, IsNone, IsSomeAnd, List, None, Option, Some, and_parts, ap, append_assoc}
use Rattle.precision_law.proofs.words.Std.{arith, eqb-true, false, false_from_ne_true, if◌then◌else◌, inl, inr, not, option_and_then, refl, subst, suc, sym}
use Rattle.net_plan.specs.declared.event.What.TheVariants as events
use Rattle.run_law.specs.declared.judgement.Why.TheVariants as whys
use Rattle.run_law.specs.declared.note.NoteBody.TheVariants as notes

-- ---- states

-- is a device in this state on?
abbrev is_on : State → Bool
is_on state = not (is_off state)

-- one that has the common time is
pub timed_not_off : (state : State) → has_time state ≡ true → is_off state ≡ false
timed_not_off Off e = absurd cc
timed_not_off state e = refl

timed_on : (state : State) → has_time state ≡ true → is_on state ≡ true
timed_on state e = ap not (timed_not_off state e)

-- ---- events

-- the event that turns the device on at a time
pub record IsTurnedAt (s : Scenario) (device : DeviceId) (t : ℕ) : Type 0 where
  pub event : Event
  pub there : IsIn event s.events
  pub turns : TurnsOn device event
  pub at : amount event.time ≡ t

pub turned_at : (s : Scenario) (device : DeviceId) (t : ℕ) → is_turned_on_at s device t ≡ true → IsTurnedAt s device t
turned_at s device t e = grind (arith, any_in, turns_on, amount, and_parts, on_by, eqb-true)

-- ---- a device that begins off stays so

module _ (v : View) (device : DeviceId) (t : ℕ) (is : IsView v) (none : (w : ℕ) → w < t → IsTurnedAt v.scenario device w → ⊥)
    (before : (w : ℕ) → w < t → is_on (state_left v device w) ≡ true → ⊥) where
  never_on : (w : ℕ) (front : List Happening) → AreBeforeCorrections v w front → w < t → is_on (state_before v.scenario front device w) ≡ true → ⊥
  never_on w front split lt e =
      elim (is_turned_on_at v.scenario device w) as (λ b. is_turned_on_at v.scenario device w ≡ b
      → is_on (if b then Integrating else state_after v.scenario (earlier w front) device) ≡ true → ⊥) [
        | true ↦ λ turned now. none w lt (turned_at v.scenario device w turned)
        | false ↦ λ left on. before w lt (rw (earlier_before split) at on)
      ] refl e

  never_joined : (h : Happening) → IsIn h v.records → time_of h < t → is_joined_by device h.note.body ≡ true → ⊥
  never_joined h i lt joined =
      let at = founded_at v.scenario v.records h is.run.founded i in
      never_on (time_of h) at.front (before_of is at) lt (ap is_on
      (looking_by v.scenario at.front h.note.time device h.note.body joined at.due.cause))

  never_changes : (w : ℕ) (front : List Happening) (state : State) (cause : ℕ) (why : Why) → AreBeforeCorrections v w front → w < t
      → ChangesState v.scenario front device w state cause why → ⊥
  never_changes w front state cause whys.On split lt c =
      let h = c.2.1 in
      let i : IsIn h v.records = subst (IsIn h) (sym split.whole) (in_left h front split.rest (numbered_in front cause h c.2.2.there)) in
      let at = founded_at v.scenario v.records h is.run.founded i in
      let r : IsEventRecord v.scenario.events h.note.time c.2.0 (events.On device) = subst (IsCaused v.scenario at.front h.note.time) c.2.3 at.due.cause in
      let same : amount r.event.time ≡ w = omega (arith, c.2.2.same_time, ap amount r.at) in
      none w lt (record { event = r.event; there = in_at v.scenario.events r.before r.event r.is; turns = sym r.same; at = same })
  never_changes w front state cause whys.Frame split lt c =
      let h = c.1.0 in
      let i : IsIn h v.records = subst (IsIn h) (sym split.whole) (in_left h front split.rest (numbered_in front cause h c.1.1.there)) in
      never_joined h i (omega (arith, c.1.1.same_time)) c.1.2
  never_changes w front state cause whys.Correction split lt c = never_on w front split lt (ap is_on c.1)
  never_changes w front state cause why split lt c =
      never_on w front split lt (timed_on _ (point_has_time (state_before v.scenario front device w) _ c.2.0 c.2.1.next))

  keeps_off : (h : Happening) (front : List Happening) (body : NoteBody) → IsIn h v.records → time_of h < t → h.note.body ≡ body
      → AreBeforeCorrections v (time_of h) front → IsCaused v.scenario front h.note.time body → Keeps is_on device body
  keeps_off h front (notes.State other state cause why) i lt same split c old e =
      kept_if is_on (device.0 == other.0) state old (λ own on. never_changes (time_of h) front state cause why split lt
      (rw (same_device device other own) at c)) e
  keeps_off h front (notes.Permanent other link cause point Integrates) i lt same split c old e =
      kept_if is_on (device.0 == other.0) Joining old (λ own on. never_joined h i lt (ap (is_joined_by device) same ∙ own)) e
  keeps_off h front (notes.Compressed other opened own cycle members Integrates) i lt same split c old e =
      kept_if is_on (device.0 == other.0) Joining old (λ mine on. never_joined h i lt (ap (is_joined_by device) same ∙ mine)) e
  keeps_off h front body i lt same split c old e = e

  started_on : is_on (state_left v device t) ≡ true → is_on (state_at_start (start_of v.scenario.network device)) ≡ true
  started_on e =
      kept_by_all is_on device (earlier t v.records) (λ h i.
      let back = in_earlier t v.records h i in
      let at = founded_at v.scenario v.records h is.run.founded back.0 in
      keeps_off h at.front h.note.body back.0 back.1 refl (before_of is at) at.due.cause) (state_at_start (start_of v.scenario.network device)) e

-- a device that begins off and is not turned on before a time is off then
off_until : {v : View} (device : DeviceId) (bound t : ℕ) → IsView v → t ≤ bound
    → ((w : ℕ) → w < t → IsTurnedAt v.scenario device w → ⊥)
    → (is_on (state_at_start (start_of v.scenario.network device)) ≡ true → ⊥) → is_on (state_left v device t) ≡ true
    → ⊥
off_until {v} device zero t is le none begins e =
    begins (started_on v device t is none (λ w lt on. absurd (omega arith)) e)
off_until {v} device (suc bound) t is le none begins e =
    begins (started_on v device t is none (λ w lt on. off_until device bound w is (omega arith)
    (λ x less. none x (omega arith)) begins on) e)

-- ---- a device is turned on once

begins_by : (o : Option Device) → is_on (state_at_start (option_and_then (λ d. d.start) o)) ≡ true → IsSomeAnd o (λ d. IsNone d.start → ⊥)
begins_by None e = absurd cc
begins_by (Some d) e = elim d.start as (λ o. is_on (state_at_start o) ≡ true → IsNone o → ⊥) [ None ↦ λ on off. absurd cc | Some x ↦ λ on off. absurd cc ] e

-- a device that is on is not turned on
pub on_not_turned_on : {v : View} (device : DeviceId) (u : ℕ) → IsView v → is_off (state_left v device u) ≡ false
    → is_turned_on_at v.scenario device u ≡ false
on_not_turned_on {v} device u is on_then =
    false_from_ne_true (is_turned_on_at v.scenario device u) (λ turned.
    let x = turned_at v.scenario device u turned in
    let parts = parted x.event v.scenario.events x.there in
    off_until device u u is (omega arith) (λ w lt y. elim (in_parts y.event parts.0 (x.event ∷ parts.1)
    (subst (IsIn y.event) parts.2 y.there)) [
      | inl sooner ↦ is.lawful.within parts.0 parts.1 x.event parts.2 NotOff
          (record { device = device; what = x.turns; known = inr (inl (any_of_in (TurnsOn device) y.event parts.0 sooner y.turns)) })
      | inr (inl same) ↦ (let time : amount y.event.time ≡ amount x.event.time = rw same in
          absurd (omega (arith, y.at, x.at)))
      | inr (inr later) ↦
          let more = parted y.event parts.1 later in
          let whole = parts.2 ∙ ap (λ es. parts.0 ++ x.event ∷ es) more.2 ∙ sym
          (append_assoc parts.0 (x.event ∷ more.0) (y.event ∷ more.1)) in
          is.lawful.within (parts.0 ++ x.event ∷ more.0) more.1 y.event whole NotOff
          (record {
            device = device;
            what = y.turns;
            known = inr
                (inl (any_of_in (TurnsOn device) x.event (parts.0 ++ x.event ∷ more.0) (in_right x.event parts.0 (x.event ∷ more.0) (inl refl)) x.turns));
          })
    ]) (λ on. is.lawful.within parts.0 parts.1 x.event parts.2 NotOff
    (record { device = device; what = x.turns; known = inl (begins_by (device_at v.scenario.network device) on) })) (ap not on_then))

-- so one that has the common time is not
pub not_turned_on_then : {v : View} (device : DeviceId) (u : ℕ) → IsView v → has_time (state_left v device u) ≡ true
    → is_turned_on_at v.scenario device u ≡ false
not_turned_on_then {v} device u is timed = on_not_turned_on device u is (timed_not_off (state_left v device u) timed)

-- so none that has the common time is
pub none_turns_on : NoneTurnsOn
none_turns_on v device u is has = not_turned_on_then device u is has.timed

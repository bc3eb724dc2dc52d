-- Devices that no fault befalls: they are synchronised, not turned on, and send no octets of their own.
use Rattle.std.proofs.{Common.Any, lemmas.Bool.{le-leb, true_from_ne_false}}
use Rattle.net_plan.specs.declared.event.What.TheVariants.{On}
use Rattle.precision_law.{specs.{Blocks.NoneLost, Views.IsFirm, traffic.Delivered.SoundSwitchesKeepTime}}
use Rattle.precision_law.proofs.{Plain.any_is}
use Rattle.precision_law.proofs.traffic_lemmas.{spans.Spans.{no_joining, turned_on_by}}
use Rattle.precision_law.proofs.traffic_lemmas.Words
use Words.{if◌then◌else◌, ◌++◌, ◌<◌, ◌==◌, ◌∙◌, ◌∷◌, ◌≡◌, ◌≤ℤ◌, ◌≤◌, Bool, BringsChannels, ChangesState, DeviceId}
use Words.{Event, Happening, Integrates, Integrating, IsCaused, IsFoundedAt, IsIn, IsView, Joining, List, Network}
use Words.{NoteBody, Scenario, SendersAreBroken, State, Synchronised, TimedAreNotTurnedOn, View, Why, [], amount, ap}
use Words.{append_assoc, arith, before_of, between, both_ways, by_lt_z, device_at, earlier, earlier_before}
use Words.{earlier_parts, eq-eqb, eqb-true, false, false_from_ne_true, fold, fold-append, founded_at, has_time}
use Words.{in_between, in_left, in_order, in_parts, inl, inr, ints, is_broken, is_joined_by, is_turned_on_at, le-ltb}
use Words.{link_at, nat_le, nat_lt, none_kept, numbered_in, one_device, opened, option_and_then, parted, refl, start_of}
use Words.{state_after, state_at_start, state_before, state_left, state_with, subst, suc, sym, time_of, true}
use Words.{within_run, zero, ℕ}
use Rattle.run_law.proofs.{control.Verdicts.looking_by, law.FirstDeliveries.{given, in_at}}
use Rattle.run_law.proofs.{records.{Members.in_kept, Order.{any_in, in_any}}, runs.Places.in_right}
use Rattle.run_law.proofs.{scenario.Devices.on_by}
use Rattle.run_law.specs.{declared.outside.Outside.TheVariants.{NotBroken, NotOff, Order}, law.FirstLaws.IsLawful}
use Rattle.run_law.specs.{runs.DueRecords.IsEventRecord}
use Rattle.run_law.specs.scenario.{Faults.{BeginsOn, Breaks, IsBroken, TurnsOn}}
use Rattle.run_law.specs.scenario.{Hypothesis.{AreWithinHypothesis, breaks_at}, Scenarios.events_up_to}
use Rattle.sync_state.specs.declared.state.State.TheVariants.{Off}
use Rattle.tte_units.proofs.general_lemmas.{Lists.{any_behind, any_first}, Options.one}
use Rattle.net_plan.specs.declared.event.What.TheVariants as events
use Rattle.run_law.specs.declared.judgement.Why.TheVariants as whys
use Rattle.run_law.specs.declared.note.NoteBody.TheVariants as notes

-- ---- the switches of the sound channel are synchronised when the span of a cycle begins

-- what begins on begins synchronised
starts_synchronised : (network : Network) (device : DeviceId) → BeginsOn network device → state_at_start (start_of network device) ≡ Synchronised
starts_synchronised network device on = grind (arith, device_at, state_at_start, option_and_then)

module _ (v : View) (device : DeviceId) (next : ℕ) (h : Happening) where
  -- a change of state leaves a firm device synchronised
  changes_to : (state : State) (cause : ℕ) (why : Why) → IsView v → NoneLost v next → IsFirm v device
      → IsIn h v.records → time_of h < next → state_left v device (time_of h) ≡ Synchronised
      → is_turned_on_at v.scenario device (time_of h) ≡ false → h.note.body ≡ notes.State device state cause why
      → (found : IsFoundedAt v.scenario v.records h) → ChangesState v.scenario found.front device
      (time_of h) state cause why → state ≡ Synchronised
  changes_to state cause whys.On is kept firm i lt timed not_on body found c =
      let g = c.2.1 in
      let j = numbered_in found.front cause g c.2.2.there in
      let at = founded_at v.scenario found.front g found.founded j in
      let caused : IsCaused v.scenario at.front g.note.time (notes.Event c.2.0 (On device)) =
      subst (IsCaused v.scenario at.front g.note.time) c.2.3 at.due.cause
      in
      let on = turned_on_by v.scenario device caused in
      absurd (both_ways _ not_on (ap (is_turned_on_at v.scenario device) (sym c.2.2.same_time) ∙ on))
  changes_to state cause whys.Frame is kept firm i lt timed not_on body found c =
      grind (arith, numbered_in, in_left, both_ways, no_joining, state_left, is_turned_on_at)
  changes_to state cause whys.Correction is kept firm i lt timed not_on body found c = c.0
  changes_to state cause whys.SyncClique is kept firm i lt timed not_on body found c =
      absurd (kept h device state cause whys.SyncClique i lt body tt firm)
  changes_to state cause whys.AsyncClique is kept firm i lt timed not_on body found c =
      absurd (kept h device state cause whys.AsyncClique i lt body tt firm)

  -- each record does
  leaves_by : (body : NoteBody) → IsView v → NoneLost v next → IsFirm v device → IsIn h v.records → time_of h < next
      → state_left v device (time_of h) ≡ Synchronised → is_turned_on_at v.scenario device (time_of h) ≡ false
      → h.note.body ≡ body → is_joined_by device body ≡ false → state_with device Synchronised body ≡ Synchronised
  leaves_by (notes.State other state cause why) is kept firm i lt timed not_on body joined =
      by (device.0 == other.0) refl
    where
      by : (b : Bool) → (device.0 == other.0) ≡ b → (if b then state else Synchronised) ≡ Synchronised
      by false e = refl
      by true e =
          let own =
          body ∙ ap (λ d. notes.State d state cause why) (one_device device other e) in
          let found = founded_at v.scenario v.records h is.run.founded i in
          let caused : ChangesState v.scenario found.front device (time_of h) state cause why =
          subst (IsCaused v.scenario found.front h.note.time) own
          found.due.cause in
          changes_to state cause why is kept firm i lt timed not_on own found caused
  leaves_by (notes.Permanent other link cause point Integrates) is kept firm i lt timed not_on body joined =
      rw joined refl
  leaves_by (notes.Compressed other opened at cycle members Integrates) is kept firm i lt timed not_on body joined =
      rw joined refl
  leaves_by body is kept firm i lt timed not_on same joined = refl

-- so do all of them
fold_leaves : (device : DeviceId) (hs : List Happening) → ((h : Happening) → IsIn h hs → state_with device Synchronised h.note.body ≡ Synchronised)
    → (old : State) → old ≡ Synchronised → fold (λ state h. state_with device state h.note.body) old hs ≡ Synchronised
fold_leaves device [] each old e = e
fold_leaves device (h ∷ hs) each old e =
    fold_leaves device hs (λ g i. each g (inr i)) (state_with device old h.note.body) (rw e
    (each h (inl refl)))

-- a firm device that begins on is synchronised until it loses the time
firm_up_to : TimedAreNotTurnedOn → {v : View} {device : DeviceId} (next t : ℕ) → IsView v → NoneLost v next
    → IsFirm v device → BeginsOn v.scenario.network device → t ≤ next → state_left v device t ≡ Synchronised
firm_up_to never {v} {device} next zero is kept firm on le =
    let none = none_kept (λ h. nat_lt (time_of h) 0) v.records (λ h i. le-ltb (time_of h) 0 (omega arith)) in
    rw none (starts_synchronised v.scenario.network device on)
firm_up_to never {v} {device} next (suc t) is kept firm on le =
    let timed = firm_up_to never next t is kept firm on (omega arith) in
    let not_on = never v device t is (ap has_time timed) in
    let hs = between t (suc t) v.records in
    let parts = earlier_parts t (suc t) v.records (in_order is) (omega arith) in
    let each : (h : Happening) → IsIn h hs → state_with device Synchronised h.note.body ≡ Synchronised = λ h i.
    let there = in_between t (suc t) v.records h i in
    let same : time_of h ≡ t = omega (arith, there.1, there.2) in
    let timed_h = rw (sym same) at timed in
    let not_h = rw (sym same) at not_on in
    leaves_by v device next h h.note.body is kept firm there.0 (omega arith) timed_h
    not_h refl (no_joining device h is there.0 timed_h not_h) in
    let apart = fold-append (λ state h. state_with device state h.note.body)
    (state_at_start (start_of v.scenario.network device))
    (earlier t v.records) hs in
    rw parts (apart ∙ fold_leaves device hs each (state_left v device t) timed)

pub sound_switches_keep_time : BringsChannels → TimedAreNotTurnedOn → SoundSwitchesKeepTime
sound_switches_keep_time channels never v n before device is switch = grind (arith, firm_up_to)

-- ---- a device that has the common time is not turned on: events that turn devices on

-- what is in a list is somewhere there
to_any : {X : Type 0} (P : X → Type 0) (xs : List X) (x : X) → IsIn x xs → P x → Any P xs
to_any P [] x i p = absurd i
to_any P (y ∷ xs) x (inl same) p = any_first P y xs (subst P same p)
to_any P (y ∷ xs) x (inr more) p = any_behind P y xs (to_any P xs x more p)

-- the event turns the device on at the time
record TurnsOnAt (s : Scenario) (device : DeviceId) (t : ℕ) : Type 0 where
  pub event : Event
  pub there : IsIn event s.events
  pub what : event.what ≡ events.On device
  pub at : amount event.time ≡ t

module _ (s : Scenario) (device : DeviceId) where
  -- a device that is turned on has such an event
  turned_on_at : (t : ℕ) → is_turned_on_at s device t ≡ true → TurnsOnAt s device t
  turned_on_at t e = grind (arith, any_in, amount, on_by, eqb-true)

  -- of two events that turn a device on one is behind the other, which the hypothesis rules out
  on_again : (before behind : List Event) (e f : Event) → IsLawful s → s.events ≡ before ++ f ∷ behind
      → IsIn e before → e.what ≡ events.On device → f.what ≡ events.On device → ⊥
  on_again before behind e f lawful split i one two =
      lawful.within before behind f split NotOff
      (record { device = device; what = two; known = inr (inl (to_any (TurnsOn device) before e i one)) })

  -- a device is turned on once
  on_once : {t u : ℕ} → IsLawful s → t < u → TurnsOnAt s device t → TurnsOnAt s device u → ⊥
  on_once lawful lt one two =
      let at = parted one.event s.events one.there in
      elim (in_parts two.event at.0 (one.event ∷ at.1) (subst (IsIn two.event) at.2 two.there)) [
        | inl l ↦ on_again at.0 at.1 two.event one.event lawful at.2 l two.what one.what
        | inr (inl same) ↦ (let times : amount two.event.time ≡ amount one.event.time = rw same in omega
            (arith, one.at, two.at))
        | inr (inr later) ↦
            let more = parted two.event at.1 later in
            let whole =
            at.2 ∙ ap (λ xs. at.0 ++ one.event ∷ xs) more.2
            ∙ sym (append_assoc at.0 (one.event ∷ more.0) (two.event ∷ more.1)) in
            on_again (at.0 ++ one.event ∷ more.0) more.1 one.event two.event lawful whole
            (in_right one.event at.0 (one.event ∷ more.0) (inl refl))
            one.what two.what
      ]

  -- what is turned on did not begin on
  began_off : {t : ℕ} → IsLawful s → TurnsOnAt s device t → BeginsOn s.network device → ⊥
  began_off lawful on begins =
      let at = parted on.event s.events on.there in
      lawful.within at.0 at.1 on.event at.2 NotOff (record { device = device; what = on.what; known = inl begins })

-- what does not begin on begins off
starts_off : (network : Network) (device : DeviceId) → (BeginsOn network device → ⊥) → state_at_start (start_of network device) ≡ Off
starts_off network device not = grind (arith, device_at, state_at_start, option_and_then)

-- ---- a device that is off

-- a device that is not turned on at a time, and off before it, is off when something comes
off_before : (b : Bool) (state : State) → b ≡ false → state ≡ Off → (if b then Integrating else state) ≡ Off
off_before true state not e = absurd cc
off_before false state not e = e

-- no frame tells it the time
no_joining_off : {v : View} (device : DeviceId) (h : Happening) → IsView v → IsIn h v.records
    → state_left v device (time_of h) ≡ Off → is_turned_on_at v.scenario device (time_of h) ≡ false
    → is_joined_by device h.note.body ≡ false
no_joining_off {v} device h is i off not_on =
    let s = v.scenario in
    let found = founded_at s v.records h is.run.founded i in
    let same = earlier_before (before_of is found) in
    let left : state_after s (earlier (time_of h) found.front) device ≡ Off = rw same off in
    false_from_ne_true (is_joined_by device h.note.body) (λ joined.
    let was = looking_by s found.front h.note.time device h.note.body joined found.due.cause in
    let is_off = off_before (is_turned_on_at s device (time_of h)) (state_after s (earlier (time_of h) found.front) device) not_on left in
    apart _ is_off was)
  where
    apart : (state : State) → state ≡ Off → state ≡ Integrating → ⊥
    apart state one two = cc

-- its state does not change
no_change_off : {v : View} (device : DeviceId) {h : Happening} (state : State) (cause : ℕ) (why : Why) → IsView v
    → IsIn h v.records → state_left v device (time_of h) ≡ Off
    → is_turned_on_at v.scenario device (time_of h) ≡ false → (found : IsFoundedAt v.scenario v.records h)
    → state_before v.scenario found.front device (time_of h) ≡ Off
    → ChangesState v.scenario found.front device (time_of h) state cause why → ⊥
no_change_off {v} device state cause whys.On is i off not_on found before c =
    let g = c.2.1 in
    let j = numbered_in found.front cause g c.2.2.there in
    let at = founded_at v.scenario found.front g found.founded j in
    let caused : IsCaused v.scenario at.front g.note.time (notes.Event c.2.0 (events.On device)) = subst (IsCaused v.scenario at.front g.note.time) c.2.3
    at.due.cause in
    let on = turned_on_by v.scenario device caused in
    both_ways _ not_on (ap (is_turned_on_at v.scenario device) (sym c.2.2.same_time) ∙ on)
no_change_off device state cause whys.Frame is i off not_on found before c =
    grind (arith, numbered_in, in_left, both_ways, no_joining_off, state_left, is_turned_on_at)
no_change_off device state cause whys.Correction is i off not_on found before c = grind (arith, state_before, time_of)
no_change_off device state cause whys.SyncClique is i off not_on found before c = grind (arith, state_before, time_of)
no_change_off device state cause whys.AsyncClique is i off not_on found before c = grind (arith, state_before, time_of)

-- no record of the instant turns it on
stays_off_by : {v : View} (device : DeviceId) (h : Happening) (body : NoteBody) → IsView v → IsIn h v.records
    → state_left v device (time_of h) ≡ Off → is_turned_on_at v.scenario device (time_of h) ≡ false
    → h.note.body ≡ body → is_joined_by device body ≡ false → state_with device Off body ≡ Off
stays_off_by {v} device h (notes.State other state cause why) is i off not_on body joined =
    by (device.0 == other.0) refl
  where
    by : (b : Bool) → (device.0 == other.0) ≡ b → (if b then state else Off) ≡ Off
    by false e = refl
    by true e =
        let s = v.scenario in
        let found = founded_at s v.records h is.run.founded i in
        let same = earlier_before (before_of is found) in
        let left : state_after s (earlier (time_of h) found.front) device ≡ Off = rw same off in
        let before = off_before (is_turned_on_at s device (time_of h)) (state_after s (earlier (time_of h) found.front) device) not_on left in
        let caused : ChangesState s found.front other (time_of h) state cause why = subst (IsCaused s found.front h.note.time) body found.due.cause in
        let own = rw (one_device device other e) at caused in
        absurd (no_change_off device state cause why is i off not_on found before own)
stays_off_by device h (notes.Permanent other link cause point Integrates) is i off not_on body joined = rw joined refl
stays_off_by device h (notes.Compressed other opened at cycle members Integrates) is i off not_on body joined =
    rw joined refl
stays_off_by device h body is i off not_on same joined = refl

-- so do all of them
fold_off : (device : DeviceId) (hs : List Happening) → ((h : Happening) → IsIn h hs → state_with device Off h.note.body ≡ Off) → (old : State) → old ≡ Off
    → fold (λ state h. state_with device state h.note.body) old hs ≡ Off
fold_off device [] each old e = e
fold_off device (h ∷ hs) each old e =
    fold_off device hs (λ g i. each g (inr i)) (state_with device old h.note.body) (rw e (each h (inl refl)))

-- up to its being turned on a device that began off is off
off_up_to : {v : View} (device : DeviceId) (t : ℕ) → IsView v → (BeginsOn v.scenario.network device → ⊥)
    → ((x : ℕ) → x < t → is_turned_on_at v.scenario device x ≡ false) → state_left v device t ≡ Off
off_up_to {v} device zero is began not_on =
    let none = none_kept (λ h. nat_lt (time_of h) 0) v.records (λ h i. le-ltb (time_of h) 0 (omega arith)) in
    rw none (starts_off v.scenario.network device began)
off_up_to {v} device (suc t) is began not_on =
    let off = off_up_to device t is began (λ x lt. not_on x (omega arith)) in
    let here = not_on t (omega arith) in
    let hs = between t (suc t) v.records in
    let parts = earlier_parts t (suc t) v.records (in_order is) (omega arith) in
    let each : (h : Happening) → IsIn h hs → state_with device Off h.note.body ≡ Off = λ h i.
    let there = in_between t (suc t) v.records h i in
    let same : time_of h ≡ t = omega (arith, there.1, there.2) in
    let off_h = rw (sym same) at off in
    let not_h = rw (sym same) at here in
    stays_off_by device h h.note.body is there.0 off_h not_h refl (no_joining_off device h is there.0 off_h not_h) in
    let apart = fold-append (λ state h. state_with device state h.note.body)
    (state_at_start (start_of v.scenario.network device))
    (earlier t v.records) hs in
    rw parts (apart ∙ fold_off device hs each (state_left v device t) off)

-- ---- the law

pub timed_are_not_turned_on : TimedAreNotTurnedOn
timed_are_not_turned_on v device t is timed =
    let s = v.scenario in
    false_from_ne_true (is_turned_on_at s device t) (λ on.
    let here = turned_on_at s device t on in
    let off = off_up_to device t is (began_off s device is.lawful here) (λ x lt.
    false_from_ne_true (is_turned_on_at s device x)
    (λ before. on_once s device is.lawful lt (turned_on_at s device x before) here)) in
    apart (state_left v device t) off timed)
  where
    apart : (state : State) → state ≡ Off → has_time state ≡ true → ⊥
    apart Off off e = cc
    apart Integrating off e = cc
    apart Joining off e = cc
    apart Synchronised off e = cc

-- ---- only a broken device puts octets of its own on a link: the order of events

-- each event of a list is no later than those behind it
abbrev pub AreSorted : List Event → Type 0
AreSorted [] = Unit {0}
AreSorted (e ∷ es) = ((f : Event) → IsIn f es → e.time.0 ≤ℤ f.time.0) × AreSorted es

-- the events of the hypothesis are
pub sorted_behind : (s : Scenario) (ps es : List Event) → AreWithinHypothesis s.network (ps ++ es) → AreSorted es
sorted_behind s ps [] within = tt
sorted_behind s ps (e ∷ es) within =
    let moved = append_assoc ps (e ∷ []) es in
    let rest = sorted_behind s (ps ++ e ∷ []) es (subst (AreWithinHypothesis s.network) (sym moved) within) in
    (λ f i. by es rest f i within, rest)
  where
    by : (es : List Event) → AreSorted es → (f : Event) → IsIn f es → AreWithinHypothesis s.network (ps ++ e ∷ es) → e.time.0 ≤ℤ f.time.0
    by [] order f i within = absurd i
    by (g ∷ gs) order f i within =
        let next = by_lt_z g.time.0 e.time.0
        (λ lt. absurd (within (ps ++ e ∷ []) gs g (sym (append_assoc ps (e ∷ []) (g ∷ gs))) Order (record { front = ps; last = e; order = refl; later = lt })))
        (λ le. le) in
        elim i [
          | inl same ↦ rw same next
          | inr more ↦ (let up = order.0 f more in omega (arith, ints))
        ]

-- an event before another is no later
sorted_parts : (ps qs : List Event) (e f : Event) → AreSorted (ps ++ e ∷ qs) → IsIn f ps → f.time.0 ≤ℤ e.time.0
sorted_parts [] qs e f order i = absurd i
sorted_parts (p ∷ ps) qs e f order (inl same) = rw same (order.0 e (in_middle ps))
  where
    in_middle : (ps : List Event) → IsIn e (ps ++ e ∷ qs)
    in_middle [] = inl refl
    in_middle (p ∷ ps) = inr (in_middle ps)
sorted_parts (p ∷ ps) qs e f order (inr more) = sorted_parts ps qs e f order.1 more

-- ---- who sends

pub senders_are_broken : SendersAreBroken
senders_are_broken v h line link octets l is i body there =
    let s = v.scenario in
    let found = founded_at s v.records h is.run.founded i in
    let caused : IsEventRecord s.events h.note.time line (events.Send link octets) = subst (IsCaused s found.front h.note.time) body found.due.cause in
    let e = caused.event in
    let in_events = in_at s.events caused.before e caused.is in
    let at = parted e s.events in_events in
    let order = sorted_behind s [] s.events is.lawful.within in
    let time : amount e.time ≡ time_of h = ap amount (sym caused.at) in
    let early = within_run is h i in
    true_from_ne_false (is_broken s l.child v.until) (λ fine.
    is.lawful.within at.0 at.1 e at.2 NotBroken (record {
      link = link;
      octets = octets;
      what = sym caused.same;
      unbroken = λ known.
          let k = opened (λ x. IsBroken at.0 x.child) (link_at s.network link) known in
          let same = one (link_at s.network link) k.0 l k.1 there in
          let broken : IsBroken at.0 l.child = rw same at k.2 in
          let breaks = any_is (Breaks l.child) at.0 broken in
          let b = breaks.0 in
          let in_all : IsIn b s.events = subst (IsIn b) (sym at.2) (in_left b at.0 (e ∷ at.1) breaks.1) in
          let sooner = sorted_parts at.0 at.1 e b (subst AreSorted at.2 order) breaks.1 in
          let begun_b = (given s b is.lawful in_all).range.time in
          let begun_e = (given s e is.lawful in_events).range.time in
          let in_time : amount b.time ≤ v.until = omega (arith, ints) in
          let up = in_kept (λ x. nat_le (amount x.time) v.until) s.events b in_all (le-leb (amount b.time) v.until in_time) in
          let hit : breaks_at l.child.0 b.what ≡ true = ap (breaks_at l.child.0) breaks.2 ∙ eq-eqb l.child.0 l.child.0 refl in
          both_ways (is_broken s l.child v.until) fine (in_any (λ x. breaks_at l.child.0 x.what)
          (events_up_to s v.until) b up hit);
    }))

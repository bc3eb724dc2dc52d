-- What is owed of events, of sends on ways that are cut, and at the end is due.
use Rattle.audit_law.proofs.law_lemmas.Founded.{PaidAt, due_there, found_before, from_one, front_of, in_whole}
use Rattle.audit_law.proofs.law_lemmas.Founded.{next_is_due, next_of, of_amount, split_at, taken_there, timely, within}
use Rattle.audit_law.proofs.law_lemmas.Words
use Words.{◌+◌, ◌∙◌, ◌∷◌, ◌≡◌, DeviceId, Gives, Happening, IsBefore, IsCaused, IsDue, IsDueIn, IsFounded, LinkId, List}
use Words.{Network, NoteBody, Scenario, Some, [], adjustment_after, ahead, amount, ap, arith, inl, inr, key, members_in}
use Words.{numbered, place_at, place_of, rank, refl, same_some, slice_get, split, state_after, subst, sym, time_of}
use Words.{units_of, up_to, ℕ}
use Rattle.audit_law.specs.law.{DebtLaws.{ClockLaw, EventLaw, LossLaw}}
use Rattle.audit_law.specs.law.{EndClocks.{IsClockOf, IsDueByEnd, OwesClock, TellsClock}}
use Rattle.audit_law.specs.law.{LostSends.{IsDueBySend, OwesLoss, TellsLoss}}
use Rattle.audit_law.specs.law.{TracedEvents.{IsDueByEvent, OwesEvent, TellsEvent}}
use Rattle.net_plan.specs.declared.event.Event.{Event}
use Rattle.run_law.specs.{control.Losses.IsSendLost, runs.DueRecords.{EndsAt, IsClockRecord, IsEventRecord}}
use Rattle.run_law.specs.declared.note.NoteBody.TheVariants as notes

-- ---- what is owed at the end of the events is due

some_clock : {s : Scenario} (hs : List Happening) {until : ℕ} {device : DeviceId} {time : ℕ}
    → IsFounded place_of (IsDue s) hs → OwesClock s until device time
    → PaidAt s hs until (IsDueByEnd s) time (λ x. TellsClock device time x)
some_clock {s} hs {until} {device} {time} founded o =
    let p = time ∷ 14 ∷ device.0 ∷ [] in
    let at = split place_of (IsDue s) hs p founded in
    let shown = units_of (s.reading device time) in
    let adjustment = adjustment_after s (up_to time at.front) device in
    let state = state_after s (up_to time at.front) device in
    let body = notes.Clock device shown adjustment state in
    let clock : IsClockRecord s at.front device (units_of time) shown adjustment state =
    record { is = o.is; there = o.there; ends = o.ends; reads = refl; adjusted = refl; in_state = refl } in
    let x = next_of s at.front time body in
    let due : IsDueByEnd s at.front x = record {
      due = next_is_due s at.front time body clock;
      device = device;
      shown = shown;
      adjustment = adjustment;
      state = state;
      clock = clock;
      says = refl;
    } in
    (x, due_there (IsDueByEnd s) at x refl due, within time until (14 ∷ device.0 ∷ []) o.timely, (refl, refl), refl)

clock_owed : (s : Scenario) {hs : List Happening} (until : ℕ) {x : Happening} → IsDueIn place_of (IsDueByEnd s) hs x
    → IsBefore (place_of x) ((until + 1) ∷ []) → (at : DeviceId × ℕ) × OwesClock s until at.0 at.1
    × TellsClock at.0 at.1 x × (time_of x ≡ at.1)
clock_owed s until {x} h here =
    let d = h.due in
    let owed : OwesClock s until d.device (time_of x) = record {
      is = d.clock.is;
      there = d.clock.there;
      ends = subst (EndsAt s.events) (of_amount x.note.time d.due.begun) d.clock.ends;
      timely = timely (time_of x) until (rank x.note.body ∷ key (members_in x) x.note.body) here;
    } in
    ((d.device, time_of x), owed, (refl, subst (IsClockOf d.device) (sym d.says) refl), refl)

pub place_of_clock : (t m : ℕ) (device : DeviceId) (body : NoteBody) → IsClockOf device body → place_at t m body ≡ t ∷ 14 ∷ device.0 ∷ []
place_of_clock t m device (notes.Clock other shown adjustment state) e = rw e
place_of_clock t m device other e = absurd e

pub clock_law : ClockLaw
clock_law s hs until founded = record {
  each = λ x h here. clock_owed s until h here;
  some = λ at o. some_clock hs founded o;
  one = λ at x y o a b p q.
      place_of_clock (time_of x) (members_in x) at.0 x.note.body p.1
      ∙ ap (λ t. t ∷ 14 ∷ at.0.0 ∷ []) (p.0 ∙ sym q.0)
      ∙ sym (place_of_clock (time_of y) (members_in y) at.0 y.note.body q.1);
}

-- ---- what is owed of events is due

some_event : (s : Scenario) (hs : List Happening) (until line : ℕ) → IsFounded place_of (IsDue s) hs → (o : OwesEvent s until line)
    → PaidAt s hs until (IsDueByEvent s) (amount o.event.time) (λ x. TellsEvent line x.note.body)
some_event s hs until line founded o =
    let time = amount o.event.time in
    let body = notes.Event line o.event.what in
    let p = time ∷ 1 ∷ line ∷ [] in
    let at = split place_of (IsDue s) hs p founded in
    let befalls : IsEventRecord s.events (units_of time) line o.event.what =
    record { event = o.event; before = o.before; line_is = o.line_is; is = o.is; at = sym (of_amount o.event.time o.begun); same = refl } in
    let x = next_of s at.front time body in
    let due : IsDueByEvent s at.front x =
    record { due = next_is_due s at.front time body befalls; line = line; what = o.event.what; befalls = befalls; says = refl } in
    (x, due_there (IsDueByEvent s) at x refl due, within time until (1 ∷ line ∷ []) o.timely, refl, refl)

event_owed : (s : Scenario) (hs : List Happening) (until : ℕ) (x : Happening) → IsDueIn place_of (IsDueByEvent s) hs x
    → IsBefore (place_of x) ((until + 1) ∷ []) → (line : ℕ) × (o : OwesEvent s until line) × TellsEvent line x.note.body × (time_of x ≡ amount o.event.time)
event_owed s hs until x h here =
    let d = h.due in
    let b = d.befalls in
    let le = timely (time_of x) until (rank x.note.body ∷ key (members_in x) x.note.body) here in
    let owed : OwesEvent s until d.line = record {
      before = b.before;
      line_is = b.line_is;
      event = b.event;
      is = b.is;
      begun = rw b.at at d.due.begun;
      timely = rw b.at at le;
    } in
    (d.line, owed, subst (TellsEvent d.line) (sym d.says) refl, ap amount b.at)

-- the time and the place of the record of an event
record IsAtLine (s : Scenario) (line : ℕ) (x : Happening) : Type 0 where
  pub place : place_of x ≡ time_of x ∷ 1 ∷ line ∷ []
  pub before : ℕ
  pub line_is : line ≡ before + 1
  pub event : Event
  pub is : slice_get s.events before ≡ Some event
  pub at : time_of x ≡ amount event.time

at_line : (s : Scenario) (before : List Happening) (line : ℕ) (x : Happening) (body : NoteBody) → x.note.body ≡ body → IsCaused s before x.note.time body
    → TellsEvent line body → IsAtLine s line x
at_line s before line x (notes.Event other what) is c e = grind (arith, place_at, time_of, members_in, amount)
at_line s before line x other is c e = absurd e

pub event_law : EventLaw
event_law s hs until founded = record {
  each = λ x h here. event_owed s hs until x h here;
  some = λ line o. some_event s hs until line founded o;
  one = λ line x y o a b p q.
      let first = at_line s a.before line x x.note.body refl a.due.cause p in
      let second = at_line s b.before line y y.note.body refl b.due.cause q in
      let befores : first.before ≡ second.before = omega (arith, first.line_is, second.line_is) in
      let events = same_some (slice_get s.events first.before) first.event second.event first.is (ap (slice_get s.events) befores ∙ second.is) in
      let times = first.at ∙ ap (λ e. amount e.time) events ∙ sym second.at in
      first.place ∙ ap (λ t. t ∷ 1 ∷ line ∷ []) times ∙ sym second.place;
}

-- ---- what is owed of `send` events on ways that are cut is due

-- a loss is one by other records that have its event
pub moved : {s : Scenario} {gs : List Happening} (hs : List Happening) {device : DeviceId} {t : ℕ} {link : LinkId}
    {cause : ℕ} (h : IsSendLost s gs device t link cause) → numbered hs cause ≡ Some h.event
    → IsSendLost s hs device t link cause
moved hs h there = grind arith

some_loss : {s : Scenario} {hs : List Happening} {until cause : ℕ} → IsFounded place_of (IsDue s) hs
    → (o : OwesLoss s hs until cause) → PaidAt s hs until (IsDueBySend s) o.time (λ x. TellsLoss cause x.note.body)
some_loss {s} {hs} {until} {cause} founded o =
    let body = notes.Lost o.device o.link cause in
    let p = place_at o.time 0 body in
    let at = split place_of (IsDue s) hs p founded in
    let event = o.lost.event in
    let low : rank event.note.body ≡ 1 = ap rank o.lost.sends in
    let sooner = ahead (time_of event) o.time (rank event.note.body) 9 (key (members_in event) event.note.body)
    (o.device.0 ∷ o.link.0 ∷ cause ∷ []) (omega (arith, o.lost.is.same_time)) (omega arith) in
    let lost = moved at.front o.lost (found_before s hs p founded at cause event o.lost.is.there sooner) in
    let x = next_of s at.front o.time body in
    let due : IsDueBySend s at.front x = record {
      due = next_is_due s at.front o.time body (inr (inr lost));
      device = o.device;
      link = o.link;
      cause = cause;
      lost = lost;
      says = refl;
    } in
    (x, due_there (IsDueBySend s) at x refl due, within o.time until (9 ∷ o.device.0 ∷ o.link.0 ∷ cause ∷ []) o.timely, refl, refl)

loss_owed : (s : Scenario) {hs : List Happening} (until : ℕ) {x : Happening} → IsDueIn place_of (IsDueBySend s) hs x
    → IsBefore (place_of x) ((until + 1) ∷ []) → (cause : ℕ) × (o : OwesLoss s hs until cause)
    × TellsLoss cause x.note.body × (time_of x ≡ o.time)
loss_owed s {hs} until {x} h here =
    let d = h.due in
    let owed : OwesLoss s hs until d.cause = record {
      device = d.device;
      link = d.link;
      time = time_of x;
      lost = moved hs d.lost (in_whole hs h.before h.behind d.cause d.lost.event h.parts d.lost.is.there);
      timely = timely (time_of x) until (rank x.note.body ∷ key (members_in x) x.note.body) here;
    } in
    (d.cause, owed, subst (TellsLoss d.cause) (sym d.says) refl, refl)

-- an event gives no frame, and is no taking
abbrev IsSending : NoteBody → Type 0
IsSending (notes.Event line what) = Unit {0}
IsSending other = ⊥

gives_none : (network : Network) (body : NoteBody) (device : DeviceId) (link : LinkId) → IsSending body → Gives network body device link → ⊥
gives_none network (notes.Event line what) device link e g = g
gives_none network other device link e g = absurd e

-- what is due and tells of the loss of what came from an event is due by it
by_send : {s : Scenario} {before : List Happening} {x : Happening} (cause : ℕ) → IsDue s before x
    → IsFounded place_of (IsDue s) before → (cause ≡ 0 → ⊥)
    → ((g : Happening) → numbered before cause ≡ Some g → IsSending g.note.body) → (body : NoteBody)
    → x.note.body ≡ body → IsCaused s before x.note.time body → TellsLoss cause body
    → (h : IsDueBySend s before x) × (h.cause ≡ cause)
by_send {s} {before} cause due founded some sends (notes.Lost device link from) is c e =
    let all : (g : Happening) → numbered before from ≡ Some g → IsSending g.note.body = λ g here.
    sends g (rw e at here) in
    elim c [
      | inl d ↦ absurd (gives_none s.network d.giving.note.body device link (all d.giving d.there) d.gives)
      | inr (inl row) ↦
          elim row.2.at_hand [
            | inl own ↦ absurd (some (sym e ∙ own.1))
            | inr taken ↦ absurd (subst IsSending taken.1.is (all taken.1.taken (taken_there s founded taken.1)))
          ]
      | inr (inr lost) ↦ (record { due = due; device = device; link = link; cause = from; lost = lost; says = is }, e)
    ]
by_send cause due founded some sends other is c e = absurd e

-- two losses of one event are at one place
same_place : {s : Scenario} {hs : List Happening} {t u : ℕ} {device other : DeviceId} {link by : LinkId}
    {cause from : ℕ} → cause ≡ from → IsSendLost s hs device t link cause → IsSendLost s hs other u by from
    → place_at t 0 (notes.Lost device link cause) ≡ place_at u 0 (notes.Lost other by from)
same_place causes a b = grind (arith, same_some, numbered, slice_get, time_of, place_at)

due_so : {s : Scenario} {hs : List Happening} {until cause : ℕ} {x : Happening} → IsFounded place_of (IsDue s) hs
    → OwesLoss s hs until cause → (h : IsDueIn place_of (IsDue s) hs x) → TellsLoss cause x.note.body
    → (d : IsDueBySend s h.before x) × (d.cause ≡ cause)
due_so {s} {hs} {cause} {x} founded o h tells =
    let event = o.lost.event in
    let sends : (g : Happening) → numbered h.before cause ≡ Some g → IsSending g.note.body = λ g there.
    let one = same_some (numbered hs cause) event g o.lost.is.there
    (in_whole hs h.before h.behind cause g h.parts there) in
    rw one at (subst IsSending (sym o.lost.sends) tt) in
    by_send cause h.due (front_of s hs (place_of x) founded (split_at (IsDue s) hs x h))
    (from_one hs cause event o.lost.is.there) sends
    x.note.body refl h.due.cause tells

due_lost : {s : Scenario} {hs : List Happening} {x : Happening} (h : IsDueIn place_of (IsDue s) hs x)
    (d : IsDueBySend s h.before x) → IsSendLost s hs d.device (time_of x) d.link d.cause
due_lost {hs} h d =
    moved hs d.lost (in_whole hs h.before h.behind d.cause d.lost.event h.parts d.lost.is.there)

pub loss_law : LossLaw
loss_law s hs until founded = record {
  each = λ x h here. loss_owed s until h here;
  some = λ cause o. some_loss founded o;
  one = λ cause x y o a b p q.
      let first = due_so founded o a p in
      let second = due_so founded o b q in
      let i = first.0 in
      let j = second.0 in
      ap (λ c. place_at (time_of x) (members_in x) c) i.says ∙ same_place (first.1 ∙ sym second.1)
      (due_lost a i) (due_lost b j)
      ∙ sym (ap (λ c. place_at (time_of y) (members_in y) c) j.says);
}

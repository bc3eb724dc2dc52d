-- What is owed is due and what is due is owed, and the first debt that is not paid.
use Rattle.std.{proofs.{Common.arith, lemmas.Bool.{and_left, lt-leb, ne_eqb, or_from}}, specs.Prelude.IsTrue}
use Rattle.audit_law.proofs.law_lemmas.{Arriving.{arrival_law, by_octets, same_standpoint}}
use Rattle.audit_law.proofs.law_lemmas.{Correcting.{by_point, comes_by, point_law}, Departing.departure_law}
use Rattle.audit_law.proofs.law_lemmas.{EventDebts.{clock_law, event_law, loss_law}}
use Rattle.audit_law.proofs.law_lemmas.{Permanence.{permanence_law, permanent_by, recorded}}
use Rattle.audit_law.proofs.law_lemmas.Founded
use Founded.{PaidAt, by_number, change_law, due_is_determined, due_there, earlier_in, next_is_due, next_of, number_is}
use Founded.{split_at, timely, within}
use Rattle.audit_law.proofs.law_lemmas.Sound
use Sound.{due_by_part, due_in, founded_of_sound, lack_of_unpaid, lacks_in_gaps, lacks_nothing, next_exactly}
use Sound.{none_unsound, one_due, one_unsound, run_exactly, unpaid_of_lack, within_of_sound}
use Rattle.audit_law.proofs.law_lemmas.Words
use Words.{◌++◌, ◌+◌, ◌<◌, ◌∙◌, ◌∷◌, ◌≡◌, ◌≤◌, ◌⊎◌, AllBefore, ArrivesAs, Bool, Debt, DeviceId, Dispatch, Happening}
use Words.{HasAccepted, IsBefore, IsCaused, IsDue, IsDueIn, IsFounded, IsIn, IsOwed, IsPaid, IsReach, IsRun, IsSplit}
use Words.{LinkId, List, None, NoteBody, Option, Pays, Scenario, Some, Units, VlId, [], amount, and_right, ap}
use Words.{append-nil, cases_lt, earlier, false, false_from_ne_true, filter, filter-append, front_founded}
use Words.{heard_since_point, in_parts, inl, inr, ints, is_before, is_there, is_turned_on_at, key, le-ltb, members_in}
use Words.{nat_le, nat_lt, none_kept, numbered, numbered_front, numbered_in, place_at, place_of, pos, rank, refl}
use Words.{ripe_as, same_earlier, split, state_after, subst, sym, time_of, true, units_of, up_to, ℕ}
use Rattle.audit_law.specs.law.{Arrivals.{IsDueByArrival, arrival_record}, Changes.IsDueByChange}
use Rattle.audit_law.specs.law.{CorrectionPoints.IsDueByPoint, Debts.AreDebts, Departures.IsDueByLeaving}
use Rattle.audit_law.specs.law.{EndClocks.IsDueByEnd}
use Rattle.audit_law.specs.law.{FirstDebts.{FirstDebtLaw, JoinedSortsLaw, TellsFirst, TellsUnpaid, earlier_of}}
use Rattle.audit_law.specs.law.{Laws.{AuditLaws, GapLaw, NextLaw}, LostSends.IsDueBySend, Owed.falls_due}
use Rattle.audit_law.specs.law.{Permanences.IsDueByPermanence, TracedEvents.IsDueByEvent}
use Rattle.audit_law.specs.law.DebtLaws
use DebtLaws.{DebtLaw, DispatchLaw, EmissionLaw, IsFirstDebt, IsFirstLack, LackLaw, SendingLaw, SettledLaw}
use DebtLaws.{ShowsInDebts}
use Rattle.audit_law.specs.law.Dispatched
use Dispatched.{IsDueByDispatch, IsDueBySending, OwesDispatch, OwesSending, Sending, TellsDispatch, TellsSending}
use Dispatched.{dispatch_record, is_cut_then}
use Rattle.audit_law.specs.law.Emitted
use Emitted.{IsDueByEmission, OwesEmission, TellsEmission, before_place, emission_place, emission_record}
use Rattle.compression.specs.declared.compressed.Compressed.{Compressed}
use Rattle.drift_clock.proofs.Drifts.{one_reach}
use Rattle.run_law.proofs.{device.States.reaches_by, law.FirstDeliveries.accepted_in, records.Order.before_is}
use Rattle.run_law.proofs.{timed.Rows.at_hand_by}
use Rattle.run_law.specs.{control.{Leaving.{leaves, on_cut_way, too_old}, Wires.{Signal, control, timed}}}
use Rattle.run_law.specs.{declared.steps.Arrival.Arrival, records.Causes.cause_of}
use Rattle.run_law.specs.timed.{Dispatching.{Dispatches, IsUp, Sends}}
use Rattle.run_law.specs.timed.{Receptions.{arrival_of, is_taken_before, last_taken}}
use Rattle.tte_units.proofs.general_lemmas.Naturals.{below_next}
use Rattle.audit_law.specs.law.Owed as debts
use Rattle.run_law.specs.declared.judgement.Why.TheVariants as whys
use Rattle.run_law.specs.declared.note.NoteBody.TheVariants as notes
use Rattle.run_law.specs.declared.steps.Arrival.TheVariants as arrivals
use Rattle.run_law.specs.declared.steps.Ripe.TheVariants as ripe

-- ---- what is owed is due, and what is due is owed, so a list with nothing wrong and no debts is the run

-- ---- what is owed of schedules is due

-- ---- what the records of earlier times tell

up_by : {s : Scenario} {gs : List Happening} (hs : List Happening) {device : DeviceId} {t : ℕ}
    → earlier t gs ≡ earlier t hs → IsUp s gs device t → IsUp s hs device t
up_by hs same h = grind (arith, is_turned_on_at, state_after)

module _ (s : Scenario) (gs hs : List Happening) (device : DeviceId) (t : ℕ) where
  sends_by : {cycle : ℕ} → earlier t gs ≡ earlier t hs → Sends s gs device t cycle → Sends s hs device t cycle
  sends_by same h = grind (arith, up_by, reaches_by, amount)

  dispatches_by : {link : LinkId} {cause : ℕ} {vl : VlId} {cycle : ℕ} → earlier t gs ≡ earlier t hs
      → Dispatches s gs device t link cause vl cycle → Dispatches s hs device t link cause vl cycle
  dispatches_by same h = grind (arith, up_by, reaches_by, amount, at_hand_by)

-- ---- sendings

some_sending : {s : Scenario} {hs : List Happening} {until : ℕ} {o : Sending} → IsFounded place_of (IsDue s) hs
    → OwesSending s hs until o → PaidAt s hs until (IsDueBySending s) o.time (λ x. TellsSending o x)
some_sending {s} {hs} {until} {o} founded owed =
    let body = notes.Sent o.device o.cycle in
    let p = place_at o.time 0 body in
    let at = split place_of (IsDue s) hs p founded in
    let sends = sends_by s hs at.front o.device o.time (sym (same_earlier o.time _ at)) owed.sends in
    let x = next_of s at.front o.time body in
    let due : IsDueBySending s at.front x =
    record { due = next_is_due s at.front o.time body sends; device = o.device; cycle = o.cycle; sends = sends; says = refl } in
    let here = within o.time until (5 ∷ o.device.0 ∷ o.cycle ∷ []) owed.timely in
    (x, due_there (IsDueBySending s) at x refl due, here, record { at = refl; says = refl }, refl)

sending_owed : (s : Scenario) {hs : List Happening} (until : ℕ) {x : Happening}
    → IsDueIn place_of (IsDueBySending s) hs x → IsBefore (place_of x) ((until + 1) ∷ [])
    → (o : Sending) × OwesSending s hs until o × TellsSending o x × (time_of x ≡ o.time)
sending_owed s {hs} until {x} h here =
    let d = h.due in
    let o : Sending = record { device = d.device; cycle = d.cycle; time = time_of x } in
    let owed : OwesSending s hs until o = record {
      sends = sends_by s h.before hs d.device (time_of x) (earlier_in (IsDueBySending s) h) d.sends;
      timely = timely (time_of x) until (rank x.note.body ∷ key (members_in x) x.note.body) here;
    } in
    (o, owed, record { at = refl; says = d.says }, refl)

sending_place : {o : Sending} {x : Happening} → TellsSending o x
    → place_of x ≡ place_at o.time 0 (notes.Sent o.device o.cycle)
sending_place {o} {x} h = rw h.says (ap
    (λ t. place_at t 0 (notes.Sent o.device o.cycle)) h.at)

pub sending_law : SendingLaw
sending_law s hs until founded = record {
  each = λ x h here. sending_owed s until h here;
  some = λ o owed. some_sending founded owed;
  one = λ o x y owed a b p q. sending_place p ∙ sym (sending_place q);
}

-- ---- dispatches

-- the record of a dispatch does not show the members of a frame
record_place : (t m : ℕ) (o : Dispatch) (cut : Bool) → place_at t m (dispatch_record o cut) ≡ place_at t 0 (dispatch_record o cut)
record_place t m o true = refl
record_place t m o false = refl

causes_record : {s : Scenario} {gs : List Happening} (o : Dispatch) (cut : Bool) → is_cut_then s o ≡ cut
    → Dispatches s gs o.device o.time o.link o.cause o.vl o.cycle
    → IsCaused s gs (units_of o.time) (dispatch_record o cut)
causes_record o true is h = inr (inl (o.vl, o.cycle, h, is))
causes_record o false is h = record { dispatches = h; whole = is }

some_dispatch : {s : Scenario} {hs : List Happening} {until : ℕ} {o : Dispatch} → IsFounded place_of (IsDue s) hs
    → OwesDispatch s hs until o → PaidAt s hs until (IsDueByDispatch s) o.time (λ x. TellsDispatch s o x)
some_dispatch {s} {hs} {until} {o} founded owed =
    let cut = is_cut_then s o in
    let body = dispatch_record o cut in
    let p = o.time ∷ rank body ∷ key 0 body in
    let at = split place_of (IsDue s) hs p founded in
    let dispatches = dispatches_by s hs at.front o.device o.time (sym (same_earlier o.time _ at)) owed.dispatches in
    let x = next_of s at.front o.time body in
    let due : IsDueByDispatch s at.front x = record {
      due = next_is_due s at.front o.time body (causes_record o cut refl dispatches);
      is = o;
      at = refl;
      dispatches = dispatches;
      says = refl;
    } in (
      x,
      due_there (IsDueByDispatch s) at x (record_place o.time (members_in x) o cut) due,
      within o.time until (rank body ∷ key (members_in x) body) owed.timely,
      record { at = refl; says = refl },
      refl,
    )

dispatch_owed : (s : Scenario) {hs : List Happening} (until : ℕ) {x : Happening}
    → IsDueIn place_of (IsDueByDispatch s) hs x → IsBefore (place_of x) ((until + 1) ∷ [])
    → (o : Dispatch) × OwesDispatch s hs until o × TellsDispatch s o x × (time_of x ≡ o.time)
dispatch_owed s {hs} until {x} h here =
    let d = h.due in
    let same : earlier d.is.time h.before ≡ earlier d.is.time hs =
    rw d.at at (earlier_in (IsDueByDispatch s) h) in
    let owed : OwesDispatch s hs until d.is = record {
      dispatches = dispatches_by s h.before hs d.is.device d.is.time same d.dispatches;
      timely = rw d.at at (timely (time_of x) until (rank x.note.body ∷ key (members_in x) x.note.body) here);
    } in
    (d.is, owed, record { at = d.at; says = d.says }, d.at)

dispatch_place : {s : Scenario} {o : Dispatch} {x : Happening} → TellsDispatch s o x
    → place_of x ≡ place_at o.time 0 (dispatch_record o (is_cut_then s o))
dispatch_place h = grind (arith, place_at, time_of, members_in, record_place)

pub dispatch_law : DispatchLaw
dispatch_law s hs until founded = record {
  each = λ x h here. dispatch_owed s until h here;
  some = λ o owed. some_dispatch founded owed;
  one = λ o x y owed a b p q. dispatch_place p ∙ sym (dispatch_place q);
}

-- ---- what is owed of clusters is due

-- ---- the records before a place

all_kept : (hs : List Happening) (p : List ℕ) → AllBefore place_of hs p → before_place hs p ≡ hs
all_kept [] p all = refl
all_kept (h ∷ hs) p all =
    rw (before_is (place_of h) p (all h (inl refl)))
    (ap (λ gs. h ∷ gs) (all_kept hs p (λ g i. all g (inr i))))

-- where a list parts at a place, its front is the records before that
pub before_is_front : {hs : List Happening} {p : List ℕ} (at : IsSplit place_of hs p) → before_place hs p ≡ at.front
before_is_front at =
    grind (arith, is_before, place_of, filter, none_kept, false_from_ne_true, is_there, filter-append, append-nil, all_kept)

-- ---- the law

some_emission : {s : Scenario} {hs : List Happening} {until : ℕ} {device : DeviceId} {sent : Compressed}
    → IsFounded place_of (IsDue s) hs → (o : OwesEmission s hs until device sent)
    → PaidAt s hs until (IsDueByEmission s) o.time (λ x. TellsEmission device sent x.note.body)
some_emission {s} {hs} {until} {device} {sent} founded o =
    let body = emission_record device sent o.verdict in
    let p = emission_place o.time device sent in
    let at = split place_of (IsDue s) hs p founded in
    let emits = rw (before_is_front at) at o.emits in
    let x = next_of s at.front o.time body in
    let due : IsDueByEmission s at.front x = record {
      due = next_is_due s at.front o.time body emits;
      device = device;
      sent = sent;
      verdict = o.verdict;
      emits = emits;
      says = refl;
    } in
    let here = within o.time until (rank body ∷ key (members_in x) body) o.timely in
    (x, due_there (IsDueByEmission s) at x refl due, here, (refl, refl, refl, refl, refl), refl)

-- the place of what is due by an emission
due_place : {s : Scenario} {before : List Happening} {x : Happening} (h : IsDueByEmission s before x)
    → place_of x ≡ emission_place (time_of x) h.device h.sent
due_place {x} h = rw h.says

emission_owed : (s : Scenario) {hs : List Happening} (until : ℕ) {x : Happening}
    → IsDueIn place_of (IsDueByEmission s) hs x → IsBefore (place_of x) ((until + 1) ∷ [])
    → (given : DeviceId × Compressed) × (o : OwesEmission s hs until given.0 given.1)
    × TellsEmission given.0 given.1 x.note.body × (time_of x ≡ o.time)
emission_owed s {hs} until {x} h here =
    let d = h.due in
    let front : before_place hs (emission_place (time_of x) d.device d.sent) ≡ h.before =
    ap (before_place hs) (sym (due_place d)) ∙ before_is_front (split_at (IsDueByEmission s) hs x h) in
    let owed : OwesEmission s hs until d.device d.sent = record {
      time = time_of x;
      verdict = d.verdict;
      emits = rw front d.emits;
      timely = timely (time_of x) until (rank x.note.body ∷ key (members_in x) x.note.body) here;
    } in
    ((d.device, d.sent), owed, subst (TellsEmission d.device d.sent) (sym d.says) (refl, refl, refl, refl, refl), refl)

-- a record that is due and tells of an emission
record IsEmitted (s : Scenario) (device : DeviceId) (sent : Compressed) (x : Happening) : Type 0 where
  pub place : place_of x ≡ emission_place (time_of x) device sent
  pub reached : IsReach (s.reading device) (pos 0) sent.at.0 (pos (time_of x))

emitted : (s : Scenario) (before : List Happening) (device : DeviceId) (sent : Compressed) (x : Happening) (body : NoteBody)
    → x.note.body ≡ body → IsCaused s before x.note.time body → TellsEmission device sent body → IsEmitted s device sent x
emitted s before device sent x (notes.Compressed other opened at cycle members verdict) is c e = grind (arith, place_at, time_of, members_in)
emitted s before device sent x other is c e = absurd e

pub emission_law : EmissionLaw
emission_law s hs until founded = record {
  each = λ x h here. emission_owed s until h here;
  some = λ given o. some_emission founded o;
  one = λ given x y o a b p q.
      let first = emitted s a.before given.0 given.1 x x.note.body refl a.due.cause p in
      let second = emitted s b.before given.0 given.1 y y.note.body refl b.due.cause q in
      let times = one_reach (s.reading given.0) (pos 0) given.1.at.0 (time_of x) (time_of y) first.reached second.reached in
      first.place ∙ ap (λ t. emission_place t given.0 given.1) times ∙ sym second.place;
}

-- ---- what is due is owed in one of these ways, so a list is the run exactly where it is sound and its debts are paid

-- what is due in a list is due in it so, where it is due so given its front
part_in : (s : Scenario) (IsDueSo : List Happening → Happening → Type 0) {hs : List Happening} {x : Happening}
    (h : IsDueIn place_of (IsDue s) hs x) → IsDueSo h.before x → IsDueIn place_of IsDueSo hs x
part_in s IsDueSo h d =
    record { before = h.before; behind = h.behind; parts = h.parts; all_before = h.all_before; none_before = h.none_before; due = d }

-- a record that pays a debt of the list
abbrev PaysOne : Scenario → List Happening → ℕ → Happening → Type 0
PaysOne s hs until x = (o : Debt) × (owed : IsOwed s hs until o) × Pays s x o × (time_of x ≡ falls_due s hs until o owed)

-- a record that is due in a founded list, up to a time
record IsDueUpTo (s : Scenario) (hs : List Happening) (until : ℕ) (x : Happening) : Type 0 where
  pub founded : IsFounded place_of (IsDue s) hs
  pub due : IsDueIn place_of (IsDue s) hs x
  pub here : IsBefore (place_of x) ((until + 1) ∷ [])

module _ {s : Scenario} {hs : List Happening} {until : ℕ} {x : Happening} (h : IsDueUpTo s hs until x) where
  for_arrival : IsDueByArrival s h.due.before x → PaysOne s hs until x
  for_arrival d =
      let r = (arrival_law s hs until h.founded).each x (part_in s (IsDueByArrival s) h.due d) h.here in
      (debts.arrival r.0, r.1, r.2, r.3)

  for_permanence : IsDueByPermanence s h.due.before x → PaysOne s hs until x
  for_permanence d =
      let r = (permanence_law s hs until h.founded).each x (part_in s (IsDueByPermanence s) h.due d) h.here in
      (debts.permanence r.0, r.1, r.2, r.3)

  for_point : IsDueByPoint s h.due.before x → PaysOne s hs until x
  for_point d =
      let r = (point_law s hs until h.founded).each x (part_in s (IsDueByPoint s) h.due d) h.here in
      (debts.point r.0.0 r.0.1, r.1, r.2, r.3)

  for_change : IsDueByChange s h.due.before x → PaysOne s hs until x
  for_change d =
      let r = (change_law s hs until h.founded).each x (part_in s (IsDueByChange s) h.due d) h.here in
      (debts.change r.0, r.1, r.2, r.3)

  for_leaving : IsDueByLeaving s h.due.before x → PaysOne s hs until x
  for_leaving d =
      let r = (departure_law s hs until h.founded).each x (part_in s (IsDueByLeaving s) h.due d) h.here in
      (debts.departure r.0.0 r.0.1, r.1, r.2, r.3)

  for_dispatch : IsDueByDispatch s h.due.before x → PaysOne s hs until x
  for_dispatch d =
      let r = (dispatch_law s hs until h.founded).each x (part_in s (IsDueByDispatch s) h.due d) h.here in
      (debts.dispatch r.0, r.1, r.2, r.3)

  -- each record that is due pays a debt
  pays_one : (body : NoteBody) → x.note.body ≡ body → IsCaused s h.due.before x.note.time body → PaysOne s hs until x
  pays_one (notes.Event line what) is c =
      let d : IsDueByEvent s h.due.before x =
      record { due = h.due.due; line = line; what = what; befalls = c; says = is } in
      let r = (event_law s hs until h.founded).each x (part_in s (IsDueByEvent s) h.due d) h.here in
      (debts.event r.0, r.1, r.2, r.3)
  pays_one (notes.Arrived device link cause clock) is c =
      let shown =
      is ∙ ap (λ k. notes.Arrived device link cause k) c.shows in
      let of : (a : Arrival) → ArrivesAs s h.due.before device (time_of x) link cause a → x.note.body
      ≡ arrival_record device link cause a → PaysOne s hs until x
      = λ a arrives says.
      for_arrival (record { due = h.due.due; device = device; link = link; cause = cause; is = a; arrives = arrives; says = says }) in
      elim c.taken [
        | inl w ↦ of (arrivals.Waits c.frame c.point) w shown
        | inr (inl p) ↦ of (arrivals.Passes c.frame c.way) p shown
        | inr (inr b) ↦ of (arrivals.PassesAndWaits c.frame c.way c.point) b shown
      ]
  pays_one (notes.Permanent device link cause point verdict) is c =
      for_permanence (record {
        due = h.due.due;
        device = device;
        link = link;
        cause = cause;
        point = point;
        is = ripe_as verdict;
        becomes = c;
        says = is ∙ sym (recorded device link cause point verdict);
      })
  pays_one (notes.Compressed device opened at cycle members verdict) is c =
      let d : IsDueByEmission s h.due.before x = record {
        due = h.due.due;
        device = device;
        sent = record { opened = opened; at = at; cycle = cycle; members = members };
        verdict = verdict;
        emits = c;
        says = is;
      } in
      let r = (emission_law s hs until h.founded).each x (part_in s (IsDueByEmission s) h.due d) h.here in
      (debts.emission r.0.0 r.0.1, r.1, r.2, r.3)
  pays_one (notes.Sent device cycle) is c =
      let d : IsDueBySending s h.due.before x =
      record { due = h.due.due; device = device; cycle = cycle; sends = c; says = is } in
      let r = (sending_law s hs until h.founded).each x (part_in s (IsDueBySending s) h.due d) h.here in
      (debts.sending r.0, r.1, r.2, r.3)
  pays_one (notes.Corrected device cycle by adjustment) is c =
      for_point (by_point device h.due.due (notes.Corrected device cycle by adjustment) is c refl).0
  pays_one (notes.State device state cause whys.SyncClique) is c =
      for_point (by_point device h.due.due (notes.State device state cause whys.SyncClique) is c refl).0
  pays_one (notes.State device state cause whys.AsyncClique) is c =
      for_point (by_point device h.due.due (notes.State device state cause whys.AsyncClique) is c refl).0
  pays_one (notes.State device state cause whys.On) is c =
      for_change
      (record { due = h.due.due; device = device; state = state; cause = cause; why = whys.On; brought = tt; changes = c; says = is })
  pays_one (notes.State device state cause whys.Frame) is c =
      for_change
      (record { due = h.due.due; device = device; state = state; cause = cause; why = whys.Frame; brought = tt; changes = c; says = is })
  pays_one (notes.State device state cause whys.Correction) is c =
      for_change
      (record { due = h.due.due; device = device; state = state; cause = cause; why = whys.Correction; brought = tt; changes = c; says = is })
  pays_one (notes.Left device link cause clock) is c =
      for_leaving (record { due = h.due.due; device = device; link = link; cause = cause; is = leaves clock; departs = c; says = is })
  pays_one (notes.Lost device link cause) is c =
      elim c [
        | inl d ↦ for_leaving (record { due = h.due.due; device = device; link = link; cause = cause; is = on_cut_way; departs = d; says = is })
        | inr (inl row) ↦
            let o : Dispatch =
            record { device = device; link = link; cause = cause; vl = row.0; cycle = row.1; time = time_of x } in
            for_dispatch
            (record { due = h.due.due; is = o; at = refl; dispatches = row.2; says = is ∙ sym (ap (dispatch_record o) row.3) })
        | inr (inr lost) ↦
            let d : IsDueBySend s h.due.before x =
            record { due = h.due.due; device = device; link = link; cause = cause; lost = lost; says = is } in
            let r = (loss_law s hs until h.founded).each x (part_in s (IsDueBySend s) h.due d) h.here in
            (debts.loss r.0, r.1, r.2, r.3)
      ]
  pays_one (notes.TtSent device link cause vl cycle) is c =
      let o : Dispatch =
      record { device = device; link = link; cause = cause; vl = vl; cycle = cycle; time = time_of x } in
      for_dispatch
      (record { due = h.due.due; is = o; at = refl; dispatches = c.dispatches; says = is ∙ sym (ap (dispatch_record o) c.whole) })
  pays_one (notes.Accepted device link cause vl cycle) is c =
      for_arrival
      (record { due = h.due.due; device = device; link = link; cause = cause; is = arrivals.Accepted vl cycle; arrives = c; says = is })
  pays_one (notes.Delivered device link cause vl cycle) is c =
      for_arrival
      (record { due = h.due.due; device = device; link = link; cause = cause; is = arrivals.Delivered vl cycle; arrives = c; says = is })
  pays_one (notes.Dropped device link cause reason) is c =
      elim c [
        | inl a ↦
            for_arrival
            (record { due = h.due.due; device = device; link = link; cause = cause; is = arrivals.Dropped reason; arrives = a; says = is })
        | inr (inl r) ↦
            for_permanence
            (record { due = h.due.due; device = device; link = link; cause = cause; point = r.0; is = ripe.Dropped reason; becomes = r.1; says = is })
        | inr (inr l) ↦
            let old =
            is ∙ ap (λ r. notes.Dropped device link cause r) l.1 in
            for_leaving (record { due = h.due.due; device = device; link = link; cause = cause; is = too_old; departs = l.0; says = old })
      ]
  pays_one (notes.Clock device shown adjustment state) is c =
      let d : IsDueByEnd s h.due.before x =
      record { due = h.due.due; device = device; shown = shown; adjustment = adjustment; state = state; clock = c; says = is } in
      let r = (clock_law s hs until h.founded).each x (part_in s (IsDueByEnd s) h.due d) h.here in
      (debts.clock r.0.0 r.0.1, r.1, r.2, r.3)

module _ (s : Scenario) (hs : List Happening) (until : ℕ) (founded : IsFounded place_of (IsDue s) hs) where
  -- each debt is to be paid by a record that is due
  is_payable : (o : Debt) (owed : IsOwed s hs until o)
      → PaidAt s hs until (IsDue s) (falls_due s hs until o owed) (λ x. Pays s x o)
  is_payable (debts.event line) o =
      let r = (event_law s hs until founded).some line o in
      (r.0, due_by_part place_of (IsDue s) (IsDueByEvent s) (λ ps x d. d.due) r.1, r.2, r.3, r.4)
  is_payable (debts.arrival cause) o =
      let r = (arrival_law s hs until founded).some cause o in
      (r.0, due_by_part place_of (IsDue s) (IsDueByArrival s) (λ ps x d. d.due) r.1, r.2, r.3, r.4)
  is_payable (debts.permanence cause) o =
      let r = (permanence_law s hs until founded).some cause o in
      (r.0, due_by_part place_of (IsDue s) (IsDueByPermanence s) (λ ps x d. d.due) r.1, r.2, r.3, r.4)
  is_payable (debts.emission device sent) o =
      let r = (emission_law s hs until founded).some (device, sent) o in
      (r.0, due_by_part place_of (IsDue s) (IsDueByEmission s) (λ ps x d. d.due) r.1, r.2, r.3, r.4)
  is_payable (debts.sending given) o =
      let r = (sending_law s hs until founded).some given o in
      (r.0, due_by_part place_of (IsDue s) (IsDueBySending s) (λ ps x d. d.due) r.1, r.2, r.3, r.4)
  is_payable (debts.point device time) o =
      let r = (point_law s hs until founded).some (device, time) o in
      (r.0, due_by_part place_of (IsDue s) (IsDueByPoint s) (λ ps x d. d.due) r.1, r.2, r.3, r.4)
  is_payable (debts.change cause) o =
      let r = (change_law s hs until founded).some cause o in
      (r.0, due_by_part place_of (IsDue s) (IsDueByChange s) (λ ps x d. d.due) r.1, r.2, r.3, r.4)
  is_payable (debts.departure cause link) o =
      let r = (departure_law s hs until founded).some (cause, link) o in
      (r.0, due_by_part place_of (IsDue s) (IsDueByLeaving s) (λ ps x d. d.due) r.1, r.2, r.3, r.4)
  is_payable (debts.dispatch given) o =
      let r = (dispatch_law s hs until founded).some given o in
      (r.0, due_by_part place_of (IsDue s) (IsDueByDispatch s) (λ ps x d. d.due) r.1, r.2, r.3, r.4)
  is_payable (debts.loss cause) o =
      let r = (loss_law s hs until founded).some cause o in
      (r.0, due_by_part place_of (IsDue s) (IsDueBySend s) (λ ps x d. d.due) r.1, r.2, r.3, r.4)
  is_payable (debts.clock device time) o =
      let r = (clock_law s hs until founded).some (device, time) o in
      (r.0, due_by_part place_of (IsDue s) (IsDueByEnd s) (λ ps x d. d.due) r.1, r.2, r.3, r.4)

  -- and what pays for one has one place
  has_one_place : (o : Debt) {x y : Happening} → IsOwed s hs until o → IsDueIn place_of (IsDue s) hs x
      → IsDueIn place_of (IsDue s) hs y → Pays s x o → Pays s y o → place_of x ≡ place_of y
  has_one_place (debts.event line) {x} {y} = (event_law s hs until founded).one line x y
  has_one_place (debts.arrival cause) {x} {y} = (arrival_law s hs until founded).one cause x y
  has_one_place (debts.permanence cause) {x} {y} = (permanence_law s hs until founded).one cause x y
  has_one_place (debts.emission device sent) {x} {y} = (emission_law s hs until founded).one (device, sent) x y
  has_one_place (debts.sending given) {x} {y} = (sending_law s hs until founded).one given x y
  has_one_place (debts.point device time) {x} {y} = (point_law s hs until founded).one (device, time) x y
  has_one_place (debts.change cause) {x} {y} = (change_law s hs until founded).one cause x y
  has_one_place (debts.departure cause link) {x} {y} = (departure_law s hs until founded).one (cause, link) x y
  has_one_place (debts.dispatch given) {x} {y} = (dispatch_law s hs until founded).one given x y
  has_one_place (debts.loss cause) {x} {y} = (loss_law s hs until founded).one cause x y
  has_one_place (debts.clock device time) {x} {y} = (clock_law s hs until founded).one (device, time) x y

  -- these are the debts of a founded list
  all_debts : AreDebts place_of (IsDue s) (IsDue s) ((until + 1) ∷ []) hs (IsOwed s hs until) (falls_due s hs until)
      (Pays s)
  all_debts = record {
    each = λ x h here.
        let up : IsDueUpTo s hs until x = record { founded = founded; due = h; here = here } in
        pays_one up x.note.body refl h.due.cause;
    some = λ o owed. is_payable o owed;
    one = λ o x y. has_one_place o;
  }

-- in a run each debt is paid
paid_in_run : (s : Scenario) {hs : List Happening} (until : ℕ) → IsRun place_of (IsDue s) ((until + 1) ∷ []) hs
    → (o : Debt) → IsOwed s hs until o → IsPaid hs (Pays s) o
paid_in_run s {hs} until run o owed =
    let x = is_payable s hs until run.founded o owed in
    let there = run.full x.1.before x.1.behind x.0 x.1.parts x.1.all_before x.1.none_before x.1.due x.2 in
    let same =
    one_due place_of (IsDue s) (due_is_determined s) (due_in place_of (IsDue s) hs there.0 run.founded there.1) x.1
    there.2 in
    (there.0, there.1, rw same x.3)

abbrev first_of : List ℕ → ℕ
first_of [] = 0
first_of (t ∷ rest) = t

-- records at one place are of one time
pub same_time : (x y : Happening) → place_of x ≡ place_of y → time_of x ≡ time_of y
same_time x y same = ap first_of same

-- a debt falls due at one time, however it is owed
one_time : (s : Scenario) (hs : List Happening) (until : ℕ) → IsFounded place_of (IsDue s) hs → (o : Debt)
    (a b : IsOwed s hs until o) → falls_due s hs until o a ≡ falls_due s hs until o b
one_time s hs until founded o a b =
    let x = is_payable s hs until founded o a in
    let y = is_payable s hs until founded o b in
    let same = has_one_place s hs until founded o a x.1 y.1 x.3 y.3 in
    sym x.4 ∙ same_time x.0 y.0 same ∙ y.4

pub debt_law : DebtLaw
debt_law s hs until sound =
    let founded = founded_of_sound place_of (IsDue s) ((until + 1) ∷ []) hs sound in
    let all = all_debts s hs until founded in
    let inside = within_of_sound place_of (IsDue s) ((until + 1) ∷ []) hs sound in
    record {
      pays = λ x i. let r = all.each x (due_in place_of (IsDue s) hs x founded i) (inside x i) in (r.0, r.1, r.2);
      paid = λ x i o owed pays.
          let y = is_payable s hs until founded o owed in
          let same = all.one o x y.0 owed (due_in place_of (IsDue s) hs x founded i) y.1 pays y.3 in
          same_time x y.0 same ∙ y.4;
      lacking = λ x lack here.
          unpaid_of_lack (IsDue s) (IsDue s) (IsOwed s hs until) (Pays s) (λ ps y d. d) all sound lack here;
      unpaid = λ o owed not.
          lack_of_unpaid (IsDue s) (IsDue s) (IsOwed s hs until) (Pays s)
          (due_is_determined s) (λ ps y d. d) all sound o owed not;
      run = (
        λ run o owed. paid_in_run s until run o owed,
        λ paid. (run_exactly place_of (IsDue s) ((until + 1) ∷ []) hs).1 (
          sound,
          lacks_nothing (IsDue s) (IsDue s) (IsOwed s hs until) (Pays s) (λ ps y d. d) all sound paid,
        ),
      );
    }

-- ---- what may be found wrong with the records of a scenario

pub audit_laws : AuditLaws
audit_laws s mark hs = record {
  run = run_exactly place_of (IsDue s) mark hs;
  sound = none_unsound place_of (IsDue s) mark hs;
  one = one_unsound place_of (IsDue s) mark hs;
}

-- ---- causes

-- it has no cause, or this one
abbrev HasCauseAt : List Happening → ℕ → Type 0
HasCauseAt before cause = (cause ≡ 0) ⊎ ((h : Happening) × (numbered before cause ≡ Some h))

module _ (s : Scenario) (before : List Happening) where
  -- what a switch has at hand was given by a record before, and by its number
  has_number : {device : DeviceId} {vl : VlId} {t cause cycle : ℕ} → IsFounded place_of (IsDue s) before
      → HasAccepted before device vl t cause cycle → HasCauseAt before cause
  has_number founded has =
      let found = by_number s before has.taken founded (accepted_in has) in
      inr (has.taken, rw has.number found)

  caused : (time : Units) (body : NoteBody) → IsFounded place_of (IsDue s) before → IsCaused s before time body
      → HasCauseAt before (cause_of body)
  caused time (notes.Event line what) founded h = inl refl
  caused time (notes.Arrived device link cause clock) founded h = grind arith
  caused time (notes.Permanent device link cause point verdict) founded h = inr (h.permanent.arrival, h.permanent.there)
  caused time (notes.Compressed device opened at cycle members verdict) founded h = inl refl
  caused time (notes.Sent device cycle) founded h = inl refl
  caused time (notes.Corrected device cycle by adjustment) founded h = inl refl
  caused time (notes.State device state cause whys.On) founded h = inr (h.2.1, h.2.2.there)
  caused time (notes.State device state cause whys.Frame) founded h = inr (h.1.0, h.1.1.there)
  caused time (notes.State device state cause whys.Correction) founded h = inr (h.2.3, h.2.4.there)
  caused time (notes.State device state cause whys.SyncClique) founded h = inl h.1
  caused time (notes.State device state cause whys.AsyncClique) founded h = inl h.1
  caused time (notes.Left device link cause clock) founded h = inr (h.giving, h.there)
  caused time (notes.Lost device link cause) founded h =
      elim h [
        | inl left_by ↦ inr (left_by.giving, left_by.there)
        | inr (inl row) ↦ elim row.2.at_hand [ inl own ↦ inl own.1 | inr taken ↦ has_number founded taken.1 ]
        | inr (inr send) ↦ inr (send.event, send.is.there)
      ]
  caused time (notes.TtSent device link cause vl cycle) founded h =
      elim h.dispatches.at_hand [ inl own ↦ inl own.1 | inr taken ↦ has_number founded taken.1 ]
  caused time (notes.Accepted device link cause vl cycle) founded h = inr (h.putting, h.there)
  caused time (notes.Delivered device link cause vl cycle) founded h = inr (h.putting, h.there)
  caused time (notes.Dropped device link cause reason) founded h = grind arith
  caused time (notes.Clock device reading adjustment state) founded h = inl refl

pub gap_law : GapLaw
gap_law s mark hs sound = record {
  lacks = λ x. let both = lacks_in_gaps place_of (IsDue s) hs x in (
    λ l. let g = both.0 l in record { before = g.before; behind = g.rest; parts = g.parts; gap = g.gap },
    λ g. both.1 (record { before = g.before; rest = g.behind; parts = g.parts; gap = g.gap }),
  );
  linked = λ before behind h e.
      let x = sound before behind h e in
      let front = front_founded place_of (IsDue s) before (h ∷ behind) (subst (IsFounded place_of (IsDue s)) e
      (founded_of_sound place_of (IsDue s) mark hs sound)) in
      caused s before h.note.time h.note.body front x.due.cause;
}

pub next_law : NextLaw
next_law s mark hs x run = next_exactly (IsDue s) x run

-- ---- what is owed up to a time is told by the records up to then

-- ---- two lists that tell the same up to a time

record TellsSame (gs hs : List Happening) (until : ℕ) : Type 0 where
  pub numbers : (n : ℕ) (h : Happening) → time_of h ≤ until → numbered gs n ≡ Some h → numbered hs n ≡ Some h
  pub earliers : (t : ℕ) → t ≤ until → earlier t gs ≡ earlier t hs
  pub ups : (t : ℕ) → t ≤ until → up_to t gs ≡ up_to t hs
  pub befores : (t : ℕ) (ks : List ℕ) → t ≤ until → before_place gs (t ∷ ks) ≡ before_place hs (t ∷ ks)
  pub takens : (device : DeviceId) (vl : VlId) (t : ℕ) (link : LinkId) (cause : ℕ) → t ≤ until
      → last_taken gs device t link cause vl ≡ last_taken hs device t link cause vl

-- what a filter keeps of a list is what it keeps of its front, where it keeps none of the rest
of_front : (test : Happening → Bool) (gs rest : List Happening) → ((h : Happening) → IsIn h rest → test h ≡ false) → filter test gs ≡ filter test (gs ++ rest)
of_front test gs rest fails = grind (arith, append-nil, filter, none_kept, filter-append)

-- a later record is not taken before
not_taken : (t u : ℕ) (device : DeviceId) (vl : VlId) (link : LinkId) (cause : ℕ) (body : NoteBody) → t < u
    → is_taken_before device vl t link cause u body ≡ false
not_taken t u device vl link cause (notes.Accepted other by from of_vl cycle) late = grind (arith, and_right, nat_lt, or_from, le-ltb, and_left, ne_eqb)
not_taken t u device vl link cause (notes.Delivered other by from of_vl cycle) late = grind (arith, and_right, nat_lt, or_from, le-ltb, and_left, ne_eqb)
not_taken t u device vl link cause other late = refl

not_before : (h : Happening) (t : ℕ) (ks : List ℕ) → t < time_of h → is_before (place_of h) (t ∷ ks) ≡ false
not_before h t ks late = grind (arith, false_from_ne_true, is_before, place_of, is_there)

-- a list and its front, behind which all is later
front_tells : (gs rest : List Happening) (until : ℕ) → ((h : Happening) → IsIn h rest → until < time_of h) → TellsSame gs (gs ++ rest) until
front_tells gs rest until late = record {
  numbers = λ n h le there. numbered_front gs rest n h there;
  earliers = λ t le. of_front (λ h. nat_lt (time_of h) t) gs rest
      (λ h i. le-ltb (time_of h) t (let l = late h i in omega arith));
  ups = λ t le. of_front (λ h. nat_le (time_of h) t) gs rest
      (λ h i. lt-leb (time_of h) t (let l = late h i in omega arith));
  befores = λ t ks le. of_front (λ h. is_before (place_of h) (t ∷ ks)) gs rest
      (λ h i. not_before h t ks (let l = late h i in omega arith));
  takens = λ device vl t link cause le.
      rw (of_front (λ h. is_taken_before device vl t link cause (time_of h) h.note.body) gs rest
      (λ h i. not_taken t (time_of h) device vl link cause h.note.body (let l = late h i in omega arith)));
}

module _ (s : Scenario) (gs rest : List Happening) (until : ℕ) (founded : IsFounded place_of (IsDue s) (gs ++ rest))
    (late : ((h : Happening) → IsIn h rest → until < time_of h)) where
  -- a record up to the time is in the front
  in_front : (n : ℕ) (h : Happening) → time_of h ≤ until → numbered (gs ++ rest) n ≡ Some h → numbered gs n ≡ Some h
  in_front n h le there =
      let number = number_is s (gs ++ rest) n h founded there in
      elim (in_parts h gs rest (numbered_in (gs ++ rest) n h there)) [
        | inl i ↦ rw (sym number) (by_number s gs h (front_founded place_of (IsDue s) gs rest founded) i)
        | inr i ↦ let l = late h i in absurd (omega arith)
      ]

  tells_front : TellsSame (gs ++ rest) gs until
  tells_front =
      let same = front_tells gs rest until late in
      record {
        numbers = in_front;
        earliers = λ t le. sym (same.earliers t le);
        ups = λ t le. sym (same.ups t le);
        befores = λ t ks le. sym (same.befores t ks le);
        takens = λ device vl t link cause le. sym (same.takens device vl t link cause le);
      }

-- ---- debts

same_outcome : (s : Scenario) {gs hs : List Happening} {until : ℕ} (device : DeviceId) (t : ℕ) (link : LinkId)
    (cause : ℕ) (signal : Signal) → TellsSame gs hs until → t ≤ until
    → arrival_of s gs device t link cause signal ≡ arrival_of s hs device t link cause signal
same_outcome s {gs} {hs} device t link cause (control frame) same le =
    rw (same_standpoint s device t gs hs (same.earliers t le))
same_outcome s device t link cause (timed octets) same le = grind (arith, same_standpoint, by_octets)

-- what comes to a time from an earlier one is not earlier
sum_within : (t a b c until : ℕ) → t ≡ a + b + c → t ≤ until → a ≤ until
sum_within t a b c until is le = omega arith

-- what one of two such lists owes, the other does
owed_by : (s : Scenario) {gs hs : List Happening} {until : ℕ} → TellsSame gs hs until → (o : Debt)
    → IsOwed s gs until o → IsOwed s hs until o
owed_by s same (debts.event line) o = o
owed_by s {hs} {until} same (debts.arrival cause) o =
    let a = o.arrives in
    let arrives : ArrivesAs s hs o.device o.time o.link cause o.is = record {
      putting = a.putting;
      there = same.numbers cause a.putting (sum_within o.time (time_of a.putting) _ _ until a.arrives.at o.timely) a.there;
      signal = a.signal;
      arrives = a.arrives;
      becomes = a.becomes ∙ same_outcome s o.device o.time o.link cause a.signal same o.timely;
    } in
    record { device = o.device; link = o.link; time = o.time; is = o.is; arrives = arrives; behind = o.behind; timely = o.timely }
owed_by s same (debts.permanence cause) o = grind (arith, permanent_by, ints)
owed_by s same (debts.emission device sent) o = grind (arith, rank, key)
owed_by s {gs} {hs} same (debts.sending given) o =
    record { sends = sends_by s gs hs given.device given.time (same.earliers given.time o.timely) o.sends; timely = o.timely }
owed_by s same (debts.point device time) o = grind (arith, comes_by, up_to, earlier, heard_since_point)
owed_by s same (debts.change cause) o = grind arith
owed_by s same (debts.departure cause link) o = grind arith
owed_by s same (debts.dispatch given) o = grind (arith, dispatches_by)
owed_by s same (debts.loss cause) o = grind arith
owed_by s same (debts.clock device time) o = o

pub settled_law : SettledLaw
settled_law s gs rest until founded late o =
    (owed_by s (front_tells gs rest until late) o, owed_by s (tells_front s gs rest until founded late) o)

-- ---- the first debt that is not paid: its time, and the record that is lacking

-- ---- the first time at which a debt of a sort is not paid: of one, of two sorts, of one sort after another, and of all

-- of one of two sorts
abbrev pub EitherOf : (Debt → Type 0) → (Debt → Type 0) → Debt → Type 0
EitherOf A B o = A o ⊎ B o

-- of one of the first sorts, so many of them
abbrev pub IsOfFirst : (ℕ → Debt → Type 0) → ℕ → Debt → Type 0
IsOfFirst Is n o = (m : ℕ) × (m < n) × Is m o

module _ (s : Scenario) (hs : List Happening) (until : ℕ) where
  -- two sorts that are one
  pub first_of_both : (A B C : Debt → Type 0) (a b : Option ℕ) → ((o : Debt) → C o → A o ⊎ B o)
      → ((o : Debt) → A o → C o) → ((o : Debt) → B o → C o) → TellsFirst s hs until A a → TellsFirst s hs until B b
      → TellsFirst s hs until C (earlier_of a b)
  first_of_both A B C None None parts left right h g =
      λ o is owed. elim (parts o is) [ inl p ↦ h o p owed | inr q ↦ g o q owed ]
  first_of_both A B C None (Some u) parts left right h g = grind arith
  first_of_both A B C (Some t) None parts left right h g = grind arith
  first_of_both A B C (Some t) (Some u) parts left right h g =
      elim (cases_lt u t) [
        | inl less ↦
            record {
              debt = g.debt;
              one = right g.debt g.one;
              owed = g.owed;
              unpaid = g.unpaid;
              at = let due = g.at in omega arith;
              first = λ other is in_c not.
                  elim (parts other in_c) [
                    | inl p ↦ let late = h.first other is p not in omega arith
                    | inr q ↦ let late = g.first other is q not in omega arith
                  ];
            }
        | inr more ↦
            record {
              debt = h.debt;
              one = left h.debt h.one;
              owed = h.owed;
              unpaid = h.unpaid;
              at = let due = h.at in omega arith;
              first = λ other is in_c not.
                  elim (parts other in_c) [
                    | inl p ↦ let late = h.first other is p not in omega arith
                    | inr q ↦ let late = g.first other is q not in omega arith
                  ];
            }
      ]

  pub first_of_either : (A B : Debt → Type 0) (a b : Option ℕ) → TellsFirst s hs until A a → TellsFirst s hs until B b
      → TellsFirst s hs until (EitherOf A B) (earlier_of a b)
  first_of_either A B a b = first_of_both A B (EitherOf A B) a b (λ o is. is) (λ o is. inl is) (λ o is. inr is)

  -- one debt alone
  pub first_of_one : IsFounded place_of (IsDue s) hs → (x : Debt) (r : Option ℕ) → TellsUnpaid s hs until x r
      → TellsFirst s hs until (λ o. o ≡ x) r
  first_of_one founded x None h = λ o is owed.
      (rw (sym is) at h) owed
  first_of_one founded x (Some t) h = record {
    debt = x;
    one = refl;
    owed = h.owed;
    unpaid = h.unpaid;
    at = h.at;
    first = λ other is same not.
        subst (λ y. (owed : IsOwed s hs until y) → t ≤ falls_due s hs until y owed) (sym same)
        (λ owed. let at = h.at in let one = one_time s hs until founded x h.owed owed in omega (arith, at, one)) is;
  }

  -- more of which no other is owed
  pub first_of_more : (A B : Debt → Type 0) (a : Option ℕ) → ((o : Debt) → A o → B o)
      → ((o : Debt) → B o → IsOwed s hs until o → A o) → TellsFirst s hs until A a → TellsFirst s hs until B a
  first_of_more A B None wide narrow h = λ o is owed. h o (narrow o is owed) owed
  first_of_more A B (Some t) wide narrow h = grind arith

  -- ---- one sort after another

  pub first_of_none : (Is : ℕ → Debt → Type 0) → TellsFirst s hs until (IsOfFirst Is 0) None
  first_of_none Is = λ o is owed. let lt = is.1 in absurd (omega arith)

  pub first_of_next : (Is : ℕ → Debt → Type 0) (n : ℕ) (first one : Option ℕ)
      → TellsFirst s hs until (IsOfFirst Is n) first → TellsFirst s hs until (Is n) one
      → TellsFirst s hs until (IsOfFirst Is (n + 1)) (earlier_of first one)
  first_of_next Is n first one =
      first_of_both (IsOfFirst Is n) (Is n) (IsOfFirst Is (n + 1)) first one
      (λ o is.
      elim (below_next is.0 n is.1) [
        | inl less ↦ inl (is.0, less, is.2)
        | inr same ↦ inr (rw same at is.2)
      ])
      (λ o is. let lt = is.1 in (is.0, omega arith, is.2))
      (λ o is. (n, omega arith, is))

pub joined_sorts : JoinedSortsLaw
joined_sorts s hs until first second both a b are =
    first_of_both s hs until (λ o. IsTrue (first o)) (λ o. IsTrue (second o)) (λ o. IsTrue (both o)) a b
    (λ o. (are o).0) (λ o is. (are o).1 (inl is)) (λ o is. (are o).1 (inr is))

pub first_debt_law : FirstDebtLaw
first_debt_law s hs until None sound all = λ x lacks here.
    let o = (debt_law s hs until sound).lacking x lacks here in
    o.4 (all o.0 tt o.1)
first_debt_law s hs until (Some t) sound h =
    record { debt = h.debt; owed = h.owed; unpaid = h.unpaid; at = h.at; first = λ o is not. h.first o is tt not }

-- ---- the first record that is lacking is that of the first debt that is not paid

lack_to_debt : {s : Scenario} {hs : List Happening} {until time : ℕ} → ShowsInDebts s hs until
    → IsFirstLack s hs until time → IsFirstDebt s hs until time
lack_to_debt shows lack =
    let there = shows.lacking lack.missing lack.lacking lack.within in
    record {
      debt = there.0;
      owed = there.1;
      unpaid = there.4;
      at = lack.at ∙ there.3;
      first = λ other is not.
          let x = shows.unpaid other is not in
          let late = lack.first x.0 x.1 in
          omega (arith, x.4);
    }

debt_to_lack : {s : Scenario} {hs : List Happening} {until time : ℕ} → ShowsInDebts s hs until
    → IsFirstDebt s hs until time → IsFirstLack s hs until time
debt_to_lack {until} {time} shows debt =
    let x = shows.unpaid debt.debt debt.owed debt.unpaid in
    let place : Happening → List ℕ = λ h. rank h.note.body ∷ key (members_in h) h.note.body in
    let at = debt.at ∙ sym x.4 in
    record {
      missing = x.0;
      lacking = x.1;
      within = x.2;
      at = at;
      first = λ other lacks.
          elim (cases_lt until (time_of other)) [
            | inl later ↦ let soon = timely (time_of x.0) until (place x.0) x.2 in omega arith
            | inr here ↦
                let p = shows.lacking other lacks (within (time_of other) until (place other) here) in
                let late = debt.first p.0 p.1 p.4 in
                omega (arith, p.3)
          ];
    }

pub lack_law : LackLaw
lack_law s hs until time sound =
    let shows = debt_law s hs until sound in
    (lack_to_debt shows, debt_to_lack shows)

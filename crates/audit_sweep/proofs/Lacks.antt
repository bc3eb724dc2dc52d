-- What is known of a sweep of records: devices named, frames heard and kept, and what is lacking first.
use Rattle.std.proofs.{Common.{◌-◌, ◌<◌, ◌^◌, ◌≤ℤ◌, ◌⊎◌, arith, false, filter, length, suc, zero}}
use Rattle.std.proofs.lemmas.{Bool.{and_from, and_parts, cases_lt, eq-eqb, eqb-true, false_from_ne_true, le-ltb}}
use Rattle.std.proofs.lemmas.{List.{Elements.{filter-append, filter_map-append}, append-nil, map-append}}
use Rattle.std.proofs.lemmas.{Option.same_Some}
use Rattle.std.specs.{Int.int_div_euclid, List.{after_last, last_or}, Option.option_map_or}
use Rattle.std.specs.{Prelude.{◌+ℤ◌, ◌-ℤ◌, Err, Ok, filter_map, int_le, int_lt, nat_lt}}
use Rattle.audit_devices.specs.{Effects.subject_of, Keeping.records_before, Reading.OnlyJoined}
use Rattle.audit_devices.specs.{Showing.{IsAfter, IsSteady}, Takings.TakesRightly}
use Rattle.audit_law.proofs.law_lemmas.{Correcting.{high_quiet, time_before}}
use Rattle.audit_law.proofs.law_lemmas.{Founded.{earlier_in, joins_looking, of_amount}, Sound.due_in}
use Rattle.audit_law.proofs.law_lemmas.Owed.{EitherOf, before_is_front, first_debt_law, first_of_either, first_of_more}
use Rattle.audit_law.specs.{events.Readings.{HaveBegun, ReadsOn}}
use Rattle.audit_law.specs.law.{CorrectionNumbers.{heard_since_point, standing_at}, Debts.{IsDueIn, IsPaid}}
use Rattle.audit_law.specs.law.{Findings.{AreSound, IsSound}, FirstDebts.{TellsFirst, earlier_of}}
use Rattle.audit_law.specs.law.{Owed.{Debt, IsOwed, Pays}}
use Rattle.audit_sweep.proofs.Words
use Words.{if◌then◌else◌, ◌&&◌, ◌++◌, ◌+◌, ◌==◌, ◌∙◌, ◌∷◌, ◌≡◌, ◌≤◌, Arrival, ArrivesAs, Bool, DeviceId, Happening}
use Words.{IsBodyOf, IsCaused, IsDue, IsFounded, IsHeardBefore, IsIn, IsSwept, KeptRecord, LinkId, List, Network, None}
use Words.{NoneLater, NoteBody, Option, Scenario, Some, Standpoint, Units, [], amount, ap, earlier, founded_of_sound}
use Words.{happening, inl, inr, kept_of, key, members_in, numbered, one, place_of, pos, rank, refl, scenario_under}
use Words.{state_before, subst, sym, time_of, true, ℕ}
use Rattle.audit_sweep.specs.{Knowing.{AllShowByCause, AllYoung, IsKnown, KnowsSome}}
use Rattle.audit_sweep.specs.{Lacking.{AreEventsTold, TellsFirstLack}, Passing.{IsComing, TakesWith}}
use Rattle.audit_sweep.specs.{Ripenings.waiting_clock, Sweeping.SweepsSome}
use Rattle.audit_sweep.specs.{records.{Keeping.{kept_of_event, record_of, records_of}, wires.Receptions.IsArriving}}
use Rattle.audit_sweep.specs.declared.{known.Known.Known, passage.Passage.Passage, records.wires.putting.OnWire.OnWire}
use Rattle.audit_sweep.specs.declared.{sweep.Sweep.Sweep}
use Rattle.audit_sweep.specs.unpaid.{Clocks.IsOnlyEnd, Debtors.device_named, points.Told.AreOfDevices}
use Rattle.audit_sweep.specs.unpaid.Sorts
use Sorts.{IsClockDebt, IsDispatchDebt, IsEmissionDebt, IsPointDebt, IsRecordDebt, IsSendingDebt}
use Rattle.net_plan.{proofs.SameIds.{same_device, same_link}}
use Rattle.net_plan.specs.{Belonging.HasDevice, Ranges.IsInRange}
use Rattle.net_plan.specs.{declared.{event.{Event.Event, What.What}, ids.VlId.VlId, tables.Way.TheVariants.{Down, Up}}}
use Rattle.run_law.proofs.{control.{Arrived.arrived_young, Verdicts.state_by}}
use Rattle.run_law.proofs.{law.FirstDeliveries.{IsSplit, in_filter, same_earlier, split}}
use Rattle.run_law.proofs.{runs.{Grow.in_two, Places.{earlier_time, in_parts}, SameSteps.same_arrival}}
use Rattle.run_law.proofs.records.Order
use Order.{after_more, has_passed, is_there, makes_none, none_numbered, time_before as rank_first}
use Rattle.run_law.specs.{declared.{judgement.Reason.Reason, note.Note.Note}}
use Rattle.run_law.specs.{records.{Causes.device_of, Order.{IsBefore, is_before}}}
use Rattle.run_law.specs.{runs.DueRecords.{EndsAt, IsArrivedRecord}, scenario.Devices.{is_end, is_parent_of, is_relay}}
use Rattle.run_law.specs.control.{Arrivals.{frame_fault, frame_or_fault}}
use Rattle.run_law.specs.control.{Corrections.{correction_value, hearing_by, recorded_cycle}}
use Rattle.run_law.specs.control.{Wires.{Arrives, Signal, control, timed}}
use Rattle.run_law.specs.device.{LocalClocks.changes_adjustment, Standpoints.{clock_of, cycle_at, natural, standpoint}}
use Rattle.run_law.specs.device.{States.{adjustment_after, is_joined_by}}
use Rattle.run_law.specs.timed.{Arrivals.{entry_arrival, octets_fault, octets_or_fault, row_fault, taken_or_fault}}
use Rattle.run_law.specs.timed.{Receptions.{arrival_of, last_taken}}
use Rattle.schedule_tables.specs.declared.entry.Entry.{Entry}
use Rattle.sync_state.{proofs.VerdictLemmas.no_point}
use Rattle.sync_state.specs.{Standing.next_point, declared.state.State.TheVariants.Integrating}
use Rattle.sync_state.specs.{membership.Hearing.Hearing}
use Rattle.tte_units.{proofs.general_lemmas.{Bools.picked, Lists.pushed}}
use Rattle.tte_units.{specs.{Amount.units_of, declared.frames.pcf.Pcf.Pcf}}
use Rattle.audit_law.specs.law.Owed as debts
use Rattle.audit_sweep.specs.unpaid.emissions.Kept as clusters
use Rattle.audit_sweep.specs.unpaid.points.Kept as clocks
use Rattle.net_plan.specs.declared.event.What.TheVariants as events
use Rattle.run_law.specs.declared.note.NoteBody.TheVariants as notes
use Rattle.run_law.specs.declared.steps.Arrival.TheVariants as arrivals
use Rattle.sync_state.specs.declared.state.State.TheVariants as states

-- ---- what arrives by a passage

pub coming : (s : Scenario) (hs : List Happening) (passage : Passage) (h : Happening) (result : Option OnWire) → numbered hs passage.cause ≡ Some h
    → IsArriving s h passage.device passage.link passage.time result → IsComing s hs passage result
coming s hs passage h None there none =
    λ is x. none x.signal
    (subst (λ g. Arrives s g passage.device passage.link passage.time x.signal)
    (one (numbered hs passage.cause) x.putting h x.there there) x.arrives)
coming s hs passage h (Some what) there some = record { putting = h; there = there; signal = some.0; arrives = some.1; is = some.2 }

module _ (s : Scenario) (hs : List Happening) (device : DeviceId) (t : ℕ) (link : LinkId) (cause clock : ℕ) where
  -- what is taken with a clock has a record of its arrival
  pub taken : (is : Arrival) → ArrivesAs s hs device t link cause is → TakesWith clock is
      → IsArrivedRecord s hs device t link cause clock
  taken (arrivals.Waits frame point) x shows =
      record { frame = frame; point = point; way = Up; taken = inl x; shows = shows }
  taken (arrivals.Passes frame way) x shows =
      record { frame = frame; point = record { 0 = pos 0 }; way = way; taken = inr (inl x); shows = shows }
  taken (arrivals.PassesAndWaits frame way point) x shows =
      record { frame = frame; point = point; way = way; taken = inr (inr x); shows = shows }
  taken other x shows = absurd shows

  -- and what has one was taken so
  pub takes : {is : Arrival} → ArrivesAs s hs device t link cause is → IsArrivedRecord s hs device t link cause clock
      → TakesWith clock is
  takes x y = grind (arith, same_arrival)

  -- something becomes of what has a record of its arrival
  pub comes : IsArrivedRecord s hs device t link cause clock → (is : Arrival) × ArrivesAs s hs device t link cause is
  comes y =
      elim y.taken [
        | inl w ↦ (arrivals.Waits y.frame y.point, w)
        | inr r ↦ elim r [ inl p ↦ (arrivals.Passes y.frame y.way, p) | inr b ↦ (arrivals.PassesAndWaits y.frame y.way y.point, b) ]
      ]

-- ---- records that stand before a hearing

rank_before : (u r t q : ℕ) (ks ls : List ℕ) → u ≡ t → IsBefore (u ∷ r ∷ ks) (t ∷ q ∷ ls) → r ≤ q
rank_before u r t q ks ls e (inl lt) = absurd (omega (arith, lt, e))
rank_before u r t q ks ls e (inr b) = rank_first r q ks ls b.1

pub rank_below : (u r t q : ℕ) (ks : List ℕ) → u ≡ t → IsBefore (u ∷ r ∷ ks) (t ∷ q ∷ []) → r < q
rank_below u r t q ks e (inl lt) = absurd (omega (arith, lt, e))
rank_below u r t q ks e (inr b) = earlier_time r q ks b.1

pub none_later : {t : ℕ} {judged : List Happening} → IsHeardBefore t judged → NoneLater t judged
none_later {t} b h i =
    time_before (time_of h) (rank h.note.body) t b.rank (key (members_in h) h.note.body) b.rest (b.before h i)

pub joins_only : (device : DeviceId) (body : NoteBody) → rank body < 6 → is_joined_by device body ≡ changes_adjustment device body
joins_only device (notes.Corrected other cycle by adjustment) low = absurd (omega (arith, low))
joins_only device body low = refl

pub only_joined : {t : ℕ} {judged : List Happening} (device : DeviceId) → IsHeardBefore t judged
    → OnlyJoined judged device t
only_joined device b h i at = grind (arith, rank_before, time_of, rank, key, members_in, joins_only)

pub heard_before : (t r : ℕ) (rest : List ℕ) (hs : List Happening) → r < 6 → IsHeardBefore t (filter (λ h. is_before (place_of h) (t ∷ r ∷ rest)) hs)
heard_before t r rest hs low = record {
  rank = r;
  rest = rest;
  low = low;
  before = λ h i. is_there (place_of h) (t ∷ r ∷ rest) (has_passed (λ (g : Happening). is_before (place_of g) (t ∷ r ∷ rest)) hs h i);
}

-- ---- a frame tells the time only to a device that is integrating

-- a record of a founded list by which a frame tells a device the time finds it integrating
pub joins_integrating : (s : Scenario) (hs : List Happening) (device : DeviceId) (h : Happening) → IsFounded place_of (IsDue s) hs → IsIn h hs
    → is_joined_by device h.note.body ≡ true → state_before s hs device (time_of h) ≡ states.Integrating
joins_integrating s hs device h founded i e =
    let d : IsDueIn place_of (IsDue s) hs h = due_in place_of (IsDue s) hs h founded i in
    sym (state_by s d.before hs device (time_of h) (earlier_in (IsDue s) d)) ∙ joins_looking s d.before h.note.time
    device h.note.body e d.due.cause

-- ---- what a device has heard since its last correction point, by the records before corrections

-- how many correction points the clock has come to, by the records of earlier times
abbrev come_by : Scenario → DeviceId → ℕ → List Happening → ℕ
come_by s device by es =
    let changed = option_map_or time_of (last_or None (filter (λ h. changes_adjustment device h.note.body) es)) 0 in
    let first = correction_value s.network (recorded_cycle es device) in
    let shown = pos (s.reading device (by - 1)) +ℤ (adjustment_after s es device).0 in
    if int_lt (pos (s.reading device changed) +ℤ (adjustment_after s es device).0) first && int_le first shown
    then natural (int_div_euclid (shown -ℤ first) s.network.cycle.0) + 1
    else 0

-- the records before corrections tell all that is heard, where none is later
pub heard_before_corrections : (s : Scenario) (hs : List Happening) (device : DeviceId) (t : ℕ) → IsFounded place_of (IsDue s) hs → NoneLater t hs
    → heard_since_point s (records_before (t ∷ 6 ∷ []) hs) device t ≡ heard_since_point s hs device t
heard_before_corrections s hs device t founded none =
    let at : IsSplit place_of hs (t ∷ 6 ∷ []) = split place_of (IsDue s) hs (t ∷ 6 ∷ []) founded in
    let front = at.front in
    let late = at.rest in
    let in_hs : (h : Happening) → IsIn h late → IsIn h hs = λ h i. subst (IsIn h) (sym at.whole) (in_rest h front late i) in
    let not_earlier : (h : Happening) → IsIn h late → t ≤ time_of h = λ h i.
    elim (cases_lt (time_of h) t) [ inl lt ↦ absurd (at.none h i (inl lt)) | inr ge ↦ ge ] in
    let not_lower : (h : Happening) → IsIn h late → rank h.note.body < 6 → ⊥ = grind (arith, not_earlier, in_hs, at.none) in
    let set : Happening → Bool = λ h. nat_lt (time_of h) t && changes_adjustment device h.note.body in
    let f : Happening → Option Hearing = λ h. hearing_by s.network device h h.note.body in
    let kept : List Happening → Happening → Bool = λ es h. come_by s device t es == come_by s device (time_of h) es in
    let es = earlier t front in
    let since = after_more set front late
    (λ h i. ap (λ (b : Bool). b && changes_adjustment device h.note.body) (le-ltb (time_of h) t (not_earlier h i))) in
    let quiet = makes_none f (filter (kept es) late)
    (λ h i. high_quiet s.network device h h.note.body (not_lower h (in_filter (kept es) late h i))) in
    ap (λ gs. heard_since_point s gs device t) (before_is_front at)
    ∙ sym (ap (λ (gs : List Happening). filter_map f (filter (kept gs) (after_last set hs)))
    (sym (same_earlier t (6 ∷ []) at))
    ∙ ap (λ (gs : List Happening). filter_map f (filter (kept es) (after_last set gs))) at.whole
    ∙ ap (λ gs. filter_map f (filter (kept es) gs)) since
    ∙ ap (filter_map f) (filter-append (kept es) (after_last set front) late)
    ∙ filter_map-append f (filter (kept es) (after_last set front)) (filter (kept es) late)
    ∙ ap (λ (ts : List Hearing). filter_map f (filter (kept es) (after_last set front)) ++ ts) quiet
    ∙ append-nil (filter_map f (filter (kept es) (after_last set front))))
  where
    in_rest : (h : Happening) (ps qs : List Happening) → IsIn h qs → IsIn h (ps ++ qs)
    in_rest h [] qs i = i
    in_rest h (p ∷ ps) qs i = inr (in_rest h ps qs i)

-- where the device has a next correction point, no record before corrections changes its adjustment at the time
pub unchanged_before : (s : Scenario) (hs : List Happening) (device : DeviceId) (t cycle : ℕ) → IsFounded place_of (IsDue s) hs → NoneLater t hs
    → next_point (standing_at s hs device t) ≡ Some cycle → IsAfter (records_before (t ∷ 6 ∷ []) hs) device t
unchanged_before s hs device t cycle founded none next =
    let test : Happening → Bool = λ h. is_before (place_of h) (t ∷ 6 ∷ []) in
    record {
      none_later = λ h i. none h (in_filter test hs h i);
      unchanged = λ h i at. false_from_ne_true (changes_adjustment device h.note.body) (λ e.
          let low = rank_below (time_of h) (rank h.note.body) t 6 (key (members_in h) h.note.body) at
          (is_there (place_of h) (t ∷ 6 ∷ []) (has_passed test hs h i)) in
          let joined = joins_only device h.note.body low ∙ e in
          let state = joins_integrating s hs device h founded (in_filter test hs h i) joined in
          no_point (state_before s hs device t) (standing_at s hs device t).number cycle
          (subst (λ n. state_before s hs device n ≡ Integrating) at state) next);
    }

-- ---- the first that the records of a report lack

-- the network and the end are those of the sweep
pub here : {network : Network} {befallen : List Event} {end : Units} {hs : List Happening} {sweep : Sweep}
    → IsSwept network befallen end hs sweep → IsSwept sweep.network.now befallen sweep.known.end hs sweep
here {network} {befallen} {hs} {sweep} swept =
    subst (λ n. IsSwept n befallen sweep.known.end hs sweep) (sym swept.of_network)
    (subst (λ e. IsSwept network befallen e hs sweep) (sym swept.ends) swept)

-- some records, under some events up to the end
abbrev pub SweptHere : Sweep → Type 0
SweptHere sweep = (befallen : List Event) × (hs : List Happening) × IsSwept sweep.network.now befallen sweep.known.end hs sweep

pub some_here : {sweep : Sweep} → SweepsSome sweep → SweptHere sweep
some_here (network, befallen, end, hs, swept) = (befallen, hs, here swept)

-- so what holds of those holds of these
pub there : (P : Network → Units → Type 0) (network : Network) (befallen : List Event) (end : Units) (hs : List Happening) (sweep : Sweep)
    → IsSwept network befallen end hs sweep → P sweep.network.now sweep.known.end → P network end
there P network befallen end hs sweep swept holds =
    subst (λ (n : Network). P n end) swept.of_network (subst (λ (e : Units). P sweep.network.now e) swept.ends holds)

pub back : (P : Network → Units → Type 0) {network : Network} {befallen : List Event} {end : Units}
    {hs : List Happening} {sweep : Sweep} → IsSwept network befallen end hs sweep → P network end
    → P sweep.network.now sweep.known.end
back P {network} {sweep} swept holds =
    subst (λ (n : Network). P n sweep.known.end) (sym swept.of_network) (subst (λ (e : Units). P network e) (sym swept.ends) holds)

pub founded : {network : Network} {befallen : List Event} {end : Units} {hs : List Happening} {sweep : Sweep}
    → IsSwept network befallen end hs sweep → IsFounded place_of (IsDue (scenario_under network befallen)) hs
founded {network} {befallen} {end} {hs} swept =
    founded_of_sound place_of (IsDue (scenario_under network befallen)) ((amount end + 1) ∷ []) hs swept.sound

of_named : (body : NoteBody) (device : DeviceId) → device_of body ≡ Some device → device_named body ≡ Some device
of_named (notes.Event line what) device e = absurd cc
of_named body device e = e

pub of_devices : {network : Network} {befallen : List Event} {end : Units} {hs : List Happening} {sweep : Sweep}
    → IsSwept network befallen end hs sweep → AreOfDevices network hs
of_devices swept = λ h device there of. swept.devices h device there (of_named h.note.body device of)

begun : (befallen : List Event) (end : Units) → HaveBegun befallen → EndsAt befallen end → pos 0 ≤ℤ end.0
begun befallen end all ends = subst (λ (e : Event). pos 0 ≤ℤ e.time.0) ends.2 (all ends.0 _ ends.1)

-- the events end at the end, and at no other time
pub only_end : {network : Network} {befallen : List Event} {hs : List Happening} {sweep : Sweep}
    → IsSwept network befallen sweep.known.end hs sweep → IsOnlyEnd befallen (amount sweep.known.end)
only_end {befallen} {sweep} swept =
    let end = sweep.known.end in
    let ends = (swept.known.end end).0 refl in
    let same = of_amount end (begun befallen end swept.known.events.begun ends) in
    record { ends = subst (EndsAt befallen) same ends; only = λ t at. ap amount ((swept.known.end (units_of t)).1 at) }

-- what is kept for the debts of clocks, and for those of clusters
pub kept_for_clocks : {sweep : Sweep} → SweptHere sweep
    → clocks.IsSomeKept sweep.network.now sweep.known.events sweep.known.standings sweep.places
kept_for_clocks (befallen, hs, w) =
    (befallen, hs, record { remembers = w.known.events; stands = w.known.standings; places_are = w.places })

pub kept_for_clusters : {sweep : Sweep} → SweptHere sweep
    → clusters.IsSomeKept sweep.network.now sweep.known.events sweep.known.stretches sweep.places
kept_for_clusters (befallen, hs, w) =
    (befallen, hs, record { remembers = w.known.events; stands = w.known.stretches; places_are = w.places })

-- a debtor of the network that owes up to the time
pub first_of : (network own : Network) (befallen : List Event) (hs : List Happening) (until by : ℕ)
    (IsOne : Debt → Type 0) (result : Option ℕ) → (own ≡ network) × (by ≡ until)
    → TellsFirst (scenario_under own befallen) hs by IsOne result
    → TellsFirst (scenario_under network befallen) hs until IsOne result
first_of network own befallen hs until by IsOne result same tells =
    subst (λ n. TellsFirst (scenario_under n befallen) hs until IsOne result) same.0
    (subst (λ t. TellsFirst (scenario_under own befallen) hs t IsOne result) same.1 tells)

-- ---- all debts

abbrev IsEventDebt : Debt → Type 0
IsEventDebt (debts.event line) = Unit {0}
IsEventDebt other = ⊥

abbrev IsOfSome : Debt → Type 0
IsOfSome =
    EitherOf IsEventDebt (EitherOf IsRecordDebt (EitherOf IsEmissionDebt (EitherOf IsSendingDebt
    (EitherOf IsPointDebt (EitherOf IsDispatchDebt IsClockDebt)))))

-- each debt is an event's, a record's or a clock's
of_some : (o : Debt) → IsOfSome o
of_some (debts.event line) = inl tt
of_some (debts.arrival cause) = inr (inl (cause, refl))
of_some (debts.permanence cause) = inr (inl (cause, refl))
of_some (debts.change cause) = inr (inl (cause, refl))
of_some (debts.departure cause link) = inr (inl (cause, refl))
of_some (debts.loss cause) = inr (inl (cause, refl))
of_some (debts.emission device sent) = inr (inr (inl (device, refl)))
of_some (debts.sending given) = inr (inr (inr (inl (given.device, refl))))
of_some (debts.point device time) = inr (inr (inr (inr (inl (device, refl)))))
of_some (debts.dispatch given) = inr (inr (inr (inr (inr (inl (given.link, refl))))))
of_some (debts.clock device time) = inr (inr (inr (inr (inr (inr tt)))))

-- each event has its record, and these are the first times of what records bring and of what clocks come to
pub record AreFirsts (s : Scenario) (hs : List Happening) (until : ℕ) (b e n p d k : Option ℕ)
    : Type 0 where
  pub events : AreEventsTold s hs until
  pub brought : TellsFirst s hs until IsRecordDebt b
  pub emissions : TellsFirst s hs until IsEmissionDebt e
  pub sendings : TellsFirst s hs until IsSendingDebt n
  pub points : TellsFirst s hs until IsPointDebt p
  pub dispatches : TellsFirst s hs until IsDispatchDebt d
  pub clocks : TellsFirst s hs until IsClockDebt k

module _ (s : Scenario) (hs : List Happening) (until : ℕ) where
  events_told : AreEventsTold s hs until → (o : Debt) → IsEventDebt o → IsOwed s hs until o → IsPaid hs (Pays s) o
  events_told told (debts.event line) is owed = told line owed
  events_told told other is owed = absurd is

  -- the earliest of them is the first of all
  first_of_all : {b e n p d k : Option ℕ} → AreFirsts s hs until b e n p d k
      → TellsFirst s hs until (λ o. Unit {0})
      (earlier_of b (earlier_of e (earlier_of n (earlier_of p (earlier_of d k)))))
  first_of_all {b} {e} {n} {p} {d} {k} are =
      first_of_more s hs until IsOfSome (λ o. Unit {0})
      (earlier_of b (earlier_of e (earlier_of n (earlier_of p (earlier_of d k))))) (λ o is. tt) (λ o is owed. of_some o)
      (first_of_either s hs until IsEventDebt _ None _ (events_told are.events)
      (first_of_either s hs until IsRecordDebt _ b _ are.brought
      (first_of_either s hs until IsEmissionDebt _ e _ are.emissions
      (first_of_either s hs until IsSendingDebt _ n _ are.sendings
      (first_of_either s hs until IsPointDebt _ p _ are.points
      (first_of_either s hs until IsDispatchDebt IsClockDebt d k are.dispatches are.clocks))))))

-- what is owed first is lacking first
pub tells_lack : {network : Network} {befallen : List Event} {end : Units} {hs : List Happening} {sweep : Sweep}
    {b e n p d k : Option ℕ} (result : Option ℕ) → IsSwept network befallen end hs sweep
    → AreFirsts (scenario_under network befallen) hs (amount end) b e n p d k
    → earlier_of b (earlier_of e (earlier_of n (earlier_of p (earlier_of d k)))) ≡ result
    → TellsFirstLack (scenario_under network befallen) hs (amount end) result
tells_lack {network} {befallen} {end} {hs} result swept are is =
    let s = scenario_under network befallen in
    first_debt_law s hs (amount end) result swept.sound
    (subst (λ (r : Option ℕ). TellsFirst s hs (amount end) (λ o. Unit {0}) r) is (first_of_all s hs (amount end) are))

-- ---- what is known of a sweep

-- it is of its network
pub of_its_network : {network : Network} {befallen : List Event} {end : Units} {hs : List Happening} {sweep : Sweep}
    → IsSwept network befallen end hs sweep → IsSwept sweep.network.now befallen end hs sweep
of_its_network {befallen} {end} {hs} {sweep} w =
    subst (λ n. IsSwept n befallen end hs sweep) (sym w.of_network) w

pub range_of_some : {sweep : Sweep} → SweepsSome sweep → IsInRange sweep.network.now
range_of_some (network, befallen, end, hs, w) = (of_its_network w).range

pub knows_of_some : {sweep : Sweep} → SweepsSome sweep → KnowsSome sweep.network.now sweep.known
knows_of_some (network, befallen, end, hs, w) = (befallen, hs, (of_its_network w).known)

pub end_of_some : {sweep : Sweep} → SweepsSome sweep → amount sweep.known.end ≤ 2 ^ 60
end_of_some (network, befallen, end, hs, w) = subst (λ u. amount u ≤ 2 ^ 60) (sym w.ends) w.timely

-- a record before the end's mark is none later than the end
pub time_within : (h : Happening) (end : ℕ) → IsBefore (place_of h) ((end + 1) ∷ []) → time_of h ≤ end
time_within h end (inl lt) = omega (arith, lt)
time_within h end (inr b) = absurd b.1

-- the events under which it is known have one end
pub same_end : {network : Network} {befallen : List Event} {hs gs : List Happening} {known later : Known}
    → IsKnown network befallen hs known → IsKnown network befallen gs later → later.end ≡ known.end
same_end {known} k l = sym ((l.end known.end).1 ((k.end known.end).0 refl))

-- ---- switches accept frames, and end systems have them delivered

-- what becomes of a frame is that a switch accepts it, that an end system has it delivered, or none of the two
abbrev IsRight : Network → DeviceId → Arrival → Type 0
IsRight network device (arrivals.Accepted vl cycle) = is_end network device ≡ false
IsRight network device (arrivals.Delivered vl cycle) = is_end network device ≡ true
IsRight network device other = Unit {0}

module _ (network : Network) (device : DeviceId) where
  taken_right : (vl : VlId) (cycle : ℕ) (end : Bool) → is_end network device ≡ end
      → IsRight network device (if end then arrivals.Delivered vl cycle else arrivals.Accepted vl cycle)
  taken_right vl cycle true is = is
  taken_right vl cycle false is = is

  row_right : (at : Standpoint) (entry : Entry) (fault : Option Reason)
      → IsRight network device (taken_or_fault network device at entry fault)
  row_right at entry (Some reason) = tt
  row_right at entry None = taken_right entry.row.vl (cycle_at network (clock_of at)) (is_end network device) refl

  entry_right : (at : Standpoint) (size : ℕ) (last : VlId → Option ℕ) (entry : Option Entry)
      → IsRight network device (entry_arrival network device at size last entry)
  entry_right at size last None = tt
  entry_right at size last (Some entry) = row_right at entry (row_fault network at entry size (last entry.row.vl))

  octets_right : (link : LinkId) (at : Standpoint) (octets : List ℕ) (last : VlId → Option ℕ) (fault : Option Reason)
      → IsRight network device (octets_or_fault network device link at octets last fault)
  octets_right link at octets last (Some reason) = tt
  octets_right link at octets last None = entry_right at (length octets) last _

  passed_right : (relay parent : Bool) (frame : Pcf) (point : Units) → IsRight network device
      (if relay then (if parent then arrivals.Passes frame Up else arrivals.PassesAndWaits frame Down point) else
      arrivals.Waits frame point)
  passed_right true true frame point = tt
  passed_right true false frame point = tt
  passed_right false parent frame point = tt

  frame_right : (link : LinkId) (at : Standpoint) (frame : Pcf) (fault : Option Reason)
      → IsRight network device (frame_or_fault network device link at frame fault)
  frame_right link at frame (Some reason) = tt
  frame_right link at frame None = passed_right (is_relay network device) (is_parent_of network device link) _ _

module _ (s : Scenario) (hs : List Happening) (device : DeviceId) (t : ℕ) (link : LinkId) (cause : ℕ) where
  arrival_right : (signal : Signal) → IsRight s.network device (arrival_of s hs device t link cause signal)
  arrival_right (control (Err refusal)) = tt
  arrival_right (control (Ok frame)) =
      frame_right s.network device link (standpoint s hs device t) frame
      (frame_fault s.network device link (standpoint s hs device t) frame)
  arrival_right (timed octets) =
      octets_right s.network device link (standpoint s hs device t) octets (last_taken hs device t link cause)
      (octets_fault s.network (standpoint s hs device t) octets)

  outcome_right : {is : Arrival} → ArrivesAs s hs device t link cause is → IsRight s.network device is
  outcome_right a = subst (IsRight s.network device) (sym a.becomes) (arrival_right a.signal)

caused_right : (s : Scenario) (hs : List Happening) (time : Units) (body : NoteBody) → IsCaused s hs time body → TakesRightly s.network body
caused_right s hs time (notes.Accepted device link cause vl cycle) a =
    outcome_right s hs device (amount time) link cause a
caused_right s hs time (notes.Delivered device link cause vl cycle) a =
    outcome_right s hs device (amount time) link cause a
caused_right s hs time body a = tt

-- by a record that is due a switch accepts a frame, or an end system has it delivered
pub takes_rightly : {s : Scenario} {hs : List Happening} {h : Happening} → IsDue s hs h
    → TakesRightly s.network h.note.body
takes_rightly {s} {hs} {h} due = caused_right s hs h.note.time h.note.body due.cause

-- ---- records that are sound, and one more

-- records that are sound, and a further one that is sound given them
pub sound_more : {N : Type 0} {place : N → List ℕ} (IsDue : List N → N → Type 0) {mark : List ℕ} {ns : List N}
    {x : N} → AreSound place IsDue mark ns → IsSound place IsDue mark ns x → AreSound place IsDue mark (ns ++ x ∷ [])
sound_more {N} {place} IsDue {mark} {ns} {x} sound one ps qs y e =
    elim (in_two ns ps (y ∷ qs) x e) [
      | inl none ↦ let never : y ∷ qs ≡ [] = none.0 in absurd cc
      | inr l ↦ by l.others l.last l.whole
    ]
  where
    by : (others : List N) → y ∷ qs ≡ others ++ x ∷ [] → ns ≡ ps ++ others → IsSound place IsDue mark ps y
    by [] last whole =
        let same : x ≡ y = cc in
        subst (λ t. IsSound place IsDue mark ps t) same (subst (λ t. IsSound place IsDue mark t x) (whole ∙ append-nil ps) one)
    by (o ∷ os) last whole = let same : o ≡ y = cc in sound ps os y (whole ∙ ap (λ (t : N). ps ++ t ∷ os) same)

-- no records are sound
pub sound_none : {N : Type 0} (place : N → List ℕ) (IsDue : List N → N → Type 0) (mark : List ℕ) → AreSound place IsDue mark []
sound_none {N} place IsDue mark ps qs x e = absurd (no_part ps e)
  where
    no_part : (ps : List N) → [] ≡ ps ++ x ∷ qs → ⊥
    no_part [] e = cc
    no_part (p ∷ ps) e = cc

-- ---- what is known of records goes on by the next one

-- of the records with the next one, each is one of them, or the next one
numbered_next : (hs : List Happening) (h g : Happening) (number : ℕ) → numbered (hs ++ h ∷ []) number ≡ Some g → (numbered hs number ≡ Some g) ⊎ (h ≡ g)
numbered_next hs h g zero e = absurd cc
numbered_next hs h g (suc before) e = grind (arith, pushed)

-- ---- of no records

pub none_show : (network : Network) → AllShowByCause network []
none_show network number g e = absurd (none_numbered number g e)

pub none_young : (network : Network) → AllYoung network []
none_young network number g device link cause clock e is = absurd (none_numbered number g e)

-- ---- of one more

-- a record that is made of a note has what it has by its cause
pub show_next : (network : Network) (hs : List Happening) (note : Note) → AllShowByCause network hs
    → AllShowByCause network (hs ++ happening network hs note ∷ [])
show_next network hs note all number g e = grind (arith, numbered_next, happening)

-- a record that is due shows no transparent clock above the greatest delay
pub young_next : {s : Scenario} {hs : List Happening} {h : Happening} → IsDue s hs h → AllYoung s.network hs
    → AllYoung s.network (hs ++ h ∷ [])
young_next {s} {hs} {h} due all number g device link cause clock e is =
    elim (numbered_next hs h g number e) [
      | inl old ↦ all number g device link cause clock old is
      | inr new ↦
          let says : h.note.body ≡ notes.Arrived device link cause clock = ap (λ (x : Happening). x.note.body) new ∙ is in
          arrived_young (subst (IsCaused s hs h.note.time) says due.cause)
    ]

-- what is kept goes on by what is kept of the next
pub records_next : (hs : List Happening) (h : Happening) (kept : KeptRecord) (old new : List KeptRecord) → old ≡ records_of hs → kept ≡ record_of h
    → new ≡ old ++ kept ∷ [] → new ≡ records_of (hs ++ h ∷ [])
records_next hs h kept old new before one grown =
    grown ∙ ap (λ (rs : List KeptRecord). rs ++ kept ∷ []) before ∙ ap (λ (r : KeptRecord). records_of hs ++ r ∷ []) one
    ∙ sym (map-append record_of hs (h ∷ []))

-- the device of which a record shows something is the network's
pub subject_there : (network : Network) (body : NoteBody) (device : DeviceId) → IsBodyOf network body → subject_of body ≡ Some device → HasDevice network device
subject_there network (notes.Permanent other link cause point verdict) device has e =
    let same : other ≡ device = cc in subst (HasDevice network) same has.0
subject_there network (notes.Compressed other opened at cycle members verdict) device has e =
    let same : other ≡ device = cc in subst (HasDevice network) same has
subject_there network (notes.Corrected other cycle by adjustment) device has e =
    let same : other ≡ device = cc in subst (HasDevice network) same has
subject_there network (notes.State other state cause why) device has e =
    let same : other ≡ device = cc in subst (HasDevice network) same has
subject_there network body device has e = absurd cc

-- a clock that reads on is steady
pub steady : (s : Scenario) (device : DeviceId) → ReadsOn (s.reading device) → IsSteady s device
steady s device on = record { begins = on.begins; never_falls = on.never_falls }

-- ---- the devices that records name

module _ (network : Network) where
  -- what a record of the network's things names is one of its devices
  named_there : (body : NoteBody) (device : DeviceId) → IsBodyOf network body → device_named body ≡ Some device
      → HasDevice network device
  named_there (notes.Event line (events.On d)) device of is = subst (HasDevice network) (same_Some d device is) of
  named_there (notes.Event line what) device of is = absurd cc
  named_there (notes.Arrived d link cause clock) device of is = subst (HasDevice network) (same_Some d device is) of.0
  named_there (notes.Permanent d link cause point verdict) device of is =
      subst (HasDevice network) (same_Some d device is) of.0
  named_there (notes.Compressed d opened at cycle members verdict) device of is =
      subst (HasDevice network) (same_Some d device is) of
  named_there (notes.Sent d cycle) device of is = subst (HasDevice network) (same_Some d device is) of
  named_there (notes.Corrected d cycle by adjustment) device of is =
      subst (HasDevice network) (same_Some d device is) of
  named_there (notes.State d state cause why) device of is = subst (HasDevice network) (same_Some d device is) of
  named_there (notes.Left d link cause clock) device of is = subst (HasDevice network) (same_Some d device is) of.0
  named_there (notes.Lost d link cause) device of is = subst (HasDevice network) (same_Some d device is) of.0
  named_there (notes.TtSent d link cause vl cycle) device of is = subst (HasDevice network) (same_Some d device is) of.0
  named_there (notes.Accepted d link cause vl cycle) device of is =
      subst (HasDevice network) (same_Some d device is) of.0
  named_there (notes.Delivered d link cause vl cycle) device of is =
      subst (HasDevice network) (same_Some d device is) of.0
  named_there (notes.Dropped d link cause reason) device of is = subst (HasDevice network) (same_Some d device is) of.0
  named_there (notes.Clock d reading adjustment state) device of is =
      subst (HasDevice network) (same_Some d device is) of

  -- and so with those that records before it name
  pub named_more : (hs : List Happening) (h : Happening) → IsBodyOf network h.note.body
      → ((g : Happening) (device : DeviceId) → IsIn g hs → device_named g.note.body ≡ Some device
      → HasDevice network device) → (g : Happening) (device : DeviceId) → IsIn g (hs ++ h ∷ [])
      → device_named g.note.body ≡ Some device → HasDevice network device
  named_more hs h of named g device i is =
      elim (in_parts g hs (h ∷ []) i) [
        | inl before ↦ named g device before is
        | inr (inl same) ↦ named_there h.note.body device of
            (ap (λ (x : Happening). device_named x.note.body) (sym same) ∙ is)
        | inr (inr none) ↦ absurd none
      ]

-- ---- what is kept of frames that wait to be permanent

module _ (device : DeviceId) (link : LinkId) (clock : ℕ) where
  no_event : (what : What) → waiting_clock device link (kept_of_event what) ≡ Some clock → ⊥
  no_event (events.On other) e = cc
  no_event other e = cc

  -- a record of which a clock is kept is of an arrival there
  pub from_arrival : (body : NoteBody) → waiting_clock device link (kept_of body) ≡ Some clock
      → (from : ℕ) × (body ≡ notes.Arrived device link from clock)
  from_arrival (notes.Event line what) e = absurd (no_event what e)
  from_arrival (notes.Arrived other by from shown) e =
      let p = picked (device.0 == other.0 && link.0 == by.0) shown clock e in
      let both = and_parts (device.0 == other.0) (link.0 == by.0) p.0 in
      let d = same_device device other (eqb-true device.0 other.0 both.0) in
      let l = same_link link by (eqb-true link.0 by.0 both.1) in (
        from,
        ap (λ (x : DeviceId). notes.Arrived x by from shown) (sym d) ∙ ap
            (λ (x : LinkId). notes.Arrived device x from shown) (sym l)
            ∙ ap (λ (n : ℕ). notes.Arrived device link from n) p.1,
      )
  from_arrival rest e = absurd cc

module _ (device : DeviceId) (link : LinkId) (from clock : ℕ) where
  -- and of such a record it is kept
  pub arrived_clock : waiting_clock device link (kept_of (notes.Arrived device link from clock)) ≡ Some clock
  arrived_clock = grind (arith, and_from, eq-eqb)

  -- also where the record was found by its number
  pub clock_found : (kept : KeptRecord) (h g : Happening) → kept ≡ record_of g → h ≡ g
      → h.note.body ≡ notes.Arrived device link from clock → waiting_clock device link kept.kept ≡ Some clock
  clock_found kept h g is same arrived =
      ap (λ (r : KeptRecord). waiting_clock device link r.kept) is ∙ sym
      (ap (λ (x : Happening). waiting_clock device link (kept_of x.note.body)) same)
      ∙ ap (λ b. waiting_clock device link (kept_of b)) arrived ∙ arrived_clock

pub none_some : {X : Type 0} (x : X) → None ≡ Some x → ⊥
none_some x e = cc

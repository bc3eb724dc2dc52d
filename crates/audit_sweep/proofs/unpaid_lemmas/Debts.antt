-- The debts of leavings, permanences and clocks: what pays them, and the first that is not paid.
use Rattle.std.{specs.Prelude.{◌||◌, not, slice_set}}
use Rattle.std.proofs.{Common.{◌++◌, ◌-◌, Bool, length-append, pos, suc, zero}}
use Rattle.std.proofs.{lemmas.{Bool.or_cases, Option.slice_get_within}}
use Rattle.audit_law.proofs.{events_lemmas.Clocks.next_of}
use Rattle.audit_law.proofs.law_lemmas.{Departing.{departs_in_whole, departure_law, record_place, same_place}}
use Rattle.audit_law.proofs.law_lemmas.{EventDebts.place_of_clock, Founded.from_one}
use Rattle.audit_law.proofs.law_lemmas.{Owed.{EitherOf, IsOfFirst, first_of_either, first_of_more, first_of_one}}
use Rattle.audit_law.proofs.law_lemmas.{Permanence.permanence_law}
use Rattle.audit_law.specs.law.{Departures.{IsDueByLeaving, OwesDeparture, TellsDeparture, leaves_at, leaving_record}}
use Rattle.audit_law.specs.law.{EndClocks.IsClockOf, FirstDebts.earlier_of, Owed.falls_due}
use Rattle.audit_law.specs.law.{Permanences.{IsDueByPermanence, OwesPermanence, TellsPermanence, permanence_record}}
use Rattle.audit_sweep.proofs.{records_lemmas.wires_lemmas.Wires.{given_within, giver_is}}
use Rattle.audit_sweep.proofs.unpaid_lemmas.{PaidChanges.changes_of_records, Payers.{paid_at_place, payer_due}}
use Rattle.audit_sweep.proofs.unpaid_lemmas.Words
use Words.{◌+◌, ◌<◌, ◌↔◌, ◌∙◌, ◌∷◌, ◌≡◌, ◌≤◌, ◌⊎◌, Debt, DeviceId, Happening, HasClockAt, IsDue, IsFounded, IsIn}
use Words.{IsLeavingDebtOf, IsMarked, IsOwed, IsPaid, IsPaidSo, IsRecordDebt, IsRecordDebtOf, KeptRecord, LinkId, List}
use Words.{None, NoteBody, Option, Paid, Pays, Scenario, Some, TellsFirst, TellsUnpaid, [], ap, arith, both_ways}
use Words.{cases_lt, cause_of, device_named, false, inl, inr, length, numbered, numbered_in, numbered_within, paid_by}
use Words.{place_of, refl, same_some, slice_get, subst, sym, time_of, true, ℕ}
use Rattle.audit_sweep.specs.{declared.unpaid.permanences.Waiting.Waiting}
use Rattle.audit_sweep.specs.records.{Keeping.{kept_of, record_of}, places.Placing.HasRecordAt, wires.Departings.giver}
use Rattle.audit_sweep.specs.unpaid.{Clocks.{IsOnlyEnd, IsUntold, IsUntoldDevice}, Leavings.{leaving_place, may_give}}
use Rattle.audit_sweep.specs.unpaid.{Payments.{ArePayments, both, is_old, nothing}, Sorts.IsClockDebt}
use Rattle.audit_sweep.specs.unpaid.{Waiting.{IsPermanentBy, IsReached, IsReachedBy, IsWaiting}}
use Rattle.drift_clock.specs.{Reach.IsReach, transparent.Points.point_of}
use Rattle.net_plan.{proofs.SameIds.same_device, specs.{Belonging.HasDevice, declared.network.Network.Network}}
use Rattle.run_law.{proofs.runs.Places.{in_left, in_parts, in_right}}
use Rattle.run_law.specs.{control.Leaving.{Departs, Departure, Gives, departure, leaves, on_cut_way, too_old}}
use Rattle.run_law.specs.{declared.{judgement.Reason.Reason, steps.Ripe.Ripe}, records.Ranks.{members_in, place_at}}
use Rattle.run_law.specs.{scenario.Devices.is_relay}
use Rattle.tte_units.{proofs.general_lemmas.Lists.{set_length, some_at}, specs.declared.units.Units.Units}
use Rattle.audit_law.specs.law.Owed as debts
use Rattle.run_law.specs.declared.judgement.Reason.TheVariants as reasons
use Rattle.run_law.specs.declared.note.NoteBody.TheVariants as notes
use Rattle.run_law.specs.declared.steps.Ripe.TheVariants as ripe

-- ---- the first of what records bring that is not paid: of one record, and of one record after another

module _ (s : Scenario) (hs : List Happening) (until : ℕ) where
  -- the list has a record of this number
  abbrev IsThere : ℕ → Type 0
  IsThere n = (h : Happening) × (numbered hs n ≡ Some h)

  -- a debt that is owed, and that a record brings, has that record
  record_there : (n : ℕ) (o : Debt) → IsRecordDebtOf n o → IsOwed s hs until o → IsThere n
  record_there n (debts.arrival cause) is owed = subst IsThere is (owed.arrives.putting, owed.arrives.there)
  record_there n (debts.permanence cause) is owed = subst IsThere is (owed.permanent.arrival, owed.permanent.there)
  record_there n (debts.change cause) is owed = subst IsThere is (changes_of_records s hs until cause owed)
  record_there n (debts.departure cause link) is owed = subst IsThere is (owed.giving, owed.there)
  record_there n (debts.loss cause) is owed = subst IsThere is (owed.lost.event, owed.lost.is.there)
  record_there n other is owed = absurd is

  -- ---- one record

  leaving_of_it : (n : ℕ) (o : Debt) → IsLeavingDebtOf n o → IsRecordDebtOf n o
  leaving_of_it n (debts.departure cause link) is = is
  leaving_of_it n other is = absurd is

  -- what the record brings, sort by sort
  abbrev OneOf : ℕ → Debt → Type 0
  OneOf n =
      EitherOf (λ o. o ≡ debts.arrival n)
      (EitherOf (λ o. o ≡ debts.permanence n)
      (EitherOf (λ o. o ≡ debts.change n) (EitherOf (IsLeavingDebtOf n) (λ o. o ≡ debts.loss n))))

  of_it : (n : ℕ) (o : Debt) → OneOf n o → IsRecordDebtOf n o
  of_it n o (inl e) = subst (IsRecordDebtOf n) (sym e) refl
  of_it n o (inr (inl e)) = subst (IsRecordDebtOf n) (sym e) refl
  of_it n o (inr (inr (inl e))) = subst (IsRecordDebtOf n) (sym e) refl
  of_it n o (inr (inr (inr (inl l)))) = leaving_of_it n o l
  of_it n o (inr (inr (inr (inr e)))) = subst (IsRecordDebtOf n) (sym e) refl

  one_of_it : (n : ℕ) (o : Debt) → IsRecordDebtOf n o → OneOf n o
  one_of_it n (debts.arrival cause) is = inl (ap (λ (m : ℕ). debts.arrival m) is)
  one_of_it n (debts.permanence cause) is = inr (inl (ap (λ (m : ℕ). debts.permanence m) is))
  one_of_it n (debts.change cause) is = inr (inr (inl (ap (λ (m : ℕ). debts.change m) is)))
  one_of_it n (debts.departure cause link) is = inr (inr (inr (inl is)))
  one_of_it n (debts.loss cause) is = inr (inr (inr (inr (ap (λ (m : ℕ). debts.loss m) is))))
  one_of_it n other is = absurd is

  pub first_of_record : IsFounded place_of (IsDue s) hs → (n : ℕ) (arrival permanence change departure loss : Option ℕ)
      → TellsUnpaid s hs until (debts.arrival n) arrival → TellsUnpaid s hs until (debts.permanence n) permanence
      → TellsUnpaid s hs until (debts.change n) change → TellsFirst s hs until (IsLeavingDebtOf n) departure
      → TellsUnpaid s hs until (debts.loss n) loss
      → TellsFirst s hs until (IsRecordDebtOf n)
      (earlier_of arrival (earlier_of permanence (earlier_of change (earlier_of departure loss))))
  first_of_record founded n arrival permanence change departure loss a p c d l =
      first_of_more s hs until (OneOf n) (IsRecordDebtOf n) _ (of_it n) (λ o is owed. one_of_it n o is)
      (first_of_either s hs until _ _ arrival _ (first_of_one s hs until founded (debts.arrival n) arrival a)
      (first_of_either s hs until _ _ permanence _ (first_of_one s hs until founded (debts.permanence n) permanence p)
      (first_of_either s hs until _ _ change _ (first_of_one s hs until founded (debts.change n) change c)
      (first_of_either s hs until _ _ departure loss d (first_of_one s hs until founded (debts.loss n) loss l)))))

  -- ---- one record after another

  -- where each of the records has been looked at, this is the first of all
  pub first_of_records : (count : ℕ) (first : Option ℕ) → length hs ≤ count
      → TellsFirst s hs until (IsOfFirst (λ (n : ℕ). IsRecordDebtOf (n + 1)) count) first
      → TellsFirst s hs until IsRecordDebt first
  first_of_records count first all =
      first_of_more s hs until (IsOfFirst (λ (n : ℕ). IsRecordDebtOf (n + 1)) count) IsRecordDebt first
      (λ o is. (is.0 + 1, is.2))
      (λ o is owed.
      let there = record_there is.0 o is.1 owed in
      let few = numbered_within hs is.0 there.0 there.1 in
      let next : is.0 ≡ (is.0 - 1) + 1 = next_of is.0 (from_one hs is.0 there.0 there.1) in
      (is.0 - 1, omega (arith, few, all, next), subst (λ (m : ℕ). IsRecordDebtOf m o) next is.1))

-- ---- the leavings that are owed, and what pays them

tells_so : (device : DeviceId) (link by : LinkId) (cause from : ℕ) (d : Departure) → TellsDeparture cause link (leaving_record device by from d)
    → (by ≡ link) × (from ≡ cause)
tells_so device link by cause from (leaves clock) e = e
tells_so device link by cause from on_cut_way e = e
tells_so device link by cause from too_old e = (e.0, e.1)

-- the record names the device that gives its frame to a link
pub gives_named : (network : Network) (body : NoteBody) (device : DeviceId) (link : LinkId) → Gives network body device link → device_named body ≡ Some device
gives_named network (notes.Sent master cycle) device link a = ap (λ (d : DeviceId). Some d) (sym a.0)
gives_named network (notes.Compressed cm opened at cycle members verdict) device link a = ap (λ (d : DeviceId). Some d) (sym a.0)
gives_named network (notes.Arrived relay by from clock) device link a = ap (λ (d : DeviceId). Some d) (sym a.0)
gives_named network body device link a = absurd a

-- the device that gives the frame of a record is one of the network's
pub giver_there : (s : Scenario) (hs : List Happening) (n : ℕ) (h : Happening) (r : KeptRecord) (link : LinkId) → numbered hs n ≡ Some h → r ≡ record_of h
    → ((g : Happening) (device : DeviceId) → IsIn g hs → device_named g.note.body ≡ Some device → HasDevice s.network device) → (device : DeviceId)
    → giver s.network link r.kept ≡ Some device → HasDevice s.network device
giver_there s hs n h r link there kept devices device is =
    devices h device (numbered_in hs n h there) (gives_named s.network h.note.body device link (giver_is s h r device link kept is))

module _ (s : Scenario) (hs : List Happening) (until cause : ℕ) (link : LinkId) where
  -- what is owed departs by the list
  pub owed_departs : (o : OwesDeparture s hs until cause link)
      → Departs s hs o.device (leaves_at s o.device link o.giving) link cause
      (departure s o.device link o.frame (time_of o.giving) (leaves_at s o.device link o.giving))
  owed_departs o = grind arith

  -- a leaving that is owed is paid exactly where a record stands at its place
  pub departure_paid : {device : DeviceId} {t : ℕ} {d : Departure} → IsFounded place_of (IsDue s) hs
      → OwesDeparture s hs until cause link → Departs s hs device t link cause d
      → IsPaid hs (Pays s) (debts.departure cause link) ↔ HasRecordAt hs (leaving_place t device link cause d)
  departure_paid {device} {t} {d} founded owed departs =
      paid_at_place s until (IsDueByLeaving s) (λ (given : ℕ × LinkId). OwesDeparture s hs until given.0 given.1)
      (λ x given. TellsDeparture given.0 given.1 x.note.body)
      (leaving_place t device link cause d) (λ ps x so. so.due) (departure_law s hs until founded) founded
      (cause, link) owed
      (λ x here tells.
      let by = here.due in
      let so = tells_so by.device link by.link cause by.cause by.is (subst (TellsDeparture cause link) by.says tells) in
      ap (λ b. place_at (time_of x) (members_in x) b) by.says
      ∙ record_place (time_of x) (members_in x) by.device by.link by.cause by.is
      ∙ same_place so.1 so.0
      (departs_in_whole hs here.behind here.parts
      by.departs) departs)

-- ---- over links and records

-- a record that gives a frame to a link may do so
pub gives_may : (network : Network) (body : NoteBody) (device : DeviceId) (link : LinkId) → Gives network body device link
    → may_give network (kept_of body) ≡ true
gives_may network (notes.Sent master cycle) device link a = refl
gives_may network (notes.Compressed cm opened at cycle members verdict) device link a = refl
gives_may network (notes.Arrived relay by from clock) device link a = subst (λ d. is_relay network d ≡ true) a.0 a.1.relay
gives_may network body device link a = absurd a

-- the leaving of the frame of the record by the link of a number
abbrev pub IsLeavingAt : ℕ → ℕ → Debt → Type 0
IsLeavingAt n place = λ o. o ≡ debts.departure n (record { 0 = place })

-- a leaving that is owed is by a link of the network
pub leaving_within : (s : Scenario) (hs : List Happening) (until n count : ℕ) → length s.network.link ≤ count
    → (o : Debt) → IsLeavingDebtOf n o → IsOwed s hs until o → IsOfFirst (IsLeavingAt n) count o
leaving_within s hs until n count all (debts.departure cause link) is owed =
    let has = given_within s.network owed.giving.note.body owed.device link owed.gives in
    (link.0, omega (arith, has, all), ap (λ (m : ℕ). debts.departure m link) is)
leaving_within s hs until n count all other is owed = absurd is

-- a record that may give no frame to a link owes no leaving
pub none_leaves : (s : Scenario) (hs : List Happening) (until n : ℕ) (h : Happening) → numbered hs n ≡ Some h
    → (may_give s.network (kept_of h.note.body) ≡ true → ⊥) → (o : Debt) → IsLeavingDebtOf n o → IsOwed s hs until o
    → IsPaid hs (Pays s) o
none_leaves s hs until n h there never (debts.departure cause link) is owed =
    let one = same_some (numbered hs n) owed.giving h
    (subst (λ m. numbered hs m ≡ Some owed.giving) is owed.there) there in
    let gives = subst (λ (g : Happening). Gives s.network g.note.body owed.device link) one owed.gives in
    absurd (never (gives_may s.network h.note.body owed.device link gives))
none_leaves s hs until n h there never other is owed = absurd is

-- ---- what pays the debts of permanences

never_old : (reason : Reason) → reason ≡ reasons.Old → not (is_old reason) ≡ true → ⊥
never_old reasons.Old e young = absurd cc
never_old other e young = absurd cc

young : (reason : Reason) → (reason ≡ reasons.Old → ⊥) → not (is_old reason) ≡ true
young reasons.Old none = absurd (none refl)
young other none = refl

told : (body : NoteBody) (cause : ℕ) → cause_of body ≡ cause → (paid_by body).permanence ≡ true → TellsPermanence cause body
told (notes.Permanent device link from point verdict) cause of pays = of
told (notes.Dropped device link from reason) cause of pays = (of, λ old. absurd (never_old reason old pays))
told other cause of pays = absurd cc

tells : (body : NoteBody) (cause : ℕ) → TellsPermanence cause body → (cause_of body ≡ cause) × ((paid_by body).permanence ≡ true)
tells (notes.Permanent device link from point verdict) cause of = (of, refl)
tells (notes.Dropped device link from reason) cause of = (of.0, young reason of.1)
tells other cause of = absurd of

recorded_cause : (device : DeviceId) (link : LinkId) (cause : ℕ) (point : Units) (is : Ripe) → cause_of (permanence_record device link cause point is) ≡ cause
recorded_cause device link cause point ripe.Opened = refl
recorded_cause device link cause point other = refl

-- what is marked is paid
pub permanence_paid : (s : Scenario) {hs : List Happening} {cause : ℕ}
    → IsMarked (λ (p : Paid). p.permanence) hs cause → IsPaid hs (Pays s) (debts.permanence cause)
permanence_paid s {cause} m = (m.paying, m.there, told m.paying.note.body cause m.of_cause m.pays)

module _ (s : Scenario) (hs : List Happening) (until : ℕ) where
  -- what pays a debt that is owed is marked
  pub permanence_marked : {cause : ℕ} → IsFounded place_of (IsDue s) hs → OwesPermanence s hs until cause
      → IsPaid hs (Pays s) (debts.permanence cause) → IsMarked (λ (p : Paid). p.permanence) hs cause
  permanence_marked {cause} founded owed paid =
      let m = paid.0 in
      let so = tells m.note.body cause paid.2 in
      let due = payer_due s until (IsDueByPermanence s) (OwesPermanence s hs until)
      (λ x c. TellsPermanence c x.note.body) (λ ps x d. d.due)
      (permanence_law s hs until founded) founded cause owed m paid.1 paid.2 in
      let d = due.due in
      let same : d.cause ≡ cause =
      sym (ap cause_of d.says ∙ recorded_cause d.device d.link d.cause d.point d.is) ∙ so.0 in
      let few = numbered_within due.before d.cause d.becomes.permanent.arrival d.becomes.permanent.there in
      let number = d.due.number in
      record { paying = m; there = paid.1; behind = omega (arith, few, number, same); of_cause = so.0; pays = so.1 }

  -- what is owed of a record waits
  waits_so : {cause : ℕ} (h : Happening) → numbered hs cause ≡ Some h → (o : OwesPermanence s hs until cause)
      → (waiting : Waiting) × IsWaiting s.network h waiting × IsReached s waiting o.time
  waits_so {cause} h there o =
      let p = o.permanent in
      let one : p.arrival ≡ h = same_some (numbered hs cause) p.arrival h p.there there in
      let waiting : Waiting = record { device = o.device; clock = p.clock; since = time_of p.arrival } in
      let waits : IsWaiting s.network p.arrival waiting =
      record { link = o.link; from = p.from; frame = o.frame; arrived = p.arrived; of_frame = p.of_frame; waits = p.waits; since = refl } in
      let reached : IsReached s waiting o.time = record {
        reached = subst (λ v. IsReach (s.reading o.device) (pos (time_of p.arrival)) v (pos o.time)) p.at_point
            p.reached;
        correct = p.correct;
      } in
      (waiting, subst (λ g. IsWaiting s.network g waiting) one waits, reached)

-- a record waits in one way
one_waiting : {network : Network} {h : Happening} {a b : Waiting} → IsWaiting network h a → IsWaiting network h b
    → a ≡ b
one_waiting x y = grind arith

module _ (s : Scenario) (hs : List Happening) (until cause : ℕ) where
  -- where no frame waits none is owed
  pub none_waits : (h : Happening) → numbered hs cause ≡ Some h
      → ((waiting : Waiting) → IsWaiting s.network h waiting → ⊥) → OwesPermanence s hs until cause → ⊥
  none_waits h there none o = let w = waits_so s hs until h there o in none w.0 w.1

  -- where one waits it is owed by when it is reached
  pub waits_until : {h : Happening} {waiting : Waiting} (result : Option ℕ) → numbered hs cause ≡ Some h
      → IsWaiting s.network h waiting → IsReachedBy s waiting until result → IsPermanentBy s hs until cause result
  waits_until None there waits none = grind (arith, waits_so, one_waiting)
  waits_until {h} {waiting} (Some t) there waits reached =
      let point : Units =
      record { 0 = point_of (pos (s.reading waiting.device waiting.since)) waiting.clock s.network.dmax.0 } in
      let at : waiting.since ≡ time_of h = waits.since in
      let owed : OwesPermanence s hs until cause = record {
        device = waiting.device;
        link = waits.link;
        time = t;
        frame = waits.frame;
        point = point;
        permanent = record {
          arrival = h;
          there = there;
          from = waits.from;
          clock = waiting.clock;
          arrived = waits.arrived;
          of_frame = waits.of_frame;
          waits = waits.waits;
          at_point = ap (λ (u : ℕ). point_of (pos (s.reading waiting.device u)) waiting.clock s.network.dmax.0) at;
          reached = subst (λ u. IsReach (s.reading waiting.device) (pos u) point.0 (pos t)) at reached.0.reached;
          correct = reached.0.correct;
        };
        timely = reached.1;
      } in
      (owed, refl)

  -- it is unpaid where nothing of it is marked
  pub permanence_unpaid : {paid : Paid} (result : Option ℕ) → IsFounded place_of (IsDue s) hs
      → IsPaidSo hs cause paid → paid.permanence ≡ false → IsPermanentBy s hs until cause result
      → TellsUnpaid s hs until (debts.permanence cause) result
  permanence_unpaid None founded so none by = λ owed. absurd (by owed)
  permanence_unpaid {paid} (Some t) founded so none by = record {
    owed = by.0;
    unpaid = λ p. both_ways paid.permanence none (so.permanence.1 (permanence_marked s hs until founded by.0 p));
    at = by.1;
  }

-- ---- the clocks that are owed at the end

abbrev second_of : List ℕ → ℕ
second_of (a ∷ b ∷ rest) = b
second_of other = 0

abbrev third_of : List ℕ → ℕ
third_of (a ∷ b ∷ d ∷ rest) = d
third_of other = 0

abbrev pub first_of : List ℕ → ℕ
first_of (a ∷ rest) = a
first_of other = 0

clock_there : (t m time : ℕ) (device : DeviceId) (body : NoteBody) → place_at t m body ≡ time ∷ 14 ∷ device.0 ∷ [] → IsClockOf device body
clock_there t m time device (notes.Clock other shown adjustment state) e = same_device other device (ap third_of e)
clock_there t m time device (notes.Event line what) e = let r : 1 ≡ 14 = ap second_of e in absurd (omega (arith, r))
clock_there t m time device (notes.Arrived d l c k) e = let r : 2 ≡ 14 = ap second_of e in absurd (omega (arith, r))
clock_there t m time device (notes.Permanent d l c p v) e = let r : 3 ≡ 14 = ap second_of e in absurd (omega (arith, r))
clock_there t m time device (notes.Compressed d o a c n v) e = let r : 4 ≡ 14 = ap second_of e in absurd (omega (arith, r))
clock_there t m time device (notes.Sent d c) e = let r : 5 ≡ 14 = ap second_of e in absurd (omega (arith, r))
clock_there t m time device (notes.Corrected d c b a) e = let r : 6 ≡ 14 = ap second_of e in absurd (omega (arith, r))
clock_there t m time device (notes.State d s c w) e = let r : 7 ≡ 14 = ap second_of e in absurd (omega (arith, r))
clock_there t m time device (notes.Left d l c k) e = let r : 8 ≡ 14 = ap second_of e in absurd (omega (arith, r))
clock_there t m time device (notes.Lost d l c) e = let r : 9 ≡ 14 = ap second_of e in absurd (omega (arith, r))
clock_there t m time device (notes.TtSent d l c v y) e = let r : 10 ≡ 14 = ap second_of e in absurd (omega (arith, r))
clock_there t m time device (notes.Accepted d l c v y) e = let r : 11 ≡ 14 = ap second_of e in absurd (omega (arith, r))
clock_there t m time device (notes.Delivered d l c v y) e = let r : 12 ≡ 14 = ap second_of e in absurd (omega (arith, r))
clock_there t m time device (notes.Dropped d l c r) e = let q : 13 ≡ 14 = ap second_of e in absurd (omega (arith, q))

module _ (s : Scenario) (hs : List Happening) where
  -- a record at the place of a clock tells it
  paid_there : (device : DeviceId) (time : ℕ) → HasClockAt hs device time
      → IsPaid hs (Pays s) (debts.clock device time)
  paid_there device time has =
      let h = has.0 in
      (h, has.1, (ap first_of has.2, clock_there (time_of h) (members_in h) time device h.note.body has.2))

  there_paid : (device : DeviceId) (time : ℕ) → IsPaid hs (Pays s) (debts.clock device time)
      → HasClockAt hs device time
  there_paid device time paid =
      let h = paid.0 in
      (h, paid.1, place_of_clock (time_of h) (members_in h) device h.note.body paid.2.1 ∙ ap (λ (t : ℕ). t ∷ 14 ∷ device.0 ∷ []) paid.2.0)

  -- a clock is owed at the end
  at_end : (until : ℕ) {end : ℕ} → IsOnlyEnd s.events end → (o : Debt) → IsClockDebt o → (owed : IsOwed s hs until o)
      → falls_due s hs until o owed ≡ end
  at_end until one (debts.clock device time) is owed = one.only time owed.ends
  at_end until one other is owed = absurd is

  -- where the end is later, none is owed
  pub none_owed : (until : ℕ) {end : ℕ} → IsOnlyEnd s.events end → until < end → (o : Debt) → IsClockDebt o
      → IsOwed s hs until o → IsPaid hs (Pays s) o
  none_owed until one late (debts.clock device time) is owed =
      let timely = owed.timely in
      let at = one.only time owed.ends in
      absurd (omega (arith, timely, at, late))
  none_owed until one late other is owed = absurd is

  -- where each clock is told, each is paid
  pub all_told : (until : ℕ) {end : ℕ} → IsOnlyEnd s.events end → IsUntold s.network hs end None → (o : Debt)
      → IsClockDebt o → IsOwed s hs until o → IsPaid hs (Pays s) o
  all_told until {end} one all (debts.clock device time) is owed =
      let has = all device (slice_get_within s.network.device device.0 owed.is owed.there) in
      subst (λ (t : ℕ). IsPaid hs (Pays s) (debts.clock device t)) (sym (one.only time owed.ends))
      (paid_there device end has)
  all_told until one all other is owed = absurd is

  -- where one is not told, it is owed at the end
  pub one_untold : (until : ℕ) {end : ℕ} {device : DeviceId} → IsOnlyEnd s.events end → end ≤ until
      → IsUntoldDevice s.network hs end device → TellsFirst s hs until IsClockDebt (Some end)
  one_untold until {end} {device} one timely none =
      let found = some_at s.network.device device.0 none.there in
      record {
        debt = debts.clock device end;
        owed = record { is = found.0; there = found.1; ends = one.ends; timely = timely };
        one = tt;
        unpaid = λ paid. none.untold (there_paid device end paid);
        at = refl;
        first = λ other is one_of not. let at = at_end until one other one_of is in omega (arith, at);
      }

-- the devices below the next are those below this one, and this one
pub below_next : (P : DeviceId → Type 0) (n : ℕ) (last : DeviceId) → last.0 ≡ n → ((device : DeviceId) → device.0 < n → P device) → P last
    → (device : DeviceId) → device.0 < n + 1 → P device
below_next P n last at all own device lt = grind (arith, cases_lt, same_device)

-- ---- what is paid, as records are added

-- what one of the records pays, one of more does
marked_more : {f : Paid → Bool} {hs : List Happening} (h : Happening) {cause : ℕ} → IsMarked f hs cause
    → IsMarked f (hs ++ h ∷ []) cause
marked_more h m = grind (arith, in_left)

-- what one of them pays with one more, one of them does or this one
marked_parts : {f : Paid → Bool} (hs : List Happening) (h : Happening) {cause : ℕ} → IsMarked f (hs ++ h ∷ []) cause
    → IsMarked f hs cause ⊎ ((cause < h.note.number) × (cause_of h.note.body ≡ cause)
    × (f (paid_by h.note.body) ≡ true))
marked_parts {f} hs h {cause} m =
    elim (in_parts m.paying hs (h ∷ []) m.there) [
      | inl i ↦ inl (record { paying = m.paying; there = i; behind = m.behind; of_cause = m.of_cause; pays = m.pays })
      | inr (inl same) ↦
          inr (
            subst (λ (g : Happening). cause < g.note.number) same m.behind,
            subst (λ (g : Happening). cause_of g.note.body ≡ cause) same m.of_cause,
            subst (λ (g : Happening). f (paid_by g.note.body) ≡ true) same m.pays,
          )
      | inr (inr none) ↦ absurd none
    ]

-- a record that has no such cause pays nothing more
unmarked : (f : Paid → Bool) (paid : Paid) (hs : List Happening) (h : Happening) (cause : ℕ)
    → ((cause < h.note.number) → cause_of h.note.body ≡ cause → ⊥) → (f paid ≡ true) ↔ IsMarked f hs cause → (f paid ≡ true) ↔ IsMarked f (hs ++ h ∷ []) cause
unmarked f paid hs h cause other told = grind (arith, marked_more, marked_parts)

-- one that has it pays what it says
marked : (f : Paid → Bool) (paid after : Paid) (hs : List Happening) (h : Happening) (cause : ℕ) → cause < h.note.number → cause_of h.note.body ≡ cause
    → f after ≡ (f paid || f (paid_by h.note.body)) → (f paid ≡ true) ↔ IsMarked f hs cause → (f after ≡ true) ↔ IsMarked f (hs ++ h ∷ []) cause
marked f paid after hs h cause behind of is told = grind (arith, or_cases, paid_by, marked_more, in_right, marked_parts)

pub paid_unmarked : {paid : Paid} {hs : List Happening} (h : Happening) {cause : ℕ}
    → ((cause < h.note.number) → cause_of h.note.body ≡ cause → ⊥) → IsPaidSo hs cause paid
    → IsPaidSo (hs ++ h ∷ []) cause paid
paid_unmarked {paid} {hs} h {cause} other so = record {
  arrival = unmarked (λ (p : Paid). p.arrival) paid hs h cause other so.arrival;
  permanence = unmarked (λ (p : Paid). p.permanence) paid hs h cause other so.permanence;
  change = unmarked (λ (p : Paid). p.change) paid hs h cause other so.change;
  loss = unmarked (λ (p : Paid). p.loss) paid hs h cause other so.loss;
}

pub paid_marked : {paid : Paid} {hs : List Happening} (h : Happening) {cause : ℕ} → cause < h.note.number
    → cause_of h.note.body ≡ cause → IsPaidSo hs cause paid
    → IsPaidSo (hs ++ h ∷ []) cause (both paid (paid_by h.note.body))
paid_marked {paid} {hs} h {cause} behind of so =
    let after = both paid (paid_by h.note.body) in
    record {
      arrival = marked (λ (p : Paid). p.arrival) paid after hs h cause behind of refl so.arrival;
      permanence = marked (λ (p : Paid). p.permanence) paid after hs h cause behind of refl so.permanence;
      change = marked (λ (p : Paid). p.change) paid after hs h cause behind of refl so.change;
      loss = marked (λ (p : Paid). p.loss) paid after hs h cause behind of refl so.loss;
    }

-- nothing is paid of what a record brings behind which none stands
unpaid_yet : (f : Paid → Bool) (hs : List Happening) (h : Happening) (cause : ℕ) → f nothing ≡ false → ((g : Happening) → IsIn g hs → g.note.number < cause)
    → h.note.number ≡ cause → (f nothing ≡ true) ↔ IsMarked f (hs ++ h ∷ []) cause
unpaid_yet f hs h cause none before number = (
  λ yes. absurd (differ (f nothing) none yes),
  λ m.
      elim (in_parts m.paying hs (h ∷ []) m.there) [
        | inl i ↦ let early = before m.paying i in let late = m.behind in absurd (omega (arith, early, late))
        | inr (inl same) ↦
            let late = subst (λ (g : Happening). cause < g.note.number) same m.behind in absurd (omega (arith, late, number))
        | inr (inr no_more) ↦ absurd no_more
      ],
)
  where
    differ : (b : Bool) → b ≡ false → b ≡ true → ⊥
    differ true e f = cc
    differ false e f = cc

pub paid_nothing : (hs : List Happening) (h : Happening) (cause : ℕ) → ((g : Happening) → IsIn g hs → g.note.number < cause) → h.note.number ≡ cause
    → IsPaidSo (hs ++ h ∷ []) cause nothing
paid_nothing hs h cause before number = record {
  arrival = unpaid_yet (λ (p : Paid). p.arrival) hs h cause refl before number;
  permanence = unpaid_yet (λ (p : Paid). p.permanence) hs h cause refl before number;
  change = unpaid_yet (λ (p : Paid). p.change) hs h cause refl before number;
  loss = unpaid_yet (λ (p : Paid). p.loss) hs h cause refl before number;
}

-- what a list with one more has at a place
got_more : {X : Type 0} (xs : List X) (x : X) (n : ℕ) (y : X) → slice_get (xs ++ x ∷ []) n ≡ Some y
    → ((n < length xs) × (slice_get xs n ≡ Some y)) ⊎ ((n ≡ length xs) × (y ≡ x))
got_more [] x zero y e = inr (refl, cc)
got_more [] x (suc n) y e = absurd cc
got_more (z ∷ xs) x zero y e = inl (omega arith, e)
got_more (z ∷ xs) x (suc n) y e = grind (arith, (got_more xs x n y e))

-- the numbers of records are at most how many there are
numbers_more : (hs : List Happening) (h : Happening) → ((g : Happening) → IsIn g hs → g.note.number ≤ length hs) → h.note.number ≡ length hs + 1
    → (g : Happening) → IsIn g (hs ++ h ∷ []) → g.note.number ≤ length (hs ++ h ∷ [])
numbers_more hs h before number g i =
    let more = length-append hs (h ∷ []) in
    elim (in_parts g hs (h ∷ []) i) [
      | inl here ↦ let few = before g here in omega (arith, few, more)
      | inr (inl same) ↦ let own = ap (λ (k : Happening). k.note.number) same in omega (arith, own, number, more)
      | inr (inr none) ↦ absurd none
    ]

-- one more record of which nothing is paid, and whose cause is none of those before it
pub more_unmarked : {hs : List Happening} (h : Happening) {payments : List Paid} → ArePayments hs payments
    → h.note.number ≡ length hs + 1 → ((cause_of h.note.body ≡ 0) ⊎ (length hs < cause_of h.note.body))
    → ArePayments (hs ++ h ∷ []) (payments ++ nothing ∷ [])
more_unmarked {hs} h {payments} are number cause = record {
  count = let count = are.count in omega (arith, count, length-append payments (nothing ∷ []), length-append hs (h ∷ []));
  numbers = λ g i. numbers_more hs h are.numbers number g i;
  each = λ n paid got.
      let count = are.count in
      elim (got_more payments nothing n paid got) [
        | inl here ↦
            let lt = here.0 in
            paid_unmarked h (λ behind of. elim cause [
              | inl none ↦ absurd (omega (arith, of, none))
              | inr high
                  ↦ absurd (omega (arith, of, high, lt, count))
            ])
            (are.each n paid here.1)
        | inr last ↦
            let eq = last.0 in
            subst (λ p. IsPaidSo (hs ++ h ∷ []) (n + 1) p) (sym last.1)
            (paid_nothing hs h (n + 1) (λ g i. let few = are.numbers g i in omega (arith, few, eq, count)) (omega (arith, number, eq, count)))
      ];
}

-- what a list has at a place where it was set, and elsewhere
got_set : {X : Type 0} (xs : List X) (i : ℕ) (x : X) (n : ℕ) (y : X) → slice_get (slice_set xs i x) n ≡ Some y
    → ((n ≡ i) × (y ≡ x) × (n < length xs)) ⊎ ((n ≡ i → ⊥) × (slice_get xs n ≡ Some y))
got_set [] i x n y e = absurd cc
got_set (z ∷ xs) zero x zero y e = inl (refl, cc, omega arith)
got_set (z ∷ xs) zero x (suc n) y e = inr (λ same. absurd (omega (arith, same)), e)
got_set (z ∷ xs) (suc i) x zero y e = inr (λ same. absurd (omega (arith, same)), e)
got_set (z ∷ xs) (suc i) x (suc n) y e = grind (arith, (got_set xs i x n y e))

-- one more record that pays what it says of what its cause brings
pub more_marked : {hs : List Happening} (h : Happening) {payments : List Paid} (i : ℕ) (old : Paid)
    → ArePayments hs payments → h.note.number ≡ length hs + 1 → cause_of h.note.body ≡ i + 1 → i < length hs
    → slice_get (payments ++ nothing ∷ []) i ≡ Some old
    → ArePayments (hs ++ h ∷ []) (slice_set (payments ++ nothing ∷ []) i (both old (paid_by h.note.body)))
more_marked {hs} h {payments} i old are number cause low was = record {
  count =
      let count = are.count in
      omega (
        arith,
        count,
        set_length (payments ++ nothing ∷ []) i (both old (paid_by h.note.body)),
        length-append payments (nothing ∷ []),
        length-append hs (h ∷ []),
      );
  numbers = λ g j. numbers_more hs h are.numbers number g j;
  each = λ n paid got.
      let count = are.count in
      elim (got_set (payments ++ nothing ∷ []) i (both old (paid_by h.note.body)) n paid got) [
        | inl here ↦
            let eq = here.0 in
            elim (got_more payments nothing i old was) [
              | inl there ↦
                  subst (λ p. IsPaidSo (hs ++ h ∷ []) (n + 1) p) (sym here.1)
                  (paid_marked h (omega (arith, number, low, eq)) (omega (arith, cause, eq))
                  (subst (λ k. IsPaidSo hs (k + 1) old) (sym eq) (are.each i old there.1)))
              | inr last ↦ let end = last.0 in absurd (omega (arith, end, low, count))
            ]
        | inr other ↦
            elim (got_more payments nothing n paid other.1) [
              | inl there ↦
                  paid_unmarked h (λ behind of. other.0 (omega (arith, of, cause))) (are.each n paid there.1)
              | inr last ↦
                  let eq = last.0 in
                  subst (λ p. IsPaidSo (hs ++ h ∷ []) (n + 1) p) (sym last.1)
                  (paid_nothing hs h (n + 1) (λ g j. let few = are.numbers g j in omega (arith, few, eq, count)) (omega (arith, number, eq, count)))
            ]
      ];
}

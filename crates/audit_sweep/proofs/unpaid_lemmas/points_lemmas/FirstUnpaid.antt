-- The correction points and sendings of a device while the same is shown, and the first unpaid one.
use Rattle.std.{specs.Prelude.{◌==◌, ◌≤ℤ◌, is_some, option_and_then}}
use Rattle.std.proofs.{Common.{if◌then◌else◌, ◌*◌, ◌^◌, Bool, fold, mul-le-mul_left, mul-le-mul_right, suc, zero}}
use Rattle.std.proofs.{lemmas.Option.slice_get_past}
use Rattle.audit_devices.proofs.clocks_lemmas.Reached.{changed_early, come_reaches, has_point, number_is, reaches_come}
use Rattle.audit_sweep.proofs.unpaid_lemmas.points_lemmas.Telling.{earlier_up_to}
use Rattle.sync_state.proofs.VerdictLemmas.{up_state}
use Rattle.audit_devices.specs.{clocks.Finding.{CrossesAt, IsNextCrossing, NoneCrossed}}
use Rattle.audit_devices.specs.{declared.clocks.finding.{Crossed.Crossed, Series.Series}}
use Rattle.audit_law.specs.{events.Readings.ReadsOn}
use Rattle.audit_law.specs.law.{CorrectionNumbers.{ComesToPoint, points_come}, Debts.IsPaid, Dispatched.Sending}
use Rattle.audit_law.specs.law.{FirstDebts.TellsFirst, Owed.{Debt, IsOwed, Pays, falls_due}}
use Rattle.audit_sweep.proofs.unpaid_lemmas.points_lemmas.Words
use Words.{◌+◌, ◌-◌, ◌<◌, ◌∙◌, ◌∷◌, ◌≡◌, ◌≤◌, ArePaid, DeviceId, Happening, Integrating, IsDue, IsFirstUnpaid}
use Words.{IsFounded, IsSent, IsTold, List, None, NoteBody, Option, OwesAt, Scenario, Sends, Shown, Shows, ShowsWithin}
use Words.{Some, State, Verdict, [], ap, arith, cases_lt, earlier, false, inl, inr, ints, is_turned_on_at, length}
use Words.{place_of, pos, refl, state_after, subst, sym, true, up_to, value_in, ℕ, ℤ}
use Rattle.audit_sweep.specs.unpaid.{Sorts.{IsPointDebtOf, IsSendingDebtOf}}
use Rattle.audit_sweep.specs.unpaid.{points.{FirstUnpaid.TellsFirstUnpaid, Sent.sending_of, Told.AreOfDevices}}
use Rattle.net_plan.{proofs.SameIds.other_device}
use Rattle.net_plan.{specs.{Places.is_master, declared.{network.Network.Network, tables.Device.Device}}}
use Rattle.run_law.{proofs.law.FirstDeliveries.{in_filter, split}}
use Rattle.run_law.specs.{control.Corrections.correction_value, declared.judgement.Judgement.TheVariants.Integrates}
use Rattle.run_law.specs.{device.{LocalClocks.Reaches, States.{is_joined_by, state_with}}}
use Rattle.run_law.specs.{records.{Causes.device_of, Order.IsIn}, scenario.Devices.{has_role, start_of}}
use Rattle.run_law.specs.{timed.Dispatching.IsUp}
use Rattle.sync_state.specs.{Standing.{point_in, state_at_start}}
use Rattle.sync_state.specs.{declared.state.State.TheVariants.{Joining, Off, Synchronised}}
use Rattle.tte_units.specs.Amount.{amount}
use Rattle.audit_law.specs.law.Owed as debts
use Rattle.run_law.specs.declared.note.NoteBody.TheVariants as notes

-- ---- what is unpaid first in one stretch of time after another, and as debts

pub paid_both : {C : Type 0} (Owes Paid : ℕ → C → Type 0) (after mid before : ℕ) → ArePaid Owes Paid after (mid + 1) → ArePaid Owes Paid mid before
    → ArePaid Owes Paid after before
paid_both Owes Paid after mid before first second t o lt early owes = grind (arith, cases_lt)

pub paid_less : {C : Type 0} (Owes Paid : ℕ → C → Type 0) (after less before : ℕ) → less ≤ before → ArePaid Owes Paid after before
    → ArePaid Owes Paid after less
paid_less Owes Paid after less before le paid t o lt early owes = paid t o lt (omega (arith, early, le)) owes

-- the first of what is unpaid behind a time, before which all is paid
pub first_behind : {C : Type 0} (Owes Paid : ℕ → C → Type 0) (after : ℕ) {mid until : ℕ} (last : ℕ) {time : ℕ}
    → after ≤ mid → until ≤ last → ArePaid Owes Paid after (mid + 1) → IsFirstUnpaid Owes Paid mid until time
    → IsFirstUnpaid Owes Paid after last time
first_behind Owes Paid after last le most paid first = grind (arith, paid_both)

pub none_tells : {C : Type 0} (Owes Paid : ℕ → C → Type 0) (after until : ℕ) (r : Option ℕ) → r ≡ None → TellsFirstUnpaid Owes Paid after until r
    → ArePaid Owes Paid after (until + 1)
none_tells {C} Owes Paid after until r is told = subst (λ o. TellsFirstUnpaid Owes Paid after until o) is told

pub tells_behind : {C : Type 0} (Owes Paid : ℕ → C → Type 0) (after mid until last : ℕ) (r : Option ℕ) → after ≤ mid → until ≤ last → is_some r ≡ true
    → ArePaid Owes Paid after (mid + 1) → TellsFirstUnpaid Owes Paid mid until r → TellsFirstUnpaid Owes Paid after last r
tells_behind Owes Paid after mid until last None le most some paid told = absurd cc
tells_behind Owes Paid after mid until last (Some t) le most some paid told =
    first_behind Owes Paid after last le most paid told

pub none_is : (r : Option ℕ) → is_some r ≡ false → r ≡ None
none_is None e = refl
none_is (Some t) e = absurd cc

-- ---- as debts

-- a debt of the sort that falls due at the time and is not paid
abbrev IsUnpaidAt : Scenario → List Happening → ℕ → (Debt → Type 0) → ℕ → Type 0
IsUnpaidAt s hs until IsOne t =
    (o : Debt) × IsOne o × (is : IsOwed s hs until o) × (IsPaid hs (Pays s) o → ⊥) × (t ≡ falls_due s hs until o is)

-- the debt falls due up to the last time, and where it does before this one it is paid
abbrev pub IsPaidBefore : (s : Scenario) (hs : List Happening) (until before : ℕ) (o : Debt) → IsOwed s hs until o
    → Type 0
IsPaidBefore s hs until before o owed =
    (falls_due s hs until o owed ≤ until) × (falls_due s hs until o owed < before → IsPaid hs (Pays s) o)

-- what is so owed in the order of time are the debts of a sort
pub first_in_time : {C : Type 0} (Owes Paid : ℕ → C → Type 0) (s : Scenario) (hs : List Happening) (until : ℕ)
    (IsOne : Debt → Type 0) (r : Option ℕ) → ((before : ℕ) → ArePaid Owes Paid 0 before → (o : Debt) → IsOne o
    → (owed : IsOwed s hs until o) → IsPaidBefore s hs until before o owed)
    → ((t : ℕ) (c : C) → Owes t c → t ≤ until → (Paid t c → ⊥) → IsUnpaidAt s hs until IsOne t)
    → TellsFirstUnpaid Owes Paid 0 until r → TellsFirst s hs until IsOne r
first_in_time Owes Paid s hs until IsOne None paid unpaid told = λ o is owed.
    let so = paid (until + 1) told o is owed in
    let timely = so.0 in
    so.1 (omega (arith, timely))
first_in_time Owes Paid s hs until IsOne (Some t) paid unpaid told =
    let at = unpaid t told.what told.owes told.timely told.unpaid in
    record {
      debt = at.0;
      one = at.1;
      owed = at.2;
      unpaid = at.3;
      at = at.4;
      first = λ o owed is not.
          elim (cases_lt (falls_due s hs until o owed) t) [
            | inl less ↦ absurd (not ((paid t told.paid_before o is owed).1 less))
            | inr more ↦ more
          ];
    }

-- ---- the first correction point of a device that is not told of

-- ---- a device that no record is of has no correction point

-- the record is of another device, or of none
abbrev IsOfOther : DeviceId → NoteBody → Type 0
IsOfOther device body = device_of body ≡ Some device → ⊥

unjoined : (device : DeviceId) (body : NoteBody) → IsOfOther device body → is_joined_by device body ≡ false
unjoined device (notes.Permanent other link cause point Integrates) differs = other_device device other differs
unjoined device (notes.Compressed other opened at cycle members Integrates) differs = other_device device other differs
unjoined device body differs = refl

kept_by : (b : Bool) (old : State) (new : State) → b ≡ false → (if b then new else old) ≡ old
kept_by false old new e = refl
kept_by true old new e = absurd cc

state_kept : (device : DeviceId) (old : State) (body : NoteBody) → IsOfOther device body → state_with device old body ≡ old
state_kept device old (notes.State other state cause why) differs = kept_by (device.0 == other.0) old state (other_device device other differs)
state_kept device old body differs = kept_by (is_joined_by device body) old Joining (unjoined device body differs)

all_kept : (device : DeviceId) (start : State) (hs : List Happening) → ((h : Happening) → IsIn h hs → IsOfOther device h.note.body)
    → fold (λ state (h : Happening). state_with device state h.note.body) start hs ≡ start
all_kept device start [] none = refl
all_kept device start (h ∷ hs) none =
    ap (λ (state : State). fold (λ old (g : Happening). state_with device old g.note.body) state hs) (state_kept device start h.note.body (none h (inl refl)))
    ∙ all_kept device start hs (λ g there. none g (inr there))

no_point : (on : Bool) (state : State) (n cycle : ℕ) → state ≡ Off → point_in (if on then Integrating else state) n ≡ Some cycle → ⊥
no_point true state n cycle off e = cc
no_point false state n cycle off e = cc (ap (λ x. point_in x n) off)

-- a device that has a correction point is one of the network's
pub point_there : {s : Scenario} (hs : List Happening) {device : DeviceId} {t cycle : ℕ} {verdict : Verdict}
    → AreOfDevices s.network hs → ComesToPoint s (up_to t hs) device t cycle verdict
    → device.0 < length s.network.device
point_there {s} hs {device} {t} {cycle} of comes =
    elim (cases_lt device.0 (length s.network.device)) [
      | inl lt ↦ lt
      | inr le ↦
          let gs = earlier t (up_to t hs) in
          let here : (h : Happening) → IsIn h gs → IsIn h hs = λ h there. in_filter _ hs h (in_filter _ (up_to t hs) h there) in
          let none : (h : Happening) → IsIn h gs → IsOfOther device h.note.body =
          λ h there named. let has = of h device (here h there) named in omega (arith, le, has) in
          let start : state_at_start (start_of s.network device) ≡ Off =
          ap (λ (d : Option Device). state_at_start (option_and_then (λ (x : Device). x.start) d)) (slice_get_past s.network.device device.0 le) in
          let off : state_after s gs device ≡ Off = all_kept device (state_at_start (start_of s.network device)) gs none ∙ start in
          absurd (no_point (is_turned_on_at s device t) (state_after s gs device) _ cycle off comes.next)
    ]

-- at time 0 no clock comes to anything
later_than_start : {s : Scenario} {hs : List Happening} {device : DeviceId} (t : ℕ) {v : ℤ} → Reaches s hs device v t
    → 0 < t
later_than_start zero reaches = grind (arith, changed_early, ints)
later_than_start (suc t) reaches = omega arith

-- ---- the first of a device

-- a point that is owed is of a device of the network
pub point_within : (s : Scenario) (hs : List Happening) (until : ℕ) (device : DeviceId) (o : Debt)
    → AreOfDevices s.network hs → IsPointDebtOf device o → IsOwed s hs until o → device.0 < length s.network.device
point_within s hs until device (debts.point other t) of is owed =
    subst (λ (d : DeviceId). d.0 < length s.network.device) is (point_there hs of owed.comes)
point_within s hs until device other of is owed = absurd is

point_before : (s : Scenario) (hs : List Happening) (until : ℕ) (device : DeviceId) (before : ℕ)
    → ArePaid (OwesAt s hs device) (IsTold s hs device) 0 before → (o : Debt) → IsPointDebtOf device o
    → (owed : IsOwed s hs until o) → IsPaidBefore s hs until before o owed
point_before s hs until device before paid (debts.point other t) is owed =
    let its = subst (λ (d : DeviceId). ArePaid (OwesAt s hs d) (IsTold s hs d) 0 before) (sym is) paid in (
      owed.timely,
      λ lt. its t owed.cycle (later_than_start t owed.comes.reached) lt
          (record { verdict = owed.verdict; comes = owed.comes; more = owed.more }),
    )
point_before s hs until device before paid other is owed = absurd is

pub first_point : (s : Scenario) (hs : List Happening) (until : ℕ) (device : DeviceId) (r : Option ℕ)
    → TellsFirstUnpaid (OwesAt s hs device) (IsTold s hs device) 0 until r
    → TellsFirst s hs until (IsPointDebtOf device) r
first_point s hs until device r =
    first_in_time (OwesAt s hs device) (IsTold s hs device) s hs until (IsPointDebtOf device) r
    (point_before s hs until device)
    (λ t cycle owes timely not. (
      debts.point device t,
      refl,
      record { cycle = cycle; verdict = owes.verdict; comes = owes.comes; more = owes.more; timely = timely },
      not,
      refl,
    ))

-- ---- what a master sends while the same is shown of it

-- the series is that of the beginnings of cycles
abbrev pub AreBeginnings : Scenario → Series → Type 0
AreBeginnings s series = (n : ℕ) → value_in series n ≡ pos ((n + 1) * amount s.network.cycle)

-- a device that is up is shown to be synchronised
pub shown_up : {s : Scenario} {hs : List Happening} {device : DeviceId} {t : ℕ} {shown : Shown}
    → Shows s (earlier t hs) device shown → IsUp s hs device t → shown.state ≡ Synchronised
shown_up {s} {hs} {device} {t} shows up =
    shows.state ∙ up_state (is_turned_on_at s device t) (state_after s (earlier t hs) device) up.synchronised

module _ (s : Scenario) (hs : List Happening) (device : DeviceId) (shown : Shown) (series : Series) (t : ℕ) where
  pub sending_crosses : {cycle : ℕ} → AreBeginnings s series → Shows s (earlier t hs) device shown
      → Sends s hs device t cycle → CrossesAt (s.reading device) shown (value_in series (cycle - 1)) t
  sending_crosses {cycle} are shows sends =
      let begun = sends.begun in
      let number : cycle ≡ cycle - 1 + 1 = omega (arith, begun) in
      let value : pos (cycle * amount s.network.cycle) ≡ value_in series (cycle - 1) =
      ap (λ c. pos (c * amount s.network.cycle)) number ∙ sym (are (cycle - 1)) in
      subst (λ v. CrossesAt (s.reading device) shown v t) value
      (reaches_come
      {readings = record { now = s.reading device t; before = s.reading device (t - 1) }}
      (record { now = refl; before = refl }) shows sends.reached)

  pub crossing_sends : (n : ℕ) → has_role s.network is_master device ≡ true → IsUp s hs device t
      → ReadsOn (s.reading device) → AreBeginnings s series → Shows s (earlier t hs) device shown
      → CrossesAt (s.reading device) shown (value_in series n) t → Sends s hs device t (n + 1)
  crossing_sends n master up on are shows crosses = record {
    master = master;
    up = up;
    begun = omega arith;
    reached = come_reaches hs {t = t}
        {readings = record { now = s.reading device t; before = s.reading device (t - 1) }}
        (record { now = refl; before = refl }) (record { begins = on.begins; never_falls = on.never_falls }) shows
        (subst (λ v. CrossesAt (s.reading device) shown v t) (are n) crosses);
  }

-- in one unit of time a clock crosses one value of a series at most
pub one_crossed : {reading : ℕ → ℕ} (shown : Shown) (series : Series) (t m n : ℕ) → ReadsOn reading
    → 2 ^ 32 ≤ series.step → 0 < t → CrossesAt reading shown (value_in series m) t
    → CrossesAt reading shown (value_in series n) t → m < n → ⊥
one_crossed {reading} shown series t m n on wide some first second lt =
    let more : (m + 1) * series.step ≤ n * series.step = mul-le-mul_right series.step (omega (arith, lt)) in
    let same : t ≡ t - 1 + 1 = omega (arith, some) in
    let step : reading t < reading (t - 1) + 2 ^ 32 = subst (λ (x : ℕ). reading x < reading (t - 1) + 2 ^ 32) (sym same) (on.step (t - 1)) in
    let below = first.below in
    let reached = second.reached in
    omega (arith, ints, more, step, below, reached, wide)

module _ (s : Scenario) (hs : List Happening) (device : DeviceId) (shown : Shown) where
  -- at a crossing nothing is sent but the frame of its cycle
  pub cycle_of : {series : Series} {after until cycle : ℕ} {crossed : Crossed} → ReadsOn (s.reading device)
      → 2 ^ 32 ≤ series.step → AreBeginnings s series → Shows s (earlier crossed.time hs) device shown
      → IsNextCrossing (s.reading device) shown series after until crossed → Sends s hs device crossed.time cycle
      → crossed.number + 1 ≡ cycle
  cycle_of {series} {cycle} {crossed} on wide are shows next sends =
      let crosses = sending_crosses s hs device shown series crossed.time are shows sends in
      let begun = sends.begun in
      let later = next.later in
      let least = next.least crossed.time (cycle - 1) later crosses in
      elim (cases_lt crossed.number (cycle - 1)) [
        | inl more ↦ absurd (one_crossed shown series crossed.time crossed.number (cycle
            - 1) on wide (omega (arith, later)) next.crosses crosses more)
        | inr less ↦ omega (arith, least, less, begun)
      ]

  -- up to the next crossing all is paid where what is sent at it is
  pub paid_on : {series : Series} {after until : ℕ} {crossed : Crossed} (Paid : ℕ → ℕ → Type 0)
      → ReadsOn (s.reading device) → 2 ^ 32 ≤ series.step → AreBeginnings s series
      → ShowsWithin s hs device after until shown → IsNextCrossing (s.reading device) shown series after until crossed
      → (IsUp s hs device crossed.time → Paid crossed.time (crossed.number + 1))
      → ArePaid (Sends s hs device) Paid after (crossed.time + 1)
  paid_on {series} {crossed} Paid on wide are shows next paid t cycle lt early sends =
      let timely = next.timely in
      let sh = shows t lt (omega (arith, early, timely)) in
      elim (cases_lt t crossed.time) [
        | inl less ↦ absurd (next.none_before t (cycle - 1) lt less
            (sending_crosses s hs device shown series t are sh sends))
        | inr more ↦
            let same : crossed.time ≡ t = omega (arith, more, early) in
            let there : Sends s hs device crossed.time cycle =
            subst (λ x. Sends s hs device x cycle) (sym same) sends in
            let at = cycle_of on wide are (shows crossed.time next.later timely) next there in
            subst (λ (x : ℕ). Paid x cycle) same (subst (Paid crossed.time) at (paid there.up))
      ]

  pub paid_without : (series : Series) (after until before : ℕ) (Paid : ℕ → ℕ → Type 0) → AreBeginnings s series
      → ShowsWithin s hs device after until shown → before ≤ until + 1
      → NoneCrossed (s.reading device) shown series after before → ArePaid (Sends s hs device) Paid after before
  paid_without series after until before Paid are shows last none t cycle lt early sends =
      absurd (none t (cycle - 1) lt early
      (sending_crosses s hs device shown series t are (shows t lt (omega (arith, early, last))) sends))

  -- a device that is not synchronised sends nothing
  pub paid_silent : (after until : ℕ) (Paid : ℕ → ℕ → Type 0) → ShowsWithin s hs device after until shown
      → (shown.state ≡ Synchronised → ⊥) → ArePaid (Sends s hs device) Paid after (until + 1)
  paid_silent after until Paid shows other t cycle lt early sends =
      absurd (other (shown_up (shows t lt (omega (arith, early))) sends.up))

  pub first_at : {series : Series} {after until : ℕ} {crossed : Crossed} (Paid : ℕ → ℕ → Type 0)
      → has_role s.network is_master device ≡ true → ReadsOn (s.reading device) → AreBeginnings s series
      → ShowsWithin s hs device after until shown → IsNextCrossing
      (s.reading device) shown series after until crossed → IsUp s hs device crossed.time
      → (Paid crossed.time (crossed.number + 1) → ⊥) → IsFirstUnpaid (Sends s hs device) Paid after until crossed.time
  first_at {series} {after} {until} {crossed} Paid master on are shows next up unpaid =
      let timely = next.timely in
      record {
        later = next.later;
        timely = timely;
        what = crossed.number + 1;
        owes = crossing_sends s hs device shown series crossed.time crossed.number master up on are
            (shows crossed.time next.later timely) next.crosses;
        unpaid = unpaid;
        paid_before =
            paid_without series after until crossed.time Paid are shows (omega (arith, timely)) next.none_before;
      }

-- the number of what is crossed is not great
pub few_crossed : (s : Scenario) (device : DeviceId) {shown : Shown} {series : Series} {after until : ℕ}
    {crossed : Crossed} → 2 ^ 32 ≤ series.step → pos 0 ≤ℤ value_in series 0
    → IsNextCrossing (s.reading device) shown series after until crossed → crossed.number < 2 ^ 60
few_crossed s device wide begins next = grind (arith, mul-le-mul_left, ints)

-- nothing is sent at time 0
pub none_at_first : {s : Scenario} {hs : List Happening} {device : DeviceId} (t : ℕ) {cycle : ℕ}
    → Sends s hs device t cycle → 0 < t
none_at_first zero sends = grind (arith, changed_early, ints)
none_at_first (suc t) sends = omega arith

-- ---- the first sending of a device that is not paid

-- a master is a device of the network
master_there : (network : Network) (device : DeviceId) → has_role network is_master device ≡ true → device.0 < length network.device
master_there network device master = grind (arith, cases_lt, length, slice_get_past)

pub sending_within : (s : Scenario) (hs : List Happening) (until : ℕ) (device : DeviceId) (o : Debt)
    → IsSendingDebtOf device o → IsOwed s hs until o → device.0 < length s.network.device
sending_within s hs until device (debts.sending o) is owed =
    subst (λ (d : DeviceId). d.0 < length s.network.device) is (master_there s.network o.device owed.sends.master)
sending_within s hs until device other is owed = absurd is

paid_as : (s : Scenario) (hs : List Happening) (o : Sending) → IsSent s hs o.device o.time o.cycle → IsPaid hs (Pays s) (debts.sending o)
paid_as s hs o sent = (sent.0, sent.1, record { at = sent.2.at; says = sent.2.says })

sent_before : (s : Scenario) (hs : List Happening) (until : ℕ) (device : DeviceId) (before : ℕ)
    → ArePaid (Sends s hs device) (IsSent s hs device) 0 before → (o : Debt) → IsSendingDebtOf device o
    → (owed : IsOwed s hs until o) → IsPaidBefore s hs until before o owed
sent_before s hs until device before paid (debts.sending o) is owed =
    let its = subst (λ (d : DeviceId). ArePaid (Sends s hs d) (IsSent s hs d) 0 before) (sym is) paid in
    (owed.timely, λ lt. paid_as s hs o (its o.time o.cycle (none_at_first o.time owed.sends) lt owed.sends))
sent_before s hs until device before paid other is owed = absurd is

pub first_sending : (s : Scenario) (hs : List Happening) (until : ℕ) (device : DeviceId) (r : Option ℕ)
    → TellsFirstUnpaid (Sends s hs device) (IsSent s hs device) 0 until r
    → TellsFirst s hs until (IsSendingDebtOf device) r
first_sending s hs until device r =
    first_in_time (Sends s hs device) (IsSent s hs device) s hs until (IsSendingDebtOf device) r
    (sent_before s hs until device)
    (λ t cycle sends timely not.
    (debts.sending (sending_of device t cycle), refl, record { sends = sends; timely = timely }, not, refl))

-- ---- the correction points of a device while the same is shown of it

-- the series is that of the correction points from the one that is shown to be next
abbrev pub ArePointsFrom : Scenario → Shown → Series → Type 0
ArePointsFrom s shown series = (n : ℕ) → value_in series n ≡ correction_value s.network (shown.cycle + n)

module _ (s : Scenario) (hs : List Happening) (device : DeviceId) (shown : Shown) (series : Series) where
  -- a correction point comes where the clock crosses a value of the series
  pub point_crosses : {t cycle : ℕ} → ArePointsFrom s shown series → IsFounded place_of (IsDue s) hs
      → Shows s (earlier t hs) device shown → OwesAt s hs device t cycle
      → (n : ℕ) × CrossesAt (s.reading device) shown (value_in series n) t
  point_crosses {t} {cycle} are founded shows owes =
      let gs = up_to t hs in
      let at = split place_of (IsDue s) hs (t ∷ 6 ∷ []) founded in
      let here : Shows s (earlier t gs) device shown =
      subst (λ es. Shows s es device shown) (sym (earlier_up_to {hs = hs} t at)) shows in
      let n = points_come s gs device t t in
      let number = number_is s gs device t cycle (has_point owes.comes) in
      let is : cycle ≡ shown.cycle + n = number ∙ ap (λ k. k + n) (sym here.cycle) in
      let value : correction_value s.network cycle ≡ value_in series n =
      ap (correction_value s.network) is ∙ sym (are n) in (
        n,
        subst (λ v. CrossesAt (s.reading device) shown v t) value
            (reaches_come
            {readings = record { now = s.reading device t; before = s.reading device (t - 1) }}
            (record { now = refl; before = refl }) here owes.comes.reached),
      )

  -- up to the next crossing all is told where what is owed at it is
  pub told_on : {after until : ℕ} {crossed : Crossed} (Paid : ℕ → ℕ → Type 0) → ArePointsFrom s shown series
      → IsFounded place_of (IsDue s) hs → ShowsWithin s hs device after until shown
      → IsNextCrossing (s.reading device) shown series after until crossed
      → ((cycle : ℕ) → OwesAt s hs device crossed.time cycle → Paid crossed.time cycle)
      → ArePaid (OwesAt s hs device) Paid after (crossed.time + 1)
  told_on {crossed} Paid are founded shows next told t cycle lt early owes =
      let timely = next.timely in
      let sh = shows t lt (omega (arith, early, timely)) in
      elim (cases_lt t crossed.time) [
        | inl less ↦
            let crosses = point_crosses are founded sh owes in
            absurd (next.none_before t crosses.0 lt less crosses.1)
        | inr more ↦
            let same : t ≡ crossed.time = omega (arith, more, early) in
            subst (λ (x : ℕ). Paid x cycle) (sym same)
            (told cycle (subst (λ x. OwesAt s hs device x cycle) same owes))
      ]

  pub told_without : (after until before : ℕ) (Paid : ℕ → ℕ → Type 0) → ArePointsFrom s shown series
      → IsFounded place_of (IsDue s) hs → ShowsWithin s hs device after until shown → before ≤ until + 1
      → NoneCrossed (s.reading device) shown series after before → ArePaid (OwesAt s hs device) Paid after before
  told_without after until before Paid are founded shows last none t cycle lt early owes =
      let crosses = point_crosses are founded (shows t lt (omega (arith, early, last))) owes in
      absurd (none t crosses.0 lt early crosses.1)

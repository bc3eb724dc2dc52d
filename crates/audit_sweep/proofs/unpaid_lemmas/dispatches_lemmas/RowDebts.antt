-- The dispatches that are owed by rows: the frames at hand, their times, and where their records stand.
use Rattle.std.{specs.Prelude.{◌+ℤ◌, ◌==◌, ◌↔◌, ◌≤ℤ◌, IsTrue, MatchBool}}
use Rattle.std.proofs.{lemmas.{Bool.{and_parts, cases_lt, eqb-true, false≢true}, Int.ints, Option.slice_get_within}}
use Rattle.std.proofs.Common
use Common.{◌*◌, ◌+◌, ◌-◌, ◌<◌, ◌^◌, ◌∙◌, ◌≡◌, ◌≤◌, ◌⊎◌, Bool, List, None, Option, Some, ap, arith, false, inl, inr}
use Common.{length, mul-le-mul_left, mul-le-mul_right, not, pos, refl, slice_index_or, subst, suc, sym, true, zero, ℕ}
use Common.{ℤ}
use Rattle.audit_devices.proofs.clocks_lemmas.Reached.{changed_early, come_reaches, reaches_come}
use Rattle.audit_law.proofs.law_lemmas.Owed.{IsOfFirst, first_of_more}
use Rattle.audit_devices.specs.{Lasting.ShowsWithin, Showing.{Shown, Shows}}
use Rattle.audit_devices.specs.{clocks.Finding.{CrossesAt, IsNextCrossing, NoneCrossed, value_in}}
use Rattle.audit_devices.specs.{declared.{clocks.finding.{Crossed.Crossed, Series.Series}, taking.Taking.Taking}}
use Rattle.audit_law.specs.{events.Readings.ReadsOn}
use Rattle.audit_law.specs.law.{Debts.IsPaid, Dispatched.{Dispatch, OwesDispatch, dispatch_record, is_cut_then}}
use Rattle.audit_law.specs.law.{FirstDebts.TellsFirst, Owed.{Debt, IsOwed, Pays}}
use Rattle.audit_sweep.proofs.{records_lemmas.dispatches_lemmas.Dispatches.{held, no_row, placed, so_held}}
use Rattle.audit_sweep.proofs.unpaid_lemmas.points_lemmas.FirstUnpaid
use FirstUnpaid.{IsPaidBefore, first_in_time, one_crossed, shown_up}
use Rattle.audit_sweep.specs.declared.{records.dispatches.leaving.LeavingRow.LeavingRow}
use Rattle.audit_sweep.specs.declared.{unpaid.dispatches.debtor.RowFrame.RowFrame}
use Rattle.audit_sweep.specs.records.{places.Placing.HasRecordAt}
use Rattle.audit_sweep.specs.records.dispatches.{Dispatched.{IsAcceptedLast, IsAtHand, is_last}}
use Rattle.audit_sweep.specs.records.dispatches.{Leaving.{AreRowsOn, IsRowOn, leaving_by}}
use Rattle.audit_sweep.specs.records.dispatches.{Leavings.{AreLeavings, IsRowFit, cycle_of, first_cycle, leaving_value}}
use Rattle.audit_sweep.specs.unpaid.{Sorts.IsDispatchDebtOn}
use Rattle.audit_sweep.specs.unpaid.{dispatches.Frames.{AreTold, IsBy, IsTold, LacksOne, OwesFrame, dispatch_of}}
use Rattle.audit_sweep.specs.unpaid.{points.FirstUnpaid.{ArePaid, IsFirstUnpaid, TellsFirstUnpaid}}
use Rattle.net_plan.{proofs.InRange.amount_most}
use Rattle.net_plan.specs.{Belonging.{HasDevice, HasLink}, Ranges.{IsInRange, IsLinkInRange, IsRowInRange, IsVlInRange}}
use Rattle.net_plan.specs.declared.{ids.{DeviceId.DeviceId, LinkId.LinkId, VlId.VlId}, network.Network.Network}
use Rattle.net_plan.specs.declared.{tables.{Link.Link, Way.{TheVariants.{Down, Up}, Way}}}
use Rattle.run_law.specs.{declared.note.NoteBody.NoteBody, device.LocalClocks.Reaches}
use Rattle.run_law.specs.{records.{Happenings.{Happening, earlier}, Ranks.place_at}, scenario.Scenarios.Scenario}
use Rattle.run_law.specs.{timed.Dispatching.{Dispatches, IsUp}}
use Rattle.schedule_tables.specs.Entries.{source_by, source_of}
use Rattle.sync_state.specs.declared.state.State.TheVariants.{Synchronised}
use Rattle.tte_units.{proofs.general_lemmas.Lists.in_all, specs.Amount.amount}
use Rattle.audit_law.specs.law.Owed as debts
use Rattle.run_law.specs.declared.note.NoteBody.TheVariants as notes

-- ---- which frames a row's device can have at hand: the two cases of an answer

pub when_true : (b : Bool) (A B : Type 0) → b ≡ true → MatchBool b A B → A
when_true b A B is h = subst (λ (x : Bool). MatchBool x A B) is h

pub when_false : (b : Bool) (A B : Type 0) → b ≡ false → MatchBool b A B → B
when_false b A B is h = subst (λ (x : Bool). MatchBool x A B) is h

pub lacks_by : (b : Bool) (A T : Type 0) → A → IsTrue b ↔ T → MatchBool (not b) (A × (T → ⊥)) (A → T)
lacks_by true A T here is = λ a. is.0 refl
lacks_by false A T here is = (here, λ told. false≢true (is.1 told))

-- ---- the causes

-- a frame at hand is the sender's own, which has no cause, or the one that was accepted last
pub cause_of : (network : Network) {hs : List Happening} {device : DeviceId} (sender : DeviceId) {vl : VlId}
    {t cause cycle : ℕ} (accepted : Option Taking) → IsAcceptedLast network hs device vl t accepted
    → IsAtHand network hs device sender vl t cause cycle → (cause ≡ 0) ⊎ (is_last accepted cause cycle ≡ true)
cause_of network sender accepted so hand = grind (arith, held, so_held, eqb-true)

module _ (s : Scenario) (hs : List Happening) (link : LinkId) (row : LeavingRow) (t cycle : ℕ)
    (accepted : Option Taking) where
  -- where nothing was accepted it is the sender's
  pub none_taken : accepted ≡ None → IsAcceptedLast s.network hs row.device row.vl t accepted
      → (IsAtHand s.network hs row.device row.sender row.vl t 0 cycle
      → IsTold s hs link row t (record { cause = 0; cycle = cycle })) → AreTold s hs link row t cycle
  none_taken none so own cause hand = grind (arith, cause_of, false≢true)

  -- and where one was, it is that or the sender's
  pub one_taken : (taking : Taking) (b : Bool) → accepted ≡ Some taking
      → IsAcceptedLast s.network hs row.device row.vl t accepted
      → (IsAtHand s.network hs row.device row.sender row.vl t 0 cycle
      → IsTold s hs link row t (record { cause = 0; cycle = cycle }))
      → MatchBool b (IsAtHand s.network hs row.device row.sender row.vl t taking.number cycle
      × (IsTold s hs link row t (record { cause = taking.number; cycle = cycle }) → ⊥))
      (IsAtHand s.network hs row.device row.sender row.vl t taking.number cycle
      → IsTold s hs link row t (record { cause = taking.number; cycle = cycle }))
      → MatchBool b (LacksOne s hs link row t cycle) (AreTold s hs link row t cycle)
  one_taken taking true some so own lacks = record { cause = taking.number; at_hand = lacks.0; untold = lacks.1 }
  one_taken taking false some so own told = λ cause hand.
      elim (cause_of s.network row.sender accepted so hand) [
        | inl is_zero ↦ subst (λ (k : ℕ). IsAtHand s.network hs row.device row.sender row.vl t k cycle
            → IsTold s hs link row t (record { cause = k; cycle = cycle })) (sym is_zero) own hand
        | inr last ↦
            let same : taking.number ≡ cause =
            eqb-true taking.number cause (and_parts (taking.number == cause) (taking.cycle == cycle)
            (ap (λ o. is_last o cause cycle) (sym some) ∙ last)).0 in
            subst (λ (k : ℕ). IsAtHand s.network hs row.device row.sender row.vl t k cycle
            → IsTold s hs link row t (record { cause = k; cycle = cycle })) same told hand
      ]

-- ---- what holds of a row of a network in range, and of the local values at which its frames leave: the row

pub row_fit : {network : Network} {link : LinkId} {row : LeavingRow} → IsInRange network → IsRowOn network link row
    → IsRowFit row
row_fit {network} range on =
    let entry = on.entry in
    let vl = in_all (IsVlInRange network) network.vl entry.row.vl.0 entry.vl range.vls on.is.vl in
    let its_row = in_all (IsRowInRange network) network.row on.place entry.row range.rows on.is.row in
    subst IsRowFit (sym on.kept) (record {
      period_least = vl.period_least;
      period_most = vl.period_most;
      phase = vl.phase;
      offset = amount_most its_row.offset;
    })

source_there : {network : Network} (way : Way) {link : Link} → IsLinkInRange network link
    → HasDevice network (source_by way link)
source_there Up range = range.child
source_there Down range = range.parent

pub device_there : {network : Network} {link : LinkId} {row : LeavingRow} → IsInRange network
    → IsRowOn network link row → HasDevice network row.device
device_there {network} range on =
    let entry = on.entry in
    subst (λ (r : LeavingRow). HasDevice network r.device) (sym on.kept)
    (source_there entry.row.way
    (in_all (IsLinkInRange network) network.link entry.row.link.0 entry.link range.links on.is.link))

pub link_there : {network : Network} {link : LinkId} {row : LeavingRow} → IsRowOn network link row
    → HasLink network link
link_there {network} on =
    let entry = on.entry in
    subst (HasLink network) on.on (slice_get_within network.link entry.row.link.0 entry.link on.is.link)

-- ---- the values

cycle_least : {network : Network} → IsInRange network → 2 ^ 32 ≤ amount network.cycle
cycle_least range =
    let least = range.cycle.least in
    omega (arith, ints, least)

wide_by : (first : ℤ) (step f p c offset : ℕ) → (first +ℤ pos (0 * step)) ≡ pos ((f + 0 * p) * c + offset)
    → (first +ℤ pos (1 * step)) ≡ pos ((f + 1 * p) * c + offset) → 1 ≤ p → 2 ^ 32 ≤ c → 2 ^ 32 ≤ step
wide_by first step f p c offset at next some least = grind (arith, mul-le-mul_right, ints)

-- the values lie far apart
pub wide_step : {network : Network} {row : LeavingRow} {series : Series} → IsInRange network → IsRowFit row
    → AreLeavings network row series → 2 ^ 32 ≤ series.step
wide_step {network} {row} {series} range fit are =
    wide_by series.first series.step (first_cycle row) row.period (amount network.cycle) row.offset (are.values 0) (are.values 1) fit.period_least
    (cycle_least range)

few_by : (v : ℤ) (f n p c offset : ℕ) → v ≡ pos ((f + n * p) * c + offset) → v ≤ℤ pos (2 ^ 83) → 1 ≤ p → 2 ^ 32 ≤ c → n ≤ 2 ^ 52
few_by v f n p c offset at near some least = grind (arith, mul-le-mul_left, mul-le-mul_right, ints)

-- the number of what is crossed is not great
pub few_left : {network : Network} {row : LeavingRow} {series : Series} {reading : ℕ → ℕ} {shown : Shown}
    {after until : ℕ} {crossed : Crossed} → IsInRange network → IsRowFit row → AreLeavings network row series
    → IsNextCrossing reading shown series after until crossed → crossed.number ≤ 2 ^ 52
few_left {network} {row} {series} {crossed} range fit are next =
    few_by (value_in series crossed.number) (first_cycle row) crossed.number row.period (amount network.cycle) row.offset (are.values crossed.number)
    next.near fit.period_least (cycle_least range)

-- ---- the time

-- no value is reached at time 0
pub reached_later : {s : Scenario} {hs : List Happening} {device : DeviceId} {v : ℤ} (t : ℕ)
    → Reaches s hs device v t → 0 < t
reached_later zero reaches = grind (arith, changed_early, ints)
reached_later (suc t) reaches = omega arith

-- ---- the dispatches by a row, and by the rows of a link: a row

-- what is owed by a row of the link is dispatched
owes_dispatches : {s : Scenario} {hs : List Happening} {link : LinkId} {row : LeavingRow} {t : ℕ} {frame : RowFrame}
    → IsRowOn s.network link row → OwesFrame s hs row t frame
    → Dispatches s hs row.device t link frame.cause row.vl frame.cycle
owes_dispatches on owes = grind arith

-- what is dispatched is owed by the row by which it is
dispatched_by : {s : Scenario} {hs : List Happening} (o : Dispatch)
    (does : Dispatches s hs o.device o.time o.link o.cause o.vl o.cycle)
    → IsBy s hs o.link (leaving_by does.entry) (debts.dispatch o)
dispatched_by {s} {hs} o does =
    let made : DeviceId → VlId → Debt = λ d v.
    debts.dispatch (record { device = d; link = o.link; cause = o.cause; vl = v; cycle = o.cycle; time = o.time }) in
    let row = leaving_by does.entry in
    let sender = does.entry.vl.sender in
    record {
      time = o.time;
      frame = record { cause = o.cause; cycle = o.cycle };
      owes = subst (λ (d : DeviceId). OwesFrame s hs (record {
        device = d;
        vl = row.vl;
        offset = row.offset;
        period = row.period;
        phase = row.phase;
        sender = sender;
      })
          o.time (record { cause = o.cause; cycle = o.cycle })) (sym does.leaves) (record {
            occurs = record { begun = does.occurs.begun; in_phase = does.occurs.in_phase };
            up = does.up;
            reached = does.reached;
            at_hand = does.at_hand;
          });
      is = ap (λ d. made d o.vl) (sym does.leaves) ∙ ap (made (source_of does.entry)) (sym does.of_vl);
    }

row_before : (s : Scenario) (hs : List Happening) (until : ℕ) (link : LinkId) (row : LeavingRow) (before : ℕ)
    → ArePaid (OwesFrame s hs row) (IsTold s hs link row) 0 before → (o : Debt) → IsBy s hs link row o
    → (owed : IsOwed s hs until o) → IsPaidBefore s hs until before o owed
row_before s hs until link row before paid o by =
    subst (λ (x : Debt). (owed : IsOwed s hs until x) → IsPaidBefore s hs until before x owed) (sym by.is)
    (λ owed. (owed.timely, λ lt. paid by.time by.frame (reached_later by.time by.owes.reached) lt by.owes))

pub first_row : (s : Scenario) (hs : List Happening) (until : ℕ) {link : LinkId} {row : LeavingRow} (r : Option ℕ)
    → IsRowOn s.network link row → TellsFirstUnpaid (OwesFrame s hs row) (IsTold s hs link row) 0 until r
    → TellsFirst s hs until (IsBy s hs link row) r
first_row s hs until {link} {row} r on =
    first_in_time (OwesFrame s hs row) (IsTold s hs link row) s hs until (IsBy s hs link row) r
    (row_before s hs until link row)
    (λ t frame owes timely not. (
      debts.dispatch (dispatch_of link row t frame),
      record { time = t; frame = frame; owes = owes; is = refl },
      record { dispatches = owes_dispatches on owes; timely = timely },
      not,
      refl,
    ))

-- ---- the rows of a link

-- it is by the row of this place
abbrev pub IsByRow : Scenario → List Happening → LinkId → List LeavingRow → ℕ → Debt → Type 0
IsByRow s hs link rows i o = (i < length rows) × IsBy s hs link (slice_index_or rows i no_row) o

module _ (s : Scenario) (hs : List Happening) (until n : ℕ) (link : LinkId) (rows : List LeavingRow) where
  pub by_some : AreRowsOn s.network link rows → length rows ≤ n → (o : Debt) → IsDispatchDebtOn link o → IsOwed s hs until o
      → IsOfFirst (IsByRow s hs link rows) n o
  by_some are all (debts.dispatch o) on owed =
      let does = owed.dispatches in
      let row = leaving_by does.entry in
      let at = placed rows no_row row (are.complete does.place does.entry does.row (does.by ∙ on)) in
      let within = at.within in
      let by : IsBy s hs link row (debts.dispatch o) = subst (λ l. IsBy s hs l row (debts.dispatch o)) on
      (dispatched_by o does) in
      (at.place, omega (arith, within, all), (within, subst (λ r. IsBy s hs link r (debts.dispatch o)) (sym at.is) by))
  by_some are all other on owed = absurd on

  -- these are all the dispatches on the link
  pub all_rows : (r : Option ℕ) → AreRowsOn s.network link rows → length rows ≤ n
      → TellsFirst s hs until (IsOfFirst (IsByRow s hs link rows) n) r → TellsFirst s hs until (IsDispatchDebtOn link) r
  all_rows r are all =
      first_of_more s hs until (IsOfFirst (IsByRow s hs link rows) n) (IsDispatchDebtOn link) r
      (λ o by. subst (IsDispatchDebtOn link) (sym by.2.1.is) refl) (by_some are all)

-- a dispatch is on a link of the network
within_network : {s : Scenario} {hs : List Happening} {until : ℕ} {o : Dispatch} → OwesDispatch s hs until o
    → o.link.0 < length s.network.link
within_network owed = grind (arith, length, slice_get_within)

pub link_within : (s : Scenario) (hs : List Happening) (until : ℕ) (link : LinkId) (o : Debt) → IsDispatchDebtOn link o
    → IsOwed s hs until o → link.0 < length s.network.link
link_within s hs until link (debts.dispatch o) is owed =
    subst (λ (l : LinkId). l.0 < length s.network.link) is (within_network owed)
link_within s hs until link other is owed = absurd is

-- ---- what a row's device dispatches while the same is shown of it

-- the device's clock crosses the value of the cycle
pub record IsCrossed (s : Scenario) (shown : Shown) (row : LeavingRow) (series : Series) (t cycle : ℕ) : Type 0 where
  pub number : ℕ
  pub cycle_is : cycle ≡ cycle_of row number
  pub crosses : CrossesAt (s.reading row.device) shown (value_in series number) t

module _ (s : Scenario) (hs : List Happening) (shown : Shown) (row : LeavingRow) (series : Series) where
  pub owed_crossed : {t : ℕ} {frame : RowFrame} → AreLeavings s.network row series
      → Shows s (earlier t hs) row.device shown → OwesFrame s hs row t frame
      → IsCrossed s shown row series t frame.cycle
  owed_crossed {t} {frame} are shows owes =
      let k = are.all frame.cycle owes.occurs in
      let value : pos (leaving_value s.network row frame.cycle) ≡ value_in series k.0 =
      ap (λ n. pos (leaving_value s.network row n)) k.1 ∙ sym (are.values k.0) in
      record {
        number = k.0;
        cycle_is = k.1;
        crosses = subst (λ v. CrossesAt (s.reading row.device) shown v t) value
            (reaches_come
            {readings = record { now = s.reading row.device t; before = s.reading row.device (t - 1) }}
            (record { now = refl; before = refl }) shows owes.reached);
      }

  pub crossed_owes : {t : ℕ} (n : ℕ) {cause : ℕ} → IsUp s hs row.device t → ReadsOn (s.reading row.device)
      → AreLeavings s.network row series → Shows s (earlier t hs) row.device shown
      → CrossesAt (s.reading row.device) shown (value_in series n) t
      → IsAtHand s.network hs row.device row.sender row.vl t cause (cycle_of row n)
      → OwesFrame s hs row t (record { cause = cause; cycle = cycle_of row n })
  crossed_owes {t} n up on are shows crosses hand = record {
    occurs = are.occur n;
    up = up;
    reached = come_reaches hs {t = t}
        {readings = record { now = s.reading row.device t; before = s.reading row.device (t - 1) }}
        (record { now = refl; before = refl })
        (record { begins = on.begins; never_falls = on.never_falls }) shows
        (subst (λ v. CrossesAt (s.reading row.device) shown v t) (are.values n) crosses);
    at_hand = hand;
  }

  -- at a crossing nothing is dispatched but a frame of its cycle
  crossed_cycle : {after until : ℕ} {crossed : Crossed} {frame : RowFrame} → ReadsOn (s.reading row.device)
      → 2 ^ 32 ≤ series.step → AreLeavings s.network row series → Shows s (earlier crossed.time hs) row.device shown
      → IsNextCrossing (s.reading row.device) shown series after until crossed
      → OwesFrame s hs row crossed.time frame → frame.cycle ≡ cycle_of row crossed.number
  crossed_cycle {crossed} on wide are shows next owes =
      let is = owed_crossed are shows owes in
      let later = next.later in
      let least = next.least crossed.time is.number later is.crosses in
      elim (cases_lt crossed.number is.number) [
        | inl more ↦
            absurd (one_crossed shown series crossed.time crossed.number is.number on wide (omega (arith, later))
            next.crosses
            is.crosses more)
        | inr less ↦ is.cycle_is ∙ ap (cycle_of row) (omega (arith, least, less))
      ]

module _ (s : Scenario) (hs : List Happening) (link : LinkId) (shown : Shown) (row : LeavingRow) (series : Series)
    (after until : ℕ) (crossed : Crossed) where
  told_then : {frame : RowFrame} → ReadsOn (s.reading row.device) → 2 ^ 32 ≤ series.step
      → AreLeavings s.network row series → Shows s (earlier crossed.time hs) row.device shown
      → IsNextCrossing (s.reading row.device) shown series after until crossed
      → (IsUp s hs row.device crossed.time → AreTold s hs link row crossed.time (cycle_of row crossed.number))
      → OwesFrame s hs row crossed.time frame → IsTold s hs link row crossed.time frame
  told_then {frame} on wide are shows next told owes =
      let at = crossed_cycle s hs shown row series on wide are shows next owes in
      let all : AreTold s hs link row crossed.time frame.cycle =
      subst (AreTold s hs link row crossed.time) (sym at) (told owes.up) in
      all frame.cause owes.at_hand

  -- up to the next crossing all is told where what is dispatched at it is
  pub told_on : ReadsOn (s.reading row.device) → 2 ^ 32 ≤ series.step → AreLeavings s.network row series
      → ShowsWithin s hs row.device after until shown → IsNextCrossing
      (s.reading row.device) shown series after until crossed
      → (IsUp s hs row.device crossed.time → AreTold s hs link row crossed.time (cycle_of row crossed.number))
      → ArePaid (OwesFrame s hs row) (IsTold s hs link row) after (crossed.time + 1)
  told_on on wide are shows next told t frame lt early owes =
      let timely = next.timely in
      elim (cases_lt t crossed.time) [
        | inl less ↦
            let is = owed_crossed s hs shown row series are (shows t lt (omega (arith, early, timely))) owes in
            absurd (next.none_before t is.number lt less is.crosses)
        | inr more ↦
            let same : crossed.time ≡ t = omega (arith, more, early) in
            subst (λ x. OwesFrame s hs row x frame → IsTold s hs link row x frame) same
            (told_then {frame = frame} on wide are (shows crossed.time next.later timely) next told) owes
      ]

module _ (s : Scenario) (hs : List Happening) (link : LinkId) (shown : Shown) (row : LeavingRow) where
  pub told_without : {series : Series} (after until before : ℕ) → AreLeavings s.network row series
      → ShowsWithin s hs row.device after until shown → before ≤ until + 1
      → NoneCrossed (s.reading row.device) shown series after before
      → ArePaid (OwesFrame s hs row) (IsTold s hs link row) after before
  told_without {series} after until before are shows last none t frame lt early owes =
      let is = owed_crossed s hs shown row series are (shows t lt (omega (arith, early, last))) owes in
      absurd (none t is.number lt early is.crosses)

  -- a device that is not synchronised dispatches nothing
  pub told_silent : (after until : ℕ) → ShowsWithin s hs row.device after until shown
      → (shown.state ≡ Synchronised → ⊥) → ArePaid (OwesFrame s hs row) (IsTold s hs link row) after (until + 1)
  told_silent after until shows other t frame lt early owes =
      absurd (other (shown_up (shows t lt (omega (arith, early))) owes.up))

  pub first_at : {series : Series} {after until : ℕ} {crossed : Crossed} → ReadsOn (s.reading row.device)
      → AreLeavings s.network row series → ShowsWithin s hs row.device after until shown
      → IsNextCrossing (s.reading row.device) shown series after until crossed → IsUp s hs row.device crossed.time
      → LacksOne s hs link row crossed.time (cycle_of row crossed.number)
      → IsFirstUnpaid (OwesFrame s hs row) (IsTold s hs link row) after until crossed.time
  first_at {series} {after} {until} {crossed} on are shows next up lacks =
      let timely = next.timely in
      record {
        later = next.later;
        timely = timely;
        what = record { cause = lacks.cause; cycle = cycle_of row crossed.number };
        owes = crossed_owes s hs shown row series crossed.number up on are (shows crossed.time next.later timely)
            next.crosses
            lacks.at_hand;
        unpaid = lacks.untold;
        paid_before = told_without after until crossed.time are shows (omega (arith, timely)) next.none_before;
      }

-- ---- where the records of dispatches stand

abbrev device_by : ℕ → DeviceId
device_by n = record { 0 = n }

abbrev link_by : ℕ → LinkId
link_by n = record { 0 = n }

abbrev vl_by : ℕ → VlId
vl_by n = record { 0 = n }

module _ (u m n t k : ℕ) where
  -- what stands at the place of a loss is it
  lost_at : (d : DeviceId) (l : LinkId) (body : NoteBody) → place_at u m body ≡ place_at t n (notes.Lost d l k)
      → (u ≡ t) × (body ≡ notes.Lost d l k)
  lost_at d l (notes.Lost device link cause) e = grind arith
  lost_at d l other e = absurd cc

  -- what stands at the place of a dispatch is it
  sent_at : (c : ℕ) (d : DeviceId) (l : LinkId) (v : VlId) (body : NoteBody)
      → place_at u m body ≡ place_at t n (notes.TtSent d l k v c) → (u ≡ t) × (body ≡ notes.TtSent d l k v c)
  sent_at c d l v (notes.TtSent device link cause vl cycle) e = grind arith
  sent_at c d l v other e = absurd cc

-- what stands at the place of either is that one
record_at : (cut : Bool) (u m n : ℕ) (o : Dispatch) (body : NoteBody) → place_at u m body ≡ place_at o.time n (dispatch_record o cut)
    → (u ≡ o.time) × (body ≡ dispatch_record o cut)
record_at true u m n o body e = lost_at u m n o.time o.cause o.device o.link body e
record_at false u m n o body e = sent_at u m n o.time o.cause o.cycle o.device o.link o.vl body e

same_place : (cut : Bool) (t m n : ℕ) (o : Dispatch) → place_at t m (dispatch_record o cut) ≡ place_at t n (dispatch_record o cut)
same_place true t m n o = refl
same_place false t m n o = refl

-- a record tells of the dispatch where one stands at its place
pub told_there : (s : Scenario) (hs : List Happening) (o : Dispatch) (cut : Bool) (n : ℕ) (place : List ℕ) → is_cut_then s o ≡ cut
    → place ≡ place_at o.time n (dispatch_record o cut) → HasRecordAt hs place ↔ IsPaid hs (Pays s) (debts.dispatch o)
told_there s hs o cut n place then is = grind (arith, record_at, same_place)

-- How a flow is judged: its rows, the clocks of its devices, and what owing comes to.
use Rattle.std.{specs.Prelude.{IsSomeAnd, MatchOption, None, Option, Some, is_some, slice_get}}
use Rattle.std.proofs.{lemmas.{Bool.{cases_lt, false≢true, le-leb, lt-leb}, Int.ints, Option.slice_get_within}}
use Rattle.std.proofs.Common
use Common.{◌*◌, ◌+◌, ◌-◌, ◌<◌, ◌∙◌, ◌≡◌, ◌≤◌, ◌⊎◌, List, ap, arith, false, inl, inr, length, pos, refl, subst, sym}
use Common.{true, ℕ, ℤ}
use Rattle.audit_devices.proofs.clocks_lemmas.Reached.{come_reaches, reaches_come}
use Rattle.audit_devices.specs.{Lasting.ShowsWithin, Showing.{Shown, Shows}}
use Rattle.audit_devices.specs.{clocks.Finding.{CrossesAt, IsNextCrossing, NoneCrossed, value_in}}
use Rattle.audit_devices.specs.{declared.clocks.finding.{Crossed.Crossed, Series.Series}}
use Rattle.audit_law.specs.events.{Readings.ReadsOn, Remembering.has_come}
use Rattle.audit_sweep.proofs.unpaid_lemmas.points_lemmas.FirstUnpaid.{AreBeginnings}
use Rattle.lens_flows.{proofs.judge_lemmas.Firsts.first_behind}
use Rattle.lens_flows.specs.{declared.judge.{beginning.Begun.Begun, flow.{Flow.Flow, RowSpan.RowSpan}}}
use Rattle.lens_flows.specs.judge.{Beginnings.{BeginsCycle, BeginsOne, IsFirstBegun, IsNextBegun}}
use Rattle.lens_flows.specs.judge.{Fates.{Ends, IsBegun, IsOwedFrom, IsReady, IsRowSent, IsSent, StaysInStep}}
use Rattle.lens_flows.specs.judge.{Flows.{AreWithin, AreWithinBefore, IsFlow, IsRowOf, TellsSpan}}
use Rattle.lens_flows.specs.judge.{Times.{IsFirstTime, NoneWithin}, Values.values_from}
use Rattle.net_plan.{proofs.Trees.greatest_is_unique}
use Rattle.net_plan.specs.{Belonging.HasDevice, Bounds.IsGreatest, Places.{device_at, is_end_system}}
use Rattle.net_plan.specs.{Ranges.{IsInRange, IsVlInRange}}
use Rattle.net_plan.specs.declared.{ids.{DeviceId.DeviceId, VlId.VlId}, network.Network.Network}
use Rattle.net_plan.specs.declared.{tables.{Device.Device, Row.Row}}
use Rattle.precision_law.proofs.law.Precision.{up_to_is}
use Rattle.run_law.specs.{device.{LocalClocks.Reaches, States.state_after}, law.Safety.{IsWindowEnd, ReachesPlace}}
use Rattle.run_law.specs.{records.Happenings.{Happening, earlier, up_to}, scenario.Scenarios.{Scenario, is_broken}}
use Rattle.sync_state.specs.declared.state.State.TheVariants.{Synchronised}
use Rattle.tte_units.{proofs.general_lemmas.Lists.in_all, specs.Amount.amount}

-- ---- which cycles a clock begins, while the same is shown of its device

module _ (s : Scenario) (hs : List Happening) (device : DeviceId) (shown : Shown) (series : Series) where
  begins_crosses : {t cycle : ℕ} → AreBeginnings s series → Shows s (earlier t hs) device shown
      → BeginsCycle s hs device t cycle → CrossesAt (s.reading device) shown (value_in series (cycle - 1)) t
  begins_crosses {t} {cycle} are shows begins =
      let begun = begins.begun in
      let number : cycle ≡ cycle - 1 + 1 = omega (arith, begun) in
      let value : pos (cycle * amount s.network.cycle + 0) ≡ value_in series (cycle - 1) =
      ap pos (omega arith) ∙ ap (λ c. pos (c * amount s.network.cycle)) number ∙ sym (are (cycle - 1)) in
      subst (λ v. CrossesAt (s.reading device) shown v t) value
      (reaches_come {readings = record { now = s.reading device t; before = s.reading device (t - 1) }}
      (record { now = refl; before = refl }) shows begins.reaches)

  crosses_begins : (t n : ℕ) → ReadsOn (s.reading device) → AreBeginnings s series
      → Shows s (earlier t hs) device shown → CrossesAt (s.reading device) shown (value_in series n) t
      → BeginsCycle s hs device t (n + 1)
  crosses_begins t n on are shows crosses =
      let value : value_in series n ≡ pos ((n + 1) * amount s.network.cycle + 0) = are n ∙ ap pos (omega arith) in
      record {
        begun = omega arith;
        reaches = come_reaches hs {t = t}
            {readings = record { now = s.reading device t; before = s.reading device (t - 1) }} (record { now = refl; before = refl })
            (record { begins = on.begins; never_falls = on.never_falls }) shows
            (subst (λ v. CrossesAt (s.reading device) shown v t) value crosses);
      }

  pub none_begun : (after until before : ℕ) → AreBeginnings s series → ShowsWithin s hs device after until shown
      → before ≤ until + 1 → NoneCrossed (s.reading device) shown series after before
      → NoneWithin (BeginsOne s hs device) after before
  none_begun after until before are shows last none t lt early one =
      none t (one.0 - 1) lt early (begins_crosses are (shows t lt (omega (arith, early, last))) one.1)

  pub first_begun : {after until : ℕ} {crossed : Crossed} (begun : Begun) → ReadsOn (s.reading device)
      → AreBeginnings s series → ShowsWithin s hs device after until shown
      → IsNextCrossing (s.reading device) shown series after until crossed → begun.time ≡ crossed.time
      → begun.cycle ≡ crossed.number + 1 → IsFirstBegun s hs device after until begun
  first_begun {after} {until} {crossed} begun on are shows next time cycle =
      let timely = next.timely in
      let here = crosses_begins crossed.time crossed.number on are (shows crossed.time next.later timely)
      next.crosses in
      let at : BeginsCycle s hs device begun.time begun.cycle =
      subst (λ t. BeginsCycle s hs device t begun.cycle) (sym time)
      (subst (BeginsCycle s hs device crossed.time) (sym cycle) here) in
      let later = next.later in
      record {
        first = record {
          later = omega (arith, later, time);
          timely = omega (arith, timely, time);
          is = (begun.cycle, at);
          none_before = subst (NoneWithin (BeginsOne s hs device) after) (sym time)
              (none_begun after until crossed.time are shows (omega (arith, timely)) next.none_before);
        };
        begins = at;
      }

module _ (s : Scenario) (hs : List Happening) (device : DeviceId) (after : ℕ) where
  pub begun_behind : (mid until last : ℕ) (r : Option Begun) → after ≤ mid → until ≤ last → is_some r ≡ true
      → NoneWithin (BeginsOne s hs device) after (mid + 1) → IsNextBegun s hs device mid until r
      → IsNextBegun s hs device after last r
  begun_behind mid until last None le most some none next = absurd cc
  begun_behind mid until last (Some begun) le most some none next =
      record { first = first_behind (BeginsOne s hs device) after last le most none next.first; begins = next.begins }

  pub none_next : (until : ℕ) (r : Option Begun) → r ≡ None → IsNextBegun s hs device after until r
      → NoneWithin (BeginsOne s hs device) after (until + 1)
  none_next until r is next = subst (λ o. IsNextBegun s hs device after until o) is next

pub no_begun : (r : Option Begun) → is_some r ≡ false → r ≡ None
no_begun None e = refl
no_begun (Some begun) e = absurd cc

-- ---- when a clock reaches one value, while the same is shown of its device

first_value : (v : ℤ) → value_in (values_from v) 0 ≡ v
first_value v = omega (arith, ints)

module _ (s : Scenario) (hs : List Happening) (device : DeviceId) (v : ℤ) (t : ℕ) (shown : Shown) where
  reached_crosses : Shows s (earlier t hs) device shown → Reaches s hs device v t
      → CrossesAt (s.reading device) shown (value_in (values_from v) 0) t
  reached_crosses shows r =
      subst (λ x. CrossesAt (s.reading device) shown x t) (sym (first_value v))
      (reaches_come {readings = record { now = s.reading device t; before = s.reading device (t - 1) }} (record { now = refl; before = refl }) shows r)

  crossed_reaches : ReadsOn (s.reading device) → Shows s (earlier t hs) device shown
      → CrossesAt (s.reading device) shown (value_in (values_from v) 0) t → Reaches s hs device v t
  crossed_reaches on shows crosses =
      come_reaches hs {t = t} {readings = record { now = s.reading device t; before = s.reading device (t - 1) }} (record { now = refl; before = refl })
      (record { begins = on.begins; never_falls = on.never_falls }) shows
      (subst (λ x. CrossesAt (s.reading device) shown x t) (first_value v) crosses)

module _ (s : Scenario) (hs : List Happening) (device : DeviceId) (v : ℤ) (shown : Shown) (after until : ℕ) where
  -- where none of the values is crossed, this one is not reached
  pub never_reached : (before : ℕ) → ShowsWithin s hs device after until shown → before ≤ until + 1
      → NoneCrossed (s.reading device) shown (values_from v) after before
      → NoneWithin (Reaches s hs device v) after before
  never_reached before shows last none t lt early r =
      none t 0 lt early (reached_crosses s hs device v t shown (shows t lt (omega (arith, early, last))) r)

  -- where the next that is crossed is this one, it is reached there first
  pub first_reached : {crossed : Crossed} → ReadsOn (s.reading device) → ShowsWithin s hs device after until shown
      → IsNextCrossing (s.reading device) shown (values_from v) after until crossed → crossed.number ≡ 0
      → IsFirstTime (Reaches s hs device v) after until crossed.time
  first_reached {crossed} on shows next zero =
      let timely = next.timely in
      record {
        later = next.later;
        timely = timely;
        is = crossed_reaches s hs device v crossed.time shown on (shows crossed.time next.later timely)
            (subst (λ n. CrossesAt (s.reading device) shown (value_in (values_from v) n) crossed.time) zero
            next.crosses);
        none_before = never_reached crossed.time shows (omega (arith, timely)) next.none_before;
      }

  -- and where it is a greater one, this one is passed
  pub passed : {crossed : Crossed} → ShowsWithin s hs device after until shown
      → IsNextCrossing (s.reading device) shown (values_from v) after until crossed → (crossed.number ≡ 0 → ⊥)
      → NoneWithin (Reaches s hs device v) after (until + 1)
  passed shows next other t lt early r =
      let least = next.least t 0 lt (reached_crosses s hs device v t shown (shows t lt (omega (arith, early))) r) in
      other (omega (arith, least))

-- ---- how long a device is in step

-- what is shown before the next unit of time is so after this one
pub shown_state : {s : Scenario} (hs : List Happening) {device : DeviceId} (t : ℕ) {shown : Shown}
    → Shows s (earlier (t + 1) hs) device shown → shown.state ≡ state_after s (up_to t hs) device
shown_state {s} hs {device} t shows =
    shows.state ∙ ap (λ xs. state_after s xs device) (sym (up_to_is t hs))

-- a time that has not come by then has not come before
pub not_come : (from : Option ℕ) (t u : ℕ) → t ≤ u → has_come from u ≡ false → has_come from t ≡ false
not_come None t u le none = refl
not_come (Some n) t u le none =
    elim (cases_lt t n) [
      | inl lt ↦ lt-leb n t lt
      | inr ge ↦ absurd (false≢true (sym none ∙ le-leb n u (omega (arith, ge, le))))
    ]

-- the device is synchronised from the one time to before the other
abbrev pub StaysSynchronised : Scenario → List Happening → DeviceId → ℕ → ℕ → Type 0
StaysSynchronised s hs device from before = (t : ℕ) → from ≤ t → t < before → state_after s (up_to t hs) device ≡ Synchronised

pub stays_on : (s : Scenario) (hs : List Happening) (device : DeviceId) (from after end : ℕ) (shown : Shown) → StaysSynchronised s hs device from after
    → ((t : ℕ) → after < t → t ≤ end → Shows s (earlier t hs) device shown) → shown.state ≡ Synchronised → StaysSynchronised s hs device from end
stays_on s hs device from after end shown so shows is t ge lt =
    elim (cases_lt t after) [
      | inl less ↦ so t ge less
      | inr more ↦ sym (shown_state hs t (shows (t + 1) (omega (arith, more)) (omega (arith, lt)))) ∙ is
    ]

pub in_step : (s : Scenario) (hs : List Happening) (device : DeviceId) (from to after : ℕ) (broken : Option ℕ)
    → ((t : ℕ) → is_broken s device t ≡ has_come broken t) → has_come broken to ≡ false → to < after → StaysSynchronised s hs device from after
    → StaysInStep s hs device from to
in_step s hs device from to after broken breaks whole all so t ge le =
    record { correct = breaks t ∙ not_come broken t to le whole; synchronised = so t ge (omega (arith, le, all)) }

-- ---- what owing comes to, and what becomes of a flow where it is not owed

pub greatest_le : (Has : ℕ → Type 0) {m n : ℕ} → IsGreatest Has m → IsGreatest Has n → m ≤ n
greatest_le Has {m} a b = elim a.reached [
  | inl zero ↦ omega (arith, zero)
  | inr has ↦ b.most m has
]

module _ (s : Scenario) (hs : List Happening) (until : ℕ) (flow : Flow) (cycle from : ℕ) where
  pub owed_ends : IsFlow s.network flow → (o : IsOwedFrom s hs until flow cycle from)
      → Ends s hs until flow cycle from o.owed.to
  owed_ends is o =
      let order = o.owed.in_order in
      let begins = o.begins in
      record {
        ends = subst (λ p. ReachesPlace s hs flow.device cycle p o.owed.to)
            (greatest_is_unique (IsWindowEnd s.network flow.vl flow.device) o.owed.greatest is.greatest) o.owed.ends;
        in_order = omega (arith, order, begins);
        in_run = o.owed.in_run;
      }

  pub owed_stays : (o : IsOwedFrom s hs until flow cycle from) → StaysInStep s hs flow.device from o.owed.to
  owed_stays o t ge le = let begins = o.begins in o.owed.receiver t (omega (arith, begins, ge)) le

  pub owed_sent : (o : IsOwedFrom s hs until flow cycle from) → IsSent s hs flow cycle o.owed.to
  owed_sent o = record {
    rows = λ place entry is of_vl by.
        let r = o.owed.rows place entry is of_vl by in
        record { time = r.0; early = r.1; reaches = record { reaches = r.2; synchronised = r.3 } };
    correct = o.owed.sender;
  }

  pub made_owed : {to : ℕ} → IsFlow s.network flow → IsBegun s hs until flow cycle from
      → Ends s hs until flow cycle from to → StaysInStep s hs flow.device from to → IsSent s hs flow cycle to
      → IsOwedFrom s hs until flow cycle from
  made_owed {to} is begun ends stays sent = record {
    owed = record {
      there = is.there;
      occurs = begun.occurs;
      end_system = is.end_system;
      into = is.into;
      enters = is.enters;
      last = flow.last;
      greatest = is.greatest;
      from = from;
      to = to;
      begins = begun.begins;
      ends = ends.ends;
      in_order = ends.in_order;
      in_run = ends.in_run;
      receiver = stays;
      rows = λ place entry at of_vl by.
          let h = sent.rows place entry at of_vl by in
          (h.time, h.early, h.reaches.reaches, h.reaches.synchronised);
      sender = sent.correct;
    };
    begins = refl;
  }

-- ---- the ends, one after another

-- at no end up to this time the frame was sent
abbrev pub NoneSentUpTo : Scenario → List Happening → ℕ → Flow → ℕ → ℕ → ℕ → Type 0
NoneSentUpTo s hs until flow cycle from after = (to : ℕ) → Ends s hs until flow cycle from to → to ≤ after → IsSent s hs flow cycle to → ⊥

-- the local value of the end of the last window
abbrev pub IsEndOf : Scenario → List Happening → Flow → ℕ → ℕ → Type 0
IsEndOf s hs flow cycle t = ReachesPlace s hs flow.device cycle flow.last t

module _ (s : Scenario) (hs : List Happening) (until : ℕ) (flow : Flow) (cycle from : ℕ) where
  -- an owed frame is sent at an end behind those at which none was
  behind : (after : ℕ) → IsFlow s.network flow → NoneSentUpTo s hs until flow cycle from after
      → (o : IsOwedFrom s hs until flow cycle from) → after < o.owed.to
  behind after is none o = elim (cases_lt after o.owed.to) [
    | inl lt ↦ lt
    | inr ge ↦ absurd (none o.owed.to (owed_ends s hs until flow cycle from is o) ge
        (owed_sent s hs until flow cycle from o))
  ]

  -- where the receiver is not in step up to the next end, nothing is owed
  pub not_in_step : {after to : ℕ} → IsFlow s.network flow → NoneSentUpTo s hs until flow cycle from after
      → IsFirstTime (IsEndOf s hs flow cycle) after until to → (StaysInStep s hs flow.device from to → ⊥)
      → IsOwedFrom s hs until flow cycle from → ⊥
  not_in_step {after} {to} is none first out o =
      let lt = behind after is none o in
      elim (cases_lt o.owed.to to) [
        | inl less ↦ first.none_before o.owed.to lt less (owed_ends s hs until flow cycle from is o).ends
        | inr more ↦ out (λ t ge le. owed_stays s hs until flow cycle from o t ge (omega (arith, le, more)))
      ]

  -- where there is no further end, nothing is
  pub no_end_left : (after : ℕ) → IsFlow s.network flow → NoneSentUpTo s hs until flow cycle from after
      → NoneWithin (IsEndOf s hs flow cycle) after (until + 1) → IsOwedFrom s hs until flow cycle from → ⊥
  no_end_left after is none no_more o =
      let lt = behind after is none o in
      let ends = owed_ends s hs until flow cycle from is o in
      let timely = ends.in_run in
      no_more o.owed.to lt (omega (arith, timely)) ends.ends

  -- one end more
  pub none_on : {after to : ℕ} → NoneSentUpTo s hs until flow cycle from after
      → IsFirstTime (IsEndOf s hs flow cycle) after until to → (IsSent s hs flow cycle to → ⊥)
      → NoneSentUpTo s hs until flow cycle from to
  none_on {after} {to} none first unsent u ends le sent =
      elim (cases_lt after u) [
        | inl more ↦ elim (cases_lt u to) [
          | inl less ↦ first.none_before u more less ends.ends
          | inr ge ↦ let same : u ≡ to = omega (arith, ge, le) in unsent (subst (IsSent s hs flow cycle) same sent)
        ]
        | inr less ↦ none u ends less sent
      ]

  -- at first there is none
  pub none_yet : NoneSentUpTo s hs until flow cycle from from
  none_yet u ends le sent = let order = ends.in_order in absurd (omega (arith, order, le))

  pub end_there : {after to : ℕ} → from ≤ after → IsFirstTime (IsEndOf s hs flow cycle) after until to
      → Ends s hs until flow cycle from to
  end_there le first =
      let later = first.later in
      record { ends = first.is; in_order = omega (arith, le, later); in_run = first.timely }

  -- ---- fates

  -- a receiver that is not in step up to the first end, or the end of the run, is not ready
  pub ready_stays : {to : ℕ} → IsFirstTime (IsEndOf s hs flow cycle) from until to
      → IsReady s hs until flow cycle from → StaysInStep s hs flow.device from to
  ready_stays {to} first ready t ge le =
      let timely = first.timely in
      ready t ge (omega (arith, le, timely)) (λ u ends. elim (cases_lt u to) [
        | inl less ↦ absurd (first.none_before u ends.in_order less ends.ends)
        | inr more ↦ omega (arith, le, more)
      ])

  pub ready_to_end : NoneWithin (IsEndOf s hs flow cycle) from (until + 1) → IsReady s hs until flow cycle from
      → StaysInStep s hs flow.device from until
  ready_to_end none ready t ge le =
      ready t ge le (λ u ends. let timely = ends.in_run in
      absurd (none u ends.in_order (omega (arith, timely)) ends.ends))

  pub stays_ready : {to : ℕ} → Ends s hs until flow cycle from to → StaysInStep s hs flow.device from to
      → IsReady s hs until flow cycle from
  stays_ready {to} ends stays t ge le none = stays t ge (none to ends)

  pub no_end : NoneWithin (IsEndOf s hs flow cycle) from (until + 1) → (to : ℕ) → Ends s hs until flow cycle from to
      → ⊥
  no_end none to ends = let timely = ends.in_run in none to ends.in_order (omega (arith, timely)) ends.ends

-- ---- the rows by which the sender of a flow sends

pub sender_there : {network : Network} {flow : Flow} → IsInRange network → IsFlow network flow
    → HasDevice network flow.of_vl.sender
sender_there {network} {flow} range is =
    (in_all (IsVlInRange network) network.vl flow.vl.0 flow.of_vl range.vls is.there).sender

found_there : (xs : List Device) (k : ℕ) (o : Option Device) (P : Device → Type 0) → slice_get xs k ≡ o → IsSomeAnd o P → k < length xs
found_there xs k None P at some = absurd some
found_there xs k (Some d) P at some = slice_get_within xs k d at

pub receiver_there : {network : Network} {flow : Flow} → IsFlow network flow → HasDevice network flow.device
receiver_there {network} {flow} is = found_there network.device flow.device.0 (device_at network flow.device)
    (λ d. is_end_system d.role ≡ true) refl is.end_system

pub one_more : (P : ℕ → Type 0) (n : ℕ) → ((k : ℕ) → k < n → P k) → P n → (k : ℕ) → k < n + 1 → P k
one_more P n before here k lt =
    elim (cases_lt k n) [
      | inl less ↦ before k less
      | inr more ↦ let same : n ≡ k = omega (arith, more, lt) in subst P same here
    ]

-- a row at another place is of another virtual link
pub row_off : (s : Scenario) (hs : List Happening) (flow : Flow) (cycle to : ℕ) → AreWithin s.network flow.vl flow.rows → (k : ℕ)
    → (k < flow.rows.from) ⊎ (flow.rows.to ≤ k) → IsRowSent s hs flow cycle to k
row_off s hs flow cycle to within k off entry is of_vl source =
    let at = within.all k (record { row = entry.row; is = is.row; of_vl = of_vl }) in
    let ge = at.0 in
    let lt = at.1 in
    absurd (elim off [ inl less ↦ omega (arith, ge, less) | inr more ↦ omega (arith, lt, more) ])

pub all_rows : (s : Scenario) (hs : List Happening) (flow : Flow) (cycle to n : ℕ) → AreWithin s.network flow.vl flow.rows
    → flow.rows.to ≤ n → ((k : ℕ) → k < n → IsRowSent s hs flow cycle to k) → (k : ℕ) → IsRowSent s hs flow cycle to k
all_rows s hs flow cycle to n within all before k = elim (cases_lt k n) [
  | inl less ↦ before k less
  | inr more ↦ row_off s hs flow cycle to within k (inr (omega (arith, all, more)))
]

-- ---- where the rows of a virtual link stand

-- the row at a place is of no virtual link but its own
pub row_of_other : (network : Network) (vl : VlId) (n : ℕ) (row : Row) → slice_get network.row n ≡ Some row → (row.vl.0 ≡ vl.0 → ⊥)
    → IsRowOf network vl n → ⊥
row_of_other network vl n row at other is =
    let same : row ≡ is.row = some_same (sym at ∙ is.is) in
    other (ap (λ (r : Row). r.vl.0) same ∙ ap (λ (v : VlId). v.0) is.of_vl)
  where
    some_same : {r : Row} → Some row ≡ Some r → row ≡ r
    some_same e = cc

-- ---- one row more

-- of another virtual link
pub span_other : (network : Network) (vl : VlId) (n : ℕ) (span : Option RowSpan) → (IsRowOf network vl n → ⊥) → TellsSpan network vl n span
    → TellsSpan network vl (n + 1) span
span_other network vl n None other none = λ place lt is. elim (cases_lt place n) [
  | inl less ↦ none place less is
  | inr more ↦ let same : place ≡ n = omega (arith, lt, more) in other (subst (IsRowOf network vl) same is)
]
span_other network vl n (Some span) other within = record {
  all = λ place lt is. elim (cases_lt place n) [
    | inl less ↦ within.all place less is
    | inr more ↦ let same : place ≡ n = omega (arith, lt, more) in absurd (other (subst (IsRowOf network vl) same is))
  ];
  first = within.first;
  last = within.last;
  most = let most = within.most in omega (arith, most);
}

-- the first of this one
pub span_first : (network : Network) (vl : VlId) (n : ℕ) → IsRowOf network vl n → ((place : ℕ) → place < n → IsRowOf network vl place → ⊥)
    → AreWithinBefore network vl (n + 1) (record { from = n; to = n + 1 })
span_first network vl n here none = record {
  all = λ place lt is. elim (cases_lt place n) [
    | inl less ↦ absurd (none place less is)
    | inr more ↦ (more, lt)
  ];
  first = here;
  last = (n, refl, here);
  most = omega arith;
}

span_begun : (network : Network) (vl : VlId) (n : ℕ) (span : RowSpan) → AreWithinBefore network vl n span → span.from ≤ n
span_begun network vl n span within =
    let last = within.last in
    let to = last.1 in
    let most = within.most in
    let at = within.all last.0 (omega (arith, to, most)) last.2 in
    let from = at.0 in
    omega (arith, from, to, most)

-- a further one of this one
pub span_later : (network : Network) (vl : VlId) (n : ℕ) (span : RowSpan) → IsRowOf network vl n → AreWithinBefore network vl n span
    → AreWithinBefore network vl (n + 1) (record { from = span.from; to = n + 1 })
span_later network vl n span here within = record {
  all = λ place lt is. elim (cases_lt place n) [
    | inl less ↦ ((within.all place less is).0, lt)
    | inr more ↦ let from = span_begun network vl n span within in (omega (arith, more, from), lt)
  ];
  first = within.first;
  last = (n, refl, here);
  most = omega arith;
}

-- ---- all of them

pub span_all : (network : Network) (vl : VlId) (n : ℕ) (span : Option RowSpan) → length network.row ≤ n → TellsSpan network vl n span
    → MatchOption span ((place : ℕ) → IsRowOf network vl place → ⊥) (AreWithin network vl)
span_all network vl n None all none = λ place is.
    let lt = slice_get_within network.row place is.row is.is in none place (omega (arith, lt, all)) is
span_all network vl n (Some span) all within = record {
  all = λ place is. let lt = slice_get_within network.row place is.row is.is in within.all place (omega (arith, lt, all)) is;
  first = within.first;
  last = within.last;
}

-- ---- they stand at one place

module _ {network : Network} {vl : VlId} where
  from_one : {a b : RowSpan} → AreWithin network vl a → AreWithin network vl b → a.from ≡ b.from
  from_one {a} {b} p q =
      let le = (q.all a.from p.first).0 in
      let ge = (p.all b.from q.first).0 in
      omega (arith, le, ge)

  to_one : {a b : RowSpan} → AreWithin network vl a → AreWithin network vl b → a.to ≡ b.to
  to_one {a} {b} p q =
      let one = p.last in
      let other = q.last in
      let e = one.1 in
      let f = other.1 in
      let lt = (q.all one.0 one.2).1 in
      let gt = (p.all other.0 other.2).1 in
      omega (arith, e, f, lt, gt)

  pub span_one : {a b : RowSpan} → AreWithin network vl a → AreWithin network vl b → a ≡ b
  span_one {a} {b} p q = ap (λ (n : ℕ). made n a.to) (from_one p q) ∙ ap (λ (n : ℕ). made b.from n) (to_one p q)
    where
      made : ℕ → ℕ → RowSpan
      made from to = record { from = from; to = to }

  pub span_short : {a : RowSpan} → AreWithin network vl a → a.to ≤ length network.row
  span_short within =
      let last = within.last in
      let to = last.1 in
      let lt = slice_get_within network.row last.0 last.2.row last.2.is in
      omega (arith, to, lt)

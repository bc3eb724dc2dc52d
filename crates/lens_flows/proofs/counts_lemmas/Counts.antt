-- The flows of a network and their cycles, one after another: their fates, counts and ends.
use Rattle.std.{specs.{Option.option_map_or, Prelude.{IsSomeAnd, None, Option, Some, max, slice_get}}}
use Rattle.std.proofs.{Math.Nat.mul-le-mul_right}
use Rattle.std.proofs.{lemmas.{Bool.{cases_lt, false≢true}, Int.ints, List.length-append, Option.slice_get_within}}
use Rattle.std.proofs.Common
use Common.{◌*◌, ◌++◌, ◌+◌, ◌<◌, ◌^◌, ◌∙◌, ◌∷◌, ◌≡◌, ◌≤◌, ◌⊎◌, List, [], ap, arith, false, inl, inr, length, refl}
use Common.{subst, suc, sym, true, zero, ℕ}
use Rattle.audit_devices.proofs.clocks_lemmas.Reached.{changed_early}
use Rattle.audit_law.specs.events.Readings.{ReadsOn}
use Rattle.lens_flows.proofs.{counts_lemmas.Orders.{all_more, all_none, all_same}}
use Rattle.lens_flows.proofs.judge_lemmas.{Comings.not_at_first}
use Rattle.lens_flows.proofs.judge_lemmas.{Judging.{greatest_le, owed_ends, owed_stays, receiver_there, span_one}}
use Rattle.lens_flows.specs.counts.{FlowLists.{AreFlows, IsFlowBefore}, Greatest.{EndsAt, TellsGreatest, later_of}}
use Rattle.lens_flows.specs.counts.{Ordered.{AreTimes, IsCountOf}}
use Rattle.lens_flows.specs.counts.{PartLists.{AreFlowsBefore, ComesBefore, IsFlowOf, IsTo}}
use Rattle.lens_flows.specs.counts.Counted
use Counted.{AreBelow, AreFateCounts, HasFateAt, IsCertainCounted, IsCycleCounted, count_of, counted}
use Rattle.lens_flows.specs.declared.{counts.counting.FateCounts.FateCounts}
use Rattle.lens_flows.specs.declared.judge.{beginning.Begun.Begun, course.Course.Course, fate.Fate.Fate}
use Rattle.lens_flows.specs.declared.judge.{flow.{Flow.Flow, RowSpan.RowSpan}}
use Rattle.lens_flows.specs.judge.{Beginnings.{BeginsOne, IsFirstBegun}, Certain.{IsCertainAt, IsCertainFrom}}
use Rattle.lens_flows.specs.judge.{Courses.{IsCourse, scenario_of}, Fates.{HasFate, IsBegun, IsOwedFrom, IsReady}}
use Rattle.lens_flows.specs.judge.{Flows.{AreWithin, IsFlow, IsRowOf}, Times.NoneWithin}
use Rattle.net_plan.specs.{Bounds.IsGreatest, Places.{IsEndSystem, device_at, is_end_system}, Ranges.IsInRange}
use Rattle.net_plan.specs.declared.{event.Event.Event, ids.{DeviceId.DeviceId, VlId.VlId}, network.Network.Network}
use Rattle.net_plan.specs.declared.{tables.{Device.Device, VirtualLink.VirtualLink}}
use Rattle.run_law.specs.{law.Safety.{IsWindowEnd, ReachesPlace}, records.Happenings.Happening}
use Rattle.run_law.specs.{scenario.{Devices.is_end, Scenarios.Scenario}}
use Rattle.schedule_tables.specs.Windows.{OccursIn, window_end}
use Rattle.tte_units.{proofs.general_lemmas.Integers.amount_least, specs.Amount.amount}
use Rattle.lens_flows.specs.declared.judge.fate.Fate.TheVariants as fates

-- ---- how many times of a kind there are up to a time

abbrev pub IsSoUpTo : (ℕ → Type 0) → ℕ → ℕ → Type 0
IsSoUpTo IsSo after t = IsSo t × (t ≤ after)

-- there are so many of them up to the time
abbrev pub CountsUpTo : (ℕ → Type 0) → ℕ → ℕ → Type 0
CountsUpTo IsSo after n = (ts : List ℕ) × AreTimes (IsSoUpTo IsSo after) ts × (n ≡ length ts)

pub counts_none : (IsSo : ℕ → Type 0) → ((t : ℕ) → IsSo t → 0 < t) → CountsUpTo IsSo 0 0
counts_none IsSo later =
    ([], all_none (IsSoUpTo IsSo 0) (λ t u. t < u) (λ t is. let lt = later t is.0 in let le = is.1 in absurd (omega (arith, lt, le))), refl)

pub counts_more : (IsSo : ℕ → Type 0) (after u n : ℕ) → CountsUpTo IsSo after n → after < u → IsSo u → NoneWithin IsSo after u → CountsUpTo IsSo u (n + 1)
counts_more IsSo after u n (ts, are, is) lt here none = (
  ts ++ u ∷ [],
  all_more (IsSoUpTo IsSo after) (IsSoUpTo IsSo u) (λ x y. x < y) u are
      (λ t so. let le = so.1 in (so.0, omega (arith, le, lt)))
      (here, omega arith)
      (λ t so. elim (cases_lt after t) [
        | inl more ↦ elim (cases_lt t u) [
          | inl less ↦ absurd (none t more less so.0)
          | inr ge ↦ let le = so.1 in inr (omega (arith, ge, le))
        ]
        | inr less ↦ inl (so.0, less)
      ])
      (λ t so. let le = so.1 in omega (arith, le, lt)),
  let grown = length-append ts (u ∷ []) in omega (arith, grown, is),
)

pub counts_same : (IsSo : ℕ → Type 0) (after u n : ℕ) → CountsUpTo IsSo after n → after ≤ u → NoneWithin IsSo after (u + 1) → CountsUpTo IsSo u n
counts_same IsSo after u n (ts, are, is) le none = (
  ts,
  all_same (IsSoUpTo IsSo after) (IsSoUpTo IsSo u) (λ x y. x < y) are
      (λ t so. let early = so.1 in (so.0, omega (arith, early, le)))
      (λ t so. elim (cases_lt after t) [
        | inl more ↦ let early = so.1 in absurd (none t more (omega (arith, early)) so.0)
        | inr less ↦ (so.0, less)
      ]),
  is,
)

-- where there is none behind the time
pub counts_whole : (IsSo : ℕ → Type 0) (after until n : ℕ) → CountsUpTo IsSo after n → NoneWithin IsSo after (until + 1) → ((t : ℕ) → IsSo t → t ≤ until)
    → IsCountOf IsSo n
counts_whole IsSo after until n (ts, are, is) none timely = (
  ts,
  all_same (IsSoUpTo IsSo after) IsSo (λ x y. x < y) are (λ t so. so.0)
      (λ t so. elim (cases_lt after t) [
        | inl more ↦ let early = timely t so in absurd (none t more (omega (arith, early)) so)
        | inr less ↦ (so, less)
      ]),
  is,
)

-- ---- the fates of a flow's cycles, one cycle after another: a cycle has one fate

module _ (s : Scenario) (hs : List Happening) (until : ℕ) {flow : Flow} (cycle from : ℕ)
    (is : IsFlow s.network flow) where
  owed_ready : IsOwedFrom s hs until flow cycle from → IsReady s hs until flow cycle from
  owed_ready o t ge le most =
      owed_stays s hs until flow cycle from o t ge (most o.owed.to (owed_ends s hs until flow cycle from is o))

  pub fate_one : (f g : Fate) → HasFate s hs until flow cycle from f → HasFate s hs until flow cycle from g → f ≡ g
  fate_one fates.Owed fates.Owed hf hg = refl
  fate_one fates.Owed fates.Receiver hf hg = absurd (hg (owed_ready hf))
  fate_one fates.Owed fates.Sender hf hg = absurd (hg.2 hf)
  fate_one fates.Owed fates.End hf hg = absurd (hg.1 hf.owed.to (owed_ends s hs until flow cycle from is hf))
  fate_one fates.Receiver fates.Owed hf hg = absurd (hf (owed_ready hg))
  fate_one fates.Receiver fates.Receiver hf hg = refl
  fate_one fates.Receiver fates.Sender hf hg = absurd (hf hg.0)
  fate_one fates.Receiver fates.End hf hg = absurd (hf hg.0)
  fate_one fates.Sender fates.Owed hf hg = absurd (hf.2 hg)
  fate_one fates.Sender fates.Receiver hf hg = absurd (hg hf.0)
  fate_one fates.Sender fates.Sender hf hg = refl
  fate_one fates.Sender fates.End hf hg = absurd (hg.1 hf.1.0 hf.1.1)
  fate_one fates.End fates.Owed hf hg = absurd (hf.1 hg.owed.to (owed_ends s hs until flow cycle from is hg))
  fate_one fates.End fates.Receiver hf hg = absurd (hg hf.0)
  fate_one fates.End fates.Sender hf hg = absurd (hf.1 hg.1.0 hg.1.1)
  fate_one fates.End fates.End hf hg = refl

-- ---- at one time a clock begins one cycle

never_less : {s : Scenario} {hs : List Happening} {device : DeviceId} (t c d : ℕ) → ReadsOn (s.reading device)
    → 2 ^ 32 ≤ amount s.network.cycle → ReachesPlace s hs device c 0 t → ReachesPlace s hs device d 0 t → c < d → ⊥
never_less zero c d on wide first second lt =
    absurd (let none = not_at_first 0 first in omega (arith, none))
never_less {s} {hs} {device} (suc t) c d on wide first second lt =
    let r = amount s.network.cycle in
    let more : (c + 1) * r ≤ d * r = mul-le-mul_right r (omega (arith, lt)) in
    let early = changed_early hs device (suc t) in
    let step = on.step t in
    let same : t + 1 ≡ suc t = omega arith in
    let now : s.reading device (suc t) < s.reading device t + 2 ^ 32 = subst (λ (x : ℕ). s.reading device x < s.reading device t + 2 ^ 32) same step in
    let before = first.reach.not_before t (omega (arith, ints, early)) (omega (arith, ints)) in
    let reached = second.reach.reached in
    omega (arith, ints, more, now, before, reached, wide)

pub same_cycle : {s : Scenario} {hs : List Happening} {device : DeviceId} {t : ℕ} (c d : ℕ)
    → ReadsOn (s.reading device) → 2 ^ 32 ≤ amount s.network.cycle → ReachesPlace s hs device c 0 t
    → ReachesPlace s hs device d 0 t → c ≡ d
same_cycle {t} c d on wide first second =
    elim (cases_lt c d) [
      | inl less ↦ absurd (never_less t c d on wide first second less)
      | inr ge ↦ elim (cases_lt d c) [
        | inl more ↦ absurd (never_less t d c on wide second first more)
        | inr le ↦ omega (arith, ge, le)
      ]
    ]

-- ---- counts up to a time

-- so many of the cycles that begin up to the time have each fate
abbrev pub AreCountsUpTo : Scenario → List Happening → ℕ → Flow → ℕ → FateCounts → Type 0
AreCountsUpTo s hs until flow after counts = (fate : Fate) → CountsUpTo (HasFateAt s hs until flow fate) after (count_of counts fate)

on_count : (P : Fate → ℕ → Type 0) (counts : FateCounts) (f g : Fate) → (f ≡ g → P g (count_of counts g + 1))
    → ((f ≡ g → ⊥) → P g (count_of counts g)) → P g (count_of (counted counts f) g)
on_count P counts fates.Owed fates.Owed more same = more refl
on_count P counts fates.Receiver fates.Receiver more same = more refl
on_count P counts fates.Sender fates.Sender more same = more refl
on_count P counts fates.End fates.End more same = more refl
on_count P counts f g more same = same (λ e. cc)

module _ (s : Scenario) (hs : List Happening) (until : ℕ) (flow : Flow) where
  begun_later : (fate : Fate) (t : ℕ) → HasFateAt s hs until flow fate t → 0 < t
  begun_later fate t (cycle, begun, has) = not_at_first t begun.begins

  pub none_counted : (counts : FateCounts) → ((fate : Fate) → count_of counts fate ≡ 0)
      → AreCountsUpTo s hs until flow 0 counts
  none_counted counts zeros fate =
      subst (λ n. CountsUpTo (HasFateAt s hs until flow fate) 0 n) (sym (zeros fate))
      (counts_none (HasFateAt s hs until flow fate) (begun_later fate))

  -- before the next cycle that the clock begins there is none
  none_between : (fate : Fate) (after before : ℕ) → NoneWithin (BeginsOne s hs flow.device) after before
      → NoneWithin (HasFateAt s hs until flow fate) after before
  none_between fate after before none t lt early (cycle, begun, has) =
      none t lt early (cycle, record { begun = begun.occurs.begun; reaches = begun.begins })

  -- the cycle that begins next has this fate
  pub counted_on : {after : ℕ} (counts : FateCounts) {begun : Begun} (fate : Fate) → IsFlow s.network flow
      → ReadsOn (s.reading flow.device) → 2 ^ 32 ≤ amount s.network.cycle
      → AreCountsUpTo s hs until flow after counts → IsFirstBegun s hs flow.device after until begun
      → OccursIn flow.of_vl begun.cycle → HasFate s hs until flow begun.cycle begun.time fate
      → AreCountsUpTo s hs until flow begun.time (counted counts fate)
  counted_on {after} counts {begun} fate is on wide are first occurs has g =
      let later = first.first.later in
      let none = none_between g after begun.time first.first.none_before in
      let IsSo = HasFateAt s hs until flow g in
      on_count (λ f n. CountsUpTo (HasFateAt s hs until flow f) begun.time n) counts fate g
      (λ e. counts_more IsSo after begun.time (count_of counts g) (are g) later (
        begun.cycle,
        record { occurs = occurs; begins = first.begins.reaches; in_run = first.first.timely },
        subst (HasFate s hs until flow begun.cycle begun.time) e has,
      ) none)
      (λ other. counts_same IsSo after begun.time (count_of counts g) (are g) (omega (arith, later))
      (λ t lt early so. elim (cases_lt t begun.time) [
        | inl less ↦ none t lt less so
        | inr more ↦
            let same : t ≡ begun.time = omega (arith, early, more) in
            let here = subst IsSo same so in
            let cycles = same_cycle here.0 begun.cycle on wide here.1.begins first.begins.reaches in
            other (fate_one s hs until begun.cycle begun.time is fate g has
            (subst (λ c. HasFate s hs until flow c begun.time g) cycles here.2))
      ]))

  -- the virtual link does not occur in it
  pub passed_on : {after : ℕ} (counts : FateCounts) {begun : Begun} → ReadsOn (s.reading flow.device)
      → 2 ^ 32 ≤ amount s.network.cycle → AreCountsUpTo s hs until flow after counts
      → IsFirstBegun s hs flow.device after until begun → (OccursIn flow.of_vl begun.cycle → ⊥)
      → AreCountsUpTo s hs until flow begun.time counts
  passed_on {after} counts {begun} on wide are first out g =
      let later = first.first.later in
      let none = none_between g after begun.time first.first.none_before in
      let IsSo = HasFateAt s hs until flow g in
      counts_same IsSo after begun.time (count_of counts g) (are g) (omega (arith, later))
      (λ t lt early so. elim (cases_lt t begun.time) [
        | inl less ↦ none t lt less so
        | inr more ↦
            let same : t ≡ begun.time = omega (arith, early, more) in
            let here = subst IsSo same so in
            let cycles = same_cycle here.0 begun.cycle on wide here.1.begins first.begins.reaches in
            out (subst (λ c. OccursIn flow.of_vl c) cycles here.1.occurs)
      ])

  -- where the clock begins no more, all are counted
  pub all_counted : (after : ℕ) (counts : FateCounts) → AreCountsUpTo s hs until flow after counts
      → NoneWithin (BeginsOne s hs flow.device) after (until + 1) → AreFateCounts s hs until flow counts
  all_counted after counts are none fate =
      counts_whole (HasFateAt s hs until flow fate) after until (count_of counts fate) (are fate)
      (none_between fate after (until + 1) none)
      (λ t so. so.1.in_run)

-- ---- no count is above the time

abbrev pub AreUpTo : ℕ → FateCounts → Type 0
AreUpTo after counts = (fate : Fate) → count_of counts fate ≤ after

pub few_more : (counts : FateCounts) (after time : ℕ) (fate : Fate) → AreUpTo after counts → after < time → AreUpTo time (counted counts fate)
few_more counts after time fate few lt g =
    let le = few g in
    on_count (λ f n. n ≤ time) counts fate g (λ e. omega (arith, le, lt)) (λ other. omega (arith, le, lt))

pub few_still : (counts : FateCounts) (after time : ℕ) → AreUpTo after counts → after < time → AreUpTo time counts
few_still counts after time few lt g = let le = few g in omega (arith, le, lt)

-- ---- the cycles of a flow in which delivery is owed by events alone, one cycle after another

module _ (s : Scenario) (hs : List Happening) (until : ℕ) (flow : Flow) where
  later : (t : ℕ) → IsCertainAt s hs until flow t → 0 < t
  later t c = not_at_first t c.begun.begins

  -- before the next cycle that the clock begins there is none
  between : (after before : ℕ) → NoneWithin (BeginsOne s hs flow.device) after before
      → NoneWithin (IsCertainAt s hs until flow) after before
  between after before none t lt early c =
      none t lt early (c.cycle, record { begun = c.begun.occurs.begun; reaches = c.begun.begins })

  pub certain_none : CountsUpTo (IsCertainAt s hs until flow) 0 0
  certain_none = counts_none (IsCertainAt s hs until flow) (later)

-- with the cycle that begins next
pub certain_next : {course : Course} {befallen : List Event} {hs : List Happening} (flow : Flow) {after : ℕ}
    (old new : ℕ) {begun : Begun} → IsCourse befallen hs course → IsInRange course.network.now
    → ReadsOn ((scenario_of course befallen).reading flow.device)
    → CountsUpTo (IsCertainAt (scenario_of course befallen) hs course.until flow) after old
    → IsFirstBegun (scenario_of course befallen) hs flow.device after course.until begun
    → IsCertainCounted course flow begun old new → CountsUpTo
    (IsCertainAt (scenario_of course befallen) hs course.until flow) begun.time new
certain_next {course} {befallen} {hs} flow {after} old new {begun} known range on are first (inl is) =
    let s = scenario_of course befallen in
    let IsSo = IsCertainAt s hs course.until flow in
    let none = between s hs course.until flow after begun.time first.first.none_before in
    let at : IsBegun s hs course.until flow begun.cycle begun.time =
    record { occurs = is.0; begins = first.begins.reaches; in_run = first.first.timely } in
    subst (CountsUpTo IsSo begun.time) (sym is.1) (counts_more IsSo after begun.time old are first.first.later
    (record { cycle = begun.cycle; begun = at; certain = is.2 befallen hs known at }) none)
certain_next {course} {befallen} {hs} flow {after} old new {begun} known range on are first (inr is) =
    let s = scenario_of course befallen in
    let IsSo = IsCertainAt s hs course.until flow in
    let none = between s hs course.until flow after begun.time first.first.none_before in
    let lt = first.first.later in
    let wide = amount_least (2 ^ 32) s.network.cycle.0 range.cycle.least in
    subst (CountsUpTo IsSo begun.time) (sym is.0) (counts_same IsSo after begun.time old are (omega (arith, lt)) (λ t from early c. elim (cases_lt t begun.time) [
      | inl less ↦ none t from less c
      | inr more ↦
          let same : t ≡ begun.time = omega (arith, early, more) in
          let here = subst IsSo same c in
          let cycles = same_cycle here.cycle begun.cycle on wide here.begun.begins first.begins.reaches in
          let at : IsBegun s hs course.until flow begun.cycle begun.time = record {
            occurs = subst (λ k. OccursIn flow.of_vl k) cycles here.begun.occurs;
            begins = first.begins.reaches;
            in_run = first.first.timely;
          } in
          is.1 befallen hs known at (subst (λ k. IsCertainFrom s hs course.until flow k begun.time) cycles here.certain)
    ]))

-- where the clock begins no more, all are counted
pub certain_all : (s : Scenario) (hs : List Happening) (until : ℕ) (flow : Flow) (after n : ℕ) → CountsUpTo (IsCertainAt s hs until flow) after n
    → NoneWithin (BeginsOne s hs flow.device) after (until + 1) → IsCountOf (IsCertainAt s hs until flow) n
certain_all s hs until flow after n are none =
    counts_whole (IsCertainAt s hs until flow) after until n are (between s hs until flow after (until + 1) none) (λ t c. c.begun.in_run)

-- no count is above the time
pub certain_few : (course : Course) (flow : Flow) (begun : Begun) (after old new : ℕ) → old ≤ after → after < begun.time
    → IsCertainCounted course flow begun old new → new ≤ begun.time
certain_few course flow begun after old new few lt (inl is) = omega (arith, few, lt, is.1)
certain_few course flow begun after old new few lt (inr is) = omega (arith, few, lt, is.0)

-- ---- the counts of a flow's cycles, one more counted by its fate

abbrev pub no_counts : FateCounts
no_counts = record { owed = 0; receiver = 0; sender = 0; end = 0 }

pub zero_counts : (fate : Fate) → count_of no_counts fate ≡ 0
zero_counts fates.Owed = refl
zero_counts fates.Receiver = refl
zero_counts fates.Sender = refl
zero_counts fates.End = refl

pub none_above : (after : ℕ) (counts : FateCounts) → after ≤ 2 ^ 60 → AreUpTo after counts → AreBelow (2 ^ 63) counts
none_above after counts le few =
    let owed = few fates.Owed in
    let receiver = few fates.Receiver in
    let sender = few fates.Sender in
    let end = few fates.End in
    (omega (arith, owed, le), omega (arith, receiver, le), omega (arith, sender, le), omega (arith, end, le))

pub few_next : (course : Course) (flow : Flow) (begun : Begun) (after : ℕ) (old new : FateCounts) → AreUpTo after old → after < begun.time
    → IsCycleCounted course flow begun old new → AreUpTo begun.time new
few_next course flow begun after old new few lt (inl out) = subst (AreUpTo begun.time) (sym out.1) (few_still old after begun.time few lt)
few_next course flow begun after old new few lt (inr is) = subst (AreUpTo begun.time) (sym is.2) (few_more old after begun.time is.0 few lt)

pub next_counted : {course : Course} {befallen : List Event} {hs : List Happening} {flow : Flow} {after : ℕ}
    (old new : FateCounts) {begun : Begun} → IsCourse befallen hs course → IsInRange course.network.now
    → IsFlow course.network.now flow → ReadsOn ((scenario_of course befallen).reading flow.device)
    → AreCountsUpTo (scenario_of course befallen) hs course.until flow after old
    → IsFirstBegun (scenario_of course befallen) hs flow.device after course.until begun
    → IsCycleCounted course flow begun old new → AreCountsUpTo
    (scenario_of course befallen) hs course.until flow begun.time new
next_counted {course} {befallen} {hs} {flow} old new {begun} known range is on are first (inl out) =
    let s = scenario_of course befallen in
    subst (AreCountsUpTo s hs course.until flow begun.time) (sym out.1)
    (passed_on s hs course.until flow old on (amount_least (2 ^ 32) s.network.cycle.0 range.cycle.least) are first
    out.0)
next_counted {course} {befallen} {hs} {flow} old new {begun} known range is on are first (inr has) =
    let s = scenario_of course befallen in
    subst (AreCountsUpTo s hs course.until flow begun.time) (sym has.2)
    (counted_on s hs course.until flow old has.0 is on (amount_least (2 ^ 32) s.network.cycle.0 range.cycle.least)
    are first has.1
    (has.3 befallen hs known (record { occurs = has.1; begins = first.begins.reaches; in_run = first.first.timely })))

-- ---- the greatest of two, and of all rows

-- of the numbers of either kind
greatest_both : (P Q R : ℕ → Type 0) (a b : Option ℕ) → ((n : ℕ) → P n → R n) → ((n : ℕ) → Q n → R n) → ((n : ℕ) → R n → P n ⊎ Q n)
    → TellsGreatest P a → TellsGreatest Q b → TellsGreatest R (later_of a b)
greatest_both P Q R None None from_p from_q split none never = λ n has. elim (split n has) [ inl p ↦ none n p | inr q ↦ never n q ]
greatest_both P Q R None (Some m) from_p from_q split none great = (
  from_q m great.0,
  λ n has. elim (split n has) [ inl p ↦ absurd (none n p) | inr q ↦ great.1 n q ],
)
greatest_both P Q R (Some m) None from_p from_q split great none = (
  from_p m great.0,
  λ n has. elim (split n has) [ inl p ↦ great.1 n p | inr q ↦ absurd (none n q) ],
)
greatest_both P Q R (Some m) (Some k) from_p from_q split great other = (
  elim (cases_lt m k) [
    | inl less ↦ let same : k ≡ max m k = omega (arith, less) in subst R same (from_q k other.0)
    | inr more ↦ let same : m ≡ max m k = omega (arith, more) in subst R same (from_p m great.0)
  ],
  λ n has. elim (split n has) [
    | inl p ↦ let le = great.1 n p in omega (arith, le)
    | inr q ↦ let le = other.1 n q in omega (arith, le)
  ],
)

-- the window of a row before this place ends there
abbrev pub EndsBefore : Network → VlId → DeviceId → ℕ → ℕ → Type 0
EndsBefore network vl device place end = (k : ℕ) × (k < place) × EndsAt network vl device k end

row_of : {network : Network} {vl : VlId} {device : DeviceId} {place end : ℕ} → EndsAt network vl device place end → IsRowOf network vl place
row_of at = record { row = at.entry.row; is = at.is.row; of_vl = at.of_vl }

pub ends_none : (network : Network) (vl : VlId) (device : DeviceId) {rows : RowSpan} → AreWithin network vl rows → (n : ℕ)
    → EndsBefore network vl device rows.from n → ⊥
ends_none network vl device within n (k, lt, at) = let ge = (within.all k (row_of at)).0 in omega (arith, lt, ge)

pub ends_more : (network : Network) (vl : VlId) (device : DeviceId) (place : ℕ) (last end new : Option ℕ) → new ≡ later_of last end
    → TellsGreatest (EndsBefore network vl device place) last → TellsGreatest (EndsAt network vl device place) end
    → TellsGreatest (EndsBefore network vl device (place + 1)) new
ends_more network vl device place last end new is before here =
    subst (TellsGreatest (EndsBefore network vl device (place + 1))) (sym is)
    (greatest_both (EndsBefore network vl device place) (EndsAt network vl device place) (EndsBefore network vl device (place + 1)) last end
    (λ n h. let lt = h.1 in (h.0, omega (arith, lt), h.2)) (λ n at. (place, omega arith, at))
    (λ n h. elim (cases_lt h.0 place) [
      | inl less ↦ inl (h.0, less, h.2)
      | inr more ↦
          let lt = h.1 in
          let same : h.0 ≡ place = omega (arith, lt, more) in
          inr (subst (λ k. EndsAt network vl device k n) same h.2)
    ]) before here)

greatest_same : (P Q : ℕ → Type 0) (a : Option ℕ) → ((n : ℕ) → P n → Q n) → ((n : ℕ) → Q n → P n) → TellsGreatest P a → TellsGreatest Q a
greatest_same P Q None to back none = λ n q. none n (back n q)
greatest_same P Q (Some m) to back great = (to m great.0, λ n q. great.1 n (back n q))

-- of all rows
pub ends_all : (network : Network) (vl : VlId) (device : DeviceId) {rows : RowSpan} (place : ℕ) (last : Option ℕ) → AreWithin network vl rows
    → rows.to ≤ place → TellsGreatest (EndsBefore network vl device place) last → TellsGreatest (IsWindowEnd network vl device) last
ends_all network vl device place last within all tells =
    greatest_same (EndsBefore network vl device place) (IsWindowEnd network vl device) last
    (λ n h. let at = h.2 in (at.entry, record { place = h.0; is = at.is; of_vl = at.of_vl; enters = at.enters }, at.end_is))
    (λ n h.
    let row = h.1 in
    let ends : EndsAt network vl device row.place n = record { entry = h.0; is = row.is; of_vl = row.of_vl; enters = row.enters; end_is = h.2 } in
    let lt = (within.all row.place (row_of ends)).1 in
    (row.place, omega (arith, lt, all), ends)) tells

-- ---- the flows of a network, one virtual link and one device after another

pub no_flows : (network : Network) → AreFlowsBefore network 0 0 []
no_flows network =
    all_none (IsFlowOf network 0 0) IsFlowBefore (λ flow is. elim is.before [
      | inl lt ↦ omega (arith, lt)
      | inr at ↦ let lt = at.1 in omega (arith, lt)
    ])

-- ---- one device more

later_device : (vl device : ℕ) (flow : Flow) → ComesBefore vl device flow → ComesBefore vl (device + 1) flow
later_device vl device flow (inl lt) = inl lt
later_device vl device flow (inr at) = let lt = at.1 in inr (at.0, omega (arith, lt))

id_of : (vl : VlId) (other : VlId) → other.0 ≡ vl.0 → other ≡ vl
id_of vl other e = ap (λ (n : ℕ). let x : VlId = record { 0 = n } in x) e

device_of : (device : DeviceId) (other : DeviceId) → other.0 ≡ device.0 → other ≡ device
device_of device other e = ap (λ (n : ℕ). let x : DeviceId = record { 0 = n } in x) e

-- a flow that comes before the next device comes before this one, or is the one to it
next_device : {network : Network} (vl : VlId) (device : DeviceId) {flow : Flow}
    → IsFlowOf network vl.0 (device.0 + 1) flow → IsFlowOf network vl.0 device.0 flow ⊎ IsTo network vl device flow
next_device vl device {flow} is =
    elim is.before [
      | inl lt ↦ inl (record { is = is.is; before = inl lt })
      | inr at ↦ elim (cases_lt flow.device.0 device.0) [
        | inl less ↦ inl (record { is = is.is; before = inr (at.0, less) })
        | inr more ↦
            let lt = at.1 in
            let same : flow.device.0 ≡ device.0 = omega (arith, lt, more) in
            inr (record { is = is.is; of_vl = id_of vl flow.vl at.0; to = device_of device flow.device same })
      ]
    ]

-- there is one flow of a virtual link to a device
to_one : {network : Network} {vl : VlId} {device : DeviceId} {a b : Flow} → IsTo network vl device a
    → IsTo network vl device b → a ≡ b
to_one {network} {vl} {device} {a} {b} p q =
    let vls : a.vl ≡ b.vl = p.of_vl ∙ sym q.of_vl in
    let devices : a.device ≡ b.device = p.to ∙ sym q.to in
    let there = subst (λ (v : VlId). slice_get network.vl v.0 ≡ Some a.of_vl) vls p.is.there in
    let of_vls : a.of_vl ≡ b.of_vl = some_same (sym there ∙ q.is.there) in
    let greatest = subst (λ d. IsGreatest (IsWindowEnd network b.vl d) a.last) devices
    (subst (λ v. IsGreatest (IsWindowEnd network v a.device) a.last) vls p.is.greatest) in
    let le = greatest_le (IsWindowEnd network b.vl b.device) greatest q.is.greatest in
    let ge = greatest_le (IsWindowEnd network b.vl b.device) q.is.greatest greatest in
    let lasts : a.last ≡ b.last = omega (arith, le, ge) in
    let spans = span_one (subst (λ v. AreWithin network v a.rows) vls p.is.rows) q.is.rows in
    ap (λ v. made v a.of_vl a.device a.last a.rows) vls ∙ ap (λ o. made b.vl o a.device a.last a.rows) of_vls
    ∙ ap (λ d. made b.vl b.of_vl d a.last a.rows) devices ∙ ap (λ n. made b.vl b.of_vl b.device n a.rows) lasts
    ∙ ap (made b.vl b.of_vl b.device b.last) spans
  where
    made : VlId → VirtualLink → DeviceId → ℕ → RowSpan → Flow
    made v o d n r = record { vl = v; of_vl = o; device = d; last = n; rows = r }

    some_same : Some a.of_vl ≡ Some b.of_vl → a.of_vl ≡ b.of_vl
    some_same e = cc

pub flow_more : {network : Network} {vl : VlId} {device : DeviceId} {flows : List Flow} (new : List Flow)
    {flow : Flow} → IsTo network vl device flow → new ≡ flows ++ flow ∷ []
    → AreFlowsBefore network vl.0 device.0 flows → AreFlowsBefore network vl.0 (device.0 + 1) new
flow_more {network} {vl} {device} new {flow} to grown are =
    subst (AreFlowsBefore network vl.0 (device.0 + 1)) (sym grown)
    (all_more (IsFlowOf network vl.0 device.0) (IsFlowOf network vl.0 (device.0 + 1)) IsFlowBefore flow are
    (λ f is. record { is = is.is; before = later_device vl.0 device.0 f is.before })
    (record { is = to.is; before = inr (ap (λ (v : VlId). v.0) to.of_vl, let same = ap (λ (d : DeviceId). d.0) to.to in omega (arith, same)) })
    (λ f is. elim (next_device vl device is) [
      | inl old ↦ inl old
      | inr here ↦ inr (to_one here to)
    ])
    (λ f is.
    let vls = ap (λ (v : VlId). v.0) to.of_vl in
    let devices = ap (λ (d : DeviceId). d.0) to.to in
    elim is.before [
      | inl lt ↦ inl (omega (arith, lt, vls))
      | inr at ↦ let same = at.0 in let lt = at.1 in inr (omega (arith, same, vls), omega (arith, lt, devices))
    ]))

pub flow_none : (network : Network) (vl : VlId) (device : DeviceId) {flows : List Flow}
    → ((flow : Flow) → IsTo network vl device flow → ⊥) → AreFlowsBefore network vl.0 device.0 flows
    → AreFlowsBefore network vl.0 (device.0 + 1) flows
flow_none network vl device none are =
    all_same (IsFlowOf network vl.0 device.0) (IsFlowOf network vl.0 (device.0 + 1)) IsFlowBefore are
    (λ f is. record { is = is.is; before = later_device vl.0 device.0 f is.before })
    (λ f is. elim (next_device vl device is) [
      | inl old ↦ old
      | inr here ↦ absurd (none f here)
    ])

-- ---- one virtual link more

pub next_vl : (network : Network) (vl device : ℕ) {flows : List Flow} → length network.device ≤ device
    → AreFlowsBefore network vl device flows → AreFlowsBefore network (vl + 1) 0 flows
next_vl network vl device all are =
    all_same (IsFlowOf network vl device) (IsFlowOf network (vl + 1) 0) IsFlowBefore are
    (λ f is. record {
      is = is.is;
      before = elim is.before [
        | inl lt ↦ inl (omega (arith, lt))
        | inr at ↦ let same = at.0 in inl (omega (arith, same))
      ];
    })
    (λ f is. record {
      is = is.is;
      before = elim is.before [
        | inl lt ↦ elim (cases_lt f.vl.0 vl) [
          | inl less ↦ inl less
          | inr more ↦ let there = receiver_there is.is in inr (omega (arith, lt, more), omega (arith, there, all))
        ]
        | inr at ↦ let lt = at.1 in absurd (omega (arith, lt))
      ];
    })

pub all_vls : (network : Network) (vl : ℕ) {flows : List Flow} → length network.vl ≤ vl
    → AreFlowsBefore network vl 0 flows → AreFlows network flows
all_vls network vl all are =
    all_same (IsFlowOf network vl 0) (IsFlow network) IsFlowBefore are (λ f is. is.is)
    (λ f is.
    let there = slice_get_within network.vl f.vl.0 f.of_vl is.there in
    record { is = is; before = inl (omega (arith, there, all)) })

-- ---- a flow

end_role : (o : Option Device) → IsSomeAnd o (λ d. is_end_system d.role ≡ true) → option_map_or (λ d. is_end_system d.role) o false ≡ true
end_role None h = absurd h
end_role (Some d) h = h

pub no_end_system : {network : Network} {vl : VlId} {device : DeviceId} {flow : Flow} → is_end network device ≡ false
    → IsTo network vl device flow → ⊥
no_end_system {network} {device} out to =
    let end : IsEndSystem network device = subst (IsEndSystem network) to.to to.is.end_system in
    false≢true (sym out ∙ end_role (device_at network device) end)

-- a virtual link without rows has no flow
pub no_flow_of : (network : Network) (vl : VlId) {flows : List Flow} → ((place : ℕ) → IsRowOf network vl place → ⊥)
    → AreFlowsBefore network vl.0 0 flows → AreFlowsBefore network (vl.0 + 1) 0 flows
no_flow_of network vl none are =
    all_same (IsFlowOf network vl.0 0) (IsFlowOf network (vl.0 + 1) 0) IsFlowBefore are
    (λ f is. record {
      is = is.is;
      before = elim is.before [
        | inl lt ↦ inl (omega (arith, lt))
        | inr at ↦ let lt = at.1 in absurd (omega (arith, lt))
      ];
    })
    (λ f is. record {
      is = is.is;
      before = elim is.before [
        | inl lt ↦ elim (cases_lt f.vl.0 vl.0) [
          | inl less ↦ inl less
          | inr more ↦
              let enters = is.is.enters in
              absurd (none enters.place (subst (λ v. IsRowOf network v enters.place) (id_of vl f.vl (omega (arith, lt, more)))
              (record { row = is.is.into.row; is = enters.is.row; of_vl = enters.of_vl })))
        ]
        | inr at ↦ let lt = at.1 in absurd (omega (arith, lt))
      ];
    })

pub no_window : {network : Network} {vl : VlId} {device : DeviceId} {flow : Flow}
    → ((n : ℕ) → IsWindowEnd network vl device n → ⊥) → IsTo network vl device flow → ⊥
no_window {network} {vl} {flow} none to =
    elim to.is.greatest.reached [
      | inl is_zero ↦ let end = window_end network to.is.into in
          none end (subst (λ d. IsWindowEnd network vl d end) to.to
          (subst (λ v. IsWindowEnd network v flow.device end) to.of_vl (to.is.into, to.is.enters, refl)))
      | inr has ↦ none flow.last (subst (λ d. IsWindowEnd network vl d flow.last) to.to
          (subst (λ v. IsWindowEnd network v flow.device flow.last) to.of_vl has))
    ]

-- When a clock next reaches or crosses a value, and what comes to its device then.
use Rattle.std.{specs.{List.last_or, Option.option_map_or, Prelude.{◌+ℤ◌, ◌-ℤ◌, ◌<ℤ◌, ◌↔◌, ◌≤ℤ◌, false, nat_lt}}}
use Rattle.std.proofs.{lemmas.{Bool.{cases_lt, ltb-true}, Int.ints, Nat.{div_below, mod_below}}}
use Rattle.std.proofs.Common
use Common.{if◌then◌else◌, ◌%◌, ◌*◌, ◌+◌, ◌-◌, ◌/◌, ◌<◌, ◌^◌, ◌∙◌, ◌∷◌, ◌≡◌, ◌≤◌, ◌⊎◌, Bool, List, None, Option, Some}
use Common.{[], ap, arith, div-add-mod', filter, inl, inr, mul-le-mul_right, pos, refl, subst, suc, sym, true, zero, ℕ}
use Common.{ℤ}
use Rattle.audit_devices.specs.{Showing.{IsReading, IsSteady, Shown, Shows}}
use Rattle.audit_devices.specs.clocks.{Crossing.HasCrossed, Finding.{CrossesAt, IsNextCrossing, NoneCrossed, value_in}}
use Rattle.audit_devices.specs.clocks.{Points.{ComesTo, HasPoint, IsHeard}}
use Rattle.audit_devices.specs.clocks.{Sendings.{IsNextSending, IsStretch, NoneSent}}
use Rattle.audit_devices.specs.declared.{clocks.{correcting.Point.Point, finding.{Crossed.Crossed, Series.Series}}}
use Rattle.audit_devices.specs.declared.{shown.Readings.Readings}
use Rattle.audit_law.{proofs.law_lemmas.Founded.same_verdict}
use Rattle.audit_law.{specs.{events.Readings.ReadsOn, law.CorrectionNumbers.{ComesToPoint, next_number, standing_at}}}
use Rattle.device_rules.specs.Answers.{verdict_as}
use Rattle.drift_clock.specs.Reach.{IsReach}
use Rattle.net_plan.specs.{Places.is_master, declared.ids.DeviceId.DeviceId}
use Rattle.run_law.specs.{control.Corrections.correction_value, records.Happenings.{Happening, earlier, time_of}}
use Rattle.run_law.specs.{scenario.{Devices.has_role, Scenarios.{Scenario, is_broken}}, timed.Dispatching.Sends}
use Rattle.run_law.specs.device.{LocalClocks.{Reaches, changed_at, changes_adjustment}}
use Rattle.run_law.specs.device.{States.{state_after, state_before}}
use Rattle.sync_state.{proofs.VerdictLemmas.number_in}
use Rattle.sync_state.specs.{Standing.{Standing, next_point}, Verdicts.HasVerdict}
use Rattle.sync_state.specs.{declared.{answers.Verdict.Verdict, state.State.TheVariants.{Integrating, Synchronised}}}
use Rattle.sync_state.specs.{membership.Summary.Summary}
use Rattle.tte_units.specs.Amount.{amount}

-- ---- the correction point that comes to a device

-- what one list has at a time, it has there
some_same : (m n : ℕ) (o : Option ℕ) → o ≡ Some m → o ≡ Some n → m ≡ n
some_same m n o a b = let same : Some m ≡ Some n = sym a ∙ b in cc

module _ (s : Scenario) (hs : List Happening) (device : DeviceId) (t c : ℕ) where
  pub point_is : (cycle : ℕ) → Some c ≡ next_point (standing_at s hs device t) → is_broken s device t ≡ false
      → Reaches s hs device (correction_value s.network c) t → (Some c ≡ Some cycle) ↔ HasPoint s hs device t cycle
  point_is cycle next correct reached = grind arith

  -- the clock does not reach the point's value
  pub none_reached : {cycle : ℕ} → Some c ≡ next_point (standing_at s hs device t)
      → (Reaches s hs device (correction_value s.network c) t → ⊥) → HasPoint s hs device t cycle → ⊥
  none_reached {cycle} next short p =
      let one : cycle ≡ c = some_same cycle c (next_point (standing_at s hs device t)) p.next (sym next) in
      short (subst (λ n. Reaches s hs device (correction_value s.network n) t) one p.reached)

  pub number_is : HasPoint s hs device t c → c ≡ next_number s hs device t
  number_is p = number_in (standing_at s hs device t).state (next_number s hs device t) c p.next

-- the fields of a standing
pub same_standing : (a b : Standing) → a.plan ≡ b.plan → a.state ≡ b.state → a.adjustment ≡ b.adjustment → a.number ≡ b.number
    → a.integrated ≡ b.integrated → a ≡ b
same_standing a b plans states adjustments numbers joined = grind arith

-- the point comes to this, and to nothing else
pub point_comes : {s : Scenario} {hs : List Happening} {device : DeviceId} {t c : ℕ} (cycle : ℕ) (heard : Summary)
    (found verdict : Verdict) → HasPoint s hs device t c → IsHeard s hs device t heard
    → HasVerdict (standing_at s hs device t) heard found
    → (((c ≡ cycle) × (found ≡ verdict)) ↔ ComesToPoint s hs device t cycle verdict)
point_comes {s} {hs} {device} {t} {c} cycle heard found verdict p hears comes =
    let made : ComesToPoint s hs device t c found =
    record { next = p.next; reached = p.reached; correct = p.correct; summary = heard; heard = hears c p.next; comes = comes } in (
      λ same. subst (λ n. ComesToPoint s hs device t n verdict) same.0
          (subst (λ v. ComesToPoint s hs device t c v) same.1 made),
      λ q. (some_same c cycle (next_point (standing_at s hs device t)) p.next q.next, same_verdict made q),
    )

-- what comes to a point has one
pub has_point : {s : Scenario} {hs : List Happening} {device : DeviceId} {t cycle : ℕ} {verdict : Verdict}
    → ComesToPoint s hs device t cycle verdict → HasPoint s hs device t cycle
has_point q = record { next = q.next; reached = q.reached; correct = q.correct }

pub comes_so : (o : Option Point) (p : Point) (v : Verdict) → o ≡ Some p → verdict_as p.verdict ≡ v → (cycle : ℕ) × ComesTo o cycle v
comes_so o p v is comes = (p.cycle, subst (λ x. ComesTo x p.cycle v) (sym is) (refl, comes))

-- ---- when a clock reaches a value, by its readings now and a unit of time before

-- the last of what is earlier lies before the time
last_early : (p : Happening → Bool) (t : ℕ) (o : Option Happening) (hs : List Happening) → option_map_or time_of o 0 ≤ t - 1
    → option_map_or time_of (last_or o (filter p (filter (λ h. nat_lt (time_of h) t) hs))) 0 ≤ t - 1
last_early p t o [] le = le
last_early p t o (h ∷ hs) le =
    elim (nat_lt (time_of h) t) as (λ b. nat_lt (time_of h) t ≡ b
    → option_map_or time_of (last_or o (filter p (if b then h ∷ filter (λ x. nat_lt (time_of x) t) hs else filter (λ x. nat_lt (time_of x) t) hs))) 0 ≤ t - 1) [
      | true ↦ λ e. elim (p h) as (λ b. option_map_or time_of (last_or o (if b then h ∷ filter p (filter (λ x. nat_lt (time_of x) t) hs)
          else filter p (filter (λ x. nat_lt (time_of x) t) hs))) 0 ≤ t - 1) [
            | true ↦ last_early p t (Some h) hs (let lt = ltb-true (time_of h) t e in omega (arith, lt))
            | false ↦ last_early p t o hs le
          ]
      | false ↦ λ e. last_early p t o hs le
    ] refl

pub changed_early : (hs : List Happening) (device : DeviceId) (t : ℕ) → changed_at hs device t ≤ t - 1
changed_early hs device t = last_early (λ h. changes_adjustment device h.note.body) t None hs (omega arith)

pub come_reaches : {s : Scenario} (hs : List Happening) {device : DeviceId} {v : ℤ} {t : ℕ} {shown : Shown}
    {readings : Readings} → IsReading s device t readings → IsSteady s device → Shows s (earlier t hs) device shown
    → HasCrossed shown.at_change (pos readings.before +ℤ shown.adjustment) (pos readings.now +ℤ shown.adjustment) v
    → Reaches s hs device v t
come_reaches hs {device} {t} reads steady sh come =
    let changed = come.changed in
    let before = come.below in
    let now = come.reached in
    let at = sh.at_change in
    let adjusted = sh.adjustment in
    let read = reads.now in
    let read_before = reads.before in
    let early = changed_early hs device t in
    record {
      below = omega (arith, ints, changed, at, adjusted);
      reach = record {
        from_on = omega (arith, ints, early);
        reached = omega (arith, ints, now, adjusted, read);
        not_before = λ x after lt.
            let up = steady.never_falls x (t - 1) (omega (arith, ints, lt)) in
            omega (arith, ints, up, before, adjusted, read_before);
      };
    }

-- readings that are not yet there
short_before : (reading : ℕ → ℕ) (c t : ℕ) (v : ℤ) → c ≤ t - 1 → pos (reading c) <ℤ v → ((x : ℕ) → pos c ≤ℤ pos x → pos x <ℤ pos t → pos (reading x) <ℤ v)
    → pos (reading (t - 1)) <ℤ v
short_before reading c zero v early below short = let same : c ≡ 0 = omega (arith, early) in subst (λ (n : ℕ). pos (reading n) <ℤ v) same below
short_before reading c (suc n) v early below short =
    let same : n ≡ suc n - 1 = omega arith in
    subst (λ (x : ℕ). pos (reading x) <ℤ v) same (short n (omega (arith, ints, early)) (omega (arith, ints)))

pub reaches_come : {s : Scenario} {hs : List Happening} {device : DeviceId} {v : ℤ} {t : ℕ} {shown : Shown}
    {readings : Readings} → IsReading s device t readings → Shows s (earlier t hs) device shown
    → Reaches s hs device v t → HasCrossed shown.at_change (pos readings.before +ℤ shown.adjustment)
    (pos readings.now +ℤ shown.adjustment) v
reaches_come {s} {hs} {device} {v} {t} {shown} reads sh r =
    let below = r.below in
    let now = r.reach.reached in
    let at = sh.at_change in
    let adjusted = sh.adjustment in
    let read = reads.now in
    let read_before = reads.before in
    let before = short_before (s.reading device) (changed_at hs device t) t (v -ℤ shown.adjustment) (changed_early hs device t)
    (omega (arith, ints, below, adjusted)) (λ x after lt. let short = r.reach.not_before x after lt in omega (arith, ints, short, adjusted)) in
    record {
      changed = omega (arith, ints, below, at, adjusted);
      below = omega (arith, ints, before, read_before);
      reached = omega (arith, ints, now, adjusted, read);
    }

pub same_crossing : {a b n v : ℤ} (a1 b1 n1 v1 : ℤ) → a ≡ a1 → b ≡ b1 → n ≡ n1 → v ≡ v1 → HasCrossed a b n v
    → HasCrossed a1 b1 n1 v1
same_crossing {a} {b} {n} a1 b1 n1 v1 p q r w crossed =
    subst (λ x. HasCrossed x b1 n1 v1) p (subst (λ x.
    HasCrossed a x n1 v1) q (subst (λ x. HasCrossed a b x v1) r (subst (λ x. HasCrossed a b n x) w crossed)))

-- ---- what a master sends in a stretch without records of it

-- the series is that of the beginnings of cycles
abbrev pub AreBeginnings : Scenario → Series → Type 0
AreBeginnings s series = (n : ℕ) → value_in series n ≡ pos ((n + 1) * amount s.network.cycle)

module _ (s : Scenario) (hs : List Happening) (device : DeviceId) (after until : ℕ) where
  -- in a stretch the state is the one that is shown
  state_in : {shown : Shown} (t : ℕ) → IsStretch s hs device after until shown → after < t → t ≤ until
      → state_before s hs device t ≡ shown.state
  state_in t in_stretch lt le =
      ap (λ (b : Bool). if b then Integrating else state_after s (earlier t hs) device) (in_stretch.steady t lt le)
      ∙ sym (in_stretch.shows t lt le).state

  pub crossing_sends : {shown : Shown} (series : Series) (t n : ℕ) → has_role s.network is_master device ≡ true
      → shown.state ≡ Synchronised → IsSteady s device → AreBeginnings s series
      → IsStretch s hs device after until shown → after < t → t ≤ until
      → CrossesAt (s.reading device) shown (value_in series n) t → Sends s hs device t (n + 1)
  crossing_sends {shown} series t n master state steady are in_stretch lt le crosses = record {
    master = master;
    up = record { synchronised = state_in t in_stretch lt le ∙ state; correct = in_stretch.correct t lt le };
    begun = omega arith;
    reached = come_reaches hs {t = t} {readings = record { now = s.reading device t; before = s.reading device (t - 1) }}
        (record { now = refl; before = refl }) steady (in_stretch.shows t lt le)
        (subst (λ v. CrossesAt (s.reading device) shown v t) (are n) crosses);
  }

  pub sending_crosses : {shown : Shown} (series : Series) {t cycle : ℕ} → AreBeginnings s series
      → IsStretch s hs device after until shown → after < t → t ≤ until → Sends s hs device t cycle
      → CrossesAt (s.reading device) shown (value_in series (cycle - 1)) t
  sending_crosses {shown} series {t} {cycle} are in_stretch lt le sends =
      let begun = sends.begun in
      let number : cycle ≡ cycle - 1 + 1 = omega (arith, begun) in
      let value : pos (cycle * amount s.network.cycle) ≡ value_in series (cycle - 1) =
      ap (λ c. pos (c * amount s.network.cycle)) number ∙ sym (are (cycle - 1)) in
      subst (λ v. CrossesAt (s.reading device) shown v t) value
      (reaches_come {readings = record { now = s.reading device t; before = s.reading device (t - 1) }}
      (record { now = refl; before = refl }) (in_stretch.shows t lt le) sends.reached)

  pub none_sent : (before : ℕ) {shown : Shown} (series : Series) → AreBeginnings s series
      → IsStretch s hs device after until shown → before ≤ until + 1
      → NoneCrossed (s.reading device) shown series after before → NoneSent s hs device after before
  none_sent before series are in_stretch last none t cycle lt early sends =
      none t (cycle - 1) lt early (sending_crosses series are in_stretch lt (omega (arith, early, last)) sends)

  pub next_sent : {shown : Shown} {series : Series} {crossed : Crossed} → has_role s.network is_master device ≡ true
      → shown.state ≡ Synchronised → IsSteady s device → AreBeginnings s series
      → IsStretch s hs device after until shown → IsNextCrossing (s.reading device) shown series after until crossed
      → IsNextSending s hs device after until (record { cycle = crossed.number + 1; time = crossed.time })
  next_sent {series} {crossed} master state steady are in_stretch next =
      let timely = next.timely in
      record {
        later = next.later;
        timely = timely;
        sends = crossing_sends series crossed.time crossed.number master state steady are in_stretch next.later
            timely next.crosses;
        none_before = none_sent crossed.time series are in_stretch (omega (arith, timely)) next.none_before;
      }

-- ---- when a clock next crosses a value of a series

-- a value behind what is passed, and the least such
pub record IsBehind (series : Series) (passed : ℤ) (number : ℕ) : Type 0 where
  pub behind : passed <ℤ value_in series number
  pub least : (n : ℕ) → passed <ℤ value_in series n → number ≤ n

-- what is passed: the local value at the last change, and the one at the time
pub record IsPassed (reading : ℕ → ℕ) (shown : Shown) (after : ℕ) (passed : ℤ) : Type 0 where
  pub change : shown.at_change ≤ℤ passed
  pub local : (pos (reading after) +ℤ shown.adjustment) ≤ℤ passed
  pub one : (passed ≡ shown.at_change) ⊎ (passed ≡ (pos (reading after) +ℤ shown.adjustment))

-- a later number has a later value
values_on : (series : Series) (m n : ℕ) → m ≤ n → value_in series m ≤ℤ value_in series n
values_on series m n le = let more : m * series.step ≤ n * series.step = mul-le-mul_right series.step le in omega (arith, ints, more)

-- what is crossed after the time lies behind what is passed
crossed_behind : {reading : ℕ → ℕ} {shown : Shown} {after : ℕ} (t : ℕ) {passed v : ℤ} → ReadsOn reading
    → IsPassed reading shown after passed → after < t → CrossesAt reading shown v t → passed <ℤ v
crossed_behind {after} t on is lt crosses =
    let up = on.never_falls after (t - 1) (omega (arith, lt)) in
    let changed = crosses.changed in
    let below = crosses.below in
    elim is.one [ inl e ↦ omega (arith, ints, e, changed) | inr e ↦ omega (arith, ints, e, up, below) ]

module _ (reading : ℕ → ℕ) (shown : Shown) (series : Series) (after : ℕ) where
  -- while the clock is short of the least value behind what is passed, it crosses none
  none_while_short : (before : ℕ) {number : ℕ} {passed : ℤ} → ReadsOn reading → IsPassed reading shown after passed
      → IsBehind series passed number → ((x : ℕ) → after ≤ x → x < before
      → (pos (reading x) +ℤ shown.adjustment) <ℤ value_in series number)
      → NoneCrossed reading shown series after before
  none_while_short before {number} on is behind short t n lt early crosses =
      let le = behind.least n (crossed_behind t on is lt crosses) in
      let values = values_on series number n le in
      let there = crosses.reached in
      let low = short t (omega (arith, lt)) early in
      omega (arith, ints, values, there, low)

  pub none_crossed : (until : ℕ) {number : ℕ} {passed : ℤ} (sought : ℤ) → ReadsOn reading
      → IsPassed reading shown after passed → IsBehind series passed number
      → sought ≡ (value_in series number -ℤ shown.adjustment)
      → ((x : ℕ) → after ≤ x → x ≤ until → pos (reading x) <ℤ sought)
      → NoneCrossed reading shown series after (until + 1)
  none_crossed until sought on is behind same short =
      none_while_short (until + 1) on is behind
      (λ x from_on lt. let low = short x from_on (omega (arith, lt)) in omega (arith, ints, low, same))

  pub next_crossed : (until : ℕ) {number : ℕ} {passed sought : ℤ} (time : ℕ) → ReadsOn reading
      → IsPassed reading shown after passed → IsBehind series passed number
      → sought ≡ (value_in series number -ℤ shown.adjustment) → IsReach reading (pos after) sought (pos time)
      → time ≤ until → until ≤ 2 ^ 60 → (pos (reading after) +ℤ shown.adjustment) ≤ℤ pos (2 ^ 82)
      → IsNextCrossing reading shown series after until (record { time = time; number = number })
  next_crossed until {sought} time on is behind same reach timely limit small =
      let from_on = reach.from_on in
      let there = reach.reached in
      let local = is.local in
      let change = is.change in
      let more = behind.behind in
      let later : after < time = elim (cases_lt after time) [
        | inl lt ↦ lt
        | inr ge ↦
            let at : time ≡ after = omega (arith, ints, from_on, ge) in
            let here : sought ≤ℤ pos (reading after) = subst (λ (x : ℕ). sought ≤ℤ pos (reading x)) at there in
            absurd (omega (arith, ints, here, local, more, same))
      ] in
      let low = reach.not_before (time - 1) (omega (arith, ints, later)) (omega (arith, ints, later)) in
      let most = on.bound time (omega (arith, timely, limit)) in
      record {
        later = later;
        timely = timely;
        least = λ t n lt crosses. behind.least n (crossed_behind t on is lt crosses);
        near = omega (arith, ints, there, same, most, small);
        crosses = record { changed = omega (arith, ints, change, more); below = omega (arith, ints, low, same); reached = omega (arith, ints, there, same) };
        none_before = none_while_short time on is behind
            (λ x from_x lt. let short = reach.not_before x (omega (arith, ints, from_x)) (omega (arith, ints, lt)) in
            omega (arith, ints, short, same));
      }

-- ---- the number

-- the quotient is the number of the last value up to this one
pub quotient_behind : (series : Series) (passed : ℤ) (d : ℕ) → 1 ≤ series.step → pos d ≡ (passed -ℤ series.first) → IsBehind series passed (d / series.step + 1)
quotient_behind series passed d some is = grind (arith, div-add-mod', mod_below, ints, div_below)

pub quotient_near : (series : Series) (passed : ℤ) (d : ℕ) → pos d ≡ (passed -ℤ series.first)
    → value_in series (d / series.step + 1) ≤ℤ (passed +ℤ pos series.step)
quotient_near series passed d is =
    let e : d / series.step * series.step + d % series.step ≡ d = div-add-mod' d series.step in
    omega (arith, ints, e, is)

-- How a switch stands from its beginning on: as it hears and is corrected, and what room its numbers have.
use Rattle.std.{proofs.lemmas.List.Elements.Contains-append_cases, specs.Prelude.int_le}
use Rattle.compression.{proofs.Growth.{in_cases, in_filter}, specs.Clusters.Point}
use Rattle.run_law.proofs.control.Verdicts.{enough_not, in_time_by}
use Rattle.switch_ports.proofs.Dispatching.{awaits_called, awaits_cleared, awaits_fresh, awaits_reopened, departs_fresh}
use Rattle.switch_ports.proofs.Dispatching.{departs_reopened, departs_stopped}
use Rattle.run_law.specs.{device.States.is_synchronised}
use Rattle.run_law.specs.{machines.{Answers.{after_correction, with_heard, with_joined}, Nodes.begun_node}}
use Rattle.run_law.specs.{scenario.Devices.start_of}
use Rattle.schedule_tables.{proofs.Margins.master_ends, specs.Delays.pcf_port_time}
use Rattle.switch_ports.{specs.{Departing.Reopens, Standpoints.IsPoint, Steps.{Corrects, Hears, IsHeardSo, Joins}}}
use Rattle.switch_ports.proofs.{Ranges.expected_most}
use Rattle.switch_ports.proofs.Words
use Words.{if◌then◌else◌, ◌&&◌, ◌*ℤ◌, ◌*◌, ◌++◌, ◌+ℤ◌, ◌+◌, ◌-ℤ◌, ◌<ℤ◌, ◌<◌, ◌^◌, ◌∙◌, ◌∷◌, ◌≡◌, ◌≤ℤ◌, ◌≤◌, ◌⊎◌, A}
use Words.{Awaits, B, Bool, Channel, ClockTask, Collecting, Compressed, Contains, Departures, Device, DeviceId}
use Words.{HasCollected, HasDepartures, HasTaken, HeardFrame, IfSome, Integrating, IsAccepted, IsBegun, IsFair}
use Words.{IsSiteOf, IsSmall, IsSomeAnd, IsWithin, Joining, Link, LinkId, List, MayCall, Members, Moment, Network, Node}
use Words.{None, Off, Option, Pcf, Phase, Some, Standing, StandsAs, StandsForPoints, State, Summary, Switch, SyncPlan}
use Words.{Synchronised, Units, [], acting, after, amount, amount_most, ap, arith, best_on, called, correcting}
use Words.{correction_at, correction_value, doing, expected_at, expected_by, false, fresh, further, heard_as, in_all}
use Words.{in_head, in_none, inl, inr, ints, is_cm, is_end_system, is_master, is_timed, its_amount, last_cycle, length}
use Words.{link_at, masters, mul-le-mul_right, nat_le, neg_ℤ, never_less, next_point, option_and_then, plan_of}
use Words.{point_in, pos, reading_of, refl, ripe_as, silence, slice_get, slice_get-get_or, subst, suc, sym, through}
use Words.{true, zero, ℕ, ℤ}
use Rattle.sync_state.{proofs.membership_lemmas.SummaryLemmas.silence_summarizes}
use Rattle.sync_state.specs.{Calls.{heard_frame, reached_point}, Integration.joined_by}
use Rattle.sync_state.specs.{Standing.{adjustment_at_start, begun, state_at_start}}
use Rattle.sync_state.specs.{Verdicts.{HasVerdict, IfCorrected, SomeQualifies, deviation_by, deviation_on}}
use Rattle.sync_state.specs.{correction.Correction.correction_of}
use Rattle.sync_state.specs.{membership.{BestFrame.{IsBetterOf, Qualifies}, Members.count_of, Summary.Summarizes}}
use Rattle.sync_state.specs.declared.answers.Verdict.{TheVariants.{AsyncClique, Cleared, Corrected, SyncClique}}
use Rattle.sync_state.specs.declared.answers.Verdict.{Verdict}
use Rattle.tte_units.{proofs.general_lemmas.Naturals.{less_than_next, none_less}, specs.Mean.mean_of}
use Rattle.run_law.specs.declared.steps.Ripe.TheVariants as ripe
use Rattle.schedule_tables.specs.declared.rule.Rule.TheVariants as rules

-- ---- what frames that are heard within their time show at the next correction point: what stays the best

better_keeps : (P : HeardFrame → Type 0) (o : Option HeardFrame) (later best : HeardFrame) → IsBetterOf o later best → P later → IfSome o P → P best
better_keeps P None later best e new old = subst P (sym e) new
better_keeps P (Some b) later best e new old = grind arith

best_same : (P : HeardFrame → Type 0) (old new : Summary) (ch : Channel) → new ≡ old → IfSome (best_on ch old) P → IfSome (best_on ch new) P
best_same P old new ch e h = subst (λ s. IfSome (best_on ch s) P) (sym e) h

-- what holds of the best frames holds after one more frame, of which it holds where it was within
kept : (P : HeardFrame → Type 0) (old new : Summary) (channel : Option Channel) (frame : Pcf) (point : Units) (within : Bool)
    → IsHeardSo old channel frame point within new
    → (within ≡ true → P (record { cycle = frame.cycle; members = frame.members; point = point })) → ((ch : Channel) → IfSome (best_on ch old) P)
    → (ch : Channel) → IfSome (best_on ch new) P
kept P old new None frame point within h new_is all ch = best_same P old new ch h (all ch)
kept P old new (Some c) frame point false h new_is all A = best_same P _ new A h (all A)
kept P old new (Some c) frame point false h new_is all B = best_same P _ new B h (all B)
kept P old new (Some A) frame point true (best, is, e) new_is all A = best_same P _ new A e (better_keeps P old.best_a _ best is (new_is refl) (all A))
kept P old new (Some A) frame point true (best, is, e) new_is all B = best_same P _ new B e (all B)
kept P old new (Some B) frame point true (best, is, e) new_is all A = best_same P _ new A e (all A)
kept P old new (Some B) frame point true (best, is, e) new_is all B = best_same P _ new B e (better_keeps P old.best_b _ best is (new_is refl) (all B))

-- ---- what is heard within its time

all_three : (n l : ℕ) (x y z : ℤ) → (nat_le n l && (int_le x y && int_le y z)) ≡ true → (n ≤ l) × (x ≤ℤ y) × (y ≤ℤ z)
all_three n l x y z e = (grind (arith, ints, e), grind (arith, ints, e), grind (arith, ints, e))

within_in : (plan : SyncPlan) (precision : ℤ) (state : State) (adjustment point : ℤ) (cycle : ℕ) (members : Members)
    → ripe_as (heard_as plan precision state adjustment point cycle members) ≡ ripe.Within
    → (is_timed state ≡ true) × ((cycle ≤ last_cycle) × ((expected_at plan cycle -ℤ precision) ≤ℤ (point +ℤ adjustment))
    × ((point +ℤ adjustment) ≤ℤ (expected_at plan cycle +ℤ precision)))
within_in plan precision Off adjustment point cycle members e = absurd cc
within_in plan precision Integrating adjustment point cycle members e = absurd (enough_not _ e)
within_in plan precision Joining adjustment point cycle members e = (refl, all_three _ _ _ _ _ (in_time_by _ e))
within_in plan precision Synchronised adjustment point cycle members e = (refl, all_three _ _ _ _ _ (in_time_by _ e))

-- ---- of which cycle it is

-- the numbers of a network leave this room
pub record HasRoom (r e k p : ℕ) : Type 0 where
  pub expected : e + 8 * p ≤ k
  pub correction : k ≤ r
  pub some : 1 ≤ p
  pub compression : 2 * p ≤ e

-- a frame of cycle c that was heard within its time before the correction point of cycle n
pub record IsHeardBefore (n c r e k p : ℕ) (point adjustment reading changed : ℤ) : Type 0 where
  pub room : HasRoom r e k p
  pub early : ((pos (c * r) +ℤ pos e) -ℤ pos p) ≤ℤ (point +ℤ adjustment)
  pub late : (point +ℤ adjustment) ≤ℤ ((pos (c * r) +ℤ pos e) +ℤ pos p)
  ahead : reading <ℤ ((pos (n * r + k) -ℤ adjustment) +ℤ pos p)
  pub reached : point ≤ℤ reading
  pub recent : reading <ℤ (point +ℤ pos p)
  pub lower : ((pos (n * r) +ℤ pos e) +ℤ pos (3 * p)) ≤ℤ (changed +ℤ pos (2 * r))
  pub upper : changed ≤ℤ (reading +ℤ adjustment)

decide : (c n : ℕ) → (c ≤ n) ⊎ (n + 1 ≤ c)
decide zero n = inl (omega arith)
decide (suc c) zero = inr (omega arith)
decide (suc c) (suc n) = elim (decide c n) [ inl h ↦ inl (omega (arith, h)) | inr h ↦ inr (omega (arith, h)) ]

module _ {n c r e k p : ℕ} {point adjustment reading changed : ℤ}
    (h : IsHeardBefore n c r e k p point adjustment reading changed) where
  pub not_later : c ≤ n
  not_later = elim (decide c n) [
    | inl y ↦ y
    | inr n1 ↦
        let more : (n + 1) * r ≤ c * r = mul-le-mul_right r n1 in
        let a = h.early in let b = h.ahead in let d = h.reached in let f = h.room.correction in
        let g = h.room.compression in let i = h.room.some in
        absurd (omega (arith, ints, more, a, b, d, f, g, i))
  ]

  not_earlier : n ≤ c + 1
  not_earlier = elim (decide n (c + 1)) [
    | inl y ↦ y
    | inr n1 ↦
        let more : (c + 1 + 1) * r ≤ n * r = mul-le-mul_right r n1 in
        let a = h.late in let b = h.recent in let d = h.lower in let f = h.upper in let i = h.room.some in
        absurd (omega (arith, ints, more, a, b, d, f, i))
  ]

module _ {n c r e k p : ℕ} {point adjustment reading changed : ℤ}
    (h : IsHeardBefore n c r e k p point adjustment reading changed) where
  behind : (point +ℤ adjustment) ≤ℤ ((pos (n * r) +ℤ pos e) +ℤ pos p)
  behind = grind (arith, mul-le-mul_right, not_later, ints)

  pub ahead : (pos (n * r) +ℤ pos e) ≤ℤ ((point +ℤ adjustment) +ℤ pos (2 * r))
  ahead =
      let b = h.recent in let d = h.lower in let f = h.upper in
      omega (arith, ints, b, d, f)

-- ---- what the numbers of an accepted network leave room for

some_there : {X : Type 0} (o : Option X) (P : X → Type 0) → IsSomeAnd o P → (x : X) × (o ≡ Some x)
some_there None P h = absurd h
some_there (Some x) P h = (x, refl)

pub head_there : {X : Type 0} (xs : List X) → 1 ≤ length xs → (x : X) × Contains xs x
head_there [] h = absurd (omega (arith, h))
head_there (x ∷ xs) h = (x, in_head x xs)

pub one_of_four : (n : ℕ) → 4 ≤ n → 1 ≤ n
one_of_four n h = omega (arith, h)

end_there : (o : Option Device) (d : Device) → o ≡ Some d → is_master d.role ≡ true → IsSomeAnd o (λ x. is_end_system x.role ≡ true)
end_there o d e m = subst (λ (p : Option Device). IsSomeAnd p (λ x. is_end_system x.role ≡ true)) (sym e) (master_ends d.role m)

-- an accepted network has a link
pub some_link : {network : Network} → IsAccepted network
    → (link : LinkId) × (l : Link) × (link_at network link ≡ Some l)
some_link {network} accepted =
    let d = head_there (masters network) (one_of_four _ ((accepted.rules rules.Masters 0).least refl)) in
    let at = in_filter (λ (x : Device). is_master x.role) network.device d.0 d.1 in
    let there : slice_get network.device at.0.0 ≡ Some d.0 = slice_get-get_or network.device at.0.0 d.0 at.0.1 ∙ ap Some at.0.2 in
    let up = (accepted.rules rules.Connections at.0.0).ends (end_there _ d.0 there at.1) A in
    let l = some_there (link_at network up.0) _ up.1 in
    (up.0, l.0, l.1)

small_expected : (b : Bool) (d p q k : ℕ) → 2 * d + q + 10 * p ≤ k → (if b then d + (2 * p + q) else 2 * d + (2 * p + q)) + 8 * p ≤ k
small_expected true d p q k h = omega (arith, h)
small_expected false d p q k h = omega (arith, h)

compression_in : (b : Bool) (d p q : ℕ) → 2 * p ≤ (if b then d + (2 * p + q) else 2 * d + (2 * p + q))
compression_in true d p q = omega arith
compression_in false d p q = omega arith

from_units : (x : ℤ) (n : ℕ) → pos 1 ≤ℤ x → x ≡ pos n → 1 ≤ n
from_units x n h e = omega (arith, ints, h, e)

in_cycle : (k d p t s r : ℕ) → k + d + 4 * p + t ≤ s → s + 4 * p ≤ r → k ≤ r
in_cycle k d p t s r a b = omega (arith, a, b)

room : {network : Network} (device : DeviceId) → IsAccepted network
    → HasRoom (amount network.cycle) (expected_by network device) (amount network.correction)
    (amount network.precision)
room {network} device accepted =
    let found = some_link accepted in
    let schedule = accepted.rules rules.ScheduleStart 0 in
    let begins = in_all (λ (k : Link). amount network.correction + amount network.dmax + 4 * amount network.precision + pcf_port_time k ≤ amount
    network.tt_start) network.link found.0.0 found.1 schedule.begins found.2 in
    record {
      expected =
          small_expected (is_cm network device) (amount network.dmax) (amount network.precision) (amount network.calc) (amount network.correction)
          (accepted.rules rules.Correction 0);
      correction = in_cycle _ _ _ _ _ _ begins schedule.ends;
      some = from_units _ _ accepted.range.precision.least (its_amount accepted.range.precision);
      compression = compression_in (is_cm network device) (amount network.dmax) (amount network.precision) (amount network.calc);
    }

expected_by_parts : (n r e : ℕ) (R : ℤ) → R ≡ pos r → ((pos n *ℤ R) +ℤ pos e) ≡ (pos (n * r) +ℤ pos e)
expected_by_parts n r e R is = rw is (omega (arith, ints))

-- when the frame of a cycle is expected, in natural numbers
pub expected_is : {network : Network} (device : DeviceId) (n : ℕ) → IsAccepted network
    → expected_at (plan_of network device) n ≡ (pos (n * amount network.cycle) +ℤ pos (expected_by network device))
expected_is {network} device n accepted =
    expected_by_parts n (amount network.cycle) (expected_by network device) network.cycle.0
    (its_amount accepted.range.cycle)

-- ---- how a switch stands when it has heard a frame

-- a frame comes to its point
pub record IsComing (network : Network) (moment : Moment) (point : Units) : Type 0 where
  pub reached : point.0 ≤ℤ moment.reading.0
  pub in_time : moment.reading.0 <ℤ (point.0 +ℤ network.precision.0)

low_point : (p : ℕ) (point reading prec : ℤ) → p ≤ 2 ^ 40 → prec ≡ pos p → pos 0 ≤ℤ reading → reading <ℤ (point +ℤ prec) → neg_ℤ (pos (2 ^ 41)) ≤ℤ point
low_point p point reading prec a b c d = omega (arith, ints, a, b, c, d)

-- its point is in the range of runs
pub is_point : {s : Switch} {network : Network} {device : DeviceId} {node : Node} {moment : Moment} {phase : Phase}
    {point : Units} → StandsAs s network device node → MayCall network device node moment phase
    → IsComing network moment point → IsPoint point
is_point {network} {moment} {point} st may is = record {
  low =
      low_point (amount network.precision) point.0 moment.reading.0 network.precision.0
      (amount_most st.accepted.range.precision)
      (its_amount st.accepted.range.precision) (through _ _ _ st.begun may.later.reading) is.in_time;
  high = through _ _ _ is.reached may.later.low_enough;
}

timed_point : (state : State) (number : ℕ) → is_timed state ≡ true → point_in state number ≡ Some number
timed_point Off number e = absurd cc
timed_point Integrating number e = absurd cc
timed_point Joining number e = refl
timed_point Synchronised number e = refl

times_three : (p : ℕ) (prec : ℤ) → prec ≡ pos p → (pos 3 *ℤ prec) ≡ pos (3 * p)
times_three p prec e = omega (arith, ints, e)

times_two : (p : ℕ) (prec : ℤ) → prec ≡ pos p → (pos 2 *ℤ prec) ≡ pos (2 * p)
times_two p prec e = omega (arith, ints, e)

-- a frame that is heard within its time before a correction point is fair
heard_before : {s : Switch} {network : Network} {device : DeviceId} {node : Node} {moment : Moment} {phase : Phase}
    {point : Units} (cycle : ℕ) → StandsAs s network device node → MayCall network device node moment phase
    → IsComing network moment point → (timed : is_timed node.standing.state ≡ true)
    → node.changed <ℤ correction_value network node.standing.number
    → (expected_at (plan_of network device) cycle -ℤ network.precision.0) ≤ℤ (point.0 +ℤ node.standing.adjustment.0)
    → (point.0 +ℤ node.standing.adjustment.0) ≤ℤ (expected_at (plan_of network device) cycle +ℤ network.precision.0)
    → IsHeardBefore node.standing.number cycle (amount network.cycle) (expected_by network device)
    (amount network.correction)
    (amount network.precision) point.0 node.standing.adjustment.0 moment.reading.0 node.changed
heard_before {network} {device} {node} {moment} {point} cycle st may is timed lt early late =
    let p = its_amount st.accepted.range.precision in
    let r = its_amount st.accepted.range.cycle in
    let ec = expected_is device cycle st.accepted in
    let en = ap (λ q. expected_at q node.standing.number) st.plan ∙ expected_is device
    node.standing.number st.accepted in
    let steady = st.steady timed in
    let lower = steady.lower in
    let upper = further _ _ _ _ steady.upper may.later.reading in
    let next = timed_point node.standing.state node.standing.number timed in
    let pending = may.in_time (doing (correcting node.standing.number))
    (st.sound, record { own = next; ahead = lt; not_yet = λ there. none_less _ (st.done _ there) }) in
    let t3 = times_three _ _ p in
    let t2 = times_two _ _ r in
    let recent = is.in_time in
    record {
      room = room device st.accepted;
      early = omega (arith, ints, ec, p, early);
      late = omega (arith, ints, ec, p, late);
      ahead = subst (λ z. moment.reading.0 <ℤ ((correction_value network node.standing.number -ℤ node.standing.adjustment.0) +ℤ z)) p pending;
      reached = is.reached;
      recent = subst (λ z. moment.reading.0 <ℤ (point.0 +ℤ z)) p recent;
      lower = omega (arith, ints, en, t3, t2, lower);
      upper = upper;
    }

one_more : (n c l : ℕ) → n ≤ c + 1 → c ≤ l → n ≤ l + 1
one_more n c l a b = omega (arith, a, b)

-- a frame that is heard within its time is fair
pub fair_frame : {s : Switch} {network : Network} {device : DeviceId} {node : Node} {moment : Moment} {phase : Phase}
    (frame : Pcf) {point : Units} → StandsAs s network device node → MayCall network device node moment phase
    → IsComing network moment point → is_timed node.standing.state ≡ true
    → node.changed <ℤ correction_value network node.standing.number → ripe.Within ≡ ripe_as
    (heard_as (plan_of network device) network.precision.0 node.standing.state node.standing.adjustment.0 point.0
    frame.cycle frame.members) → IsFair network node.standing
    (record { cycle = frame.cycle; members = frame.members; point = point })
fair_frame {network} {device} {node} frame {point} st may is timed lt e =
    let w = (within_in (plan_of network device) network.precision.0 node.standing.state node.standing.adjustment.0 point.0 frame.cycle frame.members (sym e)).1
    in
    let h = heard_before frame.cycle st may is timed lt w.1 w.2 in
    let p = its_amount st.accepted.range.precision in
    let r = its_amount st.accepted.range.cycle in
    let en = ap (λ q. expected_at q node.standing.number) st.plan ∙ expected_is device
    node.standing.number st.accepted in
    let t2 = times_two _ _ r in
    let b = behind h in
    let a = ahead h in
    record {
      cycle = one_more _ _ _ (not_earlier h) w.0;
      point = is_point st may is;
      behind = omega (arith, ints, en, p, b);
      ahead = omega (arith, ints, en, t2, a);
    }

module _ {s : Switch} (new : Switch) {network : Network} {device : DeviceId} {node : Node} (moment : Moment)
    (phase : Phase) (channel : Option Channel) (frame : Pcf) (point : Units) (within : Bool)
    (st : StandsAs s network device node) where
  with_heard_list : node.last.reading.0 ≤ℤ moment.reading.0 → Hears s channel frame point within new
      → (is_timed node.standing.state ≡ true → node.changed <ℤ correction_value network node.standing.number
      → within ≡ true
      → IsFair network node.standing (record { cycle = frame.cycle; members = frame.members; point = point }))
      → StandsAs (record s { heard = new.heard }) network device
      (called moment phase (with_heard node channel frame point within))
  with_heard_list later h fair = record {
    accepted = st.accepted;
    intake = st.intake;
    site = st.site;
    sound = st.sound;
    standing = st.standing;
    plan = st.plan;
    heard = h.heard node.heard st.heard;
    changed = st.changed;
    corrects = st.corrects;
    done = st.done;
    begun = through _ _ _ st.begun later;
    small = st.small;
    steady = λ timed. let o = st.steady timed in record {
      number = o.number;
      lower = o.lower;
      upper = further _ _ _ _ o.upper later;
      joined = o.joined;
      fair = λ lt ch. kept (IsFair network node.standing) s.heard new.heard channel frame point within h.kept
          (fair timed lt) (o.fair lt) ch;
    };
    collects = st.collects;
    departs = st.departs;
    awaits = awaits_called moment st later;
  }

  -- it has heard one more frame
  pub hears_stands : node.last.reading.0 ≤ℤ moment.reading.0 → Hears s channel frame point within new
      → (is_timed node.standing.state ≡ true → node.changed <ℤ correction_value network node.standing.number
      → within ≡ true
      → IsFair network node.standing (record { cycle = frame.cycle; members = frame.members; point = point }))
      → StandsAs new network device (called moment phase (with_heard node channel frame point within))
  hears_stands later h fair =
      subst (λ x. StandsAs x network device
      (called moment phase (with_heard node channel frame point within))) (sym h.rest)
      (with_heard_list later h fair)

-- ---- it has joined

small_join : (c l r e : ℕ) (point adjustment : ℤ) → c ≤ l → l ≡ 2 ^ 20 + 2 ^ 17 → r ≤ 2 ^ 40 → e ≤ 2 ^ 43 → neg_ℤ (pos (2 ^ 41)) ≤ℤ point
    → point ≤ℤ pos (2 ^ 60 + 2 ^ 51) → adjustment ≡ ((pos (c * r) +ℤ pos e) -ℤ point) → IsSmall adjustment
small_join c l r e point adjustment a is b d low high eq = grind (arith, mul-le-mul_right, ints)

join_lower : (x p r : ℕ) (x' reading point adjustment changed p3 r2 : ℤ) → x' ≡ pos x → adjustment ≡ (x' -ℤ point) → point ≤ℤ reading
    → changed ≡ (reading +ℤ adjustment) → p3 ≡ pos (3 * p) → r2 ≡ pos (2 * r) → 8 * p ≤ r → ((x' +ℤ p3) ≤ℤ (changed +ℤ r2)) × (x' ≤ℤ changed)
join_lower x p r x' reading point adjustment changed p3 r2 a b c d e f g = (omega (arith, ints, a, b, c, d, e, f, g), omega (arith, ints, a, b, c, d, e, f, g))

silent : (P : HeardFrame → Type 0) (heard : Summary) (ch : Channel) → heard ≡ silence → IfSome (best_on ch heard) P
silent P heard A e = subst (λ s. IfSome (best_on A s) P) (sym e) tt
silent P heard B e = subst (λ s. IfSome (best_on B s) P) (sym e) tt

nothing_done : (cycle number : ℕ) → Contains {X = ClockTask} [] (correcting cycle) → cycle < number
nothing_done cycle number (k, lt, at) = absurd (omega arith)

-- a collector that has no points
fresh_stands : (ow calc : ℤ) → StandsForPoints (fresh ow calc) [] []
fresh_stands ow calc = record { done = []; clusters = tt; given = refl; past = λ k d lt. absurd (omega (arith, lt)) }

fresh_collects : {old : Collecting} (collector : Collecting) {network : Network} {device : DeviceId}
    {points : List Point} {emitted : List Compressed} → HasCollected old network device points emitted
    → collector ≡ fresh old.ow old.calc → HasCollected collector network device [] []
fresh_collects collector h e = grind (arith, fresh_stands)

site_due : {s : Switch} {network : Network} {device : DeviceId} {node : Node} (cycle : ℕ)
    (adjustment changed : ℤ) → StandsAs s network device node
    → correction_at s.site cycle adjustment changed ≡ reading_of (correction_value network cycle) adjustment changed
site_due {s} {network} cycle adjustment changed st =
    ap (λ (p : SyncPlan). reading_of (pos (cycle * amount p.cycle_length + amount s.site.correction)) adjustment changed) st.site.plan
    ∙ ap (λ u. reading_of (pos (cycle * amount network.cycle + amount u)) adjustment changed) st.site.correction

eight : {e k r p : ℕ} → HasRoom r e k p → 8 * p ≤ r
eight h = let a = h.expected in let b = h.correction in omega (arith, a, b)

two_more : (n l : ℕ) → n ≤ l → n ≤ l + 2
two_more n l h = omega (arith, h)

pub joins_stands : {s new : Switch} {network : Network} {device : DeviceId} {node : Node} {moment : Moment}
    {phase : Phase} {frame : Pcf} {point : Units} → StandsAs s network device node
    → MayCall network device node moment phase → IsComing network moment point → frame.cycle ≤ last_cycle
    → Joins s moment frame point new → StandsAs new network device
    (called moment phase (with_joined node moment frame point))
joins_stands {new} {network} {device} {node} {moment} {frame} {point} st may is used h =
    let standing = after node.standing (heard_frame frame point (Some (joined_by node.standing.plan frame point))) in
    let at = is_point st may is in
    let ec = ap (λ q. expected_at q frame.cycle) st.plan ∙ expected_is device frame.cycle st.accepted in
    let same : new.sync ≡ standing = h.sync ∙ ap (λ (x : Standing). after x (heard_frame frame point (Some (joined_by x.plan frame point)))) (sym st.standing)
    in
    let adjustment : new.sync.adjustment.0 ≡ standing.adjustment.0 = ap (λ (x : Standing). x.adjustment.0) same in
    let p = its_amount st.accepted.range.precision in
    let r = its_amount st.accepted.range.cycle in
    let lower = join_lower (frame.cycle * amount network.cycle + expected_by network device) (amount network.precision) (amount network.cycle)
    (expected_at node.standing.plan frame.cycle) moment.reading.0 point.0 standing.adjustment.0 (moment.reading.0 +ℤ standing.adjustment.0)
    (pos 3 *ℤ network.precision.0) (pos 2 *ℤ network.cycle.0)
    (omega (arith, ints, ec)) refl is.reached refl (times_three _ _ p) (times_two _ _ r)
    (eight (room device st.accepted)) in
    record {
      accepted = st.accepted;
      intake = subst (λ i. HasTaken network device i node.taken) (sym h.intake) st.intake;
      site = subst (IsSiteOf network device) (sym h.site) st.site;
      sound = st.sound;
      standing = sym same;
      plan = st.plan;
      heard = subst (λ x. Summarizes x []) (sym h.heard) silence_summarizes;
      changed = sym (h.changed ∙ ap (λ z. moment.reading.0 +ℤ z) adjustment);
      corrects = grind (arith, site_due, reading_of, correction_value, adjustment, standing.adjustment.0);
      done = λ cycle there. nothing_done cycle frame.cycle there;
      begun = through _ _ _ st.begun may.later.reading;
      small =
          small_join frame.cycle last_cycle (amount network.cycle) (expected_by network device) point.0 standing.adjustment.0 used refl
          (amount_most st.accepted.range.cycle) (expected_most device st.accepted.range) at.low
          at.high (omega (arith, ints, ec));
      steady = grind (arith, two_more, lower, lower.0, never_less, lower.1, silent, standing);
      collects = fresh_collects new.collector st.collects h.collector;
      departs = departs_stopped new.departures h.departures st.departs;
      awaits = ap (λ (ds : Departures). ds.next) h.departures;
    }

-- ---- where a correction point leaves a device

next_small : (s new : Standing) (heard : Summary) (v : Verdict) → new ≡ after s (reached_point heard v) → IsSmall s.adjustment.0
    → IfCorrected v (λ by. IsSmall new.adjustment.0) → IsSmall new.adjustment.0
next_small s new heard (Corrected by) e small corrected = corrected
next_small s new heard other e small corrected = subst (λ (t : Standing). IsSmall t.adjustment.0) (sym e) small

-- ---- how a switch stands once its correction point has come: the correction is not less than a precision below

dev_low : (x point adjustment prec : ℤ) → (point +ℤ adjustment) ≤ℤ (x +ℤ prec) → (pos 0 -ℤ prec) ≤ℤ ((x -ℤ point) -ℤ adjustment)
dev_low x point adjustment prec h = omega (arith, ints, h)

low_if : (s : Standing) (low : ℤ) (frame : HeardFrame) (b : Bool) → low ≤ℤ (deviation_by s frame).0 → IfSome (if b then Some (deviation_by s frame) else None)
    (λ d. low ≤ℤ d.0)
low_if s low frame true h = h
low_if s low frame false h = tt

low_on : (s : Standing) (prec : ℤ) (o : Option HeardFrame) → IfSome o (λ f. (f.point.0 +ℤ s.adjustment.0) ≤ℤ (expected_at s.plan s.number +ℤ prec))
    → IfSome (option_and_then (λ frame. if nat_le s.plan.threshold (count_of frame.members) then Some (deviation_by s frame) else None) o)
    (λ d. (pos 0 -ℤ prec) ≤ℤ d.0)
low_on s prec None h = tt
low_on s prec (Some f) h =
    low_if s (pos 0 -ℤ prec) f (nat_le s.plan.threshold (count_of f.members)) (dev_low (expected_at s.plan s.number) f.point.0 s.adjustment.0 prec h)

mean_low : (a b low : ℤ) → low ≤ℤ a → low ≤ℤ b → low ≤ℤ mean_of a b
mean_low a b low h k = grind (arith, ints, h, k)

pub number_of : (a b : Units) → Some a ≡ Some b → a.0 ≡ b.0
number_of a b e = cc

correction_low : (a b : Option Units) (by : Units) (low : ℤ) → IfSome a (λ d. low ≤ℤ d.0) → IfSome b (λ d. low ≤ℤ d.0) → correction_of a b ≡ Some by
    → low ≤ℤ by.0
correction_low None None by low h k e = absurd cc
correction_low None (Some b) by low h k e = subst (λ z. low ≤ℤ z) (number_of b by e) k
correction_low (Some a) None by low h k e = subst (λ z. low ≤ℤ z) (number_of a by e) h
correction_low (Some a) (Some b) by low h k e = subst (λ z. low ≤ℤ z) (number_of (record { 0 = mean_of a.0 b.0 }) by e) (mean_low a.0 b.0 low h k)

-- ---- parts

and_then_same : {X Y : Type 0} (f g : X → Option Y) (o : Option X) → ((x : X) → f x ≡ g x) → option_and_then f o ≡ option_and_then g o
and_then_same f g None h = refl
and_then_same f g (Some x) h = h x

corrects_same : {s : Switch} (new : Switch) {network : Network} {device : DeviceId} {node : Node}
    (standing : Standing) (changed : ℤ) → StandsAs s network device node → new.sync ≡ standing
    → new.changed.0 ≡ changed → new.corrects_at ≡ option_and_then
    (λ cycle. correction_at s.site cycle new.sync.adjustment.0 new.changed.0) (next_point new.sync) → new.corrects_at
    ≡ option_and_then (λ cycle. reading_of (correction_value network cycle) standing.adjustment.0 changed)
    (next_point standing)
corrects_same {s} new {network} standing changed st e f h =
    h ∙ and_then_same (λ (cycle : ℕ). correction_at s.site cycle new.sync.adjustment.0 new.changed.0)
    (λ (cycle : ℕ). reading_of (correction_value network cycle) new.sync.adjustment.0 new.changed.0) (next_point new.sync)
    (λ cycle. site_due cycle new.sync.adjustment.0 new.changed.0 st)
    ∙ ap (λ (x : Standing). option_and_then (λ (cycle : ℕ). reading_of (correction_value network cycle) x.adjustment.0 new.changed.0) (next_point x)) e
    ∙ ap (λ (z : ℤ). option_and_then (λ (cycle : ℕ). reading_of (correction_value network cycle) standing.adjustment.0 z) (next_point standing)) f

module _ {s new : Switch} {network : Network} {device : DeviceId} {node : Node} {moment : Moment} {v : Verdict}
    (st : StandsAs s network device node) (h : Corrects s moment v new) where
  sync_same : new.sync ≡ after node.standing (reached_point s.heard v)
  sync_same = h.sync ∙ ap (λ x. after x (reached_point s.heard v)) (sym st.standing)

  small_same : IsSmall (after node.standing (reached_point s.heard v)).adjustment.0
  small_same =
      let same = sync_same in
      subst (λ (x : Standing). IsSmall x.adjustment.0) same
      (next_small node.standing new.sync s.heard v same st.small h.small)

silent_now : (heard : Summary) → heard ≡ silence → Summarizes heard []
silent_now heard e = subst (λ x. Summarizes x []) (sym e) silence_summarizes

not_timed : is_timed Integrating ≡ true → ⊥
not_timed e = cc

-- ---- a clique

module _ {s : Switch} (new : Switch) {network : Network} {device : DeviceId} {node : Node} (moment : Moment)
    (cycle : ℕ) (st : StandsAs s network device node) (later : node.last.reading.0 ≤ℤ moment.reading.0) where
  sync_clique : Corrects s moment SyncClique new → StandsAs new network device
      (called moment acting (after_correction node moment s.heard cycle SyncClique))
  sync_clique h = record {
    accepted = st.accepted;
    intake = subst (λ i. HasTaken network device i node.taken) (sym h.intake) st.intake;
    site = subst (IsSiteOf network device) (sym h.site) st.site;
    sound = st.sound;
    standing = sym (sync_same st h);
    plan = st.plan;
    heard = silent_now new.heard h.heard;
    changed = st.changed ∙ ap (λ (u : Units). u.0) (sym h.changed);
    corrects =
        corrects_same new (after node.standing (reached_point s.heard SyncClique)) node.changed st
        (sync_same st h) (ap (λ (u : Units). u.0) h.changed ∙ sym st.changed) h.corrects;
    done = λ c there. less_than_next c node.standing.number (st.done c there);
    begun = through _ _ _ st.begun later;
    small = small_same st h;
    steady = λ timed. absurd (not_timed timed);
    collects = fresh_collects new.collector st.collects h.collector;
    departs = departs_stopped new.departures h.departures st.departs;
    awaits = ap (λ (ds : Departures). ds.next) h.departures;
  }

  async_clique : Corrects s moment AsyncClique new → StandsAs new network device
      (called moment acting (after_correction node moment s.heard cycle AsyncClique))
  async_clique h = record {
    accepted = st.accepted;
    intake = subst (λ i. HasTaken network device i node.taken) (sym h.intake) st.intake;
    site = subst (IsSiteOf network device) (sym h.site) st.site;
    sound = st.sound;
    standing = sym (sync_same st h);
    plan = st.plan;
    heard = silent_now new.heard h.heard;
    changed = st.changed ∙ ap (λ (u : Units). u.0) (sym h.changed);
    corrects =
        corrects_same new (after node.standing (reached_point s.heard AsyncClique)) node.changed st
        (sync_same st h) (ap (λ (u : Units). u.0) h.changed ∙ sym st.changed) h.corrects;
    done = λ c there. less_than_next c node.standing.number (st.done c there);
    begun = through _ _ _ st.begun later;
    small = small_same st h;
    steady = λ timed. absurd (not_timed timed);
    collects = fresh_collects new.collector st.collects h.collector;
    departs = departs_stopped new.departures h.departures st.departs;
    awaits = ap (λ (ds : Departures). ds.next) h.departures;
  }

-- ---- a correction

from_best : (network : Network) (node : Node) (o : Option HeardFrame) (t : ℕ) → Qualifies t o → IfSome o (IsFair network node.standing)
    → node.standing.number ≤ last_cycle + 1
from_best network node None t q fair = absurd q
from_best network node (Some f) t q fair = fair.cycle

behind_of : {s : Switch} {network : Network} {device : DeviceId} {node : Node} (o : Option HeardFrame)
    → StandsAs s network device node → IfSome o (IsFair network node.standing) → IfSome o
    (λ f. (f.point.0 +ℤ s.sync.adjustment.0) ≤ℤ (expected_at s.sync.plan s.sync.number +ℤ network.precision.0))
behind_of None st fair = tt
behind_of {network} (Some f) st fair =
    subst (λ (x : Standing). (f.point.0 +ℤ x.adjustment.0) ≤ℤ (expected_at x.plan x.number +ℤ network.precision.0)) st.standing fair.behind

next_within : (n l : ℕ) → n ≤ l + 1 → n + 1 ≤ l + 2
next_within n l h = omega (arith, h)

up_one : (n l : ℕ) → n ≤ l → n ≤ l + 1
up_one n l h = omega (arith, h)

some_of_all : (s : Switch) (network : Network) (node : Node) (n : ℕ) → SomeQualifies s.sync s.heard
    → ((ch : Channel) → IfSome (best_on ch s.heard) (IsFair network node.standing)) → node.standing.number ≤ last_cycle + 1
some_of_all s network node n some fair = elim some [
  | inl a ↦ from_best network node s.heard.best_a _ a (fair A)
  | inr b ↦ from_best network node s.heard.best_b _ b (fair B)
]

by_low : {s : Switch} {network : Network} {device : DeviceId} {node : Node} (by : Units)
    → StandsAs s network device node → ((ch : Channel) → IfSome (best_on ch s.heard) (IsFair network node.standing))
    → correction_of (deviation_on s.sync s.heard A) (deviation_on s.sync s.heard B) ≡ Some by
    → (pos 0 -ℤ network.precision.0) ≤ℤ by.0
by_low {s} {network} by st fair e =
    correction_low (deviation_on s.sync s.heard A) (deviation_on s.sync s.heard B) by (pos 0 -ℤ network.precision.0)
    (low_on s.sync network.precision.0 s.heard.best_a (behind_of s.heard.best_a st (fair A)))
    (low_on s.sync network.precision.0 s.heard.best_b (behind_of s.heard.best_b st (fair B))) e

lower_then : (n r e k p : ℕ) (x prec by value adjustment reading new three two : ℤ) → e + 8 * p ≤ k → prec ≡ pos p → x ≡ (pos ((n + 1) * r) +ℤ pos e)
    → value ≡ pos (n * r + k) → value ≤ℤ (reading +ℤ adjustment) → (pos 0 -ℤ prec) ≤ℤ by → new ≡ (adjustment +ℤ by) → three ≡ pos (3 * p) → two ≡ pos (2 * r)
    → (x +ℤ three) ≤ℤ ((reading +ℤ new) +ℤ two)
lower_then n r e k p x prec by value adjustment reading new three two a b c d f g h i j =
    let grown : (n + 1) * r ≡ n * r + r = omega arith in
    omega (arith, ints, a, b, c, d, f, g, h, i, j, grown)

no_join : {X : Type 0} → Synchronised ≡ Joining → X
no_join e = absurd cc

kept_collects : (s new : Switch) {network : Network} {device : DeviceId} (node : Node) (b : Bool)
    → HasCollected s.collector network device node.points node.emitted
    → new.collector ≡ (if b then s.collector else fresh s.collector.ow s.collector.calc)
    → HasCollected new.collector network device (if b then node.points else []) (if b then node.emitted else [])
kept_collects s new {network} {device} node true h e =
    subst (λ c. HasCollected c network device node.points node.emitted) (sym e) h
kept_collects s new node false h e = fresh_collects new.collector h e

corrected : {s new : Switch} {network : Network} {device : DeviceId} {node : Node} {moment : Moment} (cycle : ℕ)
    (by : Units) → StandsAs s network device node → node.last.reading.0 ≤ℤ moment.reading.0
    → (is_timed node.standing.state ≡ true) → (node.changed <ℤ correction_value network node.standing.number)
    → correction_value network node.standing.number ≤ℤ (moment.reading.0 +ℤ node.standing.adjustment.0)
    → Corrects s moment (Corrected by) new → StandsAs new network device
    (called moment acting (after_correction node moment s.heard cycle (Corrected by)))
corrected {s} {new} {network} {device} {node} {moment} cycle by st later timed lt due h =
    let same = sync_same st h in
    let standing = after node.standing (reached_point s.heard (Corrected by)) in
    let adjustment : new.sync.adjustment.0 ≡ standing.adjustment.0 = ap (λ (x : Standing). x.adjustment.0) same in
    let fair = (st.steady timed).fair lt in
    let number = some_of_all s network node 0 h.is.1 fair in
    let low = by_low by st fair h.is.3 in
    let p = its_amount st.accepted.range.precision in
    let r = its_amount st.accepted.range.cycle in
    let en = ap (λ q. expected_at q (node.standing.number + 1)) st.plan ∙ expected_is device
    (node.standing.number + 1) st.accepted in
    let room = small_expected (is_cm network device) (amount network.dmax) (amount network.precision) (amount network.calc) (amount network.correction)
    (st.accepted.rules rules.Correction 0) in
    record {
      accepted = st.accepted;
      intake = subst (λ i. HasTaken network device i node.taken) (sym h.intake) st.intake;
      site = subst (IsSiteOf network device) (sym h.site) st.site;
      sound = st.sound;
      standing = sym same;
      plan = st.plan;
      heard = silent_now new.heard h.heard;
      changed = sym (h.changed ∙ ap (λ z. moment.reading.0 +ℤ z) adjustment);
      corrects =
          corrects_same new standing (moment.reading.0 +ℤ standing.adjustment.0) st same
          (h.changed ∙ ap (λ z. moment.reading.0 +ℤ z) adjustment) h.corrects;
      done = λ c there. nothing_done c (node.standing.number + 1) there;
      begun = through _ _ _ st.begun later;
      small = small_same st h;
      steady = λ timed. record {
        number = next_within node.standing.number last_cycle number;
        lower =
            lower_then node.standing.number (amount network.cycle) (expected_by network device) (amount network.correction) (amount network.precision) _
            network.precision.0 by.0 (correction_value network node.standing.number) node.standing.adjustment.0 moment.reading.0 standing.adjustment.0 _ _ room
            p en refl due low refl (times_three _ _ p) (times_two _ _ r);
        upper = never_less _;
        joined = λ j i. no_join j;
        fair = λ lt ch. silent (IsFair network standing) new.heard ch h.heard;
      };
      collects =
          kept_collects s new node (is_synchronised node.standing.state) st.collects
          (subst (λ (x : Standing). new.collector ≡ (if is_synchronised x.state then s.collector else fresh s.collector.ow s.collector.calc)) (sym st.standing)
          h.collector);
      departs = departs_reopened new.changed.0 h.departures.changes st.departs;
      awaits =
          subst (λ z. Awaits network new.departures standing.adjustment.0 z [] (moment.reading.0 +ℤ standing.adjustment.0))
          (h.changed ∙ ap (λ z. moment.reading.0 +ℤ z) adjustment)
          (awaits_reopened network (moment.reading.0 +ℤ standing.adjustment.0)
          (subst (λ z. Reopens s.departures new.changed.0 z new.departures) adjustment h.departures));
    }

-- ---- a joiner clears what it has heard

cleared_lower : (n r e k p s : ℕ) (x y changed three two : ℤ) → s + 4 * p ≤ r → y ≡ (pos (n * r) +ℤ pos e) → x ≡ (pos ((n + 1) * r) +ℤ pos e) → y ≤ℤ changed
    → three ≡ pos (3 * p) → two ≡ pos (2 * r) → (x +ℤ three) ≤ℤ (changed +ℤ two)
cleared_lower n r e k p s x y changed three two a b c d f g =
    let grown : (n + 1) * r ≡ n * r + r = omega arith in
    omega (arith, ints, a, b, c, d, f, g, grown)

cleared_done : (node : Node) (cycle c : ℕ) → ((c : ℕ) → Contains node.done (correcting c) → c < node.standing.number) → cycle ≡ node.standing.number
    → Contains (node.done ++ correcting cycle ∷ []) (correcting c) → c < node.standing.number + 1
cleared_done node cycle c done is there = elim (Contains-append_cases node.done (correcting cycle ∷ []) (correcting c) there) [
  | inl old ↦ less_than_next c node.standing.number (done c old)
  | inr new ↦ elim (in_cases (correcting cycle) (correcting c) [] new) [
    | inl e ↦ let f : cycle ≡ c = cc in omega (arith, f, is)
    | inr none ↦ absurd (in_none (correcting c) none)
  ]
]

not_the_next : (n : ℕ) (o : Option ℕ) → o ≡ Some n → o ≡ Some (n + 1) → ⊥
not_the_next n o e f = let g : Some n ≡ Some (n + 1) = sym e ∙ f in let i : n ≡ n + 1 = cc in omega (arith, i)

module _ (s new : Switch) (network : Network) (device : DeviceId) (node : Node) (moment : Moment) (cycle : ℕ) where
  cleared : StandsAs s network device node → node.last.reading.0 ≤ℤ moment.reading.0
      → (is_timed node.standing.state ≡ true) → cycle ≡ node.standing.number → Corrects s moment Cleared new
      → StandsAs new network device (called moment acting (after_correction node moment s.heard cycle Cleared))
  cleared st later timed own h =
      let same = sync_same st h in
      let standing = after node.standing (reached_point s.heard Cleared) in
      let at : HasVerdict node.standing s.heard Cleared =
      subst (λ x. HasVerdict x s.heard Cleared) (sym st.standing) h.is in
      let steady = st.steady timed in
      let joined = steady.joined at.joining at.cycle in
      let p = its_amount st.accepted.range.precision in
      let r = its_amount st.accepted.range.cycle in
      let en = ap (λ q. expected_at q node.standing.number) st.plan ∙ expected_is device
      node.standing.number st.accepted in
      let en1 = ap (λ q. expected_at q (node.standing.number + 1)) st.plan ∙ expected_is device
      (node.standing.number + 1) st.accepted in
      record {
        accepted = st.accepted;
        intake = subst (λ i. HasTaken network device i node.taken) (sym h.intake) st.intake;
        site = subst (IsSiteOf network device) (sym h.site) st.site;
        sound = st.sound;
        standing = sym same;
        plan = st.plan;
        heard = silent_now new.heard h.heard;
        changed = st.changed ∙ ap (λ (u : Units). u.0) (sym h.changed);
        corrects = corrects_same new standing node.changed st same
            (ap (λ (u : Units). u.0) h.changed ∙ sym st.changed) h.corrects;
        done = λ c there. cleared_done node cycle c st.done own there;
        begun = through _ _ _ st.begun later;
        small = small_same st h;
        steady = λ t. record {
          number = next_within node.standing.number last_cycle (up_one _ _ joined.0);
          lower =
              cleared_lower node.standing.number (amount network.cycle)
              (expected_by network device) 0 (amount network.precision) (amount network.tt_start) _
              (expected_at node.standing.plan node.standing.number) node.changed _ _
              (st.accepted.rules rules.ScheduleStart 0).ends en en1 joined.1
              (times_three _ _ p) (times_two _ _ r);
          upper = further _ _ _ _ steady.upper later;
          joined = λ j i. absurd (not_the_next node.standing.number node.standing.integrated at.cycle i);
          fair = λ lt ch. silent (IsFair network standing) new.heard ch h.heard;
        };
        collects = subst (λ c. HasCollected c network device node.points node.emitted)
            (sym h.collector) st.collects;
        departs = subst (λ ds. HasDepartures network device ds node.taken) (sym h.departures) st.departs;
        awaits =
            awaits_cleared node.standing.state network s.departures new.departures node.standing.adjustment.0
            node.changed node.done
            (node.done ++ correcting cycle ∷ []) _ _ at.joining h.departures st.awaits;
      }

  -- the switch stands as the device whose correction point has come to this
  pub corrects_stands : (v : Verdict) → StandsAs s network device node → node.last.reading.0 ≤ℤ moment.reading.0
      → (is_timed node.standing.state ≡ true) → cycle ≡ node.standing.number
      → (node.changed <ℤ correction_value network node.standing.number)
      → correction_value network node.standing.number ≤ℤ (moment.reading.0 +ℤ node.standing.adjustment.0)
      → Corrects s moment v new → StandsAs new network device
      (called moment acting (after_correction node moment s.heard cycle v))
  corrects_stands (Corrected by) st later timed own lt due h =
      corrected cycle by st later timed lt due h
  corrects_stands SyncClique st later timed own lt due h = sync_clique new moment cycle st later h
  corrects_stands AsyncClique st later timed own lt due h = async_clique new moment cycle st later h
  corrects_stands Cleared st later timed own lt due h = cleared st later timed own h

-- ---- how a switch stands at the beginning

small_within : {u : Units} → IsWithin 0 (2 ^ 40) u → IsSmall u.0
small_within h = let a = h.least in let b = h.most in (omega (arith, ints, a, b), omega (arith, ints, a, b))

start_small : (o : Option Units) → IfSome o (IsWithin 0 (2 ^ 40)) → IsSmall (adjustment_at_start o).0
start_small None h = (omega (arith, ints), omega (arith, ints))
start_small (Some u) h = small_within h

start_least : (o : Option Units) → IfSome o (IsWithin 0 (2 ^ 40)) → pos 0 ≤ℤ (adjustment_at_start o).0
start_least None h = omega (arith, ints)
start_least (Some u) h = h.least

no_joiner : (o : Option Units) → state_at_start o ≡ Joining → ⊥
no_joiner None e = cc
no_joiner (Some u) e = cc

from_nothing : (x : ℤ) → x ≤ℤ (pos 0 +ℤ x)
from_nothing x = omega (arith, ints)

lower_first : {r e k p : ℕ} (x start three two : ℤ) → HasRoom r e k p → x ≡ (pos (1 * r) +ℤ pos e) → pos 0 ≤ℤ start
    → three ≡ pos (3 * p) → two ≡ pos (2 * r) → (x +ℤ three) ≤ℤ (start +ℤ two)
lower_first x start three two h a b c d =
    let f = h.expected in let g = h.correction in
    omega (arith, ints, a, b, c, d, f, g)

few : (l : ℕ) → 1 ≤ l + 2
few l = omega arith

pub begun_stands : (s : Switch) {network : Network} {device : DeviceId} → IsAccepted network
    → IsSiteOf network device s.site → HasTaken network device s.intake [] → IsBegun network device s.departures
    → s.sync ≡ begun s.site.plan (start_of network device) → IfSome (start_of network device) (IsWithin 0 (2 ^ 40))
    → s.heard ≡ silence → s.collector ≡ fresh s.site.precision.0 s.site.calc.0 → s.changed ≡ s.sync.adjustment
    → s.corrects_at ≡ option_and_then (λ cycle. correction_at s.site cycle s.sync.adjustment.0 s.changed.0)
    (next_point s.sync) → StandsAs s network device (begun_node network device)
begun_stands s {network} {device} accepted site intake rows sync start heard collector changed corrects =
    let standing : begun (plan_of network device) (start_of network device) ≡ s.sync =
    sym (sync ∙ ap (λ p. begun p (start_of network device)) site.plan) in
    let adjustment : s.sync.adjustment.0 ≡ (adjustment_at_start (start_of network device)).0 = ap (λ (x : Standing). x.adjustment.0) (sym standing) in
    let changed_is : s.changed.0 ≡ (adjustment_at_start (start_of network device)).0 = ap (λ (u : Units). u.0) changed ∙ adjustment in
    let p = its_amount accepted.range.precision in
    let r = its_amount accepted.range.cycle in
    record {
      accepted = accepted;
      intake = intake;
      site = site;
      sound = refl;
      standing = standing;
      plan = refl;
      heard = silent_now s.heard heard;
      changed = sym changed_is;
      corrects = grind (arith, and_then_same, correction_at, reading_of, correction_value, next_point, amount, option_and_then, standing, plan_of, changed_is);
      done = λ cycle there. nothing_done cycle 1 there;
      begun = never_less (pos 0);
      small = start_small (start_of network device) start;
      steady = λ timed. record {
        number = few last_cycle;
        lower =
            lower_first _ _ _ _
            (room device accepted) (expected_is device 1 accepted) (start_least (start_of network device) start)
            (times_three _ _ p)
            (times_two _ _ r);
        upper = from_nothing _;
        joined = λ j i. absurd (no_joiner (start_of network device) j);
        fair = λ lt ch. silent (IsFair network (begun (plan_of network device) (start_of network device))) s.heard ch heard;
      };
      collects = grind (arith, fresh_stands);
      departs = departs_fresh accepted.range rows;
      awaits = awaits_fresh (state_at_start (start_of network device)) _ _ _ rows;
    }

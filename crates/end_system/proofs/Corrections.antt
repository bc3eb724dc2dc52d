-- The correction points of an end system: the frames that it heard in time, and its agenda then.
use Rattle.std.proofs.{Common.{◌*ℤ◌, ◌⊎◌, nat_le}}
use Rattle.std.proofs.{lemmas.{List.Elements.{Contains-append_cases, Contains-append_right}, Option.same_Some}}
use Rattle.end_system.proofs.Words
use Words.{if◌then◌else◌, ◌*◌, ◌++◌, ◌+ℤ◌, ◌+◌, ◌-ℤ◌, ◌<ℤ◌, ◌<◌, ◌^◌, ◌∙◌, ◌∷◌, ◌≡◌, ◌≤ℤ◌, ◌≤◌, A, Agenda, Appointment}
use Words.{AreHeardSo, B, Bool, ClockTask, Contains, Contains-append_left, DeviceId, Dispatch, EndSystem, HasNumber}
use Words.{HasVerdict, IfSome, IsAgenda, IsAtSlot, IsCorrection, IsDispatch, IsOwnOf, IsSending, IsSmall, IsSomeAnd}
use Words.{List, MayCall, Moment, Network, Node, None, Option, Own, OwnRows, RowId, Some, Standing, StandsAsEnd}
use Words.{Summarizes, Summary, SyncPlan, Synchronised, Units, [], amount, ap, arith, called, correcting, dispatching}
use Words.{end_plan, expected_offset, false, from_zero, inl, inr, ints, mul-le-mul_left, mul-le-mul_right, neg_ℤ}
use Words.{next_point, option_and_then, pos, refl, sending, subst, suc, sym, true, value_of, zero, ℕ, ℤ}
use Rattle.end_system.specs.{Agendas.{IsAgendaAfter, IsEmpty, IsInNextCycle}, Deeds.{IsNextCorrection, IsNextSending}}
use Rattle.end_system.specs.{Standing.IsHeardSo}
use Rattle.run_law.{proofs.control.Points.point_is}
use Rattle.run_law.{specs.{control.Corrections.correction_value, machines.{Answers.after_correction, Nodes.acting}}}
use Rattle.sync_state.proofs.VerdictLemmas.{no_longer, point_up_to}
use Rattle.sync_state.specs.{Calls.{adjustment_by, after, reached_point}, Plan.expected_at}
use Rattle.sync_state.specs.{Standing.{IsAtIntegration, point_in}}
use Rattle.sync_state.specs.{Verdicts.{IfCorrected, IsNear, deviation_by, deviation_on}}
use Rattle.sync_state.specs.{correction.Correction.correction_of, membership.{Members.count_of, Summary.silence}}
use Rattle.sync_state.specs.declared.{membership.frame.HeardFrame.HeardFrame}
use Rattle.sync_state.specs.declared.{state.State.{State, TheVariants.{Integrating, Joining, Off}}}
use Rattle.sync_state.specs.declared.answers.Verdict.{TheVariants.{AsyncClique, Cleared, Corrected, SyncClique}}
use Rattle.sync_state.specs.declared.answers.Verdict.{Verdict}
use Rattle.tte_units.{specs.Mean.IsMean}
use Rattle.tte_units.proofs.{Means.mean_of-floor}
use Rattle.tte_units.proofs.{general_lemmas.{Integers.amount_least, Naturals.{below_next, less_than_next}}}

-- ---- the agenda after each deed

only_there : {X : Type 0} (x y : X) → Contains (y ∷ []) x → x ≡ y
only_there x y (zero, lt, at) = sym at
only_there x y (suc k, lt, at) = absurd (omega arith)

module _ (done : List ClockTask) (deed : ClockTask) where
  -- what is done with one deed more is it, or was done
  pub was_done : (other : ClockTask) → Contains (done ++ deed ∷ []) other → Contains done other ⊎ (other ≡ deed)
  was_done other h = elim (Contains-append_cases done (deed ∷ []) other h) [
    | inl before ↦ inl before
    | inr now ↦ inr (only_there other deed now)
  ]

  pub done_now : Contains (done ++ deed ∷ []) deed
  done_now = Contains-append_right done (deed ∷ []) deed (zero, omega arith, refl)

  pub done_still : (other : ClockTask) → Contains done other → Contains (done ++ deed ∷ []) other
  done_still other h = Contains-append_left done (deed ∷ []) other h

pub no_correcting : (m n : ℕ) → correcting m ≡ sending n → ⊥
no_correcting m n e = cc

pub no_correcting_row : (m : ℕ) (row : RowId) (n : ℕ) → correcting m ≡ dispatching row n → ⊥
no_correcting_row m row n e = cc

pub no_dispatching : (row : RowId) (m n : ℕ) → dispatching row m ≡ sending n → ⊥
no_dispatching row m n e = cc

pub no_sending_row : (row : RowId) (m n : ℕ) → sending n ≡ dispatching row m → ⊥
no_sending_row row m n e = cc

same_sending : (m n : ℕ) → sending m ≡ sending n → m ≡ n
same_sending m n e = cc

-- the next correction stays, whatever else is done
pub correction_stays : (network : Network) (s : Standing) (changed : ℤ) (done : List ClockTask) (deed : ClockTask) (o : Option Appointment)
    → ((n : ℕ) → correcting n ≡ deed → ⊥) → IsCorrection network s changed done o → IsCorrection network s changed (done ++ deed ∷ []) o
correction_stays network s changed done deed None other is = is
correction_stays network s changed done deed (Some next) other is = (
  record {
    point = is.0.point;
    ahead = is.0.ahead;
    done_before = λ n there. elim (was_done done deed (correcting n) there)
        [ inl before ↦ is.0.done_before n before | inr now ↦ absurd (other n now) ];
  },
  is.1,
)

module _ (network : Network) (device : DeviceId) (s : Standing) (changed : ℤ) (done : List ClockTask)
    (deed : ClockTask) where
  pub sending_stays : (o : Option Appointment) → ((n : ℕ) → sending n ≡ deed → ⊥)
      → IsSending network device s changed done o → IsSending network device s changed (done ++ deed ∷ []) o
  sending_stays None other is = is
  sending_stays (Some next) other is = (
    is.0,
    is.1,
    record {
      begun = is.2.begun;
      ahead = is.2.ahead;
      done_before = λ n there. elim (was_done done deed (sending n)
          there) [ inl before ↦ is.2.done_before n before | inr now ↦ absurd (other n now) ];
      rest = λ n some ahead lt. done_still done deed (sending n) (is.2.rest n some ahead lt);
    },
    is.3,
  )

  pub dispatch_stays : (o : Option Dispatch) → ((row : RowId) (n : ℕ) → dispatching row n ≡ deed → ⊥)
      → IsDispatch network device s changed done o → IsDispatch network device s changed (done ++ deed ∷ []) o
  dispatch_stays None other is = is
  dispatch_stays (Some next) other is = (
    is.0,
    record {
      leaves = is.1.leaves;
      ahead = is.1.ahead;
      done_before =
          λ row n there. elim (was_done done deed (dispatching row n)
          there) [ inl before ↦ is.1.done_before row n before | inr now ↦ absurd (other row n now) ];
      rest = λ row n leaves ahead sooner. done_still done deed (dispatching row n)
          (is.1.rest row n leaves ahead sooner);
    },
    is.2,
  )

-- ---- a sending

cycle_whole : {network : Network} {device : DeviceId} {own : Own} → IsOwnOf network device own
    → own.plan.cycle_length.0 ≡ pos (amount network.cycle)
cycle_whole {network} is =
    ap (λ (p : _). p.cycle_length.0) is.plan ∙ from_zero _ network.cycle.0 is.in_range.cycle.least

before_or_now : (c n m : ℕ) (x : ℤ) → x <ℤ pos (n * c) → x <ℤ pos ((n + 1) * c)
before_or_now c n m x h = let more : n * c ≤ (n + 1) * c = mul-le-mul_right c (omega arith) in omega (arith, ints, more)

next_at : (c n : ℕ) (at new r a : ℤ) → at ≡ (pos (n * c) -ℤ a) → new ≡ (at +ℤ r) → r ≡ pos c → new ≡ (pos ((n + 1) * c) -ℤ a)
next_at c n at new r a e f g = omega (arith, ints)

next_at_same : (c n m : ℕ) (at new r a : ℤ) → m ≡ n + 1 → at ≡ (pos (n * c) -ℤ a) → new ≡ (at +ℤ r) → r ≡ pos c → new ≡ (pos (m * c) -ℤ a)
next_at_same c n m at new r a s e f g = next_at c n at new r a e f g ∙ ap (λ k. pos (k * c) -ℤ a) (sym s)

some_more : (n : ℕ) → 1 ≤ n → 1 ≤ n + 1
some_more n h = omega arith

-- the sending that comes after one that was done
pub sending_next : {network : Network} {device : DeviceId} {own : Own} (s : Standing) (changed : ℤ)
    (done : List ClockTask) (old new : Appointment) → IsOwnOf network device own
    → IsSending network device s changed done (Some old) → new.cycle ≡ old.cycle + 1
    → new.at.0 ≡ (old.at.0 +ℤ own.plan.cycle_length.0) → IsSending network device s changed
    (done ++ sending old.cycle ∷ []) (Some new)
sending_next {network} {own} s changed done old new own_is is next at =
    let later : IsNextSending network changed (done ++ sending old.cycle ∷ []) (old.cycle + 1) = record {
      begun = some_more old.cycle is.2.begun;
      ahead = before_or_now (amount network.cycle) old.cycle 0 changed is.2.ahead;
      done_before = λ n there. elim (was_done done (sending old.cycle) (sending n) there) [
        | inl before ↦ less_than_next n old.cycle (is.2.done_before n before)
        | inr now ↦ omega (arith, same_sending n old.cycle now)
      ];
      rest = λ n some ahead lt. elim (below_next n old.cycle lt) [
        | inl before ↦ done_still done (sending old.cycle) (sending n) (is.2.rest n some ahead before)
        | inr now ↦ subst (λ (k : ℕ). Contains (done ++ sending old.cycle ∷ []) (sending k)) (sym now) (done_now done (sending old.cycle))
      ];
    } in (
      is.0,
      is.1,
      subst (IsNextSending network changed (done ++ sending old.cycle ∷ [])) (sym next) later,
      next_at_same (amount network.cycle) old.cycle
          new.cycle old.at.0 new.at.0 own.plan.cycle_length.0 s.adjustment.0 next is.3 at (cycle_whole own_is),
    )

small_cycle : (c n : ℕ) (at r a : ℤ) → 2 ^ 32 ≤ c → at ≡ (pos (n * c) -ℤ a) → at ≤ℤ r → r ≤ℤ pos (2 ^ 60 + 2 ^ 51) → a <ℤ pos (2 ^ 61) → n < 2 ^ 31
small_cycle c n at r a long e here low small = let more : n * 2 ^ 32 ≤ n * c = mul-le-mul_left n long in omega (arith, ints, more)

module _ (network : Network) (device : DeviceId) (own : Own) where
  pub long_cycle : IsOwnOf network device own → 2 ^ 32 ≤ amount network.cycle
  long_cycle is = amount_least (2 ^ 32) network.cycle.0 is.in_range.cycle.least

  -- a sending that is due is of a cycle in the range of numbers
  pub sending_in_range : (s : Standing) (changed r : ℤ) (done : List ClockTask) (next : Appointment)
      → IsOwnOf network device own → IsSmall s.adjustment.0 → IsSending network device s changed done (Some next)
      → next.at.0 ≤ℤ r → r ≤ℤ pos (2 ^ 60 + 2 ^ 51) → next.cycle < 2 ^ 31
  sending_in_range s changed r done next own_is small is here low =
      small_cycle (amount network.cycle) next.cycle next.at.0 r s.adjustment.0 (long_cycle own_is) is.3 here low small.1

small_value : (c d n b : ℕ) (at r a : ℤ) → d ≡ c → at ≡ (pos (n * c + b) -ℤ a) → at ≤ℤ r → r ≤ℤ pos (2 ^ 60 + 2 ^ 51) → a <ℤ pos (2 ^ 61) → n * d ≤ 2 ^ 62
small_value c d n b at r a same e here low small = let same_value : n * d ≡ n * c = ap (λ (k : ℕ). n * k) same in omega (arith, ints, same_value)

-- a dispatch that is due is of a cycle in the range of numbers
pub dispatch_in_range : {network : Network} {device : DeviceId} {own : Own} (s : Standing) (changed r : ℤ)
    (done : List ClockTask) (next : Dispatch) → IsOwnOf network device own → IsSmall s.adjustment.0
    → IsDispatch network device s changed done (Some next) → next.at.0 ≤ℤ r → r ≤ℤ pos (2 ^ 60 + 2 ^ 51)
    → next.cycle * amount own.plan.cycle_length ≤ 2 ^ 62
dispatch_in_range {network} {own} s changed r done next own_is small is here low =
    small_value (amount network.cycle) (amount own.plan.cycle_length) next.cycle _ next.at.0 r s.adjustment.0
    (ap (λ (p : SyncPlan). amount p.cycle_length) own_is.plan) is.2 here low small.1

pub low_at : (at r : ℤ) → at ≤ℤ r → r ≤ℤ pos (2 ^ 60 + 2 ^ 51) → at ≤ℤ pos (2 ^ 62)
low_at at r h low = omega (arith, ints)

-- ---- as time goes on

later_still : (v x y a p : ℤ) → v ≤ℤ ((x +ℤ a) +ℤ p) → x ≤ℤ y → v ≤ℤ ((y +ℤ a) +ℤ p)
later_still v x y a p h le = omega (arith, ints)

pub number_stays : (network : Network) (s : Standing) (heard : Summary) (x y : ℤ) (o : Option ℕ) → x ≤ℤ y → IfSome o (HasNumber network s heard x)
    → IfSome o (HasNumber network s heard y)
number_stays network s heard x y None le h = h
number_stays network s heard x y (Some n) le h =
    record {
      bound = h.bound;
      at_end = λ e. let end = h.at_end e in record {
        none_a = end.none_a;
        none_b = end.none_b;
        passed = later_still _ x y s.adjustment.0
            network.precision.0 end.passed le;
      };
    }

pub not_fallen : (x y : ℤ) → pos 0 ≤ℤ x → x ≤ℤ y → pos 0 ≤ℤ y
not_fallen x y h le = omega (arith, ints)

pub slot_there : (rows : OwnRows) (o : Option Dispatch) (next : Dispatch) → o ≡ Some next → IfSome o (IsAtSlot rows) → IsAtSlot rows next
slot_there rows o next e h = subst (λ (x : Option Dispatch). IfSome x (IsAtSlot rows)) e h

pub small_same : (a b : Units) → a ≡ b → IsSmall a.0 → IsSmall b.0
small_same a b e h = subst (λ (u : Units). IsSmall u.0) e h

-- ---- frames that were heard in time, and what they correct a clock by

at_most : (high n : ℕ) (z : ℤ) → z ≡ pos n → z ≤ℤ pos high → n ≤ high
at_most high n z e h = omega (arith, ints)

-- a frame of a cycle is expected at this value
pub expected_is : {network : Network} {device : DeviceId} {own : Own} (plan : SyncPlan) (n : ℕ)
    → IsOwnOf network device own → plan ≡ end_plan network
    → expected_at plan n ≡ pos (n * amount network.cycle + expected_offset network)
expected_is {network} plan n is e =
    ap (λ p. expected_at p n) e ∙ ap (λ (z : ℤ). (pos n *ℤ z)
    +ℤ pos (expected_offset network)) (from_zero _ network.cycle.0 is.in_range.cycle.least)

-- the numbers of the network that frames are judged by
pub record HasNumbers (cycle offset precision correction : ℕ) : Type 0 where
  pub cycle_most : cycle ≤ 2 ^ 40
  pub offset_most : offset ≤ 2 ^ 43
  pub precision_most : precision ≤ 2 ^ 40
  pub correction_most : correction ≤ 2 ^ 40
  pub margin : offset + 3 * precision < cycle + correction

margin_of : (c e p d : ℕ) (z w x y : ℤ) → z ≡ pos e → w ≡ pos p → x ≡ pos c → y ≡ pos d → (z +ℤ (pos 3 *ℤ w)) <ℤ (x +ℤ y) → e + 3 * p < c + d
margin_of c e p d z w x y ez ew ex ey h = omega (arith, ints)

pub has_numbers : {network : Network} {device : DeviceId} {own : Own} → IsOwnOf network device own
    → HasNumbers (amount network.cycle) (expected_offset network) (amount network.precision)
    (amount network.correction)
has_numbers {network} {own} is =
    let cycle = from_zero _ network.cycle.0 is.in_range.cycle.least in
    let precision = from_zero _ network.precision.0 is.in_range.precision.least in
    let correction = from_zero _ network.correction.0 is.in_range.correction.least in
    let offset : own.plan.expected.0 ≡ pos (expected_offset network) = ap (λ (p : SyncPlan). p.expected.0) is.plan in
    let length : own.plan.cycle_length.0 ≡ network.cycle.0 = ap (λ (p : SyncPlan). p.cycle_length.0) is.plan in
    record {
      cycle_most = at_most _ _ network.cycle.0 cycle is.in_range.cycle.most;
      offset_most = at_most _ _ own.plan.expected.0 offset is.range.expected.most;
      precision_most = at_most _ _ network.precision.0 precision is.in_range.precision.most;
      correction_most = at_most _ _ network.correction.0 correction is.in_range.correction.most;
      margin =
          margin_of (amount network.cycle) (expected_offset network) (amount network.precision) (amount network.correction) own.plan.expected.0 own.precision.0
          own.plan.cycle_length.0 own.correction.0 offset (ap (λ (u : Units). u.0) is.precision ∙ precision) (length ∙ cycle)
          (ap (λ (u : Units). u.0) is.correction ∙ correction) is.range.margin;
    }

-- ---- a frame that was heard in time is near

near_by : (n f c e p : ℕ) (en ef q a : ℤ) → n ≤ 2 ^ 20 + 2 ^ 17 + 2 → f ≤ 2 ^ 20 + 2 ^ 17 → c ≤ 2 ^ 40 → e ≤ 2 ^ 43 → p ≤ 2 ^ 40 → en ≡ pos (n * c + e)
    → ef ≡ pos (f * c + e) → (ef -ℤ pos p) ≤ℤ (q +ℤ a) → (q +ℤ a) ≤ℤ (ef +ℤ pos p) → neg_ℤ (pos (2 ^ 40)) ≤ℤ q → q ≤ℤ pos (2 ^ 60 + 2 ^ 51) → IsSmall (en -ℤ q)
    × IsSmall ((en -ℤ q) -ℤ a)
near_by n f c e p en ef q a bn bf bc be bp isn isf from to low high =
    let mn : n * c ≤ n * 2 ^ 40 = mul-le-mul_left n bc in
    let mf : f * c ≤ f * 2 ^ 40 = mul-le-mul_left f bc in
    ((omega (arith, ints, mn), omega (arith, ints, mn)), (omega (arith, ints, mn, mf), omega (arith, ints, mn, mf)))

module _ (network : Network) (device : DeviceId) (own : Own) (s : Standing) where
  pub heard_near : {frame : HeardFrame} → IsOwnOf network device own → s.plan ≡ end_plan network
      → s.number ≤ 2 ^ 20 + 2 ^ 17 + 2 → IsHeardSo network s frame → IsNear s frame
  heard_near {frame} is plan bound h =
      let r = has_numbers is in
      let near = near_by s.number frame.cycle (amount network.cycle) (expected_offset network)
      (amount network.precision) _ _ frame.point.0 s.adjustment.0 bound
      h.cycle r.cycle_most r.offset_most r.precision_most
      (expected_is s.plan s.number is plan) (expected_is s.plan frame.cycle is plan) h.from h.to h.low h.high in
      record { difference = near.0; deviation = near.1 }

  best_near : (o : Option HeardFrame) → IsOwnOf network device own → s.plan ≡ end_plan network
      → s.number ≤ 2 ^ 20 + 2 ^ 17 + 2 → IfSome o (IsHeardSo network s) → IfSome o (IsNear s)
  best_near None is plan bound h = tt
  best_near (Some frame) is plan bound h = heard_near is plan bound h

-- ---- behind the last cycle of frames a clock is not set back by more than the precision

back_by : (n f c e p : ℕ) (en ef q a : ℤ) → f ≤ n → en ≡ pos (n * c + e) → ef ≡ pos (f * c + e) → (q +ℤ a) ≤ℤ (ef +ℤ pos p)
    → pos 0 ≤ℤ (((en -ℤ q) -ℤ a) +ℤ pos p)
back_by n f c e p en ef q a le isn isf to = let more : f * c ≤ n * c = mul-le-mul_right c le in omega (arith, ints, more)

up_to : (f n : ℕ) → f ≤ 2 ^ 20 + 2 ^ 17 → 2 ^ 20 + 2 ^ 17 ≤ n → f ≤ n
up_to f n a b = omega arith

-- the deviation, if there is one, is at least the precision below 0
abbrev pub IsBackBy : ℕ → Option Units → Type 0
IsBackBy p o = IfSome o (λ d. pos 0 ≤ℤ (d.0 +ℤ pos p))

deviation_back : {network : Network} {device : DeviceId} {own : Own} (s : Standing) (o : Option HeardFrame)
    → IsOwnOf network device own → s.plan ≡ end_plan network → 2 ^ 20 + 2 ^ 17 ≤ s.number
    → IfSome o (IsHeardSo network s) → IsBackBy (amount network.precision)
    (option_and_then (λ frame. if nat_le s.plan.threshold (count_of frame.members) then Some (deviation_by s frame)
    else None) o)
deviation_back s None is plan late h = tt
deviation_back {network} s (Some frame) is plan late h =
    elim (nat_le s.plan.threshold (count_of frame.members)) as
    (λ (b : Bool). IsBackBy (amount network.precision) (if b then Some (deviation_by s frame) else None)) [
      | true ↦ back_by s.number frame.cycle (amount network.cycle) (expected_offset network) (amount network.precision) _ _ frame.point.0 s.adjustment.0
          (up_to frame.cycle s.number h.cycle late)
          (expected_is s.plan s.number is plan) (expected_is s.plan frame.cycle is plan) h.to
      | false ↦ tt
    ]

mean_back : (p : ℕ) {a b m : ℤ} → IsMean a b m → pos 0 ≤ℤ (a +ℤ pos p) → pos 0 ≤ℤ (b +ℤ pos p) → pos 0 ≤ℤ (m +ℤ pos p)
mean_back p mean ha hb = omega (arith, ints, mean.most, mean.least)

none_some : (x : Units) → None ≡ Some x → ⊥
none_some x e = cc

correction_back : (p : ℕ) (a b : Option Units) (by : Units) → correction_of a b ≡ Some by → IsBackBy p a → IsBackBy p b → pos 0 ≤ℤ (by.0 +ℤ pos p)
correction_back p None None by e ha hb = absurd (none_some by e)
correction_back p (Some a) None by e ha hb = subst (λ (u : Units). pos 0 ≤ℤ (u.0 +ℤ pos p)) (same_Some _ _ e) ha
correction_back p None (Some b) by e ha hb = subst (λ (u : Units). pos 0 ≤ℤ (u.0 +ℤ pos p)) (same_Some _ _ e) hb
correction_back p (Some a) (Some b) by e ha hb =
    subst (λ (u : Units). pos 0 ≤ℤ (u.0 +ℤ pos p)) (same_Some _ _ e) (mean_back p (mean_of-floor a.0 b.0) ha hb)

corrected_back : {network : Network} {device : DeviceId} {own : Own} {s : Standing} {heard : Summary}
    (by : Units) → IsOwnOf network device own → s.plan ≡ end_plan network → 2 ^ 20 + 2 ^ 17 ≤ s.number
    → AreHeardSo network s heard → HasVerdict s heard (Corrected by)
    → pos 0 ≤ℤ (by.0 +ℤ pos (amount network.precision))
corrected_back {network} {s} {heard} by is plan late h verdict =
    correction_back (amount network.precision) (deviation_on s heard A) (deviation_on s heard B) by verdict.3
    (deviation_back s heard.best_a is plan late h.a) (deviation_back s heard.best_b is plan late h.b)

-- nothing qualifies where nothing was heard
none_qualifies : (s : Standing) (heard : Summary) (by : Units) → heard.best_a ≡ None → heard.best_b ≡ None → HasVerdict s heard (Corrected by) → ⊥
none_qualifies s heard by a b verdict = grind arith

-- ---- a correction point of an end system: what the correction may rely on

-- where a synchronisation stands whose correction point of this cycle has come
pub record IsAtPoint (network : Network) (s : Standing) (heard : Summary) (reading : ℤ) (cycle : ℕ) : Type 0 where
  pub point : next_point s ≡ Some cycle
  pub number : HasNumber network s heard reading cycle
  pub plan : s.plan ≡ end_plan network
  pub near : AreHeardSo network s heard
  pub small : IsSmall s.adjustment.0

some_number : (network : Network) (s : Standing) (heard : Summary) (reading : ℤ) (o : Option ℕ) (cycle : ℕ) → o ≡ Some cycle
    → IfSome o (HasNumber network s heard reading) → HasNumber network s heard reading cycle
some_number network s heard reading o cycle e h = subst (λ (x : Option ℕ). IfSome x (HasNumber network s heard reading)) e h

pub at_point : {network : Network} {device : DeviceId} {node : Node} {e : EndSystem} (next : Appointment)
    → StandsAsEnd e network device node → IsCorrection network node.standing node.changed node.done (Some next)
    → IsAtPoint network e.sync e.heard node.last.reading.0 next.cycle
at_point next stands here = grind (arith, some_number, next_point)

some_point : (o : Option ℕ) (n : ℕ) → o ≡ Some n → n ≤ 2 ^ 20 + 2 ^ 17 + 2 → IsSomeAnd o (λ k. k ≤ 2 ^ 21 + 2 ^ 18)
some_point o n e h = subst (λ (x : Option ℕ). IsSomeAnd x (λ k. k ≤ 2 ^ 21 + 2 ^ 18)) (sym e) (omega arith)

pub number_fits : {network : Network} {s : Standing} {heard : Summary} {reading : ℤ} {cycle : ℕ}
    → IsAtPoint network s heard reading cycle → IsSomeAnd (next_point s) (λ n. n ≤ 2 ^ 21 + 2 ^ 18)
number_fits {s} {cycle} h = some_point (next_point s) cycle h.point h.number.bound

same_bound : (m n : ℕ) → m ≡ n → n ≤ 2 ^ 20 + 2 ^ 17 + 2 → m ≤ 2 ^ 20 + 2 ^ 17 + 2
same_bound m n e h = omega arith

pub number_bound : {network : Network} {s : Standing} {heard : Summary} {reading : ℤ} {cycle : ℕ}
    → IsAtPoint network s heard reading cycle → s.number ≤ 2 ^ 20 + 2 ^ 17 + 2
number_bound {s} {cycle} h = same_bound s.number cycle (point_is s.state s.number cycle h.point) h.number.bound

module _ {network : Network} {device : DeviceId} {own : Own} {s : Standing} {heard : Summary} {reading : ℤ}
    {cycle : ℕ} (is : IsOwnOf network device own) (h : IsAtPoint network s heard reading cycle) where
  pub near_a : IfSome heard.best_a (IsNear s)
  near_a =
      best_near network device own s heard.best_a is h.plan (number_bound h) h.near.a

  pub near_b : IfSome heard.best_b (IsNear s)
  near_b =
      best_near network device own s heard.best_b is h.plan (number_bound h) h.near.b

-- ---- what the new agenda may rely on

small_by : (v : Verdict) (old new : Units) → new ≡ adjustment_by old v → IfCorrected v (λ _. IsSmall new.0) → IsSmall old.0 → IsSmall new.0
small_by (Corrected by) old new e small was = small
small_by other old new e small was = subst (λ (u : Units). IsSmall u.0) (sym e) was

pub still_small : (s new : Standing) (heard : Summary) (v : Verdict) → new ≡ after s (reached_point heard v) → IfCorrected v (λ _. IsSmall new.adjustment.0)
    → IsSmall s.adjustment.0 → IsSmall new.adjustment.0
still_small s new heard v e small was = small_by v s.adjustment new.adjustment (ap (λ (x : Standing). x.adjustment) e) small was

one_more : (n : ℕ) → n ≤ 2 ^ 20 + 2 ^ 17 + 2 → n + 1 ≤ 2 ^ 21 + 2 ^ 18
one_more n h = omega arith

pub number_after : (s new : Standing) (heard : Summary) (v : Verdict) → new ≡ after s (reached_point heard v) → s.number ≤ 2 ^ 20 + 2 ^ 17 + 2
    → IfSome (next_point new) (λ k. k ≤ 2 ^ 21 + 2 ^ 18)
number_after s new heard v e h =
    subst (λ (x : Standing). IfSome (next_point x) (λ k. k ≤ 2 ^ 21 + 2 ^ 18)) (sym e) (point_up_to _ (s.number + 1) (2 ^ 21 + 2 ^ 18) (one_more s.number h))

pub below_range : (n : ℕ) → n ≤ 2 ^ 20 + 2 ^ 17 + 2 → n < 2 ^ 31
below_range n h = omega arith

-- ---- how it stands then

passed_by : (v at r a b p : ℤ) → at ≡ (v -ℤ a) → at ≤ℤ r → pos 0 ≤ℤ (b +ℤ p) → v ≤ℤ ((r +ℤ (a +ℤ b)) +ℤ p)
passed_by v at r a b p e here back = omega (arith, ints)

not_at_end : (n m : ℕ) → n ≡ m → m ≤ 2 ^ 20 + 2 ^ 17 + 2 → (m ≡ 2 ^ 20 + 2 ^ 17 + 2 → ⊥) → n + 1 ≤ 2 ^ 20 + 2 ^ 17 + 2
not_at_end n m e h out = grind arith

last_of_all : (n m : ℕ) → n ≡ m → n + 1 ≡ 2 ^ 20 + 2 ^ 17 + 2 → m ≡ 2 ^ 20 + 2 ^ 17 + 1
last_of_all n m e h = omega arith

late_enough : (n : ℕ) → n + 1 ≡ 2 ^ 20 + 2 ^ 17 + 2 → 2 ^ 20 + 2 ^ 17 ≤ n
late_enough n h = omega arith

pub heard_nothing : (network : Network) (s : Standing) (heard : Summary) → heard ≡ silence → AreHeardSo network s heard
heard_nothing network s heard e = subst (AreHeardSo network s) (sym e) (record { a = tt; b = tt })

joining_yet : (state : State) → state ≡ Joining → state ≡ Synchronised → ⊥
joining_yet state j e = cc

no_point : (n : ℕ) → None ≡ Some n → ⊥
no_point n e = cc

empty_agenda : (network : Network) (device : DeviceId) (s : Standing) (changed : ℤ) (done : List ClockTask)
    {agenda : Agenda} → s.state ≡ Integrating → IsEmpty agenda → IsAgenda network device s changed done agenda
empty_agenda network device s changed done lost empty = grind (arith, no_longer, no_point)

-- the number after a correction
corrected_number : {network : Network} {device : DeviceId} {own : Own} {s : Standing} (new : Standing)
    {heard : Summary} (silent : Summary) (by : Units) {before : ℤ} (reading : ℤ) (next : Appointment)
    → IsOwnOf network device own → IsAtPoint network s heard before next.cycle → HasVerdict s heard (Corrected by)
    → next.at.0 ≡ (correction_value network next.cycle -ℤ s.adjustment.0) → next.at.0 ≤ℤ reading → silent ≡ silence
    → new ≡ after s (reached_point heard (Corrected by)) → HasNumber network new silent reading (s.number + 1)
corrected_number {network} {s} new {heard} silent by reading next is at verdict on due none value =
    let number = point_is s.state s.number next.cycle at.point in
    subst (λ x. HasNumber network x silent reading (s.number + 1)) (sym value)
    (record {
      bound =
          not_at_end s.number next.cycle number at.number.bound (λ e. let end = at.number.at_end e in none_qualifies s heard by end.none_a end.none_b verdict);
      at_end = λ e. record {
        none_a = ap (λ (h : Summary). h.best_a) none;
        none_b = ap (λ (h : Summary). h.best_b) none;
        passed =
            subst (λ n. correction_value network n ≤ℤ ((reading +ℤ (s.adjustment.0 +ℤ by.0)) +ℤ network.precision.0))
            (last_of_all s.number next.cycle number e)
            (passed_by (correction_value network next.cycle) next.at.0 reading s.adjustment.0 by.0 network.precision.0 on due
            (subst (λ p. pos 0 ≤ℤ (by.0 +ℤ p)) (sym (from_zero _ network.precision.0 is.in_range.precision.least))
            (corrected_back by is at.plan (late_enough s.number e) at.near verdict)));
      };
    })

joined_number : (o : Option ℕ) (n : ℕ) → o ≡ Some n → IfSome o (λ k. k ≤ 2 ^ 20 + 2 ^ 17) → n ≤ 2 ^ 20 + 2 ^ 17
joined_number o n e h = subst (λ (x : Option ℕ). IfSome x (λ k. k ≤ 2 ^ 20 + 2 ^ 17)) e h

after_joined : (n : ℕ) → n ≤ 2 ^ 20 + 2 ^ 17 → n + 1 ≤ 2 ^ 20 + 2 ^ 17 + 2
after_joined n h = omega arith

not_the_end : (n : ℕ) → n ≤ 2 ^ 20 + 2 ^ 17 → n + 1 ≡ 2 ^ 20 + 2 ^ 17 + 2 → ⊥
not_the_end n h e = omega arith

-- ---- a joiner that has cleared what it heard

ahead_still : (c d n : ℕ) (x : ℤ) → x <ℤ pos (n * c + d) → x <ℤ pos ((n + 1) * c + d)
ahead_still c d n x h = let more : n * c ≤ (n + 1) * c = mul-le-mul_right c (omega arith) in omega (arith, ints, more)

at_later : (c d n m : ℕ) (at new r a : ℤ) → m ≡ n + 1 → at ≡ (pos (n * c + d) -ℤ a) → new ≡ (at +ℤ r) → r ≡ pos c → new ≡ (pos ((n + 1) * c + d) -ℤ a)
at_later c d n m at new r a s e f g = omega (arith, ints)

same_correcting : (m n : ℕ) → correcting m ≡ correcting n → m < n + 1
same_correcting m n e = let same : m ≡ n = cc in omega arith

point_next : (state : State) (number n : ℕ) → state ≡ Joining → number ≡ n → point_in state (number + 1) ≡ Some (n + 1)
point_next state number n j e = ap (λ x. point_in x (number + 1)) j ∙ ap (λ k. Some (k + 1)) e

abbrev IsNextAt : Network → Standing → ℤ → List ClockTask → ℕ → Units → Type 0
IsNextAt network s changed done cycle at = IsNextCorrection network s changed done cycle × (at.0 ≡ (value_of network (correcting cycle) -ℤ s.adjustment.0))

cleared_correction : {network : Network} {device : DeviceId} {own : Own} (s : Standing) (heard : Summary)
    (changed : ℤ) (done : List ClockTask) (old : Appointment) (o : Option Appointment) → IsOwnOf network device own
    → s.state ≡ Joining → IsCorrection network s changed done (Some old)
    → IsSomeAnd o (IsInNextCycle own.plan.cycle_length old)
    → IsCorrection network (after s (reached_point heard Cleared)) changed (done ++ correcting old.cycle ∷ []) o
cleared_correction s heard changed done old None is joining here next = absurd next
cleared_correction {network} {own} s heard changed done old (Some new) is joining here next =
    subst (λ n. IsNextAt network (after s (reached_point heard Cleared)) changed (done ++ correcting old.cycle ∷ []) n new.at) (sym next.cycle) (
      record {
        point = point_next s.state s.number old.cycle joining (point_is s.state s.number old.cycle here.0.point);
        ahead = ahead_still (amount network.cycle) (amount network.correction) old.cycle changed here.0.ahead;
        done_before =
            λ n there. elim (was_done done (correcting old.cycle) (correcting n) there)
            [ inl before ↦ less_than_next n old.cycle (here.0.done_before n before) | inr now ↦ same_correcting n old.cycle now ];
      },
      at_later (amount network.cycle) (amount network.correction) old.cycle new.cycle old.at.0 new.at.0 own.plan.cycle_length.0 s.adjustment.0 next.cycle here.1
          next.at (cycle_whole is),
    )

point_has_in : (state : State) {s : Standing} {network : Network} {heard : Summary} {reading : ℤ}
    → HasNumber network s heard reading s.number → IfSome (point_in state s.number)
    (HasNumber network s heard reading)
point_has_in Off h = tt
point_has_in Integrating h = tt
point_has_in Joining h = h
point_has_in Synchronised h = h

-- the number where it is not the last of all
point_has : (s : Standing) (network : Network) (heard : Summary) (reading : ℤ) → s.number ≤ 2 ^ 20 + 2 ^ 17 + 2 → (s.number ≡ 2 ^ 20 + 2 ^ 17 + 2 → ⊥)
    → IfSome (next_point s) (HasNumber network s heard reading)
point_has s network heard reading bound out = point_has_in
    s.state {s = s} {network = network} {heard = heard} {reading = reading} (record { bound = bound; at_end = λ e. absurd (out e) })

-- ---- all of it

pub corrects : {network : Network} {device : DeviceId} {node : Node} {e : EndSystem} (v : Verdict) (sync : Standing)
    {heard : Summary} (agenda : Agenda) {moment : Moment} (next : Appointment) → StandsAsEnd e network device node
    → MayCall network device node moment acting → IsCorrection network node.standing node.changed node.done
    (Some next) → next.at.0 ≤ℤ moment.reading.0 → HasVerdict e.sync e.heard v
    → sync ≡ after e.sync (reached_point e.heard v) → IsSmall sync.adjustment.0 → heard ≡ silence
    → Summarizes heard [] → IfSome agenda.dispatch (IsAtSlot e.rows)
    → IsAgendaAfter e.own e.rows sync (moment.reading.0 +ℤ sync.adjustment.0) next v agenda → StandsAsEnd
    (record {
      own = e.own;
      sync = sync;
      heard = heard;
      agenda = agenda;
      rows = e.rows;
      entering = e.entering;
      last =
          moment;
    }) network device (called moment acting (after_correction node moment e.heard next.cycle v))
corrects {network} {device} {node} {e} (Corrected by) sync {heard} agenda {moment} next stands may here due verdict
    value small none nothing slot plan =
    let value_is : after node.standing (reached_point e.heard (Corrected by)) ≡ sync = ap (λ s. after s (reached_point e.heard (Corrected by)))
    stands.standing ∙ sym value in
    let at = subst (λ s. IsAtPoint network s e.heard node.last.reading.0 next.cycle) (sym stands.standing)
    (at_point next stands here) in
    record {
      own = stands.own;
      sound = stands.sound;
      standing = value_is;
      plan = stands.plan;
      last = refl;
      begun = not_fallen node.last.reading.0 moment.reading.0 stands.begun may.later.reading;
      small = subst (λ (s : Standing). IsSmall s.adjustment.0) (sym value_is) small;
      heard = nothing;
      near = heard_nothing network _ heard none;
      joined = stands.joined;
      number =
          corrected_number {s = node.standing} (after node.standing
          (reached_point e.heard (Corrected by))) {heard = e.heard} heard by {before = node.last.reading.0}
          moment.reading.0 next stands.own at (subst (λ s. HasVerdict s e.heard (Corrected by)) (sym stands.standing) verdict) here.1 due none
          refl;
      rows = stands.rows;
      entering = stands.entering;
      slot = slot;
      agenda =
          subst (λ (s : Standing). IsAgenda network device s (moment.reading.0 +ℤ s.adjustment.0) [] agenda) (sym value_is)
          (plan network device stands.own stands.rows);
    }
corrects {network} {device} {node} {e} SyncClique sync {heard} agenda {moment} next stands may here due verdict value
    small none nothing slot plan = record {
      own = stands.own;
      sound = stands.sound;
      standing = ap (λ s. after s (reached_point e.heard SyncClique)) stands.standing ∙ sym value;
      plan = stands.plan;
      last = refl;
      begun = not_fallen node.last.reading.0 moment.reading.0 stands.begun may.later.reading;
      small = stands.small;
      heard = nothing;
      near = heard_nothing network _ heard none;
      joined = stands.joined;
      number = tt;
      rows = stands.rows;
      entering = stands.entering;
      slot = slot;
      agenda = empty_agenda network device _ node.changed node.done refl plan;
    }
corrects {network} {device} {node} {e} AsyncClique sync {heard} agenda {moment} next stands may here due verdict
    value small none nothing slot plan = record {
      own = stands.own;
      sound = stands.sound;
      standing = ap (λ s. after s (reached_point e.heard AsyncClique)) stands.standing ∙ sym value;
      plan = stands.plan;
      last = refl;
      begun = not_fallen node.last.reading.0 moment.reading.0 stands.begun may.later.reading;
      small = stands.small;
      heard = nothing;
      near = heard_nothing network _ heard none;
      joined = stands.joined;
      number = tt;
      rows = stands.rows;
      entering = stands.entering;
      slot = slot;
      agenda = empty_agenda network device _ node.changed node.done refl plan;
    }
corrects {network} {device} {node} {e} Cleared sync {heard} agenda {moment} next stands may here due verdict value
    small none nothing slot plan =
    let at : IsAtIntegration node.standing = subst IsAtIntegration (sym stands.standing) verdict in
    let early = joined_number node.standing.integrated node.standing.number at.cycle stands.joined in
    record {
      own = stands.own;
      sound = stands.sound;
      standing = ap (λ s. after s (reached_point e.heard Cleared)) stands.standing ∙ sym value;
      plan = stands.plan;
      last = refl;
      begun = not_fallen node.last.reading.0 moment.reading.0 stands.begun may.later.reading;
      small = stands.small;
      heard = nothing;
      near = heard_nothing network _ heard none;
      joined = stands.joined;
      number =
          point_has (after node.standing (reached_point e.heard Cleared)) network heard moment.reading.0 (after_joined node.standing.number early)
          (not_the_end node.standing.number early);
      rows = stands.rows;
      entering = stands.entering;
      slot = slot;
      agenda = record {
        sending =
            subst (IsSending network device (after node.standing (reached_point e.heard Cleared)) node.changed (node.done ++ correcting next.cycle ∷ []))
            (sym plan.sending) (λ master is. joining_yet node.standing.state at.joining is);
        correction =
            cleared_correction node.standing e.heard node.changed node.done next agenda.correction stands.own
            at.joining here
            plan.correction;
        dispatch =
            subst (IsDispatch network device (after node.standing (reached_point e.heard Cleared)) node.changed (node.done ++ correcting next.cycle ∷ []))
            (sym plan.dispatch) (λ is. absurd (joining_yet node.standing.state at.joining is));
      };
    }

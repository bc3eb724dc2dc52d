-- What the compression master of the sound channel takes in a block: a point that lies in one cluster's time with that of
-- a frame of the block's cycle is of this cycle too.
use Rattle.run_law.proofs.runs.SameSteps.{never_dropped}
use Rattle.precision_law.proofs.block.Dispatched.{IsCalm, changes_never, joins_never, old_then, synchronised_before, synchronised_then}
use Rattle.precision_law.proofs.words.{Blocks.{AreUpTo, GivesPoint, hears_as_at, judged_up_to, read_at}, Runs.{state_at_hearing, time_of}}
use Rattle.precision_law.proofs.words.Clocks.{adjustment_stays, any_in, int_le-is, natural, natural_of, one_more, room, same_device, sizes_are, steady}
use Rattle.precision_law.proofs.words.Blocks.{before_narrow, earlier_in_block, old_shows}
use Rattle.precision_law.proofs.words.Laws.{BlocksGoSo, HasTimeAt, HaveRoom, Hull, IsInBlock, IsOldAt, IsView, Sizes, View, adjustment_left}
use Rattle.precision_law.proofs.words.Laws.{first_dispatch, has_time, last_dispatch}
use Rattle.precision_law.proofs.words.Plans.{DeviceId, Network, Point, State, Synchronised, amount, int_le-true}
use Rattle.precision_law.proofs.words.Runs.{Cycle, Gate, Happening, IsCaused, IsCollectedOrDropped, IsIn, Judgement, NoteBody, Reason, Why}
use Rattle.precision_law.proofs.words.Runs.{adjustment_at_hearing, before_permanence, dispatch_value, ends_stretch, first_reason, founded_at, frame_by}
use Rattle.precision_law.proofs.words.Runs.{has_joined_at, is_cm, is_joined_by, is_number, is_synchronised, offset_in_cycle, point_fault, ripe_as}
use Rattle.precision_law.proofs.words.Std.{◌%◌, ◌&&◌, ◌*◌, ◌+ℤ◌, ◌+◌, ◌-◌, ◌/◌, ◌<◌, ◌==◌, ◌∙◌, ◌∷◌, ◌≡◌, ◌≤ℤ◌, ◌≤◌, Bool, List, MatchBool-at_true, None}
use Rattle.precision_law.proofs.words.Std.{Option, Some, [], and_parts, ap, arith, cases_lt, div-add-mod, div-mul-add, false, false_from_ne_true}
use Rattle.precision_law.proofs.words.Std.{inl, inr, int_div_euclid, int_le, int_lt, int_rem_euclid_is, ints, le-ltb, ltb-false, mod-mul-add, mul-le-mul_right}
use Rattle.precision_law.proofs.words.Std.{not, not-false, option_and_then, option_map_or, pos, refl, subst, suc, sym, true, ℕ, ℤ}
use Rattle.run_law.specs.declared.judgement.Why.TheVariants as whys
use Rattle.run_law.specs.declared.note.NoteBody.TheVariants as notes

-- ---- values of one cycle

-- a value that a compression master takes for the cycle: at most four precisions behind the cycle's beginning
pub record IsTakenFor (n : Sizes) (cycle : ℕ) (value : ℤ) : Type 0 where
  pub least : pos (cycle * n.cycle) ≤ℤ value
  pub most : value ≤ℤ pos (cycle * n.cycle + 4 * n.precision)

never_less : {n : Sizes} {a b : ℕ} {x y : ℤ} → HaveRoom n → IsTakenFor n a x → IsTakenFor n b y
    → y ≤ℤ (x +ℤ pos (2 * n.precision)) → a < b → ⊥
never_less {n} {a} {b} space of_a of_b near lt =
    let times : suc a * n.cycle ≤ b * n.cycle = mul-le-mul_right n.cycle (omega arith) in
    omega (arith, ints, one_more a n.cycle, of_a.most, of_b.least)

-- two such values, at most two precisions apart, are of one cycle
pub of_one_cycle : {n : Sizes} {a b : ℕ} {x y : ℤ} → HaveRoom n → IsTakenFor n a x → IsTakenFor n b y → x ≤ℤ y
    → y ≤ℤ (x +ℤ pos (2 * n.precision)) → a ≡ b
of_one_cycle space of_a of_b le near = grind (arith, cases_lt, never_less, ints)

-- ---- what a compression master takes

-- a natural number in its cycle
in_cycle : (n : Network) (c r m : ℕ) (z : ℤ) → pos 0 ≤ℤ n.cycle.0 → r < amount n.cycle → m ≡ c * amount n.cycle + r → z ≡ pos m → (offset_in_cycle n z ≡ pos r)
    × (int_div_euclid z n.cycle.0 ≡ pos c)
in_cycle n c r m z begun small is same = grind (arith, amount, natural, int_rem_euclid_is, ints, mod-mul-add, int_div_euclid, div-mul-add)

no_reason : (s a b : Bool) (p q : Reason) → a ≡ false → b ≡ true → first_reason ((s && a, p) ∷ (s && not b, q) ∷ []) ≡ None
no_reason true false true p q x y = refl
no_reason false a b p q x y = refl
no_reason s a b p q x y = absurd cc

is_itself : (c : ℕ) → is_number (pos c) c ≡ true
is_itself c =
    ap (λ b. b && int_le (pos c) (pos c)) (int_le-true (pos c) (pos c) (omega (arith, ints))) ∙ int_le-true (pos c)
    (pos c) (omega (arith, ints))

-- a frame whose dispatch seems to lie so near to the beginning of its cycle has no fault
pub no_point_fault : {v : View} (state : State) (adjustment point : ℤ) {cycle : ℕ} → IsView v
    → IsTakenFor v.sizes cycle (dispatch_value v.scenario.network adjustment point)
    → point_fault v.scenario.network state adjustment point cycle ≡ None
no_point_fault {v} state adjustment point {cycle} is near =
    let n = v.scenario.network in
    let sizes = sizes_are is in
    let value = dispatch_value n adjustment point in
    let product : cycle * amount n.cycle ≡ cycle * v.sizes.cycle = rw (sym sizes.cycle) in
    let m = natural_of value (cycle * amount n.cycle) (omega (arith, ints, near.least)) in
    let r = m.0 - cycle * amount n.cycle in
    let is_r : m.0 ≡ cycle * amount n.cycle + r = omega (arith, ints, near.least, m.1) in
    let small : r ≤ 4 * amount n.precision = omega (arith, ints, near.most, m.1, sizes.precision) in
    let place = in_cycle n cycle r m.0 value (omega (arith, ints, is.lawful.range.cycle.least))
    (omega (arith, sizes.cycle, sizes.precision, room is))
    is_r m.1 in
    no_reason (is_synchronised state) _ _ Gate Cycle (ap (int_lt (pos (4 * amount n.precision))) place.0 ∙ le-ltb (4 * amount n.precision) r small)
    (rw place.1 (is_itself cycle))

-- ---- what has no fault

-- none of two tests gives a reason
no_faults : (a b : Bool) (p q : Reason) → first_reason ((a, p) ∷ (b, q) ∷ []) ≡ None → (a ≡ false) × (b ≡ false)
no_faults false false p q e = (refl, refl)
no_faults a b p q e = absurd cc

product_is : (c l k d : ℕ) → k ≡ l → d ≡ c → c * l ≡ k * d
product_is c l k d a b = rw a (rw b (omega arith))

-- a synchronised compression master finds no fault only where the dispatch lies near the beginning of the frame's cycle
taken_for : {v : View} (adjustment point : ℤ) (cycle m : ℕ) → IsView v
    → dispatch_value v.scenario.network adjustment point ≡ pos m
    → point_fault v.scenario.network Synchronised adjustment point cycle ≡ None → IsTakenFor v.sizes cycle (pos m)
taken_for {v} adjustment point cycle m is value fine =
    let n = v.scenario.network in
    let least = is.lawful.range.cycle.least in
    let whole = natural n.cycle.0 (omega (arith, ints)) in
    let z = dispatch_value n adjustment point in
    let place = int_rem_euclid_is z n.cycle.0 (amount n.cycle) 0 m (omega (arith, ints)) whole (omega (arith, ints)) in
    let number : int_div_euclid z n.cycle.0 ≡ pos (m / amount n.cycle) = rw value (ap (int_div_euclid (pos m)) whole) in
    let none = no_faults (int_lt (pos (4 * amount n.precision)) (offset_in_cycle n z)) (not (is_number (int_div_euclid z n.cycle.0) cycle)) Gate Cycle fine in
    let same = ap (λ x. is_number x cycle) (sym number) ∙ not-false (is_number (int_div_euclid z n.cycle.0) cycle) none.1 in
    let both = and_parts (int_le (pos (m / amount n.cycle)) (pos cycle)) (int_le (pos cycle) (pos (m / amount n.cycle))) same in
    let up = int_le-is (pos (m / amount n.cycle)) (pos cycle) both.0 in
    let down = int_le-is (pos cycle) (pos (m / amount n.cycle)) both.1 in
    let small = ltb-false (4 * amount n.precision) (m % amount n.cycle) (ap (int_lt (pos (4 * amount n.precision))) (sym place) ∙ none.0) in
    let sizes = sizes_are is in
    let parts = div-add-mod m (amount n.cycle) in
    let product = product_is cycle v.sizes.cycle (amount n.cycle) (m / amount n.cycle) (sym sizes.cycle)
    (omega (arith, ints)) in
    record { least = omega (arith, ints); most = omega (arith, ints) }

-- ---- what was taken

-- what is judged had no fault
none_of : (network : Network) (points : List Point) (point : Point) (verdict : Judgement) (o : Option Reason)
    → IsCollectedOrDropped network points point o (ripe_as verdict) → o ≡ None
none_of network points point verdict None so = refl
none_of network points point verdict (Some reason) so = absurd (never_dropped verdict reason so)

-- the local value at which the frame of a point was dispatched, as it seems, by a clock that stands as it stood then
abbrev pub value_of : View → DeviceId → ℕ → ℤ → ℤ
value_of v cm next point = dispatch_value v.scenario.network (adjustment_left v cm next) point

-- the point is that of a frame which was dispatched in time in the block behind the cycle of this hull, and which is
-- permanent at q, long behind the beginning of the block
pub record IsAimed (v : View) (before : Hull) (next : ℕ) (cm : DeviceId) (point : ℤ) (q : ℕ) : Type 0 where
  pub sent : ℕ
  pub low : first_dispatch v.sizes before ≤ℤ pos sent
  pub high : pos sent ≤ℤ last_dispatch v.sizes before
  pub not_early : sent + v.sizes.dmax ≤ q + v.sizes.path
  pub not_late : q ≤ sent + v.sizes.dmax + v.sizes.path
  pub least : point ≤ℤ pos (v.scenario.reading cm q)
  pub most : pos (v.scenario.reading cm q) ≤ℤ (point +ℤ pos (2 * v.sizes.grain))
  pub late : next + 4 * v.sizes.precision ≤ q

-- a clock that was set before the block, and has the common time, takes it for one of the block's cycle
pub taken_by_old : {v : View} {n t : ℕ} (block : IsInBlock v n t) {cm : DeviceId} {point : ℤ} {q : ℕ} → IsView v
    → q ≤ t → HasTimeAt v cm q → IsOldAt v block.before.next cm q
    → IsAimed v block.before.hull block.before.next cm point q
    → IsTakenFor v.sizes (suc n) (value_of v cm block.before.next point)
taken_by_old {v} {n} block {cm} {q} is le has old aimed =
    let before = block.before in
    let space = room is in
    let there : IsInBlock v n q = earlier_in_block _ _ _ _ block (omega (arith, aimed.late)) le in
    let shows = old_shows there is (omega arith) has old in
    let same = sym (ap (λ a. a.0) (adjustment_stays cm before.next q is (omega (arith, aimed.late)) old)) in
    let shows_so = rw same at shows in
    let narrow = before_narrow before in
    let more = one_more n v.sizes.cycle in
    let sizes = sizes_are is in
    record {
      least = omega (arith, ints, aimed.low, aimed.most, aimed.not_early, aimed.not_late, sizes.dmax, sizes.precision);
      most = omega (arith, ints, aimed.high, aimed.least, aimed.not_early, aimed.not_late, sizes.dmax, sizes.precision);
    }

-- ---- what the compression master of the sound channel is when it takes frames

module _ (goes : BlocksGoSo) (v : View) (n t : ℕ) (block : IsInBlock v n t) (cm : DeviceId) (b : ℕ) (is : IsView v) (calm : IsCalm v n t block cm b) where
  -- it is synchronised when it hears a frame
  pub hearing_state : (q : ℕ) (hs : List Happening) → q ≤ b → AreUpTo v q hs → state_at_hearing v.scenario hs cm q ≡ Synchronised
  hearing_state q hs le j =
      let none = false_from_ne_true (has_joined_at hs cm q) (λ hit.
      let found = any_in (λ h. time_of h == q && is_joined_by cm h.note.body) hs hit in
      let both = and_parts (time_of found.0 == q) (is_joined_by cm found.0.note.body) found.2 in
      joins_never goes v n t block cm b found.0 is calm (j.there found.0 found.1) (omega (arith, j.to found.0 found.1))
      both.1) in
      rw none (synchronised_before goes v n t block cm b q hs is calm j.all le)

  -- with the adjustment that it had when the block began
  pub hearing_adjustment : (q : ℕ) (hs : List Happening) → block.before.next ≤ q → q ≤ b → AreUpTo v q hs
      → (adjustment_at_hearing v.scenario hs cm q).0 ≡ adjustment_left v cm block.before.next
  hearing_adjustment q hs from le j =
      let to : q + 1 ≤ b + 1 = omega arith in
      let old = old_then goes v n t block cm b (q + 1) is calm to in
      let timed = ap has_time (synchronised_then goes v n t block cm b (q + 1) is calm to) in
      (hears_as_at cm block.before.next (q + 1) is j from (omega arith) old timed).adjustment
      ∙ sym (ap (λ a. a.0) (adjustment_stays cm block.before.next (q + 1) is (omega arith) old))

  -- no record ends its stretch
  pub never_ends : (h : Happening) (body : NoteBody) → IsIn h v.records → time_of h ≤ b → h.note.body ≡ body → ends_stretch cm body ≡ true → ⊥
  never_ends h (notes.State other state cause why) i le same e =
      changes_never goes v n t block cm b h state cause why is calm i le
      (same ∙ ap (λ d. notes.State d state cause why) (same_device cm other (own why e)))
    where
      own : (why : Why) → ends_stretch cm (notes.State other state cause why) ≡ true → (cm.0 == other.0) ≡ true
      own whys.On e = absurd cc
      own why e = e
  never_ends h body i le same e = joins_never goes v n t block cm b h is calm i le (ap (is_joined_by cm) same ∙ e)

  -- a point of the block had no fault
  no_fault_then : is_cm v.scenario.network cm ≡ true → (k : Happening) (o : Point) → IsIn k v.records → block.before.next ≤ time_of k → time_of k ≤ b
      → GivesPoint cm k o → point_fault v.scenario.network Synchronised (adjustment_left v cm block.before.next) o.reading o.cycle ≡ None
  no_fault_then one k o i from to g =
      let network = v.scenario.network in
      let q = time_of k in
      let at = founded_at v.scenario v.records k is.run.founded i in
      let ripens = subst (IsCaused v.scenario at.front k.note.time) g.is at.due.cause in
      let hs = before_permanence at.front cm q g.link g.cause ripens.frame g.point in
      let judge = judged_up_to is at cm g.link g.cause ripens.frame g.point in
      let framed : k.frame ≡ Some ripens.frame = ap (λ x. x.frame) at.due.same ∙ ap (frame_by network at.front) g.is
      ∙ ap (λ x. option_and_then (λ y. y.frame) x) ripens.permanent.there ∙ ripens.permanent.of_frame in
      let cycle = g.of_cycle ∙ ap (λ x. option_map_or (λ f. f.cycle) x 0) framed in
      let fine = none_of _ _ _ g.verdict _ (MatchBool-at_true _ _ one ripens.becomes) in
      cc (cycle, g.reads, hearing_adjustment q hs from to judge, hearing_state q hs to judge, fine)

  -- it takes a frame of the block for one of the block's cycle
  pub value_then : (point : ℤ) (q : ℕ) → q ≤ b → IsAimed v block.before.hull block.before.next cm point q
      → IsTakenFor v.sizes (suc n) (value_of v cm block.before.next point)
  value_then point q le aimed =
      let old = old_then goes v n t block cm b q is calm (omega arith) in
      let timed = ap has_time (synchronised_then goes v n t block cm b q is calm (omega arith)) in
      taken_by_old block is (omega (arith, calm.to)) (record { good = calm.good; timed = timed }) old aimed

  -- so it finds no fault
  pub fine_then : (q : ℕ) (hs : List Happening) (point : ℤ) → AreUpTo v q hs → q ≤ b → IsAimed v block.before.hull block.before.next cm point q
      → point_fault v.scenario.network (state_at_hearing v.scenario hs cm q) (adjustment_at_hearing v.scenario hs cm q).0 point (suc n) ≡ None
  fine_then q hs point up le aimed =
      let stands = hearing_adjustment q hs (omega (arith, aimed.late)) le up in
      no_point_fault (state_at_hearing v.scenario hs cm q) (adjustment_at_hearing v.scenario hs cm q).0 point is
      (rw stands (value_then point q le aimed))

  -- what lies at most two windows before it is of its cycle
  pub of_block_cycle : is_cm v.scenario.network cm ≡ true → (point : ℤ) (q : ℕ) (k : Happening) (o : Point) → q ≤ b
      → IsAimed v block.before.hull block.before.next cm point q → IsIn k v.records → time_of k ≤ b → GivesPoint cm k o → o.reading ≤ℤ point → point ≤ℤ (o.reading +ℤ pos (2 * v.sizes.precision)) → o.cycle ≡ suc n
  of_block_cycle one point q k o le aimed i to g low high =
      let value = value_then point q le aimed in
      elim (cases_lt (time_of k) block.before.next) [
        | inl early ↦
            let r = (read_at is i g).ripe in
            let clock = steady v is cm in
            let last = block.before.next - 1 in
            let slow = clock.slow last (last + 4 * v.sizes.precision) (omega arith) (omega (arith, (room is).cycles)) in
            let rises = clock.never_falls (time_of k) last (omega arith) in
            let more = clock.never_falls (last + 4 * v.sizes.precision) q (omega (arith, aimed.late)) in
            absurd (omega (arith, ints, r.least, aimed.most, room is))
        | inr from ↦
            let m = natural_of (value_of v cm block.before.next o.reading) 0
            (omega (arith, ints, value.least, one_more n v.sizes.cycle, (room is).cycles)) in
            let taken = taken_for (adjustment_left v cm block.before.next) o.reading o.cycle m.0 is m.1 (no_fault_then one k o i from to g) in
            of_one_cycle (room is)
            (subst (IsTakenFor v.sizes o.cycle) (sym m.1) taken) value (omega (arith, ints)) (omega (arith, ints))
      ]

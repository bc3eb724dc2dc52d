-- States, the points of a cycle in them, and the verdicts at correction points.
use Rattle.std.{specs.{Option.unwrap_or, Prelude.{nat_le, option_and_then}}}
use Rattle.std.proofs.{lemmas.{Bool.{le-leb, leb-true}, Int.ints, Option.same_Some}}
use Rattle.std.proofs.Common
use Common.{if◌then◌else◌, ◌+ℤ◌, ◌-ℤ◌, ◌↔◌, ◌∙◌, ◌≡◌, ◌≤◌, Bool, IfSome, IsSome, IsSomeAnd, IsTrue, None, Option, Some}
use Common.{ap, arith, false, leb, max, option_map, refl, sym, true, ℕ, ℤ}
use Rattle.sync_state.specs.{Calls.adjustment_by, Plan.expected_at, Standing.{Standing, point_in}}
use Rattle.sync_state.specs.{correction.{Correction.correction_of, Deviation.IsSmall}}
use Rattle.sync_state.specs.{membership.{BestFrame.Qualifies, Members.count_of, Summary.Summary}}
use Rattle.sync_state.specs.Verdicts
use Verdicts.{HasVerdict, IfCorrected, IsNear, IsOutnumbered, deviation_by, deviation_on, members_of_best}
use Rattle.sync_state.specs.declared.{membership.frame.HeardFrame.HeardFrame}
use Rattle.sync_state.specs.declared.{state.State.{State, TheVariants.{Integrating, Joining, Off, Synchronised}}}
use Rattle.sync_state.specs.declared.answers.Verdict.{TheVariants.{AsyncClique, Cleared, Corrected, SyncClique}}
use Rattle.sync_state.specs.declared.answers.Verdict.{Verdict}
use Rattle.tte_units.{proofs.Means.mean_of-floor}
use Rattle.tte_units.specs.{Mean.{IsMean, mean_of}}
use Rattle.tte_units.specs.{declared.{frames.channel.Channel.TheVariants.{A, B}, units.Units.Units}}

-- ---- states, and the points of a cycle in them

pub no_point : (state : State) (number cycle : ℕ) → state ≡ Integrating → point_in state number ≡ Some cycle → ⊥
no_point state number cycle is next = cc

pub no_longer : Integrating ≡ Synchronised → ⊥
no_longer e = cc

-- a device that hears so looks for the time when something comes
pub before_hearing : (b : Bool) (state : State) → (if b then Joining else state) ≡ Integrating → state ≡ Integrating
before_hearing true state e = absurd cc
before_hearing false state e = e

-- a state that a device has once it is not just turned on
pub up_state : (on : Bool) (state : State) → (if on then Integrating else state) ≡ Synchronised → state ≡ Synchronised
up_state true state e = absurd cc
up_state false state e = e

pub integrating_point : (n k : ℕ) → point_in Integrating n ≡ Some k → ⊥
integrating_point n k e = cc

pub deviates : (s : Standing) (o : Option HeardFrame) → Qualifies s.plan.threshold o → (d : Units)
    × (option_and_then (λ frame. if nat_le s.plan.threshold (count_of frame.members) then Some (deviation_by s frame) else None) o ≡ Some d)
deviates s None q = absurd q
deviates s (Some frame) q =
    (deviation_by s frame, rw (le-leb s.plan.threshold (count_of frame.members) q))

-- and the point is that of the number
pub number_in : (state : State) (n cycle : ℕ) → point_in state n ≡ Some cycle → cycle ≡ n
number_in Off n cycle e = absurd cc
number_in Integrating n cycle e = absurd cc
number_in state n cycle e = cc

pub point_up_to : (state : State) (n b : ℕ) → n ≤ b → IfSome (point_in state n) (λ k. k ≤ b)
point_up_to Off n b h = tt
point_up_to Integrating n b h = tt
point_up_to Joining n b h = h
point_up_to Synchronised n b h = h

-- ---- the verdicts at correction points, and their laws

-- ---- laws of the verdicts

pub one_verdict : (s : Standing) (heard : Summary) (v w : Verdict) → HasVerdict s heard v → HasVerdict s heard w → v ≡ w
one_verdict s heard Cleared Cleared a b = refl
one_verdict s heard Cleared SyncClique a b = absurd (b.0 a)
one_verdict s heard Cleared AsyncClique a b = absurd (b.0 a)
one_verdict s heard Cleared (Corrected by) a b = absurd (b.0 a)
one_verdict s heard SyncClique Cleared a b = absurd (a.0 b)
one_verdict s heard SyncClique SyncClique a b = refl
one_verdict s heard SyncClique AsyncClique a b = absurd (a.1 b.1)
one_verdict s heard SyncClique (Corrected by) a b = absurd (a.1 b.1)
one_verdict s heard AsyncClique Cleared a b = absurd (a.0 b)
one_verdict s heard AsyncClique SyncClique a b = absurd (b.1 a.1)
one_verdict s heard AsyncClique AsyncClique a b = refl
one_verdict s heard AsyncClique (Corrected by) a b = absurd (b.2 a.2)
one_verdict s heard (Corrected by) Cleared a b = absurd (a.0 b)
one_verdict s heard (Corrected by) SyncClique a b = absurd (b.1 a.1)
one_verdict s heard (Corrected by) AsyncClique a b = absurd (a.2 b.2)
one_verdict s heard (Corrected by) (Corrected to) a b = ap Corrected (same_Some by to (sym a.3 ∙ b.3))

-- more by k
abbrev more : ℤ → Units → Units
more k u = record { 0 = u.0 +ℤ k }

same_mean : (a b k m n : ℤ) → IsMean a b m → IsMean (a +ℤ k) (b +ℤ k) n → n ≡ m +ℤ k
same_mean a b k m n before after = omega (arith, ints, before.least, before.most, after.least, after.most)

correction-more : (k : ℤ) (a b : Option Units) (by : Units) → correction_of a b ≡ Some by
    → correction_of (option_map (more k) a) (option_map (more k) b) ≡ Some (more k by)
correction-more k (Some a) (Some b) by same =
    let value =
    same_mean a.0 b.0 k (mean_of a.0 b.0) (mean_of (a.0 +ℤ k) (b.0 +ℤ k)) (mean_of-floor a.0 b.0) (mean_of-floor (a.0 +ℤ k) (b.0 +ℤ k)) in
    rw value (ap (λ u. Some (more k u)) (same_Some _ by same))
correction-more k (Some a) None by same = ap (option_map (more k)) same
correction-more k None (Some b) by same = ap (option_map (more k)) same
correction-more k None None by same = absurd (cc)

back : (e p x y : ℤ) → (e -ℤ p) -ℤ y ≡ ((e -ℤ p) -ℤ x) +ℤ (x -ℤ y)
back e p x y = omega (arith, ints)

-- the deviation from another adjustment
deviation-other : (s : Standing) (other : Units) (best : Option HeardFrame)
    → option_and_then (λ frame. if nat_le s.plan.threshold (count_of frame.members) then Some (deviation_by (record s { adjustment = other }) frame) else None)
    best
    ≡ option_map (more (s.adjustment.0 -ℤ other.0))
    (option_and_then (λ frame. if nat_le s.plan.threshold (count_of frame.members) then Some (deviation_by s frame) else None) best)
deviation-other s other None = refl
deviation-other s other (Some frame) =
    let k = s.adjustment.0 -ℤ other.0 in
    let at : deviation_by (record s { adjustment = other }) frame ≡ more k (deviation_by s frame) =
    rw (back (expected_at s.plan s.number) frame.point.0 s.adjustment.0 other.0) in
    elim (nat_le s.plan.threshold (count_of frame.members)) as
    (λ b. (if b then Some (deviation_by (record s { adjustment = other }) frame) else None) ≡ option_map (more k)
    (if b then Some (deviation_by s frame) else None)) [
      | true ↦ ap Some at
      | false ↦ refl
    ]

sum_is : (x b y : ℤ) → b +ℤ (x -ℤ y) ≡ (x +ℤ b) -ℤ y
sum_is x b y = omega (arith, ints)

pub by_points : (s : Standing) (heard : Summary) (by other : Units) → HasVerdict s heard (Corrected by) → HasVerdict (record s { adjustment = other }) heard
    (Corrected (record { 0 = (s.adjustment.0 +ℤ by.0) -ℤ other.0 }))
by_points s heard by other is =
    let k = s.adjustment.0 -ℤ other.0 in
    let b = deviation-other s other heard.best_b in (
      λ at. is.0 (record { joining = at.joining; cycle = at.cycle }),
      is.1,
      is.2,
      rw (deviation-other s other heard.best_a)
          (rw b
          (correction-more k (deviation_on s heard A) (deviation_on s heard B) by is.3
          ∙ (rw (sum_is s.adjustment.0 by.0 other.0)))),
    )

-- ---- what a correction point comes to

best_within : (best : Option HeardFrame) (n : ℕ) → (unwrap_or (option_map (λ frame. count_of frame.members) best) 0 ≤ n) ↔ IfSome best
    (λ frame. count_of frame.members ≤ n)
best_within None n = (λ _. tt, λ _. omega arith)
best_within (Some frame) n = (λ h. h, λ h. h)

-- the test of the most members against the count of those outside
pub outnumbered : (heard : Summary) (a b most outside : ℕ) → a ≡ members_of_best heard A → b ≡ members_of_best heard B → most ≡ max a b
    → outside ≡ count_of heard.outside → IsTrue (leb most outside) ↔ IsOutnumbered heard
outnumbered heard a b most outside is_a is_b is_most is_outside = (forth, back) where
  forth : IsTrue (leb most outside) → IsOutnumbered heard
  forth test A = (best_within heard.best_a (count_of heard.outside)).0 (omega (arith, leb-true most outside test))
  forth test B = (best_within heard.best_b (count_of heard.outside)).0 (omega (arith, leb-true most outside test))

  back : IsOutnumbered heard → IsTrue (leb most outside)
  back all =
      le-leb most outside
      (omega (
        arith,
        (best_within heard.best_a (count_of heard.outside)).1 (all A),
        (best_within heard.best_b (count_of heard.outside)).1 (all B),
      ))

-- a correction added to the adjustment is small, where the verdict says so
pub small_after : (adjustment later : Units) (verdict : Verdict) → later ≡ adjustment_by adjustment verdict
    → IfCorrected verdict (λ by. IsSmall (adjustment.0 +ℤ by.0)) → IfCorrected verdict (λ _. IsSmall later.0)
small_after adjustment later (Corrected by) same small = rw same small
small_after adjustment later SyncClique same small = tt
small_after adjustment later AsyncClique same small = tt
small_after adjustment later Cleared same small = tt

-- the deviation, where there is one, is small once the adjustment is added to it
abbrev SmallWith : ℤ → Option Units → Type 0
SmallWith adjustment o = IfSome o (λ d. IsSmall (adjustment +ℤ d.0))

back_again : (e p x : ℤ) → IsSmall (e -ℤ p) → IsSmall (x +ℤ ((e -ℤ p) -ℤ x))
back_again e p x small = (omega (arith, ints, small.0), omega (arith, ints, small.1))

mean_small : (x a b m : ℤ) → IsMean a b m → IsSmall (x +ℤ a) → IsSmall (x +ℤ b) → IsSmall (x +ℤ m)
mean_small x a b m mean small_a small_b = (omega (arith, ints, mean.most, small_a.0, small_b.0), omega (arith, ints, mean.least, small_a.1, small_b.1))

deviation_small : (s : Standing) (best : Option HeardFrame) → IfSome best (IsNear s)
    → SmallWith s.adjustment.0 (option_and_then (λ frame. if nat_le s.plan.threshold (count_of frame.members) then Some (deviation_by s frame) else None) best)
deviation_small s None near = tt
deviation_small s (Some frame) near =
    elim (nat_le s.plan.threshold (count_of frame.members)) as (λ b. SmallWith s.adjustment.0
    (if b then Some (deviation_by s frame) else None)) [
      | true ↦ back_again (expected_at s.plan s.number) frame.point.0 s.adjustment.0 near.difference
      | false ↦ tt
    ]

-- what is added is small, where each of both is
correction_small : (adjustment : ℤ) (a b : Option Units) (by : Units) → SmallWith adjustment a → SmallWith adjustment b → correction_of a b ≡ Some by
    → IsSmall (adjustment +ℤ by.0)
correction_small adjustment (Some a) (Some b) by small_a small_b same =
    rw (sym (same_Some _ _ same)) (mean_small adjustment a.0 b.0 (mean_of a.0 b.0) (mean_of-floor a.0 b.0) small_a
    small_b)
correction_small adjustment (Some a) None by small_a small_b same = rw (sym (same_Some _ _ same)) small_a
correction_small adjustment None (Some b) by small_a small_b same = rw (sym (same_Some _ _ same)) small_b
correction_small adjustment None None by small_a small_b same = absurd (cc)

pub corrected_small : (s : Standing) (heard : Summary) (by : Units) → IfSome heard.best_a (IsNear s) → IfSome heard.best_b (IsNear s)
    → correction_of (deviation_on s heard A) (deviation_on s heard B) ≡ Some by → IsSmall (s.adjustment.0 +ℤ by.0)
corrected_small s heard by near_a near_b same =
    correction_small s.adjustment.0 (deviation_on s heard A) (deviation_on s heard B) by (deviation_small s heard.best_a near_a)
    (deviation_small s heard.best_b near_b) same

pub some_there : {A : Type 0} (o : Option A) (P : A → Type 0) → IsSomeAnd o P → IsSome o
some_there None P h = absurd h
some_there (Some x) P h = refl

-- The first time of a kind, in one stretch of time after another.
use Rattle.{lens_flows.specs.judge.Times.{IsFirstTime, NoneWithin, TellsFirstTime}, std.proofs.lemmas.Bool.cases_lt}
use Rattle.std.{proofs.Common.{◌+◌, ◌≡◌, ◌≤◌, arith, inl, inr, subst, true, ℕ}, specs.Prelude.{None, Option, Some, is_some}}

pub none_both : (IsSo : ℕ → Type 0) (after mid before : ℕ) → NoneWithin IsSo after (mid + 1) → NoneWithin IsSo mid before → NoneWithin IsSo after before
none_both IsSo after mid before first second t lt early is =
    elim (cases_lt mid t) [
      | inl more ↦ second t more early is
      | inr less ↦ first t lt (omega (arith, less)) is
    ]

-- the first one behind a time, before which there is none
pub first_behind : (IsSo : ℕ → Type 0) (after : ℕ) {mid until : ℕ} (last : ℕ) {time : ℕ} → after ≤ mid → until ≤ last
    → NoneWithin IsSo after (mid + 1) → IsFirstTime IsSo mid until time → IsFirstTime IsSo after last time
first_behind IsSo after {mid} last {time} le most none first =
    let later = first.later in
    let timely = first.timely in
    record {
      later = omega (arith, later, le);
      timely = omega (arith, timely, most);
      is = first.is;
      none_before = none_both IsSo after mid time none first.none_before;
    }

pub tells_behind : (IsSo : ℕ → Type 0) (after mid until last : ℕ) (r : Option ℕ) → after ≤ mid → until ≤ last → is_some r ≡ true
    → NoneWithin IsSo after (mid + 1) → TellsFirstTime IsSo mid until r → TellsFirstTime IsSo after last r
tells_behind IsSo after mid until last None le most some none told = absurd cc
tells_behind IsSo after mid until last (Some t) le most some none told = first_behind IsSo after last le most none told

pub none_tells : (IsSo : ℕ → Type 0) (after until : ℕ) (r : Option ℕ) → r ≡ None → TellsFirstTime IsSo after until r → NoneWithin IsSo after (until + 1)
none_tells IsSo after until r is told = subst (λ o. TellsFirstTime IsSo after until o) is told

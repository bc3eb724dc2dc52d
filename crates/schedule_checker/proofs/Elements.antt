-- What holds of elements, said by their places: of each, of some, of pairs, and of a network's entries.
use Rattle.std.proofs.Common
use Common.{if◌then◌else◌, ◌*◌, ◌++◌, ◌+◌, ◌<◌, ◌==◌, ◌∙◌, ◌∷◌, ◌≡◌, ◌≢◌, ◌≤◌, ◌⊎◌, Bool, Global, List, None, Option}
use Common.{Some, Vec, [], ap, arith, cond, eqb, false, get_or, inl, inr, length, pos, refl, subst, suc, sym, take}
use Common.{true, zero, ℕ, ⊎_elim}
use Rattle.std.proofs.lemmas.{Bool.{Decides.{Decides-eqb, Decides-like}, cases_lt, eq-eqb, false≢true}}
use Rattle.std.proofs.lemmas.List.{Elements.{Contains-append_left, Contains-append_right}, Sums.sum_by-cons}
use Rattle.std.proofs.lemmas.List.{get_or-take, length-take}
use Rattle.std.proofs.lemmas.Option.{get_or_from_slice_get, none-some, same_Some, slice_get-get_or, slice_get_read}
use Rattle.std.proofs.lemmas.Option.{slice_get_within}
use Rattle.std.specs.{Bool.{Decides, MatchBool}, List.{All, AllWithin, Contains, HoldsAt, count_by, filter, slice_get}}
use Rattle.std.specs.{Option.option_map_or, Prelude.{IfSome, IsSomeAnd, unsigned_abs}}
use Rattle.net_plan.specs.{Bounds.{BetaIsUnique, IsBeta, gamma_of}, Places.IsEndSystem, Ranges.IsInRange}
use Rattle.net_plan.specs.{Rules.ExactlyOne}
use Rattle.net_plan.specs.declared.{ids.{DeviceId.DeviceId, VlId.VlId}, network.Network.Network}
use Rattle.net_plan.specs.declared.{tables.{Link.Link, Row.Row, VirtualLink.VirtualLink}}
use Rattle.schedule_checker.specs.{Groups.{AreGroups, places_in}, Ports.{AreApart, ComesBehind}}
use Rattle.schedule_checker.specs.{Timing.{DelaysFitOn, errors_of}}
use Rattle.schedule_checker.specs.{declared.groups.{Groups.Groups, RowPlaces.RowPlaces}}
use Rattle.schedule_checker.specs.Routes
use Routes.{EntersAgain, EntersAlike, EntersAllAlike, EntersEndSystem, EntersSource, GoesElsewhere, IsEnteredElsewhere}
use Routes.{IsEntering, IsEnteringEnd, IsLeaving, LeavesOnBoth, TargetIsAlike}
use Rattle.schedule_tables.specs.{Delays.{DelaysFit, PrecisionFits}, declared.entry.Entry.Entry}
use Rattle.schedule_tables.specs.Entries
use Entries.{AreEntries, EntriesAreInRange, EntryIsOne, IsEntry, IsEntryInRange, IsOnChannel, source_by, source_of}
use Entries.{target_of}
use Rattle.schedule_tables.specs.Schedule.{ComesInTime, EntersAnew, EntersOn, GoesByBothChannels, GoesOnceByLink}
use Rattle.schedule_tables.specs.Schedule.{HasSource, IsSwitch, LeavesOn, StandsApart, leaves}
use Rattle.tte_units.{proofs.general_lemmas.{Lists.some_at, Options.{closed, opened, some_same}}}
use Rattle.tte_units.specs.{Amount.amount}
use Rattle.tte_units.specs.{declared.{frames.channel.Channel.{Channel, TheVariants.{A, B}}, units.Units.Units}}
use Rattle.schedule_tables.specs.Schedule

-- ---- the rules that speak of beta, at a beta of the network

-- a beta is no negative number
pub beta_is_whole : {n : Network} (beta : Units) → IsBeta n beta.0 → beta.0 ≡ pos (amount beta)
beta_is_whole beta h = h.value ∙ ap pos (sym (ap unsigned_abs h.value))

-- what holds of the one beta holds of each, and back
pub at_beta : (P : ℕ → Type 0) {n : Network} (beta : Units) → BetaIsUnique → IsBeta n beta.0 → P (amount beta)
    → (other : ℕ) → IsBeta n (pos other) → P other
at_beta P {n} beta one h p other g = subst P (ap unsigned_abs (one n beta.0 (pos other) h g)) p

pub of_beta : (P : ℕ → Type 0) {n : Network} (beta : Units) → IsBeta n beta.0
    → ((other : ℕ) → IsBeta n (pos other) → P other) → P (amount beta)
of_beta P {n} beta h all = all (amount beta) (subst (IsBeta n) (beta_is_whole beta h) h)

-- the delays fit on both channels
both : (n : Network) (b : ℕ) (d : DeviceId) → DelaysFitOn n b A d → DelaysFitOn n b B d → (channel : Channel) → DelaysFitOn n b channel d
both n b d on_a on_b A = on_a
both n b d on_a on_b B = on_b

-- the rule of delays, from both channels and back
pub delays_from_channels : {n : Network} (beta : Units) (b place : ℕ) → b ≡ amount beta → BetaIsUnique
    → IsBeta n beta.0 → DelaysFitOn n b A (record { 0 = place }) → DelaysFitOn n b B (record { 0 = place })
    → DelaysFit n place
delays_from_channels {n} beta b place e one h on_a on_b other channel links is member path =
    let fits : ℕ → Type 0 = λ x. (c : Channel) → DelaysFitOn n x c (record { 0 = place }) in
    at_beta fits beta one h (subst fits e (both n b (record { 0 = place }) on_a on_b)) other is channel links member
    path

pub delays_on_channel : {n : Network} (beta : Units) (b place : ℕ) → b ≡ amount beta → IsBeta n beta.0
    → DelaysFit n place → (channel : Channel) → DelaysFitOn n b channel (record { 0 = place })
delays_on_channel {n} beta b place e h all =
    let fits : ℕ → Type 0 = λ x. (c : Channel) → DelaysFitOn n x c (record { 0 = place }) in
    subst fits (sym e) (of_beta fits beta h (λ other is c links member path. all other c links is member path))

-- the rule of the precision, from its errors at this beta and back
pub precision_from_errors : {n : Network} (beta : Units) → BetaIsUnique → IsBeta n beta.0
    → amount n.settled + 2 * errors_of n (amount beta) ≤ amount n.precision → amount n.calc ≤ amount n.precision
    → PrecisionFits n
precision_from_errors {n} beta one h errors calc = record {
  errors = λ other is. omega (arith, at_beta (λ b. amount n.settled + 2 * errors_of n b ≤ amount n.precision) beta one h errors other is);
  calc = calc;
}

pub errors_from_precision : {n : Network} (beta : Units) → IsBeta n beta.0 → PrecisionFits n
    → amount n.settled + 2 * errors_of n (amount beta) ≤ amount n.precision
errors_from_precision {n} beta h fits =
    omega (arith, of_beta (λ b. amount n.settled + 16 * b + 24 * gamma_of n + 80 * amount n.grain ≤ amount n.precision) beta h fits.errors)

-- ---- what holds of each element of a list, of some, or of pairs of them, said by their places

-- ---- what holds of each element of a list, or of some, said by their places

-- each element has the property
abbrev pub Each : {X : Type 0} → (X → Type 0) → List X → Type 0
Each {X} P xs = (k : ℕ) (x : X) → slice_get xs k ≡ Some x → P x

-- each of the first n elements has the property
abbrev pub EachBelow : {X : Type 0} → (X → Type 0) → List X → ℕ → Type 0
EachBelow {X} P xs n = (k : ℕ) (x : X) → k < n → slice_get xs k ≡ Some x → P x

pub each_of_all : {X : Type 0} (P : X → Type 0) (xs : List X) → All P xs → Each P xs
each_of_all P xs all k x at = subst P (get_or_from_slice_get xs k x x at) (all k x (slice_get_within xs k x at))

pub all_of_each : {X : Type 0} (P : X → Type 0) (xs : List X) → Each P xs → All P xs
all_of_each P xs each k d h = each k (get_or xs k d) (slice_get-get_or xs k d h)

-- an element of the first n is one of all, and back
from_take : {X : Type 0} (xs : List X) (n k : ℕ) (x : X) → slice_get (take n xs) k ≡ Some x → (k < n) × (slice_get xs k ≡ Some x)
from_take [] zero k x h = absurd (grind arith)
from_take [] (suc n) k x h = absurd (grind arith)
from_take (y ∷ ys) zero k x h = absurd (grind arith)
from_take (y ∷ ys) (suc n) zero x h = (omega arith, h)
from_take (y ∷ ys) (suc n) (suc k) x h = let r = from_take ys n k x h in (omega (arith, r.0), r.1)

into_take : {X : Type 0} (xs : List X) (n k : ℕ) (x : X) → k < n → slice_get xs k ≡ Some x → slice_get (take n xs) k ≡ Some x
into_take [] n k x below h = absurd (grind arith)
into_take (y ∷ ys) zero k x below h = absurd (omega arith)
into_take (y ∷ ys) (suc n) zero x below h = h
into_take (y ∷ ys) (suc n) (suc k) x below h = into_take ys n k x (omega arith) h

below_of_all : {X : Type 0} (P : X → Type 0) (xs : List X) (n : ℕ) → All P (take n xs) → EachBelow P xs n
below_of_all P xs n all k x below at = each_of_all P (take n xs) all k x (into_take xs n k x below at)

all_of_below : {X : Type 0} (P : X → Type 0) (xs : List X) (n : ℕ) → EachBelow P xs n → All P (take n xs)
all_of_below P xs n each = all_of_each P (take n xs) (λ k x at. let found = from_take xs n k x at in each k x found.0 found.1)

-- some element has the property
abbrev pub Holds : {X : Type 0} → (X → Type 0) → List X → Type 0
Holds {X} P xs = (k : ℕ) × (x : X) × (slice_get xs k ≡ Some x) × P x

-- what `all` answers decides what holds of each
pub all_decides : {X : Type 0} (P : X → Type 0) (r : Bool) (xs : List X)
    → MatchBool r (AllWithin P xs 0 (length xs)) ((k : ℕ) × (k < length xs) × HoldsAt (λ x. ¬ P x) xs k) → Decides r (Each P xs)
all_decides P true xs h = (λ e. each_of_all P xs (λ k d below. h k d (omega arith) below), λ each. refl)
all_decides P false xs h =
    let found = some_at xs h.0 h.1 in
    (λ e. absurd (false≢true e), λ each. absurd (h.2 found.0 (subst P (sym (get_or_from_slice_get xs h.0 found.0 found.0 found.1)) (each h.0 found.0 found.1))))

-- what `any` answers decides what holds of some
pub any_decides : {X : Type 0} (P : X → Type 0) (r : Bool) (xs : List X) → MatchBool r ((k : ℕ) × (k < length xs) × HoldsAt P xs k)
    (AllWithin (λ x. ¬ P x) xs 0 (length xs)) → Decides r (Holds P xs)
any_decides P true xs h =
    let found = some_at xs h.0 h.1 in
    (λ e. (h.0, found.0, found.1, subst P (get_or_from_slice_get xs h.0 found.0 found.0 found.1) (h.2 found.0)), λ some. refl)
any_decides {X} P false xs h = (
  λ e. absurd (false≢true e),
  λ some. absurd (each_of_all (λ x. ¬ P x) xs (λ k d below. h k d (omega arith) below)
      some.0 some.1 some.2 some.3),
)

-- ---- lists whose elements are judged by place

-- what `all` answers, at a test of P
pub decides_all : {X : Type 0} (P Q : X → Type 0) (xs : List X) (r : Bool) → ((x : X) → P x → Q x → ⊥)
    → MatchBool r (AllWithin P xs 0 (length xs)) ((k : ℕ) × (k < length xs) × HoldsAt Q xs k) → Decides r (All P xs)
decides_all P Q [] true apart h = (λ _ k d below. absurd (omega arith), λ _. refl)
decides_all P Q [] false apart h = (λ e. absurd (false≢true e), λ _. absurd (omega (arith, h.1)))
decides_all P Q (y ∷ ys) true apart h = (λ _ k d below. h k d (omega arith) below, λ _. refl)
decides_all P Q (y ∷ ys) false apart h = (λ e. absurd (false≢true e), λ all. absurd (apart (get_or (y ∷ ys) h.0 y) (all h.0 y h.1) (h.2 y)))

-- the element at the place differs from each before it
abbrev pub IsNew : {X : Type 0} → (X → X → Type 0) → List X → ℕ → Type 0
IsNew {X} Differ xs i = (k : ℕ) (earlier x : X) → k < i → slice_get xs k ≡ Some earlier → slice_get xs i ≡ Some x → Differ x earlier

pub new_from_all : {X : Type 0} (Differ : X → X → Type 0) (xs : List X) (i : ℕ) (x : X) → slice_get xs i ≡ Some x → All (Differ x) (take i xs)
    → IsNew Differ xs i
new_from_all Differ xs i x at all k e y below ke ie =
    let within : k < length (take i xs) = omega (arith, length-take i xs, slice_get_within xs k e ke) in
    let same = get_or-take i xs k e below ∙ get_or_from_slice_get xs k e e ke in
    let one = same_Some x y (sym at ∙ ie) in
    rw one at (subst (Differ x) same (all k e within))

pub all_from_new : {X : Type 0} (Differ : X → X → Type 0) (xs : List X) (i : ℕ) (x : X) → slice_get xs i ≡ Some x → IsNew Differ xs i
    → All (Differ x) (take i xs)
all_from_new Differ xs i x at new k d within =
    let below : k < i = omega (arith, length-take i xs) in
    let inside : k < length xs = omega (arith, length-take i xs) in
    subst (Differ x) (sym (get_or-take i xs k d below)) (new k (get_or xs k d) x below (slice_get-get_or xs k d inside) at)

pub decides_new : {X : Type 0} (Differ : X → X → Type 0) (xs : List X) (i : ℕ) (x : X) (r : Bool) → slice_get xs i ≡ Some x
    → Decides r (All (Differ x) (take i xs)) → Decides r (IsNew Differ xs i)
decides_new Differ xs i x r at h = (λ e. new_from_all Differ xs i x at (h.0 e), λ n. h.1 (all_from_new Differ xs i x at n))

-- no element, and one, passes a test
pub none_passes : {X : Type 0} (p : X → Bool) (P : X → Type 0) → ((x : X) → Decides (p x) (P x)) → (xs : List X) → length (filter p xs) ≡ 0 → (i : ℕ)
    → IsSomeAnd (slice_get xs i) P → ⊥
none_passes p P test [] none i h = absurd h
none_passes p P test (x ∷ xs) none zero h =
    let e = (test x).1 h in
    absurd (omega (arith, rw e at none))
none_passes p P test (x ∷ xs) none (suc i) h =
    elim (p x) as (λ b. length (cond b (x ∷ filter p xs) (filter p xs)) ≡ 0 → ⊥) [
      | true ↦ λ e. omega arith
      | false ↦ λ e. none_passes p P test xs e i h
    ] none

pub none_to_pass : {X : Type 0} (p : X → Bool) (P : X → Type 0) → ((x : X) → Decides (p x) (P x)) → (xs : List X) → ((i : ℕ) → IsSomeAnd (slice_get xs i) P → ⊥)
    → length (filter p xs) ≡ 0
none_to_pass p P test [] none = refl
none_to_pass p P test (x ∷ xs) none =
    elim (p x) as (λ b. p x ≡ b → length (cond b (x ∷ filter p xs) (filter p xs)) ≡ 0) [
      | true ↦ λ e. absurd (none 0 ((test x).0 e))
      | false ↦ λ _. none_to_pass p P test xs (λ i. none (suc i))
    ] refl

-- exactly one element has the property, by its place
abbrev pub IsAtOne : {X : Type 0} → (X → Type 0) → List X → Type 0
IsAtOne P xs = ExactlyOne (λ i. IsSomeAnd (slice_get xs i) P)

first_alone : {X : Type 0} (P : X → Type 0) (x : X) (xs : List X) → P x → ((i : ℕ) → IsSomeAnd (slice_get xs i) P → ⊥) → IsAtOne P (x ∷ xs)
first_alone P x xs here none = (0, here, only) where
  only : (i : ℕ) → IsSomeAnd (slice_get (x ∷ xs) i) P → i ≡ 0
  only zero h = refl
  only (suc i) h = absurd (none i h)

only_behind : {X : Type 0} (P : X → Type 0) (x : X) (xs : List X) (j : ℕ) → (P x → ⊥) → ((i : ℕ) → IsSomeAnd (slice_get xs i) P → i ≡ j) → (i : ℕ)
    → IsSomeAnd (slice_get (x ∷ xs) i) P → i ≡ suc j
only_behind P x xs j out only zero h = absurd (out h)
only_behind P x xs j out only (suc i) h = ap suc (only i h)

only_in_rest : {X : Type 0} (P : X → Type 0) (x : X) (xs : List X) (i : ℕ) → (P x → ⊥) → IsSomeAnd (slice_get (x ∷ xs) i) P
    → ((k : ℕ) → IsSomeAnd (slice_get (x ∷ xs) k) P → k ≡ i) → IsAtOne P xs
only_in_rest P x xs zero out h only = absurd (out h)
only_in_rest P x xs (suc i) out h only = (i, h, λ k g. omega (arith, only (suc k) g))

pub one_passes : {X : Type 0} (p : X → Bool) (P : X → Type 0) → ((x : X) → Decides (p x) (P x)) → (xs : List X) → length (filter p xs) ≡ 1 → IsAtOne P xs
one_passes p P test [] one = absurd (omega arith)
one_passes p P test (x ∷ xs) one =
    elim (p x) as (λ b. p x ≡ b → length (cond b (x ∷ filter p xs) (filter p xs)) ≡ 1 → IsAtOne P (x ∷ xs)) [
      | true ↦ λ e n. first_alone P x xs ((test x).0 e) (none_passes p P test xs (omega arith))
      | false ↦ λ e n. let one = one_passes p P test xs n in (suc one.0, one.1, only_behind P x xs one.0 (λ h. false≢true (sym e ∙ (test x).1 h)) one.2)
    ] refl one

pub one_to_pass : {X : Type 0} (p : X → Bool) (P : X → Type 0) → ((x : X) → Decides (p x) (P x)) → (xs : List X) → IsAtOne P xs → length (filter p xs) ≡ 1
one_to_pass p P test [] one = absurd one.1
one_to_pass p P test (x ∷ xs) one =
    elim (p x) as (λ b. p x ≡ b → length (cond b (x ∷ filter p xs) (filter p xs)) ≡ 1) [
      | true ↦ λ e. let rest = none_to_pass p P test xs (λ i h. omega
          (arith, one.2 (suc i) h, one.2 0 ((test x).0 e))) in omega arith
      | false ↦ λ e. one_to_pass p P test xs (only_in_rest P x xs one.0 (λ h. false≢true (sym e ∙ (test x).1 h)) one.1 one.2)
    ] refl

module _ {I : Type 0} (number : I → ℕ) (id : ℕ → I) (back : ((i : I) → id (number i) ≡ i))
    (forth : ((k : ℕ) → number (id k) ≡ k)) where
  -- the same where places are ids
  pub one_id : (P : ℕ → Type 0) → ExactlyOne P → ExactlyOne (λ i. P (number i))
  one_id P one = (id one.0, subst P (sym (forth one.0)) one.1, λ i h. sym (back i) ∙ ap id (one.2 (number i) h))

  pub one_place : (P : ℕ → Type 0) → ExactlyOne (λ i. P (number i)) → ExactlyOne P
  one_place P one = (number one.0, one.1, λ k h. sym (forth k) ∙ ap number (one.2 (id k) (subst P (sym (forth k)) h)))

-- what a count of what passes answers
pub decides_one : {X I : Type 0} (number : I → ℕ) (id : ℕ → I) → ((i : I) → id (number i) ≡ i) → ((k : ℕ) → number (id k) ≡ k)
    → (p : X → Bool) (P : X → Type 0) → ((x : X) → Decides (p x) (P x)) → (xs : List X) (n : ℕ) → n ≡ length (filter p xs)
    → Decides (eqb n 1) (ExactlyOne (λ i. IsSomeAnd (slice_get xs (number i)) P))
decides_one number id back forth p P test xs n e =
    Decides-like (eqb n 1)
    (λ h. one_id number id back forth (λ k. IsSomeAnd (slice_get xs k) P) (one_passes p P test xs (sym e ∙ h)))
    (λ one. e ∙ one_to_pass p P test xs (one_place number id back forth (λ k. IsSomeAnd (slice_get xs k) P) one))
    (Decides-eqb n 1)

-- ---- pairs of elements, and of those that a filter keeps

-- each two elements are so related, the earlier first
abbrev pub AtPairs : {X : Type 0} → (X → X → Type 0) → List X → Type 0
AtPairs {X} R xs = (j k : ℕ) (x y : X) → j < k → slice_get xs j ≡ Some x → slice_get xs k ≡ Some y → R x y

-- the same for the elements that pass a test, below a place
abbrev pub PairsBelow : {X : Type 0} → (X → Bool) → (X → X → Type 0) → List X → ℕ → Type 0
PairsBelow {X} p R xs n = (j k : ℕ) (x y : X) → j < k → k < n → slice_get xs j ≡ Some x → slice_get xs k ≡ Some y → p x ≡ true → p y ≡ true → R x y

-- an element before one, where it passes
abbrev pub Before : {X : Type 0} → (X → Bool) → (X → X → Type 0) → X → X → Type 0
Before p R y x = p x ≡ true → R x y

pub before_from_pairs : {X : Type 0} (p : X → Bool) (R : X → X → Type 0) (xs : List X) (n i : ℕ) (y : X) → PairsBelow p R xs n → i < n → slice_get xs i ≡ Some y
    → p y ≡ true → All (Before p R y) (take i xs)
before_from_pairs p R xs n i y pairs below at passes k d within =
    let front : k < i = omega (arith, length-take i xs) in
    let inside : k < length xs = omega (arith, length-take i xs) in
    let same = get_or-take i xs k d front in
    subst (Before p R y) (sym same) (λ h. pairs k i (get_or xs k d) y front below (slice_get-get_or xs k d inside) at h passes)

pub pairs_more : {X : Type 0} (p : X → Bool) (R : X → X → Type 0) (xs : List X) (n : ℕ) (z : X) → slice_get xs n ≡ Some z → PairsBelow p R xs n
    → (p z ≡ true → All (Before p R z) (take n xs)) → PairsBelow p R xs (n + 1)
pairs_more p R xs n z at pairs here j k x y lt below jx ky px py =
    ⊎_elim
    (λ l. pairs j k x y lt l jx ky px py)
    (λ g. let e : k ≡ n = omega arith in
    let one = same_Some z y (sym at ∙ (rw e at ky)) in
    let front : j < n = omega arith in
    let within : j < length (take n xs) = omega (arith, length-take n xs, slice_get_within xs j x jx) in
    let same = get_or-take n xs j x front ∙ get_or_from_slice_get xs j x x jx in
    rw one at (subst (Before p R z) same ((here (ap p one ∙ py)) j x within) px))
    (cases_lt k n)

-- what a filter keeps is an element that passes, and back
abbrev Passes : {X : Type 0} → (X → Bool) → List X → X → Type 0
Passes p xs y = (k : ℕ) × (slice_get xs k ≡ Some y) × (p y ≡ true)

kept_first : {X : Type 0} (p : X → Bool) (x : X) (xs ys : List X) (i : ℕ) (y : X) → p x ≡ true → ((k : ℕ) → slice_get ys k ≡ Some y → Passes p xs y)
    → slice_get (x ∷ ys) i ≡ Some y → Passes p (x ∷ xs) y
kept_first p x xs ys zero y e rest h = (0, h, ap p (sym (same_Some x y h)) ∙ e)
kept_first p x xs ys (suc i) y e rest h = let r = rest i h in (suc r.0, r.1, r.2)

kept : {X : Type 0} (p : X → Bool) (xs : List X) (i : ℕ) (y : X) → slice_get (filter p xs) i ≡ Some y → Passes p xs y
kept p [] i y h = absurd (none-some y h)
kept p (x ∷ xs) i y h =
    elim (p x) as (λ b. p x ≡ b → slice_get (cond b (x ∷ filter p xs) (filter p xs)) i ≡ Some y → Passes p (x ∷ xs) y) [
      | true ↦ λ e g. kept_first p x xs (filter p xs) i y e (λ k f. kept p xs k y f) g
      | false ↦ λ e g. let r = kept p xs i y g in (suc r.0, r.1, r.2)
    ] refl h

abbrev IsAmong : {X : Type 0} → List X → X → Type 0
IsAmong xs y = (i : ℕ) × (slice_get xs i ≡ Some y)

keeps : {X : Type 0} (p : X → Bool) (xs : List X) (k : ℕ) (y : X) → slice_get xs k ≡ Some y → p y ≡ true → IsAmong (filter p xs) y
keeps p [] k y h e = absurd (none-some y h)
keeps p (x ∷ xs) zero y h e = rw (ap p (same_Some x y h) ∙ e) (0, h)
keeps p (x ∷ xs) (suc k) y h e =
    let rest = keeps p xs k y h e in
    elim (p x) as (λ b. IsAmong (cond b (x ∷ filter p xs) (filter p xs)) y) [
      | true ↦ (suc rest.0, rest.1)
      | false ↦ rest
    ]

-- pairs with one more element in front
pairs_cons : {X : Type 0} (R : X → X → Type 0) (z : X) (xs : List X) → ((k : ℕ) (y : X) → slice_get xs k ≡ Some y → R z y) → AtPairs R xs → AtPairs R (z ∷ xs)
pairs_cons R z xs each pairs zero zero x y lt jx ky = absurd (omega arith)
pairs_cons R z xs each pairs zero (suc k) x y lt jx ky = rw (same_Some z x jx) at (each k y ky)
pairs_cons R z xs each pairs (suc j) zero x y lt jx ky = absurd (omega arith)
pairs_cons R z xs each pairs (suc j) (suc k) x y lt jx ky = pairs j k x y (omega arith) jx ky

-- the elements that pass, and what the filter keeps
abbrev PassingPairs : {X : Type 0} → (X → Bool) → (X → X → Type 0) → List X → Type 0
PassingPairs p R xs = AtPairs (λ x y. p x ≡ true → p y ≡ true → R x y) xs

filtered : {X : Type 0} (p : X → Bool) (R : X → X → Type 0) (xs : List X) → PassingPairs p R xs → AtPairs R (filter p xs)
filtered p R [] pairs = λ j k x y lt jx ky. absurd (none-some x jx)
filtered p R (z ∷ xs) pairs =
    let rest = filtered p R xs (λ j k x y lt jx ky. pairs (suc j) (suc k) x y (omega arith) jx ky) in
    elim (p z) as (λ b. p z ≡ b → AtPairs R (cond b (z ∷ filter p xs) (filter p xs))) [
      | true ↦ λ e. pairs_cons R z (filter p xs) (λ k y h. let r = kept p xs k y h in pairs 0 (suc r.0) z y (omega arith) refl r.1 e r.2) rest
      | false ↦ λ e. rest
    ] refl

rest_of : {X : Type 0} (p : X → Bool) (R : X → X → Type 0) (z : X) (xs : List X) → AtPairs R (filter p (z ∷ xs)) → AtPairs R (filter p xs)
rest_of p R z xs pairs =
    elim (p z) as (λ b. AtPairs R (cond b (z ∷ filter p xs) (filter p xs)) → AtPairs R (filter p xs)) [
      | true ↦ λ h j k x y lt jx ky. h (suc j) (suc k) x y (omega arith) jx ky
      | false ↦ λ h. h
    ] pairs

unfiltered : {X : Type 0} (p : X → Bool) (R : X → X → Type 0) (xs : List X) → AtPairs R (filter p xs) → PassingPairs p R xs
unfiltered p R [] pairs j k x y lt jx ky px py = absurd (none-some x jx)
unfiltered p R (z ∷ xs) pairs zero zero x y lt jx ky px py = absurd (omega arith)
unfiltered p R (z ∷ xs) pairs zero (suc k) x y lt jx ky px py =
    let one = same_Some z x jx in
    let whole = rw (ap p one ∙ px) at pairs in
    let place = keeps p xs k y ky py in
    whole 0 (suc place.0) x y (omega arith) jx place.1
unfiltered p R (z ∷ xs) pairs (suc j) zero x y lt jx ky px py = absurd (omega arith)
unfiltered p R (z ∷ xs) pairs (suc j) (suc k) x y lt jx ky px py =
    unfiltered p R xs (rest_of p R z xs pairs) j k x y (omega arith) jx ky px py

pub filter_pairs : {X : Type 0} (p : X → Bool) (R : X → X → Type 0) (xs : List X) (n : ℕ) → length xs ≤ n → PairsBelow p R xs n → AtPairs R (filter p xs)
filter_pairs p R xs n all pairs = filtered p R xs
    (λ j k x y lt jx ky. pairs j k x y lt (omega (arith, slice_get_within xs k y ky)) jx ky)

pub pairs_from_filter : {X : Type 0} (p : X → Bool) (R : X → X → Type 0) (xs : List X) (n : ℕ) → AtPairs R (filter p xs) → PairsBelow p R xs n
pairs_from_filter p R xs n pairs j k x y lt below jx ky = unfiltered p R xs pairs j k x y lt jx ky

-- ---- what holds at places, among which are those of all elements that matter, said of the list

-- some element has the property, with its place
abbrev pub HoldsBy : {X : Type 0} → (ℕ → X → Type 0) → List X → Type 0
HoldsBy {X} P xs = (k : ℕ) × (x : X) × (slice_get xs k ≡ Some x) × P k x

-- the place stands in the list
place_at : (places : List ℕ) (k : ℕ) → Contains places k → (i : ℕ) × (slice_get places i ≡ Some k)
place_at places k c = (c.0, rw c.2 at (slice_get-get_or places c.0 k c.1))

-- a property of what is there, from each
if_there : {X : Type 0} (P : X → Type 0) (o : Option X) → ((x : X) → o ≡ Some x → P x) → IfSome o P
if_there P None h = tt
if_there P (Some x) h = h x refl

there : {X : Type 0} (P : X → Type 0) (o : Option X) (x : X) → o ≡ Some x → IfSome o P → P x
there P o x e h = rw e at h

-- ---- some

-- where all elements with the property stand at the places, one has it if one at the places has it
pub some_there : {X : Type 0} (P : X → Type 0) (xs : List X) (places : List ℕ) (r : Bool)
    → ((k : ℕ) (x : X) → slice_get xs k ≡ Some x → P x → Contains places k)
    → Decides r (Holds (λ k. IsSomeAnd (slice_get xs k) P) places) → Decides r (Holds P xs)
some_there P xs places r has =
    Decides-like r
    (λ some. let o = opened P (slice_get xs some.1) some.3 in (some.1, o.0, o.1, o.2))
    (λ h. let c = place_at places h.0 (has h.0 h.1 h.2 h.3) in (c.0, h.0, c.1, closed P (slice_get xs h.0) h.1 h.2 h.3))

-- the same at places of a kind
pub some_by : {X : Type 0} (G : ℕ → Type 0) (P : X → Type 0) (xs : List X) (places : List ℕ) (r : Bool)
    → ((k : ℕ) (x : X) → slice_get xs k ≡ Some x → P x → Contains places k)
    → Decides r (Holds (λ k. G k × IsSomeAnd (slice_get xs k) P) places) → Decides r (HoldsBy (λ k x. G k × P x) xs)
some_by G P xs places r has =
    Decides-like r
    (λ some. let o = opened P (slice_get xs some.1) some.3.1 in (some.1, o.0, o.1, (some.3.0, o.2)))
    (λ h. let c = place_at places h.0 (has h.0 h.1 h.2 h.3.1) in (c.0, h.0, c.1, (h.3.0, closed P (slice_get xs h.0) h.1 h.2 h.3.1)))

-- ---- each

-- at one of the places it holds, if it does at each
at_place : (P : ℕ → Type 0) (places : List ℕ) (k : ℕ) → Contains places k → Each P places → P k
at_place P places k has each = let c = place_at places k has in each c.0 k c.1

-- where the property holds of any element that stands at no place, each has it if each at the places has it
pub each_there : {X : Type 0} (P : X → Type 0) (xs : List X) (places : List ℕ) (r : Bool)
    → ((k : ℕ) (x : X) → slice_get xs k ≡ Some x → (Contains places k → P x) → P x)
    → Decides r (Each (λ k. IfSome (slice_get xs k) P) places) → Decides r (Each P xs)
each_there P xs places r has =
    Decides-like r
    (λ each k x at. has k x at (λ within. there P (slice_get xs k)
    x at (at_place (λ i. IfSome (slice_get xs i) P) places k within each)))
    (λ each i k at. if_there P (slice_get xs k) (each k))

pub all_there : {X : Type 0} (P : X → Type 0) (xs : List X) (places : List ℕ) (r : Bool)
    → ((k : ℕ) (x : X) → slice_get xs k ≡ Some x → (Contains places k → P x) → P x)
    → Decides r (Each (λ k. IfSome (slice_get xs k) P) places) → Decides r (All P xs)
all_there P xs places r has each = Decides-like r (all_of_each P xs) (each_of_all P xs) (each_there P xs places r has each)

-- the same of the first n elements
pub all_before : {X : Type 0} (P : X → Type 0) (xs : List X) (places : List ℕ) (n : ℕ) (r : Bool)
    → ((k : ℕ) (x : X) → slice_get xs k ≡ Some x → (Contains places k → P x) → P x)
    → Decides r (Each (λ k. k < n → IfSome (slice_get xs k) P) places) → Decides r (All P (take n xs))
all_before P xs places n r has =
    Decides-like r
    (λ each. all_of_below P xs n (λ k x below at. has k x at
    (λ within. there P (slice_get xs k) x at (at_place (λ i. i < n → IfSome (slice_get xs i) P) places k within each
    below))))
    (λ all i k at below. if_there P (slice_get xs k) (λ x here. below_of_all P xs n all k x below here))

-- ---- what holds of a network's entries, said of rows, of their groups and ports, and of virtual links

-- ---- what holds of entries, said of the rows of a network

-- each entry of the network has the property
abbrev pub EachEntry : Network → (Entry → Type 0) → Type 0
EachEntry network P = (k : ℕ) (entry : Entry) → IsEntry network k entry → P entry

-- each entry before the place has the property
abbrev pub EachEarlier : Network → ℕ → (Entry → Type 0) → Type 0
EachEarlier network place P = (k : ℕ) (entry : Entry) → k < place → IsEntry network k entry → P entry

-- a row's entry stands in the list at the row's place
stands_at : {n : Network} {es : List Entry} → AreEntries n es → EntryIsOne → {k : ℕ} {e : Entry} → IsEntry n k e
    → slice_get es k ≡ Some e
stands_at {n} {es} are one {k} {e} is =
    let found = some_at es k (omega (arith, slice_get_within n.row k e.row is.row, are.count)) in
    rw (one n k found.0 e (are.each k found.0 found.1) is) at found.1

-- each row has an entry in the list
entry_at : (n : Network) (es : List Entry) → AreEntries n es → (k : ℕ) (row : Row) → slice_get n.row k ≡ Some row → (e : Entry) × IsEntry n k e
    × (e.row ≡ row)
entry_at n es are k row at =
    let found = some_at es k (omega (arith, slice_get_within n.row k row at, are.count)) in
    let is = are.each k found.0 found.1 in
    (found.0, is, some_same found.0.row row (slice_get n.row k) is.row at)

module _ (n : Network) (es : List Entry) where
  entries_of_all : (P : Entry → Type 0) → AreEntries n es → EntryIsOne → All P es → EachEntry n P
  entries_of_all P are one all k e is = each_of_all P es all k e (stands_at are one is)

  all_of_entries : (P : Entry → Type 0) → AreEntries n es → EachEntry n P → All P es
  all_of_entries P are each = all_of_each P es (λ k e at. each k e (are.each k e at))

  earlier_of_all : (front : List Entry) (place : ℕ) (P : Entry → Type 0) → AreEntries n es → EntryIsOne
      → front ≡ take place es → All P front → EachEarlier n place P
  earlier_of_all front place P are one cut all k e below is =
      below_of_all P es place (rw cut at all) k e below (stands_at are one is)

  all_of_earlier : (front : List Entry) (place : ℕ) (P : Entry → Type 0) → AreEntries n es
      → front ≡ take place es → EachEarlier n place P → All P front
  all_of_earlier front place P are cut each =
      rw cut (all_of_below P es place (λ k e below at. each k e below (are.each k e at)))

  -- the entry at the place, as it is read from the list
  pub entry_read : (place : ℕ) (e : Entry) → AreEntries n es → place < length n.row → e ≡ get_or es place e
      → IsEntry n place e
  entry_read place e are below is =
      are.each place e (slice_get_read es (length es) place e refl (omega (arith, are.count)) is)

  -- all entries are in range
  pub entry_ranges : AreEntries n es → EntriesAreInRange → IsInRange n → All (IsEntryInRange n) es
  entry_ranges are ranges range = all_of_entries (IsEntryInRange n) are (λ k e is. ranges n k e range is)

-- ---- what holds of a network's entries, said of the rows of its ports

-- ---- rows of one port

abbrev pub IsApartFrom : Network → Entry → Entry → Type 0
IsApartFrom n e earlier = AreApart n earlier e

pub stands_apart : {n : Network} {es : List Entry} (front : List Entry) {place : ℕ} {e : Entry} (r : Bool)
    → AreEntries n es → EntryIsOne → IsEntry n place e → front ≡ take place es
    → Decides r (All (IsApartFrom n e) front) → Decides r (StandsApart n place)
stands_apart {n} {es} front {place} {e} r are one at cut =
    Decides-like r
    (λ all k earlier here below was is. rw (one n place e here at is) at (earlier_of_all n es front place
    (IsApartFrom n e) are one cut all k earlier below was))
    (λ kept. all_of_earlier n es front place (IsApartFrom n e) are cut (λ k earlier below was. kept k earlier e below was at))

-- ---- rows that come in time

abbrev pub ComesBehindThis : Network → Entry → Entry → Type 0
ComesBehindThis n e entering = ComesBehind n entering e

-- a row of a sender
pub in_time_of_sender : {n : Network} {place : ℕ} {e : Entry} (r : Bool) → EntryIsOne → IsEntry n place e
    → source_of e ≡ e.vl.sender → Decides r (amount n.tt_start ≤ amount e.row.offset)
    → Decides r (ComesInTime n place)
in_time_of_sender {n} {place} {e} r one at sender =
    search arith

-- a row of a switch
pub in_time_of_switch : {n : Network} {es : List Entry} {place : ℕ} {e : Entry} (r : Bool) → AreEntries n es
    → EntryIsOne → IsEntry n place e → source_of e ≢ e.vl.sender → Decides r (All (ComesBehindThis n e) es)
    → Decides r (ComesInTime n place)
in_time_of_switch {n} {es} {place} {e} r are one at other =
    Decides-like r
    (λ all. record {
      from_sender = λ here is s. absurd (other (rw (one n place e here at is) s));
      from_switch =
          λ k entering here was is same o.
          (rw (one n place e here at is) at (entries_of_all n es (ComesBehindThis n e) are one all k entering
          was)).behind same;
    })
    (λ kept. all_of_entries n es (ComesBehindThis n e) are
    (λ k entering was. record { behind = λ same meets. kept.from_switch k entering e was at same other meets }))

-- ---- rows of a device

-- two lists whose elements pass two tests alike have as many that pass
same_count : {X Y : Type 0} (p : X → Bool) (q : Y → Bool) (xs : List X) (ys : List Y) → length xs ≡ length ys
    → ((k : ℕ) (x : X) (y : Y) → slice_get xs k ≡ Some x → slice_get ys k ≡ Some y → p x ≡ q y) → count_by p xs ≡ count_by q ys
same_count p q [] [] len same = refl
same_count p q [] (y ∷ ys) len same = absurd (omega arith)
same_count p q (x ∷ xs) [] len same = absurd (omega arith)
same_count {X} {Y} p q (x ∷ xs) (y ∷ ys) len same =
    let here = same 0 x y refl refl in
    let rest = same_count p q xs ys (omega arith) (λ k a b at bt. same (suc k) a b at bt) in
    sum_by-cons (λ a. cond (p a) 1 0) x xs ∙ (rw here ((rw rest
    (sym (sum_by-cons (λ b. cond (q b) 1 0) y ys)))))

-- as many rows as entries leave the device
pub rows_leave : {n : Network} {es : List Entry} (device : DeviceId) → AreEntries n es
    → count_by (λ e. (source_of e).0 == device.0) es ≡ count_by (leaves n device) n.row
rows_leave {n} {es} device are =
    same_count (λ e. (source_of e).0 == device.0) (leaves n device) es n.row are.count (λ k e row at here.
    let is = are.each k e at in
    let same : row ≡ e.row = cc in
    let link = is.link in
    let of : Link → Bool = λ l. (source_by e.row.way l).0 == device.0 in
    rw same (rw link refl))

-- ---- what holds of a network's entries, said of its virtual links

-- ---- a virtual link goes once by a link

pub goes_once : {n : Network} {es : List Entry} {place : ℕ} {e : Entry} (r : Bool) → AreEntries n es → EntryIsOne
    → IsEntry n place e → Decides r (All (GoesElsewhere e) (take place es)) → Decides r (GoesOnceByLink n place)
goes_once {n} {es} {place} {e} r are one at =
    Decides-like r
    (λ all k earlier here below was is.
    let found = entry_at n es are k earlier was in
    let apart : GoesElsewhere e found.0 = earlier_of_all n es (take place es) place (GoesElsewhere e) are one refl all k found.0 below found.1 in
    let same : e.row ≡ here = some_same e.row here (slice_get n.row place) at.row is in
    rw (sym same) (rw (sym found.2) apart))
    (λ kept. all_of_earlier n es (take place es) place (GoesElsewhere e) are refl (λ k earlier below was. kept k earlier.row e.row below was.row at.row))

-- ---- rows of a virtual link on a channel

module _ {n : Network} {es : List Entry} (vl : VlId) (channel : Channel) (device : DeviceId) (r : Bool)
    (are : AreEntries n es) (one : EntryIsOne) where
  pub leaves_on : Decides r (Holds (IsLeaving n vl channel device) es) → Decides r (LeavesOn n vl channel device)
  leaves_on =
      Decides-like r
      (λ some. record { place = some.0; entry = some.1; is = are.each some.0 some.1 some.2; same_vl = some.3.0; on_channel = some.3.2; source = some.3.1 })
      (λ l. (l.place, l.entry, stands_at are one l.is, (l.same_vl, l.source, l.on_channel)))

  pub enters_on : Decides r (Holds (IsEntering n vl channel device) es) → Decides r (EntersOn n vl channel device)
  enters_on =
      Decides-like r
      (λ some. record { place = some.0; entry = some.1; is = are.each some.0 some.1 some.2; same_vl = some.3.0; on_channel = some.3.2; target = some.3.1 })
      (λ l. (l.place, l.entry, stands_at are one l.is, (l.same_vl, l.target, l.on_channel)))

on_some : (n : Network) (e : Entry) → IsOnChannel n A e ⊎ IsOnChannel n B e → (channel : Channel) × IsOnChannel n channel e
on_some n e h =
    ⊎_elim (λ (a : IsOnChannel n A e). (A, a))
    (λ (b : IsOnChannel n B e). (B, b)) h

on_either : (n : Network) (e : Entry) (channel : Channel) → IsOnChannel n channel e → IsOnChannel n A e ⊎ IsOnChannel n B e
on_either n e A h = inl h
on_either n e B h = inr h

pub enters_end_system : {n : Network} {es : List Entry} (vl : VlId) (r : Bool) → AreEntries n es → EntryIsOne
    → Decides r (Holds (IsEnteringEnd n vl) es) → Decides r (EntersEndSystem n vl)
enters_end_system {n} vl r are one =
    Decides-like r
    (λ some. let on = on_some n some.1
    some.3.2 in (
      on.0,
      target_of some.1,
      some.3.1,
      record {
        place = some.0;
        entry = some.1;
        is = are.each some.0 some.1 some.2;
        same_vl = some.3.0;
        on_channel = on.1;
        target = refl;
      },
    ))
    (λ h. let l : EntersOn n vl h.0 h.1 = h.3 in (
      l.place,
      l.entry,
      stands_at are one l.is,
      (l.same_vl, rw (sym l.target) at h.2, on_either n l.entry h.0 l.on_channel),
    ))

-- ---- the same end systems on both channels

pub enters_all_alike : {n : Network} {es : List Entry} (vl : VlId) (r : Bool) → AreEntries n es → EntryIsOne
    → Decides r (Each (TargetIsAlike n vl) es) → Decides r (EntersAllAlike n vl)
enters_all_alike {n} vl r are one =
    Decides-like r
    (λ each d. record {
      alike = λ channel other end enters.
          (subst (λ x. EntersAlike n vl x) enters.target
          (each enters.place enters.entry (stands_at are one enters.is)
          enters.same_vl)).alike channel other end enters;
    })
    (λ all k e at same. all (target_of e))

-- an end system is entered alike where it is entered on the one channel exactly if on the other
over : {n : Network} {vl : VlId} {device : DeviceId} (a b : Bool) → Decides a (EntersOn n vl A device)
    → Decides b (EntersOn n vl B device) → a ≡ b → (channel other : Channel) → EntersOn n vl channel device
    → EntersOn n vl other device
over a b on_a on_b same A A h = h
over a b on_a on_b same A B h = on_b.0 (sym same ∙ on_a.1 h)
over a b on_a on_b same B A h = on_a.0 (same ∙ on_b.1 h)
over a b on_a on_b same B B h = h

pub alike : (n : Network) (vl : VlId) (device : DeviceId) (a b : Bool) → Decides a (EntersOn n vl A device) → Decides b (EntersOn n vl B device) → a ≡ b
    → EntersAlike n vl device
alike n vl device a b on_a on_b same = record { alike = λ channel other end h. over a b on_a on_b same channel other h }

pub alike_back : {n : Network} {vl : VlId} {device : DeviceId} (a b : Bool) → Decides a (EntersOn n vl A device)
    → Decides b (EntersOn n vl B device) → IsEndSystem n device → EntersAlike n vl device → a ≡ b
alike_back true true on_a on_b end h = refl
alike_back true false on_a on_b end h = sym (on_b.1 (h.alike A B end (on_a.0 refl)))
alike_back false true on_a on_b end h = on_a.1 (h.alike B A end (on_b.0 refl))
alike_back false false on_a on_b end h = refl

pub both_channels : {n : Network} (place : ℕ) (vl : VirtualLink) → slice_get n.vl place ≡ Some vl
    → LeavesOnBoth n (record { 0 = place }) vl.sender → EntersEndSystem n (record { 0 = place })
    → EntersAllAlike n (record { 0 = place }) → GoesByBothChannels n place
both_channels {n} place vl at leaves enters alike = record {
  leaves =
      λ here channel is. let same : vl ≡ here = cc in rw (sym same) (leaves channel);
  enters = λ here is. enters;
  same = λ device. (alike device).alike;
}

-- ---- sources

-- the other, which stands elsewhere, enters the entry's source
abbrev pub EntersFrom : ℕ → Entry → ℕ → Entry → Type 0
EntersFrom place e at other = (at ≢ place) × EntersSource e other

pub entered_elsewhere : (es : List Entry) (place : ℕ) (e : Entry) (r : Bool) → Decides r (HoldsBy (EntersFrom place e) es)
    → Decides r (IsEnteredElsewhere es place e)
entered_elsewhere es place e r =
    search arith

-- the entry's source, if it is no sender, is a switch that another entry of the virtual link enters
abbrev pub IsFed : Network → List Entry → ℕ → Entry → Type 0
IsFed n es place e = (source_of e ≡ e.vl.sender) ⊎ (IsSwitch n (source_of e) × IsEnteredElsewhere es place e)

module _ {n : Network} {es : List Entry} (place : ℕ) (e : Entry) (are : AreEntries n es) where
  entered : IsEnteredElsewhere es place e → (k : ℕ) × (k ≢ place) × Schedule.Enters n k e.row.vl (source_of e)
  entered h = (h.at, h.elsewhere, record { entry = h.other; is = are.each h.at h.other h.there; same_vl = h.same_vl; target = h.target })

  entered_back : EntryIsOne → (k : ℕ) × (k ≢ place) × Schedule.Enters n k e.row.vl (source_of e)
      → IsEnteredElsewhere es place e
  entered_back one h =
      search (arith, source_of, stands_at)

  pub has_source : EntryIsOne → IsEntry n place e → IsFed n es place e → HasSource n place
  has_source one at fed here is =
      search (arith, source_of, entered)

  pub has_source_back : EntryIsOne → IsEntry n place e → HasSource n place → IsFed n es place e
  has_source_back one at kept =
      search (arith, source_of, entered_back)

-- ---- targets

-- the entry enters none of the devices again that the earlier ones enter
abbrev pub EntersNoneAgain : Network → Entry → Entry → Type 0
EntersNoneAgain n e earlier = ¬ EntersAgain n earlier e

pub enters_anew : {n : Network} {es : List Entry} (front : List Entry) {place : ℕ} {e : Entry} → AreEntries n es
    → EntryIsOne → IsEntry n place e → front ≡ take place es → target_of e ≢ e.vl.sender
    → All (EntersNoneAgain n e) front → EntersAnew n place
enters_anew {n} {es} front {place} {e} are one at cut sender all =
    let none = earlier_of_all n es front place (EntersNoneAgain n e) are one cut all in
    record {
      no_sender = λ here is. rw (one n place e here at is) at sender;
      switches =
          λ k earlier here below was is same switch meets. (rw (one n place e here at is) at (none k earlier below was))
          (record { same_vl = same; same_target = meets; once = inl switch });
      end_systems =
          λ k earlier here channel below was is same end on_earlier on_here meets.
          (rw (one n place e here at is) at (none k earlier below was))
          (record { same_vl = same; same_target = meets; once = inr (end, (channel, on_earlier, on_here)) });
    }

none_again : (n : Network) (place : ℕ) (e : Entry) → IsEntry n place e → EntersAnew n place → (k : ℕ) (earlier : Entry) → k < place → IsEntry n k earlier
    → EntersAgain n earlier e → ⊥
none_again n place e at kept k earlier below was h =
    search arith

pub enters_anew_back : {n : Network} {es : List Entry} (front : List Entry) {place : ℕ} {e : Entry} → AreEntries n es
    → IsEntry n place e → front ≡ take place es → EntersAnew n place → All (EntersNoneAgain n e) front
enters_anew_back {n} {es} front {place} {e} are at cut kept =
    all_of_earlier n es front place (EntersNoneAgain n e) are cut (none_again n place e at kept)

-- ---- what is kept of rows in their groups

pub more_room : (groups : List (Vec ℕ Global)) (x : Vec ℕ Global) (i : ℕ) → x.items ≡ []
    → option_map_or (λ v. v.items) (slice_get (groups ++ x ∷ []) i) []
    ≡ option_map_or (λ v. v.items) (slice_get groups i) []
more_room [] x zero none = none
more_room [] x (suc i) none = refl
more_room (y ∷ groups) x zero none = refl
more_room (y ∷ groups) x (suc i) none = more_room groups x i none

-- ---- a list that one more place is added to, or not

abbrev grown : Bool → List ℕ → ℕ → List ℕ
grown b xs n = if b then xs ++ n ∷ [] else xs

still : (b : Bool) (xs : List ℕ) (n k : ℕ) → Contains xs k → Contains (grown b xs n) k
still true xs n k c = Contains-append_left xs (n ∷ []) k c
still false xs n k c = c

new : (b : Bool) (xs : List ℕ) (n : ℕ) → b ≡ true → Contains (grown b xs n) n
new b xs n e = rw e (Contains-append_right xs (n ∷ []) n (0, omega arith, refl))

-- ---- rows in groups

-- the first n rows stand in the groups of their numbers
abbrev pub HasPlaces : (Entry → ℕ) → List Entry → ℕ → RowPlaces → Type 0
HasPlaces number es n places = (k : ℕ) (e : Entry) → k < n → slice_get es k ≡ Some e → Contains (places_in places (number e)) k

-- the place is put into the group of this number
abbrev pub Puts : ℕ → ℕ → RowPlaces → RowPlaces → Type 0
Puts number n old now = (other : ℕ) → places_in now other ≡ grown (other == number) (places_in old other) n

pub one_more : (number : Entry → ℕ) (es : List Entry) (n : ℕ) (e : Entry) (old now : RowPlaces) → slice_get es n ≡ Some e → Puts (number e) n old now
    → HasPlaces number es n old → HasPlaces number es (n + 1) now
one_more number es n e old now at puts has k x below here =
    let xs = places_in old (number x) in
    let b = number x == number e in
    rw (puts (number x)) (⊎_elim
    (λ less. still b xs n k (has k x less here))
    (λ more.
    let same : k ≡ n = omega arith in
    let one = some_same x e (slice_get es n) (rw same at here) at in
    rw same (new b xs n (eq-eqb (number x) (number e) (ap number one))))
    (cases_lt k n))

-- all rows stand in their groups
pub grouped : (es : List Entry) (n : ℕ) (groups : Groups) → n ≡ length es → HasPlaces (λ e. e.row.vl.0) es n
    groups.by_vl
    → HasPlaces (λ e. e.row.link.0) es n groups.by_link → AreGroups es groups
grouped es n groups whole vls links = record {
  of_vl = λ vl. record {
    all = λ place e at same. rw same at (vls place e (omega (arith, slice_get_within es place e at)) at);
  };
  by_link = λ link. record {
    all = λ place e at same. rw same at (links place e (omega (arith, slice_get_within es place e at)) at);
  };
}

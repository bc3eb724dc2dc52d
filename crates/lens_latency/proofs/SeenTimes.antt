-- What was seen, and one more.
use Rattle.lens_latency.specs.Seeing.{AreSeen, AreTold, IsSeen, IsTold, is_of, times_of, with_time}
use Rattle.lens_latency.specs.declared.{arrivals.FrameArrival.FrameArrival, comings.Coming.Coming, seeing.{SeenFrames.SeenFrames, ReportedComing.ReportedComing}}
use Rattle.run_law.{proofs.runs.Places.{in_left, in_parts, in_right}, specs.records.Order.IsIn}
use Rattle.std.proofs.Common.{◌++◌, ◌+◌, ◌<◌, ◌∙◌, ◌∷◌, ◌≡◌, ◌≤◌, ◌⊎◌, Bool, List, None, Option, Some, [], ap, arith, false, filter, get_or, if◌then◌else◌, inl, inr, length, map, max, min, refl, subst, suc, sym, take, true, zero, ℕ}
use Rattle.std.proofs.{Math.Nat.{le-max_left, le-max_right, min-le_left, min-le_right}, lemmas.List.{Elements.{All-append, All-cons, All-head, All-nil, All-tail}, length-append, length-map, map-append, take_more}}
use Rattle.std.specs.{List.All, Prelude.IfSome}
use Rattle.tte_units.proofs.general_lemmas.Lists.{filter_off, filter_on}

-- ---- the least and the greatest

min_is : (a b : ℕ) → (min a b ≡ a) ⊎ (min a b ≡ b)
min_is a b = grind arith

max_is : (a b : ℕ) → (max a b ≡ a) ⊎ (max a b ≡ b)
max_is a b = grind arith

last_there : (times : List ℕ) (time : ℕ) → IsIn time (times ++ time ∷ [])
last_there times time = in_right time times (time ∷ []) (inl refl)

pub seen_more : (times : List ℕ) (seen : Option SeenFrames) (time : ℕ) → AreSeen times seen → AreSeen (times ++ time ∷ []) (with_time seen time)
seen_more times None time none =
    subst (λ (ts : List ℕ). IsSeen (ts ++ time ∷ []) (record { count = 1; least = time; most = time })) (sym none) (record {
      count = refl;
      least = inl refl;
      most = inl refl;
      each = λ t i. elim i [ inl same ↦ (omega (arith, same), omega (arith, same)) | inr none ↦ absurd none ];
    })
seen_more times (Some seen) time is = record {
  count = (let grown = length-append times (time ∷ []) in let count = is.count in omega (arith, grown, count));
  least = elim (min_is seen.least time) [
    | inl old ↦ subst (λ t. IsIn t (times ++ time ∷ [])) (sym old) (in_left seen.least times (time ∷ []) is.least)
    | inr new ↦ subst (λ t. IsIn t (times ++ time ∷ [])) (sym new) (last_there times time)
  ];
  most = elim (max_is seen.most time) [
    | inl old ↦ subst (λ t. IsIn t (times ++ time ∷ [])) (sym old) (in_left seen.most times (time ∷ []) is.most)
    | inr new ↦ subst (λ t. IsIn t (times ++ time ∷ [])) (sym new) (last_there times time)
  ];
  each = λ t i.
      let low = min-le_left seen.least time in
      let lower = min-le_right seen.least time in
      let high = le-max_left seen.most time in
      let higher = le-max_right seen.most time in
      elim (in_parts t times (time ∷ []) i) [
        | inl there ↦ let both = is.each t there in let down = both.0 in let up = both.1 in (omega (arith, low, down), omega (arith, high, up))
        | inr (inl same) ↦ (omega (arith, lower, same), omega (arith, higher, same))
        | inr (inr none) ↦ absurd none
      ];
}

-- ---- one more arrival

pub times_on : (c : Coming) (arrivals : List FrameArrival) (arrival : FrameArrival) → is_of c arrival ≡ true
    → times_of c (arrivals ++ arrival ∷ []) ≡ times_of c arrivals ++ arrival.time ∷ []
times_on c arrivals arrival is =
    ap (λ (xs : List FrameArrival). map (λ (x : FrameArrival). x.time) xs) (filter_on (is_of c) arrivals arrival is)
    ∙ map-append (λ (x : FrameArrival). x.time) (filter (is_of c) arrivals) (arrival ∷ [])

pub times_off : (c : Coming) (arrivals : List FrameArrival) (arrival : FrameArrival) → is_of c arrival ≡ false
    → times_of c (arrivals ++ arrival ∷ []) ≡ times_of c arrivals
times_off c arrivals arrival is = ap (λ (xs : List FrameArrival). map (λ (x : FrameArrival). x.time) xs) (filter_off (is_of c) arrivals arrival is)

-- ---- there is one

abbrev made : ℕ → ℕ → ℕ → SeenFrames
made count least most = record { count = count; least = least; most = most }

pub seen_once : (times : List ℕ) (a b : Option SeenFrames) → AreSeen times a → AreSeen times b → a ≡ b
seen_once times None None none empty = refl
seen_once times None (Some b) none is = absurd (subst (IsIn b.least) none is.least)
seen_once times (Some a) None is none = absurd (subst (IsIn a.least) none is.least)
seen_once times (Some a) (Some b) is its =
    let count : a.count ≡ b.count = is.count ∙ sym its.count in
    let low = (is.each b.least its.least).0 in
    let lower = (its.each a.least is.least).0 in
    let high = (is.each b.most its.most).1 in
    let higher = (its.each a.most is.most).1 in
    let least : a.least ≡ b.least = omega (arith, low, lower) in
    let most : a.most ≡ b.most = omega (arith, high, higher) in
    ap (λ (x : SeenFrames). Some x) (ap (λ n. made n a.least a.most) count ∙ ap (λ n. made b.count n a.most) least
    ∙ ap (λ n. made b.count b.least n) most)

-- ---- few

few_kept : {X : Type 0} (p : X → Bool) (xs : List X) → length (filter p xs) ≤ length xs
few_kept {X} p [] = omega arith
few_kept {X} p (x ∷ xs) = by (p x) (few_kept p xs)
  where
    by : (b : Bool) → length (filter p xs) ≤ length xs → length (if b then x ∷ filter p xs else filter p xs) ≤ length (x ∷ xs)
    by true le = omega (arith, le)
    by false le = omega (arith, le)

pub few_seen : (c : Coming) (arrivals : List FrameArrival) {seen : SeenFrames} → IsSeen (times_of c arrivals) seen
    → seen.count ≤ length arrivals
few_seen c arrivals is =
    let kept = filter (is_of c) arrivals in
    let few = few_kept (is_of c) arrivals in
    let many = length-map kept (λ (x : FrameArrival). x.time) in
    let count = is.count in
    omega (arith, few, many, count)

taken_short : {X : Type 0} (n : ℕ) (xs : List X) → length (take n xs) ≤ length xs
taken_short {X} zero xs = omega arith
taken_short {X} (suc n) [] = omega arith
taken_short {X} (suc n) (x ∷ xs) = let le = taken_short n xs in omega (arith, le)

pub few_taken : (c : Coming) (arrivals : List FrameArrival) (n : ℕ) (seen : Option SeenFrames) → AreSeen (times_of c (take n arrivals)) seen
    → IfSome seen (λ s. s.count ≤ length arrivals)
few_taken c arrivals n None is = tt
few_taken c arrivals n (Some seen) is =
    let few = few_seen c (take n arrivals) is in
    let short = taken_short n arrivals in
    omega (arith, few, short)

-- ---- the next of the arrivals

module _ (c : Coming) (arrivals : List FrameArrival) (n : ℕ) (d : FrameArrival) (old new : Option SeenFrames)
    (within : n < length arrivals) where
  pub seen_on : is_of c (get_or arrivals n d) ≡ true → new ≡ with_time old (get_or arrivals n d).time
      → AreSeen (times_of c (take n arrivals)) old → AreSeen (times_of c (take (n + 1) arrivals)) new
  seen_on is more seen =
      let arrival = get_or arrivals n d in
      let times = ap (times_of c) (take_more arrivals n d within) ∙ times_on c (take n arrivals) arrival is in
      subst (λ ts. AreSeen ts new) (sym times)
      (subst (AreSeen (times_of c (take n arrivals) ++ arrival.time ∷ [])) (sym more)
      (seen_more (times_of c (take n arrivals)) old arrival.time seen))

  pub seen_off : is_of c (get_or arrivals n d) ≡ false → new ≡ old → AreSeen (times_of c (take n arrivals)) old
      → AreSeen (times_of c (take (n + 1) arrivals)) new
  seen_off is same seen =
      let times = ap (times_of c) (take_more arrivals n d within) ∙ times_off c (take n arrivals)
      (get_or arrivals n d) is in
      subst (λ ts. AreSeen ts new) (sym times)
      (subst (AreSeen (times_of c (take n arrivals))) (sym same) seen)

-- ---- what is told of lines

pub none_told : (arrivals : List FrameArrival) (told : List ReportedComing) → told ≡ [] → AreTold arrivals [] told
none_told arrivals told none = subst (AreTold arrivals []) (sym none) (record { of = refl; each = All-nil (IsTold arrivals) })

pub told_more : {arrivals : List FrameArrival} (comings : List Coming) (n : ℕ) (d : Coming) {told : List ReportedComing}
    (new : List ReportedComing) (one : ReportedComing) → n < length comings → one.coming ≡ get_or comings n d → IsTold arrivals one
    → new ≡ told ++ one ∷ [] → AreTold arrivals (take n comings) told → AreTold arrivals (take (n + 1) comings) new
told_more {arrivals} comings n d {told} new one within of is grown are =
    let front : take (n + 1) comings ≡ take n comings ++ one.coming ∷ [] =
    take_more comings n d within ∙ ap (λ (c : Coming). take n comings ++ c ∷ []) (sym of) in
    subst (λ cs. AreTold arrivals cs new) (sym front) (subst (AreTold arrivals (take n comings ++ one.coming ∷ [])) (sym grown) (record {
      of = map-append (λ (t : ReportedComing). t.coming) told (one ∷ []) ∙ ap (λ (cs : List Coming). cs ++ one.coming ∷ []) are.of;
      each = All-append (IsTold arrivals) told (one ∷ []) are.each (All-cons (IsTold arrivals) one [] is (All-nil (IsTold arrivals)));
    }))

-- what is told is of the network's virtual links and devices, where the lines are
pub told_names : (P : Coming → Type 0) (told : List ReportedComing) → All P (map (λ (t : ReportedComing). t.coming) told) → All (λ (t : ReportedComing). P t.coming) told
told_names P [] all = All-nil (λ (t : ReportedComing). P t.coming)
told_names P (one ∷ told) all =
    All-cons (λ (t : ReportedComing). P t.coming) one told (All-head P one.coming (map (λ (t : ReportedComing). t.coming) told) all)
    (told_names P told (All-tail P one.coming (map (λ (t : ReportedComing). t.coming) told) all))

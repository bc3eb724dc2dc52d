-- The attempts of a message, row by row and receiver by receiver, counted, and the best is one.
use Rattle.std.proofs.{Math.Nat.{le-max_left, le-max_right, max-le, min-le_right}}
use Rattle.std.proofs.Common
use Common.{if◌then◌else◌, ◌&&◌, ◌++◌, ◌+◌, ◌-◌, ◌<◌, ◌∙◌, ◌∷◌, ◌≡◌, ◌≤◌, ◌⊎◌, Bool, List, None, Option, Some, [], ap}
use Common.{append_assoc, arith, cond, false, get_or, inl, inr, length, max, min, not, refl, subst, suc, sym, take}
use Common.{true, zero, ℕ}
use Rattle.std.proofs.lemmas.{Bool.{Decides.nat_tests, cases_Bool, cases_lt}, Int.ints}
use Rattle.std.proofs.lemmas.List.{Elements.{All-cons, All-head, All-nil, All-tail, filter_map-append}}
use Rattle.std.proofs.lemmas.List.{Kept.AllPairs-cons, Sorted.{All-permutation, IsPermutation-insert}}
use Rattle.std.proofs.lemmas.List.{Sums.{sum_by-append, sum_by-cons, sum_by-le-sum_by}, append-nil, take_more}
use Rattle.std.specs.{Option.{option_to_list, unwrap_or}, Prelude.{nat_lt, slice_get}}
use Rattle.std.specs.List.{All, AllPairs, AllZip, cons_option, count_by, filter_map, fold, insert, position_or_len}
use Rattle.std.specs.List.{range_with_len}
use Rattle.lens_plan.{proofs.Orders.range_more}
use Rattle.lens_plan.specs.{messages.Message.Message}
use Rattle.lens_plan.specs.declared.places.{best.Attempt.Attempt, offsets.{MessageRow.MessageRow, Taken.Taken}}
use Rattle.lens_plan.specs.declared.places.{placing.{Placed.Placed, Trial.Trial}, scoring.Score.Score, ways.Hop.Hop}
use Rattle.lens_plan.specs.places.{Best.{ComesFirst, IsAttempt, IsBest, IsBestBelow, IsBestBy, IsBetter, in_phase}}
use Rattle.lens_plan.specs.places.{Filling.IsEarly, Fitting.IsBestBehind, Limits.{AreHops, AreWays, once}}
use Rattle.lens_plan.specs.places.{Offsets.IsLeastOffset, Ordering.{ComesBefore, room_of}}
use Rattle.lens_plan.specs.places.{Placing.{IsOrdered, IsPlacedAt, IsPlacedWay, delay_on, end_of, port_on, slot_of}}
use Rattle.lens_plan.specs.places.{Same.IsSameAttempt}
use Rattle.lens_plan.specs.places.{Scoring.{is_last, limit_of, no_score, schedule_end, score_of, with_row}}
use Rattle.lens_plan.specs.places.{Spacing.{AreSpaced, IsNoLater, IsPhaseBy, IsSpacedAt, IsSpacedTo, IsSpacedWay}}
use Rattle.lens_plan.specs.places.{Trying.{AreTried, IsPlacedTo, start_of}, Ways.{IsWay, down_hops, up_hops}}
use Rattle.net_plan.{proofs.Trees.paths_are_unique}
use Rattle.net_plan.specs.{Bounds.gamma_of, Paths.IsTree, Ranges.IsInRange}
use Rattle.net_plan.specs.{declared.{ids.DeviceId.DeviceId, network.Network.Network}}
use Rattle.schedule_tables.specs.Windows.{tolerance}
use Rattle.tte_units.{proofs.general_lemmas.Bools.{both_left, both_right}}
use Rattle.tte_units.{specs.{Amount.amount, declared.frames.channel.Channel.{Channel, TheVariants.{A, B}}}}

-- ---- the hops of one more receiver, link and message

ways_more : {network : Network} {sender : DeviceId} (receivers : List DeviceId) {receiver : DeviceId} (hs : List Hop)
    {a b : List Hop} → AreWays network sender receivers hs → IsWay network sender receiver A a
    → IsWay network sender receiver B b → AreWays network sender (receivers ++ receiver ∷ []) (hs ++ (a ++ b))
ways_more [] hs {a} {b} none on_a on_b =
    (a, b, [], on_a, on_b, refl, ap (λ (is : List Hop). is ++ (a ++ b)) none ∙ ap (λ (is : List Hop). a ++ is) (sym (append-nil b)))
ways_more (r ∷ receivers) hs {a} {b} (c, d, others, on_c, on_d, rest, same) on_a on_b = (
  c,
  d,
  others ++ (a ++ b),
  on_c,
  on_d,
  ways_more receivers others rest on_a on_b,
  ap (λ (is : List Hop). is ++ (a ++ b)) same ∙ append_assoc c (d ++ others) (a ++ b) ∙ ap (λ (is : List Hop). c ++ is) (append_assoc d others (a ++ b)),
)

pub ways_next : {network : Network} {sender : DeviceId} (receivers : List DeviceId) (n : ℕ) (d : DeviceId)
    (now mid new : List Hop) {a b : List Hop} → n < length receivers → AreWays network sender (take n receivers) now
    → IsWay network sender (get_or receivers n d) A a → mid ≡ now ++ a
    → IsWay network sender (get_or receivers n d) B b → new ≡ mid ++ b
    → AreWays network sender (take (n + 1) receivers) new
ways_next {network} {sender} receivers n d now mid new {a} {b} within before on_a first on_b second =
    let whole : new ≡ now ++ (a ++ b) = second ∙ ap (λ (is : List Hop). is ++ b) first ∙ append_assoc now a b in
    subst (AreWays network sender (take (n + 1) receivers)) (sym whole)
    (subst (λ rs. AreWays network sender rs (now ++ (a ++ b))) (sym (take_more receivers n d within))
    (ways_more (take n receivers) now before on_a on_b))

-- ---- links, one after another

one_option : {X : Type 0} (o : Option X) → cons_option o [] ≡ option_to_list o
one_option None = refl
one_option (Some x) = refl

pub links_next : {X : Type 0} (h : ℕ → Option X) (n : ℕ) (old now new : List X) → now ≡ old ++ filter_map h (range_with_len 0 n)
    → new ≡ now ++ option_to_list (h n) → new ≡ old ++ filter_map h (range_with_len 0 (n + 1))
links_next {X} h n old now new before more =
    more ∙ ap (λ (xs : List X). xs ++ option_to_list (h n)) before ∙ append_assoc old (filter_map h (range_with_len 0 n)) (option_to_list (h n))
    ∙ ap (λ (xs : List X). old ++ xs) (ap (λ (xs : List X). filter_map h (range_with_len 0 n) ++ xs) (sym (one_option (h n)))
    ∙ sym (filter_map-append h (range_with_len 0 n) (n ∷ [])) ∙ ap (filter_map h) (sym (range_more n)))

-- ---- messages, one after another

hops_more : (network : Network) (ms : List Message) (m : Message) (hs ways : List Hop) → AreHops network ms hs
    → AreWays network m.sender m.receivers ways → AreHops network (ms ++ m ∷ []) (hs ++ once network ways)
hops_more network [] m hs ways none are =
    (ways, [], are, refl, ap (λ (is : List Hop). is ++ once network ways) none ∙ sym (append-nil (once network ways)))
hops_more network (n ∷ ms) m hs ways (its, others, are_its, rest, same) are = (
  its,
  others ++ once network ways,
  are_its,
  hops_more network ms m others ways rest are,
  ap (λ (is : List Hop). is ++ once network ways) same ∙ append_assoc (once network its) others (once network ways),
)

pub hops_next : (network : Network) (ms : List Message) (n : ℕ) (d : Message) (now new ways : List Hop) → n < length ms
    → AreHops network (take n ms) now → AreWays network (get_or ms n d).sender (get_or ms n d).receivers ways → new ≡ now ++ once network ways
    → AreHops network (take (n + 1) ms) new
hops_next network ms n d now new ways within before are more =
    subst (AreHops network (take (n + 1) ms)) (sym more)
    (subst (λ ns. AreHops network ns (now ++ once network ways)) (sym (take_more ms n d within))
    (hops_more network (take n ms) (get_or ms n d) now ways before are))

-- ---- how many elements pass tests

abbrev pub one_if : Bool → ℕ
one_if b = cond b 1 0

weight : (a b : Bool) → (a ≡ true → b ≡ true) → cond a 1 0 ≤ cond b 1 0
weight true b more = subst (λ (c : Bool). 1 ≤ cond c 1 0) (sym (more refl)) (omega arith)
weight false b more = omega arith

two_weights : (a b c : Bool) → (a ≡ true → (b ≡ false) × (c ≡ true)) → (b ≡ true → c ≡ true) → cond a 1 0 + cond b 1 0 ≤ cond c 1 0
two_weights true b c one other =
    let both = one refl in
    let none : one_if b ≡ 0 = ap one_if both.0 in
    let some : one_if c ≡ 1 = ap one_if both.1 in
    omega (arith, none, some)
two_weights false b c one other = let more = weight b c other in omega (arith, more)

pub count_cons : {X : Type 0} (p : X → Bool) (x : X) (xs : List X) → count_by p (x ∷ xs) ≡ cond (p x) 1 0 + count_by p xs
count_cons {X} p x xs = sum_by-cons (λ (y : X). cond (p y) 1 0) x xs

pub count_append : {X : Type 0} (p : X → Bool) (xs ys : List X) → count_by p (xs ++ ys) ≡ count_by p xs + count_by p ys
count_append {X} p xs ys = sum_by-append (λ (y : X). cond (p y) 1 0) xs ys

-- a test that lets more through
pub count_le : {X : Type 0} (p q : X → Bool) (xs : List X) → ((x : X) → p x ≡ true → q x ≡ true) → count_by p xs ≤ count_by q xs
count_le {X} p q xs more = sum_by-le-sum_by (λ (x : X). cond (p x) 1 0) (λ (x : X). cond (q x) 1 0) xs (λ x. weight (p x) (q x) (more x))

-- and one that lets another element through
pub count_more : {X : Type 0} (p q : X → Bool) (xs : List X) → ((x : X) → p x ≡ true → q x ≡ true) → (i : ℕ) (x : X) → slice_get xs i ≡ Some x
    → q x ≡ true → p x ≡ false → count_by p xs + 1 ≤ count_by q xs
count_more p q [] more i x at pass fail = absurd (grind (arith, at))
count_more p q (y ∷ xs) more zero x at pass fail =
    let same : y ≡ x = cc in
    let one = count_cons p y xs in
    let other = count_cons q y xs in
    let rest = count_le p q xs more in
    let none : one_if (p y) ≡ 0 = ap one_if (ap p same ∙ fail) in
    let some : one_if (q y) ≡ 1 = ap one_if (ap q same ∙ pass) in
    omega (arith, one, other, rest, none, some)
count_more p q (y ∷ xs) more (suc i) x at pass fail =
    let one = count_cons p y xs in
    let other = count_cons q y xs in
    let rest = count_more p q xs more i x at pass fail in
    let here = weight (p y) (q y) (more y) in
    omega (arith, one, other, rest, here)

-- two tests that let nothing through together
pub count_both : {X : Type 0} (p q r : X → Bool) (xs : List X) → ((x : X) → p x ≡ true → (q x ≡ false) × (r x ≡ true))
    → ((x : X) → q x ≡ true → r x ≡ true) → count_by p xs + count_by q xs ≤ count_by r xs
count_both p q r [] one other = omega arith
count_both p q r (x ∷ xs) one other =
    let first = count_cons p x xs in
    let second = count_cons q x xs in
    let third = count_cons r x xs in
    let rest = count_both p q r xs one other in
    let here = two_weights (p x) (q x) (r x) (one x) (other x) in
    omega (arith, first, second, third, rest, here)

pub count_all : {X : Type 0} (xs : List X) → count_by (λ (x : X). true) xs ≡ length xs
count_all [] = refl
count_all {X} (x ∷ xs) =
    let one = count_cons (λ (y : X). true) x xs in
    let rest = count_all xs in
    omega (arith, one, rest)

less_more : (k n : ℕ) → nat_lt k n ≡ true → nat_lt k (n + 1) ≡ true
less_more k n less = grind (arith, nat_tests, less)

at_below : (k n : ℕ) → k ≡ n → nat_lt k (n + 1) ≡ true
at_below k n at = grind (arith, nat_tests, at)

at_not : (k n : ℕ) → k ≡ n → nat_lt k n ≡ false
at_not k n at = grind (arith, nat_tests, at)

-- what is found for numbers, each an element of its own among these
module _ {H R : Type 0} (test : H → Bool) (passes : R → Bool) (key : R → ℕ) (found : ℕ → Option H) (rs : List R)
    (has : (k : ℕ) (h : H) → found k ≡ Some h → test h ≡ true → (i : ℕ) × (r : R) × (slice_get rs i ≡ Some r) × (passes r ≡ true) × (key r ≡ k)) where
  abbrev below : ℕ → R → Bool
  below n r = passes r && nat_lt (key r) n

  lets_more : (n : ℕ) (r : R) → below n r ≡ true → below (n + 1) r ≡ true
  lets_more n r pass =
      let one = both_left (passes r) (nat_lt (key r) n) pass in
      let two = both_right (passes r) (nat_lt (key r) n) pass in
      let less : nat_lt (key r) (n + 1) ≡ true = less_more (key r) n two in
      ap (λ (b : Bool). b && nat_lt (key r) (n + 1)) one ∙ less

  one_of : (n : ℕ) (o : Option H) → found n ≡ o → count_by test (option_to_list o) + count_by (below n) rs ≤ count_by (below (n + 1)) rs
  one_of n None at = let more = count_le (below n) (below (n + 1)) rs (lets_more n) in omega (arith, more)
  one_of n (Some h) at =
      elim (cases_Bool (test h)) [
        | inr fail ↦
            let none : count_by test (h ∷ []) ≡ 0 = count_cons test h [] ∙ ap (λ (b : Bool). cond b 1 0 + count_by test []) fail in
            let more = count_le (below n) (below (n + 1)) rs (lets_more n) in
            omega (arith, none, more)
        | inl pass ↦
            let it = has n h at pass in
            let some : count_by test (h ∷ []) ≡ 1 = count_cons test h [] ∙ ap (λ (b : Bool). cond b 1 0 + count_by test []) pass in
            let in_it : below (n + 1) it.1 ≡ true = ap (λ (b : Bool). b && nat_lt (key it.1) (n + 1)) it.3 ∙ at_below (key it.1) n it.4 in
            let not_yet : below n it.1 ≡ false = ap (λ (b : Bool). b && nat_lt (key it.1) n) it.3 ∙ at_not (key it.1) n it.4 in
            let more = count_more (below n) (below (n + 1)) rs (lets_more n) it.0 it.1 it.2 in_it not_yet in
            omega (arith, some, more)
      ]

  count_below : (n : ℕ) → count_by test (filter_map found (range_with_len 0 n)) ≤ count_by (below n) rs
  count_below zero = omega arith
  count_below (suc n) =
      let more = links_next found n [] (filter_map found (range_with_len 0 n)) (filter_map found (range_with_len 0 n) ++ option_to_list (found n)) refl refl in
      let parts = count_append test (filter_map found (range_with_len 0 n)) (option_to_list (found n)) in
      let whole : count_by test (filter_map found (range_with_len 0 (n + 1))) ≡ count_by test (filter_map found (range_with_len 0 n)) + count_by test (option_to_list (found n)) =
      ap (count_by test) (sym more) ∙ parts in
      let before = count_below n in
      let one = one_of n (found n) refl in
      subst (λ k. count_by test (filter_map found (range_with_len 0 k)) ≤ count_by (below k) rs) (let e : n + 1 ≡ suc n = omega arith in e)
      (omega (arith, whole, before, one))

  pub count_found : (n : ℕ) → count_by test (filter_map found (range_with_len 0 n)) ≤ count_by passes rs
  count_found n =
      let few = count_below n in
      let more = count_le (below n) passes rs (λ r pass. both_left (passes r) (nat_lt (key r) n) pass) in
      omega (arith, few, more)

-- ---- the rows of a message that has a place lie in the cycle

-- the window of the row ends by its limit
abbrev pub IsInTime : Trial → Placed → Type 0
IsInTime trial p = p.end ≤ limit_of trial p.hop

-- what is short by nothing began so, and each of its rows is in time
pub record IsWhole (trial : Trial) (s : Score) (ps : List Placed) : Type 0 where
  pub before : s.short ≡ 0
  pub rows : All (IsInTime trial) ps

pub whole : (trial : Trial) (ps : List Placed) (s : Score) → (fold (with_row trial) s ps).short ≡ 0 → IsWhole trial s ps
whole trial [] s none = record { before = none; rows = All-nil (IsInTime trial) }
whole trial (p ∷ ps) s none =
    let later = whole trial ps (with_row trial s p) none in
    let here = later.before in
    let left = le-max_left s.short (p.end - limit_of trial p.hop) in
    let right = le-max_right s.short (p.end - limit_of trial p.hop) in
    record {
      before = omega (arith, here, left);
      rows = All-cons (IsInTime trial) p ps (omega (arith, here, right)) later.rows;
    }

-- ---- of an attempt

pub limit_by : (b : Bool) (by end : ℕ) → (if b then min by end else end) ≤ end
limit_by true by end = min-le_right by end
limit_by false by end = omega arith

pub own_attempt : (trial : Trial) (phase : Option ℕ) (a : Attempt) → IsBestBy trial phase a → (n : ℕ) × IsAttempt trial n a
own_attempt trial None a best = (a.phase, best.own)
own_attempt trial (Some n) a is = (n, is)

-- what follows from two facts follows for all
both_early : (P Q R : Placed → Type 0) → ((p : Placed) → P p → Q p → R p) → (ps : List Placed) → All P ps → All Q ps → All R ps
both_early P Q R next ps one other k d within = next (get_or ps k d) (one k d within) (other k d within)

-- the rows of a message that has a place behind others are early
pub early_rows : {network : Network} {rows : List Taken} {m : Message} {a : Attempt} → IsInRange network
    → IsBestBehind network rows m a → a.score.short ≡ 0 → All IsEarly a.placed.items
early_rows {a} range best fits =
    let trial = best.trial in
    let own = own_attempt trial trial.message.now.phase a best.best in
    let there = in_phase trial own.0 in
    let short : (score_of there a.placed.items).short ≡ 0 = sym (ap (λ (s : Score). s.short) own.1.score) ∙ fits in
    let all = whole there a.placed.items (no_score there) short in
    let cycle = best.of_message.is.range.cycle.most in
    both_early (IsInTime there) IsOrdered IsEarly
    (λ p in_time both.
    let ordered = both.0 in
    let limit = limit_by (is_last there.network.now p.hop) (unwrap_or there.message.now.by (schedule_end there.network.now)) (schedule_end there.network.now) in
    omega (arith, ints, cycle, limit, in_time, ordered)) a.placed.items all.rows own.1.ordered

-- ---- rows with least offsets end no later than others that keep the rules

-- the same row, and its window ends no later
abbrev EndsBefore : Placed → Placed → Type 0
EndsBefore p q = (p.hop ≡ q.hop) × (p.end ≤ q.end)

zip_append : (ps qs rs ss : List Placed) → AllZip EndsBefore ps qs → AllZip EndsBefore rs ss → AllZip EndsBefore (ps ++ rs) (qs ++ ss)
zip_append [] [] rs ss one other = other
zip_append [] (q ∷ qs) rs ss one other = absurd one
zip_append (p ∷ ps) [] rs ss one other = absurd one
zip_append (p ∷ ps) (q ∷ qs) rs ss one other = (one.0, zip_append ps qs rs ss one.1 other)

-- ---- along a way

ends_before : (p q o r port delay more : ℕ) → o ≤ r → p ≡ o + port + delay + more → q ≡ r + port + delay + more → p ≤ q
ends_before p q o r port delay more order one other = omega (arith, order, one, other)

next_before : (p q : Placed) → EndsBefore p q → p.end + 1 ≤ q.end + 1
next_before p q before = let ends = before.1 in omega (arith, ends)

at_before : {trial : Trial} {from later : ℕ} {hop : Hop} {p q : Placed} → from ≤ later → IsPlacedAt trial from hop p
    → IsSpacedAt trial later hop q → EndsBefore p q
at_before {trial} {hop} {p} {q} order placed spaced =
    let past = spaced.not_before in
    let least = placed.offset.least q.offset (omega (arith, order, past)) spaced.clear in
    let one = placed.end in
    let other = spaced.end in (
      placed.is ∙ sym spaced.is,
      ends_before p.end q.end p.offset q.offset (port_on trial.network.now trial.message.now.length hop.link)
          (delay_on trial.network.now hop.link) (tolerance trial.network.now) least one other,
    )

way_before : (trial : Trial) (from later : ℕ) (hops : List Hop) (ps qs : List Placed) → from ≤ later → IsPlacedWay trial from hops ps
    → IsSpacedWay trial later hops qs → AllZip EndsBefore ps qs
way_before trial from later [] ps qs order none also =
    subst (λ (xs : List Placed). AllZip EndsBefore xs qs) (sym none) (subst (λ (xs : List Placed). AllZip EndsBefore [] xs) (sym also) tt)
way_before trial from later (hop ∷ hops) ps qs order (p, rest, placed, way, same) (q, others, spaced, also, too) =
    let first = at_before order placed spaced in
    subst (λ (xs : List Placed). AllZip EndsBefore xs qs) (sym same)
    (subst (λ (xs : List Placed). AllZip EndsBefore (p ∷ rest) xs) (sym too)
    (first, way_before trial (p.end + 1) (q.end + 1) hops rest others (next_before p q first) way also))

-- ---- to a receiver, and to all

-- a way is one
pub way_one : {network : Network} {sender receiver : DeviceId} {channel : Channel} {hops others : List Hop}
    → IsTree network → IsWay network sender receiver channel hops → IsWay network sender receiver channel others
    → hops ≡ others
way_one {network} {sender} {receiver} {channel} tree one other =
    let from = paths_are_unique network channel sender one.from other.from tree one.from_path other.from_path in
    let to = paths_are_unique network channel receiver one.to other.to tree one.to_path other.to_path in
    one.is ∙ ap (λ fs. up_hops one.to fs ++ down_hops fs one.to) from
    ∙ ap (λ ts. up_hops ts other.from ++ down_hops other.from ts) to ∙ sym other.is

to_before : {trial : Trial} {channel : Channel} {receiver : DeviceId} {ps qs : List Placed}
    → IsTree trial.network.now → IsPlacedTo trial channel receiver ps → IsSpacedTo trial channel receiver qs
    → AllZip EndsBefore ps qs
to_before {trial} {ps} {qs} tree placed spaced =
    way_before trial (start_of trial) (start_of trial) spaced.hops ps qs (omega arith)
    (subst (λ hops. IsPlacedWay trial (start_of trial) hops ps)
    (way_one tree placed.way spaced.way) placed.rows) spaced.rows

all_before : (trial : Trial) (receivers : List DeviceId) (ps qs : List Placed) → IsTree trial.network.now → AreTried trial receivers ps
    → AreSpaced trial receivers qs → AllZip EndsBefore ps qs
all_before trial [] ps qs tree none also =
    subst (λ (xs : List Placed). AllZip EndsBefore xs qs) (sym none) (subst (λ (xs : List Placed). AllZip EndsBefore [] xs) (sym also) tt)
all_before trial (receiver ∷ receivers) ps qs tree (a, b, rest, on_a, on_b, tried, same) (c, d, others, at_a, at_b, spaced, also) =
    subst (λ (xs : List Placed). AllZip EndsBefore xs qs) (sym same)
    (subst (λ (xs : List Placed). AllZip EndsBefore (a ++ (b ++ rest)) xs) (sym also)
    (zip_append a c (b ++ rest) (d ++ others) (to_before tree on_a at_a)
    (zip_append b d rest others (to_before tree on_b at_b) (all_before trial receivers rest others tree tried spaced))))

-- ---- the scores

-- the one is short by no more, and its last window ends no later
abbrev NoMore : Score → Score → Type 0
NoMore s t = (s.short ≤ t.short) × (s.latest ≤ t.latest)

max_below : (a b c d : ℕ) → a ≤ b → c ≤ d → max a c ≤ max b d
max_below a b c d one other =
    let left = le-max_left b d in
    let right = le-max_right b d in
    max-le (omega (arith, one, left)) (omega (arith, other, right))

latest_below : (is : Bool) (s t p q : ℕ) → s ≤ t → p ≤ q → cond is (max s p) s ≤ cond is (max t q) t
latest_below true s t p q one other = max_below s t p q one other
latest_below false s t p q one other = one

row_below : (trial : Trial) (s t : Score) (p q : Placed) → NoMore s t → EndsBefore p q → NoMore (with_row trial s p) (with_row trial t q)
row_below trial s t p q before ends =
    let later = ends.1 in (
      max_below s.short t.short (p.end - limit_of trial p.hop) (q.end - limit_of trial q.hop) before.0
          (subst (λ h. p.end - limit_of trial p.hop ≤ q.end - limit_of trial h) ends.0 (omega (arith, later))),
      subst (λ h. (with_row trial s p).latest ≤ cond (is_last trial.network.now h) (max t.latest q.end) t.latest) ends.0
          (latest_below (is_last trial.network.now p.hop) s.latest t.latest p.end q.end before.1 later),
    )

scores_below : (trial : Trial) (ps qs : List Placed) (s t : Score) → NoMore s t → AllZip EndsBefore ps qs
    → NoMore (fold (with_row trial) s ps) (fold (with_row trial) t qs)
scores_below trial [] [] s t before zip = before
scores_below trial [] (q ∷ qs) s t before zip = absurd zip
scores_below trial (p ∷ ps) [] s t before zip = absurd zip
scores_below trial (p ∷ ps) (q ∷ qs) s t before zip =
    scores_below trial ps qs (with_row trial s p) (with_row trial t q) (row_below trial s t p q before zip.0) zip.1

-- ---- the best attempt

-- the one is short by less, or by as much and its last window ends no later
abbrev NoWorse : ℕ → ℕ → ℕ → ℕ → Type 0
NoWorse s l t m = (s < t) ⊎ ((s ≡ t) × (l ≤ m))

no_worse : (a b : Attempt) → ComesFirst a b → NoWorse a.score.short a.score.latest b.score.short b.score.latest
no_worse a b (inl (inl less)) = inl less
no_worse a b (inl (inr both)) = let less = both.1 in inr (both.0, omega (arith, less))
no_worse a b (inr (not, early)) =
    elim (cases_lt a.score.short b.score.short) [
      | inl less ↦ inl less
      | inr ge ↦ elim (cases_lt b.score.short a.score.short) [
        | inl less ↦ absurd (not (inl less))
        | inr le ↦
            let same : b.score.short ≡ a.score.short = omega (arith, ge, le) in
            elim (cases_lt b.score.latest a.score.latest) [
              | inl less ↦ absurd (not (inr (same, less)))
              | inr more ↦ inr (sym same, more)
            ]
      ]
    ]

record IsBeaten (trial : Trial) (phase : ℕ) (a : Attempt) : Type 0 where
  pub other : Attempt
  pub own : IsAttempt trial phase other
  pub no_worse : NoWorse a.score.short a.score.latest other.score.short other.score.latest

beaten : (trial : Trial) (a : Attempt) (given : Option ℕ) (phase : ℕ) → IsBestBy trial given a → IsPhaseBy trial.message.now.period given phase
    → IsBeaten trial phase a
beaten trial a None phase best within =
    let found = best.best phase within in
    record { other = found.0; own = found.1; no_worse = no_worse a found.0 found.2 }
beaten trial a (Some given) phase is same =
    record { other = a; own = subst (λ n. IsAttempt trial n a) (sym same) is; no_worse = inr (refl, omega arith) }

joined : (s l t m u n : ℕ) → NoWorse s l t m → t ≤ u → m ≤ n → NoWorse s l u n
joined s l t m u n (inl less) short latest = inl (omega (arith, less, short))
joined s l t m u n (inr both) short latest =
    let same = both.0 in
    let le = both.1 in
    elim (cases_lt s u) [
      | inl less ↦ inl less
      | inr ge ↦ inr (omega (arith, same, short, ge), omega (arith, le, latest))
    ]

pub best_is_earliest : (trial : Trial) (a : Attempt) (phase : ℕ) (ps : List Placed) → IsTree trial.network.now → IsBest trial a
    → IsPhaseBy trial.message.now.period trial.message.now.phase phase → AreSpaced (in_phase trial phase) trial.message.now.receivers ps
    → IsNoLater trial phase ps a
best_is_earliest trial a phase ps tree best within spaced =
    let there = in_phase trial phase in
    let it = beaten trial a trial.message.now.phase phase best within in
    let before = all_before there trial.message.now.receivers it.other.placed.items ps tree it.own.rows spaced in
    let scores = scores_below there it.other.placed.items ps (no_score there) (no_score there) (omega arith, omega arith) before in
    let own = it.own.score in
    joined a.score.short a.score.latest it.other.score.short it.other.score.latest (score_of there ps).short (score_of there ps).latest it.no_worse
    (let short : it.other.score.short ≡ (score_of there it.other.placed.items).short = ap (λ (s : Score). s.short) own in let most = scores.0 in omega (arith, short, most))
    (let latest : it.other.score.latest ≡ (score_of there it.other.placed.items).latest = ap (λ (s : Score). s.latest) own in let most = scores.1 in omega (arith, latest, most))

-- ---- the best attempt of a message behind rows is one

-- trials of the same message in the same phase behind the same rows
pub record AreAlike (t u : Trial) : Type 0 where
  pub network : t.network.now ≡ u.network.now
  pub message : t.message.now ≡ u.message.now
  pub phase : t.phase ≡ u.phase
  pub rows : t.rows.now ≡ u.rows.now

-- ---- one row

least_one : {gamma beta : ℕ} {slot other : MessageRow} {from after : ℕ} {rows more : List Taken} {o p : ℕ} → gamma ≡ beta
    → slot ≡ other → from ≡ after → rows ≡ more → IsLeastOffset gamma slot from rows o
    → IsLeastOffset beta other after more p → o ≡ p
least_one {gamma} {beta} {slot} {other} {from} {after} {more} {o} {p} same_gamma same_slot same_from same_rows one two =
    let here : IsLeastOffset beta other after more o =
    subst (λ g. IsLeastOffset g other after more o) same_gamma
    (subst (λ s. IsLeastOffset gamma s after more o) same_slot
    (subst (λ f. IsLeastOffset gamma slot f more o) same_from (subst (λ rs. IsLeastOffset gamma slot from rs o) same_rows one))) in
    let less = here.least p two.not_before two.clear in
    let more = two.least o here.not_before here.clear in
    omega (arith, less, more)

abbrev slot_by : Hop → Network → Message → ℕ → MessageRow
slot_by hop network m phase = record { link = hop.link; way = hop.way; period = m.period; phase = phase; port = port_on network m.length hop.link }

slots_same : {t u : Trial} (hop : Hop) → AreAlike t u → slot_of t hop ≡ slot_of u hop
slots_same {t} {u} hop alike =
    ap (λ n. slot_by hop n t.message.now t.phase) alike.network
    ∙ ap (λ m. slot_by hop u.network.now m t.phase) alike.message
    ∙ ap (λ f. slot_by hop u.network.now u.message.now f) alike.phase

abbrev end_by : Hop → Network → Message → ℕ → ℕ
end_by hop network m offset = offset + port_on network m.length hop.link + delay_on network hop.link + tolerance network

ends_same : {t u : Trial} (hop : Hop) (offset other : ℕ) → AreAlike t u → offset ≡ other
    → end_of t hop offset ≡ end_of u hop other
ends_same {t} {u} hop offset other alike same =
    ap (λ n. end_by hop n t.message.now offset) alike.network
    ∙ ap (λ m. end_by hop u.network.now m offset) alike.message
    ∙ ap (λ o. end_by hop u.network.now u.message.now o) same

abbrev placed_by : Hop → ℕ → ℕ → Placed
placed_by hop offset end = record { hop = hop; offset = offset; end = end }

rows_same : (p q : Placed) → p.hop ≡ q.hop → p.offset ≡ q.offset → p.end ≡ q.end → p ≡ q
rows_same p q hop offset end =
    ap (λ h. placed_by h p.offset p.end) hop ∙ ap (λ o. placed_by q.hop o p.end) offset ∙ ap (λ e. placed_by q.hop q.offset e) end

at_one : {t u : Trial} {from after : ℕ} {hop : Hop} {p q : Placed} → AreAlike t u → from ≡ after
    → IsPlacedAt t from hop p → IsPlacedAt u after hop q → p ≡ q
at_one {hop} {p} {q} alike same one other =
    let offset = least_one
    (ap gamma_of alike.network) (slots_same hop alike) same alike.rows one.offset other.offset in
    rows_same p q (one.is ∙ sym other.is) offset (one.end ∙ ends_same hop p.offset q.offset alike offset ∙ sym
    other.end)

-- ---- a way, a receiver, all

pub way_rows_one : {t u : Trial} (from after : ℕ) (hops : List Hop) (ps qs : List Placed) → AreAlike t u
    → from ≡ after → IsPlacedWay t from hops ps → IsPlacedWay u after hops qs → ps ≡ qs
way_rows_one from after [] ps qs alike same none also = none ∙ sym also
way_rows_one from after (hop ∷ hops) ps qs alike same (p, rest, placed, way, is) (q, others, placed_too, also, too) =
    let first = at_one alike same placed placed_too in
    is ∙ ap (λ (x : Placed). x ∷ rest) first
    ∙ ap (λ (xs : List Placed). q ∷ xs) (way_rows_one (p.end + 1) (q.end + 1) hops rest others alike
    (ap (λ (x : Placed). x.end + 1) first) way also) ∙ sym too

starts_same : {t u : Trial} → AreAlike t u → start_of t ≡ start_of u
starts_same {t} {u} alike =
    ap (λ (n : Network). max (amount n.tt_start) (unwrap_or t.message.now.after 0)) alike.network
    ∙ ap (λ (m : Message). max (amount u.network.now.tt_start) (unwrap_or m.after 0)) alike.message

to_one : {t u : Trial} {channel : Channel} {receiver : DeviceId} {ps qs : List Placed} → IsTree u.network.now
    → AreAlike t u → IsPlacedTo t channel receiver ps → IsPlacedTo u channel receiver qs → ps ≡ qs
to_one {t} {u} {channel} {receiver} {ps} {qs} tree alike one other =
    let there : IsWay u.network.now u.message.now.sender receiver channel one.hops =
    subst (λ n. IsWay n u.message.now.sender receiver channel one.hops) alike.network
    (subst (λ (m : Message). IsWay t.network.now m.sender receiver channel one.hops) alike.message one.way) in
    let hops = way_one tree there other.way in
    way_rows_one (start_of t) (start_of u) other.hops ps qs alike (starts_same alike)
    (subst (λ hs. IsPlacedWay t (start_of t) hs ps) hops one.rows) other.rows

all_one : {t u : Trial} (receivers : List DeviceId) (ps qs : List Placed) → IsTree u.network.now → AreAlike t u
    → AreTried t receivers ps → AreTried u receivers qs → ps ≡ qs
all_one [] ps qs tree alike none also = none ∙ sym also
all_one (receiver ∷ receivers) ps qs tree alike (a, b, rest, on_a, on_b, tried, is)
    (c, d, others, at_a, at_b, also, too) =
    is ∙ ap (λ (xs : List Placed). xs ++ (b ++ rest)) (to_one tree alike on_a at_a)
    ∙ ap (λ (xs : List Placed). c ++ (xs ++ rest)) (to_one tree alike on_b at_b)
    ∙ ap (λ (xs : List Placed). c ++ (d ++ xs)) (all_one receivers rest others tree alike tried also) ∙ sym too

-- ---- the score

-- a trial with another network and message
abbrev with_these : Trial → Network → Message → Trial
with_these t network m = record {
  network = record { ref_ptr = t.network.ref_ptr; now = network };
  message = record { ref_ptr = t.message.ref_ptr; now = m };
  phase = t.phase;
  gamma = t.gamma;
  tolerance = t.tolerance;
  rows = t.rows;
}

scores_one : {t u : Trial} (ps qs : List Placed) → AreAlike t u → ps ≡ qs → score_of t ps ≡ score_of u qs
scores_one {t} {u} ps qs alike same =
    ap (λ n. score_of (with_these t n t.message.now) ps) alike.network
    ∙ ap (λ m. score_of (with_these t u.network.now m) ps) alike.message
    ∙ ap (λ xs. score_of (with_these t u.network.now u.message.now) xs) same

-- ---- an attempt

attempt_one : {t u : Trial} {phase : ℕ} {a b : Attempt} → IsTree u.network.now
    → AreAlike (in_phase t phase) (in_phase u phase) → IsAttempt t phase a → IsAttempt u phase b → IsSameAttempt a b
attempt_one {t} {u} {phase} {a} {b} tree alike one other =
    let here : AreTried (in_phase t phase) u.message.now.receivers a.placed.items =
    subst (λ (m : Message). AreTried (in_phase t phase) m.receivers a.placed.items) alike.message one.rows in
    let rows = all_one u.message.now.receivers a.placed.items b.placed.items tree alike here other.rows in
    record {
      phase = one.phase_is ∙ sym other.phase_is;
      rows = rows;
      score = one.score ∙ scores_one a.placed.items b.placed.items alike rows ∙ sym other.score;
    }

-- the one score is better
abbrev IsBetterBy : Score → Score → Type 0
IsBetterBy s t = (s.short < t.short) ⊎ ((s.short ≡ t.short) × (s.latest < t.latest))

-- what comes first comes first of what is the same
first_same : (a : Attempt) {b c : Attempt} → IsSameAttempt b c → ComesFirst a b → ComesFirst a c
first_same a same (inl (inl less)) = inl (inl (subst (λ (s : Score). a.score.short < s.short) same.score less))
first_same a same (inl (inr both)) =
    inl (inr (subst (λ (s : Score). a.score.short ≡ s.short) same.score both.0, subst (λ (s : Score). a.score.latest < s.latest) same.score both.1))
first_same a same (inr (not, early)) = inr (
  λ better. not (subst (λ s. IsBetterBy s a.score) (sym same.score) better),
  subst (λ n. a.phase ≤ n) same.phase early,
)

no_two : (a b : Attempt) → IsBetter a b → IsBetter b a → ⊥
no_two a b (inl one) (inl other) = omega (arith, one, other)
no_two a b (inl one) (inr both) = let same = both.0 in omega (arith, one, same)
no_two a b (inr both) (inl other) = let same = both.0 in omega (arith, other, same)
no_two a b (inr one) (inr other) = let less = one.1 in let more = other.1 in omega (arith, less, more)

phases_one : (a b : Attempt) → ComesFirst a b → ComesFirst b a → a.phase ≡ b.phase
phases_one a b (inl one) (inl other) = absurd (no_two a b one other)
phases_one a b (inl one) (inr (not, late)) = absurd (not one)
phases_one a b (inr (not, early)) (inl other) = absurd (not other)
phases_one a b (inr (not, early)) (inr (nor, late)) = omega (arith, early, late)

best_one : (t u : Trial) (given : Option ℕ) (a b : Attempt) → IsTree u.network.now → ((phase : ℕ) → AreAlike (in_phase t phase) (in_phase u phase))
    → t.message.now.period ≡ u.message.now.period → IsBestBy t given a → IsBestBy u given b → IsSameAttempt a b
best_one t u (Some phase) a b tree alike period one other = attempt_one tree (alike phase) one other
best_one t u None a b tree alike period one other =
    let inside = one.within in
    let outside = other.within in
    -- the attempt of the one in the phase of the other
    let mine = one.best b.phase (omega (arith, outside, period)) in
    let yours = other.best a.phase (omega (arith, inside, period)) in
    let at_mine = attempt_one tree (alike b.phase) mine.1 other.own in
    let at_yours = attempt_one tree (alike a.phase) one.own yours.1 in
    let back : IsSameAttempt yours.0 a = record { phase = sym at_yours.phase; rows = sym at_yours.rows; score = sym at_yours.score } in
    let phase : a.phase ≡ b.phase = phases_one a b (first_same a at_mine mine.2) (first_same b back yours.2) in
    attempt_one tree (alike b.phase) (subst (λ n. IsAttempt t n a) phase one.own) other.own

pub behind_one : (network : Network) (rows : List Taken) (m : Message) (a b : Attempt) → IsTree network → IsBestBehind network rows m a
    → IsBestBehind network rows m b → IsSameAttempt a b
behind_one network rows m a b tree one other =
    let t = one.trial in
    let u = other.trial in
    let networks : t.network.now ≡ u.network.now = one.of_message.network_is ∙ sym other.of_message.network_is in
    let messages : t.message.now ≡ u.message.now = one.of_message.message_is ∙ sym other.of_message.message_is in
    best_one t u u.message.now.phase a b (subst IsTree (sym other.of_message.network_is) tree)
    (λ phase. record { network = networks; message = messages; phase = refl; rows = one.of_message.rows_are ∙ sym other.of_message.rows_are })
    (ap (λ (n : Message). n.period) messages) (subst (λ (n : Message). IsBestBy t n.phase a) messages one.best) other.best

-- ---- the rows to one more receiver

tried_more : {trial : Trial} (receivers : List DeviceId) {receiver : DeviceId} (ps : List Placed) {a b : List Placed}
    → AreTried trial receivers ps → IsPlacedTo trial A receiver a → IsPlacedTo trial B receiver b
    → AreTried trial (receivers ++ receiver ∷ []) (ps ++ (a ++ b))
tried_more [] ps {a} {b} none on_a on_b =
    (a, b, [], on_a, on_b, refl, ap (λ (qs : List Placed). qs ++ (a ++ b)) none ∙ ap (λ (qs : List Placed). a ++ qs) (sym (append-nil b)))
tried_more (r ∷ receivers) ps {a} {b} (c, d, others, on_c, on_d, rest, same) on_a on_b = (
  c,
  d,
  others ++ (a ++ b),
  on_c,
  on_d,
  tried_more receivers others rest on_a on_b,
  ap (λ (qs : List Placed). qs ++ (a ++ b)) same ∙ append_assoc c (d ++ others) (a ++ b) ∙ ap (λ (qs : List Placed). c ++ qs) (append_assoc d others (a ++ b)),
)

pub tried_next : {trial : Trial} (receivers : List DeviceId) (n : ℕ) (d : DeviceId) (now mid new : List Placed)
    {a b : List Placed} → n < length receivers → AreTried trial (take n receivers) now
    → IsPlacedTo trial A (get_or receivers n d) a → mid ≡ now ++ a → IsPlacedTo trial B (get_or receivers n d) b
    → new ≡ mid ++ b → AreTried trial (take (n + 1) receivers) new
tried_next {trial} receivers n d now mid new {a} {b} within before on_a first on_b second =
    let whole : new ≡ now ++ (a ++ b) = second ∙ ap (λ (qs : List Placed). qs ++ b) first ∙ append_assoc now a b in
    subst (AreTried trial (take (n + 1) receivers)) (sym whole)
    (subst (λ rs. AreTried trial rs (now ++ (a ++ b))) (sym (take_more receivers n d within))
    (tried_more (take n receivers) now before on_a on_b))

-- ---- one more row of a way

-- where the row behind these begins
abbrev pub after : ℕ → List Placed → ℕ
after from [] = from
after from (p ∷ ps) = after (p.end + 1) ps

-- the rows of these hops were added, and the next one begins there
pub record HasPlaced (trial : Trial) (start : ℕ) (hops : List Hop) (from : ℕ) (old new : List Placed) : Type 0 where
  pub added : List Placed
  pub way : IsPlacedWay trial start hops added
  pub next : from ≡ after start added
  pub same : new ≡ old ++ added

pub placed_first : (trial : Trial) (start : ℕ) (old : List Placed) → HasPlaced trial start [] start old old
placed_first trial start old = record { added = []; way = refl; next = refl; same = sym (append-nil old) }

way_more : {trial : Trial} (start : ℕ) (hops : List Hop) (ps : List Placed) {hop : Hop} {p : Placed}
    → IsPlacedWay trial start hops ps → IsPlacedAt trial (after start ps) hop p
    → IsPlacedWay trial start (hops ++ hop ∷ []) (ps ++ p ∷ [])
way_more {trial} start [] ps {hop} {p} none is =
    (p, [], subst (λ qs. IsPlacedAt trial (after start qs) hop p) none is, refl, ap (λ (qs : List Placed). qs ++ p ∷ []) none)
way_more {trial} start (h ∷ hops) ps {hop} {p} (q, others, at, rest, same) is = (
  q,
  others ++ p ∷ [],
  at,
  way_more (q.end + 1) hops others rest (subst (λ qs. IsPlacedAt trial (after start qs) hop p) same is),
  ap (λ (qs : List Placed). qs ++ p ∷ []) same,
)

pub after_more : (start : ℕ) (ps : List Placed) (p : Placed) → after start (ps ++ p ∷ []) ≡ p.end + 1
after_more start [] p = refl
after_more start (q ∷ ps) p = after_more (q.end + 1) ps p

pub placed_next : {trial : Trial} {start : ℕ} (hops : List Hop) (n : ℕ) {from : ℕ} {old now : List Placed}
    (new : List Placed) (d : Hop) {p : Placed} → n < length hops → HasPlaced trial start (take n hops) from old now
    → IsPlacedAt trial from (get_or hops n d) p → new ≡ now ++ p ∷ []
    → HasPlaced trial start (take (n + 1) hops) (p.end + 1) old new
placed_next {trial} {start} hops n {old} new d {p} within before is more =
    let added = before.added ++ p ∷ [] in
    let here = subst (λ x. IsPlacedAt trial x (get_or hops n d) p) before.next is in
    record {
      added = added;
      way = subst (λ hs. IsPlacedWay trial start hs added) (sym (take_more hops n d within))
          (way_more start (take n hops) before.added before.way here);
      next = sym (after_more start before.added p);
      same = more ∙ ap (λ (qs : List Placed). qs ++ p ∷ []) before.same ∙ append_assoc old before.added (p ∷ []);
    }

-- ---- the best of several attempts

-- of pairs that are compared from the left
Less : ℕ → ℕ → ℕ → ℕ → Type 0
Less s l t m = (s < t) ⊎ ((s ≡ t) × (l < m))

less_same : (s l : ℕ) → Less s l s l → ⊥
unfolding Less
less_same s l (inl lt) = omega (arith, lt)
less_same s l (inr both) = let lt = both.1 in omega (arith, lt)

less_less : (s l t m u n : ℕ) → Less s l t m → Less t m u n → Less s l u n
unfolding Less
less_less s l t m u n (inl a) (inl b) = inl (omega (arith, a, b))
less_less s l t m u n (inl a) (inr b) = inl (let same = b.0 in omega (arith, a, same))
less_less s l t m u n (inr a) (inl b) = inl (let same = a.0 in omega (arith, b, same))
less_less s l t m u n (inr a) (inr b) = let p = a.0 in let q = b.0 in let x = a.1 in let y = b.1 in inr (omega (arith, p, q), omega (arith, x, y))

less_not : (s l t m u n : ℕ) → Less s l t m → (Less u n t m → ⊥) → Less s l u n
unfolding Less
less_not s l t m u n less not =
    elim (cases_lt s u) [
      | inl lt ↦ inl lt
      | inr ge ↦ elim (cases_lt u t) [
        | inl lt ↦ absurd (not (inl lt))
        | inr past ↦ elim less [
          | inl lt ↦ absurd (omega (arith, ge, past, lt))
          | inr both ↦
              let same = both.0 in
              let lesser = both.1 in
              let here : u ≡ t = omega (arith, same, ge, past) in
              elim (cases_lt n m) [
                | inl lt ↦ absurd (not (inr (here, lt)))
                | inr more ↦ inr (omega (arith, same, here), omega (arith, lesser, more))
              ]
        ]
      ]
    ]

itself : (a : Attempt) → ComesFirst a a
unfolding Less
itself a = inr (less_same a.score.short a.score.latest, omega arith)

pub first_best : {trial : Trial} {a : Attempt} → IsAttempt trial 0 a → IsBestBelow trial 1 a
first_best {trial} {a} is = record {
  within = let phase = is.phase_is in omega (arith, phase);
  own = subst (λ n. IsAttempt trial n a) (sym is.phase_is) is;
  best = λ phase below. (a, subst (λ n. IsAttempt trial n a) (let e : 0 ≡ phase = omega (arith, below) in e) is, itself a);
}

-- the new one is better
better_first : (a b c : Attempt) → IsBetter a b → ComesFirst b c → ComesFirst a c
unfolding Less
better_first a b c better (inl first) =
    inl (less_less a.score.short a.score.latest b.score.short b.score.latest c.score.short c.score.latest better first)
better_first a b c better (inr (not, early)) =
    inl (less_not a.score.short a.score.latest b.score.short b.score.latest c.score.short c.score.latest better not)

module _ {trial : Trial} {n : ℕ} {best other : Attempt} (before : IsBestBelow trial n best)
    (is : IsAttempt trial n other) where
  pub best_new : IsBetter other best → IsBestBelow trial (n + 1) other
  best_new better = record {
    within = let phase = is.phase_is in omega (arith, phase);
    own = subst (λ k. IsAttempt trial k other) (sym is.phase_is) is;
    best = λ phase below.
        elim (cases_lt phase n) [
          | inl lt ↦
              let found = before.best phase lt in
              (found.0, found.1, better_first other best found.0 better found.2)
          | inr ge ↦ (other, subst (λ k. IsAttempt trial k other) (let e : n ≡ phase = omega (arith, below, ge) in e) is, itself other)
        ];
  }

  -- it is not
  pub best_old : (IsBetter other best → ⊥) → IsBestBelow trial (n + 1) best
  best_old not = record {
    within = let within = before.within in omega (arith, within);
    own = before.own;
    best = λ phase below.
        elim (cases_lt phase n) [
          | inl lt ↦ before.best phase lt
          | inr ge ↦ (
            other,
            subst (λ k. IsAttempt trial k other) (let e : n ≡ phase = omega (arith, below, ge) in e) is,
            inr (not, (let within = before.within in let phase = is.phase_is in omega (arith, within, phase))),
          )
        ];
  }

-- ---- one more message inserted by its room

pub pairs_head : (R : ℕ → ℕ → Type 0) (x : ℕ) (xs : List ℕ) → AllPairs R (x ∷ xs) → All (R x) xs
pairs_head R x xs pairs k d within = pairs 0 (suc k) d (omega arith) (omega (arith, within))

pub pairs_tail : (R : ℕ → ℕ → Type 0) (x : ℕ) (xs : List ℕ) → AllPairs R (x ∷ xs) → AllPairs R xs
pairs_tail R x xs pairs i j d less within = pairs (suc i) (suc j) d (omega (arith, less)) (omega (arith, within))

module _ (attempts : List Attempt) (place : ℕ) where
  -- has the other more room?
  abbrev pub has_more : ℕ → Bool
  has_more other = nat_lt (room_of attempts place) (room_of attempts other)

  pub more_room : (other a b : ℕ) → a ≡ room_of attempts place → b ≡ room_of attempts other → a < b → has_more other ≡ true
  more_room other a b here there less =
      let more : room_of attempts place < room_of attempts other = omega (arith, here, there, less) in
      grind (arith, nat_tests, more)

  -- what comes behind one of more room does so too
  before_more : (x other : ℕ) → room_of attempts place < room_of attempts x → ComesBefore attempts x other → ComesBefore attempts place other
  before_more x other more (inl less) = inl (omega (arith, more, less))
  before_more x other more (inr both) = let same = both.0 in inl (omega (arith, more, same))

  -- one of no more room and of an earlier line comes before it
  before_it : (x : ℕ) → has_more x ≡ false → x < place → ComesBefore attempts x place
  before_it x no_more earlier =
      elim (cases_lt (room_of attempts x) (room_of attempts place)) [
        | inl less ↦ inl less
        | inr ge ↦ inr (grind (arith, nat_tests, no_more, ge), earlier)
      ]

  inserted_by : (x : ℕ) (order : List ℕ) (b : Bool) → has_more x ≡ b → AllPairs (ComesBefore attempts) (x ∷ order)
      → All (λ other. other < place) (x ∷ order) → AllPairs (ComesBefore attempts) (insert order (position_or_len has_more order) place)
      → AllPairs (ComesBefore attempts) (insert (x ∷ order) (cond (not b) (1 + position_or_len has_more order) 0) place)
  inserted_by x order true e pairs earlier later =
      let more : room_of attempts place < room_of attempts x = grind (arith, nat_tests, e) in
      AllPairs-cons (ComesBefore attempts) place (x ∷ order)
      (All-cons (ComesBefore attempts place) x order (inl more)
      (λ k d within. before_more x (get_or order k d) more (pairs_head (ComesBefore attempts) x order pairs k d within))) pairs
  inserted_by x order false e pairs earlier later =
      let n = position_or_len has_more order in
      let first = before_it x e (All-head (λ other. other < place) x order earlier) in
      subst (λ (k : ℕ). AllPairs (ComesBefore attempts) (insert (x ∷ order) k place)) (let same : suc n ≡ 1 + n = omega arith in same)
      (AllPairs-cons (ComesBefore attempts) x (insert order n place)
      (All-permutation (ComesBefore attempts x) (place ∷ order) (insert order n place) (IsPermutation-insert order n place)
      (All-cons (ComesBefore attempts x) place order first (pairs_head (ComesBefore attempts) x order pairs))) later)

  pub inserted : (order : List ℕ) → AllPairs (ComesBefore attempts) order → All (λ other. other < place) order
      → AllPairs (ComesBefore attempts) (insert order (position_or_len has_more order) place)
  inserted [] pairs earlier = AllPairs-cons (ComesBefore attempts) place [] (All-nil (ComesBefore attempts place)) pairs
  inserted (x ∷ order) pairs earlier =
      inserted_by x order (has_more x) refl pairs earlier
      (inserted order (pairs_tail (ComesBefore attempts) x order pairs) (All-tail (λ other. other < place) x order earlier))

-- What is told of flows: the sums of deliveries and the least distances, and that it is one.
use Rattle.std.{specs.{Int.int_rem_euclid, Prelude.{if◌then◌else◌, ◌&&◌, All, None, Option, Some, filter, min}}}
use Rattle.std.proofs.Common
use Common.{◌++◌, ◌+◌, ◌-ℤ◌, ◌<◌, ◌^◌, ◌∙◌, ◌∷◌, ◌≡◌, ◌≤◌, ◌⊎◌, Bool, List, [], ap, arith, false, inl, inr, length, map}
use Common.{pos, refl, subst, suc, sym, take, true, zero, ℕ, ℤ}
use Rattle.std.proofs.lemmas.{Bool.cases_lt, Int.ints}
use Rattle.std.proofs.lemmas.List.{Elements.{All-append, All-cons, All-head, All-nil, All-tail}, length-append}
use Rattle.std.proofs.lemmas.List.{map-append}
use Rattle.lens_flows.{proofs.counts_lemmas.Orders.{in_last, in_two}}
use Rattle.lens_flows.specs.counts.{Counted.{AreFateCounts, HasFateAt}, FlowLists.{AreFlows, IsFlowBefore}}
use Rattle.lens_flows.specs.counts.{Nearest.{IsInside, IsInsideRow, IsInsideSome, TellsLeast, nearer, place_at}}
use Rattle.lens_flows.specs.counts.{Ordered.{AreAll, IsCountOf, IsOrdered}, Told.{AreToldOf, IsTold}}
use Rattle.lens_flows.specs.counts.Deliveries.{AreDeliveries, IsDeliveredWithin, IsOneMore, delivered, delivered_more}
use Rattle.lens_flows.specs.counts.Deliveries.{delivered_on, is_of, is_on, one_if}
use Rattle.lens_flows.specs.declared.{judge.{course.Course.Course, flow.Flow.Flow}}
use Rattle.lens_flows.specs.declared.counts.{counting.FateCounts.FateCounts}
use Rattle.lens_flows.specs.declared.counts.{deliveries.{Deliveries.Deliveries, Delivery.Delivery}}
use Rattle.lens_flows.specs.declared.counts.{nearest.Nearest.Nearest, told.FlowTold.FlowTold}
use Rattle.lens_flows.specs.judge.{Certain.IsCertainAt, Courses.{IsCourse, scenario_of}}
use Rattle.lens_flows.specs.judge.{Flows.{AreWithin, IsFlow, IsRowOf}}
use Rattle.net_plan.specs.declared.{event.Event.Event, ids.LinkId.LinkId, network.Network.Network}
use Rattle.run_law.{proofs.runs.Places.in_left}
use Rattle.run_law.{specs.{records.{Happenings.Happening, Order.IsIn}, scenario.Scenarios.Scenario}}
use Rattle.schedule_tables.specs.declared.window.Window.{Window}
use Rattle.tte_units.{proofs.general_lemmas.{Bools.not_both, Lists.{filter_off, filter_on}}}
use Rattle.tte_units.{specs.declared.frames.channel.Channel.TheVariants.{A, B}}
use Rattle.lens_flows.specs.declared.judge.fate.Fate.TheVariants as fates

-- ---- the least distances of two kinds, and of all rows

-- what comes after the first of the two
pub least_both : (P Q R : ℕ → ℕ → Type 0) (a b : Option Nearest) → ((x y : ℕ) → P x y → R x y) → ((x y : ℕ) → Q x y → R x y)
    → ((x y : ℕ) → R x y → P x y ⊎ Q x y) → TellsLeast P a → TellsLeast Q b → TellsLeast R (nearer a b)
least_both P Q R None None from_p from_q split none never = λ x y is. elim (split x y is) [ inl p ↦ none x y p | inr q ↦ never x y q ]
least_both P Q R None (Some n) from_p from_q split none least = record {
  early_there = (least.early_there.0, from_q n.early least.early_there.0 least.early_there.1);
  late_there = (least.late_there.0, from_q least.late_there.0 n.late least.late_there.1);
  least = λ x y is. elim (split x y is) [ inl p ↦ absurd (none x y p) | inr q ↦ least.least x y q ];
}
least_both P Q R (Some n) None from_p from_q split least none = record {
  early_there = (least.early_there.0, from_p n.early least.early_there.0 least.early_there.1);
  late_there = (least.late_there.0, from_p least.late_there.0 n.late least.late_there.1);
  least = λ x y is. elim (split x y is) [ inl p ↦ least.least x y p | inr q ↦ absurd (none x y q) ];
}
least_both P Q R (Some n) (Some m) from_p from_q split first second = record {
  early_there = elim (cases_lt n.early m.early) [
    | inl less ↦
        let same : n.early ≡ min n.early m.early = omega (arith, less) in
        (first.early_there.0, subst (λ (x : ℕ). R x first.early_there.0) same (from_p n.early first.early_there.0 first.early_there.1))
    | inr more ↦
        let same : m.early ≡ min n.early m.early = omega (arith, more) in
        (second.early_there.0, subst (λ (x : ℕ). R x second.early_there.0) same (from_q m.early second.early_there.0 second.early_there.1))
  ];
  late_there = elim (cases_lt n.late m.late) [
    | inl less ↦
        let same : n.late ≡ min n.late m.late = omega (arith, less) in
        (first.late_there.0, subst (R first.late_there.0) same (from_p first.late_there.0 n.late first.late_there.1))
    | inr more ↦
        let same : m.late ≡ min n.late m.late = omega (arith, more) in
        (second.late_there.0, subst (R second.late_there.0) same (from_q second.late_there.0 m.late second.late_there.1))
  ];
  least = λ x y is. elim (split x y is) [
    | inl p ↦ let l = first.least x y p in let early = l.0 in let late = l.1 in (omega (arith, early), omega (arith, late))
    | inr q ↦ let l = second.least x y q in let early = l.0 in let late = l.1 in (omega (arith, early), omega (arith, late))
  ];
}

pub least_same : (P Q : ℕ → ℕ → Type 0) (a : Option Nearest) → ((x y : ℕ) → P x y → Q x y) → ((x y : ℕ) → Q x y → P x y) → TellsLeast P a → TellsLeast Q a
least_same P Q None to back none = λ x y q. none x y (back x y q)
least_same P Q (Some n) to back least = record {
  early_there = (least.early_there.0, to n.early least.early_there.0 least.early_there.1);
  late_there = (least.late_there.0, to least.late_there.0 n.late least.late_there.1);
  least = λ x y q. least.least x y (back x y q);
}

-- one pair of distances
pub inside_least : (window : Window) (place : ℤ) (early late : ℕ) → pos early ≡ place -ℤ window.from.0 → pos late ≡ window.to.0 -ℤ place
    → TellsLeast (IsInside window place) (Some (record { early = early; late = late }))
inside_least window place early late behind before = record {
  early_there = (late, record { behind = behind; before = before });
  late_there = (early, record { behind = behind; before = before });
  least = λ x y is.
      let far = is.behind in
      let near = is.before in
      (omega (arith, ints, behind, far), omega (arith, ints, before, near));
}

-- ---- the rows

row_of : {network : Network} {flow : Flow} {link : LinkId} {place : ℤ} {k x y : ℕ} → IsInsideRow network flow link place k x y
    → IsRowOf network flow.vl k
row_of at = record { row = at.entry.row; is = at.is.row; of_vl = at.of_vl }

-- a row before this place
abbrev pub IsInsideBefore : Network → Flow → LinkId → ℤ → ℕ → ℕ → ℕ → Type 0
IsInsideBefore network flow link place n early late = (k : ℕ) × (k < n) × IsInsideRow network flow link place k early late

module _ (network : Network) (flow : Flow) (link : LinkId) (place : ℤ) where
  pub inside_none : AreWithin network flow.vl flow.rows → (x y : ℕ) → IsInsideBefore network flow link place flow.rows.from x y → ⊥
  inside_none within x y (k, lt, at) = let ge = (within.all k (row_of at)).0 in omega (arith, lt, ge)

  pub inside_more : (n : ℕ) (last found new : Option Nearest) → new ≡ nearer last found
      → TellsLeast (IsInsideBefore network flow link place n) last
      → TellsLeast (IsInsideRow network flow link place n) found
      → TellsLeast (IsInsideBefore network flow link place (n + 1)) new
  inside_more n last found new is before here =
      subst (TellsLeast (IsInsideBefore network flow link place (n + 1))) (sym is)
      (least_both (IsInsideBefore network flow link place n) (IsInsideRow network flow link place n)
      (IsInsideBefore network flow link place (n + 1)) last found
      (λ x y h. let lt = h.1 in (h.0, omega (arith, lt), h.2)) (λ x y at. (n, omega arith, at))
      (λ x y h. elim (cases_lt h.0 n) [
        | inl less ↦ inl (h.0, less, h.2)
        | inr more ↦
            let lt = h.1 in
            let same : h.0 ≡ n = omega (arith, lt, more) in
            inr (subst (λ k. IsInsideRow network flow link place k x y) same h.2)
      ]) before here)

  pub inside_all : (n : ℕ) (last : Option Nearest) → AreWithin network flow.vl flow.rows → flow.rows.to ≤ n
      → TellsLeast (IsInsideBefore network flow link place n) last
      → TellsLeast (IsInsideSome network flow link place) last
  inside_all n last within all tells =
      least_same (IsInsideBefore network flow link place n) (IsInsideSome network flow link place) last
      (λ x y h. (h.0, h.2))
      (λ x y h. let lt = (within.all h.0 (row_of h.1)).1 in (h.0, omega (arith, lt, all), h.1)) tells

-- ---- the place in a cycle

-- what a remainder comes to
pub record IsSmallRest (z d : ℤ) : Type 0 where
  pub number : ℕ
  pub is : int_rem_euclid z d ≡ pos number
  pub small : number ≤ 2 ^ 40

-- ---- what is told of flows is one: two lists of all things of a kind are one

-- no two things are each before the other
abbrev pub IsOneWay : {X : Type 0} → (X → X → Type 0) → Type 0
IsOneWay {X} Before = (x y : X) → Before x y → Before y x → ⊥

heads_one : {X : Type 0} (Before : X → X → Type 0) → IsOneWay Before → (x y : X) (xs ys : List X) → IsOrdered Before (x ∷ xs) → IsOrdered Before (y ∷ ys)
    → IsIn x (y ∷ ys) → IsIn y (x ∷ xs) → x ≡ y
heads_one {X} Before way x y xs ys first second (inl same) back = same
heads_one {X} Before way x y xs ys first second (inr there) (inl same) = sym same
heads_one {X} Before way x y xs ys first second (inr there) (inr back) = absurd (way x y (first.0 y back) (second.0 x there))

in_tail : {X : Type 0} (Before : X → X → Type 0) → IsOneWay Before → (x y z : X) (xs ys : List X) → IsOrdered Before (x ∷ xs) → x ≡ y → IsIn z xs
    → IsIn z (y ∷ ys) → IsIn z ys
in_tail {X} Before way x y z xs ys first same i (inr there) = there
in_tail {X} Before way x y z xs ys first same i (inl is) =
    let before : Before x x = subst (λ v. Before x v) (is ∙ sym same) (first.0 z i) in
    absurd (way x x before before)

lists_one : {X : Type 0} (Before : X → X → Type 0) → IsOneWay Before → (xs ys : List X) → IsOrdered Before xs → IsOrdered Before ys
    → ((z : X) → IsIn z xs → IsIn z ys) → ((z : X) → IsIn z ys → IsIn z xs) → xs ≡ ys
lists_one {X} Before way [] [] first second to back = refl
lists_one {X} Before way [] (y ∷ ys) first second to back = absurd (back y (inl refl))
lists_one {X} Before way (x ∷ xs) [] first second to back = absurd (to x (inl refl))
lists_one {X} Before way (x ∷ xs) (y ∷ ys) first second to back =
    let same = heads_one Before way x y xs ys first second (to x (inl refl)) (back y (inl refl)) in
    ap (λ (v : X). v ∷ xs) same
    ∙ ap (λ (zs : List X). y ∷ zs) (lists_one Before way xs ys first.1 second.1
    (λ z i. in_tail Before way x y z xs ys first same i (to z (inr i)))
    (λ z i. in_tail Before way y x z ys xs second (sym same) i (back z (inr i))))

pub all_one : {X : Type 0} (IsSo : X → Type 0) (Before : X → X → Type 0) {xs ys : List X} → IsOneWay Before
    → AreAll IsSo Before xs → AreAll IsSo Before ys → xs ≡ ys
all_one {X} IsSo Before {xs} {ys} way a b =
    lists_one Before way xs ys a.in_order b.in_order (λ z i. b.all z (a.each z i)) (λ z i. a.all z (b.each z i))

pub count_one : (IsSo : ℕ → Type 0) (n m : ℕ) → IsCountOf IsSo n → IsCountOf IsSo m → n ≡ m
count_one IsSo n m (ts, are, is) (us, those, same) =
    let lists = all_one IsSo (λ t u. t < u) (λ t u lt gt. omega (arith, lt, gt)) are those in
    is ∙ ap (λ xs. length xs) lists ∙ sym same

flows_way : IsOneWay IsFlowBefore
flows_way a b (inl lt) (inl gt) = omega (arith, lt, gt)
flows_way a b (inl lt) (inr at) = let same = at.0 in omega (arith, lt, same)
flows_way a b (inr at) (inl gt) = let same = at.0 in omega (arith, gt, same)
flows_way a b (inr at) (inr on) = let lt = at.1 in let gt = on.1 in omega (arith, lt, gt)

pub flows_one : (network : Network) {xs ys : List Flow} → AreFlows network xs → AreFlows network ys → xs ≡ ys
flows_one network a b = all_one (IsFlow network) IsFlowBefore flows_way a b

-- ---- what is told of one flow

least_one : (Are : ℕ → ℕ → Type 0) (a b : Option Nearest) → TellsLeast Are a → TellsLeast Are b → a ≡ b
least_one Are None None none never = refl
least_one Are None (Some n) none least = absurd (none n.early least.early_there.0 least.early_there.1)
least_one Are (Some n) None least none = absurd (none n.early least.early_there.0 least.early_there.1)
least_one Are (Some n) (Some m) first second =
    let early = (first.least m.early second.early_there.0 second.early_there.1).0 in
    let sooner = (second.least n.early first.early_there.0 first.early_there.1).0 in
    let late = (first.least second.late_there.0 m.late second.late_there.1).1 in
    let later = (second.least first.late_there.0 n.late first.late_there.1).1 in
    let earlies : n.early ≡ m.early = omega (arith, early, sooner) in
    let lates : n.late ≡ m.late = omega (arith, late, later) in
    ap (λ (x : ℕ). Some (record { early = x; late = n.late })) earlies ∙ ap (λ (y : ℕ). Some (record { early = m.early; late = y })) lates

fates_one : (s : Scenario) (hs : List Happening) (until : ℕ) (flow : Flow) (a b : FateCounts) → AreFateCounts s hs until flow a
    → AreFateCounts s hs until flow b → a ≡ b
fates_one s hs until flow a b p q =
    let owed = count_one (HasFateAt s hs until flow fates.Owed) a.owed b.owed (p fates.Owed) (q fates.Owed) in
    let receiver = count_one (HasFateAt s hs until flow fates.Receiver) a.receiver b.receiver (p fates.Receiver) (q fates.Receiver) in
    let sender = count_one (HasFateAt s hs until flow fates.Sender) a.sender b.sender (p fates.Sender) (q fates.Sender) in
    let end = count_one (HasFateAt s hs until flow fates.End) a.end b.end (p fates.End) (q fates.End) in
    ap (λ n. made n a.receiver a.sender a.end) owed ∙ ap (λ n. made b.owed n a.sender a.end) receiver
    ∙ ap (λ n. made b.owed b.receiver n a.end) sender ∙ ap (λ n. made b.owed b.receiver b.sender n) end
  where
    made : ℕ → ℕ → ℕ → ℕ → FateCounts
    made o r t e = record { owed = o; receiver = r; sender = t; end = e }

deliveries_one : {s : Scenario} {hs : List Happening} {ds : List Delivery} {flow : Flow} {a b : Deliveries}
    → AreDeliveries s hs ds flow a → AreDeliveries s hs ds flow b → a ≡ b
deliveries_one {s} {hs} {ds} {flow} {a} {b} p q =
    ap (λ n. made n a.by_a a.by_b a.nearest) (p.total ∙ sym q.total)
    ∙ ap (λ n. made b.total n a.by_b a.nearest) (p.by_a ∙ sym q.by_a)
    ∙ ap (λ n. made b.total b.by_a n a.nearest) (p.by_b ∙ sym q.by_b)
    ∙ ap (λ o. made b.total b.by_a b.by_b o) (least_one (IsDeliveredWithin s hs ds flow) a.nearest b.nearest p.nearest q.nearest)
  where
    made : ℕ → ℕ → ℕ → Option Nearest → Deliveries
    made n x y o = record { total = n; by_a = x; by_b = y; nearest = o }

module _ (s : Scenario) (hs : List Happening) (until : ℕ) (ds : List Delivery) where
  told_one : {a b : FlowTold} → a.flow ≡ b.flow → IsTold s hs until ds a → IsTold s hs until ds b → a ≡ b
  told_one {a} {b} same p q =
      let counts = subst (λ f. AreFateCounts s hs until f a.fates) same p.fates in
      let sure = subst (λ f. IsCountOf (IsCertainAt s hs until f) a.certain) same p.certain in
      let certain = count_one (IsCertainAt s hs until b.flow) a.certain b.certain sure q.certain in
      let came = subst (λ f. AreDeliveries s hs ds f a.deliveries) same p.deliveries in
      ap (λ f. made f a.fates a.certain a.deliveries) same
      ∙ ap (λ c. made b.flow c a.certain a.deliveries)
      (fates_one s hs until b.flow a.fates b.fates counts q.fates)
      ∙ ap (λ n. made b.flow b.fates n a.deliveries) certain
      ∙ ap (λ d. made b.flow b.fates b.certain d) (deliveries_one came q.deliveries)
    where
      made : Flow → FateCounts → ℕ → Deliveries → FlowTold
      made f c n d = record { flow = f; fates = c; certain = n; deliveries = d }

  -- ---- and of all flows

  pub all_told_one : (xs ys : List FlowTold) → map (λ (t : FlowTold). t.flow) xs ≡ map (λ (t : FlowTold). t.flow) ys
      → All (IsTold s hs until ds) xs → All (IsTold s hs until ds) ys → xs ≡ ys
  all_told_one [] [] same p q = refl
  all_told_one [] (y ∷ ys) same p q = absurd cc
  all_told_one (x ∷ xs) [] same p q = absurd cc
  all_told_one (x ∷ xs) (y ∷ ys) same p q =
      let heads : x.flow ≡ y.flow = cc in
      let tails : map (λ (t : FlowTold). t.flow) xs ≡ map (λ (t : FlowTold). t.flow) ys = cc in
      ap (λ (t : FlowTold). t ∷ xs) (told_one heads (All-head (IsTold s hs until ds) x xs p)
      (All-head (IsTold s hs until ds) y ys q))
      ∙ ap (λ (ts : List FlowTold). y ∷ ts) (all_told_one xs ys tails (All-tail (IsTold s hs until ds) x xs p)
      (All-tail (IsTold s hs until ds) y ys q))

-- ---- what is counted of the deliveries of a flow, one delivery after another

counted_on : {X : Type 0} (p : X → Bool) (xs : List X) (x : X) → length (filter p (xs ++ x ∷ [])) ≡ length (filter p xs) + one_if (p x)
counted_on {X} p xs x = by (p x) refl
  where
    by : (b : Bool) → p x ≡ b → length (filter p (xs ++ x ∷ [])) ≡ length (filter p xs) + one_if (p x)
    by true is =
        let grown = ap length (filter_on p xs x is) ∙ length-append (filter p xs) (x ∷ []) in
        grown ∙ ap (λ c. length (filter p xs) + one_if c) (sym is)
    by false is =
        ap length (filter_off p xs x is) ∙ sum ∙ ap (λ c. length (filter p xs) + one_if c) (sym is)
      where
        sum : length (filter p xs) ≡ length (filter p xs) + 0
        sum = omega arith

few_passed : {X : Type 0} (p : X → Bool) (xs : List X) → length (filter p xs) ≤ length xs
few_passed {X} p [] = omega arith
few_passed {X} p (x ∷ xs) = by (p x) (few_passed p xs)
  where
    by : (b : Bool) → length (filter p xs) ≤ length xs → length (if b then x ∷ filter p xs else filter p xs) ≤ length (x ∷ xs)
    by true le = omega (arith, le)
    by false le = omega (arith, le)

pub taken_short : {X : Type 0} (n : ℕ) (xs : List X) → length (take n xs) ≤ length xs
taken_short {X} zero xs = omega arith
taken_short {X} (suc n) [] = omega arith
taken_short {X} (suc n) (x ∷ xs) = let le = taken_short n xs in omega (arith, le)

-- what is counted is no more than the deliveries
pub few_counted : {s : Scenario} {hs : List Happening} {ds : List Delivery} {flow : Flow} {counted : Deliveries}
    → AreDeliveries s hs ds flow counted → (counted.total ≤ length ds) × (counted.by_a ≤ length ds)
    × (counted.by_b ≤ length ds)
few_counted {s} {ds} {flow} are =
    let total = are.total in
    let by_a = are.by_a in
    let by_b = are.by_b in
    let few = few_passed (λ (d : Delivery). is_of flow d) ds in
    let few_a = few_passed (λ (d : Delivery). is_of flow d && is_on s.network A d) ds in
    let few_b = few_passed (λ (d : Delivery). is_of flow d && is_on s.network B d) ds in
    (omega (arith, total, few), omega (arith, by_a, few_a), omega (arith, by_b, few_b))

pub none_delivered : (s : Scenario) (hs : List Happening) (flow : Flow) → AreDeliveries s hs [] flow (record { total = 0; by_a = 0; by_b = 0; nearest = None })
none_delivered s hs flow = record { total = refl; by_a = refl; by_b = refl; nearest = λ x y d. absurd d.there }

-- ---- one more

wider : (s : Scenario) (hs : List Happening) (ds : List Delivery) (d : Delivery) (flow : Flow) (x y : ℕ) → IsDeliveredWithin s hs ds flow x y
    → IsDeliveredWithin s hs (ds ++ d ∷ []) flow x y
wider s hs ds d flow x y is = record { delivery = is.delivery; there = in_left is.delivery ds (d ∷ []) is.there; of_flow = is.of_flow; inside = is.inside }

-- the distances of one delivery
abbrev IsHere : Scenario → List Happening → Flow → Delivery → ℕ → ℕ → Type 0
IsHere s hs flow d x y = IsInsideSome s.network flow d.link (place_at s hs flow.device d.time) x y

split : {s : Scenario} {hs : List Happening} (ds : List Delivery) (d : Delivery) {flow : Flow} {x y : ℕ}
    → IsDeliveredWithin s hs (ds ++ d ∷ []) flow x y → IsDeliveredWithin s hs ds flow x y
    ⊎ ((is_of flow d ≡ true) × IsHere s hs flow d x y)
split {s} {hs} ds d {flow} {x} {y} is =
    elim (in_two is.delivery ds d is.there) [
      | inl old ↦ inl (record { delivery = is.delivery; there = old; of_flow = is.of_flow; inside = is.inside })
      | inr same ↦ inr (
        subst (λ e. is_of flow e ≡ true) same is.of_flow,
        subst (λ e. IsHere s hs flow e x y) same is.inside,
      )
    ]

of_one : (b c : Bool) → b ≡ true → one_if (b && c) ≡ one_if c
of_one b c is = ap (λ (e : Bool). one_if (e && c)) is

of_none : (b c : Bool) → b ≡ false → one_if (b && c) ≡ 0
of_none b c is = ap (λ (e : Bool). one_if (e && c)) is

pub more_delivered : {s : Scenario} {hs : List Happening} {ds : List Delivery} (d : Delivery) {flow : Flow}
    {old : Deliveries} (found : Option Nearest) → AreDeliveries s hs ds flow old → is_of flow d ≡ true
    → TellsLeast (IsHere s hs flow d) found → AreDeliveries s hs (ds ++ d ∷ []) flow
    (delivered_more old (is_on s.network A d) (is_on s.network B d) found)
more_delivered {s} {hs} {ds} d {flow} {old} found are of least = record {
  total = ap (λ n. n + 1) are.total ∙ sym (counted_on (λ (e : Delivery). is_of flow e) ds d ∙ ap (λ b. delivered flow ds + one_if b) of);
  by_a = ap (λ n. n + one_if (is_on s.network A d)) are.by_a
      ∙ sym (counted_on (λ (e : Delivery). is_of flow e && is_on s.network A e) ds d
      ∙ ap (λ n. delivered_on s.network A flow ds + n) (of_one (is_of flow d) (is_on s.network A d) of));
  by_b = ap (λ n. n + one_if (is_on s.network B d)) are.by_b
      ∙ sym (counted_on (λ (e : Delivery). is_of flow e && is_on s.network B e) ds d
      ∙ ap (λ n. delivered_on s.network B flow ds + n) (of_one (is_of flow d) (is_on s.network B d) of));
  nearest = least_both (IsDeliveredWithin s hs ds flow) (IsHere s hs flow d) (IsDeliveredWithin s hs (ds ++ d ∷ []) flow) old.nearest found
      (wider s hs ds d flow) (λ x y at. record { delivery = d; there = in_last d ds; of_flow = of; inside = at })
      (λ x y is. elim (split ds d is) [ inl before ↦ inl before | inr here ↦ inr here.1 ]) are.nearest least;
}

pub others_delivered : {s : Scenario} {hs : List Happening} {ds : List Delivery} (d : Delivery) {flow : Flow}
    {old : Deliveries} → AreDeliveries s hs ds flow old → is_of flow d ≡ false
    → AreDeliveries s hs (ds ++ d ∷ []) flow old
others_delivered {s} {hs} {ds} d {flow} {old} are out =
    record {
      total = are.total ∙ sym (ap length (filter_off (λ (e : Delivery). is_of flow e) ds d out));
      by_a = are.by_a ∙ sym (counted_on (λ (e : Delivery). is_of flow e && is_on s.network A e) ds d
          ∙ added (delivered_on s.network A flow ds) (one_if (is_of flow d && is_on s.network A d)) (of_none (is_of flow d) (is_on s.network A d) out));
      by_b = are.by_b ∙ sym (counted_on (λ (e : Delivery). is_of flow e && is_on s.network B e) ds d
          ∙ added (delivered_on s.network B flow ds) (one_if (is_of flow d && is_on s.network B d)) (of_none (is_of flow d) (is_on s.network B d) out));
      nearest = least_same (IsDeliveredWithin s hs ds flow) (IsDeliveredWithin s hs (ds ++ d ∷ []) flow) old.nearest (wider s hs ds d flow)
          (λ x y is. elim (split ds d is) [ inl before ↦ before | inr here ↦ absurd (not_both (is_of flow d) here.0 out) ]) are.nearest;
    }
  where
    added : (n m : ℕ) → m ≡ 0 → n + m ≡ n
    added n m e = omega (arith, e)

-- the next of the deliveries, which is counted
pub next_delivered : {course : Course} {befallen : List Event} {hs : List Happening} {ds : List Delivery}
    (d : Delivery) {flow : Flow} {old : Deliveries} (new : Deliveries) → IsCourse befallen hs course
    → AreDeliveries (scenario_of course befallen) hs ds flow old → is_of flow d ≡ true
    → IsOneMore course flow d old new → AreDeliveries (scenario_of course befallen) hs (ds ++ d ∷ []) flow new
next_delivered {course} {befallen} {hs} {ds} d {flow} new known are of is =
    subst (AreDeliveries (scenario_of course befallen) hs (ds ++ d ∷ []) flow) (sym is.2)
    (more_delivered d is.0 are of (is.1 befallen hs known))

-- ---- what is told of flows, and of one more

pub none_told : (s : Scenario) (hs : List Happening) (until : ℕ) (ds : List Delivery) (told : List FlowTold) → told ≡ [] → AreToldOf s hs until ds [] told
none_told s hs until ds told none = subst (AreToldOf s hs until ds []) (sym none) (record { flows = refl; each = All-nil (IsTold s hs until ds) })

pub told_more : {s : Scenario} {hs : List Happening} {until : ℕ} {ds : List Delivery} {flows : List Flow}
    {told : List FlowTold} {one : FlowTold} (new : List FlowTold) → new ≡ told ++ one ∷ []
    → AreToldOf s hs until ds flows told → IsTold s hs until ds one
    → AreToldOf s hs until ds (flows ++ one.flow ∷ []) new
told_more {s} {hs} {until} {ds} {flows} {told} {one} new grown are is =
    subst (AreToldOf s hs until ds (flows ++ one.flow ∷ [])) (sym grown) (record {
      flows = map-append (λ (t : FlowTold). t.flow) told (one ∷ []) ∙ ap (λ (fs : List Flow). fs ++ one.flow ∷ []) are.flows;
      each = All-append (IsTold s hs until ds) told (one ∷ []) are.each
          (All-cons (IsTold s hs until ds) one [] is (All-nil (IsTold s hs until ds)));
    })

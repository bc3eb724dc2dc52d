-- A further point brings no emission that is before it.
use Rattle.std.{proofs.Common.◌*ℤ◌, specs.Prelude.Contains}
use Rattle.compression.{specs.Emission.emission}
use Rattle.compression.proofs.Growth.{all-filter, beyond-push_out, cluster_of-beyond, counted, counts, end_of-least}
use Rattle.compression.proofs.Growth.{end_of-most, end_of-one, end_of-two, held-start, in_cases, in_filter, in_none}
use Rattle.compression.proofs.Growth.{int_lt-false, length-beyond, window_end}
use Rattle.tte_units.{proofs.Means.mean_of-floor, specs.Mean.IsMean}
use Rattle.compression.specs.{Clusters.{Cluster, beyond, cluster_of, end_of, firsts, of_cycle_within, with_first}, Middle.{last_but_one, middle_of, relative}}
use Rattle.world_law.proofs.steps_lemmas.Words.{◌&&◌, ◌++◌, ◌+ℤ◌, ◌-ℤ◌, ◌<ℤ◌, ◌==◌, ◌∙◌, ◌∷◌, ◌≡◌, ◌≤ℤ◌, ◌≤◌, ◌⊎◌, AllByRecursion, AreClusters, Bool, List}
use Rattle.world_law.proofs.steps_lemmas.Words.{Point, [], ap, arith, cases_int, false, filter, filter-append, fold-append, inl, inr, int_le}
use Rattle.world_law.proofs.steps_lemmas.Words.{int_lt, ints, length, length-append, map, pos, refl, suc, sym, true, zero, ℕ, ℤ}

-- ---- middles are not before the first point

mean_of_two : {a b m : ℤ} → IsMean a b m → pos 0 ≤ℤ a → pos 0 ≤ℤ b → pos 0 ≤ℤ m
mean_of_two mean from to = omega (arith, ints, mean.least, mean.most)

last_two : (a b : ℤ) (xs : List ℤ) → pos 0 ≤ℤ a → pos 0 ≤ℤ b → AllByRecursion (λ x. pos 0 ≤ℤ x) xs → pos 0 ≤ℤ last_but_one a b xs
last_two a b [] x y all = x
last_two a b (c ∷ xs) x y all = last_two b c xs y all.0 all.1

middle_later : (xs : List ℤ) → AllByRecursion (λ x. pos 0 ≤ℤ x) xs → pos 0 ≤ℤ middle_of xs
middle_later [] all = omega (arith, ints)
middle_later (a ∷ []) all = all.0
middle_later (a ∷ b ∷ []) all = mean_of_two (mean_of-floor a b) all.0 all.1.0
middle_later (a ∷ b ∷ c ∷ []) all = all.1.0
middle_later (a ∷ b ∷ c ∷ d ∷ []) all = mean_of_two (mean_of-floor b c) all.1.0 all.1.1.0
middle_later (a ∷ b ∷ c ∷ d ∷ e ∷ []) all = mean_of_two (mean_of-floor b d) all.1.0 all.1.1.1.0
middle_later (a ∷ b ∷ c ∷ d ∷ e ∷ f ∷ more) all =
    mean_of_two (mean_of-floor b (last_but_one e f more)) all.1.0
    (last_two e f more all.1.1.1.1.0 all.1.1.1.1.1.0 all.1.1.1.1.1.1)

later_by : (from : ℤ) (qs : List Point) → AllByRecursion (λ q. from ≤ℤ q.reading) qs
    → AllByRecursion (λ x. pos 0 ≤ℤ x) (map (λ q. q -ℤ from) (map (λ q. q.reading) qs))
later_by from [] all = tt
later_by from (q ∷ qs) all = (omega (arith, ints), later_by from qs all.1)

each_later : (o : Point) (cycle : ℕ) (from to : ℤ) (xs acc : List Point) (P : Point → Type 0) → (qs : List Point)
    → AllByRecursion (λ q. Contains (filter (λ r. r.cycle == cycle && (int_le from r.reading && int_le r.reading to)) xs) q × P q) qs
    → AllByRecursion (λ q. from ≤ℤ q.reading) qs
each_later o cycle from to xs acc P [] all = tt
each_later o cycle from to xs acc P (q ∷ qs) all =
    let passes = (in_filter (λ r. r.cycle == cycle && (int_le from r.reading && int_le r.reading to)) xs q all.0.0).1 in
    let low : int_le from q.reading ≡ true = (and_both (int_le from q.reading) (int_le q.reading to)
    (and_both (q.cycle == cycle) (int_le from q.reading && int_le q.reading to) passes).1).0 in
    (le_of from q.reading low, each_later o cycle from to xs acc P qs all.1)
  where
    le_of : (a b : ℤ) → int_le a b ≡ true → a ≤ℤ b
    le_of a b e = grind (arith, ints)

    and_both : (a b : Bool) → (a && b) ≡ true → (a ≡ true) × (b ≡ true)
    and_both true b e = (refl, e)
    and_both false b e = absurd cc

middle_of_cluster : (ow : ℤ) (o : Point) (ps : List Point) → pos 0 ≤ℤ ow → pos 0 ≤ℤ middle_of (relative (cluster_of ow o (o ∷ ps)).points)
middle_of_cluster ow o ps some =
    let end = end_of ow o (o ∷ ps) in
    let least = end_of-least ow o (o ∷ ps) some in
    let held = held-start o end ps
    (omega (arith, ints)) in
    let c = counts (o ∷ []) (of_cycle_within o.cycle o.reading end ps) in
    let start : firsts (of_cycle_within o.cycle o.reading end (o ∷ ps)) ≡ o ∷ c.more = ap firsts held ∙ c.is in
    let later = each_later o o.cycle o.reading end ps (o ∷ []) _ c.more c.each in
    rw start (middle_later (map (λ q. q -ℤ o.reading) (map (λ q. q.reading) (o ∷ c.more)))
    (later_by o.reading (o ∷ c.more) (omega (arith, ints), later)))

-- ---- the clusters with one more point

more_count : (xs zs : List Point) → length (firsts xs) ≤ length (firsts (xs ++ zs))
more_count xs zs =
    let c = counts (firsts xs) zs in
    let whole = fold-append with_first [] xs zs ∙ c.is in
    let long = length-append (firsts xs) c.more in
    let same : length (firsts (xs ++ zs)) ≡ length (firsts xs ++ c.more) = ap length whole in
    omega arith

-- the end is no earlier with a point that was not beyond it
not_beyond : (ow : ℤ) (o : Point) (ps : List Point) (p : Point) → pos 0 ≤ℤ ow → p.reading ≤ℤ end_of ow o ps → p.reading ≤ℤ end_of ow o (ps ++ p ∷ [])
not_beyond ow o ps p some within =
    grind (arith, length, counted, window_end, end_of-one, end_of-least, ints, int_le, more_count, filter, filter-append, end_of-two)

none_beyond : (end : ℤ) (ps : List Point) → AllByRecursion (λ q. q.reading ≤ℤ end) ps → beyond end ps ≡ []
none_beyond end [] all = refl
none_beyond end (q ∷ ps) all = rw (int_lt-false end q.reading all.0) (none_beyond end ps all.1)

no_more : (ow : ℤ) (ps : List Point) (cs : List Cluster) → ps ≡ [] → AreClusters ow ps cs → cs ≡ []
no_more ow [] [] e are = refl
no_more ow [] (c ∷ cs) e are = absurd are
no_more ow (p ∷ ps) cs e are = absurd cc

all_up_to : (p end : ℤ) (ps : List Point) → p ≤ℤ end → AllByRecursion (λ q. q.reading ≤ℤ p) ps → AllByRecursion
    (λ q. q.reading ≤ℤ end) ps
all_up_to p end [] le all = tt
all_up_to p end (q ∷ ps) le all = (omega (arith, ints), all_up_to p end ps le all.1)

all_push : (P : Point → Type 0) (ps : List Point) (p : Point) → AllByRecursion P ps → P p → AllByRecursion P (ps ++ p ∷ [])
all_push P [] p all h = (h, tt)
all_push P (q ∷ ps) p all h = (all.0, all_push P ps p all.1 h)

-- a cluster of a point up to which it may go
pub record IsOpen (ow : ℤ) (p : Point) (c : Cluster) : Type 0 where
  pub opener : Point
  pub others : List Point
  pub is : c ≡ cluster_of ow opener (opener ∷ others)
  pub reaches : p.reading ≤ℤ (opener.reading +ℤ (pos 2 *ℤ ow))

-- each cluster of the points with one more, no earlier than all, is one of those without it, or may go up to it
pub old_or_open : (n : ℕ) (ow : ℤ) (ps : List Point) (cs news : List Cluster) (p : Point) (c : Cluster) → length ps ≤ n → pos 0 ≤ℤ ow
    → AllByRecursion (λ q. q.reading ≤ℤ p.reading) ps → AreClusters ow ps cs → AreClusters ow (ps ++ p ∷ []) news → Contains news c → Contains cs c
    ⊎ IsOpen ow p c
old_or_open n ow [] cs [] p c few some up are also there = absurd also
old_or_open n ow [] cs (d ∷ ds) p c few some up are also there = grind (arith, in_cases, ints, in_none, no_more)
old_or_open zero ow (o ∷ ps) cs news p c few some up are also there = absurd (omega arith)
old_or_open (suc n) ow (o ∷ ps) [] news p c few some up are also there = absurd are
old_or_open (suc n) ow (o ∷ ps) (k ∷ ks) [] p c few some up are also there = absurd also
old_or_open (suc n) ow (o ∷ ps) (k ∷ ks) (d ∷ ds) p c few some up are also there =
    elim (cases_int (end_of ow o (o ∷ ps)) p.reading) [
      | inl past ↦
          let same = also.0 ∙ cluster_of-beyond ow o (o ∷ ps) p some past ∙ sym are.0 in
          let past_k : k.end <ℤ p.reading = rw are.0 past in
          let rest : AreClusters ow (beyond k.end (ps ++ p ∷ [])) ds = rw same at also.1 in
          let pushed : AreClusters ow (beyond k.end ps ++ p ∷ []) ds = rw (beyond-push_out k.end ps p past_k) at rest in
          let short = length-beyond k.end ps in
          elim (in_cases d c ds there) [
            | inl e ↦ inl (rw (sym (sym same ∙ e)) (Rattle.compression.proofs.Growth.in_head k ks))
            | inr more ↦
                elim (old_or_open n ow (beyond k.end ps) ks ds p c (omega arith) some
                (all-filter (λ q. q.reading ≤ℤ p.reading) (λ q. int_lt k.end q.reading) ps up.1) are.1 pushed more) [
                  | inl old ↦ inl (Rattle.compression.proofs.Growth.in_tail k c ks old)
                  | inr open_ ↦ inr open_
                ]
          ]
      | inr within ↦
          let most = end_of-most ow o (o ∷ ps) some in
          let longer = not_beyond ow o (o ∷ ps) p some within in
          let d_end : p.reading ≤ℤ d.end = rw also.0 longer in
          let none = none_beyond d.end (ps ++ p ∷ [])
          (all_push (λ q. q.reading ≤ℤ d.end) ps p (all_up_to p.reading d.end ps d_end up.1) d_end) in
          elim (in_cases d c ds there) [
            | inl e ↦ inr (record {
              opener = o;
              others = ps ++ p ∷ [];
              is = sym e ∙ also.0;
              reaches =
                  omega (arith, ints);
            })
            | inr more ↦ absurd (in_none c (rw (no_more ow (beyond d.end (ps ++ p ∷ [])) ds none also.1) at more))
          ]
    ]

-- what such a cluster emits comes later than the point by the time to calculate
pub open_later : {ow : ℤ} (calc : ℤ) {p : Point} {c : Cluster} → pos 0 ≤ℤ ow → IsOpen ow p c
    → (p.reading +ℤ calc) ≤ℤ emission ow calc c
open_later {ow} calc {p} some it =
    let middle = middle_of_cluster ow it.opener it.others some in
    let reaches = it.reaches in
    rw it.is (omega (arith, ints))

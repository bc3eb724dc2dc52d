-- The point that opened what a compression master sends.
use Rattle.std.proofs.Common.{◌*ℤ◌, Contains, int_le, map}
use Rattle.compression.{specs.Middle.{last_but_one, middle_of, relative}}
use Rattle.compression.proofs.Growth.{end_of-least, end_of-most, firsts-start, from_beyond, held-start, in_cases}
use Rattle.compression.proofs.Growth.{in_head, in_none, in_tail}
use Rattle.precision_law.proofs.traffic_lemmas.Words.{inl, inr, ints, pos, subst, sym, true, ℕ, ℤ}
use Rattle.tte_units.proofs.general_lemmas.Integers.{int_le-is}
use Rattle.compression.specs.Clusters.{AreClusters, Cluster, Point, beyond, cluster_of, end_of, firsts, has_master, of_cycle_within, with_first}
use Rattle.precision_law.proofs.traffic_lemmas.Words.{◌++◌, ◌+ℤ◌, ◌-ℤ◌, ◌∙◌, ◌∷◌, ◌≡◌, ◌≤ℤ◌, Bool, List, [], and_parts, ap, arith, false, fold, if◌then◌else◌}
use Rattle.tte_units.{proofs.Means.mean_of-floor, specs.Mean.mean_of}

-- ---- the middle of small numbers

-- each number of the list is at most this
abbrev AreMost : ℤ → List ℤ → Type 0
AreMost high [] = Unit {0}
AreMost high (x ∷ xs) = (x ≤ℤ high) × AreMost high xs

-- the mean of two small numbers
mean_most : (a b high : ℤ) → a ≤ℤ high → b ≤ℤ high → mean_of a b ≤ℤ high
mean_most a b high one two = let mean = mean_of-floor a b in omega (arith, ints, mean.least, mean.most)

-- the last but one of small numbers
last_most : (p q : ℤ) (xs : List ℤ) (high : ℤ) → p ≤ℤ high → q ≤ℤ high → AreMost high xs → last_but_one p q xs ≤ℤ high
last_most p q [] high one two all = one
last_most p q (r ∷ rs) high one two all = last_most q r rs high two all.0 all.1

-- the middle of small numbers
middle_most : (xs : List ℤ) (high : ℤ) → pos 0 ≤ℤ high → AreMost high xs → middle_of xs ≤ℤ high
middle_most [] high up all = up
middle_most (a ∷ []) high up all = all.0
middle_most (a ∷ b ∷ []) high up all = mean_most a b high all.0 all.1.0
middle_most (a ∷ b ∷ c ∷ []) high up all = all.1.0
middle_most (a ∷ b ∷ c ∷ d ∷ []) high up all = mean_most b c high all.1.0 all.1.1.0
middle_most (a ∷ b ∷ c ∷ d ∷ e ∷ []) high up all = mean_most b d high all.1.0 all.1.1.1.0
middle_most (a ∷ b ∷ c ∷ d ∷ e ∷ f ∷ more) high up all =
    mean_most b (last_but_one e f more) high all.1.0 (last_most e f more high all.1.1.1.1.0 all.1.1.1.1.1.0 all.1.1.1.1.1.1)

-- ---- the points of a cluster

-- each point is at most at this reading
abbrev AreLow : ℤ → List Point → Type 0
AreLow high [] = Unit {0}
AreLow high (q ∷ qs) = (q.reading ≤ℤ high) × AreLow high qs

-- the points up to a reading
held_low : (cycle : ℕ) (from to : ℤ) (ps : List Point) → AreLow to (of_cycle_within cycle from to ps)
held_low cycle from to [] = tt
held_low cycle from to (q ∷ qs) = grind (arith, int_le, and_parts, int_le-is, (held_low cycle from to qs))

-- with one more point
low_append : (high : ℤ) (ps : List Point) (q : Point) → AreLow high ps → q.reading ≤ℤ high → AreLow high (ps ++ q ∷ [])
low_append high [] q all one = (one, tt)
low_append high (p ∷ ps) q all one = (all.0, low_append high ps q all.1 one)

-- or with none
first_low : (high : ℤ) (ps : List Point) (q : Point) (b : Bool) → AreLow high ps → q.reading ≤ℤ high → AreLow high (if b then ps else ps ++ q ∷ [])
first_low high ps q true all one = all
first_low high ps q false all one = low_append high ps q all one

-- the first points of each master
firsts_low : (high : ℤ) (acc ps : List Point) → AreLow high acc → AreLow high ps → AreLow high (fold with_first acc ps)
firsts_low high acc [] some all = some
firsts_low high acc (q ∷ qs) some all = firsts_low high (with_first acc q) qs (first_low high acc q (has_master acc q.master) some all.0) all.1

-- relative to a reading the points are at most so far
relative_most : (base width : ℤ) (ps : List Point) → AreLow (base +ℤ width) ps → AreMost width
    (map (λ x. x -ℤ base) (map (λ q. q.reading) ps))
relative_most base width [] all = tt
relative_most base width (q ∷ qs) all = (omega (arith, ints, all.0), relative_most base width qs all.1)

-- the middle of a cluster lies at most two windows behind its opening
cluster_middle : (ow : ℤ) (o : Point) (ps : List Point) → pos 0 ≤ℤ ow → middle_of (relative (cluster_of ow o (o ∷ ps)).points) ≤ℤ (pos 2 *ℤ ow)
cluster_middle ow o ps up =
    let end = end_of ow o (o ∷ ps) in
    let least = end_of-least ow o (o ∷ ps) up in
    let most = end_of-most ow o (o ∷ ps) up in
    let start = held-start o end ps (omega (arith, ints)) in
    let first = firsts-start o (of_cycle_within o.cycle o.reading end ps) in
    let counted : firsts (of_cycle_within o.cycle o.reading end (o ∷ ps)) ≡ o ∷ first.0 = ap firsts start ∙ first.1 in
    let low = firsts_low end [] (of_cycle_within o.cycle o.reading end (o ∷ ps)) tt
    (held_low o.cycle o.reading end (o ∷ ps)) in
    let here : AreLow end (o ∷ first.0) = subst (AreLow end) counted low in
    let wide = widen end (o.reading +ℤ (pos 2 *ℤ ow)) (o ∷ first.0) (omega (arith, ints)) here in
    let all = relative_most o.reading (pos 2 *ℤ ow) (o ∷ first.0) wide in
    rw counted (middle_most (relative (map (λ q. q.reading) (o ∷ first.0))) (pos 2 *ℤ ow) (omega (arith, ints)) all)
  where
    widen : (low high : ℤ) (qs : List Point) → low ≤ℤ high → AreLow low qs → AreLow high qs
    widen low high [] le all = tt
    widen low high (q ∷ qs) le all = (omega (arith, ints, all.0), widen low high qs le all.1)

-- ---- the opener

-- one of the points opened the cluster
pub record IsOpenedBy (ow : ℤ) (ps : List Point) (c : Cluster) : Type 0 where
  pub opener : Point
  pub there : Contains ps opener
  pub opens : c.opened ≡ opener.reading
  pub middle : middle_of (relative c.points) ≤ℤ (pos 2 *ℤ ow)

-- each cluster of the points has an opener
pub opened_by : (ow : ℤ) (ps : List Point) (cs : List Cluster) (c : Cluster) → pos 0 ≤ℤ ow → AreClusters ow ps cs → Contains cs c → IsOpenedBy ow ps c
opened_by ow [] [] c up are i = absurd (in_none c i)
opened_by ow [] (d ∷ cs) c up are i = absurd are
opened_by ow (o ∷ ps) [] c up are i = absurd are
opened_by ow (o ∷ ps) (d ∷ cs) c up are i =
    elim (in_cases d c cs i) [
      | inl same ↦
          let is = sym same ∙ are.0 in
          record {
            opener = o;
            there = in_head o ps;
            opens = rw is;
            middle = rw is (cluster_middle ow o ps up);
          }
      | inr more ↦
          let rest = opened_by ow (beyond d.end ps) cs c up are.1 more in
          record {
            opener = rest.opener;
            there = in_tail o rest.opener ps (from_beyond d.end ps rest.opener rest.there).0;
            opens = rest.opens;
            middle = rest.middle;
          }
    ]

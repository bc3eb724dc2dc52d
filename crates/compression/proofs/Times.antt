-- Each point lies in the time of a cluster, and one master's points do not split those of the others.
use Rattle.std.{specs.{List.AllByRecursion, Prelude.{◌==◌, Contains, int_le}}}
use Rattle.std.proofs.Common
use Common.{◌&&◌, ◌+ℤ◌, ◌<ℤ◌, ◌<◌, ◌∙◌, ◌∷◌, ◌≡◌, ◌≢◌, ◌≤ℤ◌, ◌≤◌, ◌⊎◌, List, [], ap, arith, false, inl, inr, length}
use Common.{pos, refl, suc, sym, true, zero, ℕ, ℤ}
use Rattle.std.proofs.lemmas.{Int.ints}
use Rattle.std.proofs.lemmas.Bool
use Bool.{and_from, and_parts, cases_Bool, cases_eq, cases_lt, eq-eqb, eqb-false, eqb-true, or_cases, or_parts}
use Rattle.compression.proofs.Collectors.{AreClusters-unique}
use Rattle.compression.proofs.Growth
use Growth.{Counts, Ordered, Ordered-beyond, Ordered-from, all-beyond, all_at, beyond-all, counted, counts}
use Growth.{end_of-least, end_of-one, end_of-two, firsts-has, from_beyond, held-start, in_beyond, in_cases, in_filter}
use Growth.{in_filter_from, in_head, in_none, in_tail, length-beyond, window_end}
use Rattle.compression.specs.{OneCluster.{Holds, IsDropped, IsKept, LiesIn, OneCluster, OneListOfClusters, OneTime}}
use Rattle.compression.specs.Clusters
use Clusters.{AreClusters, Cluster, Point, beyond, cluster_of, end_of, firsts, has_master, of_cycle_within}
use Rattle.tte_units.proofs.general_lemmas.Integers.{int_le-from}

-- ---- the times of clusters: each point lies in one

-- clusters of points that lie beyond a reading open beyond it
pub open_beyond : (ow low : ℤ) (ps : List Point) (cs : List Cluster) → AreClusters ow ps cs → AllByRecursion (λ q. low <ℤ q.reading) ps
    → AllByRecursion (λ c. low <ℤ c.opened) cs
open_beyond ow low [] [] are all = tt
open_beyond ow low [] (c ∷ cs) are all = absurd are
open_beyond ow low (o ∷ ps) [] are all = absurd are
open_beyond ow low (o ∷ ps) (c ∷ cs) are all =
    (rw are.0 all.0, open_beyond ow low (beyond c.end ps) cs are.1 (all-beyond low c.end ps all.1))

-- a point of the first cluster's time lies in no other
only_first : (ow : ℤ) (ps : List Point) (c : Cluster) (cs : List Cluster) {p : Point}
    → AreClusters ow (beyond c.end ps) cs → p.reading ≤ℤ c.end → {d : Cluster} → Contains cs d → LiesIn d p → ⊥
only_first ow ps c cs are within {d} at lies =
    let past = all_at (λ k. c.end <ℤ k.opened) cs d (open_beyond ow c.end (beyond c.end ps) cs are
    (beyond-all c.end ps)) at in
    omega (arith, ints, lies.low)

-- the first point opens the first cluster, which ends no earlier
pub first_end : (ow : ℤ) (o : Point) (ps : List Point) (c : Cluster) → pos 0 ≤ℤ ow → c ≡ cluster_of ow o (o ∷ ps) → (c.opened ≡ o.reading) × (c.opened ≤ℤ c.end)
first_end ow o ps c some is =
    let least = end_of-least ow o (o ∷ ps) some in
    (rw is, rw is (omega (arith, ints)))

-- no point of an ordered list lies before its first
not_before : (o : Point) (ps : List Point) (p : Point) → Ordered (o ∷ ps) → Contains (o ∷ ps) p → o.reading ≤ℤ p.reading
not_before o ps p up at =
    elim (in_cases o p ps at) [
      | inl e ↦ rw (sym e) (omega (arith, ints))
      | inr here ↦ all_at (λ q. o.reading ≤ℤ q.reading) ps p up.0 here
    ]

-- one that lies beyond the first cluster comes after the first point
pub in_rest : (o : Point) (ps : List Point) (p : Point) (end : ℤ) → o.reading ≤ℤ end → end <ℤ p.reading → Contains (o ∷ ps) p → Contains (beyond end ps) p
in_rest o ps p end start past at = grind (arith, in_cases, in_beyond, ints)

one_time : (ow : ℤ) (ps : List Point) (cs : List Cluster) → pos 0 ≤ℤ ow → Ordered ps → AreClusters ow ps cs → (p : Point) → Contains ps p → (c : Cluster)
    × Contains cs c × LiesIn c p × ((d : Cluster) → Contains cs d → LiesIn d p → d ≡ c)
one_time ow [] cs some up are p at = absurd (in_none p at)
one_time ow (o ∷ ps) [] some up are p at = absurd are
one_time ow (o ∷ ps) (c ∷ cs) some up are p at =
    let start = first_end ow o ps c some are.0 in
    elim (cases_Bool (int_le p.reading c.end)) [
      | inl inside ↦
          let within : p.reading ≤ℤ c.end = grind (arith, ints) in
          let low : c.opened ≤ℤ p.reading = rw start.0 (not_before o ps p up at) in
          (c, in_head c cs, record { low = low; high = within }, λ d in_d lies. only within d (in_cases c d cs in_d) lies)
      | inr outside ↦
          let past : c.end <ℤ p.reading = grind (arith, ints) in
          let rest = one_time ow (beyond c.end ps) cs some (Ordered-beyond c.end ps up.1) are.1 p
          (in_rest o ps p c.end (omega (arith, ints, start.0, start.1)) past at) in
          (rest.0, in_tail c rest.0 cs rest.1, rest.2, λ d in_d lies. other past rest.0 rest.3 d (in_cases c d cs in_d) lies)
    ]
  where
    only : p.reading ≤ℤ c.end → (d : Cluster) → (c ≡ d) ⊎ Contains cs d → LiesIn d p → d ≡ c
    only within d (inl e) lies = sym e
    only within d (inr at) lies = absurd (only_first ow ps c cs are.1 within at lies)

    other : c.end <ℤ p.reading → (k : Cluster) → ((d : Cluster) → Contains cs d → LiesIn d p → d ≡ k) → (d : Cluster) → (c ≡ d) ⊎ Contains cs d → LiesIn d p
        → d ≡ k
    other past k unique d (inl e) lies = grind (arith, ints)
    other past k unique d (inr at) lies = unique d at lies

pub one_time_law : OneTime
one_time_law ow ps cs some up are = one_time ow ps cs some (Ordered-from ps up) are

-- a list of at most n points has clusters
clusters_within : (n : ℕ) (ow : ℤ) (ps : List Point) → length ps ≤ n → (cs : List Cluster) × AreClusters ow ps cs
clusters_within n ow [] few = ([], tt)
clusters_within zero ow (o ∷ ps) few = absurd (omega arith)
clusters_within (suc n) ow (o ∷ ps) few =
    let c = cluster_of ow o (o ∷ ps) in
    let rest = clusters_within n ow (beyond c.end ps) (omega (arith, length-beyond c.end ps)) in
    (c ∷ rest.0, (refl, rest.1))

pub one_list_of_clusters : OneListOfClusters
one_list_of_clusters ow ps =
    let found = clusters_within (length ps) ow ps (omega arith) in
    (found.0, found.1, λ ds are. AreClusters-unique ow ps ds found.0 are found.1)

-- ---- one master's points do not split those of the others

-- what counts in the first window: the opener, and then points of other masters
window_counts : (ow : ℤ) (o : Point) (ps : List Point) → pos 0 ≤ℤ ow → (k : Counts (o ∷ []) (of_cycle_within o.cycle o.reading (window_end ow o) ps))
    × (counted (window_end ow o) o (o ∷ ps) ≡ o ∷ k.more)
window_counts ow o ps some =
    let k = counts (o ∷ []) (of_cycle_within o.cycle o.reading (window_end ow o) ps) in
    (k, ap firsts (held-start o (window_end ow o) ps (omega (arith, ints))) ∙ k.is)

-- where there are two masters, the first window has a point of another than the opener's
pub record Other (ow : ℤ) (o : Point) (ps : List Point) (w : Point) : Type 0 where
  pub there : Contains ps w
  pub same : w.cycle ≡ o.cycle
  pub first : w.reading ≤ℤ window_end ow o
  pub other : w.master ≢ o.master

second_master : (ow : ℤ) (o : Point) (ps : List Point) → pos 0 ≤ℤ ow → 2 ≤ length (counted (window_end ow o) o (o ∷ ps)) → (w : Point) × Other ow o ps w
second_master ow o ps some many =
    let k = window_counts ow o ps some in
    found (k.0.more) (k.0.each) (rw (ap length k.1) at many)
  where
    found : (more : List Point) → AllByRecursion (λ q. Contains (of_cycle_within o.cycle o.reading (window_end ow o) ps) q
        × (has_master (o ∷ []) q.master ≡ false)) more → 2 ≤ length (o ∷ more) → (w : Point) × Other ow o ps w
    found [] each many = absurd (omega arith)
    found (w ∷ ws) each many =
        let parts = in_filter (λ q. q.cycle == o.cycle && (int_le o.reading q.reading && int_le q.reading (window_end ow o))) ps w each.0.0 in
        let tests = and_parts (w.cycle == o.cycle) (int_le o.reading w.reading && int_le w.reading (window_end ow o)) parts.1 in
        let bounds = and_parts (int_le o.reading w.reading) (int_le w.reading (window_end ow o)) tests.1 in
        let apart = (or_parts (o.master == w.master) false each.0.1).0 in (
          w,
          record {
            there = parts.0;
            same = eqb-true w.cycle o.cycle tests.0;
            first = grind (arith, ints, bounds.1);
            other = λ e. eqb-false o.master w.master apart (sym e);
          },
        )

-- and where there is one, the points in the first window are of the opener's
only_master : (ow : ℤ) (o : Point) (ps : List Point) → pos 0 ≤ℤ ow → length (counted (window_end ow o) o (o ∷ ps)) < 2 → (q : Point) → Contains (o ∷ ps) q
    → q.cycle ≡ o.cycle → o.reading ≤ℤ q.reading → q.reading ≤ℤ window_end ow o → q.master ≡ o.master
only_master ow o ps some few q at same low high =
    let passes =
    and_from (q.cycle == o.cycle) _ (eq-eqb q.cycle o.cycle same)
    (and_from (int_le o.reading q.reading) _ (int_le-from o.reading q.reading low) (int_le-from q.reading (window_end ow o) high)) in
    let here = in_filter_from (λ r. r.cycle == o.cycle && (int_le o.reading r.reading && int_le r.reading (window_end ow o))) (o ∷ ps) q at passes in
    let has = firsts-has (of_cycle_within o.cycle o.reading (window_end ow o) (o ∷ ps)) q here in
    let k = window_counts ow o ps some in
    alone (k.0.more) (rw (ap length k.1) at few) (rw k.1 at has)
  where
    alone : (more : List Point) → length (o ∷ more) < 2 → has_master (o ∷ more) q.master ≡ true → q.master ≡ o.master
    alone [] few has =
        elim (or_cases (o.master == q.master) false has) [
          | inl e ↦ sym (eqb-true o.master q.master e)
          | inr none ↦ absurd (cc)
        ]
    alone (w ∷ ws) few has = absurd (omega arith)

-- the first cluster and those after it
pub record First (ow : ℤ) (o : Point) (ps : List Point) (c : Cluster) (cs : List Cluster) (b cycle : ℕ) : Type 0 where
  pub some : pos 0 ≤ℤ ow
  pub order : Ordered (o ∷ ps)
  pub is : c ≡ cluster_of ow o (o ∷ ps)
  pub rest : AreClusters ow (beyond c.end ps) cs
  pub near : (p q : Point) → IsKept (o ∷ ps) (c ∷ cs) b cycle p → IsKept (o ∷ ps) (c ∷ cs) b cycle q → p.reading ≤ℤ (q.reading +ℤ ow)

module _ {ow : ℤ} {o : Point} {ps : List Point} {c : Cluster} {cs : List Cluster} {b cycle : ℕ}
    (f : First ow o ps c cs b cycle) where
  -- a point of the opener's cycle up to the end is not dropped
  not_dropped : (q : Point) → q.cycle ≡ o.cycle → q.reading ≤ℤ c.end → ¬ IsDropped (c ∷ cs) q
  not_dropped q same within (d, at, other, lies) =
      elim (in_cases c d cs at) [
        | inl e ↦ other (same ∙ sym (rw f.is) ∙ ap (λ k. k.cycle) e)
        | inr here ↦ only_first ow ps c cs f.rest within here lies
      ]

  -- one that is kept and lies up to the end is of the opener's cycle
  own_cycle : {q : Point} → IsKept (o ∷ ps) (c ∷ cs) b cycle q → q.reading ≤ℤ c.end → Holds c q
  own_cycle {q} k within =
      search (arith, first_end, not_before, in_head)

  -- where one that is kept lies up to the end, so do all
  all_within : {q r : Point} → IsKept (o ∷ ps) (c ∷ cs) b cycle q → IsKept (o ∷ ps) (c ∷ cs) b cycle r
      → q.reading ≤ℤ c.end → r.reading ≤ℤ c.end
  all_within {q} {r} kq kr within =
      let holds = own_cycle kq within in
      let end_is : c.end ≡ end_of ow o (o ∷ ps) = rw f.is in
      let least = end_of-least ow o (o ∷ ps) f.some in
      let cycle_is = holds.0 ∙ ap (λ k. k.cycle) f.is in
      elim (cases_eq o.master b) [
        | inr other ↦
            let ko : IsKept (o ∷ ps) (c ∷ cs) b cycle o = record {
              there = in_head o ps;
              other = other;
              same = sym cycle_is
                  ∙ kq.same;
              kept = not_dropped o refl (omega (arith, ints, f.some));
            } in
            let near = f.near r o kr ko in
            omega (arith, ints)
        | inl is_b ↦
            elim (cases_lt (length (counted (window_end ow o) o (o ∷ ps))) 2) [
              | inl few ↦
                  let one = end_of-one ow o (o ∷ ps) few in
                  let high : q.reading ≤ℤ window_end ow o = omega (arith, ints) in
                  absurd (kq.other (only_master ow o ps f.some few q kq.there cycle_is
                  (not_before o ps q f.order kq.there) high ∙ is_b))
              | inr many ↦
                  let two = end_of-two ow o (o ∷ ps) many in
                  let w = second_master ow o ps f.some many in
                  let kw : IsKept (o ∷ ps) (c ∷ cs) b cycle w.0 = record {
                    there = in_tail o w.0 ps w.1.there;
                    other = λ e. w.1.other (e ∙ sym is_b);
                    same = w.1.same ∙ sym cycle_is ∙ kq.same;
                    kept = not_dropped w.0 w.1.same (omega (arith, ints, w.1.first));
                  } in
                  let near = f.near r w.0 kr kw in
                  omega (arith, ints, w.1.first)
            ]
      ]

together : (ow : ℤ) (ps : List Point) (cs : List Cluster) {b cycle : ℕ} → pos 0 ≤ℤ ow → Ordered ps
    → AreClusters ow ps cs → ((p q : Point) → IsKept ps cs b cycle p → IsKept ps cs b cycle q
    → p.reading ≤ℤ (q.reading +ℤ ow)) → {p : Point} → IsKept ps cs b cycle p
    → (c : Cluster) × Contains cs c × ((q : Point) → IsKept ps cs b cycle q → Holds c q)
together ow [] cs some up are near {p} k = absurd (in_none p k.there)
together ow (o ∷ ps) [] some up are near k = absurd are
together ow (o ∷ ps) (c ∷ cs) {b} {cycle} some up are near {p} k =
    let f : First ow o ps c cs b cycle = record { some = some; order = up; is = are.0; rest = are.1; near = near } in
    elim (cases_Bool (int_le p.reading c.end)) [
      | inl inside ↦
          (c, in_head c cs, λ q kq. own_cycle f kq (all_within f k kq (grind (arith, ints))))
      | inr outside ↦
          let past : c.end <ℤ p.reading = grind (arith, ints) in
          let rest = together ow (beyond c.end ps) cs some (Ordered-beyond c.end ps up.1) are.1
          (λ q r kq kr. near q r (whole q kq) (whole r kr))
          (part p k past) in
          (rest.0, in_tail c rest.0 cs rest.1, λ q kq. rest.2 q (part q kq (also f past q kq)))
    ]
  where
    start : (c.opened ≡ o.reading) × (c.opened ≤ℤ c.end)
    start = first_end ow o ps c some are.0

    not_first : (q : Point) → c.end <ℤ q.reading → IsDropped (c ∷ cs) q → IsDropped cs q
    not_first q past (d, at, other, lies) =
        elim (in_cases c d cs at) [
          | inl e ↦ absurd (omega (arith, ints, lies.high, ap (λ (k : Cluster). k.end) e))
          | inr here ↦ (d, here, other, lies)
        ]

    whole : (q : Point) → IsKept (beyond c.end ps) cs b cycle q → IsKept (o ∷ ps) (c ∷ cs) b cycle q
    whole q kq =
        let parts = from_beyond c.end ps q kq.there in
        record { there = in_tail o q ps parts.0; other = kq.other; same = kq.same; kept = λ dropped. kq.kept (not_first q parts.1 dropped) }

    part : (q : Point) → IsKept (o ∷ ps) (c ∷ cs) b cycle q → c.end <ℤ q.reading → IsKept (beyond c.end ps) cs b cycle q
    part q kq past = record {
      there = in_rest o ps q c.end (omega (arith, ints, start.0, start.1)) past kq.there;
      other = kq.other;
      same = kq.same;
      kept = λ dropped. kq.kept (dropped.0, in_tail c dropped.0 cs dropped.1, dropped.2, dropped.3);
    }

    also : First ow o ps c cs b cycle → c.end <ℤ p.reading → (q : Point) → IsKept (o ∷ ps) (c ∷ cs) b cycle q → c.end <ℤ q.reading
    also f past q kq =
        elim (cases_Bool (int_le q.reading c.end)) [
          | inl inside ↦
              let back = all_within f kq k (grind (arith, ints)) in
              absurd (omega (arith, ints))
          | inr outside ↦ grind (arith, ints)
        ]

pub one_cluster : OneCluster
one_cluster ow ps cs b cycle some up are near p k = together ow ps cs some (Ordered-from ps up) are near k

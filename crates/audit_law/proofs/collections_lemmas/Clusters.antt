-- The clusters of a gathering: how they open and grow, are kept and found, and what is sent for them.
use Rattle.std.proofs.{Math.Pow.pow-lt}
use Rattle.std.proofs.Common
use Common.{◌%◌, ◌*ℤ◌, ◌*◌, ◌++◌, ◌+ℤ◌, ◌+◌, ◌-ℤ◌, ◌-◌, ◌<ℤ◌, ◌<◌, ◌^◌, ◌∙◌, ◌∷◌, ◌≡◌, ◌≢◌, ◌≤ℤ◌, ◌≤◌, ◌⊎◌, List, None}
use Common.{Option, Some, [], ap, arith, drop, false, get_or, inl, inr, length, map, pos, refl, subst, suc, sym, take}
use Common.{true, zero, ℕ, ℤ}
use Rattle.std.proofs.lemmas.{Bool.{cases_Bool, cases_eq, cases_lt}, Int.ints, Option.slice_get-map}
use Rattle.std.proofs.lemmas.List.{Elements.{All-contains, All-from_recursion, recursion_from_All}, append-nil}
use Rattle.std.proofs.lemmas.List.{drop-append-le, get_or-drop, get_or-take, length-append, length-drop, length-take-le}
use Rattle.std.proofs.lemmas.List.{map-append, take-append-le}
use Rattle.std.specs.{List.{AllByRecursion, last_or}}
use Rattle.std.specs.{Prelude.{All, Contains, IfSome, bit_or, int_lt, option_map, slice_get}}
use Rattle.audit_law.specs.collections.{Gathered.{EndsWith, Gathers, HasRow, IsGathered, IsHeld, Sends}}
use Rattle.audit_law.specs.collections.{Rising.{IsPlaceFor, IsRising}, Steps.{Grows, Joins, Opens}}
use Rattle.audit_law.specs.collections.Kept
use Kept.{History, IsCounted, as_emitted, cluster_kept, clusters_in, emissions_in, emitted, kept_in, points_kept}
use Rattle.audit_law.specs.declared.collections.{emitted.Emitted.Emitted, gathering.{Gathering.Gathering, Row.Row}}
use Rattle.audit_law.specs.declared.collections.{kept.KeptCluster.KeptCluster}
use Rattle.compression.proofs.{Times.{first_end, open_beyond}}
use Rattle.compression.proofs.Collectors.{ended_later, last_or-none, last_split, open_at-beyond, open_at-in}
use Rattle.compression.proofs.Collectors.{open_at-some, role_in-ignored, role_in-joined, role_in-opened}
use Rattle.compression.proofs.Growth
use Growth.{AreClusters-opened, AreClusters-within, Grows as Takes, all-filter, beyond-all, end_of-most, in_cases}
use Growth.{in_head, in_none, in_tail}
use Rattle.compression.specs.{Ascent.offset_at, Clusters.{AreClusters, Cluster, Point, beyond, point_at}}
use Rattle.compression.specs.{Collection.{joined, joined_end, opening}, Emission.emission}
use Rattle.compression.specs.{Role.{has_point_of, open_at, role, role_in}}
use Rattle.compression.specs.declared.{compressed.Compressed.Compressed}
use Rattle.compression.specs.declared.{taken.Taken.TheVariants.{Joined, Opened, OtherCycle, Repeat}}
use Rattle.tte_units.proofs.general_lemmas.Lists.{all-push, drop-front, got_within, last_pushed}

-- ---- what a history had it keeps as it grows

-- all parts of a list stay where more is appended
part-same : {X : Type 0} (xs more : List X) (from count : ℕ) → (from + count) ≤ length xs → take count (drop from (xs ++ more)) ≡ take count (drop from xs)
part-same xs more from count within =
    ap (take count) (drop-append-le from xs more (omega arith))
    ∙ take-append-le count (drop from xs) more (rw (length-drop from xs) (omega arith))

pub counted-grown : {xs : List ℤ} (more : List ℤ) {k : KeptCluster} → IsCounted xs k → IsCounted (xs ++ more) k
counted-grown {xs} more is = record { some = is.some; within = rw (length-append xs more) (omega (arith, is.within)) }

pub cluster-same : {xs : List ℤ} (more : List ℤ) {k : KeptCluster} → IsCounted xs k
    → cluster_kept (xs ++ more) k ≡ cluster_kept xs k
cluster-same {xs} more {k} is =
    rw (part-same xs more k.from k.count is.within)

clusters-same : (xs more : List ℤ) (ks : List KeptCluster) → AllByRecursion (IsCounted xs) ks
    → map (cluster_kept (xs ++ more)) ks ≡ map (cluster_kept xs) ks
clusters-same xs more [] all = refl
clusters-same xs more (k ∷ ks) all =
    rw (cluster-same more all.0)
    (ap (λ cs. cluster_kept xs k ∷ cs) (clusters-same xs more ks all.1))

all-take : {X : Type 0} (P : X → Type 0) (n : ℕ) (xs : List X) → AllByRecursion P xs → AllByRecursion P (take n xs)
all-take P zero [] all = tt
all-take P zero (x ∷ xs) all = tt
all-take P (suc n) [] all = tt
all-take P (suc n) (x ∷ xs) all = (all.0, all-take P n xs all.1)

all-drop : {X : Type 0} (P : X → Type 0) (n : ℕ) (xs : List X) → AllByRecursion P xs → AllByRecursion P (drop n xs)
all-drop P zero [] all = tt
all-drop P zero (x ∷ xs) all = all
all-drop P (suc n) [] all = tt
all-drop P (suc n) (x ∷ xs) all = all-drop P n xs all.1

-- each cluster of a gathering has its points in the history
pub kept-counted : {h : History} {row : Row} → All (IsCounted h.counted) h.closed → HasRow h row
    → AllByRecursion (IsCounted h.counted) (kept_in h (Some row))
kept-counted {h} {row} all has =
    all-push (IsCounted h.counted) (take row.count (drop row.from h.closed)) row.last
    (all-take (IsCounted h.counted) row.count (drop row.from h.closed)
    (all-drop (IsCounted h.counted) row.from h.closed (recursion_from_All (IsCounted h.counted) h.closed all))) has.last

all-kept : (h : History) (r : Option Row) → All (IsCounted h.counted) h.closed → IfSome r (HasRow h) → AllByRecursion (IsCounted h.counted) (kept_in h r)
all-kept h None all held = tt
all-kept h (Some row) all held = kept-counted all held

module _ {old new : History} {row : Row} (grows : Grows old new) (has : HasRow old row) where
  pub kept-same : kept_in new (Some row) ≡ kept_in old (Some row)
  kept-same =
      rw grows.closed
      (ap (λ ks. ks ++ row.last ∷ [])
      (part-same old.closed grows.later row.from row.count has.closed))

  pub has-grown : HasRow new row
  has-grown = grind (arith, length-append, counted-grown)

-- the clusters of a gathering stay
pub clusters-grown : {old new : History} (g : Gathering) → Grows old new → All (IsCounted old.counted) old.closed
    → IsHeld old g → (clusters_in new g ≡ clusters_in old g) × IsHeld new g
clusters-grown {old} {new} g grows all held = by_row g.row held
  where
    by_row : (r : Option Row) → IfSome r (HasRow old) → (map (cluster_kept new.counted) (kept_in new r) ≡ map (cluster_kept old.counted) (kept_in old r))
        × IfSome r (HasRow new)
    by_row None held = (refl, tt)
    by_row (Some row) held = (
      rw (kept-same grows held)
          (ap (λ xs. map (cluster_kept xs) (kept_in old (Some row))) grows.counted
          ∙ clusters-same old.counted grows.later_points (kept_in old (Some row)) (kept-counted all held)),
      has-grown grows held,
    )

pub gathers-grown : (old new : History) → Grows old new → All (IsCounted old.counted) old.closed → (g : Gathering) (points : List Point)
    → Gathers old g points → Gathers new g points
gathers-grown old new grows all g points is =
    let same = clusters-grown g grows all is.held in
    record {
      held = same.1;
      are = rw grows.ow (subst (AreClusters old.ow points) (sym same.0) is.are);
    }

has-ends : {h : History} {row : Row} → EndsWith h row → HasRow h row
has-ends ends = grind arith

-- ---- where the clusters of points lie

-- each ends where it opens or later, and before those behind it open
abbrev pub AreSpaced : List Cluster → Type 0
AreSpaced [] = Unit {0}
AreSpaced (c ∷ cs) = (c.opened ≤ℤ c.end) × AllByRecursion (λ d. c.end <ℤ d.opened) cs × AreSpaced cs

-- no cluster opens after a reading that no point is beyond
opened-most : (ow x : ℤ) (ps : List Point) (cs : List Cluster) → pos 0 ≤ℤ ow → AreClusters ow ps cs → AllByRecursion (λ q. q.reading ≤ℤ x) ps
    → AllByRecursion (λ c. c.opened ≤ℤ x) cs
opened-most ow x [] [] some are all = tt
opened-most ow x [] (c ∷ cs) some are all = absurd are
opened-most ow x (o ∷ ps) [] some are all = tt
opened-most ow x (o ∷ ps) (c ∷ cs) some are all =
    let first = first_end ow o ps c some are.0 in (
      omega (arith, ints, first.0, all.0),
      opened-most ow x (beyond c.end ps) cs some are.1
          (all-filter (λ q. q.reading ≤ℤ x) _ ps all.1),
    )

-- each ends two observation windows after it opens, or before
ends-most : (ow : ℤ) (ps : List Point) (cs : List Cluster) → pos 0 ≤ℤ ow → AreClusters ow ps cs
    → AllByRecursion (λ c. c.end ≤ℤ (c.opened +ℤ (pos 2 *ℤ ow))) cs
ends-most ow [] [] some are = tt
ends-most ow [] (c ∷ cs) some are = absurd are
ends-most ow (o ∷ ps) [] some are = tt
ends-most ow (o ∷ ps) (c ∷ cs) some are = (
  rw are.0 (end_of-most ow o (o ∷ ps) some),
  ends-most ow (beyond c.end ps) cs some are.1,
)

pub spaced : (ow : ℤ) (ps : List Point) (cs : List Cluster) → pos 0 ≤ℤ ow → AreClusters ow ps cs → AreSpaced cs
spaced ow [] [] some are = tt
spaced ow [] (c ∷ cs) some are = absurd are
spaced ow (o ∷ ps) [] some are = tt
spaced ow (o ∷ ps) (c ∷ cs) some are =
    let first = first_end ow o ps c some are.0 in
    (first.1, open_beyond ow c.end (beyond c.end ps) cs are.1 (beyond-all c.end ps), spaced ow (beyond c.end ps) cs some are.1)

-- those before a cluster end before it opens
before-last : (front : List Cluster) (c : Cluster) → AreSpaced (front ++ c ∷ []) → AllByRecursion (λ k. k.end <ℤ c.opened) front
before-last [] c apart = tt
before-last (k ∷ ks) c apart = (last ks apart.1, before-last ks c apart.2)
  where
    last : (ks : List Cluster) → AllByRecursion (λ d. k.end <ℤ d.opened) (ks ++ c ∷ []) → k.end <ℤ c.opened
    last [] all = all.0
    last (m ∷ ms) all = last ms all.1

at-last : {X : Type 0} (P : X → Type 0) (front : List X) (c : X) → AllByRecursion P (front ++ c ∷ []) → P c
at-last P [] c all = all.0
at-last P (k ∷ ks) c all = at-last P ks c all.1

-- so kept clusters rise
rising : (counted : List ℤ) (ks : List KeptCluster) → AreSpaced (map (cluster_kept counted) ks) → IsRising ks
rising counted [] apart i j c d before at also = grind arith
rising counted (k ∷ ks) apart zero zero c d before at also = absurd (omega arith)
rising counted (k ∷ ks) apart zero (suc j) c d before at also =
    let first : k ≡ c = cc in
    rw (sym first) (omega (arith, ints, apart.0, reach ks j apart.1 also))
  where
    reach : (ks : List KeptCluster) (j : ℕ) → AllByRecursion (λ e. k.end <ℤ e.opened) (map (cluster_kept counted) ks) → slice_get ks j ≡ Some d
        → k.end <ℤ d.opened
    reach [] j all at = absurd (none at)
      where
        none : slice_get [] j ≡ Some d → ⊥
        none e = cc
    reach (m ∷ ms) zero all at = let same : m ≡ d = cc in rw same at all.0
    reach (m ∷ ms) (suc j) all at = reach ms j all.1 at
rising counted (k ∷ ks) apart (suc i) zero c d before at also = absurd (omega arith)
rising counted (k ∷ ks) apart (suc i) (suc j) c d before at also =
    rising counted ks apart.2 i j c d (omega arith) at also

-- ---- what a point does to the clusters that a gathering stands for

-- none of these points is later than the reading
abbrev pub AreBefore : List Point → ℤ → Type 0
AreBefore ps reading = AllByRecursion (λ q. q.reading ≤ℤ reading) ps

all-add : (r : ℤ) (ks : List Cluster) (c : Cluster) → AllByRecursion (λ k. k.end <ℤ r) ks → c.end <ℤ r → AllByRecursion (λ k. k.end <ℤ r) (ks ++ c ∷ [])
all-add r [] c all past = (past, tt)
all-add r (k ∷ ks) c all past = (all.0, all-add r ks c all.1 past)

-- the clusters before the last have ended, and the last has opened
before : (ow : ℤ) (ps : List Point) (front : List Cluster) (c : Cluster) (r : ℤ) → pos 0 ≤ℤ ow → AreClusters ow ps (front ++ c ∷ []) → AreBefore ps r
    → AllByRecursion (λ k. k.end <ℤ r) front × (c.opened ≤ℤ r)
before ow ps front c r some are past =
    let opened = at-last (λ k. k.opened ≤ℤ r) front c (opened-most ow r ps (front ++ c ∷ []) some are past) in
    (ended_later c.opened r front opened (before-last front c (spaced ow ps (front ++ c ∷ []) some are)), opened)

-- where none is open at a reading, all have ended
ended : (ow : ℤ) (ps : List Point) (cs : List Cluster) (r : ℤ) → pos 0 ≤ℤ ow → AreClusters ow ps cs → AreBefore ps r → open_at cs r ≡ None
    → AllByRecursion (λ k. k.end <ℤ r) cs
ended ow ps cs r some are past none =
    by_last (last_or None cs) refl
  where
    none_is_some : (c : Cluster) → Some c ≡ None → ⊥
    none_is_some c e = cc

    by_last : (o : Option Cluster) → last_or None cs ≡ o → AllByRecursion (λ k. k.end <ℤ r) cs
    by_last None l = subst (AllByRecursion (λ k. k.end <ℤ r)) (sym (last_or-none cs l)) tt
    by_last (Some c) l =
        elim (cases_Bool (int_lt c.end r)) [
          | inl over ↦
              let split = last_split cs c l in
              let front = before ow ps split.0 c r some (subst (AreClusters ow ps) split.1 are) past in
              let end : c.end <ℤ r = grind (arith, ints) in
              subst (AllByRecursion (λ k. k.end <ℤ r)) (sym split.1) (all-add r split.0 c front.0 end)
          | inr here ↦ absurd (none_is_some c (rw (l, here) at none))
        ]

pub are-opened : (ow : ℤ) (ps : List Point) (cs : List Cluster) (p : Point) → pos 0 ≤ℤ ow → AreClusters ow ps cs → AreBefore ps p.reading → Opened ≡ role cs p
    → AreClusters ow (ps ++ p ∷ []) (cs ++ opening ow p ∷ [])
are-opened ow ps cs p some are past is =
    AreClusters-opened ow ps cs p some are (ended ow ps cs p.reading some are past (role_in-opened (open_at cs p.reading) p (sym is)))

within : {ow : ℤ} (ps : List Point) (front : List Cluster) {c d : Cluster} {p : Point} → pos 0 ≤ℤ ow
    → AreClusters ow ps (front ++ c ∷ []) → AreBefore ps p.reading → p.reading ≤ℤ c.end → c.end ≤ℤ d.end
    → Takes ow c d p → AreClusters ow (ps ++ p ∷ []) (front ++ d ∷ [])
within {ow} ps front {c} {d} {p} some are past here longer takes =
    let front_is = before ow ps front c p.reading some are past in
    AreClusters-within ps front some are front_is.0 front_is.1 here longer takes

true_is_false : true ≡ false → ⊥
true_is_false e = cc

longer-joined : (ow : ℤ) (c : Cluster) (reading : ℤ) → c.end ≤ℤ (c.opened +ℤ (pos 2 *ℤ ow)) → c.end ≤ℤ joined_end ow c reading
longer-joined ow c reading most = grind (arith, cases_Bool, ints)

pub are-joined : (ow : ℤ) (ps : List Point) (front : List Cluster) (c : Cluster) (p : Point) → pos 0 ≤ℤ ow → AreClusters ow ps (front ++ c ∷ [])
    → AreBefore ps p.reading → Joined ≡ role (front ++ c ∷ []) p → AreClusters ow (ps ++ p ∷ []) (front ++ joined ow c p.reading p.master ∷ [])
are-joined ow ps front c p some are past is =
    let cs = front ++ c ∷ [] in
    let j = role_in-joined (open_at cs p.reading) p (sym is) in
    let at = open_at-some cs p.reading j.c j.is in
    let last = sym at.0 ∙ last_pushed None front c in
    let same : j.c ≡ c = cc in
    let most = at-last (λ k. k.end ≤ℤ (k.opened +ℤ (pos 2 *ℤ ow))) front c (ends-most ow ps cs some are) in
    let cycle : p.cycle ≡ c.cycle = rw same at j.same in
    let new : has_point_of c p.master ≡ false = rw same at j.new in
    within ps front some are past
    (rw same at at.1)
    (longer-joined ow c p.reading most)
    (record { other = λ other. absurd (other cycle); repeat = λ _ old. absurd (true_is_false (sym old ∙ new)); joins = λ _ _. refl })

pub are-ignored : (ow : ℤ) (ps : List Point) (cs : List Cluster) (p : Point) → pos 0 ≤ℤ ow → AreClusters ow ps cs → AreBefore ps p.reading
    → (role cs p ≡ Repeat) ⊎ (role cs p ≡ OtherCycle) → AreClusters ow (ps ++ p ∷ []) cs
are-ignored ow ps cs p some are past is =
    let i = role_in-ignored (open_at cs p.reading) p is in
    let at = open_at-some cs p.reading i.c i.is in
    let split = last_split cs i.c at.0 in
    let takes : Takes ow i.c i.c p = record { other = λ _. refl; repeat = λ _ _. refl; joins = λ same new. absurd (neither i.c same new i.why) } in
    subst (AreClusters ow (ps ++ p ∷ [])) (sym split.1)
    (within ps split.0 some (subst (AreClusters ow ps) split.1 are) past at.1 (omega (arith, ints)) takes)
  where
    neither : (c : Cluster) → p.cycle ≡ c.cycle → has_point_of c p.master ≡ false → (p.cycle ≢ c.cycle) ⊎ (has_point_of c p.master ≡ true) → ⊥
    neither c same new (inl other) = other same
    neither c same new (inr old) = true_is_false (sym old ∙ new)

-- the front of a list
all-front : {X : Type 0} (P : X → Type 0) (xs : List X) (x : X) → AllByRecursion P (xs ++ x ∷ []) → AllByRecursion P xs
all-front P [] x all = tt
all-front P (y ∷ ys) x all = (all.0, all-front P ys x all.1)

map-grown : {old new : History} (ks : List KeptCluster) → Grows old new → AllByRecursion (IsCounted old.counted) ks
    → map (cluster_kept new.counted) ks ≡ map (cluster_kept old.counted) ks
map-grown {old} ks grows all =
    rw grows.counted (clusters-same old.counted grows.later_points ks all)

held-by : {h : History} (g : Gathering) {row : Row} → g.row ≡ Some row → EndsWith h row → IsHeld h g
held-by {h} g is ends = rw is (has-ends ends)

-- a gathering with a point that opens a cluster
pub gathers-opened : (old new : History) (g r : Gathering) (p : Point) → pos 0 ≤ℤ old.ow → All (IsCounted old.counted) old.closed → Grows old new
    → Opens old new g p r → Opened ≡ role (clusters_in old g) p → (points : List Point) → Gathers old g points → All (λ q. q.reading ≤ℤ p.reading) points
    → Gathers new r (points ++ p ∷ [])
gathers-opened old new g r p some all grows opens is points gathers past =
    let before_is = recursion_from_All (λ q. q.reading ≤ℤ p.reading) points past in
    let are = are-opened old.ow points (clusters_in old g) p some gathers.are before_is is in
    let front = map-grown (kept_in old g.row) grows (all-kept old g.row all gathers.held) in
    let same : clusters_in new r ≡ clusters_in old g ++ opening old.ow p ∷ [] =
    rw opens.is (ap (map (cluster_kept new.counted)) opens.kept
    ∙ map-append (cluster_kept new.counted) (kept_in old g.row) (opens.row.last ∷ [])
    ∙ ap (λ cs. cs ++ cluster_kept new.counted opens.row.last ∷ []) front
    ∙ ap (λ c. clusters_in old g ++ c ∷ []) opens.cluster) in
    record {
      held = held-by r opens.is opens.ends;
      are = rw grows.ow (subst (AreClusters old.ow (points ++ p ∷ [])) (sym same) are);
    }

-- one with a point that joins the last cluster
pub gathers-joined : {old new : History} {g r : Gathering} {was : Row} (p : Point) → pos 0 ≤ℤ old.ow
    → All (IsCounted old.counted) old.closed → Grows old new → g.row ≡ Some was
    → Joins old new was p.reading p.master r → Joined ≡ role (clusters_in old g) p → {points : List Point}
    → Gathers old g points → All (λ q. q.reading ≤ℤ p.reading) points → Gathers new r (points ++ p ∷ [])
gathers-joined {old} {new} {g} {r} {was} p some all grows row joins is {points} gathers past =
    let before_is = recursion_from_All (λ q. q.reading ≤ℤ p.reading) points past in
    let front = map (cluster_kept old.counted) joins.front in
    let c = cluster_kept old.counted was.last in
    let kept : kept_in old g.row ≡ joins.front ++ was.last ∷ [] = ap (kept_in old) row ∙ joins.were in
    let were : clusters_in old g ≡ front ++ c ∷ [] =
    ap (map (cluster_kept old.counted)) kept ∙ map-append (cluster_kept old.counted) joins.front (was.last ∷ []) in
    let are = are-joined old.ow points front c p some (subst (AreClusters old.ow points) were gathers.are) before_is
    (is ∙ ap (λ cs. role cs p) were) in
    let counted : AllByRecursion (IsCounted old.counted) (joins.front ++ was.last ∷ []) =
    subst (AllByRecursion (IsCounted old.counted)) kept (all-kept old g.row all gathers.held) in
    let front_is = map-grown joins.front grows (all-front (IsCounted old.counted) joins.front was.last counted) in
    let same : clusters_in new r ≡ front ++ joined old.ow c p.reading p.master ∷ [] =
    rw joins.is (ap (map (cluster_kept new.counted)) joins.are
    ∙ map-append (cluster_kept new.counted) joins.front (joins.row.last ∷ [])
    ∙ ap (λ cs. cs ++ cluster_kept new.counted joins.row.last ∷ []) front_is
    ∙ ap (λ d. front ++ d ∷ []) joins.cluster) in
    record {
      held = held-by r joins.is joins.ends;
      are = rw grows.ow (subst (AreClusters old.ow (points ++ p ∷ [])) (sym same) are);
    }

-- it has one, where a point joins
pub gathers-joins : (old new : History) (g r : Gathering) (p : Point) → pos 0 ≤ℤ old.ow → All (IsCounted old.counted) old.closed → Grows old new
    → IfSome g.row (λ was. Joins old new was p.reading p.master r) → Joined ≡ role (clusters_in old g) p → (points : List Point) → Gathers old g points
    → All (λ q. q.reading ≤ℤ p.reading) points → Gathers new r (points ++ p ∷ [])
gathers-joins old new g r p some all grows joins is points gathers past =
    by_row g.row refl
  where
    opened_not : Joined ≡ Opened → ⊥
    opened_not e = cc

    by_row : (x : Option Row) → g.row ≡ x → Gathers new r (points ++ p ∷ [])
    by_row None e = absurd (opened_not (is ∙ ap (λ y. role (map (cluster_kept old.counted) (kept_in old y)) p) e))
    by_row (Some was) e =
        gathers-joined p some all grows e
        (rw e at joins) is gathers
        past

-- one with a point that does not count
pub gathers-ignored : (h : History) (g : Gathering) (p : Point) → pos 0 ≤ℤ h.ow → (role (clusters_in h g) p ≡ Repeat) ⊎ (role (clusters_in h g) p ≡ OtherCycle)
    → (points : List Point) → Gathers h g points → All (λ q. q.reading ≤ℤ p.reading) points → Gathers h g (points ++ p ∷ [])
gathers-ignored h g p some is points gathers past = grind (arith, are-ignored, recursion_from_All)

-- ---- the clusters that are kept, by their places

abbrev pub emitted_by : ℤ → ℤ → ℕ → ℕ → Emitted
emitted_by opened at cycle members = record { opened = opened; at = at; cycle = cycle; members = members }

last_or-map : {X Y : Type 0} (f : X → Y) (o : Option Y) (xs : List X) (x : X) → last_or o (map f (xs ++ x ∷ [])) ≡ Some (f x)
last_or-map f o [] x = refl
last_or-map f o (y ∷ ys) x = last_or-map f (Some (f y)) ys x

module _ (counted : List ℤ) (front : List KeptCluster) (last : KeptCluster) (p : Point) where
  -- the role of a point up to the end of the last cluster, and of one beyond it
  pub role-within : p.reading ≤ℤ last.end → role (map (cluster_kept counted) (front ++ last ∷ [])) p
      ≡ role_in (Some (cluster_kept counted last)) p
  role-within within =
      rw (open_at-in (map (cluster_kept counted) (front ++ last ∷ [])) (cluster_kept counted last)
      p.reading
      (last_or-map (cluster_kept counted) None front last) within)

  pub role-beyond : last.end <ℤ p.reading → role (map (cluster_kept counted) (front ++ last ∷ [])) p ≡ Opened
  role-beyond past =
      rw (open_at-beyond (map (cluster_kept counted) (front ++ last ∷ []))
      (cluster_kept counted last) p.reading
      (last_or-map (cluster_kept counted) None front last) past)

module _ (counted : List ℤ) (k : KeptCluster) where
  -- so many points it has
  pub length-points : IsCounted counted k → length (points_kept counted k) ≡ k.count
  length-points is =
      length-take-le k.count (drop k.from counted) (rw (length-drop k.from counted) (omega (arith, is.within)))

  -- a point of it by its place in the history
  pub get_or-points : (i : ℕ) → i < k.count → get_or (points_kept counted k) i (pos 0)
      ≡ get_or counted (k.from + i) (pos 0)
  get_or-points i inside =
      get_or-take k.count (drop k.from counted) i (pos 0) inside ∙ get_or-drop k.from counted i (pos 0)

  -- how far it is above the first
  pub offset-points : (i : ℕ) → IsCounted counted k → i < k.count
      → offset_at (points_kept counted k) i ≡ get_or counted (k.from + i) (pos 0) -ℤ get_or counted (k.from + 0)
      (pos 0)
  offset-points i is inside = rw (← get_or-points i inside, ← get_or-points 0 is.some) refl

  pub length-last : IsCounted counted k → length (points_kept counted k) ≡ (k.count - 1) + 1
  length-last is = length-points is ∙ omega (arith, is.some)

-- what is emitted, by its parts
pub emitted-is : (ow calc : ℤ) (c : Cluster) (opened at : ℤ) → opened ≡ c.opened → at ≡ emission ow calc c
    → emitted_by opened at c.cycle c.members ≡ emitted ow calc c
emitted-is ow calc c opened at start is = rw start (ap (λ a. emitted_by c.opened a c.cycle c.members) is)

-- the emission at a place
pub emission-at : (h : History) (ks : List KeptCluster) (place : ℕ) (k : KeptCluster) → slice_get ks place ≡ Some k
    → slice_get (map (emitted h.ow h.calc) (map (cluster_kept h.counted) ks)) place ≡ Some (emitted h.ow h.calc (cluster_kept h.counted k))
emission-at h ks place k at =
    slice_get-map (emitted h.ow h.calc) (map (cluster_kept h.counted) ks) place
    ∙ ap (option_map (emitted h.ow h.calc)) (slice_get-map (cluster_kept h.counted) ks place ∙ ap (option_map (cluster_kept h.counted)) at)

-- what is said of each element by its place
pub each-from : {X : Type 0} (P : X → Type 0) (xs : List X) → ((i : ℕ) (x : X) → slice_get xs i ≡ Some x → P x) → AllByRecursion P xs
each-from P [] each = tt
each-from P (x ∷ xs) each = (each 0 x refl, each-from P xs (λ i y at. each (suc i) y at))

-- of each emission, by the clusters that are kept
all-emissions : (h : History) (P : Emitted → Type 0) (ks : List KeptCluster)
    → ((i : ℕ) (k : KeptCluster) → slice_get ks i ≡ Some k → P (emitted h.ow h.calc (cluster_kept h.counted k)))
    → All P (map (emitted h.ow h.calc) (map (cluster_kept h.counted) ks))
all-emissions h P ks each =
    All-from_recursion P (map (emitted h.ow h.calc) (map (cluster_kept h.counted) ks))
    (over ks (each-from (λ k. P (emitted h.ow h.calc (cluster_kept h.counted k))) ks each))
  where
    over : (ks : List KeptCluster) → AllByRecursion (λ k. P (emitted h.ow h.calc (cluster_kept h.counted k))) ks
        → AllByRecursion P (map (emitted h.ow h.calc) (map (cluster_kept h.counted) ks))
    over [] all = tt
    over (k ∷ ks) all = (all.0, over ks all.1)

pub contains-at : {X : Type 0} (xs : List X) (i : ℕ) (x : X) → slice_get xs i ≡ Some x → Contains xs x
contains-at [] i x at = grind arith
contains-at (y ∷ ys) zero x at = let same : y ≡ x = cc in subst (λ (z : _). Contains (y ∷ ys) z) same (in_head y ys)
contains-at (y ∷ ys) (suc i) x at = in_tail y x ys (contains-at ys i x at)

-- ---- what the search for an opening finds

same_at : (ks : List KeptCluster) (i j : ℕ) (k d : KeptCluster) → i ≡ j → slice_get ks i ≡ Some k → slice_get ks j ≡ Some d → k ≡ d
same_at ks i j k d e at there =
    let both = sym at ∙ ap (slice_get ks) e ∙ there in
    cc

-- so many clusters a row has
pub length-kept : {h : History} {row : Row} → HasRow h row → length (kept_in h (Some row)) ≡ row.count + 1
length-kept {h} {row} has =
    length-append (take row.count (drop row.from h.closed)) (row.last ∷ [])
    ∙ ap (λ n. n + 1) (length-take-le row.count (drop row.from h.closed) (rw (length-drop row.from h.closed) (omega (arith, has.closed))))

-- a gathering's clusters rise
pub gathered-rising : {h : History} {g : Gathering} (row : Row) → pos 0 ≤ℤ h.ow → IsGathered h g → g.row ≡ Some row
    → IsRising (kept_in h (Some row))
gathered-rising {h} row some is e =
    rising h.counted (kept_in h (Some row)) (spaced h.ow is.0 (map (cluster_kept h.counted) (kept_in h (Some row))) some
    (rw e at is.1.are))

-- the emissions of clusters, none of which opened there
pub none-opened : (h : History) (ks : List KeptCluster) (opened : ℤ) (result : Option Emitted)
    → ((i : ℕ) (k : KeptCluster) → slice_get ks i ≡ Some k → k.opened ≡ opened → ⊥)
    → All (λ e. e.opened ≡ opened → result ≡ Some e) (map (emitted h.ow h.calc) (map (cluster_kept h.counted) ks))
none-opened h ks opened result none = all-emissions h (λ e. e.opened ≡ opened → result ≡ Some e) ks (λ i k at same. absurd (none i k at same))

-- where the place is behind all
pub none-behind : {ks : List KeptCluster} {opened : ℤ} {place : ℕ} → IsPlaceFor ks opened place → length ks ≤ place
    → (i : ℕ) (k : KeptCluster) → slice_get ks i ≡ Some k → k.opened ≡ opened → ⊥
none-behind {ks} is past i k at same =
    let before = is.before i k (omega (arith, past, got_within ks i k at)) at in
    omega (arith, ints)

-- where another opens at the place
pub none-beside : {ks : List KeptCluster} {opened : ℤ} {place : ℕ} (d : KeptCluster) → IsRising ks
    → IsPlaceFor ks opened place → slice_get ks place ≡ Some d → (d.opened ≡ opened → ⊥) → (i : ℕ) (k : KeptCluster)
    → slice_get ks i ≡ Some k → k.opened ≡ opened → ⊥
none-beside {ks} {opened} {place} d up is there other i k at same =
    elim (cases_lt i place) [
      | inl less ↦ let before = is.before i k less at in omega (arith, ints)
      | inr more ↦
          elim (cases_eq i place) [
            | inl e ↦ let both = same_at ks i place k d e at there in other (rw both at same)
            | inr apart ↦
                let least = is.others place d (omega arith) there in
                let above = up place i d k (omega (arith, more, apart)) there at in
                omega (arith, ints)
          ]
    ]

-- where it does open there, it is the only one
pub only-there : (h : History) {ks : List KeptCluster} {opened : ℤ} {place : ℕ} (d : KeptCluster) → IsRising ks
    → IsPlaceFor ks opened place → slice_get ks place ≡ Some d → d.opened ≡ opened
    → All (λ e. e.opened ≡ opened → Some (emitted h.ow h.calc (cluster_kept h.counted d)) ≡ Some e)
    (map (emitted h.ow h.calc) (map (cluster_kept h.counted) ks))
only-there h {ks} {opened} {place} d up is there opens =
    all-emissions h (λ e. e.opened ≡ opened → Some (emitted h.ow h.calc (cluster_kept h.counted d)) ≡ Some e) ks each
  where
    each : (i : ℕ) (k : KeptCluster) → slice_get ks i ≡ Some k → k.opened ≡ opened
        → Some (emitted h.ow h.calc (cluster_kept h.counted d)) ≡ Some (emitted h.ow h.calc (cluster_kept h.counted k))
    each i k at same =
        elim (cases_eq i place) [
          | inl e ↦ rw (sym (same_at ks i place k d e at there))
          | inr apart ↦
              elim (cases_lt i place) [
                | inl less ↦ let before = is.before i k less at in absurd (omega (arith, ints))
                | inr more ↦
                    let above = up place i d k (omega (arith, more, apart)) there at in
                    absurd (omega (arith, ints))
              ]
        ]

module _ (ks : List KeptCluster) (opened : ℤ) (m : ℕ) (d : KeptCluster) (up : IsRising ks)
    (there : slice_get ks m ≡ Some d) where
  -- a step of the search: those up to one that opens before the reading do so too
  pub before-step : d.opened <ℤ opened → (k : ℕ) (c : KeptCluster) → k < m + 1 → slice_get ks k ≡ Some c
      → c.opened <ℤ opened
  before-step less k c inside at =
      elim (cases_eq k m) [
        | inl e ↦ rw (same_at ks k m c d e at there) less
        | inr apart ↦ let above = up k m c d (omega arith) at there in omega (arith, ints)
      ]

  -- and those from one on that does not do so neither
  pub others-step : opened ≤ℤ d.opened → (k : ℕ) (c : KeptCluster) → m ≤ k → slice_get ks k ≡ Some c
      → opened ≤ℤ c.opened
  others-step least k c inside at =
      elim (cases_eq k m) [
        | inl e ↦ rw (same_at ks k m c d e at there) least
        | inr apart ↦ let above = up m k d c (omega (arith, inside, apart)) there at in
            omega (arith, ints)
      ]

-- ---- what is kept as clusters open and points join

pub grows-none : (h : History) → Grows h h
grows-none h = record {
  ow = refl;
  calc = refl;
  later_points = [];
  counted = sym (append-nil h.counted);
  later = [];
  closed = sym (append-nil h.closed);
}

pub push-same : {xs ys : List KeptCluster} → xs ≡ ys → (k : KeptCluster) → xs ++ k ∷ [] ≡ ys ++ k ∷ []
push-same e k = rw e

-- a bit of 64
pub shift : (m : ℕ) → m < 64 → 1 * 2 ^ m % 18446744073709551616 ≡ 2 ^ m
shift m few = let small = pow-lt few in omega arith

take-all : {X : Type 0} (n : ℕ) (xs : List X) → length xs ≤ n → take n xs ≡ xs
take-all zero [] le = refl
take-all zero (x ∷ xs) le = absurd (omega arith)
take-all (suc n) [] le = refl
take-all (suc n) (x ∷ xs) le = rw (take-all n xs (omega arith))

-- the points up to the last, with one more
points-joined : (counted : List ℤ) (from count : ℕ) (reading : ℤ) → from + count ≡ length counted
    → take (count + 1) (drop from (counted ++ reading ∷ [])) ≡ take count (drop from counted) ++ reading ∷ []
points-joined counted from count reading ends = grind (arith, drop, length, length-drop, take, drop-append-le, take-all, length-append)

abbrev cluster_with : ℤ → ℤ → ℕ → List ℤ → ℕ → Cluster
cluster_with opened end cycle points members = record { opened = opened; end = end; cycle = cycle; points = points; members = members }

abbrev pub kept_with : ℤ → ℤ → ℕ → ℕ → ℕ → ℕ → KeptCluster
kept_with opened end cycle members from count = record { opened = opened; end = end; cycle = cycle; members = members; from = from; count = count }

-- the cluster that a point joined
pub joined-by : (counted more : List ℤ) (k : KeptCluster) (ow reading : ℤ) (master : ℕ) (opened end : ℤ) (members count : ℕ) → more ≡ counted ++ reading ∷ []
    → k.from + k.count ≡ length counted → opened ≡ k.opened → end ≡ joined_end ow (cluster_kept counted k) reading → members ≡ bit_or k.members (2 ^ master)
    → count ≡ k.count + 1 → cluster_kept more (kept_with opened end k.cycle members k.from count) ≡ joined ow (cluster_kept counted k) reading master
joined-by counted more k ow reading master opened end members count push ends start end_is members_is count_is = grind (arith, take, drop, points-joined)

-- the cluster that a point opened
pub opened-by : (counted more : List ℤ) (ow reading : ℤ) (master cycle : ℕ) (opened end : ℤ) (members from : ℕ) → more ≡ counted ++ reading ∷ []
    → from ≡ length counted → opened ≡ reading → end ≡ reading +ℤ ow → members ≡ 2 ^ master
    → cluster_kept more (kept_with opened end cycle members from 1) ≡ opening ow (point_at reading master cycle)
opened-by counted more ow reading master cycle opened end members from push ends start end_is members_is = grind (arith, take, drop, length, drop-front)

-- ---- what is sent for clusters

pub in_map : {X Y : Type 0} (f : X → Y) (xs : List X) (y : Y) → Contains (map f xs) y → (x : X) × Contains xs x × (f x ≡ y)
in_map f [] y at = absurd (in_none y at)
in_map f (x ∷ xs) y at =
    elim (in_cases (f x) y (map f xs) at) [
      | inl e ↦ (x, in_head x xs, e)
      | inr here ↦ let rest = in_map f xs y here in (rest.0, in_tail x rest.0 xs rest.1, rest.2)
    ]

map_in : {X Y : Type 0} (f : X → Y) (xs : List X) (x : X) → Contains xs x → Contains (map f xs) (f x)
map_in f [] x at = absurd (in_none x at)
map_in f (z ∷ zs) x at =
    elim (in_cases z x zs at) [
      | inl e ↦ rw (sym e) (in_head (f z) (map f zs))
      | inr here ↦ in_tail (f z) (f x) (map f zs) (map_in f zs x here)
    ]

abbrev sent_of : Emitted → Compressed
sent_of e = record { opened = record { 0 = e.opened }; at = record { 0 = e.at }; cycle = e.cycle; members = record { 0 = e.members } }

-- one that has the numbers of an emission is sent
pub sends-from : (h : History) (g : Gathering) (sent : Compressed) (e : Emitted) → Contains (emissions_in h g) e → e ≡ as_emitted sent → Sends h g sent
sends-from h g sent e there same =
    let c = in_map (emitted h.ow h.calc) (clusters_in h g) e there in
    (c.0, c.1, ap sent_of (sym same ∙ sym c.2))

-- and what is sent is found where it opened
pub sends-found : (h : History) (g : Gathering) (sent : Compressed) (result : Option Emitted)
    → All (λ e. e.opened ≡ sent.opened.0 → result ≡ Some e) (emissions_in h g) → Sends h g sent → result ≡ Some (as_emitted sent)
sends-found h g sent result all (c, there, is) =
    let same : emitted h.ow h.calc c ≡ as_emitted sent = ap as_emitted (sym is) in
    let at = map_in (emitted h.ow h.calc) (clusters_in h g) c there in
    All-contains (λ e. e.opened ≡ sent.opened.0
    → result ≡ Some e) (emissions_in h g) (emitted h.ow h.calc c) all at (ap (λ e. e.opened) same)
    ∙ ap Some same

pub some_is : (d e : Emitted) → Some d ≡ Some e → d ≡ e
some_is d e both = cc

pub none_is : (e : Emitted) → None ≡ Some e → ⊥
none_is e both = cc

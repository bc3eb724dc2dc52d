-- The first unpaid emission of a stretch and of a device, in the order in which clusters open.
use Rattle.std.{specs.{List.AllByRecursion, Prelude.{◌&&◌, ◌==◌, Contains, int_le, min}}}
use Rattle.std.proofs.Common
use Common.{◌*ℤ◌, ◌+ℤ◌, ◌+◌, ◌-ℤ◌, ◌-◌, ◌<ℤ◌, ◌<◌, ◌^◌, ◌∙◌, ◌∷◌, ◌≡◌, ◌≤ℤ◌, ◌≤◌, ◌⊎◌, Bool, FitsSigned, List, None}
use Common.{Option, Some, [], ap, arith, false, get_or, inl, inr, length, map, neg_ℤ, pos, refl, slice_get, subst, suc}
use Common.{sym, true, w64, zero, ℕ, ℤ}
use Rattle.std.proofs.lemmas.{Bool.{and_parts, cases_lt}, Int.ints, List.length-map, Option.{same_Some, slice_get_past}}
use Rattle.audit_devices.{proofs.stretches_lemmas.Stretches.emissions_same}
use Rattle.audit_devices.specs.{Keeping.time_at}
use Rattle.audit_devices.specs.{declared.stretches.{history.StretchHistory.StretchHistory, kept.Entry.Entry}}
use Rattle.audit_devices.specs.stretches.{Keeping.{Keeps, Stretches}, Points.{HasPoints, emissions_for}}
use Rattle.audit_devices.specs.stretches.{Standing.{IsBehind, Stands, device_count, kept_of}}
use Rattle.audit_law.{proofs.collections_lemmas.Clusters.{AreSpaced, none_is, some_is, spaced}}
use Rattle.audit_law.specs.{declared.collections.{emitted.Emitted.Emitted, gathering.Gathering.Gathering}}
use Rattle.audit_law.specs.{events.Readings.ReadsOn}
use Rattle.audit_law.specs.collections.{Gathered.Gathers}
use Rattle.audit_law.specs.collections.{Kept.{History, as_emitted, clusters_in, emissions_in, emitted}}
use Rattle.audit_law.specs.law.{Debts.IsPaid, Emitted.OwesEmission, FirstDebts.{TellsFirst, earlier_of}}
use Rattle.audit_law.specs.law.{Owed.{Debt, IsOwed, Pays, falls_due}}
use Rattle.audit_sweep.{proofs.unpaid_lemmas.emissions_lemmas.Owing.{are_in, owed_within}}
use Rattle.audit_sweep.specs.unpaid.{Sorts.IsEmissionDebtOf}
use Rattle.audit_sweep.specs.unpaid.emissions.{Firsts.{IsFirstOf, TellsFirstOf}}
use Rattle.audit_sweep.specs.unpaid.emissions.Emissions.{IsShort, IsTold, Owes, OwesAt, OwesBehind, OwesWithin, sent_of}
use Rattle.compression.proofs.{Growth.{counts, end_of-least, held-start, in_filter}}
use Rattle.compression.proofs.{Middles.{middle_of-ends, middle_of-inner}}
use Rattle.compression.specs.{Ascent.offset_at, Emission.emission, Middle.{middle_of, relative}}
use Rattle.compression.specs.{declared.compressed.Compressed.Compressed}
use Rattle.compression.specs.Clusters
use Clusters.{AreClusters, Cluster, Point, beyond, cluster_of, end_of, firsts, has_master, of_cycle_within}
use Rattle.drift_clock.{proofs.Drifts.one_reach, specs.Reach.IsReach}
use Rattle.net_plan.specs.declared.{ids.DeviceId.DeviceId, network.Network.Network, tables.Device.Device}
use Rattle.run_law.{proofs.law.FirstDeliveries.in_at}
use Rattle.run_law.specs.{control.Collections.observation_window, records.Happenings.Happening}
use Rattle.run_law.specs.{scenario.{Devices.is_cm, Scenarios.Scenario}}
use Rattle.tte_units.{proofs.{Means.mean_of-floor, general_lemmas.{Lists.some_at, Naturals.below_next}}}
use Rattle.tte_units.{specs.Mean.mean_of}
use Rattle.audit_law.specs.law.Owed as debts

-- ---- emissions come in the order in which their clusters open: the middle of points

abbrev LieIn : ℤ → ℤ → List ℤ → Type 0
LieIn low high ps = AllByRecursion (λ q. (low ≤ℤ q) × (q ≤ℤ high)) ps

at_place : (low high : ℤ) (ps : List ℤ) (i : ℕ) → i < length ps → LieIn low high ps → (low ≤ℤ get_or ps i (pos 0)) × (get_or ps i (pos 0) ≤ℤ high)
at_place low high [] i lt all = absurd (omega (arith, lt))
at_place low high (p ∷ ps) zero lt all = all.0
at_place low high (p ∷ ps) (suc i) lt all = at_place low high ps i (omega (arith, lt)) all.1

offset_in : (p high : ℤ) (ps : List ℤ) (i : ℕ) → i < length (p ∷ ps) → LieIn p high (p ∷ ps)
    → (pos 0 ≤ℤ offset_at (p ∷ ps) i) × (offset_at (p ∷ ps) i ≤ℤ (high -ℤ p))
offset_in p high ps i lt all =
    let here = at_place p high (p ∷ ps) i lt all in
    by (get_or (p ∷ ps) i (pos 0)) here.0 here.1
  where
    by : (x : ℤ) → p ≤ℤ x → x ≤ℤ high → (pos 0 ≤ℤ (x -ℤ p)) × ((x -ℤ p) ≤ℤ (high -ℤ p))
    by x low most = (omega (arith, ints), omega (arith, ints))

mean_in : (a b most : ℤ) → (pos 0 ≤ℤ a) × (a ≤ℤ most) → (pos 0 ≤ℤ b) × (b ≤ℤ most) → (pos 0 ≤ℤ mean_of a b) × (mean_of a b ≤ℤ most)
mean_in a b most first second = grind (arith, mean_of-floor, ints)

-- it is none of them before the first, and none behind the last
middle_in : (p high : ℤ) (ps : List ℤ) → LieIn p high (p ∷ ps) → (pos 0 ≤ℤ middle_of (relative (p ∷ ps))) × (middle_of (relative (p ∷ ps)) ≤ℤ (high -ℤ p))
middle_in p high ps all =
    let last = length ps in
    let InIt : ℤ → Type 0 = λ m. (pos 0 ≤ℤ m) × (m ≤ℤ (high -ℤ p)) in
    let offset : ℕ → ℤ = offset_at (p ∷ ps) in
    let long : length (p ∷ ps) ≡ last + 1 = omega arith in
    elim (cases_lt last 2) [
      | inl few ↦
          subst InIt (middle_of-ends (p ∷ ps) last long few)
          (mean_in (offset 0) (offset last) (high -ℤ p) (offset_in p high ps 0 (omega arith) all) (offset_in p high ps last (omega arith) all))
      | inr many ↦
          subst InIt (middle_of-inner (p ∷ ps) last long many)
          (mean_in (offset 1) (offset (last - 1)) (high -ℤ p) (offset_in p high ps 1 (omega (arith, many)) all)
          (offset_in p high ps (last - 1) (omega (arith, many)) all))
    ]

-- ---- the points of a cluster

from_test : (cycle : ℕ) (low high : ℤ) (q : Point) → (q.cycle == cycle && (int_le low q.reading && int_le q.reading high)) ≡ true
    → (low ≤ℤ q.reading) × (q.reading ≤ℤ high)
from_test cycle low high q e = grind (arith, and_parts, ints)

readings_in : (o : Point) (high : ℤ) (ps more : List Point)
    → AllByRecursion (λ q. Contains (of_cycle_within o.cycle o.reading high ps) q × (has_master (o ∷ []) q.master ≡ false)) more
    → LieIn o.reading high (map (λ q. q.reading) more)
readings_in o high ps [] all = tt
readings_in o high ps (q ∷ more) all =
    let test : Point → Bool = λ q. q.cycle == o.cycle && (int_le o.reading q.reading && int_le q.reading high) in
    (from_test o.cycle o.reading high q (in_filter test ps q all.0.0).1, readings_in o high ps more all.1)

-- where the emission of a cluster lies
abbrev IsInside : ℤ → ℤ → Cluster → Type 0
IsInside ow calc c = ((c.opened +ℤ (pos 2 *ℤ ow) +ℤ calc) ≤ℤ emission ow calc c) × (emission ow calc c ≤ℤ (c.end +ℤ (pos 2 *ℤ ow) +ℤ calc))

inside : (ow calc : ℤ) (o : Point) (ps : List Point) → pos 0 ≤ℤ ow → IsInside ow calc (cluster_of ow o (o ∷ ps))
inside ow calc o ps some =
    let end = end_of ow o (o ∷ ps) in
    let least = end_of-least ow o (o ∷ ps) some in
    let starts : o.reading ≤ℤ end = omega (arith, ints, least, some) in
    let held = held-start o end ps starts in
    let c = counts (o ∷ []) (of_cycle_within o.cycle o.reading end ps) in
    let counted : firsts (of_cycle_within o.cycle o.reading end (o ∷ ps)) ≡ o ∷ c.more = ap firsts held ∙ c.is in
    let same : map (λ q. q.reading) (firsts (of_cycle_within o.cycle o.reading end (o ∷ ps))) ≡ o.reading ∷ map (λ q. q.reading) c.more =
    ap (map (λ q. q.reading)) counted in
    let first : (o.reading ≤ℤ o.reading) × (o.reading ≤ℤ end) = (omega (arith, ints), starts) in
    let middle = middle_in o.reading end (map (λ q. q.reading) c.more) (first, readings_in o end ps c.more c.each) in
    by end (middle_of (relative (map (λ q. q.reading) (firsts (of_cycle_within o.cycle o.reading end (o ∷ ps))))))
    (subst (λ xs. (pos 0 ≤ℤ middle_of (relative xs)) × (middle_of (relative xs) ≤ℤ (end -ℤ o.reading))) (sym same) middle)
  where
    by : (end m : ℤ) → (pos 0 ≤ℤ m) × (m ≤ℤ (end -ℤ o.reading)) → ((o.reading +ℤ (pos 2 *ℤ ow) +ℤ calc) ≤ℤ (o.reading +ℤ (pos 2 *ℤ ow) +ℤ calc +ℤ m))
        × ((o.reading +ℤ (pos 2 *ℤ ow) +ℤ calc +ℤ m) ≤ℤ (end +ℤ (pos 2 *ℤ ow) +ℤ calc))
    by end m between = (omega (arith, ints, between.0), omega (arith, ints, between.1))

module _ (ow calc : ℤ) where
  all_inside : (ps : List Point) (cs : List Cluster) → pos 0 ≤ℤ ow → AreClusters ow ps cs
      → AllByRecursion (IsInside ow calc) cs
  all_inside [] [] some are = tt
  all_inside [] (c ∷ cs) some are = absurd are
  all_inside (o ∷ ps) [] some are = tt
  all_inside (o ∷ ps) (c ∷ cs) some are =
      (subst (IsInside ow calc) (sym are.0) (inside ow calc o ps some), all_inside (beyond c.end ps) cs some are.1)

  -- ---- the order of emissions

  behind_first : (c : Cluster) (cs : List Cluster) (j : ℕ) (b : Emitted) → IsInside ow calc c
      → AllByRecursion (λ d. c.end <ℤ d.opened) cs → AllByRecursion (IsInside ow calc) cs
      → slice_get (map (emitted ow calc) cs) j ≡ Some b → emission ow calc c ≤ℤ b.at
  behind_first c [] j b within later all e = absurd (none_is b e)
  behind_first c (d ∷ ds) zero b within later all e =
      let same : emission ow calc d ≡ b.at = ap (λ (x : Emitted). x.at) (some_is (emitted ow calc d) b e) in
      subst (λ x. emission ow calc c ≤ℤ x) same
      (by (emission ow calc c) (emission ow calc d) within.1 all.0.0 later.0)
    where
      by : (x y : ℤ) → x ≤ℤ (c.end +ℤ (pos 2 *ℤ ow) +ℤ calc) → (d.opened +ℤ (pos 2 *ℤ ow) +ℤ calc) ≤ℤ y
          → c.end <ℤ d.opened → x ≤ℤ y
      by x y most least lt = omega (arith, ints)
  behind_first c (d ∷ ds) (suc j) b within later all e = behind_first c ds j b within later.1 all.1 e

  ordered : (cs : List Cluster) (i j : ℕ) (a b : Emitted) → AreSpaced cs → AllByRecursion (IsInside ow calc) cs
      → i ≤ j → slice_get (map (emitted ow calc) cs) i ≡ Some a → slice_get (map (emitted ow calc) cs) j ≡ Some b
      → a.at ≤ℤ b.at
  ordered [] i j a b apart all le e f = absurd (none_is a e)
  ordered (c ∷ cs) zero zero a b apart all le e f =
      let same : a.at ≡ b.at =
      ap (λ (x : Emitted). x.at) (sym (some_is (emitted ow calc c) a e) ∙ some_is (emitted ow calc c) b f) in
      omega (arith, ints, same)
  ordered (c ∷ cs) zero (suc j) a b apart all le e f =
      subst (λ x. x ≤ℤ b.at) (ap (λ (x : Emitted). x.at) (some_is (emitted ow calc c) a e))
      (behind_first c cs j b all.0 apart.1 all.1 f)
  ordered (c ∷ cs) (suc i) zero a b apart all le e f = absurd (omega (arith, le))
  ordered (c ∷ cs) (suc i) (suc j) a b apart all le e f = ordered cs i j a b apart.2 all.1 (omega (arith, le)) e f

-- of two emissions of a gathering the one behind is at no lower reading
pub ascending : {h : History} {g : Gathering} {points : List Point} (i j : ℕ) (a b : Emitted) → pos 0 ≤ℤ h.ow
    → Gathers h g points → i ≤ j → slice_get (emissions_in h g) i ≡ Some a → slice_get (emissions_in h g) j ≡ Some b
    → a.at ≤ℤ b.at
ascending {h} {g} {points} i j a b some gathers le e f =
    ordered h.ow h.calc (clusters_in h g) i j a b (spaced h.ow points (clusters_in h g) some gathers.are)
    (all_inside h.ow h.calc points (clusters_in h g) some gathers.are) le e f

opened_first : (ow calc : ℤ) (cs : List Cluster) (i : ℕ) (a : Emitted) → pos 0 ≤ℤ ow → pos 0 ≤ℤ calc → AllByRecursion (IsInside ow calc) cs
    → slice_get (map (emitted ow calc) cs) i ≡ Some a → a.opened ≤ℤ a.at
opened_first ow calc [] i a some more all e = absurd (none_is a e)
opened_first ow calc (c ∷ cs) zero a some more all e =
    subst (λ (x : Emitted). x.opened ≤ℤ x.at) (some_is (emitted ow calc c) a e) (by (emission ow calc c) all.0.0)
  where
    by : (x : ℤ) → (c.opened +ℤ (pos 2 *ℤ ow) +ℤ calc) ≤ℤ x → c.opened ≤ℤ x
    by x least = omega (arith, ints, some, more)
opened_first ow calc (c ∷ cs) (suc i) a some more all e = opened_first ow calc cs i a some more all.1 e

-- none is at a lower reading than that at which its cluster opens
pub opens_before : {h : History} {g : Gathering} {points : List Point} (i : ℕ) (a : Emitted) → pos 0 ≤ℤ h.ow
    → pos 0 ≤ℤ h.calc → Gathers h g points → slice_get (emissions_in h g) i ≡ Some a → a.opened ≤ℤ a.at
opens_before {h} {g} {points} i a some more gathers e =
    opened_first h.ow h.calc (clusters_in h g) i a some more (all_inside h.ow h.calc points (clusters_in h g) some gathers.are) e

-- ---- the first of what is unpaid, of two parts and of one that is looked at

-- what is owed is owed in one of two parts
pub record HasParts {O : Type 0} (All One Other : O → ℕ → Type 0) : Type 0 where
  pub parts : (o : O) (t : ℕ) → All o t → One o t ⊎ Other o t
  pub one : (o : O) (t : ℕ) → One o t → All o t
  pub other : (o : O) (t : ℕ) → Other o t → All o t

take_one : {O : Type 0} (All One Other : O → ℕ → Type 0) (IsPaid : O → Type 0) {t : ℕ} → HasParts All One Other
    → IsFirstOf One IsPaid t → ((o : O) (u : ℕ) → Other o u → (IsPaid o → ⊥) → t ≤ u) → IsFirstOf All IsPaid t
take_one All One Other IsPaid has first late = grind arith

turned : {O : Type 0} (All One Other : O → ℕ → Type 0) → HasParts All One Other → HasParts All Other One
turned All One Other has = grind arith

pub first_of_both : {O : Type 0} (All One Other : O → ℕ → Type 0) (IsPaid : O → Type 0) (a b : Option ℕ) → HasParts All One Other
    → TellsFirstOf One IsPaid a → TellsFirstOf Other IsPaid b → TellsFirstOf All IsPaid (earlier_of a b)
first_of_both All One Other IsPaid None None has h g = λ o t owed. elim (has.parts o t owed) [ inl p ↦ h o t p | inr q ↦ g o t q ]
first_of_both All One Other IsPaid None (Some u) has h g =
    take_one All Other One IsPaid (turned All One Other has) g (λ o t owed not. absurd (not (h o t owed)))
first_of_both All One Other IsPaid (Some t) None has h g =
    take_one All One Other IsPaid has h (λ o u owed not. absurd (not (g o u owed)))
first_of_both All One Other IsPaid (Some t) (Some u) has h g =
    elim (cases_lt u t) [
      | inl less ↦
          let same : u ≡ min t u = omega (arith, less) in
          subst (IsFirstOf All IsPaid) same
          (take_one All Other One IsPaid (turned All One Other has) g
          (λ o v owed not. let late = h.first o v owed not in omega (arith, late, less)))
      | inr more ↦
          let same : t ≡ min t u = omega (arith, more) in
          subst (IsFirstOf All IsPaid) same
          (take_one All One Other IsPaid has h (λ o v owed not. let late = g.first o v owed not in
          omega (arith, late, more)))
    ]

-- of what is owed in other words
pub first_as : {O : Type 0} (All One : O → ℕ → Type 0) (IsPaid : O → Type 0) (a : Option ℕ) → ((o : O) (t : ℕ) → All o t → One o t)
    → ((o : O) (t : ℕ) → One o t → All o t) → TellsFirstOf One IsPaid a → TellsFirstOf All IsPaid a
first_as All One IsPaid None to from h = λ o t owed. h o t (to o t owed)
first_as All One IsPaid (Some t) to from h = grind arith

-- nothing is owed
pub first_of_none : {O : Type 0} (Owes : O → ℕ → Type 0) (IsPaid : O → Type 0) → ((o : O) (t : ℕ) → Owes o t → ⊥) → TellsFirstOf Owes IsPaid None
first_of_none Owes IsPaid none = λ o t owed. absurd (none o t owed)

-- ---- the first of what is unpaid, from one change of a stretch to the next, and of a device

-- ---- the stretch behind an entry

pub entry_points : {network : Network} {hs : List Happening} {d : DeviceId} {kept : Stretches} (e : Entry)
    (place : ℕ) → Keeps network hs d kept → slice_get kept.entries place ≡ Some e
    → (points : List Point) × HasPoints network points kept.collections e.gathering
entry_points {kept} e place keeps there =
    let some = keeps.each e (in_at kept.entries place e there) in
    (some.0, record { ow = keeps.ow; calc = keeps.calc; gathers = some.1 })

pub stretch_points : {network : Network} {points : List Point} {kept : Stretches} {e : Entry} {time : ℕ}
    {collections : History} {g : Gathering} → IsBehind kept e time collections g
    → HasPoints network points kept.collections e.gathering → HasPoints network points collections g
stretch_points {network} {points} {e} {collections} behind has =
    subst (λ x. HasPoints network points collections x) (sym behind.gathering_is)
    (subst (λ x. HasPoints network points x e.gathering) (sym behind.collections_are) has)

emissions_behind : {kept : Stretches} {e : Entry} {time : ℕ} {collections : History} {g : Gathering}
    → IsBehind kept e time collections g → emissions_in collections g ≡ emissions_in kept.collections e.gathering
emissions_behind {kept} {g} behind =
    ap (λ x. emissions_in x g) behind.collections_are ∙ ap (emissions_in kept.collections) behind.gathering_is

module _ (network : Network) (points : List Point) (kept : Stretches) (e : Entry) (time : ℕ) (collections : History)
    (g : Gathering) where
  -- what a stretch says of its clusters it says of the entry's
  pub emission_behind : (place : ℕ) (r : Option Emitted) → IsBehind kept e time collections g
      → HasPoints network points collections g → ((clusters : List Cluster)
      → AreClusters (observation_window network) points clusters
      → r ≡ slice_get (emissions_for network clusters) place)
      → slice_get (emissions_in kept.collections e.gathering) place ≡ r
  emission_behind place r behind has is = grind (arith, are_in, slice_get, emissions_behind, emissions_same)

  pub length_behind : (n : ℕ) → IsBehind kept e time collections g → HasPoints network points collections g
      → ((clusters : List Cluster) → AreClusters (observation_window network) points clusters → n ≡ length clusters)
      → length (emissions_in kept.collections e.gathering) ≡ n
  length_behind n behind has is = grind (arith, length, emissions_behind, length-map, are_in)

-- ---- one change more

abbrev Until : Scenario → List Happening → ℕ → DeviceId → Stretches → ℕ → Compressed → ℕ → Type 0
Until s hs until d kept n = OwesWithin s hs until d kept.collections kept.entries n

module _ (s : Scenario) (hs : List Happening) (until : ℕ) (d : DeviceId) (kept : Stretches) where
  entry_parts : (e : Entry) (n : ℕ) → slice_get kept.entries n ≡ Some e
      → HasParts (Until s hs until d kept (n + 1)) (Until s hs until d kept n)
      (OwesBehind s hs until d kept.collections e 0)
  entry_parts e n is = record {
    parts = λ sent t o.
        elim (below_next o.index n o.below) [
          | inl less ↦ inl (record { index = o.index; e = o.e; below = less; there = o.there; owed = o.owed })
          | inr same ↦
              let at = subst (λ (i : ℕ). slice_get kept.entries i ≡ Some o.e) same o.there in
              inr (subst (λ x. OwesBehind s hs until d kept.collections x 0 sent t)
              (same_Some o.e e (sym at ∙ is)) o.owed)
        ];
    one = λ sent t o. let below = o.below in
        record { index = o.index; e = o.e; below = omega (arith, below); there = o.there; owed = o.owed };
    other = λ sent t o. record { index = n; e = e; below = omega arith; there = is; owed = o };
  }

  pub entries_more : (e : Entry) (n : ℕ) (r q : Option ℕ) → slice_get kept.entries n ≡ Some e
      → TellsFirstOf (Until s hs until d kept n) (IsTold s hs d) r
      → TellsFirstOf (OwesBehind s hs until d kept.collections e 0) (IsTold s hs d) q
      → TellsFirstOf (Until s hs until d kept (n + 1)) (IsTold s hs d) (earlier_of r q)
  entries_more e n r q is told more =
      first_of_both (Until s hs until d kept (n + 1)) (Until s hs until d kept n)
      (OwesBehind s hs until d kept.collections e 0) (IsTold s hs d) r q
      (entry_parts e n is) told more

  pub entries_none : TellsFirstOf (Until s hs until d kept 0) (IsTold s hs d) None
  entries_none = first_of_none (Until s hs until d kept 0) (IsTold s hs d)
      (λ sent t o. let below = o.below in omega (arith, below))

  pub entries_all : (n : ℕ) (r : Option ℕ) → Keeps s.network hs d kept → n ≡ length kept.entries
      → TellsFirstOf (Until s hs until d kept n) (IsTold s hs d) r
      → TellsFirstOf (OwesAt s hs until d) (IsTold s hs d) r
  entries_all n r keeps all told = grind (arith, first_as, owed_within)

-- ---- the first of a device

-- a compression master is a device of the network
master_there : (network : Network) (d : DeviceId) → is_cm network d ≡ true → d.0 < length network.device
master_there network d master = grind (arith, cases_lt, length, slice_get_past)

-- only compression masters owe
pub none_of_others : (s : Scenario) (hs : List Happening) (until : ℕ) (d : DeviceId) → is_cm s.network d ≡ false
    → TellsFirstOf (OwesAt s hs until d) (IsTold s hs d) None
none_of_others s hs until d not = first_of_none (OwesAt s hs until d) (IsTold s hs d) (λ sent t o. let master = o.owes.emits.cm in absurd cc)

pub emission_within : (s : Scenario) (hs : List Happening) (until : ℕ) (device : DeviceId) (o : Debt)
    → IsEmissionDebtOf device o → IsOwed s hs until o → device.0 < length s.network.device
emission_within s hs until device (debts.emission other sent) is owed =
    subst (λ (d : DeviceId). d.0 < length s.network.device) is (master_there s.network other owed.emits.cm)
emission_within s hs until device other is owed = absurd is

-- what is owed of a device by its debts
pub owed_by : {s : Scenario} {hs : List Happening} {until : ℕ} {device other : DeviceId} {sent : Compressed}
    → other ≡ device → (owed : OwesEmission s hs until other sent) → OwesAt s hs until device sent owed.time
owed_by {s} {hs} {until} {sent} is owed =
    subst (λ (d : DeviceId). OwesAt s hs until d sent owed.time) is
    (record { owes = record { verdict = owed.verdict; emits = owed.emits }; timely = owed.timely })

all_emitted : {s : Scenario} {hs : List Happening} {until : ℕ} {device : DeviceId}
    → TellsFirstOf (OwesAt s hs until device) (IsTold s hs device) None → (o : Debt) → IsEmissionDebtOf device o
    → IsOwed s hs until o → IsPaid hs (Pays s) o
all_emitted {s} {hs} all (debts.emission other sent) is owed =
    subst (λ (d : DeviceId). IsTold s hs d sent) (sym is) (all sent owed.time (owed_by is owed))
all_emitted all other is owed = absurd is

not_before : {s : Scenario} {hs : List Happening} {until t : ℕ} {device : DeviceId}
    → IsFirstOf (OwesAt s hs until device) (IsTold s hs device) t → (o : Debt) (owed : IsOwed s hs until o)
    → IsEmissionDebtOf device o → (IsPaid hs (Pays s) o → ⊥) → t ≤ falls_due s hs until o owed
not_before {s} {hs} h (debts.emission other sent) owed is not =
    h.first sent owed.time (owed_by is owed) (λ told. not (subst (λ (d : DeviceId). IsTold s hs d sent) (sym is) told))
not_before h other owed is not = absurd is

pub first_emission : (s : Scenario) (hs : List Happening) (until : ℕ) (device : DeviceId) (r : Option ℕ)
    → TellsFirstOf (OwesAt s hs until device) (IsTold s hs device) r → TellsFirst s hs until (IsEmissionDebtOf device) r
first_emission s hs until device None h = all_emitted {s = s} {hs = hs} {until = until} {device = device} h
first_emission s hs until device (Some t) h = record {
  debt = debts.emission device h.debt;
  one = refl;
  owed = record { time = t; verdict = h.owed.owes.verdict; emits = h.owed.owes.emits; timely = h.owed.timely };
  unpaid = h.unpaid;
  at = refl;
  first = not_before {s = s} {hs = hs} {until = until} {t = t} {device = device} h;
}

-- ---- what a stretch says of an entry's clusters

module _ (network : Network) (hs : List Happening) (d : DeviceId) (kept : Stretches) (e : Entry) (place time : ℕ)
    (collections : History) (g : Gathering) where
  pub emission_there : (k : ℕ) (r : Option Emitted) → Keeps network hs d kept → slice_get kept.entries place ≡ Some e
      → IsBehind kept e time collections g → ((n : Network) (points : List Point) (clusters : List Cluster)
      → HasPoints n points collections g → AreClusters (observation_window n) points clusters
      → r ≡ slice_get (emissions_for n clusters) k) → slice_get (emissions_in kept.collections e.gathering) k ≡ r
  emission_there k r keeps at behind told =
      let points = entry_points e place keeps at in
      let has = stretch_points behind points.1 in
      emission_behind network points.0 kept e time collections g k r behind has
      (λ clusters are. told network points.0 clusters has are)

  pub length_there : (r : ℕ) → Keeps network hs d kept → slice_get kept.entries place ≡ Some e
      → IsBehind kept e time collections g → ((n : Network) (points : List Point) (clusters : List Cluster)
      → HasPoints n points collections g → AreClusters (observation_window n) points clusters → r ≡ length clusters)
      → length (emissions_in kept.collections e.gathering) ≡ r
  length_there r keeps at behind told =
      let points = entry_points e place keeps at in
      let has = stretch_points behind points.1 in
      length_behind network points.0 kept e time collections g r behind has
      (λ clusters are. told network points.0 clusters has are)

-- ---- what is needed of a stretch

-- the stretch behind a change is that of some points
pub some_points : (network : Network) (hs : List Happening) (history : StretchHistory) (d : DeviceId) (place time : ℕ) (collections : History) (g : Gathering)
    → Stands network hs history → is_cm network d ≡ true → d.0 < device_count history
    → ((kept : Stretches) → kept_of history d ≡ Some kept → place < length kept.entries)
    → ((kept : Stretches) (e : Entry) → kept_of history d ≡ Some kept → slice_get kept.entries place ≡ Some e → IsBehind kept e time collections g)
    → (n : Network) × (points : List Point) × HasPoints n points collections g
some_points network hs history d place time collections g stands cm lt inside behind =
    let kept = some_at history.kept.items d.0 lt in
    let e = some_at kept.0.entries place (inside kept.0 kept.1) in
    let points = entry_points e.0 place (stands d kept.0 kept.1 cm) e.1 in
    (network, points.0, stretch_points (behind kept.0 e.0 kept.1 e.1) points.1)

pub not_negative : (z : ℤ) (n : ℕ) → z ≡ pos n → pos 0 ≤ℤ z
not_negative z n e = omega (arith, ints, e)

short_emission : {network : Network} {points : List Point} {h : History} {g : Gathering} (place t : ℕ) (a : Emitted)
    {reading : ℕ → ℕ} → HasPoints network points h g → slice_get (emissions_in h g) place ≡ Some a
    → neg_ℤ (pos (2 ^ 63)) ≤ℤ a.opened → ReadsOn reading → t ≤ 2 ^ 60 → IsReach reading (pos 0) a.at (pos t)
    → IsShort a.at
short_emission {h} place t a has there low on limit reach =
    let opens = opens_before place a (not_negative h.ow _ has.ow) (not_negative h.calc _ has.calc) has.gathers there in
    let bound = on.bound t limit in
    let reached = reach.reached in
    record { low = omega (arith, ints, opens, low); high = omega (arith, ints, bound, reached) }

pub least_short : (z : ℤ) → FitsSigned w64 z → neg_ℤ (pos (2 ^ 63)) ≤ℤ z
least_short z fits = grind (arith, ints, fits)

-- the reading of an emission that is reached is of 64 bits
pub short_there : (network : Network) (hs : List Happening) (history : StretchHistory) (d : DeviceId)
    (place time : ℕ) (collections : History) (g : Gathering) (k t : ℕ) (a : Emitted) {reading : ℕ → ℕ}
    → Stands network hs history → is_cm network d ≡ true → d.0 < device_count history
    → ((kept : Stretches) → kept_of history d ≡ Some kept → place < length kept.entries)
    → ((kept : Stretches) (e : Entry) → kept_of history d ≡ Some kept → slice_get kept.entries place ≡ Some e
    → IsBehind kept e time collections g) → ((n : Network) (points : List Point) (clusters : List Cluster)
    → HasPoints n points collections g → AreClusters (observation_window n) points clusters
    → Some a ≡ slice_get (emissions_for n clusters) k) → neg_ℤ (pos (2 ^ 63)) ≤ℤ a.opened → ReadsOn reading
    → t ≤ 2 ^ 60 → IsReach reading (pos 0) a.at (pos t) → IsShort a.at
short_there network hs history d place time collections g k t a stands cm lt inside behind told low on limit reach =
    let kept = some_at history.kept.items d.0 lt in
    let e = some_at kept.0.entries place (inside kept.0 kept.1) in
    let keeps = stands d kept.0 kept.1 cm in
    let got = emission_there network hs d kept.0 e.0 place time collections g k (Some a) keeps e.1 (behind kept.0 e.0 kept.1 e.1) told in
    let points = entry_points e.0 place keeps e.1 in
    short_emission k t a points.1 got low on limit reach

-- ---- the first of what is unpaid, from the last cluster of a stretch back

-- this is owed, of the cluster at the place or of one behind it
abbrev OwesHere : Scenario → List Happening → ℕ → DeviceId → History → Entry → ℕ → Emitted → Compressed → ℕ → Type 0
OwesHere s hs until d collections e k a sent t = (sent ≡ sent_of a) × OwesBehind s hs until d collections e k sent t

same_sent : (sent : Compressed) (a : Emitted) → Some a ≡ Some (as_emitted sent) → sent ≡ sent_of a
same_sent sent a e = let same : as_emitted sent ≡ a = cc in ap sent_of same

further : {s : Scenario} {hs : List Happening} {until : ℕ} {d : DeviceId} {collections : History} {e : Entry} {k : ℕ}
    (j : ℕ) {sent : Compressed} {t : ℕ} → j ≤ k → OwesBehind s hs until d collections e k sent t
    → OwesBehind s hs until d collections e j sent t
further j le o =
    let behind = o.behind in
    record { owed = o.owed; place = o.place; behind = omega (arith, behind, le); there = o.there; begun = o.begun }

-- one more cluster
has_parts : (s : Scenario) (hs : List Happening) (until : ℕ) (d : DeviceId) (collections : History) (e : Entry) (k : ℕ) (a : Emitted)
    → slice_get (emissions_in collections e.gathering) k ≡ Some a
    → HasParts (OwesBehind s hs until d collections e k) (OwesBehind s hs until d collections e (k + 1)) (OwesHere s hs until d collections e k a)
has_parts s hs until d collections e k a is = grind (arith, cases_lt, slice_get, same_sent, further)

pub none_more : (r : Option ℕ) → earlier_of r None ≡ r
none_more None = refl
none_more (Some t) = refl

module _ (s : Scenario) (hs : List Happening) (until : ℕ) (d : DeviceId) (collections : History) (e : Entry) where
  -- the cluster is owed and not paid
  pub walk_unpaid : (k : ℕ) (a : Emitted) {time : ℕ} (r : Option ℕ)
      → slice_get (emissions_in collections e.gathering) k ≡ Some a → IsReach (s.reading d) (pos 0) a.at (pos time)
      → time ≤ until → time_at e.place ≤ time → Owes s hs d (sent_of a) time → (IsTold s hs d (sent_of a) → ⊥)
      → TellsFirstOf (OwesBehind s hs until d collections e (k + 1)) (IsTold s hs d) r
      → TellsFirstOf (OwesBehind s hs until d collections e k) (IsTold s hs d) (earlier_of r (Some time))
  walk_unpaid k a {time} r is reach timely begun owes unpaid told =
      first_of_both (OwesBehind s hs until d collections e k) (OwesBehind s hs until d collections e (k + 1))
      (OwesHere s hs until d collections e k a)
      (IsTold s hs d) r (Some time) (has_parts s hs until d collections e k a is) told
      (record {
        debt = sent_of a;
        owed = (
          refl,
          record { owed = record { owes = owes; timely = timely }; place = k; behind = omega arith; there = is; begun = begun },
        );
        unpaid = unpaid;
        first = λ other t o not.
            let there = subst (λ (x : Compressed). IsReach (s.reading d) (pos 0) x.at.0 (pos t)) o.0
            o.1.owed.owes.emits.reached in
            let same = one_reach (s.reading d) (pos 0) a.at time t reach there in
            omega (arith, same);
      })

  -- it is paid where it is owed
  pub walk_paid : (k : ℕ) (a : Emitted) (time : ℕ) (r : Option ℕ)
      → slice_get (emissions_in collections e.gathering) k ≡ Some a → IsReach (s.reading d) (pos 0) a.at (pos time)
      → (Owes s hs d (sent_of a) time → IsTold s hs d (sent_of a))
      → TellsFirstOf (OwesBehind s hs until d collections e (k + 1)) (IsTold s hs d) r
      → TellsFirstOf (OwesBehind s hs until d collections e k) (IsTold s hs d) r
  walk_paid k a time r is reach paid told =
      subst (TellsFirstOf (OwesBehind s hs until d collections e k) (IsTold s hs d)) (none_more r)
      (first_of_both (OwesBehind s hs until d collections e k) (OwesBehind s hs until d collections e (k + 1))
      (OwesHere s hs until d collections e k a)
      (IsTold s hs d) r None (has_parts s hs until d collections e k a is) told
      (λ sent t o.
      let owes = subst (λ x. Owes s hs d x t) o.0 o.1.owed.owes in
      let same = one_reach (s.reading d) (pos 0) a.at t time owes.emits.reached reach in
      subst (IsTold s hs d) (sym o.0) (paid (subst (Owes s hs d (sent_of a)) same owes))))

  -- its reading is not reached
  pub walk_unreached : (k : ℕ) (a : Emitted) (r : Option ℕ)
      → slice_get (emissions_in collections e.gathering) k ≡ Some a
      → ((x : ℕ) → 0 ≤ x → x ≤ until → pos (s.reading d x) <ℤ a.at)
      → TellsFirstOf (OwesBehind s hs until d collections e (k + 1)) (IsTold s hs d) r
      → TellsFirstOf (OwesBehind s hs until d collections e k) (IsTold s hs d) r
  walk_unreached k a r is low told =
      subst (TellsFirstOf (OwesBehind s hs until d collections e k) (IsTold s hs d)) (none_more r)
      (first_of_both (OwesBehind s hs until d collections e k) (OwesBehind s hs until d collections e (k + 1))
      (OwesHere s hs until d collections e k a)
      (IsTold s hs d) r None (has_parts s hs until d collections e k a is) told
      (first_of_none (OwesHere s hs until d collections e k a) (IsTold s hs d)
      (λ sent t o.
      let there = subst (λ (x : Compressed). IsReach (s.reading d) (pos 0) x.at.0 (pos t)) o.0
      o.1.owed.owes.emits.reached in
      let below = low t (omega arith) o.1.owed.timely in
      let reached = there.reached in
      absurd (omega (arith, ints, below, reached)))))

  -- where the cluster is owed before the entry's record, those before it are too
  pub walk_begun : {points : List Point} (k : ℕ) (a : Emitted) (time : ℕ) (r : Option ℕ) → pos 0 ≤ℤ collections.ow
      → Gathers collections e.gathering points → slice_get (emissions_in collections e.gathering) k ≡ Some a
      → IsReach (s.reading d) (pos 0) a.at (pos time) → time < time_at e.place
      → TellsFirstOf (OwesBehind s hs until d collections e (k + 1)) (IsTold s hs d) r
      → TellsFirstOf (OwesBehind s hs until d collections e 0) (IsTold s hs d) r
  walk_begun k a time r some gathers is reach early told =
      first_as (OwesBehind s hs until d collections e 0) (OwesBehind s hs until d collections e (k + 1))
      (IsTold s hs d) r
      (λ sent t o.
      elim (cases_lt k o.place) [
        | inl more ↦ record { owed = o.owed; place = o.place; behind = omega (arith, more); there = o.there; begun = o.begun }
        | inr less ↦
            let low = ascending o.place k (as_emitted sent) a some gathers less o.there is in
            absurd (later sent t o low)
      ])
      (λ sent t o. further 0 (omega arith) o) told
    where
      later : (sent : Compressed) (t : ℕ) → OwesBehind s hs until d collections e 0 sent t → sent.at.0 ≤ℤ a.at → ⊥
      later sent t o low =
          let there = o.owed.owes.emits.reached in
          let begun = o.begun in
          let before = there.not_before time (omega (arith, ints)) (omega (arith, ints, early, begun)) in
          let reached = reach.reached in
          omega (arith, ints, before, reached, low)

pub past : {X : Type 0} (xs : List X) (i : ℕ) (x : X) → length xs ≤ i → slice_get xs i ≡ Some x → ⊥
past [] i x le e = cc
past (y ∷ ys) zero x le e = omega (arith, le)
past (y ∷ ys) (suc i) x le e = past ys i x (omega (arith, le)) e

-- behind the last cluster nothing is owed
pub walk_none : (s : Scenario) (hs : List Happening) (until : ℕ) (d : DeviceId) (collections : History) (e : Entry) (k : ℕ)
    → length (emissions_in collections e.gathering) ≤ k → TellsFirstOf (OwesBehind s hs until d collections e k) (IsTold s hs d) None
walk_none s hs until d collections e k le =
    first_of_none (OwesBehind s hs until d collections e k) (IsTold s hs d)
    (λ sent t o.
    let behind = o.behind in
    past (emissions_in collections e.gathering) o.place (as_emitted sent) (omega (arith, le, behind)) o.there)
